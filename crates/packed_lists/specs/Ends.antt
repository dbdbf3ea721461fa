-- Where a list of a packed file ends, and what a place of it counts; what is known of a file whose header is read. Definitions only.
use Rattle.std.specs.Prelude.{◌≡◌, false, cond, List, ℕ, zero, suc, ◌-◌, eqb, length, get_or}
use Rattle.paper.specs.Packed.{is_empty, start_at, starts_of}
use Rattle.packed_lists.specs.Header.{Opens}

-- the bytes that a place of list k counts: a leaf's eight, else a half-word
abbrev pub unit_at : ℕ → ℕ
unit_at zero = 8
unit_at (suc k) = 2

-- where list k ends
abbrev pub end_at : List ℕ → ℕ → ℕ
end_at bs zero = length bs
end_at bs (suc k) = start_at bs k

-- by the list starts and the file's length
abbrev pub end_in : List ℕ → ℕ → ℕ → ℕ
end_in starts n k = cond (eqb k 0) n (get_or starts (k - 1) 0)

-- the header is tested, the scene is not empty, and these are the list starts
pub record Listed (bs : List ℕ) (starts : List ℕ) : Type 0 where
  pub opens : Opens bs
  pub solid : is_empty bs ≡ false
  pub is : starts ≡ starts_of bs
