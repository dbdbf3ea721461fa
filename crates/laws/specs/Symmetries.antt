-- The symmetry of a cell: bit t is set where the cell matches itself under t; and matching by the symmetries of the children. Definitions only.
use Rattle.std.specs.Prelude.{◌≡◌, Bool, List, ℕ, ◌<◌, eqb, get_or}
use Rattle.std.specs.Int.Bits.{bit_xor}
use Rattle.paper.specs.Numbers.{all_below, bit, bit_for, gather}
use Rattle.paper.specs.Store.{Cell, cell_at, cell_no}
use Rattle.paper.specs.Match.{pointer_match, matches}

-- 8 bits, bit t the test at t
unfoldable pub symmetry_for : (ℕ → Bool) → ℕ
symmetry_for p = gather 0 8 (λ t. bit_for (p t))

-- bit t of a symmetry, as a test
abbrev pub marked : ℕ → ℕ → Bool
marked m t = eqb (bit m t) 1

-- the mirrors under which a cell of list k matches itself
abbrev pub symmetry_of : List (List Cell) → ℕ → Cell → ℕ
symmetry_of K k c = symmetry_for (matches K k c c)

-- cell a matches b under t, ms being the symmetries of the cells that a's eight pointers name
unfoldable pub symmetry_match : List ℕ → Cell → Cell → ℕ → Bool
symmetry_match ms a b t = all_below 8 (λ i. pointer_match (λ q u. marked (get_or ms i 0) u) t (get_or a i 0) (get_or b (bit_xor i t) 0))

-- ms has the symmetries of a's children; nothing is asked where there is none
abbrev pub ChildSymmetries : List (List Cell) → ℕ → Cell → List ℕ → Type 0
ChildSymmetries K k a ms = (i : ℕ) → i < 8 → (get_or a i 0 ≡ 0 → ⊥) → get_or ms i 0 ≡ symmetry_of K k (cell_at K k (cell_no (get_or a i 0)))
