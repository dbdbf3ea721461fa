-- The length of a cell's record in an outline, by the store's pointers, and a length with a limit. Definitions only; that a record has so many bytes
-- under any mirror is a law.
use Rattle.std.specs.Prelude.{◌≡◌, cond, List, ℕ, zero, suc, ◌+◌, ◌<◌, ◌≤◌, Option, None, Some, T, eqb, get_or}
use Rattle.paper.specs.Store.{Cell, heights, kept_count, cell_at, cell_no, store_ok}

-- cell n of list k is kept in an undamaged store
pub record Kept (ws : List ℕ) (k n : ℕ) : Type 0 where
  pub whole : T (store_ok ws)
  pub list : k < heights
  pub number : n < kept_count ws k

-- a length within the limit is known, and of one that is longer only that
abbrev pub Within : ℕ → ℕ → Option ℕ → Type 0
Within limit n None = limit < n
Within limit n (Some m) = (m ≡ n) × (n ≤ limit)

-- the length of what a pointer stands for: nothing, or the record of the cell that it names
abbrev pub part_measure : (ℕ → ℕ) → ℕ → ℕ
part_measure f p = let n : ℕ = f (cell_no p) in cond (eqb p 0) 0 n

-- of the first `left` children
unfoldable pub children_measure : (ℕ → ℕ) → Cell → ℕ → ℕ
children_measure f c zero = 0
children_measure f c (suc left) = part_measure f (get_or c left 0) + children_measure f c left

-- of cell n of list k: a leaf's eight bytes, or a mask byte and the children's records
unfoldable pub measure_at : List (List Cell) → ℕ → ℕ → ℕ
measure_at K zero n = 8
measure_at K (suc k) n = suc (children_measure (measure_at K k) (cell_at K (suc k) n) 8)
