-- A cell's record in an outline by the store's pointers, as code writes it: a cell is known by its list and number and is seen under a mirror m.
-- Child i's pointer is number (i xor m), and its tag joins m. Definitions only.
use Rattle.std.specs.Prelude.{cond, not, List, [], ◌∷◌, ◌++◌, ℕ, zero, suc, ◌-◌, eqb, get_or}
use Rattle.std.specs.Int.Bits.{bit_xor}
use Rattle.paper.specs.Numbers.{bit_for, gather, bytes}
use Rattle.paper.specs.Leaf.{mirror_leaf}
use Rattle.paper.specs.Store.{Cell, cell_at, tag_of, cell_no, leaf_no}

-- the pointer of child i of a cell seen under m
abbrev pub pointer_at : Cell → ℕ → ℕ → ℕ
pointer_at c m i = get_or c (bit_xor i m) 0

-- which children a cell has, a bit for each ('a mask byte')
unfoldable pub mask_at : Cell → ℕ → ℕ
mask_at c m = gather 0 8 (λ i. bit_for (not (eqb (pointer_at c m i) 0)))

-- the record of what a pointer names, seen under m; `r` gives that of a cell by its number and mirror
abbrev pub part_at : (ℕ → ℕ → List ℕ) → ℕ → ℕ → List ℕ
part_at r m p = let b : List ℕ = r (cell_no p) (bit_xor (tag_of p) m) in cond (eqb p 0) [] b

-- the last `left` of the eight children, i rising
unfoldable pub children_at : (ℕ → ℕ → List ℕ) → Cell → ℕ → ℕ → List ℕ
children_at r c m zero = []
children_at r c m (suc left) = part_at r m (pointer_at c m (7 - left)) ++ children_at r c m left

-- the record of cell n of list k seen under m
unfoldable pub record_at : List (List Cell) → ℕ → ℕ → ℕ → List ℕ
record_at K zero n m = bytes 8 (mirror_leaf m (leaf_no (cell_at K 0 n)))
record_at K (suc k) n m = mask_at (cell_at K (suc k) n) m ∷ children_at (record_at K k) (cell_at K (suc k) n) m 8
