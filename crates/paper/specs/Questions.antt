-- Document 01, 'Questions', on a store's cells: the walk of a voxel question, what a cell or box question finds, and where it meets damage.
-- Definitions only. K are the kept cells, list k those of height k + 2. The walks of a voxel and of a cell go down by coordinates, as the meaning of a
-- pointer does; a box's (document 02, request 1) by children's numbers, each cell seen under a mirror.
use Rattle.std.specs.Prelude.{Bool, true, false, cond, not, List, ℕ, zero, suc, ◌+◌, ◌-◌, ◌*◌, ◌^◌, eqb, leb, length, get_or, Result, Ok, Err}
use Rattle.std.specs.Int.Bits.{bit_xor}
use Rattle.paper.specs.Rooms.{Point, point, mirror, mirrored, in_child, cell_of, non_empty, box_count, has_voxel, is_whole, clipped}
use Rattle.paper.specs.Leaf.{leaf_voxel}
use Rattle.paper.specs.Outline.{edge}
use Rattle.paper.specs.Store.{Cell, cells_at, cell_at, leaf_no, tag_of, cell_no, bad_pointer, any_bad}
use Rattle.paper.specs.Meaning.{pointer_for, root_room}
use Rattle.paper.specs.Walk.{Child, none, to, Reading, Walk, root_walk}
use Rattle.paper.specs.declared.Damaged.{Damaged as Unsound}

-- ---- voxel: the walk to it

-- what a pointer leads to
abbrev pub child_for : ℕ → Child
child_for p = cond (eqb p 0) none (to (tag_of p) (cell_no p))

-- cells by number, without a test
abbrev pub graph_reading : List (List Cell) → Reading
graph_reading K = record { ok = λ k n. true; leaf = λ n. leaf_no (cell_at K 0 n); child = λ k n i. child_for (get_or (cell_at K (suc k) n) i 0) }

-- no pointer of cell n of list k is bad; a leaf has none
abbrev pub pointers_ok : List (List Cell) → ℕ → ℕ → Bool
pointers_ok K zero n = true
pointers_ok K (suc k) n = not (any_bad (length (cells_at K k)) (cell_at K (suc k) n))

-- kept cells: damaged where a cell entered has a bad pointer among its eight ('of a cell entered')
abbrev pub kept_reading : List (List Cell) → Reading
kept_reading K = record { ok = pointers_ok K; leaf = (graph_reading K).leaf; child = (graph_reading K).child }

-- from the root pointer p of a scene of depth D
unfoldable pub voxel_walk : List (List Cell) → ℕ → ℕ → Point → Walk
voxel_walk K D p v = root_walk (kept_reading K) D (child_for p) v

-- ---- one step down: the pointer taken from a cell of list k + 1 to voxel v; the cell that it names; v in that cell

abbrev pub taken : ℕ → Cell → Point → ℕ
taken k c v = pointer_for c (edge k) v

abbrev pub below : List (List Cell) → ℕ → ℕ → Cell
below K k p = cell_at K k (cell_no p)

abbrev pub in_below : ℕ → ℕ → Point → Point
in_below k p v = mirror (tag_of p) (edge k) (in_child (edge k) v)

-- ---- damage on the way to a cell

-- cell ('of a cell entered'): one of the cells entered has a bad pointer. Cells above list `stop` are entered: those above the one asked for
-- ('stops above')
unfoldable pub walk_damaged : List (List Cell) → ℕ → ℕ → Cell → Point → Bool
walk_damaged K stop zero c v = false
walk_damaged K stop (suc k) c v =
    let p : ℕ = taken k c v in
    let r : Bool = walk_damaged K stop k (below K k p) (in_below k p v) in
    let here : Bool = cond (any_bad (length (cells_at K k)) c) true (cond (eqb p 0) false r) in
    cond (leb (suc k) stop) false here

-- from the root of depth D: an absent root enters nothing
abbrev pub from_root : (ℕ → Cell → Point → Bool) → List (List Cell) → ℕ → ℕ → Point → Bool
from_root test K D p v = let r = test (D - 2) (below K (D - 2) p) (mirror (tag_of p) (2 ^ D) v) in cond (eqb p 0) false r

-- ---- the answers

-- the pointer of the cell of list `stop` that holds v, under pointer p of list k; 0 where a cell above it is absent
unfoldable pub pointer_to : List (List Cell) → ℕ → ℕ → ℕ → Point → ℕ
pointer_to K stop zero p v = p
pointer_to K stop (suc k) p v =
    let w : Point = mirror (tag_of p) (edge (suc k)) v in
    let r : ℕ = pointer_to K stop k (taken k (below K (suc k) p) w) (in_child (edge k) w) in
    cond (leb (suc k) stop) p (cond (eqb p 0) 0 r)

-- the low corner of the cell of height h at c
abbrev pub corner : ℕ → Point → Point
corner h c = point (c.x * 2 ^ h) (c.y * 2 ^ h) (c.z * 2 ^ h)

-- cell ('pointer or bits'): from height 2 up it is non-empty where there is a pointer to it, below that where the leaf has a solid voxel in it
unfoldable pub cell_non_empty : List (List Cell) → ℕ → ℕ → ℕ → Point → Bool
cell_non_empty K D p h c =
    let bits : Bool = non_empty (2 ^ h) (cell_of (root_room K D p) h c) in
    let named : Bool = not (eqb (pointer_to K (h - 2) (D - 2) p (corner h c)) 0) in
    cond (leb 2 h) named bits

abbrev pub cell_walk_damaged : List (List Cell) → ℕ → ℕ → ℕ → Point → Bool
cell_walk_damaged K D p h c = from_root (walk_damaged K (h - 2)) K D p (corner h c)

-- ---- box (document 02, request 1): the walk that takes counts. A cell is seen under a mirror, and the box lies in its cube as seen

-- what a walk over a box finds: so many solid voxels, or damage
pub data Tally : Type 0 where
  Solid : ℕ → Tally
  Damaged : Tally

-- so read from an answer
abbrev pub tally_of : Result ℕ Unsound → Tally
tally_of (Ok n) = Solid n
tally_of (Err e) = Damaged

-- two tallies added, and f 0, f 1 .. f (n - 1): damaged where one is
abbrev pub plus : Tally → Tally → Tally
plus Damaged t = Damaged
plus (Solid a) Damaged = Damaged
plus (Solid a) (Solid b) = Solid (a + b)

unfoldable pub total : ℕ → (ℕ → Tally) → Tally
total zero f = Solid 0
total (suc n) f = plus (total n f) (f n)

-- a count taken of a cell of list k ('over 8^h'): damaged where it is more than the cell has voxels
abbrev pub count_taken : ℕ → ℕ → Tally
count_taken k c = cond (leb c (8 ^ suc (suc k))) (Solid c) Damaged

-- what a pointer has of a box whose part in its cube is from low to high, `kept` cells being kept at the height pointed to, under mirror m. Where there is
-- no part ('share a voxel') the pointer is not looked at; a bad one is damage; else `go` says what its cell has, under its tag and m together
abbrev pub pointer_tally : (ℕ → ℕ → Point → Point → Tally) → ℕ → ℕ → ℕ → Point → Point → Tally
pointer_tally go kept p m low high =
    let there : Tally = go (cell_no p) (bit_xor (tag_of p) m) low high in
    let looked : Tally = cond (bad_pointer kept p) Damaged (cond (eqb p 0) (Solid 0) there) in
    cond (has_voxel low high) looked (Solid 0)

-- what cell n of list k, seen under mirror m, has of a box. A leaf is read. Any other cell that lies wholly inside (the box's part is the whole cell) gives its count (`count`, by list and
-- number) and is not entered ('without entering it'); else its children are added up, child i being that of pointer (i xor m) ('has as child i')
unfoldable pub cell_tally : List (List Cell) → (ℕ → ℕ → ℕ) → ℕ → ℕ → ℕ → Point → Point → Tally
cell_tally K count zero n m low high = Solid (box_count (edge 0) (mirrored m (edge 0) (leaf_voxel (leaf_no (cell_at K 0 n)))) low high)
cell_tally K count (suc k) n m low high =
    let child : ℕ → Tally = λ i.
    pointer_tally (λ q t a b. cell_tally K count k q t a b) (length (cells_at K k)) (get_or (cell_at K (suc k) n) (bit_xor i m) 0) m
    (clipped (edge k) i low) (clipped (edge k) i high) in
    cond (is_whole (edge (suc k)) low high) (count_taken (suc k) (count (suc k) n)) (total 8 child)

-- from the root pointer p of a scene of depth D
unfoldable pub box_tally : List (List Cell) → (ℕ → ℕ → ℕ) → ℕ → ℕ → Point → Point → Tally
box_tally K count D p low high = pointer_tally (cell_tally K count (D - 2)) (length (cells_at K (D - 2))) p 0 low high

-- what is read off a tally
abbrev pub tally_damaged : Tally → Bool
tally_damaged Damaged = true
tally_damaged (Solid n) = false

abbrev pub tally_solid : Tally → ℕ
tally_solid Damaged = 0
tally_solid (Solid n) = n
