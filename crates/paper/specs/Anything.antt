-- Document 02, request 5 ('Is anything in the way'): whether a box of a scene holds a solid voxel, with the number of cells entered: the search through
-- the cells, its refusals in their order, and its whole outcome. Definitions only. Stored counts are not used.
-- As for a box (Questions), a cell is seen under a mirror, and the box lies in its cube as seen.
use Rattle.std.specs.Prelude.{Bool, true, false, cond, ◌&&◌, List, [], ◌∷◌, ℕ, zero, suc, ◌+◌, ◌-◌, ◌*◌, ◌^◌, eqb, ltb, length, get_or, Result, Ok, Err}
use Rattle.std.specs.Int.Bits.{bit_xor}
use Rattle.paper.specs.Numbers.{any_below, sum, bit_for}
use Rattle.paper.specs.Rooms.{Point, Room, mirrored, cell_of, sum3, box_count, has_voxel, clipped, non_empty}
use Rattle.paper.specs.Leaf.{leaf_voxel}
use Rattle.paper.specs.Outline.{edge}
use Rattle.paper.specs.Store.{Cell, cells_at, cell_at, leaf_no, tag_of, cell_no, bad_pointer}
use Rattle.paper.specs.Answers.{Outcome}
use Rattle.paper.specs.Order.{first_number, settled}
use Rattle.paper.specs.Calls.{question_order, box_outside, of_scene}
use Rattle.paper.specs.declared.Searched.{Searched}
use Rattle.paper.specs.declared.Damaged.{Damaged as Unsound}

-- ---- searches one after another

-- what a search through a box finds: a solid voxel in the last of so many cells entered, none in so many, or damage
pub data Search : Type 0 where
  Met : ℕ → Search
  Passed : ℕ → Search
  Damaged : Search

-- so read from an answer
abbrev pub search_of : Result Searched Unsound → Search
search_of (Ok s) = cond s.found (Met s.entered) (Passed s.entered)
search_of (Err e) = Damaged

-- n cells were entered before it
abbrev pub further : ℕ → Search → Search
further n (Met e) = Met (n + e)
further n (Passed e) = Passed (n + e)
further n Damaged = Damaged

-- the first; where it met nothing ('until a leaf'), the second after it, cells added; damage ends it
abbrev pub or_else : Search → Search → Search
or_else (Met e) s = Met e
or_else (Passed e) s = further e s
or_else Damaged s = Damaged

-- f i, f (i + 1) .. , n of them ('by rising number'), up to the first that meets a voxel or damage
unfoldable pub in_order : ℕ → ℕ → (ℕ → Search) → Search
in_order i zero f = Passed 0
in_order i (suc n) f = or_else (f i) (in_order (suc i) n f)

-- ---- cells

-- child i of cell n of list k + 1 seen under mirror m: its pointer ('as the room shows them')
abbrev pub pointer_of : List (List Cell) → ℕ → ℕ → ℕ → ℕ → ℕ
pointer_of K k n m i = get_or (cell_at K (suc k) n) (bit_xor i m) 0

-- a child of it that shares a voxel with the box has a bad pointer ('for cells entered'): tested on entering, before any child is entered
abbrev pub shared_bad : List (List Cell) → ℕ → ℕ → ℕ → Point → Point → Bool
shared_bad K k n m low high =
    any_below 8 (λ i. has_voxel (clipped (edge k) i low) (clipped (edge k) i high) && bad_pointer (length (cells_at K k)) (pointer_of K k n m i))

-- what pointer p leads to, under mirror m; it is not bad: `shared_bad`, or the scene's test for the root, has seen to that. Nothing is entered where the box has no voxel there, or p is none; else `go` searches its cell, under p's tag
-- and m together
abbrev pub pointer_search : (ℕ → ℕ → Point → Point → Search) → ℕ → ℕ → Point → Point → Search
pointer_search go p m low high =
    let there : Search = go (cell_no p) (bit_xor (tag_of p) m) low high in
    cond (has_voxel low high) (cond (eqb p 0) (Passed 0) there) (Passed 0)

-- cell n of list k, seen under mirror m, entered: it counts, and a leaf meets a solid voxel of the box or none; any other is damaged where `shared_bad`, else its children are searched by
-- rising number as seen, each child's own children before the next
unfoldable pub cell_search : List (List Cell) → ℕ → ℕ → ℕ → Point → Point → Search
cell_search K zero n m low high = cond (ltb 0 (box_count (edge 0) (mirrored m (edge 0) (leaf_voxel (leaf_no (cell_at K 0 n)))) low high)) (Met 1) (Passed 1)
cell_search K (suc k) n m low high =
    let child : ℕ → Search = λ i.
    pointer_search (λ q t a b. cell_search K k q t a b) (pointer_of K k n m i) m (clipped (edge k) i low) (clipped (edge k) i high) in
    cond (shared_bad K k n m low high) Damaged (further 1 (in_order 0 8 child))

-- from the root pointer p of a scene of depth D
unfoldable pub box_search : List (List Cell) → ℕ → ℕ → Point → Point → Search
box_search K D p low high = pointer_search (cell_search K (D - 2)) p 0 low high

-- ---- what is read off it

abbrev pub search_damaged : Search → Bool
search_damaged (Met e) = false
search_damaged (Passed e) = false
search_damaged Damaged = true

-- 1 where a solid voxel was met, then the cells entered; zeros where damaged, as the refusal has
abbrev pub search_told : Search → List ℕ
search_told (Met e) = 1 ∷ e ∷ []
search_told (Passed e) = 0 ∷ e ∷ []
search_told Damaged = 0 ∷ 0 ∷ []

-- ---- the call

unfoldable pub scene_search : List ℕ → ℕ → Point → Point → Search
scene_search ws n low high = of_scene box_search ws n low high

unfoldable pub any_damaged : List ℕ → ℕ → Point → Point → Bool
any_damaged ws n low high = search_damaged (scene_search ws n low high)

-- the order is a box question's
unfoldable pub any_outcome : List ℕ → ℕ → Point → Point → Outcome
any_outcome ws n low high =
    settled (first_number (question_order ws n (box_outside ws n low high) (any_damaged ws n low high))) (search_told (scene_search ws n low high)) [] []

-- ---- the cells that it may enter, by the room's voxels

-- on one axis: the cell at c, of edge S, and the box from low to high overlap, low being below high
abbrev pub axis_shares : ℕ → ℕ → ℕ → ℕ → Bool
axis_shares S c low high = ltb low (c * S + S) && ltb (c * S) high

-- the cell of height h at c shares a voxel with the box
abbrev pub shares_voxel : ℕ → Point → Point → Point → Bool
shares_voxel h c low high =
    has_voxel low high && axis_shares (2 ^ h) c.x low.x high.x && axis_shares (2 ^ h) c.y low.y high.y
    && axis_shares (2 ^ h) c.z low.z high.z

-- how many non-empty cells of height h, in a room of depth D, share a voxel with the box
unfoldable pub sharing_at : ℕ → Room → Point → Point → ℕ → ℕ
sharing_at D r low high h = sum3 (2 ^ (D - h)) (λ c. bit_for (shares_voxel h c low high && non_empty (2 ^ h) (cell_of r h c)))

-- the same over all heights from 2 to D
unfoldable pub sharing : ℕ → Room → Point → Point → ℕ
sharing D r low high = sum (D - 1) (λ j. sharing_at D r low high (suc (suc j)))
