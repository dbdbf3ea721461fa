-- What a search asks and finds in a cell, by a box's first voxel and its last, and in a cell wholly inside. Definitions only.
use Rattle.std.specs.Prelude.{◌≡◌, Bool, cond, ◌&&◌, List, [], ◌∷◌, ℕ, ◌<◌, ◌≤◌, eqb, get_or}
use Rattle.std.specs.Int.Bits.{bit_xor}
use Rattle.paper.specs.Numbers.{any_below}
use Rattle.paper.specs.Rooms.{Point, in_child, origin, far, has_voxel, clipped}
use Rattle.paper.specs.Outline.{edge}
use Rattle.paper.specs.Store.{Cell, heights, kept_count, kept_of, cell_no, bad_pointer}
use Rattle.paper.specs.Answers.{Told, told}
use Rattle.paper.specs.Calls.{box_outside}
use Rattle.paper.specs.Anything.{further, in_order, pointer_search, cell_search, search_told, scene_search, any_damaged}
use Rattle.paper.specs.Anything.{Search}
use Rattle.paper.specs.Anything.{Met, Passed, Damaged}
use Rattle.store_entry.specs.Entry.{past_entry}
use Rattle.boxes_parts.specs.Parts.{past_in}

-- ---- leaves

-- a leaf with so many solid voxels in the box
abbrev pub leaf_search : ℕ → Search
leaf_search solid = cond (eqb solid 0) (Passed 1) (Met 1)

-- ---- cells

-- a cell of list k, by the box's first voxel and its last
abbrev pub search_part : List ℕ → ℕ → ℕ → ℕ → Point → Point → Search
search_part ws k n m low last = cell_search (kept_of ws) k n m (in_child (edge k) low) (past_in (edge k) last)

-- a cell wholly inside, and what searching it asks
abbrev pub whole_search : List ℕ → ℕ → ℕ → ℕ → Search
whole_search ws k n m = cell_search (kept_of ws) k n m origin (far (edge k))

pub record InWhole (ws : List ℕ) (k n m : ℕ) : Type 0 where
  pub listed : k < heights
  pub kept : n < kept_count ws k
  pub mirrors : m < 8

-- a child of cell c of list k + 1, seen under m, that shares a voxel with the box has a bad pointer, n cells being kept below
abbrev pub cell_bad : ℕ → ℕ → Cell → ℕ → Point → Point → Bool
cell_bad n k c m low high = any_below 8 (λ i. has_voxel (clipped (edge k) i low) (clipped (edge k) i high) && bad_pointer n (get_or c (bit_xor i m) 0))

-- the children of cell c of list k + 1, the cell itself counted
unfoldable pub children_search : List ℕ → ℕ → Cell → ℕ → Point → Point → Search
children_search ws k c m low high =
    further 1 (in_order 0 8 (λ i. pointer_search (λ q t a b. cell_search (kept_of ws) k q t a b) (get_or c (bit_xor i m) 0) m (clipped (edge k) i low) (clipped (edge k) i high)))

-- child l of cell c, seen under m, is there and names the cell that child i names
pub record Names (c : Cell) (m i l : ℕ) : Type 0 where
  pub there : get_or c (bit_xor l m) 0 ≡ 0 → ⊥
  pub same : cell_no (get_or c (bit_xor l m) 0) ≡ cell_no (get_or c (bit_xor i m) 0)

-- child j is the first that does, child i being there
pub record FirstNamed (c : Cell) (m i j : ℕ) : Type 0 where
  pub up_to : j ≤ i
  pub named : j < i → Names c m i j
  pub first : (l : ℕ) → l < j → Names c m i l → ⊥

-- ---- the call

-- a search as an answer's number and values
abbrev pub search_answer : Search → Told
search_answer (Met e) = told 0 (1 ∷ e ∷ [])
search_answer (Passed e) = told 0 (0 ∷ e ∷ [])
search_answer Damaged = told 2 (0 ∷ 0 ∷ [])

-- the question past the scene's tests
abbrev pub any_told : List ℕ → ℕ → Point → Point → Told
any_told ws n low high = past_entry (box_outside ws n low high) (any_damaged ws n low high) (search_told (scene_search ws n low high))
