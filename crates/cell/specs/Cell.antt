-- What a cell question reads off the end of its walk: from height 2 up the pointer at which it ends, below that the leaf's bits. Definitions only.
use Rattle.std.specs.Prelude.{◌≡◌, Bool, false, cond, not, ◌||◌, List, [], ◌∷◌, ℕ, ◌+◌, ◌-◌, ◌%◌, ◌^◌, eqb, leb}
use Rattle.paper.specs.Rooms.{Point, point, inside, non_empty}
use Rattle.paper.specs.Questions.{cell_walk_damaged, cell_non_empty}
use Rattle.paper.specs.Store.{Cell, cell_at, leaf_no}
use Rattle.paper.specs.Leaf.{leaf_voxel}
use Rattle.paper.specs.Numbers.{bit_for}
use Rattle.paper.specs.Answers.{Told, told}
use Rattle.store_entry.specs.Entry.{past_entry}
use Rattle.points.specs.Seeing.{seen_at}
use Rattle.walk.specs.Walk.{Ended, Absent, At, Damaged}

-- ---- where the walk ends: 2 for damage, 1 for non-empty, 0 for empty

-- at the cell's list
abbrev pub cell_end : Ended → ℕ
cell_end (Absent h) = 0
cell_end (At n m) = 1
cell_end Damaged = 2

-- the voxel u of the cell with low corner w, as a leaf seen under m has it
abbrev pub leaf_seen : ℕ → ℕ → Point → Point → Bool
leaf_seen leaf m w u = leaf_voxel leaf (seen_at 0 m (point (w.x + u.x) (w.y + u.y) (w.z + u.z)))

-- at the leaf of a cell of height 0 or 1 with low corner w
abbrev pub small_at : List (List Cell) → ℕ → Point → Ended → ℕ
small_at K h w (Absent g) = 0
small_at K h w (At n m) = bit_for (non_empty (2 ^ h) (leaf_seen (leaf_no (cell_at K 0 n)) m w))
small_at K h w Damaged = 2

-- the low corner of some cell of height h
pub record Aligned (h : ℕ) (w : Point) : Type 0 where
  pub on_x : w.x % 2 ^ h ≡ 0
  pub on_y : w.y % 2 ^ h ≡ 0
  pub on_z : w.z % 2 ^ h ≡ 0

-- such a number as an answer
abbrev pub told_by : ℕ → Told
told_by n = cond (eqb n 2) (told 2 (0 ∷ [])) (told 0 (n ∷ []))

-- ---- a cell question past the scene's tests: 1 for non-empty, 0 for empty

abbrev pub cell_out : ℕ → ℕ → Point → Bool
cell_out D h c = not (leb h D) || not (inside (2 ^ (D - h)) c)

abbrev pub cell_told : List (List Cell) → ℕ → ℕ → ℕ → Point → Told
cell_told K D p h c = past_entry (cell_out D h c) (cell_walk_damaged K D p h c) (bit_for (cell_non_empty K D p h c) ∷ [])

-- on a cell inside
abbrev pub cell_asked : List (List Cell) → ℕ → ℕ → ℕ → Point → Told
cell_asked K D p h c = past_entry false (cell_walk_damaged K D p h c) (bit_for (cell_non_empty K D p h c) ∷ [])
