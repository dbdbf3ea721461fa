-- A walk as code does it: coordinates are never reduced, and numbers are mirrored instead of cells. The eight pointers are looked at as stored;
-- the number of the child is mirrored by the mirror in force, and its tag joins that mirror. Definitions only.
use Rattle.std.specs.Prelude.{false, cond, not, List, [], ◌∷◌, ℕ, zero, suc, ◌^◌, ◌<◌, eqb, leb, length, get_or}
use Rattle.std.specs.Int.Bits.{bit_xor}
use Rattle.paper.specs.Rooms.{Point, inside}
use Rattle.paper.specs.Walk.{End, damaged, absent, in_leaf, is_damaged, solid_at, empty_height}
use Rattle.paper.specs.Questions.{voxel_walk}
use Rattle.paper.specs.Store.{Cell, cells_at, cell_at, tag_of, cell_no, leaf_no, any_bad}
use Rattle.paper.specs.Numbers.{bit_for}
use Rattle.paper.specs.Answers.{Told}
use Rattle.store_entry.specs.Entry.{past_entry}
use Rattle.points.specs.Seeing.{child_no_at, seen_at}

-- ---- the walk

-- how a walk from a cell down to a list ends: the child of this height is absent; this cell of the list asked for, seen under this mirror; a cell
-- entered has a bad pointer
pub data Ended : Type 0 where
  Absent : ℕ → Ended
  At : ℕ → ℕ → Ended
  Damaged : Ended

-- the pointer taken from cell c of list k + 1 seen under m
abbrev pub taken_from : ℕ → Cell → ℕ → Point → ℕ
taken_from k c m v = get_or c (bit_xor (child_no_at k v) m) 0

-- from cell n of list k, seen under m, down to list `stop` on the way to v: where it ends
unfoldable pub walk_to : List (List Cell) → ℕ → ℕ → ℕ → ℕ → Point → Ended
walk_to K stop zero n m v = At n m
walk_to K stop (suc k) n m v =
    let c : Cell = cell_at K (suc k) n in
    let p : ℕ = taken_from k c m v in
    let r : Ended = walk_to K stop k (cell_no p) (bit_xor (tag_of p) m) v in
    cond (leb (suc k) stop) (At n m) (cond (any_bad (length (cells_at K k)) c) Damaged (cond (eqb p 0) (Absent (suc (suc k))) r))

-- ---- what is read off where it ends

-- where a walk ends at a leaf, that leaf is kept, and its mirror is one
abbrev pub AtKept : List (List Cell) → Ended → Type 0
AtKept K (Absent h) = Unit {0}
AtKept K (At n m) = (n < length (cells_at K 0)) × (m < 8)
AtKept K Damaged = Unit {0}

-- the end of the walk by coordinates to v; At is a leaf
abbrev pub end_of : List (List Cell) → Point → Ended → End
end_of K v (Absent h) = absent h
end_of K v (At n m) = in_leaf (leaf_no (cell_at K 0 n)) (seen_at 0 m v)
end_of K v Damaged = damaged

-- a voxel question's values: 1 for solid, 0 for empty, then the height of the emptiness
abbrev pub voxel_values : End → List ℕ
voxel_values e = bit_for (solid_at e) ∷ empty_height e ∷ []

-- a voxel question told by that end
abbrev pub end_told : End → Told
end_told e = past_entry false (is_damaged e) (voxel_values e)

-- a voxel question past the scene's tests
abbrev pub voxel_told : List (List Cell) → ℕ → ℕ → Point → Told
voxel_told K D p v = let e : End = (voxel_walk K D p v).end in past_entry (not (inside (2 ^ D) v)) (is_damaged e) (voxel_values e)
