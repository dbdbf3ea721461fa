-- A box by two corners, and by its first voxel and its last, whose coordinates are never reduced: its part in a cell, whether it is all of the cell,
-- and which children it shares a voxel with. Definitions only.
use Rattle.std.specs.Prelude.{◌≡◌, Bool, true, false, cond, not, ◌&&◌, ℕ, suc, ◌+◌, ◌-◌, ◌/◌, ◌%◌, ◌<◌, ◌≤◌, eqb, leb}
use Rattle.paper.specs.Rooms.{Point, point, mark_x, mark_y, mark_z, in_child, clipped, has_voxel}
use Rattle.paper.specs.Outline.{edge}
use Rattle.paper.specs.Store.{heights}
use Rattle.points.specs.Points.{at}
use Rattle.points.specs.Seeing.{child_no_at}
use Rattle.boxes_parts.specs.declared.Part.{Part}

-- ---- by its corners

-- where a box has a voxel its high corner lies above 0 on each axis; its last voxel
pub record Positive (high : Point) : Type 0 where
  pub pos_x : 0 < high.x
  pub pos_y : 0 < high.y
  pub pos_z : 0 < high.z

abbrev pub last_of : Point → Point
last_of high = point (high.x - 1) (high.y - 1) (high.z - 1)

-- it ends in a cube of edge S
pub record Upto (S : ℕ) (high : Point) : Type 0 where
  pub upto_x : high.x ≤ S
  pub upto_y : high.y ≤ S
  pub upto_z : high.z ≤ S

-- a box with a voxel, as a part
pub record BoxPart (low high : Point) (part : Part) : Type 0 where
  pub voxel : has_voxel low high ≡ true
  pub first : at part.low ≡ low
  pub last : at part.last ≡ last_of high

-- ---- by its first voxel and its last, in a cell

-- past v, as it lies in its cell of edge S: the high corner of a box that v ends
abbrev pub past_in : ℕ → Point → Point
past_in S v = point (v.x % S + 1) (v.y % S + 1) (v.z % S + 1)

-- from the first to the last, as they lie in their cells of edge S
pub record Spans (S : ℕ) (low last : Point) : Type 0 where
  pub span_x : low.x % S ≤ last.x % S
  pub span_y : low.y % S ≤ last.y % S
  pub span_z : low.z % S ≤ last.z % S

-- child i's half lies between those of children f and l, on each axis
abbrev pub shares_in : ℕ → ℕ → ℕ → Bool
shares_in f l i =
    (leb (f % 2) (i % 2) && leb (i % 2) (l % 2)) && (leb (f / 2 % 2) (i / 2 % 2) && leb (i / 2 % 2) (l / 2 % 2))
    && (leb (f / 4 % 2) (i / 4 % 2) && leb (i / 4 % 2) (l / 4 % 2))

-- the first and the last lie in two children, or the cell is a leaf
abbrev pub spreads_over : ℕ → Point → Point → Bool
spreads_over k low last = cond (eqb k 0) true (not (eqb (child_no_at (k - 1) low) (child_no_at (k - 1) last)))

-- on the axes that m marks b's coordinate, on the others a's
abbrev pub chosen : ℕ → Point → Point → Point
chosen m a b = point (cond (mark_x m) b.x a.x) (cond (mark_y m) b.y a.y) (cond (mark_z m) b.z a.z)

-- ---- a cell of list k, seen under mirror m

-- what looking for the box's voxels in it asks
pub record InCell (k m : ℕ) (low last : Point) : Type 0 where
  pub listed : k < heights
  pub mirrors : m < 8
  pub spans : Spans (edge k) low last

-- ---- child i, of list k, of a cell in which the box goes from low to last

-- the box cut to the child: it begins and ends there
abbrev pub low_cut : ℕ → ℕ → Point → Point
low_cut k i low = clipped (edge k) i (in_child (edge (suc k)) low)

abbrev pub high_cut : ℕ → ℕ → Point → Point
high_cut k i last = clipped (edge k) i (past_in (edge (suc k)) last)

-- it has no voxel there
abbrev pub NoPart : ℕ → ℕ → Point → Point → Type 0
NoPart k i low last = has_voxel (low_cut k i low) (high_cut k i last) ≡ false

-- it is this part there
pub record ChildPart (k i : ℕ) (low last : Point) (part : Part) : Type 0 where
  pub begins : low_cut k i low ≡ in_child (edge k) (at part.low)
  pub ends : high_cut k i last ≡ past_in (edge k) (at part.last)
  pub spans : Spans (edge (suc k)) low last → Spans (edge k) (at part.low) (at part.last)
