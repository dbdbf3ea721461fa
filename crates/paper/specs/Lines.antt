-- Document 02, request 3 ('Sight lines'), without a store: which voxels the segment between two voxels' centres meets, and in which order; and the
-- list of those that are tested, which computes. Definitions only. That the list has just the voxels met but for the two ends, each once and
-- in their order, is claim C13.
use Rattle.std.specs.Prelude.{◌≡◌, Bool, cond, ◌&&◌, List, [], ◌∷◌, map, ℕ, zero, suc, ◌+◌, ◌-◌, ◌*◌, ◌<◌, ◌≤◌, eqb, leb, ltb}
use Rattle.std.proofs.Math.Option.{Option, some}
use Rattle.std.proofs.Math.Option as O
use Rattle.paper.specs.Rooms.{Point, point}

-- ---- what the segment meets ('whose interior the segment meets'), on the doubled grid: a centre's coordinates are odd, a voxel's faces even

-- q times the coordinate, on one axis, of the segment's point at p / q, from the centre of a (0) to that of b (1)
abbrev pub on_axis : ℕ → ℕ → ℕ → ℕ → ℕ
on_axis a b p q = (2 * a + 1) * (q - p) + (2 * b + 1) * p

-- strictly between the faces of voxel v on one axis, c being q times the coordinate
abbrev pub Within : ℕ → ℕ → ℕ → Type 0
Within v q c = (2 * v * q < c) × (c < (2 * v + 2) * q)

-- the point at p / q is one of the segment from a to b, and lies in the interior of v
pub record PointIn (a b v : Point) (p q : ℕ) : Type 0 where
  pub pos : 0 < q
  pub part : p ≤ q
  pub in_x : Within v.x q (on_axis a.x b.x p q)
  pub in_y : Within v.y q (on_axis a.y b.y p q)
  pub in_z : Within v.z q (on_axis a.z b.z p q)

pub record Meets (a b v : Point) : Type 0 where
  pub p : ℕ
  pub q : ℕ
  pub at : PointIn a b v p q

-- of two voxels met: every point in v comes before every point in w. (Of a voxel that isn't met it says nothing)
abbrev pub Before : Point → Point → Point → Point → Type 0
Before a b v w = (p q p' q' : ℕ) → PointIn a b v p q → PointIn a b w p' q' → p * q' < p' * q

-- met, 'the two end voxels left out'
pub record Between (a b v : Point) : Type 0 where
  pub met : Meets a b v
  pub not_start : ¬ (v ≡ a)
  pub not_end : ¬ (v ≡ b)

-- ---- steps: on each axis, how many faces have been crossed from the start; three such numbers stand in a Point

-- how many there are on one axis, and which voxel lies so many steps from a towards b
abbrev pub distance : ℕ → ℕ → ℕ
distance a b = b - a + (a - b)

abbrev pub along : ℕ → ℕ → ℕ → ℕ
along a b i = cond (leb a b) (a + i) (a - i)

-- the same on the three axes
abbrev pub distances : Point → Point → Point
distances a b = point (distance a.x b.x) (distance a.y b.y) (distance a.z b.z)

abbrev pub voxel_at : Point → Point → Point → Point
voxel_at a b s = point (along a.x b.x s.x) (along a.y b.y s.y) (along a.z b.z s.z)

-- After i steps on an axis of distance d the next crossing lies at (2 i + 1) / (2 d) of the segment: is it no later than the next after j steps of e.
-- (An axis with no crossing left counts as one that crosses past the segment's end.)
abbrev pub no_later : ℕ → ℕ → ℕ → ℕ → Bool
no_later i d j e = leb ((2 * i + 1) * e) ((2 * j + 1) * d)

-- one step more where a crossing is left that comes no later than those of the other two axes
abbrev pub stepped : ℕ → ℕ → ℕ → ℕ → ℕ → ℕ → ℕ
stepped i d j e k f = cond (ltb i d && no_later i d j e && no_later i d k f) (i + 1) i

-- the next steps: axes that cross at the same point step together ('a touch at an edge or corner')
unfoldable pub next_steps : Point → Point → Point
next_steps d s =
    point (stepped s.x d.x s.y d.y s.z d.z) (stepped s.y d.y s.x d.x s.z d.z)
    (stepped s.z d.z s.x d.x s.y d.y)

-- ---- the voxels tested ('testing each voxel in turn')

abbrev pub same_point : Point → Point → Bool
same_point s d = eqb s.x d.x && eqb s.y d.y && eqb s.z d.z

-- the steps s and those that follow, up to the end d and without it, at most n of them
unfoldable pub steps_from : ℕ → Point → Point → List Point
steps_from zero d s = []
steps_from (suc n) d s = let r = s ∷ steps_from n d (next_steps d s) in cond (same_point s d) [] r

-- all steps together: no line has more voxels between its ends
abbrev pub whole_of : Point → ℕ
whole_of d = d.x + d.y + d.z

-- 'the two end voxels left out': from the first steps after the start; none where the ends are the same or touch
unfoldable pub tested : Point → Point → List Point
tested a b = let d = distances a b in map (voxel_at a b) (steps_from (whole_of d) d (next_steps d (point 0 0 0)))

-- the first of a list that fails a test
unfoldable pub first_failing : {A : Type 0} → (A → Bool) → List A → Option A
first_failing p [] = O.none
first_failing p (x ∷ l) = let r = first_failing p l in cond (p x) r (some x)
