-- A box by its two corners: one that lies not outside ends inside the room; and one that has a voxel and ends in a cube runs from its first voxel to its
-- last there, which are their own remainders by the cube's edge. One axis at a time. Assumes nothing.
use mathlib.Core.Path.{◌≡◌, refl, ap, ◌∙◌, subst, subst⁻¹}
use mathlib.Core.Bool.{Bool, true, false, ◌&&◌, ◌||◌}
use Prim.Native.Nat.{ℕ, suc, ◌+◌, ◌-◌, ◌^◌, ◌%◌, ◌<◌, ◌≤◌}
use native.Mathlib.Nat.{mod-eq_of_lt}
use native.Mathlib.Omega.{arith}
use lib.Dec.{T, ltb, ltb→lt}
use borrow.Author.Tests.{ltb-false}
use Rattle.paper.specs.Rooms.{Point, point, in_child, has_voxel}
use Rattle.paper.specs.Outline.{edge}
use Rattle.paper.specs.Calls.{axis_outside}
use Rattle.laws.proofs.Tests.{true-T, and_left, and_right}
use Rattle.points.specs.Points.{at}
use Rattle.boxes_parts.specs.declared.Part.{Part}
use Rattle.boxes_parts.specs.Parts.{BoxPart, InCell, past_in, Positive, last_of, Upto, Spans}

-- ---- a box that lies not outside a room of edge S

side-within : (S low high : ℕ) → axis_outside S low high ≡ false → high ≤ S
side-within S low high e = ltb-false S high (right (ltb high low) (ltb S high) e)
  where
    right : (a b : Bool) → (a || b) ≡ false → b ≡ false
    right true b e = absurd (subst T e tt)
    right false b e = e

-- none of three
neither : (a b c : Bool) → (a || b || c) ≡ false → (a ≡ false) × (b ≡ false) × (c ≡ false)
neither true b c e = absurd (subst T e tt)
neither false true c e = absurd (subst T e tt)
neither false false c e = (refl, refl, e)

pub box-within : (S : ℕ) (low high : Point) → (axis_outside S low.x high.x || axis_outside S low.y high.y || axis_outside S low.z high.z) ≡ false → Upto S high
box-within S low high e =
    let p = neither (axis_outside S low.x high.x) (axis_outside S low.y high.y) (axis_outside S low.z high.z) e in
    record { upto_x = side-within S low.x high.x p.0; upto_y = side-within S low.y high.y p.1; upto_z = side-within S low.z high.z p.2 }

-- ---- a box with a voxel

module _ (low high : Point) (e : has_voxel low high ≡ true) where
  abbrev on_x : Bool
  on_x = ltb low.x high.x

  abbrev on_y : Bool
  on_y = ltb low.y high.y

  abbrev on_z : Bool
  on_z = ltb low.z high.z

  -- low lies before high
  before-x : low.x < high.x
  before-x = ltb→lt low.x high.x (and_left on_x on_y (and_left (on_x && on_y) on_z (true-T e)))

  before-y : low.y < high.y
  before-y = ltb→lt low.y high.y (and_right on_x on_y (and_left (on_x && on_y) on_z (true-T e)))

  before-z : low.z < high.z
  before-z = ltb→lt low.z high.z (and_right (on_x && on_y) on_z (true-T e))

  pub high-positive : Positive high
  high-positive = record { pos_x = omega (arith, before-x); pos_y = omega (arith, before-y); pos_z = omega (arith, before-z) }

  -- in a cube of edge S
  module _ (S : ℕ) (u : Upto S high) where
    stays : (a b : ℕ) → a < b → b ≤ S → a % S ≡ a
    stays a b l h = mod-eq_of_lt (omega arith)

    ends : (a b : ℕ) → a < b → b ≤ S → (b - 1) % S + 1 ≡ b
    ends a b l h = let r : (b - 1) % S ≡ b - 1 = mod-eq_of_lt (omega arith) in omega arith

    pub first-stays : in_child S low ≡ low
    first-stays = λ i. point (stays low.x high.x before-x u.upto_x i) (stays low.y high.y before-y u.upto_y i) (stays low.z high.z before-z u.upto_z i)

    pub last-ends : past_in S (last_of high) ≡ high
    last-ends = λ i. point (ends low.x high.x before-x u.upto_x i) (ends low.y high.y before-y u.upto_y i) (ends low.z high.z before-z u.upto_z i)

    spans : (a b : ℕ) → a < b → b ≤ S → a % S ≤ (b - 1) % S
    spans a b l h = omega (arith, stays a b l h, ends a b l h)

    pub box-spans : Spans S low (last_of high)
    box-spans =
        record {
          span_x = spans low.x high.x before-x u.upto_x;
          span_y = spans low.y high.y before-y u.upto_y;
          span_z = spans low.z high.z before-z u.upto_z;
        }

-- such a box as a part, in a room of depth D, whose root is seen under mirror m
module _ (D m : ℕ) (least : 2 ≤ D) (most : D ≤ 16) (below : m < 8) (low high : Point) (part : Part) (box : BoxPart low high part) (u : Upto (2 ^ D) high) where
  upto : Upto (edge (D - 2)) high
  upto = let d : suc (suc (D - 2)) ≡ D = omega (arith, least) in subst⁻¹ (λ (h : ℕ). Upto (2 ^ h) high) d u

  pub room-in : InCell (D - 2) m (at part.low) (at part.last)
  room-in =
      subst⁻¹ (λ (v : Point). InCell (D - 2) m v (at part.last)) box.first
      (subst⁻¹ (InCell (D - 2) m low) box.last (record { listed = omega (arith, least, most); mirrors = below; spans = box-spans low high box.voxel (edge (D - 2)) upto }))

  pub room-low : in_child (edge (D - 2)) (at part.low) ≡ low
  room-low = ap (in_child (edge (D - 2))) box.first ∙ first-stays low high box.voxel (edge (D - 2)) upto

  pub room-high : past_in (edge (D - 2)) (at part.last) ≡ high
  room-high = ap (past_in (edge (D - 2))) box.last ∙ last-ends low high box.voxel (edge (D - 2)) upto
