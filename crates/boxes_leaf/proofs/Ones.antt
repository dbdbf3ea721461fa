-- A leaf's solid voxels in a box are the ones under the box's mask. The mask is that of the box mirrored as the leaf is seen: a voxel passes it
-- where its image lies in the box. By sums over bits, and one computed test for an axis. Assumes nothing.
use mathlib.Core.Path.{◌≡◌, refl, sym, ap, ap₂, ◌∙◌}
use mathlib.Core.Bool.{Bool, true, false, cond, ◌&&◌, beq}
use Prim.Native.Nat.{ℕ, ◌+◌, ◌-◌, ◌/◌, ◌%◌, ◌^◌, ◌<◌}
use native.Mathlib.Nat.{lt_of_le_of_lt}
use native.Mathlib.Omega.{arith}
use lib.Bits.{bit_and, and_le_l}
use lib.Count.{ones}
use lib.Dec.{T, leb, ltb}
use Rattle.paper.specs.Numbers.{sum, all_below, bit, bit_for}
use Rattle.paper.specs.Rooms.{Point, Room, Inside, flip, mark_x, mark_y, mark_z, mirror, mirrored, in_child, in_box, box_count}
use Rattle.paper.specs.Leaf.{voxel_of, leaf_voxel}
use Rattle.laws.proofs.Mirrors.{mirror-twice}
use Rattle.laws.proofs.Sums.{sum_same, sum3-same, sum3-mirrored, sum3-leaf}
use Rattle.laws.proofs.Tests.{beq-eq, all-at, all-at2}
use Rattle.laws.proofs.Counts.{voxel-bit}
use Rattle.leaf.proofs.Moving.{bit-and}
use Rattle.leaf.proofs.Ones.{all_ones}
use Rattle.boxes_parts.specs.Parts.{chosen, past_in}
use Rattle.boxes_leaf.specs.LeafBox.{Marks, in_side, in_sides, behind_in}

-- ---- a box of a leaf seen under a mirror

-- as many as lie in the mirrored box
box-moved : (m : ℕ) (r : Room) (low high : Point) → box_count 4 (mirrored m 4 r) low high ≡ sum 64 (λ j. cond (in_box low high (mirror m 4 (voxel_of j))) (bit_for (r (voxel_of j))) 0)
unfolding box_count
box-moved m r low high =
    let f : Point → ℕ = λ v. cond (in_box low high (mirror m 4 v)) (bit_for (r v)) 0 in
    sum3-same 4 (λ v. cond (in_box low high v) (bit_for (r (mirror m 4 v))) 0) (λ v. f (mirror m 4 v))
    (λ v l. ap (λ (u : Point). cond (in_box low high u) (bit_for (r (mirror m 4 v))) 0) (sym (mirror-twice m 4 v l)))
    ∙ sum3-mirrored m 4 f ∙ sum3-leaf f

-- what the mask leaves of a bit
masked-bit : (leaf mask : ℕ) (p : ℕ → Bool) → Marks mask p → (j : ℕ) → j < 64 → bit (bit_and leaf mask) j ≡ cond (p j) (bit_for (leaf_voxel leaf (voxel_of j))) 0
masked-bit leaf mask p e j h = bit-and leaf mask j ∙ ap₂ bit_and (voxel-bit leaf j h) (e j h) ∙ left (leaf_voxel leaf (voxel_of j)) (p j)
  where
    left : (a b : Bool) → bit_and (bit_for a) (bit_for b) ≡ cond b (bit_for a) 0
    left true true = refl
    left true false = refl
    left false true = refl
    left false false = refl

-- ---- an axis: the coordinates between the ends, and those whose images are

ends : Bool → ℕ → ℕ → ℕ → Bool
ends b low last c = beq (in_side (cond b (3 - last) low) (cond b low (3 - last)) c) (leb low (flip b 4 c) && ltb (flip b 4 c) (last + 1))

all-ends : (b : Bool) → T (all_below 4 (λ low. all_below 4 (λ last. all_below 4 (λ c. ends b low last c))))
unfolding ends
all-ends true = tt
all-ends false = tt

side-seen : (b : Bool) (low last c : ℕ) → low < 4 → last < 4 → c < 4
    → in_side (cond b (3 - last) low) (cond b low (3 - last)) c ≡ leb low (flip b 4 c) && ltb (flip b 4 c) (last + 1)
unfolding ends
side-seen b low last c h l k =
    beq-eq _ _ (all-at 4 (ends b low last) (all-at2 4 4 (λ x y. all_below 4 (ends b x y)) (all-ends b) low last h l) c k)

-- an axis after the other
and6 : (a b c d e f : Bool) {p q r : Bool} → p ≡ a && b → q ≡ c && d → r ≡ e && f → p && q && r ≡ a && b && c && d && e && f
and6 a b c d e f x y z = ap₂ (λ (s t : Bool). s && t) (ap₂ (λ (s t : Bool). s && t) x y) z ∙ regroup a b c d e f
  where
    regroup : (a b c d e f : Bool) → (a && b) && (c && d) && (e && f) ≡ a && b && c && d && e && f
    regroup true true true true e f = refl
    regroup true true true false e f = refl
    regroup true true false d e f = refl
    regroup true false c d e f = refl
    regroup false b c d e f = refl

module _ (m : ℕ) (low last : Point) where
  -- the ends that the mask is made of
  abbrev pub start_seen : Point
  start_seen = chosen m (in_child 4 low) (behind_in last)

  abbrev pub end_seen : Point
  end_seen = chosen m (behind_in last) (in_child 4 low)

  -- a bit passes them where its image lies in the box
  sides-seen : (j : ℕ) → j < 64 → in_sides start_seen end_seen j ≡ in_box (in_child 4 low) (past_in 4 last) (mirror m 4 (voxel_of j))
  sides-seen j h =
      let v : Point = mirror m 4 (voxel_of j) in
      and6 (leb (low.x % 4) v.x) (ltb v.x (last.x % 4 + 1)) (leb (low.y % 4) v.y) (ltb v.y (last.y % 4 + 1)) (leb (low.z % 4) v.z) (ltb v.z (last.z % 4 + 1))
      (side-seen (mark_x m) (low.x % 4) (last.x % 4) (j % 4) (omega arith) (omega arith) (omega arith))
      (side-seen (mark_y m) (low.y % 4) (last.y % 4) (j / 4 % 4) (omega arith) (omega arith) (omega arith))
      (side-seen (mark_z m) (low.z % 4) (last.z % 4) (j / 16) (omega arith) (omega arith) (omega arith))

  pub box-ones : (leaf mask : ℕ) → leaf < 2 ^ 64 → Marks mask (in_sides start_seen end_seen)
      → ones (bit_and leaf mask) ≡ box_count 4 (mirrored m 4 (leaf_voxel leaf)) (in_child 4 low) (past_in 4 last)
  box-ones leaf mask h e =
      all_ones (bit_and leaf mask) (lt_of_le_of_lt (and_le_l leaf mask) h)
      ∙ sum_same 64 (bit (bit_and leaf mask)) (λ j. cond (in_box (in_child 4 low) (past_in 4 last) (mirror m 4 (voxel_of j))) (bit_for (leaf_voxel leaf (voxel_of j))) 0)
      (λ j l. masked-bit leaf mask (in_sides start_seen end_seen) e j l ∙ ap (λ (b : Bool). cond b (bit_for (leaf_voxel leaf (voxel_of j))) 0) (sides-seen j l))
      ∙ sym (box-moved m (leaf_voxel leaf) (in_child 4 low) (past_in 4 last))

  -- they lie in a leaf
  ends-in : Inside 4 (in_child 4 low) × Inside 4 (behind_in last)
  ends-in =
      (record { in_x = omega arith; in_y = omega arith; in_z = omega arith }, record { in_x = omega arith; in_y = omega arith; in_z = omega arith })

chosen-in : (m : ℕ) (a b : Point) → Inside 4 a → Inside 4 b → Inside 4 (chosen m a b)
chosen-in m a b h l =
    record { in_x = one (mark_x m) h.in_x l.in_x; in_y = one (mark_y m) h.in_y l.in_y; in_z = one (mark_z m) h.in_z l.in_z }
  where
    one : (t : Bool) {p q : ℕ} → p < 4 → q < 4 → cond t q p < 4
    one true x y = y
    one false x y = x

pub seen-in : (m : ℕ) (low last : Point) → Inside 4 (start_seen m low last) × Inside 4 (end_seen m low last)
seen-in m low last =
    let e : Inside 4 (in_child 4 low) × Inside 4 (behind_in last) = ends-in m low last in
    (chosen-in m (in_child 4 low) (behind_in last) e.0 e.1, chosen-in m (behind_in last) (in_child 4 low) e.1 e.0)
