-- How many points of a box pass: by the voxels alone, by the eight children of the cube, in a mirrored cube, and when none, some or at most so
-- many do. By sums over the cube, each axis of the box cut to the child's half. Assumes nothing.
use mathlib.Core.Path.{◌≡◌, refl, sym, ◌∙◌, ap}
use mathlib.Core.Bool.{Bool, true, false, cond, ◌&&◌}
use Prim.Native.Nat.{ℕ, zero, suc, ◌+◌, ◌*◌, ◌/◌, ◌%◌, ◌<◌, ◌≤◌}
use native.Mathlib.Nat.{not-suc-le-zero}
use native.Mathlib.Omega.{arith}
use lib.Dec.{T, leb, ltb, leb→le, le→leb, ltb→lt, lt→ltb, lit<}
use borrow.Author.Tests.{lt-ltb, le-leb}
use Rattle.paper.specs.Numbers.{sum, bit_for}
use Rattle.paper.specs.Rooms.{Point, Room, Inside, child_room, mirrored, Same, in_box, sum3, box_count, clip, clipped, far, origin}
use Rattle.paper.specs.Leaf.{voxel_of}
use Rattle.laws.proofs.Tests.{iff-eq, and_left, and_right}
use Rattle.laws.proofs.Mirrors.{from_child}
use Rattle.laws.proofs.Sums.{sum_same, sum3-same, sum3-zero, sum3-most, sum3-pos, sum3-some, sum3-mirrored, sum3-leaf, sum3-children}

-- ---- one axis of a box

low-clip : (S b l c : ℕ) → c < S → leb l (b * S + c) ≡ leb (clip S b l) c
low-clip S b l c h = iff-eq (leb l (b * S + c)) (leb (clip S b l) c)
    (λ t. le→leb (clip S b l) c (omega (arith, leb→le l (b * S + c) t)))
    (λ t. le→leb l (b * S + c) (omega (arith, leb→le (clip S b l) c t)))

high-clip : (S b r c : ℕ) → c < S → ltb (b * S + c) r ≡ ltb c (clip S b r)
high-clip S b r c h = iff-eq (ltb (b * S + c) r) (ltb c (clip S b r))
    (λ t. lt→ltb c (clip S b r) (omega (arith, ltb→lt (b * S + c) r t)))
    (λ t. lt→ltb (b * S + c) r (omega (arith, ltb→lt c (clip S b r) t)))

-- a child's point lies in the box where it lies in the box cut to the child
in_box-clipped : (S i : ℕ) (low high u : Point) → Inside S u → in_box low high (from_child S i u) ≡ in_box (clipped S i low) (clipped S i high) u
in_box-clipped S i low high u l =
    λ j. low-clip S (i % 2) low.x u.x l.in_x j && high-clip S (i % 2) high.x u.x l.in_x j
    && low-clip S (i / 2 % 2) low.y u.y l.in_y j && high-clip S (i / 2 % 2) high.y u.y l.in_y j
    && low-clip S (i / 4 % 2) low.z u.z l.in_z j && high-clip S (i / 4 % 2) high.z u.z l.in_z j

-- ---- counts

-- the same voxels, the same count
pub box-same : (S : ℕ) (a b : Room) (low high : Point) → Same S a b → box_count S a low high ≡ box_count S b low high
unfolding box_count
box-same S a b low high e =
    sum3-same S (λ v. cond (in_box low high v) (bit_for (a v)) 0) (λ v. cond (in_box low high v) (bit_for (b v)) 0)
    (λ v l. ap (λ (x : Bool). cond (in_box low high v) (bit_for x) 0) (e v l))

-- a leaf's box, bit by bit
pub box-leaf : (r : Room) (low high : Point) → box_count 4 r low high ≡ sum 64 (λ j. cond (in_box low high (voxel_of j)) (bit_for (r (voxel_of j))) 0)
unfolding box_count
box-leaf r low high = sum3-leaf (λ v. cond (in_box low high v) (bit_for (r v)) 0)

-- a cube's box is its children's
pub box-children : (S : ℕ) (r : Room) (low high : Point)
    → box_count (2 * S) r low high ≡ sum 8 (λ i. box_count S (child_room S i r) (clipped S i low) (clipped S i high))
unfolding box_count
box-children S r low high =
    sum3-children S (λ v. cond (in_box low high v) (bit_for (r v)) 0)
    ∙ sum_same 8 (λ i. sum3 S (λ u. cond (in_box low high (from_child S i u)) (bit_for (r (from_child S i u))) 0))
    (λ i. sum3 S (λ u. cond (in_box (clipped S i low) (clipped S i high) u) (bit_for (r (from_child S i u))) 0))
    (λ i h. sum3-same S _ _ (λ u l. ap (λ (x : Bool). cond x (bit_for (r (from_child S i u))) 0) (in_box-clipped S i low high u l)))

-- none where no voxel of the cube passes
no-point : (b : Bool) → cond b (bit_for false) 0 ≡ 0
no-point true = refl
no-point false = refl

pub box-clear : (S : ℕ) (r : Room) (low high : Point) → ((v : Point) → Inside S v → r v ≡ false) → box_count S r low high ≡ 0
unfolding box_count
box-clear S r low high e =
    sum3-zero S (λ v. cond (in_box low high v) (bit_for (r v)) 0)
    (λ v l. ap (λ (x : Bool). cond (in_box low high v) (bit_for x) 0) (e v l) ∙ no-point (in_box low high v))

-- at most all points of the cube
pub bit-most : (a b : Bool) → cond a (bit_for b) 0 ≤ 1
bit-most true true = omega arith
bit-most true false = omega arith
bit-most false b = omega arith

pub box-most : (S : ℕ) (r : Room) (low high : Point) → box_count S r low high ≤ S * S * S
unfolding box_count
box-most S r low high = omega (arith, sum3-most S (λ v. cond (in_box low high v) (bit_for (r v)) 0) (λ v. bit-most (in_box low high v) (r v)))

-- ---- above 0 exactly where a point of the box passes

pub record Within (low high v : Point) : Type 0 where
  pub from_x : low.x ≤ v.x
  pub to_x : v.x < high.x
  pub from_y : low.y ≤ v.y
  pub to_y : v.y < high.y
  pub from_z : low.z ≤ v.z
  pub to_z : v.z < high.z

within-test : (low high v : Point) → Within low high v → in_box low high v ≡ true
within-test low high v w =
    simp (le-leb low.x v.x w.from_x, lt-ltb v.x high.x w.to_x, le-leb low.y v.y w.from_y, lt-ltb v.y high.y w.to_y, le-leb low.z v.z w.from_z, lt-ltb v.z high.z w.to_z)

test-within : (low high v : Point) → T (in_box low high v) → Within low high v
test-within low high v t =
    let a : Bool = leb low.x v.x in
    let b : Bool = ltb v.x high.x in
    let c : Bool = leb low.y v.y in
    let d : Bool = ltb v.y high.y in
    let e : Bool = leb low.z v.z in
    let f : Bool = ltb v.z high.z in
    let te : T (a && b && c && d && e) = and_left (a && b && c && d && e) f t in
    let td : T (a && b && c && d) = and_left (a && b && c && d) e te in
    let tc : T (a && b && c) = and_left (a && b && c) d td in
    let tb : T (a && b) = and_left (a && b) c tc in
    record {
      from_x = leb→le low.x v.x (and_left a b tb);
      to_x = ltb→lt v.x high.x (and_right a b tb);
      from_y = leb→le low.y v.y (and_right (a && b) c tc);
      to_y = ltb→lt v.y high.y (and_right (a && b && c) d td);
      from_z = leb→le low.z v.z (and_right (a && b && c && d) e te);
      to_z = ltb→lt v.z high.z (and_right (a && b && c && d && e) f t);
    }

pub box-pos : (S : ℕ) (r : Room) (low high v : Point) → Inside S v → Within low high v → r v ≡ true → 0 < box_count S r low high
unfolding box_count
box-pos S r low high v l w e =
    sum3-pos S (λ u. cond (in_box low high u) (bit_for (r u)) 0) v l (rw (within-test low high v w, e) (lit< tt))

passes : (a b : Bool) → 0 < cond a (bit_for b) 0 → T a × (b ≡ true)
passes true true h = (tt, refl)
passes true false h = absurd (not-suc-le-zero h)
passes false b h = absurd (not-suc-le-zero h)

pub box-some : (S : ℕ) (r : Room) (low high : Point) → 0 < box_count S r low high → (v : Point) × Inside S v × Within low high v × (r v ≡ true)
unfolding box_count
box-some S r low high p =
    let w : (v : Point) × Inside S v × (0 < cond (in_box low high v) (bit_for (r v)) 0) = sum3-some S (λ v. cond (in_box low high v) (bit_for (r v)) 0) p in
    let q : T (in_box low high w.0) × (r w.0 ≡ true) = passes (in_box low high w.0) (r w.0) w.2 in
    (w.0, w.1, test-within low high w.0 q.0, q.1)

-- none in a box without points, as where low is not below high on an axis
pub box-none : (S : ℕ) (r : Room) (low high : Point) → ((v : Point) → Within low high v → ⊥) → box_count S r low high ≡ 0
box-none S r low high e = go (box_count S r low high) refl
  where
    go : (n : ℕ) → box_count S r low high ≡ n → n ≡ 0
    go zero q = refl
    go (suc n) q = let w = box-some S r low high (rw q (omega arith)) in absurd (e w.0 w.2)

-- ---- the whole cube

whole-test : (S : ℕ) (v : Point) → Inside S v → in_box origin (far S) v ≡ true
whole-test S v l = within-test origin (far S) v (record { from_x = omega arith; to_x = l.in_x; from_y = omega arith; to_y = l.in_y; from_z = omega arith; to_z = l.in_z })

whole_sum : (S : ℕ) (r : Room) → box_count S r origin (far S) ≡ sum3 S (λ v. bit_for (r v))
unfolding box_count
whole_sum S r = sum3-same S _ _ (λ v l. ap (λ (b : Bool). cond b (bit_for (r v)) 0) (whole-test S v l))

-- mirrored, it has as many
pub box-mirrored : (t S : ℕ) (r : Room) → box_count S (mirrored t S r) origin (far S) ≡ box_count S r origin (far S)
box-mirrored t S r = whole_sum S (mirrored t S r) ∙ sum3-mirrored t S (λ v. bit_for (r v)) ∙ sym (whole_sum S r)
