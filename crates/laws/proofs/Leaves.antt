-- A leaf is its 64 voxels: `leaf_of` and `leaf_voxel` undo each other, two leaves with the same voxels are equal, and a mirrored leaf is
-- mirrored by voxels. By the bits of a number gathered from its bits. Assumes nothing.
use mathlib.Core.Path.{◌≡◌, refl, sym, ◌∙◌, ap}
use mathlib.Core.Bool.{false, false≢true}
use Prim.Native.Nat.{ℕ, zero, suc, ◌/◌, ◌%◌, ◌<◌, ◌^◌, zero-le, suc-le-suc}
use native.Mathlib.Nat.{zero-div}
use native.Mathlib.Omega.{arith}
use lib.Bits.{bit_xor, xor_comm}
use lib.Dec.{eqb}
use Rattle.paper.specs.Numbers.{bit}
use Rattle.paper.specs.Rooms.{Point, point, Room, Inside, mirror, mirrored, Same, NonEmpty}
use Rattle.paper.specs.Leaf.{bit_of, voxel_of, leaf_voxel, leaf_of, mirror_leaf}
use Rattle.laws.proofs.Bits.{some-bit, tests-bit, tests-lt, tests-ext}
use Rattle.laws.proofs.Mirrors.{mirror-mirror, same-mirrored}

-- ---- a voxel and its bit

pub bit_of-lt : (v : Point) → Inside 4 v → bit_of v < 64
bit_of-lt v h = omega arith

pub voxel_of-bit_of : (v : Point) → Inside 4 v → voxel_of (bit_of v) ≡ v
voxel_of-bit_of v h = λ i. point
    ((let e : bit_of v % 4 ≡ v.x = omega arith in e) i)
    ((let e : bit_of v / 4 % 4 ≡ v.y = omega arith in e) i)
    ((let e : bit_of v / 16 ≡ v.z = omega arith in e) i)

pub bit_of-voxel_of : (k : ℕ) → k < 64 → bit_of (voxel_of k) ≡ k
bit_of-voxel_of k h = omega arith

pub voxel_of-inside : (k : ℕ) → k < 64 → Inside 4 (voxel_of k)
voxel_of-inside k h = record { in_x = omega arith; in_y = omega arith; in_z = omega arith }

leaf-bit : (n k : ℕ) → k < 64 → leaf_voxel n (voxel_of k) ≡ eqb (bit n k) 1
leaf-bit n k h = ap (λ (m : ℕ). eqb (bit n m) 1) (bit_of-voxel_of k h)

-- ---- leaves and their voxels

-- two leaves with the same voxels are equal
pub leaf-ext : (n m : ℕ) → n < 2 ^ 64 → m < 2 ^ 64 → Same 4 (leaf_voxel n) (leaf_voxel m) → n ≡ m
leaf-ext n m hn hm e = tests-ext 64 n m hn hm (λ k h. sym (leaf-bit n k h) ∙ e (voxel_of k) (voxel_of-inside k h) ∙ leaf-bit m k h)

pub leaf_of-lt : (r : Room) → leaf_of r < 2 ^ 64
unfolding leaf_of
leaf_of-lt r = tests-lt (λ k. r (voxel_of k)) 64

-- the voxels of the leaf of a room are the room's
pub leaf_of-voxels : (r : Room) → Same 4 (leaf_voxel (leaf_of r)) r
unfolding leaf_of
leaf_of-voxels r v h = tests-bit (λ k. r (voxel_of k)) 64 (bit_of v) (bit_of-lt v h) ∙ ap r (voxel_of-bit_of v h)

-- the leaf of a leaf's voxels is that leaf
pub leaf_of-leaf_voxel : (n : ℕ) → n < 2 ^ 64 → leaf_of (leaf_voxel n) ≡ n
leaf_of-leaf_voxel n h = leaf-ext (leaf_of (leaf_voxel n)) n (leaf_of-lt (leaf_voxel n)) h (leaf_of-voxels (leaf_voxel n))

pub leaf_of-same : (a b : Room) → Same 4 a b → leaf_of a ≡ leaf_of b
leaf_of-same a b e =
    leaf-ext (leaf_of a) (leaf_of b) (leaf_of-lt a) (leaf_of-lt b) (λ v l. leaf_of-voxels a v l ∙ e v l ∙ sym (leaf_of-voxels b v l))

-- a leaf that is not 0 has a voxel, and the leaf of a room with a voxel is not 0
pub leaf_solid_lem : (n : ℕ) → n < 2 ^ 64 → 0 < n → NonEmpty 4 (leaf_voxel n)
leaf_solid_lem n h p =
    let r : (k : ℕ) × (k < 64) × (bit n k ≡ 1) = some-bit 64 n h p in
    (voxel_of r.0, voxel_of-inside r.0 r.1, leaf-bit n r.0 r.1 ∙ ap (λ (m : ℕ). eqb m 1) r.2)

leaf-zero : (v : Point) → leaf_voxel 0 v ≡ false
leaf-zero v = ap (λ (x : ℕ). eqb (x % 2) 1) (zero-div (2 ^ bit_of v))

pub leaf_of-solid : (r : Room) → NonEmpty 4 r → 0 < leaf_of r
leaf_of-solid r (v, l, e) = go (leaf_of r) refl
  where
    go : (n : ℕ) → leaf_of r ≡ n → 0 < n
    go zero q = absurd (false≢true (sym (leaf-zero v) ∙ ap (λ (n : ℕ). leaf_voxel n v) (sym q) ∙ leaf_of-voxels r v l ∙ e))
    go (suc n) q = suc-le-suc zero-le

-- ---- mirrored leaves

pub mirror_leaf-lt : (t n : ℕ) → mirror_leaf t n < 2 ^ 64
unfolding mirror_leaf
mirror_leaf-lt t n = leaf_of-lt (mirrored t 4 (leaf_voxel n))

-- a mirrored leaf's voxels are the leaf's mirrored voxels
pub mirror_leaf-voxels : (t n : ℕ) → Same 4 (leaf_voxel (mirror_leaf t n)) (mirrored t 4 (leaf_voxel n))
unfolding mirror_leaf
mirror_leaf-voxels t n = leaf_of-voxels (mirrored t 4 (leaf_voxel n))

pub mirror_leaf-zero : (n : ℕ) → n < 2 ^ 64 → mirror_leaf 0 n ≡ n
unfolding mirror_leaf
mirror_leaf-zero n h = leaf_of-leaf_voxel n h

pub mirror_leaf-mirror_leaf : (s t n : ℕ) → s < 8 → t < 8 → mirror_leaf s (mirror_leaf t n) ≡ mirror_leaf (bit_xor s t) n
unfolding mirror_leaf
mirror_leaf-mirror_leaf s t n hs ht =
    leaf_of-same (mirrored s 4 (leaf_voxel (mirror_leaf t n))) (mirrored (bit_xor s t) 4 (leaf_voxel n))
    (λ v l. same-mirrored s 4 (leaf_voxel (mirror_leaf t n)) (mirrored t 4 (leaf_voxel n)) (mirror_leaf-voxels t n) v l
    ∙ ap (leaf_voxel n) (mirror-mirror t s 4 v ht hs l) ∙ ap (λ (m : ℕ). leaf_voxel n (mirror m 4 v)) (xor_comm t s))
