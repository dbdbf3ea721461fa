-- The mirror laws over any edge S: twice is nothing, two in a row are their exclusive or, child i of a mirrored cell is the mirrored child
-- (i xor t); and voxels in a cube and in its eight children. By one axis at a time. Assumes nothing.
use mathlib.Core.Path.{◌≡◌, refl, sym, ◌∙◌, ap}
use mathlib.Core.Bool.{Bool, true, false}
use Prim.Native.Nat.{ℕ, zero, suc, ◌+◌, ◌*◌, ◌/◌, ◌%◌, ◌<◌}
use native.Mathlib.Nat.{div-lt_iff_lt-mul, mod-lt, div-add-mod'}
use native.Mathlib.Omega.{arith}
use lib.Arith.{digits_div, digits_mod}
use lib.Bits.{bit_xor, xor_comm}
use Rattle.paper.specs.Rooms.{Point, point, Room, Inside, child_no, in_child, child_room, flip, mark_x, mark_y, mark_z, mirror, mirrored, Same, Image}
use Rattle.laws.proofs.Eight.{xorb, xor8-lt, mark_x-xor, mark_y-xor, mark_z-xor, half_x-xor, half_y-xor, half_z-xor, halves-whole}

-- ---- one axis

pub flip-lt : (b : Bool) (S c : ℕ) → c < S → flip b S c < S
flip-lt true S c h = omega arith
flip-lt false S c h = h

pub flip_twice : (b : Bool) (S c : ℕ) → c < S → flip b S (flip b S c) ≡ c
flip_twice true S c h = omega arith
flip_twice false S c h = refl

pub flip-flip : (a b : Bool) (S c : ℕ) → c < S → flip a S (flip b S c) ≡ flip (xorb a b) S c
flip-flip true true S c h = flip_twice true S c h
flip-flip true false S c h = refl
flip-flip false true S c h = refl
flip-flip false false S c h = refl

-- which half, and where in it
half_lt : (S c : ℕ) → c < 2 * S → c / S < 2
half_lt S c h = let p : 0 < S = omega arith in (div-lt_iff_lt-mul p).1 h

low-lt : (S c : ℕ) → c < 2 * S → c % S < S
low-lt S c h = mod-lt c (omega arith)

flip-half : (b : Bool) (q S c : ℕ) → q < 2 → c < S → flip b (2 * S) (q * S + c) ≡ flip b 2 q * S + flip b S c
flip-half true zero S c hq hc = omega arith
flip-half true (suc zero) S c hq hc = omega arith
flip-half true (suc (suc q)) S c hq hc = absurd (omega arith)
flip-half false q S c hq hc = refl

half_in : (q S c : ℕ) → q < 2 → c < S → q * S + c < 2 * S
half_in zero S c hq hc = omega arith
half_in (suc zero) S c hq hc = omega arith
half_in (suc (suc q)) S c hq hc = absurd (omega arith)

-- ---- mirrors of a cube of edge S

pub mirror-inside : (t S : ℕ) (v : Point) → Inside S v → Inside S (mirror t S v)
mirror-inside t S v h = record { in_x = flip-lt (mark_x t) S v.x h.in_x; in_y = flip-lt (mark_y t) S v.y h.in_y; in_z = flip-lt (mark_z t) S v.z h.in_z }

-- a mirror twice is nothing
pub mirror-twice : (t S : ℕ) (v : Point) → Inside S v → mirror t S (mirror t S v) ≡ v
mirror-twice t S v h = λ i. point (flip_twice (mark_x t) S v.x h.in_x i) (flip_twice (mark_y t) S v.y h.in_y i) (flip_twice (mark_z t) S v.z h.in_z i)

-- 'two mirrors one after the other are their exclusive or'
pub mirror-mirror : (s t S : ℕ) (v : Point) → s < 8 → t < 8 → Inside S v → mirror s S (mirror t S v) ≡ mirror (bit_xor s t) S v
mirror-mirror s t S v hs ht h =
    λ i. point
    ((flip-flip (mark_x s) (mark_x t) S v.x h.in_x ∙ ap (λ b. flip b S v.x) (sym (mark_x-xor s t hs ht))) i)
    ((flip-flip (mark_y s) (mark_y t) S v.y h.in_y ∙ ap (λ b. flip b S v.y) (sym (mark_y-xor s t hs ht))) i)
    ((flip-flip (mark_z s) (mark_z t) S v.z h.in_z ∙ ap (λ b. flip b S v.z) (sym (mark_z-xor s t hs ht))) i)

-- ---- the eight children, of edge S

-- voxel u of child i, in the cell: where `child_room` looks
abbrev pub from_child : ℕ → ℕ → Point → Point
from_child S i u = point (i % 2 * S + u.x) (i / 2 % 2 * S + u.y) (i / 4 % 2 * S + u.z)

pub child_no-lt : (S : ℕ) (v : Point) → Inside (2 * S) v → child_no S v < 8
child_no-lt S v h = omega (arith, half_lt S v.x h.in_x, half_lt S v.y h.in_y, half_lt S v.z h.in_z)

pub in_child-inside : (S : ℕ) (v : Point) → Inside (2 * S) v → Inside S (in_child S v)
in_child-inside S v h = record { in_x = low-lt S v.x h.in_x; in_y = low-lt S v.y h.in_y; in_z = low-lt S v.z h.in_z }

pub from_child-inside : (S i : ℕ) (u : Point) → Inside S u → Inside (2 * S) (from_child S i u)
from_child-inside S i u l = record { in_x = half_in (i % 2) S u.x (omega arith) l.in_x; in_y = half_in (i / 2 % 2) S u.y (omega arith) l.in_y; in_z = half_in (i / 4 % 2) S u.z (omega arith) l.in_z }

pub child_no-from_child : (S i : ℕ) (u : Point) → i < 8 → Inside S u → child_no S (from_child S i u) ≡ i
child_no-from_child S i u hi l =
    rw (digits_div (i % 2) l.in_x, digits_div (i / 2 % 2) l.in_y, digits_div (i / 4 % 2) l.in_z) (halves-whole i hi)

pub in_child-from_child : (S i : ℕ) (u : Point) → Inside S u → in_child S (from_child S i u) ≡ u
in_child-from_child S i u l = λ j. point (digits_mod (i % 2) l.in_x j) (digits_mod (i / 2 % 2) l.in_y j) (digits_mod (i / 4 % 2) l.in_z j)

-- the number of three halves
no-halves : (p q r : ℕ) → p < 2 → q < 2 → r < 2 → ((p + 2 * q + 4 * r) % 2 ≡ p) × ((p + 2 * q + 4 * r) / 2 % 2 ≡ q) × ((p + 2 * q + 4 * r) / 4 % 2 ≡ r)
no-halves p q r hp hq hr = (omega arith, omega arith, omega arith)

-- every voxel of the cell is its child's
pub from_child-whole : (S : ℕ) (v : Point) → Inside (2 * S) v → from_child S (child_no S v) (in_child S v) ≡ v
from_child-whole S v h =
    let n = no-halves (v.x / S) (v.y / S) (v.z / S) (half_lt S v.x h.in_x) (half_lt S v.y h.in_y) (half_lt S v.z h.in_z) in
    λ i. point
    ((ap (λ (q : ℕ). q * S + v.x % S) n.0 ∙ div-add-mod' v.x S) i)
    ((ap (λ (q : ℕ). q * S + v.y % S) n.1 ∙ div-add-mod' v.y S) i)
    ((ap (λ (q : ℕ). q * S + v.z % S) n.2 ∙ div-add-mod' v.z S) i)

-- a mirrored cell's voxel of child i is the mirrored voxel of child (i xor t)
pub mirror-from_child : (t S i : ℕ) (u : Point) → t < 8 → i < 8 → Inside S u → mirror t (2 * S) (from_child S i u) ≡ from_child S (bit_xor i t) (mirror t S u)
mirror-from_child t S i u ht hi l =
    λ j. point
    ((flip-half (mark_x t) (i % 2) S u.x (omega arith) l.in_x ∙ ap (λ (q : ℕ). q * S + flip (mark_x t) S u.x) (half_x-xor i t hi ht)) j)
    ((flip-half (mark_y t) (i / 2 % 2) S u.y (omega arith) l.in_y ∙ ap (λ (q : ℕ). q * S + flip (mark_y t) S u.y) (half_y-xor i t hi ht)) j)
    ((flip-half (mark_z t) (i / 4 % 2) S u.z (omega arith) l.in_z ∙ ap (λ (q : ℕ). q * S + flip (mark_z t) S u.z) (half_z-xor i t hi ht)) j)

module _ (t S : ℕ) (v : Point) (ht : t < 8) (h : Inside (2 * S) v) where
  -- the mirrored voxel, as its child's
  mirror-parts : mirror t (2 * S) v ≡ from_child S (bit_xor (child_no S v) t) (mirror t S (in_child S v))
  mirror-parts =
      ap (mirror t (2 * S)) (sym (from_child-whole S v h)) ∙ mirror-from_child t S (child_no S v) (in_child S v) ht (child_no-lt S v h) (in_child-inside S v h)

  pub child_no-mirror : child_no S (mirror t (2 * S) v) ≡ bit_xor (child_no S v) t
  child_no-mirror =
      ap (child_no S) mirror-parts
      ∙ child_no-from_child S (bit_xor (child_no S v) t) (mirror t S (in_child S v)) (xor8-lt (child_no S v) t (child_no-lt S v h) ht)
      (mirror-inside t S (in_child S v) (in_child-inside S v h))

  pub in_child-mirror : in_child S (mirror t (2 * S) v) ≡ mirror t S (in_child S v)
  in_child-mirror =
      ap (in_child S) mirror-parts
      ∙ in_child-from_child S (bit_xor (child_no S v) t) (mirror t S (in_child S v)) (mirror-inside t S (in_child S v) (in_child-inside S v h))

-- ---- the same of rooms: claim C1

pub child-mirrored : (i t S : ℕ) (r : Room) → i < 8 → t < 8 → Same S (child_room S i (mirrored t (2 * S) r)) (mirrored t S (child_room S (bit_xor i t) r))
child-mirrored i t S r hi ht v l = ap r (mirror-from_child t S i v ht hi l)

-- ---- the same voxels, and images

pub same-sym : {S : ℕ} {a b : Room} → Same S a b → Same S b a
same-sym e v l = sym (e v l)

pub same-trans : {S : ℕ} {a b c : Room} → Same S a b → Same S b c → Same S a c
same-trans e f v l = e v l ∙ f v l

-- rooms with the same voxels, mirrored
pub same-mirrored : (t S : ℕ) (a b : Room) → Same S a b → Same S (mirrored t S a) (mirrored t S b)
same-mirrored t S a b e v l = e (mirror t S v) (mirror-inside t S v l)

-- a is b mirrored: then b is a mirrored
pub mirrored-sym : (t S : ℕ) (a b : Room) → Same S a (mirrored t S b) → Same S b (mirrored t S a)
mirrored-sym t S a b e v l = ap b (sym (mirror-twice t S v l)) ∙ sym (e (mirror t S v) (mirror-inside t S v l))

pub mirrored-trans : (s t S : ℕ) (a b c : Room) → s < 8 → t < 8 → Same S a (mirrored s S b) → Same S b (mirrored t S c) → Same S a (mirrored (bit_xor s t) S c)
mirrored-trans s t S a b c hs ht e f v l =
    e v l ∙ f (mirror s S v) (mirror-inside s S v l) ∙ ap c (mirror-mirror t s S v ht hs l) ∙ ap (λ (n : ℕ). c (mirror n S v)) (xor_comm t s)

-- a mirrored by t is b mirrored by u: then a is b mirrored by both
pub mirrored-between : (t u S : ℕ) (a b : Room) → t < 8 → u < 8 → Same S (mirrored t S a) (mirrored u S b) → Same S a (mirrored (bit_xor u t) S b)
mirrored-between t u S a b ht hu e v l =
    ap a (sym (mirror-twice t S v l)) ∙ e (mirror t S v) (mirror-inside t S v l) ∙ ap b (mirror-mirror u t S v hu ht l)

pub image-sym : (S : ℕ) (a b : Room) → Image S a b → Image S b a
image-sym S a b (t, ht, e) = (t, ht, mirrored-sym t S a b e)

pub image-trans : (S : ℕ) (a b c : Room) → Image S a b → Image S b c → Image S a c
image-trans S a b c (s, hs, e) (t, ht, f) = (bit_xor s t, xor8-lt s t hs ht, mirrored-trans s t S a b c hs ht e f)

-- two rooms with the same children are the same
pub children-same : (S : ℕ) (a b : Room) → ((i : ℕ) → i < 8 → Same S (child_room S i a) (child_room S i b)) → Same (2 * S) a b
children-same S a b e v l =
    ap a (sym (from_child-whole S v l)) ∙ e (child_no S v) (child_no-lt S v l) (in_child S v) (in_child-inside S v l) ∙ ap b (from_child-whole S v l)

pub same-children : (S : ℕ) (a b : Room) → Same (2 * S) a b → (i : ℕ) → Same S (child_room S i a) (child_room S i b)
same-children S a b e i u l = e (from_child S i u) (from_child-inside S i u l)
