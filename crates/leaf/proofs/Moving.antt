-- A leaf mirrored bit by bit: voxel k of the image is the leaf's at k with the bits of the marked axes changed. One computed test over the eight
-- mirrors and 64 voxels. Bits that lie a step apart change places by two masks and two shifts: by the bits of a masked, a joined and a shifted number.
-- One axis after the other changes all: by a computed test of the exclusive ors. Assumes nothing.
use mathlib.Core.Path.{◌≡◌, refl, sym, ap, ap₂, ◌∙◌}
use mathlib.Core.Bool.{Bool, true, false, cond, ◌&&◌, ◌||◌}
use mathlib.Core.Logic.{◌⊎◌, inl, inr}
use Prim.Native.Nat.{ℕ, zero, suc, ◌+◌, ◌-◌, ◌*◌, ◌/◌, ◌%◌, ◌^◌, ◌<◌, ◌≤◌, zero-le, suc-le-suc}
use native.Mathlib.Nat.{mod-lt, zero-add, div-one, mul-div_cancel, le_of_suc-le-suc, not-suc-le-zero, lt_of_le_of_lt, mul-le-mul_right}
use native.Mathlib.Omega.{arith}
use lib.Bits.{bit_and, bit_or, bit_xor, xor_zero_r, and_shr, and_mod, or_shr, or_mod, and_zero_r, or_zero_l, or_zero_r, and_le_r, or_lt, shifted_half, shifted_even}
use lib.Dec.{T, eqb, leb, ltb, eqb→eq, leb→le, ltb→lt}
use lib.Pow.{shr-shr, pow_pos}
use borrow.Author.Tests.{leb-false, eqb-false}
use Rattle.paper.specs.Numbers.{all_below, bit, bit_for}
use Rattle.paper.specs.Rooms.{point, flip, mirror}
use Rattle.paper.specs.Leaf.{bit_of, voxel_of, leaf_voxel, leaf_of, mirror_leaf}
use Rattle.laws.proofs.Tests.{true-T, all-at, or_split, and_left, and_right}
use Rattle.laws.proofs.Bits.{bit-lt, bit-suc, bits-ext, test-bit_for, gather-same, gather-bit, gather-bits, gather-lt}
use Rattle.leaf.specs.Moves.{moved, pairs, swaps, both, axis}

-- the bits that mirror t changes
abbrev move_of : ℕ → ℕ
move_of t = t % 2 * 3 + t / 2 % 2 * 12 + t / 4 % 2 * 48

abbrev image : ℕ → ℕ → ℕ → ℕ → ℕ
image a b c k = bit_of (point (flip (eqb a 1) 4 (k % 4)) (flip (eqb b 1) 4 (k / 4 % 4)) (flip (eqb c 1) 4 (k / 16)))

abbrev same-image : ℕ → ℕ → ℕ → ℕ → Bool
same-image a b c k = eqb (image a b c k) (bit_xor k (a * 3 + b * 12 + c * 48))

image-moved : (a b c k : ℕ) → a < 2 → b < 2 → c < 2 → k < 64 → image a b c k ≡ bit_xor k (a * 3 + b * 12 + c * 48)
image-moved a b c k ha hb hc hk =
    let t : T (all_below 2 (λ x. all_below 2 (λ y. all_below 2 (λ z. all_below 64 (same-image x y z))))) = tt in
    eqb→eq _ _
    (all-at 64 (same-image a b c) (all-at 2 (λ z. all_below 64 (same-image a b z)) (all-at 2 (λ y. all_below 2 (λ z. all_below 64 (same-image a y z)))
    (all-at 2 (λ x. all_below 2 (λ y. all_below 2 (λ z. all_below 64 (same-image x y z)))) t a ha) b hb) c hc) k hk)

two_pos : 0 < 2
two_pos = suc-le-suc zero-le

-- the image, bit by bit
mirror-by-move : (t n : ℕ) → mirror_leaf t n ≡ moved (move_of t) n
unfolding mirror_leaf leaf_of moved
mirror-by-move t n =
    gather-same 0 64 (λ k. bit_for (leaf_voxel n (mirror t 4 (voxel_of k)))) (λ k. bit n (bit_xor k (move_of t)))
    (λ k h. test-bit_for (bit n (bit_of (mirror t 4 (voxel_of k)))) (bit-lt n (bit_of (mirror t 4 (voxel_of k))))
    ∙ ap (bit n) (image-moved (t % 2) (t / 2 % 2) (t / 4 % 2) k (mod-lt t two_pos) (mod-lt (t / 2) two_pos) (mod-lt (t / 4) two_pos) h))

-- ---- bits of a masked, a joined and a shifted number

pub bit-and : (a b k : ℕ) → bit (bit_and a b) k ≡ bit_and (bit a k) (bit b k)
bit-and a b k = ap (λ (x : ℕ). x % 2) (and_shr a b k) ∙ and_mod (a / 2 ^ k) (b / 2 ^ k) 1

bit-or : (a b k : ℕ) → bit (bit_or a b) k ≡ bit_or (bit a k) (bit b k)
bit-or a b k = ap (λ (x : ℕ). x % 2) (or_shr a b k) ∙ or_mod (a / 2 ^ k) (b / 2 ^ k) 1

bit-down : (n s k : ℕ) → bit (n / 2 ^ s) k ≡ bit n (s + k)
bit-down n s k = ap (λ (x : ℕ). x % 2) (shr-shr n s k)

-- below the step there is nothing, from it on the number's bits
up-low : (a s k : ℕ) → k < s → bit (a * 2 ^ s) k ≡ 0
up-low a zero k h = absurd (not-suc-le-zero h)
up-low a (suc s) zero h = ap (λ (x : ℕ). x % 2) (div-one (a * 2 ^ suc s)) ∙ shifted_even a s
up-low a (suc s) (suc k) h = bit-suc (a * 2 ^ suc s) k ∙ ap (λ (x : ℕ). bit x k) (shifted_half a s) ∙ up-low a s k (le_of_suc-le-suc h)

up-high : (a s k : ℕ) → bit (a * 2 ^ s) (s + k) ≡ bit a k
up-high a s k = sym (bit-down (a * 2 ^ s) s k) ∙ ap (λ (x : ℕ). bit x k) (mul-div_cancel a (pow_pos s))

-- ---- bits that change places

and_one : (x : ℕ) → x < 2 → bit_and x 1 ≡ x
and_one zero h = refl
and_one (suc zero) h = refl
and_one (suc (suc x)) h = absurd (omega arith)

moved-bit : (s n k : ℕ) → k < 64 → bit (moved s n) k ≡ bit n (bit_xor k s)
unfolding moved
moved-bit s n k h =
    gather-bit (λ i. bit n (bit_xor i s)) (λ i. bit-lt n (bit_xor i s)) 64 0 k h ∙ ap (λ (i : ℕ). bit n (bit_xor i s)) (zero-add k)

module _ (n below s : ℕ) where
  abbrev pub swapped : ℕ
  swapped = bit_or (bit_and (n / 2 ^ s) below) (bit_and n below * 2 ^ s)

  -- what comes down, and what goes up
  comes : (k b : ℕ) → bit below k ≡ b → bit (bit_and (n / 2 ^ s) below) k ≡ bit_and (bit n (s + k)) b
  comes k b e = bit-and (n / 2 ^ s) below k ∙ ap₂ bit_and (bit-down n s k) e

  goes : (k b : ℕ) → s ≤ k → bit below (k - s) ≡ b → bit (bit_and n below * 2 ^ s) k ≡ bit_and (bit n (k - s)) b
  goes k b h e =
      let y : k ≡ s + (k - s) = omega arith in
      ap (bit (bit_and n below * 2 ^ s)) y ∙ up-high (bit_and n below) s (k - s) ∙ bit-and n below (k - s) ∙ ap (bit_and (bit n (k - s))) e

  -- one bit
  swap-bit : (k : ℕ) → T (pairs below s k) → bit swapped k ≡ bit n (bit_xor k s)
  swap-bit k = go (eqb (bit below k) 1) refl
    where
      nothing : T (ltb k s || eqb (bit below (k - s)) 0) → bit (bit_and n below * 2 ^ s) k ≡ 0
      nothing t = by-sides (or_split (ltb k s) (eqb (bit below (k - s)) 0) t) (leb s k) refl
        where
          by-sides : T (ltb k s) ⊎ T (eqb (bit below (k - s)) 0) → (y : Bool) → leb s k ≡ y → bit (bit_and n below * 2 ^ s) k ≡ 0
          by-sides (inl h) y e = up-low (bit_and n below) s k (ltb→lt k s h)
          by-sides (inr h) false e = up-low (bit_and n below) s k (leb-false s k e)
          by-sides (inr h) true e = goes k 0 (leb→le s k (true-T e)) (eqb→eq (bit below (k - s)) 0 h) ∙ and_zero_r (bit n (k - s))

      go : (b : Bool) → eqb (bit below k) 1 ≡ b → T (cond b (eqb (bit_xor k s) (s + k) && (ltb k s || eqb (bit below (k - s)) 0))
          (leb s k && (eqb (bit_xor k s) (k - s) && eqb (bit below (k - s)) 1))) → bit swapped k ≡ bit n (bit_xor k s)
      go false y t =
          let e : bit below k ≡ 0 = omega (arith, bit-lt below k, eqb-false (bit below k) 1 y) in
          let l : T (leb s k) = and_left (leb s k) (eqb (bit_xor k s) (k - s) && eqb (bit below (k - s)) 1) t in
          let r : T (eqb (bit_xor k s) (k - s) && eqb (bit below (k - s)) 1) = and_right (leb s k) (eqb (bit_xor k s) (k - s) && eqb (bit below (k - s)) 1) t in
          let x : bit_xor k s ≡ k - s = eqb→eq (bit_xor k s) (k - s) (and_left (eqb (bit_xor k s) (k - s)) (eqb (bit below (k - s)) 1) r) in
          let m : bit below (k - s) ≡ 1 = eqb→eq (bit below (k - s)) 1 (and_right (eqb (bit_xor k s) (k - s)) (eqb (bit below (k - s)) 1) r) in
          bit-or (bit_and (n / 2 ^ s) below) (bit_and n below * 2 ^ s) k
          ∙ ap₂ bit_or (comes k 0 e ∙ and_zero_r (bit n (s + k))) (goes k 1 (leb→le s k l) m ∙ and_one (bit n (k - s)) (bit-lt n (k - s)))
          ∙ or_zero_l (bit n (k - s)) ∙ ap (bit n) (sym x)
      go true y t =
          let e : bit below k ≡ 1 = eqb→eq (bit below k) 1 (true-T y) in
          let x : bit_xor k s ≡ s + k = eqb→eq (bit_xor k s) (s + k) (and_left (eqb (bit_xor k s) (s + k)) (ltb k s || eqb (bit below (k - s)) 0) t) in
          bit-or (bit_and (n / 2 ^ s) below) (bit_and n below * 2 ^ s) k
          ∙ ap₂ bit_or (comes k 1 e ∙ and_one (bit n (s + k)) (bit-lt n (s + k))) (nothing (and_right (eqb (bit_xor k s) (s + k)) (ltb k s || eqb (bit below (k - s)) 0) t))
          ∙ or_zero_r (bit n (s + k)) ∙ ap (bit n) (sym x)

  size_of : T (swaps below s) → (s < 64) × (below * 2 ^ s < 2 ^ 64) × T (all_below 64 (pairs below s))
  unfolding swaps
  size_of w =
      let r : T (ltb (below * 2 ^ s) (2 ^ 64) && all_below 64 (pairs below s)) = and_right (ltb s 64) (ltb (below * 2 ^ s) (2 ^ 64) && all_below 64 (pairs below s)) w in (
        ltb→lt s 64 (and_left (ltb s 64) (ltb (below * 2 ^ s) (2 ^ 64) && all_below 64 (pairs below s)) w),
        ltb→lt (below * 2 ^ s) (2 ^ 64) (and_left (ltb (below * 2 ^ s) (2 ^ 64)) (all_below 64 (pairs below s)) r),
        and_right (ltb (below * 2 ^ s) (2 ^ 64)) (all_below 64 (pairs below s)) r,
      )

  module _ (n64 : n < 2 ^ 64) (b64 : below < 2 ^ 64) (w : T (swaps below s)) where
    sized : (s < 64) × (below * 2 ^ s < 2 ^ 64) × T (all_below 64 (pairs below s))
    sized = size_of w

    pub step-lt : s < 64
    step-lt = sized.0

    -- what goes up stays inside
    pub up_lt : bit_and n below * 2 ^ s < 2 ^ 64
    up_lt = lt_of_le_of_lt (mul-le-mul_right (2 ^ s) (and_le_r n below)) sized.1

    pub swap-moved : swapped ≡ moved s n
    unfolding moved
    swap-moved =
        bits-ext 64 swapped (moved s n)
        (or_lt 64 (bit_and (n / 2 ^ s) below) (bit_and n below * 2 ^ s) (lt_of_le_of_lt (and_le_r (n / 2 ^ s) below) b64) up_lt)
        (gather-lt (λ k. bit n (bit_xor k s)) (λ k. bit-lt n (bit_xor k s)) 64 0)
        (λ k h. swap-bit k (all-at 64 (pairs below s) sized.2 k h) ∙ sym (moved-bit s n k h))

-- ---- one change of places after another

-- by a then by b is by c, where the numbers of the bits go so
pub moved-moved : (a b c n : ℕ) → ((k : ℕ) → k < 64 → (bit_xor k a < 64) × (bit_xor (bit_xor k a) b ≡ bit_xor k c)) → moved a (moved b n) ≡ moved c n
unfolding moved
moved-moved a b c n w =
    gather-same 0 64 (λ k. bit (moved b n) (bit_xor k a)) (λ k. bit n (bit_xor k c))
    (λ k h. moved-bit b n (bit_xor k a) (w k h).0 ∙ ap (bit n) (w k h).1)

pub moved_none : (n : ℕ) → n < 2 ^ 64 → moved 0 n ≡ n
unfolding moved
moved_none n h = gather-same 0 64 (λ k. bit n (bit_xor k 0)) (bit n) (λ k l. ap (bit n) (xor_zero_r k)) ∙ gather-bits 64 n h

axis-parts : (below s twice : ℕ) → T (axis below s twice) → T (swaps below s) × T (swaps twice (2 * s)) × T (all_below 64 (both s))
unfolding axis
axis-parts below s twice t =
    let r : T (swaps twice (2 * s) && all_below 64 (both s)) = and_right (swaps below s) (swaps twice (2 * s) && all_below 64 (both s)) t in (
      and_left (swaps below s) (swaps twice (2 * s) && all_below 64 (both s)) t,
      and_left (swaps twice (2 * s)) (all_below 64 (both s)) r,
      and_right (swaps twice (2 * s)) (all_below 64 (both s)) r,
    )

module _ (below s twice : ℕ) (w : T (axis below s twice)) where
  parts : T (swaps below s) × T (swaps twice (2 * s)) × T (all_below 64 (both s))
  parts = axis-parts below s twice w

  pub axis-once : T (swaps below s)
  axis-once = parts.0

  pub axis-step : s < 64
  axis-step = (size_of 0 below s axis-once).0

  pub axis-twice : T (swaps twice (2 * s))
  axis-twice = parts.1

  pub axis-both : (n : ℕ) → moved (2 * s) (moved s n) ≡ moved (3 * s) n
  axis-both n =
      moved-moved (2 * s) s (3 * s) n (λ k h.
      let t : T (both s k) = all-at 64 (both s) parts.2 k h in (
        ltb→lt (bit_xor k (2 * s)) 64 (and_right (eqb (bit_xor (bit_xor k (2 * s)) s) (bit_xor k (3 * s))) (ltb (bit_xor k (2 * s)) 64) t),
        eqb→eq (bit_xor (bit_xor k (2 * s)) s) (bit_xor k (3 * s)) (and_left (eqb (bit_xor (bit_xor k (2 * s)) s) (bit_xor k (3 * s))) (ltb (bit_xor k (2 * s)) 64) t),
      ))

-- the three axes: x changes by 3, y by 12, z by 48
abbrev after-x : ℕ → ℕ → ℕ → Bool
after-x a b k = eqb (bit_xor (bit_xor k (b * 12)) (a * 3)) (bit_xor k (a * 3 + b * 12)) && ltb (bit_xor k (b * 12)) 64

abbrev after-xy : ℕ → ℕ → ℕ → ℕ → Bool
after-xy a b c k = eqb (bit_xor (bit_xor k (c * 48)) (a * 3 + b * 12)) (bit_xor k (a * 3 + b * 12 + c * 48)) && ltb (bit_xor k (c * 48)) 64

pub axes-moved : (t n : ℕ) → moved (t / 4 % 2 * (3 * 16)) (moved (t / 2 % 2 * (3 * 4)) (moved (t % 2 * (3 * 1)) n)) ≡ mirror_leaf t n
axes-moved t n =
    let a : ℕ = t % 2 in
    let b : ℕ = t / 2 % 2 in
    let c : ℕ = t / 4 % 2 in
    let ha : t % 2 < 2 = mod-lt t two_pos in
    let hb : t / 2 % 2 < 2 = mod-lt (t / 2) two_pos in
    let hc : t / 4 % 2 < 2 = mod-lt (t / 4) two_pos in
    ap (moved (c * 48)) (moved-moved (b * 12) (a * 3) (a * 3 + b * 12) n (λ k h.
    let w : T (after-x a b k) = all-at 64 (after-x a b) (all-at 2 (λ y. all_below 64 (after-x a y)) (all-at 2 (λ x. all_below 2 (λ y. all_below 64 (after-x x y))) tt a ha) b hb) k h in (
      ltb→lt _ 64 (and_right (eqb (bit_xor (bit_xor k (b * 12)) (a * 3)) (bit_xor k (a * 3 + b * 12))) (ltb (bit_xor k (b * 12)) 64) w),
      eqb→eq _ _ (and_left (eqb (bit_xor (bit_xor k (b * 12)) (a * 3)) (bit_xor k (a * 3 + b * 12))) (ltb (bit_xor k (b * 12)) 64) w),
    )))
    ∙ moved-moved (c * 48) (a * 3 + b * 12) (a * 3 + b * 12 + c * 48) n (λ k h.
    let w : T (after-xy a b c k) = all-at 64 (after-xy a b c) (all-at 2 (λ z. all_below 64 (after-xy a b z)) (all-at 2 (λ y. all_below 2 (λ z. all_below 64 (after-xy a y z)))
    (all-at 2 (λ x. all_below 2 (λ y. all_below 2 (λ z. all_below 64 (after-xy x y z)))) tt a ha) b hb) c hc) k h in (
      ltb→lt _ 64 (and_right (eqb (bit_xor (bit_xor k (c * 48)) (a * 3 + b * 12)) (bit_xor k (a * 3 + b * 12 + c * 48))) (ltb (bit_xor k (c * 48)) 64) w),
      eqb→eq _ _ (and_left (eqb (bit_xor (bit_xor k (c * 48)) (a * 3 + b * 12)) (bit_xor k (a * 3 + b * 12 + c * 48))) (ltb (bit_xor k (c * 48)) 64) w),
    ))
    ∙ sym (mirror-by-move t n)
