-- Numbers below 8 as children and mirrors: exclusive or and its marks on the axes. Each law is one computed test over all cases.
-- Assumes nothing.
use mathlib.Core.Path.{◌≡◌, refl, sym, ◌∙◌, ap, ap₂}
use mathlib.Core.Bool.{Bool, true, false, not, beq}
use Prim.Native.Nat.{ℕ, zero, suc, ◌+◌, ◌*◌, ◌/◌, ◌%◌, ◌<◌}
use native.Mathlib.Omega.{arith}
use lib.Dec.{T, eqb, eqb→eq}
use lib.Bits.{bit_xor, xor_lt, xor_comm}
use Rattle.paper.specs.Numbers.{all_below}
use Rattle.paper.specs.Rooms.{flip, mark_x, mark_y, mark_z}
use Rattle.paper.specs.Outline.{pick8}
use Rattle.laws.proofs.Tests.{all-at, all-at2, beq-eq}

-- one of two marks, not both
abbrev pub xorb : Bool → Bool → Bool
xorb true b = not b
xorb false b = b

-- a rule over the numbers below 8 from its eight cases
pub below8 {ℓ} : (P : ℕ → Type ℓ) → P 0 → P 1 → P 2 → P 3 → P 4 → P 5 → P 6 → P 7 → (i : ℕ) → i < 8 → P i
below8 P a b c d e f g h zero l = a
below8 P a b c d e f g h (suc zero) l = b
below8 P a b c d e f g h (suc (suc zero)) l = c
below8 P a b c d e f g h (suc (suc (suc zero))) l = d
below8 P a b c d e f g h (suc (suc (suc (suc zero)))) l = e
below8 P a b c d e f g h (suc (suc (suc (suc (suc zero))))) l = f
below8 P a b c d e f g h (suc (suc (suc (suc (suc (suc zero)))))) l = g
below8 P a b c d e f g h (suc (suc (suc (suc (suc (suc (suc zero))))))) l = h
below8 P a b c d e f g h (suc (suc (suc (suc (suc (suc (suc (suc i)))))))) l = absurd (omega arith)

pub pick8-table : {A : Type 0} (f : ℕ → A) (i : ℕ) → i < 8 → pick8 i (f 0) (f 1) (f 2) (f 3) (f 4) (f 5) (f 6) (f 7) ≡ f i
pick8-table f = below8 (λ i. pick8 i (f 0) (f 1) (f 2) (f 3) (f 4) (f 5) (f 6) (f 7) ≡ f i) refl refl refl refl refl refl refl refl

pub pick8-map : {A B : Type 0} (F : A → B) (a b c d e f g h : A) (i : ℕ) → i < 8 → pick8 i (F a) (F b) (F c) (F d) (F e) (F f) (F g) (F h) ≡ F (pick8 i a b c d e f g h)
pick8-map F a b c d e f g h =
    below8 (λ i. pick8 i (F a) (F b) (F c) (F d) (F e) (F f) (F g) (F h) ≡ F (pick8 i a b c d e f g h)) refl refl refl refl refl refl refl refl

-- a law of two or three numbers below 8 from one computed test
pub eight2 : (f g : ℕ → ℕ → ℕ) → T (all_below 8 (λ i. all_below 8 (λ j. eqb (f i j) (g i j)))) → (s t : ℕ) → s < 8 → t < 8 → f s t ≡ g s t
eight2 f g h s t hs ht = eqb→eq (f s t) (g s t) (all-at2 8 8 (λ i j. eqb (f i j) (g i j)) h s t hs ht)

pub eight3 : (f g : ℕ → ℕ → ℕ → ℕ) → T (all_below 8 (λ i. all_below 8 (λ j. all_below 8 (λ k. eqb (f i j k) (g i j k)))))
    → (r s t : ℕ) → r < 8 → s < 8 → t < 8 → f r s t ≡ g r s t
eight3 f g h r s t hr hs ht = eight2 (f r) (g r) (all-at 8 (λ i. all_below 8 (λ j. all_below 8 (λ k. eqb (f i j k) (g i j k)))) h r hr) s t hs ht

-- ---- exclusive or

pub xor8-lt : (s t : ℕ) → s < 8 → t < 8 → bit_xor s t < 8
xor8-lt = xor_lt 3

pub xor8-assoc : (r s t : ℕ) → r < 8 → s < 8 → t < 8 → bit_xor (bit_xor r s) t ≡ bit_xor r (bit_xor s t)
xor8-assoc = eight3 (λ r s t. bit_xor (bit_xor r s) t) (λ r s t. bit_xor r (bit_xor s t)) tt

pub xor8-back : (u t : ℕ) → u < 8 → t < 8 → bit_xor (bit_xor u t) t ≡ u
xor8-back = eight2 (λ u t. bit_xor (bit_xor u t) t) (λ u t. u) tt

pub xor8-around : (t u : ℕ) → t < 8 → u < 8 → bit_xor (bit_xor t u) t ≡ u
xor8-around = eight2 (λ t u. bit_xor (bit_xor t u) t) (λ t u. u) tt

pub xor8-swap : (p q t : ℕ) → p < 8 → q < 8 → t < 8 → bit_xor (bit_xor p q) t ≡ bit_xor (bit_xor p t) q
xor8-swap = eight3 (λ p q t. bit_xor (bit_xor p q) t) (λ p q t. bit_xor (bit_xor p t) q) tt

pub xor8-between : (p q t : ℕ) → p < 8 → q < 8 → t < 8 → bit_xor (bit_xor q t) p ≡ bit_xor (bit_xor p q) t
xor8-between = eight3 (λ p q t. bit_xor (bit_xor q t) p) (λ p q t. bit_xor (bit_xor p q) t) tt

pub xor8-cancel : (p q t : ℕ) → p < 8 → q < 8 → t < 8 → bit_xor (bit_xor (bit_xor p q) t) p ≡ bit_xor q t
xor8-cancel = eight3 (λ p q t. bit_xor (bit_xor (bit_xor p q) t) p) (λ p q t. bit_xor q t) tt

pub xor8-meet : (p q r : ℕ) → p < 8 → q < 8 → r < 8 → bit_xor (bit_xor p q) (bit_xor q r) ≡ bit_xor p r
xor8-meet = eight3 (λ p q r. bit_xor (bit_xor p q) (bit_xor q r)) (λ p q r. bit_xor p r) tt

-- two turns in a row
pub xor8-chain : (p q r s t : ℕ) → p < 8 → q < 8 → r < 8 → s < 8 → t < 8
    → bit_xor (bit_xor (bit_xor p q) s) (bit_xor (bit_xor q r) t) ≡ bit_xor (bit_xor p r) (bit_xor s t)
xor8-chain p q r s t hp hq hr hs ht =
    let rt : bit_xor r t < 8 = xor8-lt r t hr ht in
    ap₂ bit_xor (xor8-swap p q s hp hq hs) (xor8-assoc q r t hq hr ht)
    ∙ xor8-meet (bit_xor p s) q (bit_xor r t) (xor8-lt p s hp hs) hq rt
    ∙ xor8-swap p s (bit_xor r t) hp hs rt
    ∙ ap (λ (n : ℕ). bit_xor n s) (sym (xor8-assoc p r t hp hr ht))
    ∙ xor8-assoc (bit_xor p r) t s (xor8-lt p r hp hr) ht hs
    ∙ ap (bit_xor (bit_xor p r)) (xor_comm t s)

-- ---- marks, and halves on each axis

abbrev all-marks : (ℕ → Bool) → Bool
all-marks m = all_below 8 (λ i. all_below 8 (λ j. beq (m (bit_xor i j)) (xorb (m i) (m j))))

marks : (m : ℕ → Bool) → T (all-marks m) → (s t : ℕ) → s < 8 → t < 8 → m (bit_xor s t) ≡ xorb (m s) (m t)
marks m h s t hs ht = beq-eq (m (bit_xor s t)) (xorb (m s) (m t)) (all-at2 8 8 (λ i j. beq (m (bit_xor i j)) (xorb (m i) (m j))) h s t hs ht)

pub mark_x-xor : (s t : ℕ) → s < 8 → t < 8 → mark_x (bit_xor s t) ≡ xorb (mark_x s) (mark_x t)
mark_x-xor = marks mark_x tt

pub mark_y-xor : (s t : ℕ) → s < 8 → t < 8 → mark_y (bit_xor s t) ≡ xorb (mark_y s) (mark_y t)
mark_y-xor = marks mark_y tt

pub mark_z-xor : (s t : ℕ) → s < 8 → t < 8 → mark_z (bit_xor s t) ≡ xorb (mark_z s) (mark_z t)
mark_z-xor = marks mark_z tt

-- which half on each axis, in the child (i xor t)
pub half_x-xor : (i t : ℕ) → i < 8 → t < 8 → flip (mark_x t) 2 (i % 2) ≡ bit_xor i t % 2
half_x-xor = eight2 (λ i t. flip (mark_x t) 2 (i % 2)) (λ i t. bit_xor i t % 2) tt

pub half_y-xor : (i t : ℕ) → i < 8 → t < 8 → flip (mark_y t) 2 (i / 2 % 2) ≡ bit_xor i t / 2 % 2
half_y-xor = eight2 (λ i t. flip (mark_y t) 2 (i / 2 % 2)) (λ i t. bit_xor i t / 2 % 2) tt

pub half_z-xor : (i t : ℕ) → i < 8 → t < 8 → flip (mark_z t) 2 (i / 4 % 2) ≡ bit_xor i t / 4 % 2
half_z-xor = eight2 (λ i t. flip (mark_z t) 2 (i / 4 % 2)) (λ i t. bit_xor i t / 4 % 2) tt

-- a child's number from its three halves
pub halves-whole : (i : ℕ) → i < 8 → i % 2 + 2 * (i / 2 % 2) + 4 * (i / 4 % 2) ≡ i
halves-whole i h = eqb→eq _ _ (all-at 8 (λ j. eqb (j % 2 + 2 * (j / 2 % 2) + 4 * (j / 4 % 2)) j) tt i h)
