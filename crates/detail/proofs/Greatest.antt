-- `greatest` is the greatest: at most the depth, passing or 0, with nothing above it that passes; and these three fix it.
-- By induction on the depth, on what the test says at the top. Assumes nothing.
use mathlib.Core.Path.{◌≡◌, refl, sym, ap, ◌∙◌, subst}
use mathlib.Core.Logic.{◌⊎◌, inl, inr}
use Prim.Native.Nat.{ℕ, zero, suc, ◌*◌, ◌^◌, ◌≤◌, ◌<◌}
use native.Mathlib.Nat.{le_refl, le-suc, le_trans, le_of_suc-le-suc, lt_of_lt_of_le, eq-or-lt_of_le, mul-le-mul_right}
use native.Mathlib.Omega.{arith}
use mathlib.Core.Bool.{Bool, true, false, cond}
use lib.Dec.{T}
use lib.Pow.{pow_mono}
use lib.Ieee.{Float}
use lib.Ieee.Positive.{num, den}
use borrow.Author.Tests.{leb-false, le-leb, lt-leb}
use Rattle.paper.specs.Detail.{edge_ok, reaches, greatest}
use Rattle.detail.proofs.Ranges.{at_least}

apart : (n k : ℕ) → n < k → k ≤ n → ⊥
apart n k x y = omega arith

pub greatest-low : (p : ℕ → Bool) (d : ℕ) → greatest p d ≤ d
unfolding greatest
greatest-low p zero = le_refl 0
greatest-low p (suc d) = go (p (suc d)) (greatest-low p d)
  where
    go : (b : Bool) → greatest p d ≤ d → cond b (suc d) (greatest p d) ≤ suc d
    go true h = le_refl (suc d)
    go false h = le_trans h (le-suc d)

pub greatest-passes : (p : ℕ → Bool) (d : ℕ) → (greatest p d ≡ 0) ⊎ (p (greatest p d) ≡ true)
unfolding greatest
greatest-passes p zero = inl refl
greatest-passes p (suc d) = go (p (suc d)) refl (greatest-passes p d)
  where
    go : (b : Bool) → p (suc d) ≡ b → (greatest p d ≡ 0) ⊎ (p (greatest p d) ≡ true) → (cond b (suc d) (greatest p d) ≡ 0) ⊎ (p (cond b (suc d) (greatest p d)) ≡ true)
    go true e h = inr e
    go false e h = h

pub greatest-over : (p : ℕ → Bool) (d k : ℕ) → greatest p d < k → k ≤ d → p k ≡ false
unfolding greatest
greatest-over p zero k a b = absurd (apart 0 k a b)
greatest-over p (suc d) k a b = go (p (suc d)) refl a (greatest-over p d k)
  where
    go : (t : Bool) → p (suc d) ≡ t → cond t (suc d) (greatest p d) < k → (greatest p d < k → k ≤ d → p k ≡ false) → p k ≡ false
    go true e l h = absurd (apart (suc d) k l b)
    go false e l h = elim (eq-or-lt_of_le b) [ inl q ↦ subst (λ (n : ℕ). p n ≡ false) (sym q) e | inr m ↦ h l (le_of_suc-le-suc m) ]

none_over : (h : ℕ) → h ≤ 0 → 0 ≡ h
none_over h l = omega arith

-- what passes or is 0, with nothing above it that passes, is the greatest
pub greatest-is : (p : ℕ → Bool) (d h : ℕ) → h ≤ d → (h ≡ 0) ⊎ (p h ≡ true) → ((k : ℕ) → h < k → k ≤ d → p k ≡ false) → greatest p d ≡ h
unfolding greatest
greatest-is p zero h l at over = none_over h l
greatest-is p (suc d) h l at over =
    elim (eq-or-lt_of_le l) [
      | inl e ↦
          let hit : p (suc d) ≡ true = elim at [ inl z ↦ absurd (clash z e) | inr t ↦ subst (λ (n : ℕ). p n ≡ true) e t ] in
          ap (λ (t : Bool). cond t (suc d) (greatest p d)) hit ∙ sym e
      | inr m ↦
          ap (λ (t : Bool). cond t (suc d) (greatest p d)) (over (suc d) m (le_refl (suc d)))
          ∙ greatest-is p d h (le_of_suc-le-suc m) at (λ k a b. over k a (le_trans b (le-suc d)))
    ]
  where
    clash : h ≡ 0 → h ≡ suc d → ⊥
    clash z e = omega arith

-- the detail rule's test fails from its first failure on
pub reaches-falls : (a b : ℕ) (x : Float) (h k : ℕ) → reaches a b x h ≡ false → h ≤ k → reaches a b x k ≡ false
reaches-falls a b x h k e l =
    lt-leb (2 ^ k * a * den x) (num x * b)
    (lt_of_lt_of_le (leb-false (2 ^ h * a * den x) (num x * b) e) (mul-le-mul_right (den x) (mul-le-mul_right a (pow_mono l))))

-- an edge in its range passes at 0, so that its height always passes
pub edge-reaches : (x : Float) → T (edge_ok x) → reaches 1 1 x 0 ≡ true
edge-reaches x w = le-leb (1 * den x) (num x * 1) (at_least 1 1 (2 ^ 40) x w)
