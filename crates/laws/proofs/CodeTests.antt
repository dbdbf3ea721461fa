-- Tests as the code finds them: a call answers 'bad' where the paper says 'ok', a loop that counts down decides `all_below`,
-- and one that counts up and never stops early gathers `any_below` and `all_below`.
-- Each by the clauses of the definitions, on the number of what is left. Assumes nothing.
use mathlib.Core.Path.{◌≡◌, refl, sym, ap, ap₂, ◌∙◌}
use mathlib.Core.Bool.{Bool, true, false, cond, not, ◌||◌}
use Prim.Native.Nat.{ℕ, zero, suc, ◌+◌, ◌-◌}
use native.Mathlib.Numerals.{add-one, sub-one}
use lib.Dec.{T}
use borrow.Author.Tests.{not-true, not-false}
use Rattle.laws.proofs.Tests.{true-T}
use Rattle.paper.specs.Numbers.{both, all_below, any_below}

-- ---- a call that answers the opposite of a test

pub passed : {b r : Bool} → r ≡ not b → r ≡ false → b ≡ true
passed {b} e f = not-false b (sym e ∙ f)

pub failed : {b r : Bool} → r ≡ not b → r ≡ true → b ≡ false
failed {b} e t = not-true b (sym e ∙ t)

pub passed-T : (b : Bool) {r : Bool} → r ≡ not b → r ≡ false → T b
passed-T b e f = true-T {b = b} (passed e f)

pub failed-T : (b : Bool) {r : Bool} → r ≡ not b → r ≡ true → T (not b)
failed-T b e t = true-T (sym e ∙ t)

-- ---- a loop that counts k down, with an answer A that is still that of the numbers below k

all-down : (p : ℕ → Bool) (k : ℕ) → (k ≡ 0 → ⊥) → all_below k p ≡ both (p (k - 1)) (all_below (k - 1) p)
all-down p zero z = absurd (z refl)
all-down p (suc k) z = rw (sub-one (suc k))

module _ (p : ℕ → Bool) (k : ℕ) {A : Bool} where
  pub all-still : A ≡ all_below k p → (k ≡ 0 → ⊥) → p (k - 1) ≡ true → A ≡ all_below (k - 1) p
  all-still a z e = a ∙ all-down p k z ∙ ap (λ (b : Bool). both b (all_below (k - 1) p)) e

  pub all-stop : A ≡ all_below k p → (k ≡ 0 → ⊥) → p (k - 1) ≡ false → A ≡ false
  all-stop a z e = a ∙ all-down p k z ∙ ap (λ (b : Bool). both b (all_below (k - 1) p)) e

  pub all_end : A ≡ all_below k p → k ≡ 0 → A ≡ true
  all_end a e = a ∙ ap (λ (n : ℕ). all_below n p) e

-- the same down to 1, whose number is left to the last test
pub all_one : (p : ℕ → Bool) (k : ℕ) {A : Bool} → A ≡ all_below k p → k ≡ 1 → A ≡ p 0
all_one p k a e = a ∙ ap (λ (n : ℕ). all_below n p) e ∙ one (p 0)
  where
    one : (b : Bool) → both b true ≡ b
    one true = refl
    one false = refl

-- ---- a loop that counts i up, with an answer A gathered from the numbers below i, and the answer r at i

pub any-gathered : (p : ℕ → Bool) (i : ℕ) {A r : Bool} → A ≡ any_below i p → r ≡ p i → (A || r) ≡ any_below (i + 1) p
any-gathered p i {A} {r} a e = ap₂ (λ (x y : Bool). x || y) a e ∙ or-cond (any_below i p) (p i) ∙ sym (ap (λ (n : ℕ). any_below n p) (add-one i))
  where
    or-cond : (x y : Bool) → (x || y) ≡ cond y true x
    or-cond true true = refl
    or-cond true false = refl
    or-cond false true = refl
    or-cond false false = refl

pub all-gathered : (p : ℕ → Bool) (i : ℕ) {A r : Bool} → A ≡ not (all_below i p) → r ≡ not (p i) → (A || r) ≡ not (all_below (i + 1) p)
all-gathered p i {A} {r} a e = ap₂ (λ (x y : Bool). x || y) a e ∙ or-both (all_below i p) (p i) ∙ sym (ap (λ (n : ℕ). not (all_below n p)) (add-one i))
  where
    or-both : (x y : Bool) → (not x || not y) ≡ not (both y x)
    or-both true true = refl
    or-both true false = refl
    or-both false true = refl
    or-both false false = refl
