-- The first number that passes: a loop that counts up finds what `lowest` finds.
-- By the clauses of `lowest`, on how many numbers are left. Assumes nothing.
use mathlib.Core.Path.{◌≡◌, refl, sym, ap, ap₂, subst, ◌∙◌}
use mathlib.Core.Bool.{Bool, true, false, cond}
use mathlib.Core.Option.{Option, some}
use mathlib.Core.Option as O
use Prim.Native.Nat.{ℕ, zero, suc, ◌+◌, ◌-◌, ◌<◌, ◌≤◌}
use native.Mathlib.Numerals.{add-one}
use native.Mathlib.Omega.{arith}
use Rattle.paper.specs.Match.{lowest}
use Rattle.laws.proofs.Seeking.{Lowest, lowest-is}

-- ---- the loop: an answer A that is still that of the numbers from n on

-- what is left at n
abbrev pub from : ℕ → (ℕ → Bool) → ℕ → Option ℕ
from end p n = lowest (end - n) n p

pub first-start : (end : ℕ) (p : ℕ → Bool) → lowest end 0 p ≡ from end p 0
first-start end p = let e : end - 0 ≡ end = omega arith in rw e

step : (end : ℕ) (p : ℕ → Bool) (n : ℕ) → n < end → from end p n ≡ cond (p n) (some n) (lowest (end - (n + 1)) (n + 1) p)
unfolding lowest
step end p n h = let e : end - n ≡ suc (end - (n + 1)) = omega arith in rw (e, add-one n)

module _ (end : ℕ) (p : ℕ → Bool) (n : ℕ) {A : Option ℕ} where
  pub first-stop : A ≡ from end p n → n < end → p n ≡ true → some n ≡ A
  first-stop a h e = sym (a ∙ step end p n h ∙ ap (λ (b : Bool). cond b (some n) (lowest (end - (n + 1)) (n + 1) p)) e)

  pub first-still : A ≡ from end p n → n < end → p n ≡ false → A ≡ from end p (n + 1)
  first-still a h e = a ∙ step end p n h ∙ ap (λ (b : Bool). cond b (some n) (lowest (end - (n + 1)) (n + 1) p)) e

  pub first-over : A ≡ from end p n → end ≤ n → O.none ≡ A
  unfolding lowest
  first-over a h = let e : end - n ≡ 0 = omega arith in sym (a ∙ ap (λ (m : ℕ). lowest m n p) e)

-- ---- tests that agree

pub lowest-same : (n t : ℕ) (p q : ℕ → Bool) → ((u : ℕ) → u < t + n → p u ≡ q u) → lowest n t p ≡ lowest n t q
unfolding lowest
lowest-same zero t p q e = refl
lowest-same (suc n) t p q e =
    ap₂ (λ (b : Bool) (r : Option ℕ). cond b (some t) r) (e t (omega arith)) (lowest-same n (suc t) p q (λ u h. e u (omega arith)))

-- ---- what was found is below the end

pub found-below : (end : ℕ) (p : ℕ → Bool) {t : ℕ} → some t ≡ lowest end 0 p → t < end
found-below end p {t} e = let found : Lowest p 0 end (some t) = subst (Lowest p 0 end) (sym e) (lowest-is end 0 p) in omega (arith, found.1)
