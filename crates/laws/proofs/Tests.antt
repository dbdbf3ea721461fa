-- Tests passed and what they say: conjunctions, and tests over all or any of the numbers below n. By cases of the tests and induction on n.
-- Assumes nothing.
use mathlib.Core.Path.{◌≡◌, refl, sym, ◌∙◌, ap, ap₂}
use mathlib.Core.Bool.{Bool, true, false, false≢true, cond, not, ◌&&◌, ◌||◌, beq}
use mathlib.Core.Logic.{◌⊎◌, inl, inr}
use Prim.Native.Nat.{ℕ, zero, suc, ◌<◌}
use native.Mathlib.Nat.{le_of_suc-le-suc, not-suc-le-zero, le_refl, eq-or-lt_of_le}
use native.Mathlib.Omega.{arith}
use borrow.Author.Tests.{leb-true, leb-false, lt-ltb, le-ltb}
use lib.Dec.{T, leb, ltb}
use Rattle.paper.specs.Numbers.{both, all_below, any_below}

-- ---- one test

pub T_true : {b : Bool} → T b → b ≡ true
T_true {b = true} t = refl
T_true {b = false} t = absurd t

pub true-T : {b : Bool} → b ≡ true → T b
true-T e = rw e tt

-- false where its negation holds
pub not-false : (b : Bool) → T (not b) → b ≡ false
not-false true t = absurd t
not-false false t = refl

-- false, or it would be true
pub not-not : (b : Bool) → not (not b) ≡ b
not-not true = refl
not-not false = refl

pub ltb-not : (a b : ℕ) → ltb a b ≡ not (leb b a)
ltb-not a b = go (leb b a) refl
  where
    go : (t : Bool) → leb b a ≡ t → ltb a b ≡ not t
    go true e = le-ltb a b (leb-true b a e)
    go false e = lt-ltb a b (leb-false b a e)

pub false-unless : (b : Bool) → (b ≡ true → ⊥) → b ≡ false
false-unless true n = absurd (n refl)
false-unless false n = refl

pub beq-eq : (a b : Bool) → T (beq a b) → a ≡ b
beq-eq true true t = refl
beq-eq true false t = absurd t
beq-eq false true t = absurd t
beq-eq false false t = refl

-- two tests that pass together are equal
pub iff-eq : (a b : Bool) → (T a → T b) → (T b → T a) → a ≡ b
iff-eq true b f g = sym (T_true {b = b} (f tt))
iff-eq false true f g = absurd (g tt)
iff-eq false false f g = refl

-- one of two
pub or_split : (a b : Bool) → T (a || b) → T a ⊎ T b
or_split true b t = inl tt
or_split false b t = inr t

-- ---- conjunctions

pub both_left : (a b : Bool) → T (both a b) → T a
both_left true b t = tt
both_left false b t = t

pub both_right : (a b : Bool) → T (both a b) → T b
both_right true b t = t
both_right false b t = absurd t

pub both-T : (a b : Bool) → T a → T b → T (both a b)
both-T true b s t = t
both-T false b s t = s

pub and_left : (a b : Bool) → T (a && b) → T a
and_left true b t = tt
and_left false b t = t

pub and_right : (a b : Bool) → T (a && b) → T b
and_right true b t = t
and_right false b t = absurd t

pub and_T : (a b : Bool) → T a → T b → T (a && b)
and_T true b s t = t
and_T false b s t = s

pub and-true : (b : Bool) → b && true ≡ b
and-true true = refl
and-true false = refl

pub and5 : (a b c d e : Bool) → T (a && b && c && d && e) → T a × T b × T c × T d × T e
and5 a b c d e t =
    let u : T (a && b && c && d) = and_left (a && b && c && d) e t in
    let v : T (a && b && c) = and_left (a && b && c) d u in
    let w : T (a && b) = and_left (a && b) c v in
    (and_left a b w, and_right a b w, and_right (a && b) c v, and_right (a && b && c) d u, and_right (a && b && c && d) e t)

pub and4 : (a b c d : Bool) → T (a && b && c && d) → T a × T b × T c × T d
and4 a b c d t = let q = and5 true a b c d t in (q.1, q.2, q.3, q.4)

pub and5-T : (a b c d e : Bool) → T a → T b → T c → T d → T e → T (a && b && c && d && e)
and5-T a b c d e p q r s t = and_T (a && b && c && d) e (and_T (a && b && c) d (and_T (a && b) c (and_T a b p q) r) s) t

-- ---- every number below n

pub all-at : (n : ℕ) (p : ℕ → Bool) → T (all_below n p) → (i : ℕ) → i < n → T (p i)
all-at zero p t i h = absurd (not-suc-le-zero h)
all-at (suc n) p t i h =
    elim (eq-or-lt_of_le (le_of_suc-le-suc h)) [
      | inl e ↦ rw e (both_left (p n) (all_below n p) t)
      | inr l ↦ all-at n p (both_right (p n) (all_below n p) t) i l
    ]

pub all-at2 : (n m : ℕ) (p : ℕ → ℕ → Bool) → T (all_below n (λ i. all_below m (p i))) → (i j : ℕ) → i < n → j < m → T (p i j)
all-at2 n m p t i j hi hj = all-at m (p i) (all-at n (λ k. all_below m (p k)) t i hi) j hj

pub all-T : (n : ℕ) (p : ℕ → Bool) → ((i : ℕ) → i < n → T (p i)) → T (all_below n p)
all-T zero p h = tt
all-T (suc n) p h = both-T (p n) (all_below n p) (h n (le_refl (suc n))) (all-T n p (λ i l. h i (omega arith)))

pub all_same : (n : ℕ) (p q : ℕ → Bool) → ((i : ℕ) → i < n → p i ≡ q i) → all_below n p ≡ all_below n q
all_same zero p q h = refl
all_same (suc n) p q h = ap₂ both (h n (le_refl (suc n))) (all_same n p q (λ i l. h i (omega arith)))

-- ---- some number below n

pub any_at : (n : ℕ) (p : ℕ → Bool) → any_below n p ≡ true → (i : ℕ) × (i < n) × (p i ≡ true)
any_at zero p e = absurd (true-T {b = false} e)
any_at (suc n) p e = go (p n) refl (any_at n p) e
  where
    go : (b : Bool) → p n ≡ b → (any_below n p ≡ true → (i : ℕ) × (i < n) × (p i ≡ true)) → cond b true (any_below n p) ≡ true
        → (i : ℕ) × (i < suc n) × (p i ≡ true)
    go true q ih h = (n, le_refl (suc n), q)
    go false q ih h = let w : (i : ℕ) × (i < n) × (p i ≡ true) = ih h in (w.0, omega (arith, w.1), w.2)

pub at-any : (n : ℕ) (p : ℕ → Bool) (i : ℕ) → i < n → p i ≡ true → any_below n p ≡ true
at-any zero p i h e = absurd (not-suc-le-zero h)
at-any (suc n) p i h e = go (eq-or-lt_of_le (le_of_suc-le-suc h)) (p n) refl (at-any n p i)
  where
    go : (i ≡ n) ⊎ (i < n) → (b : Bool) → p n ≡ b → (i < n → p i ≡ true → any_below n p ≡ true) → cond b true (any_below n p) ≡ true
    go o true q ih = refl
    go (inl s) false q ih = absurd (true-T {b = false} (sym q ∙ ap p (sym s) ∙ e))
    go (inr l) false q ih = ih l e

pub any_same : (n : ℕ) (p q : ℕ → Bool) → ((i : ℕ) → i < n → p i ≡ q i) → any_below n p ≡ any_below n q
any_same zero p q e = refl
any_same (suc n) p q e = ap₂ (λ (a b : Bool). cond a true b) (e n (le_refl (suc n))) (any_same n p q (λ i h. e i (omega arith)))

-- ---- no number below n

pub none-at : (n : ℕ) (p : ℕ → Bool) → any_below n p ≡ false → (i : ℕ) → i < n → p i ≡ false
none-at n p e i h = false-unless (p i) (λ q. false≢true (sym e ∙ at-any n p i h q))

pub none-T : (n : ℕ) (p : ℕ → Bool) → ((i : ℕ) → i < n → p i ≡ false) → any_below n p ≡ false
none-T n p h =
    false-unless (any_below n p) (λ q. let w : (i : ℕ) × (i < n) × (p i ≡ true) = any_at n p q in false≢true (sym (h w.0 w.1) ∙ w.2))
