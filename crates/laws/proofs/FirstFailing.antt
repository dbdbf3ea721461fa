-- The first of a list that fails a test: which one it is, and that there is none where all pass. By induction on the list. Assumes nothing.
use mathlib.Core.Path.{◌≡◌, refl, ◌∙◌, ap, ap₂, subst}
use mathlib.Core.Bool.{Bool, true, false, cond}
use mathlib.Core.List.{List, [], ◌∷◌, map}
use mathlib.Core.Option.{Option, some, none-ne-some, some-ne-none, some-injective}
use mathlib.Core.Option as O
use Prim.Native.Nat.{ℕ, zero, suc, ◌<◌}
use native.Mathlib.Nat.{le_of_suc-le-suc, not-suc-le-zero}
use native.Mathlib.Omega.{arith}
use lib.ListN.{length, get_or}
use Rattle.paper.specs.Lines.{first_failing}

pub first_passes : {A : Type 0} (p : A → Bool) (x : A) (l : List A) → p x ≡ true → first_failing p (x ∷ l) ≡ first_failing p l
unfolding first_failing
first_passes p x l e = rw e

pub first-fails : {A : Type 0} (p : A → Bool) (x : A) (l : List A) → p x ≡ false → first_failing p (x ∷ l) ≡ some x
unfolding first_failing
first-fails p x l e = rw e

-- of things by what they stand for
pub first-map : {A B : Type 0} (f : A → B) (p : B → Bool) (l : List A) → first_failing p (map f l) ≡ O.map f (first_failing (λ x. p (f x)) l)
unfolding first_failing
first-map f p [] = refl
first-map {A} {B} f p (x ∷ l) = go (p (f x)) (first-map f p l)
  where
    go : (b : Bool) → first_failing p (map f l) ≡ O.map f (first_failing (λ (y : A). p (f y)) l)
        → cond b (first_failing p (map f l)) (some (f x)) ≡ O.map f (cond b (first_failing (λ (y : A). p (f y)) l) (some x))
    go true ih = ih
    go false ih = refl

-- by a test that says the same of each
pub first-same : {A : Type 0} (p q : A → Bool) (l : List A) (z : A) → ((i : ℕ) → i < length l → p (get_or l i z) ≡ q (get_or l i z)) → first_failing p l ≡ first_failing q l
unfolding first_failing
first-same p q [] z h = refl
first-same {A} p q (x ∷ l) z h =
    ap₂ (λ (b : Bool) (r : Option A). cond b r (some x)) (h 0 (omega arith)) (first-same p q l z (λ i k. h (suc i) (omega arith)))

-- ---- none

pub none_passes : {A : Type 0} (p : A → Bool) (l : List A) (z : A) → first_failing p l ≡ O.none → (i : ℕ) → i < length l → p (get_or l i z) ≡ true
unfolding first_failing
none_passes p [] z e i h = absurd (not-suc-le-zero h)
none_passes {A} p (x ∷ l) z e i h = go (p x) refl (none_passes p l z) e i h
  where
    go : (b : Bool) → p x ≡ b → (first_failing p l ≡ O.none → (j : ℕ) → j < length l → p (get_or l j z) ≡ true)
        → cond b (first_failing p l) (some x) ≡ O.none → (j : ℕ) → j < length (x ∷ l) → p (get_or (x ∷ l) j z) ≡ true
    go true q ih r zero k = q
    go true q ih r (suc j) k = ih r j (le_of_suc-le-suc k)
    go false q ih r j k = absurd (some-ne-none x r)

pub passes_none : {A : Type 0} (p : A → Bool) (l : List A) (z : A) → ((i : ℕ) → i < length l → p (get_or l i z) ≡ true) → first_failing p l ≡ O.none
unfolding first_failing
passes_none p [] z h = refl
passes_none p (x ∷ l) z h = first_passes p x l (h 0 (omega arith)) ∙ passes_none p l z (λ i k. h (suc i) (omega arith))

-- ---- which one: it fails, and those before it pass

pub record FailsFirst {A : Type 0} (p : A → Bool) (l : List A) (z x : A) : Type 0 where
  pub at : ℕ
  pub inside : at < length l
  pub is : get_or l at z ≡ x
  pub fails : p x ≡ false
  pub before : (j : ℕ) → j < at → p (get_or l j z) ≡ true

pub first-is : {A : Type 0} (p : A → Bool) (l : List A) (z x : A) → first_failing p l ≡ some x → FailsFirst p l z x
unfolding first_failing
first-is p [] z x e = absurd (none-ne-some x e)
first-is {A} p (y ∷ l) z x e = go (p y) refl (first-is p l z x) e
  where
    passed : (n : ℕ) → p y ≡ true → ((j : ℕ) → j < n → p (get_or l j z) ≡ true) → (j : ℕ) → j < suc n → p (get_or (y ∷ l) j z) ≡ true
    passed n q f zero h = q
    passed n q f (suc j) h = f j (le_of_suc-le-suc h)

    go : (b : Bool) → p y ≡ b → (first_failing p l ≡ some x → FailsFirst p l z x) → cond b (first_failing p l) (some y) ≡ some x → FailsFirst p (y ∷ l) z x
    go true q ih r =
        let w = ih r in
        record { at = suc w.at; inside = omega (arith, w.inside); is = w.is; fails = w.fails; before = passed w.at q w.before }
    go false q ih r =
        let s : y ≡ x = some-injective y x r in
        record { at = 0; inside = omega arith; is = s; fails = subst (λ (v : A). p v ≡ false) s q; before = λ j h. absurd (not-suc-le-zero h) }

pub is-first : {A : Type 0} (p : A → Bool) (l : List A) (z x : A) → FailsFirst p l z x → first_failing p l ≡ some x
is-first p l z x w = go l w.at w.inside w.is w.before
  where
    go : (l : List _) (n : ℕ) → n < length l → get_or l n z ≡ x → ((j : ℕ) → j < n → p (get_or l j z) ≡ true) → first_failing p l ≡ some x
    go [] n h e f = absurd (not-suc-le-zero h)
    go (y ∷ l) zero h e f = first-fails p y l (ap p e ∙ w.fails) ∙ ap some e
    go (y ∷ l) (suc n) h e f = first_passes p y l (f 0 (omega arith)) ∙ go l n (le_of_suc-le-suc h) e (λ j k. f (suc j) (omega arith))
