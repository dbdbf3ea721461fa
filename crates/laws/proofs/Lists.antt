-- Tests over lists, numbers found in lists, maps and tables: what each says of the list's elements by number. By induction on the list or on the
-- number of elements. Assumes nothing.
use mathlib.Core.Path.{◌≡◌, refl, sym, ◌∙◌, ap, ap₂, subst}
use mathlib.Core.Bool.{Bool, true, false, cond}
use mathlib.Core.List.{List, [], ◌∷◌, ◌++◌, map}
use mathlib.Core.Logic.{◌⊎◌, inl, inr}
use Prim.Native.Nat.{ℕ, zero, suc, ◌+◌, ◌*◌, ◌≤◌, ◌<◌}
use native.Mathlib.Nat.{le_of_suc-le-suc, not-suc-le-zero, mul-suc, mul-le-mul_left}
use native.Mathlib.Omega.{arith}
use borrow.Author.Tests.{eq-eqb, eqb-true}
use lib.Dec.{T, eqb, eqb→eq}
use lib.ListN.{length, get_or, replicate}
use Rattle.paper.specs.Numbers.{count, tabulate, all_in, is_in, index_in}
use Rattle.laws.proofs.Tests.{T_true}

-- ---- tests over a list

pub all_in-head {ℓ} : {A : Type ℓ} (p : A → Bool) (x : A) (l : List A) → T (all_in p (x ∷ l)) → T (p x)
unfolding all_in
all_in-head p x l t = go (p x) t
  where
    go : (b : Bool) → T (cond b (all_in p l) false) → T b
    go true s = tt
    go false s = s

pub all_in-tail {ℓ} : {A : Type ℓ} (p : A → Bool) (x : A) (l : List A) → T (all_in p (x ∷ l)) → T (all_in p l)
unfolding all_in
all_in-tail p x l t = go (p x) t
  where
    go : (b : Bool) → T (cond b (all_in p l) false) → T (all_in p l)
    go true s = s
    go false s = absurd s

-- a test that passes at each passes at number i; where there is none, if it passes at the default
pub all_in-at {ℓ} : {A : Type ℓ} (p : A → Bool) (d : A) → T (p d) → (l : List A) → T (all_in p l) → (i : ℕ) → T (p (get_or l i d))
all_in-at p d h [] t i = h
all_in-at p d h (x ∷ l) t zero = all_in-head p x l t
all_in-at p d h (x ∷ l) t (suc i) = all_in-at p d h l (all_in-tail p x l t) i

pub all_in-in {ℓ} : {A : Type ℓ} (p : A → Bool) (d : A) (l : List A) → T (all_in p l) → (i : ℕ) → i < length l → T (p (get_or l i d))
all_in-in p d [] t i h = absurd (not-suc-le-zero h)
all_in-in p d (x ∷ l) t zero h = all_in-head p x l t
all_in-in p d (x ∷ l) t (suc i) h = all_in-in p d l (all_in-tail p x l t) i (le_of_suc-le-suc h)

pub all_in-T {ℓ} : {A : Type ℓ} (p : A → Bool) (d : A) (l : List A) → ((i : ℕ) → i < length l → T (p (get_or l i d))) → T (all_in p l)
unfolding all_in
all_in-T p d [] h = tt
all_in-T p d (x ∷ l) h = rw (T_true {b = p x} (h 0 (omega arith))) (all_in-T p d l (λ i m. h (suc i) (omega arith)))

-- ---- numbers in a list

-- where x stands
pub record At (x : ℕ) (l : List ℕ) : Type 0 where
  pub inside : index_in x l < length l
  pub is : get_or l (index_in x l) 0 ≡ x

pub is_in-at : (x : ℕ) (l : List ℕ) → T (is_in x l) → At x l
unfolding is_in index_in
is_in-at x [] t = absurd t
is_in-at x (y ∷ l) t = go (eqb y x) refl t (is_in-at x l)
  where
    go : (b : Bool) → eqb y x ≡ b → T (cond b true (is_in x l)) → (T (is_in x l) → At x l) → At x (y ∷ l)
    go true e s ih = record { inside = rw e (omega arith); is = rw e (eqb-true y x e) }
    go false e s ih = record { inside = rw e (omega (arith, (ih s).inside)); is = rw e (ih s).is }

pub in-nil : (x : ℕ) → T (is_in x []) → ⊥
unfolding is_in
in-nil x t = t

-- one of a list is its first, or one of the others
pub in_head : (x : ℕ) (l : List ℕ) → T (is_in x (x ∷ l))
unfolding is_in
in_head x l = rw (eq-eqb x x refl) tt

pub in-later : (x y : ℕ) (l : List ℕ) → T (is_in x l) → T (is_in x (y ∷ l))
unfolding is_in
in-later x y l t = go (eqb y x)
  where
    go : (b : Bool) → T (cond b true (is_in x l))
    go true = tt
    go false = t

pub in-cons : (x y : ℕ) (l : List ℕ) → T (is_in x (y ∷ l)) → (y ≡ x) ⊎ T (is_in x l)
unfolding is_in
in-cons x y l t = go (eqb y x) refl t
  where
    go : (b : Bool) → eqb y x ≡ b → T (cond b true (is_in x l)) → (y ≡ x) ⊎ T (is_in x l)
    go true e s = inl (eqb-true y x e)
    go false e s = inr s

pub is_in-get_or : (l : List ℕ) (i : ℕ) → i < length l → T (is_in (get_or l i 0) l)
is_in-get_or [] i h = absurd (not-suc-le-zero h)
is_in-get_or (y ∷ l) zero h = in_head y l
is_in-get_or (y ∷ l) (suc i) h = in-later (get_or l i 0) y l (is_in-get_or l i (le_of_suc-le-suc h))

-- a test that passes at each passes at one of them
pub all_in-is_in : (f : ℕ → Bool) (l : List ℕ) (x : ℕ) → T (all_in f l) → T (is_in x l) → T (f x)
all_in-is_in f l x t i = let a : At x l = is_in-at x l i in subst (λ (y : ℕ). T (f y)) a.is (all_in-in f 0 l t (index_in x l) a.inside)

-- no number twice: each is found under its own number
abbrev pub Once : List ℕ → Type 0
Once l = (i j : ℕ) → i < length l → j < length l → get_or l i 0 ≡ get_or l j 0 → i ≡ j

pub index-get_or : (l : List ℕ) → Once l → (q : ℕ) → q < length l → index_in (get_or l q 0) l ≡ q
index-get_or l once q h =
    let a : At (get_or l q 0) l = is_in-at (get_or l q 0) l (is_in-get_or l q h) in
    once (index_in (get_or l q 0) l) q a.inside h a.is

-- ---- one more at the end

pub length-snoc {ℓ} : {A : Type ℓ} (l : List A) (x : A) → length (l ++ (x ∷ [])) ≡ suc (length l)
length-snoc [] x = refl
length-snoc (y ∷ l) x = ap suc (length-snoc l x)

-- ---- maps

pub map_at : {A B : Type 0} (f : A → B) (l : List A) (i : ℕ) (d : A) (e : B) → i < length l → get_or (map f l) i e ≡ f (get_or l i d)
map_at f [] i d e h = absurd (not-suc-le-zero h)
map_at f (x ∷ l) zero d e h = refl
map_at f (x ∷ l) (suc i) d e h = map_at f l i d e (le_of_suc-le-suc h)

pub map-append : {A B : Type 0} (f : A → B) (l r : List A) → map f (l ++ r) ≡ map f l ++ map f r
map-append f [] r = refl
map-append f (x ∷ l) r = ap (◌∷◌ (f x)) (map-append f l r)

pub all_in-map : {A B : Type 0} (p : B → Bool) (g : A → B) (l : List A) → all_in p (map g l) ≡ all_in (λ x. p (g x)) l
unfolding all_in
all_in-map p g [] = refl
all_in-map p g (x ∷ l) = ap (λ (r : Bool). cond (p (g x)) r false) (all_in-map p g l)

-- ---- tables

pub get_or-tabulate : {A : Type 0} (n a j : ℕ) (f : ℕ → A) (d : A) → j < n → get_or (tabulate a n f) j d ≡ f (a + j)
unfolding tabulate
get_or-tabulate zero a j f d h = absurd (not-suc-le-zero h)
get_or-tabulate (suc n) a zero f d h = ap f (omega arith)
get_or-tabulate (suc n) a (suc j) f d h = get_or-tabulate n (suc a) j f d (le_of_suc-le-suc h) ∙ ap f (omega arith)

pub length-tabulate : {A : Type 0} (n a : ℕ) (f : ℕ → A) → length (tabulate a n f) ≡ n
unfolding tabulate
length-tabulate zero a f = refl
length-tabulate (suc n) a f = ap suc (length-tabulate n (suc a) f)

pub tabulate-same : {A : Type 0} (a n : ℕ) (f g : ℕ → A) → ((j : ℕ) → j < a + n → f j ≡ g j) → tabulate a n f ≡ tabulate a n g
unfolding tabulate
tabulate-same a zero f g e = refl
tabulate-same a (suc n) f g e = ap₂ ◌∷◌ (e a (omega arith)) (tabulate-same (suc a) n f g (λ j h. e j (omega arith)))

pub tabulate-shift : {A : Type 0} (a n : ℕ) (f : ℕ → A) → tabulate (suc a) n f ≡ tabulate a n (λ i. f (suc i))
unfolding tabulate
tabulate-shift a zero f = refl
tabulate-shift a (suc n) f = ap (◌∷◌ (f (suc a))) (tabulate-shift (suc a) n f)

pub length-count : (n a : ℕ) → length (count a n) ≡ n
unfolding count
length-count zero a = refl
length-count (suc n) a = ap suc (length-count n (suc a))

pub get_or-count : (n a j : ℕ) → j < n → get_or (count a n) j 0 ≡ a + j
unfolding count
get_or-count zero a j h = absurd (not-suc-le-zero h)
get_or-count (suc n) a zero h = omega arith
get_or-count (suc n) a (suc j) h = get_or-count n (suc a) j (le_of_suc-le-suc h) ∙ omega arith

pub count-below : (n x : ℕ) → T (is_in x (count 0 n)) → x < n
count-below n x t =
    let a : At x (count 0 n) = is_in-at x (count 0 n) t in
    let i : index_in x (count 0 n) < n = omega (arith, a.inside, length-count n 0) in
    omega (arith, i, a.is, get_or-count n 0 (index_in x (count 0 n)) i)

-- ---- zeros

pub zeros-at : (n i : ℕ) → ◌≡◌ {A = ℕ} (get_or (replicate n 0) i 0) 0
zeros-at zero i = refl
zeros-at (suc n) zero = refl
zeros-at (suc n) (suc i) = zeros-at n i

pub zeros_of : (l : List ℕ) → T (all_in (eqb 0) l) → l ≡ replicate (length l) 0
zeros_of [] t = refl
zeros_of (x ∷ l) t = ap₂ ◌∷◌ (sym (eqb→eq 0 x (all_in-head (eqb 0) x l t))) (zeros_of l (all_in-tail (eqb 0) x l t))

pub zeros-pass : (n : ℕ) → all_in (eqb 0) (replicate n 0) ≡ true
unfolding all_in
zeros-pass zero = refl
zeros-pass (suc n) = zeros-pass n

-- ---- rows of so many elements: an earlier one ends where a later one starts, or before

pub row_before : (width i j : ℕ) → i < j → width * i + width ≤ width * j
row_before width i j h = omega (arith, mul-suc width i, mul-le-mul_left {m = suc i} {n = j} width h)
