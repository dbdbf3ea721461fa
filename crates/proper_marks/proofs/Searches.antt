-- Loops that look for a number below n that passes a test, and the rules of a list as such a search; two tests one after the other. By the tests' own
-- laws. Assumes nothing.
use mathlib.Core.Path.{◌≡◌, refl, sym, ◌∙◌, ap}
use mathlib.Core.Bool.{Bool, true, false, false≢true, cond, not, ◌&&◌}
use mathlib.Core.List.{List, [], ◌∷◌}
use Prim.Native.Nat.{ℕ, zero, suc, ◌+◌, ◌≤◌}
use native.Mathlib.Nat.{le_antisymm}
use native.Mathlib.Numerals.{add-one}
use native.Mathlib.Omega.{arith}
use lib.ListN.{length, get_or}
use Rattle.paper.specs.Numbers.{both, all_below, any_below, all_in, count}
use Rattle.paper.specs.Packed.{leaf_ok}
use Rattle.laws.proofs.Tests.{not-not, any_same}
use Rattle.laws.proofs.Lists.{length-count, get_or-count}

-- ---- a search by rising numbers

pub any-more : (i : ℕ) (p : ℕ → Bool) → any_below i p ≡ false → p i ≡ false → any_below (i + 1) p ≡ false
any-more i p e q = ap (λ (n : ℕ). any_below n p) (add-one i) ∙ rw q e

pub any-end : (i n : ℕ) (p : ℕ → Bool) → i ≤ n → n ≤ i → any_below i p ≡ false → any_below n p ≡ false
any-end i n p a b e = ap (λ (m : ℕ). any_below m p) (le_antisymm b a) ∙ e

-- 'not all' is 'some not'
pub not-all : (n : ℕ) (p : ℕ → Bool) → not (all_below n p) ≡ any_below n (λ i. not (p i))
not-all zero p = refl
not-all (suc n) p = go (p n) (not-all n p)
  where
    go : (b : Bool) → not (all_below n p) ≡ any_below n (λ i. not (p i)) → not (both b (all_below n p)) ≡ cond (not b) true (any_below n (λ i. not (p i)))
    go true ih = ih
    go false ih = refl

pub not-all-not : (n : ℕ) (p : ℕ → Bool) → not (all_below n (λ i. not (p i))) ≡ any_below n p
not-all-not n p = not-all n (λ i. not (p i)) ∙ any_same n (λ i. not (not (p i))) p (λ i h. not-not (p i))

-- 'some' below one more, from the front
pub any-front : (n : ℕ) (p : ℕ → Bool) → any_below (suc n) p ≡ cond (p 0) true (any_below n (λ i. p (suc i)))
any-front zero p = refl
any-front (suc n) p = go (p (suc n)) (p 0) (any-front n p)
  where
    go : (a b : Bool) → any_below (suc n) p ≡ cond b true (any_below n (λ i. p (suc i)))
        → cond a true (any_below (suc n) p) ≡ cond b true (cond a true (any_below n (λ i. p (suc i))))
    go true true e = refl
    go true false e = refl
    go false true e = e
    go false false e = e

-- of a list, by its numbers
pub not-all_in {ℓ} : {A : Type ℓ} (p : A → Bool) (d : A) (l : List A) → not (all_in p l) ≡ any_below (length l) (λ i. not (p (get_or l i d)))
unfolding all_in
not-all_in p d [] = refl
not-all_in p d (x ∷ l) = go (p x) (not-all_in p d l) ∙ sym (any-front (length l) (λ i. not (p (get_or (x ∷ l) i d))))
  where
    go : (b : Bool) → not (all_in p l) ≡ any_below (length l) (λ i. not (p (get_or l i d)))
        → not (cond b (all_in p l) false) ≡ cond (not b) true (any_below (length l) (λ i. not (p (get_or l i d))))
    go true ih = ih
    go false ih = refl

-- a leaf is zero
pub leaves-bad-is : (l : List ℕ) (n : ℕ) → not (all_in (leaf_ok l) (count 0 n)) ≡ any_below n (λ i. not (leaf_ok l i))
leaves-bad-is l n =
    not-all_in (leaf_ok l) 0 (count 0 n) ∙ ap (λ (m : ℕ). any_below m (λ i. not (leaf_ok l (get_or (count 0 n) i 0)))) (length-count n 0)
    ∙ any_same n (λ i. not (leaf_ok l (get_or (count 0 n) i 0))) (λ i. not (leaf_ok l i))
    (λ i h. ap (λ (j : ℕ). not (leaf_ok l j)) (get_or-count n 0 i h ∙ omega arith))

-- ---- two tests one after the other

pub bad-first : (a b r : Bool) → r ≡ not a → r ≡ true → true ≡ not (a && b)
bad-first true b r e q = absurd (false≢true (sym e ∙ q))
bad-first false b r e q = refl

pub bad-second : (a b r s : Bool) → r ≡ not a → r ≡ false → s ≡ not b → s ≡ not (a && b)
bad-second true b r s e q f = f
bad-second false b r s e q f = absurd (false≢true (sym q ∙ e))
