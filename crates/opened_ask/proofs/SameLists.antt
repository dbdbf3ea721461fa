-- Two lists of numbers compared place by place: what is gathered before a place, and what the places from there on say. By the place at hand.
-- Assumes nothing.
use mathlib.Core.Path.{◌≡◌, refl, ◌∙◌, ap}
use mathlib.Core.Bool.{Bool, true, false, not, cond, ◌&&◌, ◌||◌}
use mathlib.Core.List.{List, ◌∷◌}
use Prim.Native.Nat.{ℕ, ◌+◌, ◌<◌, ◌≤◌}
use native.Mathlib.Numerals.{add-one}
use borrow.Author.Tests.{eq-eqb, ne_eqb, eqb-true, eqb-false}
use lib.Dec.{eqb}
use lib.ListN.{length, drop, get_or, drop_of_length-le}
use lib.Seq.{drop-cons}
use Rattle.paper.specs.Numbers.{same_list}
use Rattle.paper.specs.Store.{heights}

-- place k decides, or those after it
same_next : (a b : List ℕ) (k : ℕ) → k < length a → k < length b → get_or a k 0 ≡ get_or b k 0
    → same_list (drop k a) (drop k b) ≡ same_list (drop (k + 1) a) (drop (k + 1) b)
unfolding same_list
same_next a b k ha hb e = rw (drop-cons a k 0 ha, drop-cons b k 0 hb, eq-eqb (get_or a k 0) (get_or b k 0) e, add-one k) refl

same_not : (a b : List ℕ) (k : ℕ) → k < length a → k < length b → (get_or a k 0 ≡ get_or b k 0 → ⊥) → same_list (drop k a) (drop k b) ≡ false
unfolding same_list
same_not a b k ha hb n = rw (drop-cons a k 0 ha, drop-cons b k 0 hb, ne_eqb (get_or a k 0) (get_or b k 0) n) refl

same_first : (a b : List ℕ) (k : ℕ) → k < length a → k < length b
    → same_list (drop k a) (drop k b) ≡ (eqb (get_or a k 0) (get_or b k 0) && same_list (drop (k + 1) a) (drop (k + 1) b))
same_first a b k ha hb = go (eqb (get_or a k 0) (get_or b k 0)) refl
  where
    go : (t : Bool) → eqb (get_or a k 0) (get_or b k 0) ≡ t → same_list (drop k a) (drop k b) ≡ (t && same_list (drop (k + 1) a) (drop (k + 1) b))
    go true e = same_next a b k ha hb (eqb-true (get_or a k 0) (get_or b k 0) e)
    go false e = same_not a b k ha hb (eqb-false (get_or a k 0) (get_or b k 0) e)

-- what was gathered before place k, with that place, and what the places after it say
pub same-gathered : (a b : List ℕ) (k : ℕ) (A : Bool) {B : Bool} → k < length a → k < length b → B ≡ (A || not (same_list (drop k a) (drop k b)))
    → B ≡ (A || not (eqb (get_or a k 0) (get_or b k 0)) || not (same_list (drop (k + 1) a) (drop (k + 1) b)))
same-gathered a b k A ha hb g =
    g ∙ ap (λ (t : Bool). A || not t) (same_first a b k ha hb) ∙ regroup A (eqb (get_or a k 0) (get_or b k 0)) (same_list (drop (k + 1) a) (drop (k + 1) b))
  where
    regroup : (x y z : Bool) → (x || not (y && z)) ≡ (x || not y || not z)
    regroup true y z = refl
    regroup false true z = refl
    regroup false false z = refl

-- the first number, and those after it
pub same_head : (x y : ℕ) (a b : List ℕ) → not (same_list (x ∷ a) (y ∷ b)) ≡ (not (eqb x y) || not (same_list a b))
unfolding same_list
same_head x y a b = go (eqb x y)
  where
    go : (t : Bool) → not (cond t (same_list a b) false) ≡ (not t || not (same_list a b))
    go true = refl
    go false = refl

pub same_end : (a b : List ℕ) (k : ℕ) → length a ≤ k → length b ≤ k → same_list (drop k a) (drop k b) ≡ true
unfolding same_list
same_end a b k ha hb = rw (drop_of_length-le a {i = k} ha, drop_of_length-le b {i = k} hb) refl

-- before place k of two lists of a number for each height: what is gathered so far, or what the places from k on say, is the answer
pub record Gathering (a b : List ℕ) (answer found : Bool) (k : ℕ) : Type 0 where
  pub low : k ≤ heights
  pub many : length a ≡ heights
  pub held : length b ≡ heights
  pub says : answer ≡ (found || not (same_list (drop k a) (drop k b)))
