-- Words that are all zero, one after the other: a first word decides or leaves the rest, and of none nothing is left. By what the list has from a word
-- on. Assumes nothing.
use mathlib.Core.Path.{◌≡◌, refl, sym, ap, ◌∙◌}
use mathlib.Core.Bool.{Bool, true, false, not, ◌&&◌, ◌||◌, or-false}
use mathlib.Core.List.{List, []}
use Prim.Native.Nat.{ℕ, suc, ◌+◌, ◌≤◌, ◌<◌}
use native.Mathlib.Numerals.{add-one}
use lib.ListN.{length, drop, get_or}
use lib.Seq.{drop-cons}
use Rattle.std.proofs.lemmas.List.{drop_all}
use lib.Dec.{eqb}
use borrow.Author.Tests.{ne_eqb, eqb-true, eqb-false}
use Rattle.paper.specs.Numbers.{all_in}

-- all words are zero
abbrev pub all_zero : List ℕ → Bool
all_zero l = all_in (eqb 0) l

module _ (l : List ℕ) (i : ℕ) where
  first_word : i < length l → all_zero (drop i l) ≡ (eqb (get_or l i 0) 0 && all_zero (drop (i + 1) l))
  unfolding all_in
  first_word h = go (eqb (get_or l i 0) 0) refl
    where
      go : (b : Bool) → eqb (get_or l i 0) 0 ≡ b → all_zero (drop i l) ≡ (b && all_zero (drop (i + 1) l))
      go true t = rw (drop-cons l i 0 h, add-one i, eqb-true (get_or l i 0) 0 t)
      go false f = rw (drop-cons l i 0 h, ne_eqb 0 (get_or l i 0) (λ q. eqb-false (get_or l i 0) 0 f (sym q)))

  -- what was gathered before word i, with that word, and what the words from i on say
  pub blank-gathered : i < length l → (A : Bool) {B : Bool} → B ≡ (A || not (all_zero (drop i l))) → B ≡ (A || not (eqb (get_or l i 0) 0) || not (all_zero (drop (i + 1) l)))
  blank-gathered h A {B} g = g ∙ ap (λ (b : Bool). A || not b) (first_word h) ∙ regroup A (eqb (get_or l i 0) 0) (all_zero (drop (i + 1) l))
    where
      regroup : (x y z : Bool) → (x || not (y && z)) ≡ (x || not y || not z)
      regroup true y z = refl
      regroup false true z = refl
      regroup false false z = refl

  -- all of them
  pub blank-all : length l ≤ i → (A : Bool) {B : Bool} → B ≡ (A || not (all_zero (drop i l))) → B ≡ A
  unfolding all_in
  blank-all h A g = g ∙ ap (λ (r : List ℕ). A || not (all_zero r)) (drop_all i l h) ∙ or-false A
