-- Whether all of a list pass, by what is left of it: tested one after the other from the front;
-- and two tests one after the other. By the tests passed. Assumes nothing.
use mathlib.Core.Path.{◌≡◌, refl, sym, ◌∙◌}
use mathlib.Core.Bool.{Bool, true, false, false≢true, not, ◌&&◌}
use mathlib.Core.List.{List}
use Prim.Native.Nat.{ℕ, ◌+◌, ◌<◌, ◌≤◌}
use native.Mathlib.Numerals.{add-one}
use lib.ListN.{length, get_or, drop}
use lib.Seq.{drop-cons}
use Rattle.std.proofs.lemmas.List.{drop_all}
use Rattle.paper.specs.Numbers.{all_in}

module _ {A : Type 0} (f : A → Bool) (d : A) (l : List A) (i : ℕ) where
  pub front_passes : i < length l → f (get_or l i d) ≡ true → all_in f (drop i l) ≡ all_in f (drop (i + 1) l)
  unfolding all_in
  front_passes h e = rw (add-one, drop-cons l i d h, e)

  pub front-fails : i < length l → f (get_or l i d) ≡ false → all_in f (drop i l) ≡ false
  unfolding all_in
  front-fails h e = rw (drop-cons l i d h, e)

  pub front_done : length l ≤ i → all_in f (drop i l) ≡ true
  unfolding all_in
  front_done h = rw (drop_all i l h)

-- ---- two tests one after the other, the second by what it finds

pub first_fails : (a b : Bool) → false ≡ a → false ≡ a && b
first_fails true b e = absurd (false≢true e)
first_fails false b e = refl

module _ (a b : Bool) (e : true ≡ a) (found : Bool) (q : found ≡ not b) where
  pub second_fails : found ≡ true → false ≡ a && b
  second_fails f = rw (← e) (go b (sym q ∙ f))
    where
      go : (b : Bool) → not b ≡ true → false ≡ b
      go true n = n
      go false n = refl

  pub both_pass : found ≡ false → true ≡ a && b
  both_pass f = rw (← e) (go b (sym q ∙ f))
    where
      go : (b : Bool) → not b ≡ false → true ≡ b
      go true n = refl
      go false n = n
