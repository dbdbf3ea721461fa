-- Where a list ends, and that a short pointer reaches the end of every list: list by list. By the definitions and the laws of tests over numbers.
-- Assumes nothing.
use mathlib.Core.Path.{◌≡◌, refl, sym, ap, ap₂, ◌∙◌}
use mathlib.Core.Bool.{true, false}
use mathlib.Core.List.{List}
use Prim.Native.Nat.{ℕ, zero, suc, ◌+◌, ◌-◌, ◌<◌, ◌≤◌}
use native.Mathlib.Numerals.{add-one}
use native.Mathlib.Omega.{arith}
use borrow.Author.Tests.{le-leb}
use lib.Dec.{leb, leb→le}
use lib.ListN.{get_or}
use Rattle.paper.specs.Numbers.{both}
use Rattle.paper.specs.Packed.{farthest_short}
use Rattle.laws.proofs.Tests.{true-T, false-unless, all-at}
use Rattle.pack_scratch.specs.Parts.{orders, places, word_in}
use Rattle.pack_places.specs.Placing.{last_place, all_near}

module _ (C k : ℕ) (s : List ℕ) where
  pub last_none : (n : ℕ) → n ≡ 0 → 0 ≡ last_place C k n s
  unfolding last_place
  last_none n e = rw e

  pub last_some : (n : ℕ) → (n ≡ 0 → ⊥) → word_in C (places k) s (word_in C (orders k) s (n - 1)) ≡ last_place C k n s
  unfolding last_place
  last_some zero h = absurd (h refl)
  last_some (suc n) h = ap (λ (i : ℕ). word_in C (places k) s (word_in C (orders k) s i)) (omega arith)

module _ (C : ℕ) (counts s : List ℕ) where
  pub near_none : all_near C counts 0 s ≡ true
  unfolding all_near
  near_none = refl

  pub near_on : (k : ℕ) → all_near C counts k s ≡ true → last_place C k (get_or counts k 0) s ≤ farthest_short → all_near C counts (k + 1) s ≡ true
  unfolding all_near
  near_on k e h =
      ap (λ (j : ℕ). all_near C counts j s) (add-one k) ∙ ap₂ both (le-leb (last_place C k (get_or counts k 0) s) farthest_short h) e

  pub near-not : (k top : ℕ) → k < top → farthest_short < last_place C k (get_or counts k 0) s → false ≡ all_near C counts top s
  unfolding all_near
  near-not k top h l =
      sym (false-unless (all_near C counts top s) (λ e.
      omega (arith, leb→le (last_place C k (get_or counts k 0) s) farthest_short (all-at top (λ j. leb (last_place C j (get_or counts j 0) s) farthest_short) (true-T e) k h))))
