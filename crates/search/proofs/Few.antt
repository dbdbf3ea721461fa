-- How many cells a search can enter: at most 8^15 by each child of a cell, whatever the words are; so the sum of eight fits. Assumes nothing.
use mathlib.Core.Path.{◌≡◌, refl, sym, ap, ◌∙◌}
use mathlib.Core.Bool.{Bool, true, false, cond, true≢false}
use mathlib.Core.List.{List}
use Prim.Native.Nat.{ℕ, suc, ◌+◌, ◌*◌, ◌^◌, ◌<◌, ◌≤◌}
use native.Mathlib.Omega.{arith}
use lib.Dec.{leb, leb→le}
use Rattle.paper.specs.Rooms.{Point}
use Rattle.paper.specs.Store.{Cell, heights}
use Rattle.std.specs.Prelude.{Result, Ok, Err, IsErr}
use Rattle.paper.specs.declared.Searched.{Searched}
use Rattle.paper.specs.declared.Damaged.{Damaged as Unsound}
use Rattle.paper.specs.Anything.{Search, search_of, cell_search}
use Rattle.paper.specs.Anything.{Met, Passed, Damaged}
use Rattle.laws.proofs.Tests.{all-at}
use Rattle.laws.proofs.SearchLaws.{search-most-met, search-most-passed}

abbrev pub most_entered : ℕ
most_entered = 35184372088832

-- what a loop over the children may have entered before child i
abbrev pub entered_before : ℕ → ℕ
entered_before i = most_entered * (i + 1)

height-most : (k : ℕ) → k < heights → 8 ^ suc k ≤ most_entered
height-most k h = leb→le (8 ^ suc k) most_entered (all-at 15 (λ j. leb (8 ^ suc j) most_entered) tt k h)

module _ (K : List (List Cell)) (k : ℕ) (h : k < heights) (n m : ℕ) (low high : Point) (e : ℕ) where
  pub met-fits : cell_search K k n m low high ≡ Met e → e ≤ most_entered
  met-fits q = omega (arith, search-most-met K k n m low high e q, height-most k h)

  pub passed-fits : cell_search K k n m low high ≡ Passed e → e ≤ most_entered
  passed-fits q = omega (arith, search-most-passed K k n m low high e q, height-most k h)

-- ---- what a search found, by its answer

module _ (found : Bool) (e : ℕ) (due : Search) (q : cond found (Met e) (Passed e) ≡ due) where
  pub met-by : found ≡ true → due ≡ Met e
  met-by f = sym q ∙ ap (λ (b : Bool). cond b (Met e) (Passed e)) f

  pub passed-by : found ≡ false → due ≡ Passed e
  passed-by f = sym q ∙ ap (λ (b : Bool). cond b (Met e) (Passed e)) f

pub err-search : (r : Result Searched Unsound) → IsErr r → Damaged ≡ search_of r
err-search (Err e) h = refl
err-search (Ok s) h = absurd (true≢false (sym h))

pub answer-fits : (K : List (List Cell)) (k : ℕ) → k < heights → (n m : ℕ) (low high : Point) (found : Bool) (e : ℕ) → cond found (Met e) (Passed e) ≡ cell_search K k n m low high → e ≤ most_entered
answer-fits K k h n m low high true e q = met-fits K k h n m low high e (sym q)
answer-fits K k h n m low high false e q = passed-fits K k h n m low high e (sym q)
