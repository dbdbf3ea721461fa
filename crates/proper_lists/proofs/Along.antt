-- Marks written along a list: what a loop has of the marks at the starts left. By one start at a time. Assumes nothing.
use mathlib.Core.Path.{◌≡◌, ap}
use mathlib.Core.List.{List, [], ◌∷◌}
use Prim.Native.Nat.{ℕ, ◌*◌}
use lib.ListN.{set}
use Rattle.proper_lists.specs.Marking.{marks_on}

pub marks-next : (f : ℕ → ℕ) (u p : ℕ) (ps qs z : List ℕ) → ps ≡ p ∷ qs → marks_on f u ps z ≡ marks_on f u qs (set z (u * p) (f p))
unfolding marks_on
marks-next f u p ps qs z e = ap (λ (r : List ℕ). marks_on f u r z) e

pub marks-none : (f : ℕ → ℕ) (u : ℕ) (ps z : List ℕ) → ps ≡ [] → marks_on f u ps z ≡ z
unfolding marks_on
marks-none f u ps z e = ap (λ (r : List ℕ). marks_on f u r z) e
