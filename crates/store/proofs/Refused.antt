-- An answer that a `?` gives up with, read as the documents' number and values. By cases on the answer. Assumes nothing.
use mathlib.Core.Path.{◌≡◌, ap}
use mathlib.Core.List.{List}
use Prim.Native.Nat.{ℕ}
use lib.ListN.{replicate}
use Rattle.std.specs.Prelude.{Result, Ok, Err, IsErrAnd}
use Rattle.paper.specs.declared.Refusal.{Refusal}
use Rattle.paper.specs.Answers.{told, number_of, answer_told}

pub refused-told : {A : Type 0} (n : ℕ) (values : A → List ℕ) (r : Result A Refusal) (x : Refusal) → IsErrAnd r (λ e. e ≡ x) → answer_told n values r ≡ told (number_of x) (replicate n 0)
refused-told n values (Ok a) x h = absurd h
refused-told n values (Err e) x h = ap (λ (y : Refusal). told (number_of y) (replicate n 0)) h
