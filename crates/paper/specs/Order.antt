-- Document 01, 'Refusal numbers and their order': a call's tests in their order, each with the number that it gives. Definitions only.
use Rattle.std.specs.Prelude.{Bool, cond, List, [], ◌∷◌, map, ℕ, eqb}
use Rattle.paper.specs.Answers.{Outcome, told, outcome}

-- refused by this number where the test passes
pub data Test : Type 0 where
  when : Bool → ℕ → Test

-- the number of the first test that passes, 0 where none does
unfoldable pub first_number : List Test → ℕ
first_number [] = 0
first_number (when b n ∷ ts) = let r = first_number ts in cond b n r

-- a call's outcome by its refusal n, 0 for none ('number and zeros'): accepted, the values vs, and what was lent as `after` has it; refused, as many
-- zeros, and what was lent as `else` has it
unfoldable pub settled : ℕ → List ℕ → List (List ℕ) → List (List ℕ) → Outcome
settled n vs after else =
    let yes : Outcome = outcome (told 0 vs) after in
    let zeros : Outcome = outcome (told n (map (λ v. 0) vs)) else in
    cond (eqb n 0) yes zeros
