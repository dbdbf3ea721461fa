-- A question's refusals in their order, once for voxel, cell and box: each test that passes gives its number and zeros, and past all of them the
-- values stand. By cases on the tests. Assumes nothing.
use mathlib.Core.Path.{◌≡◌, refl}
use mathlib.Core.Bool.{Bool, true, false, not, cond}
use mathlib.Core.List.{List, [], ◌∷◌, map}
use Prim.Native.Nat.{ℕ}
use lib.Dec.{T}
use Rattle.paper.specs.Answers.{Outcome, told, outcome}
use Rattle.paper.specs.Order.{when, first_number, settled}

-- the outcome of a question, by its five tests and its values
abbrev pub asked : Bool → Bool → Bool → Bool → Bool → List ℕ → Outcome
asked header scene words out walk values =
    settled (first_number (when header 2 ∷ when scene 9 ∷ when words 2 ∷ when out 10 ∷ when walk 2 ∷ [])) values [] []

-- a refusal of a question with these values
abbrev pub refused_by : ℕ → List ℕ → Outcome
refused_by n xs = outcome (told n (map (λ x. 0) xs)) []

abbrev pub answered : List ℕ → Outcome
answered xs = outcome (told 0 xs) []

pub asked-header : (a b c d e : Bool) (xs : List ℕ) → T a → asked a b c d e xs ≡ refused_by 2 xs
unfolding settled first_number
asked-header true b c d e xs p = refl
asked-header false b c d e xs p = absurd p

pub asked-scene : (a b c d e : Bool) (xs : List ℕ) → T (not a) → T b → asked a b c d e xs ≡ refused_by 9 xs
unfolding settled first_number
asked-scene true b c d e xs p q = absurd p
asked-scene false true c d e xs p q = refl
asked-scene false false c d e xs p q = absurd q

pub asked-words : (a b c d e : Bool) (xs : List ℕ) → T (not a) → T (not b) → T c → asked a b c d e xs ≡ refused_by 2 xs
unfolding settled first_number
asked-words true b c d e xs p q r = absurd p
asked-words false true c d e xs p q r = absurd q
asked-words false false true d e xs p q r = refl
asked-words false false false d e xs p q r = absurd r

pub asked-out : (a b c d e : Bool) (xs : List ℕ) → T (not a) → T (not b) → T (not c) → T d → asked a b c d e xs ≡ refused_by 10 xs
unfolding settled first_number
asked-out true b c d e xs p q r s = absurd p
asked-out false true c d e xs p q r s = absurd q
asked-out false false true d e xs p q r s = absurd r
asked-out false false false true e xs p q r s = refl
asked-out false false false false e xs p q r s = absurd s

pub asked-walk : (a b c d e : Bool) (xs : List ℕ) → T (not a) → T (not b) → T (not c) → T (not d) → asked a b c d e xs ≡ cond e (refused_by 2 xs) (answered xs)
unfolding settled first_number
asked-walk true b c d e xs p q r s = absurd p
asked-walk false true c d e xs p q r s = absurd q
asked-walk false false true d e xs p q r s = absurd r
asked-walk false false false true e xs p q r s = absurd s
asked-walk false false false false true xs p q r s = refl
asked-walk false false false false false xs p q r s = refl
