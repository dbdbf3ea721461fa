-- A refusal's number and back, for answers of any type: the table of refusals, and that an answer refused by a number of it is that refusal's. By
-- the refusals one by one. Assumes nothing.
use mathlib.Core.Path.{◌≡◌, refl}
use mathlib.Core.List.{List, [], ◌∷◌}
use Prim.Native.Nat.{ℕ, zero, suc}
use lib.ListN.{get_or}
use Rattle.paper.specs.declared.Refusal.{Refusal}
use Rattle.paper.specs.declared.Refusal.TheVariants.{BadSize, DamagedStore, BadVersion, BadLength, BadDepth, BrokenRules, ScenesFull, CellsFull, NoScene, Outside, ScratchShort, OutputShort, BadWish, TooDeep, LongPointer}
use Rattle.paper.specs.Answers.{number_of}

-- the refusals, in the order of their numbers from 1
abbrev pub refusals : List Refusal
refusals =
    BadSize ∷ DamagedStore ∷ BadVersion ∷ BadLength ∷ BadDepth ∷ BrokenRules ∷ ScenesFull ∷ CellsFull ∷ NoScene ∷ Outside ∷ ScratchShort ∷ OutputShort
    ∷ BadWish ∷ TooDeep ∷ LongPointer ∷ []

-- what an answer is: accepted at number 0, else refused by the number
abbrev pub answer_of : {A : Type 0} → A → (Refusal → A) → ℕ → A
answer_of a f zero = a
answer_of a f (suc n) = f (get_or refusals n BadWish)

-- so an answer can be read back from its number
pub refused-back : {A : Type 0} (a : A) (f : Refusal → A) (r : Refusal) → answer_of a f (number_of r) ≡ f r
refused-back a f BadSize = refl
refused-back a f DamagedStore = refl
refused-back a f BadVersion = refl
refused-back a f BadLength = refl
refused-back a f BadDepth = refl
refused-back a f BrokenRules = refl
refused-back a f ScenesFull = refl
refused-back a f CellsFull = refl
refused-back a f NoScene = refl
refused-back a f Outside = refl
refused-back a f ScratchShort = refl
refused-back a f OutputShort = refl
refused-back a f BadWish = refl
refused-back a f TooDeep = refl
refused-back a f LongPointer = refl
