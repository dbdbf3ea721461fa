-- The answers of the calls, read as the documents' number and values. An accepted call has number 0; a refusal has its
-- own in the table, and zeros for values. Definitions only.
use Rattle.std.specs.Prelude.{List, [], ◌∷◌, ℕ, Bool, replicate, get_or, Result, Ok, Err, Option, None, Some, ⊤}
use Rattle.paper.specs.Numbers.{bit_for}
use Rattle.paper.specs.declared.Refusal.{Refusal}
use Rattle.paper.specs.declared.Refusal.TheVariants.{BadSize, DamagedStore, BadVersion, BadLength, BadDepth, BrokenRules, ScenesFull, CellsFull, NoScene, Outside, ScratchShort, OutputShort, BadWish, TooDeep, LongPointer}
use Rattle.paper.specs.declared.Voxel.{Voxel}
use Rattle.paper.specs.declared.Sight.{Sight}
use Rattle.paper.specs.declared.Searched.{Searched}
use Rattle.paper.specs.declared.Found.{Found}
use Rattle.paper.specs.declared.Opening.{Opening}

-- the number and the values of an answer
pub record Told : Type 0 where
  pub number : ℕ
  pub values : List ℕ

abbrev pub told : ℕ → List ℕ → Told
told n vs = record { number = n; values = vs }

-- the table of refusal numbers
abbrev pub number_of : Refusal → ℕ
number_of BadSize = 1
number_of DamagedStore = 2
number_of BadVersion = 3
number_of BadLength = 4
number_of BadDepth = 5
number_of BrokenRules = 6
number_of ScenesFull = 7
number_of CellsFull = 8
number_of NoScene = 9
number_of Outside = 10
number_of ScratchShort = 11
number_of OutputShort = 12
number_of BadWish = 13
number_of TooDeep = 14
number_of LongPointer = 15

-- an answer with n values: those of what is accepted, or n zeros beside the refusal's number
abbrev pub answer_told : {A : Type 0} → ℕ → (A → List ℕ) → Result A Refusal → Told
answer_told n values (Ok a) = told 0 (values a)
answer_told n values (Err r) = told (number_of r) (replicate n 0)

-- an answer's number alone
abbrev pub answer_number : {A : Type 0} → Result A Refusal → ℕ
answer_number (Ok a) = 0
answer_number (Err r) = number_of r

-- new store: no value
abbrev pub started : Result ⊤ Refusal → Told
started = answer_told 0 (λ u. [])

-- add: the scene's number
abbrev pub added : Result ℕ Refusal → Told
added = answer_told 1 (λ n. n ∷ [])

-- voxel: 1 for solid, 0 for empty, then the height of the emptiness
abbrev pub voxel_values : Voxel → List ℕ
voxel_values Voxel.Solid = 1 ∷ 0 ∷ []
voxel_values (Voxel.Empty h) = 0 ∷ h ∷ []

abbrev pub seen : Result Voxel Refusal → Told
seen = answer_told 2 voxel_values

-- sight line: 1 where it is blocked, then the voxel that blocks it
abbrev pub sight_values : Sight → List ℕ
sight_values Sight.Clear = 0 ∷ 0 ∷ 0 ∷ 0 ∷ []
sight_values (Sight.Blocked x y z) = 1 ∷ x ∷ y ∷ z ∷ []

abbrev pub sighted : Result Sight Refusal → Told
sighted = answer_told 4 sight_values

-- cell: 1 for non-empty, 0 for empty
abbrev pub occupied : Result Bool Refusal → Told
occupied = answer_told 1 (λ full. bit_for full ∷ [])

-- box: the solid voxels
abbrev pub counted : Result ℕ Refusal → Told
counted = answer_told 1 (λ n. n ∷ [])

-- anything in the way: 1 where the box holds a solid voxel, then the cells entered
abbrev pub searched : Result Searched Refusal → Told
searched = answer_told 2 (λ s. bit_for s.found ∷ s.entered ∷ [])

-- kept: the cells kept at a height
abbrev pub kept : Result ℕ Refusal → Told
kept = answer_told 1 (λ n. n ∷ [])

-- outline out and pack: the length written
abbrev pub written : Result ℕ Refusal → Told
written = answer_told 1 (λ n. n ∷ [])

-- packed check: the depth
abbrev pub checked : Result ℕ Refusal → Told
checked = answer_told 1 (λ n. n ∷ [])

-- packed voxel: 1 for solid, 0 for empty, then the records read, then the height of the emptiness
abbrev pub found_values : Found → List ℕ
found_values f = get_or (voxel_values f.voxel) 0 0 ∷ f.records ∷ get_or (voxel_values f.voxel) 1 0 ∷ []

abbrev pub found : Result Found Refusal → Told
found = answer_told 3 found_values

-- detail: the height
abbrev pub chosen : Result ℕ Refusal → Told
chosen = answer_told 1 (λ n. n ∷ [])

-- opening: the depth and the list starts; the part that it holds is what `holds` gives
abbrev pub refusal_number : Option Refusal → ℕ
refusal_number None = 0
refusal_number (Some r) = number_of r

abbrev pub opened : Opening → Told
opened o = told (refusal_number o.refusal) (o.scene.depth ∷ o.scene.starts)

abbrev pub holds : Opening → List ℕ
holds o = o.scene.bytes.now

-- ---- the whole outcome of a call: number, values, and each slice lent for writing, to its last element, as the call leaves it

pub record Outcome : Type 0 where
  pub number : ℕ
  pub values : List ℕ
  pub lent : List (List ℕ)

abbrev pub outcome : Told → List (List ℕ) → Outcome
outcome t ls = record { number = t.number; values = t.values; lent = ls }
