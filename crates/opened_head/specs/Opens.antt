-- An opening as code takes it: its number and values apart from the part that it holds. Definitions only.
use Rattle.std.specs.Prelude.{List, ◌∷◌, ℕ, Result}
use Rattle.paper.specs.Answers.{Told, told, answer_told}
use Rattle.paper.specs.Calls.{open_outcome}
use Rattle.paper.specs.declared.Refusal.{Refusal}
use Rattle.opened_head.specs.declared.Header.{Header}

-- the number and the values of an opening, as the code reads them and as the paper says them
abbrev pub header_told : Result Header Refusal → Told
header_told = answer_told 16 (λ h. h.depth ∷ h.starts)

abbrev pub open_told : List ℕ → Told
open_told file = told (open_outcome file).number (open_outcome file).values
