-- Whether a file whose first bytes are good opens to numbers: byte 6 and the sizes, and that its numbers are these. Definitions only.
use Rattle.std.specs.Prelude.{Bool, ◌&&◌, List, ◌∷◌, ℕ}
use Rattle.paper.specs.Numbers.{same_list}
use Rattle.paper.specs.Outline.{file_depth}
use Rattle.paper.specs.Packed.{head_ok, starts_of}

abbrev pub opens_by : List ℕ → ℕ → List ℕ → Bool
opens_by file D starts = head_ok file && same_list (file_depth file ∷ starts_of file) (D ∷ starts)
