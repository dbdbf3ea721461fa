-- Document 01, 'Refusal numbers and their order': the tests that an outline and a packed file have in common, of the first bytes; and these bytes as
-- written. Definitions only.
use Rattle.std.specs.Prelude.{not, List, [], ◌∷◌, ◌++◌, ℕ}
use Rattle.paper.specs.Numbers.{bytes}
use Rattle.paper.specs.Rooms.{depth_ok}
use Rattle.paper.specs.Outline.{version_ok, length_ok, file_depth}
use Rattle.paper.specs.Order.{Test, when, first_number}

-- of a file whose kind has this version byte and at least so many bytes: 3, 4, 5, then the tests of its kind
abbrev pub head_order : ℕ → ℕ → List ℕ → List Test → List Test
head_order version head file rest = when (not (version_ok version file)) 3 ∷ when (not (length_ok head file)) 4 ∷ when (not (depth_ok (file_depth file))) 5 ∷ rest

-- the first of these three that passes
abbrev pub head_number : ℕ → ℕ → List ℕ → ℕ
head_number version head file = first_number (head_order version head file [])

-- a file's version byte, its length and its depth
abbrev pub head_of : ℕ → ℕ → ℕ → List ℕ
head_of version n D = version ∷ bytes 4 n ++ (D ∷ [])
