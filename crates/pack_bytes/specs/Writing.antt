-- The bytes of a scene as code writes them, by the order and the places in scratch. Definitions only; that these are the bytes of the packed
-- file is a law.
use Rattle.std.specs.Prelude.{List, [], ◌∷◌, ◌++◌, map, cond, ℕ, zero, suc, ◌+◌, ◌*◌, ltb, length, get_or}
use Rattle.paper.specs.Numbers.{bytes, flatten}
use Rattle.paper.specs.Store.{Cell, cell_at}
use Rattle.paper.specs.Packed.{packed_version, packed_head}
use Rattle.paper.specs.Pack.{record_bytes, leaf_bytes}
use Rattle.paper.specs.Calls.{over}
use Rattle.paper.specs.Answers.{Outcome, outcome, told}
use Rattle.pack_scratch.specs.Parts.{order_in, places_in}

-- the record of cell q of list k
unfoldable pub record_in : List (List Cell) → ℕ → ℕ → List ℕ → ℕ → List ℕ
record_in K C zero s q = leaf_bytes (cell_at K 0 q)
record_in K C (suc k) s q = record_bytes (places_in C k s) (cell_at K (suc k) q)

-- list k of n cells
unfoldable pub list_in : List (List Cell) → ℕ → ℕ → ℕ → List ℕ → List ℕ
list_in K C k n s = flatten (map (record_in K C k s) (order_in C k n s))

-- the last n lists, down to the leaves
unfoldable pub body_in : List (List Cell) → ℕ → List ℕ → ℕ → List ℕ → List ℕ
body_in K C counts zero s = []
body_in K C counts (suc k) s = list_in K C k (get_or counts k 0) s ++ body_in K C counts k s

-- their sizes
unfoldable pub sizes_in : List ℕ → ℕ → List ℕ
sizes_in sizes zero = []
sizes_in sizes (suc k) = bytes 4 (get_or sizes k 0) ++ sizes_in sizes k

-- the bytes of the lists from list k down, counted by the sizes
unfoldable pub body_length : List ℕ → ℕ → ℕ
body_length sizes zero = 8 * get_or sizes 0 0
body_length sizes (suc k) = 2 * get_or sizes (suc k) 0 + body_length sizes k

abbrev pub file_length : List ℕ → ℕ → ℕ
file_length sizes k = packed_head + 4 * (k + 1) + body_length sizes k

-- the header of a file of this length and depth; m the root's mirror, or 8 for an empty scene
abbrev pub head_of : ℕ → ℕ → ℕ → List ℕ
head_of n D m = packed_version ∷ bytes 4 n ++ (D ∷ m ∷ [])

-- what comes of an output into which these bytes are to go
unfoldable pub fitted : List ℕ → List ℕ → Outcome
fitted bs out =
    let yes : Outcome = outcome (told 0 (length bs ∷ [])) (over bs out ∷ []) in
    let short : Outcome = outcome (told 12 (0 ∷ [])) (out ∷ []) in
    cond (ltb (length out) (length bs)) short yes
