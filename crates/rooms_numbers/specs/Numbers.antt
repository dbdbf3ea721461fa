-- The outcomes of three calls made with numbers in the place of a struct or of a wish, as C makes them: opening, a question on an opened scene,
-- and detail. Each is built from the paper's outcome of the same call. Definitions only.
use Rattle.std.specs.Prelude.{Bool, true, not, cond, List, [], ◌∷◌, ℕ, ◌+◌, eqb, leb, ltb, length, get_or, take, drop, Float}
use Rattle.std.specs.Float.Ieee.{of_bits}
use Rattle.std.specs.Float.{binary64}
use Rattle.paper.specs.Rooms.{Point, depth_ok}
use Rattle.paper.specs.Store.{heights}
use Rattle.paper.specs.Answers.{Outcome, told, outcome}
use Rattle.paper.specs.Order.{Test, when, first_number, settled}
use Rattle.paper.specs.Calls.{over, open_outcome, ask_outcome}
use Rattle.paper.specs.Detail.{detail_outcome}
use Rattle.paper.specs.declared.Wish.{Wish}
use Rattle.paper.specs.declared.Wish.TheVariants.{EveryVoxel, WidestEdge, Distance}

-- ---- opening: the numbers go to a lent slice

-- the depth, then the fifteen list starts
abbrev pub opened_numbers : ℕ
opened_numbers = 1 + heights

-- too few numbers for an opened scene's
abbrev pub numbers_short : List ℕ → Bool
numbers_short ns = ltb (length ns) opened_numbers

-- 'Opening: 3,4,5,6', then 12, 'output too short'
abbrev pub open_c_order : List ℕ → List ℕ → List Test
open_c_order file ns = when (not (eqb (open_outcome file).number 0)) (open_outcome file).number ∷ when (numbers_short ns) 12 ∷ []

-- accepted, the numbers begin with the depth and the list starts, and the rest is unchanged; refused, all are
unfoldable pub open_c_outcome : List ℕ → List ℕ → Outcome
open_c_outcome file ns = settled (first_number (open_c_order file ns)) [] (over (open_outcome file).values ns ∷ []) (ns ∷ [])

-- ---- a question on an opened scene: its bytes, and the numbers that opening wrote

abbrev pub depth_held : List ℕ → ℕ
depth_held ns = get_or ns 0 0

abbrev pub starts_held : List ℕ → List ℕ
starts_held ns = take heights (drop 1 ns)

-- 6 where the numbers are too few to be an opened scene's: 'its bytes don't open to its numbers'
unfoldable pub ask_c_outcome : List ℕ → List ℕ → Point → Outcome
ask_c_outcome file ns v =
    let short : Outcome = outcome (told 6 (0 ∷ 0 ∷ 0 ∷ [])) [] in
    let asked : Outcome = ask_outcome file (depth_held ns) (starts_held ns) v in
    cond (numbers_short ns) short asked

-- ---- detail: the wish by its kind and two numbers

-- kind 0 every voxel, kind 1 a widest edge, kind 2 a distance with its factor
abbrev pub last_kind : ℕ
last_kind = 2

unfoldable pub wish_of : ℕ → Float → Float → Wish
wish_of kind a b =
    let far : Wish = Distance (record { distance = a; factor = b }) in
    let edge : Wish = WidestEdge a in
    let rest : Wish = cond (eqb kind 1) edge far in
    cond (eqb kind 0) EveryVoxel rest

-- 'Detail: 5,13': another kind is a wish out of range
unfoldable pub detail_c_outcome : ℕ → ℕ → Float → Float → Outcome
detail_c_outcome D kind a b =
    let wished : Outcome = detail_outcome D (wish_of kind a b) in
    let unknown : Outcome = settled (first_number (when (not (depth_ok D)) 5 ∷ when true 13 ∷ [])) (0 ∷ []) [] [] in
    cond (leb kind last_kind) wished unknown

-- what code asks of the detail rule: for another kind a widest edge of 0, which is out of range
unfoldable pub wish_given : ℕ → Float → Float → Wish
wish_given kind a b =
    let known : Wish = wish_of kind a b in
    let none : Wish = WidestEdge (of_bits binary64 0) in
    cond (leb kind last_kind) known none
