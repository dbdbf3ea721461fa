-- Document 01, 'Questions', Detail: over whole numbers ('exact values'). A finite float is, in size, the fraction `num x` / `den x` of two whole
-- numbers (`lib.Ieee.Positive`); two fractions are compared by multiplying across. Definitions only.
use Rattle.std.specs.Prelude.{ℕ, zero, suc, ◌*◌, ◌^◌, Bool, true, false, not, ◌&&◌, ◌||◌, cond, List, [], ◌∷◌, leb, eqb}
use lib.Ieee.{Float, nan, inf, fin, add, binary64}
use Rattle.std.specs.Float.Ieee.Positive.{num, den}
use Rattle.paper.specs.Rooms.{depth_ok}
use Rattle.paper.specs.Answers.{Outcome}
use Rattle.paper.specs.Order.{Test, when, first_number, settled}
use Rattle.paper.specs.declared.Wish.{Wish}
use Rattle.paper.specs.declared.Wish.TheVariants.{EveryVoxel, WidestEdge, Distance}

-- a number that is not below zero: no NaN, no infinity; -0 is not below zero
abbrev pub plain : Float → Bool
plain nan = false
plain (inf s) = false
plain (fin s m e) = not s || eqb m 0

-- x is such a number, with a / b <= x <= c
abbrev pub within : ℕ → ℕ → ℕ → Float → Bool
within a b c x = plain x && (leb (a * den x) (num x * b) && leb (num x) (c * den x))

-- the greatest edge and distance; the greatest factor, and what the least is one part of
abbrev pub farthest : ℕ
farthest = 2 ^ 40

abbrev pub greatest_factor : ℕ
greatest_factor = 2 ^ 30

-- the ranges of a widest edge, of a distance and of a factor
abbrev pub edge_ok : Float → Bool
edge_ok e = within 1 1 farthest e

abbrev pub distance_ok : Float → Bool
distance_ok d = within 0 1 farthest d

abbrev pub factor_ok : Float → Bool
factor_ok f = within 1 greatest_factor greatest_factor f

-- 2^h times a / b is at most x
abbrev pub reaches : ℕ → ℕ → Float → ℕ → Bool
reaches a b x h = leb (2 ^ h * a * den x) (num x * b)

-- the greatest h from 1 to D that passes the test, 0 where none does
unfoldable pub greatest : (ℕ → Bool) → ℕ → ℕ
greatest p zero = 0
greatest p (suc d) = let r = greatest p d in cond (p (suc d)) (suc d) r

-- is the wish in its range
abbrev pub wish_ok : Wish → Bool
wish_ok EveryVoxel = true
wish_ok (WidestEdge e) = edge_ok e
wish_ok (Distance s) = distance_ok s.distance && factor_ok s.factor

-- the height for a wish in its range ('Every voxel gives'): the highest at which a cell's edge reaches no further than the widest edge, or, taken
-- factor times, no further than the distance
abbrev pub height_for : ℕ → Wish → ℕ
height_for D EveryVoxel = 0
height_for D (WidestEdge e) = greatest (reaches 1 1 e) D
height_for D (Distance s) = greatest (reaches (num s.factor) (den s.factor) s.distance) D

-- the order ('Detail:')
abbrev pub detail_order : ℕ → Wish → List Test
detail_order D w = when (not (depth_ok D)) 5 ∷ when (not (wish_ok w)) 13 ∷ []

unfoldable pub detail_outcome : ℕ → Wish → Outcome
detail_outcome D w = settled (first_number (detail_order D w)) (height_for D w ∷ []) [] []

-- ---- on floats, as code does it: what doubling h times gives ('loses nothing')

unfoldable pub doubled : ℕ → Float → Float
doubled zero x = x
doubled (suc h) x = let y = doubled h x in add binary64 y y
