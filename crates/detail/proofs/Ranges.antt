-- The ranges of document 01: the code's tests, with each literal by its bit pattern, are the definition's; and what a number in range has.
-- The ends are floats whose fractions compute, so `in-range` at them is the test over whole numbers. Assumes nothing.
use mathlib.Core.Path.{◌≡◌, refl, ap, ◌∙◌}
use mathlib.Core.Bool.{true, false, ◌&&◌}
use Prim.Native.Nat.{ℕ, ◌*◌, ◌^◌, ◌≤◌, ◌<◌}
use native.Mathlib.Nat.{zero-mul}
use native.Mathlib.Omega.{arith}
use lib.IntN.{pos, negsuc}
use lib.Dec.{T, leb, leb→le, le→leb, eqb→eq}
use lib.Ieee.{Float, nan, inf, fin, binary64, of_bits, up, down, le}
use lib.Ieee.Fits.{and_i, and_l, and_r, down_pos}
use lib.Ieee.Exact.{HasValue}
use lib.Ieee.Positive.{num, den}
use Rattle.paper.specs.Detail.{plain, within, edge_ok, distance_ok, factor_ok}
use Rattle.detail.proofs.Order.{in-range}

-- 0, 2 ^ -30, 1, 2 ^ 30 and 2 ^ 40
abbrev nought : Float
nought = of_bits binary64 0

abbrev least-factor : Float
least-factor = of_bits binary64 0x3e10_0000_0000_0000

abbrev one : Float
one = of_bits binary64 0x3ff0_0000_0000_0000

abbrev greatest-factor : Float
greatest-factor = of_bits binary64 0x41d0_0000_0000_0000

abbrev farthest : Float
farthest = of_bits binary64 0x4270_0000_0000_0000

pub edge-range : (x : Float) → (le one x && le x farthest) ≡ edge_ok x
unfolding of_bits
edge-range x = in-range 1 (pos 0) 1 40 x

pub distance-range : (x : Float) → (le nought x && le x farthest) ≡ distance_ok x
unfolding of_bits
distance-range x = in-range 0 (pos 0) 1 40 x

pub factor-range : (x : Float) → (le least-factor x && le x greatest-factor) ≡ factor_ok x
unfolding of_bits
factor-range x = in-range 1 (negsuc 29) 1 30 x

-- ---- the parts of a range test

module _ (a b c : ℕ) (x : Float) (w : T (within a b c x)) where
  pub is_plain : T (plain x)
  is_plain = and_l (plain x) (leb (a * den x) (num x * b) && leb (num x) (c * den x)) w

  ends : T (leb (a * den x) (num x * b) && leb (num x) (c * den x))
  ends = and_r (plain x) (leb (a * den x) (num x * b) && leb (num x) (c * den x)) w

  pub at_least : a * den x ≤ num x * b
  at_least = leb→le (a * den x) (num x * b) (and_l (leb (a * den x) (num x * b)) (leb (num x) (c * den x)) ends)

  pub at_most : num x ≤ c * den x
  at_most = leb→le (num x) (c * den x) (and_r (leb (a * den x) (num x * b)) (leb (num x) (c * den x)) ends)

no_room : (d n b : ℕ) → 0 < d → 1 * d ≤ n * b → n ≡ 0 → ⊥
no_room d n b D h e =
    let g : n * b ≡ 0 = ap (λ (z : ℕ). z * b) e ∙ zero-mul b in
    omega arith

-- a number that is not below 1 / b is its own fraction, with no sign
pub own : (b c : ℕ) (x : Float) → T (within 1 b c x) → HasValue x false (num x) (den x)
own b c nan w = absurd w
own b c (inf s) w = absurd w
own b c (fin false m e) w = (refl, refl)
own b c (fin true m e) w =
    absurd
    (no_room (down e) (m * up e) b (down_pos e) (at_least 1 b c (fin true m e) w)
    (ap (λ (z : ℕ). z * up e) (eqb→eq m 0 (is_plain 1 b c (fin true m e) w)) ∙ zero-mul (up e)))

-- an edge is in a distance's range too
pub edge-is-distance : (x : Float) → T (edge_ok x) → T (distance_ok x)
edge-is-distance x w =
    and_i (plain x) (leb (0 * den x) (num x * 1) && leb (num x) (2 ^ 40 * den x)) (is_plain 1 1 (2 ^ 40) x w)
    (and_i (leb (0 * den x) (num x * 1)) (leb (num x) (2 ^ 40 * den x)) (le→leb (0 * den x) (num x * 1) (omega arith)) (le→leb (num x) (2 ^ 40 * den x) (at_most 1 1 (2 ^ 40) x w)))
