-- Claim C9, 'doubling the factor loses nothing in these ranges': a factor doubled up to 16 times has exactly 2 ^ h times its value, and its
-- `<=` with a distance is the comparison of whole numbers. By `double` at each of the doublings, all far below the largest f64. Assumes nothing.
use mathlib.Core.Path.{◌≡◌, sym, ap, ◌∙◌, subst}
use Prim.Native.Nat.{ℕ, zero, suc, ◌*◌, ◌^◌, ◌≤◌, ◌<◌}
use native.Mathlib.Nat.{le-suc, le_trans, le_of_eq, lt_of_le_of_lt, one-mul, mul_assoc, mul_right_comm, mul-le-mul, mul-le-mul_right, mul-lt-mul_of_pos_right, pow-suc}
use mathlib.Core.Bool.{false}
use lib.Dec.{T, lit<}
use lib.Pow.{pow_mono}
use lib.Ieee.{Float, binary64, fits, add, le}
use lib.Ieee.Fits.{add-fits}
use lib.Ieee.Exact.{HasValue}
use lib.Ieee.Positive.{num, den, den_pos}
use Rattle.paper.specs.Rooms.{deepest}
use Rattle.paper.specs.Claims.{C9}
use Rattle.paper.specs.Detail.{distance_ok, factor_ok, reaches}
use Rattle.paper.specs.Detail.{doubled}
use Rattle.detail.proofs.Order.{value-le}
use Rattle.detail.proofs.Double.{double}
use Rattle.detail.proofs.Ranges.{is_plain, at_most, own}

doubled_fits : (h : ℕ) (f : Float) → T (fits binary64 f) → T (fits binary64 (doubled h f))
unfolding doubled
doubled_fits zero f t = t
doubled_fits (suc h) f t = add-fits binary64 (doubled h f) (doubled h f)

-- 2 ^ 16 times what is at most 2 ^ 30 is far below the largest f64, even doubled again
far-below : (h n d : ℕ) → h ≤ deepest → 0 < d → n ≤ 2 ^ 30 * d → 2 ^ h * n * 2 < 2 ^ 1024 * d
far-below h n d l D b =
    let once : 2 ^ h * n ≤ 2 ^ 46 * d = le_trans (mul-le-mul (pow_mono l) b) (le_of_eq (sym (mul_assoc (2 ^ 16) (2 ^ 30) d))) in
    let again : 2 ^ h * n * 2 ≤ 2 ^ 47 * d = le_trans (mul-le-mul_right 2 once) (le_of_eq (mul_right_comm (2 ^ 46) d 2)) in
    lt_of_le_of_lt again (mul-lt-mul_of_pos_right (lit< tt) D)

-- C9 (i). For an f64 f in a factor's range and h up to 16: f doubled h times is finite, has no sign, and is 2 ^ h * num f / den f in size
pub doubling-exact : (h : ℕ) (f : Float) → h ≤ deepest → T (fits binary64 f) → T (factor_ok f) → HasValue (doubled h f) false (2 ^ h * num f) (den f)
unfolding doubled
doubling-exact zero f l t w = subst (λ (n : ℕ). HasValue f false n (den f)) (sym (one-mul (num f))) (own (2 ^ 30) (2 ^ 30) f w)
doubling-exact (suc h) f l t w =
    let l' : h ≤ deepest = le_trans (le-suc h) l in
    subst (λ (n : ℕ). HasValue (add binary64 (doubled h f) (doubled h f)) false n (den f))
    (mul_right_comm (2 ^ h) (num f) 2 ∙ ap (λ (z : ℕ). z * num f) (sym (pow-suc 2 h)))
    (double binary64 (doubled h f) (2 ^ h * num f) (den f) (den_pos f) (doubled_fits h f t) (doubling-exact h f l' t w)
    (far-below h (num f) (den f) l' (den_pos f) (at_most 1 (2 ^ 30) (2 ^ 30) f w)))

-- C9 (ii). For a distance d in its range besides: the comparison of floats is that of whole numbers, 2 ^ h * num f * den d <= num d * den f
pub doubling-compares : (h : ℕ) (f d : Float) → h ≤ deepest → T (fits binary64 f) → T (factor_ok f) → T (distance_ok d) → le (doubled h f) d ≡ reaches (num f) (den f) d h
doubling-compares h f d l t w v =
    value-le (doubled h f) d (2 ^ h * num f) (den f) (den_pos f) (doubling-exact h f l t w) (is_plain 0 1 (2 ^ 40) d v)

pub claim9 : C9
claim9 = record { exact = doubling-exact; compared = doubling-compares }
