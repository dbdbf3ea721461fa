-- Doubling a float is exact short of overflow: x + x is finite and has twice x's value, in either format and for a subnormal x too.
-- x is m * 2 ^ j of the format's smallest steps, so x + x is m * 2 ^ (j + 1) of them, with no more digits: `round_exact`. Assumes nothing.
use mathlib.Core.Path.{◌≡◌, refl, sym, ap, ◌∙◌, subst}
use Prim.Native.Nat.{ℕ, zero, suc, ◌+◌, ◌-◌, ◌*◌, ◌%◌, ◌^◌, ◌≤◌, ◌<◌}
use native.Mathlib.Nat.{le_trans, le_of_eq, lt_of_lt_of_le, lt_of_le_of_lt, lt_of_not-le, not-le_of_lt, le_of_suc-le-suc, mul-one, one-mul, mul_comm, mul_assoc, mul_left_comm, mul_right_comm, mul-pos, mul-le-mul_right, mul-lt-mul_of_pos_right, lt_of_mul-lt-mul_right, eq_of_mul-eq-mul_right, pow-suc}
use native.Mathlib.Omega.{arith}
use mathlib.Core.Bool.{Bool, true, false, ◌&&◌, true≢false}
use lib.IntN.{ℤ, pos, negsuc}
use lib.Dec.{T, leb, ltb, eqb, leb→le, ltb→lt, eqb→eq}
use lib.Pow.{pow-add, pow_pos, pow-lt}
use lib.Ieee.{Float, nan, inf, fin, Format, prec, emax, low, up, down, round, add, fits}
use lib.Ieee.Digits.{back}
use lib.Ieee.Fits.{up_pos, down_pos, and_l, and_r}
use lib.Ieee.Exact.{HasValue, round_exact}

-- ---- what `fits` says of a number's digits and of its exponent
down_le : (u d : ℕ) → 0 < u → u * d ≡ 1 → d ≤ 1
down_le u d U e = le_trans (le_of_eq (sym (one-mul d))) (le_trans (mul-le-mul_right d U) (le_of_eq e))

held : (f : Format) (s : Bool) (m : ℕ) (e : ℤ) → T (fits f (fin s m e)) → (m < 2 ^ prec f) × (down e ≤ 2 ^ low f)
unfolding fits
held f s zero e t = (pow_pos (prec f), le_trans (down_le (up e) (down e) (up_pos e) (eqb→eq (up e * down e) 1 t)) (pow_pos (low f)))
held f s (suc m) e t =
    let a : Bool = eqb (suc m % 2) 1 in
    let b : Bool = ltb (suc m) (2 ^ prec f) in
    let c : Bool = leb (down e) (2 ^ low f) in
    let d : Bool = ltb (suc m * up e) (2 ^ suc (emax f) * down e) in
    let three : T (a && b && c) = and_l (a && b && c) d t in
    (ltb→lt (suc m) (2 ^ prec f) (and_r a b (and_l (a && b) c three)), leb→le (down e) (2 ^ low f) (and_r (a && b) c three))

-- ---- 2 ^ e is a whole power of two of the smallest steps, of which 1 has 2 ^ l
pow-back : (i l : ℕ) → 2 ^ i ≤ 2 ^ l → i ≤ l
pow-back i l h = le_of_suc-le-suc (lt_of_not-le (λ (g : suc l ≤ i). not-le_of_lt (pow-lt g) h))

unit : (e : ℤ) (l : ℕ) → down e ≤ 2 ^ l → (j : ℕ) × (up e * 2 ^ l ≡ 2 ^ j * down e)
unit (pos k) l h = (k + l, sym (pow-add 2 k l) ∙ sym (mul-one (2 ^ (k + l))))
unit (negsuc k) l h =
    let i = l - suc k in
    (i, one-mul (2 ^ l) ∙ ap (λ (z : ℕ). 2 ^ z) (sym (back l (suc k) (pow-back (suc k) l h))) ∙ pow-add 2 i (suc k))

-- from one fraction to another of the same size
rescale : (x : Float) (s : Bool) (w l n d : ℕ) → 0 < l → n * l ≡ w * d → HasValue x s w l → HasValue x s n d
rescale nan s w l n d p h v = v
rescale (inf t) s w l n d p h v = v
rescale (fin t m e) s w l n d p h v = (
  v.0,
  eq_of_mul-eq-mul_right l p (m * up e * d) (n * down e)
      (mul_right_comm (m * up e) d l
      ∙ ap (λ (z : ℕ). z * d) v.1
      ∙ mul_right_comm w (down e) d
      ∙ ap (λ (z : ℕ). z * down e) (sym h)
      ∙ mul_right_comm n l (down e)),
)

add-self : (f : Format) (m : ℕ) (e : ℤ) → add f (fin false m e) (fin false m e) ≡ round f false (m * up e * down e + m * up e * down e) (down e * down e)
unfolding add
add-self f m e = refl

twice : (a : ℕ) → a + a ≡ a * 2
twice a = omega arith

-- ---- the facts about numbers: u / d is 2 ^ e, L is the number of smallest steps in 1, P is 2 ^ j, a / c is x, E is 2 ^ (emax + 1)
exact : (m u d L P : ℕ) → u * L ≡ P * d → (m * u * d + m * u * d) * L ≡ m * (P * 2) * (d * d)
exact m u d L P h =
    ap (λ (z : ℕ). z * L) (twice (m * u * d))
    ∙ simp (mul_assoc, mul_comm, mul_left_comm) (simp (mul_assoc, mul_comm, mul_left_comm) at (ap (λ (z : ℕ). z * (2 * m * d)) h))

under : (m u d L P E a c : ℕ) → 0 < d → 0 < c → 0 < L → u * L ≡ P * d → m * u * c ≡ a * d → a * 2 < E * c → m * (P * 2) < L * E
under m u d L P E a c D C L+ h v o =
    let one : m * u * 2 * c < E * d * c =
    lt_of_le_of_lt (le_of_eq (mul_right_comm (m * u) 2 c ∙ ap (λ (z : ℕ). z * 2) v ∙ mul_right_comm a d 2))
    (lt_of_lt_of_le (mul-lt-mul_of_pos_right o D) (le_of_eq (mul_right_comm E c d))) in
    let two : m * u * 2 < E * d = lt_of_mul-lt-mul_right c one in
    let three : m * (P * 2) * d ≡ m * u * 2 * L = simp (mul_assoc, mul_comm, mul_left_comm) (simp (mul_assoc, mul_comm, mul_left_comm) at (ap (λ (z : ℕ). z * (2 * m)) (sym h))) in
    let four : E * d * L ≡ L * E * d = simp (mul_assoc, mul_comm, mul_left_comm) in
    lt_of_mul-lt-mul_right d (lt_of_le_of_lt (le_of_eq three) (lt_of_lt_of_le (mul-lt-mul_of_pos_right two L+) (le_of_eq four)))

same : (m u d a c : ℕ) → m * u * c ≡ a * d → a * 2 * (d * d) ≡ (m * u * d + m * u * d) * c
same m u d a c v =
    let e : a * 2 * (d * d) ≡ m * u * d * 2 * c = simp (mul_assoc, mul_comm, mul_left_comm) (simp (mul_assoc, mul_comm, mul_left_comm) at (ap (λ (z : ℕ). z * (2 * d)) (sym v))) in
    e ∙ ap (λ (z : ℕ). z * c) (sym (twice (m * u * d)))

pub double : (f : Format) (x : Float) (a c : ℕ) → 0 < c → T (fits f x) → HasValue x false a c → a * 2 < 2 ^ suc (emax f) * c → HasValue (add f x x) false (a * 2) c
double f nan a c C t v o = absurd v
double f (inf s) a c C t v o = absurd v
double f (fin true m e) a c C t v o = absurd (true≢false v.0)
double f (fin false m e) a c C t v o =
    let d = down e in
    let A = m * up e * d in
    let j = unit e (low f) (held f false m e t).1 in
    let P : 2 ^ suc j.0 ≡ 2 ^ j.0 * 2 = pow-suc 2 j.0 in
    subst (λ (z : Float). HasValue z false (a * 2) c) (sym (add-self f m e))
    (rescale (round f false (A + A) (d * d)) false (A + A) (d * d) (a * 2) c (mul-pos (down_pos e) (down_pos e)) (same m (up e) d a c v.1)
    (round_exact f false (A + A) (d * d) m (suc j.0) (mul-pos (down_pos e) (down_pos e)) (held f false m e t).0
    (subst (λ (z : ℕ). m * z < 2 ^ (low f + suc (emax f))) (sym P) (subst (λ (z : ℕ). m * (2 ^ j.0 * 2) < z) (sym (pow-add 2 (low f) (suc (emax f)))) (under m (up e) d (2 ^ low f) (2 ^ j.0) (2 ^ suc (emax f)) a c (down_pos e) C (pow_pos (low f)) j.1 v.1 o)))
    (exact m (up e) d (2 ^ low f) (2 ^ j.0) j.1 ∙ ap (λ (z : ℕ). m * z * (d * d)) (sym P))))
