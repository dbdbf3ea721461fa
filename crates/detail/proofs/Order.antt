-- On numbers that are not below zero, `<=` of floats is the order of their fractions, and a test against two ends is `within`.
-- By cases on the two signs: a number with a minus sign is a zero there, and a zero's fraction is 0 whatever its sign. Assumes nothing.
use mathlib.Core.Path.{◌≡◌, refl, sym, ap, ap₂, ◌∙◌, subst}
use mathlib.Core.Logic.{◌⊎◌, inl, inr}
use Prim.Native.Nat.{ℕ, zero, suc, ◌+◌, ◌*◌, ◌^◌, ◌<◌}
use native.Mathlib.Nat.{le_of_lt, le_of_eq, eq-or-lt_of_le, zero-mul, mul-one, mul-pos}
use native.Mathlib.Omega.{arith}
use mathlib.Core.Bool.{Bool, true, false, not, ◌&&◌, ◌||◌, and-false, true≢false}
use lib.IntN.{ℤ, pos}
use lib.Dec.{T, leb, ltb, eqb, leb→le, le→leb, ltb→lt, lt→ltb, eqb→eq, eqb_refl, leb-suc-zero, leb-zero, eqb-suc-zero}
use lib.Ieee.{Float, nan, inf, fin, up, down, le}
use lib.Ieee.Fits.{up_pos, down_pos, and_l}
use lib.Ieee.Exact.{HasValue}
use lib.Ieee.Order.{transfer}
use lib.Ieee.Positive.{num, den, den_pos, value→cross}
use borrow.Author.Tests.{lt-ltb, ne_eqb}
use Rattle.laws.proofs.Tests.{iff-eq, or_split}
use Rattle.paper.specs.Detail.{plain, within}

-- `<=` as MIR's floats have it, by the two signs: below or level
either : (a b : ℕ) → (ltb a b || (eqb a b && true)) ≡ leb a b
either a b = iff-eq (ltb a b || (eqb a b && true)) (leb a b) there back
  where
    there : T (ltb a b || (eqb a b && true)) → T (leb a b)
    there t =
        elim (or_split (ltb a b) (eqb a b && true) t) [
          | inl u ↦ le→leb a b (le_of_lt (ltb→lt a b u))
          | inr u ↦ le→leb a b (le_of_eq (eqb→eq a b (and_l (eqb a b) true u)))
        ]

    hit : (x y : Bool) → T x ⊎ T y → T (x || (y && true))
    hit true y w = tt
    hit false true w = tt
    hit false false (inl u) = u
    hit false false (inr u) = u

    back : T (leb a b) → T (ltb a b || (eqb a b && true))
    back t =
        hit (ltb a b) (eqb a b)
        (elim (eq-or-lt_of_le (leb→le a b t)) [ inl e ↦ inr (subst (λ (z : ℕ). T (eqb a z)) e (eqb_refl a)) | inr l ↦ inl (lt→ltb a b l) ])

right_zero : (a b : ℕ) → b ≡ 0 → (eqb a b && eqb a 0) ≡ leb a b
right_zero a b e = subst (λ (z : ℕ). (eqb a z && eqb a 0) ≡ leb a z) (sym e) (at a)
  where
    at : (n : ℕ) → (eqb n 0 && eqb n 0) ≡ leb n 0
    at zero = refl
    at (suc n) = rw (eqb-suc-zero, leb-suc-zero)

left-zero : (a b : ℕ) → a ≡ 0 → (ltb 0 (a + b) || (eqb a b && eqb a 0)) ≡ leb a b
left-zero a b e = subst (λ (z : ℕ). (ltb 0 (z + b) || (eqb z b && eqb z 0)) ≡ leb z b) (sym e) (at b)
  where
    at : (n : ℕ) → (ltb 0 (0 + n) || (eqb 0 n && eqb 0 0)) ≡ leb 0 n
    at zero = refl
    at (suc n) = rw (leb-zero (suc n), lt-ltb 0 (0 + suc n) (omega arith))

both_zero : (a b : ℕ) → a ≡ 0 → b ≡ 0 → (ltb b a || (eqb a b && true)) ≡ leb a b
both_zero a b e g = rw (e, g)

null : (m u d : ℕ) → T (eqb m 0) → m * u * d ≡ 0
null m u d t = ap (λ (z : ℕ). z * u * d) (eqb→eq m 0 t) ∙ ap (λ (z : ℕ). z * d) (zero-mul u) ∙ zero-mul d

-- the order of two numbers that are not below zero
pub plain-le : (x y : Float) → T (plain x) → T (plain y) → le x y ≡ leb (num x * den y) (num y * den x)
unfolding le
plain-le nan y p q = absurd p
plain-le (inf s) y p q = absurd p
plain-le (fin false m e) nan p q = absurd q
plain-le (fin false m e) (inf t) p q = absurd q
plain-le (fin false m e) (fin false n d) p q = either (m * up e * down d) (n * up d * down e)
plain-le (fin false m e) (fin true n d) p q = right_zero (m * up e * down d) (n * up d * down e) (null n (up d) (down e) q)
plain-le (fin true m e) nan p q = absurd q
plain-le (fin true m e) (inf t) p q = absurd q
plain-le (fin true m e) (fin false n d) p q = left-zero (m * up e * down d) (n * up d * down e) (null m (up e) (down d) p)
plain-le (fin true m e) (fin true n d) p q =
    both_zero (m * up e * down d) (n * up d * down e) (null m (up e) (down d) p) (null n (up d) (down e) q)

pub plain-of-value : (x : Float) (a c : ℕ) → HasValue x false a c → T (plain x)
plain-of-value nan a c v = absurd v
plain-of-value (inf s) a c v = absurd v
plain-of-value (fin true m e) a c v = absurd (true≢false v.0)
plain-of-value (fin false m e) a c v = tt

-- the same, with the first number by any fraction that it equals
pub value-le : (x y : Float) (a c : ℕ) → 0 < c → HasValue x false a c → T (plain y) → le x y ≡ leb (a * den y) (num y * c)
value-le x y a c C v q =
    plain-le x y (plain-of-value x a c v) q
    ∙ iff-eq (leb (num x * den y) (num y * den x)) (leb (a * den y) (num y * c))
    (λ t. le→leb (a * den y) (num y * c)
    (transfer a (num y) c (den y) (num x) (num y) (den x) (den y) (den_pos x) (den_pos y) (sym (value→cross x a c v)) refl
    (leb→le (num x * den y) (num y * den x) t)))
    (λ t. le→leb (num x * den y) (num y * den x)
    (transfer (num x) (num y) (den x) (den y) a (num y) c (den y) C (den_pos y) (value→cross x a c v) refl
    (leb→le (a * den y) (num y * c) t)))

-- ---- the range tests
-- what is no such number fails one of the two tests
not-level : (a b : ℕ) → 0 < b → (eqb a b && eqb a 0) ≡ false
not-level a b B = go a
  where
    go : (n : ℕ) → (eqb n b && eqb n 0) ≡ false
    go zero = rw (ne_eqb 0 b (omega arith))
    go (suc n) = rw (eqb-suc-zero) (and-false (eqb (suc n) b))

above_zero : (k : ℕ) → T (not (eqb k 0)) → 0 < k
above_zero zero t = absurd t
above_zero (suc k) t = omega arith

beyond : (m : ℕ) (e : ℤ) (n : ℕ) (d : ℤ) (x : Float) → T (not (plain x)) → (le (fin false m e) x && le x (fin false n d)) ≡ false
unfolding le
beyond m e n d nan t = refl
beyond m e n d (inf true) t = refl
beyond m e n d (inf false) t = refl
beyond m e n d (fin false k g) t = absurd t
beyond m e n d (fin true k g) t =
    ap (λ (z : Bool). z && le (fin true k g) (fin false n d))
    (not-level (m * up e * down g) (k * up g * down e) (mul-pos (mul-pos (above_zero k t) (up_pos g)) (down_pos e)))

-- lo <= x && x <= hi, for a hi that is a whole number, is `within`
pub in-range : (m : ℕ) (e : ℤ) (n k : ℕ) (x : Float) → (le (fin false m e) x && le x (fin false n (pos k))) ≡ within (m * up e) (down e) (n * 2 ^ k) x
in-range m e n k x = go (plain x) refl
  where
    go : (t : Bool) → plain x ≡ t → (le (fin false m e) x && le x (fin false n (pos k))) ≡ (plain x && (leb (m * up e * den x) (num x * down e) && leb (num x) (n * 2 ^ k * den x)))
    go true p =
        ap₂ (λ (y z : Bool). y && z) (plain-le (fin false m e) x tt (subst T (sym p) tt)) (plain-le x (fin false n (pos k)) (subst T (sym p) tt) tt ∙ ap (λ (z : ℕ). leb z (n * 2 ^ k * den x)) (mul-one (num x)))
        ∙ rw p
    go false p = beyond m e n (pos k) x (subst (λ (z : Bool). T (not z)) (sym p) tt) ∙ rw p
