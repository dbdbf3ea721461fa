-- Moments of a line and the steps on one axis up to them: fractions compared by cross-multiplication, how many crossings come no later, the
-- earlier of two moments. Each fact is one of products, stated once over plain numbers. Assumes nothing.
use mathlib.Core.Path.{◌≡◌, refl}
use mathlib.Core.Bool.{Bool, true, false, cond}
use Prim.Native.Nat.{ℕ, zero, suc, ◌+◌, ◌*◌, ◌<◌, ◌≤◌}
use native.Mathlib.Nat.{mul-le-mul_right, mul-lt-mul_of_pos_right, le_of_mul-le-mul_right, lt_of_mul-lt-mul_right, div-mul-le_self, lt-div-mul-add, div-eq_of_lt-le}
use native.Mathlib.Omega.{arith}
use borrow.Author.Tests.{leb-true, leb-false}
use lib.Dec.{leb}
use Rattle.laws.specs.Lines.{Moment, at_end, crossing, earlier, passed}

-- ---- a / b, c / d and e / f, one after another

pub cross-le : (a b c d e f : ℕ) → a * d ≤ c * b → c * f ≤ e * d → 0 < d → a * f ≤ e * b
cross-le a b c d e f h l p =
    le_of_mul-le-mul_right {m = a * f} {n = e * b} {k = d} (omega (arith, mul-le-mul_right f h, mul-le-mul_right b l)) p

pub cross-le-lt : (a b c d e f : ℕ) → a * d ≤ c * b → c * f < e * d → 0 < b → a * f < e * b
cross-le-lt a b c d e f h l p =
    lt_of_mul-lt-mul_right d {m = a * f} {n = e * b} (omega (arith, mul-le-mul_right f h, mul-lt-mul_of_pos_right {k = b} l p))

-- the third a crossing's, which may be never
pub cross-lt-le : (a b c d i f : ℕ) → a * d < c * b → c * f ≤ (2 * i + 1) * d → 0 < b → a * f < (2 * i + 1) * b
cross-lt-le a b c d i zero h l p = omega (arith, mul-le-mul_right i p)
cross-lt-le a b c d i (suc f) h l p =
    lt_of_mul-lt-mul_right d {m = a * suc f} {n = (2 * i + 1) * b}
    (omega (arith, mul-lt-mul_of_pos_right {k = suc f} h (omega arith), mul-le-mul_right b l))

-- ---- moments

abbrev pub NotAfter : Moment → Moment → Type 0
NotAfter t u = t.halves * u.parts ≤ u.halves * t.parts

abbrev pub Sooner : Moment → Moment → Type 0
Sooner t u = t.halves * u.parts < u.halves * t.parts

-- one of the segment, its start left out
pub record Early (t : Moment) : Type 0 where
  pub parted : 0 < t.parts
  pub begun : 0 < t.halves
  pub in_time : t.halves ≤ 2 * t.parts

pub end-early : Early at_end
end-early = record { parted = omega arith; begun = omega arith; in_time = omega arith }

-- ---- the earlier of two

earlier-rule : (P : Moment → Type 0) (t u : Moment) → (NotAfter t u → P t) → (Sooner u t → P u) → P (earlier t u)
earlier-rule P t u f g = go (leb (t.halves * u.parts) (u.halves * t.parts)) refl
  where
    go : (b : Bool) → leb (t.halves * u.parts) (u.halves * t.parts) ≡ b → P (cond b t u)
    go true e = f (leb-true (t.halves * u.parts) (u.halves * t.parts) e)
    go false e = g (leb-false (t.halves * u.parts) (u.halves * t.parts) e)

pub earlier-first : (t u : Moment) → NotAfter (earlier t u) t
earlier-first t u = earlier-rule (λ r. NotAfter r t) t u (λ h. omega arith) (λ h. omega arith)

pub earlier-second : (t u : Moment) → NotAfter (earlier t u) u
earlier-second t u = earlier-rule (λ r. NotAfter r u) t u (λ h. h) (λ h. omega arith)

pub earlier-low : (w t u : Moment) → NotAfter w t → NotAfter w u → NotAfter w (earlier t u)
earlier-low w t u h l = earlier-rule (λ r. NotAfter w r) t u (λ _. h) (λ _. l)

pub earlier-above : (w t u : Moment) → Sooner w t → Sooner w u → Sooner w (earlier t u)
earlier-above w t u h l = earlier-rule (λ r. Sooner w r) t u (λ _. h) (λ _. l)

pub earlier-early : (t u : Moment) → Early t → 0 < u.halves → Early (earlier t u)
earlier-early t u e p = earlier-rule Early t u (λ _. e) (λ s. later s (parted s))
  where
    parted : Sooner u t → 0 < u.parts
    parted s = lt_of_mul-lt-mul_right t.halves {m = 0} {n = u.parts} (omega arith)

    later : Sooner u t → 0 < u.parts → Early u
    later s q = record {
      parted = q;
      begun = p;
      in_time =
          le_of_mul-le-mul_right {m = u.halves} {n = 2 * u.parts} {k = t.parts} (omega (arith, s, mul-le-mul_right u.parts e.in_time))
          e.parted;
    }

-- ---- steps on an axis of distance d up to a moment

-- crossing i - 1 comes no later, and crossing i later
pub record Counts (t : Moment) (d i : ℕ) : Type 0 where
  pub low : 2 * i * t.parts ≤ t.halves * d + t.parts
  pub high : Sooner t (crossing d i)

spread : (x n i : ℕ) → i * (2 * n) ≤ x + n → x + n < i * (2 * n) + 2 * n → (2 * i * n ≤ x + n) × (x < (2 * i + 1) * n)
spread x n i h l = (omega arith, omega arith)

pub passed-counts : (t : Moment) (d : ℕ) → 0 < t.parts → Counts t d (passed t d)
passed-counts t d p =
    let r = spread (t.halves * d) t.parts (passed t d) (div-mul-le_self (t.halves * d + t.parts) (2 * t.parts))
    (lt-div-mul-add {a = t.halves * d + t.parts} {b = 2 * t.parts} (omega arith)) in
    record { low = r.0; high = r.1 }

pub counts-passed : (t : Moment) (d i : ℕ) → Counts t d i → passed t d ≡ i
counts-passed t d i c =
    div-eq_of_lt-le {k = i} (2 * t.parts) {m = t.halves * d + t.parts} (omega (arith, c.low)) (omega (arith, c.high))

-- what comes no later than a moment comes no later than a later one, and what comes later than that comes later than this
pub low-later : (t u : Moment) (d i : ℕ) → 0 < t.parts → NotAfter t u → 2 * i * t.parts ≤ t.halves * d + t.parts
    → 2 * i * u.parts ≤ u.halves * d + u.parts
low-later t u d i p h l =
    le_of_mul-le-mul_right {m = 2 * i * u.parts} {n = u.halves * d + u.parts} {k = t.parts}
    (omega (arith, mul-le-mul_right d h, mul-le-mul_right u.parts l)) p

pub high-sooner : (t u : Moment) (d i : ℕ) → 0 < t.parts → NotAfter t u → Sooner u (crossing d i) → Sooner t (crossing d i)
high-sooner t u d i p h l = cross-le-lt t.halves t.parts u.halves u.parts (2 * i + 1) d h l p

pub counts_same : (t u : Moment) (d i : ℕ) → 0 < t.parts → 0 < u.parts → NotAfter t u → NotAfter u t → Counts t d i → Counts u d i
counts_same t u d i p q h k c = record { low = low-later t u d i p h c.low; high = high-sooner u t d i q k c.high }

-- as many or more at a later moment
pub counts-rise : (t u : Moment) (d i j : ℕ) → 0 < t.parts → NotAfter t u → Counts t d i → Counts u d j → i ≤ j
counts-rise t u d i j p h c e =
    let l : 2 * i * u.parts ≤ u.halves * d + u.parts = low-later t u d i p h c.low in
    let r : i * u.parts < suc j * u.parts = omega (arith, e.high) in
    let s : i < suc j = lt_of_mul-lt-mul_right u.parts r in
    omega arith

-- no more than there are
pub counts-most : (t : Moment) (d i : ℕ) → 0 < t.parts → t.halves ≤ 2 * t.parts → Counts t d i → i ≤ d
counts-most t d i p h c =
    let r : i * t.parts < suc d * t.parts = omega (arith, c.low, mul-le-mul_right d h) in
    let s : i < suc d = lt_of_mul-lt-mul_right t.parts r in
    omega arith

-- ---- midway between two moments: strictly after the crossing before and strictly before the next

module _ (d i m n M N : ℕ) (p : 0 < n) (q : 0 < N) where
  pub mid-low : 2 * i * n ≤ m * d + n → m * N < M * n → 2 * i * (4 * (n * N)) < 2 * (m * N + M * n) * d + 4 * (n * N)
  mid-low l h = go d refl
    where
      go : (e : ℕ) → d ≡ e → 2 * i * (4 * (n * N)) < 2 * (m * N + M * n) * d + 4 * (n * N)
      go zero e =
          let z : m * d ≡ 0 = rw e (omega arith) in
          let r : i * n < 1 * n = omega arith in
          let s : i < 1 = lt_of_mul-lt-mul_right n r in
          let t : i ≡ 0 = omega arith in
          rw (t, e) (omega (arith, mul-lt-mul_of_pos_right {m = 0} {k = N} p q))
      go (suc e) s = omega (arith, mul-le-mul_right N l, mul-lt-mul_of_pos_right {k = d} h (omega arith))

  pub mid-high : m * d < (2 * i + 1) * n → M * d ≤ (2 * i + 1) * N
      → 2 * (m * N + M * n) * d + 4 * (n * N) < 2 * i * (4 * (n * N)) + 2 * (4 * (n * N))
  mid-high l h = omega (arith, mul-lt-mul_of_pos_right {k = N} l q, mul-le-mul_right n h)
