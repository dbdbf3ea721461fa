-- Numbers and their bits: two with the same bits are equal, a number gathered from bits has those bits, and one that is not 0 has a bit that is
-- not. By halving: bit j + 1 of a number is bit j of its half. Assumes nothing.
use mathlib.Core.Path.{◌≡◌, refl, sym, ◌∙◌, ap, ap₂}
use mathlib.Core.Bool.{Bool, true, false}
use mathlib.Core.Logic.{◌⊎◌, inl, inr}
use Prim.Native.Nat.{ℕ, zero, suc, ◌+◌, ◌-◌, ◌*◌, ◌/◌, ◌%◌, ◌<◌, ◌≤◌, ◌^◌, zero-le, suc-le-suc}
use native.Mathlib.Nat.{le_of_suc-le-suc, not-suc-le-zero, mod-lt, zero-add, add-zero, eq-or-lt_of_le, zero-lt-suc, pow-succ'}
use native.Mathlib.Numerals.{one-add}
use native.Mathlib.Omega.{arith}
use lib.Dec.{eqb, lit<}
use lib.Pow.{shr-shr, pow_mono}
use Rattle.paper.specs.Numbers.{bit, bit_for, gather}

-- ---- bits of a number

pub bit-lt : (n k : ℕ) → bit n k < 2
bit-lt n k = mod-lt (n / 2 ^ k) (suc-le-suc zero-le)

pub bit-suc : (n j : ℕ) → bit n (suc j) ≡ bit (n / 2) j
bit-suc n j = ap (λ (x : ℕ). x % 2) (ap (λ (x : ℕ). n / 2 ^ x) (sym (one-add j)) ∙ sym (shr-shr n 1 j))

-- equal bits, equal numbers
pub bits-ext : (w a b : ℕ) → a < 2 ^ w → b < 2 ^ w → ((k : ℕ) → k < w → bit a k ≡ bit b k) → a ≡ b
bits-ext zero a b ha hb e = omega arith
bits-ext (suc w) a b ha hb e =
    let ih : a / 2 ≡ b / 2 = bits-ext w (a / 2) (b / 2) (omega arith) (omega arith) (λ k h. sym (bit-suc a k) ∙ e (suc k) (suc-le-suc h) ∙ bit-suc b k) in
    omega (arith, e 0 (suc-le-suc zero-le))

-- a set bit of a number that is not 0
pub some-bit : (w n : ℕ) → n < 2 ^ w → 0 < n → (k : ℕ) × (k < w) × (bit n k ≡ 1)
some-bit zero n h p = absurd (omega arith)
some-bit (suc w) n h p =
    elim (eq-or-lt_of_le (le_of_suc-le-suc (bit-lt n 0))) [
      | inl e ↦ (0, suc-le-suc zero-le, e)
      | inr l ↦
          let r : (k : ℕ) × (k < w) × (bit (n / 2) k ≡ 1) = some-bit w (n / 2) (omega arith) (omega arith) in
          (suc r.0, suc-le-suc r.1, bit-suc n r.0 ∙ r.2)
    ]

-- ---- a number gathered from bits

pub gather-bit : (f : ℕ → ℕ) → ((i : ℕ) → f i < 2) → (n k j : ℕ) → j < n → bit (gather k n f) j ≡ f (k + j)
unfolding gather
gather-bit f hf zero k j h = absurd (not-suc-le-zero h)
gather-bit f hf (suc n) k zero h = rw add-zero (omega (arith, hf k))
gather-bit f hf (suc n) k (suc j) h =
    let half : (f k + 2 * gather (suc k) n f) / 2 ≡ gather (suc k) n f = omega (arith, hf k) in
    bit-suc (f k + 2 * gather (suc k) n f) j ∙ ap (λ (x : ℕ). bit x j) half
    ∙ gather-bit f hf n (suc k) j (le_of_suc-le-suc h) ∙ ap f (omega arith)

pub gather-lt : (f : ℕ → ℕ) → ((i : ℕ) → f i < 2) → (n k : ℕ) → gather k n f < 2 ^ n
unfolding gather
gather-lt f hf zero k = lit< tt
gather-lt f hf (suc n) k = omega (arith, hf k, gather-lt f hf n (suc k))

pub gather-same : (k n : ℕ) (f g : ℕ → ℕ) → ((j : ℕ) → j < k + n → f j ≡ g j) → gather k n f ≡ gather k n g
unfolding gather
gather-same k zero f g e = refl
gather-same k (suc n) f g e = ap₂ (λ (a b : ℕ). a + 2 * b) (e k (omega arith)) (gather-same (suc k) n f g (λ j h. e j (omega arith)))

pub gather-shift : (k n : ℕ) (f : ℕ → ℕ) → gather (suc k) n f ≡ gather k n (λ i. f (suc i))
unfolding gather
gather-shift k zero f = refl
gather-shift k (suc n) f = ap (λ (b : ℕ). f (suc k) + 2 * b) (gather-shift (suc k) n f)

-- not 0 exactly where some part is not
pub gather-pos : (k n : ℕ) (f : ℕ → ℕ) (j : ℕ) → k ≤ j → j < k + n → 0 < f j → 0 < gather k n f
unfolding gather
gather-pos k zero f j l h p = absurd (omega arith)
gather-pos k (suc n) f j l h p = go (eq-or-lt_of_le l) (gather-pos (suc k) n f j)
  where
    go : (k ≡ j) ⊎ (k < j) → (suc k ≤ j → j < suc k + n → 0 < f j → 0 < gather (suc k) n f) → 0 < f k + 2 * gather (suc k) n f
    go (inl e) ih = rw e (omega arith)
    go (inr m) ih = omega (arith, ih m (omega arith) p)

pub gather-some : (k n : ℕ) (f : ℕ → ℕ) → 0 < gather k n f → (j : ℕ) × (j < k + n) × (0 < f j)
unfolding gather
gather-some k zero f p = absurd (not-suc-le-zero p)
gather-some k (suc n) f p = go (f k) refl (gather-some (suc k) n f) p
  where
    go : (m : ℕ) → f k ≡ m → (0 < gather (suc k) n f → (j : ℕ) × (j < suc k + n) × (0 < f j)) → 0 < m + 2 * gather (suc k) n f
        → (j : ℕ) × (j < k + suc n) × (0 < f j)
    go zero e ih h = let w : (j : ℕ) × (j < suc k + n) × (0 < f j) = ih (omega arith) in (w.0, omega (arith, w.1), w.2)
    go (suc m) e ih h = (k, omega arith, rw e (zero-lt-suc m))

-- the bits of a number gather to it
pub gather-bits : (w n : ℕ) → n < 2 ^ w → gather 0 w (bit n) ≡ n
gather-bits w n h =
    bits-ext w (gather 0 w (bit n)) n (gather-lt (bit n) (bit-lt n) w 0) h (λ k l. gather-bit (bit n) (bit-lt n) w 0 k l ∙ ap (bit n) (zero-add k))

-- ---- bits for tests

-- ---- gathered from the last bit down

-- no bit yet, and one bit more below those gathered
pub gather_none : (n : ℕ) (f : ℕ → ℕ) → gather n (n - n) f ≡ 0
unfolding gather
gather_none n f = let e : n - n ≡ 0 = omega arith in rw e

pub gather-down : (n k : ℕ) (f : ℕ → ℕ) → (k ≡ 0 → ⊥) → k ≤ n → gather (k - 1) (n - (k - 1)) f ≡ f (k - 1) + 2 * gather k (n - k) f
unfolding gather
gather-down n zero f z h = absurd (z refl)
gather-down n (suc k) f z h = let e : n - k ≡ suc (n - suc k) = omega arith in let d : suc k - 1 ≡ k = omega arith in rw (d, e)

-- room for one bit more
pub gather-room : (n k : ℕ) (f : ℕ → ℕ) → ((i : ℕ) → f i < 2) → (k ≡ 0 → ⊥) → k ≤ n → 2 * gather k (n - k) f + 1 < 2 ^ n
gather-room n zero f hf z h = absurd (z refl)
gather-room n (suc k) f hf z h =
    let up : 2 ^ suc (n - suc k) ≤ 2 ^ n = pow_mono {i = suc (n - suc k)} {j = n} (omega arith) in
    omega (arith, gather-lt f hf (n - suc k) (suc k), pow-succ' 2 (n - suc k), up)

pub bit_for-lt : (b : Bool) → bit_for b < 2
bit_for-lt true = lit< tt
bit_for-lt false = lit< tt

pub bit_for-is : (b : Bool) → eqb (bit_for b) 1 ≡ b
bit_for-is true = refl
bit_for-is false = refl

pub bit_for-pos : (b : Bool) → 0 < bit_for b → b ≡ true
bit_for-pos true h = refl
bit_for-pos false h = absurd (omega arith)

pub test-bit_for : (n : ℕ) → n < 2 → bit_for (eqb n 1) ≡ n
test-bit_for zero h = refl
test-bit_for (suc zero) h = refl
test-bit_for (suc (suc n)) h = absurd (omega arith)

-- gathered from tests: each bit is its test
pub tests-bit : (p : ℕ → Bool) (n k : ℕ) → k < n → eqb (bit (gather 0 n (λ i. bit_for (p i))) k) 1 ≡ p k
tests-bit p n k h =
    let f : ℕ → ℕ = λ i. bit_for (p i) in
    ap (λ (m : ℕ). eqb m 1) (gather-bit f (λ i. bit_for-lt (p i)) n 0 k h ∙ ap f (zero-add k)) ∙ bit_for-is (p k)

pub tests-lt : (p : ℕ → Bool) (n : ℕ) → gather 0 n (λ i. bit_for (p i)) < 2 ^ n
tests-lt p n = gather-lt (λ i. bit_for (p i)) (λ i. bit_for-lt (p i)) n 0

-- numbers whose bits pass the same tests are equal
pub tests-ext : (w a b : ℕ) → a < 2 ^ w → b < 2 ^ w → ((k : ℕ) → k < w → eqb (bit a k) 1 ≡ eqb (bit b k) 1) → a ≡ b
tests-ext w a b ha hb e = bits-ext w a b ha hb (λ k h. sym (test-bit_for (bit a k) (bit-lt a k)) ∙ ap bit_for (e k h) ∙ test-bit_for (bit b k) (bit-lt b k))
