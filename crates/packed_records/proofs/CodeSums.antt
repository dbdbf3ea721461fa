-- The half-words of a record by adding its codes two by two, then four by four: the sum over the codes of the definition.
-- By the codes as digits, and the masks that take every other one. Assumes nothing.
use mathlib.Core.Path.{◌≡◌, refl, sym, ◌∙◌, ap, ap₂}
use Prim.Native.Nat.{ℕ, zero, suc, ◌+◌, ◌*◌, ◌/◌, ◌%◌, ◌^◌, ◌≤◌, ◌<◌}
use native.Mathlib.Nat.{le_of_suc-le-suc, not-suc-le-zero, mod-one, zero-add}
use native.Mathlib.Omega.{arith}
use lib.Bits.{bit_and, and_block, and_mask}
use lib.Dec.{lit<}
use lib.Pow.{mod-pow-add}
use Rattle.paper.specs.Packed.{halves}

-- ---- the codes below n

halves-zero : (m : ℕ) → halves m 0 ≡ 1
unfolding halves
halves-zero zero = refl
halves-zero (suc m) = zero-add (halves m 0) ∙ halves-zero m

pub halves-low : (m n h : ℕ) → n ≤ m → halves m (h % 2 ^ (2 * n)) ≡ halves n h
unfolding halves
halves-low m zero h l = ap (halves m) (mod-one h) ∙ halves-zero m
halves-low zero (suc n) h l = absurd (not-suc-le-zero l)
halves-low (suc m) (suc n) h l =
    let twice : 2 * suc n ≡ 2 * n + 2 = omega arith in
    let x : h % 2 ^ (2 * suc n) ≡ (h / 4 % 2 ^ (2 * n)) * 4 + h % 4 = ap (λ (i : ℕ). h % 2 ^ i) twice ∙ mod-pow-add h (2 * n) 2 in
    let low : ((h / 4 % 2 ^ (2 * n)) * 4 + h % 4) % 4 ≡ h % 4 = omega arith in
    let high : ((h / 4 % 2 ^ (2 * n)) * 4 + h % 4) / 4 ≡ h / 4 % 2 ^ (2 * n) = omega arith in
    ap (λ (i : ℕ). i % 4 + halves m (i / 4)) x ∙ ap₂ (λ (i j : ℕ). i + halves m j) low high ∙ ap (λ (i : ℕ). h % 4 + i) (halves-low m n (h / 4) (le_of_suc-le-suc l))

-- no code is more than 3
pub halves-three : (n h : ℕ) → halves n h ≤ 1 + 3 * n
unfolding halves
halves-three zero h = omega arith
halves-three (suc n) h = omega (arith, halves-three n (h / 4))

-- ---- masks

nibble : (y q m : ℕ) → q < 16 → bit_and (y * 16 + q) (m * 16 + 3) ≡ bit_and y m * 16 + q % 4
nibble y q m l = and_block 4 y m q 3 l (lit< tt) ∙ ap (λ (i : ℕ). bit_and y m * 16 + i) (and_mask q 2)

nibbles : (q3 q2 q1 q0 : ℕ) → q2 < 16 → q1 < 16 → q0 < 16 → bit_and (((q3 * 16 + q2) * 16 + q1) * 16 + q0) 13107 ≡ ((q3 % 4 * 16 + q2 % 4) * 16 + q1 % 4) * 16 + q0 % 4
nibbles q3 q2 q1 q0 l2 l1 l0 =
    nibble ((q3 * 16 + q2) * 16 + q1) q0 819 l0
    ∙ ap (λ (i : ℕ). i * 16 + q0 % 4) (nibble (q3 * 16 + q2) q1 51 l1 ∙ ap (λ (i : ℕ). i * 16 + q1 % 4) (nibble q3 q2 3 l2 ∙ ap (λ (i : ℕ). i * 16 + q2 % 4) (and_mask q3 2)))

octets : (y q : ℕ) → q < 256 → bit_and (y * 256 + q) 3855 ≡ y % 16 * 256 + q % 16
octets y q l = and_block 8 y 15 q 15 l (lit< tt) ∙ ap₂ (λ (i j : ℕ). i * 256 + j) (and_mask y 4) (and_mask q 4)

-- ---- the sums

abbrev pub pairs_of : ℕ → ℕ
pairs_of c = bit_and c 13107 + bit_and (c / 4) 13107

abbrev pub fours_of : ℕ → ℕ
fours_of p = bit_and p 3855 + bit_and (p / 16) 3855

abbrev four : ℕ → ℕ → ℕ → ℕ → ℕ
four q3 q2 q1 q0 = ((q3 * 16 + q2) * 16 + q1) * 16 + q0

low-code : (a b : ℕ) → b < 4 → (a * 4 + b) % 4 ≡ b
low-code a b l = omega arith

one_code : (a : ℕ) → a < 4 → a % 4 ≡ a
one_code a l = omega arith

two-codes : (a b : ℕ) → a < 4 → b < 4 → a * 4 + b < 16
two-codes a b k l = omega arith

quarter : (y a b : ℕ) → b < 4 → (y * 16 + (a * 4 + b)) / 4 ≡ y * 4 + a
quarter y a b l = omega arith

regroup : (a7 a6 a5 a4 a3 a2 a1 : ℕ) → (((a7 * 4 + a6) * 16 + (a5 * 4 + a4)) * 16 + (a3 * 4 + a2)) * 4 + a1 ≡ four a7 (a6 * 4 + a5) (a4 * 4 + a3) (a2 * 4 + a1)
regroup a7 a6 a5 a4 a3 a2 a1 = omega arith

added : (a7 a6 a5 a4 a3 a2 a1 a0 : ℕ) → four a6 a4 a2 a0 + four a7 a5 a3 a1 ≡ four (a7 + a6) (a5 + a4) (a3 + a2) (a1 + a0)
added a7 a6 a5 a4 a3 a2 a1 a0 = omega arith

pairs-are : (a7 a6 a5 a4 a3 a2 a1 a0 : ℕ) → a7 < 4 → a6 < 4 → a5 < 4 → a4 < 4 → a3 < 4 → a2 < 4 → a1 < 4 → a0 < 4
    → pairs_of (four (a7 * 4 + a6) (a5 * 4 + a4) (a3 * 4 + a2) (a1 * 4 + a0)) ≡ four (a7 + a6) (a5 + a4) (a3 + a2) (a1 + a0)
pairs-are a7 a6 a5 a4 a3 a2 a1 a0 l7 l6 l5 l4 l3 l2 l1 l0 =
    let c : ℕ = four (a7 * 4 + a6) (a5 * 4 + a4) (a3 * 4 + a2) (a1 * 4 + a0) in
    let even : bit_and c 13107 ≡ four a6 a4 a2 a0 =
    nibbles (a7 * 4 + a6) (a5 * 4 + a4) (a3 * 4 + a2) (a1 * 4 + a0) (two-codes a5 a4 l5 l4) (two-codes a3 a2 l3 l2) (two-codes a1 a0 l1 l0)
    ∙ (λ i. four (low-code a7 a6 l6 i) (low-code a5 a4 l4 i) (low-code a3 a2 l2 i) (low-code a1 a0 l0 i)) in
    let odd : bit_and (four a7 (a6 * 4 + a5) (a4 * 4 + a3) (a2 * 4 + a1)) 13107 ≡ four a7 a5 a3 a1 =
    nibbles a7 (a6 * 4 + a5) (a4 * 4 + a3) (a2 * 4 + a1) (two-codes a6 a5 l6 l5) (two-codes a4 a3 l4 l3) (two-codes a2 a1 l2 l1)
    ∙ (λ i. four (one_code a7 l7 i) (low-code a6 a5 l5 i) (low-code a4 a3 l3 i) (low-code a2 a1 l1 i)) in
    let shift : c / 4 ≡ four a7 (a6 * 4 + a5) (a4 * 4 + a3) (a2 * 4 + a1) =
    quarter (((a7 * 4 + a6) * 16 + (a5 * 4 + a4)) * 16 + (a3 * 4 + a2)) a1 a0 l0 ∙ regroup a7 a6 a5 a4 a3 a2 a1 in
    ap₂ (λ (i j : ℕ). i + j) even (ap (λ (i : ℕ). bit_and i 13107) shift ∙ odd) ∙ added a7 a6 a5 a4 a3 a2 a1 a0

fours-are : (p3 p2 p1 p0 : ℕ) → p3 < 8 → p2 < 8 → p1 < 8 → p0 < 8 → fours_of (((p3 * 16 + p2) * 16 + p1) * 16 + p0) ≡ (p3 + p2) * 256 + (p1 + p0)
fours-are p3 p2 p1 p0 l3 l2 l1 l0 =
    let whole : ((p3 * 16 + p2) * 16 + p1) * 16 + p0 ≡ (p3 * 16 + p2) * 256 + (p1 * 16 + p0) = omega arith in
    let shift : (((p3 * 16 + p2) * 16 + p1) * 16 + p0) / 16 ≡ p3 * 256 + (p2 * 16 + p1) = omega arith in
    let e2 : (p3 * 16 + p2) % 16 ≡ p2 = omega arith in
    let e0 : (p1 * 16 + p0) % 16 ≡ p0 = omega arith in
    let o3 : p3 % 16 ≡ p3 = omega arith in
    let o1 : (p2 * 16 + p1) % 16 ≡ p1 = omega arith in
    ap₂ (λ (i j : ℕ). bit_and i 3855 + bit_and j 3855) whole shift
    ∙ ap₂ (λ (i j : ℕ). i + j) (octets (p3 * 16 + p2) (p1 * 16 + p0) (omega arith)) (octets p3 (p2 * 16 + p1) (omega arith))
    ∙ omega (arith, e2, e0, o3, o1)

-- ---- all eight codes

code_lt : (n : ℕ) → n % 4 < 4
code_lt n = omega arith

pair_lt : (a b : ℕ) → a < 4 → b < 4 → a + b < 8
pair_lt a b k l = omega arith

split : (n : ℕ) → n ≡ n / 4 * 4 + n % 4
split n = omega arith

quarter-lt : (n k : ℕ) → n < k * 4 → n / 4 < k
quarter-lt n k l = omega arith

digits : (c c1 c2 c3 c4 c5 c6 a7 a6 a5 a4 a3 a2 a1 a0 : ℕ) → c ≡ c1 * 4 + a0 → c1 ≡ c2 * 4 + a1 → c2 ≡ c3 * 4 + a2 → c3 ≡ c4 * 4 + a3 → c4 ≡ c5 * 4 + a4 → c5 ≡ c6 * 4 + a5
    → c6 ≡ a7 * 4 + a6 → c ≡ four (a7 * 4 + a6) (a5 * 4 + a4) (a3 * 4 + a2) (a1 * 4 + a0)
digits c c1 c2 c3 c4 c5 c6 a7 a6 a5 a4 a3 a2 a1 a0 e0 e1 e2 e3 e4 e5 e6 = omega arith

parted : (p3 p2 p1 p0 : ℕ) → p1 < 8 → p0 < 8 → 1 + ((p3 + p2) * 256 + (p1 + p0)) % 256 + ((p3 + p2) * 256 + (p1 + p0)) / 256 ≡ 1 + (p3 + p2 + (p1 + p0))
parted p3 p2 p1 p0 l1 l0 =
    let low : ((p3 + p2) * 256 + (p1 + p0)) % 256 ≡ p1 + p0 = omega arith in
    let high : ((p3 + p2) * 256 + (p1 + p0)) / 256 ≡ p3 + p2 = omega arith in
    omega (arith, low, high)

listed : (a7 a6 a5 a4 a3 a2 a1 a0 : ℕ) → 1 + (a7 + a6 + (a5 + a4) + (a3 + a2 + (a1 + a0))) ≡ a0 + (a1 + (a2 + (a3 + (a4 + (a5 + (a6 + (a7 + 1)))))))
listed a7 a6 a5 a4 a3 a2 a1 a0 = omega arith

pub halves-sum : (c : ℕ) → c < 65536 → 1 + fours_of (pairs_of c) % 256 + fours_of (pairs_of c) / 256 ≡ halves 8 c
unfolding halves
halves-sum c l =
    let c1 : ℕ = c / 4 in
    let c2 : ℕ = c1 / 4 in
    let c3 : ℕ = c2 / 4 in
    let c4 : ℕ = c3 / 4 in
    let c5 : ℕ = c4 / 4 in
    let c6 : ℕ = c5 / 4 in
    let c7 : ℕ = c6 / 4 in
    let h7 : c7 < 4 = quarter-lt c6 4 (quarter-lt c5 16 (quarter-lt c4 64 (quarter-lt c3 256 (quarter-lt c2 1024 (quarter-lt c1 4096 (quarter-lt c 16384 l)))))) in
    let a : ℕ → ℕ = λ n. n % 4 in
    let top : c6 ≡ a c7 * 4 + a c6 = split c6 ∙ ap (λ (n : ℕ). n * 4 + a c6) (sym (one_code c7 h7)) in
    let is : c ≡ four (a c7 * 4 + a c6) (a c5 * 4 + a c4) (a c3 * 4 + a c2) (a c1 * 4 + a c) =
    digits c c1 c2 c3 c4 c5 c6 (a c7) (a c6) (a c5) (a c4) (a c3) (a c2) (a c1) (a c) (split c) (split c1) (split c2) (split c3) (split c4) (split c5) top in
    let sums = pairs-are (a c7) (a c6) (a c5) (a c4) (a c3) (a c2) (a c1) (a c) (code_lt c7) (code_lt c6) (code_lt c5) (code_lt c4) (code_lt c3) (code_lt c2) (code_lt c1) (code_lt c) in
    let l3 : a c7 + a c6 < 8 = pair_lt (a c7) (a c6) (code_lt c7) (code_lt c6) in
    let l2 : a c5 + a c4 < 8 = pair_lt (a c5) (a c4) (code_lt c5) (code_lt c4) in
    let l1 : a c3 + a c2 < 8 = pair_lt (a c3) (a c2) (code_lt c3) (code_lt c2) in
    let l0 : a c1 + a c < 8 = pair_lt (a c1) (a c) (code_lt c1) (code_lt c) in
    ap (λ (f : ℕ). 1 + f % 256 + f / 256) (ap fours_of (ap pairs_of is ∙ sums) ∙ fours-are (a c7 + a c6) (a c5 + a c4) (a c3 + a c2) (a c1 + a c) l3 l2 l1 l0)
    ∙ parted (a c7 + a c6) (a c5 + a c4) (a c3 + a c2) (a c1 + a c) l1 l0 ∙ listed (a c7) (a c6) (a c5) (a c4) (a c3) (a c2) (a c1) (a c)
