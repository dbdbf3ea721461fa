-- A record has a long pointer where one of its header's codes has its high bit set: found for all eight at once, and the same as by its pointers where no
-- code is 3. By taking one child's two bits off the header at a time. Assumes nothing.
use mathlib.Core.Path.{◌≡◌, refl, sym, ◌∙◌, ap, ap₂}
use mathlib.Core.Bool.{Bool, true, false, cond, not}
use mathlib.Core.List.{List}
use Prim.Native.Nat.{ℕ, zero, suc, ◌+◌, ◌*◌, ◌/◌, ◌%◌}
use native.Mathlib.Omega.{arith}
use borrow.Author.Tests.{eq-eqb, ne_eqb, eqb-false, ltb-true, ltb-false}
use lib.Bits.{bit_and, and_zero_r, and_shr, and_mod}
use lib.Dec.{T, eqb, ltb, eqb→eq, eqb-suc-zero}
use lib.ListN.{drop}
use Rattle.paper.specs.Numbers.{all_in, bit_for}
use Rattle.paper.specs.Packed.{PackedPointer, header_at, codes_ok, read_pointers, pointers_at, record_ok, short_at}
use Rattle.laws.proofs.Tests.{all-at}
use Rattle.packed_records.proofs.Records.{record-good}
use Rattle.proper_long.specs.Longs.{codes_short}

-- the high bits of n codes
abbrev pub high_bits : ℕ → ℕ
high_bits zero = 0
high_bits (suc n) = let r = high_bits n in r * 4 + 2

-- the high bit of a code: set where it is above 1
high_bit : (c : ℕ) → c ≡ c % 4 → bit_and c 2 ≡ 2 * bit_for (not (ltb c 2))
high_bit c e = eqb→eq (bit_and c 2) (2 * bit_for (not (ltb c 2))) (all-at 4 (λ i. eqb (bit_and i 2) (2 * bit_for (not (ltb i 2)))) tt c (omega (arith, e)))

-- the high bits of the lowest n codes at once
highs : ℕ → ℕ → ℕ
highs n h = bit_and h (high_bits n)

highs-less : (n h : ℕ) → highs (suc n) h ≡ highs n (h / 4) * 4 + 2 * bit_for (not (ltb (h % 4) 2))
unfolding highs
highs-less n h =
    let x : ℕ = bit_and h (high_bits n * 4 + 2) in
    let above : (high_bits n * 4 + 2) / 4 ≡ high_bits n = omega arith in
    let lowest : (high_bits n * 4 + 2) % 4 ≡ 2 = omega arith in
    let high : x / 4 ≡ bit_and (h / 4) (high_bits n) = and_shr h (high_bits n * 4 + 2) 2 ∙ ap (bit_and (h / 4)) above in
    let low : x % 4 ≡ 2 * bit_for (not (ltb (h % 4) 2)) = and_mod h (high_bits n * 4 + 2) 2 ∙ ap (bit_and (h % 4)) lowest ∙ high_bit (h % 4) (omega arith) in
    omega (arith, high, low)

pub short-bits : (n h : ℕ) → eqb (bit_and h (high_bits n)) 0 ≡ codes_short n h
unfolding codes_short highs
short-bits zero h = rw (and_zero_r h) refl
short-bits (suc n) h = go (ltb (h % 4) 2) refl (short-bits n (h / 4))
  where
    same-zero : (x y : ℕ) → x ≡ y * 4 + 0 → eqb x 0 ≡ eqb y 0
    same-zero x zero e = let z : x ≡ 0 = omega (arith, e) in ap (λ (m : ℕ). eqb m 0) z
    same-zero x (suc y) e = ne_eqb x 0 (λ z. omega (arith, e, z)) ∙ sym (eqb-suc-zero y)

    go : (b : Bool) → ltb (h % 4) 2 ≡ b → eqb (highs n (h / 4)) 0 ≡ codes_short n (h / 4) → eqb (highs (suc n) h) 0 ≡ cond b (codes_short n (h / 4)) false
    go true q ih =
        let e : highs (suc n) h ≡ highs n (h / 4) * 4 + 0 = highs-less n h ∙ ap (λ (b : Bool). highs n (h / 4) * 4 + 2 * bit_for (not b)) q in
        same-zero (highs (suc n) h) (highs n (h / 4)) e ∙ ih
    go false q ih =
        let e : highs (suc n) h ≡ highs n (h / 4) * 4 + 2 = highs-less n h ∙ ap (λ (b : Bool). highs n (h / 4) * 4 + 2 * bit_for (not b)) q in
        ne_eqb (highs (suc n) h) 0 (λ z. omega (arith, e, z))

-- ---- by the pointers

-- a pointer that isn't long
abbrev is_short : PackedPointer → Bool
is_short q = not (eqb q.code 2)

-- a code that isn't 3 is above 1 where it is 2
code-short : (c : ℕ) → c ≡ c % 4 → eqb c 3 ≡ false → ltb c 2 ≡ not (eqb c 2)
code-short c e three = go (ltb c 2) refl
  where
    go : (b : Bool) → ltb c 2 ≡ b → b ≡ not (eqb c 2)
    go true q = ap not (sym (ne_eqb c 2 (λ z. omega (arith, z, ltb-true c 2 q))))
    go false q = ap not (sym (eq-eqb c 2 (omega (arith, e, ltb-false c 2 q, eqb-false c 3 three))))

pub short-pointers : (n h : ℕ) (l : List ℕ) → T (codes_ok n h) → codes_short n h ≡ all_in is_short (read_pointers n h l)
unfolding codes_short codes_ok read_pointers all_in
short-pointers zero h l t = refl
short-pointers (suc n) h l t = go (eqb (h % 4) 3) refl t (short-pointers n (h / 4) (drop (2 * (h % 4)) l))
  where
    rest : List PackedPointer
    rest = read_pointers n (h / 4) (drop (2 * (h % 4)) l)

    go : (b : Bool) → eqb (h % 4) 3 ≡ b → T (cond b false (codes_ok n (h / 4))) → (T (codes_ok n (h / 4)) → codes_short n (h / 4) ≡ all_in is_short rest)
        → cond (ltb (h % 4) 2) (codes_short n (h / 4)) false ≡ cond (not (eqb (h % 4) 2)) (all_in is_short rest) false
    go true q s ih = absurd s
    go false q s ih = ap₂ (λ (a b : Bool). cond a b false) (code-short (h % 4) (omega arith) q) (ih s)

-- of a record that keeps its rules
pub record-short : (l : List ℕ) (p : ℕ) → T (record_ok l p) → codes_short 8 (header_at l p) ≡ short_at l p
unfolding short_at pointers_at
record-short l p t = short-pointers 8 (header_at l p) (drop (2 * p + 2) l) (record-good l p t).codes
