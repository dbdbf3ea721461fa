-- One record read by its header: the code of child i, the half-words before its pointer, the pointer itself, and the ways through the tests.
-- By taking one child's two bits off the header at a time. Assumes nothing.
use mathlib.Core.Path.{◌≡◌, refl, sym, ◌∙◌, ap, ap₂, subst}
use mathlib.Core.Bool.{Bool, true, false, false≢true, cond, not, ◌&&◌, ◌||◌, and-false}
use mathlib.Core.List.{List}
use Prim.Native.Nat.{ℕ, zero, suc, ◌+◌, ◌-◌, ◌*◌, ◌/◌, ◌%◌, ◌^◌, ◌≤◌, ◌<◌}
use native.Mathlib.Nat.{le_of_suc-le-suc, not-suc-le-zero, pow-succ', div-div-eq-div-mul, div-one, mod-lt}
use native.Mathlib.Omega.{arith}
use borrow.Author.Tests.{lt-ltb, le-leb, lt-leb, eq-eqb, ne_eqb, eqb-true, eqb-false}
use lib.Bits.{bit_and, and_zero_r, and_shr, and_mod}
use lib.Dec.{T, eqb, leb, ltb, eqb→eq, leb→le, lit<, eqb-suc-zero}
use lib.ListN.{length, drop, get_or, drop_of_length-le}
use lib.Seq.{drop-drop}
use Rattle.paper.specs.Numbers.{be, num, bit_for}
use Rattle.paper.specs.Store.{leaf_no}
use Rattle.paper.specs.Walk.{none, wrong, to}
use Rattle.paper.specs.Packed.{PackedPointer, pointer_of, no_pointer, header_at, halves, codes_ok, read_pointers, pointers_at, record_ok, leaf_at, code_for, farthest_short}
use Rattle.laws.proofs.Tests.{T_true, true-T, and_left, and_right, all-at, all-at2, ltb-not}
use Rattle.laws.proofs.PackedLists.{halves-one}
use Rattle.numbers.proofs.Sums.{eight-bytes}
use Rattle.packed_records.specs.Records.{code_at, header_ok, BytesOf, child_to}

-- ---- codes and half-words

code-suc : (i h : ℕ) → code_at (suc i) h ≡ code_at i (h / 4)
code-suc i h = ap (λ (n : ℕ). n % 4) (ap (λ (n : ℕ). h / n) (pow-succ' 4 i) ∙ sym (div-div-eq-div-mul h 4 (4 ^ i)))

-- the two bits of child i, as code shifts to them
pub code-shift : (i h : ℕ) → i < 8 → h / 2 ^ (2 * i) % 4 ≡ code_at i h
code-shift i h l = ap (λ (n : ℕ). h / n % 4) (eqb→eq (2 ^ (2 * i)) (4 ^ i) (all-at 8 (λ j. eqb (2 ^ (2 * j)) (4 ^ j)) tt i l))

-- one child less
pub halves-less : (n h : ℕ) → 0 < n → halves n h ≡ h % 4 + halves (n - 1) (h / 4)
unfolding halves
halves-less zero h l = absurd (not-suc-le-zero l)
halves-less (suc n) h l = let e : n ≡ suc n - 1 = omega arith in ap (λ (m : ℕ). h % 4 + halves m (h / 4)) e

-- the pointers up to that of child i fit before the record's end
pub halves-room : (n h i : ℕ) → i < n → halves i h + code_at i h ≤ halves n h
unfolding halves
halves-room zero h i l = absurd (not-suc-le-zero l)
halves-room (suc n) h zero l = omega (arith, halves-one n (h / 4), div-one h)
halves-room (suc n) h (suc i) l = omega (arith, halves-room n (h / 4) i (le_of_suc-le-suc l), code-suc i h)

pub codes-three : (n h : ℕ) → 0 < n → h % 4 ≡ 3 → codes_ok n h ≡ false
unfolding codes_ok
codes-three zero h l e = absurd (not-suc-le-zero l)
codes-three (suc n) h l e = rw (eq-eqb (h % 4) 3 e) refl

pub codes-less : (n h : ℕ) → 0 < n → (h % 4 ≡ 3 → ⊥) → codes_ok n h ≡ codes_ok (n - 1) (h / 4)
unfolding codes_ok
codes-less zero h l e = absurd (not-suc-le-zero l)
codes-less (suc n) h l e = let m : n ≡ suc n - 1 = omega arith in rw (ne_eqb (h % 4) 3 e) (ap (λ (j : ℕ). codes_ok j (h / 4)) m)

-- where no code is 3, that of child i is not
pub codes_at : (n h i : ℕ) → i < n → T (codes_ok n h) → code_at i h ≡ 3 → ⊥
codes_at zero h i l t e = not-suc-le-zero l
codes_at (suc n) h i l t e = go (eqb (h % 4) 3) refl i l e (codes_at n (h / 4))
  where
    go : (b : Bool) → eqb (h % 4) 3 ≡ b → (i : ℕ) → i < suc n → code_at i h ≡ 3 → ((i : ℕ) → i < n → T (codes_ok n (h / 4)) → code_at i (h / 4) ≡ 3 → ⊥) → ⊥
    go true q i l e ih = subst T (codes-three (suc n) h (omega arith) (eqb-true (h % 4) 3 q)) t
    go false q zero l e ih = eqb-false (h % 4) 3 q (ap (λ (m : ℕ). m % 4) (sym (div-one h)) ∙ e)
    go false q (suc i) l e ih =
        let n1 : suc n - 1 ≡ n = omega arith in
        ih i (le_of_suc-le-suc l)
        (subst T (codes-less (suc n) h (omega arith) (eqb-false (h % 4) 3 q) ∙ ap (λ (m : ℕ). codes_ok m (h / 4)) n1) t)
        (sym (code-suc i h) ∙ e)

-- the low bits of n codes
abbrev pub low_bits : ℕ → ℕ
low_bits zero = 0
low_bits (suc n) = let r = low_bits n in r * 4 + 1

-- a code with both bits set, and the bit above, as code finds it: 1 exactly where the code is 3
both_bits : (h : ℕ) → bit_and (bit_and (h % 4) (h / 2 % 4)) 1 ≡ bit_for (eqb (h % 4) 3)
both_bits h =
    let next : h / 2 % 4 % 2 ≡ h % 4 / 2 = omega arith in
    let test : ℕ → ℕ → Bool = λ c e. not (eqb (e % 2) (c / 2)) || eqb (bit_and (bit_and c e) 1) (bit_for (eqb c 3)) in
    let t : T (not (eqb (h / 2 % 4 % 2) (h % 4 / 2)) || eqb (bit_and (bit_and (h % 4) (h / 2 % 4)) 1) (bit_for (eqb (h % 4) 3))) = all-at2 4 4 test tt (h % 4) (h / 2 % 4) (omega arith) (omega arith) in
    eqb→eq (bit_and (bit_and (h % 4) (h / 2 % 4)) 1) (bit_for (eqb (h % 4) 3)) (rw (eq-eqb (h / 2 % 4 % 2) (h % 4 / 2) next) at t)

-- both bits of a code, for the lowest n codes at once
threes : ℕ → ℕ → ℕ
threes n h = bit_and (bit_and h (h / 2)) (low_bits n)

threes-less : (n h : ℕ) → threes (suc n) h ≡ threes n (h / 4) * 4 + bit_for (eqb (h % 4) 3)
unfolding threes
threes-less n h =
    let x : ℕ = bit_and (bit_and h (h / 2)) (low_bits n * 4 + 1) in
    let swap : h / 2 / 4 ≡ h / 4 / 2 = omega arith in
    let above : (low_bits n * 4 + 1) / 4 ≡ low_bits n = omega arith in
    let lowest : (low_bits n * 4 + 1) % 4 ≡ 1 = omega arith in
    let high : x / 4 ≡ bit_and (bit_and (h / 4) (h / 4 / 2)) (low_bits n) =
    and_shr (bit_and h (h / 2)) (low_bits n * 4 + 1) 2 ∙ ap₂ bit_and (and_shr h (h / 2) 2 ∙ ap (bit_and (h / 4)) swap) above in
    let low : x % 4 ≡ bit_for (eqb (h % 4) 3) =
    and_mod (bit_and h (h / 2)) (low_bits n * 4 + 1) 2 ∙ ap₂ bit_and (and_mod h (h / 2) 2) lowest ∙ both_bits h in
    omega (arith, high, low)

pub codes-bits : (n h : ℕ) → eqb (bit_and (bit_and h (h / 2)) (low_bits n)) 0 ≡ codes_ok n h
unfolding codes_ok threes
codes-bits zero h = rw (and_zero_r (bit_and h (h / 2))) refl
codes-bits (suc n) h = go (eqb (h % 4) 3) refl (codes-bits n (h / 4))
  where
    go : (b : Bool) → eqb (h % 4) 3 ≡ b → eqb (threes n (h / 4)) 0 ≡ codes_ok n (h / 4) → eqb (threes (suc n) h) 0 ≡ cond b false (codes_ok n (h / 4))
    go true q ih = let e : threes (suc n) h ≡ threes n (h / 4) * 4 + 1 = threes-less n h ∙ ap (λ (b : Bool). threes n (h / 4) * 4 + bit_for b) q in ne_eqb (threes (suc n) h) 0 (λ z. omega (arith, e, z))
    go false q ih =
        let e : threes (suc n) h ≡ threes n (h / 4) * 4 + 0 = threes-less n h ∙ ap (λ (b : Bool). threes n (h / 4) * 4 + bit_for b) q in
        same-zero (threes (suc n) h) (threes n (h / 4)) e ∙ ih
      where
        same-zero : (x y : ℕ) → x ≡ y * 4 + 0 → eqb x 0 ≡ eqb y 0
        same-zero x zero e = eq-eqb x 0 (omega (arith, e))
        same-zero x (suc y) e = ne_eqb x 0 (λ z. omega (arith, e, z)) ∙ sym (eqb-suc-zero y)

-- no code is more than 2
pub halves-most : (n h : ℕ) → codes_ok n h ≡ true → halves n h ≤ 1 + 2 * n
unfolding halves codes_ok
halves-most zero h t = omega arith
halves-most (suc n) h t = go (eqb (h % 4) 3) refl t (halves-most n (h / 4))
  where
    go : (b : Bool) → eqb (h % 4) 3 ≡ b → cond b false (codes_ok n (h / 4)) ≡ true → (codes_ok n (h / 4) ≡ true → halves n (h / 4) ≤ 1 + 2 * n) → h % 4 + halves n (h / 4) ≤ 1 + 2 * suc n
    go true q e ih = absurd (false≢true e)
    go false q e ih = omega (arith, ih e, eqb-false (h % 4) 3 q)

-- ---- the pointer of child i

pointer_read : (n h : ℕ) (l : List ℕ) (i : ℕ) → i < n
    → get_or (read_pointers n h l) i no_pointer ≡ pointer_of (code_at i h) (num (2 * code_at i h) (drop (2 * (halves i h - 1)) l))
unfolding read_pointers halves
pointer_read zero h l i m = absurd (not-suc-le-zero m)
pointer_read (suc n) h l zero m = rw div-one refl
pointer_read (suc n) h l (suc i) m =
    let e : 2 * (h % 4) + 2 * (halves i (h / 4) - 1) ≡ 2 * (h % 4 + halves i (h / 4) - 1) = omega (arith, halves-one i (h / 4)) in
    let d : drop (2 * (halves i (h / 4) - 1)) (drop (2 * (h % 4)) l) ≡ drop (2 * (h % 4 + halves i (h / 4) - 1)) l =
    drop-drop (2 * (halves i (h / 4) - 1)) (2 * (h % 4)) l ∙ ap (λ (a : ℕ). drop a l) e in
    pointer_read n (h / 4) (drop (2 * (h % 4)) l) i (le_of_suc-le-suc m) ∙ rw (code-suc i h, d) refl

pub pointer-at : (l : List ℕ) (p i : ℕ) → i < 8
    → get_or (pointers_at l p) i no_pointer ≡ pointer_of (code_at i (header_at l p)) (num (2 * code_at i (header_at l p)) (drop (2 * p + 2 * halves i (header_at l p)) l))
unfolding pointers_at
pointer-at l p i m =
    let h : ℕ = header_at l p in
    let e : 2 * p + 2 + 2 * (halves i h - 1) ≡ 2 * p + 2 * halves i h = omega (arith, halves-one i h) in
    pointer_read 8 h (drop (2 * p + 2) l) i m
    ∙ ap (λ (bs : List ℕ). pointer_of (code_at i h) (num (2 * code_at i h) bs)) (drop-drop (2 * (halves i h - 1)) (2 * p + 2) l ∙ ap (λ (a : ℕ). drop a l) e)

-- ---- what a good record says

pub record Good (l : List ℕ) (p : ℕ) : Type 0 where
  pub codes : T (codes_ok 8 (header_at l p))
  pub room : 2 * (p + halves 8 (header_at l p)) ≤ length l

pub record-good : (l : List ℕ) (p : ℕ) → T (record_ok l p) → Good l p
unfolding record_ok
record-good l p t =
    let h : ℕ = header_at l p in
    let a : Bool = ltb 0 h in
    let b : Bool = codes_ok 8 h in
    let d : Bool = leb (2 * (p + halves 8 h)) (length l) in
    record { codes = and_right a b (and_left (a && b) d t); room = leb→le (2 * (p + halves 8 h)) (length l) (and_right (a && b) d t) }

-- its header lies in the list
pub header-room : (l : List ℕ) (p : ℕ) → T (record_ok l p) → 2 * p + 2 ≤ length l
header-room l p t = omega (arith, (record-good l p t).room, halves-one 8 (header_at l p))

-- ---- the ways through a record's tests

module _ (l : List ℕ) (p : ℕ) where
  pub record-outside : length l < 2 * p + 2 → true ≡ not (record_ok l p)
  unfolding record_ok
  record-outside m =
      rw (lt-leb (2 * (p + halves 8 (header_at l p))) (length l) (omega (arith, halves-one 8 (header_at l p))), and-false (ltb 0 (header_at l p) && codes_ok 8 (header_at l p))) refl

  pub record-roomy : 2 * p + 34 ≤ length l → not (header_ok (header_at l p)) ≡ not (record_ok l p)
  unfolding record_ok
  record-roomy m = go (header_ok (header_at l p)) refl
    where
      h : ℕ
      h = header_at l p

      go : (b : Bool) → header_ok h ≡ b → not b ≡ not (b && leb (2 * (p + halves 8 h)) (length l))
      go false e = refl
      go true e =
          let w : 2 * (p + halves 8 h) ≤ length l = omega (arith, halves-most 8 h (T_true {b = codes_ok 8 h} (and_right (ltb 0 h) (codes_ok 8 h) (true-T e)))) in
          rw (le-leb (2 * (p + halves 8 h)) (length l) w) refl

  pub record-tests : (not (header_ok (header_at l p)) || ltb (length l) (2 * p + 2 * halves 8 (header_at l p))) ≡ not (record_ok l p)
  unfolding record_ok
  record-tests =
      let s : 2 * p + 2 * halves 8 (header_at l p) ≡ 2 * (p + halves 8 (header_at l p)) = omega arith in
      rw (s, ltb-not (length l) (2 * (p + halves 8 (header_at l p)))) (go (header_ok (header_at l p)) (leb (2 * (p + halves 8 (header_at l p))) (length l)))
    where
      go : (a b : Bool) → (not a || not b) ≡ not (a && b)
      go true b = refl
      go false b = refl

-- ---- a header by itself

pub header-tests : (h : ℕ) → (eqb h 0 || not (codes_ok 8 h)) ≡ not (header_ok h)
header-tests h = go (eqb h 0) refl
  where
    go : (b : Bool) → eqb h 0 ≡ b → (b || not (codes_ok 8 h)) ≡ not (header_ok h)
    go true e = rw (eqb-true h 0 e) refl
    go false e = rw (lt-ltb 0 h (omega (arith, eqb-false h 0 e))) refl

-- ---- where a pointer's bytes begin

module _ (l : List ℕ) (p i : ℕ) (t : T (record_ok l p)) (m : i < 8) where
  pub bytes_of : BytesOf l p i (2 * p + 2 * halves i (header_at l p)) (code_at i (header_at l p))
  bytes_of =
      let h : ℕ = header_at l p in
      let good : Good l p = record-good l p t in
      let three : code_at i h < 4 = mod-lt (h / 4 ^ i) (lit< tt) in
      record {
        low = omega (arith, three, codes_at 8 h i m good.codes);
        room = omega (arith, good.room, halves-room 8 h i m);
        is = sym (pointer-at l p i m);
      }

-- ---- a pointer by its code: the ways through `pointer_from`

module _ (l : List ℕ) (from code : ℕ) where
  -- the pointer that the bytes from there on write
  abbrev there : PackedPointer
  there = pointer_of code (num (2 * code) (drop from l))

  pub pointer_none : code ≡ 0 → no_pointer ≡ there
  unfolding be
  pointer_none e = rw e refl

  pub pointer-short : (v : ℕ) → code ≡ 1 → v ≡ num 2 (drop from l) → record { code = 1; tag = v / 8192; place = v % 8192 } ≡ there
  pointer-short v e f = rw (e, f) refl

  pub pointer-long : (v : ℕ) → code ≡ 2 → v ≡ num 4 (drop from l) → record { code = 2; tag = v / 536870912; place = v % 536870912 } ≡ there
  pointer-long v e f = rw (e, f) refl

  -- ---- what it leads to

  pub child-none : code ≡ 0 → none ≡ child_to there
  child-none e = ap child_to (pointer_none e)

  pub child-short : (v : ℕ) → code ≡ 1 → v ≡ num 2 (drop from l) → to (v / 8192) (v % 8192) ≡ child_to there
  child-short v e f =
      let low : code_for (v % 8192) ≡ 1 = ap (λ (b : Bool). cond b 1 2) (le-leb (v % 8192) farthest_short (omega arith)) in
      let is : to (v / 8192) (v % 8192) ≡ child_to (record { code = 1; tag = v / 8192; place = v % 8192 }) = rw low refl in
      is ∙ ap child_to (pointer-short v e f)

  pub child-wrong : (v : ℕ) → code ≡ 2 → v ≡ num 4 (drop from l) → code_for (v % 536870912) ≡ 1 → wrong ≡ child_to there
  child-wrong v e f w =
      let is : wrong ≡ child_to (record { code = 2; tag = v / 536870912; place = v % 536870912 }) = rw w refl in
      is ∙ ap child_to (pointer-long v e f)

  pub child-long : (v : ℕ) → code ≡ 2 → v ≡ num 4 (drop from l) → (code_for (v % 536870912) ≡ 1 → ⊥) → to (v / 536870912) (v % 536870912) ≡ child_to there
  child-long v e f w =
      let is : to (v / 536870912) (v % 536870912) ≡ child_to (record { code = 2; tag = v / 536870912; place = v % 536870912 }) = rw (other (leb (v % 536870912) farthest_short) w) refl in
      is ∙ ap child_to (pointer-long v e f)
    where
      other : (b : Bool) → (◌≡◌ {A = ℕ} (cond b 1 2) 1 → ⊥) → ◌≡◌ {A = ℕ} (cond b 1 2) 2
      other true n = absurd (n refl)
      other false n = refl

-- ---- a leaf

pub leaf-none : (l : List ℕ) (p : ℕ) → length l ≤ 8 * p → 0 ≡ leaf_no (leaf_at l p)
unfolding leaf_at be
leaf-none l p h = rw (drop_of_length-le l {i = 8 * p} h, drop_of_length-le l {i = 8 * p + 4} (omega arith)) refl

pub leaf-words : (l : List ℕ) (p : ℕ) → 8 * p + 8 ≤ length l → num 8 (drop (8 * p) l) ≡ leaf_no (leaf_at l p)
unfolding leaf_at
leaf-words l p h = eight-bytes l (8 * p) h
