-- Loops along a list of records, from start to start: the starts from place p on, and what a loop has of a test at those left. A list has an even
-- number of bytes. By induction on the number of starts. Assumes nothing.
use mathlib.Core.Path.{◌≡◌, refl, sym, ◌∙◌, ap, subst}
use mathlib.Core.Bool.{Bool, true, false, cond}
use mathlib.Core.List.{List, [], ◌∷◌}
use Prim.Native.Nat.{ℕ, zero, suc, ◌+◌, ◌-◌, ◌*◌, ◌/◌, ◌%◌, ◌<◌, ◌≤◌}
use native.Mathlib.Nat.{le_of_suc-le-suc, not-suc-le-zero}
use native.Mathlib.Numerals.{add-one}
use native.Mathlib.Omega.{arith}
use borrow.Author.Tests.{lt-ltb, le-ltb, ltb-true}
use lib.Dec.{T, ltb}
use lib.ListN.{length, get_or, take, drop, length-drop}
use lib.Seq.{take_all}
use Rattle.laws.proofs.PackedLists.{record-two, halves-one}
use Rattle.paper.specs.Numbers.{all_in, is_in, index_in, count}
use Rattle.paper.specs.Packed.{header_at, halves, read_pointers, pointers_at, record_ok, starts_from}
use Rattle.paper.specs.Runs.{Bytes}
use Rattle.laws.proofs.Lists.{all_in-head, all_in-tail, At, is_in-at}
use Rattle.packed_records.proofs.Records.{record-good}
use Rattle.proper_marks.specs.Places.{places_in, width_at}

-- the starts from place p on
abbrev pub rest_from : List ℕ → ℕ → List ℕ
rest_from l p = starts_from l (length l / 2 - p) p

starts_none : (l : List ℕ) (n p : ℕ) → length l ≤ 2 * p → starts_from l n p ≡ []
unfolding starts_from
starts_none l zero p h = refl
starts_none l (suc n) p h = rw (le-ltb (2 * p) (length l) h)

starts-same : (l : List ℕ) → length l % 2 ≡ 0 → (n m p : ℕ) → length l / 2 ≤ n + p → length l / 2 ≤ m + p → starts_from l n p ≡ starts_from l m p
unfolding starts_from
starts-same l e zero m p a b = sym (starts_none l m p (omega arith))
starts-same l e (suc n) zero p a b = starts_none l (suc n) p (omega arith)
starts-same l e (suc n) (suc m) p a b =
    ap (λ (r : List ℕ). cond (ltb (2 * p) (length l)) (p ∷ r) [])
    (starts-same l e n m (p + halves 8 (header_at l p)) (omega (arith, halves-one 8 (header_at l p))) (omega (arith, halves-one 8 (header_at l p))))

pub rest_all : (l : List ℕ) → rest_from l 0 ≡ places_in l
rest_all l = let e : length l / 2 - 0 ≡ length l / 2 = omega arith in ap (λ (n : ℕ). starts_from l n 0) e

pub rest-none : (l : List ℕ) (p : ℕ) → length l ≤ 2 * p → rest_from l p ≡ []
rest-none l p h = starts_none l (length l / 2 - p) p h

-- a part from place a on is what is left
pub part-all : (l : List ℕ) (a : ℕ) → take (length l - a) (drop a l) ≡ drop a l
part-all l a = take_all (length l - a) (drop a l) (omega (arith, length-drop a l))

module _ (l : List ℕ) (even : length l % 2 ≡ 0) (p : ℕ) (h : 2 * p < length l) where
  pub rest_more : rest_from l p ≡ p ∷ rest_from l (p + width_at l p)
  unfolding starts_from
  rest_more =
      let n : length l / 2 - p ≡ suc (length l / 2 - p - 1) = omega arith in
      rw (n, lt-ltb (2 * p) (length l) h)
      (ap (λ (r : List ℕ). p ∷ r) (starts-same l even (length l / 2 - p - 1) (length l / 2 - (p + width_at l p)) (p + width_at l p)
      (omega (arith, halves-one 8 (header_at l p))) (omega arith)))

  -- the same, r being the place after
  pub rest-next : (r : ℕ) → r ≡ p + width_at l p → rest_from l p ≡ p ∷ rest_from l r
  rest-next r e = rest_more ∙ ap (λ (n : ℕ). p ∷ rest_from l n) (sym e)

  -- a test of all
  pub rest-passes : (f : ℕ → Bool) → f p ≡ true → all_in f (rest_from l p) ≡ all_in f (rest_from l (p + width_at l p))
  unfolding all_in
  rest-passes f e = ap (all_in f) rest_more ∙ rw e

  pub rest-fails : (f : ℕ → Bool) → f p ≡ false → all_in f (rest_from l p) ≡ false
  unfolding all_in
  rest-fails f e = ap (all_in f) rest_more ∙ rw e

  pub rest-head : (f : ℕ → Bool) → T (all_in f (rest_from l p)) → T (f p)
  rest-head f t = all_in-head f p (rest_from l (p + width_at l p)) (subst (λ (r : List ℕ). T (all_in f r)) rest_more t)

  pub rest-tail : (f : ℕ → Bool) → T (all_in f (rest_from l p)) → T (all_in f (rest_from l (p + width_at l p)))
  rest-tail f t = all_in-tail f p (rest_from l (p + width_at l p)) (subst (λ (r : List ℕ). T (all_in f r)) rest_more t)

  pub rest-left : (r : ℕ) → r ≡ p + width_at l p → (f : ℕ → Bool) → T (all_in f (rest_from l p)) → T (all_in f (rest_from l r))
  rest-left r e f t = subst (λ (n : ℕ). T (all_in f (rest_from l n))) (sym e) (rest-tail f t)

-- ---- leaves: numbers from p to n

pub count-more : (n p : ℕ) → p < n → count p (n - p) ≡ p ∷ count (p + 1) (n - (p + 1))
unfolding count
count-more n p h =
    let e : n - p ≡ suc (n - (p + 1)) = omega arith in
    rw e (ap (λ (q : ℕ). p ∷ count q (n - (p + 1))) (sym (add-one p)))

pub count_none : (n p : ℕ) → n ≤ p → count p (n - p) ≡ []
unfolding count
count_none n p h = let e : n - p ≡ 0 = omega arith in rw e

pub all_in-none : (f : ℕ → Bool) (ps : List ℕ) → ps ≡ [] → all_in f ps ≡ true
unfolding all_in
all_in-none f ps e = ap (all_in f) e

-- ---- one record

-- a whole record ends inside its list
pub record-inside : (l : List ℕ) (p : ℕ) → T (record_ok l p) → 2 * (p + width_at l p) ≤ length l
record-inside l p t = (record-good l p t).room

-- a record has four bytes at least
pub record-wide : (l : List ℕ) (p : ℕ) → Bytes l → T (record_ok l p) → 2 * p + 4 ≤ length l
record-wide l p b t = omega (arith, record-inside l p t, record-two l p b t)

-- a record has eight pointers
read_length : (n h : ℕ) (l : List ℕ) → length (read_pointers n h l) ≡ n
unfolding read_pointers
read_length zero h l = refl
read_length (suc n) h l = ap suc (read_length n (h / 4) (drop (2 * (h % 4)) l))

pub packed_pointers-length : (l : List ℕ) (p : ℕ) → length (pointers_at l p) ≡ 8
unfolding pointers_at
packed_pointers-length l p = read_length 8 (header_at l p) (drop (2 * p + 2) l)

-- ---- what lies in a list

starts-inside : (l : List ℕ) (n p q : ℕ) → q < length (starts_from l n p) → 2 * get_or (starts_from l n p) q 0 < length l
unfolding starts_from
starts-inside l zero p = λ q h. absurd (not-suc-le-zero h)
starts-inside l (suc n) p = go (ltb (2 * p) (length l)) refl (starts-inside l n (p + halves 8 (header_at l p)))
  where
    ss : List ℕ
    ss = starts_from l n (p + halves 8 (header_at l p))

    go : (b : Bool) → ltb (2 * p) (length l) ≡ b → ((q : ℕ) → q < length ss → 2 * get_or ss q 0 < length l)
        → (q : ℕ) → q < length (cond b (p ∷ ss) []) → 2 * get_or (cond b (p ∷ ss) []) q 0 < length l
    go false e ih q h = absurd (not-suc-le-zero h)
    go true e ih zero h = ltb-true (2 * p) (length l) e
    go true e ih (suc q) h = ih q (le_of_suc-le-suc h)

pub in-inside : (l : List ℕ) (n q p : ℕ) → T (is_in p (starts_from l n q)) → 2 * p < length l
in-inside l n q p t =
    let a : At p (starts_from l n q) = is_in-at p (starts_from l n q) t in
    subst (λ (x : ℕ). 2 * x < length l) a.is (starts-inside l n q (index_in p (starts_from l n q)) a.inside)
