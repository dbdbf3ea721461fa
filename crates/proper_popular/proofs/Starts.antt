-- The starts of a list lie four bytes apart or more and have four bytes each; every pointer of a file whose lists are sound goes to a start; so
-- the counters of a list are the popularity of its records, and the test along them is the two rules of popularity. By induction along the starts.
-- Assumes nothing.
use mathlib.Core.Path.{◌≡◌, refl, sym, ◌∙◌, subst}
use mathlib.Core.Bool.{Bool, true, false, cond, ◌&&◌}
use mathlib.Core.List.{List, [], ◌∷◌}
use mathlib.Core.Logic.{◌⊎◌, inl, inr}
use Prim.Native.Nat.{ℕ, zero, suc, ◌+◌, ◌-◌, ◌*◌, ◌^◌, ◌<◌, ◌≤◌}
use native.Mathlib.Nat.{le_of_suc-le-suc, not-suc-le-zero}
use native.Mathlib.Omega.{arith}
use borrow.Author.Tests.{eq-eqb, eqb-true, le-leb, ltb-true, ltb-false}
use lib.Dec.{T, eqb, ltb}
use lib.ListN.{length, get_or, replicate}
use Rattle.paper.specs.Numbers.{all_in, is_in, index_in, count}
use Rattle.paper.specs.Packed.{top_of, size_at, tail_at, list_at, header_at, halves, PackedPointer, no_pointer, pointers_at, record_ok, code_for, starts_from, places_at, whole_at, packed_pointer_ok, packed_pointers_ok}
use Rattle.paper.specs.Runs.{Bytes}
use Rattle.laws.proofs.Tests.{and_left, and_T}
use Rattle.laws.proofs.Lists.{in-nil, in-cons, all_in-is_in, count-below, all_in-head, all_in-tail, all_in-at, all_in-in, all_in-T, At, is_in-at, is_in-get_or}
use Rattle.laws.proofs.PackedLists.{list_bytes_lem, record-two}
use Rattle.laws.proofs.PackedWalk.{SoundLists}
use Rattle.proper_popular.specs.Places.{times_named, popular_at, popular_rules}
use Rattle.packed_lists.specs.Ends.{unit_at}
use Rattle.proper_popular.specs.Counting.{count_of, count_records, pointer_fits, countable, counts_fall}
use Rattle.proper_marks.proofs.InFile.{tail-inside, list_length}
use Rattle.proper_marks.proofs.Along.{record-inside, record-wide}
use Rattle.proper_popular.proofs.Counts.{record-few, Roomy, Lands, counted}
use Rattle.proper_popular.proofs.Falls.{falls-rules, falling-same}

-- ---- the starts of an inner list

pub starts-late : (l : List ℕ) (n p q : ℕ) → q < length (starts_from l n p) → p ≤ get_or (starts_from l n p) q 0
unfolding starts_from
starts-late l zero p = λ q h. absurd (not-suc-le-zero h)
starts-late l (suc n) p = go (ltb (2 * p) (length l)) (starts-late l n (p + halves 8 (header_at l p)))
  where
    ss : List ℕ
    ss = starts_from l n (p + halves 8 (header_at l p))

    go : (b : Bool) → ((q : ℕ) → q < length ss → p + halves 8 (header_at l p) ≤ get_or ss q 0)
        → (q : ℕ) → q < length (cond b (p ∷ ss) []) → p ≤ get_or (cond b (p ∷ ss) []) q 0
    go false ih q h = absurd (not-suc-le-zero h)
    go true ih zero h = omega arith
    go true ih (suc q) h = omega (arith, ih q (le_of_suc-le-suc h))

starts-after : (l : List ℕ) (n p x : ℕ) → T (is_in x (starts_from l n p)) → p ≤ x
starts-after l n p x t =
    let a : At x (starts_from l n p) = is_in-at x (starts_from l n p) t in
    subst (λ (y : ℕ). p ≤ y) a.is (starts-late l n p (index_in x (starts_from l n p)) a.inside)

-- counters at x and y have no byte in common
abbrev Clear : ℕ → ℕ → ℕ → Type 0
Clear u x y = (u * x + 4 ≤ u * y) ⊎ (u * y + 4 ≤ u * x)

starts_apart : (l : List ℕ) → Bytes l → (n p : ℕ) → T (all_in (record_ok l) (starts_from l n p)) → (x y : ℕ) → T (is_in x (starts_from l n p)) → T (is_in y (starts_from l n p))
    → (x ≡ y → ⊥) → Clear 2 x y
unfolding starts_from
starts_apart l b zero p good x y i j ne = absurd (in-nil x i)
starts_apart l b (suc n) p good x y i j ne = go (ltb (2 * p) (length l)) good i j (starts_apart l b n (p + halves 8 (header_at l p)))
  where
    ss : List ℕ
    ss = starts_from l n (p + halves 8 (header_at l p))

    Rest : Type 0
    Rest = T (all_in (record_ok l) ss) → (x y : ℕ) → T (is_in x ss) → T (is_in y ss) → (x ≡ y → ⊥) → Clear 2 x y

    split : 2 ≤ halves 8 (header_at l p) → T (all_in (record_ok l) ss) → Rest → (p ≡ x) ⊎ T (is_in x ss) → (p ≡ y) ⊎ T (is_in y ss) → Clear 2 x y
    split two rest ih (inl a) (inl c) = absurd (ne (sym a ∙ c))
    split two rest ih (inl a) (inr c) = inl (omega (arith, starts-after l n (p + halves 8 (header_at l p)) y c))
    split two rest ih (inr a) (inl c) = inr (omega (arith, starts-after l n (p + halves 8 (header_at l p)) x a))
    split two rest ih (inr a) (inr c) = ih rest x y a c ne

    go : (c : Bool) → T (all_in (record_ok l) (cond c (p ∷ ss) [])) → T (is_in x (cond c (p ∷ ss) [])) → T (is_in y (cond c (p ∷ ss) [])) → Rest → Clear 2 x y
    go false g i j ih = absurd (in-nil x i)
    go true g i j ih = split (record-two l p b (all_in-head (record_ok l) p ss g)) (all_in-tail (record_ok l) p ss g) ih (in-cons x p ss i) (in-cons y p ss j)

pub starts-few : (l : List ℕ) (n p : ℕ) → length (starts_from l n p) ≤ n
unfolding starts_from
starts-few l zero p = omega arith
starts-few l (suc n) p = go (ltb (2 * p) (length l)) (starts-few l n (p + halves 8 (header_at l p)))
  where
    ss : List ℕ
    ss = starts_from l n (p + halves 8 (header_at l p))

    go : (b : Bool) → length ss ≤ n → length (cond b (p ∷ ss) []) ≤ suc n
    go true h = omega arith
    go false h = omega arith

-- from place p on there are no more pointers to a place than half-words
times-few : (l : List ℕ) (n p x : ℕ) → T (all_in (record_ok l) (starts_from l n p)) → 2 * p ≤ length l → 2 * (p + times_named l (starts_from l n p) x) ≤ length l
unfolding starts_from times_named
times-few l zero p x good h = omega arith
times-few l (suc n) p x good h = go (ltb (2 * p) (length l)) good (times-few l n (p + halves 8 (header_at l p)) x)
  where
    ss : List ℕ
    ss = starts_from l n (p + halves 8 (header_at l p))

    Rest : Type 0
    Rest = T (all_in (record_ok l) ss) → 2 * (p + halves 8 (header_at l p)) ≤ length l → 2 * (p + halves 8 (header_at l p) + times_named l ss x) ≤ length l

    go : (b : Bool) → T (all_in (record_ok l) (cond b (p ∷ ss) [])) → Rest → 2 * (p + times_named l (cond b (p ∷ ss) []) x) ≤ length l
    go false g ih = omega arith
    go true g ih =
        let room : 2 * (p + halves 8 (header_at l p)) ≤ length l = record-inside l p (all_in-head (record_ok l) p ss g) in
        omega (arith, record-few x l p, ih (all_in-tail (record_ok l) p ss g) room)

inner-roomy : (l : List ℕ) → Bytes l → (n : ℕ) → T (all_in (record_ok l) (starts_from l n 0)) → Roomy 2 (length l) (starts_from l n 0)
inner-roomy l b n good = record {
  room = λ x i. record-wide l x b (all_in-is_in (record_ok l) (starts_from l n 0) x good i);
  apart = λ x y i j ne. starts_apart l b n 0 good x y i j ne;
}

-- ---- leaves

leaf-roomy : (n : ℕ) → Roomy 8 (8 * n) (count 0 n)
leaf-roomy n = record { room = λ x i. omega (arith, count-below n x i); apart = λ x y i j ne. go x y ne (ltb x y) refl }
  where
    go : (x y : ℕ) → (x ≡ y → ⊥) → (b : Bool) → ltb x y ≡ b → Clear 8 x y
    go x y ne true e = inl (omega (arith, ltb-true x y e))
    go x y ne false e = inr (omega (arith, ltb-false x y e, ne))

-- ---- a file whose lists and pointers are sound

module _ (bs : List ℕ) (by : Bytes bs) (short : length bs < 2 ^ 32) (sound : SoundLists bs) where
  abbrev above : ℕ → List ℕ
  above k = list_at bs (suc k)

  pub all_whole : (k : ℕ) → suc k ≤ top_of bs → T (all_in (record_ok (above k)) (places_at bs (suc k)))
  unfolding whole_at
  all_whole k h = sound.whole (suc k) h

  whole_at_lem : (k : ℕ) → suc k ≤ top_of bs → (j : ℕ) → j < length (places_at bs (suc k)) → T (record_ok (above k) (get_or (places_at bs (suc k)) j 0))
  whole_at_lem k h j l = all_in-in (record_ok (above k)) 0 (places_at bs (suc k)) (all_whole k h) j l

  pointers-land : (k : ℕ) → suc k ≤ top_of bs → (j : ℕ) → j < length (places_at bs (suc k)) → (i : ℕ)
      → Lands (places_at bs k) (get_or (pointers_at (above k) (get_or (places_at bs (suc k)) j 0)) i no_pointer)
  unfolding packed_pointers_ok packed_pointer_ok
  pointers-land k h j l i = go (eqb r.code 0) refl t
    where
      p : ℕ
      p = get_or (places_at bs (suc k)) j 0

      r : PackedPointer
      r = get_or (pointers_at (above k) p) i no_pointer

      t : T (packed_pointer_ok (places_at bs k) r)
      t = all_in-at (packed_pointer_ok (places_at bs k)) no_pointer tt (pointers_at (above k) p)
          (all_in-in (λ q. all_in (packed_pointer_ok (places_at bs k)) (pointers_at (above k) q)) 0 (places_at bs (suc k)) (sound.pointed k h) j l) i

      go : (b : Bool) → eqb r.code 0 ≡ b → T (cond b true (is_in r.place (places_at bs k) && eqb r.code (code_for r.place))) → Lands (places_at bs k) r
      go true e s = inl (eqb-true r.code 0 e)
      go false e s = inr (and_left (is_in r.place (places_at bs k)) (eqb r.code (code_for r.place)) s)

  pub roomy-at : (k : ℕ) → k ≤ top_of bs → Roomy (unit_at k) (length (list_at bs k)) (places_at bs k)
  unfolding places_at
  roomy-at zero h = subst (λ (n : ℕ). Roomy 8 n (count 0 (size_at bs 0))) (sym (list_length bs sound.sizes 0 h)) (leaf-roomy (size_at bs 0))
  roomy-at (suc k) h = inner-roomy (list_at bs (suc k)) (list_bytes_lem bs by (suc k)) (size_at bs (suc k)) (all_whole k h)

  few-at : (k : ℕ) → suc k ≤ top_of bs → (x : ℕ) → popular_at bs k x < 2 ^ 32
  unfolding places_at tail_at
  few-at k h x =
      omega (arith, times-few (above k) (size_at bs (suc k)) 0 x (all_whole k h) (omega arith), list_length bs sound.sizes (suc k) h, tail-inside bs sound.sizes (suc k) h)

  -- every record can be counted
  pub all-countable : (k : ℕ) → suc k ≤ top_of bs → T (all_in (countable (unit_at k) (length (list_at bs k)) (above k)) (places_at bs (suc k)))
  unfolding countable
  all-countable k h =
      all_in-T (countable (unit_at k) (length (list_at bs k)) (above k)) 0 (places_at bs (suc k)) (λ j l.
      let p : ℕ = get_or (places_at bs (suc k)) j 0 in
      and_T (record_ok (above k) p) (all_in (pointer_fits (unit_at k) (length (list_at bs k))) (pointers_at (above k) p)) (whole_at_lem k h j l)
      (all_in-T (pointer_fits (unit_at k) (length (list_at bs k))) no_pointer (pointers_at (above k) p) (λ i _. fits (get_or (pointers_at (above k) p) i no_pointer) (pointers-land k h j l i))))
    where
      fits : (r : PackedPointer) → Lands (places_at bs k) r → T (pointer_fits (unit_at k) (length (list_at bs k)) r)
      fits r (inl e) = rw (eq-eqb r.code 0 e) tt
      fits r (inr t) = rw (le-leb (unit_at k * r.place + 4) (length (list_at bs k)) ((roomy-at k (omega arith)).room r.place t)) (go (eqb r.code 0))
        where
          go : (b : Bool) → T (cond b true true)
          go true = tt
          go false = tt

  -- the counters of list k, its share zero before
  abbrev pub counts : ℕ → List ℕ
  counts k = count_records (unit_at k) (above k) (places_at bs (suc k)) (replicate (length (list_at bs k)) 0)

  pub counts-are : (k : ℕ) → suc k ≤ top_of bs → (x : ℕ) → T (is_in x (places_at bs k)) → count_of (unit_at k) (counts k) x ≡ popular_at bs k x
  counts-are k h x i =
      counted (unit_at k) (length (list_at bs k)) (places_at bs k) (roomy-at k (omega arith)) (above k) (places_at bs (suc k)) (pointers-land k h) x (few-at k h x) i

  -- the test along them is rules 5 and 8
  pub popular-is : (k : ℕ) → suc k ≤ top_of bs → counts_fall (unit_at k) (counts k) (places_at bs k) ≡ popular_rules bs k
  unfolding popular_rules
  popular-is k h =
      falls-rules (count_of (unit_at k) (counts k)) (2 ^ 32 - 1) (places_at bs k) first
      ∙ falling-same (count_of (unit_at k) (counts k)) (popular_at bs k) (places_at bs k) (λ i l. counts-are k h (get_or (places_at bs k) i 0) (is_in-get_or (places_at bs k) i l))
    where
      first : 0 < length (places_at bs k) → count_of (unit_at k) (counts k) (get_or (places_at bs k) 0 0) ≤ 2 ^ 32 - 1
      first l =
          let x : ℕ = get_or (places_at bs k) 0 0 in
          omega (arith, counts-are k h x (is_in-get_or (places_at bs k) 0 l), few-at k h x)
