-- What is laid in slots: the keys of leaves, or the places of records one after the other; and keys that are equal exactly where two match tell
-- whether two of a list do. By the slots' own laws. Assumes nothing.
use mathlib.Core.Path.{◌≡◌, refl, sym, ◌∙◌, ap, ap₂}
use mathlib.Core.Bool.{Bool, true, false, false≢true, not}
use mathlib.Core.List.{List, [], ◌∷◌, ◌++◌, map}
use Prim.Native.Nat.{ℕ, zero, suc, ◌+◌, ◌*◌, ◌^◌, ◌<◌, ◌≤◌}
use native.Mathlib.Nat.{zero-add}
use native.Mathlib.Decide.{ℕ_discrete, dec_lt}
use native.Mathlib.Numerals.{add-one}
use native.Mathlib.Omega.{arith}
use borrow.Author.Tests.{eq-eqb}
use lib.Dec.{T, eqb, eqb→eq}
use lib.ListN.{length, get_or, length-map}
use lib.Seq.{append_snoc}
use Rattle.paper.specs.Numbers.{all_below, any_below, all_in, is_in, count, tabulate, bytes}
use Rattle.paper.specs.Runs.{Bytes}
use Rattle.laws.proofs.Tests.{all-at, all-T, any_at, at-any, iff-eq, true-T, not-false}
use Rattle.laws.proofs.Lists.{Once, is_in-get_or, map_at, tabulate-same, all_in-is_in}
use Rattle.paper.specs.Leaf.{mirror_leaf}
use Rattle.laws.proofs.Leaves.{mirror_leaf-lt}
use Rattle.numbers.specs.Laid.{laid}
use Rattle.proper_marks.specs.Places.{places_in, leaves_in}
use Rattle.proper_marks.specs.Marks.{Grouped}
use Rattle.proper_keys.specs.Keys.{leaf_key, record_key}
use Rattle.proper_keys.proofs.Leasts.{least_at}
use Rattle.proper_sorted.specs.Slots.{slot_at, slots_of, distinct}
use Rattle.proper_sorted.proofs.SlotBytes.{slot-laid, slot-laid-other}
use Rattle.proper_sorted.proofs.Telling.{distinct-once, once-distinct}
use Rattle.proper_alike.specs.Matching.{leaves_match, records_match, record_rules, apart_in, leaf_key_at}
use Rattle.proper_alike.proofs.Keyed.{KeptAt, key-match, record-kept, leaf-match}

-- ---- slots

-- a table is a map over the numbers counted
table-map : (a n : ℕ) (f : ℕ → ℕ) → tabulate a n f ≡ map f (count a n)
unfolding tabulate count
table-map a zero f = refl
table-map a (suc n) f = ap (◌∷◌ (f a)) (table-map (suc a) n f)

table-snoc : (a n : ℕ) (f : ℕ → ℕ) → tabulate a (suc n) f ≡ tabulate a n f ++ (f (a + n) ∷ [])
unfolding tabulate
table-snoc a zero f = let e : a ≡ a + 0 = omega arith in ap (λ (k : ℕ). f k ∷ []) e
table-snoc a (suc n) f = let e : suc a + n ≡ a + suc n = omega arith in ap (◌∷◌ (f a)) (table-snoc (suc a) n f ∙ ap (λ (k : ℕ). tabulate (suc a) n f ++ (f k ∷ [])) e)

pub slots-are : (w n : ℕ) (s : List ℕ) (f : ℕ → ℕ) → ((j : ℕ) → j < n → slot_at w s j ≡ f j) → slots_of w n s ≡ map f (count 0 n)
unfolding slots_of
slots-are w n s f e = tabulate-same 0 n (slot_at w s) f (λ j h. e j (omega arith)) ∙ table-map 0 n f

pub slots-none : (w : ℕ) (s : List ℕ) → slots_of w 0 s ≡ []
unfolding slots_of tabulate
slots-none w s = refl

-- a number laid in the next slot
pub slots-more : (w n v : ℕ) (s : List ℕ) → w * n + w ≤ length s → v < 256 ^ w → slots_of w (n + 1) (laid (bytes w v) (w * n) s) ≡ slots_of w n s ++ (v ∷ [])
unfolding slots_of
slots-more w n v s fits h =
    let t : List ℕ = laid (bytes w v) (w * n) s in
    ap (λ (k : ℕ). tabulate 0 k (slot_at w t)) (add-one n) ∙ table-snoc 0 n (slot_at w t)
    ∙ ap₂ (λ (xs : List ℕ) (x : ℕ). xs ++ (x ∷ [])) (tabulate-same 0 n (slot_at w t) (slot_at w s) (λ j l. slot-laid-other w n s fits v j (λ e. omega arith)))
    (ap (slot_at w t) (zero-add n) ∙ slot-laid w n s fits v h)

-- before what is still to be laid
pub slots-then : (w n v : ℕ) (s t qs : List ℕ) → t ≡ laid (bytes w v) (w * n) s → w * n + w ≤ length s → v < 256 ^ w → slots_of w n s ++ (v ∷ qs) ≡ slots_of w (n + 1) t ++ qs
slots-then w n v s t qs e fits h =
    sym (ap (λ (x : List ℕ). slots_of w (n + 1) x ++ qs) e ∙ ap (λ (xs : List ℕ). xs ++ qs) (slots-more w n v s fits h) ∙ append_snoc (slots_of w n s) v qs)

-- the slots below p + 1, where those below p are as they are to be
pub slots_next : (w p v : ℕ) (s t : List ℕ) (f : ℕ → ℕ) → t ≡ laid (bytes w v) (w * p) s → w * p + w ≤ length s → v < 256 ^ w → v ≡ f p
    → ((j : ℕ) → j < p → slot_at w s j ≡ f j) → (j : ℕ) → j < p + 1 → slot_at w t j ≡ f j
slots_next w p v s t f e fits h q below j l = ap (λ (x : List ℕ). slot_at w x j) e ∙ go (ℕ_discrete j p)
  where
    go : Dec (j ≡ p) → slot_at w (laid (bytes w v) (w * p) s) j ≡ f j
    go (yes d) = ap (slot_at w (laid (bytes w v) (w * p) s)) d ∙ slot-laid w p s fits v h ∙ q ∙ ap f (sym d)
    go (no d) = slot-laid-other w p s fits v j d ∙ below j (omega (arith, l, d))

-- a leaf's key fits its slot
pub leaf-key-lt : (n : ℕ) → leaf_key n < 2 ^ 64
leaf-key-lt n =
    let a : (t : ℕ) × (t ≤ 7) × (leaf_key n ≡ mirror_leaf t n) = least_at (λ t. mirror_leaf t n) 7 in
    rw a.2 (mirror_leaf-lt a.0 n)

-- ---- equal keys

module _ (key : ℕ → ℕ) (match : ℕ → ℕ → ℕ → Bool) (ps : List ℕ)
    (same : (p q : ℕ) → T (is_in p ps) → T (is_in q ps) → eqb (key p) (key q) ≡ any_below 8 (match p q)) where
  abbrev at : ℕ → ℕ
  at i = get_or ps i 0

  abbrev apart : ℕ → ℕ → ℕ → Bool
  apart q r t = not (match (at q) (at r) t)

  key-at : (i : ℕ) → i < length ps → get_or (map key ps) i 0 ≡ key (at i)
  key-at i h = map_at key ps i 0 0 h

  same_at : (i j : ℕ) → i < length ps → j < length ps → eqb (key (at i)) (key (at j)) ≡ any_below 8 (match (at i) (at j))
  same_at i j hi hj = same (at i) (at j) (is_in-get_or ps i hi) (is_in-get_or ps j hj)

  keys-long : length (map key ps) ≡ length ps
  keys-long = length-map ps key

  forth : T (distinct (map key ps)) → T (apart_in match ps)
  unfolding apart_in
  forth d =
      all-T (length ps) (λ q. all_below q (λ r. all_below 8 (apart q r))) (λ q hq.
      all-T q (λ r. all_below 8 (apart q r)) (λ r hr.
      all-T 8 (apart q r) (λ t ht. go q r t hq (omega arith) hr ht (match (at q) (at r) t) refl)))
    where
      go : (q r t : ℕ) → q < length ps → r < length ps → r < q → t < 8 → (b : Bool) → match (at q) (at r) t ≡ b → T (not b)
      go q r t hq hr l ht false e = tt
      go q r t hq hr l ht true e =
          let k : key (at q) ≡ key (at r) = eqb→eq (key (at q)) (key (at r)) (true-T (same_at q r hq hr ∙ at-any 8 (match (at q) (at r)) t ht e)) in
          let o : q ≡ r = distinct-once (map key ps) d q r (rw keys-long hq) (rw keys-long hr) (key-at q hq ∙ k ∙ sym (key-at r hr)) in
          absurd (omega (arith, o, l))

  -- no later one has the key of an earlier one
  later : T (apart_in match ps) → (q r : ℕ) → q < length ps → r < q → key (at q) ≡ key (at r) → ⊥
  unfolding apart_in
  later a q r hq l e =
      let w : (t : ℕ) × (t < 8) × (match (at q) (at r) t ≡ true) = any_at 8 (match (at q) (at r)) (sym (same_at q r hq (omega arith)) ∙ eq-eqb (key (at q)) (key (at r)) e) in
      let n : T (apart q r w.0) =
      all-at 8 (apart q r) (all-at q (λ s. all_below 8 (apart q s)) (all-at (length ps) (λ p. all_below p (λ s. all_below 8 (apart p s))) a q hq) r l) w.0 w.1 in
      false≢true (sym (not-false (match (at q) (at r) w.0) n) ∙ w.2)

  back : T (apart_in match ps) → T (distinct (map key ps))
  back a = once-distinct (map key ps) once
    where
      once : Once (map key ps)
      once i j hi hj e = go (dec_lt i j) (dec_lt j i)
        where
          li : i < length ps
          li = rw keys-long at hi

          lj : j < length ps
          lj = rw keys-long at hj

          k : key (get_or ps i 0) ≡ key (get_or ps j 0)
          k = sym (key-at i li) ∙ e ∙ key-at j lj

          go : Dec (i < j) → Dec (j < i) → i ≡ j
          go (yes l) d = absurd (later a j i lj l (sym k))
          go (no l) (yes m) = absurd (later a i j li m k)
          go (no l) (no m) = omega arith

  pub keys-tell : not (distinct (map key ps)) ≡ not (apart_in match ps)
  keys-tell = ap not (iff-eq (distinct (map key ps)) (apart_in match ps) forth back)

-- ---- leaves and records

map_same : (f : ℕ → ℕ) → ((a : ℕ) → f a ≡ a) → (xs : List ℕ) → map f xs ≡ xs
map_same f e [] = refl
map_same f e (x ∷ xs) = ap₂ ◌∷◌ (e x) (map_same f e xs)

pub leaves-tell : (l : List ℕ) → Bytes l → (xs : List ℕ) → xs ≡ map (leaf_key_at l) (leaves_in l)
    → not (distinct (map (λ (a : ℕ). a) xs)) ≡ not (apart_in (leaves_match l) (leaves_in l))
leaves-tell l by xs e =
    ap (λ (ys : List ℕ). not (distinct ys)) (map_same (λ (a : ℕ). a) (λ a. refl) xs ∙ e)
    ∙ keys-tell (leaf_key_at l) (leaves_match l) (leaves_in l) (λ p q i j. leaf-match l by p q)

pub records-tell : (u : ℕ) (m l : List ℕ) → Bytes l → Bytes m → Grouped u m → T (all_in (record_rules u m l) (places_in l)) → (xs : List ℕ) → xs ≡ places_in l
    → not (distinct (map (record_key u m l) xs)) ≡ not (apart_in (records_match u m l) (places_in l))
records-tell u m l bl bm groups rules xs ex =
    ap (λ (ys : List ℕ). not (distinct (map (record_key u m l) ys))) ex
    ∙ keys-tell (record_key u m l) (records_match u m l) (places_in l) (λ p q i j. key-match u m l p q (kept p i) (kept q j))
  where
    kept : (p : ℕ) → T (is_in p (places_in l)) → KeptAt u m l p
    kept p i = record-kept u m l bl bm groups p (all_in-is_in (record_rules u m l) (places_in l) p rules i)
