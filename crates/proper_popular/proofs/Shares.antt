-- The shares of a file's lists: where code cuts them, that they are zero before counting, and that the test of a share is the two rules of popularity of
-- its list. By the list starts of the header. Assumes nothing.
use mathlib.Core.Path.{◌≡◌, refl, sym, ◌∙◌, ap, ap₂, subst}
use mathlib.Core.Bool.{Bool, not}
use mathlib.Core.List.{List, ◌∷◌}
use Prim.Native.Nat.{ℕ, zero, suc, ◌+◌, ◌-◌, ◌/◌, ◌%◌, ◌^◌, ◌<◌, ◌≤◌}
use native.Mathlib.Numerals.{add-one}
use native.Mathlib.Omega.{arith}
use lib.Dec.{T}
use lib.ListN.{length, take, drop, replicate, length-replicate}
use lib.Seq.{take_all, take-take}
use Rattle.paper.specs.Numbers.{all_in, count}
use Rattle.paper.specs.Packed.{top_of, start_at, list_at, record_ok, places_at}
use Rattle.paper.specs.Runs.{Bytes}
use Rattle.proper_popular.specs.Places.{popular_rules, starts_in}
use Rattle.packed_lists.specs.Ends.{unit_at, Listed}
use Rattle.proper_marks.specs.Places.{places_in, leaves_in, WholeList, Lies}
use Rattle.proper_popular.specs.Counting.{count_records, countable, counts_fall, Shared, Clean}
use Rattle.proper_marks.proofs.InFile.{list-in, places-leaf, places-inner, eights, record-list}
use Rattle.proper_popular.proofs.Counts.{window}
use Rattle.proper_popular.proofs.Starts.{all_whole, all-countable, popular-is}

-- ---- the ways through a share

pub leaves-end : (k u : ℕ) (above list share m : List ℕ) → k ≡ 0 → u ≡ unit_at k → m ≡ count_records u above (places_in above) share → length m ≡ length list
    → not (counts_fall 8 m (leaves_in m)) ≡ not (counts_fall (unit_at k) (count_records (unit_at k) above (places_in above) share) (starts_in k list))
leaves-end zero u above list share m z eu em el =
    ap (λ (n : ℕ). not (counts_fall 8 m (count 0 (n / 8)))) el
    ∙ ap (λ (c : List ℕ). not (counts_fall 8 c (leaves_in list))) (em ∙ ap (λ (v : ℕ). count_records v above (places_in above) share) eu)
leaves-end (suc k) u above list share m z eu em el = absurd (omega arith)

pub records-end : (k u : ℕ) (above list share m : List ℕ) → (k ≡ 0 → ⊥) → u ≡ unit_at k → m ≡ count_records u above (places_in above) share
    → not (counts_fall 2 m (places_in list)) ≡ not (counts_fall (unit_at k) (count_records (unit_at k) above (places_in above) share) (starts_in k list))
records-end zero u above list share m n eu em = absurd (n refl)
records-end (suc k) u above list share m n eu em =
    ap (λ (c : List ℕ). not (counts_fall 2 c (places_in list))) (em ∙ ap (λ (v : ℕ). count_records v above (places_in above) share) eu)

-- ---- zeros

abbrev zeros : ℕ → List ℕ
zeros n = replicate n 0

drop-zeros : (a b : ℕ) → drop a (zeros b) ≡ zeros (b - a)
drop-zeros zero b = let e : b ≡ b - 0 = omega arith in ap zeros e
drop-zeros (suc a) zero = let e : 0 ≡ 0 - suc a = omega arith in ap zeros e
drop-zeros (suc a) (suc b) = let e : b - a ≡ suc b - suc a = omega arith in drop-zeros a b ∙ ap zeros e

pub all-zero : (n : ℕ) (s : List ℕ) → s ≡ zeros n → take n s ≡ zeros n
all-zero n s e = take_all n s (omega (arith, ap length e, length-replicate {A = ℕ} n 0)) ∙ e

-- what is zero up to b is zero up to a, and from a to b
front-zero : (a b : ℕ) (s : List ℕ) → a ≤ b → take b s ≡ zeros b → take a s ≡ zeros a
front-zero a b s h e = sym (take-take a b s h) ∙ ap (take a) e ∙ take-zeros a b h
  where
    take-zeros : (a b : ℕ) → a ≤ b → take a (zeros b) ≡ zeros a
    take-zeros zero b h = refl
    take-zeros (suc a) zero h = absurd (omega arith)
    take-zeros (suc a) (suc b) h = ap (λ (l : List ℕ). 0 ∷ l) (take-zeros a b (omega arith))

part-zero : (a b : ℕ) (s : List ℕ) → a ≤ b → b ≤ length s → take b s ≡ zeros b → take (b - a) (drop a s) ≡ zeros (b - a)
part-zero a b s h l e =
    let n : a + (b - a) ≡ b = omega arith in
    window (b - a) a s (omega arith) ∙ ap (λ (i : ℕ). drop a (take i s)) n ∙ ap (drop a) e ∙ drop-zeros a b

-- ---- list k, which lies from a to b, the one above it, and the list's share, as code has them

-- what lies from a to b
abbrev pub part : ℕ → ℕ → List ℕ → List ℕ
part a b l = take (b - a) (drop a l)

module _ (bs starts S : List ℕ) (k a b : ℕ) (above list : List ℕ) (by : Bytes bs) (listed : Listed bs starts) (clean : Clean bs k S) (h : k < top_of bs) (lies : Lies bs k a b) (up : above ≡ list_at bs (k + 1)) (own : list ≡ list_at bs k) where
  short : length bs < 2 ^ 32
  short = listed.opens.tested.short

  upper : above ≡ list_at bs (suc k)
  upper = up ∙ ap (list_at bs) (add-one k)

  -- the counters of the records at `ps` of a list, tested along the places qs
  abbrev falls : (above share qs ps : List ℕ) → Bool
  falls above share qs ps = counts_fall (unit_at k) (count_records (unit_at k) above ps share) qs

  share-is : part a b S ≡ zeros (length (list_at bs k))
  share-is =
      let e : b - a ≡ length (list_at bs k) = omega (arith, lies.start, lies.end, list-in bs starts listed k (omega arith)) in
      part-zero a b S lies.order (omega (arith, lies.inside, clean.long)) (subst (λ (n : ℕ). take n S ≡ zeros n) (sym lies.end) clean.zero) ∙ ap zeros e

  starts_in_lem : (j : ℕ) → j ≤ top_of bs → starts_in j (list_at bs j) ≡ places_at bs j
  starts_in_lem zero l = sym (places-leaf bs starts listed)
  starts_in_lem (suc j) l = sym (places-inner bs starts listed j l)

  eights-of : (j : ℕ) → j ≡ 0 → length (list_at bs j) % 8 ≡ 0
  eights-of zero e = eights bs starts listed
  eights-of (suc j) e = absurd (omega arith)

  whole_of : (j : ℕ) → j ≤ top_of bs → (j ≡ 0 → ⊥) → WholeList (list_at bs j)
  whole_of zero l n = absurd (n refl)
  whole_of (suc j) l n = record {
    list = record-list bs starts listed j l;
    whole = subst (λ (r : List ℕ). T (all_in (record_ok (list_at bs (suc j))) r)) (places-inner bs starts listed j l) (all_whole bs by short clean.sound j l);
  }

  shared_at : Shared k (list_at bs (suc k)) (list_at bs k) (length (list_at bs k))
  shared_at = record {
    fits =
        subst (λ (r : List ℕ). T (all_in (countable (unit_at k) (length (list_at bs k)) (list_at bs (suc k))) r)) (places-inner bs starts listed k h)
        (all-countable bs by short clean.sound k h);
    over = record-list bs starts listed k h;
    long = refl;
    eights = eights-of k;
    whole = whole_of k (omega arith);
  }

  pub share-shared : Shared k above list (length (part a b S))
  share-shared =
      subst (λ (l : List ℕ). Shared k l list (length (part a b S))) (sym upper)
      (subst (λ (l : List ℕ). Shared k (list_at bs (suc k)) l (length (part a b S))) (sym own)
      (subst (Shared k (list_at bs (suc k)) (list_at bs k)) (sym (ap length share-is ∙ length-replicate (length (list_at bs k)) 0)) shared_at))

  pub share-tells : counts_fall (unit_at k) (count_records (unit_at k) above (places_in above) (part a b S)) (starts_in k list) ≡ popular_rules bs k
  share-tells =
      ap (λ (l : List ℕ). falls l (part a b S) (starts_in k list) (places_in l)) upper
      ∙ ap₂ (λ (z l : List ℕ). falls (list_at bs (suc k)) z (starts_in k l) (places_in (list_at bs (suc k)))) share-is own
      ∙ ap₂ (falls (list_at bs (suc k)) (zeros (length (list_at bs k)))) (starts_in_lem k (omega arith)) (sym (places-inner bs starts listed k h))
      ∙ popular-is bs by short clean.sound k h

  pub share-below : (m : List ℕ) → take a m ≡ take a S → take (start_at bs k) m ≡ zeros (start_at bs k)
  share-below m e =
      subst (λ (n : ℕ). take n m ≡ zeros n) lies.start (e ∙ front-zero a b S lies.order (subst (λ (n : ℕ). take n S ≡ zeros n) (sym lies.end) clean.zero))
