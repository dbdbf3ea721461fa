-- A list and its shares as code cuts them from the file and from the scratch, and the scratch with the share put back; the list's rules by its own bytes.
-- By where the lists lie in the file. Assumes nothing.
use mathlib.Core.Path.{◌≡◌, sym, ◌∙◌, ap, ap₂, subst}
use mathlib.Core.Bool.{◌&&◌}
use mathlib.Core.List.{List, ◌++◌}
use Prim.Native.Nat.{ℕ, zero, suc, ◌+◌, ◌-◌, ◌<◌, ◌≤◌}
use native.Mathlib.Numerals.{add-one}
use native.Mathlib.Omega.{arith}
use lib.ListN.{length, get_or, take, drop, replicate}
use Rattle.paper.specs.Numbers.{all_in}
use Rattle.paper.specs.Packed.{top_of, start_at, list_at, leaf_ok}
use Rattle.paper.specs.Runs.{Bytes}
use Rattle.packed_lists.specs.Ends.{unit_at, end_at, end_in, Listed}
use Rattle.proper_marks.specs.Places.{LeafList}
use Rattle.proper_marks.specs.Marks.{Grouped}
use Rattle.proper_marks.proofs.InFile.{start_is, end_is, list-in, end_in_lem, cut-is, places-leaf, places-inner, leaf-list, record-list}
use Rattle.proper_alike.specs.Matching.{leaves_match, records_match, record_rules, apart_in}
use Rattle.proper_lists.specs.Marking.{Shares, leaves_rules, leaf_marks, inner_rules, record_marks, marks_at, list_rules, scratch_at, Marked}
use Rattle.proper_lists.proofs.Groups.{marks-grouped}
use Rattle.proper_lists.proofs.Scratch.{scratch-length, leaf-part, leaf-back, inner-part, inner_back, shares-long, shares-own, shares-marks}

module _ (bs starts : List ℕ) (known : Listed bs starts) where
  pub rules-leaf : list_rules bs 0 ≡ leaves_rules (list_at bs 0)
  unfolding list_rules leaves_rules
  rules-leaf = ap (λ (ps : List ℕ). all_in (leaf_ok (list_at bs 0)) ps && apart_in (leaves_match (list_at bs 0)) ps) (places-leaf bs starts known)

  pub rules-inner : (k : ℕ) → suc k ≤ top_of bs → list_rules bs (suc k) ≡ inner_rules (unit_at k) (marks_at bs k) (list_at bs (suc k))
  unfolding list_rules inner_rules
  rules-inner k h =
      ap (λ (ps : List ℕ). all_in (record_rules (unit_at k) (marks_at bs k) (list_at bs (suc k))) ps && apart_in (records_match (unit_at k) (marks_at bs k) (list_at bs (suc k))) ps)
      (places-inner bs starts known k h)

-- what lies from a to b
abbrev pub part : ℕ → ℕ → List ℕ → List ℕ
part a b l = take (b - a) (drop a l)

-- another there
abbrev pub put_in : ℕ → ℕ → List ℕ → List ℕ → List ℕ
put_in a b ys l = take a l ++ (ys ++ drop (b - a) (drop a l))

-- ---- list 0, from a on

pub record LeafCut (bs S : List ℕ) (a : ℕ) : Type 0 where
  pub start : a ≤ length bs
  pub same : length S ≡ length bs
  pub leaves : LeafList (part a (length bs) bs)
  pub share : part a (length S) S ≡ replicate (length (part a (length bs) bs)) 0
  pub tells : leaves_rules (part a (length bs) bs) ≡ list_rules bs 0
  pub marked : (ys : List ℕ) → ys ≡ leaf_marks (part a (length bs) bs) (part a (length S) S) → put_in a (length S) ys S ≡ scratch_at bs 1

pub leaf_cut : (bs starts S : List ℕ) → Marked bs starts 0 S → LeafCut bs S (get_or starts 0 0)
leaf_cut bs starts S known = record {
  start = omega (arith, at_a, list-in bs starts listed 0 (omega arith));
  same = same;
  leaves = subst LeafList (sym leaves-are) (leaf-list bs starts listed);
  share = share-is ∙ ap (λ (l : List ℕ). replicate (length l) 0) (sym leaves-are);
  tells = ap leaves_rules leaves-are ∙ sym (rules-leaf bs starts listed);
  marked = λ ys e.
      ap (put_in a (length S) ys) known.is
      ∙ leaf-back bs starts listed a (length S - a) at_a wide ys (e ∙ ap₂ (λ (z l : List ℕ). leaf_marks l z) share-is leaves-are);
}
  where
    listed : Listed bs starts
    listed = known.listed

    a : ℕ
    a = get_or starts 0 0

    at_a : a ≡ start_at bs 0
    at_a = start_is bs starts listed 0 (omega arith)

    same : length S ≡ length bs
    same = ap length known.is ∙ scratch-length bs starts listed 0 (omega arith)

    wide : length S - a ≡ length (list_at bs 0)
    wide = omega (arith, at_a, same, list-in bs starts listed 0 (omega arith))

    leaves-are : part a (length bs) bs ≡ list_at bs 0
    leaves-are = ap (λ (i : ℕ). part i (length bs) bs) at_a ∙ cut-is bs starts listed 0 (omega arith)

    share-is : part a (length S) S ≡ replicate (length (list_at bs 0)) 0
    share-is = ap (part a (length S)) known.is ∙ leaf-part bs starts listed a (length S - a) at_a wide

-- ---- list k + 1, from a to b, and its shares, from a to c

pub record ListRoom (bs S : List ℕ) (a b c : ℕ) : Type 0 where
  pub upper : a ≤ b
  pub lower : b ≤ c
  pub end : c ≤ length bs
  pub same : length S ≡ length bs

pub list_room : (bs starts S : List ℕ) (k c : ℕ) → Marked bs starts (suc k) S → k < top_of bs → c ≡ end_in starts (length bs) k
    → ListRoom bs S (get_or starts (k + 1) 0) (get_or starts k 0) c
list_room bs starts S k c known h ec = record {
  upper = omega (arith, at_a, at_b, list-in bs starts listed (suc k) h);
  lower = omega (arith, at_b, at_c, list-in bs starts listed k (omega arith));
  end = omega (arith, at_c, end_in_lem bs starts listed k (omega arith));
  same = ap length known.is ∙ scratch-length bs starts listed (suc k) (omega arith);
}
  where
    listed : Listed bs starts
    listed = known.listed

    at_a : get_or starts (k + 1) 0 ≡ start_at bs (suc k)
    at_a = ap (λ (i : ℕ). get_or starts i 0) (add-one k) ∙ start_is bs starts listed (suc k) h

    at_b : get_or starts k 0 ≡ start_at bs k
    at_b = start_is bs starts listed k (omega arith)

    at_c : c ≡ end_at bs k
    at_c = ec ∙ end_is bs starts listed k (omega arith)

pub record ListCut (bs S : List ℕ) (k a b c : ℕ) : Type 0 where
  pub shares : Shares (unit_at k) (part a b bs) (part a c S)
  pub tells : inner_rules (unit_at k) (drop (length (part a b bs)) (part a c S)) (part a b bs) ≡ list_rules bs (suc k)
  pub marked : (ys : List ℕ) → ys ≡ record_marks (unit_at k) (drop (length (part a b bs)) (part a c S)) (part a b bs) (part a c S)
      → put_in a c ys S ≡ scratch_at bs (suc (suc k))

pub list_cut : (bs starts S : List ℕ) (k c : ℕ) → Bytes bs → Marked bs starts (suc k) S → k < top_of bs → c ≡ end_in starts (length bs) k
    → ListCut bs S k (get_or starts (k + 1) 0) (get_or starts k 0) c
list_cut bs starts S k c by known h ec = record {
  shares = subst (λ (l : List ℕ). Shares (unit_at k) l (part a c S)) (sym list-is) (subst (Shares (unit_at k) (list_at bs (suc k))) (sym shares-are) shared);
  tells = ap₂ (inner_rules (unit_at k)) marks-are list-is ∙ sym (rules-inner bs starts listed k h);
  marked = λ ys e.
      ap (put_in a c ys) known.is
      ∙ inner_back bs starts listed k h a (c - a) at_a wide ys
      (e ∙ ap₂ (λ (m l : List ℕ). record_marks (unit_at k) m l (part a c S)) marks-are list-is
      ∙ ap (λ (z : List ℕ). record_marks (unit_at k) (marks_at bs k) (list_at bs (suc k)) z) shares-are);
}
  where
    listed : Listed bs starts
    listed = known.listed

    a : ℕ
    a = get_or starts (k + 1) 0

    b : ℕ
    b = get_or starts k 0

    at_a : a ≡ start_at bs (suc k)
    at_a = ap (λ (i : ℕ). get_or starts i 0) (add-one k) ∙ start_is bs starts listed (suc k) h

    at_b : b ≡ start_at bs k
    at_b = start_is bs starts listed k (omega arith)

    at_c : c ≡ end_at bs k
    at_c = ec ∙ end_is bs starts listed k (omega arith)

    wide : c - a ≡ length (list_at bs (suc k)) + length (list_at bs k)
    wide = omega (arith, at_a, at_c, list-in bs starts listed (suc k) h, list-in bs starts listed k (omega arith))

    list-is : part a b bs ≡ list_at bs (suc k)
    list-is = ap₂ (λ (i j : ℕ). part i j bs) at_a at_b ∙ cut-is bs starts listed (suc k) h

    shares-are : part a c S ≡ replicate (length (list_at bs (suc k))) 0 ++ marks_at bs k
    shares-are = ap (part a c) known.is ∙ inner-part bs starts listed k h a (c - a) at_a wide

    marks-are : drop (length (part a b bs)) (part a c S) ≡ marks_at bs k
    marks-are = ap₂ (λ (l z : List ℕ). drop (length l) z) list-is shares-are ∙ shares-marks bs starts listed k h

    unit-few : (j : ℕ) → unit_at j ≤ 8
    unit-few zero = omega arith
    unit-few (suc j) = omega arith

    shared : Shares (unit_at k) (list_at bs (suc k)) (replicate (length (list_at bs (suc k))) 0 ++ marks_at bs k)
    shared = record {
      records = record-list bs starts listed k h;
      long = shares-long bs starts listed k h;
      own = shares-own bs starts listed k h;
      grouped = subst (Grouped (unit_at k)) (sym (shares-marks bs starts listed k h)) (marks-grouped bs by k known.rules);
      counts = unit-few k;
    }
