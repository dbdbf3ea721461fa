-- Where lists and pointers are sound, a tag is the lowest by the mark of its place just where it is by the graph's cell, for the root and for every pointer.
-- By what the marks are. Assumes nothing.
use mathlib.Core.Path.{◌≡◌, sym, ◌∙◌, ap}
use mathlib.Core.Bool.{Bool, not}
use mathlib.Core.List.{List, map}
use mathlib.Core.Logic.{inl, inr}
use Prim.Native.Nat.{ℕ, suc, ◌<◌, ◌≤◌}
use native.Mathlib.Omega.{arith}
use borrow.Author.Tests.{eq-eqb, ne_eqb, lt-ltb}
use lib.Bits.{bit_xor}
use lib.Dec.{T}
use lib.ListN.{length, get_or, get_or-map}
use Rattle.paper.specs.Numbers.{all_below, all_in, is_in, index_in}
use Rattle.paper.specs.Store.{Cell, cells_at, cell_at}
use Rattle.paper.specs.Packed.{top_of, root_tag, list_at, PackedPointer, no_pointer, pointers_at, record_ok, code_for, places_at, by_number, graph_of, whole_at, tag_low, pointer_low, tags_ok}
use Rattle.laws.proofs.Tests.{T_true, true-T, and_right, and_T, all-at, all-T, all_same}
use Rattle.laws.proofs.Lists.{all_in-at, all_in-in, all_in-T, is_in-get_or, index-get_or}
use Rattle.laws.proofs.Eight.{xor8-lt}
use Rattle.laws.proofs.PackedLists.{record-cell}
use Rattle.laws.proofs.PackedWalk.{First, root-first}
use Rattle.proper_marks.specs.Marks.{mark_of, low_by}
use Rattle.proper_alike.specs.Matching.{pointer_rules, record_rules}
use Rattle.packed_lists.specs.Ends.{unit_at}
use Rattle.proper_lists.specs.Marking.{marks_at}
use Rattle.proper_marks.proofs.Along.{packed_pointers-length}
use Rattle.proper_rules.proofs.Starting.{once-at}
use Rattle.proper_rules.specs.Rules.{root_low}
use Rattle.proper_rules.proofs.Arrows.{SoundFile, Points, points, no-packed_pointer, pointer-no, packed_pointer-tag, pointer-ne}
use Rattle.proper_rules.proofs.MarksAre.{self_by_lem, marks-are, cells-length, mark-some}

module _ (bs : List ℕ) (f : SoundFile bs) where
  abbrev G : List (List Cell)
  G = graph_of bs

  abbrev ss : ℕ → List ℕ
  ss = places_at bs

  abbrev pointers : ℕ → ℕ → List PackedPointer
  pointers k p = pointers_at (list_at bs (suc k)) p

  abbrev marks : ℕ → List ℕ
  marks = marks_at bs

  -- the rules of a record of list k + 1, by the marks of list k
  abbrev rules_of : ℕ → ℕ → Bool
  rules_of k = record_rules (unit_at k) (marks k) (list_at bs (suc k))

  -- the rules of a pointer to list k
  abbrev pointer_by : ℕ → PackedPointer → Bool
  pointer_by k = pointer_rules (unit_at k) (marks k)

  low_same : (k tag x : ℕ) → k ≤ top_of bs → tag < 8 → T (is_in x (ss k)) → low_by (mark_of (unit_at k) (marks k) x) tag ≡ tag_low G k tag (index_in x (ss k))
  unfolding low_by
  low_same k tag x h ht hx = all_same tag _ _ (λ v l. ap not (self_by_lem bs f k (marks-are bs f k h) x (bit_xor v tag) hx (xor8-lt v tag (omega arith) ht)))

  packed_pointer-rules : (k : ℕ) → k ≤ top_of bs → (r : PackedPointer) → Points bs f k r → pointer_by k r ≡ pointer_low G k (by_number (ss k) r)
  unfolding pointer_rules pointer_low
  packed_pointer-rules k h r (inl e) = rw (no-packed_pointer bs f k r e, eq-eqb r.code 0 e)
  packed_pointer-rules k h r (inr a) =
      rw (
        ne_eqb (by_number (ss k) r) 0 (pointer-ne bs f k r a),
        pointer-no bs f k r a,
        packed_pointer-tag bs f k r a,
        ne_eqb r.code 0 a.some,
        lt-ltb 0 (mark_of (unit_at k) (marks k) r.place) (mark-some bs f k h r.place a.at),
        eq-eqb r.code (code_for r.place) a.wide,
      ) (low_same k r.tag r.place h a.tag a.at)

  -- pointer i of record number n of list k + 1
  pointer_rules_lem : (k n i : ℕ) → k < top_of bs → n < length (ss (suc k))
      → pointer_by k (get_or (pointers k (get_or (ss (suc k)) n 0)) i no_pointer) ≡ pointer_low G k (get_or (cell_at G (suc k) n) i 0)
  pointer_rules_lem k n i h l =
      let p : ℕ = get_or (ss (suc k)) n 0 in
      let hp : T (is_in p (ss (suc k))) = is_in-get_or (ss (suc k)) n l in
      let c : cell_at G (suc k) n ≡ map (by_number (ss k)) (pointers k p) =
      ap (cell_at G (suc k)) (sym (index-get_or (ss (suc k)) (once-at bs (suc k)) n l)) ∙ record-cell bs k p h hp in
      packed_pointer-rules k (omega arith) (get_or (pointers k p) i no_pointer) (points bs f k h p hp i)
      ∙ ap (pointer_low G k) (sym (get_or-map (by_number (ss k)) (pointers k p) i no_pointer) ∙ ap (λ (d : Cell). get_or d i 0) (sym c))

  pub root-same : root_tag bs < 8 → root_low bs ≡ tag_low G (top_of bs) (root_tag bs) 0
  unfolding root_low
  root-same h =
      let top : First (ss (top_of bs)) = root-first bs f.by f.long f.lists in
      low_same (top_of bs) (root_tag bs) 0 (omega arith) h top.there ∙ ap (tag_low G (top_of bs) (root_tag bs)) top.number

  -- the records of list k + 1 keep their rules exactly where its tags are lowest
  pub tags-rules : (k : ℕ) → k < top_of bs → T (tags_ok G k) → T (all_in (rules_of k) (ss (suc k)))
  unfolding tags_ok record_rules whole_at pointer_rules
  tags-rules k h t =
      all_in-T (rules_of k) 0 (ss (suc k)) (λ n l.
      let p : ℕ = get_or (ss (suc k)) n 0 in
      and_T (record_ok (list_at bs (suc k)) p) (all_in (pointer_by k) (pointers k p))
      (all_in-in (record_ok (list_at bs (suc k))) 0 (ss (suc k)) (f.lists.whole (suc k) h) n l)
      (all_in-T (pointer_by k) no_pointer (pointers k p) (λ i m.
      true-T (pointer_rules_lem k n i h l
      ∙ T_true {b = pointer_low G k (get_or (cell_at G (suc k) n) i 0)} (all-at 8 (λ i. pointer_low G k (get_or (cell_at G (suc k) n) i 0))
      (all-at (length (cells_at G (suc k))) (λ n. all_below 8 (λ i. pointer_low G k (get_or (cell_at G (suc k) n) i 0))) t n (rw (cells-length bs f (suc k) h) l))
      i (omega (arith, m, packed_pointers-length (list_at bs (suc k)) p)))))))

  pub rules-tags : (k : ℕ) → k < top_of bs → T (all_in (rules_of k) (ss (suc k))) → T (tags_ok G k)
  unfolding tags_ok record_rules pointer_rules
  rules-tags k h t =
      all-T (length (cells_at G (suc k))) (λ n. all_below 8 (λ i. pointer_low G k (get_or (cell_at G (suc k) n) i 0))) (λ n l.
      let m : n < length (ss (suc k)) = omega (arith, l, cells-length bs f (suc k) h) in
      let p : ℕ = get_or (ss (suc k)) n 0 in
      all-T 8 (λ i. pointer_low G k (get_or (cell_at G (suc k) n) i 0)) (λ i hi.
      true-T (sym (pointer_rules_lem k n i h m)
      ∙ T_true {b = pointer_by k (get_or (pointers k p) i no_pointer)} (all_in-at (pointer_by k) no_pointer tt (pointers k p)
      (and_right (record_ok (list_at bs (suc k)) p) (all_in (pointer_by k) (pointers k p))
      (all_in-in (rules_of k) 0 (ss (suc k)) t n m)) i))))
