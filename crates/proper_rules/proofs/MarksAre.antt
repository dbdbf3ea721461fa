-- Where lists and pointers are sound, the mark of a start is the symmetry of the graph's cell there, so it is never 0; and records match by places just
-- where the graph's cells match. By induction on the list. Assumes nothing.
use mathlib.Core.Path.{◌≡◌, sym, ◌∙◌, ap, ap₂}
use mathlib.Core.List.{List, [], map}
use mathlib.Core.Logic.{inl, inr}
use Prim.Native.Nat.{ℕ, zero, suc, ◌+◌, ◌*◌, ◌%◌, ◌^◌, ◌<◌, ◌≤◌}
use native.Mathlib.Decide.{dec_lt}
use native.Mathlib.Omega.{arith}
use borrow.Author.Tests.{eq-eqb, ne_eqb}
use lib.Bits.{bit_xor}
use lib.Dec.{T, lit<}
use lib.ListN.{length, get_or, drop, replicate, get_or-map, get_or-eq_default, length-map, length-replicate}
use Rattle.paper.specs.Numbers.{is_in, index_in}
use Rattle.paper.specs.Store.{Cell, leaf_no, cells_at, cell_at}
use Rattle.paper.specs.Match.{pointer_match, cell_match, matches}
use Rattle.paper.specs.Packed.{top_of, list_at, PackedPointer, no_pointer, pointers_at, leaf_at, places_at, by_number, cells_of, graph_of}
use Rattle.laws.proofs.Tests.{all_same}
use Rattle.laws.proofs.Lists.{is_in-get_or, index-get_or}
use Rattle.laws.proofs.Bytes.{bytes_drop}
use Rattle.laws.proofs.Eight.{xor8-lt}
use Rattle.laws.proofs.Matching.{LeafFits, self_at, fits-at}
use Rattle.laws.specs.Symmetries.{marked, symmetry_of}
use Rattle.laws.proofs.Symmetries.{symmetry-bit, symmetry-same, symmetry-odd}
use Rattle.laws.proofs.PackedLists.{num4-lt, list_bytes_lem, start-inside, graph-cells, record-cell, leaf-cell}
use Rattle.proper_marks.specs.Marks.{mark_of}
use Rattle.proper_alike.specs.Matching.{leaves_match, place_match, self_by, records_match, leaf_symmetry, record_symmetry}
use Rattle.packed_lists.specs.Ends.{unit_at}
use Rattle.proper_lists.specs.Marking.{marks_at}
use Rattle.proper_lists.proofs.Marks.{marks-start}
use Rattle.proper_marks.proofs.InFile.{list_length}
use Rattle.proper_rules.proofs.Starting.{once-at, unit-inj}
use Rattle.proper_rules.proofs.Arrows.{SoundFile, Points, points, no-packed_pointer, pointer-no, packed_pointer-tag, pointer-ne, same_place}

module _ (bs : List ℕ) (f : SoundFile bs) where
  abbrev G : List (List Cell)
  G = graph_of bs

  abbrev ss : ℕ → List ℕ
  ss = places_at bs

  abbrev pointers : ℕ → ℕ → List PackedPointer
  pointers k p = pointers_at (list_at bs (suc k)) p

  abbrev marks : ℕ → List ℕ
  marks = marks_at bs

  abbrev pub cell_of : ℕ → ℕ → Cell
  cell_of k p = cell_at G k (index_in p (ss k))

  -- the mark of each start of list k is the symmetry of its cell
  abbrev MarksAre : ℕ → Type 0
  MarksAre k = (x : ℕ) → T (is_in x (ss k)) → mark_of (unit_at k) (marks k) x ≡ symmetry_of G k (cell_of k x)

  pub self_by_lem : (k : ℕ) → MarksAre k → (x v : ℕ) → T (is_in x (ss k)) → v < 8 → self_by (unit_at k) (marks k) x v ≡ matches G k (cell_of k x) (cell_of k x) v
  self_by_lem k ih x v hx hv = ap (λ (m : ℕ). marked m v) (ih x hx) ∙ symmetry-bit (matches G k (cell_of k x) (cell_of k x)) v hv

  place_match_lem : (k : ℕ) → MarksAre k → (t : ℕ) → t < 8 → (r s : PackedPointer) → Points bs f k r → Points bs f k s
      → place_match (self_by (unit_at k) (marks k)) t r s ≡ pointer_match (self_at G k) t (by_number (ss k) r) (by_number (ss k) s)
  unfolding place_match pointer_match
  place_match_lem k ih t ht r s (inl a) (inl b) = rw (no-packed_pointer bs f k r a, no-packed_pointer bs f k s b, eq-eqb r.code 0 a, eq-eqb s.code 0 b)
  place_match_lem k ih t ht r s (inl a) (inr b) = rw (ne_eqb (by_number (ss k) s) 0 (pointer-ne bs f k s b), no-packed_pointer bs f k r a, eq-eqb r.code 0 a, ne_eqb s.code 0 b.some)
  place_match_lem k ih t ht r s (inr a) (inl b) = rw (ne_eqb (by_number (ss k) r) 0 (pointer-ne bs f k r a), no-packed_pointer bs f k s b, eq-eqb s.code 0 b, ne_eqb r.code 0 a.some)
  place_match_lem k ih t ht r s (inr a) (inr b) =
      rw (
        ne_eqb (by_number (ss k) r) 0 (pointer-ne bs f k r a),
        ne_eqb (by_number (ss k) s) 0 (pointer-ne bs f k s b),
        pointer-no bs f k r a,
        pointer-no bs f k s b,
        packed_pointer-tag bs f k r a,
        packed_pointer-tag bs f k s b,
        same_place bs f k r.place s.place a.at b.at,
        ne_eqb r.code 0 a.some,
        ne_eqb s.code 0 b.some,
        self_by_lem k ih r.place (bit_xor (bit_xor r.tag s.tag) t) a.at (xor8-lt (bit_xor r.tag s.tag) t (xor8-lt r.tag s.tag a.tag b.tag) ht),
      )

  pub records_match_lem : (k : ℕ) → k < top_of bs → MarksAre k → (p q t : ℕ) → t < 8 → T (is_in p (ss (suc k))) → T (is_in q (ss (suc k)))
      → records_match (unit_at k) (marks k) (list_at bs (suc k)) p q t ≡ matches G (suc k) (cell_of (suc k) p) (cell_of (suc k) q) t
  unfolding records_match matches cell_match
  records_match_lem k h ih p q t ht hp hq =
      rw (record-cell bs k p h hp, record-cell bs k q h hq)
      (all_same 8 (λ i. place_match (self_by (unit_at k) (marks k)) t (get_or (pointers k p) i no_pointer) (get_or (pointers k q) (bit_xor i t) no_pointer))
      (λ i. pointer_match (self_at G k) t (get_or (map (by_number (ss k)) (pointers k p)) i 0) (get_or (map (by_number (ss k)) (pointers k q)) (bit_xor i t) 0)) (λ i hi.
      place_match_lem k ih t ht (get_or (pointers k p) i no_pointer) (get_or (pointers k q) (bit_xor i t) no_pointer) (points bs f k h p hp i) (points bs f k h q hq (bit_xor i t))
      ∙ ap₂ (pointer_match (self_at G k) t)
      (sym (get_or-map (by_number (ss k)) (pointers k p) i no_pointer)) (sym (get_or-map (by_number (ss k)) (pointers k q) (bit_xor i t) no_pointer))))

  pub leaves_match_lem : (p q t : ℕ) → T (is_in p (ss 0)) → T (is_in q (ss 0)) → leaves_match (list_at bs 0) p q t ≡ matches G 0 (cell_of 0 p) (cell_of 0 q) t
  unfolding leaves_match matches
  leaves_match_lem p q t hp hq = rw (leaf-cell bs p hp, leaf-cell bs q hq)

  pub marks-are : (k : ℕ) → k ≤ top_of bs → MarksAre k
  unfolding marks_at leaf_symmetry record_symmetry
  marks-are zero h x hx =
      marks-start (leaf_symmetry (list_at bs 0)) 8 (unit-inj 0) (ss 0) (replicate (length (list_at bs 0)) 0) x
      (omega (arith, start-inside bs f.by f.lists.whole 0 x h hx, list_length bs f.lists.sizes 0 h, length-replicate {A = ℕ} (length (list_at bs 0)) 0)) hx
      ∙ symmetry-same (leaves_match (list_at bs 0) x x) (matches G 0 (cell_of 0 x) (cell_of 0 x)) (λ t ht. leaves_match_lem x x t hx hx)
  marks-are (suc k) h x hx =
      marks-start (record_symmetry (unit_at k) (marks k) (list_at bs (suc k))) 2 (unit-inj (suc k)) (ss (suc k)) (replicate (length (list_at bs (suc k))) 0) x
      (omega (arith, start-inside bs f.by f.lists.whole (suc k) x h hx, list_length bs f.lists.sizes (suc k) h, length-replicate {A = ℕ} (length (list_at bs (suc k))) 0)) hx
      ∙ symmetry-same (records_match (unit_at k) (marks k) (list_at bs (suc k)) x x) (matches G (suc k) (cell_of (suc k) x) (cell_of (suc k) x))
      (λ t ht. records_match_lem k h (marks-are k (omega arith)) x x t ht hx hx)

  -- ---- a start's mark is never 0

  pub cells-length : (k : ℕ) → k ≤ top_of bs → length (cells_at G k) ≡ length (ss k)
  unfolding cells_of
  cells-length zero h = ap length (graph-cells bs 0 h) ∙ length-map (ss 0) (leaf_at (list_at bs 0))
  cells-length (suc k) h = ap length (graph-cells bs (suc k) h) ∙ length-map (ss (suc k)) (λ p. map (by_number (ss k)) (pointers k p))

  leaf-fits : (q : ℕ) → LeafFits 0 (cell_at G 0 q)
  unfolding cells_of leaf_at
  leaf-fits q = go (dec_lt q (length (ss 0)))
    where
      l : List ℕ
      l = list_at bs 0

      go : Dec (q < length (ss 0)) → leaf_no (cell_at G 0 q) < 2 ^ 64
      go (yes h) =
          let p : ℕ = get_or (ss 0) q 0 in
          let e : cell_at G 0 q ≡ leaf_at l p = ap (cell_at G 0) (sym (index-get_or (ss 0) (once-at bs 0) q h)) ∙ leaf-cell bs p (is_in-get_or (ss 0) q h) in
          rw e (omega (arith, num4-lt (drop (8 * p) l) (bytes_drop (8 * p) l (list_bytes_lem bs f.by 0)), num4-lt (drop (8 * p + 4) l) (bytes_drop (8 * p + 4) l (list_bytes_lem bs f.by 0))))
      go (no h) = rw (get_or-eq_default (cells_at G 0) [] {n = q} (rw (cells-length 0 (omega arith)) (omega (arith, h)))) (lit< tt)

  -- a start's mark is never 0
  pub mark-some : (k : ℕ) → k ≤ top_of bs → (x : ℕ) → T (is_in x (ss k)) → 0 < mark_of (unit_at k) (marks k) x
  mark-some k h x hx =
      rw (marks-are k h x hx) (odd-some (symmetry_of G k (cell_of k x)) (symmetry-odd G leaf-fits k (cell_of k x) (fits-at G leaf-fits k (index_in x (ss k)))))
    where
      odd-some : (m : ℕ) → m % 2 ≡ 1 → 0 < m
      odd-some m e = omega arith
