-- Long pointers: where each pointer of a file names the start of a record, with the code that its place calls for, and each record is named, no pointer
-- is long exactly where no record below the top starts past place 8,191: so in every proper file. Places rise along a list, so in a scene's file each
-- list's last decides.
-- Pointer by pointer, and back by who names a record. Assumes nothing.
use mathlib.Core.Path.{◌≡◌, refl, sym, ◌∙◌, subst, ap}
use mathlib.Core.Bool.{Bool, true, false, cond, not, ◌&&◌}
use mathlib.Core.List.{List, [], ◌∷◌, map}
use Prim.Native.Nat.{ℕ, suc, ◌+◌, ◌-◌, ◌*◌, ◌^◌, ◌<◌, ◌≤◌}
use native.Mathlib.Omega.{arith}
use borrow.Author.Tests.{eq-eqb, ne_eqb, eqb-true, eqb-false, le-leb}
use lib.Dec.{T, eqb, leb, ltb, eqb→eq, leb→le, ltb→lt}
use lib.ListN.{length, get_or, length-map, get_or-map}
use Rattle.paper.specs.Numbers.{all_below, all_in, is_in, index_in}
use Rattle.paper.specs.Outline.{length_ok}
use Rattle.paper.specs.Store.{Cell, heights, cell_no, tag_of, cells_at, cell_at}
use Rattle.paper.specs.Packed.{packed_head, empty_mark, root_tag, is_empty, top_of, list_at, header_at, PackedPointer, no_pointer, pointers_at, farthest_short, code_for, places_at, by_number, cells_of, graph_of, packed_pointer_ok, packed_pointers_ok, popularity, named_ok, proper, short_at, short_list, all_short}
use Rattle.paper.specs.Pack.{places, layout, scene_graph}
use Rattle.paper.specs.Runs.{Bytes}
use Rattle.laws.proofs.Tests.{true-T, T_true, iff-eq, and_left, and_right, all-at, all_same}
use Rattle.laws.proofs.Lists.{map_at, all_in-at, all_in-in, all_in-T, all_in-is_in, At, is_in-at}
use Rattle.laws.proofs.Bytes.{bytes_drop}
use Rattle.laws.proofs.Matching.{tag-lt}
use Rattle.laws.proofs.Adding.{pointer-cell}
use Rattle.laws.proofs.PackedLists.{pointers-fit, list_bytes_lem, start_small, packed_pointer-some, graph-cells, records-length}
use Rattle.laws.proofs.PackedWalk.{SoundLists, few-leaves}
use Rattle.laws.proofs.ProperClaim.{proper-passes}
use Rattle.laws.proofs.ProperVoxels.{proper-lists, proper-graph}
use Rattle.laws.proofs.Weights.{NamedBy, named_by}
use Rattle.laws.proofs.Layouts.{Layable, places-many, places-rising, top-said, tag-said, places-said, inner-said, pointers-said}
use Rattle.laws.proofs.LayoutBytes.{layout-bytes}
use Rattle.laws.proofs.Renumbering.{Renumbered, renumbered-length}
use Rattle.laws.proofs.PackedReachable.{numbers}
use Rattle.laws.proofs.PackedGraph.{renumbered-named}
use Rattle.laws.proofs.Packing.{renumbered-good, renumbered-short}

-- a short pointer reaches this place
abbrev pub near : ℕ → Bool
near p = leb p farthest_short

-- ---- one pointer

abbrev short : PackedPointer → Bool
short r = not (eqb r.code 2)

code-near : (p : ℕ) → T (near p) → code_for p ≡ 1
code-near p t = rw (T_true {b = near p} t)

short-code : (r : PackedPointer) → r.code ≡ code_for r.place → T (short r) → T (near r.place)
short-code r e = go (near r.place) e
  where
    go : (b : Bool) → r.code ≡ cond b 1 2 → T (short r) → T b
    go true q t = tt
    go false q t = subst (λ (c : ℕ). T (not (eqb c 2))) q t

module _ (ps : List ℕ) (r : PackedPointer) (ok : T (packed_pointer_ok ps r)) where
  -- one that is there leads to one of the places, with its code
  leads : (r.code ≡ 0 → ⊥) → T (is_in r.place ps) × (r.code ≡ code_for r.place)
  unfolding packed_pointer_ok
  leads n =
      let t : T (is_in r.place ps && eqb r.code (code_for r.place)) = subst (λ (b : Bool). T (cond b true (is_in r.place ps && eqb r.code (code_for r.place)))) (ne_eqb r.code 0 n) ok in
      (and_left (is_in r.place ps) (eqb r.code (code_for r.place)) t, eqb→eq r.code (code_for r.place) (and_right (is_in r.place ps) (eqb r.code (code_for r.place)) t))

  near-short : T (all_in near ps) → T (short r)
  near-short t = go (eqb r.code 0) refl
    where
      go : (b : Bool) → eqb r.code 0 ≡ b → T (short r)
      go true e = rw (eqb-true r.code 0 e) tt
      go false e =
          let l : T (is_in r.place ps) × (r.code ≡ code_for r.place) = leads (eqb-false r.code 0 e) in
          rw (l.1 ∙ code-near r.place (all_in-is_in near ps r.place t l.0)) tt

-- ---- list k and the one above it: pointers are as they should be, numbers fit a pointer, and each record is named

module _ (bs : List ℕ) (by : Bytes bs) (k : ℕ) (ok : T (packed_pointers_ok bs k))
    (small : (p : ℕ) → T (is_in p (places_at bs k)) → p < 2 ^ 29 → suc (index_in p (places_at bs k)) < 2 ^ 29)
    (named : (q : ℕ) → q < length (places_at bs k) → 0 < popularity (cells_of bs (suc k)) q) where
  abbrev ps : List ℕ
  ps = places_at bs k

  abbrev ss : List ℕ
  ss = places_at bs (suc k)

  -- the pointers of record n
  abbrev pointers : ℕ → List PackedPointer
  pointers n = pointers_at (list_at bs (suc k)) (get_or ss n 0)

  pointers-ok : (n : ℕ) → n < length ss → T (all_in (packed_pointer_ok ps) (pointers n))
  unfolding packed_pointers_ok
  pointers-ok n h = all_in-in (λ p. all_in (packed_pointer_ok ps) (pointers_at (list_at bs (suc k)) p)) 0 ss ok n h

  pointer_ok : (n : ℕ) → n < length ss → (i : ℕ) → T (packed_pointer_ok ps (get_or (pointers n) i no_pointer))
  unfolding packed_pointer_ok
  pointer_ok n h i = all_in-at (packed_pointer_ok ps) no_pointer tt (pointers n) (pointers-ok n h) i

  all_short_lem : T (all_in near ps) → T (short_list bs k)
  unfolding short_list short_at
  all_short_lem t =
      all_in-T (short_at (list_at bs (suc k))) 0 ss (λ n h.
      all_in-T short no_pointer (pointers n) (λ i m. near-short ps (get_or (pointers n) i no_pointer) (pointer_ok n h i) t))

  -- the pointer that names record q
  module _ (t : T (short_list bs k)) (q : ℕ) (w : NamedBy (cells_of bs (suc k)) q) where
    abbrev r : PackedPointer
    r = get_or (pointers w.cell) w.child no_pointer

    inside : w.cell < length ss
    unfolding cells_of
    inside = omega (arith, w.is-cell, length-map ss (λ p. map (by_number ps) (pointers_at (list_at bs (suc k)) p)))

    is_pointer : get_or (get_or (cells_of bs (suc k)) w.cell []) w.child 0 ≡ by_number ps r
    unfolding cells_of
    is_pointer =
        ap (λ (c : Cell). get_or c w.child 0) (map_at (λ p. map (by_number ps) (pointers_at (list_at bs (suc k)) p)) ss w.cell 0 [] inside)
        ∙ get_or-map (by_number ps) (pointers w.cell) w.child no_pointer

    there : r.code ≡ 0 → ⊥
    there e = w.some (is_pointer ∙ rw (eq-eqb r.code 0 e))

    to : T (is_in r.place ps) × (r.code ≡ code_for r.place)
    to = leads ps r (pointer_ok w.cell inside w.child) there

    fits : r.place < 2 ^ 29
    unfolding pointers_at
    fits =
        let l : List ℕ = list_at bs (suc k) in
        let p : ℕ = get_or ss w.cell 0 in
        (pointers-fit 8 (header_at l p) _ (bytes_drop (2 * p + 2) l (list_bytes_lem bs by (suc k))) w.child to.1).1

    is-place : get_or ps q 0 ≡ r.place
    is-place =
        let a : At r.place ps = is_in-at r.place ps to.0 in
        let n : q ≡ index_in r.place ps =
        sym w.is ∙ ap cell_no (is_pointer ∙ packed_pointer-some ps r there) ∙ pointer-cell r.tag (index_in r.place ps) (small r.place to.0 fits) in
        ap (λ (i : ℕ). get_or ps i 0) n ∙ a.is

    near-named : T (near (get_or ps q 0))
    unfolding short_list short_at
    near-named =
        subst (λ (p : ℕ). T (near p)) (sym is-place)
        (short-code r to.1 (all_in-at short no_pointer tt (pointers w.cell) (all_in-in (short_at (list_at bs (suc k))) 0 ss t w.cell inside) w.child))

  pub short-near : short_list bs k ≡ all_in near (places_at bs k)
  short-near = iff-eq (short_list bs k) (all_in near ps) (λ t. all_in-T near 0 ps (λ q h. near-named t q (named_by (cells_of bs (suc k)) q (named q h)))) all_short_lem

-- ---- a file

pub file-near : (bs : List ℕ) → is_empty bs ≡ false → ((k : ℕ) → k < top_of bs → short_list bs k ≡ all_in near (places_at bs k))
    → all_short bs ≡ all_below (top_of bs) (λ k. all_in near (places_at bs k))
unfolding all_short
file-near bs e h = rw e (all_same (top_of bs) (short_list bs) (λ k. all_in near (places_at bs k)) h)

-- a proper one
pub proper-short : (file : List ℕ) → Bytes file → proper file ≡ true → is_empty file ≡ false
    → all_short file ≡ all_below (top_of file) (λ k. all_in (λ p. leb p farthest_short) (places_at file k))
unfolding named_ok
proper-short file by e some =
    file-near file some (λ k h. short-near file by k (lists.pointed k h) (λ p i m. start_small file by lists.whole (few-leaves file by long lists) k p (omega arith) i m) (named k h))
  where
    long : T (length_ok packed_head file)
    long = (proper-passes file (true-T e)).long

    lists : SoundLists file
    lists = proper-lists file by e some

    named : (k : ℕ) → k < top_of file → (q : ℕ) → q < length (places_at file k) → 0 < popularity (cells_of file (suc k)) q
    named k h q l =
        let cs : List Cell = cells_at (graph_of file) (suc k) in
        let t : T (ltb 0 (popularity cs q)) =
        all-at (length (cells_at (graph_of file) k)) (λ i. ltb 0 (popularity cs i)) ((proper-graph file by e some).named k h) q (omega (arith, l, records-length file k (omega arith))) in
        subst (λ (c : List Cell). 0 < popularity c q) (graph-cells file (suc k) h) (ltb→lt 0 (popularity cs q) t)

-- ---- places that rise: the last decides

last-near : (l : List ℕ) → ((i q : ℕ) → i ≤ q → q < length l → get_or l i 0 ≤ get_or l q 0) → all_in near l ≡ near (get_or l (length l - 1) 0)
unfolding all_in
last-near [] h = refl
last-near (x ∷ l) h =
    let ps : List ℕ = x ∷ l in
    let n : ℕ = suc (length l) - 1 in
    iff-eq (all_in near ps) (near (get_or ps n 0)) (λ t. all_in-in near 0 ps t n (omega arith))
    (λ t. all_in-T near 0 ps (λ i m. true-T (le-leb (get_or ps i 0) farthest_short (omega (arith, h i n (omega arith) (omega arith), leb→le (get_or ps n 0) farthest_short t)))))

-- ---- the file of a scene

module _ (K : List (List Cell)) (k p : ℕ) (hk : k < heights) (r : Renumbered K (scene_graph K k p) (numbers K k p) k)
    (two : (q : ℕ) → q < length (cells_at K 0) → length (cell_at K 0 q) ≡ 2)
    (eight : (j : ℕ) → j < k → (q : ℕ) → q < length (cells_at K (suc j)) → length (cell_at K (suc j) q) ≡ 8) where
  abbrev G : List (List Cell)
  G = scene_graph K k p

  abbrev file : List ℕ
  file = layout k (tag_of p) G

  good : Layable k G
  good = renumbered-good K k p hk r two eight

  are-places : (j : ℕ) → j ≤ k → places_at file j ≡ places G j
  are-places = places-said k (tag_of p) G good (renumbered-short K k p hk r two eight)

  places-few : (j : ℕ) → j ≤ k → length (places_at file j) ≡ length (numbers K k p j)
  places-few j h = ap length (are-places j h) ∙ places-many k G good j ∙ renumbered-length r j h

  list-near : (j : ℕ) → j < k → short_list file j ≡ all_in near (places_at file j)
  list-near j h =
      short-near file (layout-bytes k (tag_of p) G hk (tag-lt p)) j (pointers-said k (tag_of p) G good (renumbered-short K k p hk r two eight) j h)
      (λ x i m. omega (arith, (is_in-at x (places_at file j) i).inside, places-few j (omega arith), r.few j (omega arith)))
      (λ q l. rw (inner-said k (tag_of p) G good (renumbered-short K k p hk r two eight) j h) (renumbered-named K k p r j h q (omega (arith, places-few j (omega arith)))))

  -- no pointer is long exactly where a short one reaches the last record of each list below the top
  pub scene-near : all_short (layout k (tag_of p) (scene_graph K k p)) ≡ all_below k (λ j. near (get_or (places (scene_graph K k p) j) (length (numbers K k p j) - 1) 0))
  scene-near =
      let top : top_of file ≡ k = top-said k (tag_of p) G good (renumbered-short K k p hk r two eight) in
      let tag : root_tag file ≡ tag_of p = tag-said k (tag_of p) G good (renumbered-short K k p hk r two eight) in
      file-near file (ap (λ (m : ℕ). eqb m empty_mark) tag ∙ ne_eqb (tag_of p) empty_mark (λ e. omega (arith, tag-lt p))) (λ j h. list-near j (omega (arith, top)))
      ∙ ap (λ (n : ℕ). all_below n (λ j. all_in near (places_at file j))) top
      ∙ all_same k (λ j. all_in near (places_at file j)) (λ j. near (get_or (places G j) (length (numbers K k p j) - 1) 0)) (λ j h.
      ap (all_in near) (are-places j (omega arith)) ∙ last-near (places G j) (places-rising k G good j)
      ∙ ap (λ (n : ℕ). near (get_or (places G j) (n - 1) 0)) (places-many k G good j ∙ renumbered-length r j (omega arith)))
