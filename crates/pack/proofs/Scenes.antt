-- A list of a scene of an undamaged store by the places in scratch: where these are the places of the list below, its own places, its size and its
-- bytes are those of the packed file. By the laws of renumbering. Assumes nothing.
use mathlib.Core.Path.{◌≡◌, refl, sym, ap, ap₂, subst, ◌∙◌}
use mathlib.Core.Bool.{Bool, false, cond}
use mathlib.Core.List.{List, [], ◌∷◌, ◌++◌, map}
use Prim.Native.Nat.{ℕ, zero, suc, ◌+◌, ◌-◌, ◌^◌, ◌<◌, ◌≤◌}
use native.Mathlib.Nat.{zero-add}
use native.Mathlib.Omega.{arith}
use borrow.Author.Tests.{ne_eqb}
use lib.Dec.{T, leb}
use lib.ListN.{length, get_or, take, length-map}
use lib.Seq.{length-take-le}
use Rattle.paper.specs.Numbers.{all_below, flatten}
use Rattle.paper.specs.Store.{Cell, heights, most_capacity, capacity_of, kept_count, kept_of, cells_at, cell_at, cell_no, tag_of, bad_pointer, store_ok}
use Rattle.paper.specs.Packed.{packed_head, farthest_short, all_short}
use Rattle.paper.specs.Pack.{width, record_bytes, leaf_bytes, places_from, size_of, places, size, list_bytes, size_bytes, body, layout, empty_file, renumber, scene_graph, packed_file}
use Rattle.laws.proofs.Lists.{get_or-count}
use Rattle.laws.proofs.Kept.{kept-length}
use Rattle.laws.proofs.Tests.{none-at}
use Rattle.laws.proofs.StoreFacts.{names-kept, cell-sound}
use Rattle.laws.proofs.Undamaged.{store-header}
use Rattle.laws.proofs.Invariant.{OkPointer, not-bad-ok}
use Rattle.laws.proofs.Renumbering.{Renumbered, renumbered-length}
use Rattle.laws.proofs.PackedReachable.{Chosen, numbers, Pointing, chosen, listed}
use Rattle.laws.proofs.PackedGraph.{graph-leaves, graph-inner, pointing-renumbered}
use Rattle.laws.proofs.Layouts.{Layable, places-many}
use Rattle.laws.proofs.Packing.{renumbered-good, renumbered-short}
use Rattle.laws.proofs.LongPointers.{scene-near}
use Rattle.store.proofs.HeaderFacts.{header}
use Rattle.pack_scratch.specs.Parts.{word_in, places_in}
use Rattle.pack_scratch.specs.Parts as part
use Rattle.pack_scratch.proofs.Words.{words-at}
use Rattle.pack_places.specs.Placing.{span}
use Rattle.pack_bytes.specs.Writing.{record_in}
use Rattle.pack_places.proofs.Placings.{total}
use Rattle.pack_bytes.proofs.KeptWords.{leaf-two, cell-eight}
use Rattle.pack.proofs.Renumbering.{same_list_lem, same_size, same-places}

-- ---- lists

total-same : (w w' : ℕ → ℕ) → ((q : ℕ) → w q ≡ w' q) → (l : List ℕ) → total w l ≡ total w' l
unfolding total
total-same w w' h [] = refl
total-same w w' h (q ∷ l) = ap₂ (λ (x y : ℕ). x + y) (h q) (total-same w w' h l)

total-ones : (w : ℕ → ℕ) → ((q : ℕ) → w q ≡ 1) → (l : List ℕ) → total w l ≡ length l
unfolding total
total-ones w h [] = refl
total-ones w h (q ∷ l) = omega (arith, h q, total-ones w h l)

parts_same : (f g : ℕ → List ℕ) → ((q : ℕ) → f q ≡ g q) → (l : List ℕ) → flatten (map f l) ≡ flatten (map g l)
unfolding flatten
parts_same f g h [] = refl
parts_same f g h (q ∷ l) = ap₂ (λ (x y : List ℕ). x ++ y) (h q) (parts_same f g h l)

parts-map : {A : Type 0} (f : A → List ℕ) (g : ℕ → A) (l : List ℕ) → flatten (map (λ q. f (g q)) l) ≡ flatten (map f (map g l))
unfolding flatten
parts-map f g [] = refl
parts-map f g (q ∷ l) = ap (λ (x : List ℕ). f (g q) ++ x) (parts-map f g l)

module _ (ws : List ℕ) (ok : T (store_ok ws)) (top p : ℕ) (hk : top < heights) (some : p ≡ 0 → ⊥) (fine : bad_pointer (kept_count ws top) p ≡ false) where
  abbrev K : List (List Cell)
  K = kept_of ws

  abbrev C : ℕ
  C = capacity_of ws

  abbrev G : List (List Cell)
  G = scene_graph (kept_of ws) top p

  abbrev N : ℕ → List ℕ
  N = numbers (kept_of ws) top p

  -- ---- the scene's cells

  pub capacity-most : C ≤ most_capacity
  capacity-most = (header ws (store-header ws ok)).most

  kept-few : (j : ℕ) → j < heights → kept_count ws j ≤ C
  kept-few j h = (header ws (store-header ws ok)).counts j h

  pointing : Pointing K top
  pointing j h q l =
      let c : Cell = cell_at K (suc j) q in
      let hq : q < kept_count ws (suc j) = subst (λ (n : ℕ). q < n) (kept-length ws (suc j) (omega arith)) l in (
        cell-eight ws (store-header ws ok) j q (omega arith) hq,
        λ i m.
            subst (λ (n : ℕ). OkPointer n (get_or c i 0)) (sym (kept-length ws j (omega arith)))
            (not-bad-ok (kept_count ws j) (get_or c i 0) (none-at 8 (λ i. bad_pointer (kept_count ws j) (get_or c i 0)) (cell-sound ws ok j q (omega arith) hq) i m)),
      )

  root : cell_no p < length (cells_at K top)
  root = rw (kept-length ws top hk) (names-kept (kept_count ws top) p fine (ne_eqb p 0 some))

  pub choice : (j : ℕ) → j ≤ top → Chosen (length (cells_at K j)) (N j)
  choice j h = chosen K top p root j h

  pub N-kept : (j : ℕ) → j ≤ top → (i : ℕ) → i < length (N j) → get_or (N j) i 0 < kept_count ws j
  N-kept j h i l = omega (arith, (choice j h).below i l, kept-length ws j (omega arith))

  pub N-below : (j : ℕ) → j ≤ top → (i : ℕ) → i < length (N j) → get_or (N j) i 0 < C
  N-below j h i l = omega (arith, N-kept j h i l, kept-few j (omega arith))

  pub N-few : (j : ℕ) → j ≤ top → length (N j) ≤ C
  N-few j h = omega (arith, (choice j h).len, kept-length ws j (omega arith), kept-few j (omega arith))

  -- ---- the scene's graph can be laid out

  renumbered : Renumbered K G N top
  renumbered = pointing-renumbered K top p root (λ j h. omega (arith, kept-length ws j (omega arith), kept-few j (omega arith), capacity-most)) pointing

  two : (q : ℕ) → q < length (cells_at K 0) → length (cell_at K 0 q) ≡ 2
  two q l = leaf-two ws (store-header ws ok) q (omega (arith, kept-length ws 0 (omega arith)))

  eight : (j : ℕ) → j < top → (q : ℕ) → q < length (cells_at K (suc j)) → length (cell_at K (suc j) q) ≡ 8
  eight j h q l = (pointing j h q l).0

  pub good : Layable top G
  good = renumbered-good K top p hk renumbered two eight

  pub short : packed_head + length (size_bytes G top ++ body G top) < 2 ^ 32
  short = renumbered-short K top p hk renumbered two eight

  pub places-listed : (j : ℕ) → j ≤ top → length (places G j) ≡ length (N j)
  places-listed j h = places-many top G good j ∙ renumbered-length renumbered j h

  -- its file, and whether a pointer of it is long
  pub file-layout : layout top (tag_of p) G ≡ packed_file K (top + 2) p
  unfolding packed_file
  file-layout =
      let under : top ≡ top + 2 - 2 = omega arith in
      ap (λ (j : ℕ). layout j (tag_of p) (scene_graph K j p)) under
      ∙ ap (λ (b : Bool). cond b (empty_file (top + 2)) (layout (top + 2 - 2) (tag_of p) (scene_graph K (top + 2 - 2) p))) (sym (ne_eqb p 0 some))

  pub short-file : all_short (packed_file K (top + 2) p) ≡ all_below top (λ j. leb (get_or (places G j) (length (N j) - 1) 0) farthest_short)
  short-file = ap all_short (sym file-layout) ∙ scene-near K top p hk renumbered two eight

  -- ---- list k by the places of the lists below

  -- scratch has the places of list j
  abbrev pub Told : ℕ → List ℕ → Type 0
  Told j s = (i : ℕ) → i < length (N j) → word_in C (part.places j) s (get_or (N j) i 0) ≡ get_or (places G j) i 0

  pub record ListIs (k : ℕ) (s : List ℕ) : Type 0 where
    pub place : (i : ℕ) → i < length (N k) → total (span K C k s) (take i (N k)) ≡ get_or (places G k) i 0
    pub size_is : total (span K C k s) (N k) ≡ size G k
    pub bytes-are : flatten (map (record_in K C k s) (N k)) ≡ list_bytes G k

  leaves-are : (s : List ℕ) → ListIs 0 s
  unfolding span record_in places size list_bytes
  leaves-are s =
      let ones : (l : List ℕ) → total (span K C 0 s) l ≡ length l = total-ones (span K C 0 s) (λ q. refl) in
      let many : length (cells_at G 0) ≡ length (N 0) = ap length (graph-leaves K top p) ∙ length-map (N 0) (cell_at K 0) in
      record {
        place = λ i h. ones (take i (N 0)) ∙ length-take-le i (N 0) (omega arith) ∙ sym (get_or-count (length (cells_at G 0)) 0 i (omega (arith, many)) ∙ zero-add i);
        size_is = ones (N 0) ∙ sym many;
        bytes-are = parts_same (record_in K C 0 s) (λ q. leaf_bytes (cell_at K 0 q)) (λ q. refl) (N 0) ∙ parts-map leaf_bytes (cell_at K 0) (N 0) ∙ ap (λ (cs : List Cell). flatten (map leaf_bytes cs)) (sym (graph-leaves K top p));
      }

  inner-are : (j : ℕ) → j < top → (s : List ℕ) → ((i : ℕ) → i < length (N j) → get_or (places_in C j s) (get_or (N j) i 0) 0 ≡ get_or (places G j) i 0) → ListIs (suc j) s
  unfolding span record_in places size list_bytes
  inner-are j h s told =
      let ps : List ℕ = places G j in
      let table : List ℕ = places_in C j s in
      let few : length (N j) ≤ most_capacity = omega (arith, N-few j (omega arith), capacity-most) in
      let g : ℕ → Cell = cell_at K (suc j) in
      let w : ℕ → ℕ = λ q. width table (cell_at K (suc j) q) in
      let same : (l : List ℕ) → total (span K C (suc j) s) l ≡ total w l = total-same (span K C (suc j) s) w (λ q. refl) in
      let points = listed K top p root pointing j h in
      let cells : map (λ q. map (renumber (N j)) (cell_at K (suc j) q)) (N (suc j)) ≡ cells_at G (suc j) = sym (graph-inner K top p j h) in
      record {
        place = λ i l.
            same (take i (N (suc j))) ∙ sym (zero-add (total w (take i (N (suc j))))) ∙ same-places (N j) few ps table told g 0 (N (suc j)) points i l
            ∙ ap (λ (cs : List Cell). get_or (places_from ps 0 cs) i 0) cells;
        size_is = same (N (suc j)) ∙ same_size (N j) few ps table told g (N (suc j)) points ∙ ap (size_of ps) cells;
        bytes-are =
            parts_same (record_in K C (suc j) s) (λ q. record_bytes table (cell_at K (suc j) q)) (λ q. refl) (N (suc j))
            ∙ same_list_lem (N j) few ps table told g (N (suc j)) points ∙ ap (λ (cs : List Cell). flatten (map (record_bytes ps) cs)) cells;
      }

  pub list-is : (k : ℕ) → k ≤ top → (s : List ℕ) → ((j : ℕ) → j < k → Told j s) → ListIs k s
  list-is zero h s told = leaves-are s
  list-is (suc j) h s told =
      inner-are j h s (λ i l. words-at C (part.places j) C s (get_or (N j) i 0) (N-below j (omega arith) i l) ∙ told j (omega arith) i l)
