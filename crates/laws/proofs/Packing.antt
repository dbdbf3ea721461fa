-- Packing a scene: its graph can be laid out, and so the file is proper and means the scene's room. Sizes fit: a record has at most 17 half-words and
-- a list at most 65,536 records. From the laws of the graph and of layouts. Assumes nothing.
use mathlib.Core.Path.{◌≡◌, refl, sym, ◌∙◌, subst, subst₂, ap}
use mathlib.Core.Bool.{Bool, true, false, cond, false≢true}
use mathlib.Core.List.{List, ◌++◌}
use mathlib.Core.Logic.{inl, inr}
use Prim.Native.Nat.{ℕ, zero, suc, ◌+◌, ◌-◌, ◌*◌, ◌^◌, ◌<◌, ◌≤◌}
use native.Mathlib.Nat.{zero-div}
use native.Mathlib.Omega.{arith}
use borrow.Author.Tests.{eq-eqb, ne_eqb}
use lib.Dec.{T, eqb}
use lib.ListN.{length, get_or, length-map, length-append}
use Rattle.paper.specs.Numbers.{be, bytes, index_in}
use Rattle.paper.specs.Rooms.{Point, mirror, child_no, depth_ok}
use Rattle.paper.specs.Leaf.{leaf_voxel}
use Rattle.paper.specs.Outline.{edge, file_depth}
use Rattle.paper.specs.Store.{Cell, most_capacity, heights, cell_no, tag_of, leaf_no, cells_at, cell_at}
use Rattle.paper.specs.Meaning.{pointer_voxel, cell_voxel}
use Rattle.paper.specs.Packed.{packed_head, head_ok, packed_rules, proper, packed_room}
use Rattle.paper.specs.Pack.{places, size, list_bytes, size_bytes, body, layout, empty_file, renumber, scene_graph, packed_file}
use Rattle.paper.specs.Runs.{Bytes}
use Rattle.laws.proofs.Tests.{T_true}
use Rattle.laws.proofs.Lists.{length-tabulate}
use Rattle.laws.proofs.Outlines.{depth-two}
use Rattle.laws.proofs.Undamaged.{depth_low}
use Rattle.laws.proofs.Matching.{tag-lt}
use Rattle.laws.proofs.Invariant.{Names, OkPointer, LowTag, names-ne}
use Rattle.laws.proofs.Adding.{pointer-names}
use Rattle.laws.proofs.RecordSizes.{size-le}
use Rattle.laws.proofs.RecordReading.{NamesWord, OkPackedPointer, Row, Some}
use Rattle.laws.proofs.RecordCells.{LeafRow}
use Rattle.laws.proofs.Layouts.{Layable, Solid, list-size, leaf-size, sizes-length, layout-proper, layout-room}
use Rattle.laws.proofs.LayoutBytes.{layout-bytes, empty-bytes}
use Rattle.laws.proofs.Renumbering.{Renumbered, renumbered-length, renumbered-cell, renumbered-pointer}
use Rattle.laws.proofs.PackedReachable.{InList, none-renumbered, listed-is, listed_small, listed-some, Packable, numbers, N-top, N-chosen, all_listed}
use Rattle.laws.proofs.PackedGraph.{graph-renumbered, graph-length, graph-leaf, graph-pointer, graph-voxels, graph_ok_lem}

-- ---- sizes: a record has at most 17 half-words

abbrev most_halves : ℕ
most_halves = 17 * most_capacity

solid-leaf : (n : ℕ) (v : Point) → leaf_voxel n v ≡ true → 0 < n
solid-leaf zero v e = absurd (false≢true (sym (rw zero-div) ∙ e))
solid-leaf (suc n) v e = omega arith

solid-pointer : (K : List (List Cell)) (j : ℕ) (c : Cell) (v : Point) → cell_voxel K (suc j) c v ≡ true → get_or c (child_no (edge j) v) 0 ≡ 0 → ⊥
unfolding cell_voxel
solid-pointer K j c v e z = false≢true (sym (rw (eq-eqb (get_or c (child_no (edge j) v) 0) 0 z)) ∙ e)

-- a pointer renumbered is none, or names one of the numbers
packed_pointer-in : (ns : List ℕ) → length ns ≤ most_capacity → (r : ℕ) → InList ns r → OkPackedPointer (length ns) (renumber ns r)
packed_pointer-in ns few r (inl e) = inl (none-renumbered ns r e)
packed_pointer-in ns few r (inr w) =
    let n : ℕ = index_in (cell_no r) ns in
    inr (subst (NamesWord (length ns)) (sym (listed-is ns r w))
    (record { names = pointer-names (tag_of r) n (length ns) (listed_small ns few r w) w.at.inside; small = omega (arith, listed_small ns few r w) }))

-- a pointer that is some stays some
some_in : (ns : List ℕ) (r : ℕ) → InList ns r → (r ≡ 0 → ⊥) → renumber ns r ≡ 0 → ⊥
some_in ns r (inl e) n = absurd (n e)
some_in ns r (inr w) n = listed-some ns r w

-- ---- the graph can be laid out: its cells are the store's renumbered, leaves of two words and others of eight

module _ (K : List (List Cell)) (k p : ℕ) (hk : k < heights) (r : Renumbered K (scene_graph K k p) (numbers K k p) k)
    (two : (q : ℕ) → q < length (cells_at K 0) → length (cell_at K 0 q) ≡ 2)
    (eight : (j : ℕ) → j < k → (q : ℕ) → q < length (cells_at K (suc j)) → length (cell_at K (suc j) q) ≡ 8) where
  abbrev G : List (List Cell)
  G = scene_graph K k p

  abbrev N : ℕ → List ℕ
  N = numbers K k p

  two-of : (n : ℕ) → n < length (cells_at G 0) → length (cell_at G 0 n) ≡ 2
  two-of n m =
      let l : n < length (N 0) = omega (arith, renumbered-length r 0 (omega arith)) in
      ap length (renumbered-cell r 0 (omega arith) n l) ∙ two (get_or (N 0) n 0) (r.below 0 (omega arith) n l)

  row_of : (j : ℕ) → j < k → (n : ℕ) → n < length (cells_at G (suc j)) → Row (length (cells_at G j)) (cell_at G (suc j) n)
  row_of j h n m =
      let l : n < length (N (suc j)) = omega (arith, renumbered-length r (suc j) h) in
      let q : ℕ = get_or (N (suc j)) n 0 in
      record {
        eight = ap length (renumbered-cell r (suc j) h n l) ∙ length-map (cell_at K (suc j) q) (renumber (N j)) ∙ eight j h q (r.below (suc j) h n l);
        pointers = λ i.
            subst₂ OkPackedPointer (sym (renumbered-length r j (omega arith))) (sym (renumbered-pointer r j h n l i))
            (packed_pointer-in (N j) (r.few j (omega arith)) (get_or (cell_at K (suc j) q) i 0) (r.closed j h n l i));
      }

  size_small : (j : ℕ) → j ≤ k → size G j ≤ most_halves
  unfolding size
  size_small zero h = omega (arith, renumbered-length r 0 h, r.few 0 h)
  size_small (suc j) h =
      omega (arith, size-le (places G j) (cells_at G (suc j)) (λ q m. (row_of j h q m).eight), renumbered-length r (suc j) h, r.few (suc j) h)

  pub renumbered-good : Layable k G
  renumbered-good = record { leaves = two-of; rows = row_of; sizes = λ j h. omega (arith, size_small j h) }

  body-small : (j : ℕ) → j ≤ k → length (body G j) ≤ 8 * most_halves * suc j
  unfolding body
  body-small zero h = omega (arith, leaf-size k G renumbered-good, size_small 0 h)
  body-small (suc j) h =
      omega (arith, length-append (list_bytes G (suc j)) (body G j), list-size k G renumbered-good j h, size_small (suc j) h, body-small j (omega arith))

  pub renumbered-short : packed_head + length (size_bytes G k ++ body G k) < 2 ^ 32
  renumbered-short = omega (arith, length-append (size_bytes G k) (body G k), sizes-length G k, body-small k (omega arith))

module _ (K : List (List Cell)) (s : Packable K) (k p : ℕ) (hk : k < heights) (hp : Names (length (cells_at K k)) p) where
  abbrev g : List (List Cell)
  g = scene_graph K k p

  abbrev Ns : ℕ → List ℕ
  Ns = numbers K k p

  -- ---- the graph can be laid out, and no cell of it is empty

  two : (q : ℕ) → q < length (cells_at K 0) → length (cell_at K 0 q) ≡ 2
  two q h = ap length ((s.invs 0).shape q h).is

  eight : (j : ℕ) → j < k → (q : ℕ) → q < length (cells_at K (suc j)) → length (cell_at K (suc j) q) ≡ 8
  eight j h q m = ((s.invs (suc j)).shape q m).0

  pub scene-good : Layable k g
  scene-good = renumbered-good K k p hk (graph-renumbered K s k p hp) two eight

  pub scene-short : packed_head + length (size_bytes g k ++ body g k) < 2 ^ 32
  scene-short = renumbered-short K k p hk (graph-renumbered K s k p hp) two eight

  leaf-row : (n : ℕ) → n < length (cells_at g 0) → LeafRow (cell_at g 0 n)
  unfolding cell_voxel
  leaf-row n h = subst LeafRow (sym (graph-leaf K s k p hp n l)) row
    where
      l : n < length (Ns 0)
      l = omega (arith, graph-length K s k p hp 0 (omega arith))

      q : ℕ
      q = get_or (Ns 0) n 0

      hq : q < length (cells_at K 0)
      hq = (N-chosen K s k p hp 0 (omega arith)).below n l

      row : LeafRow (cell_at K 0 q)
      row = record { two = (s.invs 0).shape q hq; solid = solid-leaf (leaf_no (cell_at K 0 q)) ((s.invs 0).solid q hq).0 ((s.invs 0).solid q hq).2 }

  some_of : (j : ℕ) → j < k → (n : ℕ) → n < length (cells_at g (suc j)) → Some (cell_at g (suc j) n)
  some_of j h n m = (
    child_no (edge j) v,
    λ e.
        some_in (Ns j) (get_or (cell_at K (suc j) q) (child_no (edge j) v) 0) (all_listed K s k p hp j h n l (child_no (edge j) v))
        (solid-pointer K j (cell_at K (suc j) q) v ((s.invs (suc j)).solid q hq).2) (sym (graph-pointer K s k p hp j h n l (child_no (edge j) v)) ∙ e),
  )
    where
      l : n < length (Ns (suc j))
      l = omega (arith, graph-length K s k p hp (suc j) h)

      q : ℕ
      q = get_or (Ns (suc j)) n 0

      hq : q < length (cells_at K (suc j))
      hq = (N-chosen K s k p hp (suc j) h).below n l

      v : Point
      v = ((s.invs (suc j)).solid q hq).0

  scene-solid : Solid k g
  scene-solid = record { leaves = leaf-row; some = some_of }

  scene-tall : length g ≡ suc k
  unfolding scene_graph
  scene-tall = length-tabulate (suc k) 0 _

  top_one : length (cells_at g k) ≡ 1
  top_one = graph-length K s k p hp k (omega arith) ∙ ap length (N-top K k p)

  -- ---- the file

  pub scene-proper : LowTag K k p → T (proper (layout k (tag_of p) g))
  scene-proper low = layout-proper k (tag_of p) g scene-good scene-short scene-solid scene-tall hk (tag-lt p) top_one (graph_ok_lem K s k p hp low)

  pub scene-room : (v : Point) → packed_room (layout k (tag_of p) g) v ≡ pointer_voxel (cell_voxel K k) (cells_at K k) (edge k) p v
  scene-room v =
      layout-room k (tag_of p) g scene-good scene-short scene-solid scene-tall (tag-lt p) v
      ∙ graph-voxels K s k p hp k (omega arith) 0 (mirror (tag_of p) (edge k) v) (omega (arith, ap length (N-top K k p)))
      ∙ ap (λ (l : List ℕ). cell_voxel K k (cell_at K k (get_or l 0 0)) (mirror (tag_of p) (edge k) v)) (N-top K k p)
      ∙ sym (rw (ne_eqb p 0 (names-ne hp)))

-- ---- the file of a scene of depth D with root pointer p

module _ (K : List (List Cell)) (s : Packable K) (D p : ℕ) (deep : T (depth_ok D)) where
  pub none-pack : p ≡ 0 → packed_file K D p ≡ empty_file D
  unfolding packed_file
  none-pack e = rw (eq-eqb p 0 e)

  pub some-pack : (p ≡ 0 → ⊥) → packed_file K D p ≡ layout (D - 2) (tag_of p) (scene_graph K (D - 2) p)
  unfolding packed_file
  some-pack n = rw (ne_eqb p 0 n)

  empty-proper : T (proper (empty_file D))
  unfolding empty_file proper packed_rules head_ok bytes be
  empty-proper = rw (T_true {b = depth_ok D} deep) tt

  -- what pack writes is proper
  pub pack-proper : OkPointer (length (cells_at K (D - 2))) p → LowTag K (D - 2) p → T (proper (packed_file K D p))
  pack-proper (inl e) t = rw (none-pack e) empty-proper
  pack-proper (inr w) t = rw (some-pack (names-ne w)) (scene-proper K s (D - 2) p (depth_low D deep) w t)

  -- of the scene's depth
  pub pack-depth : file_depth (packed_file K D p) ≡ D
  unfolding packed_file empty_file bytes layout
  pack-depth = go (eqb p 0)
    where
      go : (b : Bool) → file_depth (cond b (empty_file D) (layout (D - 2) (tag_of p) (scene_graph K (D - 2) p))) ≡ D
      go true = refl
      go false = depth-two D deep

  -- means the scene's room
  pub pack-room : OkPointer (length (cells_at K (D - 2))) p → (v : Point)
      → packed_room (packed_file K D p) v ≡ pointer_voxel (cell_voxel K (D - 2)) (cells_at K (D - 2)) (edge (D - 2)) p v
  unfolding packed_room empty_file bytes
  pack-room (inl e) v = rw (none-pack e, eq-eqb p 0 e)
  pack-room (inr w) v = rw (some-pack (names-ne w)) (scene-room K s (D - 2) p (depth_low D deep) w v)

  -- and is bytes
  pub pack_bytes_lem : OkPointer (length (cells_at K (D - 2))) p → Bytes (packed_file K D p)
  pack_bytes_lem (inl e) = rw (none-pack e) (empty-bytes D (omega (arith, depth_low D deep)))
  pack_bytes_lem (inr w) = rw (some-pack (names-ne w)) (layout-bytes (D - 2) (tag_of p) (scene_graph K (D - 2) p) (depth_low D deep) (tag-lt p))
