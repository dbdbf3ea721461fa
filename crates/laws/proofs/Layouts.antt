-- A graph laid out as a file: the file says that graph, its lists and pointers are sound, and where the graph obeys the rules on records the file is
-- proper and means its top cell's room. Each list is found from the end of the file, so inductions go from the leaves up. Assumes nothing.
use mathlib.Core.Path.{◌≡◌, refl, sym, ◌∙◌, subst, ap}
use mathlib.Core.Bool.{◌&&◌}
use mathlib.Core.List.{List, [], ◌∷◌, ◌++◌, append_assoc}
use mathlib.Core.Logic.{inl, inr}
use Prim.Native.Nat.{ℕ, zero, suc, ◌+◌, ◌-◌, ◌*◌, ◌^◌, ◌<◌, ◌≤◌}
use native.Mathlib.Nat.{eq-or-lt_of_le}
use native.Mathlib.Omega.{arith}
use borrow.Author.Tests.{eq-eqb, ne_eqb, lt-ltb, le-leb}
use lib.Dec.{T, eqb, leb, ltb}
use lib.ListN.{length, get_or, drop, length-append}
use lib.Seq.{take_at, drop_at, drop-drop, drop-append-add, ext_get_or}
use Rattle.paper.specs.Numbers.{all_below, bytes, num, count, tabulate}
use Rattle.paper.specs.Rooms.{Point, mirror, least, deepest, depth_ok}
use Rattle.paper.specs.Outline.{edge, file_depth, version_ok, length_ok}
use Rattle.paper.specs.Store.{Cell, heights, cells_at, cell_at}
use Rattle.paper.specs.Meaning.{cell_voxel}
use Rattle.paper.specs.Packed.{packed_version, packed_head, empty_mark, root_tag, top_of, size_at, tail_at, start_at, list_at, places_at, cells_of, graph_of, sizes_ok, top_ok, whole_at, packed_pointers_ok, graph_ok, lists_ok, root_ok, head_ok, packed_rules, proper, packed_room}
use Rattle.paper.specs.Pack.{places, size, list_bytes, size_bytes, body, layout}
use Rattle.laws.proofs.Tests.{T_true, true-T, and_T, all-T}
use Rattle.laws.proofs.Lists.{Once, length-count, get_or-count, length-tabulate, get_or-tabulate}
use Rattle.laws.proofs.Bytes.{bytes-length}
use Rattle.laws.proofs.RecordSizes.{list_length}
use Rattle.laws.proofs.RecordReading.{num-bytes, Row, Some, ListRead, list_read, places-length, places-rise, places-in, places-once}
use Rattle.laws.proofs.RecordCells.{list_back, list-good, LeafRow, LeavesRead, leaves-read, leaves-length}

-- a graph that can be laid out and read back
pub record Layable (k : ℕ) (K : List (List Cell)) : Type 0 where
  pub leaves : (q : ℕ) → q < length (cells_at K 0) → length (cell_at K 0 q) ≡ 2
  pub rows : (j : ℕ) → j < k → (q : ℕ) → q < length (cells_at K (suc j)) → Row (length (cells_at K j)) (cell_at K (suc j) q)
  pub sizes : (j : ℕ) → j ≤ k → size K j ≤ 2 ^ 29

-- its leaves have voxels and its other cells children, as a proper file's records
pub record Solid (k : ℕ) (K : List (List Cell)) : Type 0 where
  pub leaves : (q : ℕ) → q < length (cells_at K 0) → LeafRow (cell_at K 0 q)
  pub some : (j : ℕ) → j < k → (q : ℕ) → q < length (cells_at K (suc j)) → Some (cell_at K (suc j) q)

module _ (k : ℕ) (K : List (List Cell)) (g : Layable k K) where
  pub places-many : (j : ℕ) → length (places K j) ≡ length (cells_at K j)
  unfolding places
  places-many zero = length-count (length (cells_at K 0)) 0
  places-many (suc j) = places-length (places K j) 0 (cells_at K (suc j))

  places-small : (j : ℕ) → j ≤ k → (q : ℕ) → q < length (places K j) → get_or (places K j) q 0 < 2 ^ 29
  unfolding places size
  places-small zero h q m =
      let i : q < length (cells_at K 0) = omega (arith, places-many 0) in
      omega (arith, get_or-count (length (cells_at K 0)) 0 q i, g.sizes 0 h)
  places-small (suc j) h q m =
      omega (arith, places-in (places K j) 0 (cells_at K (suc j)) q (omega (arith, places-many (suc j))), g.sizes (suc j) h)

  -- places rise along a list
  pub places-rising : (j i q : ℕ) → i ≤ q → q < length (places K j) → get_or (places K j) i 0 ≤ get_or (places K j) q 0
  unfolding places
  places-rising zero i q h m =
      let n : ℕ = length (cells_at K 0) in
      let a : i < n = omega (arith, places-many 0) in
      let b : q < n = omega (arith, places-many 0) in
      omega (arith, get_or-count n 0 i a, get_or-count n 0 q b)
  places-rising (suc j) i q h m = places-rise (places K j) 0 (cells_at K (suc j)) i q h (omega (arith, places-many (suc j)))

  places-apart : (j : ℕ) → Once (places K j)
  unfolding places
  places-apart zero a b ha hb e =
      let n : ℕ = length (cells_at K 0) in
      let i : a < n = omega (arith, places-many 0) in
      let l : b < n = omega (arith, places-many 0) in
      omega (arith, e, get_or-count n 0 a i, get_or-count n 0 b l)
  places-apart (suc j) a b ha hb e =
      places-once (places K j) 0 (cells_at K (suc j)) a b (omega (arith, places-many (suc j))) (omega (arith, places-many (suc j))) e

  rows_at : (j : ℕ) → j < k → (q : ℕ) → q < length (cells_at K (suc j)) → Row (length (places K j)) (cell_at K (suc j) q)
  rows_at j h q m = subst (λ (n : ℕ). Row n (cell_at K (suc j) q)) (sym (places-many j)) (g.rows j h q m)

  -- sizes in bytes
  pub list-size : (j : ℕ) → j < k → length (list_bytes K (suc j)) ≡ 2 * size K (suc j)
  unfolding list_bytes size
  list-size j h = list_length (places K j) (cells_at K (suc j))

  pub leaf-size : length (list_bytes K 0) ≡ 8 * size K 0
  unfolding list_bytes size
  leaf-size = leaves-length (cells_at K 0) g.leaves

-- the sizes from list j down follow those above, and so do the lists
size-drop : (K : List (List Cell)) (k j : ℕ) → j ≤ k → (r : List ℕ) → drop (4 * (k - j)) (size_bytes K k ++ r) ≡ size_bytes K j ++ r
unfolding size_bytes
size-drop K zero j h r = let z : j ≡ 0 = omega arith in rw z
size-drop K (suc k) j h r =
    let s : ℕ = size K (suc k) in
    let all : List ℕ = (bytes 4 s ++ size_bytes K k) ++ r in
    elim (eq-or-lt_of_le h) [
      | inl e ↦ let z : 4 * (suc k - j) ≡ 0 = omega arith in rw (z, e)
      | inr l ↦
          let z : 4 * (suc k - j) ≡ 4 + 4 * (k - j) = omega arith in
          rw z
          (sym (drop-drop (4 * (k - j)) 4 all)
          ∙ ap (λ (x : List ℕ). drop (4 * (k - j)) (drop 4 x)) (append_assoc (bytes 4 s) (size_bytes K k) r)
          ∙ ap (drop (4 * (k - j))) (drop_at (bytes 4 s) (size_bytes K k ++ r) 4 (bytes-length 4 s))
          ∙ size-drop K k j (omega arith) r)
    ]

pub sizes-length : (K : List (List Cell)) (k : ℕ) → length (size_bytes K k) ≡ 4 * suc k
unfolding size_bytes
sizes-length K zero = bytes-length 4 (size K 0)
sizes-length K (suc k) = length-append (bytes 4 (size K (suc k))) (size_bytes K k) ∙ omega (arith, bytes-length 4 (size K (suc k)), sizes-length K k)

size-first : (K : List (List Cell)) (j : ℕ) (r : List ℕ) → size K j < 2 ^ 32 → num 4 (size_bytes K j ++ r) ≡ size K j
unfolding size_bytes
size-first K zero r h = num-bytes 4 (size K 0) r h
size-first K (suc j) r h = ap (num 4) (append_assoc (bytes 4 (size K (suc j))) (size_bytes K j) r) ∙ num-bytes 4 (size K (suc j)) (size_bytes K j ++ r) h

body-split : (K : List (List Cell)) (k j : ℕ) → j ≤ k → (pre : List ℕ) × (body K k ≡ pre ++ body K j)
unfolding body
body-split K zero j h = ([], let z : j ≡ 0 = omega arith in rw z)
body-split K (suc k) j h =
    elim (eq-or-lt_of_le h) [
      | inl e ↦ ([], ap (body K) (sym e))
      | inr l ↦
          let r : (pre : List ℕ) × (body K k ≡ pre ++ body K j) = body-split K k j (omega arith) in
          (list_bytes K (suc k) ++ r.0, ap (λ (x : List ℕ). list_bytes K (suc k) ++ x) r.1 ∙ sym (append_assoc (list_bytes K (suc k)) r.0 (body K j)))
    ]

-- what stands at the end of a list
drop-end : (a b : List ℕ) (n : ℕ) → n ≡ length b → drop (length (a ++ b) - n) (a ++ b) ≡ b
drop-end a b n e = drop_at a b (length (a ++ b) - n) (omega (arith, length-append a b))

module _ (k m : ℕ) (K : List (List Cell)) (g : Layable k K) (short : packed_head + length (size_bytes K k ++ body K k) < 2 ^ 32) where
  abbrev pub file : List ℕ
  file = layout k m K

  abbrev pub rest : List ℕ
  rest = size_bytes K k ++ body K k

  file-is : file ≡ (packed_version ∷ bytes 4 (packed_head + length rest) ++ (suc (suc k) ∷ m ∷ [])) ++ rest
  unfolding layout bytes
  file-is = refl

  pub top-said : top_of file ≡ k
  unfolding layout bytes
  top-said = omega arith

  pub depth-said : file_depth file ≡ suc (suc k)
  unfolding layout bytes
  depth-said = refl

  file_length_lem : length file ≡ packed_head + length rest
  unfolding layout bytes
  file_length_lem = omega arith

  size-said : (j : ℕ) → j ≤ k → size_at file j ≡ size K j
  unfolding size_at layout bytes
  size-said j h =
      rw top-said
      (ap (num 4) (drop-append-add (packed_version ∷ bytes 4 (packed_head + length rest) ++ (suc (suc k) ∷ m ∷ [])) rest (4 * (k - j)) ∙ size-drop K k j h (body K k))
      ∙ size-first K j (body K k) (omega (arith, g.sizes j h)))

  tail-said : (j : ℕ) → j ≤ k → tail_at file j ≡ length (body K j)
  unfolding tail_at body
  tail-said zero h = omega (arith, size-said 0 h, leaf-size k K g)
  tail-said (suc j) h = sym (length-append (list_bytes K (suc j)) (body K j) ∙ omega (arith, size-said (suc j) h, list-size k K g j h, tail-said j (omega arith)))

  rest-said : (j : ℕ) → j ≤ k → drop (start_at file j) file ≡ body K j
  rest-said j h =
      let s : (pre : List ℕ) × (body K k ≡ pre ++ body K j) = body-split K k j h in
      let head : List ℕ = packed_version ∷ bytes 4 (packed_head + length rest) ++ (suc (suc k) ∷ m ∷ []) in
      let e : file ≡ (head ++ (size_bytes K k ++ s.0)) ++ body K j =
      file-is ∙ ap (λ (x : List ℕ). head ++ (size_bytes K k ++ x)) s.1 ∙ ap (λ (x : List ℕ). head ++ x) (sym (append_assoc (size_bytes K k) s.0 (body K j)))
      ∙ sym (append_assoc head (size_bytes K k ++ s.0) (body K j)) in
      subst (λ (f : List ℕ). drop (length f - tail_at file j) f ≡ body K j) (sym e) (drop-end (head ++ (size_bytes K k ++ s.0)) (body K j) (tail_at file j) (tail-said j h))

  list-said : (j : ℕ) → j ≤ k → list_at file j ≡ list_bytes K j
  unfolding list_at body
  list-said zero h = rest-said 0 h
  list-said (suc j) h = rw (rest-said (suc j) h, size-said (suc j) h) (take_at (list_bytes K (suc j)) (body K j) (2 * size K (suc j)) (list-size k K g j h))

  read_at : (j : ℕ) → j < k → ListRead (places K j) (list_at file (suc j)) 0 (cells_at K (suc j))
  unfolding list_bytes
  read_at j h = list_read (places K j) (places-small k K g j (omega arith)) (list_at file (suc j)) [] 0 (cells_at K (suc j)) (rows_at k K g j h) refl (list-said (suc j) h)

  pub places-said : (j : ℕ) → j ≤ k → places_at file j ≡ places K j
  unfolding places_at places size
  places-said zero h = ap (count 0) (size-said 0 h)
  places-said (suc j) h = (read_at j h).starts (size_at file (suc j)) (omega (arith, size-said (suc j) h))

  pub inner-said : (j : ℕ) → j < k → cells_of file (suc j) ≡ cells_at K (suc j)
  unfolding cells_of places
  inner-said j h =
      rw (places-said (suc j) h, places-said j (omega arith))
      (list_back (places K j) (places-apart k K g j) (list_at file (suc j)) 0 (cells_at K (suc j)) (rows_at k K g j h) (read_at j h))

  pub pointers-said : (j : ℕ) → j < k → T (packed_pointers_ok file j)
  unfolding packed_pointers_ok places
  pointers-said j h =
      rw (places-said (suc j) h, places-said j (omega arith))
      (list-good (places K j) (places-apart k K g j) (list_at file (suc j)) 0 (cells_at K (suc j)) (rows_at k K g j h) (read_at j h))

  -- the tests on bytes
  pub version_ok_lem : T (version_ok packed_version file)
  unfolding layout
  version_ok_lem = and_T (ltb 0 (length file)) (eqb (get_or file 0 0) packed_version) (true-T (lt-ltb 0 (length file) (omega (arith, file_length_lem)))) tt

  pub length_ok_lem : T (length_ok packed_head file)
  unfolding layout
  length_ok_lem =
      and_T (leb packed_head (length file)) (eqb (num 4 (drop 1 file)) (length file)) (true-T (le-leb packed_head (length file) (omega (arith, file_length_lem))))
      (true-T (eq-eqb (num 4 (drop 1 file)) (length file) (num-bytes 4 (packed_head + length rest) (suc (suc k) ∷ m ∷ rest) short ∙ sym file_length_lem)))

  pub depth_ok_lem : k < heights → T (depth_ok (file_depth file))
  unfolding layout bytes
  depth_ok_lem h = and_T (leb least (file_depth file)) (leb (file_depth file) deepest) (true-T (le-leb least (suc (suc k)) (omega arith))) (true-T (le-leb (suc (suc k)) deepest (omega arith)))

  pub tag-said : root_tag file ≡ m
  unfolding layout bytes
  tag-said = refl

  pub root_ok_lem : m < 8 → T (root_ok file)
  root_ok_lem h = rw (tag-said, le-leb m empty_mark (omega arith), ne_eqb m empty_mark (λ e. omega arith)) tt

  pub sizes_ok_lem : T (sizes_ok file)
  unfolding sizes_ok
  sizes_ok_lem =
      rw (top-said, tail-said k (omega arith))
      (true-T (eq-eqb (packed_head + 4 * suc k + length (body K k)) (length file) (omega (arith, file_length_lem, length-append (size_bytes K k) (body K k), sizes-length K k))))

  top_ok_lem : length (cells_at K k) ≡ 1 → T (top_ok file)
  unfolding top_ok
  top_ok_lem e = rw (top-said, places-said k (omega arith), places-many k K g k, e) tt

  -- ---- no cell empty: the graph is read back whole, and the file is proper

  module _ (w : Solid k K) where
    leaves_at : LeavesRead (list_at file 0) 0 (cells_at K 0)
    unfolding list_bytes
    leaves_at = leaves-read (list_at file 0) [] 0 (cells_at K 0) w.leaves refl (list-said 0 (omega arith))

    cells-said : (j : ℕ) → j ≤ k → cells_of file j ≡ cells_at K j
    unfolding cells_of places
    cells-said zero h = rw (places-said 0 h) leaves_at.cells
    cells-said (suc j) h = inner-said j h

    whole-said : (j : ℕ) → j ≤ k → T (whole_at file j)
    unfolding whole_at places
    whole-said zero h = rw (places-said 0 h) leaves_at.good
    whole-said (suc j) h = rw (places-said (suc j) h) ((read_at j h).good (w.some j h))

    -- the graph is read back
    pub graph-said : length K ≡ suc k → graph_of file ≡ K
    unfolding graph_of
    graph-said n =
        rw top-said
        (ext_get_or [] (tabulate 0 (suc k) (cells_of file)) K (length-tabulate (suc k) 0 (cells_of file) ∙ sym n)
        (λ j h.
        let i : j < suc k = omega (arith, length-tabulate (suc k) 0 (cells_of file)) in
        get_or-tabulate (suc k) 0 j (cells_of file) [] i ∙ ap (cells_of file) (omega arith) ∙ cells-said j (omega arith)))

    pub lists_ok_lem : length (cells_at K k) ≡ 1 → T (lists_ok file)
    unfolding lists_ok
    lists_ok_lem e =
        and_T (top_ok file && all_below (suc (top_of file)) (whole_at file)) (all_below (top_of file) (packed_pointers_ok file))
        (and_T (top_ok file) (all_below (suc (top_of file)) (whole_at file)) (top_ok_lem e) (rw top-said (all-T (suc k) (whole_at file) (λ j h. whole-said j (omega arith)))))
        (rw top-said (all-T k (packed_pointers_ok file) pointers-said))

    rules-ok : length K ≡ suc k → m < 8 → length (cells_at K k) ≡ 1 → T (graph_ok k m K) → T (packed_rules file)
    unfolding packed_rules head_ok
    rules-ok n hm e t =
        rw (T_true {b = root_ok file} (root_ok_lem hm), tag-said, ne_eqb m empty_mark (λ e. omega arith), T_true {b = sizes_ok file} sizes_ok_lem, T_true {b = lists_ok file} (lists_ok_lem e), top-said, graph-said n) t

    -- a graph that obeys the rules on records, laid out, is a proper file
    pub layout-proper : length K ≡ suc k → k < heights → m < 8 → length (cells_at K k) ≡ 1 → T (graph_ok k m K) → T (proper file)
    unfolding proper
    layout-proper n hk hm e t =
        rw (T_true {b = version_ok packed_version file} version_ok_lem, T_true {b = length_ok packed_head file} length_ok_lem, T_true {b = depth_ok (file_depth file)} (depth_ok_lem hk)) (rules-ok n hm e t)

    -- and means the room of its top cell, mirrored
    pub layout-room : length K ≡ suc k → m < 8 → (v : Point) → packed_room file v ≡ cell_voxel K k (cell_at K k 0) (mirror m (edge k) v)
    unfolding packed_room
    layout-room n hm v = rw (tag-said, ne_eqb m empty_mark (λ e. omega arith), top-said, graph-said n, depth-said)
