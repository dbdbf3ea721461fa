-- The records of a proper file by their voxels: each is as a kept cell of a store is, none empty, no two of one height images, tags lowest. Pointers
-- name records, headers and leaves are not zero, and matching agrees with voxels where the lists below are so. By induction on the height. Assumes
-- nothing.
use mathlib.Core.Path.{◌≡◌, refl, sym, ◌∙◌, subst, ap}
use mathlib.Core.Bool.{Bool, true, false, cond, not, ◌&&◌}
use mathlib.Core.List.{List, [], map}
use mathlib.Core.Logic.{inl, inr}
use Prim.Native.Nat.{ℕ, zero, suc, ◌*◌, ◌+◌, ◌/◌, ◌%◌, ◌^◌, ◌<◌, ◌≤◌}
use native.Mathlib.Nat.{le_of_suc-le-suc, not-suc-le-zero, eq-or-lt_of_le, pow-succ'}
use native.Mathlib.Decide.{dec_lt, ℕ_discrete}
use native.Mathlib.Omega.{arith}
use borrow.Author.Tests.{eq-eqb, ne_eqb, eqb-false}
use lib.Bits.{bit_xor}
use lib.Dec.{T, eqb, leb, leb→le, eqb→eq, ltb→lt}
use lib.ListN.{length, get_or, drop, length-map, get_or-map, get_or-eq_default}
use Rattle.paper.specs.Numbers.{all_below, num, all_in, is_in, index_in}
use Rattle.paper.specs.Rooms.{Room, mirror, mirrored, Same, NonEmpty}
use Rattle.paper.specs.Outline.{edge, length_ok, file_depth}
use Rattle.paper.specs.Store.{Cell, leaf_no, tag_of, cell_no, cells_at, cell_at}
use Rattle.paper.specs.Meaning.{pointer_voxel, cell_voxel}
use Rattle.paper.specs.Match.{matches}
use Rattle.paper.specs.Packed.{packed_head, top_of, list_at, header_at, PackedPointer, no_pointer, read_pointers, pointers_at, leaf_at, record_ok, leaf_ok, code_for, places_at, by_number, cells_of, graph_of, whole_at, packed_pointer_ok, packed_pointers_ok, named_ok, apart_ok, tag_low, pointer_low, tags_ok, falling_ok, root_tag, is_empty, sizes_ok, lists_ok, top_ok, graph_ok, empty_mark, head_ok, proper, packed_room}
use Rattle.paper.specs.Runs.{Bytes}
use Rattle.paper.specs.Claims.{record_room, pointer_at, RecordsDiffer}
use Rattle.laws.proofs.Tests.{true-T, and_left, and_right, and5, all-at, all-at2}
use Rattle.laws.proofs.Lists.{all_in-at, all_in-in, At, is_in-at, map_at, length-tabulate}
use Rattle.laws.proofs.Bytes.{bytes_drop}
use Rattle.laws.proofs.Eight.{xor8-lt}
use Rattle.laws.proofs.Mirrors.{from_child, from_child-inside, mirrored-sym, mirrored-between}
use Rattle.laws.proofs.Leaves.{leaf_solid_lem}
use Rattle.laws.proofs.Outlines.{depth-two}
use Rattle.laws.proofs.Matching.{tag-lt}
use Rattle.laws.proofs.Invariant.{Names, OkPointer, names-lt, names-ne, OkCell, Alike, LowTag, TwoWords, Inv, pointer-solid, cell-child, match-complete}
use Rattle.laws.proofs.Adding.{pointer-names}
use Rattle.laws.proofs.PackedLists.{num2-lt, num4-lt, Fits, pointers-fit, list_bytes_lem, start_small, packed_pointer-some, graph-cells, records-length}
use Rattle.laws.proofs.PackedWalk.{SoundLists, lists_of, few-leaves}
use Rattle.laws.proofs.ProperClaim.{Proper, proper-passes, head-sizes}

never_both : (b : Bool) → T b → T (not b) → ⊥
never_both true t n = n
never_both false t n = t

-- ---- what the rules on a graph say of its cells

module _ (K : List (List Cell)) (k : ℕ) where
  apart-said : T (apart_ok K k) → (q r t : ℕ) → r < q → q < length (cells_at K k) → t < 8 → T (not (matches K k (cell_at K k q) (cell_at K k r) t))
  unfolding apart_ok
  apart-said s q r t l m ht =
      let one : ℕ → ℕ → ℕ → Bool = λ q r t. not (matches K k (cell_at K k q) (cell_at K k r) t) in
      all-at 8 (one q r) (all-at q (λ r. all_below 8 (one q r)) (all-at (length (cells_at K k)) (λ q. all_below q (λ r. all_below 8 (one q r))) s q m) r l) t ht

  low-said : (t q : ℕ) → T (tag_low K k t q) → (u : ℕ) → u < t → T (not (matches K k (cell_at K k q) (cell_at K k q) (bit_xor u t)))
  low-said t q s u h = all-at t (λ u. not (matches K k (cell_at K k q) (cell_at K k q) (bit_xor u t))) s u h

  tags-said : T (tags_ok K k) → (n i : ℕ) → n < length (cells_at K (suc k)) → i < 8 → (get_or (cell_at K (suc k) n) i 0 ≡ 0 → ⊥)
      → T (tag_low K k (tag_of (get_or (cell_at K (suc k) n) i 0)) (cell_no (get_or (cell_at K (suc k) n) i 0)))
  unfolding tags_ok pointer_low
  tags-said s n i hn hi ne =
      let p : ℕ = get_or (cell_at K (suc k) n) i 0 in
      let t : T (pointer_low K k p) = all-at2 (length (cells_at K (suc k))) 8 (λ n i. pointer_low K k (get_or (cell_at K (suc k) n) i 0)) s n i hn hi in
      subst (λ (b : Bool). T (cond b true (tag_low K k (tag_of p) (cell_no p)))) (ne_eqb p 0 ne) t

-- ---- a record's eight pointers

packed_pointers-length : (n h : ℕ) (l : List ℕ) → length (read_pointers n h l) ≡ n
unfolding read_pointers
packed_pointers-length zero h l = refl
packed_pointers-length (suc n) h l = ap suc (packed_pointers-length n (h / 4) (drop (2 * (h % 4)) l))

-- a header that is not zero has a pointer
some-packed_pointer : (n h : ℕ) (l : List ℕ) → h < 4 ^ n → 0 < h → (i : ℕ) × (i < n) × ((get_or (read_pointers n h l) i no_pointer).code ≡ 0 → ⊥)
unfolding read_pointers
some-packed_pointer zero h l m p = absurd (omega arith)
some-packed_pointer (suc n) h l m p = go (ℕ_discrete (h % 4) 0) (some-packed_pointer n (h / 4) (drop (2 * (h % 4)) l))
  where
    rest : List PackedPointer
    rest = read_pointers n (h / 4) (drop (2 * (h % 4)) l)

    go : Dec (h % 4 ≡ 0) → (h / 4 < 4 ^ n → 0 < h / 4 → (i : ℕ) × (i < n) × ((get_or rest i no_pointer).code ≡ 0 → ⊥))
        → (i : ℕ) × (i < suc n) × ((get_or (read_pointers (suc n) h l) i no_pointer).code ≡ 0 → ⊥)
    go (no ne) ih = (0, omega arith, ne)
    go (yes e) ih = let s = ih (omega (arith, pow-succ' 4 n)) (omega arith) in (suc s.0, omega (arith, s.1), s.2)

-- ---- the lists from the leaves up

module _ (bs : List ℕ) (by : Bytes bs) (long : T (length_ok packed_head bs)) (lists : SoundLists bs)
    (unlike : (k : ℕ) → k ≤ top_of bs → T (apart_ok (graph_of bs) k)) (lowest : (k : ℕ) → k < top_of bs → T (tags_ok (graph_of bs) k)) where
  abbrev G : List (List Cell)
  G = graph_of bs

  -- no record above the top
  none_above : (k q : ℕ) → top_of bs < k → q < length (cells_at G k) → ⊥
  unfolding graph_of
  none_above k q h l =
      let e : cells_at G k ≡ [] = get_or-eq_default G [] {n = k} (omega (arith, length-tabulate (suc (top_of bs)) 0 (cells_of bs))) in
      not-suc-le-zero (subst (λ (cs : List Cell). q < length cs) e l)

  -- ---- no two of list k are images, if the lists below are as they should be

  apart-at : (k : ℕ) → k ≤ top_of bs → ((j : ℕ) → j < k → Inv G j) → ((q : ℕ) → q < length (cells_at G k) → OkCell G k (cell_at G k q))
      → (q r t : ℕ) → q < length (cells_at G k) → r < length (cells_at G k) → t < 8 → Alike G k (cell_at G k q) (cell_at G k r) t → q ≡ r
  apart-at k h inv ok q r t hq hr ht e = go (dec_lt r q) (dec_lt q r)
    where
      -- the later one first
      never : (q r : ℕ) → r < q → q < length (cells_at G k) → Alike G k (cell_at G k q) (cell_at G k r) t → ⊥
      never q r l m a =
          never_both (matches G k (cell_at G k q) (cell_at G k r) t)
          (match-complete G k inv (cell_at G k q) (cell_at G k r) t ht (ok q m) (ok r (omega arith)) a) (apart-said G k (unlike k h) q r t l m ht)

      go : Dec (r < q) → Dec (q < r) → q ≡ r
      go (yes l) d = absurd (never q r l hq e)
      go (no n) (yes l) = absurd (never r q l hr (mirrored-sym t (edge k) (cell_voxel G k (cell_at G k q)) (cell_voxel G k (cell_at G k r)) e))
      go (no n) (no m) = omega arith

  -- ---- leaves

  leaf-is : (q : ℕ) → q < length (cells_at G 0) → cell_at G 0 q ≡ leaf_at (list_at bs 0) (get_or (places_at bs 0) q 0)
  unfolding cells_of
  leaf-is q h =
      ap (λ (cs : List Cell). get_or cs q []) (graph-cells bs 0 (omega arith))
      ∙ map_at (leaf_at (list_at bs 0)) (places_at bs 0) q 0 [] (omega (arith, records-length bs 0 (omega arith)))

  leaf-two : (p : ℕ) → TwoWords (leaf_at (list_at bs 0) p)
  unfolding leaf_at
  leaf-two p = record {
    high = num 4 (drop (8 * p) (list_at bs 0));
    low = num 4 (drop (8 * p + 4) (list_at bs 0));
    is = refl;
    high_word = num4-lt (drop (8 * p) (list_at bs 0)) (bytes_drop (8 * p) (list_at bs 0) (list_bytes_lem bs by 0));
    low_word = num4-lt (drop (8 * p + 4) (list_at bs 0)) (bytes_drop (8 * p + 4) (list_at bs 0) (list_bytes_lem bs by 0));
  }

  two-small : (c : Cell) → TwoWords c → leaf_no c < 2 ^ 64
  two-small c w = rw w.is (omega (arith, w.high_word, w.low_word))

  leaf-shape : (q : ℕ) → q < length (cells_at G 0) → TwoWords (cell_at G 0 q)
  leaf-shape q h = subst TwoWords (sym (leaf-is q h)) (leaf-two (get_or (places_at bs 0) q 0))

  leaf-some : (q : ℕ) → q < length (cells_at G 0) → 0 < leaf_no (cell_at G 0 q)
  unfolding whole_at leaf_ok
  leaf-some q h =
      subst (λ (c : Cell). 0 < leaf_no c) (sym (leaf-is q h))
      (ltb→lt 0 (leaf_no (leaf_at (list_at bs 0) (get_or (places_at bs 0) q 0)))
      (all_in-in (leaf_ok (list_at bs 0)) 0 (places_at bs 0) (lists.whole 0 (omega arith)) q (omega (arith, records-length bs 0 (omega arith)))))

  leaves-inv : Inv G 0
  unfolding cell_voxel
  leaves-inv =
      let ok : (q : ℕ) → q < length (cells_at G 0) → leaf_no (cell_at G 0 q) < 2 ^ 64 = λ q h. two-small (cell_at G 0 q) (leaf-shape q h) in
      record {
        ok = ok;
        shape = leaf-shape;
        solid = λ q h. leaf_solid_lem (leaf_no (cell_at G 0 q)) (ok q h) (leaf-some q h);
        apart = apart-at 0 (omega arith) (λ j l. absurd (not-suc-le-zero l)) ok;
      }

  -- ---- records above the leaves

  module _ (k : ℕ) (h : k < top_of bs) (inv : (j : ℕ) → j < suc k → Inv G j) where
    abbrev ps : List ℕ
    ps = places_at bs k

    abbrev l : List ℕ
    l = list_at bs (suc k)

    abbrev place_at : ℕ → ℕ
    place_at q = get_or (places_at bs (suc k)) q 0

    abbrev packed_pointer_at : ℕ → ℕ → PackedPointer
    packed_pointer_at q i = get_or (pointers_at l (place_at q)) i no_pointer

    Ik : Inv G k
    Ik = inv k (omega arith)

    module _ (q : ℕ) (m : q < length (cells_at G (suc k))) where
      abbrev c : Cell
      c = cell_at G (suc k) q

      there : q < length (places_at bs (suc k))
      there = omega (arith, records-length bs (suc k) h)

      record_is : c ≡ map (by_number ps) (pointers_at l (place_at q))
      unfolding cells_of
      record_is =
          ap (λ (cs : List Cell). get_or cs q []) (graph-cells bs (suc k) h)
          ∙ map_at (λ p. map (by_number ps) (pointers_at l p)) (places_at bs (suc k)) q 0 [] there

      pointer_is : (i : ℕ) → get_or c i 0 ≡ by_number ps (packed_pointer_at q i)
      pointer_is i = ap (λ (c : Cell). get_or c i 0) record_is ∙ get_or-map (by_number ps) (pointers_at l (place_at q)) i no_pointer

      packed_pointer-good : (i : ℕ) → T (packed_pointer_ok ps (packed_pointer_at q i))
      unfolding packed_pointers_ok packed_pointer_ok
      packed_pointer-good i =
          all_in-at (packed_pointer_ok ps) no_pointer tt (pointers_at l (place_at q))
          (all_in-in (λ p. all_in (packed_pointer_ok ps) (pointers_at l p)) 0 (places_at bs (suc k)) (lists.pointed k h) q there) i

      packed_pointer-fits : (i : ℕ) → Fits (packed_pointer_at q i)
      unfolding pointers_at
      packed_pointer-fits i = pointers-fit 8 (header_at l (place_at q)) (drop (2 * place_at q + 2) l) (bytes_drop (2 * place_at q + 2) l (list_bytes_lem bs by (suc k))) i

      -- a pointer names a record of the next list
      packed_pointer-names : (r : PackedPointer) → Fits r → T (packed_pointer_ok ps r) → (r.code ≡ 0 → ⊥) → Names (length (cells_at G k)) (by_number ps r)
      unfolding packed_pointer_ok
      packed_pointer-names r f t ne =
          let s : T (is_in r.place ps && eqb r.code (code_for r.place)) =
          subst (λ (b : Bool). T (cond b true (is_in r.place ps && eqb r.code (code_for r.place)))) (ne_eqb r.code 0 ne) t in
          let i : T (is_in r.place ps) = search and_left in
          let fit : (r.tag < 8) × (r.place < 2 ^ 29) = f (eqb→eq r.code (code_for r.place) (search and_right)) in
          let a : At r.place ps = is_in-at r.place ps i in
          rw (packed_pointer-some ps r ne, records-length bs k (omega arith))
          (pointer-names r.tag (index_in r.place ps) (length ps)
          (start_small bs by lists.whole (few-leaves bs by long lists) k r.place (omega arith) i fit.1) a.inside)

      pointer_ok : (i : ℕ) → OkPointer (length (cells_at G k)) (get_or c i 0)
      pointer_ok i = subst (OkPointer (length (cells_at G k))) (sym (pointer_is i)) (go (ℕ_discrete (packed_pointer_at q i).code 0))
        where
          go : Dec ((packed_pointer_at q i).code ≡ 0) → OkPointer (length (cells_at G k)) (by_number ps (packed_pointer_at q i))
          go (yes e) = inl (rw (eq-eqb (packed_pointer_at q i).code 0 e))
          go (no n) = inr (packed_pointer-names (packed_pointer_at q i) (packed_pointer-fits i) (packed_pointer-good i) n)

      record-eight : length c ≡ 8
      unfolding pointers_at
      record-eight = ap length record_is ∙ length-map (pointers_at l (place_at q)) (by_number ps) ∙ packed_pointers-length 8 (header_at l (place_at q)) (drop (2 * place_at q + 2) l)

      -- no lower tag
      pointer_low_lem : (i : ℕ) → i < 8 → LowTag G k (get_or c i 0)
      pointer_low_lem i hi u hu a = go (pointer_ok i)
        where
          p : ℕ
          p = get_or c i 0

          go : OkPointer (length (cells_at G k)) p → ⊥
          go (inl e) = omega arith
          go (inr w) =
              let x : bit_xor u (tag_of p) < 8 = xor8-lt u (tag_of p) (omega (arith, tag-lt p)) (tag-lt p) in
              let o : OkCell G k (cell_at G k (cell_no p)) = Ik.ok (cell_no p) (names-lt w) in
              never_both (matches G k (cell_at G k (cell_no p)) (cell_at G k (cell_no p)) (bit_xor u (tag_of p)))
              (match-complete G k (λ j b. inv j (omega arith)) (cell_at G k (cell_no p)) (cell_at G k (cell_no p)) (bit_xor u (tag_of p)) x o o a)
              (low-said G k (tag_of p) (cell_no p) (tags-said G k (lowest k h) q i m hi (names-ne w)) u hu)

      -- a solid voxel
      header-some : (i : ℕ) × (i < 8) × ((packed_pointer_at q i).code ≡ 0 → ⊥)
      unfolding whole_at record_ok pointers_at
      header-some =
          let o : T (record_ok l (place_at q)) = all_in-in (record_ok l) 0 (places_at bs (suc k)) (lists.whole (suc k) h) q there in
          some-packed_pointer 8 (header_at l (place_at q)) (drop (2 * place_at q + 2) l)
          (omega (arith, num2-lt (drop (2 * place_at q) l) (bytes_drop (2 * place_at q) l (list_bytes_lem bs by (suc k)))))
          (ltb→lt 0 (header_at l (place_at q)) (search (and_left, and_right)))

      record-solid : NonEmpty (edge (suc k)) (cell_voxel G (suc k) c)
      record-solid =
          let i : ℕ = header-some.0 in
          let n : Names (length (cells_at G k)) (get_or c i 0) =
          subst (Names (length (cells_at G k))) (sym (pointer_is i)) (packed_pointer-names (packed_pointer_at q i) (packed_pointer-fits i) (packed_pointer-good i) header-some.2) in
          let s : NonEmpty (edge k) (pointer_voxel (cell_voxel G k) (cells_at G k) (edge k) (get_or c i 0)) =
          pointer-solid (cell_voxel G k) (cells_at G k) (edge k) Ik.solid (get_or c i 0) n in (
            from_child (edge k) i s.0,
            rw (pow-succ' 2 (suc (suc k))) (from_child-inside (edge k) i s.0 s.1),
            cell-child G k c i header-some.1 s.0 s.1 ∙ s.2,
          )

    records-inv : Inv G (suc k)
    records-inv = record {
      ok = λ q m i hi. pointer_ok q m i;
      shape = λ q m. (record-eight q m, pointer_low_lem q m);
      solid = record-solid;
      apart = apart-at (suc k) h inv (λ q m i hi. pointer_ok q m i);
    }

  -- ---- every list

  above-inv : (k : ℕ) → top_of bs < k → Inv G k
  above-inv k h = record {
    ok = λ q m. absurd (none_above k q h m);
    shape = λ q m. absurd (none_above k q h m);
    solid = λ q m. absurd (none_above k q h m);
    apart = λ q r t m. absurd (none_above k q h m);
  }

  inv_at : (k : ℕ) → ((j : ℕ) → j < k → Inv G j) → Inv G k
  inv_at zero inv = leaves-inv
  inv_at (suc k) inv = go (dec_lt k (top_of bs))
    where
      go : Dec (k < top_of bs) → Inv G (suc k)
      go (yes h) = records-inv k h inv
      go (no n) = above-inv (suc k) (omega arith)

  inv-below : (k j : ℕ) → j < k → Inv G j
  inv-below zero j h = absurd (not-suc-le-zero h)
  inv-below (suc k) j h =
      elim (eq-or-lt_of_le (le_of_suc-le-suc h)) [
        | inl e ↦ rw e (inv_at k (inv-below k))
        | inr m ↦ inv-below k j m
      ]

  pub lists-inv : (k : ℕ) → Inv G k
  lists-inv k = inv_at k (inv-below k)

-- ---- of a proper file that isn't empty

-- what its graph passes
pub record Graph (k m : ℕ) (K : List (List Cell)) : Type 0 where
  pub named : (j : ℕ) → j < k → T (named_ok K j)
  pub apart : (j : ℕ) → j ≤ k → T (apart_ok K j)
  pub tags : (j : ℕ) → j < k → T (tags_ok K j)
  pub root : T (tag_low K k m 0)

graph_of_lem : (k m : ℕ) (K : List (List Cell)) → T (graph_ok k m K) → Graph k m K
unfolding graph_ok
graph_of_lem k m K t =
    let s = and5 (all_below k (named_ok K)) (all_below (suc k) (apart_ok K)) (all_below k (tags_ok K)) (tag_low K k m 0) (all_below k (falling_ok K)) t in
    record {
      named = λ j h. all-at k (named_ok K) s.0 j h;
      apart = λ j h. all-at (suc k) (apart_ok K) s.1 j (omega arith);
      tags = λ j h. all-at k (tags_ok K) s.2 j h;
      root = s.3;
    }

module _ (file : List ℕ) (by : Bytes file) (e : proper file ≡ true) (some : is_empty file ≡ false) where
  passes : Proper file
  passes = proper-passes file (true-T e)

  rules : T (lists_ok file && graph_ok (top_of file) (root_tag file) (graph_of file))
  rules = subst (λ (b : Bool). T (cond b true (lists_ok file && graph_ok (top_of file) (root_tag file) (graph_of file)))) some passes.rules

  pub proper-lists : SoundLists file
  proper-lists =
      lists_of file (subst (λ (b : Bool). T (cond b true (sizes_ok file))) some (head-sizes file passes.head))
      (and_left (lists_ok file) (graph_ok (top_of file) (root_tag file) (graph_of file)) rules)

  pub proper-graph : Graph (top_of file) (root_tag file) (graph_of file)
  proper-graph = graph_of_lem (top_of file) (root_tag file) (graph_of file) (and_right (lists_ok file) (graph_ok (top_of file) (root_tag file) (graph_of file)) rules)

  -- every list is as a store's should be
  pub proper-inv : (k : ℕ) → Inv (graph_of file) k
  proper-inv = lists-inv file by passes.long proper-lists proper-graph.apart proper-graph.tags

  -- ---- by voxels

  abbrev g : List (List Cell)
  g = graph_of file

  pub top-there : 0 < length (cells_at g (top_of file))
  unfolding top_ok
  top-there =
      omega (arith, records-length file (top_of file) (omega arith), eqb→eq (length (places_at file (top_of file))) 1 proper-lists.top)

  pub root_tag_lem : root_tag file < 8
  unfolding head_ok
  root_tag_lem =
      let r : T (leb (root_tag file) empty_mark) = search (and_left, passes.head) in
      omega (arith, leb→le (root_tag file) empty_mark r, eqb-false (root_tag file) empty_mark some)

  root-low : (u : ℕ) → u < root_tag file → Same (2 ^ file_depth file) (packed_room file) (mirrored u (2 ^ file_depth file) (record_room file (top_of file) 0)) → ⊥
  unfolding packed_room
  root-low u hu a =
      let k : ℕ = top_of file in
      let t : ℕ = root_tag file in
      let c : Cell = cell_at g k 0 in
      let r : Room = record_room file k 0 in
      let S : ℕ = 2 ^ file_depth file in
      let hu8 : u < 8 = omega (arith, root_tag_lem) in
      let e : Same S (mirrored t S r) (mirrored u S r) = λ v l. sym (ap (λ (b : Bool). cond b false (r (mirror t S v))) some) ∙ a v l in
      let f : Alike g k c c (bit_xor u t) = mirrored-between t u (edge k) r r root_tag_lem hu8 (subst (λ (d : ℕ). Same (2 ^ d) (mirrored t (2 ^ d) r) (mirrored u (2 ^ d) r)) (sym (depth-two (file_depth file) passes.deep)) e) in
      let o : OkCell g k c = (proper-inv k).ok 0 top-there in
      never_both (matches g k c c (bit_xor u t)) (match-complete g k (λ j b. proper-inv j) c c (bit_xor u t) (xor8-lt u t hu8 root_tag_lem) o o f) (low-said g k t 0 proper-graph.root u hu)

  pub records-differ : RecordsDiffer file
  records-differ = record {
    non_empty_lem = λ k q h. (proper-inv k).solid q h;
    apart = λ k q r l m i. omega (arith, (proper-inv k).apart q r i.0 m (omega arith) i.1 i.2);
    tags = λ k n i u hn hi ne hu e.
        let p : ℕ = pointer_at file k n i in
        ((proper-inv (suc k)).shape n hn).1 i hi u hu (mirrored-between (tag_of p) u (edge k) (record_room file k (cell_no p)) (record_room file k (cell_no p)) (tag-lt p) (omega (arith, tag-lt p)) e);
    root = root-low;
  }
