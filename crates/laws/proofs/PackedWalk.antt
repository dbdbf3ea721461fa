-- The walk of a packed voxel question where records and pointers are sound is the walk over the graph: it goes by places, the graph by numbers, and
-- both read the same record. Since the two readings agree. Assumes nothing.
use mathlib.Core.Path.{◌≡◌, refl, sym, subst, ap, ◌∙◌}
use mathlib.Core.Bool.{Bool, true, false, cond, ◌&&◌}
use mathlib.Core.List.{List, [], ◌∷◌}
use Prim.Native.Nat.{ℕ, zero, suc, ◌+◌, ◌*◌, ◌^◌, ◌<◌, ◌≤◌}
use native.Mathlib.Nat.{not-suc-le-zero}
use native.Mathlib.Omega.{arith}
use borrow.Author.Tests.{ne_eqb, eqb-true, eqb-false, lt-ltb}
use lib.Dec.{T, eqb, ltb, eqb→eq, leb→le}
use lib.ListN.{length, get_or, drop, get_or-map}
use Rattle.paper.specs.Numbers.{num, count, all_in, is_in, index_in}
use Rattle.paper.specs.Rooms.{Point, Inside, depth_ok, OneCell}
use Rattle.paper.specs.Outline.{file_depth, length_ok}
use Rattle.paper.specs.Store.{Cell, leaf_no, pointer, cell_at}
use Rattle.paper.specs.Walk.{absent, unless, none, wrong, to, walk_in, root_walk}
use Rattle.paper.specs.Questions.{child_for, graph_reading}
use Rattle.paper.specs.Packed.{packed_head, empty_mark, root_tag, is_empty, top_of, size_at, tail_at, list_at, header_at, halves, PackedPointer, no_pointer, pointers_at, leaf_at, record_ok, leaf_ok, code_for, starts_from, places_at, by_number, graph_of, sizes_ok, top_ok, whole_at, packed_pointer_ok, packed_pointers_ok, lists_ok, head_ok, root_of, packed_child, entry_ok, file_reading, file_walk}
use Rattle.paper.specs.Runs.{Bytes}
use Rattle.laws.proofs.Tests.{T_true, true-T, and_left, and_right, all-at}
use Rattle.laws.proofs.Lists.{all_in-at, all_in-is_in}
use Rattle.laws.proofs.Bytes.{bytes_drop}
use Rattle.laws.proofs.Adding.{pointer-cell, pointer-tag}
use Rattle.laws.proofs.Walking.{Mirrors, Seen, SameChild, Agree, SameWalk, walks_same, seen-damaged, root-absent, root-seen}
use Rattle.laws.proofs.CellVoxels.{tag_taken}
use Rattle.laws.proofs.PackedLists.{num4-lt, Fits, pointers-fit, list_bytes_lem, sizes-whole, tail-in, start-inside, start_small, packed_pointer-some, record-cell, leaf-cell}

module _ (bs : List ℕ) (by : Bytes bs) where
  -- ---- a pointer's tag is a mirror

  packed_pointer-at : (k p i : ℕ) → Fits (get_or (pointers_at (list_at bs (suc k)) p) i no_pointer)
  unfolding pointers_at
  packed_pointer-at k p i =
      let l : List ℕ = list_at bs (suc k) in
      pointers-fit 8 (header_at l p) (drop (2 * p + 2) l) (bytes_drop (2 * p + 2) l (list_bytes_lem bs by (suc k))) i

  packed_pointer-tag : (k : ℕ) (l : PackedPointer) → Fits l → (t q : ℕ) → packed_child bs k l ≡ to t q → t < 8
  unfolding packed_child
  packed_pointer-tag k l f t q e = go (eqb l.code 0) (ltb l.place (size_at bs k)) (eqb l.code (code_for l.place)) refl e
    where
      go : (a b c : Bool) → eqb l.code (code_for l.place) ≡ c → cond a none (cond (b && c) (to l.tag l.place) wrong) ≡ to t q → t < 8
      go true b c w r = omega (arith, ap tag_taken r)
      go false true true w r = omega (arith, ap tag_taken r, (f (eqb-true l.code (code_for l.place) w)).0)
      go false true false w r = omega (arith, ap tag_taken r)
      go false false c w r = omega (arith, ap tag_taken r)

  pub file-mirrors : Mirrors (file_reading bs)
  file-mirrors k p i t q e = packed_pointer-tag k (get_or (pointers_at (list_at bs (suc k)) p) i no_pointer) (packed_pointer-at k p i) t q e

module _ (bs : List ℕ) (by : Bytes bs) (few : 8 * size_at bs 0 + 8 < 2 ^ 32) (whole : (k : ℕ) → k ≤ top_of bs → T (whole_at bs k))
    (pointed : (k : ℕ) → k < top_of bs → T (packed_pointers_ok bs k)) where
  abbrev G : List (List Cell)
  G = graph_of bs

  -- the record that starts at place p, by its number
  pub record Record (k p n : ℕ) : Type 0 where
    pub low : k ≤ top_of bs
    pub starts : T (is_in p (places_at bs k))
    pub number : n ≡ index_in p (places_at bs k)

  packed_pointer-same : (k : ℕ) → k ≤ top_of bs → (l : PackedPointer) → Fits l → T (packed_pointer_ok (places_at bs k) l) → SameChild (Record k) (packed_child bs k l) (child_for (by_number (places_at bs k) l))
  unfolding packed_pointer_ok packed_child
  packed_pointer-same k h l f t = go (eqb l.code 0) refl t
    where
      ps : List ℕ
      ps = places_at bs k

      go : (b : Bool) → eqb l.code 0 ≡ b → T (cond b true (is_in l.place ps && eqb l.code (code_for l.place)))
          → SameChild (Record k) (cond b none (cond (ltb l.place (size_at bs k) && eqb l.code (code_for l.place)) (to l.tag l.place) wrong)) (child_for (by_number ps l))
      go true e s = rw e tt
      go false e s =
          let i : T (is_in l.place ps) = search and_left in
          let w : T (eqb l.code (code_for l.place)) = search (and_left, and_right) in
          let fit : (l.tag < 8) × (l.place < 2 ^ 29) = f (eqb→eq l.code (code_for l.place) w) in
          let n : ℕ = index_in l.place ps in
          let small : suc n < 2 ^ 29 = start_small bs by whole few k l.place h i fit.1 in
          rw (
            packed_pointer-some ps l (eqb-false l.code 0 e),
            ne_eqb (pointer l.tag n) 0 (λ q. omega arith),
            pointer-cell l.tag n small,
            pointer-tag l.tag n fit.0 small,
            lt-ltb l.place (size_at bs k) (start-inside bs by whole k l.place h i),
            T_true {b = eqb l.code (code_for l.place)} w,
          ) (refl, record { low = h; starts = i; number = refl })

  file-oks : (k p n : ℕ) → Record k p n → entry_ok bs k p ≡ true
  unfolding whole_at
  file-oks zero p n r = T_true {b = leaf_ok (list_at bs 0) p} (all_in-is_in (leaf_ok (list_at bs 0)) (places_at bs 0) p (whole 0 r.low) r.starts)
  file-oks (suc k) p n r =
      let l : List ℕ = list_at bs (suc k) in
      T_true {b = record_ok l p} (all_in-is_in (record_ok l) (places_at bs (suc k)) p (whole (suc k) r.low) r.starts)

  file-leaves : (p n : ℕ) → Record 0 p n → leaf_no (leaf_at (list_at bs 0) p) ≡ leaf_no (cell_at G 0 n)
  file-leaves p n r = ap leaf_no (sym (ap (cell_at G 0) r.number ∙ leaf-cell bs p r.starts))

  file-children : (k p n i : ℕ) → Record (suc k) p n
      → SameChild (Record k) (packed_child bs k (get_or (pointers_at (list_at bs (suc k)) p) i no_pointer)) (child_for (get_or (cell_at G (suc k) n) i 0))
  unfolding packed_pointers_ok packed_pointer_ok
  file-children k p n i r =
      let l : List ℕ = list_at bs (suc k) in
      let ps : List ℕ = places_at bs (suc k) in
      let os : T (all_in (packed_pointer_ok (places_at bs k)) (pointers_at l p)) = all_in-is_in (λ q. all_in (packed_pointer_ok (places_at bs k)) (pointers_at l q)) ps p (pointed k r.low) r.starts in
      let is : get_or (cell_at G (suc k) n) i 0 ≡ by_number (places_at bs k) (get_or (pointers_at l p) i no_pointer) =
      ap (λ (c : Cell). get_or c i 0) (ap (cell_at G (suc k)) r.number ∙ record-cell bs k p r.low r.starts) ∙ get_or-map (by_number (places_at bs k)) (pointers_at l p) i no_pointer in
      subst (λ (q : ℕ). SameChild (Record k) (packed_child bs k (get_or (pointers_at l p) i no_pointer)) (child_for q)) (sym is)
      (packed_pointer-same k (omega (arith, r.low)) (get_or (pointers_at l p) i no_pointer) (packed_pointer-at bs by k p i) (all_in-at (packed_pointer_ok (places_at bs k)) no_pointer tt (pointers_at l p) os i))

  -- records by place and cells of the graph by number
  pub file-agrees : Agree (file_reading bs) (graph_reading G) Record
  file-agrees = record { oks = file-oks; leaves = file-leaves; children = file-children }

-- ---- from the root

-- a list with a record has one at its start, number 0
pub record First (ss : List ℕ) : Type 0 where
  pub there : T (is_in 0 ss)
  pub number : index_in 0 ss ≡ 0

first-cons : (ss : List ℕ) → First (0 ∷ ss)
unfolding is_in index_in
first-cons ss = record { there = tt; number = refl }

first_leaf : (n : ℕ) → 0 < length (count 0 n) → First (count 0 n)
unfolding count
first_leaf zero h = absurd (not-suc-le-zero h)
first_leaf (suc n) h = first-cons (count 1 n)

first_inner : (l : List ℕ) (n : ℕ) → 0 < length (starts_from l n 0) → First (starts_from l n 0)
unfolding starts_from
first_inner l zero = λ h. absurd (not-suc-le-zero h)
first_inner l (suc n) = go (ltb (2 * 0) (length l)) (starts_from l n (0 + halves 8 (header_at l 0)))
  where
    go : (b : Bool) (ss : List ℕ) → 0 < length (cond b (0 ∷ ss) []) → First (cond b (0 ∷ ss) [])
    go true ss h = first-cons ss
    go false ss h = absurd (not-suc-le-zero h)

pub first : (bs : List ℕ) (k : ℕ) → 0 < length (places_at bs k) → First (places_at bs k)
unfolding places_at
first bs zero h = first_leaf (size_at bs 0) h
first bs (suc k) h = first_inner (list_at bs (suc k)) (size_at bs (suc k)) h

-- what a file that is not empty passes, as far as a walk needs it
pub record SoundLists (bs : List ℕ) : Type 0 where
  pub sizes : T (sizes_ok bs)
  pub top : T (top_ok bs)
  pub whole : (k : ℕ) → k ≤ top_of bs → T (whole_at bs k)
  pub pointed : (k : ℕ) → k < top_of bs → T (packed_pointers_ok bs k)

pub lists_of : (bs : List ℕ) → T (sizes_ok bs) → T (lists_ok bs) → SoundLists bs
unfolding lists_ok
lists_of bs s t = record {
  sizes = s;
  top = search and_left;
  whole = λ k h. all-at (suc (top_of bs)) (whole_at bs) (search (and_left, and_right)) k (omega arith);
  pointed = λ k h. all-at (top_of bs) (packed_pointers_ok bs) (search and_right) k h;
}

module _ (bs : List ℕ) (by : Bytes bs) (long : T (length_ok packed_head bs)) (p : SoundLists bs) where
  pub few-leaves : 8 * size_at bs 0 + 8 < 2 ^ 32
  unfolding tail_at
  few-leaves =
      let n : num 4 (drop 1 bs) ≡ length bs = eqb→eq (num 4 (drop 1 bs)) (length bs) (search and_right) in
      omega (arith, num4-lt (drop 1 bs) (bytes_drop 1 bs by), n, tail-in bs (sizes-whole bs p.sizes) 0 (omega arith))

  pub root-first : First (places_at bs (top_of bs))
  unfolding top_ok
  root-first =
      let one : length (places_at bs (top_of bs)) ≡ 1 = eqb→eq (length (places_at bs (top_of bs))) 1 p.top in
      first bs (top_of bs) (omega arith)

  pub top-same : (t : ℕ) (v : Point) → SameWalk (walk_in (file_reading bs) (top_of bs) 0 t v) (walk_in (graph_reading (graph_of bs)) (top_of bs) 0 t v)
  top-same t v =
      let f : First (places_at bs (top_of bs)) = root-first in
      walks_same (file_reading bs) (graph_reading (graph_of bs)) (Record bs by few-leaves p.whole p.pointed) (file-agrees bs by few-leaves p.whole p.pointed) (top_of bs) 0 0 t v
      (record { low = omega arith; starts = f.there; number = sym f.number })

-- ---- a packed voxel question on any bytes

-- the root's mirror
root_tag_lem : (bs : List ℕ) → T (head_ok bs) → (t p : ℕ) → root_of bs ≡ to t p → t < 8
unfolding head_ok
root_tag_lem bs h t p e = go (is_empty bs) refl e
  where
    most : root_tag bs ≤ empty_mark
    most = leb→le (root_tag bs) empty_mark (search and_left)

    go : (b : Bool) → is_empty bs ≡ b → cond b none (to (root_tag bs) 0) ≡ to t p → t < 8
    go true q f = omega (arith, ap tag_taken f)
    go false q f = let other : ¬ (root_tag bs ≡ empty_mark) = eqb-false (root_tag bs) empty_mark q in omega (arith, most, other, ap tag_taken f)

module _ (bs : List ℕ) (deep : T (depth_ok (file_depth bs))) where
  -- the voxels of an absent child have one walk
  pub file-absent : (v w : Point) (h : ℕ) → Inside (2 ^ file_depth bs) v → (file_walk bs v).end ≡ absent h → OneCell h v w → file_walk bs w ≡ file_walk bs v
  unfolding file_walk
  file-absent v w h l e s = go (head_ok bs) e
    where
      go : (b : Bool) → (unless b (root_walk (file_reading bs) (file_depth bs) (root_of bs) v)).end ≡ absent h
          → unless b (root_walk (file_reading bs) (file_depth bs) (root_of bs) w) ≡ unless b (root_walk (file_reading bs) (file_depth bs) (root_of bs) v)
      go true f = root-absent (file_reading bs) (file_depth bs) deep (root_of bs) v w h l f s
      go false f = refl

  -- in a leaf it is at the voxel mirrored once, by the mirror in force
  pub file-seen : Bytes bs → (v : Point) → Inside (2 ^ file_depth bs) v → Seen v (file_walk bs v)
  unfolding file_walk
  file-seen by v l = go (head_ok bs) refl
    where
      go : (b : Bool) → head_ok bs ≡ b → Seen v (unless b (root_walk (file_reading bs) (file_depth bs) (root_of bs) v))
      go true h = root-seen (file_reading bs) (file_depth bs) deep (file-mirrors bs by) (root_of bs) (root_tag_lem bs (true-T h)) v l
      go false h = seen-damaged v
