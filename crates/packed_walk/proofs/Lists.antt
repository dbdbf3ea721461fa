-- The lists of a file that opens, as code cuts them: the walk over them is the paper's walk over the file; a pointer past its list leads to what fails its
-- test. By where the lists start, and by induction on the list. Assumes nothing.
use mathlib.Core.Path.{◌≡◌, refl, sym, ◌∙◌, ap, ap₂, subst}
use mathlib.Core.Bool.{Bool, true, false, cond, ◌&&◌}
use mathlib.Core.List.{List, []}
use Prim.Native.Nat.{ℕ, zero, suc, ◌+◌, ◌-◌, ◌*◌, ◌%◌, ◌^◌, ◌<◌, ◌≤◌}
use native.Mathlib.Nat.{mod-eq_of_lt, not-suc-le-zero}
use native.Mathlib.Omega.{arith}
use borrow.Author.Tests.{eq-eqb, eqb-false, le-leb, ltb-false, not-true, not-false}
use lib.Dec.{T, eqb, leb, ltb, ltb→lt}
use lib.ListN.{length, take, drop, get_or, length-drop}
use lib.Seq.{take_all}
use Rattle.paper.specs.Rooms.{Point, point, Inside, mirror, child_no, in_child, least}
use Rattle.paper.specs.Outline.{edge, file_depth}
use Rattle.paper.specs.Store.{heights}
use Rattle.paper.specs.Walk.{absent, Walk, damaged_walk, unless, after, onward, Child, none, wrong, to, Step, walk_in}
use Rattle.paper.specs.Packed.{empty_mark, root_tag, top_of, size_at, tail_at, start_at, list_at, head_ok, PackedPointer, no_pointer, pointers_at, record_ok, leaf_ok, code_for, starts_of, packed_child, file_reading, file_walk}
use Rattle.paper.specs.Calls.{packed_outside}
use Rattle.laws.proofs.Tests.{T_true, true-T, and_left, and_right}
use Rattle.laws.proofs.Lists.{get_or-tabulate}
use Rattle.laws.proofs.PackedLists.{Whole, tail-in, leaves-length, inner-length}
use Rattle.packed_records.specs.Records.{child_to}
use Rattle.packed_walk.specs.Walk.{Parts, list_in, lists_reading, parts_walk}
use Rattle.packed_lists.specs.Ends.{Listed}
use Rattle.packed_lists.proofs.Header.{less_one, sizes-sum}
use Rattle.packed_records.proofs.Records.{leaf-none, record-outside}

-- ---- the lists of two parts

module _ (inner leaves starts : List ℕ) (top : ℕ) (parts : Parts inner leaves starts top) where
  pub falls : (k : ℕ) → 0 < k → k ≤ top → get_or starts k 0 ≤ get_or starts (k - 1) 0
  falls zero l h = absurd (not-suc-le-zero l)
  falls (suc k) l h = rw (less_one k) (parts.falling k h)

  pub starts-inside : (k : ℕ) → k ≤ top → get_or starts k 0 ≤ length inner
  starts-inside zero h = parts.inside
  starts-inside (suc k) h = omega (arith, parts.falling k h, starts-inside k (omega arith))

  -- list k, as code cuts it
  pub list-part : (k s e : ℕ) → 0 < k → s ≡ get_or starts k 0 → e ≡ get_or starts (k - 1) 0 → take (e - s) (drop s inner) ≡ list_in inner leaves starts k
  list-part zero s e l p q = absurd (not-suc-le-zero l)
  list-part (suc k) s e l p q = ap₂ (λ (a b : ℕ). take (a - b) (drop b inner)) (q ∙ ap (λ (n : ℕ). get_or starts n 0) (less_one k)) p

-- ---- lists that agree

module _ (L M : ℕ → List ℕ) where
  abbrev on : (ℕ → List ℕ) → ℕ → Point → ℕ → ℕ → Walk
  on N k w t p = walk_in (lists_reading N) k p t (in_child (edge k) w)

  onward-same : (h : ℕ) (f g : ℕ → ℕ → Walk) (c : Child) → ((t p : ℕ) → f t p ≡ g t p) → onward h f c ≡ onward h g c
  onward-same h f g none below = refl
  onward-same h f g wrong below = refl
  onward-same h f g (to t p) below = below t p

  pub lists-same : (k : ℕ) → ((j : ℕ) → j ≤ k → L j ≡ M j) → (p t : ℕ) (v : Point) → walk_in (lists_reading L) k p t v ≡ walk_in (lists_reading M) k p t v
  unfolding walk_in
  lists-same zero e p t v = rw (e 0 (omega arith)) refl
  lists-same (suc k) e p t v =
      let w : Point = mirror t (edge (suc k)) v in
      let here : Step = record { list = suc k; place = p; tag = t } in
      let rest : List ℕ → (ℕ → ℕ → Walk) → Walk = λ l f. unless (record_ok l p) (after here (onward (suc (suc k)) f (child_to (get_or (pointers_at l p) (child_no (edge k) w) no_pointer)))) in
      ap (λ (l : List ℕ). rest l (on L k w)) (e (suc k) (omega arith))
      ∙ ap (λ (r : Walk). unless (record_ok (M (suc k)) p) (after here r))
      (onward-same (suc (suc k)) (on L k w) (on M k w) (child_to (get_or (pointers_at (M (suc k)) p) (child_no (edge k) w) no_pointer)) (λ u q. lists-same k (λ j h. e j (omega arith)) q u (in_child (edge k) w)))

-- ---- the lists of a file

module _ (bs : List ℕ) (sum : Whole bs) where
  abbrev R : ℕ → ℕ → ℕ → Point → Walk
  R k p t v = walk_in (lists_reading (list_at bs)) k p t v

  -- past its list a place fails its test
  past-damaged : (k : ℕ) → k ≤ top_of bs → (p t : ℕ) (v : Point) → size_at bs k ≤ p → R k p t v ≡ damaged_walk
  unfolding walk_in leaf_ok
  past-damaged zero h p t v l = rw (sym (leaf-none (list_at bs 0) p (omega (arith, leaves-length bs sum)))) refl
  past-damaged (suc k) h p t v l =
      rw (not-true (record_ok (list_at bs (suc k)) p) (sym (record-outside (list_at bs (suc k)) p (omega (arith, inner-length bs sum k h))))) refl

  onward-file : (k : ℕ) → k ≤ top_of bs → (h : ℕ) (f : ℕ → ℕ → Walk) (u : Point) (q : PackedPointer) → ((t p : ℕ) → f t p ≡ R k p t u) → onward h f (packed_child bs k q) ≡ onward h (λ t p. R k p t u) (child_to q)
  unfolding packed_child
  onward-file k low h f u q below = go (eqb q.code 0) (ltb q.place (size_at bs k)) refl (eqb q.code (code_for q.place))
    where
      go : (a b : Bool) → ltb q.place (size_at bs k) ≡ b → (c : Bool)
          → onward h f (cond a none (cond (b && c) (to q.tag q.place) wrong)) ≡ onward h (λ t p. R k p t u) (cond a none (cond c (to q.tag q.place) wrong))
      go true b e c = refl
      go false true e true = below q.tag q.place
      go false true e false = refl
      go false false e true = sym (past-damaged k low q.place q.tag u (ltb-false q.place (size_at bs k) e))
      go false false e false = refl

  -- the paper's walk over the file is that over its lists
  pub file-lists : (k : ℕ) → k ≤ top_of bs → (p t : ℕ) (v : Point) → walk_in (file_reading bs) k p t v ≡ R k p t v
  unfolding walk_in
  file-lists zero h p t v = refl
  file-lists (suc k) h p t v =
      let w : Point = mirror t (edge (suc k)) v in
      let here : Step = record { list = suc k; place = p; tag = t } in
      ap (λ (r : Walk). unless (record_ok (list_at bs (suc k)) p) (after here r))
      (onward-file k (omega arith) (suc (suc k)) (λ u q. walk_in (file_reading bs) k q u (in_child (edge k) w)) (in_child (edge k) w) (get_or (pointers_at (list_at bs (suc k)) p) (child_no (edge k) w) no_pointer)
      (λ u q. file-lists k (omega arith) q u (in_child (edge k) w)))

-- ---- a point inside

inside-top : (bs : List ℕ) → least ≤ file_depth bs → (v : Point) → packed_outside bs v ≡ false → Inside (edge (top_of bs)) v
unfolding packed_outside
inside-top bs deep v out =
    let D : ℕ = file_depth bs in
    let e : D ≡ suc (suc (top_of bs)) = omega arith in
    let a : Bool = ltb v.x (2 ^ D) in
    let b : Bool = ltb v.y (2 ^ D) in
    let c : Bool = ltb v.z (2 ^ D) in
    let t : T (a && b && c) = true-T (not-false (a && b && c) out) in
    let i : Inside (2 ^ D) v = record {
      in_x = ltb→lt v.x (2 ^ D) (and_left a b (and_left (a && b) c t));
      in_y = ltb→lt v.y (2 ^ D) (and_right a b (and_left (a && b) c t));
      in_z = ltb→lt v.z (2 ^ D) (and_right (a && b) c t);
    } in
    subst (λ (n : ℕ). Inside (2 ^ n) v) e i

-- ---- a file with its list starts, as two parts

-- the leaves, as code cuts them
abbrev pub leaves_in : List ℕ → List ℕ → List ℕ
leaves_in bs starts = let s : ℕ = get_or starts 0 0 in take (length bs - s) (drop s bs)

module _ (bs starts : List ℕ) (l : Listed bs starts) where
  some : root_tag bs ≡ empty_mark → ⊥
  some = eqb-false (root_tag bs) empty_mark l.solid

  low : top_of bs < heights
  low = omega (arith, l.opens.tested.flat)

  sum : Whole bs
  sum = sizes-sum bs l.opens.head some

  next_start : (k : ℕ) → k < top_of bs → start_at bs (suc k) + 2 * size_at bs (suc k) ≡ start_at bs k
  unfolding tail_at
  next_start k h = omega (arith, tail-in bs sum (suc k) h)

  start_is : (k : ℕ) → k ≤ top_of bs → get_or starts k 0 ≡ start_at bs k
  unfolding starts_of
  start_is k h =
      let f : ℕ → ℕ = λ j. cond (leb j (top_of bs)) (start_at bs j) 0 in
      ap (λ (m : List ℕ). get_or m k 0) l.is
      ∙ rw l.solid (get_or-tabulate heights 0 k f 0 (omega (arith, low)) ∙ ap f (omega arith) ∙ ap (λ (b : Bool). cond b (start_at bs k) 0) (le-leb k (top_of bs) h))

  -- the leaves start inside
  pub last-inside : get_or starts 0 0 ≤ length bs
  last-inside = omega (arith, start_is 0 (omega arith))

  leaves-are : leaves_in bs starts ≡ list_at bs 0
  unfolding list_at
  leaves-are =
      let s : ℕ = get_or starts 0 0 in
      take_all (length bs - s) (drop s bs) (rw (length-drop s bs) (omega arith)) ∙ ap (λ (n : ℕ). drop n bs) (start_is 0 (omega arith))

  pub parts_are : Parts bs (leaves_in bs starts) starts (top_of bs)
  parts_are = record {
    low = low;
    falling = λ k h. omega (arith, start_is k (omega arith), start_is (suc k) h, next_start k h);
    inside = last-inside;
    eights = ap (λ (m : List ℕ). length m % 8) leaves-are ∙ omega (arith, leaves-length bs sum);
  }

  lists-are : (k : ℕ) → k ≤ top_of bs → list_in bs (leaves_in bs starts) starts k ≡ list_at bs k
  unfolding list_at
  lists-are zero h = leaves-are
  lists-are (suc k) h =
      let size : get_or starts k 0 - get_or starts (suc k) 0 ≡ 2 * size_at bs (suc k) = omega (arith, start_is k (omega arith), start_is (suc k) h, next_start k h) in
      ap₂ (λ (a b : ℕ). take a (drop b bs)) size (start_is (suc k) h)

  -- the walk over the parts to a point inside is the paper's
  pub parts_walk_lem : (v : Point) → packed_outside bs v ≡ false → parts_walk bs (leaves_in bs starts) starts (top_of bs) (root_tag bs) v ≡ file_walk bs v
  unfolding file_walk
  parts_walk_lem v out =
      let i : Inside (edge (top_of bs)) v = inside-top bs l.opens.tested.deep v out in
      let whole : in_child (edge (top_of bs)) v ≡ v = λ j. point (mod-eq_of_lt i.in_x j) (mod-eq_of_lt i.in_y j) (mod-eq_of_lt i.in_z j) in
      ap (walk_in (lists_reading (list_in bs (leaves_in bs starts) starts)) (top_of bs) 0 (root_tag bs)) whole
      ∙ lists-same (list_in bs (leaves_in bs starts) starts) (list_at bs) (top_of bs) lists-are 0 (root_tag bs) v
      ∙ sym (file-lists bs sum (top_of bs) (omega arith) 0 (root_tag bs) v)
      ∙ rw (T_true {b = head_ok bs} l.opens.head, l.solid) refl

-- ---- an empty scene

pub walk-empty : (bs : List ℕ) (v : Point) → T (head_ok bs) → root_tag bs ≡ empty_mark → file_walk bs v ≡ record { end = absent (file_depth bs); path = [] }
unfolding file_walk
walk-empty bs v t e = rw (T_true {b = head_ok bs} t, eq-eqb (root_tag bs) empty_mark e) refl
