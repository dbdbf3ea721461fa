-- What is counted of a box in a cell, by its first voxel and its last: one law for each way through the code. A pointer that is none, bad, or names a
-- cell; a box that lies in one child, and is that child's; the children that share a voxel with it, and those that don't, added up one after another; a
-- leaf, a cell that is all in the box, any other. By cases of the definition's tests, the box cut to each child. Assumes nothing.
use mathlib.Core.Path.{◌≡◌, refl, sym, ap, ap₂, ◌∙◌, subst}
use mathlib.Core.Bool.{Bool, true, false, cond, not, ◌&&◌, true≢false}
use mathlib.Core.List.{List}
use mathlib.Core.Logic.{◌⊎◌, inl, inr}
use Prim.Native.Nat.{ℕ, zero, suc, ◌+◌, ◌-◌, ◌*◌, ◌/◌, ◌%◌, ◌^◌, ◌<◌, ◌≤◌}
use native.Mathlib.Nat.{zero-add, add-zero, mod-lt, not-suc-le-zero, le_refl, le_of_suc-le-suc, eq-or-lt_of_le}
use native.Mathlib.Omega.{arith}
use lib.Arith.{mod-mul}
use lib.Bits.{bit_xor, xor_self}
use lib.Dec.{eqb, leb, ltb, eqb→eq, leb→le, lit<}
use lib.ListN.{length, get_or}
use borrow.Author.Tests.{lt-ltb, le-leb, lt-leb, ne_eqb, eq-eqb}
use Rattle.paper.specs.Rooms.{Point, in_child, mirrored, box_count, clipped, far, has_voxel, is_whole, origin}
use Rattle.paper.specs.Outline.{edge}
use Rattle.paper.specs.Leaf.{leaf_voxel}
use Rattle.paper.specs.Store.{Cell, heights, kept_count, kept_of, cells_at, cell_at, tag_of, cell_no, leaf_no, bad_pointer, count_of}
use Rattle.std.specs.Prelude.{Result, Ok, Err, IsErr}
use Rattle.paper.specs.declared.Damaged.{Damaged as Unsound}
use Rattle.paper.specs.Questions.{tally_of, plus, total, count_taken, cell_tally}
use Rattle.paper.specs.Questions.{Tally}
use Rattle.paper.specs.Questions.{Solid, Damaged}
use Rattle.laws.proofs.BoxTallies.{whole-box, pointer-tally-most}
use Rattle.laws.proofs.Kept.{kept-length}
use Rattle.laws.proofs.OutlineWriting.{edge-twice}
use Rattle.laws.proofs.Tests.{true-T, not-not, false-unless, all-at}
use Rattle.points.specs.Points.{at}
use Rattle.points.specs.Seeing.{child_no_at}
use Rattle.points.proofs.Seen.{edge-pos}
use Rattle.boxes_parts.specs.declared.Part.{Part}
use Rattle.boxes_parts.specs.Parts.{NoPart, ChildPart, chosen, past_in, Spans, shares_in, spreads_over}
use Rattle.boxes_parts.proofs.Cuts.{start_in, end_in, cut-start, cut-end, cut-spans, cut-none, only_one, number_lt}
use Rattle.boxes.specs.Box.{child_taken, tally_in, pointer_in, children_in, cell_part, pointer_part}

-- ---- numbers and tests

pub one_up : (k : ℕ) → (k ≡ 0 → ⊥) → suc (k - 1) ≡ k
one_up zero z = absurd (z refl)
one_up (suc k) z = omega arith

-- the case that a test picks
when_true : (b : Bool) (x y : Tally) → b ≡ true → x ≡ cond b x y
when_true true x y e = refl
when_true false x y e = absurd (true≢false (sym e))

when_false : (b : Bool) (x y : Tally) → b ≡ false → y ≡ cond b x y
when_false true x y e = absurd (true≢false e)
when_false false x y e = refl

-- ---- a count taken

-- the voxels of a cell of list k, as code shifts them in 64 bits
pub cube-fits : (k : ℕ) → k < heights → 1 * 2 ^ (3 * (k + 2)) % 18446744073709551616 ≡ 8 ^ suc (suc k)
cube-fits k h =
    eqb→eq (1 * 2 ^ (3 * (k + 2)) % 18446744073709551616) (8 ^ suc (suc k))
    (all-at 15 (λ j. eqb (1 * 2 ^ (3 * (j + 2)) % 18446744073709551616) (8 ^ suc (suc j))) tt k h)

pub taken-over : (k c : ℕ) → 8 ^ suc (suc k) < c → Damaged ≡ count_taken k c
taken-over k c l = when_false (leb c (8 ^ suc (suc k))) (Solid c) Damaged (lt-leb c (8 ^ suc (suc k)) l)

pub taken-within : (k c : ℕ) → c ≤ 8 ^ suc (suc k) → Solid c ≡ count_taken k c
taken-within k c l = when_true (leb c (8 ^ suc (suc k))) (Solid c) Damaged (le-leb c (8 ^ suc (suc k)) l)

-- ---- a pointer

-- a box without a voxel
pub pointer-outside : (ws : List ℕ) (k p m : ℕ) (low high : Point) → has_voxel low high ≡ false → pointer_in ws k p m low high ≡ Solid 0
pointer-outside ws k p m low high e = sym (when_false (has_voxel low high) _ (Solid 0) e)

-- a box from its first voxel to its last has one
spans-voxel : (S : ℕ) (low last : Point) → Spans S low last → has_voxel (in_child S low) (past_in S last) ≡ true
spans-voxel S low last s =
    let x : ltb (low.x % S) (last.x % S + 1) ≡ true = lt-ltb (low.x % S) (last.x % S + 1) (omega (arith, s.span_x)) in
    let y : ltb (low.y % S) (last.y % S + 1) ≡ true = lt-ltb (low.y % S) (last.y % S + 1) (omega (arith, s.span_y)) in
    let z : ltb (low.z % S) (last.z % S + 1) ≡ true = lt-ltb (low.z % S) (last.z % S + 1) (omega (arith, s.span_z)) in
    ap₂ (λ (a b : Bool). a && b) (ap₂ (λ (a b : Bool). a && b) x y) z

module _ (ws : List ℕ) (k p m : ℕ) (low last : Point) (h : k < heights) (s : Spans (edge k) low last) where
  -- what is due, by the three tests
  by_tests : Bool → Bool → Bool → Tally
  by_tests v w z = cond v (cond w Damaged (cond z (Solid 0) (cell_part ws k (cell_no p) (bit_xor (tag_of p) m) low last))) (Solid 0)

  voxel : has_voxel (in_child (edge k) low) (past_in (edge k) last) ≡ true
  voxel = spans-voxel (edge k) low last s

  by_count : (b : Bool) → bad_pointer (kept_count ws k) p ≡ b → bad_pointer (length (cells_at (kept_of ws) k)) p ≡ b
  by_count b e = rw (kept-length ws k h) e

  pub part-absent : p ≡ 0 → Solid 0 ≡ pointer_part ws k p m low last
  unfolding by_tests
  part-absent e =
      let good : bad_pointer (length (cells_at (kept_of ws) k)) p ≡ false = rw e refl in
      sym (ap₂ (λ (v w : Bool). by_tests v w (eqb p 0)) voxel good ∙ ap (by_tests true false) (eq-eqb p 0 e))

  pub part-bad : bad_pointer (kept_count ws k) p ≡ true → Damaged ≡ pointer_part ws k p m low last
  unfolding by_tests
  part-bad b = sym (ap₂ (λ (v w : Bool). by_tests v w (eqb p 0)) voxel (by_count true b))

  pub part-there : (n t : ℕ) → (p ≡ 0 → ⊥) → bad_pointer (kept_count ws k) p ≡ false → n ≡ cell_no p → t ≡ tag_of p
      → cell_part ws k n (bit_xor t m) low last ≡ pointer_part ws k p m low last
  unfolding by_tests
  part-there n t z b en et =
      ap₂ (λ (x y : ℕ). cell_part ws k x (bit_xor y m) low last) en et
      ∙ sym (ap₂ (λ (v w : Bool). by_tests v w (eqb p 0)) voxel (by_count false b) ∙ ap (by_tests true false) (ne_eqb p 0 z))

-- ---- the children of a cell c of list k + 1

-- what child i has of a box in the cell
abbrev pub child_in : List ℕ → ℕ → Cell → ℕ → Point → Point → ℕ → Tally
child_in ws k c m low high i = pointer_in ws k (get_or c (bit_xor i m) 0) m (clipped (edge k) i low) (clipped (edge k) i high)

module _ (ws : List ℕ) (k : ℕ) (hk : k < heights) (c : Cell) (m : ℕ) (low last : Point) (i : ℕ) (hi : i < 8) where
  -- the box in the cell
  abbrev low_here : Point
  low_here = in_child (edge (suc k)) low

  abbrev high_here : Point
  high_here = past_in (edge (suc k)) last

  -- a child that has a part of the box, and one that has none
  pub child-part : (part : Part) → ChildPart k i low last part → pointer_part ws k (get_or c (bit_xor i m) 0) m (at part.low) (at part.last) ≡ child_in ws k c m low_here high_here i
  child-part part p = sym (ap₂ (pointer_in ws k (get_or c (bit_xor i m) 0) m) p.begins p.ends)

  pub child-none : NoPart k i low last → child_in ws k c m low_here high_here i ≡ Solid 0
  child-none e = pointer-outside ws k (get_or c (bit_xor i m) 0) m (clipped (edge k) i low_here) (clipped (edge k) i high_here) e

  -- the same by its number
  child-shared : shares_in (child_no_at k low) (child_no_at k last) i ≡ true → pointer_part ws k (get_or c (bit_xor i m) 0) m (start_in k i low) (end_in k i last) ≡ child_in ws k c m low_here high_here i
  child-shared e = sym (ap₂ (pointer_in ws k (get_or c (bit_xor i m) 0) m) (cut-start k hk low last i hi e) (cut-end k hk low last i hi e))

  child-apart : shares_in (child_no_at k low) (child_no_at k last) i ≡ false → child_in ws k c m low_here high_here i ≡ Solid 0
  child-apart e = child-none (cut-none k hk low last i hi e)

-- ---- answers read as tallies

pub err-tally : (r : Result ℕ Unsound) → IsErr r → Damaged ≡ tally_of r
err-tally (Err e) h = refl
err-tally (Ok n) h = absurd (true≢false (sym h))

-- ---- tallies added up

nothing-plus : (t : Tally) → plus (Solid 0) t ≡ t
nothing-plus Damaged = refl
nothing-plus (Solid n) = ap Solid (zero-add n)

plus-nothing : (t : Tally) → plus t (Solid 0) ≡ t
plus-nothing Damaged = refl
plus-nothing (Solid n) = ap Solid (add-zero n)

-- one that is damaged, and numbers, added behind
damaged-behind : (t : Tally) (s : ℕ) → plus (plus t Damaged) (Solid s) ≡ Damaged
damaged-behind Damaged s = refl
damaged-behind (Solid n) s = refl

solid-behind : (t : Tally) (n s : ℕ) → plus (plus t (Solid n)) (Solid s) ≡ plus t (Solid (s + n))
solid-behind Damaged n s = refl
solid-behind (Solid a) n s = ap Solid (omega arith)

-- a total with one part that counts
total-none : (n : ℕ) (f : ℕ → Tally) → ((j : ℕ) → j < n → f j ≡ Solid 0) → total n f ≡ Solid 0
unfolding total
total-none zero f none = refl
total-none (suc n) f none = ap₂ plus (total-none n f (λ j a. none j (omega arith))) (none n (le_refl (suc n)))

total-only : (n : ℕ) (f : ℕ → Tally) (i : ℕ) → i < n → ((j : ℕ) → j < n → (j ≡ i → ⊥) → f j ≡ Solid 0) → total n f ≡ f i
unfolding total
total-only zero f i h none = absurd (not-suc-le-zero h)
total-only (suc n) f i h none = go (eq-or-lt_of_le (le_of_suc-le-suc h)) (λ l. total-only n f i l (λ j a. none j (omega arith)))
  where
    go : (i ≡ n) ⊎ (i < n) → (i < n → total n f ≡ f i) → plus (total n f) (f n) ≡ f i
    go (inl e) ih = ap₂ plus (total-none n f (λ j a. none j (omega arith) (λ y. omega (arith, a, y, e)))) (ap f (sym e)) ∙ nothing-plus (f i)
    go (inr l) ih = ap₂ plus (ih l) (none n (le_refl (suc n)) (λ y. omega (arith, l, y))) ∙ plus-nothing (f i)

-- ---- the children from the last to the first: those left, and the sum of those counted

-- 8 ^ 15: the voxels of a child of the highest cell
abbrev pub most_of_child : ℕ
most_of_child = 35184372088832

module _ (ws : List ℕ) (k : ℕ) (c : Cell) (m : ℕ) (low high : Point) where
  abbrev of_child : ℕ → Tally
  of_child = child_in ws k c m low high

  abbrev found : ℕ → Tally
  found left = children_in ws k c m left low high

  pub child-most : suc k < heights → (i n : ℕ) → of_child i ≡ Solid n → n ≤ most_of_child
  child-most h i n e =
      let cube : 8 ^ suc (suc k) ≤ most_of_child = leb→le (8 ^ suc (suc k)) most_of_child (all-at 14 (λ j. leb (8 ^ suc (suc j)) most_of_child) tt k (omega arith)) in
      let own : n ≤ 8 ^ suc (suc k) =
      pointer-tally-most (kept_of ws) (count_of ws) k (length (cells_at (kept_of ws) k)) (get_or c (bit_xor i m) 0) m (clipped (edge k) i low) (clipped (edge k) i high) n e in
      omega (arith, cube, own)

  -- the children left, with the sum of the others, are all
  abbrev pub Left : ℕ → ℕ → Type 0
  Left left sum = plus (found left) (Solid sum) ≡ found 8

  pub left-all : Left 8 0
  left-all = plus-nothing (found 8)

  one_more : (left : ℕ) → found (suc left) ≡ plus (found left) (of_child left)
  unfolding children_in total
  one_more left = refl

  last_of : (left : ℕ) → 0 < left → found left ≡ plus (found (left - 1)) (of_child (left - 1))
  last_of left z = let e : left ≡ suc (left - 1) = omega arith in ap found e ∙ one_more (left - 1)

  pub left-damaged : (left sum : ℕ) → 0 < left → of_child (left - 1) ≡ Damaged → Left left sum → Damaged ≡ found 8
  left-damaged left sum z e l =
      sym (ap (λ (t : Tally). plus t (Solid sum)) (last_of left z ∙ ap (plus (found (left - 1))) e) ∙ damaged-behind (found (left - 1)) sum) ∙ l

  pub left-fewer : (left sum n : ℕ) → 0 < left → of_child (left - 1) ≡ Solid n → Left left sum → Left (left - 1) (sum + n)
  left-fewer left sum n z e l =
      sym (ap (λ (t : Tally). plus t (Solid sum)) (last_of left z ∙ ap (plus (found (left - 1))) e) ∙ solid-behind (found (left - 1)) n sum) ∙ l

  pub left-none : (left sum : ℕ) → left ≤ 0 → Left left sum → Solid sum ≡ found 8
  unfolding children_in total
  left-none left sum h l = let e : left ≡ 0 = omega arith in sym (ap (λ (j : ℕ). plus (found j) (Solid sum)) e ∙ nothing-plus (Solid sum)) ∙ l

-- ---- a cell

-- by the three cases of the definition
leaf-is : (ws : List ℕ) (n m : ℕ) (low high : Point) → tally_in ws 0 n m low high ≡ Solid (box_count 4 (mirrored m 4 (leaf_voxel (leaf_no (cell_at (kept_of ws) 0 n)))) low high)
unfolding cell_tally
leaf-is ws n m low high = refl

whole_is : (ws : List ℕ) (k n m : ℕ) (low high : Point) → is_whole (edge (suc k)) low high ≡ true → count_taken (suc k) (count_of ws (suc k) n) ≡ tally_in ws (suc k) n m low high
unfolding cell_tally
whole_is ws k n m low high e = when_true (is_whole (edge (suc k)) low high) (count_taken (suc k) (count_of ws (suc k) n)) _ e

children-are : (ws : List ℕ) (k n m : ℕ) (low high : Point) → is_whole (edge (suc k)) low high ≡ false → children_in ws k (cell_at (kept_of ws) (suc k) n) m 8 low high ≡ tally_in ws (suc k) n m low high
unfolding cell_tally children_in
children-are ws k n m low high e = when_false (is_whole (edge (suc k)) low high) (count_taken (suc k) (count_of ws (suc k) n)) _ e

-- in the code's words
module _ (ws : List ℕ) (k n m : ℕ) (low last : Point) where
  abbrev is_all : Bool
  is_all = is_whole (edge k) (in_child (edge k) low) (past_in (edge k) last)

  pub cell-leaf : k ≡ 0 → Solid (box_count 4 (mirrored m 4 (leaf_voxel (leaf_no (cell_at (kept_of ws) 0 n)))) (in_child 4 low) (past_in 4 last)) ≡ cell_part ws k n m low last
  cell-leaf e = rw e (sym (leaf-is ws n m (in_child 4 low) (past_in 4 last)))

  module _ (z : k ≡ 0 → ⊥) where
    pub cell-whole : is_all ≡ true → count_taken k (count_of ws k n) ≡ cell_part ws k n m low last
    cell-whole e = rw (one_up k z) at (whole_is ws (k - 1) n m (in_child (edge (suc (k - 1))) low) (past_in (edge (suc (k - 1))) last) (rw (one_up k z) e))

    pub cell-children : is_all ≡ false
        → children_in ws (k - 1) (cell_at (kept_of ws) k n) m 8 (in_child (edge (suc (k - 1))) low) (past_in (edge (suc (k - 1))) last) ≡ cell_part ws k n m low last
    cell-children e =
        ap (λ (j : ℕ). children_in ws (k - 1) (cell_at (kept_of ws) j n) m 8 (in_child (edge (suc (k - 1))) low) (past_in (edge (suc (k - 1))) last)) (sym (one_up k z))
        ∙ children-are ws (k - 1) n m (in_child (edge (suc (k - 1))) low) (past_in (edge (suc (k - 1))) last) (rw (one_up k z) e)
        ∙ ap (λ (j : ℕ). cell_part ws j n m low last) (one_up k z)

-- ---- a box that lies in one child

-- the first of a cube lies in its first half, the last in the other
two-halves : (S b x y : ℕ) → b < 2 → y < S → b * S + x ≡ 0 → b * S + y + 1 ≡ 2 * S → ⊥
two-halves S zero x y hb hy e f = omega arith
two-halves S (suc zero) x y hb hy e f = omega arith
two-halves S (suc (suc b)) x y hb hy e f = omega arith

-- so such a box is not all of its cell
not-whole : (k : ℕ) (low last : Point) → child_no_at k low ≡ child_no_at k last → is_whole (edge (suc k)) (in_child (edge (suc k)) low) (past_in (edge (suc k)) last) ≡ false
not-whole k low last e = false-unless _ (λ t.
    let S : ℕ = edge k in
    let w = whole-box (edge (suc k)) (in_child (edge (suc k)) low) (past_in (edge (suc k)) last) t in
    two-halves S (low.x / S % 2) (low.x % S) (last.x % S) (mod-lt (low.x / S) (lit< tt)) (mod-lt last.x (edge-pos k))
    (sym (by-half low.x) ∙ ap (λ (v : Point). v.x) w.0)
    (ap (λ (b : ℕ). b * S + last.x % S + 1) (same (low.x / S) (low.y / S) (low.z / S) (last.x / S) (last.y / S) (last.z / S) e)
    ∙ ap (λ (a : ℕ). a + 1) (sym (by-half last.x)) ∙ ap (λ (v : Point). v.x) w.1 ∙ edge-twice k))
  where
    by-half : (x : ℕ) → x % edge (suc k) ≡ x / edge k % 2 * edge k + x % edge k
    by-half x = ap (λ (E : ℕ). x % E) (edge-twice k) ∙ mod-mul x {m = 2} {c = edge k} (lit< tt) (edge-pos k)

    same : (p q r p' q' r' : ℕ) → p % 2 + 2 * (q % 2) + 4 * (r % 2) ≡ p' % 2 + 2 * (q' % 2) + 4 * (r' % 2) → p % 2 ≡ p' % 2
    same p q r p' q' r' e = omega arith

module _ (k : ℕ) (hk : k < heights) (low last : Point) (e : child_no_at k low ≡ child_no_at k last) where
  abbrev only : ℕ
  only = child_no_at k low

  shared : (i : ℕ) → i < 8 → shares_in only (child_no_at k last) i ≡ eqb i only
  shared i hi = ap (λ (l : ℕ). shares_in only l i) (sym e) ∙ only_one only i (number_lt k low) hi

  only_shared : shares_in only (child_no_at k last) only ≡ true
  only_shared = shared only (number_lt k low) ∙ eq-eqb only only refl

  -- there it begins and ends where it does
  start-here : start_in k only low ≡ low
  start-here = ap (λ (t : ℕ). chosen t low origin) (xor_self only)

  end-here : end_in k only last ≡ last
  end-here = ap (λ (t : ℕ). chosen (bit_xor only t) last (far 65535)) (sym e) ∙ ap (λ (t : ℕ). chosen t last (far 65535)) (xor_self only)

  only-spans : Spans (edge (suc k)) low last → Spans (edge k) low last
  only-spans w =
      subst (λ (b : Point). Spans (edge k) low b) end-here
      (subst (λ (a : Point). Spans (edge k) a (end_in k only last)) start-here (cut-spans k hk low last only (number_lt k low) only_shared w))

  module _ (ws : List ℕ) (n m : ℕ) where
    abbrev cell : Cell
    cell = cell_at (kept_of ws) (suc k) n

    abbrev of_children : ℕ → Tally
    of_children = child_in ws k cell m (in_child (edge (suc k)) low) (past_in (edge (suc k)) last)

    only-tally : of_children only ≡ cell_part ws (suc k) n m low last
    unfolding children_in
    only-tally =
        sym (total-only 8 of_children only (number_lt k low) (λ i hi z. child-apart ws k hk cell m low last i hi (shared i hi ∙ ne_eqb i only z)))
        ∙ children-are ws k n m (in_child (edge (suc k)) low) (past_in (edge (suc k)) last) (not-whole k low last e)

    only_child : pointer_part ws k (child_taken (kept_of ws) k n m low) m low last ≡ cell_part ws (suc k) n m low last
    only_child =
        sym (ap₂ (λ (a b : Point). pointer_part ws k (child_taken (kept_of ws) k n m low) m a b) start-here end-here)
        ∙ child-shared ws k hk cell m low last only (number_lt k low) only_shared
        ∙ only-tally

-- in the code's words
module _ (k : ℕ) (low last : Point) (e : spreads_over k low last ≡ false) where
  pub above : k ≡ 0 → ⊥
  above z = true≢false (sym (ap (λ (b : Bool). cond b true (not (eqb (child_no_at (k - 1) low) (child_no_at (k - 1) last)))) (eq-eqb k 0 z)) ∙ e)

  same-child : child_no_at (k - 1) low ≡ child_no_at (k - 1) last
  same-child =
      let t : not (eqb (child_no_at (k - 1) low) (child_no_at (k - 1) last)) ≡ false = sym (ap (λ (b : Bool). cond b true (not (eqb (child_no_at (k - 1) low) (child_no_at (k - 1) last)))) (ne_eqb k 0 above)) ∙ e in
      eqb→eq (child_no_at (k - 1) low) (child_no_at (k - 1) last) (true-T (sym (not-not (eqb (child_no_at (k - 1) low) (child_no_at (k - 1) last))) ∙ ap not t))

  module _ (hk : k < heights) where
    pub one-spans : Spans (edge k) low last → Spans (edge (k - 1)) low last
    one-spans w = only-spans (k - 1) (omega arith) low last same-child (rw (one_up k above) w)

    pub one-child : (ws : List ℕ) (n m : ℕ) → pointer_part ws (k - 1) (child_taken (kept_of ws) (k - 1) n m low) m low last ≡ cell_part ws k n m low last
    one-child ws n m = only_child (k - 1) (omega arith) low last same-child ws n m ∙ ap (λ (j : ℕ). cell_part ws j n m low last) (one_up k above)
