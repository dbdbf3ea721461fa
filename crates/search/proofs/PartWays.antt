-- A cell that the box shares some voxels with: one law for each way through the code. A box that is all of it; pointers of children that share a voxel
-- with the box, tested; then the children, one after another: one that is none or shares no voxel is passed over, in any other the box is cut to it. By
-- the cuts of a box. Assumes nothing.
use mathlib.Core.Path.{◌≡◌, refl, sym, ap, ap₂, ◌∙◌}
use mathlib.Core.Bool.{Bool, true, false, cond, ◌&&◌}
use mathlib.Core.List.{List}
use Prim.Native.Nat.{ℕ, suc, ◌-◌, ◌<◌}
use native.Mathlib.Omega.{arith}
use lib.Bits.{bit_xor}
use lib.Dec.{eqb}
use lib.ListN.{get_or}
use borrow.Author.Tests.{eq-eqb, ne_eqb}
use Rattle.paper.specs.Rooms.{Point, in_child, has_voxel, is_whole, clipped, origin, far}
use Rattle.paper.specs.Outline.{edge}
use Rattle.paper.specs.Store.{Cell, heights, kept_count, kept_of, cell_at, tag_of, cell_no, bad_pointer}
use Rattle.paper.specs.Anything.{pointer_search, cell_search, shared_bad}
use Rattle.paper.specs.Anything.{Search}
use Rattle.paper.specs.Anything.{Passed, Damaged}
use Rattle.laws.proofs.Tests.{none-at}
use Rattle.laws.proofs.Kept.{kept-length}
use Rattle.laws.proofs.Invariant.{named-kept}
use Rattle.laws.proofs.BoxTallies.{whole-box}
use Rattle.laws.proofs.SearchLaws.{rest_from, cell_bad_lem, cell-open}
use Rattle.points.specs.Points.{at}
use Rattle.boxes_parts.specs.declared.Part.{Part}
use Rattle.boxes_parts.specs.Parts.{NoPart, ChildPart, low_cut, high_cut, past_in, Spans}
use Rattle.search.specs.Searching.{search_part, whole_search, cell_bad, children_search}
use Rattle.search.proofs.Sharing.{span-voxel}

-- ---- a cell of list k

-- a box that is all of it
pub part-whole : (ws : List ℕ) (k n m : ℕ) (low last : Point) → is_whole (edge k) (in_child (edge k) low) (past_in (edge k) last) ≡ true
    → whole_search ws k n m ≡ search_part ws k n m low last
part-whole ws k n m low last t =
    let w : (in_child (edge k) low ≡ origin) × (past_in (edge k) last ≡ far (edge k)) = whole-box (edge k) (in_child (edge k) low) (past_in (edge k) last) t in
    sym (ap₂ (cell_search (kept_of ws) k n m) w.0 w.1)

-- no leaf, by the list below
module _ (ws : List ℕ) (k n m : ℕ) (low high : Point) (hk : k < heights) where
  abbrev lists : List (List Cell)
  lists = kept_of ws

  abbrev cell : Cell
  cell = cell_at lists (suc k) n

  shared-is : shared_bad lists k n m low high ≡ cell_bad (kept_count ws k) k cell m low high
  shared-is = ap (λ (a : ℕ). cell_bad a k cell m low high) (kept-length ws k hk)

  up-bad : cell_bad (kept_count ws k) k cell m low high ≡ true → Damaged ≡ cell_search lists (suc k) n m low high
  up-bad e = sym (cell_bad_lem lists k n m low high (shared-is ∙ e))

  up-open : cell_bad (kept_count ws k) k cell m low high ≡ false → children_search ws k cell m low high ≡ cell_search lists (suc k) n m low high
  unfolding children_search
  up-open e = sym (cell-open lists k n m low high (shared-is ∙ e))

-- in the code's words
module _ (ws : List ℕ) (k n m : ℕ) (low last : Point) (c : Cell) (hk : k < heights) (z : k ≡ 0 → ⊥) (ec : c ≡ cell_at (kept_of ws) k n) where
  abbrev low_of : Point
  low_of = in_child (edge (suc (k - 1))) low

  abbrev high_of : Point
  high_of = past_in (edge (suc (k - 1))) last

  up : suc (k - 1) ≡ k
  up = omega (arith, z)

  same : c ≡ cell_at (kept_of ws) (suc (k - 1)) n
  same = ec ∙ ap (λ (j : ℕ). cell_at (kept_of ws) j n) (sym up)

  abbrev bad : Cell → Bool
  bad d = cell_bad (kept_count ws (k - 1)) (k - 1) d m low_of high_of

  pub part-bad : bad c ≡ true → Damaged ≡ search_part ws k n m low last
  part-bad e = up-bad ws (k - 1) n m low_of high_of (omega arith) (ap bad (sym same) ∙ e) ∙ ap (λ (j : ℕ). search_part ws j n m low last) up

  pub part-children : bad c ≡ false → children_search ws (k - 1) c m low_of high_of ≡ search_part ws k n m low last
  part-children e =
      ap (λ (d : Cell). children_search ws (k - 1) d m low_of high_of) same
      ∙ up-open ws (k - 1) n m low_of high_of (omega arith) (ap bad (sym same) ∙ e)
      ∙ ap (λ (j : ℕ). search_part ws j n m low last) up

-- ---- the children of a cell c of list k + 1

-- child i, by the box's first voxel and its last
abbrev pub part_child : List ℕ → ℕ → Cell → ℕ → Point → Point → ℕ → Search
part_child ws k c m low last i =
    pointer_search (λ q t a b. cell_search (kept_of ws) k q t a b) (get_or c (bit_xor i m) 0) m (clipped (edge k) i (in_child (edge (suc k)) low)) (clipped (edge k) i (past_in (edge (suc k)) last))

module _ (ws : List ℕ) (k : ℕ) (c : Cell) (m : ℕ) (low last : Point) where
  pub children-begin : rest_from 8 0 (part_child ws k c m low last) 1 ≡ children_search ws k c m (in_child (edge (suc k)) low) (past_in (edge (suc k)) last)
  unfolding children_search
  children-begin = refl

  module _ (i : ℕ) where
    abbrev pointer : ℕ
    pointer = get_or c (bit_xor i m) 0

    abbrev low_in : Point
    low_in = low_cut k i low

    abbrev high_in : Point
    high_in = high_cut k i last

    -- by the two tests
    abbrev search_by_tests : Bool → Bool → Search
    search_by_tests v a = cond v (cond a (Passed 0) (cell_search (kept_of ws) k (cell_no pointer) (bit_xor (tag_of pointer) m) low_in high_in)) (Passed 0)

    none : (v : Bool) → search_by_tests v true ≡ Passed 0
    none true = refl
    none false = refl

    -- no child
    pub child-absent : pointer ≡ 0 → part_child ws k c m low last i ≡ Passed 0
    child-absent z = ap (search_by_tests (has_voxel low_in high_in)) (eq-eqb pointer 0 z) ∙ none (has_voxel low_in high_in)

    -- one that has no part of the box
    pub child-apart : NoPart k i low last → part_child ws k c m low last i ≡ Passed 0
    child-apart e = ap (λ (v : Bool). search_by_tests v (eqb pointer 0)) e

    -- one that has
    module _ (part : Part) (p : ChildPart k i low last part) (s : Spans (edge (suc k)) low last) (there : pointer ≡ 0 → ⊥) where
      voxel : has_voxel low_in high_in ≡ true
      voxel = ap₂ has_voxel p.begins p.ends ∙ span-voxel (edge k) (at part.low) (at part.last) (p.spans s)

      pub child-entered : search_part ws k (cell_no pointer) (bit_xor (tag_of pointer) m) (at part.low) (at part.last) ≡ part_child ws k c m low last i
      child-entered =
          sym (ap₂ search_by_tests voxel (ne_eqb pointer 0 there) ∙ ap₂ (cell_search (kept_of ws) k (cell_no pointer) (bit_xor (tag_of pointer) m)) p.begins p.ends)

      pub child-kept : (n : ℕ) → i < 8 → cell_bad n k c m (in_child (edge (suc k)) low) (past_in (edge (suc k)) last) ≡ false → cell_no pointer < n
      child-kept n hi b =
          let t : has_voxel low_in high_in && bad_pointer n pointer ≡ false =
          none-at 8 (λ j. has_voxel (low_cut k j low) (high_cut k j last) && bad_pointer n (get_or c (bit_xor j m) 0)) b i hi in
          named-kept n pointer (sym (ap (λ (v : Bool). v && bad_pointer n pointer) voxel) ∙ t) there
