-- A cell wholly inside the box: one law for each way through the code. All its eight pointers are tested, in the order in which they are stored; then its
-- children are searched one after another, each wholly inside. A child that names a cell entered before, which met nothing, meets nothing after as many
-- cells: by the law of mirrors. Assumes nothing.
use mathlib.Core.Path.{◌≡◌, refl, sym, ap, ap₂, ◌∙◌, subst}
use mathlib.Core.Bool.{Bool, true, false, cond, ◌&&◌}
use mathlib.Core.List.{List}
use mathlib.Core.Logic.{◌⊎◌, inl, inr}
use Prim.Native.Nat.{ℕ, suc, ◌+◌, ◌-◌, ◌<◌}
use native.Mathlib.Nat.{eq-or-lt_of_le, lt_irrefl}
use native.Mathlib.Omega.{arith}
use lib.Bits.{bit_xor}
use lib.Dec.{eqb}
use lib.ListN.{length, get_or, set}
use lib.Seq.{get_or-set_same, get_or-set_other}
use borrow.Author.Tests.{eq-eqb, ne_eqb}
use Rattle.paper.specs.Numbers.{any_below}
use Rattle.paper.specs.Rooms.{origin, far, is_whole, has_voxel, clipped}
use Rattle.paper.specs.Outline.{edge}
use Rattle.paper.specs.Store.{Cell, heights, kept_count, kept_of, cells_at, cell_at, tag_of, cell_no, bad_pointer, any_bad}
use Rattle.paper.specs.Anything.{further, in_order, shared_bad, cell_search}
use Rattle.paper.specs.Anything.{Search}
use Rattle.paper.specs.Anything.{Passed, Damaged}
use Rattle.laws.proofs.Tests.{any_at, at-any, any_same, none-at, iff-eq, T_true, true-T}
use Rattle.laws.proofs.Eight.{xor8-lt, xor8-back}
use Rattle.laws.proofs.Kept.{kept-length}
use Rattle.laws.proofs.Matching.{tag-lt}
use Rattle.laws.proofs.Invariant.{named-kept}
use Rattle.laws.proofs.Counts.{origin-clipped}
use Rattle.laws.proofs.SearchLaws.{rest_from, cell_bad_lem, cell-open, far-child, whole-voxel, whole_pointer, child-inside, passed-mirrors}
use Rattle.search.specs.Searching.{whole_search, Names, FirstNamed}

-- eight tests in another order
any-turned : (f : ℕ → Bool) (m : ℕ) → m < 8 → any_below 8 (λ i. f (bit_xor i m)) ≡ any_below 8 f
any-turned f m h =
    iff-eq (any_below 8 (λ i. f (bit_xor i m))) (any_below 8 f)
    (λ t. let w : (i : ℕ) × (i < 8) × (f (bit_xor i m) ≡ true) = any_at 8 (λ i. f (bit_xor i m)) (T_true t) in
    true-T (at-any 8 f (bit_xor w.0 m) (xor8-lt w.0 m w.1 h) w.2))
    (λ t. let w : (i : ℕ) × (i < 8) × (f i ≡ true) = any_at 8 f (T_true t) in
    true-T (at-any 8 (λ i. f (bit_xor i m)) (bit_xor w.0 m) (xor8-lt w.0 m w.1 h) (ap f (xor8-back w.0 m w.1 h) ∙ w.2)))

-- child i of cell c of list k + 1, seen under m, wholly inside
abbrev pub whole_child : List ℕ → ℕ → Cell → ℕ → ℕ → Search
whole_child ws k c m i = whole_pointer (kept_of ws) k (get_or c (bit_xor i m) 0) m

-- ---- a cell of list k + 1

module _ (ws : List ℕ) (k n m : ℕ) (hk : k < heights) (hm : m < 8) where
  abbrev lists : List (List Cell)
  lists = kept_of ws

  abbrev cell : Cell
  cell = cell_at lists (suc k) n

  -- its pointers that are tested
  all-shared : shared_bad lists k n m origin (far (edge (suc k))) ≡ any_bad (kept_count ws k) cell
  all-shared =
      let bad : ℕ → Bool = λ j. bad_pointer (length (cells_at lists k)) (get_or cell j 0) in
      any_same 8 (λ i. has_voxel (clipped (edge k) i origin) (clipped (edge k) i (far (edge (suc k)))) && bad (bit_xor i m)) (λ i. bad (bit_xor i m)) (λ i h.
      ap (λ (b : Bool). b && bad (bit_xor i m)) (ap₂ has_voxel (origin-clipped (edge k) i) (far-child k i) ∙ whole-voxel k))
      ∙ any-turned bad m hm
      ∙ ap (λ (a : ℕ). any_bad a cell) (kept-length ws k hk)

  up-bad : any_bad (kept_count ws k) cell ≡ true → Damaged ≡ whole_search ws (suc k) n m
  up-bad e = sym (cell_bad_lem lists k n m origin (far (edge (suc k))) (all-shared ∙ e))

  up-open : any_bad (kept_count ws k) cell ≡ false → rest_from 8 0 (whole_child ws k cell m) 1 ≡ whole_search ws (suc k) n m
  up-open e = sym (cell-open lists k n m origin (far (edge (suc k))) (all-shared ∙ e) ∙ (λ j. further 1 (in_order 0 8 (λ i. child-inside lists k n m i j))))

-- in the code's words: a cell of list k, no leaf
module _ (ws : List ℕ) (k n m : ℕ) (c : Cell) (hk : k < heights) (hm : m < 8) (z : k ≡ 0 → ⊥) (ec : c ≡ cell_at (kept_of ws) k n) where
  up : suc (k - 1) ≡ k
  up = omega (arith, z)

  same : c ≡ cell_at (kept_of ws) (suc (k - 1)) n
  same = ec ∙ ap (λ (j : ℕ). cell_at (kept_of ws) j n) (sym up)

  pub whole-bad : any_bad (kept_count ws (k - 1)) c ≡ true → Damaged ≡ whole_search ws k n m
  whole-bad e = up-bad ws (k - 1) n m (omega arith) hm (ap (any_bad (kept_count ws (k - 1))) (sym same) ∙ e) ∙ ap (λ (j : ℕ). whole_search ws j n m) up

  pub whole_open : any_bad (kept_count ws (k - 1)) c ≡ false → rest_from 8 0 (whole_child ws (k - 1) c m) 1 ≡ whole_search ws k n m
  whole_open e =
      ap (λ (d : Cell). rest_from 8 0 (whole_child ws (k - 1) d m) 1) same
      ∙ up-open ws (k - 1) n m (omega arith) hm (ap (any_bad (kept_count ws (k - 1))) (sym same) ∙ e)
      ∙ ap (λ (j : ℕ). whole_search ws j n m) up

-- ---- a child

module _ (ws : List ℕ) (k : ℕ) (c : Cell) (m i : ℕ) where
  abbrev pointer : ℕ
  pointer = get_or c (bit_xor i m) 0

  -- none
  pub child-none : pointer ≡ 0 → whole_child ws k c m i ≡ Passed 0
  child-none e = ap (λ (b : Bool). cond b (Passed 0) (cell_search (kept_of ws) k (cell_no pointer) (bit_xor (tag_of pointer) m) origin (far (edge k)))) (eq-eqb pointer 0 e)

  -- a cell
  pub child-there : (pointer ≡ 0 → ⊥) → whole_search ws k (cell_no pointer) (bit_xor (tag_of pointer) m) ≡ whole_child ws k c m i
  child-there z = sym (ap (λ (b : Bool). cond b (Passed 0) (cell_search (kept_of ws) k (cell_no pointer) (bit_xor (tag_of pointer) m) origin (far (edge k)))) (ne_eqb pointer 0 z))

  pub child-kept : (n : ℕ) → m < 8 → i < 8 → any_bad n c ≡ false → (pointer ≡ 0 → ⊥) → cell_no pointer < n
  child-kept n hm hi e z = named-kept n pointer (none-at 8 (λ j. bad_pointer n (get_or c j 0)) e (bit_xor i m) (xor8-lt i m hi hm)) z

all_whole : (S : ℕ) → is_whole S origin (far S) ≡ true
all_whole S = ap (λ (b : Bool). (eqb 0 0 && b) && (eqb 0 0 && b) && (eqb 0 0 && b)) (eq-eqb S S refl)

-- the cell of an earlier child, which met nothing
pub child-again : (ws : List ℕ) (k : ℕ) (c : Cell) (m i j e : ℕ) → m < 8 → (get_or c (bit_xor i m) 0 ≡ 0 → ⊥) → Names c m i j → whole_child ws k c m j ≡ Passed e
    → whole_child ws k c m i ≡ Passed e
child-again ws k c m i j e hm z n q =
    let p : ℕ = get_or c (bit_xor i m) 0 in
    let t : ℕ = tag_of (get_or c (bit_xor j m) 0) in
    sym (child-there ws k c m i z)
    ∙ passed-mirrors (kept_of ws) k (cell_no p) (bit_xor t m) (bit_xor (tag_of p) m) origin (far (edge k)) e (xor8-lt t m (tag-lt (get_or c (bit_xor j m) 0)) hm) (xor8-lt (tag_of p) m (tag-lt p) hm) (all_whole (edge k))
    (ap (λ (a : ℕ). whole_search ws k a (bit_xor t m)) (sym n.same) ∙ child-there ws k c m j n.there ∙ q)

-- ---- what the code remembers: for each child before i that was entered, after how many cells it was passed

abbrev pub Remembers : List ℕ → ℕ → Cell → ℕ → ℕ → List ℕ → Type 0
Remembers ws k c m i passed =
    (j : ℕ) → j < i → (get_or c (bit_xor j m) 0 ≡ 0 → ⊥) → ((l : ℕ) → l < j → Names c m j l → ⊥) → whole_child ws k c m j ≡ Passed (get_or passed j 0)

module _ (ws : List ℕ) (k : ℕ) (c : Cell) (m : ℕ) (passed : List ℕ) where
  module _ (i : ℕ) (r : Remembers ws k c m i passed) where
    -- of the next child nothing, since it was not entered
    skip : ((get_or c (bit_xor i m) 0 ≡ 0 → ⊥) → ((l : ℕ) → l < i → Names c m i l → ⊥) → ⊥) → Remembers ws k c m (i + 1) passed
    skip never j h z first = go (eq-or-lt_of_le (omega arith))
      where
        go : (j ≡ i) ⊎ (j < i) → whole_child ws k c m j ≡ Passed (get_or passed j 0)
        go (inl e) = absurd (never (subst (λ (a : ℕ). get_or c (bit_xor a m) 0 ≡ 0 → ⊥) e z) (subst (λ (a : ℕ). (l : ℕ) → l < a → Names c m a l → ⊥) e first))
        go (inr l) = r j l z first

    pub remembers-absent : get_or c (bit_xor i m) 0 ≡ 0 → Remembers ws k c m (i + 1) passed
    remembers-absent e = skip (λ z first. z e)

    module _ (b : ℕ) (f : FirstNamed c m i b) (h : b < i) where
      pub remembers-again : Remembers ws k c m (i + 1) passed
      remembers-again = skip (λ z first. first b h (f.named h))

      -- what is remembered of it
      pub known-child : m < 8 → (get_or c (bit_xor i m) 0 ≡ 0 → ⊥) → whole_child ws k c m i ≡ Passed (get_or passed b 0)
      known-child hm z =
          let n : Names c m i b = f.named h in
          child-again ws k c m i b (get_or passed b 0) hm z n
          (r b h n.there (λ l a w. f.first l a (record { there = w.there; same = w.same ∙ n.same })))

    -- the next child was entered
    pub remembers-more : (e : ℕ) → i < length passed → whole_child ws k c m i ≡ Passed e → Remembers ws k c m (i + 1) (set passed i e)
    remembers-more e h q j a z first = go (eq-or-lt_of_le (omega arith))
      where
        go : (j ≡ i) ⊎ (j < i) → whole_child ws k c m j ≡ Passed (get_or (set passed i e) j 0)
        go (inl y) = ap (whole_child ws k c m) y ∙ q ∙ ap Passed (sym (ap (λ (x : ℕ). get_or (set passed i e) x 0) y ∙ get_or-set_same passed i e 0 h))
        go (inr l) = r j l z first ∙ ap Passed (sym (get_or-set_other passed i j e 0 (λ y. lt_irrefl i (subst (λ (x : ℕ). x < i) y l))))
