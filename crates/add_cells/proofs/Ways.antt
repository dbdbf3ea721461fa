-- The clauses of adding a cell as the code comes to them: found, kept or refused. By the value of each test on the way, at which the definitions
-- compute. Assumes nothing.
use mathlib.Core.Path.{◌≡◌, refl, sym, ap, ap₂, subst, ◌∙◌}
use mathlib.Core.Bool.{Bool, true, false, not}
use mathlib.Core.List.{List, ◌++◌}
use mathlib.Core.Option.{Option, some}
use mathlib.Core.Option as O
use Prim.Native.Nat.{ℕ, zero, suc, ◌*◌, ◌/◌, ◌^◌, ◌<◌, ◌≤◌}
use native.Mathlib.Omega.{arith}
use native.Mathlib.Decide.{dec_lt}
use lib.Dec.{eqb, leb, ltb}
use borrow.Author.Tests.{lt-ltb, le-ltb, le-leb, lt-leb, ltb-true, not-true, not-false}
use Rattle.paper.specs.Leaf.{mirror_leaf}
use Rattle.paper.specs.Store.{Cell, cells_at, pointer, chains, capacity_of, kept_count, two_words, kept_of, stride, leaf_solid, key_of, chain_of}
use Rattle.paper.specs.Match.{matches, find, leaf_cell}
use Rattle.laws.specs.Symmetries.{symmetry_for, symmetry_match}
use Rattle.laws.specs.Chains.{last_of}
use Rattle.laws.proofs.Kept.{kept-length}
use Rattle.laws.proofs.AddingTrees.{leaf-words}
use Rattle.laws.proofs.ChainEnds.{last-most}
use Rattle.add_keep.specs.Keeping.{Room, Behind, link_in, keep_in}
use Rattle.add_seek.specs.declared.find.Sought.{Sought}
use Rattle.add_seek.specs.declared.find.Sought.TheVariants.{Nowhere}
use Rattle.add_seek.specs.Sought.{EndsAt}
use Rattle.add_cells.specs.CellAdding.{cell_added, cell_full, kept_behind, kept_with, found_or, add_leaf_in, add_cell_in}

-- ---- keeping, and seeking

-- at least so many are kept as there may be: no room
pub room-test : (n C : ℕ) → leb C n ≡ not (ltb n C)
room-test n C = go (dec_lt n C)
  where
    go : Dec (n < C) → leb C n ≡ not (ltb n C)
    go (yes h) = rw (lt-ltb n C h, lt-leb C n h)
    go (no g) = rw (le-ltb n C (omega arith), le-leb C n (omega arith))

pub some-room : (n C : ℕ) (b : Bool) → b ≡ not (ltb n C) → b ≡ false → n < C
some-room n C b e t = ltb-true n C (not-false (ltb n C) (sym e ∙ t))

-- a cell or a leaf that is nowhere, of the words c and in chain j, by the test of room
module _ (symmetry k j : ℕ) (c ws : List ℕ) (b : Bool) (e : b ≡ not (ltb (kept_count ws k) (capacity_of ws))) where
  pub keep-full : b ≡ true → cell_full ws ≡ kept_with symmetry k j c ws
  unfolding kept_with
  keep-full t = rw (not-true (ltb (kept_count ws k) (capacity_of ws)) (sym e ∙ t)) refl

  pub keep-next : b ≡ false → {p last : ℕ} {l : List ℕ} → p ≡ pointer 0 (kept_count ws k) → last ≡ last_of (kept_of ws) k j → l ≡ keep_in k c (link_in k j last ws)
      → cell_added p symmetry l ≡ kept_with symmetry k j c ws
  unfolding kept_with kept_behind
  keep-next t f h g =
      rw (not-false (ltb (kept_count ws k) (capacity_of ws)) (sym e ∙ t))
      (ap₂ (λ (q : ℕ) (m : List ℕ). cell_added q symmetry m) f (g ∙ ap (λ (n : ℕ). keep_in k c (link_in k j n ws)) h))

module _ (symmetry k j : ℕ) (c ws : List ℕ) where
  -- found, as the search says
  pub found_at : (o : Option ℕ) (p : ℕ) → o ≡ some p → found_or o symmetry k j c ws ≡ cell_added p symmetry ws
  unfolding found_or
  found_at o p e = rw e

  pub found_nowhere : (o : Option ℕ) → o ≡ O.none → found_or o symmetry k j c ws ≡ kept_with symmetry k j c ws
  unfolding found_or
  found_nowhere o e = rw e

-- by what the search and the symmetry came to
pub leaf-by : (n : ℕ) (ws : List ℕ) (o : Option ℕ) (symmetry : ℕ) → o ≡ find (λ b t. matches (kept_of ws) 0 (leaf_cell n) b t) (cells_at (kept_of ws) 0) 0
    → symmetry ≡ symmetry_for (λ t. eqb n (mirror_leaf t n)) → found_or o symmetry 0 (chain_of 0 (leaf_cell n)) (leaf_cell n) ws ≡ add_leaf_in n ws
unfolding add_leaf_in
leaf-by n ws o symmetry e f = ap₂ (λ (x : Option ℕ) (m : ℕ). found_or x m 0 (chain_of 0 (leaf_cell n)) (leaf_cell n) ws) e f

pub cell-by : (k : ℕ) (c : Cell) (ms : List ℕ) (n : ℕ) (ws : List ℕ) (o : Option ℕ) (symmetry : ℕ) → o ≡ find (symmetry_match ms c) (cells_at (kept_of ws) k) 0
    → symmetry ≡ symmetry_for (symmetry_match ms c c) → found_or o symmetry k (chain_of k c) (c ++ two_words n) ws ≡ add_cell_in k c ms n ws
unfolding add_cell_in
cell-by k c ms n ws o symmetry e f = ap₂ (λ (x : Option ℕ) (m : ℕ). found_or x m k (chain_of k c) (c ++ two_words n) ws) e f

-- ---- the chain that is computed is the cell's

pub leaf-chain : (n r : ℕ) → r ≡ leaf_solid n → r ≡ chain_of 0 (leaf_cell n)
leaf-chain n r e = e ∙ ap leaf_solid (sym (leaf-words n))

pub cell-chain : (k : ℕ) (c : Cell) (r : ℕ) → 1 ≤ k → r ≡ key_of c / 2 ^ 24 → r ≡ chain_of k c
cell-chain zero c r l e = absurd (omega arith)
cell-chain (suc k) c r l e = e

-- and its last cell what the search came to
pub last_in_lem : (K : List (List Cell)) (k : ℕ) {j i last : ℕ} (s : Sought) → j ≡ i → EndsAt s (last_of K k i) → s ≡ Nowhere last → last ≡ last_of K k j
last_in_lem K k {j} {i} s e h q = subst (λ (x : Sought). EndsAt x (last_of K k i)) q h ∙ ap (last_of K k) (sym e)

-- ---- the last cell of a chain can have one behind it

pub last-behind : (ws : List ℕ) (k j last : ℕ) → Room k ws → j < chains → last ≡ last_of (kept_of ws) k j → Behind k j last ws
last-behind ws k j last room few e = record {
  room = room;
  chain = few;
  kept = omega (arith, e, last-most k j (cells_at (kept_of ws) k), kept-length ws k room.list);
}

-- a cell above the leaves has ten words
pub inner-stride : (k : ℕ) → 1 ≤ k → 10 ≡ stride k
inner-stride zero h = absurd (omega arith)
inner-stride (suc k) h = refl

-- and any cell few enough for memory
pub words-few : (n k : ℕ) → n ≡ stride k → n * 4 < 9223372036854775808
words-few n zero e = omega (arith, e)
words-few n (suc k) e = omega (arith, e)
