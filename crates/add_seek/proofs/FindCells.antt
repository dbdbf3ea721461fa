-- A cell above the leaves: its chain, and that only cells of its chain match it, in a store that is in order; nor does one of another key, nor one with another number
-- in the first place. By the numbers and keys of cells that match. Assumes nothing.
use mathlib.Core.Path.{◌≡◌, refl, sym, ap, subst, ◌∙◌}
use mathlib.Core.Bool.{false}
use mathlib.Core.List.{List}
use Prim.Native.Nat.{ℕ, zero, suc, ◌-◌, ◌/◌, ◌^◌, ◌<◌, ◌≤◌}
use native.Mathlib.Nat.{not-suc-le-zero}
use borrow.Author.Tests.{eqb-false}
use lib.Bits.{xor_zero_l}
use lib.Dec.{eqb, lit<}
use lib.ListN.{get_or}
use Rattle.paper.specs.Store.{Cell, cells_at, cell_at, low_of, heights, pointer, capacity_of, head_position, next_position, kept_count, kept_of, key_of, chain_of}
use Rattle.laws.specs.Symmetries.{symmetry_match}
use Rattle.laws.specs.Chains.{last_of, NamesCells}
use Rattle.laws.proofs.Tests.{false-unless}
use Rattle.laws.proofs.Kept.{kept-length}
use Rattle.laws.proofs.Chains.{Only, lowest-none, chain-few}
use Rattle.laws.proofs.Keys.{match-lows, match-key, only-symmetries}
use Rattle.laws.specs.InOrder.{InOrder}
use Rattle.laws.proofs.InOrder.{order-names}
use Rattle.paper.specs.Match.{lowest, find}
use Rattle.add_seek.proofs.FindChain.{Along, KeptAt, search-head, search-at, search-next, along-found, along-nowhere, along-last}
use mathlib.Core.Option.{Option, some}
use mathlib.Core.Option as O

pub cell-chain : (k : ℕ) (c : Cell) → 1 ≤ k → key_of c / 2 ^ 24 ≡ chain_of k c
cell-chain zero c o = absurd (not-suc-le-zero o)
cell-chain (suc k) c o = refl

-- a kept cell's pointers name cells
pub kept-names : (ws : List ℕ) → InOrder ws → (k q : ℕ) → 1 ≤ k → k < heights → q < kept_count ws k → NamesCells (cell_at (kept_of ws) k q)
kept-names ws order zero q o hk h = absurd (not-suc-le-zero o)
kept-names ws order (suc k) q o hk h = order-names ws order k q (rw (kept-length ws (suc k) hk) h)

module _ (ms : List ℕ) (a b : Cell) (na : NamesCells a) (nb : NamesCells b) where
  -- a cell of another key matches under no mirror
  pub key-differs : (key_of b ≡ key_of a → ⊥) → O.none ≡ lowest 8 0 (symmetry_match ms a b)
  key-differs n = sym (lowest-none 8 0 (symmetry_match ms a b) (λ t h. false-unless (symmetry_match ms a b t) (λ m. n (sym (match-key 0 ms a b t h na nb m)))))

  -- nor does one match under a mirror that brings another number to the first place
  pub first-differs : (t : ℕ) → t < 8 → eqb (low_of (get_or a 0 0)) (low_of (get_or b t 0)) ≡ false → symmetry_match ms a b t ≡ false
  first-differs t h d =
      false-unless (symmetry_match ms a b t)
      (λ m. eqb-false _ _ d (match-lows 0 ms a b t h na nb m 0 (lit< tt) ∙ ap (λ (i : ℕ). low_of (get_or b i 0)) (xor_zero_l t)))

pub only-cells : (ws : List ℕ) → InOrder ws → (k : ℕ) → 1 ≤ k → (ms : List ℕ) (c : Cell) → NamesCells c
    → Only k (chain_of k c) (symmetry_match ms c) (cells_at (kept_of ws) k)
only-cells ws order zero o ms c names = absurd (not-suc-le-zero o)
only-cells ws order (suc k) o ms c names =
    only-symmetries k ms c (cells_at (kept_of ws) (suc k)) names (order-names ws order k)

-- ---- the search for a cell in its chain, in a store that is in order

-- where the search is: `last` is passed, n is the next
abbrev pub CellSearch : List ℕ → ℕ → Cell → List ℕ → ℕ → ℕ → Type 0
CellSearch ws k c ms last n = Along k (chain_of k c) (symmetry_match ms c) (cells_at (kept_of ws) k) last n

module _ {ws : List ℕ} (order : InOrder ws) (k : ℕ) (c : Cell) (ms : List ℕ) (inner : (1 ≤ k) × (k < heights)) where
  pub cell-head : {j n : ℕ} → j ≡ key_of c / 2 ^ 24 → n ≡ get_or ws (head_position (capacity_of ws) k j) 0 → CellSearch ws k c ms 0 n
  cell-head chained e =
      search-head ws order k inner.1 (chain_of k c) (symmetry_match ms c) (chain-few k c)
      (e ∙ ap (λ (i : ℕ). get_or ws (head_position (capacity_of ws) k i) 0) (chained ∙ cell-chain k c inner.0))

  module _ {last n : ℕ} (a : CellSearch ws k c ms last n) where
    module _ (one : n ≡ 0 → ⊥) where
      pub cell-kept-at : KeptAt ws k last n
      cell-kept-at = search-at ws order k inner.1 (chain_of k c) (symmetry_match ms c) a one

      pub cell-names : {b : Cell} → b ≡ cell_at (kept_of ws) k (n - 1) → NamesCells b
      cell-names e = subst NamesCells (sym e) (kept-names ws order k (n - 1) inner.0 inner.1 cell-kept-at.kept)

      module _ (names : NamesCells c) {b : Cell} (is : b ≡ cell_at (kept_of ws) k (n - 1)) where
        pub cell-next : O.none ≡ lowest 8 0 (symmetry_match ms c b) → {m : ℕ} → m ≡ get_or ws (next_position (capacity_of ws) k (n - 1)) 0 → CellSearch ws k c ms n m
        cell-next none e =
            search-next ws order k inner.1 (chain_of k c) (symmetry_match ms c) a one (only-cells ws order k inner.0 ms c names)
            (none ∙ ap (λ (x : Cell). lowest 8 0 (symmetry_match ms c x)) is) e

        pub cell-found : {t p : ℕ} → some t ≡ lowest 8 0 (symmetry_match ms c b) → p ≡ pointer t (n - 1) → some p ≡ find (symmetry_match ms c) (cells_at (kept_of ws) k) 0
        cell-found found e =
            ap some e
            ∙ along-found k (chain_of k c) (symmetry_match ms c) (cells_at (kept_of ws) k) a one (only-cells ws order k inner.0 ms c names)
            (found ∙ ap (λ (x : Cell). lowest 8 0 (symmetry_match ms c x)) is)

    module _ (over : n ≡ 0) where
      pub cell-nowhere : NamesCells c → O.none ≡ find (symmetry_match ms c) (cells_at (kept_of ws) k) 0
      cell-nowhere names = along-nowhere k (chain_of k c) (symmetry_match ms c) (cells_at (kept_of ws) k) a over (only-cells ws order k inner.0 ms c names)

      pub cell-last : last ≡ last_of (kept_of ws) k (chain_of k c)
      cell-last = along-last k (chain_of k c) (symmetry_match ms c) (cells_at (kept_of ws) k) a over
