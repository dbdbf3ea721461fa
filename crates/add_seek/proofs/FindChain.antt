-- The search along a chain, in the loop's words. `last` is the cell passed, its number plus 1, or 0; n is the next of the chain, or 0: seeking among all cells
-- is seeking among those from `last` on, and the last of the chain is theirs. By the laws of chains. Assumes nothing.
use mathlib.Core.Path.{◌≡◌, refl, sym, ap, ◌∙◌, subst}
use mathlib.Core.Bool.{Bool}
use mathlib.Core.List.{List, []}
use mathlib.Core.Option.{Option, some}
use mathlib.Core.Option as O
use Prim.Native.Nat.{ℕ, suc, ◌-◌, ◌<◌, ◌≤◌, zero-le}
use native.Mathlib.Omega.{arith}
use lib.ListN.{length, drop, get_or}
use Rattle.paper.specs.Store.{Cell, cells_at, cell_at, most_capacity, heights, chains, pointer, capacity_of, kept_count, head_position, next_position, kept_of, first_in}
use Rattle.paper.specs.Match.{lowest, or_found, find}
use Rattle.laws.specs.Chains.{last_in}
use Rattle.laws.proofs.Kept.{kept-length}
use Rattle.laws.proofs.Chains.{Next, Only, next-at, next-is, rest-none, rest-first}
use Rattle.laws.proofs.ChainEnds.{last_none, last_rest}
use Rattle.laws.proofs.ChainWords.{head-right, next-right}
use Rattle.laws.specs.InOrder.{InOrder}
use Rattle.laws.proofs.InOrder.{order-header, order-chained}
use Rattle.store.proofs.HeaderFacts.{Header, header}

-- ---- among cells

module _ (k j : ℕ) (p : Cell → ℕ → Bool) (cs : List Cell) where
  pub record Along (last n : ℕ) : Type 0 where
    pub within : last ≤ length cs
    pub next : n ≡ first_in k j last (drop last cs)
    pub finds : find p cs 0 ≡ find p (drop last cs) last
    pub ends : last_in k j 0 0 cs ≡ last_in k j last last (drop last cs)

  pub along-head : {n : ℕ} → n ≡ first_in k j 0 cs → Along 0 n
  along-head e = record { within = zero-le; next = e; finds = refl; ends = refl }

  module _ {last n : ℕ} (a : Along last n) where
    -- a cell of the chain
    module _ (one : n ≡ 0 → ⊥) where
      number : suc (n - 1) ≡ n
      number = omega arith

      there : first_in k j last (drop last cs) ≡ suc (n - 1)
      there = sym a.next ∙ sym number

      pub along-at : Next k j cs last (n - 1)
      along-at = next-at k j cs last (n - 1) there

      module _ (only : Only k j p cs) where
        found : (o : Option ℕ) → lowest 8 0 (p (get_or cs (n - 1) [])) ≡ o → find p cs 0 ≡ or_found o (n - 1) (find p (drop (suc (n - 1)) cs) (suc (n - 1)))
        found o e =
            a.finds ∙ rest-first k j p cs last (n - 1) only there
            ∙ ap (λ (r : Option ℕ). or_found r (n - 1) (find p (drop (suc (n - 1)) cs) (suc (n - 1)))) e

        -- it is the one sought
        pub along-found : {t : ℕ} → some t ≡ lowest 8 0 (p (get_or cs (n - 1) [])) → some (pointer t (n - 1)) ≡ find p cs 0
        along-found {t} is = sym (found (some t) (sym is))

        -- it is not, and m is the next
        pub along-next : O.none ≡ lowest 8 0 (p (get_or cs (n - 1) [])) → {m : ℕ} → m ≡ first_in k j (suc (n - 1)) (drop (suc (n - 1)) cs) → Along n m
        along-next is {m} e =
            subst (λ (l : ℕ). Along l m) number (record {
              within = along-at.inside;
              next = e;
              finds = found O.none (sym is);
              ends = a.ends ∙ last_rest k j last cs last (n - 1) there;
            })

    -- the chain's end
    pub along-nowhere : n ≡ 0 → Only k j p cs → O.none ≡ find p cs 0
    along-nowhere z only = sym (a.finds ∙ rest-none k j p cs last only (sym a.next ∙ z))

    pub along-last : n ≡ 0 → last ≡ last_in k j 0 0 cs
    along-last z = sym (a.ends ∙ last_none k j last last (drop last cs) (sym a.next ∙ z))

-- ---- by the words of a store

-- n is the number plus 1 of a cell kept in list k, past the last
pub record KeptAt (ws : List ℕ) (k last n : ℕ) : Type 0 where
  pub past : last < n
  pub least : 1 ≤ n
  pub kept : n - 1 < kept_count ws k
  pub inside : n ≤ capacity_of ws
  pub few : n ≤ most_capacity

module _ (ws : List ℕ) (order : InOrder ws) (k : ℕ) (hk : k < heights) (j : ℕ) (p : Cell → ℕ → Bool) where
  -- the loop's state
  abbrev pub Search : ℕ → ℕ → Type 0
  Search last n = Along k j p (cells_at (kept_of ws) k) last n

  -- the chain's head
  pub search-head : j < chains → {n : ℕ} → n ≡ get_or ws (head_position (capacity_of ws) k j) 0 → Search 0 n
  search-head hj e =
      along-head k j p (cells_at (kept_of ws) k) (e ∙ head-right ws (order-header ws order).long (order-chained ws order) k j hk hj)

  module _ {last n : ℕ} (a : Search last n) (one : n ≡ 0 → ⊥) where
    pub search-at : KeptAt ws k last n
    search-at =
        let at : Next k j (cells_at (kept_of ws) k) last (n - 1) = along-at k j p (cells_at (kept_of ws) k) a one in
        let least : 1 ≤ n = omega arith in
        let kept : n - 1 < kept_count ws k = rw (kept-length ws k hk) at at.inside in
        let h : Header ws = header ws order.header in
        let inside : n ≤ capacity_of ws = omega (arith, h.counts k hk) in
        record { past = omega (arith, at.from); least = least; kept = kept; inside = inside; few = omega (arith, h.most) }

    -- what follows the cell, which is not the one sought
    pub search-next : Only k j p (cells_at (kept_of ws) k) → O.none ≡ lowest 8 0 (p (cell_at (kept_of ws) k (n - 1))) → {m : ℕ}
        → m ≡ get_or ws (next_position (capacity_of ws) k (n - 1)) 0 → Search n m
    search-next only is e =
        let at : Next k j (cells_at (kept_of ws) k) last (n - 1) = along-at k j p (cells_at (kept_of ws) k) a one in
        along-next k j p (cells_at (kept_of ws) k) a one only is
        (e ∙ next-right ws (order-header ws order).long (order-chained ws order) k (n - 1) hk (omega (arith, search-at.inside, search-at.least)) ∙ next-is (kept_of ws) k j (n - 1) at.is)
