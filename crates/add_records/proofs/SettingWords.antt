-- The words of a store in a setting, read back: its capacity, counts, lists and scenes held, and a header in order; and a cell more in one of its lists. By
-- the laws of a store's words. Assumes nothing.
use mathlib.Core.Path.{◌≡◌, ◌∙◌, ap}
use mathlib.Core.List.{List, [], ◌∷◌, ◌++◌}
use Prim.Native.Nat.{ℕ, ◌<◌}
use lib.Dec.{T}
use lib.ListN.{length, set}
use Rattle.paper.specs.Store.{Cell, cells_at, heights, cell_length, capacity_of, scenes_held, kept_count, kept_of, chain_of, row_of, header_ok}
use Rattle.laws.proofs.Words.{keep-fine, capacity-read, scenes-read, count-read, kept_read}
use Rattle.laws.proofs.Invariant.{OkCell, OkCells}
use Rattle.laws.specs.Chains.{last_of}
use Rattle.add_keep.specs.Keeping.{link_in, keep_in}
use Rattle.add_cells.specs.CellAdding.{kept_behind}
use Rattle.add_keep.proofs.Stored.{stored-header, keep-stored}
use Rattle.add_records.proofs.Settings.{Setting, words_with, Fitting}

module _ (g : Setting) (K : List (List Cell)) (f : Fitting g K) where
  abbrev ws : List ℕ
  ws = words_with g K

  pub capacity-is : capacity_of ws ≡ g.capacity
  capacity-is = capacity-read g.capacity g.held g.places K f g.behind

  pub held-is : scenes_held ws ≡ g.held
  held-is = scenes-read g.capacity g.held g.places K f g.behind

  pub count-is : (k : ℕ) → k < heights → kept_count ws k ≡ length (cells_at K k)
  count-is = count-read g.capacity g.held g.places K f g.behind

  pub lists-are : kept_of ws ≡ K
  lists-are = kept_read g.capacity g.held g.places K f g.behind

  pub header-in-order : T (header_ok ws)
  header-in-order = stored-header g.capacity g.held g.places K f g.behind g.capacity_ok_lem

  -- ---- a cell more in list k

  module _ (k : ℕ) (hk : k < heights) (c : Cell) (sized : length c ≡ cell_length k) (room : length (cells_at K k) < g.capacity) where
    abbrev more : List (List Cell)
    more = set K k (cells_at K k ++ (c ∷ []))

    pub more-fit : Fitting g more
    more-fit = keep-fine g.capacity g.held g.places K f k c sized room

    pub more-words : OkCells K → OkCell K k c → kept_behind k (chain_of k c) (row_of K k c) ws ≡ words_with g more
    unfolding kept_behind
    more-words ok okc =
        ap (λ (G : List (List Cell)). keep_in k (row_of K k c) (link_in k (chain_of k c) (last_of G k (chain_of k c)) ws)) lists-are
        ∙ keep-stored g.capacity g.held g.places K f g.behind k c hk ok okc sized room
