-- What following a chain answers. Definitions only.
use Rattle.std.specs.Prelude.{◌≡◌, List, ℕ, ◌≤◌}
use Rattle.paper.specs.Store.{cells_at, kept_of}
use Rattle.laws.specs.Chains.{count_in, ChainRight}

-- r is no more than the cells of chain j of list k; it is as many exactly where the chain's words are right
pub record Followed (ws : List ℕ) (k j r : ℕ) : Type 0 where
  pub most : r ≤ count_in k j (cells_at (kept_of ws) k)
  pub right : ChainRight ws k j → r ≡ count_in k j (cells_at (kept_of ws) k)
  pub all : r ≡ count_in k j (cells_at (kept_of ws) k) → ChainRight ws k j
