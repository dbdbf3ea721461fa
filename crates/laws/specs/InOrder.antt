-- A store in order: what adding asks of the words, and leaves, at every step. Definitions only.
use Rattle.std.specs.Prelude.{◌≡◌, false, List, ◌++◌, ℕ, suc, ◌^◌, ◌<◌, T, length, drop}
use Rattle.paper.specs.Store.{cells_at, cell_at, leaf_no, any_bad, used, capacity_of, kept_of, store_of, words_of, header_ok}

-- the words are those of the store that they hold, its counts and chains among them, each leaf has 64 bits, and no kept cell has a bad pointer
pub record InOrder (ws : List ℕ) : Type 0 where
  pub header : T (header_ok ws)
  pub own : words_of (store_of ws) ++ drop (used (capacity_of ws)) ws ≡ ws
  pub leaves : (q : ℕ) → q < length (cells_at (kept_of ws) 0) → leaf_no (cell_at (kept_of ws) 0 q) < 2 ^ 64
  pub sound : (k q : ℕ) → q < length (cells_at (kept_of ws) (suc k)) → any_bad (length (cells_at (kept_of ws) k)) (cell_at (kept_of ws) (suc k) q) ≡ false
