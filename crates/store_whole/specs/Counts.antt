-- What testing a list's counts asks: its cells are usable, and no count below it is more than a cell has voxels. Definitions only.
use Rattle.std.specs.Prelude.{cond, List, ℕ, suc, ◌-◌, ◌^◌, ◌<◌, ◌≤◌, T, eqb}
use Rattle.paper.specs.Store.{heights, kept_count, kept_of, cell_no, count_of, list_usable}

-- what a pointer of list k stands for, as the words count it
abbrev pub share_of : List ℕ → ℕ → ℕ → ℕ
share_of ws k p = let r = count_of ws k (cell_no p) in cond (eqb p 0) 0 r

-- no kept cell of list k counts more than its voxels
abbrev pub Bounded : List ℕ → ℕ → Type 0
Bounded ws k = (n : ℕ) → n < kept_count ws k → count_of ws k n ≤ 8 ^ suc (suc k)

-- the counts of list k, k not 0, can be tested
pub record Countable (ws : List ℕ) (k : ℕ) : Type 0 where
  pub above : 1 ≤ k
  pub listed : k < heights
  pub usable : T (list_usable (kept_of ws) k)
  pub bounded : Bounded ws (k - 1)
