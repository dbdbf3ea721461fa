-- `test_cells` meets its contract. The invariant: every cell before n is usable, so the answer is that of the cells from n on. Assumes nothing.
use Rattle.std.proofs.Common.{◌≡◌, drop}
use Rattle.paper.specs.Numbers.{all_in}
use Rattle.paper.specs.Store.{kept_of, cells_at, cell_usable, list_usable}
use Rattle.store_whole.proofs.test_cells.Given as goal

abbrev pub invariant-loop-n : goal.invariant-loop-n
invariant-loop-n l = list_usable (kept_of l.store.words.now) l.k ≡ all_in (cell_usable l.below) (drop l.n (cells_at (kept_of l.store.words.now) l.k))
