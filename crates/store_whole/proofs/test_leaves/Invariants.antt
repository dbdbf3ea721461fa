-- `test_leaves` meets its contract. The invariant: no leaf before n is empty, so the answer is that of the leaves from n on. Assumes nothing.
use Rattle.std.proofs.Common.{◌≡◌, drop}
use Rattle.paper.specs.Numbers.{all_in}
use Rattle.paper.specs.Store.{kept_of, cells_at, leaf_usable, list_usable}
use Rattle.store_whole.proofs.test_leaves.Given as goal

abbrev pub invariant-loop-n : goal.invariant-loop-n
invariant-loop-n l = list_usable (kept_of l.store.words.now) 0 ≡ all_in leaf_usable (drop l.n (cells_at (kept_of l.store.words.now) 0))
