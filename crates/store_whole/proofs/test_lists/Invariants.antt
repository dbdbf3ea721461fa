-- `test_lists` meets its contract. The invariant: every cell of the lists from k on is usable, so the answer is that of the lists below k. Assumes nothing.
use Rattle.std.proofs.Common.{◌≡◌}
use Rattle.paper.specs.Numbers.{all_below}
use Rattle.paper.specs.Store.{heights, kept_of, list_usable}
use Rattle.store_whole.proofs.test_lists.Given as goal

abbrev pub invariant-loop-k : goal.invariant-loop-k
invariant-loop-k l = all_below heights (list_usable (kept_of l.store.words.now)) ≡ all_below l.k (list_usable (kept_of l.store.words.now))
