-- `test_unused` meets its contract. The invariant: no unused word of the lists from k on is other than zero, so the answer is that of the lists below k. Assumes nothing.
use Rattle.std.proofs.Common.{◌≡◌}
use Rattle.paper.specs.Numbers.{all_below}
use Rattle.paper.specs.Store.{heights, list_blank}
use Rattle.store_whole.proofs.test_unused.Given as goal

abbrev pub invariant-loop-k : goal.invariant-loop-k
invariant-loop-k l = all_below heights (list_blank l.store.words.now) ≡ all_below l.k (list_blank l.store.words.now)
