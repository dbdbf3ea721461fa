-- `test_sums` meets its contract. The invariant: the counts of the lists below k are right, so those of list k can be tested. Assumes nothing.
use Rattle.std.proofs.Common.{T}
use Rattle.paper.specs.Numbers.{all_below}
use Rattle.paper.specs.Store.{counts_ok}
use Rattle.store_whole.proofs.test_sums.Given as goal

abbrev pub invariant-loop-k : goal.invariant-loop-k
invariant-loop-k l = T (all_below l.k (counts_ok l.store.words.now))
