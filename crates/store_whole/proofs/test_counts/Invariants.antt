-- `test_counts` meets its contract. The invariant: the counts from n on are the sums of their children's, so the answer is that of the counts below n. Assumes nothing.
use Rattle.std.proofs.Common.{◌≡◌}
use Rattle.paper.specs.Numbers.{all_below}
use Rattle.paper.specs.Store.{counts_ok}
use Rattle.store_whole.proofs.Counting.{counted}
use Rattle.store_whole.proofs.test_counts.Given as goal

abbrev pub invariant-loop-n : goal.invariant-loop-n
invariant-loop-n l = counts_ok l.store.words.now l.k ≡ all_below l.n (counted l.store.words.now l.k)
