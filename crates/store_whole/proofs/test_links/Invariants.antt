-- `test_links` meets its contract. The invariant: the chains of the lists below k are right. Assumes nothing.
use Rattle.std.proofs.Common.{◌<◌, ℕ}
use Rattle.laws.specs.Chains.{ListRight}
use Rattle.store_whole.proofs.test_links.Given as goal

abbrev pub invariant-loop-k : goal.invariant-loop-k
invariant-loop-k l = (i : ℕ) → i < l.k → ListRight l.store.words.now i
