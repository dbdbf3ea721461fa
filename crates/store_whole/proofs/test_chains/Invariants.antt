-- `test_chains` meets its contract. The invariant: the first j chains, followed, have `all` cells together. Assumes nothing.
use Rattle.store_whole.proofs.ChainLists.{Together}
use Rattle.store_whole.proofs.test_chains.Given as goal

abbrev pub invariant-loop-j : goal.invariant-loop-j
invariant-loop-j l = Together l.store.words.now l.k l.j l.all
