-- `test_links` meets its contract: one list after the other. Assumes nothing.
use Rattle.std.proofs.Common.{sym, refl}
use Rattle.store_whole.proofs.Leaving.{left-at}
use Rattle.store_whole.proofs.ChainLists.{lists-more, lists-wrong, lists-end}
use Rattle.store_whole.proofs.test_links.Goals as goal

pub returns-in_err-test_chains : goal.returns-in_err-test_chains
returns-in_err-test_chains c =
    let s = c.args.store in
    left-at _ c.from_residual.ensures.0 (lists-wrong s.words.now s.room s.counts c.loop-k.k c.loop-k-test.true c.in_err-test_chains.ensures.accepted refl)

pub loop-k-preserved : goal.loop-k-preserved
loop-k-preserved c = lists-more c.args.store.words.now c.loop-k.k c.loop-k.invariant (c.in_ok-test_chains.ensures.right refl)

pub returns : goal.returns
returns c = sym (lists-end c.args.store.words.now c.args.store.room c.loop-k.k c.loop-k-test.false c.loop-k.invariant)
