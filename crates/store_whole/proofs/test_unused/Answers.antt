-- `test_unused` meets its contract: one list after the other, from the last down. Assumes nothing.
use Rattle.std.proofs.Common.{sym, arith}
use Rattle.paper.specs.Store.{list_blank}
use Rattle.laws.proofs.CodeTests.{all-still, all-stop, all_end}
use Rattle.store_whole.proofs.Leaving.{left-at}
use Rattle.store_whole.proofs.test_unused.Goals as goal

pub loop-k-preserved : goal.loop-k-preserved
loop-k-preserved c = all-still (list_blank c.args.store.words.now) c.loop-k.k c.loop-k.invariant (omega arith) (sym c.in_ok-test_spare.ensures)

pub returns-in_err-test_spare : goal.returns-in_err-test_spare
returns-in_err-test_spare c = left-at _ c.from_residual.ensures.0 (all-stop (list_blank c.args.store.words.now) c.loop-k.k c.loop-k.invariant (omega arith) (sym c.in_err-test_spare.ensures))

pub returns : goal.returns
returns c = sym (all_end (list_blank c.args.store.words.now) c.loop-k.k c.loop-k.invariant (omega arith))
