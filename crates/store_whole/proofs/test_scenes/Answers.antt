-- `test_scenes` meets its contract: one place after the other, from the last down. Assumes nothing.
use Rattle.std.proofs.Common.{sym, arith}
use Rattle.paper.specs.Store.{place_ok}
use Rattle.laws.proofs.CodeTests.{all-still, all-stop, all_end}
use Rattle.store_whole.proofs.Leaving.{left-at}
use Rattle.store_whole.proofs.test_scenes.Goals as goal

pub loop-n-preserved : goal.loop-n-preserved
loop-n-preserved c = all-still (place_ok c.args.store.words.now) c.loop-n.n c.loop-n.invariant (omega arith) (sym c.in_ok-test_place.ensures)

pub returns-in_err-test_place : goal.returns-in_err-test_place
returns-in_err-test_place c = left-at _ c.from_residual.ensures.0 (all-stop (place_ok c.args.store.words.now) c.loop-n.n c.loop-n.invariant (omega arith) (sym c.in_err-test_place.ensures))

pub returns : goal.returns
returns c = sym (all_end (place_ok c.args.store.words.now) c.loop-n.n c.loop-n.invariant (omega arith))
