-- `test_lists` meets its contract: one list after the other, from the last down, and the leaves last. Assumes nothing.
use Rattle.std.proofs.Common.{sym, arith}
use Rattle.paper.specs.Store.{kept_of, list_usable}
use Rattle.laws.proofs.CodeTests.{all-still}
use Rattle.store_whole.proofs.test_lists.Goals as goal

pub loop-k-preserved : goal.loop-k-preserved
loop-k-preserved c = all-still (list_usable (kept_of c.args.store.words.now)) c.loop-k.k c.loop-k.invariant (omega arith) (sym c.in_ok-test_cells.ensures)
