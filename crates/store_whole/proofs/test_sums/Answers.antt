-- `test_sums` meets its contract: one list after the other, from the leaves up. Assumes nothing.
use Rattle.std.proofs.Common.{sym, arith}
use Rattle.laws.proofs.Tests.{true-T}
use Rattle.store_whole.proofs.Leaving.{left-at}
use Rattle.store_whole.proofs.Counting.{can-count, leaves-counted, lists-more, lists-stop, lists-end}
use Rattle.store_whole.proofs.test_sums.Goals as goal

pub loop-k-init : goal.loop-k-init
loop-k-init c = leaves-counted c.args.store.words.now

pub test_counts-requires : goal.test_counts-requires
test_counts-requires c =
    let l = c.loop-k in
    record { countable = can-count c.args.store.words.now l.k (omega arith) (true-T c.requires.usable) l.invariant (omega arith) }

pub loop-k-preserved : goal.loop-k-preserved
loop-k-preserved c = lists-more c.args.store.words.now c.loop-k.k c.loop-k.invariant (sym c.in_ok-test_counts.ensures)

pub returns-in_err-test_counts : goal.returns-in_err-test_counts
returns-in_err-test_counts c = left-at _ c.from_residual.ensures.0 (lists-stop c.args.store.words.now c.loop-k.k (omega arith) (sym c.in_err-test_counts.ensures))

pub returns : goal.returns
returns c = sym (lists-end c.args.store.words.now c.loop-k.k (omega arith) (omega arith) c.loop-k.invariant)
