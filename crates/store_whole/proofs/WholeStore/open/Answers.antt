-- `WholeStore::open` meets its contract: the header of an undamaged store is in order. Assumes nothing.
use Rattle.std.proofs.Common.{sym}
use Rattle.laws.proofs.Tests.{T_true, true-T}
use Rattle.laws.proofs.Undamaged.{store-header}
use Rattle.store_whole.proofs.WholeStore.open.Goals as goal

pub of-requires : goal.of-requires
of-requires c = T_true (store-header c.args.words.now (true-T (sym c.in_ok-test.ensures)))
