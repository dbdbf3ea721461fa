use Rattle.laws.proofs.CodeTests.{passed, passed-T}
use Rattle.store.proofs.HeaderFacts.{header}
use Rattle.store.proofs.lent.Store.open.Goals as goal

pub invariant_of-result : goal.invariant_of-result
invariant_of-result c =
    let fine = passed c.header_bad.ensures c.if-header_bad.false in
    let h = header _ (passed-T _ c.header_bad.ensures c.if-header_bad.false) in
    record { header_ok = fine; room = h.room; most = h.most; scenes = h.scenes; counts = h.counts }
