use Rattle.laws.proofs.Tests.{true-T}
use Rattle.store.proofs.HeaderFacts.{header}
use Rattle.store.proofs.lent.Store.of.Goals as goal

pub invariant_of-result : goal.invariant_of-result
invariant_of-result c =
    let h = header _ (true-T c.requires) in
    record { header_ok = c.requires; room = h.room; most = h.most; scenes = h.scenes; counts = h.counts }
