-- `count_record` meets its contract. The invariant: the pointers below `i` are counted. The measure is what is left of the eight. Assumes nothing.
use Rattle.std.proofs.Common.{refl, arith}
use Rattle.paper.specs.Packed.{pointers_at}
use Rattle.proper_popular.proofs.Loops.{pointers-none, pointers-more}
use Rattle.proper_popular.proofs.count_record.Goals as goal

pub loop-i-init : goal.loop-i-init
loop-i-init c =
    let a = c.args in
    (omega arith, refl, pointers-none a.unit (pointers_at a.list.now a.place) a.counts.now)

pub loop-i-preserved : goal.loop-i-preserved
loop-i-preserved c =
    let a = c.args in (
      omega (arith, c.loop-i-test.true),
      omega (arith, c.loop-i.invariant.1),
      pointers-more a.unit (pointers_at a.list.now a.place) c.loop-i.i a.counts.now c.loop-i.counts c.count_pointer.new.counts c.loop-i.invariant.2 c.count_pointer.ensures,
    )
