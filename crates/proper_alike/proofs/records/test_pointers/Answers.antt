-- `test_pointers` meets its contract. The invariant: all pointers keep their rules where those from child i on do. Assumes nothing.
use Rattle.std.proofs.lemmas.Result.{err_from_is_err_and}
use Rattle.std.proofs.Common.{sym, ◌∙◌, ap, arith}
use Rattle.paper.specs.Packed.{no_pointer, pointers_at}
use Rattle.proper_alike.specs.Matching.{pointer_rules}
use Rattle.proper_alike.proofs.Front.{front_passes, front-fails, front_done}
use Rattle.proper_marks.proofs.Along.{packed_pointers-length}
use Rattle.proper_alike.proofs.records.test_pointers.Goals as goal

pub returns-in_err-test_pointer : goal.returns-in_err-test_pointer
returns-in_err-test_pointer c =
    let f = pointer_rules c.args.records.marks.unit c.args.records.marks.bytes.now in
    let pointers = pointers_at c.args.records.list.now c.args.place in
    let eight = packed_pointers-length c.args.records.list.now c.args.place in
    let exit = err_from_is_err_and c.from_residual.result c.from_residual.ensures.1 in rw exit.1 (sym (c.loop-i.invariant ∙ front-fails f no_pointer pointers c.loop-i.i (omega (arith, eight)) (sym (c.in_err-test_pointer.ensures ∙ ap f c.pointer_at.ensures.0))))

pub loop-i-preserved : goal.loop-i-preserved
loop-i-preserved c =
    let f = pointer_rules c.args.records.marks.unit c.args.records.marks.bytes.now in
    let pointers = pointers_at c.args.records.list.now c.args.place in
    let eight = packed_pointers-length c.args.records.list.now c.args.place in
    c.loop-i.invariant ∙ front_passes f no_pointer pointers c.loop-i.i (omega (arith, eight)) (sym (c.in_ok-test_pointer.ensures ∙ ap f c.pointer_at.ensures.0))

pub returns : goal.returns
returns c =
    let f = pointer_rules c.args.records.marks.unit c.args.records.marks.bytes.now in
    let pointers = pointers_at c.args.records.list.now c.args.place in
    let eight = packed_pointers-length c.args.records.list.now c.args.place in
    sym (c.loop-i.invariant ∙ front_done f no_pointer pointers c.loop-i.i (omega (arith, eight)))
