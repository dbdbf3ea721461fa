-- `test_record` meets its contract: the record's own rules, then its pointers'. Assumes nothing.
use Rattle.std.proofs.Common.{sym, ◌∙◌}
use borrow.Author.Tests.{not-true, not-false}
use Rattle.paper.specs.Packed.{record_ok}
use Rattle.proper_alike.proofs.Pointing.{rules-whole, rules-pointers}
use Rattle.proper_alike.proofs.records.test_record.Goals as goal

pub returns-then-record_bad : goal.returns-then-record_bad
returns-then-record_bad c =
    let a = c.args in
    sym (rules-whole a.records.marks.unit a.records.marks.bytes.now a.records.list.now a.place (not-true (record_ok a.records.list.now a.place) (sym c.record_bad.ensures ∙ c.if-record_bad.true)))

pub returns : goal.returns
returns c =
    let a = c.args in
    c.test_pointers.ensures
    ∙ sym (rules-pointers a.records.marks.unit a.records.marks.bytes.now a.records.list.now a.place (not-false (record_ok a.records.list.now a.place) (sym c.record_bad.ensures ∙ c.if-record_bad.false)))
