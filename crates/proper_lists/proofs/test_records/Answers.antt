-- `test_records` meets its contract. The invariant: all records keep the rules exactly where those from `place` on do. Assumes nothing.
use Rattle.std.proofs.lemmas.Result.{err_from_is_err_and}
use Rattle.std.proofs.Common.{sym, ◌∙◌, ap, Bool, List, ℕ}
use Rattle.paper.specs.Numbers.{all_in}
use Rattle.laws.proofs.Tests.{true-T}
use Rattle.proper_marks.proofs.Along.{rest_from, rest-none, rest-passes, rest-fails, all_in-none}
use Rattle.proper_alike.specs.Matching.{record_rules}
use Rattle.proper_alike.proofs.Pointing.{rules-record}
use Rattle.proper_lists.proofs.test_records.Goals as goal

pub returns-in_err-test_record : goal.returns-in_err-test_record
returns-in_err-test_record c =
    let list : List ℕ = c.args.records.list.now in
    let rules : ℕ → Bool = record_rules c.args.records.marks.unit c.args.records.marks.bytes.now list in
    let exit = err_from_is_err_and c.from_residual.result c.from_residual.ensures.1 in rw exit.1 (sym (c.loop-place.invariant.1 ∙ rest-fails list c.requires.even c.loop-place.place c.loop-place-test.true rules (sym c.in_err-test_record.ensures)))

pub place_after-place-requires-clause-t : goal.place_after-place-requires-clause-t
place_after-place-requires-clause-t c = rules-record c.args.records.marks.unit c.args.records.marks.bytes.now c.args.records.list.now c.loop-place.place (true-T (sym c.in_ok-test_record.ensures))

pub loop-place-preserved : goal.loop-place-preserved
loop-place-preserved c =
    let list : List ℕ = c.args.records.list.now in
    let rules : ℕ → Bool = record_rules c.args.records.marks.unit c.args.records.marks.bytes.now list in
    let next = c.place_after-place.ensures in (
      next.inside,
      c.loop-place.invariant.1 ∙ rest-passes list c.requires.even c.loop-place.place c.loop-place-test.true rules (sym c.in_ok-test_record.ensures)
          ∙ ap (λ (n : ℕ). all_in rules (rest_from list n)) (sym next.is),
    )

pub returns : goal.returns
returns c =
    let a = c.args in
    sym (c.loop-place.invariant.1 ∙ all_in-none (record_rules a.records.marks.unit a.records.marks.bytes.now a.records.list.now) (rest_from a.records.list.now c.loop-place.place) (rest-none a.records.list.now c.loop-place.place c.loop-place-test.false))
