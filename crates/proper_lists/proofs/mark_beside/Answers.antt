-- `mark_beside` meets its contract: the rules of the records, that no two match, then the marks. Assumes nothing.
use Rattle.std.proofs.Common.{sym}
use Rattle.std.proofs.lemmas.Result.{err_from_is_err_and}
use Rattle.laws.proofs.Tests.{true-T}
use Rattle.proper_marks.specs.Places.{places_in}
use Rattle.proper_alike.proofs.Front.{first_fails, second_fails, both_pass}
use Rattle.proper_alike.proofs.Pointing.{rules-all-whole}
use Rattle.proper_lists.specs.Marking.{inner_rules}
use Rattle.proper_lists.proofs.mark_beside.Goals as goal

pub returns-in_err-test_records-clause-rules : goal.returns-in_err-test_records-clause-rules
unfolding inner_rules
returns-in_err-test_records-clause-rules c =
    let exit = err_from_is_err_and c.from_residual.result c.from_residual.ensures.1 in rw exit.1 (first_fails _ _ c.in_err-test_records.ensures)

pub returns-then-two_match-clause-rules : goal.returns-then-two_match-clause-rules
unfolding inner_rules
returns-then-two_match-clause-rules c = second_fails _ _ c.in_ok-test_records.ensures _ c.two_match.ensures.0 c.if-two_match.true

pub mark_records-requires-clause-whole_list : goal.mark_records-requires-clause-whole_list
mark_records-requires-clause-whole_list c =
    record { list = c.requires.record_list; whole = rules-all-whole c.args.unit _ c.args.list.now (places_in c.args.list.now) (true-T (sym c.in_ok-test_records.ensures)) }

pub returns-clause-rules : goal.returns-clause-rules
unfolding inner_rules
returns-clause-rules c = both_pass _ _ c.in_ok-test_records.ensures _ c.two_match.ensures.0 c.if-two_match.false
