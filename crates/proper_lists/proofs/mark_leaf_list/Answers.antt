-- `mark_leaf_list` meets its contract: the two rules one after the other, then the marks. Assumes nothing.
use Rattle.std.proofs.lemmas.Result.{err_from_is_err_and}
use Rattle.proper_alike.proofs.Front.{first_fails, second_fails, both_pass}
use Rattle.proper_lists.specs.Marking.{leaves_rules}
use Rattle.proper_lists.proofs.mark_leaf_list.Goals as goal

pub returns-in_err-test_leaves-clause-rules : goal.returns-in_err-test_leaves-clause-rules
unfolding leaves_rules
returns-in_err-test_leaves-clause-rules c = let exit = err_from_is_err_and c.from_residual.result c.from_residual.ensures.1 in rw exit.1 (first_fails _ _ c.in_err-test_leaves.ensures)

pub returns-then-two_leaves_match-clause-rules : goal.returns-then-two_leaves_match-clause-rules
unfolding leaves_rules
returns-then-two_leaves_match-clause-rules c = second_fails _ _ c.in_ok-test_leaves.ensures _ c.two_leaves_match.ensures.0 c.if-two_leaves_match.true

pub returns-clause-rules : goal.returns-clause-rules
unfolding leaves_rules
returns-clause-rules c = both_pass _ _ c.in_ok-test_leaves.ensures _ c.two_leaves_match.ensures.0 c.if-two_leaves_match.false
