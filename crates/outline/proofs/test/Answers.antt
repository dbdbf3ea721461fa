-- `outline::test` meets its contract: the first bytes refuse, and where they are good the rules decide.
-- By what the calls promise, then the law of each way. Assumes nothing.
use Rattle.std.proofs.Common.{sym, ap, not, [], ◌∷◌}
use Rattle.std.proofs.lemmas.Result.{err_from_is_err_and}
use Rattle.paper.specs.Outline.{outline_version, outline_head, file_depth, outline_rules}
use Rattle.paper.specs.Order.{when}
use Rattle.laws.proofs.StoreFacts.{depth-range}
use Rattle.laws.proofs.Tests.{true-T}
use Rattle.file_head.proofs.FirstBytes.{length-least}
use Rattle.file_head.proofs.HeadTests.{Headed, headed, head-refuses, refused-by-6, accepted}
use Rattle.outline.proofs.test.Goals as goal

pub returns-in_err-test_head : goal.returns-in_err-test_head
returns-in_err-test_head c =
    let p = err_from_is_err_and c.from_residual.result c.from_residual.ensures.1 in
    let rest = when (not (outline_rules c.args.file.now)) 6 ∷ [] in
    rw (p.1, p.2) (head-refuses outline_version outline_head c.args.file.now rest _ c.in_err-test_head.ensures)

pub test_rules-requires : goal.test_rules-requires
test_rules-requires c =
    let file = c.args.file.now in
    let known : Headed outline_version outline_head file = headed outline_version outline_head file [] (sym c.in_ok-test_head.ensures) in
    let range = depth-range (file_depth file) (true-T known.depth_ok_lem) in
    record { there = length-least file outline_head (ap not known.length_ok_lem); depth_from = range.0; depth_upto = range.1 }

pub returns-in_err-test_rules : goal.returns-in_err-test_rules
returns-in_err-test_rules c =
    let p = err_from_is_err_and c.from_residual-in_err-test_rules.result c.from_residual-in_err-test_rules.ensures.1 in
    let file = c.args.file.now in
    let known : Headed outline_version outline_head file = headed outline_version outline_head file [] (sym c.in_ok-test_head.ensures) in
    rw (p.1, p.2) (sym (refused-by-6 outline_version outline_head file (not (outline_rules file)) known (ap not (sym c.in_err-test_rules.ensures))))

pub returns : goal.returns
returns c =
    let file = c.args.file.now in
    let known : Headed outline_version outline_head file = headed outline_version outline_head file [] (sym c.in_ok-test_head.ensures) in
    sym (accepted outline_version outline_head file (not (outline_rules file)) known (ap not (sym c.in_ok-test_rules.ensures)))
