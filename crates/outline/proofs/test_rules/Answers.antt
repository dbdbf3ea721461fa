-- `outline::test_rules` meets its contract: nothing after the head, or the root's record, which is broken or ends at the file's end or does not.
-- By the law of each way, at what the calls promise of the depth and of the record. Assumes nothing.
use Rattle.std.proofs.Common.{sym, ◌∙◌, arith}
use Rattle.std.proofs.lemmas.Result.{err_from_is_err_and}
use borrow.Author.Tests.{eq-eqb, ne_eqb}
use Rattle.outline.proofs.Refusals.{rules-nothing, rules-stop, rules-end}
use Rattle.outline.proofs.test_rules.Goals as goal

pub returns-then-file-eq-OUTLINE_HEAD : goal.returns-then-file-eq-OUTLINE_HEAD
returns-then-file-eq-OUTLINE_HEAD c = sym (rules-nothing c.args.file.now c.if-file-eq-OUTLINE_HEAD.true)

pub returns-in_err-record : goal.returns-in_err-record
returns-in_err-record c =
    let p = err_from_is_err_and c.from_residual.result c.from_residual.ensures.1 in
    rw p.1 (sym (rules-stop c.args.file.now c.depth.result c.depth.ensures (omega arith) (sym c.in_err-record.ensures)))

pub returns-then-branch-file : goal.returns-then-branch-file
returns-then-branch-file c = sym (rules-end c.args.file.now c.depth.result c.depth.ensures (omega arith) _ (sym c.in_ok-record.ensures) ∙ ne_eqb _ _ c.if-branch-file.true)

pub returns : goal.returns
returns c = sym (rules-end c.args.file.now c.depth.result c.depth.ensures (omega arith) _ (sym c.in_ok-record.ensures) ∙ eq-eqb _ _ c.if-branch-file.false)
