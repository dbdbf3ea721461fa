-- `test_marked` meets its contract: lists, top and root, one after the other. By the parts of `marked_by`. Assumes nothing.
use Rattle.std.proofs.lemmas.Result.{err_from_is_err_and}
use Rattle.std.proofs.Common.{sym, ◌∙◌}
use Rattle.proper.proofs.Checking.{lists-fail, top-fails, root-decides}
use Rattle.proper.proofs.test_marked.Goals as goal
use Rattle.proper.proofs.test_marked.Goals.{else-one_on_top-via-then-one_on_top+else-root_low, else-one_on_top-via-else-one_on_top}

pub returns-in_err-mark_lists : goal.returns-in_err-mark_lists
returns-in_err-mark_lists c = let exit = err_from_is_err_and c.from_residual.result c.from_residual.ensures.1 in rw exit.1 (sym (lists-fail c.args.file.now (sym c.in_err-mark_lists.ensures.rules)))

pub returns-then-root_low : goal.returns-then-root_low
returns-then-root_low c =
    sym (root-decides c.args.file.now (sym c.in_ok-mark_lists.ensures.rules) (sym c.one_on_top.ensures ∙ c.if-one_on_top.true) ∙ sym c.root_low.ensures ∙ c.if-root_low.true)

pub returns : goal.returns
returns c =
    let lists = sym c.in_ok-mark_lists.ensures.rules in
    elim c.else-one_on_top.branch [
      | else-one_on_top-via-then-one_on_top+else-root_low w ↦
          sym (root-decides c.args.file.now lists (sym c.one_on_top.ensures ∙ w.if-one_on_top.true) ∙ sym w.root_low.ensures ∙ w.if-root_low.false)
      | else-one_on_top-via-else-one_on_top w ↦ sym (top-fails c.args.file.now lists (sym c.one_on_top.ensures ∙ w.if-one_on_top.false))
    ]
