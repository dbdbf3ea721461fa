-- `test_file` meets its contract: byte 6 and the sizes, an empty scene, then the rules. Assumes nothing.
use Rattle.std.proofs.Common.{sym, ◌∙◌, eq-eqb, ne_eqb}
use borrow.Author.Tests.{not-true, not-false}
use Rattle.paper.specs.Packed.{empty_mark, root_tag, head_ok}
use Rattle.proper.proofs.Checking.{head-fails, head-empty, head-rules}
use Rattle.proper.proofs.test_file.Goals as goal

pub returns-then-head_bad : goal.returns-then-head_bad
returns-then-head_bad c = sym (head-fails c.args.file.now (not-true (head_ok c.args.file.now) (sym c.head_bad.ensures ∙ c.if-head_bad.true)))

pub returns-then-file-eq-EMPTY_MARK : goal.returns-then-file-eq-EMPTY_MARK
returns-then-file-eq-EMPTY_MARK c =
    let file = c.args.file.now in
    sym (head-empty file (not-false (head_ok file) (sym c.head_bad.ensures ∙ c.if-head_bad.false)) (eq-eqb (root_tag file) empty_mark c.if-file-eq-EMPTY_MARK.true))

pub returns : goal.returns
returns c =
    let file = c.args.file.now in
    c.test_lists.ensures ∙ sym (head-rules file (not-false (head_ok file) (sym c.head_bad.ensures ∙ c.if-head_bad.false)) (ne_eqb (root_tag file) empty_mark c.if-file-eq-EMPTY_MARK.false))
