-- `packed_lists::read_lists` meets its contract: an empty scene by its length; else byte 6, room for the sizes, and their sum against the length, in whole
-- numbers. By the ways of `head_ok`. Assumes nothing.
use Rattle.std.proofs.Common.{◌≡◌, sym, ◌∙◌, ap, true, ◌||◌, ℕ, suc, ◌+◌, ◌-◌, ◌*◌, ◌≤◌, arith, ltb, length}
use Rattle.std.proofs.lemmas.Bool.Decides.{nat_tests}
use borrow.Author.Tests.{eq-eqb, ne_eqb}
use Rattle.paper.specs.Packed.{packed_head, empty_mark, root_tag, top_of, head_ok}
use Rattle.laws.proofs.Tests.{true-T}
use Rattle.packed_lists.specs.Header.{front_of}
use Rattle.packed_lists.proofs.Header.{lists-count, head-empty, head-short, head-fits, head-sum, laid_starts_lem, starts-empty}
use Rattle.packed_lists.proofs.read_lists.Goals as goal

pub returns-then-file-ne-PACKED_HEAD-clause-good : goal.returns-then-file-ne-PACKED_HEAD-clause-good
returns-then-file-ne-PACKED_HEAD-clause-good c = sym (head-empty c.args.file.now c.if-mark-eq-EMPTY_MARK.true ∙ ne_eqb _ _ c.if-file-ne-PACKED_HEAD.true)

pub returns-then-mark-eq-EMPTY_MARK-clause-good : goal.returns-then-mark-eq-EMPTY_MARK-clause-good
returns-then-mark-eq-EMPTY_MARK-clause-good c = sym (head-empty c.args.file.now c.if-mark-eq-EMPTY_MARK.true ∙ eq-eqb _ _ c.if-file-ne-PACKED_HEAD.false)

pub returns-then-mark-eq-EMPTY_MARK-clause-starts : goal.returns-then-mark-eq-EMPTY_MARK-clause-starts
returns-then-mark-eq-EMPTY_MARK-clause-starts c = c.requires.blank ∙ starts-empty c.args.file.now c.if-mark-eq-EMPTY_MARK.true

pub returns-then-mark-file-clause-good : goal.returns-then-mark-file-clause-good
returns-then-mark-file-clause-good c =
    let bs = c.args.file.now in
    let lists-is : c.from-lists.result - 1 ≡ suc (top_of bs) = ap (λ (D : ℕ). D - 1) c.from-lists.ensures ∙ lists-count bs c.requires.tested.deep in
    let bad : (ltb empty_mark (root_tag bs) || ltb (length bs) (packed_head + 4 * (c.from-lists.result - 1))) ≡ true = grind (arith, nat_tests, c.if-mark-file.true) in
    sym (head-short bs (c.from-lists.result - 1) lists-is c.if-mark-eq-EMPTY_MARK.false bad)

pub returns-then-sized_lists-file-clause-good : goal.returns-then-sized_lists-file-clause-good
returns-then-sized_lists-file-clause-good c =
    let bs = c.args.file.now in
    let lists-is : c.from-lists.result - 1 ≡ suc (top_of bs) = ap (λ (D : ℕ). D - 1) c.from-lists.ensures ∙ lists-count bs c.requires.tested.deep in
    let fits : (root_tag bs ≤ empty_mark) × (front_of bs ≤ length bs) = head-fits bs (c.from-lists.result - 1) lists-is c.if-mark-file.false in
    sym (head-sum bs c.if-mark-eq-EMPTY_MARK.false fits.0 ∙ ne_eqb _ _ (λ e. c.if-sized_lists-file.true (c.sized_lists.ensures.end ∙ e)))

pub returns-clause-good : goal.returns-clause-good
returns-clause-good c =
    let bs = c.args.file.now in
    let lists-is : c.from-lists.result - 1 ≡ suc (top_of bs) = ap (λ (D : ℕ). D - 1) c.from-lists.ensures ∙ lists-count bs c.requires.tested.deep in
    let fits : (root_tag bs ≤ empty_mark) × (front_of bs ≤ length bs) = head-fits bs (c.from-lists.result - 1) lists-is c.if-mark-file.false in
    sym (head-sum bs c.if-mark-eq-EMPTY_MARK.false fits.0 ∙ eq-eqb _ _ (sym c.sized_lists.ensures.end ∙ c.if-sized_lists-file.false))

pub returns-clause-starts : goal.returns-clause-starts
returns-clause-starts c =
    let bs = c.args.file.now in
    let p = c.requires.tested in
    let lists-is : c.from-lists.result - 1 ≡ suc (top_of bs) = ap (λ (D : ℕ). D - 1) c.from-lists.ensures ∙ lists-count bs p.deep in
    let fits : (root_tag bs ≤ empty_mark) × (front_of bs ≤ length bs) = head-fits bs (c.from-lists.result - 1) lists-is c.if-mark-file.false in
    let good : head_ok bs ≡ true = head-sum bs c.if-mark-eq-EMPTY_MARK.false fits.0 ∙ eq-eqb _ _ (sym c.sized_lists.ensures.end ∙ c.if-sized_lists-file.false) in
    c.sized_lists.ensures.laid ∙ laid_starts_lem bs (true-T good) c.if-mark-eq-EMPTY_MARK.false (omega (arith, p.flat)) p.short
