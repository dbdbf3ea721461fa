-- `test_pointer` meets its contract: the tests of `pointer_rules`. Assumes nothing.
use Rattle.std.proofs.Common.{sym, ◌∙◌, ap₂, Bool, not, ◌||◌, ℕ, eqb}
use borrow.Author.Tests.{not-true, not-false}
use Rattle.packed_records.specs.Records.{pointer_is}
use Rattle.proper_alike.specs.Matching.{pointer_rules}
use Rattle.proper_alike.proofs.Pointing.{rules-none, rules-some}
use Rattle.proper_alike.proofs.records.test_pointer.Goals as goal

pub returns-then-pointer-eq0 : goal.returns-then-pointer-eq0
returns-then-pointer-eq0 c =
    let a = c.args in
    sym (rules-none a.marks.unit a.marks.bytes.now (pointer_is a.pointer) c.if-pointer-eq0.true)

pub returns-then-symmetry-pointer : goal.returns-then-symmetry-pointer
returns-then-symmetry-pointer c =
    let a = c.args in
    let r = pointer_is a.pointer in
    let tested = ap₂ (λ (n : ℕ) (b : Bool). (eqb c.at-symmetry.result 0 || not (eqb r.code n)) || b) c.code_for.ensures c.tag_high.ensures
    ∙ rules-some a.marks.unit a.marks.bytes.now r c.if-pointer-eq0.false c.at-symmetry.result c.at-symmetry.ensures.0 in
    sym (not-true (pointer_rules a.marks.unit a.marks.bytes.now r) (sym tested ∙ c.if-symmetry-pointer.true))

pub returns : goal.returns
returns c =
    let a = c.args in
    let r = pointer_is a.pointer in
    let tested = ap₂ (λ (n : ℕ) (b : Bool). (eqb c.at-symmetry.result 0 || not (eqb r.code n)) || b) c.code_for.ensures c.tag_high.ensures
    ∙ rules-some a.marks.unit a.marks.bytes.now r c.if-pointer-eq0.false c.at-symmetry.result c.at-symmetry.ensures.0 in
    sym (not-false (pointer_rules a.marks.unit a.marks.bytes.now r) (sym tested ∙ c.if-symmetry-pointer.false))
