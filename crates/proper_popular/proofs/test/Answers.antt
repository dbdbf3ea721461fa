-- `test` meets its contract. The invariant: no list below list k breaks the rules of popularity, and up to the end of list k the scratch is zero. Assumes
-- nothing.
use Rattle.std.proofs.Common.{sym, ◌∙◌, List, ℕ, ◌<◌, arith}
use borrow.Author.Tests.{not-true, not-false}
use Rattle.paper.specs.Packed.{top_of}
use Rattle.laws.proofs.Tests.{at-any}
use Rattle.proper_popular.specs.Places.{popular_rules}
use Rattle.proper_marks.proofs.Searches.{any-end, not-all}
use Rattle.proper_popular.proofs.test.Invariants.{bad}
use Rattle.proper_popular.proofs.test.Goals as goal

pub returns-then-list_bad : goal.returns-then-list_bad
returns-then-list_bad c =
    let file : List ℕ = c.args.lists.now.file.now in
    let list : ℕ = c.loop-k.k in
    let inside : list < top_of file = omega (arith, c.loop-k-test.true, c.args.lists.now.top_is) in
    sym (not-true _ (not-all (top_of file) (popular_rules file) ∙ at-any (top_of file) (bad file) list inside (sym c.list_bad.ensures.0 ∙ c.if-list_bad.true)))

pub returns : goal.returns
returns c =
    let f : List ℕ = c.args.lists.now.file.now in
    sym (not-false _ (not-all (top_of f) (popular_rules f)
    ∙ any-end c.loop-k.k (top_of f) (bad f) (omega (arith, c.loop-k.invariant.inside, c.args.lists.now.top_is)) (omega (arith, c.loop-k-test.false, c.args.lists.now.top_is)) c.loop-k.invariant.good))
