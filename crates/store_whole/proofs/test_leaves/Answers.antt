-- `test_leaves` meets its contract: one leaf after the other. Assumes nothing.
use Rattle.std.proofs.Common.{sym, ◌∙◌, ◌<◌, arith, lit<, length}
use Rattle.paper.specs.Store.{kept_of, cells_at, cell_at, leaf_usable}
use Rattle.laws.proofs.Kept.{kept-length}
use Rattle.store_whole.proofs.Usable.{leaf-empty, leaf-filled, in-still, in-stop, in_end, list-leaves}
use Rattle.store_whole.proofs.test_leaves.Goals as goal

pub loop-n-init : goal.loop-n-init
loop-n-init c = list-leaves (kept_of c.args.store.words.now)

pub returns-then-leaf_at-eq0 : goal.returns-then-leaf_at-eq0
returns-then-leaf_at-eq0 c =
    let K = kept_of c.args.store.words.now in
    let inside : c.loop-n.n < length (cells_at (kept_of c.args.store.words.now) 0) = omega (arith, kept-length c.args.store.words.now 0 (lit< tt)) in
    sym (in-stop leaf_usable (cells_at K 0) c.loop-n.n c.loop-n.invariant inside (leaf-empty (cell_at K 0 c.loop-n.n) (sym c.leaf_at.ensures ∙ c.if-leaf_at-eq0.true)))

pub loop-n-preserved : goal.loop-n-preserved
loop-n-preserved c =
    let K = kept_of c.args.store.words.now in
    let inside : c.loop-n.n < length (cells_at (kept_of c.args.store.words.now) 0) = omega (arith, kept-length c.args.store.words.now 0 (lit< tt)) in
    in-still leaf_usable (cells_at K 0) c.loop-n.n c.loop-n.invariant inside (leaf-filled (cell_at K 0 c.loop-n.n) (λ e. c.if-leaf_at-eq0.false (c.leaf_at.ensures ∙ e)))

pub returns : goal.returns
returns c = sym (in_end leaf_usable (cells_at (kept_of c.args.store.words.now) 0) c.loop-n.n c.loop-n.invariant (omega (arith, kept-length c.args.store.words.now 0 (lit< tt))))
