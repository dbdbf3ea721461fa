-- `test_cells` meets its contract: one cell after the other. Assumes nothing.
use Rattle.std.proofs.Common.{sym, ap, ◌∙◌, ◌-◌, ◌<◌, arith, length}
use Rattle.paper.specs.Store.{kept_of, cells_at, cell_usable}
use Rattle.laws.proofs.Kept.{kept-length}
use Rattle.laws.proofs.CodeTests.{passed, failed}
use Rattle.store_whole.proofs.Usable.{in-still, in-stop, in_end, list-cells}
use Rattle.store_whole.proofs.test_cells.Goals as goal

pub loop-n-init : goal.loop-n-init
loop-n-init c =
    let ws = c.args.store.words.now in
    let k = c.args.k in
    list-cells (kept_of ws) k _ c.requires.inner.0 (c.kept_count-below.ensures ∙ sym (kept-length ws (k - 1) (omega arith)))

pub returns-then-cell_bad : goal.returns-then-cell_bad
returns-then-cell_bad c =
    let inside : c.loop-n.n < length (cells_at (kept_of c.args.store.words.now) c.args.k) = omega (arith, kept-length c.args.store.words.now c.args.k c.requires.inner.1) in
    let K = kept_of c.args.store.words.now in
    let m = c.kept_count-below.result in
    sym (in-stop (cell_usable m) (cells_at K c.args.k) c.loop-n.n c.loop-n.invariant inside (sym (ap (cell_usable m) c.cell_at.ensures) ∙ failed c.cell_bad.ensures c.if-cell_bad.true))

pub loop-n-preserved : goal.loop-n-preserved
loop-n-preserved c =
    let inside : c.loop-n.n < length (cells_at (kept_of c.args.store.words.now) c.args.k) = omega (arith, kept-length c.args.store.words.now c.args.k c.requires.inner.1) in
    let K = kept_of c.args.store.words.now in
    let m = c.kept_count-below.result in
    in-still (cell_usable m) (cells_at K c.args.k) c.loop-n.n c.loop-n.invariant inside (sym (ap (cell_usable m) c.cell_at.ensures) ∙ passed c.cell_bad.ensures c.if-cell_bad.false)

pub returns : goal.returns
returns c =
    let ws = c.args.store.words.now in
    let k = c.args.k in
    sym (in_end (cell_usable c.kept_count-below.result) (cells_at (kept_of ws) k) c.loop-n.n c.loop-n.invariant (omega (arith, kept-length ws k c.requires.inner.1)))
