-- `store::lent::Store::count_at` meets its contract: a leaf's count is its bits, any other cell's the two words after its pointers.
-- By where a kept cell lies, and the room that the header gives. Assumes nothing.
use Rattle.std.proofs.Common.{◌∙◌, arith}
use Rattle.store.proofs.Positions.{cells_fit, count-words, leaf-count}
use Rattle.store.proofs.lent.Store.count_at.Goals as goal

pub returns-then-k-eq0 : goal.returns-then-k-eq0
returns-then-k-eq0 c = c.leaf_solid.ensures ∙ leaf-count c.args.self.words.now c.args.k c.args.n _ c.if-k-eq0.true c.leaf_at.ensures

pub pair-requires : goal.pair-requires
pair-requires c =
    let s = c.args.self in
    let n = s.counts c.args.k c.requires.k_lt_heights in
    omega (arith, s.room, n, cells_fit c.capacity.result c.args.k c.args.n c.if-k-eq0.false c.requires.k_lt_heights (omega (arith, n)))

pub returns : goal.returns
returns c =
    c.pair.ensures
    ∙ count-words c.args.self.words.now c.args.n _ _ c.capacity.ensures c.args.k c.if-k-eq0.false c.cell_position.ensures
