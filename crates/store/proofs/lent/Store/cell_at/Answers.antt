-- `store::lent::Store::cell_at` meets its contract: the eight words at the cell's place are the kept cell's. By where a kept cell lies. Assumes nothing.
use Rattle.std.proofs.Common.{◌∙◌}
use Rattle.store.proofs.Positions.{cell-words}
use Rattle.store.proofs.lent.Store.cell_at.Goals as goal

pub returns : goal.returns
returns c =
    c.eight.ensures
    ∙ cell-words c.args.self.words.now c.args.n _ _ c.capacity.ensures c.args.k c.requires.inner.0 c.requires.inner.1 c.requires.n_bound c.cell_position.ensures
