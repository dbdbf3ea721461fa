-- `store::lent::Store::leaf_at` meets its contract: the two words at the leaf's place are the kept leaf's. By where a kept leaf lies. Assumes nothing.
use Rattle.std.proofs.Common.{◌∙◌}
use Rattle.store.proofs.Positions.{leaf-words}
use Rattle.store.proofs.lent.Store.leaf_at.Goals as goal

pub returns : goal.returns
returns c = c.pair.ensures ∙ leaf-words c.args.self.words.now c.args.n _ _ c.capacity.ensures c.requires.n_bound c.cell_position.ensures
