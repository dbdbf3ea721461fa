-- `store::lent::Store::chain_at` meets its contract: of a leaf its number of ones, at most 64, of any other cell its key's top byte.
-- By the two ways of the definition. Assumes nothing.
use Rattle.std.proofs.Common.{arith}
use Rattle.laws.proofs.TrueCounts.{leaf-most}
use Rattle.store.proofs.lent.Store.chain_at.Goals as goal

pub overflow_cast-result : goal.overflow_cast-result
overflow_cast-result c = omega (arith, c.leaf_solid.ensures, leaf-most c.leaf_at.result)
