-- `search::cells::leaf_search` meets its contract: by cases on the test. Assumes nothing.
use Rattle.std.proofs.Common.{◌≡◌, refl, Bool, true, false, cond, not, eqb}
use Rattle.paper.specs.Anything.{Met, Passed}
use Rattle.search.proofs.cells.leaf_search.Goals as goal

either : (b : Bool) → cond (not b) (Met 1) (Passed 1) ≡ cond b (Passed 1) (Met 1)
either true = refl
either false = refl

pub returns : goal.returns
returns c = either (eqb c.args.solid 0)
