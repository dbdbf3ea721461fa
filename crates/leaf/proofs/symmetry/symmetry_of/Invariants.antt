-- `symmetry_of` meets its contract. The invariant: the bits from t on are gathered. Assumes nothing.
use Rattle.std.proofs.Common.{◌≡◌}
use Rattle.laws.proofs.SymmetryLoop.{upper}
use Rattle.leaf.proofs.symmetry.symmetry_of.Given as goal

abbrev pub invariant-loop-t : goal.invariant-loop-t
invariant-loop-t g l = l.symmetry ≡ upper g.p l.t
