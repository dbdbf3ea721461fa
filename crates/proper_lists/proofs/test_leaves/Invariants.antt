-- `test_leaves` meets its contract. The invariant: no leaf is zero where none from `place` on is. Assumes nothing.
use Rattle.std.proofs.Common.{◌≡◌, drop}
use Rattle.paper.specs.Numbers.{all_in}
use Rattle.paper.specs.Packed.{leaf_ok}
use Rattle.proper_marks.specs.Places.{leaves_in}
use Rattle.proper_lists.proofs.test_leaves.Given as goal

abbrev pub invariant-loop-place : goal.invariant-loop-place
invariant-loop-place l = all_in (leaf_ok l.leaves) (leaves_in l.leaves) ≡ all_in (leaf_ok l.leaves) (drop l.place (leaves_in l.leaves))
