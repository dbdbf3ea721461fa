-- `mark_lists` meets its contract. The invariant: the lists up to list `below` keep their rules and are marked. Assumes nothing.
use Rattle.std.proofs.Common.{◌≡◌, true, List, ℕ, suc}
use Rattle.paper.specs.Numbers.{all_below}
use Rattle.proper_lists.specs.Marking.{list_rules, scratch_at}
use Rattle.proper_lists.proofs.mark_lists.Given as goal

pub record Tested (file scratch : List ℕ) (below : ℕ) : Type 0 where
  pub good : all_below (suc below) (list_rules file) ≡ true
  pub is : scratch ≡ scratch_at file (suc below)

abbrev pub invariant-loop-below : goal.invariant-loop-below
invariant-loop-below l = Tested l.file l.scratch l.below
