-- `test` meets its contract. The invariant: no list below list k breaks the rules of popularity, and up to the end of list k the scratch is zero. Assumes
-- nothing.
use Rattle.std.proofs.Common.{◌≡◌, Bool, false, not, List, ℕ, ◌≤◌, length, take, replicate}
use Rattle.paper.specs.Numbers.{any_below}
use Rattle.proper_popular.specs.Places.{popular_rules}
use Rattle.packed_lists.specs.Ends.{end_at}
use Rattle.proper_popular.proofs.test.Given as goal

abbrev pub bad : List ℕ → ℕ → Bool
bad file j = not (popular_rules file j)

pub record Tested (file scratch₀ scratch : List ℕ) (top k : ℕ) : Type 0 where
  pub inside : k ≤ top
  pub long : length scratch ≡ length scratch₀
  pub zero : take (end_at file k) scratch ≡ replicate (end_at file k) 0
  pub good : any_below k (bad file) ≡ false

abbrev pub invariant-loop-k : goal.invariant-loop-k
invariant-loop-k l = Tested l.lists.file.now l.initial.scratch l.scratch l.lists.top l.k
