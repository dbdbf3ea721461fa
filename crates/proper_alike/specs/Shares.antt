-- The places of a list of records, laid over its share. Definitions only.
use Rattle.std.specs.Prelude.{◌≡◌, List, ℕ, ◌*◌, ◌≤◌, length}
use Rattle.proper_marks.specs.Places.{places_in}
use Rattle.proper_sorted.specs.Slots.{slots_of}

-- the n places of the list lie in slots of four bytes from the start of its share
pub record Placed (n : ℕ) (list share : List ℕ) : Type 0 where
  pub places : slots_of 4 n share ≡ places_in list
  pub fits : 4 * n ≤ length list
  pub long : length share ≡ length list
