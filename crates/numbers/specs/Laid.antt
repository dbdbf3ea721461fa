-- Bytes laid over others. Definitions only.
use Rattle.std.specs.Prelude.{List, ◌++◌, ℕ, ◌+◌, length, take, drop}

-- these bytes over a list, from `at` on
unfoldable pub laid : List ℕ → ℕ → List ℕ → List ℕ
laid bs at l = take at l ++ (bs ++ drop (at + length bs) l)

-- where a writer ends, and the list as it is then
pub data Reached : Type 0 where
  reached : ℕ → List ℕ → Reached

-- what writing these bytes from `at` on comes to
unfoldable pub writing : List ℕ → ℕ → List ℕ → Reached
writing bs at l = reached (at + length bs) (laid bs at l)
