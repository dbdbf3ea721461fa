-- The header of a packed file as code takes it: what is known of a file once its length and depth are tested, and where its lists start, counted from
-- the top down. Definitions only.
use Rattle.std.specs.Prelude.{cond, List, ℕ, suc, ◌+◌, ◌-◌, ◌*◌, ◌%◌, ◌≤◌, ◌<◌, ◌^◌, T, leb, length}
use Rattle.paper.specs.Numbers.{tabulate}
use Rattle.paper.specs.Rooms.{least, deepest}
use Rattle.paper.specs.Outline.{file_depth}
use Rattle.paper.specs.Store.{heights}
use Rattle.paper.specs.Packed.{packed_head, top_of, tail_at, head_ok}

-- length and depth are tested: 7 bytes at least, no more than four bytes can say, and a depth of 2 to 16
pub record Tested (bs : List ℕ) : Type 0 where
  pub long : packed_head ≤ length bs
  pub short : length bs < 2 ^ 32
  pub deep : least ≤ file_depth bs
  pub flat : file_depth bs ≤ deepest

-- how many bytes stand before the first list: the head and the sizes
abbrev pub front_of : List ℕ → ℕ
front_of bs = packed_head + 4 * suc (top_of bs)

-- the sizes are there to be read
pub record Sized (bs : List ℕ) : Type 0 where
  pub deep : least ≤ file_depth bs
  pub flat : file_depth bs ≤ deepest
  pub room : front_of bs ≤ length bs

-- byte 6 and the sizes are tested too
pub record Opens (bs : List ℕ) : Type 0 where
  pub tested : Tested bs
  pub head : T (head_ok bs)

-- where list k starts, counted from the top down: the same as from the end of the file where the sizes add up
abbrev pub from_top : List ℕ → ℕ → ℕ
from_top bs k = front_of bs + (tail_at bs (top_of bs) - tail_at bs k)

-- the starts so, as words hold them; 0 above the depth
unfoldable pub laid_starts : List ℕ → List ℕ
laid_starts bs = tabulate 0 heights (λ k. cond (leb k (top_of bs)) (from_top bs k % 2 ^ 32) 0)
