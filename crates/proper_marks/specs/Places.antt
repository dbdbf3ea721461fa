-- The places of a list of bytes, and what is known of a list whose places are gone along. Definitions only.
use Rattle.std.specs.Prelude.{◌≡◌, List, ℕ, ◌+◌, ◌-◌, ◌*◌, ◌/◌, ◌%◌, ◌^◌, ◌≤◌, ◌<◌, T, length, take, drop}
use Rattle.paper.specs.Numbers.{all_in, count}
use Rattle.paper.specs.Packed.{header_at, halves, record_ok, starts_from, start_at, list_at}
use Rattle.packed_lists.specs.Ends.{end_at}

-- at which its records start, divided from the front
abbrev pub places_in : List ℕ → List ℕ
places_in l = starts_from l (length l / 2) 0

-- at which its leaves do
abbrev pub leaves_in : List ℕ → List ℕ
leaves_in l = count 0 (length l / 8)

-- the half-words of the record at p
abbrev pub width_at : List ℕ → ℕ → ℕ
width_at l p = halves 8 (header_at l p)

-- ---- as many bytes as lists of a file have

pub record LeafList (l : List ℕ) : Type 0 where
  pub eights : length l % 8 ≡ 0
  pub short : length l < 2 ^ 32

pub record RecordList (l : List ℕ) : Type 0 where
  pub even : length l % 2 ≡ 0
  pub short : length l < 2 ^ 32

-- each record keeps its rules
pub record WholeList (l : List ℕ) : Type 0 where
  pub list : RecordList l
  pub whole : T (all_in (record_ok l) (places_in l))

-- r is the place after the record at p: two half-words on or more, and inside the list
pub record After (l : List ℕ) (p r : ℕ) : Type 0 where
  pub is : r ≡ p + width_at l p
  pub later : p + 2 ≤ r
  pub inside : 2 * r ≤ length l

-- ---- in a file

-- list k lies from a to b
pub record Lies (bs : List ℕ) (k a b : ℕ) : Type 0 where
  pub start : a ≡ start_at bs k
  pub end : b ≡ end_at bs k
  pub order : a ≤ b
  pub inside : b ≤ length bs
  pub is : take (b - a) (drop a bs) ≡ list_at bs k
