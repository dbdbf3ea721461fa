-- What phase 1 of a check does: the rules of each list, tested by places and marks, and the marks of each list, written over its share. First by the bytes
-- that a part of the code is handed, then in a file. Definitions only.
use Rattle.std.specs.Prelude.{◌≡◌, Bool, ◌&&◌, List, [], ◌∷◌, ◌++◌, ℕ, zero, suc, ◌*◌, ◌≤◌, T, length, set, take, drop, replicate}
use Rattle.paper.specs.Numbers.{all_below, all_in}
use Rattle.paper.specs.Packed.{start_at, list_at, leaf_ok, places_at}
use Rattle.packed_lists.specs.Ends.{unit_at, Listed}
use Rattle.proper_marks.specs.Places.{places_in, leaves_in, RecordList}
use Rattle.proper_marks.specs.Marks.{Grouped}
use Rattle.proper_alike.specs.Matching.{leaves_match, records_match, leaf_symmetry, record_symmetry, record_rules, apart_in}

-- ---- a list by its bytes

-- f p at the first byte of each record, place p counting u bytes
unfoldable pub marks_on : (ℕ → ℕ) → ℕ → List ℕ → List ℕ → List ℕ
marks_on f u [] z = z
marks_on f u (p ∷ ps) z = marks_on f u ps (set z (u * p) (f p))

-- a list of leaves
unfoldable pub leaves_rules : List ℕ → Bool
leaves_rules l = all_in (leaf_ok l) (leaves_in l) && apart_in (leaves_match l) (leaves_in l)

abbrev pub leaf_marks : List ℕ → List ℕ → List ℕ
leaf_marks l z = marks_on (leaf_symmetry l) 8 (leaves_in l) z

-- a list of records; m: the marks one list down, u the bytes that a place counts there
unfoldable pub inner_rules : ℕ → List ℕ → List ℕ → Bool
inner_rules u m l = all_in (record_rules u m l) (places_in l) && apart_in (records_match u m l) (places_in l)

abbrev pub record_marks : ℕ → List ℕ → List ℕ → List ℕ → List ℕ
record_marks u m l z = marks_on (record_symmetry u m l) 2 (places_in l) z

-- a list of records and its shares: the list's own, which is zero, and after it the marks one list down, each a group of mirrors; a place counts `unit` bytes there
pub record Shares (unit : ℕ) (list shares : List ℕ) : Type 0 where
  pub records : RecordList list
  pub long : length list ≤ length shares
  pub own : take (length list) shares ≡ replicate (length list) 0
  pub grouped : Grouped unit (drop (length list) shares)
  pub counts : unit ≤ 8

-- ---- list k of a file

-- the marks of list k
unfoldable pub marks_at : List ℕ → ℕ → List ℕ
marks_at bs zero = marks_on (leaf_symmetry (list_at bs 0)) 8 (places_at bs 0) (replicate (length (list_at bs 0)) 0)
marks_at bs (suc k) =
    marks_on (record_symmetry (unit_at k) (marks_at bs k) (list_at bs (suc k))) 2 (places_at bs (suc k)) (replicate (length (list_at bs (suc k))) 0)

-- its rules
unfoldable pub list_rules : List ℕ → ℕ → Bool
list_rules bs zero = all_in (leaf_ok (list_at bs 0)) (places_at bs 0) && apart_in (leaves_match (list_at bs 0)) (places_at bs 0)
list_rules bs (suc k) =
    all_in (record_rules (unit_at k) (marks_at bs k) (list_at bs (suc k))) (places_at bs (suc k))
    && apart_in (records_match (unit_at k) (marks_at bs k) (list_at bs (suc k))) (places_at bs (suc k))

-- ---- the scratch

-- when n lists are marked, from the leaves up: scratch position = file position
unfoldable pub marks_tail : List ℕ → ℕ → List ℕ
marks_tail bs zero = marks_at bs 0
marks_tail bs (suc k) = marks_at bs (suc k) ++ marks_tail bs k

unfoldable pub scratch_at : List ℕ → ℕ → List ℕ
scratch_at bs zero = replicate (length bs) 0
scratch_at bs (suc k) = replicate (start_at bs k) 0 ++ marks_tail bs k

-- the first n lists, from the leaves up, keep their rules and are marked in the scratch S
pub record Marked (bs starts : List ℕ) (n : ℕ) (S : List ℕ) : Type 0 where
  pub listed : Listed bs starts
  pub rules : T (all_below n (list_rules bs))
  pub is : S ≡ scratch_at bs n
