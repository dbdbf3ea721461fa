-- Matching as code tests it: by places and marks. A record's symmetry, its matching and the lowest tag of a pointer to it need the marks one list down
-- only. Definitions only.
use Rattle.std.specs.Prelude.{Bool, true, false, cond, not, ◌&&◌, List, ℕ, ◌<◌, eqb, ltb, length, get_or}
use Rattle.std.specs.Int.Bits.{bit_xor}
use Rattle.paper.specs.Numbers.{all_below, all_in}
use Rattle.paper.specs.Leaf.{mirror_leaf}
use Rattle.paper.specs.Store.{leaf_no}
use Rattle.paper.specs.Packed.{PackedPointer, no_pointer, pointers_at, leaf_at, record_ok, code_for}
use Rattle.laws.specs.Symmetries.{symmetry_for, marked}
use Rattle.proper_marks.specs.Marks.{mark_of, low_by}
use Rattle.proper_keys.specs.Keys.{leaf_key}

-- ---- matching. l: the bytes of a list; m: the marks one list down, u the bytes that a place counts there

-- leaves p and q match under t
unfoldable pub leaves_match : List ℕ → ℕ → ℕ → ℕ → Bool
leaves_match l p q t = eqb (leaf_no (leaf_at l p)) (mirror_leaf t (leaf_no (leaf_at l q)))

-- two pointers match under t; `self x v`: the record at place x matches itself under v
unfoldable pub place_match : (ℕ → ℕ → Bool) → ℕ → PackedPointer → PackedPointer → Bool
place_match self t r s =
    let m : Bool = self r.place (bit_xor (bit_xor r.tag s.tag) t) in
    cond (eqb r.code 0) (eqb s.code 0) (cond (eqb s.code 0) false (cond (eqb r.place s.place) m false))

-- the tags of two pointers and a mirror, each one of eight
pub record TwoTags (mirror tag other : ℕ) : Type 0 where
  pub mirror_below : mirror < 8
  pub tag_below : tag < 8
  pub other_below : other < 8

-- by the marks
abbrev pub self_by : ℕ → List ℕ → ℕ → ℕ → Bool
self_by u m x v = marked (mark_of u m x) v

-- the records at places p and q match under t
unfoldable pub records_match : ℕ → List ℕ → List ℕ → ℕ → ℕ → ℕ → Bool
records_match u m l p q t =
    all_below 8 (λ i. place_match (self_by u m) t (get_or (pointers_at l p) i no_pointer) (get_or (pointers_at l q) (bit_xor i t) no_pointer))

-- their symmetries
unfoldable pub leaf_symmetry : List ℕ → ℕ → ℕ
leaf_symmetry l p = symmetry_for (leaves_match l p p)

unfoldable pub record_symmetry : ℕ → List ℕ → List ℕ → ℕ → ℕ
record_symmetry u m l p = symmetry_for (records_match u m l p p)

-- ---- the rules of one record

-- a pointer leads to where a record starts, has the code that its place calls for, and the lowest tag of its meaning
unfoldable pub pointer_rules : ℕ → List ℕ → PackedPointer → Bool
pointer_rules u m r =
    let symmetry : ℕ = mark_of u m r.place in
    cond (eqb r.code 0) true (ltb 0 symmetry && eqb r.code (code_for r.place) && low_by symmetry r.tag)

-- a whole record, with good pointers
unfoldable pub record_rules : ℕ → List ℕ → List ℕ → ℕ → Bool
record_rules u m l p = record_ok l p && all_in (pointer_rules u m) (pointers_at l p)

-- no two of the records at these places match under any mirror
unfoldable pub apart_in : (ℕ → ℕ → ℕ → Bool) → List ℕ → Bool
apart_in match ps = all_below (length ps) (λ q. all_below q (λ r. all_below 8 (λ t. not (match (get_or ps q 0) (get_or ps r 0) t))))

-- ---- keys

-- the key of the leaf at place p
abbrev pub leaf_key_at : List ℕ → ℕ → ℕ
leaf_key_at l p = leaf_key (leaf_no (leaf_at l p))
