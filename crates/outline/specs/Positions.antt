-- Document 01, 'The outline file', read by positions: where in the file a record ends. Definitions only.
-- The laws in proofs/Agreeing.antt say that these are the paper's readers.
use Rattle.std.specs.Prelude.{cond, Result, Ok, Err, List, ◌≡◌, ℕ, zero, suc, ◌+◌, ◌/◌, ◌%◌, ◌≤◌, eqb, leb, ltb, length, drop, get_or}
use Rattle.paper.specs.Numbers.{num}
use Rattle.paper.specs.Rooms.{least, deepest}
use Rattle.paper.specs.Outline.{outline_head, file_depth, Read, bad, ok}

-- what reading a record comes to: it breaks the rules, or the position after it
pub data Reading : Type 0 where
  Broken : Reading
  EndsAt : ℕ → Reading

-- so read from what the readers answer
abbrev pub reading_of : {E : Type 0} → Result ℕ E → Reading
reading_of (Ok p) = EndsAt p
reading_of (Err e) = Broken

-- what is read from a record's end on, if there was a record
unfoldable pub and_then : Reading → (ℕ → Reading) → Reading
and_then Broken f = Broken
and_then (EndsAt p) f = f p

-- a leaf ('A leaf's record'): eight bytes that are there and not all zero
unfoldable pub leaf_at : List ℕ → ℕ → Reading
leaf_at file at = cond (ltb (length file) (at + 8)) Broken (cond (eqb (num 8 (drop at file)) 0) Broken (EndsAt (at + 8)))

-- n children to go, with the bits of m for them, lowest first; each that is present is read by f, the next from where that one ends
unfoldable pub children_at : (ℕ → Reading) → ℕ → ℕ → ℕ → Reading
children_at f zero m at = EndsAt at
children_at f (suc n) m at =
    let here = and_then (f at) (λ next. children_at f n (m / 2) next) in
    let skip = children_at f n (m / 2) at in
    cond (eqb (m % 2) 1) here skip

-- the record of a cell of height k + 2; above the leaves a mask of zero is broken ('Any other record')
unfoldable pub record_at : List ℕ → ℕ → ℕ → Reading
record_at file zero at = leaf_at file at
record_at file (suc k) at =
    let r = children_at (record_at file k) 8 (get_or file at 0) (at + 1) in
    cond (leb (length file) at) Broken (cond (eqb (get_or file at 0) 0) Broken r)

-- a file has its head, and in it a depth that a room can have
pub record GoodHead (file : List ℕ) : Type 0 where
  pub there : outline_head ≤ length file
  pub depth_from : least ≤ file_depth file
  pub depth_upto : file_depth file ≤ deepest

-- the same answer by position and by the bytes that are left: broken, or a position in the file from which on all that is left stands
abbrev pub Agrees : {A : Type 0} → List ℕ → Reading → Read A → Type 0
Agrees file Broken bad = Unit {0}
Agrees file Broken (ok a bs) = ⊥
Agrees file (EndsAt p) bad = ⊥
Agrees file (EndsAt p) (ok a bs) = (bs ≡ drop p file) × (p ≤ length file)
