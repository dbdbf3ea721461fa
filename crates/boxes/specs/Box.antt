-- What is counted of a box in a cell, by its first voxel and its last; what paper's box question finds, and tells. Definitions only.
use Rattle.std.specs.Prelude.{List, [], ◌∷◌, ℕ, suc, ◌<◌, ◌≤◌, length, get_or, Result, Ok, Err, Option, None, Some}
use Rattle.std.specs.Int.Bits.{bit_xor}
use Rattle.paper.specs.Rooms.{Point, in_child, clipped}
use Rattle.paper.specs.Outline.{edge}
use Rattle.paper.specs.Store.{Cell, cells_at, cell_at, kept_count, kept_of, count_of}
use Rattle.paper.specs.Questions.{pointer_tally, cell_tally, total, tally_solid}
use Rattle.paper.specs.Calls.{box_outside, scene_tally, box_damaged}
use Rattle.paper.specs.Answers.{Told, told}
use Rattle.points.specs.Seeing.{child_no_at}
use Rattle.store_entry.specs.Entry.{past_entry}
use Rattle.boxes_parts.specs.Parts.{InCell, past_in}
use Rattle.paper.specs.Questions.{Tally}
use Rattle.paper.specs.Questions.{Solid as Counted, Damaged as Unsound}
use Rattle.paper.specs.declared.Damaged.{Damaged}
use Rattle.boxes.specs.declared.count.Place.{Place}

-- ---- by its first voxel and its last, in a cell

-- the pointer of cell n of list k + 1, seen under m, to the child that holds v
abbrev pub child_taken : List (List Cell) → ℕ → ℕ → ℕ → Point → ℕ
child_taken K k n m v = get_or (cell_at K (suc k) n) (bit_xor (child_no_at k v) m) 0

-- ---- what is counted of it, by the store's words

-- the tally of cell n of list k, by mirror and box
abbrev pub tally_in : List ℕ → ℕ → ℕ → ℕ → Point → Point → Tally
tally_in ws k n m low high = cell_tally (kept_of ws) (count_of ws) k n m low high

-- of pointer p of list k
abbrev pub pointer_in : List ℕ → ℕ → ℕ → ℕ → Point → Point → Tally
pointer_in ws k p m low high = pointer_tally (λ q t a b. tally_in ws k q t a b) (length (cells_at (kept_of ws) k)) p m low high

-- of the first children of a cell c of list k + 1, seen under m, the box cut to each
unfoldable pub children_in : List ℕ → ℕ → Cell → ℕ → ℕ → Point → Point → Tally
children_in ws k c m left low high = total left (λ i. pointer_in ws k (get_or c (bit_xor i m) 0) m (clipped (edge k) i low) (clipped (edge k) i high))

-- the same by the box's first voxel and its last
abbrev pub cell_part : List ℕ → ℕ → ℕ → ℕ → Point → Point → Tally
cell_part ws k n m low last = tally_in ws k n m (in_child (edge k) low) (past_in (edge k) last)

abbrev pub pointer_part : List ℕ → ℕ → ℕ → ℕ → Point → Point → Tally
pointer_part ws k p m low last = pointer_in ws k p m (in_child (edge k) low) (past_in (edge k) last)

-- where the way down ended
abbrev pub tally_at : List ℕ → Point → Point → Result (Option Place) Damaged → Tally
tally_at ws low last (Err e) = Unsound
tally_at ws low last (Ok None) = Counted 0
tally_at ws low last (Ok (Some p)) = cell_part ws p.list p.number p.mirror low last

-- a cell where it ends is kept, at list k or below
pub record Kept (ws : List ℕ) (k : ℕ) (low last : Point) (p : Place) : Type 0 where
  pub under : p.list ≤ k
  pub kept : p.number < kept_count ws p.list
  pub within : InCell p.list p.mirror low last

abbrev pub AtKept : List ℕ → ℕ → Point → Point → Result (Option Place) Damaged → Type 0
AtKept ws k low last (Err e) = Unit {0}
AtKept ws k low last (Ok None) = Unit {0}
AtKept ws k low last (Ok (Some p)) = Kept ws k low last p

-- ---- a scene

-- a tally as an answer's number and value
abbrev pub tally_told : Tally → Told
tally_told (Counted n) = told 0 (n ∷ [])
tally_told Unsound = told 2 (0 ∷ [])

-- a box question past the scene's tests
abbrev pub box_told : List ℕ → ℕ → Point → Point → Told
box_told ws n low high = past_entry (box_outside ws n low high) (box_damaged ws n low high) (tally_solid (scene_tally ws n low high) ∷ [])
