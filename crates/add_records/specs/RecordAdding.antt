-- A file's records added to the words of a store, by positions ('outline order'). Definitions only.
-- The laws in proofs/RecordStanding.antt say that this is the paper's adding of the tree that is read.
use Rattle.std.specs.Prelude.{cond, List, ℕ, zero, suc, ◌+◌, ◌-◌, ◌/◌, ◌%◌, ◌≤◌, Result, Ok, Err, eqb, drop, get_or, set, replicate}
use Rattle.paper.specs.Numbers.{num}
use Rattle.paper.specs.Rooms.{least, deepest}
use Rattle.paper.specs.Store.{Cell, leaf_solid}
use Rattle.laws.specs.InOrder.{InOrder}
use Rattle.outline.specs.Positions.{record_at}
use Rattle.outline.specs.Positions.{Reading}
use Rattle.outline.specs.Positions.{Broken, EndsAt}
use Rattle.paper.specs.declared.Full.{Full}
use Rattle.add_records.specs.declared.Record.{Record}
use Rattle.add_cells.specs.CellAdding.{CellAdding, cell_added, cell_full, add_leaf_in, add_cell_in}

-- the position after, the pointer, the symmetry and how many solid voxels, or full; and the words as they are then
pub data RecordAdding : Type 0 where
  record_added : ℕ → ℕ → ℕ → ℕ → List ℕ → RecordAdding
  record_full : List ℕ → RecordAdding

-- an answer, so read
abbrev pub record_adding : Result Record Full → List ℕ → RecordAdding
record_adding (Ok r) ws = record_added r.end r.pointer r.symmetry r.solid ws
record_adding (Err full) ws = record_full ws

-- a cell of n solid voxels is added, and the record that called for it ends at a position
unfoldable pub ending_at : ℕ → ℕ → CellAdding → RecordAdding
ending_at next n (cell_added p m ws) = record_added next p m n ws
ending_at next n (cell_full ws) = record_full ws

-- what is done after a record was added
unfoldable pub then_add : RecordAdding → (ℕ → ℕ → ℕ → ℕ → List ℕ → RecordAdding) → RecordAdding
then_add (record_added next p m n ws) f = f next p m n ws
then_add (record_full ws) f = record_full ws

-- n children to go, mask m, each present one added by f; its pointer goes to place 8 - n of the cell c, its symmetry to that of ms, its solid voxels to
-- the v so far; then the cell, of list k, is sought or kept
unfoldable pub add_children : (ℕ → List ℕ → RecordAdding) → ℕ → ℕ → ℕ → ℕ → Cell → List ℕ → ℕ → List ℕ → RecordAdding
add_children f k zero m at c ms v ws = ending_at at v (add_cell_in k c ms v ws)
add_children f k (suc n) m at c ms v ws =
    let here = then_add (f at ws) (λ next p s u ws'. add_children f k n (m / 2) next (set c (7 - n) p) (set ms (7 - n) s) (v + u) ws') in
    let skip = add_children f k n (m / 2) at c ms v ws in
    cond (eqb (m % 2) 1) here skip

-- the record of a cell of height k + 2
unfoldable pub add_record : List ℕ → ℕ → ℕ → List ℕ → RecordAdding
add_record file zero at ws = ending_at (at + 8) (leaf_solid (num 8 (drop at file))) (add_leaf_in (num 8 (drop at file)) ws)
add_record file (suc k) at ws = add_children (add_record file k) (suc k) 8 (get_or file at 0) (at + 1) (replicate 8 0) (replicate 8 0) 0 ws

-- a record, or children, were read to the end
abbrev pub Whole : Reading → Type 0
Whole Broken = ⊥
Whole (EndsAt p) = Unit {0}

-- the record of a cell of this height stands whole at a position of the file, and the store is in order
pub record AtRecord (file ws : List ℕ) (at height : ℕ) : Type 0 where
  pub low : least ≤ height
  pub high : height ≤ deepest
  pub whole : Whole (record_at file (height - 2) at)
  pub store : InOrder ws
