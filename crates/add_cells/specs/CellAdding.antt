-- A cell sought in the words of a store, or kept there if there is room. Definitions only.
-- The pointer that is answered comes with the cell's symmetry: bit t is set where the cell matches itself under t.
use Rattle.std.specs.Prelude.{cond, List, ◌++◌, ℕ, Result, Ok, Err, eqb, ltb}
use Rattle.std.proofs.Math.Option.{Option, some}
use Rattle.std.proofs.Math.Option as O
use Rattle.paper.specs.Leaf.{mirror_leaf}
use Rattle.paper.specs.Store.{Cell, cells_at, pointer, capacity_of, kept_count, two_words, kept_of, chain_of}
use Rattle.paper.specs.Match.{matches, find, leaf_cell}
use Rattle.laws.specs.Symmetries.{symmetry_for, symmetry_match}
use Rattle.laws.specs.Chains.{last_of}
use Rattle.add_keep.specs.Keeping.{link_in, keep_in}
use Rattle.paper.specs.declared.Full.{Full}
use Rattle.add_cells.specs.declared.Kept.{Kept}

-- the pointer to the cell and its symmetry, or full; and the words as they are then
pub data CellAdding : Type 0 where
  cell_added : ℕ → ℕ → List ℕ → CellAdding
  cell_full : List ℕ → CellAdding

-- an answer, so read
abbrev pub cell_adding : Result Kept Full → List ℕ → CellAdding
cell_adding (Ok kept) ws = cell_added kept.pointer kept.symmetry ws
cell_adding (Err full) ws = cell_full ws

-- the words with a cell more in list k: linked behind the last of its chain j, its row behind those of the others
unfoldable pub kept_behind : ℕ → ℕ → List ℕ → List ℕ → List ℕ
kept_behind k j row ws = keep_in k row (link_in k j (last_of (kept_of ws) k j) ws)

-- kept ('as it stands') behind the others, untagged, with its symmetry, in chain j, if list k has room; of the words that the store has for it
unfoldable pub kept_with : ℕ → ℕ → ℕ → List ℕ → List ℕ → CellAdding
kept_with symmetry k j row ws =
    let r = cell_added (pointer 0 (kept_count ws k)) symmetry (kept_behind k j row ws) in
    cond (ltb (kept_count ws k) (capacity_of ws)) r (cell_full ws)

-- where it was found, else kept
unfoldable pub found_or : Option ℕ → ℕ → ℕ → ℕ → List ℕ → List ℕ → CellAdding
found_or O.none symmetry k j row ws = kept_with symmetry k j row ws
found_or (some p) symmetry k j row ws = cell_added p symmetry ws

unfoldable pub add_leaf_in : ℕ → List ℕ → CellAdding
add_leaf_in n ws =
    found_or (find (λ b t. matches (kept_of ws) 0 (leaf_cell n) b t) (cells_at (kept_of ws) 0) 0) (symmetry_for (λ t. eqb n (mirror_leaf t n))) 0 (chain_of 0 (leaf_cell n))
    (leaf_cell n) ws

-- ms has the symmetries of the cells that the eight pointers name; the cell has n solid voxels
unfoldable pub add_cell_in : ℕ → Cell → List ℕ → ℕ → List ℕ → CellAdding
add_cell_in k c ms n ws =
    found_or (find (symmetry_match ms c) (cells_at (kept_of ws) k) 0) (symmetry_for (symmetry_match ms c c)) k (chain_of k c) (c ++ two_words n) ws
