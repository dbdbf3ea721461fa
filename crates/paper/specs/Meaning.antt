-- What a pointer stands for, by coordinates: cells of a store and records of a packed file alike. Definitions only.
-- Document 01, 'so mirrored': voxel v of a pointer is voxel v' of its cell, v' by the mirror formula; voxel v of a cell is voxel (v minus corner)
-- of the child whose half holds v.
use Rattle.std.specs.Prelude.{false, cond, List, [], ℕ, zero, suc, ◌-◌, ◌^◌, eqb, get_or}
use Rattle.paper.specs.Rooms.{Point, Room, mirror, child_no, in_child}
use Rattle.paper.specs.Leaf.{leaf_voxel}
use Rattle.paper.specs.Outline.{edge}
use Rattle.paper.specs.Store.{Cell, tag_of, cell_no, leaf_no, cells_at}

-- none, or the cell so mirrored, of edge S; `of` says what a cell stands for
abbrev pub pointer_voxel : (Cell → Room) → List Cell → ℕ → ℕ → Room
pointer_voxel of cs S p v = let r = of (get_or cs (cell_no p) []) (mirror (tag_of p) S v) in cond (eqb p 0) false r

-- the pointer of the child that holds v, in a cell whose children have edge S
abbrev pub pointer_for : Cell → ℕ → Point → ℕ
pointer_for c S v = get_or c (child_no S v) 0

-- the voxels of a cell of list k
unfoldable pub cell_voxel : List (List Cell) → ℕ → Cell → Room
cell_voxel K zero c v = leaf_voxel (leaf_no c) v
cell_voxel K (suc k) c v = pointer_voxel (cell_voxel K k) (cells_at K k) (edge k) (pointer_for c (edge k) v) (in_child (edge k) v)

-- the room of depth D with this root
unfoldable pub root_room : List (List Cell) → ℕ → ℕ → Room
root_room K D p = pointer_voxel (cell_voxel K (D - 2)) (cells_at K (D - 2)) (2 ^ D) p
