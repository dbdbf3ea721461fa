-- The cells entered on the way to a voxel, as code keeps them: a word for each list, eight times the cell's number and the mirror under which it is
-- seen. Definitions only.
use Rattle.std.specs.Prelude.{◌≡◌, Bool, true, cond, not, ◌||◌, List, ℕ, zero, suc, ◌+◌, ◌*◌, ◌/◌, ◌%◌, ◌^◌, ◌<◌, ◌≤◌, [], ◌∷◌, eqb, length, get_or, set, Result, Ok, Err}
use Rattle.std.specs.Int.Bits.{bit_xor}
use Rattle.paper.specs.Rooms.{Point, Inside, OneCell}
use Rattle.paper.specs.Store.{Cell, cells_at, cell_at, tag_of, cell_no, any_bad, heights, kept_of}
use Rattle.paper.specs.Answers.{Told, told, voxel_values}
use Rattle.paper.specs.declared.Damaged.{Damaged as Unsound}
use Rattle.paper.specs.declared.Voxel.{Voxel}
use Rattle.walk.specs.Walk.{Ended, Absent, At, Damaged, taken_from, walk_to}

-- ---- the lowest cell that holds two points

-- two points lie in different cells of height h
abbrev pub apart_in : ℕ → Point → Point → Bool
apart_in h a b =
    not (eqb (a.x / 2 ^ h) (b.x / 2 ^ h)) || not (eqb (a.y / 2 ^ h) (b.y / 2 ^ h)) || not (eqb (a.z / 2 ^ h) (b.z / 2 ^ h))

-- two points in a cell of list `top`, to be sought from list `low` up
pub record Sought (low top : ℕ) (a b : Point) : Type 0 where
  pub order : low ≤ top
  pub listed : top < heights
  pub first : Inside (2 ^ (top + 2)) a
  pub second : Inside (2 ^ (top + 2)) b

-- the lowest list whose cell around one holds the other too
pub record Lowest (low top : ℕ) (a b : Point) (k : ℕ) : Type 0 where
  pub from : low ≤ k
  pub up_to : k ≤ top
  pub one : OneCell (k + 2) a b
  pub apart : (j : ℕ) → low ≤ j → j < k → apart_in (j + 2) a b ≡ true

-- ---- a path

-- what stands in a path for list k
abbrev pub number_in : List ℕ → ℕ → ℕ
number_in path k = get_or path k 0 / 8

abbrev pub mirror_in : List ℕ → ℕ → ℕ
mirror_in path k = get_or path k 0 % 8

abbrev pub entry : ℕ → ℕ → ℕ
entry n m = n * 8 + m

-- a path whose cell of list k is kept
pub record OnPath (ws path : List ℕ) (k : ℕ) : Type 0 where
  pub list : k < heights
  pub sized : length path ≡ heights
  pub kept : number_in path k < length (cells_at (kept_of ws) k)

-- the path after a walk from its cell of list k to voxel v: each cell entered on the way, as far as the walk gets
unfoldable pub descended : List (List Cell) → ℕ → Point → List ℕ → List ℕ
descended K zero v path = path
descended K (suc k) v path =
    let c : Cell = cell_at K (suc k) (number_in path (suc k)) in
    let p : ℕ = taken_from k c (mirror_in path (suc k)) v in
    let r : List ℕ = descended K k v (set path k (entry (cell_no p) (bit_xor (tag_of p) (mirror_in path (suc k))))) in
    cond (any_bad (length (cells_at K k)) c) path (cond (eqb p 0) path r)

-- ---- the path to a voxel

-- the walk from the path's cell of list k to a leaf, on the way to v
abbrev pub walk_from : List (List Cell) → List ℕ → ℕ → Point → Ended
walk_from K path k v = walk_to K 0 k (number_in path k) (mirror_in path k) v

-- the walk from cell n of list k, seen under m, that stops at list i ends at the kept cell that stands in the path there
pub record Stands (K : List (List Cell)) (k n m : ℕ) (v : Point) (path : List ℕ) (i : ℕ) : Type 0 where
  pub ends : walk_to K i k n m v ≡ At (number_in path i) (mirror_in path i)
  pub kept : number_in path i < length (cells_at K i)

-- from list `low` up to list `top`, where cell n seen under m is, the path has the cells entered on the way to v
abbrev pub PathTo : List (List Cell) → ℕ → ℕ → ℕ → Point → ℕ → List ℕ → Type 0
PathTo K top n m v low path = (j : ℕ) → low ≤ j → j ≤ top → Stands K top n m v path j

-- the same from the path's own cell of list `top`
abbrev pub PathFrom : List (List Cell) → ℕ → Point → ℕ → List ℕ → Type 0
PathFrom K top v low path = PathTo K top (number_in path top) (mirror_in path top) v low path

-- a walk that ended so came as far down as list i
abbrev pub Reached : Ended → ℕ → Type 0
Reached (Absent h) i = h ≤ suc i
Reached (At n m) i = Unit {0}
Reached Damaged i = ⊥

-- a path to the voxel asked last, from list `low` up, by which the next may be asked
pub record Ready (ws path : List ℕ) (low top : ℕ) (last v : Point) : Type 0 where
  pub sized : length path ≡ heights
  pub cells : PathFrom (kept_of ws) top last low path
  pub sought : Sought low top last v

-- the path after it was asked: as far as its walk got, the cells on the way to it
pub record Walked (K : List (List Cell)) (path : List ℕ) (top : ℕ) (v : Point) (left : List ℕ) : Type 0 where
  pub root : get_or left top 0 ≡ get_or path top 0
  pub sized : length left ≡ length path
  pub cells : (i : ℕ) → Reached (walk_from K path top v) i → PathTo K top (number_in path top) (mirror_in path top) v i left

-- a voxel asked, as a voxel question tells it
abbrev pub voxel_of : Result Voxel Unsound → Told
voxel_of (Ok v) = told 0 (voxel_values v)
voxel_of (Err e) = told 2 (0 ∷ 0 ∷ [])
