-- Document 01, 'Rooms and mirrors', by coordinates: rooms, cells, mirrors, images, non-empty, how much is solid in a box; document 02, request 2: how
-- big the emptiness is. Definitions only.
-- A room is a question on three coordinates; a cell of it is that question restricted and shifted. Nothing here speaks of trees or pointers.
use Rattle.std.specs.Prelude.{Bool, true, false, cond, ◌&&◌, ◌≡◌, ℕ, zero, suc, ◌+◌, ◌-◌, ◌*◌, ◌/◌, ◌%◌, ◌^◌, ◌<◌, min, eqb, leb, ltb}
use Rattle.paper.specs.Numbers.{any_below, sum, bit_for}

-- a voxel's coordinates, or those of a cell counted in cells of its height
pub record Point : Type 0 where
  pub x : ℕ
  pub y : ℕ
  pub z : ℕ

abbrev pub point : ℕ → ℕ → ℕ → Point
point a b c = record { x = a; y = b; z = c }

-- is this voxel solid
abbrev pub Room : Type 0
Room = Point → Bool

-- the least and the greatest depth of a scene ('has a depth'); cells are kept at the heights between them
abbrev pub least : ℕ
least = 2

abbrev pub deepest : ℕ
deepest = 16

abbrev pub depth_ok : ℕ → Bool
depth_ok D = leb least D && leb D deepest

-- each coordinate below the edge
abbrev pub inside : ℕ → Point → Bool
inside S v = ltb v.x S && ltb v.y S && ltb v.z S

pub record Inside (S : ℕ) (v : Point) : Type 0 where
  pub in_x : v.x < S
  pub in_y : v.y < S
  pub in_z : v.z < S

-- ---- cells ('A cell of height h'): cubes of edge 2 ^ h, their corners at multiples of that edge

-- the cell of height h at c, c counted in cells of that height
abbrev pub cell_of : Room → ℕ → Point → Room
cell_of r h c v = r (point (c.x * 2 ^ h + v.x) (c.y * 2 ^ h + v.y) (c.z * 2 ^ h + v.z))

-- v and w lie in one cell of height h
pub record OneCell (h : ℕ) (v w : Point) : Type 0 where
  pub one_x : v.x / 2 ^ h ≡ w.x / 2 ^ h
  pub one_y : v.y / 2 ^ h ≡ w.y / 2 ^ h
  pub one_z : v.z / 2 ^ h ≡ w.z / 2 ^ h

-- the cell of height h that holds v
abbrev pub cell_around : Room → ℕ → Point → Room
cell_around r h v = cell_of r h (point (v.x / 2 ^ h) (v.y / 2 ^ h) (v.z / 2 ^ h))

-- ---- children ('eight children'), numbered by three bits, the lowest for x: a bit is 1 in the upper half of its axis

-- the number of the child that holds v, S being the children's edge; where v lies in it; and child i of a cell
abbrev pub child_no : ℕ → Point → ℕ
child_no S v = v.x / S + 2 * (v.y / S) + 4 * (v.z / S)

abbrev pub in_child : ℕ → Point → Point
in_child S v = point (v.x % S) (v.y % S) (v.z % S)

abbrev pub child_room : ℕ → ℕ → Room → Room
child_room S i r v = r (point (i % 2 * S + v.x) (i / 2 % 2 * S + v.y) (i / 4 % 2 * S + v.z))

-- ---- mirrors ('A mirror t'): each bit of t marks an axis, the lowest x; along a marked axis a cube's coordinates run backwards

abbrev pub flip : Bool → ℕ → ℕ → ℕ
flip true S c = S - 1 - c
flip false S c = c

abbrev pub mark_x : ℕ → Bool
mark_x t = eqb (t % 2) 1

abbrev pub mark_y : ℕ → Bool
mark_y t = eqb (t / 2 % 2) 1

abbrev pub mark_z : ℕ → Bool
mark_z t = eqb (t / 4 % 2) 1

abbrev pub mirror : ℕ → ℕ → Point → Point
mirror t S v = point (flip (mark_x t) S v.x) (flip (mark_y t) S v.y) (flip (mark_z t) S v.z)

-- a cell of edge S so mirrored
abbrev pub mirrored : ℕ → ℕ → Room → Room
mirrored t S r v = r (mirror t S v)

-- ---- equal cells, images, non-empty: of voxels

-- the same voxels in a cube of edge S
abbrev pub Same : ℕ → Room → Room → Type 0
Same S a b = (v : Point) → Inside S v → a v ≡ b v

-- a is b mirrored by some mirror
abbrev pub Image : ℕ → Room → Room → Type 0
Image S a b = (t : ℕ) × (t < 8) × Same S a (mirrored t S b)

-- some voxel is solid
abbrev pub NonEmpty : ℕ → Room → Type 0
NonEmpty S r = (v : Point) × Inside S v × (r v ≡ true)

-- ---- boxes ('Box:'): on each axis low belongs to the box and high does not

abbrev pub in_box : Point → Point → Point → Bool
in_box low high v =
    leb low.x v.x && ltb v.x high.x && leb low.y v.y && ltb v.y high.y && leb low.z v.z && ltb v.z high.z

-- f summed over the points of a cube of edge S
unfoldable pub sum3 : ℕ → (Point → ℕ) → ℕ
sum3 S f = sum S (λ c. sum S (λ b. sum S (λ a. f (point a b c))))

-- how many points of the box, in a cube of edge S, pass
unfoldable pub box_count : ℕ → Room → Point → Point → ℕ
box_count S r low high = sum3 S (λ v. cond (in_box low high v) (bit_for (r v)) 0)

-- the box has a voxel
abbrev pub has_voxel : Point → Point → Bool
has_voxel low high = ltb low.x high.x && ltb low.y high.y && ltb low.z high.z

-- the corner of all cubes, and the corner past the last voxel of a cube of edge S; the box from one to the other is the whole cube
abbrev pub origin : Point
origin = point 0 0 0

abbrev pub far : ℕ → Point
far S = point S S S

-- along one axis the box is the cube's whole edge; the box is the whole cube
abbrev pub whole_side : ℕ → ℕ → ℕ → Bool
whole_side S low high = eqb low 0 && eqb high S

abbrev pub is_whole : ℕ → Point → Point → Bool
is_whole S low high = whole_side S low.x high.x && whole_side S low.y high.y && whole_side S low.z high.z

-- a coordinate seen from half b of an axis, S the edge of a half (0 below the half, S above it); a corner of a box seen from child i, so that both corners give the box's part in it
abbrev pub clip : ℕ → ℕ → ℕ → ℕ
clip S b c = min S (c - b * S)

abbrev pub clipped : ℕ → ℕ → Point → Point
clipped S i c = point (clip S (i % 2) c.x) (clip S (i / 2 % 2) c.y) (clip S (i / 4 % 2) c.z)

-- some voxel of a cube of edge S is solid: the test of NonEmpty
unfoldable pub non_empty : ℕ → Room → Bool
non_empty S r = any_below S (λ c. any_below S (λ b. any_below S (λ a. r (point a b c))))

-- ---- document 02, request 2 ('how big the emptiness is'), of voxels

-- the height of the greatest empty cell that holds v, of heights k + 2 down to 2; 0 where v's leaf is non-empty
unfoldable pub empty_up_to : Room → ℕ → Point → ℕ
empty_up_to r zero v = cond (non_empty (2 ^ 2) (cell_around r 2 v)) 0 2
empty_up_to r (suc k) v =
    let h : ℕ = suc (suc (suc k)) in
    let lower : ℕ = empty_up_to r k v in
    cond (non_empty (2 ^ h) (cell_around r h v)) lower h

-- the height of the emptiness at v, by the voxels of a room of depth D
abbrev pub empty_at : ℕ → Room → Point → ℕ
empty_at D r v = empty_up_to r (D - 2) v
