-- Document 01, 'Rooms and mirrors', 'is a leaf': a cell of edge 4 as a number of 64 bits, one for each voxel, counted along x, then y, then z.
-- Definitions only.
use Rattle.std.specs.Prelude.{ℕ, ◌+◌, ◌*◌, ◌/◌, ◌%◌, eqb}
use Rattle.paper.specs.Numbers.{bit, bit_for, gather}
use Rattle.paper.specs.Rooms.{Point, point, Room, mirrored}

-- the bit of a voxel, and the voxel of a bit
abbrev pub bit_of : Point → ℕ
bit_of v = v.x + 4 * v.y + 16 * v.z

abbrev pub voxel_of : ℕ → Point
voxel_of k = point (k % 4) (k / 4 % 4) (k / 16)

-- the voxels of a leaf
abbrev pub leaf_voxel : ℕ → Room
leaf_voxel n v = eqb (bit n (bit_of v)) 1

-- the leaf with these voxels
unfoldable pub leaf_of : Room → ℕ
leaf_of r = gather 0 64 (λ k. bit_for (r (voxel_of k)))

-- the leaf so mirrored: by its voxels
unfoldable pub mirror_leaf : ℕ → ℕ → ℕ
mirror_leaf t n = leaf_of (mirrored t 4 (leaf_voxel n))
