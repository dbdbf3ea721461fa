-- A box of a leaf: the voxels between its ends on each axis, as bits of a number; the part of a box that lies in a cell. Definitions only.
use Rattle.std.specs.Prelude.{Bool, ◌&&◌, ◌≡◌, ℕ, ◌+◌, ◌-◌, ◌/◌, ◌%◌, ◌<◌, leb, ltb}
use Rattle.paper.specs.Numbers.{bit, bit_for}
use Rattle.paper.specs.Rooms.{Point, point}

-- the bits of a leaf that pass, as a number
abbrev pub Marks : ℕ → (ℕ → Bool) → Type 0
Marks n p = (j : ℕ) → j < 64 → bit n j ≡ bit_for (p j)

-- a coordinate of a leaf that has so many before it, and so many behind; on each axis, of bit j
abbrev pub in_side : ℕ → ℕ → ℕ → Bool
in_side before behind c = leb before c && ltb (c + behind) 4

abbrev pub in_sides : Point → Point → ℕ → Bool
in_sides before behind j =
    in_side before.x behind.x (j % 4) && in_side before.y behind.y (j / 4 % 4) && in_side before.z behind.z (j / 16)

-- how many voxels of its leaf lie behind v on each axis
abbrev pub behind_in : Point → Point
behind_in v = point (3 - v.x % 4) (3 - v.y % 4) (3 - v.z % 4)
