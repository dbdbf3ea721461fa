-- A line and the aligned cells that it crosses: the cell that holds a voxel, and the most steps on each axis that stay in it. Definitions only.
use Rattle.std.specs.Prelude.{cond, ℕ, ◌+◌, ◌-◌, ◌*◌, ◌/◌, ◌%◌, ◌^◌, ◌<◌, ◌≤◌, leb}
use Rattle.paper.specs.Rooms.{Point, point, Inside, deepest}
use Rattle.paper.specs.Lines.{distance, distances}
use Rattle.laws.specs.Lines.{AtMost, moment}
use Rattle.laws.specs.Lines as laws
use Rattle.lines.specs.declared.Moment.{Moment}

abbrev pub moment_of : Moment → laws.Moment
moment_of t = moment t.halves t.parts

-- one whose products don't pass 64 bits
pub record Small (t : laws.Moment) : Type 0 where
  pub few_halves : t.halves < 2 ^ 33
  pub few_parts : t.parts < 2 ^ 16

-- a moment up to the end of the line, and a distance that it may be asked of
pub record Timely (t : laws.Moment) (d : ℕ) : Type 0 where
  pub small : Small t
  pub parted : 0 < t.parts
  pub in_time : t.halves ≤ 2 * t.parts
  pub few : d < 2 ^ deepest

-- i steps on one axis from a towards b, to a cell of height h
pub record Along (a b i h : ℕ) : Type 0 where
  pub most : i ≤ distance a b
  pub low : h ≤ deepest
  pub from_in : a < 2 ^ deepest
  pub to_in : b < 2 ^ deepest

-- steps s on each axis from a towards b, to a cell of height h
pub record Stepped (a b s : Point) (h : ℕ) : Type 0 where
  pub most : AtMost s (distances a b)
  pub low : h ≤ deepest
  pub from_in : Inside (2 ^ deepest) a
  pub to_in : Inside (2 ^ deepest) b

-- the cell of height h that holds v, counted in cells of that height
abbrev pub cell_holding : ℕ → Point → Point
cell_holding h v = point (v.x / 2 ^ h) (v.y / 2 ^ h) (v.z / 2 ^ h)

-- on one axis, after i steps from a towards b: the most steps that lie in the same cell of height h, up to its last coordinate or down to its first
unfoldable pub last_in : ℕ → ℕ → ℕ → ℕ → ℕ
last_in h a b i = cond (leb a b) (i + (2 ^ h - 1 - (a + i) % 2 ^ h)) (i + (a - i) % 2 ^ h)

abbrev pub last_of : ℕ → Point → Point → Point → Point
last_of h a b s = point (last_in h a.x b.x s.x) (last_in h a.y b.y s.y) (last_in h a.z b.z s.z)
