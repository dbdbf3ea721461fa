-- Document 02, request 3, 'skipping through large empty cells': when a line leaves a cell, and how many steps it has then taken. Definitions only.
-- A moment is how far along the segment a point lies: halves / (2 * parts) of the way.
use Rattle.std.specs.Prelude.{cond, ℕ, ◌+◌, ◌*◌, ◌/◌, ◌≤◌, leb}
use Rattle.paper.specs.Rooms.{Point, point}

-- no more steps on any axis
pub record AtMost (s w : Point) : Type 0 where
  pub up_x : s.x ≤ w.x
  pub up_y : s.y ≤ w.y
  pub up_z : s.z ≤ w.z

pub record Moment : Type 0 where
  pub halves : ℕ
  pub parts : ℕ

abbrev pub moment : ℕ → ℕ → Moment
moment m n = record { halves = m; parts = n }

-- the segment's end
abbrev pub at_end : Moment
at_end = moment 2 1

-- where an axis of distance d crosses the next face after i steps; never, where d is 0
abbrev pub crossing : ℕ → ℕ → Moment
crossing d i = moment (2 * i + 1) d

abbrev pub earlier : Moment → Moment → Moment
earlier t u = cond (leb (t.halves * u.parts) (u.halves * t.parts)) t u

-- when the line leaves a cell, `last` being the most steps on each axis that lie in it: the first of three crossings, or the segment's end
unfoldable pub leaving : Point → Point → Moment
leaving d last = earlier (earlier (earlier at_end (crossing d.x last.x)) (crossing d.y last.y)) (crossing d.z last.z)

-- the steps on an axis of distance d up to a moment, that moment's own with them
abbrev pub passed : Moment → ℕ → ℕ
passed t d = (t.halves * d + t.parts) / (2 * t.parts)

abbrev pub steps_at : Moment → Point → Point
steps_at t d = point (passed t d.x) (passed t d.y) (passed t d.z)

-- the steps with which it leaves that cell
unfoldable pub leave_of : Point → Point → Point
leave_of d last = steps_at (leaving d last) d
