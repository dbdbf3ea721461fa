-- A point as a walk by numbers sees it: coordinates are never reduced, and the number of a child is mirrored instead of the cell.
-- Definitions only.
use Rattle.std.specs.Prelude.{ℕ, ◌+◌, ◌*◌, ◌/◌, ◌%◌}
use Rattle.paper.specs.Rooms.{Point, mirror, in_child}
use Rattle.paper.specs.Outline.{edge}

-- which child of a cell of list k + 1 holds v, as the room shows them
abbrev pub child_no_at : ℕ → Point → ℕ
child_no_at k v = v.x / edge k % 2 + 2 * (v.y / edge k % 2) + 4 * (v.z / edge k % 2)

-- v in the cell of list k that holds it, seen under mirror m
abbrev pub seen_at : ℕ → ℕ → Point → Point
seen_at k m v = mirror m (edge k) (in_child (edge k) v)
