-- A struct of three coordinates as a point of a room. Definitions only.
use Rattle.paper.specs.Rooms.{point, Point as RoomPoint}
use Rattle.points.specs.declared.Point.{Point}

-- the point that a struct says
abbrev pub at : Point → RoomPoint
at v = point v.x v.y v.z
