-- Where the code's walk ends, read as the walk by numbers says it. Definitions only.
use Rattle.std.specs.Prelude.{Result, Ok, Err}
use Rattle.paper.specs.declared.Damaged.{Damaged as Unsound}
use Rattle.walk.specs.Walk.{Ended, Absent, At, Damaged}
use Rattle.walk.specs.declared.image.End.{End}

abbrev pub reached : End → Ended
reached (End.Absent h) = Absent h
reached (End.At c) = At c.number c.mirror

abbrev pub ended : Result End Unsound → Ended
ended (Ok end) = reached end
ended (Err e) = Damaged
