-- A question on what an opening leaves. Definitions only.
use Rattle.std.specs.Prelude.{[], get_or, drop}
use Rattle.paper.specs.Rooms.{Point}
use Rattle.paper.specs.Answers.{Outcome}
use Rattle.paper.specs.Calls.{ask_outcome}

-- on the part held, and the values, which are the depth and the list starts
abbrev pub asked_of : Outcome → Point → Outcome
asked_of o v = ask_outcome (get_or o.lent 0 []) (get_or o.values 0 0) (drop 1 o.values) v
