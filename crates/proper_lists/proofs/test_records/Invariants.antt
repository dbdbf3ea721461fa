-- `test_records` meets its contract. The invariant: all records keep the rules exactly where those from `place` on do. Assumes nothing.
use Rattle.std.proofs.Common.{◌≡◌, ◌≤◌, ◌-◌, ◌*◌, length}
use Rattle.paper.specs.Numbers.{all_in}
use Rattle.proper_marks.specs.Places.{places_in}
use Rattle.proper_marks.proofs.Along.{rest_from}
use Rattle.proper_alike.specs.Matching.{record_rules}
use Rattle.proper_lists.proofs.test_records.Given as goal

abbrev pub invariant-loop-place : goal.invariant-loop-place
invariant-loop-place l = (2 * l.place ≤ length l.records.list.now) × (all_in (record_rules l.records.marks.unit l.records.marks.bytes.now l.records.list.now) (places_in l.records.list.now) ≡ all_in (record_rules l.records.marks.unit l.records.marks.bytes.now l.records.list.now) (rest_from l.records.list.now l.place))

abbrev pub decreases-loop-place : goal.decreases-loop-place
decreases-loop-place l = length l.records.list.now - 2 * l.place
