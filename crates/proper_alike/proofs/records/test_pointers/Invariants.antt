-- `test_pointers` meets its contract. The invariant: all pointers keep their rules where those from child i on do. Assumes nothing.
use Rattle.std.proofs.Common.{◌≡◌, drop}
use Rattle.paper.specs.Numbers.{all_in}
use Rattle.paper.specs.Packed.{pointers_at}
use Rattle.proper_alike.specs.Matching.{pointer_rules}
use Rattle.proper_alike.proofs.records.test_pointers.Given as goal

abbrev pub invariant-loop-i : goal.invariant-loop-i
invariant-loop-i l =
    all_in (pointer_rules l.records.marks.unit l.records.marks.bytes.now) (pointers_at l.records.list.now l.place) ≡ all_in (pointer_rules l.records.marks.unit l.records.marks.bytes.now) (drop l.i (pointers_at l.records.list.now l.place))
