-- `report_all` ends: what is left gets shorter. Assumes nothing.
use Rattle.std.proofs.Common.{length}
use Rattle.report_samples.proofs.report_all.Given as goal

abbrev pub decreases-loop-left : goal.decreases-loop-left
decreases-loop-left l = length l.left
