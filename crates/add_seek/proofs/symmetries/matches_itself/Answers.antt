-- `add_seek::symmetries::matches_itself` meets its contract: its answer is the match's, and there is none where the first pointers name different numbers. Assumes nothing.
use Rattle.std.proofs.Common.{sym}
use Rattle.laws.proofs.CodeTests.{failed}
use Rattle.add_seek.proofs.FindCells.{first-differs}
use Rattle.add_seek.proofs.symmetries.matches_itself.Goals as goal

pub returns-then-numbers_differ : goal.returns-then-numbers_differ
returns-then-numbers_differ c = sym (first-differs c.args.symmetries c.args.cell c.args.cell c.requires.names_cells c.requires.names_cells c.args.mirror c.requires.mirror_bound (failed c.numbers_differ.ensures c.if-numbers_differ.true))
