-- `add_seek::find::match_of` meets its contract: a cell of another key matches under no mirror. The invariant: the cell matches under no mirror before this
-- one, so the answer is that of those from it on. Assumes nothing.
use Rattle.std.proofs.Common.{sym, ◌∙◌, arith}
use Rattle.laws.specs.Symmetries.{symmetry_match}
use Rattle.laws.proofs.CodeTests.{failed}
use Rattle.add_seek.proofs.FindFirst.{first-start, first-stop, first-still, first-over}
use Rattle.add_seek.proofs.FindCells.{key-differs, first-differs}
use Rattle.add_seek.proofs.find.match_of.Goals as goal

pub returns-then-cell_key-key : goal.returns-then-cell_key-key
returns-then-cell_key-key c = key-differs c.args.symmetries c.args.cell c.args.other c.requires.names_cells c.requires.other_names_cells (λ e. c.if-cell_key-key.true (c.cell_key.ensures ∙ e ∙ sym c.requires.key_value))

pub loop-mirror-init : goal.loop-mirror-init
loop-mirror-init c = first-start 8 (symmetry_match c.args.symmetries c.args.cell c.args.other)

pub loop-mirror-preserved-then-numbers_differ : goal.loop-mirror-preserved-then-numbers_differ
loop-mirror-preserved-then-numbers_differ c =
    first-still 8 (symmetry_match c.args.symmetries c.args.cell c.args.other) c.loop-mirror.mirror c.loop-mirror.invariant c.loop-mirror-test.true
    (first-differs c.args.symmetries c.args.cell c.args.other c.requires.names_cells c.requires.other_names_cells c.loop-mirror.mirror c.loop-mirror-test.true (failed c.numbers_differ.ensures c.if-numbers_differ.true))

pub returns-then-same_cell : goal.returns-then-same_cell
returns-then-same_cell c =
    first-stop 8 (symmetry_match c.args.symmetries c.args.cell c.args.other) c.loop-mirror.mirror c.loop-mirror.invariant c.loop-mirror-test.true
    (sym c.same_cell.ensures ∙ c.if-same_cell.true)

pub loop-mirror-preserved : goal.loop-mirror-preserved
loop-mirror-preserved c =
    first-still 8 (symmetry_match c.args.symmetries c.args.cell c.args.other) c.loop-mirror.mirror c.loop-mirror.invariant c.loop-mirror-test.true
    (sym c.same_cell.ensures ∙ c.if-same_cell.false)

pub returns : goal.returns
returns c = first-over 8 (symmetry_match c.args.symmetries c.args.cell c.args.other) c.loop-mirror.mirror c.loop-mirror.invariant (omega arith)
