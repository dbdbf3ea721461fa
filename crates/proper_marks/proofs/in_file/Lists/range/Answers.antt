-- `range` meets its contract: where the list lies, by the list starts. Assumes nothing.
use Rattle.std.proofs.Common.{sym, subst, ℕ, arith, get_or}
use Rattle.proper_marks.specs.Places.{Lies}
use Rattle.proper_marks.proofs.InFile.{lies}
use Rattle.proper_marks.proofs.in_file.Lists.range.Goals as goal

pub returns : goal.returns
returns c =
    let s = c.args.self.now in
    subst (λ (b : ℕ). Lies s.file.now c.args.k (get_or s.starts c.args.k 0) b) (sym c.list_end.ensures)
    (lies s.file.now s.starts s.listed c.args.k (omega (arith, s.top_is, c.requires)))
