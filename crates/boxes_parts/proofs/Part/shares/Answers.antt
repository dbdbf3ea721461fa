-- `boxes_parts::Part::shares` meets its contract: computed for all children. Assumes nothing.
use Rattle.std.proofs.Common.{ap₂, ◌∙◌, ℕ}
use Rattle.points.specs.Points.{at}
use Rattle.points.specs.Seeing.{child_no_at}
use Rattle.boxes_parts.specs.Parts.{shares_in}
use Rattle.boxes_parts.proofs.Cuts.{by_bits}
use Rattle.boxes_parts.proofs.Part.shares.Goals as goal

pub returns : goal.returns
returns c =
    by_bits c.child_number-first.result c.child_number-past.result c.args.i c.child_number-first.ensures.1 c.child_number-past.ensures.1 c.requires.1
    ∙ ap₂ (λ (f l : ℕ). shares_in f l c.args.i) c.child_number-first.ensures.0 c.child_number-past.ensures.0
