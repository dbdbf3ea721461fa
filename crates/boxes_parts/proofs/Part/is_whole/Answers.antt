-- `boxes_parts::Part::is_whole` meets its contract: each side of the box against the cell's edge. Assumes nothing.
use Rattle.std.proofs.Common.{◌≡◌, ap, ◌∙◌, ◌&&◌, ℕ, suc, ◌+◌, ◌^◌, arith}
use Rattle.paper.specs.Rooms.{in_child, is_whole}
use Rattle.paper.specs.Outline.{edge}
use Rattle.points.specs.Points.{at}
use Rattle.boxes_parts.specs.Parts.{past_in}
use Rattle.boxes_parts.proofs.Part.is_whole.Goals as goal

pub returns : goal.returns
returns c =
    let side-is : c.edge_of-side.result ≡ edge c.args.k = let h : c.args.k + 2 ≡ suc (suc c.args.k) = omega arith in
    c.edge_of-side.ensures ∙ ap (λ (n : ℕ). 2 ^ n) h in
    let a = c.args in
    (λ i. c.whole_side.ensures i && c.whole_side-2.ensures i && c.whole_side-3.ensures i)
    ∙ ap (λ (S : ℕ). is_whole S (in_child S (at a.self.low)) (past_in S (at a.self.last))) (side-is)
