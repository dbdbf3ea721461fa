-- `boxes_parts::Part::in_child` meets its contract: by the cuts of a box, where the child shares a voxel with it and where it doesn't. Assumes nothing.
use Rattle.std.proofs.Common.{◌≡◌, sym, ap, ◌∙◌, true, ℕ, bit_xor}
use mathlib.Core.Path.{subst⁻¹}
use Rattle.paper.specs.Rooms.{Point, in_child, origin, far}
use Rattle.paper.specs.Outline.{edge}
use Rattle.points.specs.Points.{at}
use Rattle.points.specs.Seeing.{child_no_at}
use Rattle.boxes_parts.specs.Parts.{chosen, shares_in, past_in, Spans}
use Rattle.boxes_parts.proofs.Cuts.{start_in, end_in, cut-start, cut-end, cut-spans, cut-none}
use Rattle.boxes_parts.proofs.Part.in_child.Goals as goal

pub returns-then-not-shares : goal.returns-then-not-shares
returns-then-not-shares c =
    let a = c.args in
    cut-none a.k c.requires.0 (at a.self.low) (at a.self.last) a.i c.requires.1 (sym c.shares.ensures ∙ c.if-not-shares.true)

pub returns : goal.returns
returns c =
    let a = c.args in
    let low : Point = at a.self.low in
    let last : Point = at a.self.last in
    let shared : shares_in (child_no_at a.k low) (child_no_at a.k last) a.i ≡ true = sym c.shares.ensures ∙ c.if-not-shares.false in
    let start : at c.chosen-low.result ≡ start_in a.k a.i low = c.chosen-low.ensures ∙ ap (λ (f : ℕ). chosen (bit_xor a.i f) low origin) c.child_number-first.ensures.0 in
    let end : at c.chosen-last.result ≡ end_in a.k a.i last = c.chosen-last.ensures ∙ ap (λ (f : ℕ). chosen (bit_xor a.i f) last (far 65535)) c.child_number-past.ensures.0 in
    record {
      begins = cut-start a.k c.requires.0 low last a.i c.requires.1 shared ∙ ap (in_child (edge a.k)) (sym start);
      ends = cut-end a.k c.requires.0 low last a.i c.requires.1 shared ∙ ap (past_in (edge a.k)) (sym end);
      spans = λ w. subst⁻¹ (λ (v : Point). Spans (edge a.k) v (at c.chosen-last.result)) start
          (subst⁻¹ (Spans (edge a.k) (start_in a.k a.i low)) end (cut-spans a.k c.requires.0 low last a.i c.requires.1 shared w));
    }
