-- `walk::walk_root` meets its contract: a root pointer that is neither bad nor none names a kept cell of its list, and its tag is a mirror.
-- Assumes nothing.
use Rattle.std.proofs.Common.{◌≡◌, ap, ap₂, ◌∙◌, List, ℕ, ◌-◌, ◌<◌, arith, length}
use mathlib.Core.Path.{subst⁻¹}
use Rattle.paper.specs.Store.{Cell, cells_at, heights, tag_of, cell_no, kept_count, kept_of}
use Rattle.laws.proofs.Invariant.{named-kept}
use Rattle.laws.proofs.Kept.{kept-length}
use Rattle.laws.proofs.Matching.{tag-lt}
use Rattle.points.specs.Points.{at}
use Rattle.walk.specs.Walk.{walk_to, AtKept}
use Rattle.walk.specs.Reached.{ended}
use Rattle.walk.proofs.Roots.{walk_kept}
use Rattle.walk.proofs.walk_root.Goals as goal

pub returns-clause-at_kept : goal.returns-clause-at_kept
returns-clause-at_kept c =
    let s = c.args.scene in
    let ws = s.store.words.now in
    let K : List (List Cell) = kept_of ws in
    let k : ℕ = s.depth - 2 in
    let low : k < heights = omega (arith, s.high) in
    let kept : cell_no s.root < length (cells_at K k) = subst⁻¹ (λ (n : ℕ). cell_no s.root < n) (kept-length ws k low) (named-kept (kept_count ws k) s.root s.sound c.requires.rooted) in
    let end : ended c.walk_to.result ≡ walk_to K c.args.stop k (cell_no s.root) (tag_of s.root) (at c.args.v) =
    c.walk_to.ensures ∙ ap₂ (λ (n m : ℕ). walk_to K c.args.stop k n m (at c.args.v)) c.cell_number.ensures c.tag.ensures in λ z. subst⁻¹ (AtKept K) (end ∙ ap (λ (stop : ℕ). walk_to K stop k (cell_no s.root) (tag_of s.root) (at c.args.v)) z)
    (walk_kept K k (cell_no s.root) (tag_of s.root) (at c.args.v) kept (tag-lt s.root))
