-- `cut_links` meets its contract. The invariant: of the links, the first ones so far are cut, and the others are as they were. Assumes nothing.
use Rattle.std.proofs.Common.{◌∙◌, arith}
use Rattle.add_keep.proofs.Ways.{link-goes, link_stays, all-links-cut}
use Rattle.add_keep.proofs.cut_links.Goals as goal
use Rattle.add_keep.proofs.cut_links.Goals.{then-count-link, else-count-link}

-- the link is gone, or stays
pub loop-link-preserved : goal.loop-link-preserved
loop-link-preserved c =
    let l = c.loop-link in
    elim c.if-count-link.branch [
      | then-count-link w ↦ w.link-items-is ∙ link-goes _ _ l.link-items l.link-index l.invariant (omega arith) w.if-count-link.true
      | else-count-link w ↦ w.link-items-is ∙ link_stays _ _ l.link-items l.link-index l.invariant (omega arith) w.if-count-link.false
    ]

pub returns : goal.returns
returns c = all-links-cut _ _ _ _ _ _ c.loop-link.link-index c.requires (omega arith) c.loop-link.invariant (omega arith)
