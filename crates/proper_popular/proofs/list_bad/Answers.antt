-- `list_bad` meets its contract: the list, the one above it and the list's share are the file's and the scratch's, and the test of the share is the two
-- rules. Assumes nothing.
use Rattle.std.proofs.Common.{◌∙◌, ap, not, ℕ, ◌-◌, ◌<◌, arith}
use borrow.Rule.Slice.PartMut.{take_put}
use Rattle.paper.specs.Packed.{top_of}
use Rattle.proper_popular.proofs.Shares.{share-shared, share-tells, share-below}
use Rattle.proper_popular.proofs.list_bad.Goals as goal

pub share_bad-requires : goal.share_bad-requires
share_bad-requires c =
    let s = c.args.lists.now in
    let below : c.args.k < top_of s.file.now = omega (arith, s.top_is, c.requires.below_top) in
    share-shared s.file.now s.starts c.args.scratch.now c.args.k c.range-own.result.start c.range-own.result.end _ _ s.bytes s.listed c.requires.clean below c.range-own.ensures
    c.list.ensures c.list-2.ensures

pub returns : goal.returns
returns c =
    let s = c.args.lists.now in
    let below : c.args.k < top_of s.file.now = omega (arith, s.top_is, c.requires.below_top) in
    let a : ℕ = c.range-own.result.start in
    let b : ℕ = c.range-own.result.end in
    let lies = c.range-own.ensures in (
      c.share_bad.ensures
          ∙ ap not (share-tells s.file.now s.starts c.args.scratch.now c.args.k a b _ _ s.bytes s.listed c.requires.clean below lies c.list.ensures c.list-2.ensures),
      share-below s.file.now s.starts c.args.scratch.now c.args.k a b _ _ s.bytes s.listed c.requires.clean below lies c.list.ensures c.list-2.ensures _
          (take_put a (b - a) c.args.scratch.now c.share_bad.new.share (omega (arith, lies.order, lies.inside, c.requires.clean.long))),
    )
