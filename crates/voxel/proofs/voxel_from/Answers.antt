-- `voxel::voxel_from` meets its contract: outside, damaged on the way, or the voxel at which the walk ended. Assumes nothing.
use Rattle.std.proofs.Common.{ap, ◌∙◌, ◌^◌}
use Rattle.laws.proofs.CodeTests.{passed-T}
use Rattle.paper.specs.Answers.{voxel_values}
use Rattle.paper.specs.Rooms.{inside}
use Rattle.paper.specs.Store.{kept_of}
use Rattle.paper.specs.declared.Refusal.TheVariants.{DamagedStore}
use Rattle.points.specs.Points.{at}
use Rattle.store.proofs.Refused.{refused-told}
use Rattle.walk.specs.Walk.{end_told}
use Rattle.walk.proofs.Voxels.{voxel-inside}
use Rattle.voxel.proofs.voxel_from.Goals as goal

pub returns-in_err-end : goal.returns-in_err-end
returns-in_err-end c =
    let s = c.args.scene in
    refused-told 2 voxel_values c.from_residual.result DamagedStore c.from_residual.ensures.1
    ∙ ap end_told c.in_err-end.ensures.value
    ∙ voxel-inside (kept_of s.store.words.now) s.depth s.root (at c.args.v) (passed-T (inside (2 ^ s.depth) (at c.args.v)) c.outside.ensures c.if-outside.false)

pub returns : goal.returns
returns c =
    let s = c.args.scene in
    c.voxel_at.ensures ∙ ap end_told c.in_ok-end.ensures.value
    ∙ voxel-inside (kept_of s.store.words.now) s.depth s.root (at c.args.v) (passed-T (inside (2 ^ s.depth) (at c.args.v)) c.outside.ensures c.if-outside.false)
