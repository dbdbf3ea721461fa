-- `walk::voxel_walk` meets its contract: an absent root, or the walk from the root down to the leaves. Assumes nothing.
use Rattle.std.proofs.Common.{ap, ◌∙◌, List, ◌^◌}
use Rattle.laws.proofs.Tests.{true-T}
use Rattle.paper.specs.Rooms.{Point}
use Rattle.paper.specs.Store.{Cell, kept_of}
use Rattle.points.specs.Points.{at}
use Rattle.walk.specs.Walk.{end_of}
use Rattle.walk.proofs.Roots.{voxel-root}
use Rattle.walk.proofs.Voxels.{not_none, is-inside, voxel-none}
use Rattle.walk.proofs.voxel_walk.Goals as goal

pub returns-then-scene-eq0-clause-value : goal.returns-then-scene-eq0-clause-value
returns-then-scene-eq0-clause-value c =
    let s = c.args.scene in
    voxel-none (kept_of s.store.words.now) s.depth s.root (at c.args.v) c.if-scene-eq0.true

pub returns-clause-value : goal.returns-clause-value
returns-clause-value c =
    let s = c.args.scene in
    let K : List (List Cell) = kept_of s.store.words.now in
    let v : Point = at c.args.v in ap (end_of K v) c.walk_root.ensures.value
    ∙ voxel-root K s.depth s.root v (true-T s.deep) (is-inside (2 ^ s.depth) v c.requires.inside) (not_none s.root c.if-scene-eq0.false)
