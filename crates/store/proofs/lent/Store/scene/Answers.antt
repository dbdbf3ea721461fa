-- `store::lent::Store::scene` meets its contract: the depth is tested first, and only then the root pointer, against the cells kept at that depth.
-- Each way is one of the ways through the scene's test. Assumes nothing.
use Rattle.std.proofs.Common.{sym, ap, ap₂, ◌∙◌, not}
use Rattle.paper.specs.Store.{bad_pointer}
use Rattle.laws.proofs.CodeTests.{passed, failed}
use Rattle.store.proofs.SceneTests.{scene-shallow, scene-rooted}
use Rattle.store.proofs.lent.Store.scene.Goals as goal

pub returns-then-depth_bad-clause-opened : goal.returns-then-depth_bad-clause-opened
returns-then-depth_bad-clause-opened c =
    sym (scene-shallow c.args.self.words.now c.args.n _ c.scene_depth-depth.ensures (failed c.depth_bad.ensures c.if-depth_bad.true))

pub returns-then-bad_pointer-clause-opened : goal.returns-then-bad_pointer-clause-opened
returns-then-bad_pointer-clause-opened c =
    let a = c.args in
    let bad = ap₂ bad_pointer (sym c.kept_count.ensures) (sym c.scene_root-root.ensures) ∙ sym c.bad_pointer.ensures ∙ c.if-bad_pointer.true in
    sym (scene-rooted a.self.words.now a.n _ c.scene_depth-depth.ensures (passed c.depth_bad.ensures c.if-depth_bad.false) ∙ ap not bad)

pub returns-clause-opened : goal.returns-clause-opened
returns-clause-opened c =
    let a = c.args in
    let bad = ap₂ bad_pointer (sym c.kept_count.ensures) (sym c.scene_root-root.ensures) ∙ sym c.bad_pointer.ensures ∙ c.if-bad_pointer.false in
    sym (scene-rooted a.self.words.now a.n _ c.scene_depth-depth.ensures (passed c.depth_bad.ensures c.if-depth_bad.false) ∙ ap not bad)
