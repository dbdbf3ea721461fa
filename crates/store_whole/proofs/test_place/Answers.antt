-- `test_place` meets its contract: a place that holds no scene is tested for two zeros, a scene held as a scene.
-- Each way is one of the ways through the place's test. Assumes nothing.
use Rattle.std.proofs.Common.{◌≡◌, refl, sym, ap, ap₂, ◌∙◌, Bool, true, false, not, ◌&&◌, ◌||◌, ℕ, eqb}
use Rattle.paper.specs.Store.{scene_depth, scene_root, place_ok}
use Rattle.laws.proofs.CodeTests.{passed, failed}
use Rattle.store_whole.proofs.Leaving.{left-at}
use Rattle.store_whole.proofs.Usable.{place-held, place-free}
use Rattle.store_whole.proofs.test_place.Goals as goal

not-both : (a b : Bool) → (not a || not b) ≡ not (a && b)
not-both true true = refl
not-both true false = refl
not-both false true = refl
not-both false false = refl

pub returns-in_err-scene : goal.returns-in_err-scene
returns-in_err-scene c =
    left-at _ c.from_residual.ensures.0 (place-held c.args.store.words.now c.args.n (sym c.if-holds.ensures) ∙ sym c.in_err-scene.ensures.opened)

pub returns-then-holds : goal.returns-then-holds
returns-then-holds c = c.in_ok-scene.ensures.opened ∙ sym (place-held c.args.store.words.now c.args.n (sym c.if-holds.ensures))

pub returns-then-scene_depth-scene_root : goal.returns-then-scene_depth-scene_root
returns-then-scene_depth-scene_root c =
    let ws = c.args.store.words.now in
    let n = c.args.n in
    let zeros : (not (eqb c.scene_depth.result 0) || not (eqb c.scene_root.result 0)) ≡ not (place_ok ws n) =
    ap₂ (λ (d r : ℕ). not (eqb d 0) || not (eqb r 0)) c.scene_depth.ensures c.scene_root.ensures
    ∙ not-both (eqb (scene_depth ws n) 0) (eqb (scene_root ws n) 0) ∙ sym (ap not (place-free ws n (sym c.if-holds.ensures))) in
    sym (failed zeros c.if-scene_depth-scene_root.true)

pub returns : goal.returns
returns c =
    let ws = c.args.store.words.now in
    let n = c.args.n in
    let zeros : (not (eqb c.scene_depth.result 0) || not (eqb c.scene_root.result 0)) ≡ not (place_ok ws n) =
    ap₂ (λ (d r : ℕ). not (eqb d 0) || not (eqb r 0)) c.scene_depth.ensures c.scene_root.ensures
    ∙ not-both (eqb (scene_depth ws n) 0) (eqb (scene_root ws n) 0) ∙ sym (ap not (place-free ws n (sym c.if-holds.ensures))) in
    sym (passed zeros c.if-scene_depth-scene_root.false)
