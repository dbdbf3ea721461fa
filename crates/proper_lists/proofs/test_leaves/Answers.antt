-- `test_leaves` meets its contract. The invariant: no leaf is zero where none from `place` on is. Assumes nothing.
use Rattle.std.proofs.Common.{◌≡◌, sym, ◌∙◌, ap, true, false, List, ℕ, ◌/◌, ◌<◌, arith, ltb, lt-ltb, length, get_or}
use Rattle.paper.specs.Store.{leaf_no}
use Rattle.paper.specs.Packed.{leaf_at, leaf_ok}
use Rattle.laws.proofs.Lists.{length-count, get_or-count}
use Rattle.proper_marks.specs.Places.{leaves_in}
use Rattle.proper_alike.proofs.Front.{front_passes, front-fails, front_done}
use Rattle.proper_lists.proofs.test_leaves.Goals as goal

place_at : (l : List ℕ) (p : ℕ) → p < length l / 8 → get_or (leaves_in l) p 0 ≡ p
place_at l p h = get_or-count (length l / 8) 0 p h ∙ omega arith

leaf_fails : (l : List ℕ) (p n : ℕ) → p < length l / 8 → n ≡ leaf_no (leaf_at l p) → n ≡ 0 → leaf_ok l (get_or (leaves_in l) p 0) ≡ false
unfolding leaf_ok
leaf_fails l p n h e z = ap (leaf_ok l) (place_at l p h) ∙ ap (ltb 0) (sym e ∙ z)

leaf_passes : (l : List ℕ) (p n : ℕ) → p < length l / 8 → n ≡ leaf_no (leaf_at l p) → (n ≡ 0 → ⊥) → leaf_ok l (get_or (leaves_in l) p 0) ≡ true
unfolding leaf_ok
leaf_passes l p n h e z = ap (leaf_ok l) (place_at l p h) ∙ lt-ltb 0 (leaf_no (leaf_at l p)) (omega (arith, e, z))

pub returns-then-leaf-eq0 : goal.returns-then-leaf-eq0
returns-then-leaf-eq0 c =
    let leaves = c.args.leaves.now in
    let place = c.loop-place.place in
    let long = length-count (length leaves / 8) 0 in
    sym (c.loop-place.invariant
    ∙ front-fails (leaf_ok leaves) 0 (leaves_in leaves) place (omega (arith, long)) (leaf_fails leaves place c.leaf.result (omega arith) c.leaf.ensures c.if-leaf-eq0.true))

pub loop-place-preserved : goal.loop-place-preserved
loop-place-preserved c =
    let leaves = c.args.leaves.now in
    let place = c.loop-place.place in
    let long = length-count (length leaves / 8) 0 in
    c.loop-place.invariant
    ∙ front_passes (leaf_ok leaves) 0 (leaves_in leaves) place (omega (arith, long)) (leaf_passes leaves place c.leaf.result (omega arith) c.leaf.ensures c.if-leaf-eq0.false)

pub returns : goal.returns
returns c =
    let leaves = c.args.leaves.now in
    let long = length-count (length leaves / 8) 0 in
    sym (c.loop-place.invariant ∙ front_done (leaf_ok leaves) 0 (leaves_in leaves) c.loop-place.place (omega (arith, long)))
