-- `test_chains` meets its contract: each chain is followed, and together they have all kept cells or the list isn't right. Assumes nothing.
use Rattle.std.proofs.Common.{ap₂, subst, ◌∙◌, List, ℕ, suc, ◌-◌, ◌≤◌, ◌<◌, le_antisymm, arith, length}
use Rattle.paper.specs.Store.{heights, chains, used, capacity_of, next_position, blank}
use Rattle.store.proofs.ChainPlaces.{nexts-fit}
use Rattle.store_whole.proofs.ChainLists.{Together, together-none, together-more, together-most, not-all, by-rest}
use Rattle.store_whole.proofs.test_chains.Goals as goal

-- the next words of list k are there
room : (ws : List ℕ) (C k : ℕ) → used C ≤ length ws → k < heights → next_position C k C ≤ length ws
room ws C k h l = omega (arith, nexts-fit C (suc k) l)

pub loop-j-init : goal.loop-j-init
loop-j-init c = together-none c.args.store.words.now c.args.k

pub overflow_add-all : goal.overflow_add-all
overflow_add-all c =
    let s = c.args.store in
    let ws = s.words.now in
    let more = together-more ws c.args.k _ c.loop-j.invariant c.in_ok-all.ensures.followed in
    omega (arith, s.most, s.counts c.args.k c.requires.k_lt_heights, together-most ws c.args.k c.requires.k_lt_heights more (omega (arith, c.loop-j-test.true)))

pub loop-j-preserved : goal.loop-j-preserved
loop-j-preserved c = together-more c.args.store.words.now c.args.k _ c.loop-j.invariant c.in_ok-all.ensures.followed

pub returns-then-all-count-clause-accepted : goal.returns-then-all-count-clause-accepted
returns-then-all-count-clause-accepted c =
    let ended : Together c.args.store.words.now c.args.k chains c.loop-j.all = subst (λ (j : ℕ). Together c.args.store.words.now c.args.k j c.loop-j.all) (le_antisymm c.loop-j.auto.j-end c.loop-j-test.false) c.loop-j.invariant in
    let ws = c.args.store.words.now in
    λ r. absurd (not-all ws c.args.k c.requires.k_lt_heights ended (λ e. omega (arith, e, c.if-all-count.true, c.kept_count-count.ensures)) r)

pub returns-clause-right : goal.returns-clause-right
returns-clause-right c =
    let ended : Together c.args.store.words.now c.args.k chains c.loop-j.all = subst (λ (j : ℕ). Together c.args.store.words.now c.args.k j c.loop-j.all) (le_antisymm c.loop-j.auto.j-end c.loop-j-test.false) c.loop-j.invariant in
    let s = c.args.store in
    let ws = s.words.now in
    let k = c.args.k in
    let e = c.kept_count-count.ensures in
    let q = c.capacity-c.ensures in
    (by-rest ws k c.requires.k_lt_heights ended (omega (arith, c.if-all-count.false, e)) (s.counts k c.requires.k_lt_heights) (room ws (capacity_of ws) k s.room c.requires.k_lt_heights) _
    (c.test_blank.ensures ∙ ap₂ (blank ws) (c.next_position.ensures ∙ ap₂ (λ (C i : ℕ). next_position C k i) q e) (ap₂ ◌-◌ q e))).0

pub returns-clause-accepted : goal.returns-clause-accepted
returns-clause-accepted c =
    let ended : Together c.args.store.words.now c.args.k chains c.loop-j.all = subst (λ (j : ℕ). Together c.args.store.words.now c.args.k j c.loop-j.all) (le_antisymm c.loop-j.auto.j-end c.loop-j-test.false) c.loop-j.invariant in
    let s = c.args.store in
    let ws = s.words.now in
    let k = c.args.k in
    let e = c.kept_count-count.ensures in
    let q = c.capacity-c.ensures in
    (by-rest ws k c.requires.k_lt_heights ended (omega (arith, c.if-all-count.false, e)) (s.counts k c.requires.k_lt_heights) (room ws (capacity_of ws) k s.room c.requires.k_lt_heights) _
    (c.test_blank.ensures ∙ ap₂ (blank ws) (c.next_position.ensures ∙ ap₂ (λ (C i : ℕ). next_position C k i) q e) (ap₂ ◌-◌ q e))).1
