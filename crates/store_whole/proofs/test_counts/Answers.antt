-- `test_counts` meets its contract: one count after the other, from the last down. Assumes nothing.
use Rattle.std.proofs.Common.{◌≡◌, sym, ap, subst, ◌∙◌, false, ℕ, ◌-◌, arith}
use Rattle.paper.specs.Numbers.{all_below}
use Rattle.paper.specs.Store.{Cell, any_bad, kept_count}
use Rattle.store_whole.proofs.Counting.{counted, list_counted, cell-sound}
use Rattle.store_whole.proofs.test_counts.Goals as goal

pub loop-n-init : goal.loop-n-init
loop-n-init c =
    let ws = c.args.store.words.now in
    let k = c.args.k in
    list_counted ws k c.requires.countable.above ∙ ap (λ (n : ℕ). all_below n (counted ws k)) (sym c.kept_count-n.ensures)

pub children_count-requires-clause-good : goal.children_count-requires-clause-good
children_count-requires-clause-good c =
    let ws = c.args.store.words.now in
    let k = c.args.k in
    let l = c.loop-n in
    let sound = cell-sound ws k (l.n - 1) c.requires.countable (omega (arith, c.kept_count-n.ensures)) in
    (omega (arith, c.requires.countable.listed), subst (λ (d : Cell). any_bad (kept_count ws (k - 1)) d ≡ false) (sym c.cell_at.ensures) sound)
