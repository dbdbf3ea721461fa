-- `store::lent::Store::leaf_exchanged_at` meets its contract: the two words at the leaf's place are the kept leaf's, read the other way round.
-- By where a kept leaf lies, and the bound on its low word. Assumes nothing.
use Rattle.std.proofs.Common.{◌≡◌, ◌∙◌, sym, ap, ap₂, ℕ, ◌+◌, ◌*◌, ◌/◌, ◌%◌, ◌^◌, ◌<◌, get_or, arith, rules}
use Rattle.laws.specs.Chains.{exchanged}
use Rattle.store.proofs.Positions.{pair-words, leaf-words}
use Rattle.store.proofs.lent.Store.leaf_exchanged_at.Goals as goal

-- two words, the low one below 2^32
exchanged-words : (a b : ℕ) → b < 2 ^ 32 → b * 2 ^ 32 + a ≡ exchanged (a * 2 ^ 32 + b)
exchanged-words a b h =
    let low : (a * 2 ^ 32 + b) % 2 ^ 32 ≡ b = omega arith in
    let high : (a * 2 ^ 32 + b) / 2 ^ 32 ≡ a = omega arith in
    sym (ap₂ (λ (x y : ℕ). x * 2 ^ 32 + y) low high)

pub returns : goal.returns
returns c =
    let ws = c.args.self.words.now in
    let a : ℕ = c.from-first.result in
    let b : ℕ = c.from-second.result in
    let low : b < 2 ^ 32 = search rules in
    let firsts : a ≡ get_or ws c.cell_position-at.result 0 = search rules in
    let seconds : b ≡ get_or ws (c.cell_position-at.result + 1) 0 = search rules in
    exchanged-words a b low
    ∙ ap exchanged
    (ap₂ (λ (x y : ℕ). x * 2 ^ 32 + y) firsts seconds ∙ pair-words ws c.cell_position-at.result
    ∙ leaf-words ws c.args.n _ _ c.capacity.ensures c.requires.n_bound c.cell_position-at.ensures)
