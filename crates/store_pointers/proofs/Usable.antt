-- The ways through the test of a cell, in the code's words: empty, or decided by its pointers.
-- Each by the value of the test passed, at which the definition computes. Assumes nothing.
use Rattle.std.proofs.Common.{◌≡◌, ℕ, Bool, true, false, not, ◌&&◌, eqb, get_or, ap}
use Rattle.paper.specs.Numbers.{all_below}
use Rattle.paper.specs.Store.{Cell, any_bad, cell_usable}

pub cell-empty : (n : ℕ) (c : Cell) → all_below 8 (λ i. eqb (get_or c i 0) 0) ≡ true → cell_usable n c ≡ false
unfolding cell_usable
cell-empty n c e = ap (λ (b : Bool). not b && not (any_bad n c)) e

pub cell-filled : (n : ℕ) (c : Cell) → all_below 8 (λ i. eqb (get_or c i 0) 0) ≡ false → cell_usable n c ≡ not (any_bad n c)
unfolding cell_usable
cell-filled n c e = ap (λ (b : Bool). not b && not (any_bad n c)) e
