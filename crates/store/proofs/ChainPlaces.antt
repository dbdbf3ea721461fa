-- Where the words of chains lie: the next words of the lists before list k have room, and every word of list k is inside the words used; and the chain of a
-- kept cell, in the code's words. By a product's bound. Assumes nothing.
use mathlib.Core.Path.{◌≡◌, refl, ap}
use mathlib.Core.List.{List}
use Prim.Native.Nat.{ℕ, zero, suc, ◌/◌, ◌*◌, ◌^◌, ◌≤◌, ◌<◌}
use native.Mathlib.Nat.{mul-le-mul_left}
use native.Mathlib.Omega.{arith}
use Rattle.paper.specs.Store.{Cell, heights, chains, used, kept_of, cell_at, leaf_no, leaf_solid, head_position, next_position, key_of, chain_of}

pub nexts-fit : (C k : ℕ) → k ≤ heights → C * k ≤ C * heights
nexts-fit C k h = mul-le-mul_left C h

pub head_in : (C k j : ℕ) → k < heights → j < chains → head_position C k j < used C
head_in C k j hk hj = omega arith

pub next-in : (C k n : ℕ) → k < heights → n < C → next_position C k n < used C
next-in C k n hk hn = omega (arith, nexts-fit C (suc k) hk)

-- a leaf's chain is its number of ones; any other cell's its key's top byte
pub leaf-chained : (ws : List ℕ) (k n leaf : ℕ) → k ≡ 0 → leaf ≡ leaf_no (cell_at (kept_of ws) 0 n) → leaf_solid leaf ≡ chain_of k (cell_at (kept_of ws) k n)
leaf-chained ws k n leaf z e = rw z (ap leaf_solid e)

pub cell-chained : (ws : List ℕ) (k n : ℕ) (cell : Cell) → (k ≡ 0 → ⊥) → cell ≡ cell_at (kept_of ws) k n → key_of cell / 2 ^ 24 ≡ chain_of k (cell_at (kept_of ws) k n)
cell-chained ws zero n cell z e = absurd (z refl)
cell-chained ws (suc k) n cell z e = ap (λ (c : Cell). key_of c / 2 ^ 24) e
