-- Words at their places: word i of kept cell q is the store's word there; and in an undamaged store of 32-bit words every kept cell is ok, so the
-- laws of adding hold of it. By the groups that the lists are read in. Assumes nothing.
use mathlib.Core.Path.{◌≡◌, ◌∙◌, subst, ap}
use mathlib.Core.Bool.{false}
use mathlib.Core.List.{List, []}
use Prim.Native.Nat.{ℕ, zero, suc, ◌+◌, ◌^◌, ◌<◌, ◌≤◌}
use native.Mathlib.Nat.{not-suc-le-zero}
use native.Mathlib.Decide.{dec_lt}
use native.Mathlib.Omega.{arith}
use lib.Dec.{lit<}
use lib.ListN.{length, drop, get_or, get_or-eq_default}
use lib.Seq.{get_or-take, get_or-drop}
use Rattle.paper.specs.Store.{Cell, cells_at, cell_at, leaf_no, bad_pointer, any_bad, heights, capacity_of, kept_count, cell_length, cell_position, kept_of}
use Rattle.laws.proofs.Tests.{none-at}
use Rattle.laws.proofs.Kept.{kept-length}
use Rattle.laws.proofs.Kept.{kept-cell, kept-tall}
use Rattle.laws.proofs.Invariant.{OkCells, not-bad-ok}
use Rattle.laws.proofs.Adding.{Sound}
use Rattle.laws.proofs.TrueCounts.{usable-sound}
use Rattle.laws.proofs.Undamaged.{Undamaged}

-- ---- kept cells by place

-- above height 16 nothing is kept
pub kept-none : (ws : List ℕ) (k : ℕ) → heights ≤ k → cells_at (kept_of ws) k ≡ []
kept-none ws k h = get_or-eq_default (kept_of ws) [] {n = k} (rw (kept-tall ws) h)

-- so a kept cell is of a list that the store has, and below its count
pub kept-placed : (ws : List ℕ) (k q : ℕ) → q < length (cells_at (kept_of ws) k) → (k < heights) × (q < kept_count ws k)
kept-placed ws k q l = go (dec_lt k heights)
  where
    go : Dec (k < heights) → (k < heights) × (q < kept_count ws k)
    go (yes h) = (h, subst (λ (n : ℕ). q < n) (kept-length ws k h) l)
    go (no n) = absurd (not-suc-le-zero (subst (λ (cs : List Cell). q < length cs) (kept-none ws k (omega arith)) l))

-- word i of cell q of list k
pub kept_word : (ws : List ℕ) (k q i : ℕ) → k < heights → q < kept_count ws k → i < cell_length k
    → get_or (cell_at (kept_of ws) k q) i 0 ≡ get_or ws (cell_position (capacity_of ws) k q + i) 0
kept_word ws k q i h hq hi =
    let a : ℕ = cell_position (capacity_of ws) k q in
    ap (λ (c : Cell). get_or c i 0) (kept-cell ws k q h hq) ∙ get_or-take (cell_length k) (drop a ws) i 0 hi ∙ get_or-drop a ws i 0

-- a leaf is two words
pub leaf-fits : (ws : List ℕ) → ((i : ℕ) → get_or ws i 0 < 2 ^ 32) → (q : ℕ) → q < kept_count ws 0 → leaf_no (cell_at (kept_of ws) 0 q) < 2 ^ 64
leaf-fits ws words q h =
    let C : ℕ = capacity_of ws in
    omega (arith, kept_word ws 0 q 0 (lit< tt) h (lit< tt), kept_word ws 0 q 1 (lit< tt) h (lit< tt), words (cell_position C 0 q + 0), words (cell_position C 0 q + 1))

-- ---- a store's cells are ok where no list is longer than the capacity, each leaf has 64 bits and no kept cell has a bad pointer

module _ (ws : List ℕ) (few : (k : ℕ) → k < heights → kept_count ws k ≤ capacity_of ws)
    (leaves : (q : ℕ) → q < length (cells_at (kept_of ws) 0) → leaf_no (cell_at (kept_of ws) 0 q) < 2 ^ 64)
    (sound : (k q : ℕ) → q < length (cells_at (kept_of ws) (suc k)) → any_bad (length (cells_at (kept_of ws) k)) (cell_at (kept_of ws) (suc k) q) ≡ false) where
  pub cells-ok : OkCells (kept_of ws)
  cells-ok zero q l = leaves q l
  cells-ok (suc k) q l = λ i hi.
      let n : ℕ = length (cells_at (kept_of ws) k) in
      let c : Cell = cell_at (kept_of ws) (suc k) q in
      not-bad-ok n (get_or c i 0) (none-at 8 (λ j. bad_pointer n (get_or c j 0)) (sound k q l) i hi)

  pub cells-sound : Sound (capacity_of ws) (kept_of ws)
  cells-sound = record { ok = cells-ok; few = λ j. most j (dec_lt j heights) }
    where
      most : (j : ℕ) → Dec (j < heights) → length (cells_at (kept_of ws) j) ≤ capacity_of ws
      most j (yes h) = omega (arith, kept-length ws j h, few j h)
      most j (no n) = rw (kept-none ws j (omega arith)) (omega arith)

-- so in an undamaged store
module _ (ws : List ℕ) (u : Undamaged ws) where
  pub store-none-bad : (k q : ℕ) → q < length (cells_at (kept_of ws) (suc k)) → any_bad (length (cells_at (kept_of ws) k)) (cell_at (kept_of ws) (suc k) q) ≡ false
  store-none-bad k q l = usable-sound (kept_of ws) k q (u.usable (suc k) (kept-placed ws (suc k) q l).0) l

  pub store-leaves : ((i : ℕ) → get_or ws i 0 < 2 ^ 32) → (q : ℕ) → q < length (cells_at (kept_of ws) 0) → leaf_no (cell_at (kept_of ws) 0 q) < 2 ^ 64
  store-leaves words q l = leaf-fits ws words q (kept-placed ws 0 q l).1
