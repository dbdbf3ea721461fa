-- A cell kept in an undamaged store: where it is no leaf, a pointer of it that is there names a cell kept one list down. By the tests of an
-- undamaged store. Assumes nothing.
use mathlib.Core.Path.{◌≡◌, refl}
use mathlib.Core.List.{List}
use Prim.Native.Nat.{ℕ, zero, suc, ◌-◌, ◌<◌}
use native.Mathlib.Numerals.{sub-one}
use native.Mathlib.Omega.{arith}
use lib.ListN.{get_or}
use borrow.Author.Tests.{ne_eqb}
use Rattle.paper.specs.Store.{Cell, heights, kept_count, kept_of, cell_at, cell_no}
use Rattle.laws.proofs.StoreFacts.{cell-sound, cell-names}
use Rattle.outline_measure.specs.Measure.{Kept}

below : (ws : List ℕ) (k n i : ℕ) → (k ≡ 0 → ⊥) → Kept ws k n → i < 8 → (get_or (cell_at (kept_of ws) k n) i 0 ≡ 0 → ⊥) → Kept ws (k - 1) (cell_no (get_or (cell_at (kept_of ws) k n) i 0))
below ws zero n i z h l there = absurd (z refl)
below ws (suc k) n i z h l there =
    let c : Cell = cell_at (kept_of ws) (suc k) n in
    let list : k < heights = omega (arith, h.list) in
    rw (sub-one (suc k))
    (record {
      whole = h.whole;
      list = list;
      number = cell-names (kept_count ws k) c (cell-sound ws h.whole k n h.list h.number) i l (ne_eqb (get_or c i 0) 0 there);
    })

-- a pointer that is there names a kept cell, under the names that code has for the cell, the pointer and its number
pub child-kept : (ws : List ℕ) (k n : ℕ) (c : Cell) (i q : ℕ) → Kept ws k n → (k ≡ 0 → ⊥) → c ≡ cell_at (kept_of ws) k n → i < 8 → (get_or c i 0 ≡ 0 → ⊥) → q ≡ cell_no (get_or c i 0)
    → Kept ws (k - 1) q
child-kept ws k n c i q h z e l there f = rw (f, e) (below ws k n i z h l (rw e at there))
