-- What one record counts towards a popularity: something exactly where one of its eight pointers names the number, and no more than the most. By
-- the sum over the eight. So what has a popularity is named. Assumes nothing.
use mathlib.Core.Path.{◌≡◌, refl}
use mathlib.Core.Bool.{Bool, true, false, false≢true, not, ◌&&◌}
use mathlib.Core.List.{List, [], ◌∷◌}
use Prim.Native.Nat.{ℕ, suc, ◌<◌, ◌≤◌}
use native.Mathlib.Nat.{not-suc-le-zero}
use native.Mathlib.Decide.{dec_lt}
use native.Mathlib.Omega.{arith}
use borrow.Author.Tests.{eq-eqb, ne_eqb, eqb-true, eqb-false}
use lib.Dec.{eqb}
use lib.ListN.{length, get_or}
use Rattle.paper.specs.Numbers.{bit_for}
use Rattle.paper.specs.Store.{Cell, cell_no}
use Rattle.paper.specs.Packed.{names, weight, most_weight, popularity}
use Rattle.laws.proofs.Bits.{bit_for-lt, bit_for-pos}
use Rattle.laws.proofs.Sums.{sum-most, sum-pos, sum-some}

-- pointer `child` of a cell names number q
pub record Naming (q : ℕ) (c : Cell) : Type 0 where
  pub child : ℕ
  pub eight : child < 8
  pub some : get_or c child 0 ≡ 0 → ⊥
  pub is : cell_no (get_or c child 0) ≡ q

named : (q p : ℕ) → names q p ≡ true → (p ≡ 0 → ⊥) × (cell_no p ≡ q)
named q p = go (eqb p 0) refl
  where
    go : (b : Bool) → eqb p 0 ≡ b → not b && eqb (cell_no p) q ≡ true → (p ≡ 0 → ⊥) × (cell_no p ≡ q)
    go true e h = absurd (false≢true h)
    go false e h = (eqb-false p 0 e, eqb-true (cell_no p) q h)

pub weight-pos : (c : Cell) (i : ℕ) → i < 8 → (get_or c i 0 ≡ 0 → ⊥) → 0 < weight (cell_no (get_or c i 0)) c
unfolding weight
weight-pos c i h n =
    let p : ℕ = get_or c i 0 in
    sum-pos 8 (λ j. bit_for (names (cell_no p) (get_or c j 0))) i h (rw (ne_eqb p 0 n, eq-eqb (cell_no p) (cell_no p) refl) (omega arith))

pub weight-named : (q : ℕ) (c : Cell) → 0 < weight q c → Naming q c
unfolding weight
weight-named q c h =
    let w : (i : ℕ) × (i < 8) × (0 < bit_for (names q (get_or c i 0))) = sum-some 8 (λ i. bit_for (names q (get_or c i 0))) h in
    let n : (get_or c w.0 0 ≡ 0 → ⊥) × (cell_no (get_or c w.0 0) ≡ q) = named q (get_or c w.0 0) (bit_for-pos (names q (get_or c w.0 0)) w.2) in
    record { child = w.0; eight = w.1; some = n.0; is = n.1 }

pub weight-le : (q : ℕ) (c : Cell) → weight q c ≤ most_weight
unfolding weight
weight-le q c = sum-most 8 1 (λ i. bit_for (names q (get_or c i 0))) (λ i h. omega (arith, bit_for-lt (names q (get_or c i 0))))

-- ---- who names a record

-- pointer `child` of cell `cell` of a list names q
pub record NamedBy (cs : List Cell) (q : ℕ) : Type 0 where
  pub cell : ℕ
  pub is-cell : cell < length cs
  pub child : ℕ
  pub eight : child < 8
  pub some : get_or (get_or cs cell []) child 0 ≡ 0 → ⊥
  pub is : cell_no (get_or (get_or cs cell []) child 0) ≡ q

pub named_by : (cs : List Cell) (q : ℕ) → 0 < popularity cs q → NamedBy cs q
unfolding popularity
named_by [] q h = absurd (not-suc-le-zero h)
named_by (c ∷ cs) q h = go (dec_lt 0 (weight q c)) (named_by cs q)
  where
    go : Dec (0 < weight q c) → (0 < popularity cs q → NamedBy cs q) → NamedBy (c ∷ cs) q
    go (yes l) ih =
        let w : Naming q c = weight-named q c l in
        record { cell = 0; is-cell = omega arith; child = w.child; eight = w.eight; some = w.some; is = w.is }
    go (no n) ih =
        let w : NamedBy cs q = ih (omega (arith, h)) in
        record { cell = suc w.cell; is-cell = omega (arith, w.is-cell); child = w.child; eight = w.eight; some = w.some; is = w.is }
