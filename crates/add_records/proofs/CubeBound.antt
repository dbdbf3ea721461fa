-- The solid voxels that adding a record answers are at most those of its cell's cube, so that no sum of eight children runs over. By induction on the height
-- and on the children left. Assumes nothing.
use mathlib.Core.Path.{◌≡◌, subst}
use mathlib.Core.Bool.{Bool, true, false, cond}
use mathlib.Core.List.{List}
use Prim.Native.Nat.{ℕ, zero, suc, ◌+◌, ◌-◌, ◌*◌, ◌/◌, ◌%◌, ◌^◌, ◌≤◌}
use native.Mathlib.Nat.{zero-add, pow-succ'}
use native.Mathlib.Omega.{arith}
use lib.Dec.{eqb}
use lib.ListN.{set}
use Rattle.laws.proofs.TrueCounts.{leaf-most}
use Rattle.add_cells.specs.CellAdding.{CellAdding, cell_added, cell_full, add_cell_in}
use Rattle.add_records.specs.RecordAdding.{RecordAdding, record_added, record_full, ending_at, then_add, add_children, add_record}

-- at most b are answered
abbrev pub AtMost : ℕ → RecordAdding → Type 0
AtMost b (record_added next p s n ws) = n ≤ b
AtMost b (record_full ws) = Unit {0}

ending-most : (b next n : ℕ) (x : CellAdding) → n ≤ b → AtMost b (ending_at next n x)
unfolding ending_at
ending-most b next n (cell_added p m ws) h = h
ending-most b next n (cell_full ws) h = tt

-- children each taken by f, which answers at most d
module _ (f : ℕ → List ℕ → RecordAdding) (k d b : ℕ) (each : (at : ℕ) (ws : List ℕ) → AtMost d (f at ws)) where
  then-most : (x : RecordAdding) (g : ℕ → ℕ → ℕ → ℕ → List ℕ → RecordAdding) → AtMost d x → ((next p s n : ℕ) (ws : List ℕ) → n ≤ d → AtMost b (g next p s n ws))
      → AtMost b (then_add x g)
  unfolding then_add
  then-most (record_added next p s n ws) g h ih = ih next p s n ws h
  then-most (record_full ws) g h ih = tt

  children-most : (n m at : ℕ) (c ms : List ℕ) (v : ℕ) (ws : List ℕ) → v + n * d ≤ b → AtMost b (add_children f k n m at c ms v ws)
  unfolding add_children
  children-most zero m at c ms v ws h = ending-most b at v (add_cell_in k c ms v ws) (omega arith)
  children-most (suc n) m at c ms v ws h = go (eqb (m % 2) 1) (children-most n (m / 2))
    where
      go : (t : Bool) → ((at' : ℕ) (c' ms' : List ℕ) (v' : ℕ) (ws' : List ℕ) → v' + n * d ≤ b → AtMost b (add_children f k n (m / 2) at' c' ms' v' ws'))
          → AtMost b (cond t (then_add (f at ws) (λ next p s u ws'. add_children f k n (m / 2) next (set c (7 - n) p) (set ms (7 - n) s) (v + u) ws')) (add_children f k n (m / 2) at c ms v ws))
      go true ih = then-most (f at ws) _ (each at ws) (λ next p s u ws' l. ih next (set c (7 - n) p) (set ms (7 - n) s) (v + u) ws' (omega arith))
      go false ih = ih at c ms v ws (omega arith)

record-most : (file : List ℕ) (k at : ℕ) (ws : List ℕ) → AtMost (8 ^ suc (suc k)) (add_record file k at ws)
unfolding add_record
record-most file zero at ws = ending-most _ _ _ _ (leaf-most _)
record-most file (suc k) at ws =
    children-most (add_record file k) (suc k) (8 ^ suc (suc k)) (8 ^ suc (suc (suc k))) (record-most file k) 8 _ _ _ _ 0 ws (omega (arith, pow-succ' 8 (suc (suc k))))

-- ---- as children, whose height is at most 15

cube-grows : (n h : ℕ) → 8 ^ h ≤ 8 ^ (n + h)
cube-grows zero h = rw (zero-add h) (omega arith)
cube-grows (suc n) h = let e : suc n + h ≡ suc (n + h) = omega arith in rw e (omega (arith, pow-succ' 8 (n + h), cube-grows n h))

pub child-most : (file : List ℕ) (k at : ℕ) (ws u : List ℕ) (next p s n : ℕ) → k ≤ 13 → add_record file k at ws ≡ record_added next p s n u → n ≤ 8 ^ 15
child-most file k at ws u next p s n l e =
    let h : 13 - k + suc (suc k) ≡ 15 = omega arith in
    let own : n ≤ 8 ^ suc (suc k) = subst (AtMost (8 ^ suc (suc k))) e (record-most file k at ws) in
    omega (arith, own, subst (λ (j : ℕ). 8 ^ suc (suc k) ≤ 8 ^ j) h (cube-grows (13 - k) (suc (suc k))))
