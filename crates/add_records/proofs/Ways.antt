-- The clauses of adding a record as the code comes to them: a leaf's, a cell's, and the children from child i on. By the value of each test on the
-- way, at which the definitions compute. Assumes nothing.
use mathlib.Core.Path.{◌≡◌, refl, ap}
use mathlib.Core.List.{List}
use Prim.Native.Nat.{ℕ, suc, ◌+◌, ◌-◌, ◌/◌, ◌%◌, ◌<◌, ◌≤◌}
use native.Mathlib.Omega.{arith}
use lib.ListN.{get_or, set, drop, replicate}
use borrow.Author.Tests.{eq-eqb, ne_eqb}
use Rattle.paper.specs.Numbers.{num}
use Rattle.paper.specs.Store.{leaf_solid}
use Rattle.std.specs.Prelude.{Result, Ok, Err, IsErrAnd}
use Rattle.paper.specs.declared.Full.{Full}
use Rattle.add_cells.specs.CellAdding.{CellAdding, cell_added, cell_full, add_leaf_in, add_cell_in}
use Rattle.add_records.specs.declared.Record.{Record}
use Rattle.add_records.specs.RecordAdding.{RecordAdding, record_added, record_full, record_adding, ending_at, then_add, add_children, add_record}

-- ---- a cell that was added, or not, and the record that it ends

pub ended : (next n : ℕ) {p m : ℕ} {ws : List ℕ} (x : CellAdding) → cell_added p m ws ≡ x → record_added next p m n ws ≡ ending_at next n x
unfolding ending_at
ended next n x e = ap (ending_at next n) e

pub ended-full : (next n : ℕ) {ws : List ℕ} (x : CellAdding) → cell_full ws ≡ x → record_full ws ≡ ending_at next n x
unfolding ending_at
ended-full next n x e = ap (ending_at next n) e

-- an answer that is no record says full
pub answer-full : (Q : Full → Type 0) (r : Result Record Full) (ws : List ℕ) → IsErrAnd r Q → record_full ws ≡ record_adding r ws
answer-full Q (Ok a) ws e = absurd e
answer-full Q (Err full) ws e = refl

-- ---- the children from child i on, each taken by f

pub one_left : (i : ℕ) → i < 8 → 8 - i ≡ suc (8 - (i + 1))
one_left i l = omega arith

module _ (f : ℕ → List ℕ → RecordAdding) (k i m at : ℕ) (c ms : List ℕ) (v : ℕ) (ws : List ℕ) where
  pub children-none : 8 ≤ i → add_children f k (8 - i) m at c ms v ws ≡ ending_at at v (add_cell_in k c ms v ws)
  unfolding add_children
  children-none l = let e : 8 - i ≡ 0 = omega arith in rw e

  module _ (l : i < 8) where
    place : 7 - (8 - (i + 1)) ≡ i
    place = omega arith

    pub children-skip : m % 2 ≡ 0 → add_children f k (8 - i) m at c ms v ws ≡ add_children f k (8 - (i + 1)) (m / 2) at c ms v ws
    unfolding add_children
    children-skip e = rw (one_left i l, ne_eqb (m % 2) 1 (λ o. omega arith))

    module _ (e : m % 2 ≡ 0 → ⊥) (u : List ℕ) where
      pub children-full : f at ws ≡ record_full u → add_children f k (8 - i) m at c ms v ws ≡ record_full u
      unfolding add_children then_add
      children-full b = rw (one_left i l, eq-eqb (m % 2) 1 (omega arith), b)

      pub children-next : (next p s n : ℕ) → f at ws ≡ record_added next p s n u
          → add_children f k (8 - i) m at c ms v ws ≡ add_children f k (8 - (i + 1)) (m / 2) next (set c i p) (set ms i s) (v + n) u
      unfolding add_children then_add
      children-next next p s n b = rw (one_left i l, eq-eqb (m % 2) 1 (omega arith), b, place)

-- ---- a record of height h: of list h - 2, its children of list h - 1 - 2

module _ (file : List ℕ) (h at : ℕ) (ws : List ℕ) where
  pub record-leaf : h ≡ 2 → add_record file (h - 2) at ws ≡ ending_at (at + 8) (leaf_solid (num 8 (drop at file))) (add_leaf_in (num 8 (drop at file)) ws)
  unfolding add_record
  record-leaf e = rw e

  pub record-inner : 3 ≤ h → add_record file (h - 2) at ws ≡ add_children (add_record file (h - 1 - 2)) (h - 2) 8 (get_or file at 0) (at + 1) (replicate 8 0) (replicate 8 0) 0 ws
  unfolding add_record
  record-inner l = let e : h - 2 ≡ suc (h - 1 - 2) = omega arith in rw e
