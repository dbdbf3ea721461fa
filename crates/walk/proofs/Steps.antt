-- The walk by numbers, one law for each way through its code: it stops, meets damage, finds no child, or goes one list down. By the clauses of
-- `walk_to`, with the list's number as code has it. Assumes nothing.
use mathlib.Core.Path.{◌≡◌, refl, sym, ap, ap₂, ◌∙◌}
use mathlib.Core.Bool.{Bool, true, false, cond}
use mathlib.Core.List.{List}
use Prim.Native.Nat.{ℕ, zero, suc, ◌+◌, ◌-◌, ◌<◌, ◌≤◌}
use native.Mathlib.Omega.{arith}
use borrow.Author.Tests.{le-leb, lt-leb, eq-eqb, ne_eqb}
use lib.Bits.{bit_xor}
use lib.Dec.{eqb}
use lib.ListN.{length, get_or}
use Rattle.paper.specs.Rooms.{Point}
use Rattle.laws.proofs.Kept.{kept-length}
use Rattle.paper.specs.Store.{Cell, heights, kept_count, kept_of, cells_at, cell_at, tag_of, cell_no, any_bad}
use Rattle.points.specs.Seeing.{child_no_at}
use Rattle.walk.specs.Walk.{Ended, Absent, At, Damaged, taken_from, walk_to}

pub walk-stop : (K : List (List Cell)) (stop k n m : ℕ) (v : Point) → k ≤ stop → At n m ≡ walk_to K stop k n m v
unfolding walk_to
walk-stop K stop zero n m v h = refl
walk-stop K stop (suc k) n m v h =
    let c : Cell = cell_at K (suc k) n in
    let p : ℕ = taken_from k c m v in
    let on : Ended = cond (any_bad (length (cells_at K k)) c) Damaged (cond (eqb p 0) (Absent (suc (suc k))) (walk_to K stop k (cell_no p) (bit_xor (tag_of p) m) v)) in
    ap (λ (a : Bool). cond a (At n m) on) (sym (le-leb (suc k) stop h))

-- what is left of a step above the list asked for: from cell c of list k, i being the list below
abbrev on : List (List Cell) → ℕ → Cell → ℕ → Point → ℕ → Ended
on K stop c m v i =
    let p : ℕ = taken_from i c m v in
    cond (any_bad (length (cells_at K i)) c) Damaged (cond (eqb p 0) (Absent (suc (suc i))) (walk_to K stop i (cell_no p) (bit_xor (tag_of p) m) v))

walk-on : (K : List (List Cell)) (stop k n m : ℕ) (v : Point) → stop < k → on K stop (cell_at K k n) m v (k - 1) ≡ walk_to K stop k n m v
unfolding walk_to
walk-on K stop zero n m v h = absurd (omega arith)
walk-on K stop (suc k) n m v h =
    let e : suc k - 1 ≡ k = omega arith in
    ap (on K stop (cell_at K (suc k) n) m v) e ∙ ap (λ (a : Bool). cond a (At n m) (on K stop (cell_at K (suc k) n) m v k)) (sym (lt-leb (suc k) stop h))

module _ (K : List (List Cell)) (stop k n m : ℕ) (v : Point) (h : stop < k) where
  abbrev c : Cell
  c = cell_at K k n

  abbrev bad : Bool
  bad = any_bad (length (cells_at K (k - 1))) c

  abbrev p : ℕ
  p = taken_from (k - 1) c m v

  abbrev down : Ended
  down = walk_to K stop (k - 1) (cell_no p) (bit_xor (tag_of p) m) v

  pub walk-damaged : bad ≡ true → Damaged ≡ walk_to K stop k n m v
  walk-damaged e = ap (λ (b : Bool). cond b Damaged (cond (eqb p 0) (Absent (suc (suc (k - 1)))) down)) (sym e) ∙ walk-on K stop k n m v h

  pub walk-absent : bad ≡ false → p ≡ 0 → Absent (k - 1 + 2) ≡ walk_to K stop k n m v
  walk-absent e z =
      let up : k - 1 + 2 ≡ suc (suc (k - 1)) = omega arith in
      ap Absent up ∙ ap₂ (λ (b a : Bool). cond b Damaged (cond a (Absent (suc (suc (k - 1)))) down)) (sym e) (sym (eq-eqb p 0 z)) ∙ walk-on K stop k n m v h

  pub walk-down : bad ≡ false → (p ≡ 0 → ⊥) → down ≡ walk_to K stop k n m v
  walk-down e z =
      ap₂ (λ (b a : Bool). cond b Damaged (cond a (Absent (suc (suc (k - 1)))) down)) (sym e) (sym (ne_eqb p 0 z)) ∙ walk-on K stop k n m v h

-- ---- one turn's cell and pointer, as the code reads them: list k is one above the list below

module _ (ws : List ℕ) (k n : ℕ) where
  cell-read : (cell : Cell) → 0 < k → cell ≡ cell_at (kept_of ws) (k - 1 + 1) n → cell ≡ cell_at (kept_of ws) k n
  cell-read cell l e = let j : k - 1 + 1 ≡ k = omega arith in e ∙ ap (λ (i : ℕ). cell_at (kept_of ws) i n) j

  pub damage-read : (cell : Cell) (count : ℕ) → 0 < k → k < heights → cell ≡ cell_at (kept_of ws) (k - 1 + 1) n → count ≡ kept_count ws (k - 1)
      → any_bad count cell ≡ any_bad (length (cells_at (kept_of ws) (k - 1))) (cell_at (kept_of ws) k n)
  damage-read cell count l h e q = ap₂ any_bad (q ∙ sym (kept-length ws (k - 1) (omega arith))) (cell-read cell l e)

  pub taken-read : (m : ℕ) (v : Point) (cell : Cell) (child : ℕ) → 0 < k → cell ≡ cell_at (kept_of ws) (k - 1 + 1) n → child ≡ child_no_at (k - 1) v
      → get_or cell (bit_xor child m) 0 ≡ taken_from (k - 1) (cell_at (kept_of ws) k n) m v
  taken-read m v cell child l e q = ap₂ (λ (c : Cell) (i : ℕ). get_or c (bit_xor i m) 0) (cell-read cell l e) q
