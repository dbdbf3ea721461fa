-- What reading to the end says on the way: the bytes that a record has, its children's records and where each ends; and taking a record ends where
-- reading it does. By induction on the height and on the children left. Assumes nothing.
use mathlib.Core.Path.{◌≡◌, refl, subst}
use mathlib.Core.Bool.{Bool, true, false, cond}
use mathlib.Core.List.{List}
use Prim.Native.Nat.{ℕ, zero, suc, ◌+◌, ◌-◌, ◌/◌, ◌%◌, ◌<◌, ◌≤◌}
use native.Mathlib.Omega.{arith}
use lib.Dec.{eqb, leb, ltb}
use lib.ListN.{length, drop, get_or, set, replicate}
use borrow.Author.Tests.{eq-eqb, ne_eqb, ltb-false, leb-false}
use Rattle.paper.specs.Numbers.{num}
use Rattle.outline.specs.Positions.{Reading}
use Rattle.outline.specs.Positions.{Broken, EndsAt}
use Rattle.outline.specs.Positions.{and_then, leaf_at, children_at, record_at}
use Rattle.add_cells.specs.CellAdding.{CellAdding, cell_added, cell_full, add_cell_in}
use Rattle.add_records.specs.RecordAdding.{RecordAdding, record_added, record_full, ending_at, then_add, add_children, add_record, Whole}
use Rattle.add_records.proofs.Ways.{one_left}

-- ---- on the way

-- a leaf's eight bytes are there
pub whole-leaf : (file : List ℕ) (h at : ℕ) → h ≡ 2 → Whole (record_at file (h - 2) at) → at + 8 ≤ length file
unfolding record_at leaf_at
whole-leaf file h at e w = go (ltb (length file) (at + 8)) refl (subst (λ (n : ℕ). Whole (record_at file (n - 2) at)) e w)
  where
    go : (b : Bool) → ltb (length file) (at + 8) ≡ b → Whole (cond b Broken (cond (eqb (num 8 (drop at file)) 0) Broken (EndsAt (at + 8)))) → at + 8 ≤ length file
    go true p w = absurd w
    go false p w = ltb-false (length file) (at + 8) p

-- a cell's mask byte is there, and its children are read to the end
module _ (file : List ℕ) (k at : ℕ) where
  inner : Whole (record_at file (suc k) at) → (at < length file) × Whole (children_at (record_at file k) 8 (get_or file at 0) (at + 1))
  unfolding record_at
  inner w = go (leb (length file) at) refl (eqb (get_or file at 0) 0) w
    where
      go : (b : Bool) → leb (length file) at ≡ b → (z : Bool) → Whole (cond b Broken (cond z Broken (children_at (record_at file k) 8 (get_or file at 0) (at + 1))))
          → (at < length file) × Whole (children_at (record_at file k) 8 (get_or file at 0) (at + 1))
      go true p z w = absurd w
      go false p true w = absurd w
      go false p false w = (leb-false (length file) at p, w)

pub whole-inner : (file : List ℕ) (h at : ℕ) → 3 ≤ h → Whole (record_at file (h - 2) at)
    → (at < length file) × Whole (children_at (record_at file (h - 1 - 2)) 8 (get_or file at 0) (at + 1))
whole-inner file h at l w =
    let e : h - 2 ≡ suc (h - 1 - 2) = omega arith in
    inner file (h - 1 - 2) at (subst (λ (n : ℕ). Whole (record_at file n at)) e w)

whole-first : (x : Reading) (f : ℕ → Reading) → Whole (and_then x f) → Whole x
unfolding and_then
whole-first Broken f w = w
whole-first (EndsAt p) f w = tt

-- the children from child i on
module _ (f : ℕ → Reading) (i m at : ℕ) (l : i < 8) (w : Whole (children_at f (8 - i) m at)) where
  counted : Whole (children_at f (suc (8 - (i + 1))) m at)
  counted = subst (λ (n : ℕ). Whole (children_at f n m at)) (one_left i l) w

  pub whole-skip : m % 2 ≡ 0 → Whole (children_at f (8 - (i + 1)) (m / 2) at)
  unfolding children_at
  whole-skip e = rw (ne_eqb (m % 2) 1 (λ o. omega arith)) at counted

  module _ (e : m % 2 ≡ 0 → ⊥) where
    pub whole_here : Whole (f at)
    unfolding children_at
    whole_here = whole-first (f at) (λ p. children_at f (8 - (i + 1)) (m / 2) p) (rw (eq-eqb (m % 2) 1 (omega arith)) at counted)

    pub whole-next : (p : ℕ) → f at ≡ EndsAt p → Whole (children_at f (8 - (i + 1)) (m / 2) p)
    unfolding children_at and_then
    whole-next p r = rw (eq-eqb (m % 2) 1 (omega arith), r) at counted

-- ---- where taking ends

-- a record is taken to where it is read to
abbrev pub Ends : Reading → RecordAdding → Type 0
Ends Broken x = Unit {0}
Ends (EndsAt q) (record_added next p s n ws) = q ≡ next
Ends (EndsAt q) (record_full ws) = Unit {0}

ends-full : (x : Reading) (ws : List ℕ) → Ends x (record_full ws)
ends-full Broken ws = tt
ends-full (EndsAt q) ws = tt

ends-placed : (next n : ℕ) (x : CellAdding) → Ends (EndsAt next) (ending_at next n x)
unfolding ending_at
ends-placed next n (cell_added p m ws) = refl
ends-placed next n (cell_full ws) = tt

-- children each read by g and taken by f
module _ (g : ℕ → Reading) (f : ℕ → List ℕ → RecordAdding) (k : ℕ) (alike : (at : ℕ) (ws : List ℕ) → Ends (g at) (f at ws)) where
  ends-then : (r : Reading) (x : RecordAdding) (h : ℕ → Reading) (i : ℕ → ℕ → ℕ → ℕ → List ℕ → RecordAdding) → Ends r x → ((next p s n : ℕ) (ws : List ℕ) → Ends (h next) (i next p s n ws))
      → Ends (and_then r h) (then_add x i)
  unfolding and_then then_add
  ends-then Broken x h i e ih = tt
  ends-then (EndsAt q) (record_added next p s n ws) h i e ih = rw e (ih next p s n ws)
  ends-then (EndsAt q) (record_full ws) h i e ih = ends-full (h q) ws

  children-end : (n m at : ℕ) (c ms : List ℕ) (v : ℕ) (ws : List ℕ) → Ends (children_at g n m at) (add_children f k n m at c ms v ws)
  unfolding children_at add_children
  children-end zero m at c ms v ws = ends-placed at v (add_cell_in k c ms v ws)
  children-end (suc n) m at c ms v ws = go (eqb (m % 2) 1) (children-end n (m / 2))
    where
      go : (b : Bool) → ((at' : ℕ) (c' ms' : List ℕ) (v' : ℕ) (ws' : List ℕ) → Ends (children_at g n (m / 2) at') (add_children f k n (m / 2) at' c' ms' v' ws'))
          → Ends (cond b (and_then (g at) (λ next. children_at g n (m / 2) next)) (children_at g n (m / 2) at))
          (cond b (then_add (f at ws) (λ next p s u ws'. add_children f k n (m / 2) next (set c (7 - n) p) (set ms (7 - n) s) (v + u) ws')) (add_children f k n (m / 2) at c ms v ws))
      go true ih = ends-then (g at) (f at ws) _ _ (alike at ws) (λ next p s u ws'. ih next (set c (7 - n) p) (set ms (7 - n) s) (v + u) ws')
      go false ih = ih at c ms v ws

leaf-ends : (file : List ℕ) (at n : ℕ) (x : CellAdding) → Ends (leaf_at file at) (ending_at (at + 8) n x)
unfolding leaf_at
leaf-ends file at n x = go (ltb (length file) (at + 8)) (eqb (num 8 (drop at file)) 0)
  where
    go : (a b : Bool) → Ends (cond a Broken (cond b Broken (EndsAt (at + 8)))) (ending_at (at + 8) n x)
    go true b = tt
    go false true = tt
    go false false = ends-placed (at + 8) n x

pub record-ends : (file : List ℕ) (k at : ℕ) (ws : List ℕ) → Ends (record_at file k at) (add_record file k at ws)
unfolding record_at add_record
record-ends file zero at ws = leaf-ends file at _ _
record-ends file (suc k) at ws = go (leb (length file) at) (eqb (get_or file at 0) 0) (children-end (record_at file k) (add_record file k) (suc k) (record-ends file k) 8 (get_or file at 0) (at + 1) (replicate 8 0) (replicate 8 0) 0 ws)
  where
    go : (a b : Bool) → Ends (children_at (record_at file k) 8 (get_or file at 0) (at + 1)) (add_children (add_record file k) (suc k) 8 (get_or file at 0) (at + 1) (replicate 8 0) (replicate 8 0) 0 ws)
        → Ends (cond a Broken (cond b Broken (children_at (record_at file k) 8 (get_or file at 0) (at + 1)))) (add_children (add_record file k) (suc k) 8 (get_or file at 0) (at + 1) (replicate 8 0) (replicate 8 0) 0 ws)
    go true b h = tt
    go false true h = tt
    go false false h = h

-- a record that is read to the end and taken is read to the position after it
ends_at : (r : Reading) (x : RecordAdding) (next p s n : ℕ) (u : List ℕ) → Whole r → Ends r x → x ≡ record_added next p s n u → r ≡ EndsAt next
ends_at Broken x next p s n u w h e = absurd w
ends_at (EndsAt q) x next p s n u w h e = rw (subst (Ends (EndsAt q)) e h)

pub record-ended : (file : List ℕ) (k at : ℕ) (ws u : List ℕ) (next p s n : ℕ) → Whole (record_at file k at) → add_record file k at ws ≡ record_added next p s n u
    → record_at file k at ≡ EndsAt next
record-ended file k at ws u next p s n w e = ends_at (record_at file k at) (add_record file k at ws) next p s n u w (record-ends file k at ws) e
