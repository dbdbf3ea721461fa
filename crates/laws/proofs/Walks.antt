-- On lists as they should be no walk to a voxel or a cell meets a bad pointer: every pointer of a kept cell is none or names a kept cell, so what is
-- entered is kept. By induction on the height. Assumes nothing.
use mathlib.Core.Path.{◌≡◌, refl, ap, subst, ◌∙◌}
use mathlib.Core.Bool.{Bool, true, false, cond, not}
use mathlib.Core.List.{List}
use mathlib.Core.Logic.{inl, inr}
use Prim.Native.Nat.{ℕ, zero, suc, ◌-◌, ◌<◌}
use native.Mathlib.Decide.{dec_lt}
use native.Mathlib.Omega.{arith}
use borrow.Author.Tests.{eqb-false}
use lib.Dec.{eqb, leb}
use lib.ListN.{length, get_or, get_or-eq_default}
use Rattle.paper.specs.Rooms.{Point}
use Rattle.paper.specs.Store.{Cell, cells_at, cell_at, tag_of, cell_no, any_bad}
use Rattle.paper.specs.Walk.{is_damaged, none, to, root_walk}
use Rattle.paper.specs.Questions.{child_for, graph_reading, kept_reading, voxel_walk, taken, below, in_below, walk_damaged, cell_walk_damaged}
use Rattle.laws.proofs.Invariant.{Names, OkPointer, names-lt}
use Rattle.laws.proofs.Adding.{Invs}
use Rattle.laws.proofs.Filled.{none-bad}
use Rattle.laws.proofs.Walking.{SameChild, Agree, walks_same}
use Rattle.laws.proofs.CellVoxels.{graph-sound}

-- ---- cells as a walk enters them

-- whatever pointer is taken from the cell, it is none or names a kept cell
abbrev Sure : List (List Cell) → ℕ → Cell → Type 0
Sure K zero c = Unit {0}
Sure K (suc k) c = (i : ℕ) → OkPointer (length (cells_at K k)) (get_or c i 0)

named : {n p : ℕ} → OkPointer n p → eqb p 0 ≡ false → Names n p
named {n} {p} (inl e) h = absurd (eqb-false p 0 h e)
named (inr m) h = m

-- no bad pointer here, and no damage behind a pointer that is not none
quiet : (stop bad gone rest : Bool) → bad ≡ false → (gone ≡ false → rest ≡ false) → cond stop false (cond bad true (cond gone false rest)) ≡ false
quiet true bad gone rest b r = refl
quiet false true gone rest b r = b
quiet false false true rest b r = refl
quiet false false false rest b r = r refl

module _ (K : List (List Cell)) (I : Invs K) where
  kept-sure : (k q : ℕ) → q < length (cells_at K k) → Sure K k (cell_at K k q)
  kept-sure zero q h = tt
  kept-sure (suc k) q h = λ i. go i (dec_lt i 8)
    where
      go : (i : ℕ) → Dec (i < 8) → OkPointer (length (cells_at K k)) (get_or (cell_at K (suc k) q) i 0)
      go i (yes l) = (I (suc k)).ok q h i l
      go i (no n) = inl (get_or-eq_default (cell_at K (suc k) q) 0 {n = i} (omega (arith, ((I (suc k)).shape q h).0)))

  -- the same kept cell, for a walk with tests and one without
  abbrev One : ℕ → ℕ → ℕ → Type 0
  One k p q = (p ≡ q) × (p < length (cells_at K k))

  one-child : (k p : ℕ) → OkPointer (length (cells_at K k)) p → SameChild (One k) (child_for p) (child_for p)
  one-child k p ok = go (eqb p 0) refl
    where
      go : (b : Bool) → eqb p 0 ≡ b → SameChild (One k) (cond b none (to (tag_of p) (cell_no p))) (cond b none (to (tag_of p) (cell_no p)))
      go true e = tt
      go false e = (refl, (refl, names-lt (named ok e)))

  kept-agrees : Agree (kept_reading K) (graph_reading K) One
  kept-agrees = record {
    oks = oks;
    leaves = λ p q s. ap (λ (n : ℕ). (graph_reading K).leaf n) s.0;
    children = λ k p q i s.
        subst (λ (n : ℕ). SameChild (One k) ((kept_reading K).child k p i) ((graph_reading K).child k n i)) s.0 (one-child k (get_or (cell_at K (suc k) p) i 0) (kept-sure (suc k) p s.1 i));
  }
    where
      oks : (k p q : ℕ) → One k p q → (kept_reading K).ok k p ≡ true
      oks zero p q s = refl
      oks (suc k) p q s = ap not (none-bad (length (cells_at K k)) (cell_at K (suc k) p) (λ i h. kept-sure (suc k) p s.1 i))

  walk-clear : (stop k : ℕ) (c : Cell) (v : Point) → Sure K k c → walk_damaged K stop k c v ≡ false
  unfolding walk_damaged
  walk-clear stop zero c v s = refl
  walk-clear stop (suc k) c v s =
      let p : ℕ = taken k c v in
      quiet (leb (suc k) stop) (any_bad (length (cells_at K k)) c) (eqb p 0) (walk_damaged K stop k (below K k p) (in_below k p v))
      (none-bad (length (cells_at K k)) c (λ i h. s i))
      (λ e. walk-clear stop k (below K k p) (in_below k p v) (kept-sure k (cell_no p) (names-lt (named (s _) e))))

  -- from a root that is none or names a kept cell
  module _ (D p : ℕ) (ok : OkPointer (length (cells_at K (D - 2))) p) where
    pub voxel-clear : (v : Point) → is_damaged (voxel_walk K D p v).end ≡ false
    unfolding voxel_walk
    voxel-clear v = go (eqb p 0) refl
      where
        go : (b : Bool) → eqb p 0 ≡ b → is_damaged (root_walk (kept_reading K) D (cond b none (to (tag_of p) (cell_no p))) v).end ≡ false
        go true e = refl
        go false e =
            ap is_damaged (walks_same (kept_reading K) (graph_reading K) One kept-agrees (D - 2) (cell_no p) (cell_no p) (tag_of p) v (refl, names-lt (named ok e))).ends
            ∙ graph-sound K (D - 2) (cell_no p) (tag_of p) v

    pub cell-clear : (h : ℕ) (c : Point) → cell_walk_damaged K D p h c ≡ false
    cell-clear h c =
        quiet false false (eqb p 0) (walk_damaged K (h - 2) (D - 2) (below K (D - 2) p) _) refl
        (λ e. walk-clear (h - 2) (D - 2) (below K (D - 2) p) _ (kept-sure (D - 2) (cell_no p) (names-lt (named ok e))))
