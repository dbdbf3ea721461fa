-- The children of a cell taken in turn stand as the paper's adding of their trees, if records one height down do. By induction on the children left: one
-- that is read and taken, one at which a height is full, one that is none; and the cell of all eight. Assumes nothing.
use mathlib.Core.Path.{◌≡◌, refl, ap, subst, ◌∙◌}
use mathlib.Core.Bool.{Bool, true, false, cond}
use mathlib.Core.List.{List, [], ◌∷◌, ◌++◌, append-nil}
use Prim.Native.Nat.{ℕ, zero, suc, ◌+◌, ◌-◌, ◌/◌, ◌%◌, ◌<◌, ◌≤◌}
use native.Mathlib.Nat.{add-zero}
use native.Mathlib.Omega.{arith}
use lib.Dec.{eqb}
use lib.ListN.{length, drop, get_or, set, replicate}
use Rattle.paper.specs.Numbers.{sum}
use Rattle.paper.specs.Outline.{Tree, none, Read, bad, ok, bind, before, read_children, read_record}
use Rattle.paper.specs.Store.{Cell, heights, over_children, solid_of}
use Rattle.paper.specs.Match.{Adding, full, added, add_cell, in_turn, add_tree}
use Rattle.laws.proofs.Capacity.{Grown, grown-refl}
use Rattle.add_cells.specs.CellAdding.{add_cell_in}
use Rattle.add_records.specs.RecordAdding.{RecordAdding, record_added, record_full, ending_at, then_add, add_children, add_record}
use Rattle.add_records.proofs.Settings.{Setting, words_with, Good}
use Rattle.add_records.proofs.Standing.{share, Took, Stands, After}
use Rattle.add_records.proofs.CellStanding.{inner-stands}
use Rattle.add_records.proofs.KnownChildren.{Named, shares, Known, snoc-length, known_more, named_none, next-set, next-zero}
use Rattle.add_records.proofs.TreesInTurn.{adds, one_more, none_more}

-- a record of list k at a position stands, whatever the lists
abbrev pub Records : Setting → ℕ → Type 0
Records g k = (at : ℕ) (K : List (List Cell)) → at ≤ length g.file → Good g K
    → After g K k (read_record k (drop at g.file)) (λ t. add_tree g.capacity t k K) (add_record g.file k at (words_with g K))

module _ (g : Setting) (k : ℕ) (hk : suc k < heights) (right : Records g k) where
  -- ps and ms are those of the children so far, v their solid voxels, and n are left, from position `at` on
  pub record Left (K : List (List Cell)) (n at : ℕ) (ps ms : List ℕ) (v : ℕ) : Type 0 where
    pub within : at ≤ length g.file
    pub good : Good g K
    pub eight : length ps + n ≡ 8
    pub known : Known k K ps ms v

  -- the children left, as the paper reads them, and as they are taken with the cell, the symmetries and the solid voxels so far
  abbrev reading : ℕ → ℕ → List ℕ → Read (List Tree)
  reading n m bs = read_children (read_record k) n m bs

  abbrev taking : ℕ → ℕ → ℕ → List ℕ → List ℕ → ℕ → List ℕ → RecordAdding
  taking n m at c cs v ws = add_children (add_record g.file k) (suc k) n m at c cs v ws

  abbrev Children : ℕ → ℕ → Type 0
  Children n m = (at : ℕ) (K : List (List Cell)) (ps ms : List ℕ) (v : ℕ) → Left K n at ps ms v
      → After g K (suc k) (reading n m (drop at g.file)) (adds g k K ps) (taking n m at (ps ++ replicate n 0) (ms ++ replicate n 0) v (words_with g K))

  -- ---- one child, n being left behind it

  module _ (n m : ℕ) (ih : Children n m) (at : ℕ) (K : List (List Cell)) (ps ms : List ℕ) (v : ℕ) (left : Left K (suc n) at ps ms v) where
    -- with one child more
    more : {K' : List (List Cell)} → Grown K K' → Good g K' → (next p s u : ℕ) → next ≤ length g.file → Named k K' p s → u ≡ share K' k p
        → Left K' n next (ps ++ (p ∷ [])) (ms ++ (s ∷ [])) (v + u)
    more d good next p s u w named e = record {
      within = w;
      good = good;
      eight = omega (arith, snoc-length ps p, left.eight);
      known = known_more k K left.good.sound d ps ms v left.known p s u named e;
    }

    -- what is taken behind it
    abbrev go_on : ℕ → ℕ → ℕ → ℕ → List ℕ → RecordAdding
    go_on next p s u ws = taking n m next (set (ps ++ replicate (suc n) 0) (7 - n) p) (set (ms ++ replicate (suc n) 0) (7 - n) s) (v + u) ws

    -- its record was taken
    taken_next : (t : Tree) (bs : List ℕ) (p : ℕ) (K' : List (List Cell)) → add_tree g.capacity t k K ≡ added p K' → (next q s u : ℕ) (ws : List ℕ) → Took g K k p K' bs next q s u ws
        → After g K (suc k) (before t (reading n m bs)) (adds g k K ps) (go_on next q s u ws)
    taken_next t bs p K' e next q s u ws w =
        let l = more w.grown w.good next p s u w.within (record { okay = w.okp; symmetry = w.symmetry }) w.solid in
        one_more g k K ps t p K' e w.grown (reading n m bs) (go_on next q s u ws)
        (rw (w.ends, w.same, w.words, next-set ps n p left.eight, next-set ms n s (omega (arith, left.eight, left.known.many)))
        (ih next K' (ps ++ (p ∷ [])) (ms ++ (s ∷ [])) (v + u) l))

    child-after : (t : Tree) (bs : List ℕ) (a : Adding ℕ) → add_tree g.capacity t k K ≡ a → (o : RecordAdding) → Stands g K k bs a o
        → After g K (suc k) (before t (reading n m bs)) (adds g k K ps) (then_add o go_on)
    unfolding then_add
    child-after t bs full e (record_full u) s = none_more g k K ps t u e s (reading n m bs)
    child-after t bs full e (record_added next q i n' u) s = absurd s
    child-after t bs (added p K') e (record_full u) s = absurd s
    child-after t bs (added p K') e (record_added next q i n' u) s = taken_next t bs p K' e next q i n' u s

    here-after : (r : Read Tree) (o : RecordAdding) → After g K k r (λ t. add_tree g.capacity t k K) o
        → After g K (suc k) (bind r (λ t bs. before t (reading n m bs))) (adds g k K ps) (then_add o go_on)
    here-after bad o h = tt
    here-after (ok t bs) o h = child-after t bs (add_tree g.capacity t k K) refl o h

    -- it is none
    skip-after : After g K (suc k) (before none (reading n m (drop at g.file))) (adds g k K ps) (taking n m at (ps ++ replicate (suc n) 0) (ms ++ replicate (suc n) 0) v (words_with g K))
    unfolding add_tree
    skip-after =
        one_more g k K ps none 0 K refl (grown-refl K) (reading n m (drop at g.file)) _
        (rw (next-zero ps n, next-zero ms n)
        (ih at K (ps ++ (0 ∷ [])) (ms ++ (0 ∷ [])) v
        (subst (Left K n at (ps ++ (0 ∷ [])) (ms ++ (0 ∷ []))) (add-zero v) (more (grown-refl K) left.good at 0 0 0 left.within (named_none k K) refl))))

  -- ---- all of them

  -- the eight children's solid voxels are the cell's
  all-solid : (K : List (List Cell)) (ps : List ℕ) → length ps ≡ 8 → shares K k ps ≡ solid_of K (suc k) ps
  unfolding solid_of over_children
  all-solid K ps e = ap (λ (n : ℕ). sum n (λ i. share K k (get_or ps i 0))) e

  last-stands : (at : ℕ) (K : List (List Cell)) (ps ms : List ℕ) (v : ℕ) → Left K 0 at ps ms v
      → Stands g K (suc k) (drop at g.file) (add_cell g.capacity (suc k) (ps ++ []) K) (ending_at at v (add_cell_in (suc k) (ps ++ []) (ms ++ []) v (words_with g K)))
  last-stands at K ps ms v l =
      let all : length ps ≡ 8 = omega (arith, l.eight) in
      rw (append-nil ps, append-nil ms)
      (inner-stands g K l.good at l.within k hk ps ms v all (λ i h. (l.known.each i (omega arith)).okay) (λ i h. (l.known.each i (omega arith)).symmetry) (l.known.solid ∙ all-solid K ps all))

  pub children-stand : (n m : ℕ) → Children n m
  unfolding read_children add_children in_turn
  children-stand zero m at K ps ms v l = last-stands at K ps ms v l
  children-stand (suc n) m at K ps ms v l = go (eqb (m % 2) 1) (children-stand n (m / 2))
    where
      go : (b : Bool) → Children n (m / 2)
          → After g K (suc k)
          (cond b (bind (read_record k (drop at g.file)) (λ t bs. before t (reading n (m / 2) bs))) (before none (reading n (m / 2) (drop at g.file))))
          (adds g k K ps)
          (cond b (then_add (add_record g.file k at (words_with g K)) (λ next p s u ws. taking n (m / 2) next (set (ps ++ replicate (suc n) 0) (7 - n) p) (set (ms ++ replicate (suc n) 0) (7 - n) s) (v + u) ws))
          (taking n (m / 2) at (ps ++ replicate (suc n) 0) (ms ++ replicate (suc n) 0) v (words_with g K)))
      go true ih = here-after n (m / 2) ih at K ps ms v l (read_record k (drop at g.file)) (add_record g.file k at (words_with g K)) (right at K l.within l.good)
      go false ih = skip-after n (m / 2) ih at K ps ms v l
