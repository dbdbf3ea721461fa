-- A cell taken into the words of a store, with its count, stands as the paper's adding of it: found, kept, or its height is full; a leaf by its mirror
-- images, a cell of pointers by the symmetries of the cells that they name. By the three cases of seeking and keeping. Assumes nothing.
use mathlib.Core.Path.{◌≡◌, refl, sym, ◌∙◌, ap, ap₂, subst}
use mathlib.Core.Bool.{Bool, true, false, cond}
use mathlib.Core.List.{List, [], ◌∷◌, ◌++◌}
use mathlib.Core.Option.{Option, some}
use mathlib.Core.Option as O
use Prim.Native.Nat.{ℕ, suc, ◌^◌, ◌<◌, ◌≤◌}
use native.Mathlib.Omega.{arith}
use lib.Dec.{eqb, leb, ltb, leb→le, lit<}
use lib.ListN.{length, drop, set}
use borrow.Author.Tests.{ltb-true, ne_eqb}
use Rattle.paper.specs.Leaf.{mirror_leaf}
use Rattle.paper.specs.Store.{Cell, cells_at, cell_at, cell_no, pointer, most_capacity, heights, cell_length, leaf_solid, solid_of, chain_of, row_of}
use Rattle.paper.specs.Meaning.{cell_voxel}
use Rattle.paper.specs.Match.{Adding, full, added, or_keep, matches, find, keep, add_cell, leaf_cell}
use Rattle.laws.proofs.Tests.{and_right}
use Rattle.laws.proofs.Invariant.{OkCell}
use Rattle.laws.specs.Symmetries.{symmetry_of, symmetry_for, symmetry_match, ChildSymmetries}
use Rattle.laws.proofs.Symmetries.{symmetry-children}
use Rattle.laws.proofs.Seeking.{Sought, find-is}
use Rattle.laws.proofs.Adding.{Answer, Done, Refused, add_cell-done, add_cell-symmetry}
use Rattle.laws.proofs.Occurring.{Occurs}
use Rattle.laws.proofs.Counts.{add_cell-solid}
use Rattle.laws.proofs.AddingTrees.{leaf-words}
use Rattle.laws.proofs.Capacity.{grown-refl}
use Rattle.add_cells.specs.CellAdding.{CellAdding, cell_added, cell_full, kept_behind, kept_with, found_or, add_leaf_in, add_cell_in}
use Rattle.add_seek.proofs.SymmetryImage.{leaf-symmetry-of}
use Rattle.add_seek.proofs.FindSymmetries.{find-symmetries}
use Rattle.add_records.specs.RecordAdding.{ending_at}
use Rattle.add_records.proofs.Settings.{Setting, words_with, Fitting, Good}
use Rattle.add_records.proofs.SettingWords.{capacity-is, count-is, lists-are, more-fit, more-words}
use Rattle.add_records.proofs.Standing.{share, Stands}

-- a pointer that is not 0 adds what its cell has
share-some : (K : List (List Cell)) (k p : ℕ) → (p ≡ 0 → ⊥) → share K k p ≡ solid_of K k (cell_at K k (cell_no p))
share-some K k p ne = ap (λ (b : Bool). cond b 0 (solid_of K k (cell_at K k (cell_no p)))) (ne_eqb p 0 ne)

module _ (g : Setting) (K : List (List Cell)) (good : Good g K) (at : ℕ) (within : at ≤ length g.file) where
  abbrev C : ℕ
  C = g.capacity

  abbrev ws : List ℕ
  ws = words_with g K

  few : C ≤ most_capacity
  few = leb→le C most_capacity (and_right (leb 1 C) (leb C most_capacity) g.capacity_ok_lem)

  -- ---- any cell that may be kept in list k, with its symmetry

  module _ (k : ℕ) (hk : k < heights) (c : Cell) (sized : length c ≡ cell_length k) (okc : OkCell K k c) (symmetry : ℕ) (masked : symmetry ≡ symmetry_of K k c) where
    abbrev Right : Adding ℕ → Type 0
    Right a = Answer (Refused ⊥ C K (Occurs (cell_voxel K k c) k)) (Done ⊥ C K k (cell_voxel K k c)) a

    abbrev Masked : Adding ℕ → Type 0
    Masked a = Answer (Unit {0}) (λ p K'. symmetry_of K' k (cell_at K' k (cell_no p)) ≡ symmetry_of K k c) a

    abbrev Counted : Adding ℕ → Type 0
    Counted a = Answer (Unit {0}) (λ p K'. solid_of K' k (cell_at K' k (cell_no p)) ≡ solid_of K k c) a

    abbrev row : List ℕ
    row = row_of K k c

    abbrev Standing : Adding ℕ → CellAdding → Type 0
    Standing a x = Stands g K k (drop at g.file) a (ending_at at (solid_of K k c) x)

    in-lists : k < length K
    in-lists = omega (arith, good.fine.lists)

    right : Right (add_cell C k c K)
    right = add_cell-done C few K good.sound k in-lists c okc ⊥ (λ z. absurd z) (λ z. absurd z) (λ z. absurd z)

    taken : (p : ℕ) (K' : List (List Cell)) (u : List ℕ) → Fitting g K' → u ≡ words_with g K' → (p ≡ 0 → ⊥) → Right (added p K') → Masked (added p K') → Counted (added p K')
        → Standing (added p K') (cell_added p symmetry u)
    unfolding ending_at
    taken p K' u f e ne d m s = record {
      same = refl;
      words = e;
      good = record { sound = d.sound; fine = f };
      grown = record { ext = d.ext; len = d.len };
      okp = d.okp;
      symmetry = λ z. masked ∙ sym m;
      solid = sym (share-some K' k p ne ∙ s);
      ends = refl;
      within = within;
    }

    -- kept, by the words: its list's count against the capacity
    abbrev kept_or : Bool → CellAdding
    kept_or b = cond b (cell_added (pointer 0 (length (cells_at K k))) symmetry (kept_behind k (chain_of k c) row ws)) (cell_full ws)

    kept-words : kept_with symmetry k (chain_of k c) row ws ≡ kept_or (ltb (length (cells_at K k)) C)
    unfolding kept_with
    kept-words =
        ap₂ (λ (n D : ℕ). cond (ltb n D) (cell_added (pointer 0 n) symmetry (kept_behind k (chain_of k c) row ws)) (cell_full ws))
        (count-is g K good.fine k hk) (capacity-is g K good.fine)

    kept-stands : Right (keep C k c K) → Masked (keep C k c K) → Counted (keep C k c K) → Standing (keep C k c K) (kept_or (ltb (length (cells_at K k)) C))
    unfolding keep ending_at
    kept-stands = go (ltb (length (cells_at K k)) C) refl
      where
        more : Adding ℕ
        more = added (pointer 0 (length (cells_at K k))) (set K k (cells_at K k ++ (c ∷ [])))

        go : (b : Bool) → ltb (length (cells_at K k)) C ≡ b → Right (cond b more full) → Masked (cond b more full) → Counted (cond b more full) → Standing (cond b more full) (kept_or b)
        go true e d m s =
            let room : length (cells_at K k) < C = ltb-true (length (cells_at K k)) C e in
            taken _ _ _ (more-fit g K good.fine k hk c sized room) (more-words g K good.fine k hk c sized room good.sound.ok okc) (λ z. omega arith) d m s
        go false e d m s = record { lists = K; fine = good.fine; grown = grown-refl K; words = refl }

    cell-stands : Standing (add_cell C k c K) (found_or (find (λ b t. matches K k c b t) (cells_at K k) 0) symmetry k (chain_of k c) row ws)
    unfolding add_cell found_or
    cell-stands =
        go (find (λ b t. matches K k c b t) (cells_at K k) 0) (find-is (λ b t. matches K k c b t) (cells_at K k) 0) right (add_cell-symmetry C few K good.sound k in-lists c okc)
        (add_cell-solid C few K good.sound k in-lists c okc)
      where
        go : (o : Option ℕ) → Sought (λ b t. matches K k c b t) (cells_at K k) 0 o → Right (or_keep o K (keep C k c K)) → Masked (or_keep o K (keep C k c K))
            → Counted (or_keep o K (keep C k c K)) → Standing (or_keep o K (keep C k c K)) (found_or o symmetry k (chain_of k c) row ws)
        go O.none f d m s = rw kept-words (kept-stands d m s)
        go (some p) f d m s = taken p K ws good.fine refl (λ z. omega (arith, f.is, z)) d m s

  -- ---- the two kinds

  pub leaf-stands : (n : ℕ) → n < 2 ^ 64 → Stands g K 0 (drop at g.file) (add_cell C 0 (leaf_cell n) K) (ending_at at (leaf_solid n) (add_leaf_in n ws))
  unfolding add_leaf_in solid_of
  leaf-stands n hn =
      rw (lists-are g K good.fine)
      (subst (λ (m : ℕ). Stands g K 0 (drop at g.file) (add_cell C 0 (leaf_cell n) K)
      (ending_at at m (found_or (find (λ b t. matches K 0 (leaf_cell n) b t) (cells_at K 0) 0) (symmetry_for (λ t. eqb n (mirror_leaf t n))) 0 (chain_of 0 (leaf_cell n)) (leaf_cell n) ws)))
      (ap leaf_solid (leaf-words n))
      (cell-stands 0 (lit< tt) (leaf_cell n) refl (rw (leaf-words n) hn) (symmetry_for (λ t. eqb n (mirror_leaf t n))) (leaf-symmetry-of K n)))

  pub inner-stands : (k : ℕ) → suc k < heights → (c ms : List ℕ) (v : ℕ) → length c ≡ 8 → OkCell K (suc k) c → ChildSymmetries K k c ms → v ≡ solid_of K (suc k) c
      → Stands g K (suc k) (drop at g.file) (add_cell C (suc k) c K) (ending_at at v (add_cell_in (suc k) c ms v ws))
  unfolding add_cell_in
  inner-stands k hk c ms v sized okc known counted =
      rw (counted, lists-are g K good.fine, find-symmetries K k c ms known)
      (cell-stands (suc k) hk c sized okc (symmetry_for (symmetry_match ms c c)) (symmetry-children K k c ms known))
