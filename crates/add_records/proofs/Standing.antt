-- What it means that taking a record into the words of a store answers as the paper's adding of a tree does: the same pointer, the solid voxels of the cell
-- that it names, and the words of the lists after; where it is full, words of lists that have only grown. It still holds where the lists had grown before. Assumes nothing.
use mathlib.Core.Path.{◌≡◌, ◌∙◌}
use mathlib.Core.Bool.{cond}
use mathlib.Core.List.{List}
use Prim.Native.Nat.{ℕ, ◌≤◌}
use lib.Dec.{eqb}
use lib.ListN.{length, drop}
use Rattle.paper.specs.Outline.{Read, bad, ok}
use Rattle.paper.specs.Store.{Cell, cells_at, cell_at, cell_no, solid_of}
use Rattle.paper.specs.Match.{Adding, full, added}
use Rattle.laws.specs.Symmetries.{symmetry_of}
use Rattle.laws.proofs.Invariant.{OkPointer}
use Rattle.laws.proofs.Growing.{ext_trans}
use Rattle.laws.proofs.Capacity.{Grown}
use Rattle.add_records.specs.RecordAdding.{RecordAdding, record_added, record_full}
use Rattle.add_records.proofs.Settings.{Setting, words_with, Fitting, Good}

-- what a pointer of list k adds to the solid voxels of a cell: those of the cell that it names
abbrev pub share : List (List Cell) → ℕ → ℕ → ℕ
share K k p = cond (eqb p 0) 0 (solid_of K k (cell_at K k (cell_no p)))

module _ (g : Setting) where
  -- full: the words are those of lists that have grown
  pub record Stopped (K : List (List Cell)) (u : List ℕ) : Type 0 where
    pub lists : List (List Cell)
    pub fine : Fitting g lists
    pub grown : Grown K lists
    pub words : u ≡ words_with g lists

  -- added: the pointer and the lists that adding gives, the symmetry of the cell that the pointer names and its solid voxels, and the position of the
  -- bytes that follow
  pub record Took (K : List (List Cell)) (k p : ℕ) (K' : List (List Cell)) (rest : List ℕ) (next q m v : ℕ) (u : List ℕ) : Type 0 where
    pub same : q ≡ p
    pub words : u ≡ words_with g K'
    pub good : Good g K'
    pub grown : Grown K K'
    pub okp : OkPointer (length (cells_at K' k)) p
    pub symmetry : (p ≡ 0 → ⊥) → m ≡ symmetry_of K' k (cell_at K' k (cell_no p))
    pub solid : v ≡ share K' k p
    pub ends : rest ≡ drop next g.file
    pub within : next ≤ length g.file

  -- adding and taking answer alike
  abbrev pub Stands : List (List Cell) → ℕ → List ℕ → Adding ℕ → RecordAdding → Type 0
  Stands K k rest full (record_full u) = Stopped K u
  Stands K k rest full (record_added next q m v u) = ⊥
  Stands K k rest (added p K') (record_full u) = ⊥
  Stands K k rest (added p K') (record_added next q m v u) = Took K k p K' rest next q m v u

  -- of whatever is read
  abbrev pub After : {A : Type 0} → List (List Cell) → ℕ → Read A → (A → Adding ℕ) → RecordAdding → Type 0
  After K k bad f o = Unit {0}
  After K k (ok a bs) f o = Stands K k bs (f a) o

  -- ---- grown before

  grown-both : {K K' K'' : List (List Cell)} → Grown K K' → Grown K' K'' → Grown K K''
  grown-both d e = record { ext = ext_trans d.ext e.ext; len = e.len ∙ d.len }

  pub since : {K K' : List (List Cell)} (k : ℕ) (rest : List ℕ) (a : Adding ℕ) (o : RecordAdding) → Grown K K' → Stands K' k rest a o → Stands K k rest a o
  since k rest full (record_full u) d s = record { lists = s.lists; fine = s.fine; grown = grown-both d s.grown; words = s.words }
  since k rest full (record_added next q m v u) d s = s
  since k rest (added p K'') (record_full u) d s = s
  since k rest (added p K'') (record_added next q m v u) d s = record {
    same = s.same;
    words = s.words;
    good = s.good;
    grown = grown-both d s.grown;
    okp = s.okp;
    symmetry = s.symmetry;
    solid = s.solid;
    ends = s.ends;
    within = s.within;
  }
