-- The paper's adding of a cell's children in turn, behind the pointers so far: one child more that was added, or that was full. By what `then` makes of
-- either answer. Assumes nothing.
use mathlib.Core.Path.{◌≡◌, refl, sym, ap, subst}
use mathlib.Core.List.{List, [], ◌∷◌, ◌++◌, map, append_assoc}
use Prim.Native.Nat.{ℕ, suc}
use Rattle.paper.specs.Outline.{Tree, Read, bad, ok, before}
use Rattle.paper.specs.Store.{Cell}
use Rattle.paper.specs.Match.{Adding, full, added, then, add_cell, in_turn, add_tree}
use Rattle.laws.proofs.Capacity.{Grown}
use Rattle.add_records.specs.RecordAdding.{RecordAdding, record_full}
use Rattle.add_records.proofs.Settings.{Setting}
use Rattle.add_records.proofs.Standing.{Stopped, Stands, After, since}

module _ (g : Setting) (k : ℕ) where
  abbrev C : ℕ
  C = g.capacity

  -- the trees added in turn behind the pointers so far, and the cell of all
  abbrev pub adds : List (List Cell) → List ℕ → List Tree → Adding ℕ
  adds K ps ts = then (in_turn (map (λ t. add_tree C t k) ts) K) (λ qs K'. add_cell C (suc k) (ps ++ qs) K')

  module _ (K : List (List Cell)) (ps : List ℕ) (t : Tree) where
    then-cons : (p : ℕ) (a : Adding (List ℕ))
        → then a (λ qs K'. add_cell C (suc k) ((ps ++ (p ∷ [])) ++ qs) K') ≡ then (then a (λ qs K'. added (p ∷ qs) K')) (λ qs K'. add_cell C (suc k) (ps ++ qs) K')
    then-cons p full = refl
    then-cons p (added qs K') = ap (λ (c : Cell). add_cell C (suc k) c K') (append_assoc ps (p ∷ []) qs)

    adds-cons : (p : ℕ) (K' : List (List Cell)) (ts : List Tree) → add_tree C t k K ≡ added p K' → adds K' (ps ++ (p ∷ [])) ts ≡ adds K ps (t ∷ ts)
    unfolding in_turn
    adds-cons p K' ts e = rw e (then-cons p (in_turn (map (λ u. add_tree C u k) ts) K'))

    adds-full : (ts : List Tree) → add_tree C t k K ≡ full → adds K ps (t ∷ ts) ≡ full
    unfolding in_turn
    adds-full ts e = rw e

    -- one tree more was read
    pub one_more : (p : ℕ) (K' : List (List Cell)) → add_tree C t k K ≡ added p K' → Grown K K' → (r : Read (List Tree)) (o : RecordAdding)
        → After g K' (suc k) r (adds K' (ps ++ (p ∷ []))) o → After g K (suc k) (before t r) (adds K ps) o
    one_more p K' e d bad o h = tt
    one_more p K' e d (ok ts bs) o h = since g (suc k) bs (adds K ps (t ∷ ts)) o d (subst (λ (a : Adding ℕ). Stands g K' (suc k) bs a o) (adds-cons p K' ts e) h)

    pub none_more : (u : List ℕ) → add_tree C t k K ≡ full → Stopped g K u → (r : Read (List Tree)) → After g K (suc k) (before t r) (adds K ps) (record_full u)
    none_more u e s bad = tt
    none_more u e s (ok ts bs) = subst (λ (a : Adding ℕ). Stands g K (suc k) bs a (record_full u)) (sym (adds-full ts e)) s
