-- More room gives the same answer; or there is none under C and, with more room, some height keeps more than C cells; and lists only grow. By running
-- two capacities side by side: they answer alike until the smaller one is full, and from there the other lists are over C. Assumes nothing.
use mathlib.Core.Path.{◌≡◌, refl, sym, ◌∙◌, subst, ap₂}
use mathlib.Core.Bool.{Bool, true, false, cond}
use mathlib.Core.List.{List, [], ◌∷◌, ◌++◌, map}
use mathlib.Core.Option.{Option, some}
use mathlib.Core.Option as O
use Prim.Native.Nat.{ℕ, pred, ◌<◌, ◌≤◌}
use native.Mathlib.Decide.{dec_lt}
use native.Mathlib.Omega.{arith}
use borrow.Author.Tests.{ltb-true, ltb-false}
use lib.Dec.{ltb}
use lib.ListN.{length, set, length-set}
use lib.Seq.{set_out}
use Rattle.paper.specs.Outline.{Tree, none, leaf, node}
use Rattle.paper.specs.Store.{Cell, pointer, cells_at}
use Rattle.paper.specs.Match.{matches, find, Adding, full, added, then, or_keep, keep, add_cell, in_turn, leaf_cell, add_tree}
use Rattle.laws.proofs.Growing.{Extends, ext_refl, ext_trans, ext-length}
use Rattle.laws.proofs.Keeping.{keep-extends, keep-length}
use Rattle.laws.proofs.Adding.{Answer}
use Rattle.laws.proofs.AddingTrees.{Each, enil, econs}

-- ---- lists only grow, whatever is added

pub record Grown (K K' : List (List Cell)) : Type 0 where
  pub ext : Extends K K'
  pub len : length K' ≡ length K

pub grown-refl : (K : List (List Cell)) → Grown K K
grown-refl K = record { ext = ext_refl K; len = refl }

abbrev pub Grows : {A : Type 0} → List (List Cell) → Adding A → Type 0
Grows K x = Answer (Unit {0}) (λ a K'. Grown K K') x

grows-trans : {B : Type 0} (K L : List (List Cell)) (y : Adding B) → Grown K L → Grows L y → Grows K y
grows-trans K L full g w = tt
grows-trans K L (added b M) g w = record { ext = ext_trans g.ext w.ext; len = w.len ∙ g.len }

then_grows : {A B : Type 0} (K : List (List Cell)) (x : Adding A) (f : A → List (List Cell) → Adding B) → Grows K x → ((a : A) (L : List (List Cell)) → Grows L (f a L)) → Grows K (then x f)
then_grows K full f g h = tt
then_grows K (added a L) f g h = grows-trans K L (f a L) g (h a L)

-- past the lists nothing is kept
keep-grows : (C k : ℕ) (c : Cell) (K : List (List Cell)) → Grows K (keep C k c K)
unfolding keep
keep-grows C k c K = go (ltb (length (cells_at K k)) C) (dec_lt k (length K))
  where
    go : (b : Bool) → Dec (k < length K) → Grows K (cond b (added (pointer 0 (length (cells_at K k))) (set K k (cells_at K k ++ (c ∷ [])))) full)
    go false d = tt
    go true (yes hk) = record { ext = keep-extends K k hk c; len = length-set K k (cells_at K k ++ (c ∷ [])) }
    go true (no nk) = record { ext = subst (Extends K) (sym (set_out K k (cells_at K k ++ (c ∷ [])) (omega arith))) (ext_refl K); len = length-set K k (cells_at K k ++ (c ∷ [])) }

pub add_cell-grows : (C k : ℕ) (c : Cell) (K : List (List Cell)) → Grows K (add_cell C k c K)
unfolding add_cell
add_cell-grows C k c K = go (find (λ b t. matches K k c b t) (cells_at K k) 0)
  where
    go : (o : Option ℕ) → Grows K (or_keep o K (keep C k c K))
    go O.none = keep-grows C k c K
    go (some p) = grown-refl K

abbrev GrowsBy : ℕ → Tree → Type 0
GrowsBy C t = (k : ℕ) (K : List (List Cell)) → Grows K (add_tree C t k K)

in_turn-grows : (C : ℕ) {ts : List Tree} → Each (GrowsBy C) ts → (k : ℕ) (K : List (List Cell)) → Grows K (in_turn (map (λ t. add_tree C t k) ts) K)
unfolding in_turn
in_turn-grows C enil k K = grown-refl K
in_turn-grows C (econs {t} {ts} g gs) k K =
    then_grows K (add_tree C t k K) (λ a K'. then (in_turn (map (λ t. add_tree C t k) ts) K') (λ rs K''. added (a ∷ rs) K'')) (g k K)
    (λ a L. then_grows L (in_turn (map (λ t. add_tree C t k) ts) L) (λ rs K''. added (a ∷ rs) K'') (in_turn-grows C gs k L) (λ rs M. grown-refl M))

pub add_tree-grows : (C : ℕ) (t : Tree) → GrowsBy C t
unfolding add_tree
add_tree-grows C none k K = grown-refl K
add_tree-grows C (leaf n) k K = add_cell-grows C 0 (leaf_cell n) K
add_tree-grows C (node a b c d e f g i) k K =
    then_grows K (in_turn (map (λ t. add_tree C t (pred k)) (a ∷ b ∷ c ∷ d ∷ e ∷ f ∷ g ∷ i ∷ [])) K) (λ ps L. add_cell C k ps L)
    (in_turn-grows C (econs {t = a} (add_tree-grows C a) (econs {t = b} (add_tree-grows C b) (econs {t = c} (add_tree-grows C c) (econs {t = d} (add_tree-grows C d)
    (econs {t = e} (add_tree-grows C e) (econs {t = f} (add_tree-grows C f) (econs {t = g} (add_tree-grows C g) (econs {t = i} (add_tree-grows C i) enil)))))))) (pred k) K)
    (λ ps L. add_cell-grows C k ps L)

each-grows : (C : ℕ) (ts : List Tree) → Each (GrowsBy C) ts
each-grows C [] = enil
each-grows C (t ∷ ts) = econs (add_tree-grows C t) (each-grows C ts)

-- ---- two capacities side by side

-- some height of K keeps more than C
pub record Over (C : ℕ) (K : List (List Cell)) : Type 0 where
  pub at : ℕ
  pub more : C < length (cells_at K at)

-- the same answer; or no room under C and, where there is room, some height over C
abbrev pub Beside : {A : Type 0} → ℕ → Adding A → Adding A → Type 0
Beside C full full = Unit {0}
Beside C full (added b L) = Over C L
Beside C (added a K) full = ⊥
Beside C (added a K) (added b L) = (a ≡ b) × (K ≡ L)

after-full : {A : Type 0} (C : ℕ) (L : List (List Cell)) (y : Adding A) → Over C L → Grows L y → Beside {A = A} C full y
after-full C L full o g = tt
after-full C L (added b M) o g = record { at = o.at; more = omega (arith, ext-length g.ext o.at, o.more) }

then-beside : {A B : Type 0} (C : ℕ) (K₀ : List (List Cell)) (x y : Adding A) (f g : A → List (List Cell) → Adding B) → Beside C x y → Grows K₀ x
    → ((a : A) (K : List (List Cell)) → Grown K₀ K → Beside C (f a K) (g a K)) → ((a : A) (K : List (List Cell)) → Grows K (g a K)) → Beside C (then x f) (then y g)
then-beside C K₀ full full f g r gx h w = tt
then-beside C K₀ full (added b L) f g r gx h w = after-full C L (g b L) r (w b L)
then-beside C K₀ (added a K) full f g r gx h w = absurd r
then-beside {A} {B} C K₀ (added a K) (added b L) f g r gx h w = subst (λ (y : Adding B). Beside C (f a K) y) (ap₂ g r.0 r.1) (h a K gx)

module _ (C C' : ℕ) (h : C ≤ C') where
  keep-beside : (k : ℕ) (c : Cell) (K : List (List Cell)) → k < length K → Beside C (keep C k c K) (keep C' k c K)
  unfolding keep
  keep-beside k c K hk = go (ltb (length (cells_at K k)) C) refl (ltb (length (cells_at K k)) C') refl
    where
      R : Adding ℕ
      R = added (pointer 0 (length (cells_at K k))) (set K k (cells_at K k ++ (c ∷ [])))

      go : (a : Bool) → ltb (length (cells_at K k)) C ≡ a → (b : Bool) → ltb (length (cells_at K k)) C' ≡ b → Beside C (cond a R full) (cond b R full)
      go true e true q = (refl, refl)
      go true e false q = absurd (omega (arith, ltb-true (length (cells_at K k)) C e, ltb-false (length (cells_at K k)) C' q))
      go false e true q = record { at = k; more = omega (arith, keep-length K k hk c, ltb-false (length (cells_at K k)) C e) }
      go false e false q = tt

  pub add_cell-beside : (k : ℕ) (c : Cell) (K : List (List Cell)) → k < length K → Beside C (add_cell C k c K) (add_cell C' k c K)
  unfolding add_cell
  add_cell-beside k c K hk = go (find (λ b t. matches K k c b t) (cells_at K k) 0)
    where
      go : (o : Option ℕ) → Beside C (or_keep o K (keep C k c K)) (or_keep o K (keep C' k c K))
      go O.none = keep-beside k c K hk
      go (some p) = (refl, refl)

  abbrev BesideBy : ℕ → Tree → Type 0
  BesideBy n t = (k : ℕ) → k < n → (K : List (List Cell)) → length K ≡ n → Beside C (add_tree C t k K) (add_tree C' t k K)

  in_turn-beside : (n k : ℕ) → k < n → {ts : List Tree} → Each (BesideBy n) ts → (K : List (List Cell)) → length K ≡ n
      → Beside C (in_turn (map (λ t. add_tree C t k) ts) K) (in_turn (map (λ t. add_tree C' t k) ts) K)
  unfolding in_turn
  in_turn-beside n k hk enil K e = (refl, refl)
  in_turn-beside n k hk (econs {t} {ts} r rs) K e =
      let F : List (List Cell) → Adding (List ℕ) = in_turn (map (λ t. add_tree C t k) ts) in
      let G : List (List Cell) → Adding (List ℕ) = in_turn (map (λ t. add_tree C' t k) ts) in
      then-beside C K (add_tree C t k K) (add_tree C' t k K) (λ a K'. then (F K') (λ rs K''. added (a ∷ rs) K'')) (λ a K'. then (G K') (λ rs K''. added (a ∷ rs) K''))
      (r k hk K e) (add_tree-grows C t k K)
      (λ a L w. then-beside C L (F L) (G L) (λ rs K''. added (a ∷ rs) K'') (λ rs K''. added (a ∷ rs) K'') (in_turn-beside n k hk rs L (w.len ∙ e))
      (in_turn-grows C (each-grows C ts) k L) (λ rs M z. (refl, refl)) (λ rs M. grown-refl M))
      (λ a L. then_grows L (G L) (λ rs K''. added (a ∷ rs) K'') (in_turn-grows C' (each-grows C' ts) k L) (λ rs M. grown-refl M))

  node-beside : (n : ℕ) (a b c d e f g i : Tree) → Each (BesideBy n) (a ∷ b ∷ c ∷ d ∷ e ∷ f ∷ g ∷ i ∷ []) → BesideBy n (node a b c d e f g i)
  unfolding add_tree
  node-beside n a b c d e f g i es k hk K q =
      let ts : List Tree = a ∷ b ∷ c ∷ d ∷ e ∷ f ∷ g ∷ i ∷ [] in
      then-beside C K (in_turn (map (λ t. add_tree C t (pred k)) ts) K) (in_turn (map (λ t. add_tree C' t (pred k)) ts) K) (λ ps L. add_cell C k ps L) (λ ps L. add_cell C' k ps L)
      (in_turn-beside n (pred k) (omega arith) es K q) (in_turn-grows C (each-grows C ts) (pred k) K)
      (λ ps L w. add_cell-beside k ps L (omega (arith, w.len))) (λ ps L. add_cell-grows C' k ps L)

  beside : (n : ℕ) (t : Tree) → BesideBy n t
  unfolding add_tree
  beside n none k hk K q = (refl, refl)
  beside n (leaf v) k hk K q = add_cell-beside 0 (leaf_cell v) K (omega arith)
  beside n (node a b c d e f g i) k hk K q =
      node-beside n a b c d e f g i (econs {t = a} (beside n a) (econs {t = b} (beside n b) (econs {t = c} (beside n c) (econs {t = d} (beside n d)
      (econs {t = e} (beside n e) (econs {t = f} (beside n f) (econs {t = g} (beside n g) (econs {t = i} (beside n i) enil)))))))) k hk K q

  -- more room gives the same answer, or none is given under C and some height goes over C
  pub more_room : (t : Tree) (k : ℕ) (K : List (List Cell)) → k < length K → Beside C (add_tree C t k K) (add_tree C' t k K)
  more_room t k K hk = beside (length K) t k hk K refl
