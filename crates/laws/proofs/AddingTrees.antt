-- Adding a well formed tree to any lists whose cells are ok: the root's pointer stands for the tree's voxels, kept cells stay, new ones occur in
-- the tree, the invariant is kept. By induction on the tree: its children's pointers stay right while the lists grow. Assumes nothing.
use mathlib.Core.Path.{◌≡◌, refl, sym, ◌∙◌, ap}
use mathlib.Core.List.{List, [], ◌∷◌, map}
use mathlib.Core.Logic.{inl}
use Prim.Native.Nat.{ℕ, zero, suc, ◌/◌, ◌%◌, ◌^◌, ◌<◌, ◌≤◌}
use native.Mathlib.Nat.{not-suc-le-zero, le_of_suc-le-suc}
use native.Mathlib.Omega.{arith}
use lib.ListN.{get_or, length}
use Rattle.paper.specs.Rooms.{Room, Same, NonEmpty}
use Rattle.paper.specs.Leaf.{leaf_voxel}
use Rattle.paper.specs.Outline.{edge, Tree, none, leaf, node, tree_voxel}
use Rattle.paper.specs.Store.{Cell, leaf_no, cells_at, most_capacity}
use Rattle.paper.specs.Meaning.{pointer_voxel, cell_voxel}
use Rattle.paper.specs.Match.{add_cell, in_turn, leaf_cell, add_tree}
use Rattle.laws.proofs.Leaves.{leaf_solid_lem}
use Rattle.laws.proofs.Trees.{Good, gnone, gleaf, gnode, node≢none, pick-get_or, node-child, node-from, solid-some}
use Rattle.laws.proofs.Invariant.{OkPointer, OkCells, LowTag, cell-child}
use Rattle.laws.proofs.Occurring.{Occurs, occurs-as, occurs-in, occurs-up}
use Rattle.laws.proofs.Growing.{Extends, ext_refl, ext_trans, ext-pointer, ext-means, ext_low}
use Rattle.laws.proofs.Adding.{Answer, then-answer, map-answer, Sound, Invs, ByVoxels, Fresh, fresh-trans, fresh-none, Done, Refused, refused-map, refused-after, add_cell-done}

-- a rule of each tree of a list
pub data Each (P : Tree → Type 0) : List Tree → Type 0 where
  enil : Each P []
  econs : {t : Tree} {ts : List Tree} → P t → Each P ts → Each P (t ∷ ts)

pub occurs-by : (f : Room) (k : ℕ) → ByVoxels (Occurs f k)
occurs-by f k j r s e o = occurs-as r s e o

-- a Done after another step, and of another room with the same voxels
done-after : {A : Type 0} {C : ℕ} {K K' K'' : List (List Cell)} {k p : ℕ} (f g : Room) → OkCells K' → Extends K K' → length K' ≡ length K
    → Fresh K K' (Occurs g k) → Same (edge k) f g → Done A C K' k f p K'' → Done A C K k g p K''
done-after {K = K} {k = k} f g ok x e old h d = record {
  sound = d.sound;
  ext = ext_trans x d.ext;
  len = d.len ∙ e;
  okp = d.okp;
  means = λ v l. d.means v l ∙ h v l;
  fresh = fresh-trans K (Occurs g k) (occurs-by g k) ok d.ext old (λ j q m n. occurs-in f g (λ v l. sym (h v l)) (d.fresh j q m n));
  invs = d.invs;
  low = d.low;
}

-- a refusal after another step, and of another room with the same voxels
refused-late : {A : Type 0} {C : ℕ} {K K' : List (List Cell)} {k : ℕ} (f g : Room) → OkCells K' → Extends K K'
    → Fresh K K' (Occurs g k) → Same (edge k) f g → Refused A C K' (Occurs f k) → Refused A C K (Occurs g k)
refused-late {k = k} f g ok x old h n =
    refused-after (Occurs g k) (occurs-by g k) ok x old (refused-map (Occurs f k) (Occurs g k) (λ j r o. occurs-in f g (λ v l. sym (h v l)) o) n)

-- a leaf's two words
pub leaf-words : (n : ℕ) → leaf_no (leaf_cell n) ≡ n
leaf-words n = omega arith

-- A is what the invariant of the first lists is known under
module _ (A : Type 0) (C : ℕ) (hC : C ≤ most_capacity) where
  -- adding t at list m is done right, whatever the lists
  abbrev pub Adds : ℕ → Tree → Type 0
  Adds m t = (K : List (List Cell)) → Sound C K → (A → Invs K) → m < length K
      → Answer (Refused A C K (Occurs (tree_voxel t (suc (suc m))) m)) (Done A C K m (tree_voxel t (suc (suc m)))) (add_tree C t m K)

  -- ---- the children one after the other

  -- a cell of one of these trees
  abbrev Among : ℕ → List Tree → ℕ → Room → Type 0
  Among m ts j r = (i : ℕ) × (i < length ts) × Occurs (tree_voxel (get_or ts i none) (suc (suc m))) m j r

  among-by : (m : ℕ) (ts : List Tree) → ByVoxels (Among m ts)
  among-by m ts j r s e o = (o.0, o.1, occurs-as r s e o.2)

  among_first : (m : ℕ) (t : Tree) (ts : List Tree) (j : ℕ) (r : Room) → Occurs (tree_voxel t (suc (suc m))) m j r → Among m (t ∷ ts) j r
  among_first m t ts j r o = (0, omega arith, o)

  among-rest : (m : ℕ) (t : Tree) (ts : List Tree) (j : ℕ) (r : Room) → Among m ts j r → Among m (t ∷ ts) j r
  among-rest m t ts j r o = (suc o.0, omega (arith, o.1), o.2)

  record Ran (K : List (List Cell)) (m : ℕ) (ts : List Tree) (ps : List ℕ) (K' : List (List Cell)) : Type 0 where
    sound : Sound C K'
    ext : Extends K K'
    len : length K' ≡ length K
    many : length ps ≡ length ts
    okps : (i : ℕ) → i < length ts → OkPointer (length (cells_at K' m)) (get_or ps i 0)
    means : (i : ℕ) → i < length ts
        → Same (edge m) (pointer_voxel (cell_voxel K' m) (cells_at K' m) (edge m) (get_or ps i 0)) (tree_voxel (get_or ts i none) (suc (suc m)))
    fresh : Fresh K K' (Among m ts)
    invs : A → Invs K'
    lows : A → (i : ℕ) → i < length ts → LowTag K' m (get_or ps i 0)

  ran-none : (m : ℕ) (K : List (List Cell)) → Sound C K → (A → Invs K) → Ran K m [] [] K
  ran-none m K s inv = record {
    sound = s;
    ext = ext_refl K;
    len = refl;
    many = refl;
    okps = λ i l. absurd (not-suc-le-zero l);
    means = λ i l. absurd (not-suc-le-zero l);
    fresh = fresh-none K (Among m []);
    invs = inv;
    lows = λ I i l. absurd (not-suc-le-zero l);
  }

  ran-cons : (K K' K'' : List (List Cell)) (m : ℕ) (t : Tree) (ts : List Tree) (p : ℕ) (ps : List ℕ)
      → Done A C K m (tree_voxel t (suc (suc m))) p K' → Ran K' m ts ps K'' → Ran K m (t ∷ ts) (p ∷ ps) K''
  ran-cons K K' K'' m t ts p ps d r = record {
    sound = r.sound;
    ext = ext_trans d.ext r.ext;
    len = r.len ∙ d.len;
    many = ap suc r.many;
    okps = ok;
    means = mean;
    fresh = fresh-trans K (Among m (t ∷ ts)) (among-by m (t ∷ ts)) d.sound.ok r.ext
        (λ j q h l. among_first m t ts j _ (d.fresh j q h l)) (λ j q h l. among-rest m t ts j _ (r.fresh j q h l));
    invs = r.invs;
    lows = low;
  }
    where
      ok : (i : ℕ) → i < suc (length ts) → OkPointer (length (cells_at K'' m)) (get_or (p ∷ ps) i 0)
      ok zero h = ext-pointer r.ext m p d.okp
      ok (suc i) h = r.okps i (le_of_suc-le-suc h)

      mean : (i : ℕ) → i < suc (length ts)
          → Same (edge m) (pointer_voxel (cell_voxel K'' m) (cells_at K'' m) (edge m) (get_or (p ∷ ps) i 0)) (tree_voxel (get_or (t ∷ ts) i none) (suc (suc m)))
      mean zero h v l = ext-means r.ext d.sound.ok m p d.okp v l ∙ d.means v l
      mean (suc i) h v l = r.means i (le_of_suc-le-suc h) v l

      low : A → (i : ℕ) → i < suc (length ts) → LowTag K'' m (get_or (p ∷ ps) i 0)
      low I zero h = ext_low r.ext d.sound.ok m p d.okp (d.low I)
      low I (suc i) h = r.lows I i (le_of_suc-le-suc h)

  in_turn-ran : (m : ℕ) {ts : List Tree} → Each (Adds m) ts → (K : List (List Cell)) → Sound C K → (A → Invs K) → m < length K
      → Answer (Refused A C K (Among m ts)) (Ran K m ts) (in_turn (map (λ t. add_tree C t m) ts) K)
  unfolding in_turn
  in_turn-ran m enil K s inv h = ran-none m K s inv
  in_turn-ran m (econs {t} {ts} ih es) K s inv h =
      then-answer (Refused A C K (Occurs (tree_voxel t (suc (suc m))) m)) (Refused A C K (Among m (t ∷ ts)))
      (Done A C K m (tree_voxel t (suc (suc m)))) (Ran K m (t ∷ ts)) (add_tree C t m K) _ (ih K s inv h)
      (refused-map (Occurs (tree_voxel t (suc (suc m))) m) (Among m (t ∷ ts)) (among_first m t ts))
      (λ p K' d. then-answer (Refused A C K' (Among m ts)) (Refused A C K (Among m (t ∷ ts))) (Ran K' m ts) (Ran K m (t ∷ ts)) (in_turn (map (λ t. add_tree C t m) ts) K') _
      (in_turn-ran m es K' d.sound d.invs (omega (arith, d.len)))
      (λ n. refused-after (Among m (t ∷ ts)) (among-by m (t ∷ ts)) d.sound.ok d.ext (λ j q h l. among_first m t ts j _ (d.fresh j q h l))
      (refused-map (Among m ts) (Among m (t ∷ ts)) (among-rest m t ts) n))
      (λ ps K'' r. ran-cons K K' K'' m t ts p ps d r))

  -- ---- a node, a leaf, none

  -- a cell of a child is a cell of the node
  among-node : (m : ℕ) (a b c d e f g i : Tree) (j : ℕ) (r : Room) → Among m (a ∷ b ∷ c ∷ d ∷ e ∷ f ∷ g ∷ i ∷ []) j r
      → Occurs (tree_voxel (node a b c d e f g i) (suc (suc (suc m)))) (suc m) j r
  among-node m a b c d e f g i j r (n, hn, o) =
      occurs-up (tree_voxel (node a b c d e f g i) (suc (suc (suc m)))) (tree_voxel (get_or (a ∷ b ∷ c ∷ d ∷ e ∷ f ∷ g ∷ i ∷ []) n none) (suc (suc m))) n
      (λ v l. node-child a b c d e f g i (suc (suc m)) n hn v l ∙ ap (λ (t : Tree). tree_voxel t (suc (suc m)) v) (pick-get_or a b c d e f g i n hn)) o

  module _ (m : ℕ) (a b c d e f g i : Tree) (ps : List ℕ) (K K' : List (List Cell)) (r : Ran K m (a ∷ b ∷ c ∷ d ∷ e ∷ f ∷ g ∷ i ∷ []) ps K') where
    -- the cell of the eight pointers stands for the node
    node-voxels : Same (edge (suc m)) (cell_voxel K' (suc m) ps) (tree_voxel (node a b c d e f g i) (suc (suc (suc m))))
    node-voxels =
        node-from a b c d e f g i (suc (suc m)) (cell_voxel K' (suc m) ps)
        (λ j hj u l. cell-child K' m ps j hj u l ∙ r.means j hj u l ∙ ap (λ (t : Tree). tree_voxel t (suc (suc m)) u) (sym (pick-get_or a b c d e f g i j hj)))

    node-fresh : Fresh K K' (Occurs (tree_voxel (node a b c d e f g i) (suc (suc (suc m)))) (suc m))
    node-fresh j q h l = among-node m a b c d e f g i j _ (r.fresh j q h l)

    node_done : NonEmpty (edge (suc m)) (tree_voxel (node a b c d e f g i) (suc (suc (suc m)))) → suc m < length K
        → Answer (Refused A C K (Occurs (tree_voxel (node a b c d e f g i) (suc (suc (suc m)))) (suc m)))
        (Done A C K (suc m) (tree_voxel (node a b c d e f g i) (suc (suc (suc m))))) (add_cell C (suc m) ps K')
    node_done s h =
        map-answer (Refused A C K' (Occurs (cell_voxel K' (suc m) ps) (suc m))) _ (Done A C K' (suc m) (cell_voxel K' (suc m) ps)) _ (add_cell C (suc m) ps K')
        (λ n. refused-late (cell_voxel K' (suc m) ps) _ r.sound.ok r.ext node-fresh node-voxels n)
        (λ p K'' x. done-after (cell_voxel K' (suc m) ps) _ r.sound.ok r.ext r.len node-fresh node-voxels x)
        (add_cell-done C hC K' r.sound (suc m) (omega (arith, r.len)) ps r.okps A r.invs (λ I. (r.many, r.lows I)) (λ I. (s.0, s.1, node-voxels s.0 s.1 ∙ s.2)))

  none_done : {k : ℕ} (K : List (List Cell)) → Sound C K → (A → Invs K) → Done A C K k (tree_voxel none (suc (suc k))) 0 K
  unfolding tree_voxel
  none_done {k} K s inv = record {
    sound = s;
    ext = ext_refl K;
    len = refl;
    okp = inl refl;
    means = λ v l. refl;
    fresh = fresh-none K (Occurs (tree_voxel none (suc (suc k))) k);
    invs = inv;
    low = λ I u h e. omega arith;
  }

  leaf-done : (n : ℕ) → n < 2 ^ 64 → 0 < n → (K : List (List Cell)) → Sound C K → (A → Invs K) → 0 < length K
      → Answer (Refused A C K (Occurs (tree_voxel (leaf n) 2) 0)) (Done A C K 0 (tree_voxel (leaf n) 2)) (add_cell C 0 (leaf_cell n) K)
  unfolding tree_voxel cell_voxel
  leaf-done n hn pn K s inv h =
      let c : Cell = leaf_cell n in
      let same : Same 4 (leaf_voxel (leaf_no c)) (leaf_voxel n) = λ v l. ap (λ (y : ℕ). leaf_voxel y v) (leaf-words n) in
      let w : NonEmpty 4 (leaf_voxel n) = leaf_solid_lem n hn pn in
      map-answer (Refused A C K (Occurs (cell_voxel K 0 c) 0)) _ (Done A C K 0 (cell_voxel K 0 c)) _ (add_cell C 0 c K)
      (λ z. refused-late (cell_voxel K 0 c) _ s.ok (ext_refl K) (fresh-none K (Occurs (leaf_voxel n) 0)) same z)
      (λ p K'' x. done-after (cell_voxel K 0 c) _ s.ok (ext_refl K) refl (fresh-none K (Occurs (leaf_voxel n) 0)) same x)
      (add_cell-done C hC K s 0 h c (omega arith) A inv
      (λ I. record { high = n / 2 ^ 32; low = n % 2 ^ 32; is = refl; high_word = omega arith; low_word = omega arith })
      (λ I. (w.0, w.1, same w.0 w.1 ∙ w.2)))

  node-adds : (m : ℕ) (a b c d e f g i : Tree) → Each (Adds m) (a ∷ b ∷ c ∷ d ∷ e ∷ f ∷ g ∷ i ∷ [])
      → NonEmpty (edge (suc m)) (tree_voxel (node a b c d e f g i) (suc (suc (suc m)))) → Adds (suc m) (node a b c d e f g i)
  unfolding add_tree
  node-adds m a b c d e f g i es s K sd inv h =
      then-answer (Refused A C K (Among m (a ∷ b ∷ c ∷ d ∷ e ∷ f ∷ g ∷ i ∷ []))) _ (Ran K m (a ∷ b ∷ c ∷ d ∷ e ∷ f ∷ g ∷ i ∷ [])) (Done A C K (suc m) (tree_voxel (node a b c d e f g i) (suc (suc (suc m)))))
      (in_turn (map (λ t. add_tree C t m) (a ∷ b ∷ c ∷ d ∷ e ∷ f ∷ g ∷ i ∷ [])) K) (λ ps K'. add_cell C (suc m) ps K')
      (in_turn-ran m es K sd inv (omega arith))
      (refused-map (Among m (a ∷ b ∷ c ∷ d ∷ e ∷ f ∷ g ∷ i ∷ [])) _ (among-node m a b c d e f g i))
      (λ ps K' r. node_done m a b c d e f g i ps K K' r s h)

  pub add_tree-done : {t : Tree} {k : ℕ} → Good t (suc (suc k)) → Adds k t
  unfolding add_tree
  add_tree-done gnone K s inv h = none_done K s inv
  add_tree-done (gleaf {n} hn pn) K s inv h = leaf-done n hn pn K s inv h
  add_tree-done (gnode {a} {b} {c} {d} {e} {f} {g} {i} {k = m} ga gb gc gd ge gf gg gi j hj nj) K s inv h =
      node-adds m a b c d e f g i
      (econs {t = a} (λ K s inv h. add_tree-done {t = a} {k = m} ga K s inv h) (econs {t = b} (λ K s inv h. add_tree-done {t = b} {k = m} gb K s inv h)
      (econs {t = c} (λ K s inv h. add_tree-done {t = c} {k = m} gc K s inv h) (econs {t = d} (λ K s inv h. add_tree-done {t = d} {k = m} gd K s inv h)
      (econs {t = e} (λ K s inv h. add_tree-done {t = e} {k = m} ge K s inv h) (econs {t = f} (λ K s inv h. add_tree-done {t = f} {k = m} gf K s inv h)
      (econs {t = g} (λ K s inv h. add_tree-done {t = g} {k = m} gg K s inv h) (econs {t = i} (λ K s inv h. add_tree-done {t = i} {k = m} gi K s inv h) enil))))))))
      (solid-some (gnode ga gb gc gd ge gf gg gi j hj nj) node≢none) K s inv h
