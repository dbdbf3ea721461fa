-- A well formed tree is its voxels: two of one height with the same voxels are equal; and the mirrored tree has the mirrored voxels.
-- By the voxels of a tree's children, and that a tree which is not none has a solid voxel. Assumes nothing.
use mathlib.Core.Path.{◌≡◌, refl, sym, ◌∙◌, ap}
use mathlib.Core.Bool.{Bool, false, false≢true}
use mathlib.Core.List.{[], ◌∷◌}
use mathlib.Core.Logic.{◌⊎◌, inl, inr, ◌≢◌}
use Prim.Native.Nat.{ℕ, suc, ◌*◌, ◌<◌, ◌^◌}
use native.Mathlib.Nat.{pow-succ'}
use native.Mathlib.Omega.{arith}
use lib.Bits.{bit_xor}
use lib.Dec.{lit<}
use lib.ListN.{get_or}
use Rattle.paper.specs.Rooms.{Point, Room, Inside, in_child, child_room, mirror, mirrored, Same, NonEmpty}
use Rattle.paper.specs.Leaf.{mirror_leaf}
use Rattle.paper.specs.Outline.{Tree, none, leaf, node, pick8, tree_voxel}
use Rattle.laws.proofs.Eight.{below8, pick8-table, pick8-map, xor8-lt}
use Rattle.laws.proofs.Mirrors.{mirror-inside, from_child, from_child-inside, child_no-from_child, in_child-from_child, child-mirrored, children-same, same-children}
use Rattle.laws.proofs.Leaves.{leaf-ext, leaf_solid_lem, mirror_leaf-voxels}

pub node≢none : {a b c d e f g i : Tree} → node a b c d e f g i ≡ none → ⊥
node≢none p = let z : ◌≡◌ {A = ℕ} 0 1 = cc in omega arith

pub leaf≢none : {n : ℕ} → leaf n ≡ none → ⊥
leaf≢none p = let z : ◌≡◌ {A = ℕ} 0 1 = cc in omega arith

pub pick-get_or : (a b c d e f g i : Tree) (n : ℕ) → n < 8 → pick8 n a b c d e f g i ≡ get_or (a ∷ b ∷ c ∷ d ∷ e ∷ f ∷ g ∷ i ∷ []) n none
pick-get_or a b c d e f g i =
    below8 (λ n. pick8 n a b c d e f g i ≡ get_or (a ∷ b ∷ c ∷ d ∷ e ∷ f ∷ g ∷ i ∷ []) n none) refl refl refl refl refl refl refl refl

-- well formed, of height h: leaves of 64 bits at height 2, no empty leaf, no node without a child
pub data Good : Tree → ℕ → Type 0 where
  gnone : {h : ℕ} → Good none h
  gleaf : {n : ℕ} → n < 2 ^ 64 → 0 < n → Good (leaf n) 2
  gnode : {a b c d e f g i : Tree} {k : ℕ} → Good a (suc (suc k)) → Good b (suc (suc k)) → Good c (suc (suc k)) → Good d (suc (suc k))
      → Good e (suc (suc k)) → Good f (suc (suc k)) → Good g (suc (suc k)) → Good i (suc (suc k))
      → (j : ℕ) → j < 8 → pick8 j a b c d e f g i ≢ none → Good (node a b c d e f g i) (suc (suc (suc k)))

-- ---- the children of a node, by voxels

module _ (a b c d e f g i : Tree) where
  pub node-child : (h j : ℕ) → j < 8 → Same (2 ^ h) (child_room (2 ^ h) j (tree_voxel (node a b c d e f g i) (suc h))) (tree_voxel (pick8 j a b c d e f g i) h)
  unfolding tree_voxel
  node-child h j hj u l =
      let W : ℕ → Point → Bool = λ m w. pick8 m (tree_voxel a) (tree_voxel b) (tree_voxel c) (tree_voxel d) (tree_voxel e) (tree_voxel f) (tree_voxel g) (tree_voxel i) h w in
      ap (λ (m : ℕ). W m (in_child (2 ^ h) (from_child (2 ^ h) j u))) (child_no-from_child (2 ^ h) j u hj l)
      ∙ ap (W j) (in_child-from_child (2 ^ h) j u l)
      ∙ ap (λ (F : ℕ → Room). F h u) (pick8-map tree_voxel a b c d e f g i j hj)

  -- a room with the voxels of these eight children is the node's
  pub node-from : (h : ℕ) (r : Room) → ((j : ℕ) → j < 8 → Same (2 ^ h) (child_room (2 ^ h) j r) (tree_voxel (pick8 j a b c d e f g i) h))
      → Same (2 ^ suc h) r (tree_voxel (node a b c d e f g i) (suc h))
  node-from h r kids =
      rw (pow-succ' 2 h)
      (children-same (2 ^ h) r (tree_voxel (node a b c d e f g i) (suc h)) (λ j hj u l. kids j hj u l ∙ sym (node-child h j hj u l)))

-- nodes with the same voxels have children with the same voxels
node-children : (h : ℕ) (a b c d e f g i a' b' c' d' e' f' g' i' : Tree)
    → Same (2 ^ suc h) (tree_voxel (node a b c d e f g i) (suc h)) (tree_voxel (node a' b' c' d' e' f' g' i') (suc h))
    → (j : ℕ) → j < 8 → Same (2 ^ h) (tree_voxel (pick8 j a b c d e f g i) h) (tree_voxel (pick8 j a' b' c' d' e' f' g' i') h)
node-children h a b c d e f g i a' b' c' d' e' f' g' i' E j hj u l =
    sym (node-child a b c d e f g i h j hj u l)
    ∙ same-children (2 ^ h) (tree_voxel (node a b c d e f g i) (suc h)) (tree_voxel (node a' b' c' d' e' f' g' i') (suc h)) (rw (pow-succ' 2 h) at E) j u l
    ∙ node-child a' b' c' d' e' f' g' i' h j hj u l

-- ---- a tree that is not none has a solid voxel

unfoldable pub Solid : Tree → ℕ → Type 0
Solid t h = (t ≡ none) ⊎ NonEmpty (2 ^ h) (tree_voxel t h)

solid-leaf : (n : ℕ) → n < 2 ^ 64 → 0 < n → Solid (leaf n) 2
unfolding tree_voxel Solid
solid-leaf n h p = inr (leaf_solid_lem n h p)

solid-node : (h j : ℕ) (a b c d e f g i : Tree) → j < 8 → pick8 j a b c d e f g i ≢ none → Solid (pick8 j a b c d e f g i) h → Solid (node a b c d e f g i) (suc h)
unfolding Solid
solid-node h j a b c d e f g i hj nj (inl p) = absurd (nj p)
solid-node h j a b c d e f g i hj nj (inr w) =
    inr (from_child (2 ^ h) j w.0, rw (pow-succ' 2 h) (from_child-inside (2 ^ h) j w.0 w.1), node-child a b c d e f g i h j hj w.0 w.1 ∙ w.2)

pub solid : {t : Tree} {h : ℕ} → Good t h → Solid t h
unfolding Solid
solid gnone = inl refl
solid (gleaf {n} h p) = solid-leaf n h p
solid (gnode {a} {b} {c} {d} {e} {f} {g} {i} {k} ga gb gc gd ge gf gg gi j hj nj) =
    solid-node (suc (suc k)) j a b c d e f g i hj nj
    (below8 (λ j. Solid (pick8 j a b c d e f g i) (suc (suc k))) (solid ga) (solid gb) (solid gc) (solid gd) (solid ge) (solid gf) (solid gg) (solid gi) j hj)

pub solid-some : {t : Tree} {h : ℕ} → Good t h → t ≢ none → NonEmpty (2 ^ h) (tree_voxel t h)
unfolding Solid
solid-some g ne = elim (solid g) [ inl p ↦ absurd (ne p) | inr w ↦ w ]

-- a tree with no solid voxel is none
pub empty-none : {t : Tree} {h : ℕ} → Good t h → ((v : Point) → Inside (2 ^ h) v → tree_voxel t h v ≡ false) → t ≡ none
unfolding Solid
empty-none g e = elim (solid g) [ inl p ↦ p | inr w ↦ absurd (false≢true (sym (e w.0 w.1) ∙ w.2)) ]

-- ---- a tree is its voxels

pub tree-ext : {t u : Tree} {h : ℕ} → Good t h → Good u h → Same (2 ^ h) (tree_voxel t h) (tree_voxel u h) → t ≡ u
unfolding tree_voxel
tree-ext gnone gu e = sym (empty-none gu (λ v l. sym (e v l)))
tree-ext (gleaf hn pn) gnone e = empty-none (gleaf hn pn) e
tree-ext (gleaf {n} hn pn) (gleaf {n = m} hm pm) e = ap leaf (leaf-ext n m hn hm e)
tree-ext (gnode ga gb gc gd ge gf gg gi j hj nj) gnone e = empty-none (gnode ga gb gc gd ge gf gg gi j hj nj) e
tree-ext (gnode {a} {b} {c} {d} {e} {f} {g} {i} {k} ga gb gc gd ge gf gg gi j hj nj) (gnode {a = a'} {b = b'} {c = c'} {d = d'} {e = e'} {f = f'} {g = g'} {i = i'} ga' gb' gc' gd' ge' gf' gg' gi' j' hj' nj') E =
    let K = node-children (suc (suc k)) a b c d e f g i a' b' c' d' e' f' g' i' E in
    λ x. node (tree-ext ga ga' (K 0 (lit< tt)) x) (tree-ext gb gb' (K 1 (lit< tt)) x) (tree-ext gc gc' (K 2 (lit< tt)) x) (tree-ext gd gd' (K 3 (lit< tt)) x)
    (tree-ext ge ge' (K 4 (lit< tt)) x) (tree-ext gf gf' (K 5 (lit< tt)) x) (tree-ext gg gg' (K 6 (lit< tt)) x) (tree-ext gi gi' (K 7 (lit< tt)) x)

-- ---- the mirrored tree

-- 'a mirrored cell has as child i the mirrored child (i xor t)'
unfoldable pub mirror_tree : ℕ → Tree → Tree
mirror_tree t none = none
mirror_tree t (leaf n) = leaf (mirror_leaf t n)
mirror_tree t (node a b c d e f g h) =
    let k : ℕ → Tree = λ i. pick8 (bit_xor i t) (mirror_tree t a) (mirror_tree t b) (mirror_tree t c) (mirror_tree t d) (mirror_tree t e) (mirror_tree t f) (mirror_tree t g) (mirror_tree t h) in
    node (k 0) (k 1) (k 2) (k 3) (k 4) (k 5) (k 6) (k 7)

module _ (t h : ℕ) (ht : t < 8) (a b c d e f g i : Tree)
    (ih : (j : ℕ) → j < 8 → Same (2 ^ h) (tree_voxel (mirror_tree t (pick8 j a b c d e f g i)) h) (mirrored t (2 ^ h) (tree_voxel (pick8 j a b c d e f g i) h))) where
  node-mirrored : Same (2 ^ suc h) (tree_voxel (mirror_tree t (node a b c d e f g i)) (suc h)) (mirrored t (2 ^ suc h) (tree_voxel (node a b c d e f g i) (suc h)))
  unfolding mirror_tree
  node-mirrored =
      let S : ℕ = 2 ^ h in
      let N : Room = tree_voxel (node a b c d e f g i) (suc h) in
      let kid : ℕ → Tree = λ j. pick8 (bit_xor j t) (mirror_tree t a) (mirror_tree t b) (mirror_tree t c) (mirror_tree t d) (mirror_tree t e) (mirror_tree t f) (mirror_tree t g) (mirror_tree t i) in
      rw (pow-succ' 2 h)
      (children-same S (tree_voxel (mirror_tree t (node a b c d e f g i)) (suc h)) (mirrored t (2 * S) N)
      (λ j hj u l.
      let m : ℕ = bit_xor j t in
      let hm : m < 8 = xor8-lt j t hj ht in
      node-child (kid 0) (kid 1) (kid 2) (kid 3) (kid 4) (kid 5) (kid 6) (kid 7) h j hj u l
      ∙ ap (λ (T : Tree). tree_voxel T h u) (pick8-table kid j hj ∙ pick8-map (mirror_tree t) a b c d e f g i m hm)
      ∙ ih m hm u l
      ∙ sym (node-child a b c d e f g i h m hm (mirror t S u) (mirror-inside t S u l))
      ∙ sym (child-mirrored j t S N hj ht u l)))

pub mirror_tree-voxels : (t : ℕ) → t < 8 → {T : Tree} {h : ℕ} → Good T h → Same (2 ^ h) (tree_voxel (mirror_tree t T) h) (mirrored t (2 ^ h) (tree_voxel T h))
unfolding tree_voxel mirror_tree
mirror_tree-voxels t ht gnone v l = refl
mirror_tree-voxels t ht (gleaf {n = n} x p) v l = mirror_leaf-voxels t n v l
mirror_tree-voxels t ht (gnode {a} {b} {c} {d} {e} {f} {g} {i} {k} ga gb gc gd ge gf gg gi j hj nj) v l =
    let h : ℕ = suc (suc k) in
    node-mirrored t h ht a b c d e f g i
    (below8 (λ j. Same (2 ^ h) (tree_voxel (mirror_tree t (pick8 j a b c d e f g i)) h) (mirrored t (2 ^ h) (tree_voxel (pick8 j a b c d e f g i) h)))
    (mirror_tree-voxels t ht ga) (mirror_tree-voxels t ht gb) (mirror_tree-voxels t ht gc) (mirror_tree-voxels t ht gd)
    (mirror_tree-voxels t ht ge) (mirror_tree-voxels t ht gf) (mirror_tree-voxels t ht gg) (mirror_tree-voxels t ht gi)) v l
