-- The match rule on any lists of cells: a cell matches itself under 0, matching turns round and goes on by exclusive or, so the mirrors under
-- which a cell matches itself are a group; and what matches under t has the mirrored voxels. By induction on the height. Assumes nothing.
use mathlib.Core.Path.{◌≡◌, refl, sym, ◌∙◌, subst, ap, ap₂}
use mathlib.Core.Bool.{Bool, true, false, cond}
use mathlib.Core.List.{List, []}
use mathlib.Core.Logic.{◌⊎◌, inl, inr}
use Prim.Native.Nat.{ℕ, zero, suc, ◌*◌, ◌^◌, ◌<◌}
use native.Mathlib.Nat.{pow-succ'}
use native.Mathlib.Decide.{ℕ_discrete}
use native.Mathlib.Omega.{arith}
use borrow.Author.Tests.{eqb-true, eqb-false, eq-eqb, ne_eqb}
use lib.Bits.{bit_xor, xor_comm, xor_self, xor_zero_r}
use lib.Dec.{T, eqb, eqb→eq}
use lib.ListN.{get_or}
use Rattle.paper.specs.Rooms.{Point, Room, Inside, child_no, in_child, mirror, mirrored, Same}
use Rattle.paper.specs.Leaf.{leaf_voxel, mirror_leaf}
use Rattle.paper.specs.Outline.{edge}
use Rattle.paper.specs.Store.{Cell, leaf_no, cells_at, cell_at, tag_of, cell_no}
use Rattle.paper.specs.Meaning.{pointer_voxel, cell_voxel}
use Rattle.paper.specs.Match.{pointer_match, cell_match, matches}
use Rattle.laws.proofs.Tests.{all-at, all-T, iff-eq}
use Rattle.laws.proofs.Eight.{xor8-lt, xor8-assoc, xor8-back, xor8-around, xor8-cancel, xor8-chain}
use Rattle.laws.proofs.Mirrors.{mirror-inside, mirror-mirror, child_no-lt, in_child-inside, child_no-mirror, in_child-mirror}
use Rattle.laws.proofs.Leaves.{mirror_leaf-voxels, mirror_leaf-zero, mirror_leaf-mirror_leaf}

pub tag-lt : (p : ℕ) → tag_of p < 8
tag-lt p = omega arith

-- ---- two pointers

-- both name one cell, which matches itself under their difference
pub record Joined (self : ℕ → ℕ → Bool) (t p q : ℕ) : Type 0 where
  pub left : p ≡ 0 → ⊥
  pub right : q ≡ 0 → ⊥
  pub cell : cell_no p ≡ cell_no q
  pub between : T (self (cell_no p) (bit_xor (bit_xor (tag_of p) (tag_of q)) t))

abbrev pub PointersMatch : (ℕ → ℕ → Bool) → ℕ → ℕ → ℕ → Type 0
PointersMatch self t p q = ((p ≡ 0) × (q ≡ 0)) ⊎ Joined self t p q

pub between-lt : (t p q : ℕ) → t < 8 → bit_xor (bit_xor (tag_of p) (tag_of q)) t < 8
between-lt t p q ht = xor8-lt (bit_xor (tag_of p) (tag_of q)) t (xor8-lt (tag_of p) (tag_of q) (tag-lt p) (tag-lt q)) ht

-- the test is that rule
pub pointer-rule : (self : ℕ → ℕ → Bool) (t p q : ℕ) → T (pointer_match self t p q) → PointersMatch self t p q
unfolding pointer_match
pointer-rule self t p q m = go (eqb p 0) refl (eqb q 0) refl (eqb (cell_no p) (cell_no q)) refl m
  where
    go : (b : Bool) → eqb p 0 ≡ b → (c : Bool) → eqb q 0 ≡ c → (d : Bool) → eqb (cell_no p) (cell_no q) ≡ d
        → T (cond b c (cond c false (cond d (self (cell_no p) (bit_xor (bit_xor (tag_of p) (tag_of q)) t)) false))) → PointersMatch self t p q
    go true ep true eq d ed s = inl (eqb-true p 0 ep, eqb-true q 0 eq)
    go true ep false eq d ed s = absurd s
    go false ep true eq d ed s = absurd s
    go false ep false eq false ed s = absurd s
    go false ep false eq true ed s =
        inr (record { left = eqb-false p 0 ep; right = eqb-false q 0 eq; cell = eqb-true (cell_no p) (cell_no q) ed; between = s })

pub rule-pointer : (self : ℕ → ℕ → Bool) (t p q : ℕ) → PointersMatch self t p q → T (pointer_match self t p q)
unfolding pointer_match
rule-pointer self t p q (inl (ep, eq)) = rw (eq-eqb p 0 ep, eq-eqb q 0 eq) tt
rule-pointer self t p q (inr j) = rw (ne_eqb p 0 j.left, ne_eqb q 0 j.right, eq-eqb (cell_no p) (cell_no q) j.cell) j.between

module _ (self : ℕ → ℕ → Bool) where
  pointer-self : (p : ℕ) → T (self (cell_no p) 0) → Dec (p ≡ 0) → PointersMatch self 0 p p
  pointer-self p s (yes e) = inl (e, e)
  pointer-self p s (no ne) =
      inr (record { left = ne; right = ne; cell = refl; between = subst (λ (n : ℕ). T (self (cell_no p) n)) (sym (xor_zero_r (bit_xor (tag_of p) (tag_of p)) ∙ xor_self (tag_of p))) s })

  pointer-sym : (t p q : ℕ) → PointersMatch self t p q → PointersMatch self t q p
  pointer-sym t p q (inl (ep, eq)) = inl (eq, ep)
  pointer-sym t p q (inr j) = inr (record {
    left = j.right;
    right = j.left;
    cell = sym j.cell;
    between = subst (λ (n : ℕ). T (self n (bit_xor (bit_xor (tag_of q) (tag_of p)) t))) j.cell (subst (λ (n : ℕ). T (self (cell_no p) (bit_xor n t))) (xor_comm (tag_of p) (tag_of q)) j.between);
  })

  pointer-trans : ((n s t : ℕ) → s < 8 → t < 8 → T (self n s) → T (self n t) → T (self n (bit_xor s t))) → (s t p q r : ℕ) → s < 8 → t < 8
      → PointersMatch self s p q → PointersMatch self t q r → PointersMatch self (bit_xor s t) p r
  pointer-trans closed s t p q r hs ht (inl (ep, eq)) (inl (eq', er)) = inl (ep, er)
  pointer-trans closed s t p q r hs ht (inl (ep, eq)) (inr j) = absurd (j.left eq)
  pointer-trans closed s t p q r hs ht (inr j) (inl (eq, er)) = absurd (j.right eq)
  pointer-trans closed s t p q r hs ht (inr i) (inr j) = inr (record {
    left = i.left;
    right = j.right;
    cell = i.cell ∙ j.cell;
    between = subst (λ (n : ℕ). T (self (cell_no p) n)) (xor8-chain (tag_of p) (tag_of q) (tag_of r) s t (tag-lt p) (tag-lt q) (tag-lt r) hs ht)
        (closed (cell_no p) _ _ (between-lt s p q hs) (between-lt t q r ht) i.between
        (subst (λ (n : ℕ). T (self n (bit_xor (bit_xor (tag_of q) (tag_of r)) t))) (sym i.cell) j.between));
  })

-- ---- two cells

-- does kept cell q of list k match itself under u
abbrev pub self_at : List (List Cell) → ℕ → ℕ → ℕ → Bool
self_at K k q u = matches K k (cell_at K k q) (cell_at K k q) u

-- eight pointers, as the rule says
pub cell-rule : (K : List (List Cell)) (k : ℕ) (a b : Cell) (t : ℕ) → T (matches K (suc k) a b t)
    → (i : ℕ) → i < 8 → PointersMatch (self_at K k) t (get_or a i 0) (get_or b (bit_xor i t) 0)
unfolding matches cell_match
cell-rule K k a b t m i hi =
    pointer-rule (self_at K k) t (get_or a i 0) (get_or b (bit_xor i t) 0)
    (all-at 8 (λ j. pointer_match (self_at K k) t (get_or a j 0) (get_or b (bit_xor j t) 0)) m i hi)

pub rule-cell : (K : List (List Cell)) (k : ℕ) (a b : Cell) (t : ℕ)
    → ((i : ℕ) → i < 8 → PointersMatch (self_at K k) t (get_or a i 0) (get_or b (bit_xor i t) 0)) → T (matches K (suc k) a b t)
unfolding matches cell_match
rule-cell K k a b t h =
    all-T 8 (λ i. pointer_match (self_at K k) t (get_or a i 0) (get_or b (bit_xor i t) 0))
    (λ i hi. rule-pointer (self_at K k) t (get_or a i 0) (get_or b (bit_xor i t) 0) (h i hi))

-- a leaf is a 64-bit number; nothing is asked of other cells
abbrev pub LeafFits : ℕ → Cell → Type 0
LeafFits zero c = leaf_no c < 2 ^ 64
LeafFits (suc k) c = Unit {0}

module _ (K : List (List Cell)) where
  pub fits-at : ((q : ℕ) → LeafFits 0 (cell_at K 0 q)) → (k q : ℕ) → LeafFits k (cell_at K k q)
  fits-at fit zero q = fit q
  fits-at fit (suc k) q = tt

  -- every cell matches itself under 0
  pub match-self : ((q : ℕ) → LeafFits 0 (cell_at K 0 q)) → (k : ℕ) (c : Cell) → LeafFits k c → T (matches K k c c 0)
  unfolding matches
  match-self fit zero c h = rw (eq-eqb (leaf_no c) (mirror_leaf 0 (leaf_no c)) (sym (mirror_leaf-zero (leaf_no c) h))) tt
  match-self fit (suc k) c h =
      rule-cell K k c c 0 (λ i hi.
      subst (λ (j : ℕ). PointersMatch (self_at K k) 0 (get_or c i 0) (get_or c j 0)) (sym (xor_zero_r i))
      (pointer-self (self_at K k) (get_or c i 0) (match-self fit k (cell_at K k (cell_no (get_or c i 0))) (fits-at fit k (cell_no (get_or c i 0)))) (ℕ_discrete (get_or c i 0) 0)))

  -- a matches b, so b matches a
  pub match-sym : (k : ℕ) (a b : Cell) (t : ℕ) → t < 8 → LeafFits k b → T (matches K k a b t) → T (matches K k b a t)
  unfolding matches
  match-sym zero a b t ht h m =
      let e : leaf_no a ≡ mirror_leaf t (leaf_no b) = eqb→eq (leaf_no a) (mirror_leaf t (leaf_no b)) m in
      rw (eq-eqb (leaf_no b) (mirror_leaf t (leaf_no a))
      (sym (mirror_leaf-zero (leaf_no b) h) ∙ ap (λ (n : ℕ). mirror_leaf n (leaf_no b)) (sym (xor_self t))
      ∙ sym (mirror_leaf-mirror_leaf t t (leaf_no b) ht ht) ∙ ap (mirror_leaf t) (sym e))) tt
  match-sym (suc k) a b t ht h m =
      rule-cell K k b a t (λ i hi.
      pointer-sym (self_at K k) t (get_or a (bit_xor i t) 0) (get_or b i 0)
      (subst (λ (j : ℕ). PointersMatch (self_at K k) t (get_or a (bit_xor i t) 0) (get_or b j 0)) (xor8-back i t hi ht)
      (cell-rule K k a b t m (bit_xor i t) (xor8-lt i t hi ht))))

  -- two matches in a row
  pub match-trans : (k : ℕ) (a b c : Cell) (s t : ℕ) → s < 8 → t < 8 → T (matches K k a b s) → T (matches K k b c t) → T (matches K k a c (bit_xor s t))
  unfolding matches
  match-trans zero a b c s t hs ht m n =
      rw (eq-eqb (leaf_no a) (mirror_leaf (bit_xor s t) (leaf_no c))
      (eqb→eq (leaf_no a) (mirror_leaf s (leaf_no b)) m ∙ ap (mirror_leaf s) (eqb→eq (leaf_no b) (mirror_leaf t (leaf_no c)) n)
      ∙ mirror_leaf-mirror_leaf s t (leaf_no c) hs ht)) tt
  match-trans (suc k) a b c s t hs ht m n =
      rule-cell K k a c (bit_xor s t) (λ i hi.
      let his : bit_xor i s < 8 = xor8-lt i s hi hs in
      subst (λ (j : ℕ). PointersMatch (self_at K k) (bit_xor s t) (get_or a i 0) (get_or c j 0)) (xor8-assoc i s t hi hs ht)
      (pointer-trans (self_at K k) (λ q u w hu hw x y. match-trans k (cell_at K k q) (cell_at K k q) (cell_at K k q) u w hu hw x y)
      s t (get_or a i 0) (get_or b (bit_xor i s) 0) (get_or c (bit_xor (bit_xor i s) t) 0) hs ht
      (cell-rule K k a b s m i hi) (cell-rule K k b c t n (bit_xor i s) his)))

  self-along : (k : ℕ) (a b : Cell) (t u : ℕ) → t < 8 → u < 8 → LeafFits k b → T (matches K k a b t) → T (matches K k a a u) → T (matches K k b b u)
  self-along k a b t u ht hu h m s =
      subst (λ (n : ℕ). T (matches K k b b n)) (xor8-around t u ht hu)
      (match-trans k b a b (bit_xor t u) t (xor8-lt t u ht hu) ht (match-trans k b a a t u ht hu (match-sym k a b t ht h m) s) m)

  -- cells that match have the same ones
  pub self-same : (k : ℕ) (a b : Cell) (t u : ℕ) → t < 8 → u < 8 → LeafFits k a → LeafFits k b → T (matches K k a b t) → matches K k a a u ≡ matches K k b b u
  self-same k a b t u ht hu ha hb m =
      iff-eq (matches K k a a u) (matches K k b b u) (self-along k a b t u ht hu hb m) (self-along k b a t u ht hu ha (match-sym k a b t ht hb m))

-- ---- what matches has the mirrored voxels

module _ (of : Cell → Room) (cs : List Cell) (S : ℕ) (self : ℕ → ℕ → Bool)
    (sound : (q w : ℕ) → w < 8 → T (self q w) → Same S (of (get_or cs q [])) (mirrored w S (of (get_or cs q [])))) where
  joined-voxels : (t p q : ℕ) → t < 8 → Joined self t p q → (u : Point) → Inside S u
      → of (get_or cs (cell_no p) []) (mirror (tag_of p) S u) ≡ of (get_or cs (cell_no q) []) (mirror (tag_of q) S (mirror t S u))
  joined-voxels t p q ht j u l =
      let w : ℕ = bit_xor (bit_xor (tag_of p) (tag_of q)) t in
      let B : Room = of (get_or cs (cell_no p) []) in
      sound (cell_no p) w (between-lt t p q ht) j.between (mirror (tag_of p) S u) (mirror-inside (tag_of p) S u l)
      ∙ ap B (mirror-mirror w (tag_of p) S u (between-lt t p q ht) (tag-lt p) l)
      ∙ ap (λ (n : ℕ). B (mirror n S u)) (xor8-cancel (tag_of p) (tag_of q) t (tag-lt p) (tag-lt q) ht)
      ∙ ap B (sym (mirror-mirror (tag_of q) t S u (tag-lt q) ht l))
      ∙ ap (λ (n : ℕ). of (get_or cs n []) (mirror (tag_of q) S (mirror t S u))) j.cell

  pointer-voxels : (t p q : ℕ) → t < 8 → PointersMatch self t p q → Same S (pointer_voxel of cs S p) (mirrored t S (pointer_voxel of cs S q))
  pointer-voxels t p q ht (inl (ep, eq)) u l = rw (eq-eqb p 0 ep, eq-eqb q 0 eq)
  pointer-voxels t p q ht (inr j) u l = rw (ne_eqb p 0 j.left, ne_eqb q 0 j.right) (joined-voxels t p q ht j u l)

pub match-sound : (K : List (List Cell)) (k : ℕ) (a b : Cell) (t : ℕ) → t < 8 → T (matches K k a b t)
    → Same (edge k) (cell_voxel K k a) (mirrored t (edge k) (cell_voxel K k b))
unfolding cell_voxel matches
match-sound K zero a b t ht m v l = ap (λ (n : ℕ). leaf_voxel n v) (eqb→eq (leaf_no a) (mirror_leaf t (leaf_no b)) m) ∙ mirror_leaf-voxels t (leaf_no b) v l
match-sound K (suc k) a b t ht m v l =
    let S : ℕ = edge k in
    let two : edge (suc k) ≡ 2 * S = pow-succ' 2 (suc (suc k)) in
    let l2 : Inside (2 * S) v = rw two at l in
    let i : ℕ = child_no S v in
    let P : ℕ → Room = pointer_voxel (cell_voxel K k) (cells_at K k) S in
    pointer-voxels (cell_voxel K k) (cells_at K k) S (self_at K k)
    (λ q w hw s x lx. match-sound K k (cell_at K k q) (cell_at K k q) w hw s x lx)
    t (get_or a i 0) (get_or b (bit_xor i t) 0) ht (cell-rule K k a b t m i (child_no-lt S v l2)) (in_child S v) (in_child-inside S v l2)
    ∙ ap₂ (λ (j : ℕ) (w : Point). P (get_or b j 0) w) (sym (child_no-mirror t S v ht l2)) (sym (in_child-mirror t S v ht l2))
    ∙ ap (λ (e : ℕ). P (get_or b (child_no S (mirror t e v)) 0) (in_child S (mirror t e v))) (sym two)
