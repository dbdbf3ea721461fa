-- What holds of the lists that adding makes: pointers name kept cells with the lowest tags, no cell is empty, no two are images. There cells
-- match under t exactly when the one's voxels are the other's mirrored by t. By induction on the height. Assumes nothing.
use mathlib.Core.Path.{◌≡◌, refl, sym, ◌∙◌, ap, ap₂}
use mathlib.Core.Bool.{Bool, true, false, false≢true, not, ◌&&◌}
use mathlib.Core.List.{List, [], ◌∷◌}
use mathlib.Core.Logic.{◌⊎◌, inl, inr, ◌↔◌}
use Prim.Native.Nat.{ℕ, zero, suc, ◌^◌, ◌<◌, ◌≤◌}
use native.Mathlib.Nat.{pow-succ', le_refl}
use native.Mathlib.Decide.{dec_lt}
use native.Mathlib.Omega.{arith}
use borrow.Author.Tests.{eq-eqb, ne_eqb, eqb-true, leb-true, le-leb}
use lib.Bits.{bit_xor}
use lib.Dec.{T, eqb, leb, lit<}
use lib.ListN.{get_or, length, get_or-eq_default}
use Rattle.paper.specs.Rooms.{Point, Room, child_room, mirror, mirrored, Same, NonEmpty}
use Rattle.paper.specs.Leaf.{mirror_leaf}
use Rattle.paper.specs.Outline.{edge}
use Rattle.paper.specs.Store.{Cell, leaf_no, cells_at, cell_at, tag_of, low_of, cell_no, bad_pointer}
use Rattle.paper.specs.Meaning.{pointer_voxel, cell_voxel}
use Rattle.paper.specs.Match.{matches}
use Rattle.laws.proofs.Eight.{xor8-lt, xor8-between}
use Rattle.laws.proofs.Mirrors.{mirror-inside, mirror-twice, mirror-mirror, from_child, child_no-from_child, in_child-from_child, from_child-inside, child-mirrored}
use Rattle.laws.proofs.Leaves.{leaf-ext, mirror_leaf-lt, mirror_leaf-voxels}
use Rattle.laws.proofs.Matching.{tag-lt, between-lt, PointersMatch, self_at, rule-cell, LeafFits, match-sound}

-- ---- pointers to kept cells

-- a pointer to one of n kept cells
pub record Names (n p : ℕ) : Type 0 where
  pub some_number : 1 ≤ low_of p
  pub is-kept : low_of p ≤ n

abbrev pub OkPointer : ℕ → ℕ → Type 0
OkPointer n p = (p ≡ 0) ⊎ Names n p

pub names-lt : {n p : ℕ} → Names n p → cell_no p < n
names-lt h = omega arith

pub names-ne : {n p : ℕ} → Names n p → p ≡ 0 → ⊥
names-ne h e = omega arith

-- 'bad: not 0 and its number is not kept': ok is what is not bad
pub ok-not-bad : (n p : ℕ) → OkPointer n p → bad_pointer n p ≡ false
ok-not-bad n p (inl e) = rw (eq-eqb p 0 e)
ok-not-bad n p (inr h) = rw (ne_eqb p 0 (names-ne h), le-leb 1 (low_of p) h.some_number, le-leb (low_of p) n h.is-kept)

pub not-bad-ok : (n p : ℕ) → bad_pointer n p ≡ false → OkPointer n p
not-bad-ok n p h = go (eqb p 0) refl (leb 1 (low_of p)) refl (leb (low_of p) n) refl h
  where
    go : (b : Bool) → eqb p 0 ≡ b → (c : Bool) → leb 1 (low_of p) ≡ c → (d : Bool) → leb (low_of p) n ≡ d → (not b && not (c && d)) ≡ false → OkPointer n p
    go true e c ec d ed h = inl (eqb-true p 0 e)
    go false e true ec true ed h = inr (record { some_number = leb-true 1 (low_of p) ec; is-kept = leb-true (low_of p) n ed })
    go false e true ec false ed h = absurd (false≢true (sym h))
    go false e false ec d ed h = absurd (false≢true (sym h))

-- a pointer that is neither bad nor none names a kept cell
pub named-kept : (n p : ℕ) → bad_pointer n p ≡ false → (p ≡ 0 → ⊥) → cell_no p < n
named-kept n p b z = go (not-bad-ok n p b)
  where
    go : OkPointer n p → cell_no p < n
    go (inl e) = absurd (z e)
    go (inr h) = names-lt h

-- ---- cells as they may stand

-- a 64-bit leaf, or eight pointers to kept cells
abbrev pub OkCell : List (List Cell) → ℕ → Cell → Type 0
OkCell K zero c = leaf_no c < 2 ^ 64
OkCell K (suc k) c = (i : ℕ) → i < 8 → OkPointer (length (cells_at K k)) (get_or c i 0)

-- every kept cell is such a one
abbrev pub OkCells : List (List Cell) → Type 0
OkCells K = (k q : ℕ) → q < length (cells_at K k) → OkCell K k (cell_at K k q)

pub ok-fits : (K : List (List Cell)) (k : ℕ) (c : Cell) → OkCell K k c → LeafFits k c
ok-fits K zero c h = h
ok-fits K (suc k) c h = tt

-- where there is no cell there is the leaf 0
pub leaves-fit : (K : List (List Cell)) → OkCells K → (q : ℕ) → LeafFits 0 (cell_at K 0 q)
leaves-fit K ok q = go (dec_lt q (length (cells_at K 0)))
  where
    go : Dec (q < length (cells_at K 0)) → leaf_no (cell_at K 0 q) < 2 ^ 64
    go (yes h) = ok 0 q h
    go (no n) = rw (get_or-eq_default (cells_at K 0) [] {n = q} (omega arith)) (lit< tt)

-- cell a stands for cell b mirrored by t
abbrev pub Alike : List (List Cell) → ℕ → Cell → Cell → ℕ → Type 0
Alike K k a b t = Same (edge k) (cell_voxel K k a) (mirrored t (edge k) (cell_voxel K k b))

-- no lower tag means the same: no lower one differs from it by a mirror that leaves the cell as it is
abbrev pub LowTag : List (List Cell) → ℕ → ℕ → Type 0
LowTag K k p = (u : ℕ) → u < tag_of p → Alike K k (cell_at K k (cell_no p)) (cell_at K k (cell_no p)) (bit_xor u (tag_of p)) → ⊥

pub record TwoWords (c : Cell) : Type 0 where
  pub high : ℕ
  pub low : ℕ
  pub is : c ≡ high ∷ low ∷ []
  pub high_word : high < 2 ^ 32
  pub low_word : low < 2 ^ 32

-- a leaf is two words, any other cell eight pointers with the lowest tags
abbrev pub Shape : List (List Cell) → ℕ → Cell → Type 0
Shape K zero c = TwoWords c
Shape K (suc k) c = (length c ≡ 8) × ((i : ℕ) → i < 8 → LowTag K k (get_or c i 0))

-- list k as it should be
pub record Inv (K : List (List Cell)) (k : ℕ) : Type 0 where
  pub ok : (q : ℕ) → q < length (cells_at K k) → OkCell K k (cell_at K k q)
  pub shape : (q : ℕ) → q < length (cells_at K k) → Shape K k (cell_at K k q)
  pub solid : (q : ℕ) → q < length (cells_at K k) → NonEmpty (edge k) (cell_voxel K k (cell_at K k q))
  pub apart : (q r t : ℕ) → q < length (cells_at K k) → r < length (cells_at K k) → t < 8 → Alike K k (cell_at K k q) (cell_at K k r) t → q ≡ r

-- ---- pointers with the mirrored voxels match

module _ (of : Cell → Room) (cs : List Cell) (S : ℕ) where
  pub pointer_none : (p : ℕ) → p ≡ 0 → (u : Point) → pointer_voxel of cs S p u ≡ false
  pointer_none p e u = rw (eq-eqb p 0 e)

  pub pointer-at : (p : ℕ) → (p ≡ 0 → ⊥) → (u : Point) → pointer_voxel of cs S p u ≡ of (get_or cs (cell_no p) []) (mirror (tag_of p) S u)
  pointer-at p h u = rw (ne_eqb p 0 h)

  -- a pointer that names a cell is not empty
  pub pointer-solid : ((q : ℕ) → q < length cs → NonEmpty S (of (get_or cs q []))) → (p : ℕ) → Names (length cs) p → NonEmpty S (pointer_voxel of cs S p)
  pointer-solid solid p h =
      let s : NonEmpty S (of (get_or cs (cell_no p) [])) = solid (cell_no p) (names-lt h) in (
        mirror (tag_of p) S s.0,
        mirror-inside (tag_of p) S s.0 s.1,
        pointer-at p (names-ne h) (mirror (tag_of p) S s.0) ∙ ap (of (get_or cs (cell_no p) [])) (mirror-twice (tag_of p) S s.0 s.1) ∙ s.2,
      )

  module _ (self : ℕ → ℕ → Bool) (solid : (q : ℕ) → q < length cs → NonEmpty S (of (get_or cs q [])))
      (apart : (q r t : ℕ) → q < length cs → r < length cs → t < 8 → Same S (of (get_or cs q [])) (mirrored t S (of (get_or cs r []))) → q ≡ r)
      (complete : (q w : ℕ) → q < length cs → w < 8 → Same S (of (get_or cs q [])) (mirrored w S (of (get_or cs q []))) → T (self q w)) where
    pointer-complete : (t p q : ℕ) → t < 8 → OkPointer (length cs) p → OkPointer (length cs) q
        → Same S (pointer_voxel of cs S p) (mirrored t S (pointer_voxel of cs S q)) → PointersMatch self t p q
    pointer-complete t p q ht (inl ep) (inl eq) h = inl (ep, eq)
    pointer-complete t p q ht (inl ep) (inr nq) h =
        let s : NonEmpty S (pointer_voxel of cs S q) = pointer-solid solid q nq in
        absurd (false≢true (sym (pointer_none p ep (mirror t S s.0)) ∙ h (mirror t S s.0) (mirror-inside t S s.0 s.1)
        ∙ ap (pointer_voxel of cs S q) (mirror-twice t S s.0 s.1) ∙ s.2))
    pointer-complete t p q ht (inr np) (inl eq) h =
        let s : NonEmpty S (pointer_voxel of cs S p) = pointer-solid solid p np in
        absurd (false≢true (sym (pointer_none q eq (mirror t S s.0)) ∙ sym (h s.0 s.1) ∙ s.2))
    pointer-complete t p q ht (inr np) (inr nq) h =
        let w : ℕ = bit_xor (bit_xor (tag_of p) (tag_of q)) t in
        let hw : w < 8 = between-lt t p q ht in
        let a : Room = of (get_or cs (cell_no p) []) in
        let b : Room = of (get_or cs (cell_no q) []) in
        let e : Same S a (mirrored w S b) =
        λ v l.
        ap a (sym (mirror-twice (tag_of p) S v l))
        ∙ sym (pointer-at p (names-ne np) (mirror (tag_of p) S v))
        ∙ h (mirror (tag_of p) S v) (mirror-inside (tag_of p) S v l)
        ∙ pointer-at q (names-ne nq) (mirror t S (mirror (tag_of p) S v))
        ∙ ap b (mirror-mirror (tag_of q) t S (mirror (tag_of p) S v) (tag-lt q) ht (mirror-inside (tag_of p) S v l))
        ∙ ap b (mirror-mirror (bit_xor (tag_of q) t) (tag_of p) S v (xor8-lt (tag_of q) t (tag-lt q) ht) (tag-lt p) l)
        ∙ ap (λ (n : ℕ). b (mirror n S v)) (xor8-between (tag_of p) (tag_of q) t (tag-lt p) (tag-lt q) ht) in
        let en : cell_no p ≡ cell_no q = apart (cell_no p) (cell_no q) w (names-lt np) (names-lt nq) hw e in
        inr (record {
          left = names-ne np;
          right = names-ne nq;
          cell = en;
          between = complete (cell_no p) w (names-lt np) hw (λ v l. e v l ∙ ap (λ (n : ℕ). of (get_or cs n []) (mirror w S v)) (sym en));
        })

-- ---- cells with the mirrored voxels match

-- voxels of a cell's child
pub cell-child : (K : List (List Cell)) (k : ℕ) (c : Cell) (j : ℕ) → j < 8
    → Same (edge k) (child_room (edge k) j (cell_voxel K (suc k) c)) (pointer_voxel (cell_voxel K k) (cells_at K k) (edge k) (get_or c j 0))
unfolding cell_voxel
cell-child K k c j hj u l =
    ap₂ (λ (i : ℕ) (w : Point). pointer_voxel (cell_voxel K k) (cells_at K k) (edge k) (get_or c i 0) w) (child_no-from_child (edge k) j u hj l) (in_child-from_child (edge k) j u l)

-- where the lists below are as they should be
pub match-complete : (K : List (List Cell)) (k : ℕ) → ((j : ℕ) → j < k → Inv K j) → (a b : Cell) (t : ℕ) → t < 8 → OkCell K k a → OkCell K k b
    → Alike K k a b t → T (matches K k a b t)
unfolding cell_voxel matches
match-complete K zero inv a b t ht oa ob h =
    rw (eq-eqb (leaf_no a) (mirror_leaf t (leaf_no b))
    (leaf-ext (leaf_no a) (mirror_leaf t (leaf_no b)) oa (mirror_leaf-lt t (leaf_no b)) (λ v l. h v l ∙ sym (mirror_leaf-voxels t (leaf_no b) v l)))) tt
match-complete K (suc k) inv a b t ht oa ob h =
    rule-cell K k a b t (λ i hi.
    pointer-complete (cell_voxel K k) (cells_at K k) (edge k) (self_at K k) Ik.solid Ik.apart
    (λ q w hq hw e. match-complete K k (λ j l. inv j (omega arith)) (cell_at K k q) (cell_at K k q) w hw (Ik.ok q hq) (Ik.ok q hq) e)
    t (get_or a i 0) (get_or b (bit_xor i t) 0) ht (oa i hi) (ob (bit_xor i t) (xor8-lt i t hi ht))
    (λ u l.
    let S : ℕ = edge k in
    let B : Room = cell_voxel K (suc k) b in
    sym (cell-child K k a i hi u l)
    ∙ h (from_child S i u) (rw (pow-succ' 2 (suc (suc k))) (from_child-inside S i u l))
    ∙ ap (λ (e : ℕ). B (mirror t e (from_child S i u))) (pow-succ' 2 (suc (suc k)))
    ∙ child-mirrored i t S B hi ht u l
    ∙ cell-child K k b (bit_xor i t) (xor8-lt i t hi ht) (mirror t S u) (mirror-inside t S u l)))
  where
    Ik : Inv K k
    Ik = inv k (le_refl (suc k))

-- the match rule agrees with the voxels
pub match-voxels : (K : List (List Cell)) (k : ℕ) → ((j : ℕ) → Inv K j) → (a b : Cell) (t : ℕ) → t < 8 → OkCell K k a → OkCell K k b
    → T (matches K k a b t) ↔ Alike K k a b t
match-voxels K k inv a b t ht oa ob = (match-sound K k a b t ht, match-complete K k (λ j l. inv j) a b t ht oa ob)
