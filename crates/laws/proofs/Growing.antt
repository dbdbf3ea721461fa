-- Lists that grow: what the kept cells stand for stays, and so do their pointers, tags, matches, symmetries and counts of solid voxels. By induction on
-- the height, a cell that is kept being found under its number in the longer list. Assumes nothing.
use mathlib.Core.Path.{◌≡◌, refl, sym, ◌∙◌, subst, ap}
use mathlib.Core.List.{List, [], ◌++◌, append-nil, append_assoc}
use mathlib.Core.Logic.{inl, inr}
use Prim.Native.Nat.{ℕ, zero, suc, ◌*◌, ◌<◌, ◌≤◌}
use native.Mathlib.Nat.{pow-succ'}
use native.Mathlib.Omega.{arith}
use lib.Bits.{bit_xor}
use lib.ListN.{get_or, length, length-append, get_or-append}
use Rattle.paper.specs.Rooms.{Point, Inside, child_no, in_child, mirror, Same}
use Rattle.paper.specs.Outline.{edge}
use Rattle.paper.specs.Store.{Cell, cells_at, cell_at, tag_of, cell_no, solid_of}
use Rattle.paper.specs.Meaning.{pointer_voxel, cell_voxel}
use Rattle.paper.specs.Match.{pointer_match, cell_match, matches}
use Rattle.laws.proofs.Tests.{all_same}
use Rattle.laws.proofs.Mirrors.{mirror-inside, child_no-lt, in_child-inside}
use Rattle.laws.proofs.Matching.{self_at}
use Rattle.laws.proofs.Invariant.{OkPointer, OkCell, OkCells, Alike, LowTag, Shape, names-lt, names-ne, pointer_none, pointer-at}
use Rattle.laws.proofs.TrueCounts.{over-each}
use Rattle.laws.specs.Symmetries.{symmetry_of}
use Rattle.laws.proofs.Symmetries.{symmetry-same, pointer-agree}

-- every list of K is the beginning of that of K'
pub record Extends (K K' : List (List Cell)) : Type 0 where
  pub more : (k : ℕ) → List Cell
  pub is : (k : ℕ) → cells_at K' k ≡ cells_at K k ++ more k

pub ext_refl : (K : List (List Cell)) → Extends K K
ext_refl K = record { more = λ k. []; is = λ k. sym (append-nil (cells_at K k)) }

pub ext_trans : {K K' K'' : List (List Cell)} → Extends K K' → Extends K' K'' → Extends K K''
ext_trans {K} {K'} {K''} x y = record {
  more = λ k. x.more k ++ y.more k;
  is = λ k. y.is k ∙ ap (λ (l : List Cell). l ++ y.more k) (x.is k) ∙ append_assoc (cells_at K k) (x.more k) (y.more k);
}

module _ {K K' : List (List Cell)} (x : Extends K K') where
  pub ext-length : (k : ℕ) → length (cells_at K k) ≤ length (cells_at K' k)
  ext-length k = rw (x.is k, length-append) (omega arith)

  -- kept cells stay under their numbers
  pub ext-cell : (k q : ℕ) → q < length (cells_at K k) → cell_at K' k q ≡ cell_at K k q
  ext-cell k q h = ap (λ (l : List Cell). get_or l q []) (x.is k) ∙ get_or-append (cells_at K k) (x.more k) [] q h

  pub ext-pointer : (k p : ℕ) → OkPointer (length (cells_at K k)) p → OkPointer (length (cells_at K' k)) p
  ext-pointer k p (inl e) = inl e
  ext-pointer k p (inr h) = inr (record { some_number = h.some_number; is-kept = omega (arith, ext-length k) })

  pub ext-ok : (k : ℕ) (c : Cell) → OkCell K k c → OkCell K' k c
  ext-ok zero c h = h
  ext-ok (suc k) c h = λ i hi. ext-pointer k (get_or c i 0) (h i hi)

  module _ (ok : OkCells K) where
    -- what a pointer stands for stays, if what cells stand for does
    pointer-same : (k : ℕ) → ((c : Cell) → OkCell K k c → Same (edge k) (cell_voxel K' k c) (cell_voxel K k c)) → (p : ℕ) → OkPointer (length (cells_at K k)) p
        → Same (edge k) (pointer_voxel (cell_voxel K' k) (cells_at K' k) (edge k) p) (pointer_voxel (cell_voxel K k) (cells_at K k) (edge k) p)
    pointer-same k f p (inl e) u l =
        pointer_none (cell_voxel K' k) (cells_at K' k) (edge k) p e u ∙ sym (pointer_none (cell_voxel K k) (cells_at K k) (edge k) p e u)
    pointer-same k f p (inr h) u l =
        let w : Point = mirror (tag_of p) (edge k) u in
        let q : ℕ = cell_no p in
        pointer-at (cell_voxel K' k) (cells_at K' k) (edge k) p (names-ne h) u
        ∙ ap (λ (c : Cell). cell_voxel K' k c w) (ext-cell k q (names-lt h))
        ∙ f (cell_at K k q) (ok k q (names-lt h)) w (mirror-inside (tag_of p) (edge k) u l)
        ∙ sym (pointer-at (cell_voxel K k) (cells_at K k) (edge k) p (names-ne h) u)

    pub ext-voxels : (k : ℕ) (c : Cell) → OkCell K k c → Same (edge k) (cell_voxel K' k c) (cell_voxel K k c)
    unfolding cell_voxel
    ext-voxels zero c h v l = refl
    ext-voxels (suc k) c h v l =
        let l2 : Inside (2 * edge k) v = rw (pow-succ' 2 (suc (suc k))) at l in
        pointer-same k (ext-voxels k) (get_or c (child_no (edge k) v) 0) (h (child_no (edge k) v) (child_no-lt (edge k) v l2)) (in_child (edge k) v) (in_child-inside (edge k) v l2)

    pub ext-means : (k p : ℕ) → OkPointer (length (cells_at K k)) p
        → Same (edge k) (pointer_voxel (cell_voxel K' k) (cells_at K' k) (edge k) p) (pointer_voxel (cell_voxel K k) (cells_at K k) (edge k) p)
    ext-means k = pointer-same k (ext-voxels k)

    -- alike in the longer lists was alike before
    pub alike-back : (k : ℕ) (a b : Cell) (t : ℕ) → OkCell K k a → OkCell K k b → Alike K' k a b t → Alike K k a b t
    alike-back k a b t oa ob s v l =
        sym (ext-voxels k a oa v l) ∙ s v l ∙ ext-voxels k b ob (mirror t (edge k) v) (mirror-inside t (edge k) v l)

    -- lowest tags stay lowest
    pub ext_low : (k p : ℕ) → OkPointer (length (cells_at K k)) p → LowTag K k p → LowTag K' k p
    ext_low k p (inl e) low u hu s = omega arith
    ext_low k p (inr h) low u hu s =
        let c : Cell = cell_at K k (cell_no p) in
        let t : ℕ = bit_xor u (tag_of p) in
        low u hu (alike-back k c c t (ok k (cell_no p) (names-lt h)) (ok k (cell_no p) (names-lt h)) (subst (λ (a : Cell). Alike K' k a a t) (ext-cell k (cell_no p) (names-lt h)) s))

    pub ext-shape : (k : ℕ) (c : Cell) → OkCell K k c → Shape K k c → Shape K' k c
    ext-shape zero c o h = h
    ext-shape (suc k) c o h = (h.0, λ i hi. ext_low k (get_or c i 0) (o i hi) (h.1 i hi))

    -- a cell has as many solid voxels as before
    solid-same-at : (k : ℕ) → ((c : Cell) → OkCell K k c → solid_of K' k c ≡ solid_of K k c)
        → (p : ℕ) → OkPointer (length (cells_at K k)) p → (p ≡ 0 → ⊥) → solid_of K' k (cell_at K' k (cell_no p)) ≡ solid_of K k (cell_at K k (cell_no p))
    solid-same-at k ih p (inl e) ne = absurd (ne e)
    solid-same-at k ih p (inr h) ne = ap (solid_of K' k) (ext-cell k (cell_no p) (names-lt h)) ∙ ih (cell_at K k (cell_no p)) (ok k (cell_no p) (names-lt h))

    pub ext-solid : (k : ℕ) (c : Cell) → OkCell K k c → solid_of K' k c ≡ solid_of K k c
    unfolding solid_of
    ext-solid zero c o = refl
    ext-solid (suc k) c o =
        over-each (λ n. solid_of K' k (cell_at K' k n)) (λ n. solid_of K k (cell_at K k n)) c c (λ i h. refl)
        (λ i h z. solid-same-at k (ext-solid k) (get_or c i 0) (o i h) z)

    -- of the cell that a pointer names
    pub ext-solid-at : (k p : ℕ) → OkPointer (length (cells_at K k)) p → (p ≡ 0 → ⊥) → solid_of K' k (cell_at K' k (cell_no p)) ≡ solid_of K k (cell_at K k (cell_no p))
    ext-solid-at k = solid-same-at k (ext-solid k)

    self-same-at : (k : ℕ) → ((c : Cell) (u : ℕ) → u < 8 → OkCell K k c → matches K' k c c u ≡ matches K k c c u)
        → (p : ℕ) → OkPointer (length (cells_at K k)) p → (p ≡ 0 → ⊥) → (u : ℕ) → u < 8 → self_at K' k (cell_no p) u ≡ self_at K k (cell_no p) u
    self-same-at k ih p (inl e) ne u hu = absurd (ne e)
    self-same-at k ih p (inr h) ne u hu =
        ap (λ (c : Cell). matches K' k c c u) (ext-cell k (cell_no p) (names-lt h)) ∙ ih (cell_at K k (cell_no p)) u hu (ok k (cell_no p) (names-lt h))

    -- the match rule reads only cells that were kept
    pub ext-matches : (k : ℕ) (a b : Cell) (t : ℕ) → t < 8 → OkCell K k a → matches K' k a b t ≡ matches K k a b t
    unfolding matches cell_match
    ext-matches zero a b t ht o = refl
    ext-matches (suc k) a b t ht o =
        all_same 8 (λ i. pointer_match (self_at K' k) t (get_or a i 0) (get_or b (bit_xor i t) 0)) (λ i. pointer_match (self_at K k) t (get_or a i 0) (get_or b (bit_xor i t) 0))
        (λ i hi. pointer-agree (self_at K' k) (self_at K k) t (get_or a i 0) (get_or b (bit_xor i t) 0) ht
        (self-same-at k (λ c u hu oc. ext-matches k c c u hu oc) (get_or a i 0) (o i hi)))

    pub ext-symmetry-of : (k : ℕ) (c : Cell) → OkCell K k c → symmetry_of K' k c ≡ symmetry_of K k c
    ext-symmetry-of k c o = symmetry-same (matches K' k c c) (matches K k c c) (λ t ht. ext-matches k c c t ht o)

    -- the symmetry of the cell that a pointer names
    pub ext-symmetry : (k p : ℕ) → OkPointer (length (cells_at K k)) p → (p ≡ 0 → ⊥) → symmetry_of K' k (cell_at K' k (cell_no p)) ≡ symmetry_of K k (cell_at K k (cell_no p))
    ext-symmetry k p (inl e) ne = absurd (ne e)
    ext-symmetry k p (inr h) ne = ap (symmetry_of K' k) (ext-cell k (cell_no p) (names-lt h)) ∙ ext-symmetry-of k (cell_at K k (cell_no p)) (ok k (cell_no p) (names-lt h))
