-- Cells of a room that kept cells make: each cell of what a pointer means is empty or a kept cell mirrored, and if it is not empty it is the
-- image of a kept cell. By going down one child at a time, a mirrored cell's child being a mirrored child. Assumes nothing.
use mathlib.Core.Path.{◌≡◌, refl, sym, ◌∙◌, subst, ap}
use mathlib.Core.Bool.{false, false≢true}
use mathlib.Core.List.{List}
use mathlib.Core.Logic.{◌⊎◌, inl, inr}
use Prim.Native.Nat.{ℕ, zero, suc, ◌+◌, ◌*◌, ◌^◌, ◌<◌}
use native.Mathlib.Nat.{pow-succ', add-zero}
use native.Mathlib.Omega.{arith}
use lib.Bits.{bit_xor}
use lib.Pow.{pow-add}
use lib.ListN.{get_or, length}
use Rattle.paper.specs.Rooms.{Point, Room, Inside, cell_of, child_no, in_child, child_room, mirror, mirrored, Same, Image, NonEmpty}
use Rattle.paper.specs.Outline.{edge}
use Rattle.paper.specs.Store.{Cell, cells_at, cell_at, tag_of, cell_no}
use Rattle.paper.specs.Meaning.{pointer_voxel, cell_voxel}
use Rattle.laws.proofs.Eight.{xor8-lt}
use Rattle.laws.proofs.Mirrors.{mirror-inside, same-children, child-mirrored, mirrored-trans, in_child-inside, child_no-lt}
use Rattle.laws.proofs.Occurring.{cell-down, cell-whole}
use Rattle.laws.proofs.Matching.{tag-lt}
use Rattle.laws.proofs.Invariant.{OkPointer, OkCells, names-lt, names-ne, pointer_none, pointer-at, cell-child}

-- a kept cell of list k so mirrored
pub record Kept (K : List (List Cell)) (k : ℕ) (r : Room) : Type 0 where
  pub cell : ℕ
  pub mirror : ℕ
  pub is-cell : cell < length (cells_at K k)
  pub is-mirror : mirror < 8
  pub is : Same (edge k) r (mirrored mirror (edge k) (cell_voxel K k (cell_at K k cell)))

-- empty, or a kept cell so mirrored
abbrev pub Part : List (List Cell) → ℕ → Room → Type 0
Part K k r = Same (edge k) r (λ v. false) ⊎ Kept K k r

pub part_same : {K : List (List Cell)} {k : ℕ} (a b : Room) → Same (edge k) a b → Part K k b → Part K k a
part_same a b e (inl s) = inl (λ v l. e v l ∙ s v l)
part_same a b e (inr p) = inr (record { cell = p.cell; mirror = p.mirror; is-cell = p.is-cell; is-mirror = p.is-mirror; is = λ v l. e v l ∙ p.is v l })

pub part-mirrored : {K : List (List Cell)} {k : ℕ} (t : ℕ) (a : Room) → t < 8 → Part K k a → Part K k (mirrored t (edge k) a)
part-mirrored {K} {k} t a ht (inl s) = inl (λ v l. s (mirror t (edge k) v) (mirror-inside t (edge k) v l))
part-mirrored {K} {k} t a ht (inr p) = inr (record {
  cell = p.cell;
  mirror = bit_xor t p.mirror;
  is-cell = p.is-cell;
  is-mirror = xor8-lt t p.mirror ht p.is-mirror;
  is = mirrored-trans t p.mirror (edge k) (mirrored t (edge k) a) a (cell_voxel K k (cell_at K k p.cell)) ht p.is-mirror (λ v l. refl) p.is;
})

pub pointer-part : (K : List (List Cell)) (k p : ℕ) → OkPointer (length (cells_at K k)) p → Part K k (pointer_voxel (cell_voxel K k) (cells_at K k) (edge k) p)
pointer-part K k p (inl e) = inl (λ v l. pointer_none (cell_voxel K k) (cells_at K k) (edge k) p e v)
pointer-part K k p (inr h) = inr (record {
  cell = cell_no p;
  mirror = tag_of p;
  is-cell = names-lt h;
  is-mirror = tag-lt p;
  is = λ v l. pointer-at (cell_voxel K k) (cells_at K k) (edge k) p (names-ne h) v;
})

module _ (K : List (List Cell)) (ok : OkCells K) where
  pub child-part : (k i : ℕ) (r : Room) → i < 8 → Part K (suc k) r → Part K k (child_room (edge k) i r)
  child-part k i r hi (inl s) = inl (same-children (edge k) r (λ v. false) (rw (pow-succ' 2 (suc (suc k))) at s) i)
  child-part k i r hi (inr p) =
      let S : ℕ = edge k in
      let t : ℕ = p.mirror in
      let ht : t < 8 = p.is-mirror in
      let c : Cell = cell_at K (suc k) p.cell in
      let j : ℕ = bit_xor i t in
      let hj : j < 8 = xor8-lt i t hi ht in
      let P : Room = pointer_voxel (cell_voxel K k) (cells_at K k) S (get_or c j 0) in
      let e : Same (2 * S) r (mirrored t (2 * S) (cell_voxel K (suc k) c)) = rw (pow-succ' 2 (suc (suc k))) at p.is in
      part_same (child_room S i r) (mirrored t S P)
      (λ v l. same-children S r (mirrored t (2 * S) (cell_voxel K (suc k) c)) e i v l
      ∙ child-mirrored i t S (cell_voxel K (suc k) c) hi ht v l
      ∙ cell-child K k c j hj (mirror t S v) (mirror-inside t S v l))
      (part-mirrored t P ht (pointer-part K k (get_or c j 0) (ok (suc k) p.cell p.is-cell j hj)))

  -- every cell of list j, d heights further down
  pub cell-part : (d j : ℕ) (r : Room) → Part K (j + d) r → (c : Point) → Inside (2 ^ d) c → Part K j (cell_of r (suc (suc j)) c)
  cell-part zero j r p c l =
      part_same (cell_of r (suc (suc j)) c) r (λ v lv. cell-whole (suc (suc j)) r c l v) (subst (λ (k : ℕ). Part K k r) (add-zero j) p)
  cell-part (suc d) j r p c l =
      let l2 : Inside (2 * 2 ^ d) c = rw (pow-succ' 2 d) at l in
      let i : ℕ = child_no (2 ^ d) c in
      let S : ℕ = edge (j + d) in
      let up : j + suc d ≡ suc (j + d) = omega arith in
      let hs : suc (suc (j + d)) ≡ suc (suc j) + d = omega arith in
      let eS : S ≡ 2 ^ suc (suc j) * 2 ^ d = ap (λ (n : ℕ). 2 ^ n) hs ∙ pow-add 2 (suc (suc j)) d in
      let b : Room = child_room S i r in
      part_same (cell_of r (suc (suc j)) c) (cell_of b (suc (suc j)) (in_child (2 ^ d) c)) (λ v lv. cell-down (suc (suc j)) d S r c eS l2 v)
      (cell-part d j b (child-part (j + d) i r (child_no-lt (2 ^ d) c l2) (subst (λ (k : ℕ). Part K k r) up p)) (in_child (2 ^ d) c) (in_child-inside (2 ^ d) c l2))

-- a part that is not empty is the image of a kept cell
pub part-image : (K : List (List Cell)) (k : ℕ) (r : Room) → Part K k r → NonEmpty (edge k) r
    → (q : ℕ) × (q < length (cells_at K k)) × Image (edge k) r (cell_voxel K k (cell_at K k q))
part-image K k r (inl s) (v, l, e) = absurd (false≢true (sym (s v l) ∙ e))
part-image K k r (inr p) w = (p.cell, p.is-cell, (p.mirror, p.is-mirror, p.is))
