-- The solid count of a cell by its pointers is the number of its solid voxels, on any lists. So cells that match have as many, and the cell that is
-- kept or found for a cell added has its count. By induction on the height: a cube's voxels are its children's, and a mirrored cube has as many.
-- Assumes nothing.
use mathlib.Core.Path.{◌≡◌, refl, sym, ◌∙◌, ap, ap₂}
use mathlib.Core.Bool.{Bool, true, false, cond}
use mathlib.Core.List.{List, [], ◌∷◌, ◌++◌}
use mathlib.Core.Option.{Option, some}
use mathlib.Core.Option as O
use Prim.Native.Nat.{ℕ, zero, suc, ◌-◌, ◌*◌, ◌/◌, ◌%◌, ◌^◌, ◌<◌, ◌≤◌, min}
use native.Mathlib.Nat.{pow-succ'}
use native.Mathlib.Omega.{arith}
use borrow.Author.Tests.{ltb-true}
use lib.Dec.{T, eqb, ltb}
use lib.ListN.{length, get_or, set}
use Rattle.paper.specs.Numbers.{sum, bit, bit_for}
use Rattle.paper.specs.Rooms.{Point, point, Room, child_room, mirror, mirrored, in_box, box_count, origin, far, clipped}
use Rattle.paper.specs.Leaf.{bit_of, voxel_of, leaf_voxel}
use Rattle.paper.specs.Outline.{edge}
use Rattle.paper.specs.Store.{Cell, cells_at, cell_at, leaf_no, tag_of, cell_no, pointer, most_capacity, leaf_solid, over_children, solid_of}
use Rattle.paper.specs.Meaning.{pointer_voxel, cell_voxel}
use Rattle.paper.specs.Match.{matches, find, full, added, or_keep, keep, add_cell}
use Rattle.laws.proofs.Tests.{T_true, all-at}
use Rattle.laws.proofs.Bits.{bit-lt, test-bit_for}
use Rattle.laws.proofs.Leaves.{bit_of-voxel_of}
use Rattle.laws.proofs.OutlineWriting.{edge-twice}
use Rattle.laws.proofs.Sums.{sum_same}
use Rattle.laws.proofs.Boxes.{box-same, box-leaf, box-children, box-clear, box-most, box-mirrored}
use Rattle.laws.proofs.Matching.{match-sound}
use Rattle.laws.proofs.Invariant.{OkCell, cell-child}
use Rattle.laws.proofs.Seeking.{Found, Sought, find-is}
pub use Rattle.laws.proofs.TrueCounts.{solid-most}
pub use Rattle.laws.proofs.Growing.{ext-solid}
use Rattle.laws.proofs.Keeping.{K⁺, keep-extends, keep-cell}
use Rattle.laws.proofs.Adding.{Answer, Sound, pointer-cell, found-small, found-pointer}

-- ---- a leaf

-- a leaf's voxels are its bits
pub voxel-bit : (leaf j : ℕ) → j < 64 → bit leaf j ≡ bit_for (leaf_voxel leaf (voxel_of j))
voxel-bit leaf j h = ap (bit leaf) (sym (bit_of-voxel_of j h)) ∙ sym (test-bit_for (bit leaf (bit_of (voxel_of j))) (bit-lt leaf (bit_of (voxel_of j))))

pub leaf-whole : (leaf : ℕ) → leaf_solid leaf ≡ box_count 4 (leaf_voxel leaf) origin (far 4)
leaf-whole leaf =
    let inside : (j : ℕ) → j < 64 → in_box origin (far 4) (voxel_of j) ≡ true = λ j l. T_true (all-at 64 (λ i. in_box origin (far 4) (voxel_of i)) tt j l) in
    sum_same 64 (bit leaf) (λ j. cond (in_box origin (far 4) (voxel_of j)) (bit_for (leaf_voxel leaf (voxel_of j))) 0)
    (λ j l. voxel-bit leaf j l ∙ sym (ap (λ (b : Bool). cond b (bit_for (leaf_voxel leaf (voxel_of j))) 0) (inside j l)))
    ∙ sym (box-leaf (leaf_voxel leaf) origin (far 4))

-- ---- the whole cube, child by child

-- a whole cell cut to a child is the whole child
half-whole : (b S : ℕ) → b < 2 → min S (2 * S - b * S) ≡ S
half-whole zero S h = omega arith
half-whole (suc zero) S h = omega arith
half-whole (suc (suc b)) S h = absurd (omega arith)

pub far-clipped : (S i : ℕ) → clipped S i (far (2 * S)) ≡ far S
far-clipped S i = λ j. point (half-whole (i % 2) S (omega arith) j) (half-whole (i / 2 % 2) S (omega arith) j) (half-whole (i / 4 % 2) S (omega arith) j)

low-whole : (b S : ℕ) → min S (0 - b * S) ≡ 0
low-whole b S = omega arith

pub origin-clipped : (S i : ℕ) → clipped S i origin ≡ origin
origin-clipped S i = λ j. point (low-whole (i % 2) S j) (low-whole (i / 2 % 2) S j) (low-whole (i / 4 % 2) S j)

pub whole-children : (S : ℕ) (r : Room) → box_count (2 * S) r origin (far (2 * S)) ≡ sum 8 (λ i. box_count S (child_room S i r) origin (far S))
whole-children S r =
    box-children S r origin (far (2 * S))
    ∙ sum_same 8 (λ i. box_count S (child_room S i r) (clipped S i origin) (clipped S i (far (2 * S)))) (λ i. box_count S (child_room S i r) origin (far S))
    (λ i h. ap₂ (λ (a b : Point). box_count S (child_room S i r) a b) (origin-clipped S i) (far-clipped S i))

-- what a pointer has, whole: none, or as many as its cell
pub pointer-whole : (K : List (List Cell)) (k p : ℕ)
    → box_count (edge k) (pointer_voxel (cell_voxel K k) (cells_at K k) (edge k) p) origin (far (edge k))
    ≡ cond (eqb p 0) 0 (box_count (edge k) (cell_voxel K k (cell_at K k (cell_no p))) origin (far (edge k)))
pointer-whole K k p = go (eqb p 0)
  where
    r : Room
    r = cell_voxel K k (cell_at K k (cell_no p))

    go : (b : Bool) → box_count (edge k) (λ v. cond b false (r (mirror (tag_of p) (edge k) v))) origin (far (edge k)) ≡ cond b 0 (box_count (edge k) r origin (far (edge k)))
    go true = box-clear (edge k) (λ v. false) origin (far (edge k)) (λ v l. refl)
    go false = box-mirrored (tag_of p) (edge k) r

-- ---- the count

-- the count by pointers is the number of solid voxels
pub solid-whole : (K : List (List Cell)) (k : ℕ) (c : Cell) → solid_of K k c ≡ box_count (edge k) (cell_voxel K k c) origin (far (edge k))
unfolding solid_of over_children cell_voxel
solid-whole K zero c = leaf-whole (leaf_no c)
solid-whole K (suc k) c =
    let r : Room = cell_voxel K (suc k) c in
    let S : ℕ = edge k in
    sum_same 8 (λ i. cond (eqb (get_or c i 0) 0) 0 (solid_of K k (cell_at K k (cell_no (get_or c i 0))))) (λ i. box_count S (child_room S i r) origin (far S))
    (λ i h.
    let p : ℕ = get_or c i 0 in
    ap (λ (n : ℕ). cond (eqb p 0) 0 n) (solid-whole K k (cell_at K k (cell_no p)))
    ∙ sym (pointer-whole K k p)
    ∙ sym (box-same S (child_room S i r) (pointer_voxel (cell_voxel K k) (cells_at K k) S p) origin (far S) (cell-child K k c i h)))
    ∙ sym (whole-children S r)
    ∙ ap (λ (E : ℕ). box_count E r origin (far E)) (sym (edge-twice k))

-- cells that match have as many
pub match-solid : (K : List (List Cell)) (k : ℕ) (a b : Cell) (t : ℕ) → t < 8 → T (matches K k a b t) → solid_of K k a ≡ solid_of K k b
match-solid K k a b t ht m =
    solid-whole K k a
    ∙ box-same (edge k) (cell_voxel K k a) (mirrored t (edge k) (cell_voxel K k b)) origin (far (edge k)) (match-sound K k a b t ht m)
    ∙ box-mirrored t (edge k) (cell_voxel K k b) ∙ sym (solid-whole K k b)

-- ---- a box has at most the voxels of the cube

pub cube-edge : (h : ℕ) → 8 ^ h ≡ 2 ^ h * 2 ^ h * 2 ^ h
cube-edge zero = refl
cube-edge (suc h) = rw (pow-succ' 8 h, pow-succ' 2 h, cube-edge h) (omega arith)

pub box-cube : (k : ℕ) (r : Room) (low high : Point) → box_count (edge k) r low high ≤ 8 ^ suc (suc k)
box-cube k r low high = rw (cube-edge (suc (suc k))) (box-most (edge k) r low high)

-- ---- the cell that the pointer of an added cell names has the count of the cell added

module _ (C : ℕ) (hC : C ≤ most_capacity) (K : List (List Cell)) (sd : Sound C K) (k : ℕ) (hk : k < length K) (c : Cell) (okc : OkCell K k c) where
  abbrev pub SameSolid : ℕ → List (List Cell) → Type 0
  SameSolid p K' = solid_of K' k (cell_at K' k (cell_no p)) ≡ solid_of K k c

  keep-solid : Answer (Unit {0}) SameSolid (keep C k c K)
  unfolding keep
  keep-solid = go (ltb (length (cells_at K k)) C) refl
    where
      go : (b : Bool) → ltb (length (cells_at K k)) C ≡ b
          → Answer (Unit {0}) SameSolid (cond b (added (pointer 0 (length (cells_at K k))) (set K k (cells_at K k ++ (c ∷ [])))) full)
      go false e = tt
      go true e =
          let K'' : List (List Cell) = K⁺ K k hk c in
          ap (λ (n : ℕ). solid_of K'' k (cell_at K'' k n)) (pointer-cell 0 (length (cells_at K k)) (omega (arith, ltb-true (length (cells_at K k)) C e)))
          ∙ ap (solid_of K'' k) (keep-cell K k hk c) ∙ ext-solid (keep-extends K k hk c) sd.ok k c okc

  found-solid : (p : ℕ) → Found (λ b t. matches K k c b t) (cells_at K k) 0 p → SameSolid p K
  found-solid p f =
      ap (λ (n : ℕ). solid_of K k (cell_at K k n))
      (ap cell_no (sym (found-pointer C hC K sd k hk c okc f)) ∙ pointer-cell f.mirror f.cell (found-small C hC K sd k hk c okc f))
      ∙ sym (match-solid K k c (cell_at K k f.cell) f.mirror f.is-mirror f.passes)

  pub add_cell-solid : Answer (Unit {0}) SameSolid (add_cell C k c K)
  unfolding add_cell
  add_cell-solid = go (find (λ b t. matches K k c b t) (cells_at K k) 0) (find-is (λ b t. matches K k c b t) (cells_at K k) 0)
    where
      go : (o : Option ℕ) → Sought (λ b t. matches K k c b t) (cells_at K k) 0 o → Answer (Unit {0}) SameSolid (or_keep o K (keep C k c K))
      go O.none f = keep-solid
      go (some p) f = found-solid p f
