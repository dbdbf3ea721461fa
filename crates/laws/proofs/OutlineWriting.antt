-- What is written of a room goes by its voxels alone, and a room has a tree with its voxels, cell for cell as its records are written.
-- By induction on the height: a child of rooms with the same voxels has the same voxels. Assumes nothing.
use mathlib.Core.Path.{◌≡◌, refl, sym, ◌∙◌, ap, ap₂}
use mathlib.Core.Bool.{Bool, true, false, cond}
use mathlib.Core.List.{List, [], ◌∷◌}
use Prim.Native.Nat.{ℕ, zero, suc, ◌*◌, ◌<◌, zero-le}
use native.Mathlib.Nat.{pow-succ', zero-add}
use lib.Dec.{lit<}
use Rattle.paper.specs.Numbers.{bit_for, bytes, flatten, tabulate}
use Rattle.paper.specs.Rooms.{Room, Inside, Same, NonEmpty, non_empty, child_no, in_child}
use Rattle.paper.specs.Leaf.{leaf_of}
use Rattle.paper.specs.Outline.{edge, child_of, child_non_empty, mask_of, record_of, Tree, none, leaf, node_of, tree_voxel}
use Rattle.paper.specs.Runs.{Bytes}
use Rattle.laws.proofs.Bits.{gather-same, gather-pos, tests-lt}
use Rattle.laws.proofs.Bytes.{bytes-nil, bytes-cons, bytes-flatten, bytes_below}
use Rattle.laws.proofs.Lists.{tabulate-same, get_or-tabulate}
use Rattle.laws.proofs.Leaves.{leaf_of-same, leaf_of-voxels}
use Rattle.laws.proofs.Mirrors.{child_no-lt, in_child-inside, same-children}
use Rattle.laws.proofs.OutlineCells.{non_empty-some, some-non_empty, non_empty-same, empty-voxel, non_empty-child, child-voxel, node-voxel}

-- a cell's edge is twice its children's
pub edge-twice : (k : ℕ) → edge (suc k) ≡ 2 * edge k
edge-twice k = pow-succ' 2 (suc (suc k))

pub child_of-same : (k : ℕ) (r r' : Room) → Same (edge (suc k)) r r' → (i : ℕ) → Same (edge k) (child_of k r i) (child_of k r' i)
child_of-same k r r' e = same-children (edge k) r r' (rw (edge-twice k) at e)

pub record_same : (k : ℕ) (r r' : Room) → Same (edge k) r r' → record_of k r ≡ record_of k r'
unfolding record_of
record_same zero r r' e = ap (bytes 8) (leaf_of-same r r' e)
record_same (suc k) r r' e =
    let child : (i : ℕ) → Same (edge k) (child_of k r i) (child_of k r' i) = child_of-same k r r' e in
    let there : (i : ℕ) → child_non_empty k r i ≡ child_non_empty k r' i = λ i. non_empty-same (edge k) (child_of k r i) (child_of k r' i) (child i) in
    ap₂ ◌∷◌ (gather-same 0 8 (λ i. bit_for (child_non_empty k r i)) (λ i. bit_for (child_non_empty k r' i)) (λ i h. ap bit_for (there i)))
    (ap flatten (tabulate-same 0 8 (λ i. cond (child_non_empty k r i) (record_of k (child_of k r i)) []) (λ i. cond (child_non_empty k r' i) (record_of k (child_of k r' i)) [])
    (λ i h. ap₂ (λ (b : Bool) (l : List ℕ). cond b l []) (there i) (record_same k (child_of k r i) (child_of k r' i) (child i)))))

-- the mask of a non-empty cell is not 0
pub mask-pos : (k : ℕ) (r : Room) → non_empty (edge (suc k)) r ≡ true → 0 < mask_of k r
mask-pos k r e =
    let w : (i : ℕ) × (i < 8) × NonEmpty (edge k) (child_of k r i) = non_empty-child (edge k) r (rw (edge-twice k) at (non_empty-some (edge (suc k)) r e)) in
    gather-pos 0 8 (λ i. bit_for (child_non_empty k r i)) w.0 zero-le w.1 (rw (some-non_empty (edge k) (child_of k r w.0) w.2) (lit< tt))

-- records are bytes
pub part_bytes : (b : Bool) (l : List ℕ) → Bytes l → Bytes (cond b l [])
part_bytes true l h = h
part_bytes false l h = bytes-nil

pub record-bytes : (k : ℕ) (r : Room) → Bytes (record_of k r)
unfolding record_of
record-bytes zero r = bytes_below 8 (leaf_of r)
record-bytes (suc k) r =
    bytes-cons (mask_of k r) (flatten (tabulate 0 8 (λ i. cond (child_non_empty k r i) (record_of k (child_of k r i)) [])))
    (tests-lt (child_non_empty k r) 8)
    (bytes-flatten 0 8 (λ i. cond (child_non_empty k r i) (record_of k (child_of k r i)) [])
    (λ i. part_bytes (child_non_empty k r i) (record_of k (child_of k r i)) (record-bytes k (child_of k r i))))

-- ---- the tree of a room

-- of a cell of height k + 2, none for an empty child
unfoldable pub tree_for : ℕ → Room → Tree
tree_for zero r = leaf (leaf_of r)
tree_for (suc k) r = node_of (tabulate 0 8 (λ i. let t = tree_for k (child_of k r i) in cond (child_non_empty k r i) t none))

-- it has the room's voxels
child-voxels : (k : ℕ) (r : Room) → Same (edge k) (tree_voxel (tree_for k r) (suc (suc k))) r → (b : Bool) → non_empty (edge k) r ≡ b
    → Same (edge k) (tree_voxel (cond b (tree_for k r) none) (suc (suc k))) r
unfolding tree_voxel
child-voxels k r ih true e = ih
child-voxels k r ih false e = λ v h. sym (empty-voxel (edge k) r e v h)

pub tree-voxels : (k : ℕ) (r : Room) → Same (edge k) (tree_voxel (tree_for k r) (suc (suc k))) r
unfolding tree_for tree_voxel
tree-voxels zero r v l = leaf_of-voxels r v l
tree-voxels (suc k) r v l =
    let h : Inside (2 * edge k) v = rw (edge-twice k) at l in
    let i : ℕ = child_no (edge k) v in
    let t : ℕ → Tree = λ j. cond (child_non_empty k r j) (tree_for k (child_of k r j)) none in
    node-voxel (suc (suc k)) (tabulate 0 8 t) v h
    ∙ ap (λ (u : Tree). tree_voxel u (suc (suc k)) (in_child (edge k) v)) (get_or-tabulate 8 0 i t none (child_no-lt (edge k) v h) ∙ ap t (zero-add i))
    ∙ child-voxels k (child_of k r i) (tree-voxels k (child_of k r i)) (child_non_empty k r i) refl (in_child (edge k) v) (in_child-inside (edge k) v h)
    ∙ child-voxel (edge k) r v h
