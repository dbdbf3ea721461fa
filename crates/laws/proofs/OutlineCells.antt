-- Non-empty, as a test and as a voxel; a cell's voxels are those of its eight children, in a room and in a tree, and it is non-empty where
-- one of them is. By placing a child's voxel in the cell and finding it again there. Assumes nothing.
use mathlib.Core.Path.{◌≡◌, sym, ◌∙◌, ap}
use mathlib.Core.Bool.{true, false, false≢true}
use mathlib.Core.List.{List}
use Prim.Native.Nat.{ℕ, suc, ◌*◌, ◌^◌, ◌<◌}
use lib.ListN.{get_or}
use Rattle.paper.specs.Numbers.{any_below}
use Rattle.paper.specs.Rooms.{Point, point, Room, Inside, Same, NonEmpty, non_empty, child_no, in_child, child_room}
use Rattle.paper.specs.Outline.{Tree, none, node_of, tree_voxel}
use Rattle.laws.proofs.Tests.{false-unless, any_at, at-any, any_same}
use Rattle.laws.proofs.Eight.{pick8-table}
use Rattle.laws.proofs.Mirrors.{from_child, from_child-inside, from_child-whole, child_no-lt, in_child-inside}
use Rattle.laws.proofs.Trees as Trees

-- ---- non-empty

pub non_empty-some : (S : ℕ) (r : Room) → non_empty S r ≡ true → NonEmpty S r
unfolding non_empty
non_empty-some S r e =
    let c = any_at S (λ c. any_below S (λ b. any_below S (λ a. r (point a b c)))) e in
    let b = any_at S (λ b. any_below S (λ a. r (point a b c.0))) c.2 in
    let a = any_at S (λ a. r (point a b.0 c.0)) b.2 in
    (point a.0 b.0 c.0, record { in_x = a.1; in_y = b.1; in_z = c.1 }, a.2)

pub some-non_empty : (S : ℕ) (r : Room) → NonEmpty S r → non_empty S r ≡ true
unfolding non_empty
some-non_empty S r w =
    let v : Point = w.0 in
    at-any S (λ c. any_below S (λ b. any_below S (λ a. r (point a b c)))) v.z w.1.in_z
    (at-any S (λ b. any_below S (λ a. r (point a b v.z))) v.y w.1.in_y
    (at-any S (λ a. r (point a v.y v.z)) v.x w.1.in_x w.2))

pub non_empty-same : (S : ℕ) (r r' : Room) → Same S r r' → non_empty S r ≡ non_empty S r'
unfolding non_empty
non_empty-same S r r' e =
    any_same S _ _ (λ c hc. any_same S _ _ (λ b hb. any_same S (λ a. r (point a b c)) (λ a. r' (point a b c))
    (λ a ha. e (point a b c) (record { in_x = ha; in_y = hb; in_z = hc }))))

pub empty-voxel : (S : ℕ) (r : Room) → non_empty S r ≡ false → (v : Point) → Inside S v → r v ≡ false
empty-voxel S r e v h = false-unless (r v) (λ q. false≢true (sym e ∙ some-non_empty S r (v, h, q)))

pub no-voxel-empty : (S : ℕ) → non_empty S (λ v. false) ≡ false
no-voxel-empty S = false-unless (non_empty S (λ v. false)) (λ q. false≢true (non_empty-some S (λ v. false) q).2)

-- ---- children

pub child-voxel : (S : ℕ) (r : Room) (v : Point) → Inside (2 * S) v → child_room S (child_no S v) r (in_child S v) ≡ r v
child-voxel S r v h = ap r (from_child-whole S v h)

pub non_empty-child : (S : ℕ) (r : Room) → NonEmpty (2 * S) r → (i : ℕ) × (i < 8) × NonEmpty S (child_room S i r)
non_empty-child S r w = (child_no S w.0, child_no-lt S w.0 w.1, (in_child S w.0, in_child-inside S w.0 w.1, child-voxel S r w.0 w.1 ∙ w.2))

pub child_non_empty_lem : (S i : ℕ) (r : Room) → NonEmpty S (child_room S i r) → NonEmpty (2 * S) r
child_non_empty_lem S i r w = (from_child S i w.0, from_child-inside S i w.0 w.1, w.2)

-- ---- the children of a tree's node

-- child i of a node's room is the room of tree i
pub node-child : (h : ℕ) (ts : List Tree) (i : ℕ) → i < 8 → Same (2 ^ h) (child_room (2 ^ h) i (tree_voxel (node_of ts) (suc h))) (tree_voxel (get_or ts i none) h)
node-child h ts i hi v l =
    let t : ℕ → Tree = λ j. get_or ts j none in
    Trees.node-child (t 0) (t 1) (t 2) (t 3) (t 4) (t 5) (t 6) (t 7) h i hi v l ∙ ap (λ (u : Tree). tree_voxel u h v) (pick8-table t i hi)

pub node-voxel : (h : ℕ) (ts : List Tree) (v : Point) → Inside (2 * 2 ^ h) v
    → tree_voxel (node_of ts) (suc h) v ≡ tree_voxel (get_or ts (child_no (2 ^ h) v) none) h (in_child (2 ^ h) v)
node-voxel h ts v l =
    sym (child-voxel (2 ^ h) (tree_voxel (node_of ts) (suc h)) v l)
    ∙ node-child h ts (child_no (2 ^ h) v) (child_no-lt (2 ^ h) v l) (in_child (2 ^ h) v) (in_child-inside (2 ^ h) v l)
