-- Reading gives well formed trees of the file's height: what is read is the tree of the room that it means, and such a tree is well formed.
-- By induction on the height, the children of a non-empty cell being empty or non-empty cells. Assumes nothing.
use mathlib.Core.Path.{◌≡◌, refl, sym, ◌∙◌, ap, subst}
use mathlib.Core.Bool.{Bool, true, false, cond}
use mathlib.Core.List.{List, [], ◌∷◌}
use Prim.Native.Nat.{ℕ, zero, suc, ◌-◌, ◌<◌}
use Rattle.paper.specs.Numbers.{tabulate}
use Rattle.paper.specs.Rooms.{Room, NonEmpty, non_empty}
use Rattle.paper.specs.Outline.{edge, child_of, child_non_empty, Tree, none, tree_voxel, Read, bad, ok, read_record, read_root, tree_read}
use Rattle.paper.specs.Outline.{outline_head, file_depth, outline_tree}
use Rattle.paper.specs.Runs.{Bytes}
use lib.ListN.{drop}
use Rattle.laws.proofs.Eight.{pick8-table}
use Rattle.laws.proofs.Trees.{Good, gnone, gleaf, gnode, node≢none, leaf≢none}
use Rattle.laws.proofs.Bytes.{bytes_drop}
use Rattle.laws.proofs.Leaves.{leaf_of-lt, leaf_of-solid}
use Rattle.laws.proofs.OutlineCells.{non_empty-some, some-non_empty, non_empty-child}
use Rattle.laws.proofs.OutlineWriting.{edge-twice, tree_for}
use Rattle.laws.proofs.OutlineReading.{record-read, OkRead, Recorded, record-written}

-- ---- the tree of a room

-- child i of the tree of a cell
abbrev child_tree : ℕ → Room → ℕ → Tree
child_tree k r i = cond (child_non_empty k r i) (tree_for k (child_of k r i)) none

tree_for-some : (k : ℕ) (r : Room) → tree_for k r ≡ none → ⊥
unfolding tree_for
tree_for-some zero r e = leaf≢none e
tree_for-some (suc k) r e = node≢none e

child_tree-some : (k : ℕ) (r : Room) (i : ℕ) → child_non_empty k r i ≡ true → child_tree k r i ≡ none → ⊥
child_tree-some k r i f e = tree_for-some k (child_of k r i) (sym (ap (λ (b : Bool). cond b (tree_for k (child_of k r i)) none) f) ∙ e)

child-good : (k : ℕ) (r : Room) → (non_empty (edge k) r ≡ true → Good (tree_for k r) (suc (suc k))) → (b : Bool) → non_empty (edge k) r ≡ b
    → Good (cond b (tree_for k r) none) (suc (suc k))
child-good k r ih true e = ih e
child-good k r ih false e = gnone

-- a non-empty cell's tree is well formed
pub tree_for-good : (k : ℕ) (r : Room) → non_empty (edge k) r ≡ true → Good (tree_for k r) (suc (suc k))
unfolding tree_for tabulate
tree_for-good zero r e = gleaf (leaf_of-lt r) (leaf_of-solid r (non_empty-some 4 r e))
tree_for-good (suc k) r e =
    let g : (i : ℕ) → Good (child_tree k r i) (suc (suc k)) = λ i. child-good k (child_of k r i) (tree_for-good k (child_of k r i)) (child_non_empty k r i) refl in
    let w : (i : ℕ) × (i < 8) × NonEmpty (edge k) (child_of k r i) = non_empty-child (edge k) r (rw (edge-twice k) at (non_empty-some (edge (suc k)) r e)) in
    let t : ℕ → Tree = child_tree k r in
    gnode (g 0) (g 1) (g 2) (g 3) (g 4) (g 5) (g 6) (g 7) w.0 w.1
    (λ q. child_tree-some k r w.0 (some-non_empty (edge k) (child_of k r w.0) w.2) (sym (pick8-table t w.0 w.1) ∙ q))

-- ---- what is read

pub record-good : (k : ℕ) (bs : List ℕ) → Bytes bs → OkRead (λ t x. Good t (suc (suc k))) (read_record k bs)
record-good k bs h = go (read_record k bs) refl (record-written k bs h)
  where
    go : (a : Read Tree) → read_record k bs ≡ a → OkRead (Recorded k bs) a → OkRead (λ t x. Good t (suc (suc k))) a
    go bad e r = tt
    go (ok t x) e r =
        let room : Room = tree_voxel t (suc (suc k)) in
        subst (λ (u : Tree). Good u (suc (suc k))) (ap tree_read (sym (record-read k room r.solid x) ∙ ap (read_record k) (sym r.written) ∙ e))
        (tree_for-good k room r.solid)

root-good : (k : ℕ) (bs : List ℕ) → Bytes bs → Good (tree_read (read_root k bs)) (suc (suc k))
unfolding read_root
root-good k [] h = gnone
root-good k (b ∷ bs) h = go (read_record k (b ∷ bs)) (record-good k (b ∷ bs) h)
  where
    go : (a : Read Tree) → OkRead (λ t x. Good t (suc (suc k))) a → Good (tree_read a) (suc (suc k))
    go bad g = gnone
    go (ok t x) g = g

-- the tree of a file (none where it breaks the rules), with the root's list counted from height 2
pub outline-good : (file : List ℕ) → Bytes file → Good (outline_tree file) (suc (suc (file_depth file - 2)))
unfolding outline_tree
outline-good file h = root-good (file_depth file - 2) (drop outline_head file) (bytes_drop outline_head file h)
