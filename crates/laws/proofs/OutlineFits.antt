-- A tree that is read at a height fits it: it ends in leaves at height 2, whatever the bytes. By induction on the height and on the children left.
-- Assumes nothing.
use mathlib.Core.Path.{◌≡◌, refl}
use mathlib.Core.Bool.{Bool, true, false, cond}
use mathlib.Core.List.{List, [], ◌∷◌}
use Prim.Native.Nat.{ℕ, zero, suc, pred, ◌-◌, ◌/◌, ◌%◌, ◌<◌}
use native.Mathlib.Nat.{zero-lt-suc}
use lib.Dec.{eqb, leb}
use lib.ListN.{length, drop, get_or}
use Rattle.paper.specs.Numbers.{num}
use Rattle.paper.specs.Outline.{Tree, none, leaf, node, node_of, Read, bad, ok, bind, before, read_leaf, read_children, read_record, read_root, outline_head, outline_tree, outline_read, tree_read, file_depth}
use Rattle.laws.proofs.OutlineReading.{OkRead, bind_ok}

-- of height k + 2: leaves at k = 0 exactly
abbrev pub Fits : Tree → ℕ → Type 0
Fits none k = Unit {0}
Fits (leaf n) k = k ≡ 0
Fits (node a b c d e f g h) k =
    (0 < k) × Fits a (pred k) × Fits b (pred k) × Fits c (pred k) × Fits d (pred k) × Fits e (pred k) × Fits f (pred k) × Fits g (pred k) × Fits h (pred k)

abbrev FitAll : ℕ → List Tree → Type 0
FitAll k ts = (i : ℕ) → Fits (get_or ts i none) k

fit-cons : (k : ℕ) (t : Tree) (ts : List Tree) → Fits t k → FitAll k ts → FitAll k (t ∷ ts)
fit-cons k t ts h hs zero = h
fit-cons k t ts h hs (suc i) = hs i

leaf-fits : (bs : List ℕ) → OkRead (λ t x. Fits t 0) (read_leaf bs)
unfolding read_leaf
leaf-fits bs = go (leb 8 (length bs)) (eqb (num 8 bs) 0)
  where
    go : (a b : Bool) → OkRead (λ t x. Fits t 0) (cond a (cond b bad (ok (leaf (num 8 bs)) (drop 8 bs))) bad)
    go false b = tt
    go true true = tt
    go true false = refl

module _ (k : ℕ) (rd : List ℕ → Read Tree) (ih : (bs : List ℕ) → OkRead (λ t x. Fits t k) (rd bs)) where
  child_fits : (n m : ℕ) (bs : List ℕ) → ((cs : List ℕ) → OkRead (λ ts x. FitAll k ts) (read_children rd n (m / 2) cs)) → (b : Bool)
      → OkRead (λ ts x. FitAll k ts) (cond b (bind (rd bs) (λ t y. before t (read_children rd n (m / 2) y))) (before none (read_children rd n (m / 2) bs)))
  child_fits n m bs rec true =
      bind_ok (λ t x. Fits t k) (λ ts x. FitAll k ts) (rd bs) (λ t y. before t (read_children rd n (m / 2) y)) (ih bs)
      (λ t y f. bind_ok (λ ts x. FitAll k ts) (λ ts x. FitAll k ts) (read_children rd n (m / 2) y) (λ ts x. ok (t ∷ ts) x) (rec y) (λ ts x h. fit-cons k t ts f h))
  child_fits n m bs rec false =
      bind_ok (λ ts x. FitAll k ts) (λ ts x. FitAll k ts) (read_children rd n (m / 2) bs) (λ ts x. ok (none ∷ ts) x) (rec bs) (λ ts x h. fit-cons k none ts tt h)

  children-fit : (n m : ℕ) (bs : List ℕ) → OkRead (λ ts x. FitAll k ts) (read_children rd n m bs)
  unfolding read_children
  children-fit zero m bs = λ i. tt
  children-fit (suc n) m bs = child_fits n m bs (children-fit n (m / 2)) (eqb (m % 2) 1)

node-fits : (k : ℕ) (ts : List Tree) → FitAll k ts → Fits (node_of ts) (suc k)
node-fits k ts h = (zero-lt-suc k, h 0, h 1, h 2, h 3, h 4, h 5, h 6, h 7)

pub record-fits : (k : ℕ) (bs : List ℕ) → OkRead (λ t x. Fits t k) (read_record k bs)
unfolding read_record
record-fits zero bs = leaf-fits bs
record-fits (suc k) [] = tt
record-fits (suc k) (m ∷ bs) = go (eqb m 0) (children-fit k (read_record k) (record-fits k) 8 m bs)
  where
    go : (b : Bool) → OkRead (λ ts x. FitAll k ts) (read_children (read_record k) 8 m bs)
        → OkRead (λ t x. Fits t (suc k)) (cond b bad (bind (read_children (read_record k) 8 m bs) (λ ts x. ok (node_of ts) x)))
    go true h = tt
    go false h =
        bind_ok (λ ts x. FitAll k ts) (λ t x. Fits t (suc k)) (read_children (read_record k) 8 m bs) (λ ts x. ok (node_of ts) x) h (λ ts x. node-fits k ts)

pub outline-fits : (file : List ℕ) → Fits (outline_tree file) (file_depth file - 2)
unfolding outline_tree read_root
outline-fits file = read (outline_read file) (root (drop outline_head file))
  where
    k : ℕ
    k = file_depth file - 2

    root : (bs : List ℕ) → OkRead (λ t x. Fits t k) (read_root k bs)
    root [] = tt
    root (b ∷ bs) = record-fits k (b ∷ bs)

    read : (x : Read Tree) → OkRead (λ t y. Fits t k) x → Fits (tree_read x) k
    read bad h = tt
    read (ok t bs) h = h
