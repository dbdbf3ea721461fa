-- A record taken into the words of a store stands as the paper's adding of the tree that is read. By induction on the height: a leaf by its eight bytes,
-- any other by its eight children. Assumes nothing.
use mathlib.Core.Path.{◌≡◌, refl, sym, ap, subst}
use mathlib.Core.Bool.{Bool, true, false, cond}
use mathlib.Core.List.{List, [], ◌∷◌}
use Prim.Native.Nat.{ℕ, zero, suc, ◌+◌, ◌*◌, ◌/◌, ◌%◌, ◌^◌, ◌<◌, ◌≤◌}
use native.Mathlib.Numerals.{add-one}
use native.Mathlib.Decide.{dec_lt}
use native.Mathlib.Omega.{arith}
use lib.Dec.{eqb, leb, lit<}
use lib.ListN.{length, take, drop, get_or, length-drop, drop_of_length-le}
use lib.Seq.{drop-cons, drop-drop, length-take-le}
use borrow.Author.Tests.{leb-true}
use Rattle.paper.specs.Numbers.{num}
use Rattle.paper.specs.Outline.{Tree, none, leaf, node_of, Read, bad, ok, bind, before, read_leaf, read_children, read_record}
use Rattle.paper.specs.Store.{Cell, heights, leaf_solid}
use Rattle.paper.specs.Match.{Adding, add_tree}
use Rattle.paper.specs.Runs.{Bytes}
use Rattle.laws.proofs.Bytes.{bytes_take, bytes_drop, be-lt}
use Rattle.laws.proofs.OutlineReading.{OkRead, bind_ok}
use Rattle.add_cells.specs.CellAdding.{add_leaf_in}
use Rattle.add_records.specs.RecordAdding.{RecordAdding, ending_at, add_record}
use Rattle.add_records.proofs.Settings.{Setting, words_with}
use Rattle.add_records.proofs.Standing.{Stands, After}
use Rattle.add_records.proofs.CellStanding.{leaf-stands}
use Rattle.add_records.proofs.KnownChildren.{known-none}
use Rattle.add_records.proofs.TreesInTurn.{adds}
use Rattle.add_records.proofs.ChildrenStanding.{Records, children-stand}

-- ---- eight children are read

many-children : (rd : List ℕ → Read Tree) (n m : ℕ) (bs : List ℕ) → OkRead (λ ts y. length ts ≡ n) (read_children rd n m bs)
unfolding read_children
many-children rd zero m bs = refl
many-children rd (suc n) m bs = go (eqb (m % 2) 1) (many-children rd n (m / 2))
  where
    one : (t : Tree) (r : Read (List Tree)) → OkRead (λ ts y. length ts ≡ n) r → OkRead (λ ts y. length ts ≡ suc n) (before t r)
    one t r h = bind_ok (λ ts y. length ts ≡ n) (λ ts y. length ts ≡ suc n) r (λ ts y. ok (t ∷ ts) y) h (λ ts y e. ap suc e)

    go : (b : Bool) → ((cs : List ℕ) → OkRead (λ ts y. length ts ≡ n) (read_children rd n (m / 2) cs))
        → OkRead (λ ts y. length ts ≡ suc n) (cond b (bind (rd bs) (λ t cs. before t (read_children rd n (m / 2) cs))) (before none (read_children rd n (m / 2) bs)))
    go true ih = after (rd bs)
      where
        after : (r : Read Tree) → OkRead (λ ts y. length ts ≡ suc n) (bind r (λ t cs. before t (read_children rd n (m / 2) cs)))
        after bad = tt
        after (ok t cs) = one t (read_children rd n (m / 2) cs) (ih cs)
    go false ih = one none (read_children rd n (m / 2) bs) (ih bs)

eight-of : (ts : List Tree) → length ts ≡ 8
    → get_or ts 0 none ∷ get_or ts 1 none ∷ get_or ts 2 none ∷ get_or ts 3 none ∷ get_or ts 4 none ∷ get_or ts 5 none ∷ get_or ts 6 none ∷ get_or ts 7 none ∷ [] ≡ ts
eight-of [] e = absurd (omega arith)
eight-of (a ∷ []) e = absurd (omega arith)
eight-of (a ∷ b ∷ []) e = absurd (omega arith)
eight-of (a ∷ b ∷ c ∷ []) e = absurd (omega arith)
eight-of (a ∷ b ∷ c ∷ d ∷ []) e = absurd (omega arith)
eight-of (a ∷ b ∷ c ∷ d ∷ g ∷ []) e = absurd (omega arith)
eight-of (a ∷ b ∷ c ∷ d ∷ g ∷ h ∷ []) e = absurd (omega arith)
eight-of (a ∷ b ∷ c ∷ d ∷ g ∷ h ∷ i ∷ []) e = absurd (omega arith)
eight-of (a ∷ b ∷ c ∷ d ∷ g ∷ h ∷ i ∷ j ∷ []) e = refl
eight-of (a ∷ b ∷ c ∷ d ∷ g ∷ h ∷ i ∷ j ∷ l ∷ ts) e = absurd (omega arith)

-- eight bytes are less than 2^64
leaf-small : (bs : List ℕ) → Bytes bs → 8 ≤ length bs → num 8 bs < 2 ^ 64
leaf-small bs h l =
    let e : length (take 8 bs) ≡ 8 = length-take-le 8 bs l in
    let r = be-lt (take 8 bs) 0 1 (bytes_take 8 bs h) (lit< tt) in
    omega (arith, subst (λ (n : ℕ). num 8 bs < 1 * 256 ^ n) e r)

module _ (g : Setting) where
  -- ---- a cell's record

  module _ (k : ℕ) (K : List (List Cell)) where
    -- the cell of the eight is the node's
    node-adds : (ts : List Tree) → length ts ≡ 8 → adds g k K [] ts ≡ add_tree g.capacity (node_of ts) (suc k) K
    unfolding add_tree
    node-adds ts e = ap (adds g k K []) (sym (eight-of ts e))

    node-after : (r : Read (List Tree)) (o : RecordAdding) → OkRead (λ ts y. length ts ≡ 8) r → After g K (suc k) r (adds g k K []) o
        → After g K (suc k) (bind r (λ ts bs. ok (node_of ts) bs)) (λ t. add_tree g.capacity t (suc k) K) o
    node-after bad o e h = tt
    node-after (ok ts bs) o e h = subst (λ (a : Adding ℕ). Stands g K (suc k) bs a o) (node-adds ts e) h

  cell-record : (k : ℕ) → suc k < heights → Records g k → Records g (suc k)
  unfolding read_record add_record
  cell-record k hk right at K w good = go (dec_lt at (length g.file))
    where
      m : ℕ
      m = get_or g.file at 0

      o : RecordAdding
      o = add_record g.file (suc k) at (words_with g K)

      go : Dec (at < length g.file) → After g K (suc k) (read_record (suc k) (drop at g.file)) (λ t. add_tree g.capacity t (suc k) K) o
      go (no n) = rw (drop_of_length-le g.file {i = at} (omega arith)) tt
      go (yes l) = rw (drop-cons g.file at 0 l) (inner (eqb m 0))
        where
          inner : (b : Bool)
              → After g K (suc k) (cond b bad (bind (read_children (read_record k) 8 m (drop (suc at) g.file)) (λ ts bs. ok (node_of ts) bs))) (λ t. add_tree g.capacity t (suc k) K) o
          inner true = tt
          inner false =
              node-after k K (read_children (read_record k) 8 m (drop (suc at) g.file)) o (many-children (read_record k) 8 m (drop (suc at) g.file))
              (rw (← add-one at)
              (children-stand g k hk right 8 m (at + 1) K [] [] 0 (record { within = omega arith; good = good; eight = refl; known = known-none k K })))

  -- ---- a leaf's record

  leaf-record : Records g 0
  unfolding read_record read_leaf add_record add_tree
  leaf-record at K w good = go (leb 8 (length bs)) refl (eqb (num 8 bs) 0)
    where
      bs : List ℕ
      bs = drop at g.file

      o : RecordAdding
      o = ending_at (at + 8) (leaf_solid (num 8 bs)) (add_leaf_in (num 8 bs) (words_with g K))

      go : (a : Bool) → leb 8 (length bs) ≡ a → (b : Bool) → After g K 0 (cond a (cond b bad (ok (leaf (num 8 bs)) (drop 8 bs))) bad) (λ t. add_tree g.capacity t 0 K) o
      go false e b = tt
      go true e true = tt
      go true e false =
          let l : 8 ≤ length bs = leb-true 8 (length bs) e in
          rw (drop-drop 8 at g.file) (leaf-stands g K good (at + 8) (omega (arith, length-drop at g.file)) (num 8 bs) (leaf-small bs (bytes_drop at g.file g.bytes) l))

  pub record-stands : (k : ℕ) → k < heights → Records g k
  record-stands zero hk = leaf-record
  record-stands (suc k) hk = cell-record k hk (record-stands k (omega arith))
