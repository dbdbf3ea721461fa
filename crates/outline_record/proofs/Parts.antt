-- A record in its parts, in the code's words: a leaf's, a cell's mask and children, and of the children the one that comes with those behind it. By
-- the clauses of the definitions, carried from k + 1 to k - 1 once. Assumes nothing.
use mathlib.Core.Path.{◌≡◌, refl, sym, ap, ap₂, ◌∙◌}
use mathlib.Core.Bool.{Bool, cond}
use mathlib.Core.List.{List, [], ◌∷◌, ◌++◌}
use Prim.Native.Nat.{ℕ, zero, suc, ◌+◌, ◌-◌, ◌<◌}
use native.Mathlib.Numerals.{sub-one}
use native.Mathlib.Omega.{arith}
use lib.Bits.{bit_xor}
use lib.ListN.{length}
use borrow.Author.Tests.{eq-eqb, ne_eqb}
use Rattle.paper.specs.Numbers.{bytes}
use Rattle.paper.specs.Leaf.{mirror_leaf}
use Rattle.paper.specs.Store.{Cell, cell_at, tag_of, cell_no, leaf_no}
use Rattle.laws.proofs.Bytes.{bytes-length}
use Rattle.outline_record.specs.Record.{pointer_at, mask_at, part_at, children_at, record_at}

-- a leaf's record: its number, so mirrored, as eight bytes
module _ (K : List (List Cell)) (n m : ℕ) where
  leaf_bytes_lem : record_at K 0 n m ≡ bytes 8 (mirror_leaf m (leaf_no (cell_at K 0 n)))
  unfolding record_at
  leaf_bytes_lem = refl

  pub leaf-length : length (record_at K 0 n m) ≡ 8
  leaf-length = ap length leaf_bytes_lem ∙ bytes-length 8 (mirror_leaf m (leaf_no (cell_at K 0 n)))

  pub record-leaf : (leaf image : ℕ) → leaf ≡ leaf_no (cell_at K 0 n) → image ≡ mirror_leaf m leaf → bytes 8 image ≡ record_at K 0 n m
  record-leaf leaf image e f = ap (bytes 8) (f ∙ ap (mirror_leaf m) e) ∙ sym leaf_bytes_lem

pub record-cell : (K : List (List Cell)) (k n m b : ℕ) (c : Cell) → (k ≡ 0 → ⊥) → c ≡ cell_at K k n → b ≡ mask_at c m
    → record_at K k n m ≡ (b ∷ []) ++ children_at (record_at K (k - 1)) c m 8
unfolding record_at
record-cell K zero n m b c z e f = absurd (z refl)
record-cell K (suc k) n m b c z e f = rw (sub-one (suc k), f, e)

module _ (r : ℕ → ℕ → List ℕ) (c : Cell) (m : ℕ) where
  -- the children from i on
  abbrev pub from : ℕ → List ℕ
  from i = children_at r c m (8 - i)

  pub from_last : (i : ℕ) → 8 - i ≡ 0 → from i ≡ []
  unfolding children_at
  from_last i e = rw e

  split : (left : ℕ) → children_at r c m (suc left) ≡ part_at r m (pointer_at c m (7 - left)) ++ children_at r c m left
  unfolding children_at
  split left = refl

  -- the child that comes, and those behind it
  next : (i : ℕ) → i < 8 → from i ≡ part_at r m (pointer_at c m i) ++ from (i + 1)
  next i h =
      let e : 8 - i ≡ suc (7 - i) = omega arith in
      let f : 8 - (i + 1) ≡ 7 - i = omega arith in
      let g : 7 - (7 - i) ≡ i = omega arith in
      ap (children_at r c m) e ∙ split (7 - i) ∙ ap₂ (λ (j n : ℕ). part_at r m (pointer_at c m j) ++ children_at r c m n) g (sym f)

  module _ (i : ℕ) (some : i < 8) where
    pub next-absent : pointer_at c m i ≡ 0 → from i ≡ from (i + 1)
    next-absent e =
        let p : ℕ = pointer_at c m i in
        next i some ∙ ap (λ (b : Bool). cond b [] (r (cell_no p) (bit_xor (tag_of p) m)) ++ from (i + 1)) (eq-eqb p 0 e)

    pub next-there : (q s : ℕ) → (pointer_at c m i ≡ 0 → ⊥) → q ≡ cell_no (pointer_at c m i) → s ≡ tag_of (pointer_at c m i) → from i ≡ r q (bit_xor s m) ++ from (i + 1)
    next-there q s e f g =
        let p : ℕ = pointer_at c m i in
        next i some ∙ ap (λ (b : Bool). cond b [] (r (cell_no p) (bit_xor (tag_of p) m)) ++ from (i + 1)) (ne_eqb p 0 e)
        ∙ ap₂ (λ (x y : ℕ). r x (bit_xor y m) ++ from (i + 1)) (sym f) (sym g)
