-- A cell matches another under t exactly where it matches the other mirrored by t under 0. Pointer by pointer: the tag that is changed by t stands for the
-- mirror. And the symmetry of a leaf. Assumes nothing.
use mathlib.Core.Path.{◌≡◌, refl, sym, ap, ◌∙◌}
use mathlib.Core.Bool.{Bool, true, false}
use mathlib.Core.List.{List}
use Prim.Native.Nat.{ℕ, ◌<◌}
use borrow.Author.Tests.{eqb-true, eqb-false, ne_eqb}
use lib.Bits.{bit_xor, xor_zero_r}
use lib.Dec.{eqb}
use lib.ListN.{get_or}
use Rattle.paper.specs.Numbers.{all_below}
use Rattle.paper.specs.Leaf.{mirror_leaf}
use Rattle.paper.specs.Store.{Cell, tag_of, cell_no}
use Rattle.paper.specs.Match.{pointer_match, matches, leaf_cell}
use Rattle.paper.specs.Claims.{turned}
use Rattle.laws.proofs.Tests.{all_same}
use Rattle.laws.proofs.Eight.{xor8-lt, xor8-assoc}
use Rattle.laws.proofs.Matching.{tag-lt}
use Rattle.laws.proofs.AddingTrees.{leaf-words}
use Rattle.laws.proofs.Keys.{HasNumber}
use Rattle.laws.specs.Chains.{NamesCells}
use Rattle.laws.specs.Symmetries.{symmetry_for, marked, symmetry_match, symmetry_of}
use Rattle.laws.proofs.Symmetries.{symmetry-same}
use Rattle.store_pointers.proofs.Turned.{turned_none, turned-some, tag-turned, number-turned}
use Rattle.add_seek.proofs.SymmetryWays.{pair}

-- ---- one pointer

-- p matches w under 0 as it does q under t, if w names the same cell and its mirror is joined by t
joined : (self : ℕ → ℕ → Bool) (t p q w : ℕ) → t < 8 → (q ≡ 0 → ⊥) → (w ≡ 0 → ⊥) → cell_no w ≡ cell_no q → tag_of w ≡ bit_xor (tag_of q) t
    → pointer_match self 0 p w ≡ pointer_match self t p q
unfolding pointer_match
joined self t p q w ht n m number tag =
    let x : bit_xor (bit_xor (tag_of p) (bit_xor (tag_of q) t)) 0 ≡ bit_xor (bit_xor (tag_of p) (tag_of q)) t =
    xor_zero_r (bit_xor (tag_of p) (bit_xor (tag_of q) t)) ∙ sym (xor8-assoc (tag_of p) (tag_of q) t (tag-lt p) (tag-lt q) ht) in
    rw (ne_eqb w 0 m, ne_eqb q 0 n, number, tag, x)

-- so does the mirrored pointer
module _ (self : ℕ → ℕ → Bool) (t p q : ℕ) (ht : t < 8) (number : HasNumber q) where
  pointer-turned : pointer_match self 0 p (turned t q) ≡ pointer_match self t p q
  unfolding pointer_match
  pointer-turned = go (eqb q 0) refl
    where
      go : (b : Bool) → eqb q 0 ≡ b → pointer_match self 0 p (turned t q) ≡ pointer_match self t p q
      go true e = rw (turned_none t q (eqb-true q 0 e), eqb-true q 0 e)
      go false e =
          let n : q ≡ 0 → ⊥ = eqb-false q 0 e in
          joined self t p q (turned t q) ht n (turned-some t q n (number n)) (number-turned t q n) (tag-turned t q n ht)

-- ---- all eight

-- pointer i of a against that of b mirrored by t
abbrev pub pair_at : List ℕ → Cell → Cell → ℕ → ℕ → Bool
pair_at ms a b t i = pair (get_or ms i 0) (get_or a i 0) (turned t (get_or b (bit_xor i t) 0))

pub match-pairs : (ms : List ℕ) (a b : Cell) (t : ℕ) → t < 8 → NamesCells b → symmetry_match ms a b t ≡ all_below 8 (pair_at ms a b t)
unfolding symmetry_match
match-pairs ms a b t ht names =
    all_same 8 (λ i. pointer_match (λ q u. marked (get_or ms i 0) u) t (get_or a i 0) (get_or b (bit_xor i t) 0)) (pair_at ms a b t)
    (λ i h. sym (pointer-turned (λ q u. marked (get_or ms i 0) u) t (get_or a i 0) (get_or b (bit_xor i t) 0) ht (names (bit_xor i t) (xor8-lt i t h ht))))

-- ---- a leaf

leaf-match : (K : List (List Cell)) (leaf t : ℕ) → matches K 0 (leaf_cell leaf) (leaf_cell leaf) t ≡ eqb leaf (mirror_leaf t leaf)
unfolding matches
leaf-match K leaf t = ap (λ (n : ℕ). eqb n (mirror_leaf t n)) (leaf-words leaf)

pub leaf-symmetry-of : (K : List (List Cell)) (leaf : ℕ) → symmetry_for (λ t. eqb leaf (mirror_leaf t leaf)) ≡ symmetry_of K 0 (leaf_cell leaf)
leaf-symmetry-of K leaf =
    symmetry-same (λ t. eqb leaf (mirror_leaf t leaf)) (matches K 0 (leaf_cell leaf) (leaf_cell leaf)) (λ t h. sym (leaf-match K leaf t))
