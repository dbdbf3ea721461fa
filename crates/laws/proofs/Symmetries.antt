-- The symmetry of a cell: bit t is set where it matches itself under t. A cell's matching and its own symmetry need its children's symmetries only,
-- the symmetry is odd, and cells that match have one symmetry. By the match rule, pointer by pointer. Assumes nothing.
use mathlib.Core.Path.{◌≡◌, refl, sym, ◌∙◌, ap}
use mathlib.Core.Bool.{Bool, true, false, cond}
use mathlib.Core.List.{List}
use Prim.Native.Nat.{ℕ, suc, ◌%◌, ◌^◌, ◌<◌}
use native.Mathlib.Nat.{div-one}
use borrow.Author.Tests.{eqb-true, eqb-false}
use lib.Bits.{bit_xor}
use lib.Dec.{T, eqb, lit<}
use lib.ListN.{get_or}
use Rattle.paper.specs.Numbers.{bit}
use Rattle.paper.specs.Store.{Cell, cell_at, tag_of, cell_no}
use Rattle.paper.specs.Match.{pointer_match, cell_match, matches}
use Rattle.laws.specs.Symmetries.{symmetry_for, symmetry_match, marked, symmetry_of, ChildSymmetries}
use Rattle.laws.proofs.Tests.{all_same, T_true}
use Rattle.laws.proofs.Bits.{tests-bit, tests-lt, tests-ext}
use Rattle.laws.proofs.Matching.{between-lt, self_at, LeafFits, match-self, self-same}

-- ---- the symmetry of tests, and of a cell

pub symmetry-lt : (p : ℕ → Bool) → symmetry_for p < 2 ^ 8
unfolding symmetry_for
symmetry-lt p = tests-lt p 8

pub symmetry-bit : (p : ℕ → Bool) (t : ℕ) → t < 8 → marked (symmetry_for p) t ≡ p t
unfolding symmetry_for
symmetry-bit p t h = tests-bit p 8 t h

pub symmetry-same : (p q : ℕ → Bool) → ((t : ℕ) → t < 8 → p t ≡ q t) → symmetry_for p ≡ symmetry_for q
symmetry-same p q e = tests-ext 8 (symmetry_for p) (symmetry_for q) (symmetry-lt p) (symmetry-lt q) (λ t h. symmetry-bit p t h ∙ e t h ∙ sym (symmetry-bit q t h))

-- 'matches itself' holds at 0, so the symmetry is odd
pub symmetry-odd : (K : List (List Cell)) → ((q : ℕ) → LeafFits 0 (cell_at K 0 q)) → (k : ℕ) (c : Cell) → LeafFits k c → symmetry_of K k c % 2 ≡ 1
symmetry-odd K fit k c h =
    let m : ℕ = symmetry_of K k c in
    ap (λ (n : ℕ). n % 2) (sym (div-one m)) ∙ eqb-true (bit m 0) 1 (symmetry-bit (matches K k c c) 0 (lit< tt) ∙ T_true {b = matches K k c c 0} (match-self K fit k c h))

-- a cell and one that it matches have the same symmetry
pub symmetry-match-same : (K : List (List Cell)) (k : ℕ) (a b : Cell) (t : ℕ) → t < 8 → LeafFits k a → LeafFits k b → T (matches K k a b t) → symmetry_of K k a ≡ symmetry_of K k b
symmetry-match-same K k a b t ht ha hb m = symmetry-same (matches K k a a) (matches K k b b) (λ u hu. self-same K k a b t u ht hu ha hb m)

-- ---- matching by symmetries

-- pointers match alike by two tests of 'matches itself' that agree where the rule asks
pub pointer-agree : (f g : ℕ → ℕ → Bool) (t p q : ℕ) → t < 8 → ((p ≡ 0 → ⊥) → (u : ℕ) → u < 8 → f (cell_no p) u ≡ g (cell_no p) u)
    → pointer_match f t p q ≡ pointer_match g t p q
unfolding pointer_match
pointer-agree f g t p q ht e = go (eqb p 0) refl
  where
    go : (b : Bool) → eqb p 0 ≡ b
        → cond b (eqb q 0) (cond (eqb q 0) false (cond (eqb (cell_no p) (cell_no q)) (f (cell_no p) (bit_xor (bit_xor (tag_of p) (tag_of q)) t)) false))
        ≡ cond b (eqb q 0) (cond (eqb q 0) false (cond (eqb (cell_no p) (cell_no q)) (g (cell_no p) (bit_xor (bit_xor (tag_of p) (tag_of q)) t)) false))
    go true h = refl
    go false h = rw (e (eqb-false p 0 h) (bit_xor (bit_xor (tag_of p) (tag_of q)) t) (between-lt t p q ht))

pub symmetry_match_lem : (K : List (List Cell)) (k : ℕ) (a b : Cell) (ms : List ℕ) (t : ℕ) → t < 8 → ChildSymmetries K k a ms → symmetry_match ms a b t ≡ matches K (suc k) a b t
unfolding symmetry_match matches cell_match
symmetry_match_lem K k a b ms t ht h =
    all_same 8 (λ i. pointer_match (λ q u. marked (get_or ms i 0) u) t (get_or a i 0) (get_or b (bit_xor i t) 0))
    (λ i. pointer_match (self_at K k) t (get_or a i 0) (get_or b (bit_xor i t) 0))
    (λ i hi. pointer-agree (λ q u. marked (get_or ms i 0) u) (self_at K k) t (get_or a i 0) (get_or b (bit_xor i t) 0) ht
    (λ ne u hu. ap (λ (m : ℕ). marked m u) (h i hi ne)
    ∙ symmetry-bit (matches K k (cell_at K k (cell_no (get_or a i 0))) (cell_at K k (cell_no (get_or a i 0)))) u hu))

-- so the cell's own symmetry comes from its children's
pub symmetry-children : (K : List (List Cell)) (k : ℕ) (a : Cell) (ms : List ℕ) → ChildSymmetries K k a ms → symmetry_for (symmetry_match ms a a) ≡ symmetry_of K (suc k) a
symmetry-children K k a ms h = symmetry-same (symmetry_match ms a a) (matches K (suc k) a a) (λ t ht. symmetry_match_lem K k a a ms t ht h)
