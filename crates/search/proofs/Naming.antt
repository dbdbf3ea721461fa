-- The first of a cell's children that names the same cell as child i, sought from the first on. Assumes nothing.
use mathlib.Core.Path.{◌≡◌, sym, ap, ap₂, ◌∙◌, subst}
use mathlib.Core.Bool.{Bool, true, false, ◌&&◌, not, false≢true}
use mathlib.Core.Logic.{◌⊎◌, inl, inr}
use Prim.Native.Nat.{ℕ, ◌+◌, ◌<◌, ◌≤◌}
use native.Mathlib.Nat.{not-suc-le-zero, eq-or-lt_of_le}
use native.Mathlib.Omega.{arith}
use lib.Bits.{bit_xor}
use lib.Dec.{T, eqb, eqb→eq}
use lib.ListN.{get_or}
use borrow.Author.Tests.{eq-eqb, ne_eqb}
use Rattle.paper.specs.Store.{Cell, cell_no}
use Rattle.laws.proofs.Tests.{true-T, and_left, and_right}
use Rattle.search.specs.Searching.{Names, FirstNamed}

-- none before j does
abbrev pub NoneBefore : Cell → ℕ → ℕ → ℕ → Type 0
NoneBefore c m i j = (l : ℕ) → l < j → Names c m i l → ⊥

module _ (c : Cell) (m i : ℕ) where
  pub none_yet : NoneBefore c m i 0
  none_yet l h n = not-suc-le-zero h

  pub none_more : (j : ℕ) → NoneBefore c m i j → (Names c m i j → ⊥) → NoneBefore c m i (j + 1)
  none_more j none z l h n = go (eq-or-lt_of_le (omega arith))
    where
      go : (l ≡ j) ⊎ (l < j) → ⊥
      go (inl e) = z (subst (Names c m i) e n)
      go (inr a) = none l a n

  -- as the code tests it
  abbrev pub names_test : ℕ → Bool
  names_test l = not (eqb (get_or c (bit_xor l m) 0) 0) && eqb (cell_no (get_or c (bit_xor l m) 0)) (cell_no (get_or c (bit_xor i m) 0))

  pub test-names : (l : ℕ) → names_test l ≡ true → Names c m i l
  test-names l e =
      let p : ℕ = get_or c (bit_xor l m) 0 in
      let t : Bool = eqb (cell_no p) (cell_no (get_or c (bit_xor i m) 0)) in
      record {
        there = λ z. not-self (eqb p 0) (eq-eqb p 0 z) (and_left (not (eqb p 0)) t (true-T e));
        same = eqb→eq (cell_no p) (cell_no (get_or c (bit_xor i m) 0)) (and_right (not (eqb p 0)) t (true-T e));
      }
    where
      not-self : (b : Bool) → b ≡ true → T (not b) → ⊥
      not-self true e t = t
      not-self false e t = false≢true e

  pub names_test_lem : (l : ℕ) → names_test l ≡ false → Names c m i l → ⊥
  names_test_lem l e n =
      let p : ℕ = get_or c (bit_xor l m) 0 in
      let there : not (eqb p 0) ≡ true = ap not (ne_eqb p 0 n.there) in
      false≢true (sym e ∙ ap₂ (λ (x y : Bool). x && y) there (eq-eqb (cell_no p) (cell_no (get_or c (bit_xor i m) 0)) n.same))

  pub found_first : (j : ℕ) → j ≤ i → NoneBefore c m i j → (j < i → Names c m i j) → FirstNamed c m i j
  found_first j h none n = record { up_to = h; named = n; first = none }
