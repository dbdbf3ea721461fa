-- The ways through the test of two pointers under mirror 0, in the code's words, each by the value of the tests passed.
-- Assumes nothing.
use mathlib.Core.Path.{◌≡◌}
use mathlib.Core.Bool.{Bool, false}
use Prim.Native.Nat.{ℕ}
use borrow.Author.Tests.{eq-eqb, ne_eqb}
use lib.Bits.{bit_xor, xor_zero_r}
use lib.Dec.{eqb}
use Rattle.paper.specs.Store.{tag_of, cell_no}
use Rattle.paper.specs.Match.{pointer_match}
use Rattle.laws.specs.Symmetries.{marked}

module _ (m p q : ℕ) where
  abbrev pub pair : Bool
  pair = pointer_match (λ n u. marked m u) 0 p q

  pub pair-none : p ≡ 0 → pair ≡ eqb q 0
  unfolding pointer_match
  pair-none e = rw (eq-eqb p 0 e)

  pub pair-half : (p ≡ 0 → ⊥) → q ≡ 0 → pair ≡ false
  unfolding pointer_match
  pair-half n e = rw (ne_eqb p 0 n, eq-eqb q 0 e)

  pub pair-other : (p ≡ 0 → ⊥) → (q ≡ 0 → ⊥) → (cell_no p ≡ cell_no q → ⊥) → pair ≡ false
  unfolding pointer_match
  pair-other n o d = rw (ne_eqb p 0 n, ne_eqb q 0 o, ne_eqb (cell_no p) (cell_no q) d)

  pub pair_turn : (p ≡ 0 → ⊥) → (q ≡ 0 → ⊥) → cell_no p ≡ cell_no q → pair ≡ marked m (bit_xor (tag_of p) (tag_of q))
  unfolding pointer_match
  pair_turn n o e = rw (ne_eqb p 0 n, ne_eqb q 0 o, eq-eqb (cell_no p) (cell_no q) e, xor_zero_r (bit_xor (tag_of p) (tag_of q)))
