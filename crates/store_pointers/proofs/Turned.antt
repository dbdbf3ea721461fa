-- A pointer mirrored by t: its tag changes by exclusive or and its low part stays, so that a pointer that names a cell still does. By the exclusive or of a
-- number in two parts. Assumes nothing.
use Rattle.std.proofs.Common.{◌≡◌, ℕ, ◌+◌, ◌-◌, ◌*◌, ◌^◌, ◌<◌, ◌≤◌, sym, ap, ◌∙◌, ap₂, arith, eq-eqb, ne_eqb}
use lib.Bits.{bit_xor, xor_block, xor_zero_r}
use Rattle.paper.specs.Store.{tag_unit, tag_of, low_of, cell_no}
use Rattle.paper.specs.Claims.{turned}
use Rattle.laws.proofs.Eight.{xor8-lt}
use Rattle.laws.proofs.Matching.{tag-lt}

pub turned_none : (t p : ℕ) → p ≡ 0 → turned t p ≡ 0
turned_none t p e = rw (eq-eqb p 0 e)

module _ (t p : ℕ) (some : p ≡ 0 → ⊥) where
  pub turned-parts : turned t p ≡ bit_xor (tag_of p) t * tag_unit + low_of p
  turned-parts = rw (ne_eqb p 0 some)

  -- the whole word changed at once
  pub turned-word : p < 2 ^ 32 → turned t p ≡ bit_xor p (t * 536870912)
  turned-word h =
      let parts : tag_of p * 2 ^ 29 + low_of p ≡ p = omega arith in
      let turn : t * 2 ^ 29 + 0 ≡ t * 536870912 = omega arith in
      turned-parts ∙ ap (λ (n : ℕ). bit_xor (tag_of p) t * 2 ^ 29 + n) (sym (xor_zero_r (low_of p)))
      ∙ sym (xor_block 29 (tag_of p) t (low_of p) 0 (omega arith) (omega arith)) ∙ ap₂ bit_xor parts turn

  pub low-turned : low_of (turned t p) ≡ low_of p
  low-turned = let u : ℕ = bit_xor (tag_of p) t in omega (arith, turned-parts)

  pub number-turned : cell_no (turned t p) ≡ cell_no p
  number-turned = ap (λ (n : ℕ). n - 1) low-turned

  pub tag-turned : t < 8 → tag_of (turned t p) ≡ bit_xor (tag_of p) t
  tag-turned h = omega (arith, turned-parts, xor8-lt (tag_of p) t (tag-lt p) h)

  -- it still names a cell
  pub turned-some : 1 ≤ low_of p → turned t p ≡ 0 → ⊥
  turned-some h e = omega (arith, low-turned)
