-- A symmetry gathered from its last bit down, in the loop's words: none yet, room for one bit more, one bit more, all eight.
-- By the laws of a number gathered so. Assumes nothing.
use mathlib.Core.Path.{◌≡◌, sym, ap, ap₂, ◌∙◌}
use mathlib.Core.Bool.{Bool}
use Prim.Native.Nat.{ℕ, ◌+◌, ◌-◌, ◌*◌, ◌^◌, ◌<◌, ◌≤◌}
use native.Mathlib.Nat.{add_comm}
use Rattle.paper.specs.Numbers.{bit_for, gather}
use Rattle.laws.specs.Symmetries.{symmetry_for}
use Rattle.laws.proofs.Bits.{bit_for-lt, gather_none, gather-down, gather-room}

-- the bits from t on
abbrev pub upper : (ℕ → Bool) → ℕ → ℕ
upper p t = gather t (8 - t) (λ j. bit_for (p j))

pub upper-none : (p : ℕ → Bool) → 0 ≡ upper p 8
upper-none p = sym (gather_none 8 (λ j. bit_for (p j)))

module _ (p : ℕ → Bool) (t m : ℕ) (e : m ≡ upper p t) where
  pub upper-room : (t ≡ 0 → ⊥) → t ≤ 8 → 2 * m + 1 < 2 ^ 8
  upper-room z h = rw e (gather-room 8 t (λ j. bit_for (p j)) (λ j. bit_for-lt (p j)) z h)

  pub upper-more : (b : ℕ) → b ≡ bit_for (p (t - 1)) → (t ≡ 0 → ⊥) → t ≤ 8 → 2 * m + b ≡ upper p (t - 1)
  upper-more b s z h =
      ap₂ (λ (x y : ℕ). 2 * x + y) e s ∙ add_comm (2 * upper p t) (bit_for (p (t - 1))) ∙ sym (gather-down 8 t (λ j. bit_for (p j)) z h)

  pub upper-all : t ≡ 0 → m ≡ symmetry_for p
  unfolding symmetry_for
  upper-all z = e ∙ ap (upper p) z
