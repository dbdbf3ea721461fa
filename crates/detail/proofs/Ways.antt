-- The three ways through the detail rule, in the code's words: the depth is refused, the wish is refused, a height is given.
-- Each by the value of the two tests of `detail_order`, at which the outcome computes. Assumes nothing.
use mathlib.Core.Path.{◌≡◌, refl, sym, ap, ap₂, ◌∙◌}
use mathlib.Core.Bool.{Bool, true, false, not}
use mathlib.Core.List.{[], ◌∷◌}
use Prim.Native.Nat.{ℕ}
use lib.Dec.{T}
use Rattle.std.specs.Prelude.{Ok, Err}
use Rattle.paper.specs.Rooms.{depth_ok}
use Rattle.paper.specs.Answers.{Outcome, outcome, number_of, chosen}
use Rattle.paper.specs.Order.{when, first_number, settled}
use Rattle.paper.specs.Detail.{wish_ok, height_for, detail_outcome}
use Rattle.paper.specs.declared.Refusal.TheVariants.{BadDepth, BadWish}
use Rattle.paper.specs.declared.Wish.{Wish}
use Rattle.laws.proofs.Tests.{T_true}

-- the outcome for a height h, by what the tests of the depth and of the wish say
abbrev by_tests : ℕ → Bool → Bool → Outcome
by_tests h p q = settled (first_number (when (not p) (number_of BadDepth) ∷ when (not q) (number_of BadWish) ∷ [])) (h ∷ []) [] []

module _ (D : ℕ) (w : Wish) where
  whole : by_tests (height_for D w) (depth_ok D) (wish_ok w) ≡ detail_outcome D w
  unfolding detail_outcome
  whole = refl

  pub bad-depth : depth_ok D ≡ false → outcome (chosen (Err BadDepth)) [] ≡ detail_outcome D w
  unfolding first_number settled
  bad-depth e = ap (λ (p : Bool). by_tests (height_for D w) p (wish_ok w)) (sym e) ∙ whole

  pub bad-wish : T (depth_ok D) → wish_ok w ≡ false → outcome (chosen (Err BadWish)) [] ≡ detail_outcome D w
  unfolding first_number settled
  bad-wish t v = ap₂ (by_tests (height_for D w)) (sym (T_true {b = depth_ok D} t)) (sym v) ∙ whole

  pub in_order : T (depth_ok D) → wish_ok w ≡ true → outcome (chosen (Ok (height_for D w))) [] ≡ detail_outcome D w
  unfolding first_number settled
  in_order t v = ap₂ (by_tests (height_for D w)) (sym (T_true {b = depth_ok D} t)) (sym v) ∙ whole
