-- The four ways through outline out, in the code's words: the store is damaged, there is no such scene, the output is too short, the file is
-- written. Each by the values of the three tests, at which the outcome computes. Assumes nothing.
use mathlib.Core.Path.{◌≡◌, refl, sym, ap, ap₂, ◌∙◌}
use mathlib.Core.Bool.{Bool, true, false, not, ◌||◌}
use mathlib.Core.List.{List, [], ◌∷◌}
use Prim.Native.Nat.{ℕ, ◌≤◌, ◌<◌, min}
use native.Mathlib.Omega.{arith}
use lib.Dec.{ltb}
use lib.ListN.{length}
use borrow.Author.Tests.{lt-ltb, le-ltb, ltb-false}
use Rattle.paper.specs.Outline.{longest}
use Rattle.paper.specs.Store.{store_ok}
use Rattle.paper.specs.Answers.{Outcome, outcome, number_of, written}
use Rattle.paper.specs.Order.{when, first_number, settled}
use Rattle.paper.specs.Calls.{over, no_scene, outline_bytes, outline_short, outline_outcome}
use Rattle.paper.specs.declared.Refusal.TheVariants.{DamagedStore, NoScene, OutputShort}
use Rattle.std.specs.Prelude.{Ok, Err}
use Rattle.laws.proofs.Tests.{T_true}
use Rattle.laws.proofs.Undamaged.{held-there}
use Rattle.outline_out.specs.File.{Scene}

-- one of two numbers is below a third exactly where the smaller one is
either-below : (a b n : ℕ) → min a b < n → (ltb a n || ltb b n) ≡ true
either-below a b n h = go (ltb a n) refl
  where
    go : (t : Bool) → ltb a n ≡ t → (t || ltb b n) ≡ true
    go true e = refl
    go false e = lt-ltb b n (omega (arith, ltb-false a n e))

neither-below : (a b n : ℕ) → n ≤ min a b → (ltb a n || ltb b n) ≡ false
neither-below a b n h = ap₂ (λ (s t : Bool). s || t) (le-ltb a n (omega arith)) (le-ltb b n (omega arith))

module _ (ws : List ℕ) (n : ℕ) (out : List ℕ) where
  -- the outcome by what the tests say of the store, the scene and the output
  abbrev by_tests : Bool → Bool → Bool → Outcome
  by_tests p q s =
      settled (first_number (when (not p) (number_of DamagedStore) ∷ when q (number_of NoScene) ∷ when s (number_of OutputShort) ∷ []))
      (length (outline_bytes ws n) ∷ []) (over (outline_bytes ws n) out ∷ []) (out ∷ [])

  whole : by_tests (store_ok ws) (no_scene ws n) (outline_short ws n out) ≡ outline_outcome ws n out
  unfolding outline_outcome
  whole = refl

  pub damaged : store_ok ws ≡ false → outcome (written (Err DamagedStore)) (out ∷ []) ≡ outline_outcome ws n out
  unfolding first_number settled
  damaged e = ap (λ (p : Bool). by_tests p (no_scene ws n) (outline_short ws n out)) (sym e) ∙ whole

  pub no_scene_lem : store_ok ws ≡ true → no_scene ws n ≡ true → outcome (written (Err NoScene)) (out ∷ []) ≡ outline_outcome ws n out
  unfolding first_number settled
  no_scene_lem e h = ap₂ (λ (p q : Bool). by_tests p q (outline_short ws n out)) (sym e) (sym h) ∙ whole

  module _ (scene : Scene ws n) where
    at_length : (s : Bool) → outline_short ws n out ≡ s → by_tests true false s ≡ outline_outcome ws n out
    at_length s e = let ok : store_ok ws ≡ true = T_true scene.whole in (λ i. by_tests (sym ok i) (sym (held-there ws n scene.held) i) (sym e i)) ∙ whole

    pub too_short : min (length out) longest < length (outline_bytes ws n) → outcome (written (Err OutputShort)) (out ∷ []) ≡ outline_outcome ws n out
    unfolding first_number settled outline_short
    too_short h = at_length true (either-below (length out) longest (length (outline_bytes ws n)) h)

    pub in_order : length (outline_bytes ws n) ≤ min (length out) longest
        → outcome (written (Ok (length (outline_bytes ws n)))) (over (outline_bytes ws n) out ∷ []) ≡ outline_outcome ws n out
    unfolding first_number settled outline_short
    in_order h = at_length false (neither-below (length out) longest (length (outline_bytes ws n)) h)
