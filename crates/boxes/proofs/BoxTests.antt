-- A box question past the scene's tests, and the whole outcome of a scene that can be asked.
-- By cases on the tests. Assumes nothing.
use mathlib.Core.Path.{◌≡◌, refl, sym, ap, ap₂, ◌∙◌}
use mathlib.Core.Bool.{Bool, true, false, not, ◌||◌}
use mathlib.Core.List.{List, [], ◌∷◌}
use Prim.Native.Nat.{ℕ, ◌-◌, ◌^◌}
use Rattle.paper.specs.Rooms.{Point}
use Rattle.paper.specs.Answers.{Told, told, outcome, number_of}
use Rattle.paper.specs.Questions.{box_tally, tally_damaged, tally_solid}
use Rattle.paper.specs.Calls.{axis_outside, box_outside, scene_tally, box_damaged, box_outcome}
use Rattle.paper.specs.declared.Refusal.{Refusal}
use Rattle.paper.specs.Questions.{Tally}
use Rattle.paper.specs.Questions.{Solid, Damaged}
use Rattle.laws.proofs.Tests.{true-T}
use Rattle.boxes.specs.Box.{pointer_in, tally_told, box_told}
use Rattle.store_entry.specs.Entry.{Refused}
use Rattle.store_entry.specs.Entry.{past_entry}
use Rattle.store_entry.proofs.Asked.{refused_by}
use Rattle.store_entry.proofs.Entries.{Entered, Says, past-outside, past-inside, past-settled}

-- ---- told past the scene's tests

-- a tally told
same : (t : Tally) → tally_told t ≡ past_entry false (tally_damaged t) (tally_solid t ∷ [])
same Damaged = refl
same (Solid n) = refl

module _ (ws : List ℕ) (n : ℕ) (low high : Point) where
  -- the value told
  abbrev values : List ℕ
  values = tally_solid (scene_tally ws n low high) ∷ []

  told-outside : box_outside ws n low high ≡ true → told 10 (0 ∷ []) ≡ box_told ws n low high
  told-outside e = past-outside (box_outside ws n low high) (box_damaged ws n low high) values (true-T e)

  told-tally : box_outside ws n low high ≡ false → tally_told (scene_tally ws n low high) ≡ box_told ws n low high
  unfolding box_damaged
  told-tally e = same (scene_tally ws n low high) ∙ past-inside (box_outside ws n low high) (box_damaged ws n low high) values (true-T (ap not e))

  -- ---- the whole outcome

  box-settled : {D p : ℕ} → Entered ws n D p → outcome (box_told ws n low high) [] ≡ box_outcome ws n low high
  unfolding box_outcome
  box-settled e = past-settled e (box_outside ws n low high) (box_damaged ws n low high) values

  pub box-refused : (r : Refusal) → Says ws n (Refused r) → refused_by (number_of r) (0 ∷ []) ≡ box_outcome ws n low high
  unfolding box_outcome
  box-refused r s = s (box_outside ws n low high) (box_damaged ws n low high) values

  -- of a scene entered, whose depth is D and root pointer p
  module _ {D p : ℕ} (e : Entered ws n D p) where
    abbrev outside_by : ℕ → Bool
    outside_by d = axis_outside (2 ^ d) low.x high.x || axis_outside (2 ^ d) low.y high.y || axis_outside (2 ^ d) low.z high.z

    outside-is : outside_by D ≡ box_outside ws n low high
    unfolding box_outside
    outside-is = ap outside_by e.depth

    tally-is : pointer_in ws (D - 2) p 0 low high ≡ scene_tally ws n low high
    unfolding scene_tally box_tally
    tally-is = ap₂ (λ (d q : ℕ). pointer_in ws (d - 2) q 0 low high) e.depth e.root

    pub entered-outside : outside_by D ≡ true → outcome (told 10 (0 ∷ [])) [] ≡ box_outcome ws n low high
    entered-outside t = ap (λ (a : Told). outcome a []) (told-outside (sym outside-is ∙ t)) ∙ box-settled e

    pub entered-inside : outside_by D ≡ false → (t : Tally) → t ≡ pointer_in ws (D - 2) p 0 low high → outcome (tally_told t) [] ≡ box_outcome ws n low high
    entered-inside f t is = ap (λ (a : Told). outcome a []) (ap tally_told (is ∙ tally-is) ∙ told-tally (sym outside-is ∙ f)) ∙ box-settled e
