-- A scene's search is that of the cell that its root pointer names; an empty scene and a box without a voxel enter nothing. And the whole outcome of a
-- scene that can be asked. By cases on the tests. Assumes nothing.
use mathlib.Core.Path.{◌≡◌, refl, sym, ap, ap₂, ◌∙◌}
use mathlib.Core.Bool.{Bool, true, false, cond, not, ◌||◌}
use mathlib.Core.List.{List, [], ◌∷◌, map}
use Prim.Native.Nat.{ℕ, ◌-◌, ◌^◌}
use lib.Bits.{bit_xor, xor_zero_r}
use lib.Dec.{eqb}
use borrow.Author.Tests.{eq-eqb, ne_eqb}
use Rattle.paper.specs.Rooms.{Point, has_voxel}
use Rattle.paper.specs.Store.{kept_of, cell_no, tag_of}
use Rattle.paper.specs.Answers.{Told, told, outcome, number_of}
use Rattle.paper.specs.Calls.{axis_outside, box_outside}
use Rattle.paper.specs.Anything.{cell_search, box_search, search_damaged, search_told, scene_search, any_damaged, any_outcome}
use Rattle.paper.specs.declared.Refusal.{Refusal}
use Rattle.paper.specs.Anything.{Search, Met, Passed, Damaged}
use Rattle.laws.proofs.Tests.{true-T}
use Rattle.store_entry.specs.Entry.{past_entry}
use Rattle.store_entry.specs.Entry.{Refused}
use Rattle.store_entry.proofs.Asked.{refused_by}
use Rattle.store_entry.proofs.Entries.{Entered, Says, past-outside, past-inside, past-settled}
use Rattle.search.specs.Searching.{search_answer, any_told}

-- ---- a room of depth D: the cell that its root pointer p names

module _ (ws : List ℕ) (D p : ℕ) (low high : Point) where
  -- by the two tests
  abbrev search_by_tests : Bool → Bool → Search
  search_by_tests v a = cond v (cond a (Passed 0) (cell_search (kept_of ws) (D - 2) (cell_no p) (bit_xor (tag_of p) 0) low high)) (Passed 0)

  by_tests : search_by_tests (has_voxel low high) (eqb p 0) ≡ box_search (kept_of ws) D p low high
  unfolding box_search
  by_tests = refl

  none : (v : Bool) → Passed 0 ≡ search_by_tests v true
  none true = refl
  none false = refl

  pub scene-empty : p ≡ 0 → Passed 0 ≡ box_search (kept_of ws) D p low high
  scene-empty z = none (has_voxel low high) ∙ ap (search_by_tests (has_voxel low high)) (sym (eq-eqb p 0 z)) ∙ by_tests

  pub scene-none : has_voxel low high ≡ false → Passed 0 ≡ box_search (kept_of ws) D p low high
  scene-none e = ap (λ (v : Bool). search_by_tests v (eqb p 0)) (sym e) ∙ by_tests

  pub scene-some : (p ≡ 0 → ⊥) → has_voxel low high ≡ true → cell_search (kept_of ws) (D - 2) (cell_no p) (tag_of p) low high ≡ box_search (kept_of ws) D p low high
  scene-some there e =
      ap (λ (t : ℕ). cell_search (kept_of ws) (D - 2) (cell_no p) t low high) (sym (xor_zero_r (tag_of p)))
      ∙ sym (ap₂ search_by_tests e (ne_eqb p 0 there))
      ∙ by_tests

-- a refusal's values, whatever the search gives
zeros : (s : Search) → map {B = ℕ} (λ x. 0) (search_told s) ≡ 0 ∷ 0 ∷ []
zeros (Met e) = refl
zeros (Passed e) = refl
zeros Damaged = refl

module _ (ws : List ℕ) (n : ℕ) (low high : Point) where
  -- ---- told past the scene's tests

  told-outside : box_outside ws n low high ≡ true → told 10 (0 ∷ 0 ∷ []) ≡ any_told ws n low high
  told-outside e =
      ap (told 10) (sym (zeros (scene_search ws n low high)))
      ∙ past-outside (box_outside ws n low high) (any_damaged ws n low high) (search_told (scene_search ws n low high)) (true-T e)

  told-search : box_outside ws n low high ≡ false → search_answer (scene_search ws n low high) ≡ any_told ws n low high
  unfolding any_damaged
  told-search e = same (scene_search ws n low high) ∙ past-inside (box_outside ws n low high) (any_damaged ws n low high) (search_told (scene_search ws n low high)) (true-T (ap not e))
    where
      same : (s : Search) → search_answer s ≡ past_entry false (search_damaged s) (search_told s)
      same (Met x) = refl
      same (Passed x) = refl
      same Damaged = refl

  -- ---- the whole outcome

  any_settled : {D p : ℕ} → Entered ws n D p → outcome (any_told ws n low high) [] ≡ any_outcome ws n low high
  unfolding any_outcome
  any_settled e = past-settled e (box_outside ws n low high) (any_damaged ws n low high) (search_told (scene_search ws n low high))

  pub any-refused : (r : Refusal) → Says ws n (Refused r) → refused_by (number_of r) (0 ∷ 0 ∷ []) ≡ any_outcome ws n low high
  unfolding any_outcome
  any-refused r s =
      ap (λ (zs : List ℕ). outcome (told (number_of r) zs) []) (sym (zeros (scene_search ws n low high)))
      ∙ s (box_outside ws n low high) (any_damaged ws n low high) (search_told (scene_search ws n low high))

  -- of a scene entered, whose depth is D and root pointer p
  module _ {D p : ℕ} (e : Entered ws n D p) where
    abbrev outside_by : ℕ → Bool
    outside_by d = axis_outside (2 ^ d) low.x high.x || axis_outside (2 ^ d) low.y high.y || axis_outside (2 ^ d) low.z high.z

    outside-is : outside_by D ≡ box_outside ws n low high
    unfolding box_outside
    outside-is = ap outside_by e.depth

    search-is : box_search (kept_of ws) D p low high ≡ scene_search ws n low high
    unfolding scene_search
    search-is = ap₂ (λ (d q : ℕ). box_search (kept_of ws) d q low high) e.depth e.root

    pub entered-outside : outside_by D ≡ true → outcome (told 10 (0 ∷ 0 ∷ [])) [] ≡ any_outcome ws n low high
    entered-outside t = ap (λ (a : Told). outcome a []) (told-outside (sym outside-is ∙ t)) ∙ any_settled e

    pub entered-inside : outside_by D ≡ false → (s : Search) → s ≡ box_search (kept_of ws) D p low high → outcome (search_answer s) [] ≡ any_outcome ws n low high
    entered-inside f s is = ap (λ (a : Told). outcome a []) (ap search_answer (is ∙ search-is) ∙ told-search (sym outside-is ∙ f)) ∙ any_settled e
