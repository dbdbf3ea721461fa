-- The refusals of adding before a cell is taken, in their order: the store is damaged, the file is refused by itself, 64 scenes are held. Each by the
-- number of the first test that passes. Assumes nothing.
use mathlib.Core.Path.{◌≡◌, sym, ◌∙◌, ap}
use mathlib.Core.Bool.{true, false}
use mathlib.Core.List.{List, [], ◌∷◌, ◌++◌}
use Prim.Native.Nat.{ℕ, ◌≤◌}
use native.Mathlib.Nat.{suc-ne-zero}
use borrow.Author.Tests.{le-leb}
use Rattle.paper.specs.Rooms.{depth_ok}
use Rattle.paper.specs.Outline.{outline_version, outline_head, version_ok, length_ok, file_depth, outline_rules}
use Rattle.paper.specs.Store.{most_scenes, scenes_held, store_ok}
use Rattle.std.specs.Prelude.{Err}
use Rattle.paper.specs.declared.Refusal.{Refusal}
use Rattle.paper.specs.declared.Refusal.TheVariants.{BadSize, DamagedStore, BadVersion, BadLength, BadDepth, BrokenRules, ScenesFull, CellsFull, NoScene, Outside, ScratchShort, OutputShort, BadWish, TooDeep, LongPointer}
use Rattle.paper.specs.Answers.{told, outcome, number_of, added}
use Rattle.paper.specs.Order.{Test, when, first_number}
use Rattle.paper.specs.Calls.{next_scene, scenes_full, cells_full, outline_order, add_order, add_words, add_outcome}
use Rattle.laws.proofs.Tests.{T_true}
use Rattle.laws.proofs.Outlines.{Accepted}
use Rattle.laws.proofs.OutlineClaim.{file-accepted}
use Rattle.laws.proofs.Refusals.{first-before, settled-refused}

-- ---- the file's order

-- an accepted file passes all of its tests
past-file : (file : List ℕ) → Accepted file → (ts : List Test) → first_number (outline_order file ++ ts) ≡ first_number ts
unfolding first_number
past-file file a ts =
    rw (
      T_true {b = version_ok outline_version file} a.version,
      T_true {b = length_ok outline_head file} a.long,
      T_true {b = depth_ok (file_depth file)} a.deep,
      T_true {b = outline_rules file} a.rules,
    )

held_first : (ws file : List ℕ) → most_scenes ≤ scenes_held ws → first_number (when (scenes_full ws) 7 ∷ when (cells_full ws file) 8 ∷ []) ≡ 7
unfolding first_number
held_first ws file h = rw (le-leb most_scenes (scenes_held ws) h)

-- ---- the ways

-- a refusal has a number
numbered : (r : Refusal) → number_of r ≡ 0 → ⊥
numbered BadSize = suc-ne-zero 0
numbered DamagedStore = suc-ne-zero 1
numbered BadVersion = suc-ne-zero 2
numbered BadLength = suc-ne-zero 3
numbered BadDepth = suc-ne-zero 4
numbered BrokenRules = suc-ne-zero 5
numbered ScenesFull = suc-ne-zero 6
numbered CellsFull = suc-ne-zero 7
numbered NoScene = suc-ne-zero 8
numbered Outside = suc-ne-zero 9
numbered ScratchShort = suc-ne-zero 10
numbered OutputShort = suc-ne-zero 11
numbered BadWish = suc-ne-zero 12
numbered TooDeep = suc-ne-zero 13
numbered LongPointer = suc-ne-zero 14

module _ (ws file : List ℕ) where
  refused_as : (r : Refusal) → first_number (add_order ws file) ≡ number_of r → outcome (added (Err r)) (ws ∷ []) ≡ add_outcome ws file
  unfolding add_outcome
  refused_as r e =
      ap (λ (n : ℕ). outcome (told n (0 ∷ [])) (ws ∷ [])) (sym e)
      ∙ sym (settled-refused (first_number (add_order ws file)) (next_scene ws ∷ []) (add_words ws file ∷ []) (ws ∷ []) (λ z. numbered r (sym e ∙ z)))

  pub damaged : store_ok ws ≡ false → outcome (added (Err DamagedStore)) (ws ∷ []) ≡ add_outcome ws file
  unfolding first_number
  damaged e = refused_as DamagedStore (rw e)

  module _ (sound : store_ok ws ≡ true) where
    past-damage : first_number (add_order ws file) ≡ first_number (outline_order file ++ (when (scenes_full ws) 7 ∷ when (cells_full ws file) 8 ∷ []))
    unfolding first_number
    past-damage = rw sound

    pub file-refused : (r : Refusal) → number_of r ≡ first_number (outline_order file) → outcome (added (Err r)) (ws ∷ []) ≡ add_outcome ws file
    file-refused r e =
        refused_as r (past-damage ∙ first-before (outline_order file) _ (λ z. numbered r (e ∙ z)) ∙ sym e)

    pub scenes_full_lem : first_number (outline_order file) ≡ 0 → most_scenes ≤ scenes_held ws → outcome (added (Err ScenesFull)) (ws ∷ []) ≡ add_outcome ws file
    scenes_full_lem f h = refused_as ScenesFull (past-damage ∙ past-file file (file-accepted file [] f).0 _ ∙ held_first ws file h)
