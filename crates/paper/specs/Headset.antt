-- Document 02, request 12, 'The headset profile': a check and a packing for readers of 16-bit pointers with room for depth 10. Definitions only.
use Rattle.std.specs.Prelude.{Bool, cond, not, ◌&&◌, List, [], ◌∷◌, ℕ, ltb, length}
use Rattle.paper.specs.Numbers.{is_in}
use Rattle.paper.specs.Outline.{file_depth}
use Rattle.paper.specs.Store.{scene_depth, store_ok}
use Rattle.paper.specs.Packed.{packed_rules, all_short, proper}
use Rattle.paper.specs.Answers.{Outcome}
use Rattle.paper.specs.Order.{Test, when, first_number, settled}
use Rattle.paper.specs.Calls.{over, cleared, no_scene, scratch_for, pack_bytes, pack_short, packed_order}

-- the deepest scene that the headset has room for
abbrev pub headset_depth : ℕ
headset_depth = 10

-- refusal 14 ('depth above 10'), an empty scene's too
abbrev pub too_deep : ℕ → Bool
too_deep D = ltb headset_depth D

-- a packed scene meets the profile ('exactly when')
unfoldable pub meets_headset : List ℕ → Bool
meets_headset file = proper file && not (too_deep (file_depth file)) && all_short file

-- ---- the check

-- the order: the packed check's, then 14 and 15 ('after 6')
abbrev pub headset_check_order : List ℕ → List ℕ → List Test
headset_check_order file scratch =
    when (ltb (length scratch) (length file)) 11
    ∷ packed_order file (when (not (packed_rules file)) 6 ∷ when (too_deep (file_depth file)) 14 ∷ when (not (all_short file)) 15 ∷ [])

-- the scratch after a refusal ('zero after both'): cleared after 6, 14 and 15, as it was after the others
abbrev pub headset_check_scratch_after : ℕ → List ℕ → List ℕ → List ℕ
headset_check_scratch_after number file scratch = cond (is_in number (6 ∷ 14 ∷ 15 ∷ [])) (cleared (length file) scratch) scratch

unfoldable pub headset_check_outcome : List ℕ → List ℕ → Outcome
headset_check_outcome file scratch =
    let number : ℕ = first_number (headset_check_order file scratch) in
    settled number (file_depth file ∷ []) (cleared (length file) scratch ∷ []) (headset_check_scratch_after number file scratch ∷ [])

-- ---- the packing

-- the order: pack's, with 14 and 15 'after 11 and before 12'; 15 where the ordinary bytes have a long pointer
abbrev pub headset_pack_order : List ℕ → ℕ → List ℕ → List ℕ → List Test
headset_pack_order ws n scratch out =
    when (not (store_ok ws)) 2 ∷ when (no_scene ws n) 9 ∷ when (ltb (length scratch) (scratch_for ws)) 11 ∷ when (too_deep (scene_depth ws n)) 14
    ∷ when (not (all_short (pack_bytes ws n))) 15 ∷ when (pack_short ws n out) 12 ∷ []

-- the scratch after a refusal: cleared after 14, 15 and 12, as it was after the others
abbrev pub headset_pack_scratch_after : ℕ → List ℕ → List ℕ → List ℕ
headset_pack_scratch_after number ws scratch = cond (is_in number (12 ∷ 14 ∷ 15 ∷ [])) (cleared (scratch_for ws) scratch) scratch

-- 'the ordinary bytes'
unfoldable pub headset_pack_outcome : List ℕ → ℕ → List ℕ → List ℕ → Outcome
headset_pack_outcome ws n scratch out =
    let number : ℕ = first_number (headset_pack_order ws n scratch out) in
    settled number (length (pack_bytes ws n) ∷ []) (cleared (scratch_for ws) scratch ∷ over (pack_bytes ws n) out ∷ [])
    (headset_pack_scratch_after number ws scratch ∷ out ∷ [])
