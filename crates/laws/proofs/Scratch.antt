-- What the scratch of pack and of check holds after each answer, for claim C11. By cases on the tests of their orders. Assumes nothing.
use mathlib.Core.Path.{◌≡◌, refl}
use mathlib.Core.Bool.{Bool, true, false, cond, not}
use mathlib.Core.List.{List, [], ◌∷◌}
use Prim.Native.Nat.{ℕ}
use lib.Dec.{eqb, ltb}
use lib.ListN.{length, get_or}
use Rattle.paper.specs.Numbers.{is_in}
use Rattle.paper.specs.Rooms.{depth_ok}
use Rattle.paper.specs.Outline.{file_depth, version_ok, length_ok}
use Rattle.paper.specs.Store.{store_ok}
use Rattle.paper.specs.Packed.{packed_version, packed_head, packed_rules}
use Rattle.paper.specs.Answers.{Outcome}
use Rattle.paper.specs.Order.{when, first_number, settled}
use Rattle.paper.specs.Calls.{over, cleared, no_scene, scratch_for, pack_bytes, pack_short, pack_outcome, check_outcome}

-- the outcome of pack by its tests; zeros: the scratch cleared
abbrev packed : Bool → Bool → Bool → Bool → List ℕ → List ℕ → List ℕ → List ℕ → List ℕ → Outcome
packed s n a b vs scratch zeros file out =
    let number : ℕ = first_number (when (not s) 2 ∷ when n 9 ∷ when a 11 ∷ when b 12 ∷ []) in
    settled number vs (zeros ∷ file ∷ []) (cond (eqb number 12) zeros scratch ∷ out ∷ [])

packed-scratch : (s n a b : Bool) (vs scratch zeros file out : List ℕ)
    → get_or (packed s n a b vs scratch zeros file out).lent 0 [] ≡ cond (is_in (packed s n a b vs scratch zeros file out).number (2 ∷ 9 ∷ 11 ∷ [])) scratch zeros
unfolding first_number settled is_in
packed-scratch false n a b vs scratch zeros file out = refl
packed-scratch true true a b vs scratch zeros file out = refl
packed-scratch true false true b vs scratch zeros file out = refl
packed-scratch true false false true vs scratch zeros file out = refl
packed-scratch true false false false vs scratch zeros file out = refl

pub pack_scratch_lem : (ws : List ℕ) (n : ℕ) (scratch out : List ℕ)
    → get_or (pack_outcome ws n scratch out).lent 0 [] ≡ cond (is_in (pack_outcome ws n scratch out).number (2 ∷ 9 ∷ 11 ∷ [])) scratch (cleared (scratch_for ws) scratch)
unfolding pack_outcome
pack_scratch_lem ws n scratch out =
    packed-scratch (store_ok ws) (no_scene ws n) (ltb (length scratch) (scratch_for ws)) (pack_short ws n out) (length (pack_bytes ws n) ∷ []) scratch (cleared (scratch_for ws) scratch)
    (over (pack_bytes ws n) out) out

-- the outcome of check by its tests
abbrev checked : Bool → Bool → Bool → Bool → Bool → List ℕ → List ℕ → List ℕ → Outcome
checked s a b c d vs scratch zeros =
    let number : ℕ = first_number (when s 11 ∷ when (not a) 3 ∷ when (not b) 4 ∷ when (not c) 5 ∷ when (not d) 6 ∷ []) in
    settled number vs (zeros ∷ []) (cond (eqb number 6) zeros scratch ∷ [])

checked-scratch : (s a b c d : Bool) (vs scratch zeros : List ℕ)
    → get_or (checked s a b c d vs scratch zeros).lent 0 [] ≡ cond (is_in (checked s a b c d vs scratch zeros).number (0 ∷ 6 ∷ [])) zeros scratch
unfolding first_number settled is_in
checked-scratch true a b c d vs scratch zeros = refl
checked-scratch false false b c d vs scratch zeros = refl
checked-scratch false true false c d vs scratch zeros = refl
checked-scratch false true true false d vs scratch zeros = refl
checked-scratch false true true true false vs scratch zeros = refl
checked-scratch false true true true true vs scratch zeros = refl

pub check_scratch : (file scratch : List ℕ)
    → get_or (check_outcome file scratch).lent 0 [] ≡ cond (is_in (check_outcome file scratch).number (0 ∷ 6 ∷ [])) (cleared (length file) scratch) scratch
unfolding check_outcome
check_scratch file scratch =
    checked-scratch (ltb (length scratch) (length file)) (version_ok packed_version file) (length_ok packed_head file) (depth_ok (file_depth file)) (packed_rules file) (file_depth file ∷ []) scratch
    (cleared (length file) scratch)
