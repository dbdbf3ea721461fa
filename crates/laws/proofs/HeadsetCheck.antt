-- The headset check, for claim C17: after the packed check's tests come its own two, and the scratch is zero from the rules on. So it answers 0 exactly on files that
-- meet the profile. By cases of the tests. Assumes nothing.
use mathlib.Core.Path.{◌≡◌, refl, sym, ◌∙◌, ap}
use mathlib.Core.Bool.{Bool, true, false, false≢true, cond, not, ◌&&◌}
use mathlib.Core.List.{List, [], ◌∷◌}
use mathlib.Core.Logic.{◌↔◌}
use Prim.Native.Nat.{ℕ, zero, suc, ◌≤◌}
use native.Mathlib.Nat.{suc-ne-zero}
use lib.Dec.{eqb, ltb, eqb-suc-zero}
use lib.ListN.{length, get_or}
use Rattle.paper.specs.Numbers.{is_in}
use Rattle.paper.specs.Rooms.{depth_ok}
use Rattle.paper.specs.Outline.{file_depth, version_ok, length_ok}
use Rattle.paper.specs.Packed.{packed_version, packed_head, packed_rules, proper, all_short}
use Rattle.paper.specs.Answers.{Outcome}
use Rattle.paper.specs.Order.{Test, when, first_number, settled}
use Rattle.paper.specs.Calls.{cleared, packed_order, check_order, check_outcome}
use Rattle.paper.specs.Headset.{too_deep, meets_headset, headset_check_order, headset_check_scratch_after, headset_check_outcome}
use Rattle.paper.specs.Runs.{Bytes}
use Rattle.laws.proofs.Orders.{told-number, told-values}
use Rattle.laws.proofs.Refusals.{settled-number}
use Rattle.laws.proofs.ProperClaim.{check-passed, passed-check}

-- ---- the outcomes by the tests: scratch too short, version, length, depth, rules; then too deep, and no pointer long

abbrev five : Bool → Bool → Bool → Bool → Bool → List Test → ℕ
five s a b c d later = first_number (when s 11 ∷ when (not a) 3 ∷ when (not b) 4 ∷ when (not c) 5 ∷ when (not d) 6 ∷ later)

abbrev last : Bool → Bool → List Test
last t l = when t 14 ∷ when (not l) 15 ∷ []

abbrev check_by : Bool → Bool → Bool → Bool → Bool → List ℕ → List ℕ → List ℕ → Outcome
check_by s a b c d vs scratch zeros = let n : ℕ = five s a b c d [] in settled n vs (zeros ∷ []) (cond (eqb n 6) zeros scratch ∷ [])

abbrev headset_by : Bool → Bool → Bool → Bool → Bool → Bool → Bool → List ℕ → List ℕ → List ℕ → Outcome
headset_by s a b c d t l vs scratch zeros =
    let n : ℕ = five s a b c d (last t l) in settled n vs (zeros ∷ []) (cond (is_in n (6 ∷ 14 ∷ 15 ∷ [])) zeros scratch ∷ [])

-- refused before them, it is as the packed check
refused-by : (s a b c d t l : Bool) (vs scratch zeros : List ℕ) → (five s a b c d [] ≡ 0 → ⊥) → check_by s a b c d vs scratch zeros ≡ headset_by s a b c d t l vs scratch zeros
unfolding first_number settled is_in
refused-by true a b c d t l vs scratch zeros n = refl
refused-by false false b c d t l vs scratch zeros n = refl
refused-by false true false c d t l vs scratch zeros n = refl
refused-by false true true false d t l vs scratch zeros n = refl
refused-by false true true true false t l vs scratch zeros n = refl
refused-by false true true true true t l vs scratch zeros n = absurd (n refl)

-- else they decide, and the scratch is zero
decided-by : (s a b c d t l : Bool) (vs scratch zeros : List ℕ) → five s a b c d [] ≡ 0 → headset_by s a b c d t l vs scratch zeros ≡ settled (first_number (last t l)) vs (zeros ∷ []) (zeros ∷ [])
unfolding first_number settled is_in
decided-by true a b c d t l vs scratch zeros e = absurd (suc-ne-zero 10 e)
decided-by false false b c d t l vs scratch zeros e = absurd (suc-ne-zero 2 e)
decided-by false true false c d t l vs scratch zeros e = absurd (suc-ne-zero 3 e)
decided-by false true true false d t l vs scratch zeros e = absurd (suc-ne-zero 4 e)
decided-by false true true true false t l vs scratch zeros e = absurd (suc-ne-zero 5 e)
decided-by false true true true true true l vs scratch zeros e = refl
decided-by false true true true true false false vs scratch zeros e = refl
decided-by false true true true true false true vs scratch zeros e = refl

-- the number after those of the packed check
number_by : (s a b c d : Bool) (later : List Test) → five s a b c d later ≡ cond (eqb (five s a b c d []) 0) (first_number later) (five s a b c d [])
unfolding first_number
number_by true a b c d later = refl
number_by false false b c d later = refl
number_by false true false c d later = refl
number_by false true true false d later = refl
number_by false true true true false later = refl
number_by false true true true true later = refl

scratch-by : (s a b c d t l : Bool) (vs scratch zeros : List ℕ)
    → get_or (headset_by s a b c d t l vs scratch zeros).lent 0 [] ≡ cond (is_in (headset_by s a b c d t l vs scratch zeros).number (0 ∷ 6 ∷ 14 ∷ 15 ∷ [])) zeros scratch
unfolding first_number settled is_in
scratch-by true a b c d t l vs scratch zeros = refl
scratch-by false false b c d t l vs scratch zeros = refl
scratch-by false true false c d t l vs scratch zeros = refl
scratch-by false true true false d t l vs scratch zeros = refl
scratch-by false true true true false t l vs scratch zeros = refl
scratch-by false true true true true true l vs scratch zeros = refl
scratch-by false true true true true false false vs scratch zeros = refl
scratch-by false true true true true false true vs scratch zeros = refl

-- neither of the two refuses: the depth and the pointers are the headset's
last-passed : (p t l : Bool) → p ≡ true → first_number (last t l) ≡ 0 → p && not t && l ≡ true
unfolding first_number
last-passed p true l e z = absurd (suc-ne-zero 13 z)
last-passed p false false e z = absurd (suc-ne-zero 14 z)
last-passed p false true e z = rw e

passed-last : (p t l : Bool) → p && not t && l ≡ true → (p ≡ true) × (first_number (last t l) ≡ 0)
unfolding first_number
passed-last false t l e = absurd (false≢true e)
passed-last true true l e = absurd (false≢true e)
passed-last true false false e = absurd (false≢true e)
passed-last true false true e = (refl, refl)

-- ---- the call

-- its two tests
abbrev pub last_tests : List ℕ → List Test
last_tests file = when (too_deep (file_depth file)) 14 ∷ when (not (all_short file)) 15 ∷ []

module _ (file scratch : List ℕ) where
  pub headset-refused : (first_number (check_order file scratch) ≡ 0 → ⊥) → check_outcome file scratch ≡ headset_check_outcome file scratch
  unfolding check_outcome headset_check_outcome
  headset-refused n =
      refused-by (ltb (length scratch) (length file)) (version_ok packed_version file) (length_ok packed_head file) (depth_ok (file_depth file)) (packed_rules file)
      (too_deep (file_depth file)) (all_short file) (file_depth file ∷ []) scratch (cleared (length file) scratch) n

  pub headset-decided : first_number (check_order file scratch) ≡ 0
      → headset_check_outcome file scratch ≡ settled (first_number (last_tests file)) (file_depth file ∷ []) (cleared (length file) scratch ∷ []) (cleared (length file) scratch ∷ [])
  unfolding headset_check_outcome
  headset-decided e =
      decided-by (ltb (length scratch) (length file)) (version_ok packed_version file) (length_ok packed_head file) (depth_ok (file_depth file)) (packed_rules file)
      (too_deep (file_depth file)) (all_short file) (file_depth file ∷ []) scratch (cleared (length file) scratch) e

  pub headset-number : (headset_check_outcome file scratch).number ≡ cond (eqb (first_number (check_order file scratch)) 0) (first_number (last_tests file)) (first_number (check_order file scratch))
  unfolding headset_check_outcome
  headset-number =
      settled-number (first_number (headset_check_order file scratch)) _ _ _
      ∙ number_by (ltb (length scratch) (length file)) (version_ok packed_version file) (length_ok packed_head file) (depth_ok (file_depth file)) (packed_rules file) (last_tests file)

  -- it answers 0 exactly on files that meet the profile
  headset-passed : (headset_check_outcome file scratch).number ≡ 0 → (meets_headset file ≡ true) × (length file ≤ length scratch)
  unfolding meets_headset
  headset-passed e = go (first_number (check_order file scratch)) refl (sym headset-number ∙ e)
    where
      go : (n : ℕ) → first_number (check_order file scratch) ≡ n → cond (eqb n 0) (first_number (last_tests file)) n ≡ 0
          → (proper file && not (too_deep (file_depth file)) && all_short file ≡ true) × (length file ≤ length scratch)
      go zero q z = let p = check-passed file scratch q in (last-passed (proper file) (too_deep (file_depth file)) (all_short file) p.0 z, p.1)
      go (suc n) q z = absurd (suc-ne-zero n (rw (eqb-suc-zero n) at z))

  pub passed-headset : meets_headset file ≡ true → length file ≤ length scratch → (headset_check_outcome file scratch).number ≡ 0
  unfolding meets_headset
  passed-headset e h =
      let p = passed-last (proper file) (too_deep (file_depth file)) (all_short file) e in
      headset-number ∙ rw (passed-check file scratch p.0 h) p.1

  pub headset-scratch : get_or (headset_check_outcome file scratch).lent 0 []
      ≡ cond (is_in (headset_check_outcome file scratch).number (0 ∷ 6 ∷ 14 ∷ 15 ∷ [])) (cleared (length file) scratch) scratch
  unfolding headset_check_outcome
  headset-scratch =
      scratch-by (ltb (length scratch) (length file)) (version_ok packed_version file) (length_ok packed_head file) (depth_ok (file_depth file)) (packed_rules file)
      (too_deep (file_depth file)) (all_short file) (file_depth file ∷ []) scratch (cleared (length file) scratch)

pub headset-checked : (file scratch : List ℕ) → Bytes file → ((headset_check_outcome file scratch).number ≡ 0) ↔ ((meets_headset file ≡ true) × (length file ≤ length scratch))
headset-checked file scratch by = (headset-passed file scratch, λ p. passed-headset file scratch p.0 p.1)

pub headset-checks : (file scratch scratch' : List ℕ) → length scratch ≡ length scratch'
    → ((headset_check_outcome file scratch).number ≡ (headset_check_outcome file scratch').number) × ((headset_check_outcome file scratch).values ≡ (headset_check_outcome file scratch').values)
unfolding headset_check_outcome
headset-checks file scratch scratch' e =
    let vs : List ℕ = file_depth file ∷ [] in
    let N : ℕ = first_number (headset_check_order file scratch) in
    let N' : ℕ = first_number (headset_check_order file scratch') in
    let same : N ≡ N' = ap (λ (m : ℕ). first_number (when (ltb m (length file)) 11 ∷ packed_order file (when (not (packed_rules file)) 6 ∷ last_tests file))) e in
    let A : List (List ℕ) = cleared (length file) scratch ∷ [] in
    let E : List (List ℕ) = headset_check_scratch_after N file scratch ∷ [] in
    let A' : List (List ℕ) = cleared (length file) scratch' ∷ [] in
    let E' : List (List ℕ) = headset_check_scratch_after N' file scratch' ∷ [] in (
      ap (λ (m : ℕ). (settled m vs A E).number) same ∙ told-number N' vs A E A' E',
      ap (λ (m : ℕ). (settled m vs A E).values) same ∙ told-values N' vs A E A' E',
    )
