-- The ways through a headset check: the packed check's answer where that refuses, else 14, 15 or acceptance, with the scratch that the packed check left zero. By the
-- tests passed. Assumes nothing.
use mathlib.Core.Path.{◌≡◌, sym, ◌∙◌, ap}
use mathlib.Core.Bool.{true, false, not, ◌&&◌}
use mathlib.Core.List.{List, [], ◌∷◌}
use Prim.Native.Nat.{ℕ}
use lib.Dec.{T}
use lib.ListN.{length, get_or}
use Rattle.std.specs.Prelude.{Ok, Err}
use Rattle.paper.specs.Rooms.{depth_ok}
use Rattle.paper.specs.Outline.{file_depth, version_ok, length_ok}
use Rattle.paper.specs.Packed.{packed_version, packed_head, packed_rules, proper, all_short}
use Rattle.paper.specs.Answers.{Outcome, told, outcome, checked}
use Rattle.paper.specs.Order.{first_number, settled}
use Rattle.paper.specs.Calls.{cleared, check_order, check_outcome}
use Rattle.paper.specs.Headset.{too_deep, headset_check_outcome}
use Rattle.paper.specs.Runs.{Bytes}
use Rattle.paper.specs.declared.Refusal.{Refusal}
use Rattle.laws.proofs.Tests.{T_true, true-T, and_right}
use Rattle.laws.proofs.ProperClaim.{Proper, proper-passes, check-passed, check-number, check-accepts}
use Rattle.laws.proofs.HeadsetCheck.{headset-refused, headset-decided}
use Rattle.packed_lists.specs.Header.{Tested}
use Rattle.packed_lists.proofs.FirstTests.{tested}
use Rattle.proper.proofs.Checking.{refused-some}

-- ---- what a proper file has passed

module _ (file : List ℕ) (e : proper file ≡ true) where
  pub proper-rules : T (packed_rules file)
  unfolding proper
  proper-rules = and_right (version_ok packed_version file && length_ok packed_head file && depth_ok (file_depth file)) (packed_rules file) (true-T e)

  pub proper-tested : Bytes file → Tested file
  proper-tested by =
      let p : Proper file = proper-passes file (true-T e) in
      tested file by (record { version_ok_lem = T_true p.version; length_ok_lem = T_true p.long; depth_ok_lem = T_true p.deep })

-- ---- why or d the packed check's answer, S the scratch that it left

pub way-refused : (file scratch S : List ℕ) (why : Refusal) → outcome (checked (Err why)) (S ∷ []) ≡ check_outcome file scratch
    → outcome (checked (Err why)) (S ∷ []) ≡ headset_check_outcome file scratch
way-refused file scratch S why e = e ∙ headset-refused file scratch (λ z. refused-some why (ap (λ (o : Outcome). o.number) e ∙ check-number file scratch ∙ z))

module _ (file scratch S : List ℕ) (d : ℕ) (e : outcome (checked (Ok d)) (S ∷ []) ≡ check_outcome file scratch) where
  passed : first_number (check_order file scratch) ≡ 0
  passed = sym (ap (λ (o : Outcome). o.number) e ∙ check-number file scratch)

  pub is-proper : proper file ≡ true
  is-proper = (check-passed file scratch passed).0

  accepted : outcome (checked (Ok d)) (S ∷ []) ≡ outcome (told 0 (file_depth file ∷ [])) (cleared (length file) scratch ∷ [])
  accepted = e ∙ check-accepts file scratch is-proper (check-passed file scratch passed).1

  pub depth-is : d ≡ file_depth file
  depth-is = ap (λ (o : Outcome). get_or o.values 0 0) accepted

  zeros : S ≡ cleared (length file) scratch
  zeros = ap (λ (o : Outcome). get_or o.lent 0 []) accepted

  pub way_deep : too_deep (file_depth file) ≡ true → outcome (told 14 (0 ∷ [])) (S ∷ []) ≡ headset_check_outcome file scratch
  unfolding first_number settled
  way_deep t = rw (headset-decided file scratch passed, t) (ap (λ (s : List ℕ). outcome (told 14 (0 ∷ [])) (s ∷ [])) zeros)

  module _ (low : too_deep (file_depth file) ≡ false) where
    pub way_long : not (all_short file) ≡ true → outcome (told 15 (0 ∷ [])) (S ∷ []) ≡ headset_check_outcome file scratch
    unfolding first_number settled
    way_long t = rw (headset-decided file scratch passed, low, t) (ap (λ (s : List ℕ). outcome (told 15 (0 ∷ [])) (s ∷ [])) zeros)

    pub way-meets : not (all_short file) ≡ false → outcome (checked (Ok d)) (S ∷ []) ≡ headset_check_outcome file scratch
    unfolding first_number settled
    way-meets t = rw (headset-decided file scratch passed, low, t) accepted
