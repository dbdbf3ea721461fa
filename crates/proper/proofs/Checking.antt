-- The ways through a check: each test refuses by its number, in document 01's order; the scratch is zero after 0 and 6. And the rules one after the
-- other. By the tests passed. Assumes nothing.
use mathlib.Core.Path.{◌≡◌, sym, ◌∙◌, ap, ap₂}
use mathlib.Core.Bool.{Bool, true, false, cond, not}
use mathlib.Core.List.{List, [], ◌∷◌}
use Prim.Native.Nat.{ℕ, suc, ◌<◌, ◌≤◌}
use native.Mathlib.Nat.{suc-ne-zero}
use native.Mathlib.Omega.{arith}
use borrow.Author.Tests.{lt-ltb, le-ltb, ne_eqb}
use lib.ListN.{length, replicate}
use Rattle.std.specs.Prelude.{Err}
use Rattle.paper.specs.Numbers.{all_below}
use Rattle.paper.specs.Outline.{file_depth}
use Rattle.paper.specs.Packed.{packed_version, packed_head, top_of, is_empty, top_ok, head_ok, packed_rules}
use Rattle.paper.specs.Answers.{told, outcome, number_of, checked}
use Rattle.paper.specs.Order.{Test, when, first_number, settled}
use Rattle.paper.specs.Calls.{cleared, packed_order, check_order, check_scratch_after, check_outcome}
use Rattle.paper.specs.declared.Refusal.{Refusal}
use Rattle.laws.proofs.Refusals.{settled-refused}
use Rattle.laws.proofs.RefusalNumbers.{answer_of, refused-back}
use Rattle.file_head.specs.Heads.{head_number}
use Rattle.file_head.proofs.HeadTests.{Headed, head-range, head-refuses, head-goes-on}
use Rattle.proper_popular.specs.Places.{popular_rules}
use Rattle.proper_lists.specs.Marking.{list_rules, scratch_at}
use Rattle.proper_rules.specs.Rules.{root_low, marked_by, rules_by, packed_by}

-- no refusal has the number 0
pub refused-some : (why : Refusal) → number_of why ≡ 0 → ⊥
refused-some why e = suc-ne-zero 0 (sym (refused-back 0 (λ x. 1) why) ∙ ap (answer_of 0 (λ x. 1)) e)

module _ (file scratch : List ℕ) where
  abbrev later : List Test
  later = when (not (packed_rules file)) 6 ∷ []

  pub way-short : length scratch < length file → outcome (told 11 (0 ∷ [])) (scratch ∷ []) ≡ check_outcome file scratch
  unfolding check_outcome first_number settled
  way-short h = rw (lt-ltb (length scratch) (length file) h)

  module _ (enough : length file ≤ length scratch) where
    -- the tests after that of the scratch
    goes_on : first_number (check_order file scratch) ≡ first_number (packed_order file later)
    unfolding first_number
    goes_on = rw (le-ltb (length scratch) (length file) enough)

    pub way-bytes : (r : Refusal) → number_of r ≡ head_number packed_version packed_head file → outcome (checked (Err r)) (scratch ∷ []) ≡ check_outcome file scratch
    unfolding check_outcome
    way-bytes r f =
        let n : ℕ = number_of r in
        let ne : n ≡ 0 → ⊥ = refused-some r in
        let stops : first_number (check_order file scratch) ≡ n = goes_on ∙ sym (head-refuses packed_version packed_head file later r f) in
        let low : n ≤ 5 = (head-range packed_version packed_head file n f ne).1 in
        let kept : check_scratch_after (first_number (check_order file scratch)) file scratch ≡ scratch =
        ap (λ (m : ℕ). check_scratch_after m file scratch) stops ∙ ap (λ (b : Bool). cond b (cleared (length file) scratch) scratch) (ne_eqb n 6 (λ z. omega (arith, z))) in
        ap₂ (λ (m : ℕ) (l : List ℕ). outcome (told m (0 ∷ [])) (l ∷ [])) (sym stops) (sym kept)
        ∙ sym (settled-refused (first_number (check_order file scratch)) (file_depth file ∷ []) (cleared (length file) scratch ∷ []) (check_scratch_after (first_number (check_order file scratch)) file scratch ∷ []) (λ z. ne (sym stops ∙ z)))

    module _ (h : Headed packed_version packed_head file) where
      rules : (b : Bool) → not (packed_rules file) ≡ b → first_number (check_order file scratch) ≡ cond b 6 0
      unfolding first_number
      rules b e = goes_on ∙ head-goes-on packed_version packed_head file later h ∙ rw e

      pub way-rules : not (packed_rules file) ≡ true → outcome (told 6 (0 ∷ [])) (cleared (length file) scratch ∷ []) ≡ check_outcome file scratch
      unfolding check_outcome settled
      way-rules e = rw (rules true e)

      pub way-proper : not (packed_rules file) ≡ false → outcome (told 0 (file_depth file ∷ [])) (cleared (length file) scratch ∷ []) ≡ check_outcome file scratch
      unfolding check_outcome settled
      way-proper e = rw (rules false e)

-- ---- byte 6 and the sizes, an empty scene, the rules

pub head-fails : (bs : List ℕ) → head_ok bs ≡ false → packed_by bs ≡ false
unfolding packed_by
head-fails bs e = rw e

pub head-empty : (bs : List ℕ) → head_ok bs ≡ true → is_empty bs ≡ true → packed_by bs ≡ true
unfolding packed_by
head-empty bs e z = rw (e, z)

pub head-rules : (bs : List ℕ) → head_ok bs ≡ true → is_empty bs ≡ false → packed_by bs ≡ rules_by bs
unfolding packed_by
head-rules bs e z = rw (e, z)

-- ---- the parts of the rules, in turn

module _ (bs : List ℕ) where
  pub lists-fail : all_below (suc (top_of bs)) (list_rules bs) ≡ false → marked_by bs ≡ false
  unfolding marked_by
  lists-fail e = rw e

  pub top-fails : all_below (suc (top_of bs)) (list_rules bs) ≡ true → top_ok bs ≡ false → marked_by bs ≡ false
  unfolding marked_by
  top-fails e f = rw (e, f)

  pub root-decides : all_below (suc (top_of bs)) (list_rules bs) ≡ true → top_ok bs ≡ true → marked_by bs ≡ root_low bs
  unfolding marked_by
  root-decides e f = rw (e, f)

  pub marks-fail : marked_by bs ≡ false → rules_by bs ≡ false
  unfolding rules_by
  marks-fail e = rw e

  pub popular-decides : marked_by bs ≡ true → rules_by bs ≡ all_below (top_of bs) (popular_rules bs)
  unfolding rules_by
  popular-decides e = rw e

-- ---- zeros

pub zeros-to : (l : List ℕ) (n m : ℕ) → l ≡ replicate n 0 → n ≡ m → l ≡ replicate m 0
zeros-to l n m e q = e ∙ ap (λ (k : ℕ). replicate k 0) q

-- a scratch of as many zeros as the file has bytes
pub scratch-start : (bs l : List ℕ) (n : ℕ) → l ≡ replicate n 0 → n ≡ length bs → l ≡ scratch_at bs 0
unfolding scratch_at
scratch-start bs l n e q = zeros-to l n (length bs) e q
