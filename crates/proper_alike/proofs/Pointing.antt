-- The ways through the tests of one pointer, its rules by marks and its matching with another, and of one record. And loops over eight children from the
-- last down. By the tests passed. Assumes nothing.
use mathlib.Core.Path.{◌≡◌, refl, sym, ◌∙◌, ap}
use mathlib.Core.Bool.{Bool, true, false, cond, not, ◌&&◌, ◌||◌}
use Prim.Native.Nat.{ℕ, zero, suc, ◌-◌}
use native.Mathlib.Omega.{arith}
use borrow.Author.Tests.{eq-eqb, ne_eqb, lt-ltb}
use lib.Bits.{bit_xor}
use lib.Dec.{T, eqb, ltb}
use lib.ListN.{get_or}
use mathlib.Core.List.{List}
use Rattle.paper.specs.Numbers.{all_below, all_in}
use Rattle.paper.specs.Packed.{PackedPointer, code_for, pointers_at, record_ok}
use Rattle.laws.proofs.Tests.{and_left}
use Rattle.laws.proofs.Lists.{all_in-in, all_in-T}
use Rattle.proper_marks.specs.Marks.{mark_of, low_by}
use Rattle.proper_alike.specs.Matching.{place_match, pointer_rules, record_rules}

-- ---- the rules of a pointer

module _ (u : ℕ) (m : List ℕ) (r : PackedPointer) where
  pub rules-none : r.code ≡ 0 → pointer_rules u m r ≡ true
  unfolding pointer_rules
  rules-none e = rw (eq-eqb r.code 0 e)

  -- any other, by the three tests of one that breaks them
  pub rules-some : (r.code ≡ 0 → ⊥) → (m₀ : ℕ) → m₀ ≡ mark_of u m r.place
      → ((eqb m₀ 0 || not (eqb r.code (code_for r.place))) || not (low_by m₀ r.tag)) ≡ not (pointer_rules u m r)
  unfolding pointer_rules
  rules-some n m₀ e = rw (ne_eqb r.code 0 n, ← e) (go m₀ (eqb r.code (code_for r.place)) (low_by m₀ r.tag))
    where
      go : (k : ℕ) (a b : Bool) → ((eqb k 0 || not a) || not b) ≡ not (ltb 0 k && a && b)
      go zero a b = refl
      go (suc k) a b = rw (lt-ltb 0 (suc k) (omega arith), ne_eqb (suc k) 0 (λ e. omega arith)) (both a b)
        where
          both : (a b : Bool) → (not a || not b) ≡ not (a && b)
          both true b = refl
          both false b = refl

-- ---- two pointers

module _ (self : ℕ → ℕ → Bool) (t : ℕ) (r s : PackedPointer) where
  pub match_none : r.code ≡ 0 → place_match self t r s ≡ eqb s.code 0
  unfolding place_match
  match_none e = rw (eq-eqb r.code 0 e)

  pub match-half : (r.code ≡ 0 → ⊥) → s.code ≡ 0 → place_match self t r s ≡ false
  unfolding place_match
  match-half n e = rw (ne_eqb r.code 0 n, eq-eqb s.code 0 e)

  pub match-apart : (r.code ≡ 0 → ⊥) → (s.code ≡ 0 → ⊥) → (r.place ≡ s.place → ⊥) → place_match self t r s ≡ false
  unfolding place_match
  match-apart n k p = rw (ne_eqb r.code 0 n, ne_eqb s.code 0 k, ne_eqb r.place s.place p)

  -- the last three by one test
  module _ (some : r.code ≡ 0 → ⊥) where
    abbrev other : Bool
    other = eqb s.code 0 || not (eqb r.place s.place)

    abbrev matched : Bool
    matched = self r.place (bit_xor (bit_xor r.tag s.tag) t)

    match_by : (b : Bool) → other ≡ b → place_match self t r s ≡ cond b false matched
    unfolding place_match
    match_by b e = rw (ne_eqb r.code 0 some, ← e) (go (eqb s.code 0) (eqb r.place s.place))
      where
        go : (a b : Bool) → cond a false (cond b matched false) ≡ cond (a || not b) false matched
        go true b = refl
        go false true = refl
        go false false = refl

    pub match-fails : other ≡ true → place_match self t r s ≡ false
    match-fails e = match_by true e

    pub match-passes : other ≡ false → place_match self t r s ≡ matched
    match-passes e = match_by false e

  pub match-place : (r.code ≡ 0 → ⊥) → (s.code ≡ 0 → ⊥) → r.place ≡ s.place → place_match self t r s ≡ self r.place (bit_xor (bit_xor r.tag s.tag) t)
  unfolding place_match
  match-place n k p = rw (ne_eqb r.code 0 n, ne_eqb s.code 0 k, eq-eqb r.place s.place p)

-- ---- all below i, one less at a time

pub all-down : (i : ℕ) (p : ℕ → Bool) → (i ≡ 0 → ⊥) → p (i - 1) ≡ true → all_below i p ≡ all_below (i - 1) p
all-down zero p n e = absurd (n refl)
all-down (suc i) p n e = let d : suc i - 1 ≡ i = omega arith in rw d (rw (sym (ap p d) ∙ e))

pub all-fails : (i : ℕ) (p : ℕ → Bool) → (i ≡ 0 → ⊥) → p (i - 1) ≡ false → all_below i p ≡ false
all-fails zero p n e = absurd (n refl)
all-fails (suc i) p n e = let d : suc i - 1 ≡ i = omega arith in rw (sym (ap p d) ∙ e)

-- ---- the rules of a record

pub rules-whole : (u : ℕ) (m l : List ℕ) (p : ℕ) → record_ok l p ≡ false → record_rules u m l p ≡ false
unfolding record_rules
rules-whole u m l p e = rw e

pub rules-pointers : (u : ℕ) (m l : List ℕ) (p : ℕ) → record_ok l p ≡ true → record_rules u m l p ≡ all_in (pointer_rules u m) (pointers_at l p)
unfolding record_rules
rules-pointers u m l p e = rw e

-- a record that keeps them is whole
pub rules-record : (u : ℕ) (m l : List ℕ) (p : ℕ) → T (record_rules u m l p) → T (record_ok l p)
unfolding record_rules
rules-record u m l p t = and_left (record_ok l p) (all_in (pointer_rules u m) (pointers_at l p)) t

pub rules-all-whole : (u : ℕ) (m l ps : List ℕ) → T (all_in (record_rules u m l) ps) → T (all_in (record_ok l) ps)
rules-all-whole u m l ps t =
    all_in-T (record_ok l) 0 ps (λ i h. rules-record u m l (get_or ps i 0) (all_in-in (record_rules u m l) 0 ps t i h))
