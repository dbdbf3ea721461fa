-- The bits in which images are not all alike, gathered one image after another; a number that differs from the first in another bit is none of them. By
-- the digits of `bit_or`. Assumes nothing.
use mathlib.Core.Path.{◌≡◌, refl, sym, ap, ap₂, ◌∙◌}
use mathlib.Core.List.{List}
use Prim.Native.Nat.{ℕ, ◌+◌, ◌*◌, ◌/◌, ◌%◌, ◌<◌, max}
use native.Mathlib.Nat.{not-suc-le-zero}
use native.Mathlib.Decide.{ℕ_discrete}
use native.Mathlib.Omega.{arith}
use borrow.Author.Tests.{eqb-true}
use lib.Arith.{bin_ind}
use lib.Bits.{bit_or, bit_xor, or_comm, or_self, or_step}
use lib.Dec.{eqb}
use lib.ListN.{get_or}
use Rattle.laws.proofs.Tests.{false-unless}
use Rattle.laws.proofs.Chains.{lowest-none}
use Rattle.add_seek.specs.Sought.{Among, Changing}
use Rattle.paper.specs.Match.{lowest}
use mathlib.Core.Option as O

-- ---- `bit_or` in any order

or-half : (a b : ℕ) → bit_or a b / 2 ≡ bit_or (a / 2) (b / 2)
or-half a b = omega (arith, or_step a b)

or-odd : (a b : ℕ) → bit_or a b % 2 ≡ max (a % 2) (b % 2)
or-odd a b = omega (arith, or_step a b)

or_assoc : (a b c : ℕ) → bit_or (bit_or a b) c ≡ bit_or a (bit_or b c)
or_assoc =
    bin_ind (λ (n : ℕ). (b c : ℕ) → bit_or (bit_or n b) c ≡ bit_or n (bit_or b c)) (λ b c. refl)
    (λ n ih b c.
    or_step (bit_or n b) c
    ∙ ap₂ (λ (x y : ℕ). x * 2 + y) (ap (λ (x : ℕ). bit_or x (c / 2)) (or-half n b) ∙ ih (b / 2) (c / 2) ∙ ap (bit_or (n / 2)) (sym (or-half b c)))
    (odd n b c)
    ∙ sym (or_step n (bit_or b c)))
  where
    odd : (a b c : ℕ) → max (bit_or a b % 2) (c % 2) ≡ max (a % 2) (bit_or b c % 2)
    odd a b c = omega (arith, or-odd a b, or-odd b c)

-- ---- bits gathered

still-among : (x bits more : ℕ) → bit_or x bits ≡ bits → bit_or x (bit_or bits more) ≡ bit_or bits more
still-among x bits more e = sym (or_assoc x bits more) ∙ ap (λ (n : ℕ). bit_or n more) e

now-among : (x bits : ℕ) → bit_or x (bit_or bits x) ≡ bit_or bits x
now-among x bits = ap (bit_or x) (or_comm bits x) ∙ sym (or_assoc x x bits) ∙ ap (λ (n : ℕ). bit_or n bits) (or_self x) ∙ or_comm x bits

pub bits_none : (images : List ℕ) → Changing images 0 0
bits_none images = λ i h. absurd (not-suc-le-zero h)

pub bits-more : (images : List ℕ) (t bits : ℕ) → Changing images t bits → Changing images (t + 1) (bit_or bits (bit_xor (get_or images 0 0) (get_or images t 0)))
bits-more images t bits all = λ i h. at i h (ℕ_discrete i t)
  where
    x : ℕ → ℕ
    x i = bit_xor (get_or images 0 0) (get_or images i 0)

    at : (i : ℕ) → i < t + 1 → Dec (i ≡ t) → bit_or (x i) (bit_or bits (x t)) ≡ bit_or bits (x t)
    at i h (yes e) = ap (λ (n : ℕ). bit_or (x n) (bit_or bits (x t))) e ∙ now-among (x t) bits
    at i h (no n) = still-among (x i) bits (x t) (all i (omega arith))

-- ---- a number ruled out by them

pub no-image : (images : List ℕ) (bits leaf : ℕ) → Changing images 8 bits → (Among (get_or images 0 0) leaf bits → ⊥) → O.none ≡ lowest 8 0 (λ t. eqb (get_or images t 0) leaf)
no-image images bits leaf all n =
    sym (lowest-none 8 0 (λ t. eqb (get_or images t 0) leaf)
    (λ t h. false-unless (eqb (get_or images t 0) leaf) (λ e. n (ap (λ (m : ℕ). bit_or (bit_xor (get_or images 0 0) m) bits) (sym (eqb-true (get_or images t 0) leaf e)) ∙ all t h))))
