-- The tests of a file's first bytes in their order: the number that the first of them gives, what is known where none passes, and that an order which
-- begins with them gives their number or goes on. By the value of each test in turn. Assumes nothing.
use mathlib.Core.Path.{◌≡◌, refl, sym, ◌∙◌}
use mathlib.Core.Bool.{Bool, true, false, cond, not}
use mathlib.Core.List.{List, [], ◌∷◌}
use Prim.Native.Nat.{ℕ, ◌≤◌}
use native.Mathlib.Nat.{suc-ne-zero}
use native.Mathlib.Omega.{arith}
use Rattle.paper.specs.declared.Refusal.{Refusal}
use Rattle.paper.specs.declared.Refusal.TheVariants.{BadSize, DamagedStore, BadVersion, BadLength, BadDepth, BrokenRules, ScenesFull, CellsFull, NoScene, Outside, ScratchShort, OutputShort, BadWish, TooDeep, LongPointer}
use Rattle.paper.specs.Answers.{number_of}
use Rattle.paper.specs.Rooms.{depth_ok}
use Rattle.paper.specs.Outline.{version_ok, length_ok, file_depth}
use Rattle.paper.specs.Order.{Test, when, first_number}
use Rattle.laws.proofs.Refusals.{first-before}
use Rattle.file_head.specs.Heads.{head_order, head_number}

abbrev by_tests : Bool → Bool → Bool → List Test → ℕ
by_tests a b c rest = first_number (when (not a) 3 ∷ when (not b) 4 ∷ when (not c) 5 ∷ rest)

three-pass : (a b c : Bool) (rest : List Test) → by_tests a b c rest ≡ 0 → (a ≡ true) × (b ≡ true) × (c ≡ true)
unfolding first_number
three-pass false b c rest e = absurd (suc-ne-zero 2 e)
three-pass true false c rest e = absurd (suc-ne-zero 3 e)
three-pass true true false rest e = absurd (suc-ne-zero 4 e)
three-pass true true true rest e = (refl, refl, refl)

three-range : (a b c : Bool) → (by_tests a b c [] ≡ 0 → ⊥) → (3 ≤ by_tests a b c []) × (by_tests a b c [] ≤ 5)
unfolding first_number
three-range false b c n = (omega arith, omega arith)
three-range true false c n = (omega arith, omega arith)
three-range true true false n = (omega arith, omega arith)
three-range true true true n = absurd (n refl)

-- no refusal has the number 0
pub refusal-is-not-0 : (why : Refusal) → number_of why ≡ 0 → ⊥
refusal-is-not-0 BadSize e = suc-ne-zero 0 e
refusal-is-not-0 DamagedStore e = suc-ne-zero 1 e
refusal-is-not-0 BadVersion e = suc-ne-zero 2 e
refusal-is-not-0 BadLength e = suc-ne-zero 3 e
refusal-is-not-0 BadDepth e = suc-ne-zero 4 e
refusal-is-not-0 BrokenRules e = suc-ne-zero 5 e
refusal-is-not-0 ScenesFull e = suc-ne-zero 6 e
refusal-is-not-0 CellsFull e = suc-ne-zero 7 e
refusal-is-not-0 NoScene e = suc-ne-zero 8 e
refusal-is-not-0 Outside e = suc-ne-zero 9 e
refusal-is-not-0 ScratchShort e = suc-ne-zero 10 e
refusal-is-not-0 OutputShort e = suc-ne-zero 11 e
refusal-is-not-0 BadWish e = suc-ne-zero 12 e
refusal-is-not-0 TooDeep e = suc-ne-zero 13 e
refusal-is-not-0 LongPointer e = suc-ne-zero 14 e

module _ (version head : ℕ) (file : List ℕ) where
  -- version byte, length field and depth are good
  pub record Headed : Type 0 where
    pub version_ok_lem : version_ok version file ≡ true
    pub length_ok_lem : length_ok head file ≡ true
    pub depth_ok_lem : depth_ok (file_depth file) ≡ true

  -- ---- the number, under the tests before its own

  pub by-3 : not (version_ok version file) ≡ true → head_number version head file ≡ 3
  unfolding first_number
  by-3 e = rw e

  module _ (three : not (version_ok version file) ≡ false) where
    pub by_4 : not (length_ok head file) ≡ true → head_number version head file ≡ 4
    unfolding first_number
    by_4 e = rw (three, e)

    module _ (four : not (length_ok head file) ≡ false) where
      pub by-5 : not (depth_ok (file_depth file)) ≡ true → head_number version head file ≡ 5
      unfolding first_number
      by-5 e = rw (three, four, e)

      pub by-none : not (depth_ok (file_depth file)) ≡ false → head_number version head file ≡ 0
      unfolding first_number
      by-none e = rw (three, four, e)

  -- ---- what the number says

  module _ (rest : List Test) where
    -- an order that begins with the three and refuses by none has passed them
    pub headed : first_number (head_order version head file rest) ≡ 0 → Headed
    headed e =
        let p = three-pass (version_ok version file) (length_ok head file) (depth_ok (file_depth file)) rest e in
        record { version_ok_lem = p.0; length_ok_lem = p.1; depth_ok_lem = p.2 }

    pub head-goes-on : Headed → first_number (head_order version head file rest) ≡ first_number rest
    unfolding first_number
    head-goes-on h = rw (h.version_ok_lem, h.length_ok_lem, h.depth_ok_lem)

    pub head-stops : (head_number version head file ≡ 0 → ⊥) → first_number (head_order version head file rest) ≡ head_number version head file
    head-stops n = first-before (head_order version head file []) rest n

    -- an order that begins with the three gives the refusal of the test that fails
    pub head-refuses : (why : Refusal) → number_of why ≡ head_number version head file → number_of why ≡ first_number (head_order version head file rest)
    head-refuses why e = e ∙ sym (head-stops (λ z. refusal-is-not-0 why (e ∙ z)))

  -- an order that ends with one test more, by 6
  module _ (broken : Bool) where
    abbrev order : List Test
    order = head_order version head file (when broken 6 ∷ [])

    pub refused-by-6 : Headed → broken ≡ true → first_number order ≡ 6
    unfolding first_number
    refused-by-6 h e = head-goes-on (when broken 6 ∷ []) h ∙ rw e

    pub accepted : Headed → broken ≡ false → first_number order ≡ 0
    unfolding first_number
    accepted h e = head-goes-on (when broken 6 ∷ []) h ∙ rw e

    pub none-broken : first_number order ≡ 0 → broken ≡ false
    unfolding first_number
    none-broken e = go broken (sym (head-goes-on (when broken 6 ∷ []) (headed (when broken 6 ∷ []) e)) ∙ e)
      where
        go : (b : Bool) → ◌≡◌ {A = ℕ} (cond b 6 0) 0 → b ≡ false
        go true q = absurd (suc-ne-zero 5 q)
        go false q = refl

  -- a refusal is 3 to 5
  pub head-range : (n : ℕ) → n ≡ head_number version head file → (n ≡ 0 → ⊥) → (3 ≤ n) × (n ≤ 5)
  head-range n e ne = rw e (three-range (version_ok version file) (length_ok head file) (depth_ok (file_depth file)) (λ z. ne (e ∙ z)))
