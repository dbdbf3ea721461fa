-- The ways through a question on bytes held beside numbers, in the code's words: when bytes open to numbers, and the answer where they don't. By the
-- value of each test in turn. Assumes nothing.
use mathlib.Core.Path.{◌≡◌, refl, sym, ◌∙◌, ap, ap₂}
use mathlib.Core.Bool.{Bool, true, false, false≢true, not, cond, ◌&&◌, ◌||◌}
use mathlib.Core.List.{List, [], ◌∷◌}
use Prim.Native.Nat.{ℕ}
use native.Mathlib.Omega.{arith}
use lib.Dec.{T, eqb, eqb→eq}
use Rattle.paper.specs.Numbers.{same_list}
use Rattle.paper.specs.Rooms.{Point}
use Rattle.paper.specs.Outline.{file_depth}
use Rattle.paper.specs.Packed.{packed_version, packed_head, head_ok, starts_of}
use Rattle.paper.specs.Answers.{Outcome, outcome, found, answer_number}
use Rattle.paper.specs.Order.{first_number, settled}
use Rattle.paper.specs.Calls.{open_order, open_outcome, opens_to, packed_voxel_order, packed_values, ask_outcome}
use Rattle.paper.specs.declared.Refusal.TheVariants.{BrokenRules}
use Rattle.std.specs.Prelude.{Result, Ok, Err, is_err}
use Rattle.paper.specs.declared.Refusal.{Refusal}
use Rattle.laws.proofs.Tests.{true-T, and_left}
use Rattle.laws.proofs.Refusals.{settled-number}
use Rattle.file_head.proofs.HeadTests.{Headed, refused-by-6, accepted, refusal-is-not-0}
use Rattle.opened_head.proofs.Openings.{accepted-is}
use Rattle.opened_ask.specs.Compared.{opens_by}

-- one of two tests fails
pub one-fails : (p q : Bool) {a b : Bool} → a ≡ not p → b ≡ not q → (a || b) ≡ not (p && q)
one-fails true q e f = ap₂ (λ (x y : Bool). x || y) e f
one-fails false q {b = b} e f = ap (λ (x : Bool). x || b) e

-- an answer that is no error has number 0, and no other has
pub number-none : {A : Type 0} (r : Result A Refusal) → is_err r ≡ false → answer_number r ≡ 0
number-none (Ok x) e = refl
number-none (Err why) e = absurd (false≢true (sym e))

pub number-some : {A : Type 0} (r : Result A Refusal) → is_err r ≡ true → answer_number r ≡ 0 → ⊥
number-some (Ok x) e = absurd (false≢true e)
number-some (Err why) e = refusal-is-not-0 why

-- bytes that open to numbers are not refused
pub opens-number : (file starts : List ℕ) (D : ℕ) → opens_to file D starts ≡ true → first_number (open_order file) ≡ 0
unfolding opens_to open_outcome
opens-number file starts D e =
    let n : T (eqb (open_outcome file).number 0) = and_left (eqb (open_outcome file).number 0) (same_list (open_outcome file).values (D ∷ starts)) (true-T e) in
    sym (settled-number (first_number (open_order file)) (file_depth file ∷ starts_of file) (file ∷ []) ([] ∷ [])) ∙ eqb→eq (open_outcome file).number 0 n

module _ (file : List ℕ) where
  module _ (D : ℕ) (starts : List ℕ) where
    pub not-open : (first_number (open_order file) ≡ 0 → ⊥) → opens_to file D starts ≡ false
    not-open n = go (opens_to file D starts) refl
      where
        go : (b : Bool) → opens_to file D starts ≡ b → b ≡ false
        go true e = absurd (n (opens-number file starts D e))
        go false e = refl

    opens-same : first_number (open_order file) ≡ 0 → opens_to file D starts ≡ same_list (file_depth file ∷ starts_of file) (D ∷ starts)
    unfolding opens_to
    opens-same e = ap (λ (o : Outcome). eqb o.number 0 && same_list o.values (D ∷ starts)) (accepted-is file e)

    -- the first bytes are good: byte 6, the sizes and the numbers decide
    pub opens_by_lem : Headed packed_version packed_head file → opens_to file D starts ≡ opens_by file D starts
    opens_by_lem first = go (head_ok file) refl
      where
        go : (b : Bool) → head_ok file ≡ b → opens_to file D starts ≡ (b && same_list (file_depth file ∷ starts_of file) (D ∷ starts))
        go true e = opens-same (accepted packed_version packed_head file (not (head_ok file)) first (ap not e))
        go false e =
            let six : first_number (open_order file) ≡ 6 = refused-by-6 packed_version packed_head file (not (head_ok file)) first (ap not e) in
            not-open (λ z. omega (arith, six, z))

    -- the head is good: the file's own numbers decide
    pub by-numbers : {own : ℕ} {begins : List ℕ} → head_ok file ≡ true → own ≡ file_depth file → begins ≡ starts_of file → opens_by file D starts ≡ same_list (own ∷ begins) (D ∷ starts)
    by-numbers h d l =
        ap (λ (b : Bool). b && same_list (file_depth file ∷ starts_of file) (D ∷ starts)) h ∙ ap₂ (λ (n : ℕ) (m : List ℕ). same_list (n ∷ m) (D ∷ starts)) (sym d) (sym l)

  -- 'A question on an opened scene: 6 (its bytes don't open to its numbers)'
  pub ask-refused : (D : ℕ) (starts : List ℕ) (v : Point) → opens_to file D starts ≡ false → outcome (found (Err BrokenRules)) [] ≡ ask_outcome file D starts v
  unfolding ask_outcome first_number settled
  ask-refused D starts v e =
      ap (λ (b : Bool). settled (cond (not b) 6 (first_number (packed_voxel_order file v))) (packed_values file v) [] []) (sym e)
