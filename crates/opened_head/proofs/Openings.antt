-- The ways through an opening, in the code's words: what an opening refused by none says of the file, what it reads and holds. By the value of each
-- test in turn. Assumes nothing.
use mathlib.Core.Path.{◌≡◌, refl, sym, ◌∙◌, ap, ap₂}
use mathlib.Core.Bool.{Bool, true, false, not, cond}
use mathlib.Core.List.{List, [], ◌∷◌, map}
use Prim.Native.Nat.{ℕ}
use borrow.Author.Tests.{eqb-true, eqb-false, ne_eqb, not-false}
use lib.Dec.{eqb, leb}
use lib.ListN.{length, replicate, length-replicate}
use Rattle.paper.specs.Numbers.{tabulate}
use Rattle.paper.specs.Outline.{file_depth}
use Rattle.paper.specs.Store.{heights}
use Rattle.paper.specs.Packed.{packed_version, packed_head, is_empty, top_of, start_at, head_ok, starts_of}
use Rattle.paper.specs.declared.Refusal.{Refusal}
use Rattle.paper.specs.Answers.{Told, Outcome, told, outcome, number_of}
use Rattle.paper.specs.Order.{when, first_number}
use Rattle.paper.specs.Calls.{open_order, open_outcome}
use Rattle.paper.specs.Runs.{Bytes}
use Rattle.laws.proofs.Tests.{true-T}
use Rattle.laws.proofs.Lists.{length-tabulate}
use Rattle.laws.proofs.Refusals.{settled-accepted, settled-refused}
use Rattle.file_head.proofs.HeadTests.{Headed, headed, none-broken, refusal-is-not-0}
use Rattle.packed_lists.specs.Header.{Opens}
use Rattle.packed_lists.proofs.FirstTests.{tested}
use Rattle.opened_head.specs.Opens.{open_told}

-- ---- an opening that is refused by none

module _ (file : List ℕ) (e : first_number (open_order file) ≡ 0) where
  abbrev later : Bool
  later = not (head_ok file)

  pub opens-known : Headed packed_version packed_head file
  opens-known = headed packed_version packed_head file (when later 6 ∷ []) e

  pub opens : Bytes file → Opens file
  opens bytes = record { tested = tested file bytes opens-known; head = true-T (not-false (head_ok file) (none-broken packed_version packed_head file later e)) }

-- ---- what an opening reads and holds

-- there is a start for each height
starts-length : (file : List ℕ) → length (starts_of file) ≡ heights
unfolding starts_of
starts-length file = go (is_empty file)
  where
    table : List ℕ
    table = tabulate 0 heights (λ k. cond (leb k (top_of file)) (start_at file k) 0)

    go : (b : Bool) → length (cond b (replicate heights 0) table) ≡ heights
    go true = length-replicate {A = ℕ} heights 0
    go false = length-tabulate heights 0 (λ k. cond (leb k (top_of file)) (start_at file k) 0)

-- the part held: nothing where the opening is refused
abbrev part_of : List ℕ → ℕ → List ℕ
part_of file number = cond (eqb number 0) file []

zeros : (l : List ℕ) → map {B = ℕ} (λ v. 0) l ≡ replicate {A = ℕ} (length l) 0
zeros [] = refl
zeros (x ∷ l) = ap (λ (m : List ℕ). 0 ∷ m) (zeros l)

module _ (file : List ℕ) where
  abbrev values : List ℕ
  values = file_depth file ∷ starts_of file

  pub accepted-is : first_number (open_order file) ≡ 0 → open_outcome file ≡ outcome (told 0 values) (file ∷ [])
  unfolding open_outcome
  accepted-is e = settled-accepted (first_number (open_order file)) values (file ∷ []) ([] ∷ []) e

  refused-is : (first_number (open_order file) ≡ 0 → ⊥) → open_outcome file ≡ outcome (told (first_number (open_order file)) (map (λ v. 0) values)) ([] ∷ [])
  unfolding open_outcome
  refused-is n = settled-refused (first_number (open_order file)) values (file ∷ []) ([] ∷ []) n

  abbrev numbers : Outcome → Told
  numbers o = told o.number o.values

  pub read-refused : (why : Refusal) → number_of why ≡ first_number (open_order file) → told (number_of why) (replicate 16 0) ≡ open_told file
  read-refused why e =
      ap₂ (λ (m : ℕ) (l : List ℕ). told m (0 ∷ l)) e (ap (λ (m : ℕ). replicate m 0) (sym (starts-length file)) ∙ sym (zeros (starts_of file)))
      ∙ sym (ap numbers (refused-is (λ z. refusal-is-not-0 why (e ∙ z))))

  pub read-accepted : (D : ℕ) (starts : List ℕ) → first_number (open_order file) ≡ 0 → D ≡ file_depth file → starts ≡ starts_of file → told 0 (D ∷ starts) ≡ open_told file
  read-accepted D starts z d s = ap₂ (λ (m : ℕ) (l : List ℕ). told 0 (m ∷ l)) d s ∙ sym (ap numbers (accepted-is z))

  -- with the part held, all of it is the paper's outcome
  whole : outcome (open_told file) (part_of file (open_outcome file).number ∷ []) ≡ open_outcome file
  whole = go (eqb (first_number (open_order file)) 0) refl
    where
      with_part : Outcome → Outcome
      with_part o = outcome (numbers o) (cond (eqb o.number 0) file [] ∷ [])

      go : (b : Bool) → eqb (first_number (open_order file)) 0 ≡ b → with_part (open_outcome file) ≡ open_outcome file
      go true e =
          let i = accepted-is (eqb-true (first_number (open_order file)) 0 e) in
          ap with_part i ∙ sym i
      go false e =
          let n : first_number (open_order file) ≡ 0 → ⊥ = eqb-false (first_number (open_order file)) 0 e in
          let i = refused-is n in
          ap with_part i
          ∙ ap (λ (b : Bool). outcome (told (first_number (open_order file)) (map (λ v. 0) values)) (cond b file [] ∷ [])) e
          ∙ sym i

  opened-whole : (t : Told) (part : List ℕ) → t ≡ open_told file → part ≡ part_of file t.number → outcome t (part ∷ []) ≡ open_outcome file
  opened-whole t part e p =
      ap (λ (l : List ℕ). outcome t (l ∷ [])) p ∙ ap (λ (u : Told). outcome u (part_of file u.number ∷ [])) e ∙ whole

  pub opened-accepted : (values : List ℕ) → told 0 values ≡ open_told file → outcome (told 0 values) (file ∷ []) ≡ open_outcome file
  opened-accepted values e = opened-whole (told 0 values) file e refl

  pub opened-refused : (why : Refusal) (values : List ℕ) → told (number_of why) values ≡ open_told file → outcome (told (number_of why) values) ([] ∷ []) ≡ open_outcome file
  opened-refused why values e = opened-whole (told (number_of why) values) [] e (rw (ne_eqb (number_of why) 0 (refusal-is-not-0 why)))
