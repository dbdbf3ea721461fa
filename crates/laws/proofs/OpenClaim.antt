-- Claim C8, opened scenes: a question on an opened scene answers as the packed voxel on its bytes, one on a refused opening is refused by 6. The
-- part held and the numbers are read off the outcome of the opening, so its bytes open to its numbers. Assumes nothing.
use mathlib.Core.Path.{◌≡◌, refl, sym, ◌∙◌, ap, ap₂}
use mathlib.Core.Bool.{Bool, true, cond, not, ◌&&◌}
use mathlib.Core.List.{List, [], ◌∷◌}
use Prim.Native.Nat.{ℕ, suc}
use native.Mathlib.Nat.{suc-ne-zero}
use borrow.Author.Tests.{eq-eqb}
use lib.Dec.{eqb}
use lib.ListN.{get_or}
use Rattle.paper.specs.Numbers.{same_list}
use Rattle.paper.specs.Rooms.{Point}
use Rattle.paper.specs.Outline.{file_depth}
use Rattle.paper.specs.Packed.{starts_of}
use Rattle.paper.specs.Answers.{Outcome, told, outcome}
use Rattle.paper.specs.Order.{first_number, settled}
use Rattle.paper.specs.Calls.{packed_voxel_order, packed_values, packed_voxel_outcome, open_order, open_outcome, opens_to, ask_outcome}
use Rattle.paper.specs.Claims.{C8}
use Rattle.laws.proofs.Refusals.{settled-accepted, settled-refused, settled-number}

same_self : (l : List ℕ) → same_list l l ≡ true
unfolding same_list
same_self [] = refl
same_self (x ∷ l) = rw (eq-eqb x x refl, same_self l)

-- the first slice lent
abbrev held : Outcome → List ℕ
held o = get_or o.lent 0 []

open-number : (file : List ℕ) → (open_outcome file).number ≡ first_number (open_order file)
unfolding open_outcome
open-number file = settled-number (first_number (open_order file)) (file_depth file ∷ starts_of file) (file ∷ []) ([] ∷ [])

-- an opening holds the file, a refused one nothing
accepted-holds : (file : List ℕ) → first_number (open_order file) ≡ 0 → held (open_outcome file) ≡ file
unfolding open_outcome
accepted-holds file e = ap held (settled-accepted (first_number (open_order file)) (file_depth file ∷ starts_of file) (file ∷ []) ([] ∷ []) e)

refused-holds : (file : List ℕ) → (first_number (open_order file) ≡ 0 → ⊥) → held (open_outcome file) ≡ []
unfolding open_outcome
refused-holds file n = ap held (settled-refused (first_number (open_order file)) (file_depth file ∷ starts_of file) (file ∷ []) ([] ∷ []) n)

-- bytes that open to these numbers
pub opened-opens : (file part starts : List ℕ) (D : ℕ) → open_outcome file ≡ outcome (told 0 (D ∷ starts)) (part ∷ []) → opens_to file D starts ≡ true
unfolding opens_to
opened-opens file part starts D e =
    ap₂ (λ (n : ℕ) (l : List ℕ). eqb n 0 && same_list l (D ∷ starts)) (ap (λ (o : Outcome). o.number) e) (ap (λ (o : Outcome). o.values) e) ∙ same_self (D ∷ starts)

-- a question on them is the packed voxel's
pub opens-ask : (file starts : List ℕ) (D : ℕ) (v : Point) → opens_to file D starts ≡ true → ask_outcome file D starts v ≡ packed_voxel_outcome file v
unfolding ask_outcome packed_voxel_outcome first_number
opens-ask file starts D v e =
    ap (λ (b : Bool). settled (cond (not b) 6 (first_number (packed_voxel_order file v))) (packed_values file v) [] []) e

-- no bytes open to nothing
nothing-ask : (starts : List ℕ) (D : ℕ) (v : Point) → ask_outcome [] D starts v ≡ outcome (told 6 (0 ∷ 0 ∷ 0 ∷ [])) []
unfolding ask_outcome opens_to open_outcome settled first_number
nothing-ask starts D v = refl

pub claim8 : C8
claim8 = record {
  asked = λ file part starts D v e.
      let none : first_number (open_order file) ≡ 0 = sym (open-number file) ∙ ap (λ (o : Outcome). o.number) e in
      let is : part ≡ file = sym (ap held e) ∙ accepted-holds file none in
      (is, ap (λ (l : List ℕ). ask_outcome l D starts v) is ∙ opens-ask file starts D v (opened-opens file part starts D e));
  refused = λ file part starts n D v e.
      let some : first_number (open_order file) ≡ suc n = sym (open-number file) ∙ ap (λ (o : Outcome). o.number) e in
      let is : part ≡ [] = sym (ap held e) ∙ refused-holds file (λ z. suc-ne-zero n (sym some ∙ z)) in
      (is, ap (λ (l : List ℕ). ask_outcome l D starts v) is ∙ nothing-ask starts D v);
}
