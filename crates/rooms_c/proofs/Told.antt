-- An answer told by its number and values apart is the answer: an export that returns the number of what a call of `rooms` answers, and writes its
-- values, has that call's outcome. One law for each type of answer, by its cases; then one for a call with no value, one, two, three and four. Assumes nothing.
use mathlib.Core.Path.{◌≡◌, refl, ap, ap₂, ◌∙◌}
use mathlib.Core.List.{List, [], ◌∷◌}
use Prim.Native.Nat.{ℕ}
use lib.ListN.{get_or}
use Rattle.std.specs.Prelude.{Ok, Err, true, false}
use Rattle.paper.specs.declared.Voxel.{Voxel}
use Rattle.paper.specs.declared.Sight.{Sight}
use Rattle.paper.specs.Answers.{Outcome, Told, told, outcome, started, added, seen, sighted, searched, occupied, counted, kept, written, checked, found, chosen}

-- ---- each answer has as many values, whether it is accepted or refused

abbrev None : {A : Type 0} → (A → Told) → Type 0
None {A} tell = (a : A) → told (tell a).number [] ≡ tell a

abbrev One : {A : Type 0} → (A → Told) → Type 0
One {A} tell = (a : A) → told (tell a).number (get_or (tell a).values 0 0 ∷ []) ≡ tell a

abbrev Two : {A : Type 0} → (A → Told) → Type 0
Two {A} tell = (a : A) → told (tell a).number (get_or (tell a).values 0 0 ∷ get_or (tell a).values 1 0 ∷ []) ≡ tell a

abbrev Three : {A : Type 0} → (A → Told) → Type 0
Three {A} tell = (a : A) → told (tell a).number (get_or (tell a).values 0 0 ∷ get_or (tell a).values 1 0 ∷ get_or (tell a).values 2 0 ∷ []) ≡ tell a

abbrev Four : {A : Type 0} → (A → Told) → Type 0
Four {A} tell = (a : A) → told (tell a).number (get_or (tell a).values 0 0 ∷ get_or (tell a).values 1 0 ∷ get_or (tell a).values 2 0 ∷ get_or (tell a).values 3 0 ∷ []) ≡ tell a

pub started-told : None started
started-told (Ok u) = refl
started-told (Err r) = refl

pub added-told : One added
added-told (Ok n) = refl
added-told (Err r) = refl

pub seen-told : Two seen
seen-told (Ok Voxel.Solid) = refl
seen-told (Ok (Voxel.Empty h)) = refl
seen-told (Err r) = refl

pub sighted-told : Four sighted
sighted-told (Ok Sight.Clear) = refl
sighted-told (Ok (Sight.Blocked x y z)) = refl
sighted-told (Err r) = refl

pub searched-told : Two searched
searched-told (Ok s) = refl
searched-told (Err r) = refl

pub occupied-told : One occupied
occupied-told (Ok true) = refl
occupied-told (Ok false) = refl
occupied-told (Err r) = refl

pub counted-told : One counted
counted-told (Ok n) = refl
counted-told (Err r) = refl

pub kept-told : One kept
kept-told (Ok n) = refl
kept-told (Err r) = refl

pub written-told : One written
written-told (Ok n) = refl
written-told (Err r) = refl

pub checked-told : One checked
checked-told (Ok d) = refl
checked-told (Err r) = refl

pub found-told : Three found
found-told (Ok f) = refl
found-told (Err r) = refl

pub chosen-told : One chosen
chosen-told (Ok h) = refl
chosen-told (Err r) = refl

-- ---- what an export tells has the outcome of the call

module _ {A : Type 0} (tell : A → Told) where
  pub tells_none : None tell → (a : A) {n : ℕ} {ls : List (List ℕ)} {o : Outcome} → n ≡ (tell a).number → outcome (tell a) ls ≡ o → outcome (told n []) ls ≡ o
  tells_none is a {n} {ls} e p = ap (λ (m : ℕ). outcome (told m []) ls) e ∙ ap (λ (t : Told). outcome t ls) (is a) ∙ p

  pub tells-one : One tell → (a : A) {n v : ℕ} {ls : List (List ℕ)} {o : Outcome} → n ≡ (tell a).number → v ≡ get_or (tell a).values 0 0
      → outcome (tell a) ls ≡ o → outcome (told n (v ∷ [])) ls ≡ o
  tells-one is a {n} {v} {ls} e f p = ap₂ (λ (m w : ℕ). outcome (told m (w ∷ [])) ls) e f ∙ ap (λ (t : Told). outcome t ls) (is a) ∙ p

  pub tells-two : Two tell → (a : A) {n v w : ℕ} {ls : List (List ℕ)} {o : Outcome} → n ≡ (tell a).number → v ≡ get_or (tell a).values 0 0
      → w ≡ get_or (tell a).values 1 0 → outcome (tell a) ls ≡ o → outcome (told n (v ∷ w ∷ [])) ls ≡ o
  tells-two is a {n} {v} {w} {ls} e f g p =
      ap (λ (m : ℕ). outcome (told m (v ∷ w ∷ [])) ls) e ∙ ap₂ (λ (x y : ℕ). outcome (told (tell a).number (x ∷ y ∷ [])) ls) f g
      ∙ ap (λ (t : Told). outcome t ls) (is a) ∙ p

  pub tells-three : Three tell → (a : A) {n v w u : ℕ} {ls : List (List ℕ)} {o : Outcome} → n ≡ (tell a).number → v ≡ get_or (tell a).values 0 0
      → w ≡ get_or (tell a).values 1 0 → u ≡ get_or (tell a).values 2 0 → outcome (tell a) ls ≡ o → outcome (told n (v ∷ w ∷ u ∷ [])) ls ≡ o
  tells-three is a {n} {v} {w} {u} {ls} e f g h p =
      ap₂ (λ (m x : ℕ). outcome (told m (x ∷ w ∷ u ∷ [])) ls) e f ∙ ap₂ (λ (y z : ℕ). outcome (told (tell a).number (get_or (tell a).values 0 0 ∷ y ∷ z ∷ [])) ls) g h
      ∙ ap (λ (t : Told). outcome t ls) (is a) ∙ p

  pub tells-four : Four tell → (a : A) {n v w x y : ℕ} {o : Outcome} → n ≡ (tell a).number → v ≡ get_or (tell a).values 0 0 → w ≡ get_or (tell a).values 1 0 → x ≡ get_or (tell a).values 2 0
      → y ≡ get_or (tell a).values 3 0 → outcome (tell a) [] ≡ o → outcome (told n (v ∷ w ∷ x ∷ y ∷ [])) [] ≡ o
  tells-four is a {n} {v} {w} {x} {y} e f g h i p = (λ j. outcome (told (e j) (f j ∷ g j ∷ h j ∷ i j ∷ [])) []) ∙ ap (λ (t : Told). outcome t []) (is a) ∙ p
