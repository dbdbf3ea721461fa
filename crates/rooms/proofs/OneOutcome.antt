-- One outcome: for each public call, two results that meet its promise on the same input are equal, the answer and every slice lent for writing.
-- The promise is the one that the call's `ensures` cites. An answer can be read back from its number and values, so that equal outcomes come from
-- equal answers; the theorems follow in the order of the calls. Assumes nothing.
use mathlib.Core.Path.{◌≡◌, refl, sym, ap, ◌∙◌}
use mathlib.Core.List.{List, [], ◌∷◌}
use Prim.Native.Nat.{ℕ, zero, suc}
use lib.ListN.{get_or}
use Rattle.paper.specs.declared.Searched.{Searched}
use Rattle.paper.specs.declared.Found.{Found}
use Rattle.paper.specs.declared.Opening.{Opening}
use Rattle.paper.specs.declared.Wish.{Wish}
use Rattle.paper.specs.declared.Refusal.{Refusal}
use Rattle.paper.specs.declared.Voxel.{Voxel}
use Rattle.paper.specs.declared.Sight.{Sight}
use Rattle.paper.specs.Numbers.{bit_for}
use Rattle.std.specs.Prelude.{Result, Ok, Err, Option, None, Some, ⊤, Bool, true, false, replicate}
use Rattle.paper.specs.Rooms.{Point}
use Rattle.paper.specs.Answers.{Outcome, Told, outcome, answer_told, voxel_values, sight_values, found_values, started, added, seen, sighted, searched, occupied, counted, kept, written, checked, found, chosen, refusal_number, opened, holds}
use Rattle.paper.specs.Promises.{NewStorePromise, AddPromise, VoxelPromise, SightPromise, CellPromise, BoxPromise, AnyPromise, KeptPromise, OutlinePromise, PackPromise, HeadsetPackPromise, CheckPromise, HeadsetCheckPromise, PackedVoxelPromise, OpenPromise, AskPromise, DetailPromise}
use Rattle.laws.proofs.RefusalNumbers.{answer_of, refused-back}

-- ---- each answer from its number and values

-- an answer with values, from an outcome
abbrev answer_from : {A : Type 0} → (List ℕ → A) → Outcome → Result A Refusal
answer_from from o = answer_of (Ok (from o.values)) Err o.number

module _ {A : Type 0} (n : ℕ) (values : A → List ℕ) (from : List ℕ → A) (inv : (a : A) → from (values a) ≡ a) where
  answer-back : (r : Result A Refusal) (ls : List (List ℕ)) → answer_from from (outcome (answer_told n values r) ls) ≡ r
  answer-back (Ok a) ls = ap Ok (inv a)
  answer-back (Err r) ls = refused-back (Ok (from (replicate n 0))) Err r

-- the first of two by whether a number is not 0
abbrev pick : {A : Type 0} → A → A → ℕ → A
pick a b zero = b
pick a b (suc n) = a

-- no value
nothing-back : (u : ⊤) → u ≡ u
nothing-back u = refl

-- one number
abbrev first : List ℕ → ℕ
first vs = get_or vs 0 0

first-back : (n : ℕ) → first (n ∷ []) ≡ n
first-back n = refl

abbrev voxel_from : List ℕ → Voxel
voxel_from vs = pick Voxel.Solid (Voxel.Empty (get_or vs 1 0)) (first vs)

voxel-back : (v : Voxel) → voxel_from (voxel_values v) ≡ v
voxel-back Voxel.Solid = refl
voxel-back (Voxel.Empty h) = refl

abbrev sight_from : List ℕ → Sight
sight_from vs = pick (Sight.Blocked (get_or vs 1 0) (get_or vs 2 0) (get_or vs 3 0)) Sight.Clear (first vs)

sight-back : (s : Sight) → sight_from (sight_values s) ≡ s
sight-back Sight.Clear = refl
sight-back (Sight.Blocked x y z) = refl

-- true or false
abbrev marked : ℕ → Bool
marked n = pick true false n

marked-back : (b : Bool) → marked (bit_for b) ≡ b
marked-back true = refl
marked-back false = refl

abbrev searched_from : List ℕ → Searched
searched_from vs = record { found = marked (first vs); entered = get_or vs 1 0 }

searched-back : (s : Searched) → searched_from (bit_for s.found ∷ s.entered ∷ []) ≡ s
searched-back s = ap (λ (b : Bool). record { found = b; entered = s.entered }) (marked-back s.found)

abbrev found_from : List ℕ → Found
found_from vs = record { voxel = pick Voxel.Solid (Voxel.Empty (get_or vs 2 0)) (first vs); records = get_or vs 1 0 }

found-back : (f : Found) → found_from (found_values f) ≡ f
found-back f = ap (λ (v : Voxel). record { voxel = v; records = f.records }) (go f.voxel)
  where
    go : (v : Voxel) → pick Voxel.Solid (Voxel.Empty (get_or (voxel_values v) 1 0)) (get_or (voxel_values v) 0 0) ≡ v
    go Voxel.Solid = refl
    go (Voxel.Empty h) = refl

-- ---- equal outcomes come from equal answers and equal slices

module _ {A : Type 0} (tell : A → Told) (back : Outcome → A) (inv : (r : A) (ls : List (List ℕ)) → back (outcome (tell r) ls) ≡ r) where
  same_answer : {r s : A} {ls ms : List (List ℕ)} {o : Outcome} → outcome (tell r) ls ≡ o → outcome (tell s) ms ≡ o → r ≡ s
  same_answer {r} {s} {ls} {ms} a b = sym (inv r ls) ∙ ap back (a ∙ sym b) ∙ inv s ms

same-lent : {t u : Told} {ls ms : List (List ℕ)} {o : Outcome} → outcome t ls ≡ o → outcome u ms ≡ o → ls ≡ ms
same-lent a b = ap (λ (o : Outcome). o.lent) (a ∙ sym b)

abbrev lent_at : ℕ → List (List ℕ) → List ℕ
lent_at i ls = get_or ls i []

-- ---- the calls

pub new-store : (C : ℕ) (ws : List ℕ) {r s : Result ⊤ Refusal} {xs ys : List ℕ} → NewStorePromise C ws r xs → NewStorePromise C ws s ys → (r ≡ s) × (xs ≡ ys)
new-store C ws a b = (same_answer started (answer_from (λ vs. tt)) (answer-back 0 (λ u. []) (λ vs. tt) nothing-back) a b, ap (lent_at 0) (same-lent a b))

pub add : (ws file : List ℕ) {r s : Result ℕ Refusal} {xs ys : List ℕ} → AddPromise ws file r xs → AddPromise ws file s ys → (r ≡ s) × (xs ≡ ys)
add ws file a b = (same_answer added (answer_from first) (answer-back 1 (λ n. n ∷ []) first first-back) a b, ap (lent_at 0) (same-lent a b))

pub voxel : (ws : List ℕ) (n : ℕ) (v : Point) {r s : Result Voxel Refusal} → VoxelPromise ws n v r → VoxelPromise ws n v s → r ≡ s
voxel ws n v a b = same_answer seen (answer_from voxel_from) (answer-back 2 voxel_values voxel_from voxel-back) a b

pub sight : (ws : List ℕ) (n : ℕ) (a b : Point) {r s : Result Sight Refusal} → SightPromise ws n a b r → SightPromise ws n a b s → r ≡ s
sight ws n a b p q = same_answer sighted (answer_from sight_from) (answer-back 4 sight_values sight_from sight-back) p q

pub cell : (ws : List ℕ) (n h : ℕ) (c : Point) {r s : Result Bool Refusal} → CellPromise ws n h c r → CellPromise ws n h c s → r ≡ s
cell ws n h c a b = same_answer occupied (answer_from (λ vs. marked (first vs))) (answer-back 1 (λ full. bit_for full ∷ []) (λ vs. marked (first vs)) marked-back) a b

pub box-count : (ws : List ℕ) (n : ℕ) (low high : Point) {r s : Result ℕ Refusal} → BoxPromise ws n low high r → BoxPromise ws n low high s → r ≡ s
box-count ws n low high a b = same_answer counted (answer_from first) (answer-back 1 (λ n. n ∷ []) first first-back) a b

pub anything : (ws : List ℕ) (n : ℕ) (low high : Point) {r s : Result Searched Refusal} → AnyPromise ws n low high r → AnyPromise ws n low high s → r ≡ s
anything ws n low high a b = same_answer searched (answer_from searched_from) (answer-back 2 (λ s. bit_for s.found ∷ s.entered ∷ []) searched_from searched-back) a b

pub kept-cells : (ws : List ℕ) (h : ℕ) {r s : Result ℕ Refusal} → KeptPromise ws h r → KeptPromise ws h s → r ≡ s
kept-cells ws h a b = same_answer kept (answer_from first) (answer-back 1 (λ n. n ∷ []) first first-back) a b

pub outline-out : (ws : List ℕ) (n : ℕ) (out : List ℕ) {r s : Result ℕ Refusal} {xs ys : List ℕ} → OutlinePromise ws n out r xs → OutlinePromise ws n out s ys → (r ≡ s) × (xs ≡ ys)
outline-out ws n out a b = (same_answer written (answer_from first) (answer-back 1 (λ n. n ∷ []) first first-back) a b, ap (lent_at 0) (same-lent a b))

pub pack : (ws : List ℕ) (n : ℕ) (scratch out : List ℕ) {r s : Result ℕ Refusal} {xs ys us vs : List ℕ}
    → PackPromise ws n scratch out r xs us → PackPromise ws n scratch out s ys vs → (r ≡ s) × (xs ≡ ys) × (us ≡ vs)
pack ws n scratch out a b = (same_answer written (answer_from first) (answer-back 1 (λ n. n ∷ []) first first-back) a b, ap (lent_at 0) (same-lent a b), ap (lent_at 1) (same-lent a b))

pub headset-pack : (ws : List ℕ) (n : ℕ) (scratch out : List ℕ) {r s : Result ℕ Refusal} {xs ys us vs : List ℕ}
    → HeadsetPackPromise ws n scratch out r xs us → HeadsetPackPromise ws n scratch out s ys vs → (r ≡ s) × (xs ≡ ys) × (us ≡ vs)
headset-pack ws n scratch out a b = (same_answer written (answer_from first) (answer-back 1 (λ n. n ∷ []) first first-back) a b, ap (lent_at 0) (same-lent a b), ap (lent_at 1) (same-lent a b))

pub check : (file scratch : List ℕ) {r s : Result ℕ Refusal} {xs ys : List ℕ} → CheckPromise file scratch r xs → CheckPromise file scratch s ys → (r ≡ s) × (xs ≡ ys)
check file scratch a b = (same_answer checked (answer_from first) (answer-back 1 (λ n. n ∷ []) first first-back) a b, ap (lent_at 0) (same-lent a b))

pub headset-check : (file scratch : List ℕ) {r s : Result ℕ Refusal} {xs ys : List ℕ} → HeadsetCheckPromise file scratch r xs → HeadsetCheckPromise file scratch s ys
    → (r ≡ s) × (xs ≡ ys)
headset-check file scratch a b = (same_answer checked (answer_from first) (answer-back 1 (λ n. n ∷ []) first first-back) a b, ap (lent_at 0) (same-lent a b))

pub packed-voxel : (file : List ℕ) (v : Point) {r s : Result Found Refusal} → PackedVoxelPromise file v r → PackedVoxelPromise file v s → r ≡ s
packed-voxel file v a b = same_answer found (answer_from found_from) (answer-back 3 found_values found_from found-back) a b

-- an opening is a struct: its refusal, depth, list starts and the bytes that it holds. The refusal is read back from its number
refusal-back : (o : Option Refusal) → answer_of None Some (refusal_number o) ≡ o
refusal-back None = refl
refusal-back (Some r) = refused-back None Some r

pub opening : (file : List ℕ) (r s : Opening) → OpenPromise file r → OpenPromise file s → (opened r ≡ opened s) × (holds r ≡ holds s) × (r.refusal ≡ s.refusal)
opening file r s a b = (
  ap (λ (o : Outcome). record { number = o.number; values = o.values }) (a ∙ sym b),
  ap (lent_at 0) (same-lent a b),
  sym (refusal-back r.refusal) ∙ ap (λ (o : Outcome). answer_of None Some o.number) (a ∙ sym b) ∙ refusal-back s.refusal,
)

pub ask : (file : List ℕ) (D : ℕ) (starts : List ℕ) (v : Point) {r s : Result Found Refusal} → AskPromise file D starts v r → AskPromise file D starts v s → r ≡ s
ask file D starts v a b = same_answer found (answer_from found_from) (answer-back 3 found_values found_from found-back) a b

pub detail : (depth : ℕ) (wish : Wish) {r s : Result ℕ Refusal} → DetailPromise depth wish r → DetailPromise depth wish s → r ≡ s
detail depth wish a b = same_answer chosen (answer_from first) (answer-back 1 (λ n. n ∷ []) first first-back) a b
