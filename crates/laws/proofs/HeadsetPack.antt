-- Packing for the headset, for claim C17: accepted, its outcome is pack's; of the scenes held it refuses by 14 and 15 just those whose file doesn't meet
-- the profile, and what it writes passes the check; what it doesn't look at, and what its scratch holds. By cases on the tests of its order, with the
-- laws of packing. Assumes nothing.
use mathlib.Core.Path.{◌≡◌, refl, sym, ◌∙◌, subst, ap, ap₂}
use mathlib.Core.Bool.{Bool, true, false, cond, not, ◌&&◌}
use mathlib.Core.List.{List, [], ◌∷◌}
use mathlib.Core.Option.{some}
use Prim.Native.Nat.{ℕ, ◌≤◌}
use native.Mathlib.Nat.{suc-ne-zero}
use borrow.Author.Tests.{le-ltb}
use lib.Dec.{ltb}
use lib.ListN.{length, get_or}
use Rattle.paper.specs.Numbers.{is_in}
use Rattle.paper.specs.Outline.{file_depth}
use Rattle.paper.specs.Store.{scene_depth, store_ok}
use Rattle.paper.specs.Packed.{all_short}
use Rattle.paper.specs.Answers.{Outcome}
use Rattle.paper.specs.Order.{when, first_number, settled}
use Rattle.paper.specs.Calls.{over, cleared, no_scene, scratch_for, pack_bytes, pack_short, pack_order, pack_outcome}
use Rattle.paper.specs.Runs.{Scene, State, Reached}
use Rattle.paper.specs.Headset.{too_deep, meets_headset, headset_pack_order, headset_pack_scratch_after, headset_pack_outcome, headset_check_outcome}
use Rattle.paper.specs.Claims.{Packs, SameBut, length_in}
use Rattle.laws.proofs.Tests.{T_true}
use Rattle.laws.proofs.Refusals.{settled-accepted, settled-number}
use Rattle.laws.proofs.Holding.{Holds, HeldAt, held_at, below-there, there-below, reached-holds}
use Rattle.laws.proofs.Unseen.{same-but}
use Rattle.laws.proofs.HeadsetCheck.{passed-headset}
use Rattle.laws.proofs.PackClaim.{claim6}

-- ---- by the tests: the store, no scene, scratch, the depth, no long pointer, the output

abbrev number : Bool → Bool → Bool → Bool → Bool → Bool → ℕ
number s n a d l b = first_number (when (not s) 2 ∷ when n 9 ∷ when a 11 ∷ when d 14 ∷ when (not l) 15 ∷ when b 12 ∷ [])

-- zeros: the scratch cleared
abbrev by_tests : Bool → Bool → Bool → Bool → Bool → Bool → List ℕ → List ℕ → List ℕ → List ℕ → List ℕ → Outcome
by_tests s n a d l b vs scratch zeros file out =
    settled (number s n a d l b) vs (zeros ∷ file ∷ []) (cond (is_in (number s n a d l b) (12 ∷ 14 ∷ 15 ∷ [])) zeros scratch ∷ out ∷ [])

scratch_after : (s n a d l b : Bool) (vs scratch zeros file out : List ℕ)
    → get_or (by_tests s n a d l b vs scratch zeros file out).lent 0 [] ≡ cond (is_in (by_tests s n a d l b vs scratch zeros file out).number (2 ∷ 9 ∷ 11 ∷ [])) scratch zeros
unfolding first_number settled is_in
scratch_after false n a d l b vs scratch zeros file out = refl
scratch_after true true a d l b vs scratch zeros file out = refl
scratch_after true false true d l b vs scratch zeros file out = refl
scratch_after true false false true l b vs scratch zeros file out = refl
scratch_after true false false false false b vs scratch zeros file out = refl
scratch_after true false false false true true vs scratch zeros file out = refl
scratch_after true false false false true false vs scratch zeros file out = refl

-- no test refuses
record Passed (s n a d l b : Bool) : Type 0 where
  store : s ≡ true
  scene : n ≡ false
  scratch : a ≡ false
  depth : d ≡ false
  short : l ≡ true
  room : b ≡ false

passed : (s n a d l b : Bool) → number s n a d l b ≡ 0 → Passed s n a d l b
unfolding first_number
passed false n a d l b e = absurd (suc-ne-zero 1 e)
passed true true a d l b e = absurd (suc-ne-zero 8 e)
passed true false true d l b e = absurd (suc-ne-zero 10 e)
passed true false false true l b e = absurd (suc-ne-zero 13 e)
passed true false false false false b e = absurd (suc-ne-zero 14 e)
passed true false false false true true e = absurd (suc-ne-zero 11 e)
passed true false false false true false e = record { store = refl; scene = refl; scratch = refl; depth = refl; short = refl; room = refl }

-- the depth or a long pointer refuses, where nothing before does
refuses : (d l b : Bool) → is_in (number true false false d l b) (14 ∷ 15 ∷ []) ≡ not (not d && l)
unfolding first_number is_in
refuses true l b = refl
refuses false false b = refl
refuses false true true = refl
refuses false true false = refl

-- ---- the call

module _ (ws : List ℕ) (n : ℕ) (scratch out : List ℕ) where
  number_is : (headset_pack_outcome ws n scratch out).number ≡ first_number (headset_pack_order ws n scratch out)
  unfolding headset_pack_outcome
  number_is = settled-number (first_number (headset_pack_order ws n scratch out)) _ _ _

  tests-passed : (headset_pack_outcome ws n scratch out).number ≡ 0
      → Passed (store_ok ws) (no_scene ws n) (ltb (length scratch) (scratch_for ws)) (too_deep (scene_depth ws n)) (all_short (pack_bytes ws n)) (pack_short ws n out)
  tests-passed e =
      passed (store_ok ws) (no_scene ws n) (ltb (length scratch) (scratch_for ws)) (too_deep (scene_depth ws n)) (all_short (pack_bytes ws n)) (pack_short ws n out) (sym number_is ∙ e)

  -- accepted, it does what pack does
  pub ordinary : (headset_pack_outcome ws n scratch out).number ≡ 0 → headset_pack_outcome ws n scratch out ≡ pack_outcome ws n scratch out
  unfolding headset_pack_outcome pack_outcome first_number
  ordinary e =
      let p : Passed (store_ok ws) (no_scene ws n) (ltb (length scratch) (scratch_for ws)) (too_deep (scene_depth ws n)) (all_short (pack_bytes ws n)) (pack_short ws n out) = tests-passed e in
      let pack : first_number (pack_order ws n scratch out) ≡ 0 = rw (p.store, p.scene, p.scratch, p.room) in
      settled-accepted (first_number (headset_pack_order ws n scratch out)) _ _ _ (sym number_is ∙ e) ∙ sym (settled-accepted (first_number (pack_order ws n scratch out)) _ _ _ pack)

  pub pack_scratch_lem : get_or (headset_pack_outcome ws n scratch out).lent 0 []
      ≡ cond (is_in (headset_pack_outcome ws n scratch out).number (2 ∷ 9 ∷ 11 ∷ [])) scratch (cleared (scratch_for ws) scratch)
  unfolding headset_pack_outcome
  pack_scratch_lem =
      scratch_after (store_ok ws) (no_scene ws n) (ltb (length scratch) (scratch_for ws)) (too_deep (scene_depth ws n)) (all_short (pack_bytes ws n)) (pack_short ws n out) (length (pack_bytes ws n) ∷ [])
      scratch (cleared (scratch_for ws) scratch) (over (pack_bytes ws n) out) out

-- whatever output and scratch held before
pub packs : (ws : List ℕ) (n : ℕ) (scratch scratch' out out' : List ℕ) → length scratch ≡ length scratch' → length out ≡ length out'
    → SameBut (length_in (headset_pack_outcome ws n scratch out)) (headset_pack_outcome ws n scratch out) (headset_pack_outcome ws n scratch' out') out out' 1
unfolding headset_pack_outcome pack_short
packs ws n scratch scratch' out out' d e =
    let B : List ℕ = pack_bytes ws n in
    let m : ℕ = scratch_for ws in
    let N : ℕ = first_number (headset_pack_order ws n scratch out) in
    let same : N ≡ first_number (headset_pack_order ws n scratch' out') =
    ap₂ (λ (i j : ℕ). number (store_ok ws) (no_scene ws n) (ltb i m) (too_deep (scene_depth ws n)) (all_short B) (ltb j (length B))) d e in
    let A : List (List ℕ) = cleared m scratch ∷ over B out ∷ [] in
    let E : List (List ℕ) = headset_pack_scratch_after N ws scratch ∷ out ∷ [] in
    let A' : List (List ℕ) = cleared m scratch' ∷ over B out' ∷ [] in
    let o : Outcome = settled N (length B ∷ []) A E in
    subst (λ (j : ℕ). SameBut (length_in o) o (settled j (length B ∷ []) A' (headset_pack_scratch_after j ws scratch' ∷ out' ∷ [])) out out' 1) same
    (same-but N B out out' A E A' (headset_pack_scratch_after N ws scratch' ∷ out' ∷ []) 1 refl refl refl refl)

-- ---- the scenes held

module _ (s : State) (r : Reached s) (n : ℕ) where
  abbrev ws : List ℕ
  ws = s.words

  abbrev bytes : List ℕ
  bytes = pack_bytes s.words n

  h : Holds s.words s.held
  h = reached-holds s r

  -- the file is proper, so the depth and its pointers decide
  scene-meets : (sc : Scene) → s.held n ≡ some sc → meets_headset bytes ≡ not (too_deep (scene_depth ws n)) && all_short bytes
  unfolding meets_headset
  scene-meets sc e =
      let a : HeldAt ws n sc (h.file n) = held_at h n sc e in
      let pack : Packs s n sc bytes = (claim6 s r).each n sc e in
      let deep : file_depth bytes ≡ scene_depth ws n = pack.depth ∙ ap (λ (c : Scene). c.depth) a.is ∙ sym a.means.depth in
      rw (pack.is_proper, deep)

  pub refused : (sc : Scene) → s.held n ≡ some sc → (scratch out : List ℕ) → scratch_for s.words ≤ length scratch
      → is_in (headset_pack_outcome s.words n scratch out).number (14 ∷ 15 ∷ []) ≡ not (meets_headset (pack_bytes s.words n))
  refused sc e scratch out hs =
      let a : HeldAt ws n sc (h.file n) = held_at h n sc e in
      let d : Bool = too_deep (scene_depth ws n) in
      let l : Bool = all_short bytes in
      let b : Bool = pack_short ws n out in
      ap (λ (m : ℕ). is_in m (14 ∷ 15 ∷ [])) (number_is ws n scratch out)
      ∙ (λ i. is_in (number (T_true {b = store_ok ws} h.ok i) (below-there h n a.below i) (le-ltb (length scratch) (scratch_for ws) hs i) d l b) (14 ∷ 15 ∷ []))
      ∙ refuses d l b ∙ ap not (sym (scene-meets sc e))

  -- what is written meets the profile
  pub written-meets : (scratch out : List ℕ) → (headset_pack_outcome s.words n scratch out).number ≡ 0 → meets_headset (pack_bytes s.words n) ≡ true
  written-meets scratch out e =
      let p : Passed (store_ok ws) (no_scene ws n) (ltb (length scratch) (scratch_for ws)) (too_deep (scene_depth ws n)) (all_short bytes) (pack_short ws n out) = tests-passed ws n scratch out e in
      scene-meets _ (h.under n (there-below h n p.scene)) ∙ ap₂ (λ (d l : Bool). not d && l) p.depth p.short

  -- so it passes the check
  pub passes : (scratch out scratch' : List ℕ) → (headset_pack_outcome s.words n scratch out).number ≡ 0
      → length (pack_bytes s.words n) ≤ length scratch' → (headset_check_outcome (pack_bytes s.words n) scratch').number ≡ 0
  passes scratch out scratch' e l = passed-headset bytes scratch' (written-meets scratch out e) l
