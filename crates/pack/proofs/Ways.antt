-- The ways through packing a scene, for the headset or not, in the code's words: the store is damaged, there is no such scene, scratch is too short, and,
-- scratch being cleared, the scene is too deep for the headset or has a long pointer, the output is too short, or the file is written. Each by the values
-- of the tests, at which the outcome computes. Assumes nothing.
use mathlib.Core.Path.{◌≡◌, refl, sym, ap, ◌∙◌}
use mathlib.Core.Bool.{Bool, true, false, false≢true, cond, not, ◌&&◌}
use mathlib.Core.List.{List, [], ◌∷◌, ◌++◌}
use Prim.Native.Nat.{ℕ, ◌-◌, ◌≤◌, ◌<◌}
use native.Mathlib.Omega.{arith}
use borrow.Author.Tests.{lt-ltb, le-ltb, eq-eqb}
use lib.Dec.{T, ltb}
use lib.ListN.{length, take, drop, replicate, length-append, length-drop, length-replicate}
use lib.Seq.{take_at, drop_at}
use Rattle.paper.specs.Store.{tag_of, is_held, scene_depth, scene_root, kept_of, store_ok}
use Rattle.paper.specs.Answers.{Outcome, outcome, told, number_of, written}
use Rattle.paper.specs.Order.{when, first_number, settled}
use Rattle.paper.specs.Numbers.{bytes, is_in}
use Rattle.paper.specs.Packed.{all_short}
use Rattle.paper.specs.Pack.{empty_file, layout, scene_graph, packed_file}
use Rattle.paper.specs.Calls.{over, cleared, no_scene, scratch_for, pack_bytes, pack_short, pack_scratch_after, pack_outcome}
use Rattle.paper.specs.Headset.{too_deep, headset_pack_scratch_after, headset_pack_outcome}
use Rattle.paper.specs.declared.Refusal.TheVariants.{DamagedStore, NoScene, ScratchShort, OutputShort, TooDeep, LongPointer}
use Rattle.std.specs.Prelude.{Result, Ok, Err}
use Rattle.paper.specs.declared.Refusal.{Refusal}
use Rattle.laws.proofs.Tests.{T_true, true-T, and_left}
use Rattle.laws.proofs.Undamaged.{held-there}
use Rattle.pack_bytes.specs.Writing.{fitted}
use Rattle.pack.specs.Ready.{profiled}

-- ---- an output

module _ (bs out : List ℕ) where
  pub fitted_short : length out < length bs → outcome (written (Err OutputShort)) (out ∷ []) ≡ fitted bs out
  unfolding fitted
  fitted_short h =
      ap (λ (b : Bool). cond b (outcome (told 12 (0 ∷ [])) (out ∷ [])) (outcome (told 0 (length bs ∷ [])) (over bs out ∷ []))) (sym (lt-ltb (length out) (length bs) h))

  pub fitted-whole : (n : ℕ) (o : List ℕ) → n ≡ length bs → o ≡ over bs out → length bs ≤ length out → outcome (written (Ok n)) (o ∷ []) ≡ fitted bs out
  unfolding fitted
  fitted-whole n o e f h =
      (λ i. outcome (written (Ok (e i))) (f i ∷ []))
      ∙ ap (λ (b : Bool). cond b (outcome (told 12 (0 ∷ [])) (out ∷ [])) (outcome (told 0 (length bs ∷ [])) (over bs out ∷ []))) (sym (le-ltb (length out) (length bs) h))

-- bytes with a long pointer aren't for the headset; all others are for both
module _ (headset : Bool) (bs out : List ℕ) where
  pub profiled-long : headset && not (all_short bs) ≡ true → outcome (written (Err LongPointer)) (out ∷ []) ≡ profiled headset bs out
  unfolding profiled
  profiled-long e = rw e

  pub profiled-fit : headset && not (all_short bs) ≡ false → profiled headset bs out ≡ fitted bs out
  unfolding profiled
  profiled-fit e = rw e

-- an empty scene has no pointer
none-long : (headset : Bool) (D : ℕ) → headset && not (all_short (empty_file D)) ≡ false
unfolding all_short empty_file bytes
none-long true D = refl
none-long false D = refl

pub empty-profiled : (headset : Bool) (D : ℕ) (out : List ℕ) → profiled headset (empty_file D) out ≡ fitted (empty_file D) out
empty-profiled headset D out = profiled-fit headset (empty_file D) out (none-long headset D)

-- ---- scratch

module _ (n : ℕ) (s : List ℕ) where
  pub cleared-drop : drop n (cleared n s) ≡ drop n s
  cleared-drop = drop_at (replicate n 0) (drop n s) n (length-replicate n 0)

  pub cleared-take : take n (cleared n s) ≡ replicate n 0
  cleared-take = take_at (replicate n 0) (drop n s) n (length-replicate n 0)

  pub cleared-long : n ≤ length s → length (cleared n s) ≡ length s
  cleared-long h = length-append (replicate n 0) (drop n s) ∙ omega (arith, length-replicate {A = ℕ} n 0, length-drop n s)

  -- cleared again, whatever was written into the part
  pub cleared-again : (t : List ℕ) → drop n t ≡ drop n (cleared n s) → cleared n t ≡ cleared n s
  cleared-again t e = ap (λ (l : List ℕ). replicate n 0 ++ l) (e ∙ cleared-drop)

-- ---- the file of a scene

module _ (ws : List ℕ) (n : ℕ) where
  pub bytes-empty : (D r : ℕ) → D ≡ scene_depth ws n → r ≡ scene_root ws n → r ≡ 0 → empty_file D ≡ pack_bytes ws n
  unfolding pack_bytes packed_file
  bytes-empty D r e f z =
      ap empty_file e
      ∙ ap (λ (b : Bool). cond b (empty_file (scene_depth ws n)) (layout (scene_depth ws n - 2) (tag_of (scene_root ws n)) (scene_graph (kept_of ws) (scene_depth ws n - 2) (scene_root ws n))))
      (sym (eq-eqb (scene_root ws n) 0 (sym f ∙ z)))

  pub bytes-root : (D r : ℕ) → D ≡ scene_depth ws n → r ≡ scene_root ws n → packed_file (kept_of ws) D r ≡ pack_bytes ws n
  unfolding pack_bytes
  bytes-root D r e f = λ i. packed_file (kept_of ws) (e i) (f i)

-- ---- the calls

-- a slice lent before the others
before : List ℕ → Outcome → Outcome
before s o = record { number = o.number; values = o.values; lent = s ∷ o.lent }

module _ (ws : List ℕ) (n : ℕ) (scratch out : List ℕ) where
  -- the outcome for the headset or not
  abbrev pub scene_outcome : Bool → Outcome
  scene_outcome headset = cond headset (headset_pack_outcome ws n scratch out) (pack_outcome ws n scratch out)

  -- the same by what the tests say of the store, the scene, scratch, the depth, the pointers and the output
  abbrev by_tests : Bool → Bool → Bool → Bool → Bool → Bool → Bool → Outcome
  by_tests headset p q s d l o =
      let number : ℕ =
      first_number (when (not p) (number_of DamagedStore) ∷ when q (number_of NoScene) ∷ when s (number_of ScratchShort) ∷ when d (number_of TooDeep) ∷ when l (number_of LongPointer) ∷ when o (number_of OutputShort) ∷ []) in
      settled number (length (pack_bytes ws n) ∷ []) (cleared (scratch_for ws) scratch ∷ over (pack_bytes ws n) out ∷ [])
      (cond headset (headset_pack_scratch_after number ws scratch) (pack_scratch_after number ws scratch) ∷ out ∷ [])

  abbrev deep : Bool → Bool
  deep headset = headset && too_deep (scene_depth ws n)

  abbrev long : Bool → Bool
  long headset = headset && not (all_short (pack_bytes ws n))

  whole : (headset : Bool)
      → by_tests headset (store_ok ws) (no_scene ws n) (ltb (length scratch) (scratch_for ws)) (deep headset) (long headset) (pack_short ws n out) ≡ scene_outcome headset
  unfolding pack_outcome headset_pack_outcome first_number
  whole true = refl
  whole false = refl

  -- refused before scratch is used
  first_two : (headset q s d l o : Bool) → outcome (written (Err DamagedStore)) (scratch ∷ out ∷ []) ≡ by_tests headset false q s d l o
  unfolding first_number settled is_in
  first_two true q s d l o = refl
  first_two false q s d l o = refl

  first-nine : (headset s d l o : Bool) → outcome (written (Err NoScene)) (scratch ∷ out ∷ []) ≡ by_tests headset true true s d l o
  unfolding first_number settled is_in
  first-nine true s d l o = refl
  first-nine false s d l o = refl

  first-eleven : (headset d l o : Bool) → outcome (written (Err ScratchShort)) (scratch ∷ out ∷ []) ≡ by_tests headset true false true d l o
  unfolding first_number settled is_in
  first-eleven true d l o = refl
  first-eleven false d l o = refl

  module _ (headset : Bool) where
    pub damaged : store_ok ws ≡ false → outcome (written (Err DamagedStore)) (scratch ∷ out ∷ []) ≡ scene_outcome headset
    damaged e =
        first_two headset (no_scene ws n) (ltb (length scratch) (scratch_for ws)) (deep headset) (long headset) (pack_short ws n out)
        ∙ ap (λ (p : Bool). by_tests headset p (no_scene ws n) (ltb (length scratch) (scratch_for ws)) (deep headset) (long headset) (pack_short ws n out)) (sym e) ∙ whole headset

    module _ (ok : store_ok ws ≡ true) where
      pub no_scene_lem : no_scene ws n ≡ true → outcome (written (Err NoScene)) (scratch ∷ out ∷ []) ≡ scene_outcome headset
      no_scene_lem h =
          first-nine headset (ltb (length scratch) (scratch_for ws)) (deep headset) (long headset) (pack_short ws n out)
          ∙ (λ i. by_tests headset (sym ok i) (sym h i) (ltb (length scratch) (scratch_for ws)) (deep headset) (long headset) (pack_short ws n out)) ∙ whole headset

      module _ (held : T (is_held ws n)) where
        pub scratch-short : length scratch < scratch_for ws → outcome (written (Err ScratchShort)) (scratch ∷ out ∷ []) ≡ scene_outcome headset
        scratch-short h =
            first-eleven headset (deep headset) (long headset) (pack_short ws n out)
            ∙ (λ i. by_tests headset (sym ok i) (sym (held-there ws n held) i) (sym (lt-ltb (length scratch) (scratch_for ws) h) i) (deep headset) (long headset) (pack_short ws n out)) ∙ whole headset

        module _ (room : scratch_for ws ≤ length scratch) where
          at-depth : (d : Bool) → deep headset ≡ d → by_tests headset true false false d (long headset) (pack_short ws n out) ≡ scene_outcome headset
          at-depth d e =
              (λ i. by_tests headset (sym ok i) (sym (held-there ws n held) i) (sym (le-ltb (length scratch) (scratch_for ws) room) i) (sym e i) (long headset) (pack_short ws n out)) ∙ whole headset

          fourteen : (h l o : Bool) → h ≡ true → outcome (written (Err TooDeep)) (cleared (scratch_for ws) scratch ∷ out ∷ []) ≡ by_tests h true false false true l o
          unfolding first_number settled is_in
          fourteen true l o e = refl
          fourteen false l o e = absurd (false≢true e)

          -- scratch cleared, and too deep for the headset
          pub too_deep_lem : (s : List ℕ) (D : ℕ) → s ≡ cleared (scratch_for ws) scratch → D ≡ scene_depth ws n → headset && too_deep D ≡ true
              → outcome (written (Err TooDeep)) (s ∷ out ∷ []) ≡ scene_outcome headset
          too_deep_lem s D c f e =
              ap (λ (x : List ℕ). outcome (written (Err TooDeep)) (x ∷ out ∷ [])) c
              ∙ fourteen headset (long headset) (pack_short ws n out) (T_true (and_left headset (too_deep D) (true-T e)))
              ∙ at-depth true (ap (λ (d : ℕ). headset && too_deep d) (sym f) ∙ e)

          settles : (h l o : Bool)
              → before (cleared (scratch_for ws) scratch)
              (cond (h && l) (outcome (told 15 (0 ∷ [])) (out ∷ [])) (cond o (outcome (told 12 (0 ∷ [])) (out ∷ [])) (outcome (told 0 (length (pack_bytes ws n) ∷ [])) (over (pack_bytes ws n) out ∷ []))))
              ≡ by_tests h true false false false (h && l) o
          unfolding first_number settled before is_in
          settles true true o = refl
          settles true false true = refl
          settles true false false = refl
          settles false l true = refl
          settles false l false = refl

          -- scratch cleared, and the output as the file's bytes leave it
          pub in_order : (D : ℕ) → D ≡ scene_depth ws n → headset && too_deep D ≡ false
              → (r : Result ℕ Refusal) (s o bs : List ℕ) → s ≡ cleared (scratch_for ws) scratch → bs ≡ pack_bytes ws n → outcome (written r) (o ∷ []) ≡ profiled headset bs out
              → outcome (written r) (s ∷ o ∷ []) ≡ scene_outcome headset
          unfolding profiled fitted pack_short before
          in_order D d g r s o bs c f e =
              ap (λ (x : List ℕ). outcome (written r) (x ∷ o ∷ [])) c
              ∙ ap (before (cleared (scratch_for ws) scratch)) (e ∙ ap (λ (x : List ℕ). profiled headset x out) f)
              ∙ settles headset (not (all_short (pack_bytes ws n))) (ltb (length out) (length (pack_bytes ws n)))
              ∙ at-depth false (ap (λ (x : ℕ). headset && too_deep x) (sym d) ∙ g)
