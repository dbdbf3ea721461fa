-- A call that only reads a store answers the same with other words behind those used. By the order of its tests: what it looks at after a test
-- is looked at only where that test passed, and there it is the same. Assumes nothing.
use mathlib.Core.Path.{◌≡◌, refl, sym, ap, ap₂, ◌∙◌}
use mathlib.Core.Bool.{Bool, true, false, cond, not, ◌||◌}
use mathlib.Core.List.{List, [], ◌∷◌, ◌++◌, map}
use mathlib.Core.Option.{Option, some}
use mathlib.Core.Option as O
use Prim.Native.Nat.{ℕ, ◌-◌, ◌<◌, ◌≤◌, ◌^◌}
use lib.Dec.{T, eqb, leb, ltb}
use lib.ListN.{length}
use Rattle.paper.specs.Numbers.{bit_for, is_in}
use Rattle.paper.specs.Rooms.{Point, depth_ok, inside}
use Rattle.paper.specs.Outline.{longest, outline_of}
use Rattle.paper.specs.Store.{Cell, most_scenes, heights, used, capacity_of, kept_count, kept_of, count_of, scene_depth, scene_root, header_ok, scene_ok, store_ok}
use Rattle.paper.specs.Meaning.{root_room}
use Rattle.paper.specs.Walk.{is_damaged, solid_at, empty_height}
use Rattle.paper.specs.Questions.{voxel_walk, cell_non_empty, cell_walk_damaged, box_tally, tally_damaged, tally_solid}
use Rattle.paper.specs.Questions.{Tally}
use Rattle.paper.specs.Packed.{all_short}
use Rattle.paper.specs.Pack.{packed_file}
use Rattle.paper.specs.Answers.{Outcome, told, outcome}
use Rattle.paper.specs.Order.{when, first_number, settled}
use Rattle.paper.specs.Calls.{over, cleared, no_scene, of_scene, axis_outside, voxel_outside, voxel_damaged, voxel_outcome, cell_outside, cell_damaged, cell_outcome, box_outside, scene_tally, box_damaged, box_outcome}
use Rattle.paper.specs.Calls.{kept_outcome, out_short, outline_bytes, outline_short, outline_outcome, pack_scratch, pack_bytes, pack_short, pack_outcome}
use Rattle.paper.specs.Lines.{tested, first_failing}
use Rattle.paper.specs.Sight.{says_empty, decider, gives_two, sight_damaged, sight_outside, blocked_at, sight_outcome}
use Rattle.paper.specs.Anything.{box_search, search_damaged, search_told, scene_search, any_damaged, any_outcome}
use Rattle.paper.specs.Headset.{too_deep, headset_pack_outcome}
use Rattle.paper.specs.Anything.{Search}
use Rattle.paper.specs.Anything.{Met, Passed, Damaged}
use Rattle.laws.proofs.Undamaged.{fine-header, depth_low, store-header, there-held, held-placed}
use Rattle.laws.proofs.UnseenWords.{capacity-unseen, number-unseen, count-unseen, header-unseen, kept-unseen, depth-unseen, root-unseen, scene-unseen, solid-unseen, undamaged-unseen}
use Rattle.laws.proofs.Places.{kept-placed}
use Rattle.laws.proofs.BoxTallies.{box-tally-same}

-- ---- the answers, by what their tests give

-- voxel, cell, box: header, no scene, scene, outside, walk, values
abbrev question : Bool → Bool → Bool → Bool → Bool → List ℕ → Outcome
question h e s o w vs = settled (first_number (when (not h) 2 ∷ when e 9 ∷ when (not s) 2 ∷ when o 10 ∷ when w 2 ∷ [])) vs [] []

-- as many zeros as values
abbrev zeros_for : List ℕ → List ℕ
zeros_for vs = map (λ v. 0) vs

question-same : (h e s s' o o' w w' : Bool) (v v' : List ℕ) → zeros_for v ≡ zeros_for v' → (T h → e ≡ false → (s ≡ s') × (o ≡ o') × (w ≡ w') × (v ≡ v'))
    → question h e s o w v ≡ question h e s' o' w' v'
unfolding first_number settled
question-same false e s s' o o' w w' v v' z q = ap (λ (l : List ℕ). outcome (told 2 l) []) z
question-same true true s s' o o' w w' v v' z q = ap (λ (l : List ℕ). outcome (told 9 l) []) z
question-same true false s s' o o' w w' v v' z q = let p : (s ≡ s') × (o ≡ o') × (w ≡ w') × (v ≡ v') = q tt refl in λ i. question true false (p.0 i) (p.1 i) (p.2 i) (p.3 i)

-- kept: header, height, count
abbrev kept_for : Bool → Bool → ℕ → Outcome
kept_for h d v = settled (first_number (when (not h) 2 ∷ when (not d) 10 ∷ [])) (v ∷ []) [] []

kept_for-same : (h d : Bool) (v v' : ℕ) → (T d → v ≡ v') → kept_for h d v ≡ kept_for h d v'
unfolding first_number settled
kept_for-same false d v v' q = refl
kept_for-same true false v v' q = refl
kept_for-same true true v v' q = ap (kept_for true true) (q tt)

-- outline out: store, no scene, the bytes
abbrev outline_for : Bool → Bool → List ℕ → List ℕ → Outcome
outline_for s e B out =
    settled (first_number (when (not s) 2 ∷ when e 9 ∷ when (out_short B out || ltb longest (length B)) 12 ∷ [])) (length B ∷ []) (over B out ∷ []) (out ∷ [])

outline_for-same : (s e : Bool) (B B' out : List ℕ) → (T s → e ≡ false → B ≡ B') → outline_for s e B out ≡ outline_for s e B' out
unfolding first_number settled
outline_for-same false e B B' out q = refl
outline_for-same true true B B' out q = refl
outline_for-same true false B B' out q = ap (λ (b : List ℕ). outline_for true false b out) (q tt refl)

-- pack: store, no scene, the scratch it takes, the bytes
abbrev pack_number : Bool → Bool → ℕ → List ℕ → List ℕ → List ℕ → ℕ
pack_number s e m B scratch out = first_number (when (not s) 2 ∷ when e 9 ∷ when (ltb (length scratch) m) 11 ∷ when (out_short B out) 12 ∷ [])

abbrev pack_for : Bool → Bool → ℕ → List ℕ → List ℕ → List ℕ → Outcome
pack_for s e m B scratch out =
    settled (pack_number s e m B scratch out) (length B ∷ []) (cleared m scratch ∷ over B out ∷ [])
    (cond (eqb (pack_number s e m B scratch out) 12) (cleared m scratch) scratch ∷ out ∷ [])

pack_for-same : (s e : Bool) (m : ℕ) (B B' scratch out : List ℕ) → (T s → e ≡ false → B ≡ B') → pack_for s e m B scratch out ≡ pack_for s e m B' scratch out
unfolding first_number settled
pack_for-same false e m B B' scratch out q = refl
pack_for-same true true m B B' scratch out q = refl
pack_for-same true false m B B' scratch out q = ap (λ (b : List ℕ). pack_for true false m b scratch out) (q tt refl)

-- the headset packing: store, no scene, the scratch it takes, the depth, the bytes
abbrev headset_number : Bool → Bool → ℕ → ℕ → List ℕ → List ℕ → List ℕ → ℕ
headset_number s e m D B scratch out =
    first_number (when (not s) 2 ∷ when e 9 ∷ when (ltb (length scratch) m) 11 ∷ when (too_deep D) 14 ∷ when (not (all_short B)) 15 ∷ when (out_short B out) 12 ∷ [])

abbrev headset_for : Bool → Bool → ℕ → ℕ → List ℕ → List ℕ → List ℕ → Outcome
headset_for s e m D B scratch out =
    settled (headset_number s e m D B scratch out) (length B ∷ []) (cleared m scratch ∷ over B out ∷ [])
    (cond (is_in (headset_number s e m D B scratch out) (12 ∷ 14 ∷ 15 ∷ [])) (cleared m scratch) scratch ∷ out ∷ [])

headset_for-same : (s e : Bool) (m D D' : ℕ) (B B' scratch out : List ℕ) → (T s → e ≡ false → (D ≡ D') × (B ≡ B'))
    → headset_for s e m D B scratch out ≡ headset_for s e m D' B' scratch out
unfolding first_number settled is_in
headset_for-same false e m D D' B B' scratch out q = refl
headset_for-same true true m D D' B B' scratch out q = refl
headset_for-same true false m D D' B B' scratch out q =
    let p : (D ≡ D') × (B ≡ B') = q tt refl in
    ap₂ (λ (d : ℕ) (b : List ℕ). headset_for true false m d b scratch out) p.0 p.1

-- a box outside, by a scene's depth
abbrev box_out : Point → Point → List (List Cell) → ℕ → ℕ → Bool
box_out low high K D p = axis_outside (2 ^ D) low.x high.x || axis_outside (2 ^ D) low.y high.y || axis_outside (2 ^ D) low.z high.z

-- a search tells two values
told-zeros : (s : Search) → zeros_for (search_told s) ≡ 0 ∷ 0 ∷ []
told-zeros (Met e) = refl
told-zeros (Passed e) = refl
told-zeros Damaged = refl

-- ---- the calls, on a store f long enough with words r behind it

module _ (f r : List ℕ) (whole : used (capacity_of f) ≤ length f) where
  no-scene-unseen : (n : ℕ) → no_scene (f ++ r) n ≡ no_scene f n
  no-scene-unseen n = ap not (number-unseen f r whole n)

  -- a scene that is there has a place
  placed : (n : ℕ) → T (header_ok f) → no_scene f n ≡ false → n < most_scenes
  placed n h e = held-placed f n (fine-header f h).held (there-held f n e)

  -- whatever the kept cells and a scene's two words give
  scene-part : {A : Type 0} (F : List (List Cell) → ℕ → ℕ → A) (n : ℕ) → T (header_ok f) → no_scene f n ≡ false → of_scene F (f ++ r) n ≡ of_scene F f n
  scene-part F n h e =
      let l : n < most_scenes = placed n h e in
      λ i. F (kept-unseen f r whole h i) (depth-unseen f r whole h n l i) (root-unseen f r whole h n l i)

  -- whatever is looked at, if it is the same where there is a scene
  question-by : (n : ℕ) (o o' w w' : Bool) (v v' : List ℕ) → zeros_for v ≡ zeros_for v' → (T (header_ok f) → no_scene f n ≡ false → (o ≡ o') × (w ≡ w') × (v ≡ v'))
      → question (header_ok (f ++ r)) (no_scene (f ++ r) n) (scene_ok (f ++ r) n) o w v ≡ question (header_ok f) (no_scene f n) (scene_ok f n) o' w' v'
  question-by n o o' w w' v v' z q =
      ap₂ (λ (h e : Bool). question h e (scene_ok (f ++ r) n) o w v) (header-unseen f r whole) (no-scene-unseen n)
      ∙ question-same (header_ok f) (no_scene f n) (scene_ok (f ++ r) n) (scene_ok f n) o o' w w' v v' z
      (λ h e. let p : (o ≡ o') × (w ≡ w') × (v ≡ v') = q h e in (scene-unseen f r whole h n (placed n h e), p.0, p.1, p.2))

  question-unseen : (n : ℕ) (O W : List (List Cell) → ℕ → ℕ → Bool) (N : List (List Cell) → ℕ → ℕ → List ℕ) (zeros : List ℕ)
      → ((K : List (List Cell)) (D p : ℕ) → zeros_for (N K D p) ≡ zeros)
      → question (header_ok (f ++ r)) (no_scene (f ++ r) n) (scene_ok (f ++ r) n) (of_scene O (f ++ r) n) (of_scene W (f ++ r) n) (of_scene N (f ++ r) n)
      ≡ question (header_ok f) (no_scene f n) (scene_ok f n) (of_scene O f n) (of_scene W f n) (of_scene N f n)
  question-unseen n O W N zeros z =
      question-by n (of_scene O (f ++ r) n) (of_scene O f n) (of_scene W (f ++ r) n) (of_scene W f n) (of_scene N (f ++ r) n) (of_scene N f n) (z _ _ _ ∙ sym (z _ _ _))
      (λ h e. (scene-part O n h e, scene-part W n h e, scene-part N n h e))

  pub voxel-unseen : (n : ℕ) (v : Point) → voxel_outcome (f ++ r) n v ≡ voxel_outcome f n v
  unfolding voxel_outcome voxel_outside voxel_damaged
  voxel-unseen n v = question-unseen n (λ K D p. not (inside (2 ^ D) v)) (λ K D p. is_damaged (voxel_walk K D p v).end) (λ K D p. bit_for (solid_at (voxel_walk K D p v).end) ∷ empty_height (voxel_walk K D p v).end ∷ []) (0 ∷ 0 ∷ []) (λ K D p. refl)

  -- the same voxel decides, and gives the same
  decider-unseen : (n : ℕ) (a b : Point) → decider (f ++ r) n a b ≡ decider f n a b
  unfolding decider
  decider-unseen n a b = λ i. first_failing (λ v. says_empty (voxel-unseen n v i)) (tested a b)

  gives-unseen : (n : ℕ) (o : Option Point) → gives_two (f ++ r) n o ≡ gives_two f n o
  gives-unseen n O.none = refl
  gives-unseen n (some v) = ap (λ (o : Outcome). eqb o.number 2) (voxel-unseen n v)

  pub sight-unseen : (n : ℕ) (a b : Point) → sight_outcome (f ++ r) n a b ≡ sight_outcome f n a b
  unfolding sight_outcome sight_outside sight_damaged voxel_outside
  sight-unseen n a b =
      let o : Option Point = decider f n a b in
      let out : List (List Cell) → ℕ → ℕ → Bool = λ K D p. not (inside (2 ^ D) a) || not (inside (2 ^ D) b) in
      let at : Option Point → Bool → Outcome = λ x w. question (header_ok (f ++ r)) (no_scene (f ++ r) n) (scene_ok (f ++ r) n) (of_scene out (f ++ r) n) w (blocked_at x) in
      ap₂ at (decider-unseen n a b) (ap (gives_two (f ++ r) n) (decider-unseen n a b) ∙ gives-unseen n o)
      ∙ question-unseen n out (λ K D p. gives_two f n o) (λ K D p. blocked_at o) (zeros_for (blocked_at o)) (λ K D p. refl)

  pub cell-unseen : (n h : ℕ) (c : Point) → cell_outcome (f ++ r) n h c ≡ cell_outcome f n h c
  unfolding cell_outcome cell_outside cell_damaged
  cell-unseen n h c =
      question-unseen n (λ K D p. not (leb h D) || not (inside (2 ^ (D - h)) c)) (λ K D p. cell_walk_damaged K D p h c) (λ K D p. bit_for (cell_non_empty K D p h c) ∷ []) (0 ∷ []) (λ K D p. refl)

  -- what a box finds
  tally-unseen : (n : ℕ) (low high : Point) → T (header_ok f) → no_scene f n ≡ false → scene_tally (f ++ r) n low high ≡ scene_tally f n low high
  unfolding scene_tally
  tally-unseen n low high h e =
      scene-part (λ K D p. box_tally K (count_of (f ++ r)) D p low high) n h e
      ∙ box-tally-same (kept_of f) (count_of (f ++ r)) (count_of f)
      (λ k q l. let w : (k < heights) × (q < kept_count f k) = kept-placed f k q l in solid-unseen f r whole h k q w.0 w.1)
      (scene_depth f n) (scene_root f n) low high

  pub box-unseen : (n : ℕ) (low high : Point) → box_outcome (f ++ r) n low high ≡ box_outcome f n low high
  unfolding box_outcome box_outside box_damaged
  box-unseen n low high =
      let O : List (List Cell) → ℕ → ℕ → Bool = box_out low high in
      let t : Tally = scene_tally (f ++ r) n low high in
      let t' : Tally = scene_tally f n low high in
      question-by n (of_scene O (f ++ r) n) (of_scene O f n) (tally_damaged t) (tally_damaged t') (tally_solid t ∷ []) (tally_solid t' ∷ []) refl
      (λ h e. (scene-part O n h e, ap tally_damaged (tally-unseen n low high h e), ap (λ (x : Tally). tally_solid x ∷ []) (tally-unseen n low high h e)))

  pub any-unseen : (n : ℕ) (low high : Point) → any_outcome (f ++ r) n low high ≡ any_outcome f n low high
  unfolding any_outcome box_outside any_damaged scene_search
  any-unseen n low high =
      question-unseen n (box_out low high) (λ K D p. search_damaged (box_search K D p low high)) (λ K D p. search_told (box_search K D p low high)) (0 ∷ 0 ∷ [])
      (λ K D p. told-zeros (box_search K D p low high))

  pub kept-answer-unseen : (h : ℕ) → kept_outcome (f ++ r) h ≡ kept_outcome f h
  unfolding kept_outcome
  kept-answer-unseen h =
      ap (λ (b : Bool). kept_for b (depth_ok h) (kept_count (f ++ r) (h - 2))) (header-unseen f r whole)
      ∙ kept_for-same (header_ok f) (depth_ok h) (kept_count (f ++ r) (h - 2)) (kept_count f (h - 2)) (λ d. count-unseen f r whole (h - 2) (depth_low h d))

  pub outline-unseen : (n : ℕ) (out : List ℕ) → outline_outcome (f ++ r) n out ≡ outline_outcome f n out
  unfolding outline_outcome outline_short outline_bytes
  outline-unseen n out =
      let B : List (List Cell) → ℕ → ℕ → List ℕ = λ K D p. outline_of D (root_room K D p) in
      ap₂ (λ (s e : Bool). outline_for s e (of_scene B (f ++ r) n) out) (undamaged-unseen f r whole) (no-scene-unseen n)
      ∙ outline_for-same (store_ok f) (no_scene f n) (of_scene B (f ++ r) n) (of_scene B f n) out (λ t. scene-part B n (store-header f t))

  pub pack-unseen : (n : ℕ) (scratch out : List ℕ) → pack_outcome (f ++ r) n scratch out ≡ pack_outcome f n scratch out
  unfolding pack_outcome pack_short pack_bytes
  pack-unseen n scratch out =
      let B : List ℕ = of_scene packed_file (f ++ r) n in
      let m : ℕ = pack_scratch (capacity_of f) in
      ap (λ (c : ℕ). pack_for (store_ok (f ++ r)) (no_scene (f ++ r) n) (pack_scratch c) B scratch out) (capacity-unseen f r whole)
      ∙ ap₂ (λ (s e : Bool). pack_for s e m B scratch out) (undamaged-unseen f r whole) (no-scene-unseen n)
      ∙ pack_for-same (store_ok f) (no_scene f n) m B (of_scene packed_file f n) scratch out (λ t. scene-part packed_file n (store-header f t))

  pub headset-pack-unseen : (n : ℕ) (scratch out : List ℕ) → headset_pack_outcome (f ++ r) n scratch out ≡ headset_pack_outcome f n scratch out
  unfolding headset_pack_outcome pack_short pack_bytes
  headset-pack-unseen n scratch out =
      let B : List ℕ = of_scene packed_file (f ++ r) n in
      let D : ℕ = scene_depth (f ++ r) n in
      let m : ℕ = pack_scratch (capacity_of f) in
      ap (λ (c : ℕ). headset_for (store_ok (f ++ r)) (no_scene (f ++ r) n) (pack_scratch c) D B scratch out) (capacity-unseen f r whole)
      ∙ ap₂ (λ (s e : Bool). headset_for s e m D B scratch out) (undamaged-unseen f r whole) (no-scene-unseen n)
      ∙ headset_for-same (store_ok f) (no_scene f n) m D (scene_depth f n) B (of_scene packed_file f n) scratch out
      (λ t e. (scene-part (λ K D p. D) n (store-header f t) e, scene-part packed_file n (store-header f t) e))
