-- C15: in a store that passes the whole store's test, as in every store that only the calls wrote, whether anything is in the way is answered by the box
-- count, after no more cells than are non-empty and share a voxel with the box; from a cell wholly inside the search goes straight down. No pointer there
-- is bad and no kept cell is empty; the rest goes by the search. Assumes nothing.
use mathlib.Core.Path.{◌≡◌, refl, sym, ◌∙◌, ap, subst}
use mathlib.Core.Bool.{Bool, true, false, cond, false≢true, ◌||◌}
use mathlib.Core.List.{List, [], ◌∷◌}
use Prim.Native.Nat.{ℕ, suc, ◌-◌, ◌^◌, ◌≤◌}
use native.Mathlib.Omega.{arith}
use borrow.Author.Tests.{lt-ltb, le-ltb, ltb-false, eq-eqb, eqb-true}
use lib.Bits.{bit_xor}
use lib.Dec.{T, eqb, ltb, lit<}
use lib.ListN.{length}
use Rattle.paper.specs.Numbers.{bit_for}
use Rattle.paper.specs.Rooms.{Point, depth_ok, NonEmpty, box_count, origin, far, is_whole}
use Rattle.paper.specs.Outline.{edge}
use Rattle.paper.specs.Store.{Cell, is_held, kept_count, kept_of, cells_at, tag_of, cell_no, bad_pointer, scene_depth, scene_root, store_ok}
use Rattle.paper.specs.Meaning.{pointer_voxel, cell_voxel, root_room}
use Rattle.paper.specs.Answers.{told, outcome}
use Rattle.paper.specs.Order.{first_number}
use Rattle.paper.specs.Calls.{of_scene, question_order, axis_outside, box_outside}
use Rattle.paper.specs.Anything.{pointer_search, cell_search, box_search, search_damaged, search_told, scene_search, any_damaged, any_outcome, sharing}
use Rattle.paper.specs.Anything.{Search}
use Rattle.paper.specs.Anything.{Met, Passed, Damaged}
use Rattle.paper.specs.Claims.{C15, AnyTrue, Searches}
use Rattle.laws.proofs.Kept.{kept-length}
use Rattle.laws.proofs.Undamaged.{undamaged, store-header, held-there, held-sound, depth_low}
use Rattle.laws.proofs.Outlines.{depth-two}
use Rattle.laws.proofs.StoreFacts.{scene_sound_lem, names-kept}
use Rattle.laws.proofs.Invariant.{pointer_none}
use Rattle.laws.proofs.Matching.{tag-lt}
use Rattle.laws.proofs.Eight.{xor8-lt}
use Rattle.laws.proofs.SearchLaws.{pointer-inside}
use Rattle.laws.proofs.SearchTrue.{Tells, Searchable, invs-searchable, store-searchable, pointer-search-tells, straight}
use Rattle.laws.proofs.SharingCells.{Ends, sharers, sharers-are}
use Rattle.laws.proofs.Refusals.{settled-accepted, question-accepted}
use Rattle.laws.proofs.Holding.{Holds, reached-holds}

-- ---- what is told of a search

-- by its count: the cells entered, the values
told-values : (g M : ℕ) (s : Search) → Tells g M s → (e : ℕ) × (search_told s ≡ bit_for (ltb 0 g) ∷ e ∷ []) × (e ≤ M)
told-values g M (Met e) t = (e, ap (λ (b : Bool). bit_for b ∷ e ∷ []) (sym (lt-ltb 0 g t.0)), t.1)
told-values g M (Passed e) t = (e, ap (λ (b : Bool). bit_for b ∷ e ∷ []) (sym (le-ltb 0 g (omega (arith, t.0)))), t.1)
told-values g M Damaged t = absurd t

told-clear : (g M : ℕ) (s : Search) → Tells g M s → search_damaged s ≡ false
told-clear g M (Met e) t = refl
told-clear g M (Passed e) t = refl
told-clear g M Damaged t = absurd t

-- ---- the box of a question that is inside ends in the room

or-both : (a b : Bool) → (a || b) ≡ false → (a ≡ false) × (b ≡ false)
or-both false b e = (refl, e)
or-both true b e = absurd (false≢true (sym e))

axis-ends : (S low high : ℕ) → axis_outside S low high ≡ false → high ≤ S
axis-ends S low high e = ltb-false S high (or-both (ltb high low) (ltb S high) e).1

inside-ends : (ws : List ℕ) (n : ℕ) (low high : Point) → box_outside ws n low high ≡ false → Ends (2 ^ scene_depth ws n) high
unfolding box_outside
inside-ends ws n low high e =
    let S : ℕ = 2 ^ scene_depth ws n in
    let a : Bool = axis_outside S low.x high.x in
    let b : Bool = axis_outside S low.y high.y in
    let c : Bool = axis_outside S low.z high.z in
    let p = or-both (a || b) c e in
    let q = or-both a b p.0 in
    record { end_x = axis-ends S low.x high.x q.0; end_y = axis-ends S low.y high.y q.1; end_z = axis-ends S low.z high.z p.1 }

-- the whole room is inside
whole-inside : (ws : List ℕ) (n : ℕ) → box_outside ws n origin (far (2 ^ scene_depth ws n)) ≡ false
unfolding box_outside
whole-inside ws n =
    let S : ℕ = 2 ^ scene_depth ws n in
    let e : axis_outside S 0 S ≡ false = rw (le-ltb S 0 (omega arith), le-ltb S S (omega arith)) in
    rw e

whole-test : (S : ℕ) → is_whole S origin (far S) ≡ true
whole-test S = rw (eq-eqb S S refl)

-- ---- a store with its lists in order

module _ (ws : List ℕ) (ok : T (store_ok ws)) (sound : Searchable (kept_of ws)) where
  abbrev K : List (List Cell)
  K = kept_of ws

  root-fine : (n : ℕ) → T (is_held ws n) → T (depth_ok (scene_depth ws n)) × (bad_pointer (length (cells_at K (scene_depth ws n - 2))) (scene_root ws n) ≡ false)
  root-fine n h =
      let D : ℕ = scene_depth ws n in
      let s : T (depth_ok D) × (bad_pointer (kept_count ws (D - 2)) (scene_root ws n) ≡ false) = scene_sound_lem ws ok n h in
      (s.0, rw (kept-length ws (D - 2) (depth_low D s.0)) s.1)

  -- what the search of a scene held tells
  pub scene-tells : (n : ℕ) (low high : Point) → T (is_held ws n)
      → Tells (box_count (2 ^ scene_depth ws n) (of_scene root_room ws n) low high) (sharers (scene_depth ws n - 2) (of_scene root_room ws n) low high) (scene_search ws n low high)
  unfolding scene_search box_search root_room
  scene-tells n low high h =
      let D : ℕ = scene_depth ws n in
      let p : ℕ = scene_root ws n in
      subst (λ (d : ℕ). Tells (box_count (2 ^ d) (pointer_voxel (cell_voxel K (D - 2)) (cells_at K (D - 2)) (2 ^ d) p) low high) (sharers (D - 2) (pointer_voxel (cell_voxel K (D - 2)) (cells_at K (D - 2)) (2 ^ d) p) low high) (pointer_search (cell_search K (D - 2)) p 0 low high)) (depth-two D (root-fine n h).0)
      (pointer-search-tells K sound (D - 2) p 0 low high (lit< tt) (root-fine n h).1)

  -- no damage
  pub scene-any-clear : (n : ℕ) (low high : Point) → T (is_held ws n) → any_damaged ws n low high ≡ false
  unfolding any_damaged
  scene-any-clear n low high h = told-clear _ _ (scene_search ws n low high) (scene-tells n low high h)

  -- so it is answered
  answered : (n : ℕ) (low high : Point) → T (is_held ws n) → box_outside ws n low high ≡ false
      → any_outcome ws n low high ≡ outcome (told 0 (search_told (scene_search ws n low high))) []
  unfolding any_outcome
  answered n low high h out =
      settled-accepted (first_number (question_order ws n (box_outside ws n low high) (any_damaged ws n low high))) (search_told (scene_search ws n low high)) [] []
      (question-accepted ws n (box_outside ws n low high) (any_damaged ws n low high) (store-header ws ok) (held-there ws n h) (held-sound (undamaged ws ok) n h) out (scene-any-clear n low high h))

  box-true : (n : ℕ) (low high : Point) → T (is_held ws n) → box_outside ws n low high ≡ false → AnyTrue ws n low high
  box-true n low high h out =
      let D : ℕ = scene_depth ws n in
      let r = of_scene root_room ws n in
      let g : ℕ = box_count (2 ^ D) r low high in
      let M : ℕ = sharers (D - 2) r low high in
      let two : suc (suc (D - 2)) ≡ D = depth-two D (root-fine n h).0 in
      let v : (e : ℕ) × (search_told (scene_search ws n low high) ≡ bit_for (ltb 0 g) ∷ e ∷ []) × (e ≤ M) = told-values g M (scene_search ws n low high) (scene-tells n low high h) in
      let are : M ≡ sharing D r low high =
      sharers-are (D - 2) r low high (subst (λ (d : ℕ). Ends (2 ^ d) high) (sym two) (inside-ends ws n low high out)) ∙ ap (λ (d : ℕ). sharing d r low high) two in
      record { entered = v.0; answer = answered n low high h out ∙ ap (λ (l : List ℕ). outcome (told 0 l) []) v.1; most = subst (λ (m : ℕ). v.0 ≤ m) are v.2 }

  whole-met : (n : ℕ) → T (is_held ws n) → NonEmpty (2 ^ scene_depth ws n) (of_scene root_room ws n) → scene_search ws n origin (far (2 ^ scene_depth ws n)) ≡ Met (scene_depth ws n - 1)
  unfolding scene_search box_search root_room
  whole-met n h w =
      ap (λ (d : ℕ). pointer_search (cell_search K (D - 2)) p 0 origin (far (2 ^ d))) (sym two) ∙ pointer-inside K (D - 2) p 0 ∙ go (eqb p 0) refl
    where
      D : ℕ
      D = scene_depth ws n

      p : ℕ
      p = scene_root ws n

      two : suc (suc (D - 2)) ≡ D
      two = depth-two D (root-fine n h).0

      go : (z : Bool) → eqb p 0 ≡ z → cond z (Passed 0) (cell_search K (D - 2) (cell_no p) (bit_xor (tag_of p) 0) origin (far (edge (D - 2)))) ≡ Met (D - 1)
      go true e = absurd (false≢true (sym (pointer_none (cell_voxel K (D - 2)) (cells_at K (D - 2)) (2 ^ D) p (eqb-true p 0 e) w.0) ∙ w.2))
      go false e =
          straight K sound (D - 2) (cell_no p) (bit_xor (tag_of p) 0) origin (far (edge (D - 2))) (names-kept (length (cells_at K (D - 2))) p (root-fine n h).1 e)
          (xor8-lt (tag_of p) 0 (tag-lt p) (lit< tt)) (whole-test (edge (D - 2)))
          ∙ ap Met (omega (arith, two))

  pub searches : Searches ws
  searches = record {
    boxes = box-true;
    straight = straight K sound;
    whole = λ n h w.
        let S : ℕ = 2 ^ scene_depth ws n in
        answered n origin (far S) h (whole-inside ws n) ∙ ap (λ (s : Search). outcome (told 0 (search_told s)) []) (whole-met n h w);
  }

pub claim15 : C15
claim15 = record {
  any = λ ws ok words. searches ws ok (store-searchable ws ok words);
  ours = λ s r. let h : Holds s.words s.held = reached-holds s r in searches s.words h.ok (invs-searchable (kept_of s.words) h.invs);
}
