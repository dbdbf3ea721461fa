-- C14: in a store that passes the whole store's test each kept cell's count is the number of its solid voxels, and a box of a scene held is answered
-- with its solid voxels. The test says that each count is the sum of its children's, and no pointer is bad; the rest goes by the walk of a box.
-- Assumes nothing.
use mathlib.Core.Path.{◌≡◌, ◌∙◌, ap}
use mathlib.Core.Bool.{false}
use mathlib.Core.List.{List, [], ◌∷◌}
use Prim.Native.Nat.{ℕ, suc, ◌-◌, ◌^◌, ◌<◌}
use native.Mathlib.Omega.{arith}
use lib.Dec.{T}
use Rattle.paper.specs.Rooms.{Point, depth_ok, box_count}
use Rattle.paper.specs.Store.{heights, is_held, kept_count, kept_of, cell_at, bad_pointer, count_of, scene_depth, scene_root, store_ok}
use Rattle.paper.specs.Meaning.{root_room}
use Rattle.paper.specs.Questions.{tally_damaged, tally_solid}
use Rattle.paper.specs.Questions.{Tally}
use Rattle.paper.specs.Questions.{Solid}
use Rattle.paper.specs.Answers.{told, outcome}
use Rattle.paper.specs.Order.{first_number}
use Rattle.paper.specs.Calls.{of_scene, question_order, box_outside, scene_tally, box_damaged, box_outcome}
use Rattle.paper.specs.Claims.{C14, CountsTrue}
use Rattle.laws.proofs.Kept.{kept-length}
use Rattle.laws.proofs.Undamaged.{undamaged, store-header, held-there, held-sound, depth_low}
use Rattle.laws.proofs.StoreFacts.{scene_sound_lem, cell-sound}
use Rattle.laws.proofs.Places.{kept-placed}
use Rattle.laws.proofs.TrueCounts.{counts-true}
use Rattle.laws.proofs.Counts.{solid-whole}
use Rattle.laws.proofs.BoxTallies.{TrueTold, box-tally-true}
use Rattle.laws.proofs.Refusals.{settled-accepted, question-accepted}
use Rattle.laws.proofs.Holding.{reached-holds}

-- ---- a store that passes the test

module _ (ws : List ℕ) (ok : T (store_ok ws)) where
  told-true : TrueTold (kept_of ws) (count_of ws)
  told-true = record {
    pointers = λ k q h.
        let l : (suc k < heights) × (q < kept_count ws (suc k)) = kept-placed ws (suc k) q h in
        rw (kept-length ws k (omega (arith, l.0))) (cell-sound ws ok k q l.0 l.1);
    counts = λ k q h. let l : (suc k < heights) × (q < kept_count ws (suc k)) = kept-placed ws (suc k) q h in counts-true ws ok (suc k) q l.0 l.1;
  }

  -- what a box finds in a scene held
  pub scene_tally_lem : (n : ℕ) (low high : Point) → T (is_held ws n) → scene_tally ws n low high ≡ Solid (box_count (2 ^ scene_depth ws n) (of_scene root_room ws n) low high)
  unfolding scene_tally
  scene_tally_lem n low high h =
      let D : ℕ = scene_depth ws n in
      let s : T (depth_ok D) × (bad_pointer (kept_count ws (D - 2)) (scene_root ws n) ≡ false) = scene_sound_lem ws ok n h in
      box-tally-true (kept_of ws) (count_of ws) told-true D (scene_root ws n) low high s.0 (rw (kept-length ws (D - 2) (depth_low D s.0)) s.1)

  -- no damage
  pub scene-box-clear : (n : ℕ) (low high : Point) → T (is_held ws n) → box_damaged ws n low high ≡ false
  unfolding box_damaged
  scene-box-clear n low high h = ap tally_damaged (scene_tally_lem n low high h)

  pub counts-hold : CountsTrue ws
  unfolding box_outcome
  counts-hold = record {
    counts = λ k q h.
        let l : (k < heights) × (q < kept_count ws k) = kept-placed ws k q h in
        counts-true ws ok k q l.0 l.1 ∙ solid-whole (kept_of ws) k (cell_at (kept_of ws) k q);
    boxes = λ n low high h out.
        settled-accepted (first_number (question_order ws n (box_outside ws n low high) (box_damaged ws n low high))) (tally_solid (scene_tally ws n low high) ∷ []) [] []
        (question-accepted ws n (box_outside ws n low high) (box_damaged ws n low high) (store-header ws ok) (held-there ws n h) (held-sound (undamaged ws ok) n h) out (scene-box-clear n low high h))
        ∙ ap (λ (t : Tally). outcome (told 0 (tally_solid t ∷ [])) []) (scene_tally_lem n low high h);
  }

pub claim14 : C14
claim14 = record { any = counts-hold; ours = λ s r. counts-hold s.words (reached-holds s r).ok }
