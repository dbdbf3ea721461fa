-- No call answers 2 on a store that only the calls wrote: its header, its scenes and the whole of it pass the tests, and no walk meets a bad
-- pointer or a count too great. Call by call, by the tests of its order. Assumes nothing.
use mathlib.Core.Path.{◌≡◌, refl, sym, ◌∙◌, ap}
use mathlib.Core.Bool.{Bool, false, not}
use mathlib.Core.List.{List, []}
use mathlib.Core.Option.{Option, some}
use mathlib.Core.Option as O
use Prim.Native.Nat.{ℕ}
use borrow.Author.Tests.{ne_eqb}
use Rattle.paper.specs.Rooms.{Point}
use Rattle.paper.specs.Store.{kept_of, scene_depth, scene_root, header_ok, store_ok}
use Rattle.paper.specs.Order.{first_number, settled}
use Rattle.paper.specs.Detail.{detail_order, detail_outcome}
use Rattle.paper.specs.Calls.{new_order, new_outcome, add_outcome, no_scene, question_order, voxel_outside, voxel_damaged, voxel_outcome, cell_outside, cell_damaged, cell_outcome, box_outside, box_damaged, box_outcome, kept_outcome, outline_outcome, pack_outcome, check_order, check_outcome, packed_voxel_order, packed_voxel_outcome, open_order, open_outcome, ask_order, ask_outcome}
use Rattle.paper.specs.Sight.{decider, gives_two, sight_damaged, sight_outside, sight_outcome}
use Rattle.paper.specs.Anything.{any_damaged, any_outcome}
use Rattle.paper.specs.Headset.{headset_check_order, headset_check_outcome, headset_pack_outcome}
use Rattle.paper.specs.Runs.{StoreQuestion, voxel, sight, cell, box, anything, kept, outline, pack, headset_pack, FileQuestion, check, headset_check, packed_voxel, opening, ask, detail, Call, new, add, of_store, of_file, Held, store_answer, file_answer, outcome_of}
use Rattle.laws.proofs.Tests.{T_true}
use Rattle.laws.proofs.Refusals.{settled-number, never-2, sound-never-2, question-never-2}
use Rattle.laws.proofs.Walks.{voxel-clear, cell-clear}
use Rattle.laws.proofs.Holding.{Holds, header_ok_lem, scene_ok_lem, there-below}
use Rattle.laws.proofs.CountClaim.{scene-box-clear}
use Rattle.laws.proofs.SearchTrue.{invs-searchable}
use Rattle.laws.proofs.AnyClaim.{scene-any-clear}

-- 2 is in no order of a question that looks at no store
file-undamaged : (q : FileQuestion) → (file_answer q).number ≡ 2 → ⊥
unfolding check_outcome headset_check_outcome packed_voxel_outcome open_outcome ask_outcome detail_outcome
file-undamaged (check file scratch) = never-2 (check_order file scratch) _ _ _ tt
file-undamaged (headset_check file scratch) = never-2 (headset_check_order file scratch) _ _ _ tt
file-undamaged (packed_voxel file v) = never-2 (packed_voxel_order file v) _ _ _ tt
file-undamaged (opening file) = never-2 (open_order file) _ _ _ tt
file-undamaged (ask file D starts v) = never-2 (ask_order file D starts v) _ _ _ tt
file-undamaged (detail D w) = never-2 (detail_order D w) _ _ _ tt

module _ {ws : List ℕ} {held : Held} (s : Holds ws held) where
  sound-header : not (header_ok ws) ≡ false
  sound-header = ap not (T_true {b = header_ok ws} (header_ok_lem s))

  sound-store : not (store_ok ws) ≡ false
  sound-store = ap not (T_true {b = store_ok ws} s.ok)

  -- ---- the walks

  pub voxel-undamaged : (n : ℕ) (v : Point) → no_scene ws n ≡ false → voxel_damaged ws n v ≡ false
  unfolding voxel_damaged
  voxel-undamaged n v e = voxel-clear (kept_of ws) s.invs (scene_depth ws n) (scene_root ws n) (s.means n (there-below s n e)).okp v

  pub cell-undamaged : (n h : ℕ) (c : Point) → no_scene ws n ≡ false → cell_damaged ws n h c ≡ false
  unfolding cell_damaged
  cell-undamaged n h c e = cell-clear (kept_of ws) s.invs (scene_depth ws n) (scene_root ws n) (s.means n (there-below s n e)).okp h c

  box-undamaged : (n : ℕ) (low high : Point) → no_scene ws n ≡ false → box_damaged ws n low high ≡ false
  box-undamaged n low high e = scene-box-clear ws s.ok n low high (there-below s n e)

  any-undamaged : (n : ℕ) (low high : Point) → no_scene ws n ≡ false → any_damaged ws n low high ≡ false
  any-undamaged n low high e = scene-any-clear ws s.ok (invs-searchable (kept_of ws) s.invs) n low high (there-below s n e)

  -- ---- the calls

  question-sound : (n : ℕ) (outside walk : Bool) (vs : List ℕ) → (no_scene ws n ≡ false → walk ≡ false)
      → (settled (first_number (question_order ws n outside walk)) vs [] []).number ≡ 2 → ⊥
  question-sound n outside walk vs clear e =
      question-never-2 ws n outside walk (header_ok_lem s) (λ q. (scene_ok_lem s n (there-below s n q), clear q))
      (sym (settled-number (first_number (question_order ws n outside walk)) vs [] []) ∙ e)

  voxel-never-2 : (n : ℕ) (v : Point) → (voxel_outcome ws n v).number ≡ 2 → ⊥
  unfolding voxel_outcome
  voxel-never-2 n v = question-sound n (voxel_outside ws n v) (voxel_damaged ws n v) _ (voxel-undamaged n v)

  -- so no voxel that decides a sight line gives it
  pub sight-undamaged : (n : ℕ) (a b : Point) → sight_damaged ws n a b ≡ false
  unfolding sight_damaged
  sight-undamaged n a b = go (decider ws n a b)
    where
      go : (o : Option Point) → gives_two ws n o ≡ false
      go O.none = refl
      go (some v) = ne_eqb (voxel_outcome ws n v).number 2 (voxel-never-2 n v)

  store-undamaged : (q : StoreQuestion) → (store_answer ws q).number ≡ 2 → ⊥
  unfolding sight_outcome cell_outcome box_outcome any_outcome kept_outcome outline_outcome pack_outcome headset_pack_outcome
  store-undamaged (voxel n v) = voxel-never-2 n v
  store-undamaged (sight n a b) = question-sound n (sight_outside ws n a b) (sight_damaged ws n a b) _ (λ e. sight-undamaged n a b)
  store-undamaged (cell n h c) = question-sound n (cell_outside ws n h c) (cell_damaged ws n h c) _ (cell-undamaged n h c)
  store-undamaged (box n low high) = question-sound n (box_outside ws n low high) (box_damaged ws n low high) _ (box-undamaged n low high)
  store-undamaged (anything n low high) = question-sound n (box_outside ws n low high) (any_damaged ws n low high) _ (any-undamaged n low high)
  store-undamaged (kept h) = sound-never-2 _ _ _ _ _ sound-header tt
  store-undamaged (outline n out) = sound-never-2 _ _ _ _ _ sound-store tt
  store-undamaged (pack n scratch out) = sound-never-2 _ _ _ _ _ sound-store tt
  store-undamaged (headset_pack n scratch out) = sound-never-2 _ _ _ _ _ sound-store tt

  -- (a) no call answers 2
  pub never-damaged : (c : Call) → (outcome_of ws c).number ≡ 2 → ⊥
  unfolding new_outcome add_outcome
  never-damaged (new C) = never-2 (new_order C ws) _ _ _ tt
  never-damaged (add file) = sound-never-2 _ _ _ _ _ sound-store tt
  never-damaged (of_store q) = store-undamaged q
  never-damaged (of_file q) = file-undamaged q
