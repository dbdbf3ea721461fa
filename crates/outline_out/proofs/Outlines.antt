-- On an undamaged store the bytes by pointers are the outline of the scene's room: the root's record is that of its room, and the head is written
-- the same. Assumes nothing.
use mathlib.Core.Path.{◌≡◌, refl, sym, ap, ◌∙◌}
use mathlib.Core.List.{List, [], ◌∷◌, ◌++◌, append_assoc}
use Prim.Native.Nat.{ℕ, ◌+◌, ◌-◌, ◌^◌}
use lib.Dec.{eqb}
use lib.ListN.{length}
use borrow.Author.Tests.{eqb-false}
use Rattle.paper.specs.Numbers.{bytes}
use Rattle.paper.specs.Rooms.{non_empty}
use Rattle.paper.specs.Outline.{record_of, root_record, outline_of, outline_version, outline_head}
use Rattle.paper.specs.Store.{Cell, kept_of, tag_of, cell_no, scene_depth, scene_root}
use Rattle.paper.specs.Meaning.{root_room}
use Rattle.paper.specs.Calls.{outline_bytes}
use Rattle.laws.proofs.OutlineWriting.{record_same}
use Rattle.laws.proofs.StoreFacts.{Words}
use Rattle.laws.proofs.Matching.{tag-lt}
use Rattle.laws.proofs.Records.{seen_room, root-non_empty, root_room_lem}
use Rattle.outline_record.specs.Record.{record_at}
use Rattle.outline_record.proofs.ByVoxels.{same-part, record-by-pointers}
use Rattle.outline_out.specs.File.{Root, Scene, root_at, file_at, scene_file}
use Rattle.outline_out.proofs.Scenes.{root-low, root_kept, scene_root_lem}

module _ (ws : List ℕ) (w : Words ws) where
  -- the root's record
  root-by-pointers : (D p : ℕ) → Root ws D p → root_record D (root_room (kept_of ws) D p) ≡ root_at (kept_of ws) D p
  unfolding root_record root_at
  root-by-pointers D p r =
      let K : List (List Cell) = kept_of ws in
      same-part (non_empty (2 ^ D) (root_room K D p)) (eqb p 0) (record_of (D - 2) (root_room K D p)) (record_at K (D - 2) (cell_no p) (tag_of p))
      (root-non_empty ws r.whole w D p r.deep r.sound)
      (λ e. let kept = root_kept ws D p (cell_no p) r (eqb-false p 0 e) refl in
      record_same (D - 2) (root_room K D p) (seen_room K (D - 2) (cell_no p) (tag_of p)) (root_room_lem K D p (root-low r) e)
      ∙ record-by-pointers ws r.whole w (D - 2) (cell_no p) (tag_of p) kept.list kept.number (tag-lt p))

  -- the bytes by pointers are the outline of the scene's room
  pub file-by-pointers : (n : ℕ) → Scene ws n → outline_bytes ws n ≡ scene_file ws n
  unfolding outline_bytes outline_of file_at
  file-by-pointers n s =
      let D : ℕ = scene_depth ws n in
      let p : ℕ = scene_root ws n in
      let e : root_record D (root_room (kept_of ws) D p) ≡ root_at (kept_of ws) D p = root-by-pointers D p (scene_root_lem ws n D p refl refl s) in
      ap (λ (l : List ℕ). outline_version ∷ bytes 4 (outline_head + length l) ++ (D ∷ l)) e
      ∙ sym (append_assoc (outline_version ∷ bytes 4 (outline_head + length (root_at (kept_of ws) D p))) (D ∷ []) (root_at (kept_of ws) D p))
