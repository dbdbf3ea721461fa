-- A scene's outline by its pointers, as code writes it. Definitions only; that the bytes are those of the scene's room is a law.
use Rattle.std.specs.Prelude.{◌≡◌, false, cond, List, [], ◌++◌, ℕ, ◌+◌, ◌-◌, ◌≤◌, T, eqb, length}
use Rattle.paper.specs.Rooms.{depth_ok}
use Rattle.paper.specs.Outline.{outline_version, outline_head}
use Rattle.paper.specs.Store.{Cell, is_held, kept_count, tag_of, cell_no, bad_pointer, store_ok}
use Rattle.paper.specs.Calls.{of_scene}
use Rattle.file_head.specs.Heads.{head_of}
use Rattle.outline_record.specs.Record.{record_at}

-- the root's record, or nothing
unfoldable pub root_at : List (List Cell) → ℕ → ℕ → List ℕ
root_at K D p = let b : List ℕ = record_at K (D - 2) (cell_no p) (tag_of p) in cond (eqb p 0) [] b

unfoldable pub file_at : List (List Cell) → ℕ → ℕ → List ℕ
file_at K D p = head_of outline_version (outline_head + length (root_at K D p)) D ++ root_at K D p

-- the outline of a scene
abbrev pub scene_file : List ℕ → ℕ → List ℕ
scene_file ws n = of_scene file_at ws n

-- ---- what is known

-- p is none, or names a cell kept in an undamaged store, of the list that the root of a room of depth D is in
pub record Root (ws : List ℕ) (D p : ℕ) : Type 0 where
  pub whole : T (store_ok ws)
  pub deep : T (depth_ok D)
  pub sound : bad_pointer (kept_count ws (D - 2)) p ≡ false

-- scene n is held in an undamaged store
pub record Scene (ws : List ℕ) (n : ℕ) : Type 0 where
  pub whole : T (store_ok ws)
  pub held : T (is_held ws n)

-- and its file has this length, which an output takes
pub record Measured (ws : List ℕ) (n total : ℕ) (out : List ℕ) : Type 0 where
  pub scene : Scene ws n
  pub long : total ≡ length (scene_file ws n)
  pub room : total ≤ length out
