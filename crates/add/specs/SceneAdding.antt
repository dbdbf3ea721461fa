-- A file's scene added to the words of a store: what is asked of both, and the root's record. Definitions only.
use Rattle.std.specs.Prelude.{◌≡◌, cond, List, ℕ, ◌-◌, ◌<◌, T, eqb, length}
use Rattle.paper.specs.Outline.{outline_head, file_depth}
use Rattle.paper.specs.Store.{most_scenes, scenes_held, store_ok}
use Rattle.paper.specs.Order.{first_number}
use Rattle.paper.specs.Calls.{outline_order}
use Rattle.add_records.specs.RecordAdding.{RecordAdding, record_added, add_record}

-- the file breaks no rule, the store is not damaged, and it can hold one scene more
pub record Ready (ws file : List ℕ) : Type 0 where
  pub fair : first_number (outline_order file) ≡ 0
  pub whole : T (store_ok ws)
  pub room : scenes_held ws < most_scenes

-- the root's record, or none where nothing follows the head
unfoldable pub add_root : List ℕ → List ℕ → RecordAdding
add_root file ws =
    let r = add_record file (file_depth file - 2) outline_head ws in
    cond (eqb (length file) outline_head) (record_added outline_head 0 0 0 ws) r
