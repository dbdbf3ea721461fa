-- The rules of a proper file as code tests them: by places and marks, not by numbers of records. The lists' rules, the root's tag, and all together.
-- Definitions only.
use Rattle.std.specs.Prelude.{Bool, true, cond, ◌&&◌, List, ℕ, suc}
use Rattle.paper.specs.Numbers.{all_below}
use Rattle.paper.specs.Packed.{top_of, root_tag, is_empty, top_ok, head_ok}
use Rattle.packed_lists.specs.Ends.{unit_at}
use Rattle.proper_marks.specs.Marks.{mark_of, low_by}
use Rattle.proper_lists.specs.Marking.{marks_at, list_rules}
use Rattle.proper_popular.specs.Places.{popular_rules}

-- the root's tag
unfoldable pub root_low : List ℕ → Bool
root_low bs = low_by (mark_of (unit_at (top_of bs)) (marks_at bs (top_of bs)) 0) (root_tag bs)

-- ---- all rules, of the file of a scene that is not empty

-- those of phase 1
unfoldable pub marked_by : List ℕ → Bool
marked_by bs = all_below (suc (top_of bs)) (list_rules bs) && top_ok bs && root_low bs

unfoldable pub rules_by : List ℕ → Bool
rules_by bs = marked_by bs && all_below (top_of bs) (popular_rules bs)

-- byte 6, the sizes, and unless the scene is empty these rules
unfoldable pub packed_by : List ℕ → Bool
packed_by bs = let r : Bool = rules_by bs in head_ok bs && cond (is_empty bs) true r
