-- A sight line by the walks to its voxels, past the tests of the scene. Definitions only.
use Rattle.std.specs.Prelude.{Bool, false, not, ◌&&◌, ◌||◌, List, [], ◌∷◌, ℕ, ◌^◌, Result, Ok, Err}
use Rattle.std.proofs.Math.Option.{Option, some}
use Rattle.std.proofs.Math.Option as O
use Rattle.paper.specs.Rooms.{Point, inside}
use Rattle.paper.specs.Store.{Cell}
use Rattle.paper.specs.Walk.{End, is_damaged, solid_at}
use Rattle.paper.specs.Questions.{voxel_walk}
use Rattle.paper.specs.Lines.{tested, first_failing}
use Rattle.paper.specs.Sight.{blocked_at}
use Rattle.paper.specs.Answers.{Told, told, sight_values}
use Rattle.paper.specs.declared.Damaged.{Damaged}
use Rattle.paper.specs.declared.Sight.{Sight}
use Rattle.store_entry.specs.Entry.{past_entry}

-- a walk that ends in an empty voxel
abbrev pub empty_end : End → Bool
empty_end e = not (is_damaged e) && not (solid_at e)

-- the first voxel tested whose walk ends otherwise
unfoldable pub traced : List (List Cell) → ℕ → ℕ → Point → Point → Option Point
traced K D p a b = first_failing (λ v. empty_end (voxel_walk K D p v).end) (tested a b)

-- its walk is damaged
abbrev pub damaged_at : List (List Cell) → ℕ → ℕ → Option Point → Bool
damaged_at K D p O.none = false
damaged_at K D p (some v) = is_damaged (voxel_walk K D p v).end

-- told by it, between voxels inside
abbrev pub traced_told : List (List Cell) → ℕ → ℕ → Point → Point → Told
traced_told K D p a b = past_entry false (damaged_at K D p (traced K D p a b)) (blocked_at (traced K D p a b))

-- told past the tests of the scene
abbrev pub sight_told : List (List Cell) → ℕ → ℕ → Point → Point → Told
sight_told K D p a b = past_entry (not (inside (2 ^ D) a) || not (inside (2 ^ D) b)) (damaged_at K D p (traced K D p a b)) (blocked_at (traced K D p a b))

-- a line traced, as the call tells it
abbrev pub sight_of : Result Sight Damaged → Told
sight_of (Ok s) = told 0 (sight_values s)
sight_of (Err e) = told 2 (0 ∷ 0 ∷ 0 ∷ 0 ∷ [])
