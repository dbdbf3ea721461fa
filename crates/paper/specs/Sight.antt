-- Document 02, request 3 ('Sight lines'): the line from one voxel's centre to another's through a scene of a store: what blocks it, its refusals in
-- their order, and its whole outcome. Definitions only. Which voxels are tested, in which order, is said by Lines.
use Rattle.std.specs.Prelude.{Bool, false, ◌&&◌, ◌||◌, List, [], ◌∷◌, ℕ, eqb, get_or}
use Rattle.std.proofs.Math.Option.{Option, some}
use Rattle.std.proofs.Math.Option as O
use Rattle.paper.specs.Rooms.{Point}
use Rattle.paper.specs.Answers.{Outcome}
use Rattle.paper.specs.Order.{first_number, settled}
use Rattle.paper.specs.Lines.{tested, first_failing}
use Rattle.paper.specs.Calls.{question_order, voxel_outside, voxel_outcome}

-- a voxel question answers 'empty'
abbrev pub says_empty : Outcome → Bool
says_empty o = eqb o.number 0 && eqb (get_or o.values 0 0) 0

-- the voxel that decides ('the first solid voxel', or damage before it): the first of those tested whose question answers anything else
unfoldable pub decider : List ℕ → ℕ → Point → Point → Option Point
decider ws n a b = first_failing (λ v. says_empty (voxel_outcome ws n v)) (tested a b)

-- the question of the voxel that decides gives 2
abbrev pub gives_two : List ℕ → ℕ → Option Point → Bool
gives_two ws n O.none = false
gives_two ws n (some v) = eqb (voxel_outcome ws n v).number 2

unfoldable pub sight_damaged : List ℕ → ℕ → Point → Point → Bool
sight_damaged ws n a b = gives_two ws n (decider ws n a b)

-- one of the two ends is outside
unfoldable pub sight_outside : List ℕ → ℕ → Point → Point → Bool
sight_outside ws n a b = voxel_outside ws n a || voxel_outside ws n b

-- 1 and the voxel that blocks; zeros where the line is clear
abbrev pub blocked_at : Option Point → List ℕ
blocked_at O.none = 0 ∷ 0 ∷ 0 ∷ 0 ∷ []
blocked_at (some v) = 1 ∷ v.x ∷ v.y ∷ v.z ∷ []

-- the order is a voxel question's; the ends are never tested
unfoldable pub sight_outcome : List ℕ → ℕ → Point → Point → Outcome
sight_outcome ws n a b =
    settled (first_number (question_order ws n (sight_outside ws n a b) (sight_damaged ws n a b))) (blocked_at (decider ws n a b)) [] []
