-- A leaf meets a solid voxel of the box where it has more than none of them there: by the number that the code counted, in a box and in all of the leaf.
-- Assumes nothing.
use mathlib.Core.Path.{◌≡◌, refl, sym, ap, ◌∙◌}
use mathlib.Core.Bool.{Bool, cond}
use mathlib.Core.List.{List}
use Prim.Native.Nat.{ℕ, zero, suc}
use native.Mathlib.Omega.{arith}
use lib.Dec.{ltb}
use borrow.Author.Tests.{lt-ltb, ne_eqb}
use Rattle.paper.specs.Rooms.{Point, in_child, mirrored, box_count, origin, far}
use Rattle.paper.specs.Leaf.{leaf_voxel}
use Rattle.paper.specs.Store.{leaf_no, leaf_solid, kept_of, cell_at}
use Rattle.paper.specs.Anything.{cell_search}
use Rattle.paper.specs.Anything.{Met, Passed}
use Rattle.laws.proofs.Boxes.{box-mirrored}
use Rattle.laws.proofs.Counts.{leaf-whole}
use Rattle.boxes_parts.specs.Parts.{past_in}
use Rattle.search.specs.Searching.{leaf_search, search_part, whole_search}

-- the code tests for 0, the paper for more
by-none : (n : ℕ) → leaf_search n ≡ cond (ltb 0 n) (Met 1) (Passed 1)
by-none zero = refl
by-none (suc n) =
    ap (λ (b : Bool). cond b (Passed 1) (Met 1)) (ne_eqb (suc n) 0 (omega arith)) ∙ sym (ap (λ (b : Bool). cond b (Met 1) (Passed 1)) (lt-ltb 0 (suc n) (omega arith)))

module _ (ws : List ℕ) (k n m : ℕ) (z : k ≡ 0) where
  -- in a box
  pub leaf-part : (low last : Point) → leaf_search (box_count 4 (mirrored m 4 (leaf_voxel (leaf_no (cell_at (kept_of ws) 0 n)))) (in_child 4 low) (past_in 4 last)) ≡ search_part ws k n m low last
  unfolding cell_search
  leaf-part low last = rw z (by-none (box_count 4 (mirrored m 4 (leaf_voxel (leaf_no (cell_at (kept_of ws) 0 n)))) (in_child 4 low) (past_in 4 last)))

  -- in all of it
  pub leaf-all : leaf_search (leaf_solid (leaf_no (cell_at (kept_of ws) 0 n))) ≡ whole_search ws k n m
  unfolding cell_search
  leaf-all =
      let leaf : ℕ = leaf_no (cell_at (kept_of ws) 0 n) in
      let e : leaf_solid leaf ≡ box_count 4 (mirrored m 4 (leaf_voxel leaf)) origin (far 4) = leaf-whole leaf ∙ sym (box-mirrored m 4 (leaf_voxel leaf)) in
      rw z (ap leaf_search e ∙ by-none (box_count 4 (mirrored m 4 (leaf_voxel leaf)) origin (far 4)))
