-- A question on a proper file tells how big the emptiness is: its graph is as a store's lists should be, so the walk ends as the room's empty cells
-- say. Assumes nothing.
use mathlib.Core.Path.{◌≡◌, refl, sym, ◌∙◌, ap, subst}
use mathlib.Core.Bool.{Bool, true, false, cond}
use mathlib.Core.List.{List, [], ◌∷◌}
use mathlib.Core.Logic.{inr}
use Prim.Native.Nat.{ℕ, suc, ◌^◌, ◌<◌}
use native.Mathlib.Omega.{arith}
use borrow.Author.Tests.{ne_eqb}
use lib.Dec.{lit<}
use lib.ListN.{length}
use Rattle.paper.specs.Numbers.{bit_for}
use Rattle.paper.specs.Rooms.{Point, Room, Inside, mirror, empty_at}
use Rattle.paper.specs.Outline.{edge, file_depth}
use Rattle.paper.specs.Store.{Cell, cells_at, cell_at, pointer}
use Rattle.paper.specs.Meaning.{pointer_voxel, cell_voxel}
use Rattle.paper.specs.Walk.{empty_height, Child, none, to, onward, walk_in, root_walk}
use Rattle.paper.specs.Questions.{child_for, graph_reading}
use Rattle.paper.specs.Packed.{root_tag, is_empty, top_of, graph_of, proper, packed_room, packed_path, file_walk}
use Rattle.paper.specs.Answers.{told, outcome}
use Rattle.paper.specs.Calls.{packed_voxel_outcome}
use Rattle.paper.specs.Runs.{Bytes}
use Rattle.laws.proofs.Tests.{true-T}
use Rattle.laws.proofs.Outlines.{depth-two}
use Rattle.laws.proofs.Adding.{pointer-cell, pointer-tag, pointer-names, pointer-means}
use Rattle.laws.proofs.Emptiness.{empty-same, empty-nothing, pointer-empty}
use Rattle.laws.proofs.ProperClaim.{Proper, proper-passes, proper-walk, proper-voxel}
use Rattle.laws.proofs.ProperVoxels.{proper-inv, root_tag_lem, top-there}

module _ (file : List ℕ) (by : Bytes file) (e : proper file ≡ true) (v : Point) (l : Inside (2 ^ file_depth file) v) where
  p : Proper file
  p = proper-passes file (true-T e)

  deep : suc (suc (top_of file)) ≡ file_depth file
  deep = depth-two (file_depth file) p.deep

  abbrev g : List (List Cell)
  g = graph_of file

  abbrev k : ℕ
  k = top_of file

  -- the walk over the graph
  abbrev height : Bool → ℕ
  height b = empty_height (root_walk (graph_reading g) (file_depth file) (cond b none (to (root_tag file) 0)) v).end

  empty-there : is_empty file ≡ true → height true ≡ empty_at (file_depth file) (packed_room file) v
  unfolding packed_room
  empty-there some =
      sym (empty-nothing k (packed_room file) v (λ u. ap (λ (b : Bool). cond b false (cell_voxel g k (cell_at g k 0) (mirror (root_tag file) (2 ^ file_depth file) u))) some) ∙ deep)

  empty-below : is_empty file ≡ false → height false ≡ empty_at (file_depth file) (packed_room file) v
  unfolding packed_room
  empty-below some =
      let t : ℕ = root_tag file in
      let ht : t < 8 = root_tag_lem file by e some in
      let q : ℕ = pointer t 0 in
      let R : Room = pointer_voxel (cell_voxel g k) (cells_at g k) (edge k) q in
      let child : child_for q ≡ to t 0 = rw (ne_eqb q 0 (λ z. omega (arith, z)), pointer-cell t 0 (lit< tt), pointer-tag t 0 ht (lit< tt)) in
      let in_top : Inside (edge k) v = subst (λ (n : ℕ). Inside (2 ^ n) v) (sym deep) l in
      ap (λ (c : Child). empty_height (onward (suc (suc k)) (λ u n. walk_in (graph_reading g) k n u v) c).end) (sym child)
      ∙ pointer-empty g (proper-inv file by e some) k q (inr (pointer-names t 0 (length (cells_at g k)) (lit< tt) (top-there file by e some))) v in_top
      ∙ empty-same k (suc (suc k)) R (packed_room file) v (omega arith)
      (λ u m. pointer-means g k t 0 u ht (lit< tt) ∙ ap (λ (d : ℕ). cell_voxel g k (cell_at g k 0) (mirror t (2 ^ d) u)) deep
      ∙ ap (λ (b : Bool). cond b false (cell_voxel g k (cell_at g k 0) (mirror t (2 ^ file_depth file) u))) (sym some)) in_top

  proper-empty : empty_height (file_walk file v).end ≡ empty_at (file_depth file) (packed_room file) v
  proper-empty = ap empty_height (proper-walk file by p v).ends ∙ go (is_empty file) refl
    where
      go : (b : Bool) → is_empty file ≡ b → height b ≡ empty_at (file_depth file) (packed_room file) v
      go true some = empty-there some
      go false some = empty-below some

  pub proper-answer : packed_voxel_outcome file v ≡ outcome (told 0 (bit_for (packed_room file v) ∷ packed_path file v ∷ empty_at (file_depth file) (packed_room file) v ∷ [])) []
  proper-answer =
      proper-voxel file v by e l ∙ ap (λ (n : ℕ). outcome (told 0 (bit_for (packed_room file v) ∷ packed_path file v ∷ n ∷ [])) []) proper-empty
