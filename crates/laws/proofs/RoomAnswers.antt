-- On a store that only the calls wrote the answers are those of the rooms held: voxel, cell and box by the room's voxels, and outline out gives the
-- file that came. The room of a scene's two words is the file's, and each answer goes by the voxels. Assumes nothing.
use mathlib.Core.Path.{◌≡◌, refl, sym, ◌∙◌, ap, ap₂, subst}
use mathlib.Core.Bool.{Bool, false, not}
use mathlib.Core.List.{List, [], ◌∷◌}
use Prim.Native.Nat.{ℕ, zero, suc, ◌+◌, ◌-◌, ◌*◌, ◌≤◌, ◌^◌}
use native.Mathlib.Nat.{add-zero}
use native.Mathlib.Omega.{arith}
use borrow.Author.Tests.{le-leb, le-ltb}
use lib.Dec.{T, eqb, leb→le}
use lib.Pow.{pow-add, pow_pos}
use lib.ListN.{length}
use Rattle.paper.specs.Numbers.{bit_for}
use Rattle.paper.specs.Rooms.{Point, point, Room, Inside, depth_ok, cell_of, Same, box_count, non_empty, empty_up_to, empty_at}
use Rattle.paper.specs.Outline.{edge, longest, outline_of, file_depth, file_room}
use Rattle.paper.specs.Store.{Cell, cells_at, kept_of, scene_depth, scene_root, store_ok}
use Rattle.paper.specs.Meaning.{root_room, pointer_voxel, cell_voxel}
use Rattle.paper.specs.Walk.{Walk, solid_at, empty_height, onward, walk_in}
use Rattle.paper.specs.Questions.{child_for, graph_reading, voxel_walk, corner, pointer_to, cell_non_empty}
use Rattle.paper.specs.Answers.{told, outcome}
use Rattle.paper.specs.Order.{first_number}
use Rattle.paper.specs.Calls.{over, question_order, voxel_outside, voxel_damaged, voxel_outcome, cell_outside, cell_damaged, cell_outcome, axis_outside, box_outside, box_outcome, outline_bytes, outline_short, outline_out_order, outline_outcome}
use Rattle.paper.specs.Runs.{Scene, Held}
use Rattle.laws.proofs.Tests.{T_true}
use Rattle.laws.proofs.Occurring.{same-cell}
use Rattle.laws.proofs.Invariant.{OkPointer}
use Rattle.laws.proofs.Adding.{Invs}
use Rattle.laws.proofs.OutlineCells.{non_empty-same}
use Rattle.laws.proofs.Outlines.{depth-two, outline-same, read-written, accepted-outline}
use Rattle.laws.proofs.Refusals.{settled-accepted, question-accepted}
use Rattle.laws.proofs.Boxes.{box-same}
use Rattle.laws.proofs.Holding.{Holds, HeldAt, header_ok_lem, scene_ok_lem, below-there, root_room_lem}
use Rattle.laws.proofs.NoDamage.{voxel-undamaged, cell-undamaged}
use Rattle.laws.proofs.CountClaim.{counts-hold}
use Rattle.laws.proofs.CellVoxels.{voxel-untested, voxel-means}
use Rattle.laws.proofs.CellPoints.{point_at, inside_is}
use Rattle.laws.proofs.CellWalk.{Ends, leads, ends-non_empty}
use Rattle.laws.proofs.Emptiness.{empty-same, pointer-empty}

-- ---- tests passed

axis-passes : (S low high : ℕ) → low ≤ high → high ≤ S → axis_outside S low high ≡ false
axis-passes S low high a b = rw (le-ltb high low a, le-ltb S high b)

-- ---- the cell asked for

module _ (K : List (List Cell)) (I : Invs K) (D p : ℕ) (deep : T (depth_ok D)) (okp : OkPointer (length (cells_at K (D - 2))) p) where
  -- 'whose pointer decides'
  cell-named : (j : ℕ) (c : Point) → suc (suc j) ≤ D → Inside (2 ^ (D - suc (suc j))) c
      → not (eqb (pointer_to K j (D - 2) p (corner (suc (suc j)) c)) 0) ≡ non_empty (edge j) (cell_of (root_room K D p) (suc (suc j)) c)
  cell-named j c h l =
      let z : Point = point 0 0 0 in
      let lz : Inside (edge j) z = record { in_x = pow_pos (suc (suc j)); in_y = pow_pos (suc (suc j)); in_z = pow_pos (suc (suc j)) } in
      let e : D - 2 ≡ j + (D - suc (suc j)) = omega arith in
      let at : point_at (edge j) c z ≡ corner (suc (suc j)) c = λ i. point (add-zero (c.x * edge j) i) (add-zero (c.y * edge j) i) (add-zero (c.z * edge j) i) in
      let r : Room = cell_of (pointer_voxel (cell_voxel K (D - 2)) (cells_at K (D - 2)) (edge (D - 2)) p) (suc (suc j)) c in
      let s : Ends K j r (pointer_to K j (D - 2) p (point_at (edge j) c z)) = leads K (λ k q h. (I k).ok q h) j (D - suc (suc j)) (D - 2) e p okp c z l lz in
      ap (λ (v : Point). not (eqb (pointer_to K j (D - 2) p v) 0)) (sym at)
      ∙ ends-non_empty K I j r (pointer_to K j (D - 2) p (point_at (edge j) c z)) s
      ∙ ap (λ (x : Room). non_empty (edge j) (cell_of x (suc (suc j)) c)) (sym (root_room_lem K D p deep))

  pub cell_non_empty-is : (h : ℕ) (c : Point) → h ≤ D → Inside (2 ^ (D - h)) c → cell_non_empty K D p h c ≡ non_empty (2 ^ h) (cell_of (root_room K D p) h c)
  unfolding cell_non_empty
  cell_non_empty-is zero c h l = refl
  cell_non_empty-is (suc zero) c h l = refl
  cell_non_empty-is (suc (suc j)) c h l =
      let e : suc (suc j) - 2 ≡ j = omega arith in
      rw (le-leb 2 (suc (suc j)) (omega arith), e) (cell-named j c h l)

-- ---- the answers of the scenes held

module _ {ws : List ℕ} {held : Held} (s : Holds ws held) (n : ℕ) {sc : Scene} {file : List ℕ} (a : HeldAt ws n sc file) where
  -- the room of the scene's two words
  abbrev R : Room
  R = root_room (kept_of ws) (scene_depth ws n) (scene_root ws n)

  depth_is : sc.depth ≡ scene_depth ws n
  depth_is = ap (λ (x : Scene). x.depth) a.is ∙ sym a.means.depth

  deep : T (depth_ok (scene_depth ws n))
  deep = subst (λ (d : ℕ). T (depth_ok d)) (sym a.means.depth) a.means.accepted.deep

  -- is the scene's room
  room-is : Same (2 ^ scene_depth ws n) R sc.room
  room-is v l = a.means.room v l ∙ ap (λ (x : Scene). x.room v) (sym a.is)

  question-0 : (outside walk : Bool) → outside ≡ false → walk ≡ false → first_number (question_order ws n outside walk) ≡ 0
  question-0 outside walk o w = question-accepted ws n outside walk (header_ok_lem s) (below-there s n a.below) (scene_ok_lem s n a.below) o w

  -- how big the emptiness is
  voxel-empty : (v : Point) → Inside (2 ^ scene_depth ws n) v → voxel_damaged ws n v ≡ false
      → empty_height (voxel_walk (kept_of ws) (scene_depth ws n) (scene_root ws n) v).end ≡ empty_at sc.depth sc.room v
  unfolding voxel_damaged
  voxel-empty v m sound =
      let K : List (List Cell) = kept_of ws in
      let D : ℕ = scene_depth ws n in
      let p : ℕ = scene_root ws n in
      let k : ℕ = D - 2 in
      let two : suc (suc k) ≡ D = depth-two D deep in
      let in_top : Inside (edge k) v = subst (λ (d : ℕ). Inside (2 ^ d) v) (sym two) m in
      ap (λ (w : Walk). empty_height w.end) (voxel-untested K D p deep v sound)
      ∙ ap (λ (d : ℕ). empty_height (onward d (λ t q. walk_in (graph_reading K) k q t v) (child_for p)).end) (sym two)
      ∙ pointer-empty K s.invs k p a.means.okp v in_top
      ∙ ap (λ (r : Room). empty_up_to r k v) (sym (root_room_lem K D p deep))
      ∙ empty-same k D R sc.room v (omega (arith, two)) room-is m
      ∙ ap (λ (d : ℕ). empty_at d sc.room v) (sym depth_is)

  -- (d) the voxel
  pub voxel-answer : (v : Point) → Inside (2 ^ sc.depth) v
      → voxel_outcome ws n v ≡ outcome (told 0 (bit_for (sc.room v) ∷ empty_at sc.depth sc.room v ∷ [])) []
  unfolding voxel_outcome voxel_outside voxel_damaged
  voxel-answer v l =
      let m : Inside (2 ^ scene_depth ws n) v = subst (λ (d : ℕ). Inside (2 ^ d) v) depth_is l in
      let W : Walk = voxel_walk (kept_of ws) (scene_depth ws n) (scene_root ws n) v in
      let sound : voxel_damaged ws n v ≡ false = voxel-undamaged s n v (below-there s n a.below) in
      settled-accepted (first_number (question_order ws n (voxel_outside ws n v) (voxel_damaged ws n v))) (bit_for (solid_at W.end) ∷ empty_height W.end ∷ []) [] []
      (question-0 (voxel_outside ws n v) (voxel_damaged ws n v) (ap not (inside_is (2 ^ scene_depth ws n) v m)) sound)
      ∙ ap₂ (λ (b : Bool) (h : ℕ). outcome (told 0 (bit_for b ∷ h ∷ [])) []) (voxel-means (kept_of ws) (scene_depth ws n) (scene_root ws n) deep v sound ∙ room-is v m)
      (voxel-empty v m sound)

  -- the cell of height h at c
  pub cell-answer : (h : ℕ) (c : Point) → h ≤ sc.depth → Inside (2 ^ (sc.depth - h)) c
      → cell_outcome ws n h c ≡ outcome (told 0 (bit_for (non_empty (2 ^ h) (cell_of sc.room h c)) ∷ [])) []
  unfolding cell_outcome cell_outside
  cell-answer h c hh l =
      let K : List (List Cell) = kept_of ws in
      let D : ℕ = scene_depth ws n in
      let hD : h ≤ D = subst (λ (d : ℕ). h ≤ d) depth_is hh in
      let m : Inside (2 ^ (D - h)) c = subst (λ (d : ℕ). Inside (2 ^ (d - h)) c) depth_is l in
      let up : D ≡ h + (D - h) = omega arith in
      let e : 2 ^ D ≡ 2 ^ h * 2 ^ (D - h) = ap (λ (x : ℕ). 2 ^ x) up ∙ pow-add 2 h (D - h) in
      let out : cell_outside ws n h c ≡ false = rw (le-leb h D hD, inside_is (2 ^ (D - h)) c m) in
      settled-accepted (first_number (question_order ws n (cell_outside ws n h c) (cell_damaged ws n h c))) (bit_for (cell_non_empty K D (scene_root ws n) h c) ∷ []) [] []
      (question-0 (cell_outside ws n h c) (cell_damaged ws n h c) out (cell-undamaged s n h c (below-there s n a.below)))
      ∙ ap (λ (b : Bool). outcome (told 0 (bit_for b ∷ [])) [])
      (cell_non_empty-is K s.invs D (scene_root ws n) deep a.means.okp h c hD m
      ∙ non_empty-same (2 ^ h) (cell_of R h c) (cell_of sc.room h c) (same-cell h (D - h) (2 ^ D) R sc.room c e room-is m))

  -- the box from low to high
  pub box-answer : (low high : Point)
      → (low.x ≤ high.x) × (high.x ≤ 2 ^ sc.depth) × (low.y ≤ high.y) × (high.y ≤ 2 ^ sc.depth) × (low.z ≤ high.z) × (high.z ≤ 2 ^ sc.depth)
      → box_outcome ws n low high ≡ outcome (told 0 (box_count (2 ^ sc.depth) sc.room low high ∷ [])) []
  unfolding box_outside
  box-answer low high (lx, hx, ly, hy, lz, hz) =
      let D : ℕ = scene_depth ws n in
      let S : ℕ = 2 ^ D in
      let e : 2 ^ sc.depth ≡ S = ap (λ (d : ℕ). 2 ^ d) depth_is in
      let out : box_outside ws n low high ≡ false =
      rw (
        axis-passes S low.x high.x lx (subst (λ (x : ℕ). high.x ≤ x) e hx),
        axis-passes S low.y high.y ly (subst (λ (x : ℕ). high.y ≤ x) e hy),
        axis-passes S low.z high.z lz (subst (λ (x : ℕ). high.z ≤ x) e hz),
      ) in
      (counts-hold ws s.ok).boxes n low high a.below out
      ∙ ap (λ (x : ℕ). outcome (told 0 (x ∷ [])) []) (box-same S R sc.room low high room-is ∙ ap (λ (x : ℕ). box_count x sc.room low high) (sym e))

  -- the file that came
  bytes-are : outline_bytes ws n ≡ sc.file
  unfolding outline_bytes
  bytes-are =
      outline-same (scene_depth ws n) R (file_room file) deep a.means.room
      ∙ ap (λ (d : ℕ). outline_of d (file_room file)) a.means.depth
      ∙ read-written file a.means.bytes a.means.accepted
      ∙ ap (λ (x : Scene). x.file) (sym a.is)

  file-fits : length sc.file ≤ longest
  file-fits =
      let i = accepted-outline file a.means.bytes a.means.accepted in
      let f : length file ≤ longest = subst (λ (l : List ℕ). length l ≤ longest) (sym i.same) (leb→le (length (outline_of (file_depth file) (file_room file))) longest i.fits) in
      subst (λ (l : List ℕ). length l ≤ longest) (ap (λ (x : Scene). x.file) (sym a.is)) f

  pub outline-answer : (out : List ℕ) → length sc.file ≤ length out
      → outline_outcome ws n out ≡ outcome (told 0 (length sc.file ∷ [])) (over sc.file out ∷ [])
  unfolding outline_outcome outline_short first_number
  outline-answer out h =
      let short : outline_short ws n out ≡ false = rw (bytes-are, le-ltb (length out) (length sc.file) h, le-ltb longest (length sc.file) file-fits) in
      let none : first_number (outline_out_order ws n out) ≡ 0 = rw (T_true {b = store_ok ws} s.ok, below-there s n a.below, short) in
      settled-accepted (first_number (outline_out_order ws n out)) (length (outline_bytes ws n) ∷ []) (over (outline_bytes ws n) out ∷ []) (out ∷ []) none
      ∙ ap (λ (l : List ℕ). outcome (told 0 (length l ∷ [])) (over l out ∷ [])) bytes-are
