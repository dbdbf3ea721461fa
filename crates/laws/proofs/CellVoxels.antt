-- The walk over cells by number ends at the voxel that the lists mean: without tests always, with tests where it isn't damaged. By induction on the
-- list, a step of the walk being a step of the meaning. Assumes nothing.
use mathlib.Core.Path.{◌≡◌, refl, ◌∙◌, ap}
use mathlib.Core.Bool.{Bool, true, false, cond}
use mathlib.Core.List.{List}
use Prim.Native.Nat.{ℕ, zero, suc, ◌-◌, ◌^◌, ◌<◌}
use native.Mathlib.Omega.{arith}
use lib.Dec.{T, eqb}
use lib.ListN.{get_or}
use Rattle.paper.specs.Rooms.{Point, Inside, depth_ok, OneCell, mirror, child_no, in_child}
use Rattle.paper.specs.Outline.{edge}
use Rattle.paper.specs.Store.{Cell, cell_at, tag_of, cell_no}
use Rattle.paper.specs.Meaning.{cell_voxel, root_room}
use Rattle.paper.specs.Walk.{absent, Walk, is_damaged, solid_at, Child, none, wrong, to, onward, walk_in, root_walk}
use Rattle.paper.specs.Questions.{child_for, graph_reading, kept_reading, voxel_walk}
use Rattle.laws.proofs.Outlines.{depth-two}
use Rattle.laws.proofs.Matching.{tag-lt}
use Rattle.laws.proofs.Walking.{Mirrors, Seen, walk-untested, root-absent, root-seen}

-- ---- without tests

module _ (K : List (List Cell)) where
  pub graph-voxel : (k n t : ℕ) (v : Point) → solid_at (walk_in (graph_reading K) k n t v).end ≡ cell_voxel K k (cell_at K k n) (mirror t (edge k) v)
  unfolding walk_in cell_voxel
  graph-voxel zero n t v = refl
  graph-voxel (suc k) n t v = go (eqb p 0) (graph-voxel k (cell_no p) (tag_of p) (in_child (edge k) w))
    where
      w : Point
      w = mirror t (edge (suc k)) v

      p : ℕ
      p = get_or (cell_at K (suc k) n) (child_no (edge k) w) 0

      f : ℕ → ℕ → Walk
      f u q = walk_in (graph_reading K) k q u (in_child (edge k) w)

      go : (b : Bool) {r : Bool} → solid_at (f (tag_of p) (cell_no p)).end ≡ r → solid_at (onward (suc (suc k)) f (cond b none (to (tag_of p) (cell_no p)))).end ≡ cond b false r
      go true e = refl
      go false e = e

  pub graph-sound : (k n t : ℕ) (v : Point) → is_damaged (walk_in (graph_reading K) k n t v).end ≡ false
  unfolding walk_in
  graph-sound zero n t v = refl
  graph-sound (suc k) n t v = go (eqb p 0) (graph-sound k (cell_no p) (tag_of p) (in_child (edge k) w))
    where
      w : Point
      w = mirror t (edge (suc k)) v

      p : ℕ
      p = get_or (cell_at K (suc k) n) (child_no (edge k) w) 0

      f : ℕ → ℕ → Walk
      f u q = walk_in (graph_reading K) k q u (in_child (edge k) w)

      go : (b : Bool) → is_damaged (f (tag_of p) (cell_no p)).end ≡ false → is_damaged (onward (suc (suc k)) f (cond b none (to (tag_of p) (cell_no p)))).end ≡ false
      go true e = refl
      go false e = e

-- ---- a pointer's tag is a mirror

abbrev pub tag_taken : Child → ℕ
tag_taken none = 0
tag_taken wrong = 0
tag_taken (to t p) = t

pub child-tag : (p t q : ℕ) → child_for p ≡ to t q → t < 8
child-tag p t q e = go (eqb p 0) e
  where
    go : (b : Bool) → cond b none (to (tag_of p) (cell_no p)) ≡ to t q → t < 8
    go true f = omega (arith, ap tag_taken f)
    go false f = omega (arith, ap tag_taken f, tag-lt p)

pub kept-mirrors : (K : List (List Cell)) → Mirrors (kept_reading K)
kept-mirrors K k n i t q e = child-tag (get_or (cell_at K (suc k) n) i 0) t q e

-- ---- a voxel question on a store

module _ (K : List (List Cell)) (D p : ℕ) (deep : T (depth_ok D)) where
  -- where its walk isn't damaged, it is the walk without tests
  pub voxel-untested : (v : Point) → is_damaged (voxel_walk K D p v).end ≡ false → voxel_walk K D p v ≡ root_walk (graph_reading K) D (child_for p) v
  unfolding voxel_walk
  voxel-untested v = go (eqb p 0)
    where
      go : (b : Bool) → is_damaged (root_walk (kept_reading K) D (cond b none (to (tag_of p) (cell_no p))) v).end ≡ false
          → root_walk (kept_reading K) D (cond b none (to (tag_of p) (cell_no p))) v ≡ root_walk (graph_reading K) D (cond b none (to (tag_of p) (cell_no p))) v
      go true e = refl
      go false e = walk-untested (kept_reading K) (D - 2) (cell_no p) (tag_of p) v e

  -- and ends at the room's voxel
  pub voxel-means : (v : Point) → is_damaged (voxel_walk K D p v).end ≡ false → solid_at (voxel_walk K D p v).end ≡ root_room K D p v
  unfolding root_room
  voxel-means v e = ap (λ (w : Walk). solid_at w.end) (voxel-untested v e) ∙ go (eqb p 0)
    where
      go : (b : Bool) → solid_at (root_walk (graph_reading K) D (cond b none (to (tag_of p) (cell_no p))) v).end
          ≡ cond b false (cell_voxel K (D - 2) (cell_at K (D - 2) (cell_no p)) (mirror (tag_of p) (2 ^ D) v))
      go true = refl
      go false =
          graph-voxel K (D - 2) (cell_no p) (tag_of p) v
          ∙ ap (λ (h : ℕ). cell_voxel K (D - 2) (cell_at K (D - 2) (cell_no p)) (mirror (tag_of p) (2 ^ h) v)) (depth-two D deep)

  -- the voxels of an absent child have one walk
  pub voxel-absent : (v w : Point) (h : ℕ) → Inside (2 ^ D) v → (voxel_walk K D p v).end ≡ absent h → OneCell h v w → voxel_walk K D p w ≡ voxel_walk K D p v
  unfolding voxel_walk
  voxel-absent v w h l e s = root-absent (kept_reading K) D deep (child_for p) v w h l e s

  -- in a leaf it is at the voxel mirrored once, by the mirror in force
  pub voxel-seen : (v : Point) → Inside (2 ^ D) v → Seen v (voxel_walk K D p v)
  unfolding voxel_walk
  voxel-seen v l = root-seen (kept_reading K) D deep (kept-mirrors K) (child_for p) (child-tag p) v l
