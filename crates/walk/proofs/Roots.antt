-- A walk from a scene's root ends as paper's does, and the leaf that it ends at is kept. By the laws of walks,
-- at the root's list, where a voxel inside needs no reducing. Assumes nothing.
use mathlib.Core.Path.{◌≡◌, refl, sym, ap, ◌∙◌, subst}
use mathlib.Core.Bool.{Bool, true, false, cond, not}
use mathlib.Core.List.{List}
use Prim.Native.Nat.{ℕ, zero, suc, ◌-◌, ◌^◌, ◌<◌}
use native.Mathlib.Nat.{mod-eq_of_lt}
use native.Mathlib.Omega.{arith}
use lib.Bits.{bit_xor}
use lib.Dec.{T, eqb, leb, leb-suc-zero}
use lib.ListN.{length, get_or}
use Rattle.paper.specs.Rooms.{Point, point, Inside, depth_ok, mirror, in_child}
use Rattle.paper.specs.Outline.{edge}
use Rattle.paper.specs.Store.{Cell, cells_at, cell_at, tag_of, cell_no, bad_pointer, any_bad}
use Rattle.paper.specs.Walk.{none, to, walk_in, root_walk}
use Rattle.paper.specs.Questions.{kept_reading, voxel_walk}
use Rattle.laws.proofs.Eight.{xor8-lt}
use Rattle.laws.proofs.Tests.{none-at}
use Rattle.laws.proofs.Outlines.{depth-two}
use Rattle.walk.specs.Walk.{taken_from, walk_to, end_of, AtKept}
use Rattle.points.specs.Seeing.{child_no_at, seen_at}
use Rattle.walk.specs.Walk.{Ended}
use Rattle.walk.specs.Walk.{Absent, At, Damaged}
use Rattle.walk.proofs.Ends.{voxel-end}
use Rattle.laws.proofs.Invariant.{named-kept}
use Rattle.laws.proofs.Matching.{tag-lt}
use Rattle.points.proofs.Seen.{tag-joins}

-- ---- at the root

inside-whole : (S : ℕ) (v : Point) → Inside S v → in_child S v ≡ v
inside-whole S v h = λ i. point (mod-eq_of_lt h.in_x i) (mod-eq_of_lt h.in_y i) (mod-eq_of_lt h.in_z i)

root-edge : (D : ℕ) → T (depth_ok D) → edge (D - 2) ≡ 2 ^ D
root-edge D h = ap (λ (n : ℕ). 2 ^ n) (depth-two D h)

pub root-seen : (D t : ℕ) (v : Point) → T (depth_ok D) → Inside (2 ^ D) v → mirror t (2 ^ D) v ≡ seen_at (D - 2) t v
root-seen D t v d h =
    ap (mirror t (2 ^ D)) (sym (inside-whole (2 ^ D) v h)) ∙ ap (λ (S : ℕ). mirror t S (in_child S v)) (sym (root-edge D d))

-- the end of a voxel question
pub voxel-root : (K : List (List Cell)) (D p : ℕ) (v : Point) → T (depth_ok D) → Inside (2 ^ D) v → T (not (eqb p 0))
    → end_of K v (walk_to K 0 (D - 2) (cell_no p) (tag_of p) v) ≡ (voxel_walk K D p v).end
unfolding voxel_walk
voxel-root K D p v d h n =
    voxel-end K (D - 2) (cell_no p) (tag_of p) (tag_of p) v v (tag-lt p) (ap (λ (S : ℕ). mirror (tag_of p) S v) (root-edge D d) ∙ root-seen D (tag_of p) v d h) ∙ named (eqb p 0) n
  where
    named : (b : Bool) → T (not b) → (walk_in (kept_reading K) (D - 2) (cell_no p) (tag_of p) v).end ≡ (root_walk (kept_reading K) D (cond b none (to (tag_of p) (cell_no p))) v).end
    named true t = absurd t
    named false t = refl

-- ---- the leaf at which it ends is kept

-- a pointer that is neither bad nor none names a kept cell
pub taken-kept : (K : List (List Cell)) (k m : ℕ) (c : Cell) (v : Point) → m < 8 → any_bad (length (cells_at K k)) c ≡ false → (taken_from k c m v ≡ 0 → ⊥)
    → cell_no (taken_from k c m v) < length (cells_at K k)
taken-kept K k m c v h e z =
    let i : ℕ = bit_xor (child_no_at k v) m in
    let l : child_no_at k v < 8 = omega arith in
    let p : ℕ = taken_from k c m v in
    named-kept (length (cells_at K k)) p (none-at 8 (λ j. bad_pointer (length (cells_at K k)) (get_or c j 0)) e i (xor8-lt (child_no_at k v) m l h)) z

no-confusion : true ≡ false → ⊥
no-confusion e = subst T e tt

-- the three tests of a step
walk_step : (K : List (List Cell)) (a b c : Bool) (n m g : ℕ) (r : Ended) → a ≡ false → (b ≡ false → T (not c) → AtKept K r)
    → AtKept K (cond a (At n m) (cond b Damaged (cond c (Absent g) r)))
walk_step K true b c n m g r e f = absurd (no-confusion e)
walk_step K false true c n m g r e f = tt
walk_step K false false true n m g r e f = tt
walk_step K false false false n m g r e f = f refl tt

z-not : (p : ℕ) → T (not (eqb p 0)) → p ≡ 0 → ⊥
z-not p z q = subst (λ (x : ℕ). T (not (eqb x 0))) q z

pub walk_kept : (K : List (List Cell)) (k n m : ℕ) (v : Point) → n < length (cells_at K k) → m < 8 → AtKept K (walk_to K 0 k n m v)
unfolding walk_to
walk_kept K zero n m v l h = (l, h)
walk_kept K (suc k) n m v l h =
    let c : Cell = cell_at K (suc k) n in
    let p : ℕ = taken_from k c m v in
    walk_step K (leb (suc k) 0) (any_bad (length (cells_at K k)) c) (eqb p 0) n m (suc (suc k)) (walk_to K 0 k (cell_no p) (bit_xor (tag_of p) m) v) (leb-suc-zero k)
    (λ e z. walk_kept K k (cell_no p) (bit_xor (tag_of p) m) v (taken-kept K k m c v h e (λ q. z-not p z q)) (tag-joins p m h))
