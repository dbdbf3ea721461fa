-- A walk by numbers ends as paper's walk by coordinates does. By induction on the list, one step down being the same for both. Assumes nothing.
use mathlib.Core.Path.{◌≡◌, refl, sym, ap, ap₂, ◌∙◌, subst⁻¹}
use mathlib.Core.Bool.{Bool, true, false, cond, not}
use mathlib.Core.List.{List}
use Prim.Native.Nat.{ℕ, zero, suc, ◌<◌}
use lib.Bits.{bit_xor}
use lib.Dec.{T, eqb, leb, leb-suc-zero}
use lib.ListN.{length, get_or}
use Rattle.paper.specs.Rooms.{Point, mirror, child_no, in_child}
use Rattle.paper.specs.Outline.{edge}
use Rattle.paper.specs.Store.{Cell, cells_at, cell_at, leaf_no, tag_of, cell_no, any_bad}
use Rattle.paper.specs.Walk.{End, in_leaf, Step, Walk, unless, after, none, to, onward, walk_in}
use Rattle.paper.specs.Questions.{child_for, kept_reading}
use Rattle.laws.proofs.Matching.{tag-lt}
use Rattle.walk.specs.Walk.{taken_from, walk_to, end_of}
use Rattle.points.specs.Seeing.{seen_at}
use Rattle.walk.specs.Walk.{Ended}
use Rattle.walk.specs.Walk.{Absent, At, Damaged}
use Rattle.points.proofs.Seen.{tag-joins, child-seen, in-seen, tag-seen}

-- a voxel question stops at no list above the leaves
stops-low : (k : ℕ) → T (not (leb (suc k) 0))
stops-low k = subst⁻¹ (λ (b : Bool). T (not b)) (leb-suc-zero k) tt

-- the same tests on both sides
same_end : (a b c : Bool) (K : List (List Cell)) (v : Point) (x : Ended) (n m h : ℕ) (s : Step) (f : ℕ → ℕ → Walk) (t q : ℕ) → T (not a) → end_of K v x ≡ (f t q).end
    → end_of K v (cond a (At n m) (cond b Damaged (cond c (Absent h) x))) ≡ (unless (not b) (after s (onward h f (cond c none (to t q))))).end
same_end true b c K v x n m h s f t q d e = absurd d
same_end false true c K v x n m h s f t q d e = refl
same_end false false true K v x n m h s f t q d e = refl
same_end false false false K v x n m h s f t q d e = e

-- from cell n entered under tag t to the point u of it, which is v seen under m
pub voxel-end : (K : List (List Cell)) (k n m t : ℕ) (u v : Point) → m < 8 → mirror t (edge k) u ≡ seen_at k m v → end_of K v (walk_to K 0 k n m v) ≡ (walk_in (kept_reading K) k n t u).end
unfolding walk_to walk_in
voxel-end K zero n m t u v h e = ap (in_leaf (leaf_no (cell_at K 0 n))) (sym e)
voxel-end K (suc k) n m t u v h e =
    let c : Cell = cell_at K (suc k) n in
    let bad : Bool = any_bad (length (cells_at K k)) c in
    let p : ℕ = taken_from k c m v in
    let here : Step = record { list = suc k; place = n; tag = t } in
    let f : Point → ℕ → ℕ → Walk = λ w t' q. walk_in (kept_reading K) k q t' w in
    let at : ℕ → Point → End = λ i w. (unless (not bad) (after here (onward (suc (suc k)) (f w) (child_for (get_or c i 0))))).end in
    same_end (leb (suc k) 0) bad (eqb p 0) K v (walk_to K 0 k (cell_no p) (bit_xor (tag_of p) m) v) n m (suc (suc k)) here (f (seen_at k m v)) (tag_of p) (cell_no p) (stops-low k)
    (voxel-end K k (cell_no p) (bit_xor (tag_of p) m) (tag_of p) (seen_at k m v) v (tag-joins p m h) (tag-seen k (tag_of p) m v (tag-lt p) h))
    ∙ ap₂ at (sym (child-seen k m v h)) (sym (in-seen k m v h))
    ∙ ap (λ (w : Point). at (child_no (edge k) w) (in_child (edge k) w)) (sym e)
