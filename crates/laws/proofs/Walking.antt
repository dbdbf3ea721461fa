-- A walk over any reading. Where it ends at an absent child, every voxel of that child has the same walk; in a leaf, the voxel as stored is the point
-- mirrored once by the mirror in force; readings that agree walk alike; and a walk that isn't damaged is the walk without tests. By induction on the
-- list, with the mirror laws. Assumes nothing.
use mathlib.Core.Path.{◌≡◌, refl, sym, ◌∙◌, ap, ap₂, subst}
use mathlib.Core.Bool.{Bool, true, false, false≢true}
use mathlib.Core.List.{List, [], ◌∷◌, map}
use Prim.Native.Nat.{ℕ, zero, suc, ◌+◌, ◌-◌, ◌*◌, ◌/◌, ◌%◌, ◌^◌, ◌<◌, ◌≤◌}
use native.Mathlib.Nat.{mod-lt, mod-eq_of_lt, mul_comm, div-lt_iff_lt-mul, pow-succ'}
use native.Mathlib.Omega.{arith}
use lib.Arith.{mod-mul, digits_mod}
use lib.Bits.{bit_xor, xor_comm, xor_zero_r}
use lib.Dec.{T, lit<}
use lib.Pow.{pow-add, pow_pos}
use lib.ListN.{length, length-map}
use Rattle.paper.specs.Rooms.{Point, point, Inside, depth_ok, OneCell, mirror, child_no, in_child}
use Rattle.paper.specs.Outline.{edge}
use Rattle.paper.specs.Walk.{End, damaged, absent, in_leaf, Step, Walk, damaged_walk, unless, after, path_after, is_damaged, empty_height, tags_of, in_force, mirror_in, Child, none, wrong, to, Reading, onward, walk_in, root_walk}
use Rattle.laws.proofs.Eight.{xor8-lt}
use Rattle.laws.proofs.OutlineWriting.{edge-twice}
use Rattle.laws.proofs.Outlines.{depth-two}
use Rattle.laws.proofs.Mirrors.{mirror-inside, mirror-mirror, in_child-inside}
use Rattle.laws.proofs.CellPoints.{point_at, mirror-point_at, child_no-point_at, in_child-point_at, point-whole}

-- ---- without tests

abbrev pub untested : Reading → Reading
untested R = record { ok = λ k p. true; leaf = R.leaf; child = R.child }

-- one step, if each walk below is so where it isn't damaged
untested-step : (b : Bool) (s : Step) (h : ℕ) (f g : ℕ → ℕ → Walk) (c : Child) → ((t p : ℕ) → is_damaged (f t p).end ≡ false → f t p ≡ g t p)
    → is_damaged (unless b (after s (onward h f c))).end ≡ false → unless b (after s (onward h f c)) ≡ after s (onward h g c)
untested-step false s h f g c below e = absurd (false≢true (sym e))
untested-step true s h f g none below e = refl
untested-step true s h f g wrong below e = refl
untested-step true s h f g (to t p) below e = ap (after s) (below t p e)

untested-leaf : (b : Bool) (w : Walk) → is_damaged (unless b w).end ≡ false → unless b w ≡ w
untested-leaf true w e = refl
untested-leaf false w e = absurd (false≢true (sym e))

-- a walk that isn't damaged passed every test
pub walk-untested : (R : Reading) (k p t : ℕ) (v : Point) → is_damaged (walk_in R k p t v).end ≡ false → walk_in R k p t v ≡ walk_in (untested R) k p t v
unfolding walk_in
walk-untested R zero p t v e = untested-leaf (R.ok 0 p) _ e
walk-untested R (suc k) p t v e =
    let w : Point = mirror t (edge (suc k)) v in
    untested-step (R.ok (suc k) p) (record { list = suc k; place = p; tag = t }) (suc (suc k)) (λ u q. walk_in R k q u (in_child (edge k) w)) (λ u q. walk_in (untested R) k q u (in_child (edge k) w))
    (R.child k p (child_no (edge k) w)) (λ u q f. walk-untested R k q u (in_child (edge k) w) f) e

-- ---- readings that agree

-- two children under one tag, at related places
abbrev pub SameChild : (ℕ → ℕ → Type 0) → Child → Child → Type 0
SameChild A none none = Unit {0}
SameChild A wrong wrong = Unit {0}
SameChild A (to t p) (to u q) = (t ≡ u) × A p q
SameChild A none wrong = ⊥
SameChild A none (to u q) = ⊥
SameChild A wrong none = ⊥
SameChild A wrong (to u q) = ⊥
SameChild A (to t p) none = ⊥
SameChild A (to t p) wrong = ⊥

-- they say the same of places of list k that are related
pub record Agree (R Q : Reading) (A : ℕ → ℕ → ℕ → Type 0) : Type 0 where
  pub oks : (k p q : ℕ) → A k p q → R.ok k p ≡ Q.ok k q
  pub leaves : (p q : ℕ) → A 0 p q → R.leaf p ≡ Q.leaf q
  pub children : (k p q i : ℕ) → A (suc k) p q → SameChild (A k) (R.child k p i) (Q.child k q i)

-- the same but for the places
pub record SameWalk (w u : Walk) : Type 0 where
  pub ends : w.end ≡ u.end
  pub tags : tags_of w ≡ tags_of u

pub same_length : (w u : Walk) → SameWalk w u → length w.path ≡ length u.path
same_length w u s = sym (length-map w.path (λ s. s.tag)) ∙ ap length s.tags ∙ length-map u.path (λ s. s.tag)

same-unless : (b : Bool) (w u : Walk) → SameWalk w u → SameWalk (unless b w) (unless b u)
same-unless true w u s = s
same-unless false w u s = record { ends = refl; tags = refl }

-- the tags of a walk with one step before the others
abbrev tags_after : ℕ → End → List ℕ → List ℕ
tags_after t damaged ts = []
tags_after t (absent h) ts = t ∷ ts
tags_after t (in_leaf n u) ts = t ∷ ts

tags_after_lem : (s : Step) (e : End) (path : List Step) → map (λ s. s.tag) (path_after s e path) ≡ tags_after s.tag e (map (λ s. s.tag) path)
tags_after_lem s damaged path = refl
tags_after_lem s (absent h) path = refl
tags_after_lem s (in_leaf n u) path = refl

same_after : (s r : Step) (w u : Walk) → s.tag ≡ r.tag → SameWalk w u → SameWalk (after s w) (after r u)
same_after s r w u e same = record {
  ends = same.ends;
  tags = tags_after_lem s w.end w.path ∙ (λ i. tags_after (e i) (same.ends i) (same.tags i)) ∙ sym (tags_after_lem r u.end u.path);
}

same-onward : (A : ℕ → ℕ → Type 0) (h : ℕ) (f g : ℕ → ℕ → Walk) (c d : Child) → ((t p q : ℕ) → A p q → SameWalk (f t p) (g t q)) → SameChild A c d
    → SameWalk (onward h f c) (onward h g d)
same-onward A h f g none none below s = record { ends = refl; tags = refl }
same-onward A h f g none wrong below s = absurd s
same-onward A h f g none (to u q) below s = absurd s
same-onward A h f g wrong none below s = absurd s
same-onward A h f g wrong wrong below s = record { ends = refl; tags = refl }
same-onward A h f g wrong (to u q) below s = absurd s
same-onward A h f g (to t p) none below s = absurd s
same-onward A h f g (to t p) wrong below s = absurd s
same-onward A h f g (to t p) (to u q) below s = subst (λ (n : ℕ). SameWalk (f t p) (g n q)) s.0 (below t p q s.1)

module _ (R Q : Reading) (A : ℕ → ℕ → ℕ → Type 0) (a : Agree R Q A) where
  pub walks_same : (k p q t : ℕ) (v : Point) → A k p q → SameWalk (walk_in R k p t v) (walk_in Q k q t v)
  unfolding walk_in
  walks_same zero p q t v l =
      let w : Walk = record { end = in_leaf (Q.leaf q) (mirror t (edge 0) v); path = record { list = 0; place = p; tag = t } ∷ [] } in
      rw (a.oks 0 p q l, a.leaves p q l) (same-unless (Q.ok 0 q) w _ (record { ends = refl; tags = refl }))
  walks_same (suc k) p q t v l =
      let w : Point = mirror t (edge (suc k)) v in
      let i : ℕ = child_no (edge k) w in
      let here : ℕ → Step = λ r. record { list = suc k; place = r; tag = t } in
      let f : ℕ → ℕ → Walk = λ u r. walk_in R k r u (in_child (edge k) w) in
      let g : ℕ → ℕ → Walk = λ u r. walk_in Q k r u (in_child (edge k) w) in
      rw (a.oks (suc k) p q l)
      (same-unless (Q.ok (suc k) q) _ _ (same_after (here p) (here q) _ _ refl
      (same-onward (A k) (suc (suc k)) f g (R.child k p i) (Q.child k q i) (λ u r s m. walks_same k r s u (in_child (edge k) w) m) (a.children k p q i l))))

-- ---- the mirror in force

-- every tag is one of the eight mirrors
abbrev pub Mirrors : Reading → Type 0
Mirrors R = (k p i t q : ℕ) → R.child k p i ≡ to t q → t < 8

-- a walk in a leaf is there at voxel u
abbrev pub LeafAt : Point → End → Type 0
LeafAt u damaged = Unit {0}
LeafAt u (absent h) = Unit {0}
LeafAt u (in_leaf n w) = w ≡ u

-- the point in the cell of list j that holds it, mirrored once
abbrev pub point_in : ℕ → ℕ → Point → Point
point_in j m v = mirror m (edge j) (in_child (edge j) v)

-- the mirror in force at the end of a walk to v is one, and sees v where the walk ends
pub record Seen (v : Point) (w : Walk) : Type 0 where
  pub one : mirror_in w < 8
  pub is : LeafAt (point_in 0 (mirror_in w) v) w.end

pub seen-damaged : (v : Point) → Seen v damaged_walk
unfolding in_force
seen-damaged v = record { one = lit< tt; is = tt }

seen-unless : (b : Bool) (v : Point) (w : Walk) → Seen v w → Seen v (unless b w)
seen-unless true v w s = s
seen-unless false v w s = seen-damaged v

-- one step more, under tag t, from the child's point u to v
seen-after : (s : Step) (u v : Point) (e : End) (path : List Step) → s.tag < 8 → ((m : ℕ) → m < 8 → point_in 0 m u ≡ point_in 0 (bit_xor s.tag m) v)
    → Seen u (record { end = e; path = path }) → Seen v (after s (record { end = e; path = path }))
unfolding in_force
seen-after s u v damaged path h same r = record { one = lit< tt; is = tt }
seen-after s u v (absent n) path h same r = record { one = xor8-lt s.tag (in_force (map (λ s. s.tag) path)) h r.one; is = tt }
seen-after s u v (in_leaf n w) path h same r = record {
  one = xor8-lt s.tag (in_force (map (λ s. s.tag) path)) h r.one;
  is = r.is ∙ same (in_force (map (λ s. s.tag) path)) r.one;
}

seen-onward : (h : ℕ) (f : ℕ → ℕ → Walk) (v : Point) (c : Child) → ((t p : ℕ) → c ≡ to t p → t < 8) → ((t p : ℕ) → t < 8 → Seen v (f t p)) → Seen v (onward h f c)
unfolding in_force
seen-onward h f v none low below = record { one = lit< tt; is = tt }
seen-onward h f v wrong low below = record { one = lit< tt; is = tt }
seen-onward h f v (to t p) low below = below t p (low t p refl)

-- in cells of edge H of a cube of edge M * H, reduced and mirrored
div-lt : (H M x : ℕ) → 0 < H → x < M * H → x / H < M
div-lt H M x p h = (div-lt_iff_lt-mul p).1 h

low-low : (H M x : ℕ) → 0 < H → 0 < M → x % (M * H) % H ≡ x % H
low-low H M x h g = ap (λ (n : ℕ). n % H) (mod-mul x {m = M} {c = H} g h) ∙ digits_mod (x / H % M) (mod-lt x h)

reduced-twice : (H M : ℕ) (v : Point) → 0 < H → 0 < M → in_child H (in_child (M * H) v) ≡ in_child H v
reduced-twice H M v h g = λ i. point (low-low H M v.x h g i) (low-low H M v.y h g i) (low-low H M v.z h g i)

pub reduced-inside : (H : ℕ) (v : Point) → 0 < H → Inside H (in_child H v)
reduced-inside H v h = record { in_x = mod-lt v.x h; in_y = mod-lt v.y h; in_z = mod-lt v.z h }

reduced-mirror : (t H M : ℕ) (v : Point) → 0 < H → Inside (M * H) v → in_child H (mirror t (M * H) v) ≡ mirror t H (in_child H v)
reduced-mirror t H M v h l =
    let c : Point = point (v.x / H) (v.y / H) (v.z / H) in
    let u : Point = in_child H v in
    let lc : Inside M c = record { in_x = div-lt H M v.x h l.in_x; in_y = div-lt H M v.y h l.in_y; in_z = div-lt H M v.z h l.in_z } in
    let lu : Inside H (mirror t H u) = mirror-inside t H u (reduced-inside H v h) in
    let at : Point = mirror t M c in
    ap (λ (w : Point). in_child H (mirror t (M * H) w)) (sym (point-whole H v))
    ∙ ap (λ (n : ℕ). in_child H (mirror t n (point_at H c u))) (mul_comm M H)
    ∙ ap (in_child H) (mirror-point_at t H M c u lc (reduced-inside H v h))
    ∙ (λ i. point (digits_mod at.x lu.in_x i) (digits_mod at.y lu.in_y i) (digits_mod at.z lu.in_z i))

-- the edge of list k in cells of list j
edge-cells : (j k : ℕ) → j ≤ k → edge k ≡ 2 ^ (k - j) * edge j
edge-cells j k h = ap (λ (n : ℕ). 2 ^ n) (omega arith) ∙ pow-add 2 (k - j) (suc (suc j))

-- the point in a child, mirrored, is the point mirrored by both
pub point-down : (j k t m : ℕ) (v : Point) → j ≤ k → t < 8 → m < 8 → Inside (edge (suc k)) v
    → point_in j m (in_child (edge k) (mirror t (edge (suc k)) v)) ≡ point_in j (bit_xor t m) v
point-down j k t m v h ht hm l =
    let w : Point = mirror t (edge (suc k)) v in
    let pos : 0 < edge j = pow_pos (suc (suc j)) in
    let up : edge (suc k) ≡ 2 ^ (suc k - j) * edge j = edge-cells j (suc k) (omega arith) in
    ap (λ (n : ℕ). mirror m (edge j) (in_child (edge j) (in_child n w))) (edge-cells j k h)
    ∙ ap (mirror m (edge j)) (reduced-twice (edge j) (2 ^ (k - j)) w pos (pow_pos (k - j))
    ∙ ap (λ (n : ℕ). in_child (edge j) (mirror t n v)) up
    ∙ reduced-mirror t (edge j) (2 ^ (suc k - j)) v pos (subst (λ (n : ℕ). Inside n v) up l))
    ∙ mirror-mirror m t (edge j) (in_child (edge j) v) hm ht (reduced-inside (edge j) v pos)
    ∙ ap (λ (n : ℕ). point_in j n v) (xor_comm m t)

-- where the voxel lies in the child, inside
pub child-inside : (k t : ℕ) (v : Point) → Inside (edge (suc k)) v → Inside (edge k) (in_child (edge k) (mirror t (edge (suc k)) v))
child-inside k t v l =
    in_child-inside (edge k) (mirror t (edge (suc k)) v) (subst (λ (n : ℕ). Inside n (mirror t (edge (suc k)) v)) (edge-twice k) (mirror-inside t (edge (suc k)) v l))

pub walk-seen : (R : Reading) → Mirrors R → (k p t : ℕ) (v : Point) → t < 8 → Inside (edge k) v → Seen v (walk_in R k p t v)
unfolding walk_in in_force
walk-seen R low zero p t v h l =
    let e : in_child (edge 0) v ≡ v = λ i. point (mod-eq_of_lt l.in_x i) (mod-eq_of_lt l.in_y i) (mod-eq_of_lt l.in_z i) in
    seen-unless (R.ok 0 p) v _ (record {
      one = subst (λ (n : ℕ). n < 8) (sym (xor_zero_r t)) h;
      is = ap₂ (λ (n : ℕ) (w : Point). mirror n (edge 0) w) (sym (xor_zero_r t)) (sym e);
    })
walk-seen R low (suc k) p t v h l =
    let w : Point = mirror t (edge (suc k)) v in
    let u : Point = in_child (edge k) w in
    let f : ℕ → ℕ → Walk = λ t' q. walk_in R k q t' u in
    let c : Child = R.child k p (child_no (edge k) w) in
    let on : Walk = onward (suc (suc k)) f c in
    let below : Seen u on =
    seen-onward (suc (suc k)) f u c (λ t' q. low k p (child_no (edge k) w) t' q) (λ t' q h'. walk-seen R low k q t' u h' (child-inside k t v l)) in
    seen-unless (R.ok (suc k) p) v (after (record { list = suc k; place = p; tag = t }) on)
    (seen-after (record { list = suc k; place = p; tag = t }) u v on.end on.path h (λ m hm. point-down 0 k t m v (omega arith) h hm l) below)

-- ---- an absent child

abbrev is_absent : End → Bool
is_absent damaged = false
is_absent (absent h) = true
is_absent (in_leaf n u) = false

-- it lies below what was entered
absent-step : (b : Bool) (s : Step) (n h : ℕ) (f : ℕ → ℕ → Walk) (c : Child) → ((t p : ℕ) → (f t p).end ≡ absent h → h < n) → (unless b (after s (onward n f c))).end ≡ absent h → h < suc n
absent-step false s n h f c below e = absurd (false≢true (ap is_absent e))
absent-step true s n h f none below e = omega (arith, ap empty_height e)
absent-step true s n h f wrong below e = absurd (false≢true (ap is_absent e))
absent-step true s n h f (to t p) below e = omega (arith, below t p e)

leaf-absent : (b : Bool) (n h : ℕ) (u : Point) (path : List Step) → (unless b (record { end = in_leaf n u; path = path })).end ≡ absent h → ⊥
leaf-absent false n h u path e = false≢true (ap is_absent e)
leaf-absent true n h u path e = false≢true (ap is_absent e)

pub absent-low : (R : Reading) (k p t : ℕ) (v : Point) (h : ℕ) → (walk_in R k p t v).end ≡ absent h → h < suc (suc k)
unfolding walk_in
absent-low R zero p t v h e = absurd (leaf-absent (R.ok 0 p) _ h _ _ e)
absent-low R (suc k) p t v h e =
    let w : Point = mirror t (edge (suc k)) v in
    absent-step (R.ok (suc k) p) (record { list = suc k; place = p; tag = t }) (suc (suc k)) h (λ u q. walk_in R k q u (in_child (edge k) w)) (R.child k p (child_no (edge k) w))
    (λ u q f. absent-low R k q u (in_child (edge k) w) h f) e

-- one step, if each walk below that ends there is the same
absent-same : (b : Bool) (s : Step) (n h : ℕ) (f g : ℕ → ℕ → Walk) (c : Child) → ((t p : ℕ) → (f t p).end ≡ absent h → g t p ≡ f t p)
    → (unless b (after s (onward n f c))).end ≡ absent h → unless b (after s (onward n g c)) ≡ unless b (after s (onward n f c))
absent-same false s n h f g c below e = refl
absent-same true s n h f g none below e = refl
absent-same true s n h f g wrong below e = refl
absent-same true s n h f g (to t p) below e = ap (after s) (below t p e)

-- by the coordinates of the cell of height h that holds both
placed_same : (R : Reading) (h k d p t : ℕ) (c u w : Point) → suc (suc k) ≡ h + d → Inside (2 ^ d) c → Inside (2 ^ h) u → Inside (2 ^ h) w
    → (walk_in R k p t (point_at (2 ^ h) c u)).end ≡ absent h → walk_in R k p t (point_at (2 ^ h) c w) ≡ walk_in R k p t (point_at (2 ^ h) c u)
unfolding walk_in
placed_same R h zero d p t c u w e lc lu lw q = absurd (leaf-absent (R.ok 0 p) _ h _ _ q)
placed_same R h (suc k) zero p t c u w e lc lu lw q = absurd (omega (arith, absent-low R (suc k) p t (point_at (2 ^ h) c u) h q))
placed_same R h (suc k) (suc d) p t c u w e lc lu lw q =
    let H : ℕ = 2 ^ h in
    let c' : Point = mirror t (2 ^ suc d) c in
    let lc' : Inside (2 ^ suc d) c' = mirror-inside t (2 ^ suc d) c lc in
    let halves : Inside (2 * 2 ^ d) c' = subst (λ (E : ℕ). Inside E c') (pow-succ' 2 d) lc' in
    let i : ℕ = child_no (2 ^ d) c' in
    let here : Step = record { list = suc k; place = p; tag = t } in
    let down : suc (suc k) ≡ h + d = omega arith in
    let below-edge : edge k ≡ H * 2 ^ d = ap (λ (n : ℕ). 2 ^ n) down ∙ pow-add 2 h d in
    let here-edge : edge (suc k) ≡ H * 2 ^ suc d = ap (λ (n : ℕ). 2 ^ n) e ∙ pow-add 2 h (suc d) in
    let on : Point → ℕ → ℕ → Walk = λ x t' r. walk_in R k r t' (point_at H (in_child (2 ^ d) c') (mirror t H x)) in
    let is : (x : Point) → Inside H x → walk_in R (suc k) p t (point_at H c x) ≡ unless (R.ok (suc k) p) (after here (onward (suc (suc k)) (on x) (R.child k p i))) =
    λ x lx.
    let at : ℕ → Point → Walk = λ n y. unless (R.ok (suc k) p) (after here (onward (suc (suc k)) (λ t' r. walk_in R k r t' y) (R.child k p n))) in
    let lm : Inside H (mirror t H x) = mirror-inside t H x lx in
    let mirrored-at : mirror t (edge (suc k)) (point_at H c x) ≡ point_at H c' (mirror t H x) =
    ap (λ (E : ℕ). mirror t E (point_at H c x)) here-edge ∙ mirror-point_at t H (2 ^ suc d) c x lc lx in
    ap (λ (y : Point). at (child_no (edge k) y) (in_child (edge k) y)) mirrored-at
    ∙ ap (λ (S : ℕ). at (child_no S (point_at H c' (mirror t H x))) (in_child S (point_at H c' (mirror t H x)))) below-edge
    ∙ ap₂ at (child_no-point_at H (2 ^ d) c' (mirror t H x) (pow_pos d) lm) (in_child-point_at H (2 ^ d) c' (mirror t H x) (pow_pos d) lm) in
    let same : (t' r : ℕ) → (on u t' r).end ≡ absent h → on w t' r ≡ on u t' r =
    λ t' r f. placed_same R h k d r t' (in_child (2 ^ d) c') (mirror t H u) (mirror t H w) down (in_child-inside (2 ^ d) c' halves) (mirror-inside t H u lu) (mirror-inside t H w lw) f in
    is w lw ∙ absent-same (R.ok (suc k) p) here (suc (suc k)) h (on u) (on w) (R.child k p i) same (ap (λ (x : Walk). x.end) (sym (is u lu)) ∙ q) ∙ sym (is u lu)

-- where the walk to v ends at an absent child of height h, every voxel of the cell of height h that holds v has that walk
pub walk-absent : (R : Reading) (k p t : ℕ) (v w : Point) (h : ℕ) → Inside (edge k) v → (walk_in R k p t v).end ≡ absent h → OneCell h v w → walk_in R k p t w ≡ walk_in R k p t v
walk-absent R k p t v w h l e s =
    let H : ℕ = 2 ^ h in
    let d : ℕ = suc (suc k) - h in
    let c : Point = point (v.x / H) (v.y / H) (v.z / H) in
    let up : suc (suc k) ≡ h + d = omega (arith, absent-low R k p t v h e) in
    let up' : suc (suc k) ≡ d + h = omega (arith, absent-low R k p t v h e) in
    let whole : edge k ≡ 2 ^ d * H = ap (λ (n : ℕ). 2 ^ n) up' ∙ pow-add 2 d h in
    let lv : Inside (2 ^ d * H) v = subst (λ (n : ℕ). Inside n v) whole l in
    let lc : Inside (2 ^ d) c = record { in_x = div-lt H (2 ^ d) v.x (pow_pos h) lv.in_x; in_y = div-lt H (2 ^ d) v.y (pow_pos h) lv.in_y; in_z = div-lt H (2 ^ d) v.z (pow_pos h) lv.in_z } in
    let is : point_at H c (in_child H w) ≡ w =
    (λ i. point_at H (point (s.one_x i) (s.one_y i) (s.one_z i)) (in_child H w)) ∙ point-whole H w in
    ap (walk_in R k p t) (sym is)
    ∙ placed_same R h k d p t c (in_child H v) (in_child H w) up lc (reduced-inside H v (pow_pos h)) (reduced-inside H w (pow_pos h))
    (ap (λ (x : Point). (walk_in R k p t x).end) (point-whole H v) ∙ e)
    ∙ ap (walk_in R k p t) (point-whole H v)

-- ---- from a root

module _ (R : Reading) (D : ℕ) (deep : T (depth_ok D)) where
  in-root : (v : Point) → Inside (2 ^ D) v → Inside (edge (D - 2)) v
  in-root v l = subst (λ (n : ℕ). Inside (2 ^ n) v) (sym (depth-two D deep)) l

  pub root-absent : (c : Child) (v w : Point) (h : ℕ) → Inside (2 ^ D) v → (root_walk R D c v).end ≡ absent h → OneCell h v w → root_walk R D c w ≡ root_walk R D c v
  root-absent none v w h l e s = refl
  root-absent wrong v w h l e s = refl
  root-absent (to t p) v w h l e s = walk-absent R (D - 2) p t v w h (in-root v l) e s

  pub root-seen : Mirrors R → (c : Child) → ((t p : ℕ) → c ≡ to t p → t < 8) → (v : Point) → Inside (2 ^ D) v → Seen v (root_walk R D c v)
  root-seen low c h v l = seen-onward D (λ t p. walk_in R (D - 2) p t v) v c h (λ t p ht. walk-seen R low (D - 2) p t v ht (in-root v l))
