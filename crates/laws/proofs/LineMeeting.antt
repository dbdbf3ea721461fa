-- Which voxels a segment meets, by steps: a voxel is met where it lies some steps from the start on each axis and those are the steps of one moment.
-- By one axis at a time, the doubled coordinate multiplied out. So a segment meets the same voxels from either end, and none outside the cube that
-- holds its ends. Assumes nothing.
use mathlib.Core.Path.{◌≡◌, refl, sym, ◌∙◌, ap, subst}
use mathlib.Core.Bool.{Bool, true, false, cond}
use mathlib.Core.Logic.{◌↔◌}
use Prim.Native.Nat.{ℕ, ◌+◌, ◌-◌, ◌*◌, ◌<◌, ◌≤◌}
use native.Mathlib.Nat.{mul-add, mul-le-mul_right, mul-lt-mul_of_pos_right, lt_of_mul-lt-mul_right}
use native.Mathlib.Omega.{arith}
use borrow.Author.Tests.{leb-true, leb-false}
use lib.Dec.{leb}
use Rattle.paper.specs.Rooms.{Point, point, Inside}
use Rattle.paper.specs.Lines.{on_axis, Within, PointIn, Meets, Before, distance, along, distances, voxel_at, same_point, whole_of}
use Rattle.laws.specs.Lines.{AtMost, Moment, moment, crossing, leaving}
use Rattle.laws.proofs.LineMoments.{NotAfter, Sooner, Counts, mid-low, mid-high}
use Rattle.laws.proofs.LineSteps.{point-eq, most-whole, StepsOf, OnLine, line-most, leaving-is, Leaving, moment-sooner, steps-rise}

-- ---- one axis

parts-of : (a p q : ℕ) → p ≤ q → a * (q - p) + a * p ≡ a * q
parts-of a p q h = let e : q - p + p ≡ q = omega arith in sym (mul-add a (q - p) p) ∙ ap (λ (n : ℕ). a * n) e

-- strictly between two crossings, p / q of the way
abbrev Strict : ℕ → ℕ → ℕ → ℕ → Type 0
Strict d i p q = (2 * i * q < 2 * p * d + q) × (2 * p * d + q < 2 * i * q + 2 * q)

strict_up : (a b d i p q : ℕ) → p ≤ q → b ≡ a + d → Within (a + i) q (on_axis a b p q) ↔ Strict d i p q
strict_up a b d i p q h e =
    let f : b * p ≡ (a + d) * p = ap (λ (n : ℕ). n * p) e in
    let g = parts-of a p q h in
    omega arith

strict-down : (a b d i v p q : ℕ) → p ≤ q → a ≡ b + d → v + i ≡ a → Within v q (on_axis a b p q) ↔ Strict d i p q
strict-down a b d i v p q h e l =
    let f : a * p ≡ (b + d) * p = ap (λ (n : ℕ). n * p) e in
    let k : (v + i) * q ≡ a * q = ap (λ (n : ℕ). n * q) l in
    let g = parts-of a p q h in
    omega arith

within-strict : (a b i p q : ℕ) → p ≤ q → i ≤ distance a b → Within (along a b i) q (on_axis a b p q) ↔ Strict (distance a b) i p q
within-strict a b i p q h m = go (leb a b) refl
  where
    go : (t : Bool) → leb a b ≡ t → Within (cond t (a + i) (a - i)) q (on_axis a b p q) ↔ Strict (distance a b) i p q
    go true e = let l : a ≤ b = leb-true a b e in strict_up a b (distance a b) i p q h (omega arith)
    go false e = let l : b < a = leb-false a b e in strict-down a b (distance a b) i (a - i) p q h (omega arith) (omega arith)

-- between the ends
axis-least : (l a b p q : ℕ) → p ≤ q → l ≤ a → l ≤ b → (2 * l + 1) * q ≤ on_axis a b p q
axis-least l a b p q h u v = omega (arith, parts-of l p q h, mul-le-mul_right (q - p) u, mul-le-mul_right p v)

axis-most : (m a b p q : ℕ) → p ≤ q → a ≤ m → b ≤ m → on_axis a b p q ≤ (2 * m + 1) * q
axis-most m a b p q h u v = omega (arith, parts-of m p q h, mul-le-mul_right (q - p) u, mul-le-mul_right p v)

above-least : (l a b v p q : ℕ) → p ≤ q → l ≤ a → l ≤ b → Within v q (on_axis a b p q) → l ≤ v
above-least l a b v p q h r s w =
    let m : (2 * l + 1) * q < (2 * v + 2) * q = omega (arith, axis-least l a b p q h r s) in
    let k : 2 * l + 1 < 2 * v + 2 = lt_of_mul-lt-mul_right q m in
    omega arith

below-most : (m a b v p q : ℕ) → p ≤ q → a ≤ m → b ≤ m → Within v q (on_axis a b p q) → v ≤ m
below-most m a b v p q h r s w =
    let l : 2 * v * q < (2 * m + 1) * q = omega (arith, axis-most m a b p q h r s) in
    let k : 2 * v < 2 * m + 1 = lt_of_mul-lt-mul_right q l in
    omega arith

-- some steps from the start
pub along-back : (a b v p q : ℕ) → p ≤ q → Within v q (on_axis a b p q) → (distance a v ≤ distance a b) × (along a b (distance a v) ≡ v)
along-back a b v p q h w = go (leb a b) refl
  where
    go : (t : Bool) → leb a b ≡ t → (distance a v ≤ distance a b) × (cond t (a + distance a v) (a - distance a v) ≡ v)
    go true e =
        let l : a ≤ b = leb-true a b e in
        let r : a ≤ v = above-least a a b v p q h (omega arith) l w in
        let s : v ≤ b = below-most b a b v p q h l (omega arith) w in
        (omega arith, omega arith)
    go false e =
        let l : b < a = leb-false a b e in
        let r : b ≤ v = above-least b a b v p q h (omega arith) (omega arith) w in
        let s : v ≤ a = below-most a a b v p q h (omega arith) (omega arith) w in
        (omega arith, omega arith)

along-inj : (a b i j : ℕ) → i ≤ distance a b → j ≤ distance a b → along a b i ≡ along a b j → i ≡ j
along-inj a b i j h k = go (leb a b) refl
  where
    go : (t : Bool) → leb a b ≡ t → cond t (a + i) (a - i) ≡ cond t (a + j) (a - j) → i ≡ j
    go true e l = omega arith
    go false e l = let m : b < a = leb-false a b e in omega arith

along-start : (a b : ℕ) → along a b 0 ≡ a
along-start a b = go (leb a b)
  where
    go : (t : Bool) → cond t (a + 0) (a - 0) ≡ a
    go true = omega arith
    go false = omega arith

along-end : (a b : ℕ) → along a b (distance a b) ≡ b
along-end a b = go (leb a b) refl
  where
    go : (t : Bool) → leb a b ≡ t → cond t (a + distance a b) (a - distance a b) ≡ b
    go true e = let l : a ≤ b = leb-true a b e in omega arith
    go false e = let l : b < a = leb-false a b e in omega arith

distance-lt : (S a b : ℕ) → a < S → b < S → distance a b < S
distance-lt S a b h k = omega arith

along-lt : (S a b i : ℕ) → a < S → b < S → i ≤ distance a b → along a b i < S
along-lt S a b i h k m = go (leb a b) refl
  where
    go : (t : Bool) → leb a b ≡ t → cond t (a + i) (a - i) < S
    go true e = let l : a ≤ b = leb-true a b e in omega arith
    go false e = omega arith

axis-turned : (a b p q : ℕ) → p ≤ q → on_axis b a (q - p) q ≡ on_axis a b p q
axis-turned a b p q h = let e : q - (q - p) ≡ p = omega arith in rw e (omega arith)

-- midway between two moments
abbrev mid_p : Moment → Moment → ℕ
mid_p t u = t.halves * u.parts + u.halves * t.parts

abbrev mid_q : Moment → Moment → ℕ
mid_q t u = 4 * (t.parts * u.parts)

mid-part : (t u : Moment) → t.halves ≤ 2 * t.parts → u.halves ≤ 2 * u.parts → mid_p t u ≤ mid_q t u
mid-part t u h l = omega (arith, mul-le-mul_right u.parts h, mul-le-mul_right t.parts l)

mid-within : (t u : Moment) → 0 < t.parts → 0 < u.parts → Sooner t u → mid_p t u ≤ mid_q t u → (a b i : ℕ) → i ≤ distance a b
    → Counts t (distance a b) i → NotAfter u (crossing (distance a b) i) → Within (along a b i) (mid_q t u) (on_axis a b (mid_p t u) (mid_q t u))
mid-within t u p q sooner part a b i h c l =
    let d = distance a b in
    (within-strict a b i (mid_p t u) (mid_q t u) part h).1
    (mid-low d i t.halves t.parts u.halves u.parts p q c.low sooner, mid-high d i t.halves t.parts u.halves u.parts p q c.high l)

-- ---- three axes

module _ (a b : Point) where
  pub voxel-start : voxel_at a b (point 0 0 0) ≡ a
  voxel-start = point-eq (voxel_at a b (point 0 0 0)) a (along-start a.x b.x) (along-start a.y b.y) (along-start a.z b.z)

  pub voxel-end : voxel_at a b (distances a b) ≡ b
  voxel-end = point-eq (voxel_at a b (distances a b)) b (along-end a.x b.x) (along-end a.y b.y) (along-end a.z b.z)

  pub voxel-inj : (s w : Point) → AtMost s (distances a b) → AtMost w (distances a b) → voxel_at a b s ≡ voxel_at a b w → s ≡ w
  voxel-inj s w u v e =
      point-eq s w (along-inj a.x b.x s.x w.x u.up_x v.up_x (ap (λ (r : Point). r.x) e))
      (along-inj a.y b.y s.y w.y u.up_y v.up_y (ap (λ (r : Point). r.y) e))
      (along-inj a.z b.z s.z w.z u.up_z v.up_z (ap (λ (r : Point). r.z) e))

  -- in the cube that holds the ends
  pub distances-inside : (S : ℕ) → Inside S a → Inside S b → Inside S (distances a b)
  distances-inside S i j =
      record {
        in_x = distance-lt S a.x b.x i.in_x j.in_x;
        in_y = distance-lt S a.y b.y i.in_y j.in_y;
        in_z = distance-lt S a.z b.z i.in_z j.in_z;
      }

  pub voxel-inside : (S : ℕ) (s : Point) → Inside S a → Inside S b → AtMost s (distances a b) → Inside S (voxel_at a b s)
  voxel-inside S s i j u =
      record {
        in_x = along-lt S a.x b.x s.x i.in_x j.in_x u.up_x;
        in_y = along-lt S a.y b.y s.y i.in_y j.in_y u.up_y;
        in_z = along-lt S a.z b.z s.z i.in_z j.in_z u.up_z;
      }

  -- a point in the voxel some steps away has those steps behind it
  strict-counts : (d i p q : ℕ) → Strict d i p q → Counts (moment (2 * p) q) d i
  strict-counts d i p q s = record { low = omega arith; high = omega arith }

  pub point-steps : (s : Point) (p q : ℕ) → AtMost s (distances a b) → PointIn a b (voxel_at a b s) p q → StepsOf (moment (2 * p) q) (distances a b) s
  point-steps s p q u w =
      let axis : (c e i : ℕ) → i ≤ distance c e → Within (along c e i) q (on_axis c e p q) → Counts (moment (2 * p) q) (distance c e) i =
      λ c e i m h. strict-counts (distance c e) i p q ((within-strict c e i p q w.part m).0 h) in
      record {
        on_x = axis a.x b.x s.x u.up_x w.in_x;
        on_y = axis a.y b.y s.y u.up_y w.in_y;
        on_z = axis a.z b.z s.z u.up_z w.in_z;
      }

  -- a voxel met lies so
  pub met-most : (v : Point) (p q : ℕ) → PointIn a b v p q → AtMost (distances a v) (distances a b)
  met-most v p q w =
      record {
        up_x = (along-back a.x b.x v.x p q w.part w.in_x).0;
        up_y = (along-back a.y b.y v.y p q w.part w.in_y).0;
        up_z = (along-back a.z b.z v.z p q w.part w.in_z).0;
      }

  pub met-voxel : (v : Point) (p q : ℕ) → PointIn a b v p q → voxel_at a b (distances a v) ≡ v
  met-voxel v p q w =
      point-eq (voxel_at a b (distances a v)) v (along-back a.x b.x v.x p q w.part w.in_x).1
      (along-back a.y b.y v.y p q w.part w.in_y).1 (along-back a.z b.z v.z p q w.part w.in_z).1

  pub met-on : (v : Point) → Meets a b v → OnLine (distances a b) (distances a v)
  met-on v m =
      let w = m.at in
      record {
        when = moment (2 * m.p) m.q;
        parted = w.pos;
        in_time = omega (arith, w.part);
        steps = point-steps (distances a v) m.p m.q (met-most v m.p m.q w)
            (subst (λ (u : Point). PointIn a b u m.p m.q) (sym (met-voxel v m.p m.q w)) w);
      }

  -- midway between a moment and the one at which the voxel is left
  pub on-met : (s : Point) → OnLine (distances a b) s → same_point s (distances a b) ≡ false → Meets a b (voxel_at a b s)
  on-met s o e =
      let d = distances a b in
      let t = o.when in
      let u = leaving d s in
      let l : Leaving d s u = leaving-is d s in
      let m = line-most o in
      let sooner = moment-sooner o e in
      let part : mid_p t u ≤ mid_q t u = mid-part t u o.in_time l.early.in_time in
      let axis = mid-within t u o.parted l.early.parted sooner part in
      record {
        p = mid_p t u;
        q = mid_q t u;
        at = record {
          pos = omega (arith, mul-lt-mul_of_pos_right {m = 0} {k = u.parts} o.parted l.early.parted);
          part = part;
          in_x = axis a.x b.x s.x m.up_x o.steps.on_x l.to_x;
          in_y = axis a.y b.y s.y m.up_y o.steps.on_y l.to_y;
          in_z = axis a.z b.z s.z m.up_z o.steps.on_z l.to_z;
        };
      }

  -- more steps, later
  pub more-later : (s w : Point) → AtMost s (distances a b) → AtMost w (distances a b) → whole_of s < whole_of w → Before a b (voxel_at a b s) (voxel_at a b w)
  more-later s w u v h p q p' q' i j = go (leb (p' * q) (p * q')) refl
    where
      go : (t : Bool) → leb (p' * q) (p * q') ≡ t → p * q' < p' * q
      go true e =
          let l : p' * q ≤ p * q' = leb-true (p' * q) (p * q') e in
          let r : AtMost w s = steps-rise j.pos (omega arith) (point-steps w p' q' v j) (point-steps s p q u i) in
          absurd (omega (arith, most-whole r))
      go false e = leb-false (p' * q) (p * q') e

  -- from the other end
  point-reversed : (v : Point) (p q : ℕ) → PointIn a b v p q → PointIn b a v (q - p) q
  point-reversed v p q w =
      let axis : (c e u : ℕ) → Within u q (on_axis c e p q) → Within u q (on_axis e c (q - p) q) =
      λ c e u h. subst (Within u q) (sym (axis-turned c e p q w.part)) h in
      record {
        pos = w.pos;
        part = omega arith;
        in_x = axis a.x b.x v.x w.in_x;
        in_y = axis a.y b.y v.y w.in_y;
        in_z = axis a.z b.z v.z w.in_z;
      }

  pub meets-reversed : (v : Point) → Meets a b v → Meets b a v
  meets-reversed v m = record { p = m.q - m.p; q = m.q; at = point-reversed v m.p m.q m.at }

  pub met-inside : (S : ℕ) (v : Point) → Inside S a → Inside S b → Meets a b v → Inside S v
  met-inside S v i j m =
      subst (Inside S) (met-voxel v m.p m.q m.at) (voxel-inside S (distances a v) i j (met-most v m.p m.q m.at))
