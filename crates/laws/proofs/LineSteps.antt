-- Steps along a line, on all three axes: those of some moment lie on the line; the moment of leaving a cell is the first of its three crossings; and
-- the next steps are those with which the line leaves the one voxel. Steps rise with the moment. Assumes nothing.
use mathlib.Core.Path.{◌≡◌, refl, sym, ◌∙◌, subst}
use mathlib.Core.Bool.{Bool, true, false, false≢true, cond, ◌&&◌}
use Prim.Native.Nat.{ℕ, ◌+◌, ◌*◌, ◌<◌, ◌≤◌}
use native.Mathlib.Nat.{mul-le-mul_right}
use native.Mathlib.Omega.{arith}
use borrow.Author.Tests.{leb-true, leb-false, ltb-true, ltb-false, eq-eqb, eqb-true}
use lib.Dec.{T, eqb, leb, ltb}
use Rattle.paper.specs.Rooms.{Point, point}
use Rattle.paper.specs.Lines.{no_later, stepped, next_steps, same_point, whole_of}
use Rattle.laws.specs.Lines.{AtMost, Moment, moment, at_end, crossing, earlier, leaving, steps_at, leave_of}
use Rattle.laws.proofs.Tests.{T_true, true-T, and_left, and_right}
use Rattle.laws.proofs.LineMoments.{cross-le, cross-le-lt, cross-lt-le, NotAfter, Sooner, Early, end-early, earlier-first, earlier-second, earlier-low, earlier-above, earlier-early, Counts, passed-counts, counts-passed, low-later, counts-rise, counts-most}

-- ---- points by their coordinates

pub point-eq : (s w : Point) → s.x ≡ w.x → s.y ≡ w.y → s.z ≡ w.z → s ≡ w
point-eq s w p q r = λ i. point (p i) (q i) (r i)

pub same-eq : (s w : Point) → same_point s w ≡ true → s ≡ w
same-eq s w e =
    let t : T (eqb s.x w.x && eqb s.y w.y && eqb s.z w.z) = true-T e in
    let u : T (eqb s.x w.x && eqb s.y w.y) = and_left (eqb s.x w.x && eqb s.y w.y) (eqb s.z w.z) t in
    point-eq s w (eqb-true s.x w.x (T_true (and_left (eqb s.x w.x) (eqb s.y w.y) u)))
    (eqb-true s.y w.y (T_true (and_right (eqb s.x w.x) (eqb s.y w.y) u)))
    (eqb-true s.z w.z (T_true (and_right (eqb s.x w.x && eqb s.y w.y) (eqb s.z w.z) t)))

pub same_self : (s : Point) → same_point s s ≡ true
same_self s = rw (eq-eqb s.x s.x refl, eq-eqb s.y s.y refl, eq-eqb s.z s.z refl)

pub most_self : (s : Point) → AtMost s s
most_self s = record { up_x = omega arith; up_y = omega arith; up_z = omega arith }

pub most-trans : {s w v : Point} → AtMost s w → AtMost w v → AtMost s v
most-trans h k = record { up_x = omega arith; up_y = omega arith; up_z = omega arith }

pub most-whole : {s w : Point} → AtMost s w → whole_of s ≤ whole_of w
most-whole u = omega arith

pub most-same : {s w : Point} → AtMost s w → whole_of w ≤ whole_of s → s ≡ w
most-same {s} {w} u h = point-eq s w (omega arith) (omega arith) (omega arith)

-- ---- on the line: the steps of some moment

pub record StepsOf (t : Moment) (d s : Point) : Type 0 where
  pub on_x : Counts t d.x s.x
  pub on_y : Counts t d.y s.y
  pub on_z : Counts t d.z s.z

pub record OnLine (d s : Point) : Type 0 where
  pub when : Moment
  pub parted : 0 < when.parts
  pub in_time : when.halves ≤ 2 * when.parts
  pub steps : StepsOf when d s

pub start-counts : (d : ℕ) → Counts (moment 0 1) d 0
start-counts d = record { low = omega arith; high = omega arith }

abbrev pub start-on : (d : Point) → OnLine d (point 0 0 0)
start-on d =
    record {
      when = moment 0 1;
      parted = omega arith;
      in_time = omega arith;
      steps = record { on_x = start-counts d.x; on_y = start-counts d.y; on_z = start-counts d.z };
    }

pub line-most : {d s : Point} → OnLine d s → AtMost s d
line-most {d} {s} o =
    record {
      up_x = counts-most o.when d.x s.x o.parted o.in_time o.steps.on_x;
      up_y = counts-most o.when d.y s.y o.parted o.in_time o.steps.on_y;
      up_z = counts-most o.when d.z s.z o.parted o.in_time o.steps.on_z;
    }

pub steps-rise : {t u : Moment} {d s w : Point} → 0 < t.parts → NotAfter t u → StepsOf t d s → StepsOf u d w → AtMost s w
steps-rise {t} {u} {d} {s} {w} p h c e =
    record {
      up_x = counts-rise t u d.x s.x w.x p h c.on_x e.on_x;
      up_y = counts-rise t u d.y s.y w.y p h c.on_y e.on_y;
      up_z = counts-rise t u d.z s.z w.z p h c.on_z e.on_z;
    }

pub steps-is : (t : Moment) (d s : Point) → StepsOf t d s → steps_at t d ≡ s
steps-is t d s c =
    point-eq (steps_at t d) s (counts-passed t d.x s.x c.on_x) (counts-passed t d.y s.y c.on_y) (counts-passed t d.z s.z c.on_z)

-- ---- leaving a cell

pub record Leaving (d last : Point) (t : Moment) : Type 0 where
  pub early : Early t
  pub to_end : NotAfter t at_end
  pub to_x : NotAfter t (crossing d.x last.x)
  pub to_y : NotAfter t (crossing d.y last.y)
  pub to_z : NotAfter t (crossing d.z last.z)
  -- the first of the three crossings and the end: what comes no later than these, or sooner, does so than it
  pub low : (w : Moment) → NotAfter w at_end → NotAfter w (crossing d.x last.x) → NotAfter w (crossing d.y last.y)
      → NotAfter w (crossing d.z last.z) → NotAfter w t
  pub above : (w : Moment) → Sooner w at_end → Sooner w (crossing d.x last.x) → Sooner w (crossing d.y last.y)
      → Sooner w (crossing d.z last.z) → Sooner w t

not_after : (t u v : Moment) → NotAfter t u → NotAfter u v → 0 < u.parts → NotAfter t v
not_after t u v h l p = cross-le t.halves t.parts u.halves u.parts v.halves v.parts h l p

pub leaving-is : (d last : Point) → Leaving d last (leaving d last)
unfolding leaving
leaving-is d last =
    let x = crossing d.x last.x in
    let y = crossing d.y last.y in
    let z = crossing d.z last.z in
    let a : Moment = earlier at_end x in
    let b : Moment = earlier a y in
    let c : Moment = earlier b z in
    let ea : Early a = earlier-early at_end x end-early (omega arith) in
    let eb : Early b = earlier-early a y ea (omega arith) in
    let ec : Early c = earlier-early b z eb (omega arith) in
    let cb : NotAfter c b = earlier-first b z in
    let ba : NotAfter b a = earlier-first a y in
    let ca : NotAfter c a = not_after c b a cb ba eb.parted in
    record {
      early = ec;
      to_end = not_after c a at_end ca (earlier-first at_end x) ea.parted;
      to_x = not_after c a x ca (earlier-second at_end x) ea.parted;
      to_y = not_after c b y cb (earlier-second a y) eb.parted;
      to_z = earlier-second b z;
      low = λ w h p q r. earlier-low w b z (earlier-low w a y (earlier-low w at_end x h p) q) r;
      above = λ w h p q r. earlier-above w b z (earlier-above w a y (earlier-above w at_end x h p) q) r;
    }

pub leave-steps : (d last : Point) → StepsOf (leaving d last) d (leave_of d last)
unfolding leave_of
leave-steps d last =
    let t = leaving d last in
    let p = (leaving-is d last).early.parted in
    record { on_x = passed-counts t d.x p; on_y = passed-counts t d.y p; on_z = passed-counts t d.z p }

-- on the line again
abbrev pub leave-on : (d last : Point) → OnLine d (leave_of d last)
leave-on d last =
    let e = (leaving-is d last).early in
    record { when = leaving d last; parted = e.parted; in_time = e.in_time; steps = leave-steps d last }

-- a later crossing
later-crossing : (t : Moment) (d i j : ℕ) → NotAfter t (crossing d i) → i ≤ j → NotAfter t (crossing d j)
later-crossing t d i j h k = omega (arith, h, mul-le-mul_right t.parts k)

-- a cell that reaches no less far is left no sooner
pub leaving-rise : (d s last : Point) → AtMost s last → NotAfter (leaving d s) (leaving d last)
leaving-rise d s last u =
    let l = leaving-is d s in
    let t = leaving d s in
    (leaving-is d last).low t l.to_end (later-crossing t d.x s.x last.x l.to_x u.up_x)
    (later-crossing t d.y s.y last.y l.to_y u.up_y) (later-crossing t d.z s.z last.z l.to_z u.up_z)

-- a moment of these steps comes before they are left; sooner, where they are not the end
pub moment-before : {d s : Point} (o : OnLine d s) → NotAfter o.when (leaving d s)
moment-before {d} {s} o =
    let c = o.steps in
    (leaving-is d s).low o.when (omega (arith, o.in_time)) (omega (arith, c.on_x.high)) (omega (arith, c.on_y.high)) (omega (arith, c.on_z.high))

-- ---- the next steps

-- one axis, at the moment of leaving the voxel
axis-next : (t : Moment) (i d j e k f : ℕ) → Early t → i ≤ d → NotAfter t (crossing e j) → NotAfter t (crossing f k) → NotAfter t (crossing d i)
    → (NotAfter (crossing d i) at_end → NotAfter (crossing d i) (crossing e j) → NotAfter (crossing d i) (crossing f k) → NotAfter (crossing d i) t)
    → 2 * i * t.parts ≤ t.halves * d + t.parts → Counts t d (stepped i d j e k f)
axis-next t i d j e k f early most to_j to_k to_i first low = go (ltb i d) refl (no_later i d j e) refl (no_later i d k f) refl
  where
    go : (p : Bool) → ltb i d ≡ p → (q : Bool) → no_later i d j e ≡ q → (r : Bool) → no_later i d k f ≡ r → Counts t d (cond (p && q && r) (i + 1) i)
    go true p true q true r =
        let c = first (omega (arith, ltb-true i d p)) (leb-true ((2 * i + 1) * e) ((2 * j + 1) * d) q) (leb-true ((2 * i + 1) * f) ((2 * k + 1) * d) r) in
        record { low = omega (arith, c); high = omega (arith, to_i, early.parted) }
    go true p true q false r =
        record { low = low; high = cross-le-lt t.halves t.parts (2 * k + 1) f (2 * i + 1) d to_k (leb-false ((2 * i + 1) * f) ((2 * k + 1) * d) r) early.parted }
    go true p false q r _ =
        record { low = low; high = cross-le-lt t.halves t.parts (2 * j + 1) e (2 * i + 1) d to_j (leb-false ((2 * i + 1) * e) ((2 * j + 1) * d) q) early.parted }
    go false p q _ r _ =
        let same : i ≡ d = omega (arith, ltb-false i d p) in
        record { low = low; high = rw same (omega (arith, mul-le-mul_right d early.in_time, early.parted)) }

-- they are the steps with which the line leaves the voxel
pub next-leave : {d s : Point} → OnLine d s → next_steps d s ≡ leave_of d s
unfolding next_steps leave_of
next-leave {d} {s} o =
    let t = leaving d s in
    let l = leaving-is d s in
    let m = line-most o in
    let b = moment-before o in
    let w = o.when in
    sym
    (steps-is t d (next_steps d s)
    record {
      on_x = axis-next t s.x d.x s.y d.y s.z d.z l.early m.up_x l.to_y l.to_z l.to_x
          (λ h p q. l.low (crossing d.x s.x) h (omega arith) p q) (low-later w t d.x s.x o.parted b o.steps.on_x.low);
      on_y = axis-next t s.y d.y s.x d.x s.z d.z l.early m.up_y l.to_x l.to_z l.to_y
          (λ h p q. l.low (crossing d.y s.y) h p (omega arith) q) (low-later w t d.y s.y o.parted b o.steps.on_y.low);
      on_z = axis-next t s.z d.z s.x d.x s.y d.y l.early m.up_z l.to_x l.to_y l.to_z
          (λ h p q. l.low (crossing d.z s.z) h p q (omega arith)) (low-later w t d.z s.z o.parted b o.steps.on_z.low);
    })

-- ---- how far the steps go

-- some crossing is left before the end
before-end : {d s : Point} (t : Moment) → AtMost s d → same_point s d ≡ false → 0 < t.parts → NotAfter t (crossing d.x s.x)
    → NotAfter t (crossing d.y s.y) → NotAfter t (crossing d.z s.z) → Sooner t at_end
before-end {d} {s} t u e p x y z =
    go (ltb s.x d.x) refl (ltb s.y d.y) refl (ltb s.z d.z) refl
  where
    one : (d i : ℕ) → i < d → NotAfter t (crossing d i) → Sooner t at_end
    one d i h l = cross-le-lt t.halves t.parts (2 * i + 1) d 2 1 l (omega arith) p

    go : (a : Bool) → ltb s.x d.x ≡ a → (b : Bool) → ltb s.y d.y ≡ b → (c : Bool) → ltb s.z d.z ≡ c → Sooner t at_end
    go true h b _ c _ = one d.x s.x (ltb-true s.x d.x h) x
    go false h true k c _ = one d.y s.y (ltb-true s.y d.y k) y
    go false h false k true l = one d.z s.z (ltb-true s.z d.z l) z
    go false h false k false l =
        let same : s ≡ d =
        point-eq s d (omega (arith, ltb-false s.x d.x h)) (omega (arith, ltb-false s.y d.y k)) (omega (arith, ltb-false s.z d.z l)) in
        absurd (false≢true (sym e ∙ subst (λ (w : Point). same_point w d ≡ true) (sym same) (same_self d)))

pub moment-sooner : {d s : Point} (o : OnLine d s) → same_point s d ≡ false → Sooner o.when (leaving d s)
moment-sooner {d} {s} o e =
    let c = o.steps in
    (leaving-is d s).above o.when
    (before-end o.when (line-most o) e o.parted (omega (arith, c.on_x.high)) (omega (arith, c.on_y.high)) (omega (arith, c.on_z.high)))
    c.on_x.high c.on_y.high c.on_z.high

-- no fewer than before, in whatever cell they lie; more, unless it is the end
leave-after : {d s last : Point} (o : OnLine d s) → AtMost s last → NotAfter o.when (leaving d last)
leave-after {d} {s} {last} o u =
    not_after o.when (leaving d s) (leaving d last) (moment-before o) (leaving-rise d s last u) (leaving-is d s).early.parted

pub leave-rise : {d s last : Point} → OnLine d s → AtMost s last → AtMost s (leave_of d last)
leave-rise {d} {s} {last} o u = steps-rise o.parted (leave-after o u) o.steps (leave-steps d last)

leave-other : {d s : Point} → OnLine d s → same_point s d ≡ false → s ≡ leave_of d s → ⊥
leave-other {d} {s} o e same =
    let t = leaving d s in
    let l = leaving-is d s in
    let c : StepsOf t d s = subst (StepsOf t d) (sym same) (leave-steps d s) in
    let r : Sooner t t =
    l.above t (before-end t (line-most o) e l.early.parted l.to_x l.to_y l.to_z) c.on_x.high c.on_y.high c.on_z.high in
    omega (arith, r)

pub leave-further : {d s last : Point} → OnLine d s → AtMost s last → same_point s d ≡ false → whole_of s < whole_of (leave_of d last)
leave-further {d} {s} {last} o u e = go (leb (whole_of (leave_of d s)) (whole_of s)) refl
  where
    go : (b : Bool) → leb (whole_of (leave_of d s)) (whole_of s) ≡ b → whole_of s < whole_of (leave_of d last)
    go true h = absurd (leave-other o e (most-same (leave-rise o (most_self s)) (leb-true (whole_of (leave_of d s)) (whole_of s) h)))
    go false h =
        let r = steps-rise (leaving-is d s).early.parted (leaving-rise d s last u) (leave-steps d s) (leave-steps d last) in
        omega (arith, leb-false (whole_of (leave_of d s)) (whole_of s) h, most-whole r)

-- other steps that come no sooner than these come no sooner than these are left
pub next-before : {d s w : Point} (o : OnLine d s) (u : OnLine d w) → NotAfter o.when u.when → (s ≡ w → ⊥) → NotAfter (leaving d s) u.when
next-before {d} {s} {w} o u h other = go (leb (t.halves * v.parts) (v.halves * t.parts)) refl
  where
    t : Moment
    t = leaving d s

    v : Moment
    v = u.when

    l : Leaving d s (leaving d s)
    l = leaving-is d s

    still : (e i : ℕ) → Counts o.when e i → NotAfter t (crossing e i) → Sooner v t → Counts v e i
    still e i c k a =
        record {
          low = low-later o.when v e i o.parted h c.low;
          high = cross-lt-le v.halves v.parts t.halves t.parts i e a k u.parted;
        }

    go : (b : Bool) → leb (t.halves * v.parts) (v.halves * t.parts) ≡ b → NotAfter t v
    go true e = leb-true (t.halves * v.parts) (v.halves * t.parts) e
    go false e =
        let a : Sooner v t = leb-false (t.halves * v.parts) (v.halves * t.parts) e in
        let c : StepsOf v d s =
        record {
          on_x = still d.x s.x o.steps.on_x l.to_x a;
          on_y = still d.y s.y o.steps.on_y l.to_y a;
          on_z = still d.z s.z o.steps.on_z l.to_z a;
        } in
        absurd (other (sym (steps-is v d s c) ∙ steps-is v d w u.steps))
