-- The moment and the steps of leaving a cell, put together as code does it: one crossing after another, then the steps of each axis. Assumes nothing.
use mathlib.Core.Path.{◌≡◌, sym, ◌∙◌, ap, ap₂, subst}
use Prim.Native.Nat.{ℕ, ◌*◌, ◌<◌, ◌≤◌}
use borrow.Author.Tests.{le-leb, lt-leb}
use Rattle.paper.specs.Rooms.{Point, point}
use Rattle.laws.specs.Lines.{Moment, at_end, crossing, earlier, leaving, passed, steps_at, leave_of}
use Rattle.laws.proofs.LineMoments.{Early}
use Rattle.laws.proofs.LineSteps.{point-eq, leaving-is}

-- the earlier of two, by the test passed
pub earlier-this : (t u : Moment) → t.halves * u.parts ≤ u.halves * t.parts → t ≡ earlier t u
earlier-this t u h = rw (le-leb (t.halves * u.parts) (u.halves * t.parts) h)

pub earlier-that : (t u : Moment) → u.halves * t.parts < t.halves * u.parts → u ≡ earlier t u
earlier-that t u h = rw (lt-leb (t.halves * u.parts) (u.halves * t.parts) h)

pub leaving-three : (d last : Point) (a b c x y z : Moment) → x ≡ crossing d.x last.x → a ≡ earlier at_end x → y ≡ crossing d.y last.y
    → b ≡ earlier a y → z ≡ crossing d.z last.z → c ≡ earlier b z → c ≡ leaving d last
unfolding leaving
leaving-three d last a b c x y z ex ea ey eb ez ec =
    ec ∙ ap₂ earlier (eb ∙ ap₂ earlier (ea ∙ ap (earlier at_end) ex) ey) ez

pub leaving-early : (d last : Point) (t : Moment) → t ≡ leaving d last → Early t
leaving-early d last t e = subst Early (sym e) (leaving-is d last).early

pub leave-three : (d last : Point) (t : Moment) (x y z : ℕ) → t ≡ leaving d last → x ≡ passed t d.x → y ≡ passed t d.y → z ≡ passed t d.z
    → point x y z ≡ leave_of d last
unfolding leave_of
leave-three d last t x y z e ex ey ez = point-eq (point x y z) (steps_at t d) ex ey ez ∙ ap (λ (u : Moment). steps_at u d) e
