-- Skipping is safe: where a test passes at every voxel of a cell, the first voxel of the line that fails it is the first one from where the line
-- leaves the cell. By induction on the steps left: the next steps lie in the cell too, or they are those with which the line leaves it, since their
-- moment is the first at which an axis leaves. Assumes nothing.
use mathlib.Core.Path.{◌≡◌, refl, sym, ◌∙◌, ap, subst}
use mathlib.Core.Bool.{Bool, true, false, false≢true, cond, ◌&&◌}
use mathlib.Core.Logic.{◌⊎◌, inl, inr}
use mathlib.Core.List.{List}
use mathlib.Core.Option.{some, map}
use mathlib.Core.Option as O
use Prim.Native.Nat.{ℕ, zero, suc, ◌+◌, ◌*◌, ◌<◌, ◌≤◌}
use native.Mathlib.Nat.{mul-le-mul_right, lt_of_mul-lt-mul_right}
use native.Mathlib.Omega.{arith}
use borrow.Author.Tests.{leb-true, leb-false, le-leb}
use lib.Dec.{leb}
use Rattle.paper.specs.Rooms.{Point}
use Rattle.paper.specs.Lines.{distances, voxel_at, same_point, steps_from, whole_of, tested, first_failing}
use Rattle.laws.specs.Lines.{AtMost, Moment, crossing, leaving, leave_of}
use Rattle.laws.proofs.Tests.{false-unless}
use Rattle.laws.proofs.FirstFailing.{first_passes, first-fails, first-map}
use Rattle.laws.proofs.LineMoments.{cross-le, NotAfter, Counts, counts_same}
use Rattle.laws.proofs.LineSteps.{moment-sooner, same-eq, most_self, most-trans, most-whole, OnLine, line-most, steps-is, leaving-is, leave-steps, leave-on, leaving-rise, leave-rise, leave-further}
use Rattle.laws.proofs.LineTested.{steps-end, steps-cons, full-same, steps-fuel, first, tested-is}

-- ---- in the cell, or out of it

most-or-not : (s w : Point) → AtMost s w ⊎ ((w.x < s.x) ⊎ ((w.y < s.y) ⊎ (w.z < s.z)))
most-or-not s w = go (leb s.x w.x) refl (leb s.y w.y) refl (leb s.z w.z) refl
  where
    go : (a : Bool) → leb s.x w.x ≡ a → (b : Bool) → leb s.y w.y ≡ b → (c : Bool) → leb s.z w.z ≡ c
        → AtMost s w ⊎ ((w.x < s.x) ⊎ ((w.y < s.y) ⊎ (w.z < s.z)))
    go true p true q true r = inl record { up_x = leb-true s.x w.x p; up_y = leb-true s.y w.y q; up_z = leb-true s.z w.z r }
    go false p b _ c _ = inr (inl (leb-false s.x w.x p))
    go true p false q c _ = inr (inr (inl (leb-false s.y w.y q)))
    go true p true q false r = inr (inr (inr (leb-false s.z w.z r)))

-- an axis that has gone further has crossed the last face, so the cell is left by then
left_by : (t u : Moment) (d i last : ℕ) → 0 < t.parts → Counts t d i → last < i → NotAfter u (crossing d last) → NotAfter u t
left_by t u d i last p c h l =
    let r : (2 * last + 1) * t.parts ≤ t.halves * d = omega (arith, c.low, mul-le-mul_right t.parts h) in
    let q : 0 < d = lt_of_mul-lt-mul_right t.halves {m = 0} {n = d} (omega arith) in
    cross-le u.halves u.parts (2 * last + 1) d t.halves t.parts l r q

same-moment : (d s last : Point) → NotAfter (leaving d s) (leaving d last) → NotAfter (leaving d last) (leaving d s) → leave_of d last ≡ leave_of d s
unfolding leave_of
same-moment d s last h k =
    let t = leaving d s in
    let u = leaving d last in
    let p = (leaving-is d s).early.parted in
    let q = (leaving-is d last).early.parted in
    let c = leave-steps d s in
    steps-is u d (leave_of d s)
    record {
      on_x = counts_same t u d.x (leave_of d s).x p q h k c.on_x;
      on_y = counts_same t u d.y (leave_of d s).y p q h k c.on_y;
      on_z = counts_same t u d.z (leave_of d s).z p q h k c.on_z;
    }

pub leave-next : (d s last : Point) → AtMost s last → AtMost (leave_of d s) last ⊎ (leave_of d last ≡ leave_of d s)
leave-next d s last u = go (most-or-not (leave_of d s) last)
  where
    t : Moment
    t = leaving d s

    p : 0 < (leaving d s).parts
    p = (leaving-is d s).early.parted

    out : NotAfter (leaving d last) (leaving d s) → AtMost (leave_of d s) last ⊎ (leave_of d last ≡ leave_of d s)
    out h = inr (same-moment d s last (leaving-rise d s last u) h)

    go : AtMost (leave_of d s) last ⊎ ((last.x < (leave_of d s).x) ⊎ ((last.y < (leave_of d s).y) ⊎ (last.z < (leave_of d s).z)))
        → AtMost (leave_of d s) last ⊎ (leave_of d last ≡ leave_of d s)
    go (inl m) = inl m
    go (inr (inl h)) = out (left_by t (leaving d last) d.x (leave_of d s).x last.x p (leave-steps d s).on_x h (leaving-is d last).to_x)
    go (inr (inr (inl h))) = out (left_by t (leaving d last) d.y (leave_of d s).y last.y p (leave-steps d s).on_y h (leaving-is d last).to_y)
    go (inr (inr (inr h))) = out (left_by t (leaving d last) d.z (leave_of d s).z last.z p (leave-steps d s).on_z h (leaving-is d last).to_z)

-- ---- skipping

-- enough turns for the steps that are left
abbrev pub Enough : ℕ → Point → Point → Type 0
Enough n d s = whole_of d ≤ n + whole_of s

-- the test passes in the cell, from the steps s on
abbrev pub Passes : (Point → Bool) → Point → Point → Point → Type 0
Passes ok d s last = (w : Point) → AtMost s w → AtMost w last → AtMost w d → ok w ≡ true

-- at the end the cell isn't left again
end-left : {d s last : Point} → OnLine d s → AtMost s last → whole_of d ≤ whole_of s → same_point (leave_of d last) d ≡ true
end-left {d} {s} {last} o u h = full-same (line-most (leave-on d last)) (omega (arith, most-whole (leave-rise o u)))

pub skip : (ok : Point → Bool) (n m : ℕ) (d s last : Point) → OnLine d s → AtMost s last → Passes ok d s last → Enough n d s → Enough m d (leave_of d last)
    → first_failing ok (steps_from n d s) ≡ first_failing ok (steps_from m d (leave_of d last))
skip ok zero m d s last o u f h k =
    ap (first_failing ok) (steps-end 0 d s (full-same (line-most o) (omega arith)) ∙ sym (steps-end m d (leave_of d last) (end-left o u (omega arith))))
skip ok (suc n) m d s last o u f h k = go (same_point s d) refl (leave-next d s last u) (skip ok n m d (leave_of d s) last (leave-on d s))
  where
    past : same_point s d ≡ false → first_failing ok (steps_from (suc n) d s) ≡ first_failing ok (steps_from n d (leave_of d s))
    past e = ap (first_failing ok) (steps-cons n o e) ∙ first_passes ok s (steps_from n d (leave_of d s)) (f s (most_self s) u (line-most o))

    left : same_point s d ≡ false → Enough n d (leave_of d s)
    left e = omega (arith, h, leave-further o (most_self s) e)

    go : (b : Bool) → same_point s d ≡ b → AtMost (leave_of d s) last ⊎ (leave_of d last ≡ leave_of d s)
        → (AtMost (leave_of d s) last → Passes ok d (leave_of d s) last → Enough n d (leave_of d s) → Enough m d (leave_of d last)
        → first_failing ok (steps_from n d (leave_of d s)) ≡ first_failing ok (steps_from m d (leave_of d last)))
        → first_failing ok (steps_from (suc n) d s) ≡ first_failing ok (steps_from m d (leave_of d last))
    go true e _ ih =
        let w : whole_of s ≡ whole_of d = ap (λ (v : Point). whole_of v) (same-eq s d e) in
        ap (first_failing ok) (steps-end (suc n) d s e ∙ sym (steps-end m d (leave_of d last) (end-left o u (omega arith))))
    go false e (inl v) ih = past e ∙ ih v (λ w a. f w (most-trans (leave-rise o (most_self s)) a)) (left e) k
    go false e (inr v) ih =
        past e ∙ ap (first_failing ok) (steps-fuel n m d (leave_of d s) (leave-on d s) (left e) (subst (Enough m d) v k))
        ∙ ap (λ (w : Point). first_failing ok (steps_from m d w)) (sym v)

-- ---- the answer from some steps on, those steps tested first

abbrev pub rest_of : Point → Point → List Point
rest_of d s = steps_from (whole_of d) d s

module _ (ok : Point → Bool) (d s : Point) where
  -- at the end there is none
  pub rest_end : same_point s d ≡ true → first_failing ok (rest_of d s) ≡ O.none
  unfolding first_failing
  rest_end e = ap (first_failing ok) (steps-end (whole_of d) d s e)

  -- the steps themselves
  pub rest-fails : OnLine d s → same_point s d ≡ false → ok s ≡ false → first_failing ok (rest_of d s) ≡ some s
  rest-fails o e f =
      ap (first_failing ok) (steps-fuel (whole_of d) (suc (whole_of d)) d s o (omega arith) (omega arith) ∙ steps-cons (whole_of d) o e)
      ∙ first-fails ok s (steps_from (whole_of d) d (leave_of d s)) f

  -- from where the cell is left
  pub rest-skips : (last : Point) → OnLine d s → AtMost s last → Passes ok d s last → first_failing ok (rest_of d s) ≡ first_failing ok (rest_of d (leave_of d last))
  rest-skips last o u f = skip ok (whole_of d) (whole_of d) d s last o u f (omega arith) (omega arith)

-- all of it, from the first steps after the start
pub tested-first : (ok : Point → Bool) (a b : Point)
    → first_failing ok (tested a b) ≡ map (voxel_at a b) (first_failing (λ s. ok (voxel_at a b s)) (rest_of (distances a b) (first (distances a b))))
tested-first ok a b =
    ap (first_failing ok) (tested-is a b) ∙ first-map (voxel_at a b) ok (rest_of (distances a b) (first (distances a b)))

-- ---- so the line leaves a cell with the first steps on it that lie outside, if it does before its end

leave-outside : (d last : Point) → same_point (leave_of d last) d ≡ false → AtMost (leave_of d last) last → ⊥
leave-outside d last e u = omega (arith, moment-sooner (leave-on d last) e, leaving-rise d (leave_of d last) last u)

abbrev pub in_cell : Point → Point → Bool
in_cell last w = leb w.x last.x && leb w.y last.y && leb w.z last.z

most-in : {last w : Point} → AtMost w last → in_cell last w ≡ true
most-in {last} {w} u = rw (le-leb w.x last.x u.up_x, le-leb w.y last.y u.up_y, le-leb w.z last.z u.up_z)

in-most : (last w : Point) → in_cell last w ≡ true → AtMost w last
in-most last w e = go (leb w.x last.x) refl (leb w.y last.y) refl (leb w.z last.z) refl e
  where
    go : (a : Bool) → leb w.x last.x ≡ a → (b : Bool) → leb w.y last.y ≡ b → (c : Bool) → leb w.z last.z ≡ c → a && b && c ≡ true → AtMost w last
    go true p true q true r h = record { up_x = leb-true w.x last.x p; up_y = leb-true w.y last.y q; up_z = leb-true w.z last.z r }
    go true p true q false r h = absurd (false≢true h)
    go true p false q c _ h = absurd (false≢true h)
    go false p b _ c _ h = absurd (false≢true h)

pub leave-is : (d s last : Point) → OnLine d s → AtMost s last
    → first_failing (in_cell last) (rest_of d s) ≡ cond (same_point (leave_of d last) d) O.none (some (leave_of d last))
leave-is d s last o u = rest-skips (in_cell last) d s last o u (λ w f l m. most-in l) ∙ go (same_point (leave_of d last) d) refl
  where
    go : (b : Bool) → same_point (leave_of d last) d ≡ b → first_failing (in_cell last) (rest_of d (leave_of d last)) ≡ cond b O.none (some (leave_of d last))
    go true e = rest_end (in_cell last) d (leave_of d last) e
    go false e =
        rest-fails (in_cell last) d (leave_of d last) (leave-on d last) e
        (false-unless (in_cell last (leave_of d last)) (λ h. leave-outside d last e (in-most last (leave_of d last) h)))
