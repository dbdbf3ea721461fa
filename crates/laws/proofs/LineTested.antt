-- The voxels tested are those met, the two ends left out, each once and in the order of the segment. By induction on the list of steps: each comes at
-- a moment, and the next at the moment at which it is left, so none of a moment between is missed. Assumes nothing.
use mathlib.Core.Path.{◌≡◌, refl, sym, ◌∙◌, ap, subst}
use mathlib.Core.Bool.{Bool, true, false, false≢true}
use mathlib.Core.List.{List, [], ◌∷◌, map}
use Prim.Native.Nat.{ℕ, zero, suc, ◌+◌, ◌<◌, ◌≤◌}
use native.Mathlib.Nat.{le_of_suc-le-suc, not-suc-le-zero}
use native.Mathlib.Omega.{arith}
use lib.ListN.{length, get_or, length-map}
use Rattle.paper.specs.Rooms.{Point, origin}
use Rattle.paper.specs.Lines.{PointIn, Meets, Before, distances, voxel_at, same_point, steps_from, whole_of, tested}
use Rattle.laws.specs.Lines.{AtMost, leave_of}
use Rattle.laws.proofs.Tests.{false-unless}
use Rattle.laws.proofs.Lists.{map_at}
use Rattle.laws.proofs.LineMoments.{NotAfter}
use Rattle.laws.proofs.LineSteps.{same-eq, same_self, most_self, most-whole, most-same, OnLine, start-on, line-most, leave-on, next-leave, leave-further, next-before, steps-rise}
use Rattle.laws.proofs.LineMeeting.{voxel-start, voxel-end, voxel-inj, met-voxel, met-on, on-met, more-later}

-- ---- the list of steps

pub steps-end : (n : ℕ) (d s : Point) → same_point s d ≡ true → steps_from n d s ≡ []
unfolding steps_from
steps-end zero d s e = refl
steps-end (suc n) d s e = rw e

pub steps-cons : (n : ℕ) {d s : Point} → OnLine d s → same_point s d ≡ false → steps_from (suc n) d s ≡ s ∷ steps_from n d (leave_of d s)
unfolding steps_from
steps-cons n {d} {s} o e = rw e (ap (λ (w : Point). s ∷ steps_from n d w) (next-leave o))

-- on the line, before the end, no fewer steps than at the first
pub record Listed (d s w : Point) : Type 0 where
  pub on : OnLine d w
  pub short : same_point w d ≡ false
  pub from : whole_of s ≤ whole_of w

listed_cons : {d s : Point} (l : List Point) → OnLine d s → same_point s d ≡ false
    → ((i : ℕ) → i < length l → Listed d (leave_of d s) (get_or l i origin)) → (i : ℕ) → i < length (s ∷ l) → Listed d s (get_or (s ∷ l) i origin)
listed_cons l o e f zero h = record { on = o; short = e; from = omega arith }
listed_cons {d} {s} l o e f (suc i) h =
    let r = f i (le_of_suc-le-suc h) in
    record { on = r.on; short = r.short; from = omega (arith, r.from, leave-further o (most_self s) e) }

pub steps-listed : (n : ℕ) (d s : Point) → OnLine d s → (i : ℕ) → i < length (steps_from n d s) → Listed d s (get_or (steps_from n d s) i origin)
unfolding steps_from
steps-listed zero d s o = λ i h. absurd (not-suc-le-zero h)
steps-listed (suc n) d s o = go (same_point s d) refl (steps-listed n d (leave_of d s) (leave-on d s))
  where
    All : List Point → Type 0
    All l = (i : ℕ) → i < length l → Listed d s (get_or l i origin)

    go : (b : Bool) → same_point s d ≡ b → ((i : ℕ) → i < length (steps_from n d (leave_of d s)) → Listed d (leave_of d s) (get_or (steps_from n d (leave_of d s)) i origin))
        → All (steps_from (suc n) d s)
    go true e ih = subst All (sym (steps-end (suc n) d s e)) (λ i h. absurd (not-suc-le-zero h))
    go false e ih = subst All (sym (steps-cons n o e)) (listed_cons (steps_from n d (leave_of d s)) o e ih)

-- rising
abbrev Rising : List Point → Type 0
Rising l = (i j : ℕ) → i < j → j < length l → whole_of (get_or l i origin) < whole_of (get_or l j origin)

rising-cons : (s : Point) (l : List Point) → ((i : ℕ) → i < length l → whole_of s < whole_of (get_or l i origin)) → Rising l → Rising (s ∷ l)
rising-cons s l f r i zero h k = absurd (not-suc-le-zero h)
rising-cons s l f r zero (suc j) h k = f j (le_of_suc-le-suc k)
rising-cons s l f r (suc i) (suc j) h k = r i j (le_of_suc-le-suc h) (le_of_suc-le-suc k)

pub steps-rising : (n : ℕ) (d s : Point) → OnLine d s → Rising (steps_from n d s)
unfolding steps_from
steps-rising zero d s o = λ i j h k. absurd (not-suc-le-zero k)
steps-rising (suc n) d s o = go (same_point s d) refl (steps-rising n d (leave_of d s) (leave-on d s))
  where
    go : (b : Bool) → same_point s d ≡ b → Rising (steps_from n d (leave_of d s)) → Rising (steps_from (suc n) d s)
    go true e ih = subst Rising (sym (steps-end (suc n) d s e)) (λ i j h k. absurd (not-suc-le-zero k))
    go false e ih =
        subst Rising (sym (steps-cons n o e))
        (rising-cons s (steps_from n d (leave_of d s))
        (λ i h. omega (arith, leave-further o (most_self s) e, (steps-listed n d (leave_of d s) (leave-on d s) i h).from)) ih)

-- all of them
abbrev pub Has : List Point → Point → Type 0
Has l v = (i : ℕ) × (i < length l) × (get_or l i origin ≡ v)

has-cons : (s w : Point) (l : List Point) → Has l w → Has (s ∷ l) w
has-cons s w l (i, h, e) = (suc i, omega arith, e)

pub full-same : {d s : Point} → AtMost s d → whole_of d ≤ whole_of s → same_point s d ≡ true
full-same {d} {s} u h = subst (λ (w : Point). same_point w d ≡ true) (sym (most-same u h)) (same_self d)

pub steps-has : (n : ℕ) (d s w : Point) (o : OnLine d s) (u : OnLine d w) → NotAfter o.when u.when → same_point w d ≡ false
    → whole_of d ≤ n + whole_of s → Has (steps_from n d s) w
steps-has zero d s w o u h e f =
    absurd (false≢true (sym e ∙ full-same (line-most u) (omega (arith, f, most-whole (steps-rise o.parted h o.steps u.steps)))))
steps-has (suc n) d s w o u h e f = go (same_point s d) refl (same_point s w) refl (steps-has n d (leave_of d s) w (leave-on d s) u)
  where
    go : (b : Bool) → same_point s d ≡ b → (c : Bool) → same_point s w ≡ c
        → (NotAfter (leave-on d s).when u.when → same_point w d ≡ false → whole_of d ≤ n + whole_of (leave_of d s) → Has (steps_from n d (leave_of d s)) w)
        → Has (steps_from (suc n) d s) w
    go true p c q ih =
        let r = most-whole (steps-rise o.parted h o.steps u.steps) in
        let t : whole_of s ≡ whole_of d = ap (λ (v : Point). whole_of v) (same-eq s d p) in
        absurd (false≢true (sym e ∙ full-same (line-most u) (omega arith)))
    go false p true q ih = subst (λ (l : List Point). Has l w) (sym (steps-cons n o p)) (0, omega arith, same-eq s w q)
    go false p false q ih =
        let other : s ≡ w → ⊥ = λ t. false≢true (sym q ∙ subst (λ (v : Point). same_point s v ≡ true) t (same_self s)) in
        subst (λ (l : List Point). Has l w) (sym (steps-cons n o p))
        (has-cons s w (steps_from n d (leave_of d s)) (ih (next-before o u h other) e (omega (arith, f, leave-further o (most_self s) p))))

-- enough is enough
pub steps-fuel : (n m : ℕ) (d s : Point) → OnLine d s → whole_of d ≤ n + whole_of s → whole_of d ≤ m + whole_of s → steps_from n d s ≡ steps_from m d s
unfolding steps_from
steps-fuel zero m d s o h k = sym (steps-end m d s (full-same (line-most o) (omega arith)))
steps-fuel (suc n) zero d s o h k = steps-end (suc n) d s (full-same (line-most o) (omega arith))
steps-fuel (suc n) (suc m) d s o h k = go (same_point s d) refl (steps-fuel n m d (leave_of d s) (leave-on d s))
  where
    go : (b : Bool) → same_point s d ≡ b
        → (whole_of d ≤ n + whole_of (leave_of d s) → whole_of d ≤ m + whole_of (leave_of d s) → steps_from n d (leave_of d s) ≡ steps_from m d (leave_of d s))
        → steps_from (suc n) d s ≡ steps_from (suc m) d s
    go true e ih = steps-end (suc n) d s e ∙ sym (steps-end (suc m) d s e)
    go false e ih =
        let more = leave-further o (most_self s) e in
        steps-cons n o e ∙ ap (λ (l : List Point). s ∷ l) (ih (omega arith) (omega arith)) ∙ sym (steps-cons m o e)

-- ---- the voxels tested

-- the first steps after the start
abbrev pub first : Point → Point
first d = leave_of d origin

pub tested-is : (a b : Point) → tested a b ≡ map (voxel_at a b) (steps_from (whole_of (distances a b)) (distances a b) (first (distances a b)))
unfolding tested
tested-is a b =
    let d = distances a b in
    ap (λ (s : Point). map (voxel_at a b) (steps_from (whole_of d) d s)) (next-leave (start-on d))

module _ (a b : Point) where
  abbrev walked : List Point
  walked = steps_from (whole_of (distances a b)) (distances a b) (first (distances a b))

  pub tested-length : length (tested a b) ≡ length walked
  tested-length = ap length (tested-is a b) ∙ length-map walked (voxel_at a b)

  pub tested_at : (i : ℕ) → i < length (tested a b) → get_or (tested a b) i origin ≡ voxel_at a b (get_or walked i origin)
  tested_at i h = ap (λ (l : List Point). get_or l i origin) (tested-is a b) ∙ map_at (voxel_at a b) walked i origin origin (omega (arith, tested-length))

  listed : (i : ℕ) → i < length (tested a b) → Listed (distances a b) (first (distances a b)) (get_or walked i origin)
  listed i h =
      let d = distances a b in
      steps-listed (whole_of d) d (first d) (leave-on d origin) i (omega (arith, tested-length))

  -- each is met
  pub tested_met_lem : (i : ℕ) → i < length (tested a b) → Meets a b (get_or (tested a b) i origin)
  tested_met_lem i h =
      let r = listed i h in
      subst (Meets a b) (sym (tested_at i h)) (on-met a b (get_or walked i origin) r.on r.short)

  -- and is neither end
  pub tested-not-start : (i : ℕ) → i < length (tested a b) → get_or (tested a b) i origin ≡ a → ⊥
  tested-not-start i h e =
      let d = distances a b in
      let w = get_or walked i origin in
      let r = listed i h in
      let z = voxel-inj a b w origin (line-most r.on) (line-most (start-on d)) (sym (tested_at i h) ∙ e ∙ sym (voxel-start a b)) in
      let k : whole_of w ≡ 0 = ap (λ (v : Point). whole_of v) z in
      let short : same_point origin d ≡ false = subst (λ (v : Point). same_point v d ≡ false) z r.short in
      omega (arith, r.from, leave-further (start-on d) (most_self origin) short)

  pub tested-not-end : (i : ℕ) → i < length (tested a b) → get_or (tested a b) i origin ≡ b → ⊥
  tested-not-end i h e =
      let d = distances a b in
      let w = get_or walked i origin in
      let r = listed i h in
      let z = voxel-inj a b w d (line-most r.on) (most_self d) (sym (tested_at i h) ∙ e ∙ sym (voxel-end a b)) in
      false≢true (sym r.short ∙ subst (λ (v : Point). same_point v d ≡ true) (sym z) (same_self d))

  -- in the order of the segment, so each once
  pub tested-order : (i j : ℕ) → i < j → j < length (tested a b) → Before a b (get_or (tested a b) i origin) (get_or (tested a b) j origin)
  tested-order i j h k =
      let d = distances a b in
      let l : i < length (tested a b) = omega arith in
      let rise = steps-rising (whole_of d) d (first d) (leave-on d origin) i j h (omega (arith, tested-length)) in
      subst (λ (v : Point). Before a b v (get_or (tested a b) j origin)) (sym (tested_at i l))
      (subst (Before a b (voxel_at a b (get_or walked i origin))) (sym (tested_at j k))
      (more-later a b (get_or walked i origin) (get_or walked j origin) (line-most (listed i l).on) (line-most (listed j k).on) rise))

  -- every voxel met but the ends
  pub met-tested : (v : Point) → Meets a b v → (v ≡ a → ⊥) → (v ≡ b → ⊥) → Has (tested a b) v
  met-tested v m na nb =
      let d = distances a b in
      let s = distances a v in
      let o : OnLine d s = met-on a b v m in
      let is : voxel_at a b s ≡ v = met-voxel a b v m.p m.q m.at in
      let other : origin ≡ s → ⊥ = λ e. na (sym is ∙ ap (voxel_at a b) (sym e) ∙ voxel-start a b) in
      let short : same_point s d ≡ false =
      false-unless (same_point s d) (λ e. nb (sym is ∙ ap (voxel_at a b) (same-eq s d e) ∙ voxel-end a b)) in
      let r : Has walked s = steps-has (whole_of d) d (first d) s (leave-on d origin) o (next-before (start-on d) o (omega arith) other) short (omega arith) in
      let h : r.0 < length (tested a b) = omega (arith, tested-length, r.1) in
      (r.0, h, tested_at r.0 h ∙ ap (voxel_at a b) r.2 ∙ is)

  pub tested-once : (i j : ℕ) → i < j → j < length (tested a b) → get_or (tested a b) i origin ≡ get_or (tested a b) j origin → ⊥
  tested-once i j h k e =
      let m : Meets a b (get_or (tested a b) j origin) = tested_met_lem j k in
      let w : PointIn a b (get_or (tested a b) i origin) m.p m.q = subst (λ (v : Point). PointIn a b v m.p m.q) (sym e) m.at in
      let l = tested-order i j h k m.p m.q m.p m.q w m.at in
      omega (arith, l)
