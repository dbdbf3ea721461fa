-- The first voxel tested that fails is the first that the segment meets of those that fail, its ends left out; none where all of these pass, from
-- either end. From the list's laws: it has just these voxels, in their order. Assumes nothing.
use mathlib.Core.Path.{◌≡◌, refl, sym, ◌∙◌, ap, subst}
use mathlib.Core.Bool.{Bool, true, false, false≢true}
use mathlib.Core.Option.{some}
use mathlib.Core.Option as O
use mathlib.Core.Logic.{◌⊎◌, inl, inr}
use Prim.Native.Nat.{ℕ, ◌<◌}
use native.Mathlib.Nat.{eq-or-lt_of_le}
use native.Mathlib.Omega.{arith}
use borrow.Author.Tests.{ltb-true, ltb-false}
use lib.Dec.{ltb}
use lib.ListN.{length, get_or}
use Rattle.paper.specs.Rooms.{Point, origin}
use Rattle.paper.specs.Lines.{Meets, Before, Between, tested, first_failing}
use Rattle.laws.proofs.FirstFailing.{none_passes, passes_none, FailsFirst, first-is, is-first}
use Rattle.laws.proofs.LineMeeting.{meets-reversed}
use Rattle.laws.proofs.LineTested.{Has, tested_met_lem, tested-not-start, tested-not-end, tested-order, tested-once, met-tested}

-- the first of the voxels between a and b that fails a test
pub record FirstBetween (ok : Point → Bool) (a b v : Point) : Type 0 where
  pub between : Between a b v
  pub fails : ok v ≡ false
  pub first : (w : Point) → Between a b w → ok w ≡ false → (w ≡ v → ⊥) → Before a b v w

-- two voxels don't come before one another
not-both : (a b v w : Point) → Meets a b v → Meets a b w → Before a b v w → Before a b w v → ⊥
not-both a b v w m n f g =
    let h = f m.p m.q n.p n.q m.at n.at in
    let k = g n.p n.q m.p m.q n.at m.at in
    omega (arith, h, k)

true-unless : (t : Bool) → (t ≡ false → ⊥) → t ≡ true
true-unless true n = refl
true-unless false n = absurd (n refl)

module _ (ok : Point → Bool) (a b : Point) where
  tested-between : (i : ℕ) → i < length (tested a b) → Between a b (get_or (tested a b) i origin)
  tested-between i h = record { met = tested_met_lem a b i h; not_start = tested-not-start a b i h; not_end = tested-not-end a b i h }

  listed_at : (v : Point) → Between a b v → Has (tested a b) v
  listed_at v w = met-tested a b v w.met w.not_start w.not_end

  -- another that fails stands later in the list
  fails-later : (v : Point) (f : FailsFirst ok (tested a b) origin v) (w : Point) (i : ℕ) → get_or (tested a b) i origin ≡ w → ok w ≡ false → (w ≡ v → ⊥)
      → f.at < i
  fails-later v f w i is x other = split (ltb i f.at) refl
    where
      after : (f.at ≡ i) ⊎ (f.at < i) → f.at < i
      after (inl e) = absurd (other (sym is ∙ ap (λ (j : ℕ). get_or (tested a b) j origin) (sym e) ∙ f.is))
      after (inr l) = l

      split : (t : Bool) → ltb i f.at ≡ t → f.at < i
      split true l = absurd (false≢true (sym x ∙ ap ok (sym is) ∙ f.before i (ltb-true i f.at l)))
      split false l = after (eq-or-lt_of_le (ltb-false i f.at l))

  -- the first that fails
  pub first-between : (v : Point) → first_failing ok (tested a b) ≡ some v → FirstBetween ok a b v
  first-between v e =
      record {
        between = subst (Between a b) f.is (tested-between f.at f.inside);
        fails = f.fails;
        first = λ w u x other. go w x other (listed_at w u);
      }
    where
      f : FailsFirst ok (tested a b) origin v
      f = first-is ok (tested a b) origin v e

      go : (w : Point) → ok w ≡ false → (w ≡ v → ⊥) → Has (tested a b) w → Before a b v w
      go w x other (i, h, is) =
          subst (Before a b v) is
          (subst (λ (u : Point). Before a b u (get_or (tested a b) i origin)) f.is (tested-order a b f.at i (fails-later v f w i is x other) h))

  pub between_first : (v : Point) → FirstBetween ok a b v → first_failing ok (tested a b) ≡ some v
  between_first v f = go (listed_at v f.between)
    where
      passes : (i j : ℕ) → i < length (tested a b) → get_or (tested a b) i origin ≡ v → j < i → ok (get_or (tested a b) j origin) ≡ true
      passes i j h is l =
          let w = get_or (tested a b) j origin in
          let t : Between a b w = tested-between j (omega arith) in
          let order : Before a b w v = subst (Before a b w) is (tested-order a b j i l h) in
          let other : w ≡ v → ⊥ = λ e. tested-once a b j i l h (e ∙ sym is) in
          true-unless (ok w) (λ x. not-both a b v w f.between.met t.met (f.first w t x other) order)

      go : Has (tested a b) v → first_failing ok (tested a b) ≡ some v
      go (i, h, is) = is-first ok (tested a b) origin v record { at = i; inside = h; is = is; fails = f.fails; before = λ j l. passes i j h is l }

  -- none
  pub none_between : first_failing ok (tested a b) ≡ O.none → (v : Point) → Between a b v → ok v ≡ true
  none_between e v w = let r : Has (tested a b) v = listed_at v w in ap ok (sym r.2) ∙ none_passes ok (tested a b) origin e r.0 r.1

  pub between_none : ((v : Point) → Between a b v → ok v ≡ true) → first_failing ok (tested a b) ≡ O.none
  between_none f = passes_none ok (tested a b) origin (λ i h. f (get_or (tested a b) i origin) (tested-between i h))

-- from either end
between-reversed : (a b v : Point) → Between a b v → Between b a v
between-reversed a b v w = record { met = meets-reversed a b v w.met; not_start = w.not_end; not_end = w.not_start }

pub clear-reversed : (ok : Point → Bool) (a b : Point) → first_failing ok (tested a b) ≡ O.none → first_failing ok (tested b a) ≡ O.none
clear-reversed ok a b e = between_none ok b a (λ v w. none_between ok a b e v (between-reversed b a v w))
