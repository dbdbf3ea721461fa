-- The lowest tag that differs from a given one by a mirror of a symmetry: the ways of its search, and for a symmetry that is a group that two tags have one
-- lowest exactly where they differ by a mirror of the symmetry. By the search's own laws. Assumes nothing.
use mathlib.Core.Path.{◌≡◌, refl, sym, ◌∙◌, ap, subst}
use mathlib.Core.Bool.{Bool, true, false, cond, not}
use mathlib.Core.Logic.{◌⊎◌, inl, inr}
use Prim.Native.Nat.{ℕ, zero, suc, ◌+◌, ◌-◌, ◌<◌, ◌≤◌}
use native.Mathlib.Nat.{le_antisymm, not-suc-le-zero}
use native.Mathlib.Numerals.{add-one}
use native.Mathlib.Omega.{arith}
use lib.Bits.{bit_xor, xor_self, xor_comm}
use borrow.Author.Tests.{leb-true, leb-false, eq-eqb, ne_eqb}
use lib.Dec.{T, eqb, leb, eqb→eq}
use Rattle.paper.specs.Numbers.{any_below}
use Rattle.laws.proofs.Tests.{all-at, any_at, none-at, T_true, true-T}
use Rattle.laws.specs.Symmetries.{marked}
use Rattle.laws.proofs.Eight.{eight3, xor8-lt, xor8-meet}
use Rattle.proper_marks.specs.Marks.{Group, first_from, low_tag, low_by}
use Rattle.proper_marks.proofs.Searches.{not-all-not}

pub le-or-lt : (a b : ℕ) → (a ≤ b) ⊎ (b < a)
le-or-lt a b = go (leb a b) refl
  where
    go : (c : Bool) → leb a b ≡ c → (a ≤ b) ⊎ (b < a)
    go true e = inl (leb-true a b e)
    go false e = inr (leb-false a b e)

-- ---- the first that passes

module _ (p : ℕ → Bool) (d : ℕ) where
  pub first-none : (u : ℕ) → first_from p d 0 u ≡ d
  unfolding first_from
  first-none u = refl

  pub first-here : (n u : ℕ) → 0 < n → p u ≡ true → first_from p d n u ≡ u
  unfolding first_from
  first-here zero u h e = absurd (not-suc-le-zero h)
  first-here (suc n) u h e = rw e

  pub first_next : (n u : ℕ) → 0 < n → p u ≡ false → first_from p d n u ≡ first_from p d (n - 1) (u + 1)
  unfolding first_from
  first_next zero u h e = absurd (not-suc-le-zero h)
  first_next (suc n) u h e = let m : suc n - 1 ≡ n = omega arith in rw (e, m, add-one u)

  first-le : (n u : ℕ) → u + n ≤ d → first_from p d n u ≤ d
  unfolding first_from
  first-le zero u h = omega arith
  first-le (suc n) u h = go (p u) (first-le n (suc u) (omega arith))
    where
      go : (b : Bool) → first_from p d n (suc u) ≤ d → cond b u (first_from p d n (suc u)) ≤ d
      go true ih = omega arith
      go false ih = ih

  first_passes : p d ≡ true → (n u : ℕ) → p (first_from p d n u) ≡ true
  unfolding first_from
  first_passes e zero u = e
  first_passes e (suc n) u = go (p u) refl (first_passes e n (suc u))
    where
      go : (b : Bool) → p u ≡ b → p (first_from p d n (suc u)) ≡ true → p (cond b u (first_from p d n (suc u))) ≡ true
      go true q ih = q
      go false q ih = ih

  first-lowest : (n u x : ℕ) → u ≤ x → x < u + n → p x ≡ true → first_from p d n u ≤ x
  unfolding first_from
  first-lowest zero u x a b e = absurd (omega arith)
  first-lowest (suc n) u x a b e = go (p u) refl (first-lowest n (suc u) x)
    where
      go : (c : Bool) → p u ≡ c → (suc u ≤ x → x < suc u + n → p x ≡ true → first_from p d n (suc u) ≤ x) → cond c u (first_from p d n (suc u)) ≤ x
      go true q ih = a
      go false q ih = ih (apart (le-or-lt x u)) (omega arith) e
        where
          apart : (x ≤ u) ⊎ (u < x) → suc u ≤ x
          apart (inl l) = let s : x ≡ u = omega arith in absurd (true-T {b = false} (sym q ∙ ap p (sym s) ∙ e))
          apart (inr l) = l

  -- where none passes
  first_else : (n u : ℕ) → ((x : ℕ) → u ≤ x → x < u + n → p x ≡ false) → first_from p d n u ≡ d
  unfolding first_from
  first_else zero u h = refl
  first_else (suc n) u h = rw (h u (omega arith) (omega arith)) (first_else n (suc u) (λ x a b. h x (omega arith) (omega arith)))

-- ---- the lowest tag

-- below a tag that a lower one shares its meaning with, and the tag itself where none does
pub low-lower : (symmetry tag v : ℕ) → v < tag → marked symmetry (bit_xor v tag) ≡ true → low_tag symmetry tag < tag
low-lower symmetry tag v l e = omega (arith, l, first-lowest (λ u. marked symmetry (bit_xor u tag)) tag tag 0 v (omega arith) (omega (arith, l)) e)

pub low-own : (symmetry tag : ℕ) → ((v : ℕ) → v < tag → marked symmetry (bit_xor v tag) ≡ false) → low_tag symmetry tag ≡ tag
low-own symmetry tag h = first_else (λ u. marked symmetry (bit_xor u tag)) tag tag 0 (λ x a b. h x (omega (arith, b)))

pub low-le : (symmetry tag : ℕ) → low_tag symmetry tag ≤ tag
low-le symmetry tag = first-le (λ u. marked symmetry (bit_xor u tag)) tag tag 0 (omega arith)

-- a symmetry with no mirror but that which changes nothing leaves every tag
pub low-one : (tag : ℕ) → tag < 8 → low_tag 1 tag ≡ tag
unfolding first_from
low-one tag h = eqb→eq (low_tag 1 tag) tag (all-at 8 (λ v. eqb (low_tag 1 v) v) tt tag h)

-- a tag is not the lowest where a lower one differs from it by a mirror of the symmetry
high_is : (symmetry tag : ℕ) → not (low_by symmetry tag) ≡ any_below tag (λ v. marked symmetry (bit_xor v tag))
unfolding low_by
high_is symmetry tag = not-all-not tag (λ v. marked symmetry (bit_xor v tag))

-- so where the lowest with its meaning is another
pub high-by-low : (symmetry tag : ℕ) → not (eqb (low_tag symmetry tag) tag) ≡ not (low_by symmetry tag)
high-by-low symmetry tag = go (any_below tag (λ v. marked symmetry (bit_xor v tag))) refl ∙ sym (high_is symmetry tag)
  where
    go : (b : Bool) → any_below tag (λ v. marked symmetry (bit_xor v tag)) ≡ b → not (eqb (low_tag symmetry tag) tag) ≡ b
    go true e =
        let v = any_at tag (λ v. marked symmetry (bit_xor v tag)) e in
        ap not (ne_eqb (low_tag symmetry tag) tag (λ z. omega (arith, z, low-lower symmetry tag v.0 v.1 v.2)))
    go false e = ap not (eq-eqb (low_tag symmetry tag) tag (low-own symmetry tag (none-at tag (λ v. marked symmetry (bit_xor v tag)) e)))

-- ---- by a group

xor8-across : (x a b : ℕ) → x < 8 → a < 8 → b < 8 → bit_xor (bit_xor x a) (bit_xor x b) ≡ bit_xor a b
xor8-across = eight3 (λ x a b. bit_xor (bit_xor x a) (bit_xor x b)) (λ x a b. bit_xor a b) tt

module _ (symmetry : ℕ) (group : Group symmetry) where
  low-passes : (tag : ℕ) → T (marked symmetry (bit_xor (low_tag symmetry tag) tag))
  low-passes tag =
      true-T (first_passes (λ u. marked symmetry (bit_xor u tag)) tag (ap (marked symmetry) (xor_self tag) ∙ T_true group.none) tag 0)

  low-under : (a b : ℕ) → a < 8 → b < 8 → T (marked symmetry (bit_xor a b)) → low_tag symmetry b ≤ low_tag symmetry a
  low-under a b ha hb t =
      let x : ℕ = low_tag symmetry a in
      let hx : x < 8 = omega (arith, low-le symmetry a) in
      let m : T (marked symmetry (bit_xor x b)) =
      subst (λ (n : ℕ). T (marked symmetry n)) (xor8-meet x a b hx ha hb) (group.closed (bit_xor x a) (bit_xor a b) (xor8-lt x a hx ha) (xor8-lt a b ha hb) (low-passes a) t) in
      go x m (le-or-lt b x)
    where
      go : (x : ℕ) → T (marked symmetry (bit_xor x b)) → (b ≤ x) ⊎ (x < b) → low_tag symmetry b ≤ x
      go x m (inl l) = omega (arith, low-le symmetry b)
      go x m (inr l) = first-lowest (λ u. marked symmetry (bit_xor u b)) b b 0 x (omega arith) (omega arith) (T_true m)

  pub low_same : (a b : ℕ) → a < 8 → b < 8 → T (marked symmetry (bit_xor a b)) → low_tag symmetry a ≡ low_tag symmetry b
  low_same a b ha hb t =
      let r : T (marked symmetry (bit_xor b a)) = subst (λ (n : ℕ). T (marked symmetry n)) (xor_comm a b) t in
      le_antisymm (low-under b a hb ha r) (low-under a b ha hb t)

  pub same_low : (a b : ℕ) → a < 8 → b < 8 → low_tag symmetry a ≡ low_tag symmetry b → T (marked symmetry (bit_xor a b))
  same_low a b ha hb e =
      let x : ℕ = low_tag symmetry a in
      let hx : x < 8 = omega (arith, low-le symmetry a) in
      let m : T (marked symmetry (bit_xor x b)) = subst (λ (n : ℕ). T (marked symmetry (bit_xor n b))) (sym e) (low-passes b) in
      subst (λ (n : ℕ). T (marked symmetry n)) (xor8-across x a b hx ha hb) (group.closed (bit_xor x a) (bit_xor x b) (xor8-lt x a hx ha) (xor8-lt x b hx hb) (low-passes a) m)
