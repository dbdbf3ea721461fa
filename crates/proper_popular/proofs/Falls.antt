-- Numbers that are above 0 and never rise along a list: told from the front, as code tests them, and by their numbers, as the rules have them. By
-- induction along the list. Assumes nothing.
use mathlib.Core.Path.{◌≡◌, ap, ap₂}
use mathlib.Core.Bool.{Bool, ◌&&◌}
use mathlib.Core.List.{List, [], ◌∷◌, map}
use Prim.Native.Nat.{ℕ, zero, suc, ◌-◌, ◌<◌, ◌≤◌, suc-le-suc}
use native.Mathlib.Nat.{le_of_suc-le-suc, not-suc-le-zero}
use native.Mathlib.Omega.{arith}
use borrow.Author.Tests.{lt-ltb, le-leb}
use lib.Dec.{T, leb, ltb, ltb→lt, leb→le}
use lib.ListN.{length, get_or}
use Rattle.paper.specs.Numbers.{all_below}
use Rattle.laws.proofs.Tests.{true-T, iff-eq, and_left, and_right, and_T, all-at, all-T, all_same}
use Rattle.proper_popular.specs.Counting.{falls_from}

module _ (f : ℕ → ℕ) where
  -- what a list that falls says of its first
  falls-first : (last p : ℕ) (ps : List ℕ) → T (falls_from last (map f (p ∷ ps))) → (0 < f p) × (f p ≤ last) × T (falls_from (f p) (map f ps))
  unfolding falls_from
  falls-first last p ps t =
      let r : Bool = falls_from (f p) (map f ps) in
      let a : T (ltb 0 (f p) && leb (f p) last) = and_left (ltb 0 (f p) && leb (f p) last) r t in
      (ltb→lt 0 (f p) (and_left (ltb 0 (f p)) (leb (f p) last) a), leb→le (f p) last (and_right (ltb 0 (f p)) (leb (f p) last) a), and_right (ltb 0 (f p) && leb (f p) last) r t)

  falls-above : (last : ℕ) (ps : List ℕ) → T (falls_from last (map f ps)) → (i : ℕ) → i < length ps → 0 < f (get_or ps i 0)
  falls-above last [] t i h = absurd (not-suc-le-zero h)
  falls-above last (p ∷ ps) t zero h = (falls-first last p ps t).0
  falls-above last (p ∷ ps) t (suc i) h = falls-above (f p) ps (falls-first last p ps t).2 i (le_of_suc-le-suc h)

  falls-next : (last : ℕ) (ps : List ℕ) → T (falls_from last (map f ps)) → (i : ℕ) → suc i < length ps → f (get_or ps (suc i) 0) ≤ f (get_or ps i 0)
  falls-next last [] t i h = absurd (not-suc-le-zero h)
  falls-next last (p ∷ []) t i h = absurd (not-suc-le-zero (le_of_suc-le-suc h))
  falls-next last (p ∷ q ∷ ps) t zero h = (falls-first (f p) q ps (falls-first last p (q ∷ ps) t).2).1
  falls-next last (p ∷ q ∷ ps) t (suc i) h = falls-next (f p) (q ∷ ps) (falls-first last p (q ∷ ps) t).2 i (le_of_suc-le-suc h)

  falls-T : (last : ℕ) (ps : List ℕ) → (0 < length ps → f (get_or ps 0 0) ≤ last) → ((i : ℕ) → i < length ps → 0 < f (get_or ps i 0))
      → ((i : ℕ) → suc i < length ps → f (get_or ps (suc i) 0) ≤ f (get_or ps i 0)) → T (falls_from last (map f ps))
  unfolding falls_from
  falls-T last [] first above next = tt
  falls-T last (p ∷ ps) first above next =
      let r : Bool = falls_from (f p) (map f ps) in
      and_T (ltb 0 (f p) && leb (f p) last) r
      (and_T (ltb 0 (f p)) (leb (f p) last) (true-T (lt-ltb 0 (f p) (above 0 (omega arith)))) (true-T (le-leb (f p) last (first (omega arith)))))
      (falls-T (f p) ps (λ h. next 0 (suc-le-suc h)) (λ i h. above (suc i) (suc-le-suc h)) (λ i h. next (suc i) (suc-le-suc h)))

-- the two rules, g telling the popularity: named, and never rising
abbrev pub falling_by : (ℕ → ℕ) → List ℕ → Bool
falling_by g ps =
    all_below (length ps) (λ q. ltb 0 (g (get_or ps q 0))) && all_below (length ps - 1) (λ q. leb (g (get_or ps (suc q) 0)) (g (get_or ps q 0)))

pub falls-rules : (f : ℕ → ℕ) (last : ℕ) (ps : List ℕ) → (0 < length ps → f (get_or ps 0 0) ≤ last) → falls_from last (map f ps) ≡ falling_by f ps
falls-rules f last ps first =
    iff-eq (falls_from last (map f ps)) (falling_by f ps)
    (λ t. and_T a b
    (all-T (length ps) up (λ i h. true-T (lt-ltb 0 (f (get_or ps i 0)) (falls-above f last ps t i h))))
    (all-T (length ps - 1) on (λ i h. true-T (le-leb (f (get_or ps (suc i) 0)) (f (get_or ps i 0)) (falls-next f last ps t i (omega arith))))))
    (λ t. falls-T f last ps first
    (λ i h. ltb→lt 0 (f (get_or ps i 0)) (all-at (length ps) up (and_left a b t) i h))
    (λ i h. leb→le (f (get_or ps (suc i) 0)) (f (get_or ps i 0)) (all-at (length ps - 1) on (and_right a b t) i (omega arith))))
  where
    up : ℕ → Bool
    up q = ltb 0 (f (get_or ps q 0))

    on : ℕ → Bool
    on q = leb (f (get_or ps (suc q) 0)) (f (get_or ps q 0))

    a : Bool
    a = all_below (length ps) up

    b : Bool
    b = all_below (length ps - 1) on

-- numbers that agree along the list keep the same rules
pub falling-same : (f g : ℕ → ℕ) (ps : List ℕ) → ((i : ℕ) → i < length ps → f (get_or ps i 0) ≡ g (get_or ps i 0)) → falling_by f ps ≡ falling_by g ps
falling-same f g ps e =
    ap₂ ◌&&◌ (all_same (length ps) _ _ (λ i h. ap (ltb 0) (e i h)))
    (all_same (length ps - 1) _ _ (λ i h. ap₂ leb (e (suc i) (omega arith)) (e i (omega arith))))
