-- The starts of a list are different places, and a mark above 0 is that of a start; so a pointer that keeps the rules by marks names one. By induction
-- along the list, and by what the marks hold elsewhere. Assumes nothing.
use mathlib.Core.Path.{◌≡◌, refl, sym, ◌∙◌, subst, ap}
use mathlib.Core.Bool.{Bool, true, false, cond, ◌&&◌}
use mathlib.Core.List.{List, [], ◌∷◌}
use Prim.Native.Nat.{ℕ, zero, suc, ◌+◌, ◌*◌, ◌<◌, ◌≤◌}
use native.Mathlib.Nat.{le_of_suc-le-suc, not-suc-le-zero}
use native.Mathlib.Omega.{arith}
use lib.Dec.{T, eqb, ltb, ltb→lt}
use lib.ListN.{length, get_or, replicate}
use Rattle.paper.specs.Numbers.{is_in}
use Rattle.paper.specs.Packed.{size_at, list_at, header_at, halves, PackedPointer, code_for, starts_from, places_at, packed_pointer_ok}
use Rattle.laws.proofs.Tests.{and_left, and_right, and_T}
use Rattle.laws.proofs.Lists.{zeros-at, Once, length-count, get_or-count}
use Rattle.laws.proofs.PackedLists.{halves-one}
use Rattle.proper_marks.specs.Marks.{mark_of, low_by}
use Rattle.proper_alike.specs.Matching.{leaf_symmetry, record_symmetry, pointer_rules}
use Rattle.packed_lists.specs.Ends.{unit_at}
use Rattle.proper_popular.proofs.Starts.{starts-late}
use Rattle.proper_lists.specs.Marking.{marks_at}
use Rattle.proper_lists.proofs.Marks.{marks-other}

-- ---- no place twice

cons-once : (x : ℕ) (l : List ℕ) → ((q : ℕ) → q < length l → suc x ≤ get_or l q 0) → Once l → Once (x ∷ l)
cons-once x l late once zero zero hi hj e = refl
cons-once x l late once zero (suc j) hi hj e = absurd (omega (arith, e, late j (le_of_suc-le-suc hj)))
cons-once x l late once (suc i) zero hi hj e = absurd (omega (arith, e, late i (le_of_suc-le-suc hi)))
cons-once x l late once (suc i) (suc j) hi hj e = ap suc (once i j (le_of_suc-le-suc hi) (le_of_suc-le-suc hj) e)

starts-once : (l : List ℕ) (n p : ℕ) → Once (starts_from l n p)
unfolding starts_from
starts-once l zero p = λ i j h g e. absurd (not-suc-le-zero h)
starts-once l (suc n) p = go (ltb (2 * p) (length l)) (starts-once l n (p + halves 8 (header_at l p))) (starts-late l n (p + halves 8 (header_at l p)))
  where
    ss : List ℕ
    ss = starts_from l n (p + halves 8 (header_at l p))

    go : (b : Bool) → Once ss → ((q : ℕ) → q < length ss → p + halves 8 (header_at l p) ≤ get_or ss q 0) → Once (cond b (p ∷ ss) [])
    go false once late = λ i j h g e. absurd (not-suc-le-zero h)
    go true once late = cons-once p ss (λ q h. omega (arith, late q h, halves-one 8 (header_at l p))) once

pub once-at : (bs : List ℕ) (k : ℕ) → Once (places_at bs k)
unfolding places_at
once-at bs zero = λ i j hi hj e.
    let n : ℕ = size_at bs 0 in
    let a : i < n = omega (arith, length-count n 0) in
    let b : j < n = omega (arith, length-count n 0) in
    omega (arith, e, get_or-count n 0 i a, get_or-count n 0 j b)
once-at bs (suc k) = starts-once (list_at bs (suc k)) (size_at bs (suc k)) 0

-- ---- a mark above 0 is that of a start

pub unit-inj : (k p q : ℕ) → unit_at k * p ≡ unit_at k * q → p ≡ q
unit-inj zero p q e = omega arith
unit-inj (suc k) p q e = omega arith

pub no-mark : (bs : List ℕ) (k x : ℕ) → is_in x (places_at bs k) ≡ false → mark_of (unit_at k) (marks_at bs k) x ≡ 0
unfolding marks_at
no-mark bs zero x e =
    marks-other (leaf_symmetry (list_at bs 0)) 8 (places_at bs 0) (replicate (length (list_at bs 0)) 0) (8 * x)
    (λ p t q. subst T e (subst (λ (n : ℕ). T (is_in n (places_at bs 0))) (sym (unit-inj 0 x p q)) t))
    ∙ zeros-at (length (list_at bs 0)) (8 * x)
no-mark bs (suc k) x e =
    marks-other (record_symmetry (unit_at k) (marks_at bs k) (list_at bs (suc k))) 2 (places_at bs (suc k)) (replicate (length (list_at bs (suc k))) 0) (2 * x)
    (λ p t q. subst T e (subst (λ (n : ℕ). T (is_in n (places_at bs (suc k)))) (sym (unit-inj (suc k) x p q)) t))
    ∙ zeros-at (length (list_at bs (suc k))) (2 * x)

pub mark-start : (bs : List ℕ) (k x : ℕ) → 0 < mark_of (unit_at k) (marks_at bs k) x → T (is_in x (places_at bs k))
mark-start bs k x h = go (is_in x (places_at bs k)) refl
  where
    go : (b : Bool) → is_in x (places_at bs k) ≡ b → T (is_in x (places_at bs k))
    go true e = rw e tt
    go false e = absurd (omega (arith, h, no-mark bs k x e))

-- so a pointer that keeps the rules by marks keeps rule 4
pub pointer_ok : (bs : List ℕ) (k : ℕ) (r : PackedPointer) → T (pointer_rules (unit_at k) (marks_at bs k) r) → T (packed_pointer_ok (places_at bs k) r)
unfolding pointer_rules packed_pointer_ok
pointer_ok bs k r t = go (eqb r.code 0) t
  where
    m : ℕ
    m = mark_of (unit_at k) (marks_at bs k) r.place

    go : (b : Bool) → T (cond b true (ltb 0 m && eqb r.code (code_for r.place) && low_by m r.tag))
        → T (cond b true (is_in r.place (places_at bs k) && eqb r.code (code_for r.place)))
    go true s = tt
    go false s =
        let a : T (ltb 0 m && eqb r.code (code_for r.place)) = and_left (ltb 0 m && eqb r.code (code_for r.place)) (low_by m r.tag) s in
        and_T (is_in r.place (places_at bs k)) (eqb r.code (code_for r.place))
        (mark-start bs k r.place (ltb→lt 0 m (and_left (ltb 0 m) (eqb r.code (code_for r.place)) a)))
        (and_right (ltb 0 m) (eqb r.code (code_for r.place)) a)
