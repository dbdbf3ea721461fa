-- The marks of a list: their length, what is read at a record's first byte and elsewhere, and where the lists of a file lie. By induction along the
-- places. Assumes nothing.
use mathlib.Core.Path.{◌≡◌, refl, sym, ◌∙◌, ap, subst}
use mathlib.Core.Bool.{Bool, true, false, cond}
use mathlib.Core.List.{List, [], ◌∷◌}
use Prim.Native.Nat.{ℕ, zero, suc, ◌*◌, ◌<◌}
use borrow.Author.Tests.{eqb-true}
use lib.Dec.{T, eqb}
use lib.ListN.{length, get_or, set, replicate, length-set, length-replicate}
use lib.Seq.{get_or-set_same, get_or-set_other}
use Rattle.paper.specs.Numbers.{all_in, is_in}
use Rattle.paper.specs.Packed.{list_at, places_at, record_ok}
use Rattle.laws.proofs.Tests.{and_left}
use Rattle.laws.proofs.Lists.{in_head, in-later}
use Rattle.proper_marks.specs.Places.{places_in}
use Rattle.proper_alike.specs.Matching.{leaf_symmetry, records_match, record_symmetry, record_rules, apart_in}
use Rattle.proper_alike.proofs.Pointing.{rules-all-whole}
use Rattle.proper_lists.specs.Marking.{marks_on, inner_rules, marks_at}
use Rattle.packed_lists.specs.Ends.{unit_at}

-- ---- marks written

pub marks-length : (f : ℕ → ℕ) (u : ℕ) (ps z : List ℕ) → length (marks_on f u ps z) ≡ length z
unfolding marks_on
marks-length f u [] z = refl
marks-length f u (p ∷ ps) z = marks-length f u ps (set z (u * p) (f p)) ∙ length-set z (u * p) (f p)

-- a byte that starts no record keeps what it was
pub marks-other : (f : ℕ → ℕ) (u : ℕ) (ps z : List ℕ) (j : ℕ) → ((p : ℕ) → T (is_in p ps) → j ≡ u * p → ⊥) → get_or (marks_on f u ps z) j 0 ≡ get_or z j 0
unfolding marks_on
marks-other f u [] z j h = refl
marks-other f u (p ∷ ps) z j h =
    marks-other f u ps (set z (u * p) (f p)) j (λ q t e. h q (in-later q p ps t) e)
    ∙ get_or-set_other z (u * p) j (f p) 0 (λ e. h p (in_head p ps) e)

-- the first byte of a record has its symmetry
pub marks-start : (f : ℕ → ℕ) (u : ℕ) → ((p q : ℕ) → u * p ≡ u * q → p ≡ q) → (ps z : List ℕ) (x : ℕ) → u * x < length z → T (is_in x ps)
    → get_or (marks_on f u ps z) (u * x) 0 ≡ f x
unfolding marks_on is_in
marks-start f u inj [] z x l t = absurd t
marks-start f u inj (p ∷ ps) z x l t = go (is_in x ps) refl (eqb p x) refl t (marks-start f u inj ps (set z (u * p) (f p)) x)
  where
    z' : List ℕ
    z' = set z (u * p) (f p)

    go : (c : Bool) → is_in x ps ≡ c → (b : Bool) → eqb p x ≡ b → T (cond b true (is_in x ps))
        → (u * x < length z' → T (is_in x ps) → get_or (marks_on f u ps z') (u * x) 0 ≡ f x) → get_or (marks_on f u ps z') (u * x) 0 ≡ f x
    go true c b e s ih = ih (subst (λ (n : ℕ). u * x < n) (sym (length-set z (u * p) (f p))) l) (rw c tt)
    go false c false e s ih = absurd (subst T c s)
    go false c true e s ih =
        let q : p ≡ x = eqb-true p x e in
        marks-other f u ps z' (u * x) (λ y m d. subst T c (subst (λ (n : ℕ). T (is_in n ps)) (inj y x (sym d)) m))
        ∙ ap (λ (n : ℕ). get_or (set z (u * n) (f n)) (u * x) 0) q ∙ get_or-set_same z (u * x) (f x) 0 l

pub marks_at-length : (bs : List ℕ) (k : ℕ) → length (marks_at bs k) ≡ length (list_at bs k)
unfolding marks_at
marks_at-length bs zero =
    marks-length (leaf_symmetry (list_at bs 0)) 8 (places_at bs 0) (replicate (length (list_at bs 0)) 0) ∙ length-replicate (length (list_at bs 0)) 0
marks_at-length bs (suc k) =
    marks-length (record_symmetry (unit_at k) (marks_at bs k) (list_at bs (suc k))) 2 (places_at bs (suc k)) (replicate (length (list_at bs (suc k))) 0)
    ∙ length-replicate (length (list_at bs (suc k))) 0

-- ---- an inner list that keeps its rules

pub inner-whole : (u : ℕ) (m l : List ℕ) → T (inner_rules u m l) → T (all_in (record_ok l) (places_in l))
unfolding inner_rules
inner-whole u m l t = rules-all-whole u m l (places_in l) (and_left (all_in (record_rules u m l) (places_in l)) (apart_in (records_match u m l) (places_in l)) t)
