-- The marks of a list are bytes, and where the lists up to it keep their rules every mark is a group of mirrors. By what each mark is, list by list
-- from the leaves up. Assumes nothing.
use mathlib.Core.Path.{◌≡◌, sym, ◌∙◌, ap, subst}
use mathlib.Core.Bool.{Bool}
use mathlib.Core.List.{List, [], ◌∷◌}
use Prim.Native.Nat.{ℕ, zero, suc, ◌*◌, ◌<◌}
use native.Mathlib.Decide.{ℕ_discrete, dec_lt}
use native.Mathlib.Omega.{arith}
use lib.Dec.{T, lit<}
use lib.ListN.{length, get_or, set, replicate}
use lib.Seq.{get_or-set_same, get_or-set_other, set_out}
use Rattle.paper.specs.Numbers.{all_below, all_in, is_in}
use Rattle.paper.specs.Packed.{list_at, places_at}
use Rattle.paper.specs.Runs.{Bytes}
use Rattle.laws.proofs.Tests.{both_left, both_right, and_left}
use Rattle.laws.proofs.Symmetries.{symmetry-lt}
use Rattle.laws.proofs.PackedLists.{list_bytes_lem}
use Rattle.proper_marks.specs.Marks.{Group, Grouped}
use Rattle.proper_alike.specs.Matching.{leaves_match, records_match, leaf_symmetry, record_symmetry, record_rules, apart_in}
use Rattle.proper_lists.specs.Marking.{marks_on, marks_at, list_rules}
use Rattle.packed_lists.specs.Ends.{unit_at}
use Rattle.laws.proofs.Lists.{in_head, in-later, all_in-is_in, zeros-at}
use Rattle.proper_alike.proofs.Keyed.{record-group, record-kept, leaf-group}

-- what holds of every mark written and of what was there holds of the marks
marks-each : (P : ℕ → Type 0) (f : ℕ → ℕ) (u : ℕ) (ps z : List ℕ) → ((p : ℕ) → T (is_in p ps) → P (f p)) → ((j : ℕ) → P (get_or z j 0))
    → (j : ℕ) → P (get_or (marks_on f u ps z) j 0)
unfolding marks_on
marks-each P f u [] z hf hz j = hz j
marks-each P f u (p ∷ ps) z hf hz j =
    marks-each P f u ps (set z (u * p) (f p)) (λ q t. hf q (in-later q p ps t)) (λ i. put i (ℕ_discrete i (u * p)) (dec_lt (u * p) (length z))) j
  where
    put : (i : ℕ) → Dec (i ≡ u * p) → Dec (u * p < length z) → P (get_or (set z (u * p) (f p)) i 0)
    put i (no n) d = subst P (sym (get_or-set_other z (u * p) i (f p) 0 n)) (hz i)
    put i (yes e) (yes l) =
        subst P (sym (ap (λ (k : ℕ). get_or (set z (u * p) (f p)) k 0) e ∙ get_or-set_same z (u * p) (f p) 0 l)) (hf p (in_head p ps))
    put i (yes e) (no l) = subst P (sym (ap (λ (s : List ℕ). get_or s i 0) (set_out z (u * p) (f p) (omega (arith, l))))) (hz i)

zero-byte : (n j : ℕ) → get_or (replicate n 0) j 0 < 256
zero-byte n j = rw (zeros-at n j) (lit< tt)

pub marks-bytes : (bs : List ℕ) (k : ℕ) → Bytes (marks_at bs k)
unfolding marks_at leaf_symmetry record_symmetry
marks-bytes bs zero =
    marks-each (λ m. m < 256) (leaf_symmetry (list_at bs 0)) 8 (places_at bs 0) (replicate (length (list_at bs 0)) 0) (λ p t. symmetry-lt (leaves_match (list_at bs 0) p p)) (zero-byte (length (list_at bs 0)))
marks-bytes bs (suc k) =
    marks-each (λ m. m < 256) (record_symmetry (unit_at k) (marks_at bs k) (list_at bs (suc k))) 2 (places_at bs (suc k)) (replicate (length (list_at bs (suc k))) 0)
    (λ p t. symmetry-lt (records_match (unit_at k) (marks_at bs k) (list_at bs (suc k)) p p)) (zero-byte (length (list_at bs (suc k))))

-- a mark that is not 0 is a group
abbrev Good : ℕ → Type 0
Good m = (m ≡ 0 → ⊥) → Group m

zero-good : (n j : ℕ) → Good (get_or (replicate n 0) j 0)
zero-good n j ne = absurd (ne (zeros-at n j))

-- the rules of a record of list k + 1
rules-in : (bs : List ℕ) (k p : ℕ) → T (list_rules bs (suc k)) → T (is_in p (places_at bs (suc k))) → T (record_rules (unit_at k) (marks_at bs k) (list_at bs (suc k)) p)
unfolding list_rules
rules-in bs k p t i =
    let f : ℕ → Bool = record_rules (unit_at k) (marks_at bs k) (list_at bs (suc k)) in
    all_in-is_in f (places_at bs (suc k)) p
    (and_left (all_in f (places_at bs (suc k))) (apart_in (records_match (unit_at k) (marks_at bs k) (list_at bs (suc k))) (places_at bs (suc k))) t) i

pub marks-grouped : (bs : List ℕ) → Bytes bs → (k : ℕ) → T (all_below (suc k) (list_rules bs)) → Grouped (unit_at k) (marks_at bs k)
unfolding marks_at
marks-grouped bs by zero t x =
    marks-each Good (leaf_symmetry (list_at bs 0)) 8 (places_at bs 0) (replicate (length (list_at bs 0)) 0) (λ p i ne. leaf-group (list_at bs 0) (list_bytes_lem bs by 0) p)
    (zero-good (length (list_at bs 0))) (8 * x)
marks-grouped bs by (suc k) t x =
    marks-each Good (record_symmetry (unit_at k) (marks_at bs k) (list_at bs (suc k))) 2 (places_at bs (suc k)) (replicate (length (list_at bs (suc k))) 0)
    (λ p i ne. record-group (unit_at k) (marks_at bs k) (list_at bs (suc k)) p
    (record-kept (unit_at k) (marks_at bs k) (list_at bs (suc k)) (list_bytes_lem bs by (suc k)) (marks-bytes bs k)
    (marks-grouped bs by k (both_right (list_rules bs (suc k)) (all_below (suc k) (list_rules bs)) t)) p
    (rules-in bs k p (both_left (list_rules bs (suc k)) (all_below (suc k) (list_rules bs)) t) i)))
    (zero-good (length (list_at bs (suc k)))) (2 * x)
