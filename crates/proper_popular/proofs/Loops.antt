-- The ways through the counting of one pointer and of a record's pointers, and through a test of counters along a list, in the code's words. By the
-- tests passed. Assumes nothing.
use mathlib.Core.Path.{◌≡◌, refl, sym, ◌∙◌, ap, subst}
use mathlib.Core.List.{List}
use Prim.Native.Nat.{ℕ, ◌+◌, ◌*◌, ◌≤◌}
use native.Mathlib.Numerals.{add-one}
use borrow.Author.Tests.{eq-eqb, ne_eqb}
use lib.Dec.{T, leb→le}
use lib.ListN.{get_or}
use Rattle.paper.specs.Numbers.{all_in}
use Rattle.paper.specs.Packed.{PackedPointer, no_pointer, pointers_at, record_ok}
use Rattle.laws.proofs.Tests.{and_right}
use Rattle.laws.proofs.Lists.{all_in-at}
use Rattle.proper_popular.specs.Counting.{one_more, count_pointer, count_pointers, pointer_fits, countable}

-- ---- one pointer counted, q the pointer as code has read it

module _ (u : ℕ) (rs : List PackedPointer) (i : ℕ) (m : List ℕ) (q : PackedPointer) (is : q ≡ get_or rs i no_pointer) where
  pub pointer_none : q.code ≡ 0 → m ≡ count_pointer u rs i m
  unfolding count_pointer
  pointer_none e =
      let z : (get_or rs i no_pointer).code ≡ 0 = ap (λ (r : PackedPointer). r.code) (sym is) ∙ e in
      sym (rw (eq-eqb (get_or rs i no_pointer).code 0 z))

  pub pointer-counts : (q.code ≡ 0 → ⊥) → one_more u q.place m ≡ count_pointer u rs i m
  unfolding count_pointer
  pointer-counts n =
      ap (λ (r : PackedPointer). one_more u r.place m) is ∙ sym (rw (ne_eqb (get_or rs i no_pointer).code 0 (λ e. n (ap (λ (r : PackedPointer). r.code) is ∙ e))))

-- its counter lies inside
pub pointer-room : (u n : ℕ) (l : List ℕ) (p i : ℕ) (q : PackedPointer) → T (countable u n l p) → q ≡ get_or (pointers_at l p) i no_pointer → (q.code ≡ 0 → ⊥) → u * q.place + 4 ≤ n
unfolding countable
pointer-room u n l p i q t is ne =
    let a : T (pointer_fits u n (get_or (pointers_at l p) i no_pointer)) = all_in-at (pointer_fits u n) no_pointer tt (pointers_at l p) (and_right (record_ok l p) (all_in (pointer_fits u n) (pointers_at l p)) t) i in
    let b : T (pointer_fits u n q) = subst (λ (r : PackedPointer). T (pointer_fits u n r)) (sym is) a in
    leb→le (u * q.place + 4) n (rw (ne_eqb q.code 0 ne) at b)

-- ---- the pointers of a record

pub pointers-none : (u : ℕ) (rs : List PackedPointer) (m : List ℕ) → m ≡ count_pointers u rs 0 m
unfolding count_pointers
pointers-none u rs m = refl

pub pointers-more : (u : ℕ) (rs : List PackedPointer) (i : ℕ) (m old new : List ℕ) → old ≡ count_pointers u rs i m → new ≡ count_pointer u rs i old → new ≡ count_pointers u rs (i + 1) m
unfolding count_pointers
pointers-more u rs i m old new e n = n ∙ ap (count_pointer u rs i) e ∙ ap (λ (j : ℕ). count_pointers u rs j m) (sym (add-one i))
