-- The top list of a file: whether it has exactly one record, by its bytes. By where the lists lie. Assumes nothing.
use mathlib.Core.Path.{◌≡◌, refl, sym, ◌∙◌, ap, ap₂, subst}
use mathlib.Core.Bool.{Bool, true, false}
use mathlib.Core.List.{List}
use Prim.Native.Nat.{ℕ, zero, suc, ◌+◌, ◌-◌, ◌*◌, ◌%◌, ◌<◌, ◌≤◌}
use native.Mathlib.Omega.{arith}
use borrow.Author.Tests.{eq-eqb, ne_eqb, ltb-false}
use lib.Dec.{T, eqb, ltb, eqb→eq, ltb→lt}
use lib.ListN.{length, get_or, take, drop}
use Rattle.paper.specs.Numbers.{all_below, all_in, count}
use Rattle.paper.specs.Packed.{top_of, size_at, start_at, list_at, record_ok, places_at, whole_at, sizes_ok, top_ok}
use Rattle.laws.proofs.Tests.{true-T, iff-eq, all-at}
use Rattle.laws.proofs.Lists.{length-count}
use Rattle.proper_marks.specs.Places.{places_in, width_at}
use Rattle.packed_lists.specs.Ends.{end_at, end_in, Listed}
use Rattle.proper_lists.specs.Marking.{list_rules}
use Rattle.proper_marks.proofs.InFile.{list_length, start_is, end_is, list-in, end_in_lem, cut-is, places-inner, evens, sized}
use Rattle.proper_rules.proofs.Rules.{whole_by}
use Rattle.proper_marks.proofs.Along.{rest_from, rest_all, rest-none, rest_more, rest-head, record-inside}
use Rattle.proper_popular.proofs.Starts.{starts-few}

-- two tests that say the same
same_test : (a b c d : ℕ) → (a ≡ b → c ≡ d) → (c ≡ d → a ≡ b) → eqb a b ≡ eqb c d
same_test a b c d f g = iff-eq (eqb a b) (eqb c d) (λ t. true-T (eq-eqb c d (f (eqb→eq a b t)))) (λ t. true-T (eq-eqb a b (g (eqb→eq c d t))))

-- list k has one record
abbrev one_at : List ℕ → ℕ → Bool
one_at bs k = eqb (length (places_at bs k)) 1

top_one : (bs : List ℕ) (k : ℕ) → k ≡ top_of bs → one_at bs k ≡ top_ok bs
unfolding top_ok
top_one bs k e = ap (one_at bs) e

-- one leaf has eight bytes
leaf-one : (bs : List ℕ) → T (sizes_ok bs) → eqb (length (list_at bs 0)) 8 ≡ one_at bs 0
unfolding places_at
leaf-one bs z =
    let e : length (list_at bs 0) ≡ 8 * size_at bs 0 = list_length bs z 0 (omega arith) in
    let n : length (count 0 (size_at bs 0)) ≡ size_at bs 0 = length-count (size_at bs 0) 0 in
    same_test (length (list_at bs 0)) 8 (length (count 0 (size_at bs 0))) 1 (λ q. omega (arith, e, n, q)) (λ q. omega (arith, e, n, q))

-- one record ends where its list does
module _ (l : List ℕ) (even : length l % 2 ≡ 0) (some : 2 * 0 < length l) (whole : T (record_ok l 0)) where
  abbrev w : ℕ
  w = 0 + width_at l 0

  places : length (places_in l) ≡ suc (length (rest_from l w))
  places = ap length (sym (rest_all l) ∙ rest_more l even 0 some)

  record-one : eqb (2 * width_at l 0) (length l) ≡ eqb (length (places_in l)) 1
  record-one = same_test (2 * width_at l 0) (length l) (length (places_in l)) 1 there (back (ltb (2 * w) (length l)) refl)
    where
      there : 2 * width_at l 0 ≡ length l → length (places_in l) ≡ 1
      there q = let n : length (rest_from l w) ≡ 0 = ap length (rest-none l w (omega (arith, q))) in omega (arith, places, n)

      back : (b : Bool) → ltb (2 * w) (length l) ≡ b → length (places_in l) ≡ 1 → 2 * width_at l 0 ≡ length l
      back true e q =
          let n : length (rest_from l w) ≡ suc (length (rest_from l (w + width_at l w))) = ap length (rest_more l even w (ltb→lt (2 * w) (length l) (true-T e))) in
          absurd (omega (arith, places, n, q))
      back false e q = omega (arith, ltb-false (2 * w) (length l) e, record-inside l 0 whole)

module _ (bs starts : List ℕ) (known : Listed bs starts) where
  -- a list with one record is not empty
  pub some-list : (k : ℕ) → k ≤ top_of bs → length (places_at bs k) ≡ 1 → 0 < length (list_at bs k)
  unfolding places_at
  some-list zero h q = omega (arith, list_length bs (sized bs starts known) 0 h, length-count (size_at bs 0) 0, q)
  some-list (suc k) h q =
      omega (arith, list_length bs (sized bs starts known) (suc k) h, starts-few (list_at bs (suc k)) (size_at bs (suc k)) 0, q)

  -- ---- the top list, cut from a to b

  module _ (k a b : ℕ) (top : k ≡ top_of bs) (ea : a ≡ get_or starts k 0) (eb : b ≡ end_in starts (length bs) k) where
    in_top : k ≤ top_of bs
    in_top = omega (arith, top)

    at_a : a ≡ start_at bs k
    at_a = ea ∙ start_is bs starts known k in_top

    at_b : b ≡ end_at bs k
    at_b = eb ∙ end_is bs starts known k in_top

    cut-order : a ≤ b
    cut-order = omega (arith, at_a, at_b, list-in bs starts known k in_top)

    cut-reach : b ≤ length bs
    cut-reach = omega (arith, at_b, end_in_lem bs starts known k in_top)

    abbrev list : List ℕ
    list = take (b - a) (drop a bs)

    cut : list ≡ list_at bs k
    cut = ap₂ (λ (x y : ℕ). take (y - x) (drop x bs)) at_a at_b ∙ cut-is bs starts known k in_top

    -- the ways of the test
    top-leaf : k ≡ 0 → eqb (length list) 8 ≡ top_ok bs
    top-leaf z =
        ap (λ (l : List ℕ). eqb (length l) 8) (cut ∙ ap (list_at bs) z) ∙ leaf-one bs (sized bs starts known)
        ∙ ap (one_at bs) (sym z) ∙ top_one bs k top

    top-none : length list ≡ 0 → false ≡ top_ok bs
    top-none z = sym (ne_eqb (length (places_at bs k)) 1 (λ q. omega (arith, some-list k in_top q, ap length cut, z))) ∙ top_one bs k top

    module _ (inner : k ≡ 0 → ⊥) (some : length list ≡ 0 → ⊥) (rules : T (all_below (suc (top_of bs)) (list_rules bs))) where
      long : (j : ℕ) → k ≡ suc j → 2 * 0 < length (list_at bs (suc j))
      long j e = let n : length list ≡ length (list_at bs (suc j)) = ap length (cut ∙ ap (list_at bs) e) in omega (arith, n, some)

      first-at : (j : ℕ) → k ≡ suc j → T (record_ok (list_at bs (suc j)) 0)
      unfolding whole_at
      first-at j e =
          let l : List ℕ = list_at bs (suc j) in
          let h : suc j ≤ top_of bs = omega (arith, in_top, e) in
          let t : T (list_rules bs (suc j)) = all-at (suc (top_of bs)) (list_rules bs) rules (suc j) (omega (arith, h)) in
          rest-head l (evens bs starts known j h) 0 (long j e) (record_ok l)
          (subst (λ (ps : List ℕ). T (all_in (record_ok l) ps)) (places-inner bs starts known j h ∙ sym (rest_all l)) (whole_by bs (suc j) t))

      above : k ≡ suc (k - 1)
      above = omega (arith, inner)

      top-whole : T (record_ok list 0)
      top-whole = subst (λ (l : List ℕ). T (record_ok l 0)) (sym (cut ∙ ap (list_at bs) above)) (first-at (k - 1) above)

      top-inner : (w : ℕ) → w ≡ width_at list 0 → eqb (2 * w) (length list) ≡ top_ok bs
      top-inner w e =
          let h : suc (k - 1) ≤ top_of bs = omega (arith, in_top, above) in
          ap (λ (n : ℕ). eqb (2 * n) (length list)) e
          ∙ ap (λ (l : List ℕ). eqb (2 * width_at l 0) (length l)) (cut ∙ ap (list_at bs) above)
          ∙ record-one (list_at bs (suc (k - 1))) (evens bs starts known (k - 1) h) (long (k - 1) above) (first-at (k - 1) above)
          ∙ ap (λ (ps : List ℕ). eqb (length ps) 1) (sym (places-inner bs starts known (k - 1) h))
          ∙ ap (one_at bs) (sym above) ∙ top_one bs k top

-- ---- all of it together, as code cuts

pub record TopRoom (bs : List ℕ) (a b : ℕ) : Type 0 where
  pub order : a ≤ b
  pub reach : b ≤ length bs

pub top_room : (bs starts : List ℕ) → Listed bs starts → (k b : ℕ) → k ≡ top_of bs → b ≡ end_in starts (length bs) k → TopRoom bs (get_or starts k 0) b
top_room bs starts known k b top eb = record {
  order = cut-order bs starts known k (get_or starts k 0) b top refl eb;
  reach = cut-reach bs starts known k (get_or starts k 0) b top refl eb;
}

pub record TopCut (bs : List ℕ) (k a b : ℕ) : Type 0 where
  pub leaf : k ≡ 0 → eqb (length (take (b - a) (drop a bs))) 8 ≡ top_ok bs
  pub none : length (take (b - a) (drop a bs)) ≡ 0 → false ≡ top_ok bs
  pub whole : (k ≡ 0 → ⊥) → (length (take (b - a) (drop a bs)) ≡ 0 → ⊥) → T (record_ok (take (b - a) (drop a bs)) 0)
  pub inner : (k ≡ 0 → ⊥) → (length (take (b - a) (drop a bs)) ≡ 0 → ⊥) → (w : ℕ) → w ≡ width_at (take (b - a) (drop a bs)) 0
      → eqb (2 * w) (length (take (b - a) (drop a bs))) ≡ top_ok bs

pub top_cut : (bs starts : List ℕ) → Listed bs starts → T (all_below (suc (top_of bs)) (list_rules bs)) → (k b : ℕ) → k ≡ top_of bs → b ≡ end_in starts (length bs) k
    → TopCut bs k (get_or starts k 0) b
top_cut bs starts known rules k b top eb = record {
  leaf = top-leaf bs starts known k (get_or starts k 0) b top refl eb;
  none = top-none bs starts known k (get_or starts k 0) b top refl eb;
  whole = λ inner some. top-whole bs starts known k (get_or starts k 0) b top refl eb inner some rules;
  inner = λ inner some. top-inner bs starts known k (get_or starts k 0) b top refl eb inner some rules;
}
