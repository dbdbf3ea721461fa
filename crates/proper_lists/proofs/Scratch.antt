-- The scratch of a check, by the list starts: before and after a list is marked, and the list's share in it. By where the lists lie in the file. Assumes
-- nothing.
use mathlib.Core.Path.{◌≡◌, refl, sym, ◌∙◌, ap, ap₂, subst}
use mathlib.Core.List.{List, [], ◌∷◌, ◌++◌, append-nil, append_assoc}
use Prim.Native.Nat.{ℕ, zero, suc, ◌+◌, ◌*◌, ◌/◌, ◌<◌, ◌≤◌}
use native.Mathlib.Omega.{arith}
use lib.Dec.{T}
use lib.ListN.{length, get_or, take, drop, replicate, set, get_or-append, length-set, length-append, length-replicate, replicate-append-replicate}
use lib.Seq.{take_at, drop_at, set-append_left, get_or-append-add}
use Rattle.paper.specs.Numbers.{is_in}
use Rattle.paper.specs.Packed.{top_of, tail_at, start_at, list_at}
use Rattle.laws.proofs.Lists.{in_head, in-later}
use Rattle.proper_alike.specs.Matching.{leaf_symmetry, record_symmetry}
use Rattle.proper_marks.specs.Places.{places_in}
use Rattle.packed_lists.specs.Ends.{unit_at, Listed}
use Rattle.proper_lists.specs.Marking.{marks_on, leaf_marks, record_marks, marks_at, marks_tail, scratch_at}
use Rattle.proper_marks.proofs.InFile.{start_in_lem, list_length, sized, list-in, places-leaf, places-inner}
use Rattle.proper_lists.proofs.Marks.{marks_at-length}
use Rattle.proper_marks.proofs.Along.{in-inside}

-- ---- a part cut out, and put back

module _ (A M R : List ℕ) (a m : ℕ) (ha : length A ≡ a) (hm : length M ≡ m) where
  pub part-is : take m (drop a (A ++ (M ++ R))) ≡ M
  part-is = ap (take m) (drop_at A (M ++ R) a ha) ∙ take_at M R m hm

  pub put_back : (ys : List ℕ) → take a (A ++ (M ++ R)) ++ (ys ++ drop m (drop a (A ++ (M ++ R)))) ≡ A ++ (ys ++ R)
  put_back ys = ap₂ (λ (p q : List ℕ). p ++ (ys ++ q)) (take_at A (M ++ R) a ha) (ap (drop m) (drop_at A (M ++ R) a ha) ∙ drop_at M R m hm)

-- marks written into the first of two parts
pub marks-first : (f : ℕ → ℕ) (u : ℕ) (ps z m : List ℕ) → ((p : ℕ) → T (is_in p ps) → u * p < length z) → marks_on f u ps (z ++ m) ≡ marks_on f u ps z ++ m
unfolding marks_on
marks-first f u [] z m h = refl
marks-first f u (p ∷ ps) z m h =
    ap (marks_on f u ps) (set-append_left z m (u * p) (f p) (h p (in_head p ps)))
    ∙ marks-first f u ps (set z (u * p) (f p)) m (λ q t. subst (λ (n : ℕ). u * q < n) (sym (length-set z (u * p) (f p))) (h q (in-later q p ps t)))

-- a list's own share marked, with the marks one list down after it
pub marked_beside : (u : ℕ) (m l z shares : List ℕ) → shares ≡ z ++ m → length z ≡ length l → record_marks u m l z ++ m ≡ record_marks u m l shares
marked_beside u m l z shares e n =
    sym (ap (record_marks u m l) e
    ∙ marks-first (record_symmetry u m l) 2 (places_in l) z m (λ p t. subst (λ (k : ℕ). 2 * p < k) (sym n) (in-inside l (length l / 2) 0 p t)))

module _ (bs starts : List ℕ) (known : Listed bs starts) where
  abbrev zeros : ℕ → List ℕ
  zeros n = replicate n 0

  abbrev own : ℕ → ℕ
  own k = length (list_at bs k)

  scratch-leaf : scratch_at bs 0 ≡ zeros (start_at bs 0) ++ (zeros (own 0) ++ [])
  unfolding scratch_at
  scratch-leaf =
      let e : length bs ≡ start_at bs 0 + own 0 = sym (list-in bs starts known 0 (omega arith)) in
      ap zeros e ∙ sym (replicate-append-replicate (start_at bs 0) (own 0) 0) ∙ ap (λ (r : List ℕ). zeros (start_at bs 0) ++ r) (sym (append-nil (zeros (own 0))))

  leaf-marked : zeros (start_at bs 0) ++ (leaf_marks (list_at bs 0) (zeros (own 0)) ++ []) ≡ scratch_at bs 1
  unfolding scratch_at marks_tail marks_at
  leaf-marked =
      ap (λ (r : List ℕ). zeros (start_at bs 0) ++ r)
      (append-nil (leaf_marks (list_at bs 0) (zeros (own 0))) ∙ ap (λ (ps : List ℕ). marks_on (leaf_symmetry (list_at bs 0)) 8 ps (zeros (own 0))) (sym (places-leaf bs starts known)))

  -- what follows the marks of list k
  abbrev after : ℕ → List ℕ
  after zero = []
  after (suc k) = marks_tail bs k

  tail-is : (k : ℕ) → marks_tail bs k ≡ marks_at bs k ++ after k
  unfolding marks_tail
  tail-is zero = sym (append-nil (marks_at bs 0))
  tail-is (suc k) = refl

  scratch-inner : (k : ℕ) → suc k ≤ top_of bs → scratch_at bs (suc k) ≡ zeros (start_at bs (suc k)) ++ ((zeros (own (suc k)) ++ marks_at bs k) ++ after k)
  unfolding scratch_at
  scratch-inner k h =
      ap₂ ◌++◌ (ap zeros (sym (list-in bs starts known (suc k) h)) ∙ sym (replicate-append-replicate (start_at bs (suc k)) (own (suc k)) 0)) (tail-is k)
      ∙ append_assoc (zeros (start_at bs (suc k))) (zeros (own (suc k))) (marks_at bs k ++ after k)
      ∙ ap (λ (r : List ℕ). zeros (start_at bs (suc k)) ++ r) (sym (append_assoc (zeros (own (suc k))) (marks_at bs k) (after k)))

  inner-marked : (k : ℕ) → suc k ≤ top_of bs
      → zeros (start_at bs (suc k)) ++ (record_marks (unit_at k) (marks_at bs k) (list_at bs (suc k)) (zeros (own (suc k)) ++ marks_at bs k) ++ after k) ≡ scratch_at bs (suc (suc k))
  unfolding scratch_at marks_tail marks_at
  inner-marked k h =
      let l : List ℕ = list_at bs (suc k) in
      let f : ℕ → ℕ = record_symmetry (unit_at k) (marks_at bs k) l in
      ap (λ (r : List ℕ). zeros (start_at bs (suc k)) ++ r)
      (ap (λ (r : List ℕ). r ++ after k) (marks-first f 2 (places_in l) (zeros (own (suc k))) (marks_at bs k)
      (λ p t. subst (λ (n : ℕ). 2 * p < n) (sym (length-replicate (own (suc k)) 0)) (in-inside l (length l / 2) 0 p t)))
      ∙ append_assoc (marks_on f 2 (places_in l) (zeros (own (suc k)))) (marks_at bs k) (after k)
      ∙ ap₂ (λ (ps r : List ℕ). marks_on f 2 ps (zeros (own (suc k))) ++ r) (sym (places-inner bs starts known k h)) (sym (tail-is k)))

  tail-length : (k : ℕ) → k ≤ top_of bs → length (marks_tail bs k) ≡ tail_at bs k
  unfolding marks_tail tail_at
  tail-length zero h = marks_at-length bs 0 ∙ list_length bs (sized bs starts known) 0 h
  tail-length (suc k) h =
      length-append (marks_at bs (suc k)) (marks_tail bs k) ∙ omega (arith, marks_at-length bs (suc k), list_length bs (sized bs starts known) (suc k) h, tail-length k (omega arith))

  pub scratch-length : (k : ℕ) → k ≤ suc (top_of bs) → length (scratch_at bs k) ≡ length bs
  unfolding scratch_at
  scratch-length zero h = length-replicate (length bs) 0
  scratch-length (suc k) h =
      length-append (zeros (start_at bs k)) (marks_tail bs k) ∙ omega (arith, length-replicate {A = ℕ} (start_at bs k) 0, tail-length k (omega arith), start_in_lem bs starts known k (omega arith))

  -- the mark of the first record stands where its list starts
  pub first-mark : (k : ℕ) → 0 < own k → get_or (scratch_at bs (suc k)) (start_at bs k) 0 ≡ get_or (marks_at bs k) 0 0
  unfolding scratch_at
  first-mark k p =
      let n : start_at bs k ≡ length (zeros (start_at bs k)) + 0 = omega (arith, length-replicate {A = ℕ} (start_at bs k) 0) in
      ap (λ (i : ℕ). get_or (zeros (start_at bs k) ++ marks_tail bs k) i 0) n ∙ get_or-append-add (zeros (start_at bs k)) (marks_tail bs k) 0 0
      ∙ ap (λ (l : List ℕ). get_or l 0 0) (tail-is k) ∙ get_or-append (marks_at bs k) (after k) 0 0 (subst (λ (m : ℕ). 0 < m) (sym (marks_at-length bs k)) p)

  -- ---- one list done

  -- the part of list 0 is zero, and put back with its marks the scratch is that after list 0
  pub leaf-part : (a m : ℕ) → a ≡ start_at bs 0 → m ≡ own 0 → take m (drop a (scratch_at bs 0)) ≡ zeros (own 0)
  leaf-part a m ea em =
      rw (ea, em, scratch-leaf) (part-is (zeros (start_at bs 0)) (zeros (own 0)) [] (start_at bs 0) (own 0) (length-replicate (start_at bs 0) 0) (length-replicate (own 0) 0))

  pub leaf-back : (a m : ℕ) → a ≡ start_at bs 0 → m ≡ own 0 → (ys : List ℕ) → ys ≡ leaf_marks (list_at bs 0) (zeros (own 0))
      → take a (scratch_at bs 0) ++ (ys ++ drop m (drop a (scratch_at bs 0))) ≡ scratch_at bs 1
  leaf-back a m ea em ys ey =
      rw (ea, em) (ap (λ (S : List ℕ). take (start_at bs 0) S ++ (ys ++ drop (own 0) (drop (start_at bs 0) S))) scratch-leaf
      ∙ put_back (zeros (start_at bs 0)) (zeros (own 0)) [] (start_at bs 0) (own 0) (length-replicate (start_at bs 0) 0) (length-replicate (own 0) 0) ys
      ∙ ap (λ (y : List ℕ). zeros (start_at bs 0) ++ (y ++ [])) ey ∙ leaf-marked)

  module _ (k : ℕ) (h : suc k ≤ top_of bs) where
    abbrev shares : List ℕ
    shares = zeros (own (suc k)) ++ marks_at bs k

    abbrev wide : ℕ
    wide = own (suc k) + own k

    wide_is : length shares ≡ wide
    wide_is = length-append (zeros (own (suc k))) (marks_at bs k) ∙ ap₂ ◌+◌ (length-replicate (own (suc k)) 0) (marks_at-length bs k)

    pub inner-part : (a m : ℕ) → a ≡ start_at bs (suc k) → m ≡ wide → take m (drop a (scratch_at bs (suc k))) ≡ shares
    inner-part a m ea em =
        rw (ea, em, scratch-inner k h) (part-is (zeros (start_at bs (suc k))) shares (after k) (start_at bs (suc k)) wide (length-replicate (start_at bs (suc k)) 0) wide_is)

    pub inner_back : (a m : ℕ) → a ≡ start_at bs (suc k) → m ≡ wide → (ys : List ℕ) → ys ≡ record_marks (unit_at k) (marks_at bs k) (list_at bs (suc k)) shares
        → take a (scratch_at bs (suc k)) ++ (ys ++ drop m (drop a (scratch_at bs (suc k)))) ≡ scratch_at bs (suc (suc k))
    inner_back a m ea em ys ey =
        rw (ea, em) (ap (λ (S : List ℕ). take (start_at bs (suc k)) S ++ (ys ++ drop wide (drop (start_at bs (suc k)) S))) (scratch-inner k h)
        ∙ put_back (zeros (start_at bs (suc k))) shares (after k) (start_at bs (suc k)) wide (length-replicate (start_at bs (suc k)) 0) wide_is ys
        ∙ ap (λ (y : List ℕ). zeros (start_at bs (suc k)) ++ (y ++ after k)) ey ∙ inner-marked k h)

    pub shares-long : own (suc k) ≤ length shares
    shares-long = omega (arith, wide_is)

    -- the shares: the list's own, zero, and the marks one list down
    pub shares-own : take (own (suc k)) shares ≡ zeros (own (suc k))
    shares-own = take_at (zeros (own (suc k))) (marks_at bs k) (own (suc k)) (length-replicate (own (suc k)) 0)

    pub shares-marks : drop (own (suc k)) shares ≡ marks_at bs k
    shares-marks = drop_at (zeros (own (suc k))) (marks_at bs k) (own (suc k)) (length-replicate (own (suc k)) 0)
