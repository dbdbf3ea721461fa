-- Lists read back as cells: pointers by number again, so that a list's cells and the rule on its pointers follow from its bytes; and leaves.
-- By induction along a cell and along a list. Assumes nothing.
use mathlib.Core.Path.{◌≡◌, refl, sym, ◌∙◌, subst, ap, ap₂}
use mathlib.Core.List.{List, [], ◌∷◌, ◌++◌, map, map-map, append_assoc, append-nil}
use mathlib.Core.Logic.{inl, inr}
use Prim.Native.Nat.{ℕ, suc, ◌+◌, ◌*◌, ◌<◌}
use native.Mathlib.Omega.{arith}
use borrow.Author.Tests.{ne_eqb, lt-ltb}
use lib.Dec.{T, eqb_refl}
use lib.ListN.{length, get_or, drop, length-append}
use lib.Seq.{drop_at, drop-drop}
use Rattle.paper.specs.Numbers.{bytes, num, flatten, count, all_in, is_in}
use Rattle.paper.specs.Store.{Cell, cell_no, leaf_no}
use Rattle.paper.specs.Packed.{pointers_at, leaf_at, leaf_ok, code_for, by_number, packed_pointer_ok}
use Rattle.paper.specs.Pack.{place_of, leaf_bytes, places_from}
use Rattle.laws.proofs.Tests.{T_true}
use Rattle.laws.proofs.Lists.{Once, index-get_or, is_in-get_or, all_in-map}
use Rattle.laws.proofs.Bytes.{bytes-length}
use Rattle.laws.proofs.Invariant.{TwoWords}
use Rattle.laws.proofs.RecordSizes.{some-code, code-pos}
use Rattle.laws.proofs.RecordReading.{num-bytes, OkPackedPointer, packed_pointer_for, no-packed_pointer, some-packed_pointer, word_some, Row, ListRead}

-- ---- pointers by number again

module _ (ps : List ℕ) (once : Once ps) where
  number-back : (p : ℕ) → OkPackedPointer (length ps) p → by_number ps (packed_pointer_for ps p) ≡ p
  number-back p (inl e) = rw (no-packed_pointer ps p e) (sym e)
  number-back p (inr w) =
      let h : cell_no p < length ps = omega arith in
      let n : (code_for (place_of ps p) ≡ 0 → ⊥) = λ e. omega (arith, code-pos ps p (word_some ps p w), some-code ps p (word_some ps p w)) in
      rw (some-packed_pointer ps p (word_some ps p w), ne_eqb (code_for (place_of ps p)) 0 n, index-get_or ps once (cell_no p) h) (omega arith)

  packed_pointer-good : (p : ℕ) → OkPackedPointer (length ps) p → T (packed_pointer_ok ps (packed_pointer_for ps p))
  unfolding packed_pointer_ok
  packed_pointer-good p (inl e) = rw (no-packed_pointer ps p e) tt
  packed_pointer-good p (inr w) =
      let h : cell_no p < length ps = omega arith in
      let n : (code_for (place_of ps p) ≡ 0 → ⊥) = λ e. omega (arith, code-pos ps p (word_some ps p w), some-code ps p (word_some ps p w)) in
      rw (some-packed_pointer ps p (word_some ps p w), ne_eqb (code_for (place_of ps p)) 0 n, T_true {b = is_in (place_of ps p) ps} (is_in-get_or ps (cell_no p) h)) (eqb_refl (code_for (place_of ps p)))

  cell-back : (c : Cell) → ((i : ℕ) → OkPackedPointer (length ps) (get_or c i 0)) → map (by_number ps) (map (packed_pointer_for ps) c) ≡ c
  cell-back [] h = refl
  cell-back (p ∷ c) h = λ i. number-back p (h 0) i ∷ cell-back c (λ j. h (suc j)) i

  cell-good : (c : Cell) → ((i : ℕ) → OkPackedPointer (length ps) (get_or c i 0)) → T (all_in (packed_pointer_ok ps) (map (packed_pointer_for ps) c))
  unfolding all_in
  cell-good [] h = tt
  cell-good (p ∷ c) h = rw (T_true {b = packed_pointer_ok ps (packed_pointer_for ps p)} (packed_pointer-good p (h 0))) (cell-good c (λ j. h (suc j)))

  rows_back : (cs : List Cell) → ((q : ℕ) → q < length cs → Row (length ps) (get_or cs q [])) → map (map (by_number ps)) (map (map (packed_pointer_for ps)) cs) ≡ cs
  rows_back [] h = refl
  rows_back (c ∷ cs) h = λ i. cell-back c (h 0 (omega arith)).pointers i ∷ rows_back cs (λ q m. h (suc q) (omega arith)) i

  rows-good : (cs : List Cell) → ((q : ℕ) → q < length cs → Row (length ps) (get_or cs q [])) → T (all_in (all_in (packed_pointer_ok ps)) (map (map (packed_pointer_for ps)) cs))
  unfolding all_in
  rows-good [] h = tt
  rows-good (c ∷ cs) h =
      rw (T_true {b = all_in (packed_pointer_ok ps) (map (packed_pointer_for ps) c)} (cell-good c (h 0 (omega arith)).pointers)) (rows-good cs (λ q m. h (suc q) (omega arith)))

  -- a list's cells, and its pointers' rule
  pub list_back : (l : List ℕ) (a : ℕ) (cs : List Cell) → ((q : ℕ) → q < length cs → Row (length ps) (get_or cs q [])) → ListRead ps l a cs
      → map (λ p. map (by_number ps) (pointers_at l p)) (places_from ps a cs) ≡ cs
  list_back l a cs h r =
      sym (map-map (map (by_number ps)) (pointers_at l) (places_from ps a cs)) ∙ ap (map (map (by_number ps))) r.pointers ∙ rows_back cs h

  pub list-good : (l : List ℕ) (a : ℕ) (cs : List Cell) → ((q : ℕ) → q < length cs → Row (length ps) (get_or cs q [])) → ListRead ps l a cs
      → T (all_in (λ p. all_in (packed_pointer_ok ps) (pointers_at l p)) (places_from ps a cs))
  list-good l a cs h r =
      subst T (ap (all_in (all_in (packed_pointer_ok ps))) (sym r.pointers) ∙ all_in-map (all_in (packed_pointer_ok ps)) (pointers_at l) (places_from ps a cs)) (rows-good cs h)

-- ---- leaves

-- two words, not both zero
pub record LeafRow (c : Cell) : Type 0 where
  pub two : TwoWords c
  pub solid : 0 < leaf_no c

pub leaf-words : (c : Cell) → LeafRow c → length c ≡ 2
leaf-words c r = ap length r.two.is

leaf-length : (c : Cell) → length c ≡ 2 → length (leaf_bytes c) ≡ 8
unfolding leaf_bytes flatten bytes
leaf-length [] e = absurd (omega (arith, e))
leaf-length (a ∷ []) e = absurd (omega (arith, e))
leaf-length (a ∷ b ∷ []) e = refl
leaf-length (a ∷ b ∷ d ∷ c) e = absurd (omega (arith, e))

leaf-read : (l before rest : List ℕ) (a : ℕ) (c : Cell) → LeafRow c → length before ≡ 8 * a → l ≡ before ++ (leaf_bytes c ++ rest) → leaf_at l a ≡ c
unfolding leaf_at leaf_bytes flatten
leaf-read l before rest a c r n e = ap₂ (λ (x y : ℕ). x ∷ y ∷ []) first second ∙ sym r.two.is
  where
    two : leaf_bytes c ++ rest ≡ bytes 4 r.two.high ++ (bytes 4 r.two.low ++ rest)
    two = ap (λ (d : Cell). leaf_bytes d ++ rest) r.two.is ∙ simp (append_assoc, append-nil)

    dropped : drop (8 * a) l ≡ bytes 4 r.two.high ++ (bytes 4 r.two.low ++ rest)
    dropped = ap (drop (8 * a)) e ∙ drop_at before (leaf_bytes c ++ rest) (8 * a) n ∙ two

    first : num 4 (drop (8 * a) l) ≡ r.two.high
    first = ap (num 4) dropped ∙ num-bytes 4 r.two.high (bytes 4 r.two.low ++ rest) r.two.high_word

    second : num 4 (drop (8 * a + 4) l) ≡ r.two.low
    second =
        ap (num 4) (sym (drop-drop 4 (8 * a) l) ∙ ap (drop 4) dropped ∙ drop_at (bytes 4 r.two.high) (bytes 4 r.two.low ++ rest) 4 (bytes-length 4 r.two.high))
        ∙ num-bytes 4 r.two.low rest r.two.low_word

pub record LeavesRead (l : List ℕ) (a : ℕ) (cs : List Cell) : Type 0 where
  pub cells : map (leaf_at l) (count a (length cs)) ≡ cs
  pub good : T (all_in (leaf_ok l) (count a (length cs)))

pub leaves-read : (l before : List ℕ) (a : ℕ) (cs : List Cell) → ((q : ℕ) → q < length cs → LeafRow (get_or cs q [])) → length before ≡ 8 * a
    → l ≡ before ++ flatten (map leaf_bytes cs) → LeavesRead l a cs
unfolding flatten count all_in leaf_ok
leaves-read l before a [] rows n e = record { cells = refl; good = tt }
leaves-read l before a (c ∷ cs) rows n e =
    let row : LeafRow c = rows 0 (omega arith) in
    let rest : List ℕ = flatten (map leaf_bytes cs) in
    let here : leaf_at l a ≡ c = leaf-read l before rest a c row n e in
    let more : LeavesRead l (suc a) cs =
    leaves-read l (before ++ leaf_bytes c) (suc a) cs (λ q h. rows (suc q) (omega arith))
    (length-append before (leaf_bytes c) ∙ omega (arith, leaf-length c (leaf-words c row))) (e ∙ sym (append_assoc before (leaf_bytes c) rest)) in
    record {
      cells = λ i. here i ∷ more.cells i;
      good = rw (here, lt-ltb 0 (leaf_no c) row.solid) more.good;
    }

pub leaves-length : (cs : List Cell) → ((q : ℕ) → q < length cs → length (get_or cs q []) ≡ 2) → length (flatten (map leaf_bytes cs)) ≡ 8 * length cs
unfolding flatten
leaves-length [] rows = refl
leaves-length (c ∷ cs) rows =
    length-append (leaf_bytes c) (flatten (map leaf_bytes cs)) ∙ omega (arith, leaf-length c (rows 0 (omega arith)), leaves-length cs (λ q h. rows (suc q) (omega arith)))
