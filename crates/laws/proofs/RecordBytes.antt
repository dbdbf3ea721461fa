-- Numbers, pointers, records and lists as bytes: what is read is written back as the bytes that it was read from. By induction along a record's
-- pointers and along a list's records; a pointer's place is found again under its record's number. Assumes nothing.
use mathlib.Core.Path.{◌≡◌, refl, sym, ◌∙◌, subst, ap, ap₂}
use mathlib.Core.Bool.{Bool, true, false, cond, ◌&&◌}
use mathlib.Core.List.{List, [], ◌∷◌, ◌++◌, map, append-nil}
use Prim.Native.Nat.{ℕ, zero, suc, ◌+◌, ◌-◌, ◌*◌, ◌/◌, ◌%◌, ◌^◌, ◌<◌, ◌≤◌}
use native.Mathlib.Nat.{div-add-mod'}
use native.Mathlib.Omega.{arith}
use borrow.Author.Tests.{eqb-true, eqb-false, ltb-false}
use lib.Dec.{T, eqb, ltb, eqb→eq, leb→le}
use lib.ListN.{length, get_or, take, drop, take-append-drop, length-drop, drop_of_length-le}
use lib.Seq.{length-take-le, take-add, drop-drop}
use Rattle.paper.specs.Numbers.{bytes, num, flatten, count, all_in, is_in, index_in}
use Rattle.paper.specs.Store.{Cell, tag_of, pointer}
use Rattle.paper.specs.Packed.{header_at, halves, PackedPointer, pointer_of, read_pointers, pointers_at, leaf_at, record_ok, code_for, starts_from, by_number, packed_pointer_ok}
use Rattle.paper.specs.Pack.{place_of, code, pointer_bytes, header, width, record_bytes, leaf_bytes, places_from}
use Rattle.paper.specs.Runs.{Bytes}
use Rattle.laws.proofs.Tests.{and_left, and_right}
use Rattle.laws.proofs.Lists.{all_in-head, all_in-tail, is_in-at}
use Rattle.laws.proofs.Bytes.{bytes_take, bytes_drop, bytes-be}
use Rattle.laws.proofs.Adding.{pointer-cell, pointer-tag}
use Rattle.laws.proofs.RecordSizes.{no_code, no_bytes, some-code, some_bytes}
use Rattle.laws.proofs.PackedLists.{num2-lt, packed_pointer-fits, halves-one, packed_pointer-some}

-- a number
pub bytes-num : (n : ℕ) (l : List ℕ) → Bytes l → n ≤ length l → bytes n (num n l) ≡ take n l
bytes-num n l b h = subst (λ (m : ℕ). bytes m (num n l) ≡ take n l) (length-take-le n l h) (bytes-be (take n l) 0 (bytes_take n l b))

-- ---- records; ps: where those of the next list start, whose numbers fit a pointer

module _ (ps : List ℕ) (small : (p : ℕ) → T (is_in p ps) → p < 2 ^ 29 → suc (index_in p ps) < 2 ^ 29) where
  -- a pointer p of code c, read from l
  record PointerBack (c : ℕ) (l : List ℕ) (p : ℕ) : Type 0 where
    is_code : code ps p ≡ c
    are-bytes : pointer_bytes ps p ≡ take (2 * c) l

  pointer_back : (c : ℕ) (l : List ℕ) → Bytes l → 2 * c ≤ length l → T (packed_pointer_ok ps (pointer_of c (num (2 * c) l))) → PointerBack c l (by_number ps (pointer_of c (num (2 * c) l)))
  unfolding packed_pointer_ok
  pointer_back c l b h t = go (eqb c 0) refl t
    where
      v : ℕ
      v = num (2 * c) l

      unit : ℕ
      unit = 2 ^ (16 * c - 3)

      r : PackedPointer
      r = pointer_of c v

      go : (z : Bool) → eqb c 0 ≡ z → T (cond z true (is_in r.place ps && eqb c (code_for r.place))) → PointerBack c l (by_number ps r)
      go true e s = rw (eqb-true c 0 e) (record { is_code = no_code ps 0 refl; are-bytes = no_bytes ps 0 refl })
      go false e s =
          let i : T (is_in r.place ps) = and_left (is_in r.place ps) (eqb c (code_for r.place)) s in
          let w : c ≡ code_for r.place = eqb→eq c (code_for r.place) (and_right (is_in r.place ps) (eqb c (code_for r.place)) s) in
          let fit : (r.tag < 8) × (r.place < 2 ^ 29) = packed_pointer-fits c l b w in
          let n : ℕ = index_in r.place ps in
          let m : suc n < 2 ^ 29 = small r.place i fit.1 in
          let p : ℕ = pointer r.tag n in
          let some : p ≡ 0 → ⊥ = λ q. omega arith in
          let at : place_of ps p ≡ r.place = ap (λ (x : ℕ). get_or ps x 0) (pointer-cell r.tag n m) ∙ (is_in-at r.place ps i).is in
          let short : code_for (place_of ps p) ≡ c = ap code_for at ∙ sym w in
          rw (packed_pointer-some ps r (eqb-false c 0 e)) (record {
            is_code = some-code ps p some ∙ short;
            are-bytes =
                some_bytes ps p some
                ∙ ap₂ (λ (x y : ℕ). bytes (2 * x) (tag_of p * 2 ^ (16 * x - 3) + y)) short at
                ∙ ap (λ (x : ℕ). bytes (2 * c) (x * unit + r.place)) (pointer-tag r.tag n fit.0 m)
                ∙ ap (bytes (2 * c)) (div-add-mod' v unit)
                ∙ bytes-num (2 * c) l b h;
          })

  -- a cell c of n pointers with the codes of h, read from l
  record PointersBack (n h : ℕ) (l : List ℕ) (c : Cell) : Type 0 where
    is-header : header ps c ≡ h
    is-width : width ps c ≡ halves n h
    are-bytes : flatten (map (pointer_bytes ps) c) ≡ take (2 * (halves n h - 1)) l

  pointers-back : (n h : ℕ) (l : List ℕ) → Bytes l → h < 4 ^ n → 2 * halves n h ≤ length l + 2 → T (all_in (packed_pointer_ok ps) (read_pointers n h l))
      → PointersBack n h l (map (by_number ps) (read_pointers n h l))
  unfolding read_pointers halves header width flatten
  pointers-back zero h l b m room t = record { is-header = omega arith; is-width = refl; are-bytes = refl }
  pointers-back (suc n) h l b m room t =
      let c : ℕ = h % 4 in
      let r : PackedPointer = pointer_of c (num (2 * c) l) in
      let rest : List ℕ = drop (2 * c) l in
      let one : 1 ≤ halves n (h / 4) = halves-one n (h / 4) in
      let a : PointerBack c l (by_number ps r) = pointer_back c l b (omega arith) (all_in-head (packed_pointer_ok ps) r (read_pointers n (h / 4) rest) t) in
      let more : PointersBack n (h / 4) rest (map (by_number ps) (read_pointers n (h / 4) rest)) =
      pointers-back n (h / 4) rest (bytes_drop (2 * c) l b) (omega arith) (omega (arith, length-drop (2 * c) l)) (all_in-tail (packed_pointer_ok ps) r (read_pointers n (h / 4) rest) t) in
      let sum : 2 * c + 2 * (halves n (h / 4) - 1) ≡ 2 * (c + halves n (h / 4) - 1) = omega arith in
      record {
        is-header = omega (arith, a.is_code, more.is-header);
        is-width = ap₂ ◌+◌ a.is_code more.is-width;
        are-bytes =
            ap₂ ◌++◌ a.are-bytes more.are-bytes
            ∙ sym (take-add (2 * c) (2 * (halves n (h / 4) - 1)) l)
            ∙ ap (λ (x : ℕ). take x l) sum;
      }

  -- the cell of the record at place p of the list's bytes l
  abbrev pub cell_read : List ℕ → ℕ → Cell
  cell_read l p = map (by_number ps) (pointers_at l p)

  record RecordBack (l : List ℕ) (p : ℕ) (c : Cell) : Type 0 where
    is-width : width ps c ≡ halves 8 (header_at l p)
    are-bytes : record_bytes ps c ≡ take (2 * halves 8 (header_at l p)) (drop (2 * p) l)

  record-back : (l : List ℕ) (p : ℕ) → Bytes l → T (record_ok l p) → T (all_in (packed_pointer_ok ps) (pointers_at l p)) → RecordBack l p (cell_read l p)
  unfolding record_ok pointers_at record_bytes
  record-back l p b o t =
      let h : ℕ = header_at l p in
      let room : 2 * (p + halves 8 h) ≤ length l = leb→le (2 * (p + halves 8 h)) (length l) (search and_right) in
      let one : 1 ≤ halves 8 h = halves-one 8 h in
      let here : List ℕ = drop (2 * p) l in
      let r : PointersBack 8 h (drop (2 * p + 2) l) (cell_read l p) =
      pointers-back 8 h (drop (2 * p + 2) l) (bytes_drop (2 * p + 2) l b) (omega (arith, num2-lt here (bytes_drop (2 * p) l b))) (omega (arith, length-drop (2 * p + 2) l)) t in
      let sum : 2 + 2 * (halves 8 h - 1) ≡ 2 * halves 8 h = omega arith in
      record {
        is-width = r.is-width;
        are-bytes =
            ap₂ ◌++◌ (ap (bytes 2) r.is-header ∙ bytes-num 2 here (bytes_drop (2 * p) l b) (omega (arith, length-drop (2 * p) l)))
            (r.are-bytes ∙ ap (take (2 * (halves 8 h - 1))) (sym (drop-drop 2 (2 * p) l)))
            ∙ sym (take-add 2 (2 * (halves 8 h - 1)) here)
            ∙ ap (λ (x : ℕ). take x here) sum;
      }

  -- ---- a list, from its record at place a on; ss: where its records start

  pub record ListBack (l : List ℕ) (a : ℕ) (ss : List ℕ) : Type 0 where
    pub are-places : places_from ps a (map (cell_read l) ss) ≡ ss
    pub are-bytes : flatten (map (record_bytes ps) (map (cell_read l) ss)) ≡ drop (2 * a) l

  pub list_back : (l : List ℕ) → Bytes l → (n a : ℕ) → length l ≤ 2 * (a + n) → T (all_in (record_ok l) (starts_from l n a))
      → T (all_in (λ p. all_in (packed_pointer_ok ps) (pointers_at l p)) (starts_from l n a)) → ListBack l a (starts_from l n a)
  unfolding starts_from places_from flatten
  list_back l b zero a m = λ o t. record { are-places = refl; are-bytes = sym (drop_of_length-le l {i = 2 * a} (omega arith)) }
  list_back l b (suc n) a m = go (ltb (2 * a) (length l)) refl (list_back l b n (a + halves 8 (header_at l a)) (omega (arith, halves-one 8 (header_at l a))))
    where
      w : ℕ
      w = halves 8 (header_at l a)

      ss : List ℕ
      ss = starts_from l n (a + w)

      pointers : ℕ → Bool
      pointers p = all_in (packed_pointer_ok ps) (pointers_at l p)

      go : (c : Bool) → ltb (2 * a) (length l) ≡ c → (T (all_in (record_ok l) ss) → T (all_in pointers ss) → ListBack l (a + w) ss)
          → T (all_in (record_ok l) (cond c (a ∷ ss) [])) → T (all_in pointers (cond c (a ∷ ss) [])) → ListBack l a (cond c (a ∷ ss) [])
      go false e ih o t = record { are-places = refl; are-bytes = sym (drop_of_length-le l {i = 2 * a} (ltb-false (2 * a) (length l) e)) }
      go true e ih o t =
          let r : RecordBack l a (cell_read l a) = record-back l a b (all_in-head (record_ok l) a ss o) (all_in-head pointers a ss t) in
          let more : ListBack l (a + w) ss = ih (all_in-tail (record_ok l) a ss o) (all_in-tail pointers a ss t) in
          let sum : 2 * (a + w) ≡ 2 * a + 2 * w = omega arith in
          let on : drop (2 * (a + w)) l ≡ drop (2 * w) (drop (2 * a) l) = ap (λ (x : ℕ). drop x l) sum ∙ sym (drop-drop (2 * w) (2 * a) l) in
          record {
            are-places = ap (◌∷◌ a) (ap (λ (x : ℕ). places_from ps (a + x) (map (cell_read l) ss)) r.is-width ∙ more.are-places);
            are-bytes = ap₂ ◌++◌ r.are-bytes (more.are-bytes ∙ on) ∙ take-append-drop (2 * w) (drop (2 * a) l);
          }

-- ---- leaves, from number a on

leaf-back : (l : List ℕ) (p : ℕ) → Bytes l → 8 * p + 8 ≤ length l → leaf_bytes (leaf_at l p) ≡ take 8 (drop (8 * p) l)
unfolding leaf_bytes leaf_at flatten
leaf-back l p b m =
    let here : List ℕ = drop (8 * p) l in
    let next : List ℕ = drop (8 * p + 4) l in
    ap₂ ◌++◌ (bytes-num 4 here (bytes_drop (8 * p) l b) (omega (arith, length-drop (8 * p) l)))
    (append-nil (bytes 4 (num 4 next)) ∙ bytes-num 4 next (bytes_drop (8 * p + 4) l b) (omega (arith, length-drop (8 * p + 4) l)) ∙ ap (take 4) (sym (drop-drop 4 (8 * p) l)))
    ∙ sym (take-add 4 4 here)

pub leaves-back : (l : List ℕ) → Bytes l → (n a : ℕ) → length l ≡ 8 * (a + n) → flatten (map leaf_bytes (map (leaf_at l) (count a n))) ≡ drop (8 * a) l
unfolding flatten count
leaves-back l b zero a m = sym (drop_of_length-le l {i = 8 * a} (omega arith))
leaves-back l b (suc n) a m =
    let sum : 8 * suc a ≡ 8 * a + 8 = omega arith in
    let on : drop (8 * suc a) l ≡ drop 8 (drop (8 * a) l) = ap (λ (x : ℕ). drop x l) sum ∙ sym (drop-drop 8 (8 * a) l) in
    ap₂ ◌++◌ (leaf-back l a b (omega arith)) (leaves-back l b n (suc a) (omega arith) ∙ on) ∙ take-append-drop 8 (drop (8 * a) l)
