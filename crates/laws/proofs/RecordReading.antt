-- Pointers, records and lists as bytes: what is written is read back. By induction along a cell's pointers and along a list's cells: a list's bytes
-- are split into what stands before a place, the record there, and the rest. Assumes nothing.
use mathlib.Core.Path.{◌≡◌, refl, sym, ◌∙◌, subst, ap}
use mathlib.Core.Bool.{Bool, true, false, cond}
use mathlib.Core.List.{List, [], ◌∷◌, ◌++◌, map, append_assoc, append-nil}
use mathlib.Core.Logic.{◌⊎◌, inl, inr}
use Prim.Native.Nat.{ℕ, zero, suc, ◌+◌, ◌-◌, ◌*◌, ◌/◌, ◌%◌, ◌^◌, ◌<◌, ◌≤◌}
use native.Mathlib.Nat.{le_of_suc-le-suc, not-suc-le-zero, mod-eq_of_lt}
use native.Mathlib.Omega.{arith}
use borrow.Author.Tests.{eq-eqb, ne_eqb, lt-ltb, le-ltb, le-leb, leb-true}
use lib.Dec.{T, eqb, leb}
use lib.ListN.{length, get_or, drop, length-append}
use lib.Seq.{take_at, drop_at, drop-drop}
use Rattle.paper.specs.Numbers.{be, bytes, num, flatten, all_in}
use Rattle.paper.specs.Store.{Cell, cell_no, tag_of}
use Rattle.paper.specs.Packed.{header_at, halves, codes_ok, PackedPointer, pointer_of, no_pointer, read_pointers, pointers_at, record_ok, farthest_short, code_for, starts_from}
use Rattle.paper.specs.Pack.{place_of, code, pointer_bytes, header, width, record_bytes, places_from, size_of}
use Rattle.laws.proofs.Tests.{T_true}
use Rattle.laws.proofs.Bytes.{bytes-length, be-bytes}
use Rattle.laws.proofs.Invariant.{Names}
use Rattle.laws.proofs.RecordSizes.{no_code, no_bytes, some-code, some_bytes, code-le, width-pos, header-lt, header-pos, record-length}

pub num-bytes : (n v : ℕ) (rest : List ℕ) → v < 256 ^ n → num n (bytes n v ++ rest) ≡ v
num-bytes n v rest h =
    ap (be 0) (take_at (bytes n v) rest n (bytes-length n v)) ∙ be-bytes n v 0 ∙ omega (arith, mod-eq_of_lt h)

-- ---- one pointer

-- none, or a word that names one of n
pub record NamesWord (n p : ℕ) : Type 0 where
  pub names : Names n p
  pub small : p < 2 ^ 32

abbrev pub OkPackedPointer : ℕ → ℕ → Type 0
OkPackedPointer n p = (p ≡ 0) ⊎ NamesWord n p

-- what the file says of it
unfoldable pub packed_pointer_for : List ℕ → ℕ → PackedPointer
packed_pointer_for ps p = cond (eqb p 0) no_pointer (record { code = code_for (place_of ps p); tag = tag_of p; place = place_of ps p })

record PointerRead (ps : List ℕ) (p : ℕ) (rest : List ℕ) : Type 0 where
  pointer : pointer_of (code ps p) (num (2 * code ps p) (pointer_bytes ps p ++ rest)) ≡ packed_pointer_for ps p
  after : drop (2 * code ps p) (pointer_bytes ps p ++ rest) ≡ rest

-- by its width
Writes : ℕ → ℕ → ℕ → List ℕ → Type 0
Writes c t l rest = pointer_of c (num (2 * c) (bytes (2 * c) (t * 2 ^ (16 * c - 3) + l) ++ rest)) ≡ record { code = c; tag = t; place = l }

short-read : (t l : ℕ) (rest : List ℕ) → t < 8 → l ≤ farthest_short → Writes 1 t l rest
unfolding Writes
short-read t l rest ht hl =
    let e : num 2 (bytes 2 (t * 2 ^ 13 + l) ++ rest) ≡ t * 2 ^ 13 + l = num-bytes 2 (t * 2 ^ 13 + l) rest (omega arith) in
    let a : (t * 2 ^ 13 + l) / 2 ^ 13 ≡ t = omega arith in
    let b : (t * 2 ^ 13 + l) % 2 ^ 13 ≡ l = omega arith in
    rw (e, a, b)

long-read : (t l : ℕ) (rest : List ℕ) → t < 8 → l < 2 ^ 29 → Writes 2 t l rest
unfolding Writes
long-read t l rest ht hl =
    let e : num 4 (bytes 4 (t * 2 ^ 29 + l) ++ rest) ≡ t * 2 ^ 29 + l = num-bytes 4 (t * 2 ^ 29 + l) rest (omega arith) in
    let a : (t * 2 ^ 29 + l) / 2 ^ 29 ≡ t = omega arith in
    let b : (t * 2 ^ 29 + l) % 2 ^ 29 ≡ l = omega arith in
    rw (e, a, b)

some_read : (t l : ℕ) (rest : List ℕ) → t < 8 → l < 2 ^ 29 → Writes (code_for l) t l rest
some_read t l rest ht hl = go (leb l farthest_short) refl
  where
    go : (b : Bool) → leb l farthest_short ≡ b → Writes (cond b 1 2) t l rest
    go true e = short-read t l rest ht (leb-true l farthest_short e)
    go false e = long-read t l rest ht hl

module _ (ps : List ℕ) (p : ℕ) where
  pub no-packed_pointer : p ≡ 0 → packed_pointer_for ps p ≡ no_pointer
  unfolding packed_pointer_for
  no-packed_pointer e = rw (eq-eqb p 0 e)

  pub some-packed_pointer : (p ≡ 0 → ⊥) → packed_pointer_for ps p ≡ record { code = code_for (place_of ps p); tag = tag_of p; place = place_of ps p }
  unfolding packed_pointer_for
  some-packed_pointer n = rw (ne_eqb p 0 n)

  pub word_some : {n : ℕ} → NamesWord n p → p ≡ 0 → ⊥
  word_some w e = omega arith

-- what a cell above a list of n must be: eight pointers, each none or to one of the n
pub record Row (n : ℕ) (c : Cell) : Type 0 where
  pub eight : length c ≡ 8
  pub pointers : (i : ℕ) → OkPackedPointer n (get_or c i 0)

-- not all are none, as a record's test asks
abbrev pub Some : Cell → Type 0
Some c = (i : ℕ) × (get_or c i 0 ≡ 0 → ⊥)

-- the starts and the pointers of a list with bytes l, from place a on, and its tests
pub record ListRead (ps l : List ℕ) (a : ℕ) (cs : List Cell) : Type 0 where
  pub starts : (n : ℕ) → size_of ps cs ≤ n → starts_from l n a ≡ places_from ps a cs
  pub pointers : map (pointers_at l) (places_from ps a cs) ≡ map (map (packed_pointer_for ps)) cs
  pub good : ((q : ℕ) → q < length cs → Some (get_or cs q [])) → T (all_in (record_ok l) (places_from ps a cs))

-- places rise, so each is found again under its number
module _ (ps : List ℕ) where
  pub places-length : (a : ℕ) (cs : List Cell) → length (places_from ps a cs) ≡ length cs
  unfolding places_from
  places-length a [] = refl
  places-length a (c ∷ cs) = ap suc (places-length (a + width ps c) cs)

  places-late : (a : ℕ) (cs : List Cell) (q : ℕ) → q < length cs → a + q ≤ get_or (places_from ps a cs) q 0
  unfolding places_from
  places-late a [] q h = absurd (not-suc-le-zero h)
  places-late a (c ∷ cs) zero h = omega arith
  places-late a (c ∷ cs) (suc q) h = omega (arith, places-late (a + width ps c) cs q (le_of_suc-le-suc h), width-pos ps c)

  pub places-rise : (a : ℕ) (cs : List Cell) (i j : ℕ) → i ≤ j → j < length cs → get_or (places_from ps a cs) i 0 ≤ get_or (places_from ps a cs) j 0
  unfolding places_from
  places-rise a [] i j h g = absurd (not-suc-le-zero g)
  places-rise a (c ∷ cs) zero zero h g = omega arith
  places-rise a (c ∷ cs) zero (suc j) h g = omega (arith, places-late (a + width ps c) cs j (le_of_suc-le-suc g))
  places-rise a (c ∷ cs) (suc i) zero h g = absurd (not-suc-le-zero h)
  places-rise a (c ∷ cs) (suc i) (suc j) h g = places-rise (a + width ps c) cs i j (le_of_suc-le-suc h) (le_of_suc-le-suc g)

  pub places-in : (a : ℕ) (cs : List Cell) (q : ℕ) → q < length cs → get_or (places_from ps a cs) q 0 < a + size_of ps cs
  unfolding places_from size_of
  places-in a [] q h = absurd (not-suc-le-zero h)
  places-in a (c ∷ cs) zero h = omega (arith, width-pos ps c)
  places-in a (c ∷ cs) (suc q) h = omega (arith, places-in (a + width ps c) cs q (le_of_suc-le-suc h))

  pub places-once : (a : ℕ) (cs : List Cell) (i j : ℕ) → i < length cs → j < length cs → get_or (places_from ps a cs) i 0 ≡ get_or (places_from ps a cs) j 0 → i ≡ j
  unfolding places_from
  places-once a [] i j h g e = absurd (not-suc-le-zero h)
  places-once a (c ∷ cs) zero zero h g e = refl
  places-once a (c ∷ cs) zero (suc j) h g e = absurd (omega (arith, e, places-late (a + width ps c) cs j (le_of_suc-le-suc g), width-pos ps c))
  places-once a (c ∷ cs) (suc i) zero h g e = absurd (omega (arith, e, places-late (a + width ps c) cs i (le_of_suc-le-suc h), width-pos ps c))
  places-once a (c ∷ cs) (suc i) (suc j) h g e = ap suc (places-once (a + width ps c) cs i j (le_of_suc-le-suc h) (le_of_suc-le-suc g) e)

module _ (ps : List ℕ) (low : (q : ℕ) → q < length ps → get_or ps q 0 < 2 ^ 29) where
  pointer_read : (p : ℕ) (rest : List ℕ) → OkPackedPointer (length ps) p → PointerRead ps p rest
  unfolding Writes be
  pointer_read p rest (inl e) = record {
    pointer = rw (no_code ps p e, no-packed_pointer ps p e);
    after = rw (no_code ps p e, no_bytes ps p e);
  }
  pointer_read p rest (inr w) =
      let n : p ≡ 0 → ⊥ = word_some ps p w in
      let b : ℕ = 2 * code_for (place_of ps p) in
      let v : ℕ = tag_of p * 2 ^ (16 * code_for (place_of ps p) - 3) + place_of ps p in
      record {
        pointer = rw (some-code ps p n, some_bytes ps p n, some-packed_pointer ps p n) (some_read (tag_of p) (place_of ps p) rest (omega arith) (low (cell_no p) (omega arith)));
        after = rw (some-code ps p n, some_bytes ps p n) (drop_at (bytes b v) rest b (bytes-length b v));
      }

  -- ---- a record

  read_pointers_lem : (c : Cell) (rest : List ℕ) → ((i : ℕ) → OkPackedPointer (length ps) (get_or c i 0))
      → read_pointers (length c) (header ps c) (flatten (map (pointer_bytes ps) c) ++ rest) ≡ map (packed_pointer_for ps) c
  unfolding read_pointers header flatten
  read_pointers_lem [] rest h = refl
  read_pointers_lem (p ∷ c) rest h =
      let more : List ℕ = flatten (map (pointer_bytes ps) c) in
      let r : PointerRead ps p (more ++ rest) = pointer_read p (more ++ rest) (h 0) in
      let a : (code ps p + 4 * header ps c) % 4 ≡ code ps p = omega (arith, code-le ps p) in
      let b : (code ps p + 4 * header ps c) / 4 ≡ header ps c = omega (arith, code-le ps p) in
      rw (append_assoc (pointer_bytes ps p) more rest, a, b, r.pointer, r.after, read_pointers_lem c rest (λ i. h (suc i)))

  halves-is : (c : Cell) → halves (length c) (header ps c) ≡ width ps c
  unfolding halves header width
  halves-is [] = refl
  halves-is (p ∷ c) =
      let a : (code ps p + 4 * header ps c) % 4 ≡ code ps p = omega (arith, code-le ps p) in
      let b : (code ps p + 4 * header ps c) / 4 ≡ header ps c = omega (arith, code-le ps p) in
      rw (a, b, halves-is c)

  codes-are : (c : Cell) → T (codes_ok (length c) (header ps c))
  unfolding codes_ok header
  codes-are [] = tt
  codes-are (p ∷ c) =
      let a : (code ps p + 4 * header ps c) % 4 ≡ code ps p = omega (arith, code-le ps p) in
      let b : (code ps p + 4 * header ps c) / 4 ≡ header ps c = omega (arith, code-le ps p) in
      rw (a, b, ne_eqb (code ps p) 3 (λ e. omega (arith, code-le ps p))) (codes-are c)

  -- ---- a list, from its record at place a on: l is all its bytes, and `before` those in front

  record RecordRead (l : List ℕ) (a : ℕ) (c : Cell) : Type 0 where
    head : halves 8 (header_at l a) ≡ width ps c
    pointers : pointers_at l a ≡ map (packed_pointer_for ps) c
    good : Some c → T (record_ok l a)

  record-read : (l before rest : List ℕ) (a : ℕ) (c : Cell) → Row (length ps) c → length before ≡ 2 * a → l ≡ before ++ (record_bytes ps c ++ rest) → RecordRead l a c
  unfolding record_ok pointers_at record_bytes
  record-read l before rest a c r n e = record {
    head = rw headed wide;
    pointers = rw (headed, pointed) (subst (λ (m : ℕ). read_pointers m h (tail ++ rest) ≡ map (packed_pointer_for ps) c) r.eight (read_pointers_lem c rest r.pointers));
    good = λ s. rw (
      headed,
      wide,
      lt-ltb 0 h (header-pos ps c s.0 s.1),
      T_true {b = codes_ok 8 h} (subst (λ (m : ℕ). T (codes_ok m h)) r.eight (codes-are c)),
      le-leb (2 * (a + width ps c)) (length l) room,
    ) tt;
  }
    where
      h : ℕ
      h = header ps c

      tail : List ℕ
      tail = flatten (map (pointer_bytes ps) c)

      wide : halves 8 h ≡ width ps c
      wide = subst (λ (m : ℕ). halves m h ≡ width ps c) r.eight (halves-is c)

      dropped : drop (2 * a) l ≡ bytes 2 h ++ (tail ++ rest)
      dropped =
          ap (drop (2 * a)) (e ∙ ap (λ (x : List ℕ). before ++ x) (append_assoc (bytes 2 h) tail rest))
          ∙ drop_at before (bytes 2 h ++ (tail ++ rest)) (2 * a) n

      headed : header_at l a ≡ h
      headed = ap (num 2) dropped ∙ num-bytes 2 h (tail ++ rest) (subst (λ (m : ℕ). h < 4 ^ m) r.eight (header-lt ps c))

      pointed : drop (2 * a + 2) l ≡ tail ++ rest
      pointed = sym (drop-drop 2 (2 * a) l) ∙ ap (drop 2) dropped ∙ drop_at (bytes 2 h) (tail ++ rest) 2 (bytes-length 2 h)

      room : 2 * (a + width ps c) ≤ length l
      room = omega (arith, ap length e, length-append before (record_bytes ps c ++ rest), length-append (record_bytes ps c) rest, record-length ps c)

  list-nil : (l : List ℕ) (a : ℕ) → length l ≡ 2 * a → ListRead ps l a []
  unfolding places_from size_of all_in starts_from
  list-nil l a done = record { starts = λ n h. ends n; pointers = refl; good = λ s. tt }
    where
      ends : (n : ℕ) → starts_from l n a ≡ []
      ends zero = refl
      ends (suc n) = rw (le-ltb (2 * a) (length l) (omega arith))

  list-cons : (l : List ℕ) (a : ℕ) (c : Cell) (cs : List Cell) → RecordRead l a c → 2 * a < length l → ListRead ps l (a + width ps c) cs → ListRead ps l a (c ∷ cs)
  unfolding places_from size_of all_in starts_from
  list-cons l a c cs r inside more = record {
    starts = begin;
    pointers = λ i. r.pointers i ∷ more.pointers i;
    good = λ s. rw (T_true {b = record_ok l a} (r.good (s 0 (omega arith)))) (more.good (λ q h. s (suc q) (omega arith)));
  }
    where
      begin : (n : ℕ) → width ps c + size_of ps cs ≤ n → starts_from l n a ≡ a ∷ places_from ps (a + width ps c) cs
      begin zero h = absurd (omega (arith, width-pos ps c))
      begin (suc n) h = rw (lt-ltb (2 * a) (length l) inside, r.head, more.starts n (omega (arith, width-pos ps c)))

  pub list_read : (l before : List ℕ) (a : ℕ) (cs : List Cell) → ((q : ℕ) → q < length cs → Row (length ps) (get_or cs q [])) → length before ≡ 2 * a
      → l ≡ before ++ flatten (map (record_bytes ps) cs) → ListRead ps l a cs
  unfolding flatten
  list_read l before a [] rows n e = list-nil l a (ap length (e ∙ append-nil before) ∙ n)
  list_read l before a (c ∷ cs) rows n e =
      let row : Row (length ps) c = rows 0 (omega arith) in
      let rest : List ℕ = flatten (map (record_bytes ps) cs) in
      let w : length (record_bytes ps c) ≡ 2 * width ps c = record-length ps c in
      list-cons l a c cs (record-read l before rest a c row n e)
      (omega (arith, ap length e, length-append before (record_bytes ps c ++ rest), length-append (record_bytes ps c) rest, w, width-pos ps c))
      (list_read l (before ++ record_bytes ps c) (a + width ps c) cs (λ q h. rows (suc q) (omega arith))
      (length-append before (record_bytes ps c) ∙ omega (arith, w)) (e ∙ sym (append_assoc before (record_bytes ps c) rest)))
