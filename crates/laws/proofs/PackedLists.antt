-- The lists of a packed file: where they lie in it; and where records are whole and pointers name starts, each start lies inside its list, its
-- number fits a pointer, and the graph's cell of that number is the record there. A record has two half-words or more. By induction along a list.
-- Assumes nothing.
use mathlib.Core.Path.{◌≡◌, refl, ◌∙◌, ap}
use mathlib.Core.Bool.{Bool, true, false, cond}
use mathlib.Core.List.{List, [], ◌∷◌, map}
use Prim.Native.Nat.{ℕ, zero, suc, ◌+◌, ◌*◌, ◌/◌, ◌%◌, ◌^◌, ◌<◌, ◌≤◌}
use native.Mathlib.Nat.{le_of_suc-le-suc, not-suc-le-zero}
use native.Mathlib.Decide.{ℕ_discrete}
use native.Mathlib.Omega.{arith}
use borrow.Author.Tests.{ne_eqb, eqb-true, eqb-false, ltb-true}
use lib.Dec.{T, eqb, leb, ltb, eqb→eq, ltb→lt, lit<}
use lib.ListN.{length, get_or, drop, length-map, length-take, length-drop}
use Rattle.paper.specs.Numbers.{be, num, count, all_in, is_in, index_in}
use Rattle.paper.specs.Store.{Cell, pointer, cells_at, cell_at}
use Rattle.paper.specs.Packed.{packed_head, top_of, size_at, tail_at, start_at, sizes_ok, list_at, header_at, halves, PackedPointer, pointer_of, no_pointer, read_pointers, pointers_at, leaf_at, record_ok, farthest_short, code_for, starts_from, places_at, by_number, cells_of, graph_of, whole_at}
use Rattle.paper.specs.Runs.{Bytes}
use Rattle.laws.proofs.Tests.{and_left, and_right}
use Rattle.laws.proofs.Lists.{map_at, all_in-head, all_in-tail, At, is_in-at, get_or-tabulate, length-count, count-below}
use Rattle.laws.proofs.Bytes.{bytes_drop, bytes_take}

-- ---- numbers of two and four bytes

pub num2-lt : (l : List ℕ) → Bytes l → num 2 l < 2 ^ 16
unfolding be
num2-lt [] h = lit< tt
num2-lt (a ∷ []) h = omega (arith, h 0)
num2-lt (a ∷ b ∷ l) h = omega (arith, h 0, h 1)

pub num4-lt : (l : List ℕ) → Bytes l → num 4 l < 2 ^ 32
unfolding be
num4-lt [] h = lit< tt
num4-lt (a ∷ []) h = omega (arith, h 0)
num4-lt (a ∷ b ∷ []) h = omega (arith, h 0, h 1)
num4-lt (a ∷ b ∷ c ∷ []) h = omega (arith, h 0, h 1, h 2)
num4-lt (a ∷ b ∷ c ∷ d ∷ l) h = omega (arith, h 0, h 1, h 2, h 3)

-- a pointer of the right width: three mirror bits, 29 bits of place at most
abbrev pub Fits : PackedPointer → Type 0
Fits r = r.code ≡ code_for r.place → (r.tag < 8) × (r.place < 2 ^ 29)

pub packed_pointer-fits : (c : ℕ) (l : List ℕ) → Bytes l → Fits (pointer_of c (num (2 * c) l))
packed_pointer-fits c l h e = go (leb (pointer_of c (num (2 * c) l)).place farthest_short) e
  where
    go : (b : Bool) → c ≡ cond b 1 2 → ((pointer_of c (num (2 * c) l)).tag < 8) × ((pointer_of c (num (2 * c) l)).place < 2 ^ 29)
    go true q = rw q (omega (arith, num2-lt l h), omega (arith, num2-lt l h))
    go false q = rw q (omega (arith, num4-lt l h), omega (arith, num4-lt l h))

pub pointers-fit : (n h : ℕ) (l : List ℕ) → Bytes l → (i : ℕ) → Fits (get_or (read_pointers n h l) i no_pointer)
unfolding read_pointers
pointers-fit zero h l b i = λ e. absurd (omega arith)
pointers-fit (suc n) h l b zero = packed_pointer-fits (h % 4) l b
pointers-fit (suc n) h l b (suc i) = pointers-fit n (h / 4) (drop (2 * (h % 4)) l) (bytes_drop (2 * (h % 4)) l b) i

-- ---- records have two half-words or more, so the record with number q starts at 2q or later

pub halves-one : (n h : ℕ) → 1 ≤ halves n h
unfolding halves
halves-one zero h = lit< tt
halves-one (suc n) h = omega (arith, halves-one n (h / 4))

pub halves-two : (n h : ℕ) → h < 4 ^ n → 0 < h → 2 ≤ halves n h
unfolding halves
halves-two zero h l p = omega arith
halves-two (suc n) h l p = go (eqb (h % 4) 0) refl (halves-two n (h / 4))
  where
    go : (b : Bool) → eqb (h % 4) 0 ≡ b → (h / 4 < 4 ^ n → 0 < h / 4 → 2 ≤ halves n (h / 4)) → 2 ≤ h % 4 + halves n (h / 4)
    go true e ih = let z : h % 4 ≡ 0 = eqb-true (h % 4) 0 e in omega (arith, ih (omega arith) (omega arith))
    go false e ih = omega (arith, eqb-false (h % 4) 0 e, halves-one n (h / 4))

-- number q of the starts from place p
record Start (l : List ℕ) (p q s : ℕ) : Type 0 where
  late : p + 2 * q ≤ s
  inside : 2 * s < length l

pub record-two : (l : List ℕ) (p : ℕ) → Bytes l → T (record_ok l p) → 2 ≤ halves 8 (header_at l p)
unfolding record_ok
record-two l p b t =
    halves-two 8 (header_at l p) (omega (arith, num2-lt (drop (2 * p) l) (bytes_drop (2 * p) l b)))
    (ltb→lt 0 (header_at l p) (search (and_left, and_right)))

starts-start : (l : List ℕ) → Bytes l → (n p : ℕ) → T (all_in (record_ok l) (starts_from l n p)) → (q : ℕ) → q < length (starts_from l n p)
    → Start l p q (get_or (starts_from l n p) q 0)
unfolding starts_from
starts-start l b zero p = λ t q h. absurd (not-suc-le-zero h)
starts-start l b (suc n) p = go (ltb (2 * p) (length l)) refl (starts-start l b n (p + halves 8 (header_at l p)))
  where
    ss : List ℕ
    ss = starts_from l n (p + halves 8 (header_at l p))

    go : (c : Bool) → ltb (2 * p) (length l) ≡ c
        → (T (all_in (record_ok l) ss) → (q : ℕ) → q < length ss → Start l (p + halves 8 (header_at l p)) q (get_or ss q 0))
        → T (all_in (record_ok l) (cond c (p ∷ ss) [])) → (q : ℕ) → q < length (cond c (p ∷ ss) []) → Start l p q (get_or (cond c (p ∷ ss) []) q 0)
    go false e ih t q h = absurd (not-suc-le-zero h)
    go true e ih t zero h = record { late = omega arith; inside = ltb-true (2 * p) (length l) e }
    go true e ih t (suc q) h =
        let s : Start l (p + halves 8 (header_at l p)) q (get_or ss q 0) = ih (all_in-tail (record_ok l) p ss t) q (le_of_suc-le-suc h) in
        record { late = omega (arith, record-two l p b (all_in-head (record_ok l) p ss t), s.late); inside = s.inside }

-- ---- the lists of a file

pub tail-grows : (bs : List ℕ) (j k : ℕ) → j ≤ k → tail_at bs j ≤ tail_at bs k
unfolding tail_at
tail-grows bs j zero h = rw (none_below j h) (omega arith)
  where
    none_below : (n : ℕ) → n ≤ 0 → n ≡ 0
    none_below n l = omega arith
tail-grows bs j (suc k) h = go (ℕ_discrete j (suc k)) (tail-grows bs j k)
  where
    go : Dec (j ≡ suc k) → (j ≤ k → tail_at bs j ≤ tail_at bs k) → tail_at bs j ≤ 2 * size_at bs (suc k) + tail_at bs k
    go (yes e) ih = rw e (omega arith)
    go (no n) ih = omega (arith, ih (omega arith))

-- the sizes add up to the length
abbrev pub Whole : List ℕ → Type 0
Whole bs = packed_head + 4 * suc (top_of bs) + tail_at bs (top_of bs) ≡ length bs

pub sizes-whole : (bs : List ℕ) → T (sizes_ok bs) → Whole bs
unfolding sizes_ok
sizes-whole bs t = eqb→eq (packed_head + 4 * suc (top_of bs) + tail_at bs (top_of bs)) (length bs) t

module _ (bs : List ℕ) (whole : Whole bs) where
  -- list k and all that follow it come after the sizes
  pub tail-in : (k : ℕ) → k ≤ top_of bs → packed_head + 4 * suc (top_of bs) + tail_at bs k ≤ length bs
  tail-in k h = omega (arith, whole, tail-grows bs k (top_of bs) h)

  -- each list has its size
  pub leaves-length : length (list_at bs 0) ≡ 8 * size_at bs 0
  unfolding list_at tail_at
  leaves-length = length-drop (start_at bs 0) bs ∙ omega (arith, tail-in 0 (omega arith))

  pub inner-length : (k : ℕ) → suc k ≤ top_of bs → length (list_at bs (suc k)) ≡ 2 * size_at bs (suc k)
  unfolding list_at tail_at
  inner-length k h =
      length-take (2 * size_at bs (suc k)) (drop (start_at bs (suc k)) bs) ∙ omega (arith, tail-in (suc k) h, length-drop (start_at bs (suc k)) bs)

pub list_bytes_lem : (bs : List ℕ) → Bytes bs → (k : ℕ) → Bytes (list_at bs k)
unfolding list_at
list_bytes_lem bs by zero = bytes_drop (start_at bs 0) bs by
list_bytes_lem bs by (suc k) = bytes_take (2 * size_at bs (suc k)) (drop (start_at bs (suc k)) bs) (bytes_drop (start_at bs (suc k)) bs by)

module _ (bs : List ℕ) (by : Bytes bs) (whole : (k : ℕ) → k ≤ top_of bs → T (whole_at bs k)) where
  starts-at : (k : ℕ) → suc k ≤ top_of bs → (q : ℕ) → q < length (places_at bs (suc k)) → Start (list_at bs (suc k)) 0 q (get_or (places_at bs (suc k)) q 0)
  unfolding places_at whole_at
  starts-at k h q l = starts-start (list_at bs (suc k)) (list_bytes_lem bs by (suc k)) (size_at bs (suc k)) 0 (whole (suc k) h) q l

  -- a start lies inside its list
  pub start-inside : (k p : ℕ) → k ≤ top_of bs → T (is_in p (places_at bs k)) → p < size_at bs k
  unfolding places_at list_at
  start-inside zero p h t = count-below (size_at bs 0) p t
  start-inside (suc k) p h t =
      let a : At p (places_at bs (suc k)) = is_in-at p (places_at bs (suc k)) t in
      omega (arith, (starts-at k h (index_in p (places_at bs (suc k))) a.inside).inside, a.is, length-take (2 * size_at bs (suc k)) (drop (start_at bs (suc k)) bs))

  -- and its number fits a pointer, if there are few leaves
  pub start_small : 8 * size_at bs 0 + 8 < 2 ^ 32 → (k p : ℕ) → k ≤ top_of bs → T (is_in p (places_at bs k)) → p < 2 ^ 29 → suc (index_in p (places_at bs k)) < 2 ^ 29
  unfolding places_at
  start_small few zero p h t m =
      let a : At p (count 0 (size_at bs 0)) = is_in-at p (count 0 (size_at bs 0)) t in
      omega (arith, a.inside, length-count (size_at bs 0) 0)
  start_small few (suc k) p h t m =
      let a : At p (places_at bs (suc k)) = is_in-at p (places_at bs (suc k)) t in
      omega (arith, (starts-at k h (index_in p (places_at bs (suc k))) a.inside).late, a.is)

-- ---- the graph's cells

pub packed_pointer-some : (ps : List ℕ) (l : PackedPointer) → (l.code ≡ 0 → ⊥) → by_number ps l ≡ pointer l.tag (index_in l.place ps)
packed_pointer-some ps l ne = rw (ne_eqb l.code 0 ne)

module _ (bs : List ℕ) where
  pub graph-cells : (k : ℕ) → k ≤ top_of bs → cells_at (graph_of bs) k ≡ cells_of bs k
  unfolding graph_of
  graph-cells k h = get_or-tabulate (suc (top_of bs)) 0 k (cells_of bs) [] (omega arith) ∙ ap (cells_of bs) (omega arith)

  -- list k has a record for each start
  pub records-length : (k : ℕ) → k ≤ top_of bs → length (cells_at (graph_of bs) k) ≡ length (places_at bs k)
  unfolding cells_of
  records-length zero h = ap length (graph-cells 0 h) ∙ length-map (places_at bs 0) (leaf_at (list_at bs 0))
  records-length (suc k) h =
      ap length (graph-cells (suc k) h) ∙ length-map (places_at bs (suc k)) (λ p. map (by_number (places_at bs k)) (pointers_at (list_at bs (suc k)) p))

  -- the record at a start is the cell of that start's number
  graph_at : (k p : ℕ) (f : ℕ → Cell) → k ≤ top_of bs → cells_of bs k ≡ map f (places_at bs k) → T (is_in p (places_at bs k))
      → cell_at (graph_of bs) k (index_in p (places_at bs k)) ≡ f p
  graph_at k p f h e t =
      let i : ℕ = index_in p (places_at bs k) in
      let a : At p (places_at bs k) = is_in-at p (places_at bs k) t in
      ap (λ (l : List Cell). get_or l i []) (graph-cells k h ∙ e) ∙ map_at f (places_at bs k) i 0 [] a.inside ∙ ap f a.is

  pub record-cell : (k p : ℕ) → k < top_of bs → T (is_in p (places_at bs (suc k)))
      → cell_at (graph_of bs) (suc k) (index_in p (places_at bs (suc k))) ≡ map (by_number (places_at bs k)) (pointers_at (list_at bs (suc k)) p)
  unfolding cells_of
  record-cell k p h t = graph_at (suc k) p (λ p. map (by_number (places_at bs k)) (pointers_at (list_at bs (suc k)) p)) h refl t

  pub leaf-cell : (p : ℕ) → T (is_in p (places_at bs 0)) → cell_at (graph_of bs) 0 (index_in p (places_at bs 0)) ≡ leaf_at (list_at bs 0) p
  unfolding cells_of
  leaf-cell p t = graph_at 0 p (leaf_at (list_at bs 0)) (omega arith) refl t
