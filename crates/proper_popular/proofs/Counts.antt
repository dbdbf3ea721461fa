-- The counters of a list once the pointers one list up are counted: at each start, how many of those name it. A counter has four bytes and starts
-- lie four bytes apart or more, so counting at one leaves the others; a pointer takes two bytes, so there are fewer than a counter can hold, and none
-- wraps. By induction along the pointers of a record and along the records. Assumes nothing.
use mathlib.Core.Path.{◌≡◌, refl, sym, ◌∙◌, ap}
use mathlib.Core.Bool.{Bool, true, false, cond, not, ◌&&◌}
use mathlib.Core.List.{List, [], ◌∷◌, ◌++◌, append_assoc}
use mathlib.Core.Logic.{◌⊎◌, inl, inr}
use Prim.Native.Nat.{ℕ, zero, suc, ◌+◌, ◌-◌, ◌*◌, ◌/◌, ◌%◌, ◌^◌, ◌<◌, ◌≤◌, suc-le-suc}
use native.Mathlib.Decide.{ℕ_discrete}
use native.Mathlib.Omega.{arith}
use borrow.Author.Tests.{eq-eqb, ne_eqb, eqb-false}
use lib.Dec.{T, eqb}
use lib.ListN.{length, get_or, take, drop, replicate, length-append, length-replicate}
use lib.Seq.{length-take-le, take-append-le, drop-append-add, take-take, take-add, drop-drop, drop_at}
use Rattle.paper.specs.Numbers.{is_in, sum, bit_for, bytes, be, num}
use Rattle.paper.specs.Packed.{header_at, halves, PackedPointer, pointer_of, no_pointer, read_pointers, pointers_at}
use Rattle.laws.proofs.Bits.{bit_for-lt}
use Rattle.laws.proofs.Sums.{sum_head}
use Rattle.laws.proofs.Bytes.{bytes-length}
use Rattle.laws.proofs.RecordReading.{num-bytes}
use Rattle.numbers.specs.Laid.{laid}
use Rattle.numbers.proofs.Laying.{length-laid}
use Rattle.proper_popular.specs.Places.{points_to, weight_at, times_named}
use Rattle.proper_popular.specs.Counting.{count_of, one_more, count_pointer, count_pointers, count_records}

-- ---- four bytes laid over others

-- read where they lie
laid-here : (v at : ℕ) (m : List ℕ) → at ≤ length m → v < 2 ^ 32 → num 4 (drop at (laid (bytes 4 v) at m)) ≡ v
unfolding laid
laid-here v at m h lt =
    ap (λ (l : List ℕ). num 4 l) (drop_at (take at m) (bytes 4 v ++ drop (at + length (bytes 4 v)) m) at (length-take-le at m h))
    ∙ num-bytes 4 v (drop (at + length (bytes 4 v)) m) lt

-- a part as the end of what is taken
pub window : (n y : ℕ) (l : List ℕ) → y ≤ length l → take n (drop y l) ≡ drop y (take (y + n) l)
window n y l h = sym (ap (drop y) (take-add y n l) ∙ drop_at (take y l) (take n (drop y l)) y (length-take-le y l h))

laid-before : (b : List ℕ) (at y : ℕ) (m : List ℕ) → at + length b ≤ length m → y + 4 ≤ at → num 4 (drop y (laid b at m)) ≡ num 4 (drop y m)
unfolding laid
laid-before b at y m room h =
    let r : List ℕ = b ++ drop (at + length b) m in
    let front : length (take at m) ≡ at = length-take-le at m (omega arith) in
    let long : y ≤ length (take at m ++ r) = omega (arith, length-append (take at m) r, front) in
    let e : take (y + 4) (take at m ++ r) ≡ take (y + 4) m =
    take-append-le (y + 4) (take at m) r (omega (arith, front)) ∙ take-take (y + 4) at m h in
    ap (be 0) (window 4 y (take at m ++ r) long ∙ ap (drop y) e ∙ sym (window 4 y m (omega arith)))

laid-after : (b : List ℕ) (at y : ℕ) (m : List ℕ) → at + length b ≤ length m → at + length b ≤ y → num 4 (drop y (laid b at m)) ≡ num 4 (drop y m)
unfolding laid
laid-after b at y m room h =
    let n : ℕ = at + length b in
    let p : List ℕ = take at m ++ b in
    let long : length p ≡ n = length-append (take at m) b ∙ ap (λ (i : ℕ). i + length b) (length-take-le at m (omega arith)) in
    let d : ℕ = y - n in
    let ey : y ≡ length p + d = omega (arith, long) in
    let en : n + d ≡ y = omega arith in
    ap (λ (l : List ℕ). num 4 l)
    (ap (drop y) (sym (append_assoc (take at m) b (drop n m))) ∙ ap (λ (i : ℕ). drop i (p ++ drop n m)) ey ∙ drop-append-add p (drop n m) d
    ∙ drop-drop d n m ∙ ap (λ (i : ℕ). drop i m) en)

-- ---- zeros

zeros-be : (j n : ℕ) → ◌≡◌ {A = ℕ} (be 0 (take j (replicate n 0))) 0
unfolding be
zeros-be zero n = refl
zeros-be (suc j) zero = refl
zeros-be (suc j) (suc n) = zeros-be j n

pub zeros-num : (j k n : ℕ) → ◌≡◌ {A = ℕ} (num j (drop k (replicate n 0))) 0
zeros-num j zero n = zeros-be j n
zeros-num j (suc k) zero = zeros-be j 0
zeros-num j (suc k) (suc n) = zeros-num j k n

-- ---- what one record counts

-- pointer i goes to place x: 1, else 0
abbrev goes_to : ℕ → List PackedPointer → ℕ → ℕ
goes_to x rs i = bit_for (points_to x (get_or rs i no_pointer))

-- a pointer that goes somewhere has a code above 0
goes-code : (x : ℕ) (r : PackedPointer) → bit_for (points_to x r) ≤ r.code
goes-code x r = go (eqb r.code 0) refl (bit_for-lt (eqb r.place x))
  where
    go : (b : Bool) → eqb r.code 0 ≡ b → bit_for (eqb r.place x) < 2 → bit_for (not b && eqb r.place x) ≤ r.code
    go true e l = omega arith
    go false e l = omega (arith, eqb-false r.code 0 e)

-- fewer pointers than half-words
weight-halves : (x n h : ℕ) (bs : List ℕ) → sum n (goes_to x (read_pointers n h bs)) < halves n h
unfolding sum halves read_pointers
weight-halves x zero h bs = omega arith
weight-halves x (suc n) h bs =
    let r : PackedPointer = pointer_of (h % 4) (num (2 * (h % 4)) bs) in
    let rs : List PackedPointer = read_pointers n (h / 4) (drop (2 * (h % 4)) bs) in
    omega (arith, sum_head n (goes_to x (r ∷ rs)), goes-code x r, weight-halves x n (h / 4) (drop (2 * (h % 4)) bs))

pub record-few : (x : ℕ) (l : List ℕ) (p : ℕ) → weight_at x (pointers_at l p) < halves 8 (header_at l p)
unfolding weight_at pointers_at
record-few x l p = weight-halves x 8 (header_at l p) (drop (2 * p + 2) l)

-- ---- counting, where each place has four bytes of its own

-- n: the bytes of the counters; ps: the starts
pub record Roomy (u n : ℕ) (ps : List ℕ) : Type 0 where
  pub room : (x : ℕ) → T (is_in x ps) → u * x + 4 ≤ n
  pub apart : (x y : ℕ) → T (is_in x ps) → T (is_in y ps) → (x ≡ y → ⊥) → (u * x + 4 ≤ u * y) ⊎ (u * y + 4 ≤ u * x)

-- a pointer goes nowhere, or to a start
abbrev pub Lands : List ℕ → PackedPointer → Type 0
Lands ps r = (r.code ≡ 0) ⊎ T (is_in r.place ps)

module _ (u n : ℕ) (ps : List ℕ) (roomy : Roomy u n ps) where
  -- one more at x
  more_room : (x v : ℕ) (m : List ℕ) → length m ≡ n → T (is_in x ps) → u * x + length (bytes 4 v) ≤ length m
  more_room x v m e i = omega (arith, bytes-length 4 v, roomy.room x i, e)

  more-length : (x : ℕ) (m : List ℕ) → length m ≡ n → T (is_in x ps) → length (one_more u x m) ≡ n
  more-length x m e i = length-laid (bytes 4 (count_of u m x + 1)) (u * x) m (more_room x (count_of u m x + 1) m e i) ∙ e

  more-here : (x : ℕ) (m : List ℕ) → length m ≡ n → T (is_in x ps) → count_of u m x + 1 < 2 ^ 32 → count_of u (one_more u x m) x ≡ count_of u m x + 1
  more-here x m e i lt = laid-here (count_of u m x + 1) (u * x) m (omega (arith, roomy.room x i, e)) lt

  more-other : (x y : ℕ) (m : List ℕ) → length m ≡ n → T (is_in x ps) → T (is_in y ps) → (x ≡ y → ⊥) → count_of u (one_more u x m) y ≡ count_of u m y
  more-other x y m e i j ne = go (roomy.apart x y i j ne)
    where
      b : List ℕ
      b = bytes 4 (count_of u m x + 1)

      go : (u * x + 4 ≤ u * y) ⊎ (u * y + 4 ≤ u * x) → count_of u (laid b (u * x) m) y ≡ count_of u m y
      go (inl h) = laid-after b (u * x) (u * y) m (more_room x (count_of u m x + 1) m e i) (omega (arith, bytes-length 4 (count_of u m x + 1)))
      go (inr h) = laid-before b (u * x) (u * y) m (more_room x (count_of u m x + 1) m e i) h

  -- ---- of one record
  module _ (rs : List PackedPointer) (lands : (i : ℕ) → Lands ps (get_or rs i no_pointer)) where
    start_of : (i : ℕ) → ((get_or rs i no_pointer).code ≡ 0 → ⊥) → T (is_in (get_or rs i no_pointer).place ps)
    start_of i ne = go (lands i)
      where
        go : Lands ps (get_or rs i no_pointer) → T (is_in (get_or rs i no_pointer).place ps)
        go (inl e) = absurd (ne e)
        go (inr t) = t

    pub pointers-length-kept : (m : List ℕ) → length m ≡ n → (j : ℕ) → length (count_pointers u rs j m) ≡ n
    unfolding count_pointer count_pointers
    pointers-length-kept m e zero = e
    pointers-length-kept m e (suc j) = go (eqb (get_or rs j no_pointer).code 0) refl (pointers-length-kept m e j)
      where
        old : List ℕ
        old = count_pointers u rs j m

        x : ℕ
        x = (get_or rs j no_pointer).place

        go : (a : Bool) → eqb (get_or rs j no_pointer).code 0 ≡ a → length old ≡ n → length (cond a old (one_more u x old)) ≡ n
        go true ea ih = ih
        go false ea ih = more-length x old ih (start_of j (eqb-false (get_or rs j no_pointer).code 0 ea))

    -- a place's counter has one more for each pointer that goes there
    pub pointers-count : (m : List ℕ) → length m ≡ n → (x : ℕ) → T (is_in x ps) → (j : ℕ) → count_of u m x + sum j (goes_to x rs) < 2 ^ 32
        → count_of u (count_pointers u rs j m) x ≡ count_of u m x + sum j (goes_to x rs)
    unfolding count_pointer count_pointers sum
    pointers-count m e x ix zero lt = omega arith
    pointers-count m e x ix (suc j) lt =
        go (eqb (get_or rs j no_pointer).code 0) refl (ℕ_discrete (get_or rs j no_pointer).place x) (pointers-length-kept m e j) (pointers-count m e x ix j (omega arith)) lt
      where
        old : List ℕ
        old = count_pointers u rs j m

        y : ℕ
        y = (get_or rs j no_pointer).place

        before : ℕ
        before = count_of u m x + sum j (goes_to x rs)

        go : (a : Bool) → eqb (get_or rs j no_pointer).code 0 ≡ a → Dec (y ≡ x) → length old ≡ n → count_of u old x ≡ before
            → count_of u m x + (sum j (goes_to x rs) + bit_for (not a && eqb y x)) < 2 ^ 32
            → count_of u (cond a old (one_more u y old)) x ≡ count_of u m x + (sum j (goes_to x rs) + bit_for (not a && eqb y x))
        go true ea d el ih fits = omega (arith, ih)
        go false ea (yes ey) el ih fits =
            let one : bit_for (eqb y x) ≡ 1 = ap bit_for (eq-eqb y x ey) in
            ap (λ (z : ℕ). count_of u (one_more u z old) x) ey ∙ more-here x old el ix (omega (arith, one)) ∙ omega (arith, one, ih)
        go false ea (no ne) el ih fits =
            let none : bit_for (eqb y x) ≡ 0 = ap bit_for (ne_eqb y x ne) in
            more-other y x old el (start_of j (eqb-false (get_or rs j no_pointer).code 0 ea)) ix ne ∙ omega (arith, none, ih)

  -- ---- of the records at some places of the list l
  module _ (l : List ℕ) where
    abbrev AllLand : List ℕ → Type 0
    AllLand qs = (j : ℕ) → j < length qs → (i : ℕ) → Lands ps (get_or (pointers_at l (get_or qs j 0)) i no_pointer)

    -- one record
    record-count : (q : ℕ) → ((i : ℕ) → Lands ps (get_or (pointers_at l q) i no_pointer)) → (m : List ℕ) → length m ≡ n → (x : ℕ) → T (is_in x ps)
        → count_of u m x + weight_at x (pointers_at l q) < 2 ^ 32 → count_of u (count_pointers u (pointers_at l q) 8 m) x ≡ count_of u m x + weight_at x (pointers_at l q)
    unfolding weight_at
    record-count q lands m e x ix lt = pointers-count (pointers_at l q) lands m e x ix 8 lt

    pub records-count : (qs : List ℕ) → AllLand qs → (m : List ℕ) → length m ≡ n → (x : ℕ) → T (is_in x ps) → count_of u m x + times_named l qs x < 2 ^ 32
        → count_of u (count_records u l qs m) x ≡ count_of u m x + times_named l qs x
    unfolding count_records times_named
    records-count [] lands m e x ix lt = omega arith
    records-count (q ∷ qs) lands m e x ix lt =
        let rs : List PackedPointer = pointers_at l q in
        let mine : (i : ℕ) → Lands ps (get_or rs i no_pointer) = lands 0 (omega arith) in
        let one : count_of u (count_pointers u rs 8 m) x ≡ count_of u m x + weight_at x rs = record-count q mine m e x ix (omega arith) in
        records-count qs (λ j h. lands (suc j) (suc-le-suc h)) (count_pointers u rs 8 m) (pointers-length-kept rs mine m e 8) x ix (omega (arith, one))
        ∙ omega (arith, one)

    -- from zero: the number of pointers that name the place
    pub counted : (qs : List ℕ) → AllLand qs → (x : ℕ) → times_named l qs x < 2 ^ 32 → T (is_in x ps) → count_of u (count_records u l qs (replicate n 0)) x ≡ times_named l qs x
    counted qs lands x few ix =
        let z : count_of u (replicate n 0) x ≡ 0 = zeros-num 4 (u * x) n in
        records-count qs lands (replicate n 0) (length-replicate n 0) x ix (omega arith) ∙ omega arith
