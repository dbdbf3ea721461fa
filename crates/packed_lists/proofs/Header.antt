-- The header's tests and the list starts, one law for each way through the code: what each test says of the file, and that the starts counted from
-- the top down are those of the file where its sizes add up. By cases of the tests, and by adding one list at a time. Assumes nothing.
use mathlib.Core.Path.{◌≡◌, refl, sym, ◌∙◌, ap, subst}
use mathlib.Core.Bool.{Bool, true, false, false≢true, cond, ◌||◌}
use mathlib.Core.List.{List}
use Prim.Native.Nat.{ℕ, zero, suc, ◌+◌, ◌-◌, ◌*◌, ◌%◌, ◌≤◌, ◌<◌, ◌^◌}
use native.Mathlib.Nat.{zero-add, not-suc-le-zero, mod-eq_of_lt}
use native.Mathlib.Decide.{ℕ_discrete}
use native.Mathlib.Omega.{arith}
use borrow.Author.Tests.{le-leb, lt-leb, ne_eqb, leb-true, leb-false, ltb-true, ltb-false}
use lib.Dec.{T, eqb, leb, ltb, leb→le}
use lib.ListN.{length, drop, get_or, set, replicate, length-set}
use lib.Seq.{get_or-set_same, get_or-set_other, ext_get_or}
use Rattle.paper.specs.Numbers.{num, tabulate}
use Rattle.paper.specs.Rooms.{least}
use Rattle.paper.specs.Outline.{file_depth}
use Rattle.paper.specs.Store.{heights}
use Rattle.paper.specs.Packed.{packed_head, empty_mark, root_tag, is_empty, top_of, size_at, tail_at, start_at, sizes_ok, root_ok, head_ok, starts_of}
use Rattle.laws.proofs.Tests.{and-true, and_left, and_right}
use Rattle.laws.proofs.Lists.{get_or-tabulate, length-tabulate, zeros-at}
use Rattle.laws.proofs.PackedLists.{Whole, sizes-whole, tail-grows}
use Rattle.packed_lists.specs.Header.{front_of, from_top, laid_starts}

pub less_one : (j : ℕ) → suc j - 1 ≡ j
less_one j = omega arith

-- ---- the starts, from the top down

-- the list count
pub lists-count : (bs : List ℕ) → least ≤ file_depth bs → file_depth bs - 1 ≡ suc (top_of bs)
lists-count bs h = omega arith

module _ (bs : List ℕ) where
  pub from_top_lem : from_top bs (top_of bs) ≡ front_of bs
  from_top_lem = omega arith

  from-down : (k : ℕ) → suc k ≤ top_of bs → from_top bs (suc k) + 2 * size_at bs (suc k) ≡ from_top bs k
  unfolding tail_at
  from-down k h = omega (arith, tail-grows bs (suc k) (top_of bs) h)

  -- the list below starts where this one ends
  pub from_next : (k : ℕ) → 0 < k → k ≤ top_of bs → from_top bs k + 2 * size_at bs k ≡ from_top bs (k - 1)
  from_next zero l h = absurd (not-suc-le-zero l)
  from_next (suc k) l h = rw (less_one k) (from-down k h)

  pub from-leaves : from_top bs 0 + 8 * size_at bs 0 ≡ front_of bs + tail_at bs (top_of bs)
  unfolding tail_at
  from-leaves = omega (arith, tail-grows bs 0 (top_of bs) (omega arith))

  -- where the sizes add up
  pub from_start : Whole bs → (k : ℕ) → k ≤ top_of bs → from_top bs k ≡ start_at bs k
  from_start sum k h = omega (arith, sum, tail-grows bs k (top_of bs) h)

  -- the size at a position
  pub size-read : (k at : ℕ) → at ≡ packed_head + 4 * (top_of bs - k) → num 4 (drop at bs) ≡ size_at bs k
  unfolding size_at
  size-read k at e = ap (λ (n : ℕ). num 4 (drop n bs)) e

-- the starts of lists k up to the top are written, and nothing above
pub record Laid (bs out : List ℕ) (k : ℕ) : Type 0 where
  pub many : length out ≡ heights
  pub here : (j : ℕ) → k ≤ j → j ≤ top_of bs → get_or out j 0 ≡ from_top bs j % 2 ^ 32
  pub above : (j : ℕ) → top_of bs < j → get_or out j 0 ≡ 0

-- before the size of list k is read, at `at`: the starts down to it are written, and `start` is where it starts
pub record Summing (bs out : List ℕ) (top at start k : ℕ) : Type 0 where
  pub top-is : top ≡ top_of bs
  pub low : k ≤ top
  pub reads : at ≡ packed_head + 4 * (top_of bs - k)
  pub begins : start ≡ from_top bs k
  pub small : start ≤ 71 + (top - k) * 2 ^ 33
  pub laid : Laid bs out k

abbrev pub no_starts : List ℕ
no_starts = replicate heights 0

module _ (bs : List ℕ) where
  pub laid-first : (out : List ℕ) (k s : ℕ) → out ≡ no_starts → k ≡ top_of bs → top_of bs < heights → s ≡ from_top bs k → Laid bs (set out k (s % 2 ^ 32)) k
  laid-first out k s e t h f = record {
    many = length-set out k (s % 2 ^ 32) ∙ ap length e;
    here = λ j l m. ap (λ (n : ℕ). get_or (set out k (s % 2 ^ 32)) n 0) (omega arith) ∙ get_or-set_same out k (s % 2 ^ 32) 0 (subst (λ (l : List ℕ). k < length l) (sym e) (omega arith)) ∙ ap (λ (n : ℕ). n % 2 ^ 32) (f ∙ ap (from_top bs) (omega arith));
    above = λ j l. get_or-set_other out k j (s % 2 ^ 32) 0 (λ q. omega arith) ∙ ap (λ (l : List ℕ). get_or l j 0) e ∙ zeros-at heights j;
  }

  pub laid_more : (out : List ℕ) (k s : ℕ) → 0 < k → k ≤ top_of bs → top_of bs < heights → s ≡ from_top bs (k - 1) → Laid bs out k → Laid bs (set out (k - 1) (s % 2 ^ 32)) (k - 1)
  laid_more out k s p h m f l = record {
    many = length-set out (k - 1) (s % 2 ^ 32) ∙ l.many;
    here = λ j a b. go j b (ℕ_discrete j (k - 1)) a;
    above = λ j a. get_or-set_other out (k - 1) j (s % 2 ^ 32) 0 (λ q. omega arith) ∙ l.above j a;
  }
    where
      go : (j : ℕ) → j ≤ top_of bs → Dec (j ≡ k - 1) → k - 1 ≤ j → get_or (set out (k - 1) (s % 2 ^ 32)) j 0 ≡ from_top bs j % 2 ^ 32
      go j b (yes q) a =
          ap (λ (n : ℕ). get_or (set out (k - 1) (s % 2 ^ 32)) n 0) q ∙ get_or-set_same out (k - 1) (s % 2 ^ 32) 0 (omega (arith, l.many)) ∙ ap (λ (n : ℕ). n % 2 ^ 32) (f ∙ ap (from_top bs) (sym q))
      go j b (no q) a = get_or-set_other out (k - 1) j (s % 2 ^ 32) 0 q ∙ l.here j (omega (arith, q, a, p)) b

  -- a table of the starts
  abbrev pub start_for : (ℕ → ℕ) → ℕ → ℕ
  start_for f k = cond (leb k (top_of bs)) (f k) 0

  pub tabled : (out : List ℕ) (f : ℕ → ℕ) → length out ≡ heights → ((i : ℕ) → i < heights → get_or out i 0 ≡ start_for f i) → out ≡ tabulate 0 heights (start_for f)
  tabled out f l e =
      ext_get_or 0 out (tabulate 0 heights (start_for f)) (l ∙ sym (length-tabulate heights 0 (start_for f)))
      (λ i h. e i (omega arith) ∙ sym (get_or-tabulate heights 0 i (start_for f) 0 (omega arith) ∙ ap (start_for f) (zero-add i)))

  pub laid-all : (out : List ℕ) → Laid bs out 0 → out ≡ laid_starts bs
  unfolding laid_starts
  laid-all out l = tabled out (λ k. from_top bs k % 2 ^ 32) l.many (λ i m. go i (leb i (top_of bs)) refl)
    where
      go : (i : ℕ) (b : Bool) → leb i (top_of bs) ≡ b → get_or out i 0 ≡ cond b (from_top bs i % 2 ^ 32) 0
      go i true e = l.here i (omega arith) (leb-true i (top_of bs) e)
      go i false e = l.above i (leb-false i (top_of bs) e)

-- ---- byte 6 and the sizes: the ways through `read_lists`

module _ (bs : List ℕ) where
  pub head-empty : root_tag bs ≡ empty_mark → head_ok bs ≡ eqb (length bs) packed_head
  unfolding head_ok
  head-empty e = rw e (and-true (eqb (length bs) packed_head))

  -- a mirror: the sizes decide
  head-sizes : (root_tag bs ≡ empty_mark → ⊥) → root_tag bs ≤ empty_mark → head_ok bs ≡ sizes_ok bs
  unfolding head_ok
  head-sizes n h = rw (le-leb (root_tag bs) empty_mark h, ne_eqb (root_tag bs) empty_mark n) refl

  head-mark : empty_mark < root_tag bs → head_ok bs ≡ false
  unfolding head_ok
  head-mark h = rw (lt-leb (root_tag bs) empty_mark h) refl

  no_room : (root_tag bs ≡ empty_mark → ⊥) → root_tag bs ≤ empty_mark → length bs < front_of bs → head_ok bs ≡ false
  unfolding sizes_ok
  no_room some h l =
      let never : front_of bs + tail_at bs (top_of bs) ≡ length bs → ⊥ = λ e. omega arith in
      head-sizes some h ∙ ne_eqb (front_of bs + tail_at bs (top_of bs)) (length bs) never

  -- byte 6 above 8, or no room for n sizes, as the code tests it
  module _ (n : ℕ) (e : n ≡ suc (top_of bs)) where
    abbrev pub short : Bool → Bool
    short mark = mark || ltb (length bs) (packed_head + 4 * n)

    pub head-short : (root_tag bs ≡ empty_mark → ⊥) → short (ltb empty_mark (root_tag bs)) ≡ true → head_ok bs ≡ false
    head-short some t = go (ltb empty_mark (root_tag bs)) refl t
      where
        go : (a : Bool) → ltb empty_mark (root_tag bs) ≡ a → short a ≡ true → head_ok bs ≡ false
        go true q t = head-mark (ltb-true empty_mark (root_tag bs) q)
        go false q t = no_room some (ltb-false empty_mark (root_tag bs) q) (omega (arith, e, ltb-true (length bs) (packed_head + 4 * n) t))

    pub head-fits : short (ltb empty_mark (root_tag bs)) ≡ false → (root_tag bs ≤ empty_mark) × (front_of bs ≤ length bs)
    head-fits t = go (ltb empty_mark (root_tag bs)) refl t
      where
        go : (a : Bool) → ltb empty_mark (root_tag bs) ≡ a → short a ≡ false → (root_tag bs ≤ empty_mark) × (front_of bs ≤ length bs)
        go true q t = absurd (false≢true (sym t))
        go false q t = (ltb-false empty_mark (root_tag bs) q, omega (arith, e, ltb-false (length bs) (packed_head + 4 * n) t))

  pub head-sum : (root_tag bs ≡ empty_mark → ⊥) → root_tag bs ≤ empty_mark → head_ok bs ≡ eqb (front_of bs + tail_at bs (top_of bs)) (length bs)
  unfolding sizes_ok
  head-sum n h = head-sizes n h

-- byte 6 of a file that is not empty is a mirror
pub root-small : (bs : List ℕ) → T (root_ok bs) → (root_tag bs ≡ empty_mark → ⊥) → root_tag bs < 8
root-small bs t n =
    let l : root_tag bs ≤ 8 = leb→le (root_tag bs) empty_mark (and_left (leb (root_tag bs) empty_mark) (cond (is_empty bs) (eqb (length bs) 7) true) t) in
    omega (arith, l, n)

pub root-mirror : (bs : List ℕ) → T (head_ok bs) → (root_tag bs ≡ empty_mark → ⊥) → root_tag bs < 8
unfolding head_ok
root-mirror bs t n = root-small bs (and_left (root_ok bs) (cond (is_empty bs) true (sizes_ok bs)) t) n

-- ---- the lists in the file

-- what the sizes say, of a file that opens and is not empty
pub sizes-sum : (bs : List ℕ) → T (head_ok bs) → (root_tag bs ≡ empty_mark → ⊥) → Whole bs
unfolding head_ok
sizes-sum bs t n = sizes-whole bs (rw (ne_eqb (root_tag bs) empty_mark n) at (and_right (root_ok bs) (cond (is_empty bs) true (sizes_ok bs)) t))

-- of a file that opens and is not empty, they are where opening says
pub laid_starts_lem : (bs : List ℕ) → T (head_ok bs) → (root_tag bs ≡ empty_mark → ⊥) → top_of bs < heights → length bs < 2 ^ 32 → laid_starts bs ≡ starts_of bs
unfolding laid_starts starts_of
laid_starts_lem bs t n low short = rw (ne_eqb (root_tag bs) empty_mark n)
    (tabled bs (tabulate 0 heights (start_for bs f)) (start_at bs) (length-tabulate heights 0 (start_for bs f)) at_each)
  where
    f : ℕ → ℕ
    f k = from_top bs k % 2 ^ 32

    same : (i : ℕ) (b : Bool) → leb i (top_of bs) ≡ b → cond b (f i) 0 ≡ cond b (start_at bs i) 0
    same i true e =
        let is : from_top bs i ≡ start_at bs i = from_start bs (sizes-sum bs t n) i (leb-true i (top_of bs) e) in
        mod-eq_of_lt (omega (arith, is)) ∙ is
    same i false e = refl

    at_each : (i : ℕ) → i < heights → get_or (tabulate 0 heights (start_for bs f)) i 0 ≡ start_for bs (start_at bs) i
    at_each i l = get_or-tabulate heights 0 i (start_for bs f) 0 l ∙ ap (start_for bs f) (zero-add i) ∙ same i (leb i (top_of bs)) refl

pub starts-empty : (bs : List ℕ) → root_tag bs ≡ empty_mark → no_starts ≡ starts_of bs
unfolding starts_of
starts-empty bs e = rw e refl
