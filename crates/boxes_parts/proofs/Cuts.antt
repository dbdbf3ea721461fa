-- The part of a box in a child of its cell, by its first voxel and its last: child i shares a voxel with the box where on each axis its half lies
-- between theirs, and there the box begins with its own first voxel or the child's, and ends likewise. One axis at a time, by the halves' four cases.
-- Assumes nothing.
use mathlib.Core.Path.{◌≡◌, refl, sym, ap, ◌∙◌}
use mathlib.Core.Bool.{Bool, true, false, cond, ◌&&◌, true≢false, beq}
use Prim.Native.Nat.{ℕ, zero, suc, ◌+◌, ◌*◌, ◌/◌, ◌%◌, ◌<◌, ◌≤◌}
use native.Mathlib.Nat.{mod-lt, zero-mod}
use native.Mathlib.Omega.{arith}
use lib.Arith.{mod-mul}
use lib.Bits.{bit_and, bit_or, bit_xor}
use lib.Dec.{eqb, leb, eqb→eq, leb→le, lit<}
use borrow.Author.Tests.{le-ltb}
use Rattle.paper.specs.Numbers.{all_below}
use Rattle.paper.specs.Rooms.{Point, point, mark_x, mark_y, mark_z, in_child, clip, clipped, far, has_voxel, origin}
use Rattle.paper.specs.Outline.{edge}
use Rattle.paper.specs.Store.{heights}
use Rattle.laws.proofs.Eight.{xorb, mark_x-xor, mark_y-xor, mark_z-xor}
use Rattle.laws.proofs.OutlineWriting.{edge-twice}
use Rattle.laws.proofs.Tests.{true-T, beq-eq, and_left, and_right, all-at, all-at2}
use Rattle.points.specs.Seeing.{child_no_at}
use Rattle.points.proofs.Seen.{edge-pos}
use Rattle.boxes_parts.specs.Parts.{chosen, past_in, Spans, shares_in}

-- ---- one axis: S the edge of a half, the first voxel at x in half f, the last at y in half l

-- a rule over halves from its cases
below2 : (P : ℕ → Type 0) → P 0 → P 1 → (n : ℕ) → n < 2 → P n
below2 P a b zero h = a
below2 P a b (suc zero) h = b
below2 P a b (suc (suc n)) h = absurd (omega arith)

halves2 : (P : ℕ → ℕ → Type 0) → P 0 0 → P 0 1 → P 1 0 → P 1 1 → (m n : ℕ) → m < 2 → n < 2 → P m n
halves2 P a b c d m n hm hn = below2 (λ i. P i n) (below2 (P 0) a b n hn) (below2 (P 1) c d n hn) m hm

halves3 : (P : ℕ → ℕ → ℕ → Type 0) → P 0 0 0 → P 0 0 1 → P 0 1 0 → P 0 1 1 → P 1 0 0 → P 1 0 1 → P 1 1 0 → P 1 1 1
    → (m n o : ℕ) → m < 2 → n < 2 → o < 2 → P m n o
halves3 P a b c d e f g h m n o hm hn ho = below2 (λ i. P i n o) (halves2 (P 0) a b c d n o hn ho) (halves2 (P 1) e f g h n o hn ho) m hm

-- half b begins with the first voxel, or behind it
start_in_lem : (S x : ℕ) → x < S → (f b : ℕ) → f < 2 → b < 2 → f ≤ b → clip S b (f * S + x) ≡ cond (xorb (eqb b 1) (eqb f 1)) 0 x
start_in_lem S x l = halves2 (λ f b. f ≤ b → clip S b (f * S + x) ≡ cond (xorb (eqb b 1) (eqb f 1)) 0 x)
    (λ h. omega arith) (λ h. omega arith) (λ h. absurd (omega arith)) (λ h. omega arith)

-- it ends with the last, or before it
end_in_lem : (S y : ℕ) → y < S → (l b : ℕ) → l < 2 → b < 2 → b ≤ l → clip S b (l * S + y + 1) ≡ cond (xorb (eqb b 1) (eqb l 1)) S (y + 1)
end_in_lem S y k = halves2 (λ l b. b ≤ l → clip S b (l * S + y + 1) ≡ cond (xorb (eqb b 1) (eqb l 1)) S (y + 1))
    (λ h. omega arith) (λ h. absurd (omega arith)) (λ h. omega arith) (λ h. omega arith)

-- where its half lies not between theirs it has nothing of the box
none_in : (S x y : ℕ) → y < S → (f l b : ℕ) → f < 2 → l < 2 → b < 2 → leb f b && leb b l ≡ false → clip S b (l * S + y + 1) ≤ clip S b (f * S + x)
none_in S x y k = halves3 (λ f l b. leb f b && leb b l ≡ false → clip S b (l * S + y + 1) ≤ clip S b (f * S + x))
    (λ e. absurd (true≢false e)) (λ e. omega arith) (λ e. absurd (true≢false e)) (λ e. absurd (true≢false e))
    (λ e. omega arith) (λ e. omega arith) (λ e. omega arith) (λ e. absurd (true≢false e))

-- the part still runs from its first voxel to its last
spans-in : (S x y : ℕ) → x < S → y < S → (f l b : ℕ) → f < 2 → l < 2 → b < 2 → f ≤ b → b ≤ l → f * S + x ≤ l * S + y
    → cond (xorb (eqb b 1) (eqb f 1)) 0 x + 1 ≤ cond (xorb (eqb b 1) (eqb l 1)) S (y + 1)
spans-in S x y hx hy = halves3 (λ f l b. f ≤ b → b ≤ l → f * S + x ≤ l * S + y → cond (xorb (eqb b 1) (eqb f 1)) 0 x + 1 ≤ cond (xorb (eqb b 1) (eqb l 1)) S (y + 1))
    (λ p q h. omega arith) (λ p q h. absurd (omega arith)) (λ p q h. omega arith) (λ p q h. omega arith)
    (λ p q h. absurd (omega arith)) (λ p q h. absurd (omega arith)) (λ p q h. absurd (omega arith)) (λ p q h. omega arith)

-- ---- the same of coordinates that are not reduced: low and last in a cell of edge 2S, their halves are bits

-- the last coordinate of all rooms is the last of each half
far-last : (k : ℕ) → k < heights → 65535 % edge k + 1 ≡ edge k
far-last k h = eqb→eq (65535 % edge k + 1) (edge k) (all-at 15 (λ j. eqb (65535 % edge j + 1) (edge j)) tt k h)

module _ (k : ℕ) (hk : k < heights) (low last b : ℕ) (hb : b < 2) where
  abbrev S : ℕ
  S = edge k

  abbrev first : ℕ
  first = low / S % 2

  abbrev past : ℕ
  past = last / S % 2

  -- what the first voxel's coordinate becomes, and the last one's
  abbrev start : ℕ
  start = cond (xorb (eqb b 1) (eqb first 1)) 0 low

  abbrev end : ℕ
  end = cond (xorb (eqb b 1) (eqb past 1)) 65535 last

  by-half : (x : ℕ) → x % edge (suc k) ≡ x / S % 2 * S + x % S
  by-half x = ap (λ (E : ℕ). x % E) (edge-twice k) ∙ mod-mul x {m = 2} {c = S} (lit< tt) (edge-pos k)

  chosen-start : (t : Bool) → cond t 0 low % S ≡ cond t 0 (low % S)
  chosen-start true = zero-mod S
  chosen-start false = refl

  chosen-end : (t : Bool) → cond t 65535 last % S + 1 ≡ cond t S (last % S + 1)
  chosen-end true = far-last k hk
  chosen-end false = refl

  -- half b lies between theirs
  abbrev between : Bool
  between = leb first b && leb b past

  begun : between ≡ true → first ≤ b
  begun e = leb→le first b (and_left (leb first b) (leb b past) (true-T e))

  ends : between ≡ true → b ≤ past
  ends e = leb→le b past (and_right (leb first b) (leb b past) (true-T e))

  axis-start : between ≡ true → clip S b (low % edge (suc k)) ≡ start % S
  axis-start e =
      ap (clip S b) (by-half low) ∙ start_in_lem S (low % S) (mod-lt low (edge-pos k)) first b (mod-lt (low / S) (lit< tt)) hb (begun e) ∙ sym (chosen-start (xorb (eqb b 1) (eqb first 1)))

  axis-end : between ≡ true → clip S b (last % edge (suc k) + 1) ≡ end % S + 1
  axis-end e =
      ap (λ (n : ℕ). clip S b (n + 1)) (by-half last) ∙ end_in_lem S (last % S) (mod-lt last (edge-pos k)) past b (mod-lt (last / S) (lit< tt)) hb (ends e) ∙ sym (chosen-end (xorb (eqb b 1) (eqb past 1)))

  axis-none : between ≡ false → clip S b (last % edge (suc k) + 1) ≤ clip S b (low % edge (suc k))
  axis-none e =
      rw (by-half last, by-half low)
      (none_in S (low % S) (last % S) (mod-lt last (edge-pos k)) first past b (mod-lt (low / S) (lit< tt)) (mod-lt (last / S) (lit< tt)) hb e)

  axis-spans : between ≡ true → low % edge (suc k) ≤ last % edge (suc k) → start % S ≤ end % S
  axis-spans e h =
      let w : first * S + low % S ≤ past * S + last % S = rw (by-half low, by-half last) at h in
      let v = spans-in S (low % S) (last % S) (mod-lt low (edge-pos k)) (mod-lt last (edge-pos k)) first past b (mod-lt (low / S) (lit< tt)) (mod-lt (last / S) (lit< tt)) hb (begun e) (ends e) w in
      omega (arith, v, chosen-start (xorb (eqb b 1) (eqb first 1)), chosen-end (xorb (eqb b 1) (eqb past 1)))

-- ---- the three axes

-- an axis on which child i's half lies between theirs, or not
axes-all : (a b c : Bool) → a && b && c ≡ true → (a ≡ true) × (b ≡ true) × (c ≡ true)
axes-all true true true e = (refl, refl, refl)
axes-all true true false e = absurd (true≢false (sym e))
axes-all true false c e = absurd (true≢false (sym e))
axes-all false b c e = absurd (true≢false (sym e))

-- one axis without a voxel is enough
none_of : (a b c p q r : Bool) → a && b && c ≡ false → (a ≡ false → p ≡ false) → (b ≡ false → q ≡ false) → (c ≡ false → r ≡ false) → p && q && r ≡ false
none_of false b c p q r e f g h = ap (λ (t : Bool). t && q && r) (f refl)
none_of true false c p q r e f g h = ap (λ (t : Bool). p && t && r) (g refl) ∙ drop p
  where
    drop : (p : Bool) → p && false && r ≡ false
    drop true = refl
    drop false = refl
none_of true true c p q r e f g h = ap (λ (t : Bool). p && q && t) (h e) ∙ drop (p && q)
  where
    drop : (p : Bool) → p && false ≡ false
    drop true = refl
    drop false = refl

module _ (k : ℕ) where
  -- a child's number from the halves that a voxel lies in
  halves : (v : Point) → (child_no_at k v % 2 ≡ v.x / edge k % 2) × (child_no_at k v / 2 % 2 ≡ v.y / edge k % 2) × (child_no_at k v / 4 % 2 ≡ v.z / edge k % 2)
  halves v = of (v.x / edge k) (v.y / edge k) (v.z / edge k)
    where
      of : (p q r : ℕ) → ((p % 2 + 2 * (q % 2) + 4 * (r % 2)) % 2 ≡ p % 2) × ((p % 2 + 2 * (q % 2) + 4 * (r % 2)) / 2 % 2 ≡ q % 2) × ((p % 2 + 2 * (q % 2) + 4 * (r % 2)) / 4 % 2 ≡ r % 2)
      of p q r = (omega arith, omega arith, omega arith)

  pub number_lt : (v : Point) → child_no_at k v < 8
  number_lt v = of (v.x / edge k) (v.y / edge k) (v.z / edge k)
    where
      of : (p q r : ℕ) → p % 2 + 2 * (q % 2) + 4 * (r % 2) < 8
      of p q r = omega arith

  -- the halves of child i that are not those
  marks : (i : ℕ) (v : Point) → i < 8 → (mark_x (bit_xor i (child_no_at k v)) ≡ xorb (eqb (i % 2) 1) (eqb (v.x / edge k % 2) 1))
      × (mark_y (bit_xor i (child_no_at k v)) ≡ xorb (eqb (i / 2 % 2) 1) (eqb (v.y / edge k % 2) 1))
      × (mark_z (bit_xor i (child_no_at k v)) ≡ xorb (eqb (i / 4 % 2) 1) (eqb (v.z / edge k % 2) 1))
  marks i v h = (
    mark_x-xor i (child_no_at k v) h (number_lt v) ∙ ap (λ (n : ℕ). xorb (eqb (i % 2) 1) (eqb n 1)) (halves v).0,
    mark_y-xor i (child_no_at k v) h (number_lt v) ∙ ap (λ (n : ℕ). xorb (eqb (i / 2 % 2) 1) (eqb n 1)) (halves v).1,
    mark_z-xor i (child_no_at k v) h (number_lt v) ∙ ap (λ (n : ℕ). xorb (eqb (i / 4 % 2) 1) (eqb n 1)) (halves v).2,
  )

-- where a box from low to last begins and ends in child i of its cell, of list k + 1
abbrev pub start_in : ℕ → ℕ → Point → Point
start_in k i low = chosen (bit_xor i (child_no_at k low)) low origin

abbrev pub end_in : ℕ → ℕ → Point → Point
end_in k i last = chosen (bit_xor i (child_no_at k last)) last (far 65535)

-- such a box, and child i
module _ (k : ℕ) (hk : k < heights) (low last : Point) (i : ℕ) (hi : i < 8) where
  -- the test on each axis
  abbrev between_x : Bool
  between_x = leb (low.x / edge k % 2) (i % 2) && leb (i % 2) (last.x / edge k % 2)

  abbrev between_y : Bool
  between_y = leb (low.y / edge k % 2) (i / 2 % 2) && leb (i / 2 % 2) (last.y / edge k % 2)

  abbrev between_z : Bool
  between_z = leb (low.z / edge k % 2) (i / 4 % 2) && leb (i / 4 % 2) (last.z / edge k % 2)

  by-axes : shares_in (child_no_at k low) (child_no_at k last) i ≡ between_x && between_y && between_z
  by-axes = λ j. (leb ((halves k low).0 j) (i % 2) && leb (i % 2) ((halves k last).0 j)) && (leb ((halves k low).1 j) (i / 2 % 2) && leb (i / 2 % 2) ((halves k last).1 j))
      && (leb ((halves k low).2 j) (i / 4 % 2) && leb (i / 4 % 2) ((halves k last).2 j))

  module _ (e : shares_in (child_no_at k low) (child_no_at k last) i ≡ true) where
    axes : (between_x ≡ true) × (between_y ≡ true) × (between_z ≡ true)
    axes = axes-all between_x between_y between_z (sym by-axes ∙ e)

    -- the box cut to the child begins and ends there
    pub cut-start : clipped (edge k) i (in_child (edge (suc k)) low) ≡ in_child (edge k) (start_in k i low)
    cut-start =
        let m = marks k i low hi in
        λ j. point
        ((axis-start k hk low.x last.x (i % 2) (omega arith) axes.0 ∙ ap (λ (t : Bool). cond t 0 low.x % edge k) (sym m.0)) j)
        ((axis-start k hk low.y last.y (i / 2 % 2) (omega arith) axes.1 ∙ ap (λ (t : Bool). cond t 0 low.y % edge k) (sym m.1)) j)
        ((axis-start k hk low.z last.z (i / 4 % 2) (omega arith) axes.2 ∙ ap (λ (t : Bool). cond t 0 low.z % edge k) (sym m.2)) j)

    pub cut-end : clipped (edge k) i (past_in (edge (suc k)) last) ≡ past_in (edge k) (end_in k i last)
    cut-end =
        let m = marks k i last hi in
        λ j. point
        ((axis-end k hk low.x last.x (i % 2) (omega arith) axes.0 ∙ ap (λ (t : Bool). cond t 65535 last.x % edge k + 1) (sym m.0)) j)
        ((axis-end k hk low.y last.y (i / 2 % 2) (omega arith) axes.1 ∙ ap (λ (t : Bool). cond t 65535 last.y % edge k + 1) (sym m.1)) j)
        ((axis-end k hk low.z last.z (i / 4 % 2) (omega arith) axes.2 ∙ ap (λ (t : Bool). cond t 65535 last.z % edge k + 1) (sym m.2)) j)

    pub cut-spans : Spans (edge (suc k)) low last → Spans (edge k) (start_in k i low) (end_in k i last)
    cut-spans w =
        let m = marks k i low hi in
        let n = marks k i last hi in
        record {
          span_x = rw (m.0, n.0) (axis-spans k hk low.x last.x (i % 2) (omega arith) axes.0 w.span_x);
          span_y = rw (m.1, n.1) (axis-spans k hk low.y last.y (i / 2 % 2) (omega arith) axes.1 w.span_y);
          span_z = rw (m.2, n.2) (axis-spans k hk low.z last.z (i / 4 % 2) (omega arith) axes.2 w.span_z);
        }

  -- a child that shares no voxel with the box
  pub cut-none : shares_in (child_no_at k low) (child_no_at k last) i ≡ false → has_voxel (clipped (edge k) i (in_child (edge (suc k)) low)) (clipped (edge k) i (past_in (edge (suc k)) last)) ≡ false
  cut-none e =
      none_of between_x between_y between_z _ _ _ (sym by-axes ∙ e)
      (λ t. le-ltb _ _ (axis-none k hk low.x last.x (i % 2) (omega arith) t))
      (λ t. le-ltb _ _ (axis-none k hk low.y last.y (i / 2 % 2) (omega arith) t))
      (λ t. le-ltb _ _ (axis-none k hk low.z last.z (i / 4 % 2) (omega arith) t))

-- ---- numbers of children

-- a box that lies in one child shares voxels with no other
pub only_one : (f i : ℕ) → f < 8 → i < 8 → shares_in f f i ≡ eqb i f
only_one f i hf hi = beq-eq _ _ (all-at2 8 8 (λ a b. beq (shares_in a a b) (eqb b a)) tt f i hf hi)

-- as the code tests it
pub by_bits : (f l i : ℕ) → f < 8 → l < 8 → i < 8 → eqb (bit_and i f) f && eqb (bit_or i l) l ≡ shares_in f l i
by_bits f l i hf hl hi =
    beq-eq _ _
    (all-at2 8 8 (λ b c. beq (eqb (bit_and c f) f && eqb (bit_or c b) b) (shares_in f b c))
    (all-at 8 (λ a. all_below 8 (λ b. all_below 8 (λ c. beq (eqb (bit_and c a) a && eqb (bit_or c b) b) (shares_in a b c)))) tt f hf) l i hl hi)
