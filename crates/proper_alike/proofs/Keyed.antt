-- Two records have one key exactly where they match under some mirror, and so have two leaves; the mirrors under which one matches itself are a group.
-- By the digits: under two mirrors the digits of two pointers are equal exactly where the pointers match under the mirrors' exclusive or, for the mark
-- of a pointer's place is a group. And a sum of places is one of digits without their tags, in any order: equal images have equal sums. Assumes nothing.
use mathlib.Core.Path.{◌≡◌, refl, sym, ◌∙◌, ap, ap₂, subst}
use mathlib.Core.Bool.{Bool, true, false, cond, ◌&&◌}
use mathlib.Core.List.{List}
use mathlib.Core.Logic.{◌⊎◌, inl, inr}
use Prim.Native.Nat.{ℕ, ◌+◌, ◌*◌, ◌/◌, ◌^◌, ◌<◌, ◌≤◌}
use native.Mathlib.Decide.{ℕ_discrete}
use native.Mathlib.Omega.{arith}
use borrow.Author.Tests.{eq-eqb, ne_eqb, eqb-true, eqb-false}
use lib.Bits.{bit_xor, xor_self, xor_zero_l, xor_zero_r}
use lib.Dec.{T, eqb, ltb, eqb→eq, ltb→lt, lit<}
use lib.ListN.{get_or, drop, get_or-map}
use Rattle.paper.specs.Numbers.{all_in, any_below, sum}
use Rattle.paper.specs.Leaf.{mirror_leaf}
use Rattle.paper.specs.Store.{leaf_no}
use Rattle.paper.specs.Packed.{PackedPointer, no_pointer, header_at, pointers_at, leaf_at, record_ok, code_for}
use Rattle.paper.specs.Runs.{Bytes}
use Rattle.laws.proofs.Tests.{iff-eq, all-at, all-T, and_left, and_right, T_true, true-T}
use Rattle.laws.proofs.Sums.{sum_same}
use Rattle.laws.proofs.Eight.{below8, eight2, xor8-lt, xor8-assoc, xor8-back, xor8-chain}
use Rattle.laws.proofs.Lists.{all_in-at}
use Rattle.laws.proofs.Bytes.{bytes_drop}
use Rattle.laws.proofs.Leaves.{mirror_leaf-zero, mirror_leaf-mirror_leaf}
use Rattle.laws.specs.Symmetries.{symmetry_for, marked}
use Rattle.laws.proofs.Symmetries.{symmetry-bit}
use Rattle.laws.proofs.PackedLists.{num4-lt, Fits, pointers-fit}
use Rattle.proper_marks.specs.Marks.{mark_of, Group, Grouped, low_tag, low_by}
use Rattle.proper_keys.specs.Keys.{mark_base, tag_base, word_mark, word_tag, word_place, word_of, least_to, digit_of, image_digit, image_no, words_at, least_image, sum_of, image_base, record_key, leaf_key}
use Rattle.proper_keys.proofs.Leasts.{least_at, least-match}
use Rattle.proper_marks.proofs.Tags.{low-le, low_same, same_low}
use Rattle.proper_keys.proofs.Images.{digit-none, digit-some, same-image, image-same, least-image-lt, rest-same}
use Rattle.proper_alike.specs.Matching.{self_by, leaves_match, place_match, records_match, leaf_symmetry, record_symmetry, pointer_rules, record_rules}
use Rattle.proper_alike.proofs.Pointing.{match_none, match-half, match-apart, match-place}

-- ---- exclusive or of four

xor8-pairs : (p q s t : ℕ) → p < 8 → q < 8 → s < 8 → t < 8 → bit_xor (bit_xor p s) (bit_xor q t) ≡ bit_xor (bit_xor p q) (bit_xor s t)
xor8-pairs p q s t hp hq hs ht =
    ap₂ (λ (a b : ℕ). bit_xor (bit_xor a s) (bit_xor b t)) (sym (xor_zero_r p)) (sym (xor_zero_l q)) ∙ xor8-chain p 0 q s t hp (lit< tt) hq hs ht

xor8-front : (a t : ℕ) → a < 8 → t < 8 → bit_xor a (bit_xor a t) ≡ t
xor8-front = eight2 (λ a t. bit_xor a (bit_xor a t)) (λ a t. t) tt

-- ---- pointers

-- a pointer that keeps its rules, where the mark of its place is a group
pub record Sound (u : ℕ) (m : List ℕ) (r : PackedPointer) : Type 0 where
  pub some : r.code ≡ 0 → ⊥
  pub tag : r.tag < 8
  pub small : r.place < 2 ^ 29
  pub byte : mark_of u m r.place < mark_base
  pub group : Group (mark_of u m r.place)

abbrev pub Kept : ℕ → List ℕ → PackedPointer → Type 0
Kept u m r = (r.code ≡ 0) ⊎ Sound u m r

-- the parts of a word
module _ (p g k : ℕ) where
  -- place p, tag g and mark k packed
  abbrev packed : ℕ
  packed = (tag_base * (1 + p) + g) * mark_base + k

  word_place_lem : p < 2 ^ 29 → g < tag_base → k < mark_base → word_place packed ≡ 1 + p
  word_place_lem hp hg hk = let e : packed / (tag_base * mark_base) ≡ 1 + p = omega arith in rw e (omega arith)

  word_tag_lem : g < tag_base → k < mark_base → word_tag packed ≡ g
  word_tag_lem hg hk = let e : packed / mark_base ≡ tag_base * (1 + p) + g = omega arith in rw e (omega arith)

  word_mark_lem : k < mark_base → word_mark packed ≡ k
  word_mark_lem hk = omega arith

module _ (u : ℕ) (m : List ℕ) where
  pointer_none : (t : ℕ) (r : PackedPointer) → r.code ≡ 0 → digit_of t (word_of u m r) ≡ 0
  unfolding word_of
  pointer_none t r e = rw (eq-eqb r.code 0 e) (digit-none t)

  packed_pointer-some : (t : ℕ) (r : PackedPointer) → Sound u m r → digit_of t (word_of u m r) ≡ (1 + r.place) * tag_base + low_tag (mark_of u m r.place) (bit_xor r.tag t)
  unfolding word_of
  packed_pointer-some t r s =
      let p : ℕ = r.place in
      let g : ℕ = r.tag in
      let k : ℕ = mark_of u m p in
      let w : ℕ = packed p g k in
      rw (ne_eqb r.code 0 s.some)
      (digit-some t w (λ e. omega arith)
      ∙ ap₂ (λ (a b : ℕ). a * tag_base + b) (word_place_lem p g k s.small s.tag s.byte)
      (ap₂ (λ (a b : ℕ). low_tag a (bit_xor b t)) (word_mark_lem p g k s.byte) (word_tag_lem p g k s.tag s.byte)))

  low-lt : (t : ℕ) (r : PackedPointer) → t < 8 → Sound u m r → low_tag (mark_of u m r.place) (bit_xor r.tag t) < 8
  low-lt t r ht s = omega (arith, low-le (mark_of u m r.place) (bit_xor r.tag t), xor8-lt r.tag t s.tag ht)

  -- equal digits mean a match
  digits-match : (a b : ℕ) (r s : PackedPointer) → a < 8 → b < 8 → Kept u m r → Kept u m s → digit_of a (word_of u m r) ≡ digit_of b (word_of u m s)
      → T (place_match (self_by u m) (bit_xor a b) r s)
  digits-match a b r s ha hb (inl x) (inl y) e = true-T (match_none (self_by u m) (bit_xor a b) r s x ∙ eq-eqb s.code 0 y)
  digits-match a b r s ha hb (inl x) (inr y) e =
      let q : 0 ≡ (1 + s.place) * tag_base + low_tag (mark_of u m s.place) (bit_xor s.tag b) = sym (pointer_none a r x) ∙ e ∙ packed_pointer-some b s y in
      absurd (omega (arith, q))
  digits-match a b r s ha hb (inr x) (inl y) e =
      let q : 0 ≡ (1 + r.place) * tag_base + low_tag (mark_of u m r.place) (bit_xor r.tag a) = sym (pointer_none b s y) ∙ sym e ∙ packed_pointer-some a r x in
      absurd (omega (arith, q))
  digits-match a b r s ha hb (inr x) (inr y) e =
      let i : ℕ = low_tag (mark_of u m r.place) (bit_xor r.tag a) in
      let j : ℕ = low_tag (mark_of u m s.place) (bit_xor s.tag b) in
      let hi : i < 8 = low-lt a r ha x in
      let hj : j < 8 = low-lt b s hb y in
      let q : (1 + r.place) * tag_base + i ≡ (1 + s.place) * tag_base + j = sym (packed_pointer-some a r x) ∙ e ∙ packed_pointer-some b s y in
      let p : r.place ≡ s.place = omega (arith, q, hi, hj) in
      let l : i ≡ j = omega (arith, q, hi, hj) in
      let k : low_tag (mark_of u m r.place) (bit_xor r.tag a) ≡ low_tag (mark_of u m r.place) (bit_xor s.tag b) =
      l ∙ ap (λ (n : ℕ). low_tag (mark_of u m n) (bit_xor s.tag b)) (sym p) in
      true-T (match-place (self_by u m) (bit_xor a b) r s x.some y.some p
      ∙ ap (marked (mark_of u m r.place)) (sym (xor8-pairs r.tag s.tag a b x.tag y.tag ha hb))
      ∙ T_true (same_low (mark_of u m r.place) x.group (bit_xor r.tag a) (bit_xor s.tag b) (xor8-lt r.tag a x.tag ha) (xor8-lt s.tag b y.tag hb) k))

  -- a match means equal digits
  match-digits : (a t : ℕ) (r s : PackedPointer) → a < 8 → t < 8 → Kept u m r → Kept u m s → T (place_match (self_by u m) t r s)
      → digit_of a (word_of u m r) ≡ digit_of (bit_xor a t) (word_of u m s)
  match-digits a t r s ha ht (inl x) (inl y) e = pointer_none a r x ∙ sym (pointer_none (bit_xor a t) s y)
  match-digits a t r s ha ht (inl x) (inr y) e = absurd (y.some (eqb→eq s.code 0 (subst T (match_none (self_by u m) t r s x) e)))
  match-digits a t r s ha ht (inr x) (inl y) e = absurd (subst T (match-half (self_by u m) t r s x.some y) e)
  match-digits a t r s ha ht (inr x) (inr y) e = go (ℕ_discrete r.place s.place)
    where
      go : Dec (r.place ≡ s.place) → digit_of a (word_of u m r) ≡ digit_of (bit_xor a t) (word_of u m s)
      go (no n) = absurd (subst T (match-apart (self_by u m) t r s x.some y.some n) e)
      go (yes p) =
          let hat : bit_xor a t < 8 = xor8-lt a t ha ht in
          let turn : bit_xor (bit_xor r.tag s.tag) t ≡ bit_xor (bit_xor r.tag a) (bit_xor s.tag (bit_xor a t)) =
          ap (bit_xor (bit_xor r.tag s.tag)) (sym (xor8-front a t ha ht)) ∙ sym (xor8-pairs r.tag s.tag a (bit_xor a t) x.tag y.tag ha hat) in
          let k : T (marked (mark_of u m r.place) (bit_xor (bit_xor r.tag a) (bit_xor s.tag (bit_xor a t)))) =
          subst (λ (n : ℕ). T (marked (mark_of u m r.place) n)) turn (subst T (match-place (self_by u m) t r s x.some y.some p) e) in
          let l : low_tag (mark_of u m r.place) (bit_xor r.tag a) ≡ low_tag (mark_of u m r.place) (bit_xor s.tag (bit_xor a t)) =
          low_same (mark_of u m r.place) x.group (bit_xor r.tag a) (bit_xor s.tag (bit_xor a t)) (xor8-lt r.tag a x.tag ha) (xor8-lt s.tag (bit_xor a t) y.tag hat) k in
          packed_pointer-some a r x ∙ ap (λ (n : ℕ). (1 + r.place) * tag_base + n) l ∙ ap (λ (n : ℕ). (1 + n) * tag_base + low_tag (mark_of u m n) (bit_xor s.tag (bit_xor a t))) p
          ∙ sym (packed_pointer-some (bit_xor a t) s y)

  -- the place in a word is its digit without the tag
  high_digit : (t : ℕ) (r : PackedPointer) → t < 8 → Kept u m r → word_place (word_of u m r) ≡ digit_of t (word_of u m r) / tag_base
  unfolding word_of
  high_digit t r ht (inl x) = rw (eq-eqb r.code 0 x) (ap (λ (n : ℕ). n / tag_base) (sym (digit-none t)))
  high_digit t r ht (inr x) =
      let k : ℕ = mark_of u m r.place in
      let w : word_of u m r ≡ packed r.place r.tag k = rw (ne_eqb r.code 0 x.some) in
      let low : low_tag k (bit_xor r.tag t) < 8 = low-lt t r ht x in
      let e : 1 + r.place ≡ ((1 + r.place) * tag_base + low_tag k (bit_xor r.tag t)) / tag_base = omega (arith, low) in
      ap word_place w ∙ word_place_lem r.place r.tag k x.small x.tag x.byte ∙ e ∙ ap (λ (n : ℕ). n / tag_base) (sym (packed_pointer-some t r x))

-- a sum over eight children in the order of a mirror
sum8-mirrored : (f : ℕ → ℕ) (t : ℕ) → t < 8 → sum 8 (λ i. f (bit_xor i t)) ≡ sum 8 f
unfolding sum
sum8-mirrored f =
    below8 (λ t. sum 8 (λ i. f (bit_xor i t)) ≡ sum 8 f) (omega arith) (omega arith) (omega arith) (omega arith) (omega arith) (omega arith) (omega arith) (omega arith)

-- ---- records

module _ (u : ℕ) (m l : List ℕ) where
  abbrev pub KeptAt : ℕ → Type 0
  KeptAt p = (i : ℕ) → Kept u m (get_or (pointers_at l p) i no_pointer)

  abbrev pointer : ℕ → ℕ → PackedPointer
  pointer p i = get_or (pointers_at l p) i no_pointer

  word_at : (p i : ℕ) → get_or (words_at u m l p) i 0 ≡ word_of u m (pointer p i)
  unfolding word_of
  word_at p i = get_or-map (word_of u m) (pointers_at l p) i no_pointer

  image-match : (p q : ℕ) → KeptAt p → KeptAt q → (a b : ℕ) → a < 8 → b < 8 → image_no (words_at u m l p) a ≡ image_no (words_at u m l q) b
      → T (records_match u m l p q (bit_xor a b))
  unfolding records_match
  image-match p q kp kq a b ha hb e =
      all-T 8 (λ i. place_match (self_by u m) (bit_xor a b) (pointer p i) (pointer q (bit_xor i (bit_xor a b)))) (λ i hi.
      let d : digit_of a (get_or (words_at u m l p) (bit_xor (bit_xor i a) a) 0) ≡ digit_of b (get_or (words_at u m l q) (bit_xor (bit_xor i a) b) 0) =
      image-same (words_at u m l p) (words_at u m l q) a b ha hb e (bit_xor i a) (xor8-lt i a hi ha) in
      digits-match u m a b (pointer p i) (pointer q (bit_xor i (bit_xor a b))) ha hb (kp i) (kq (bit_xor i (bit_xor a b)))
      (ap (digit_of a) (sym (word_at p i)) ∙ ap (λ (n : ℕ). digit_of a (get_or (words_at u m l p) n 0)) (sym (xor8-back i a hi ha)) ∙ d
      ∙ ap (λ (n : ℕ). digit_of b (get_or (words_at u m l q) n 0)) (xor8-assoc i a b hi ha hb) ∙ ap (digit_of b) (word_at q (bit_xor i (bit_xor a b)))))

  match-image : (p q : ℕ) → KeptAt p → KeptAt q → (a t : ℕ) → a < 8 → t < 8 → T (records_match u m l p q t)
      → image_no (words_at u m l p) a ≡ image_no (words_at u m l q) (bit_xor a t)
  unfolding records_match
  match-image p q kp kq a t ha ht e =
      same-image (words_at u m l p) (words_at u m l q) a (bit_xor a t) (λ i hi.
      let j : ℕ = bit_xor i a in
      let hj : j < 8 = xor8-lt i a hi ha in
      ap (digit_of a) (word_at p j)
      ∙ match-digits u m a t (pointer p j) (pointer q (bit_xor j t)) ha ht (kp j) (kq (bit_xor j t))
      (all-at 8 (λ k. place_match (self_by u m) t (pointer p k) (pointer q (bit_xor k t))) e j hj)
      ∙ ap (digit_of (bit_xor a t)) (sym (word_at q (bit_xor j t)))
      ∙ ap (λ (n : ℕ). digit_of (bit_xor a t) (get_or (words_at u m l q) n 0)) (xor8-assoc i a t hi ha ht))

  sum-image : (p t : ℕ) → KeptAt p → t < 8 → sum_of (words_at u m l p) ≡ sum 8 (λ i. image_digit (words_at u m l p) t i / tag_base)
  unfolding sum_of
  sum-image p t kp ht =
      let ws : List ℕ = words_at u m l p in
      sum_same 8 (λ i. word_place (get_or ws i 0)) (λ i. digit_of t (get_or ws i 0) / tag_base) (λ i hi.
      ap word_place (word_at p i) ∙ high_digit u m t (pointer p i) ht (kp i) ∙ ap (λ (n : ℕ). digit_of t n / tag_base) (sym (word_at p i)))
      ∙ sym (sum8-mirrored (λ i. digit_of t (get_or ws i 0) / tag_base) t ht)

  -- equal images have equal sums
  images-sums : (p q : ℕ) → KeptAt p → KeptAt q → least_image (words_at u m l p) ≡ least_image (words_at u m l q) → sum_of (words_at u m l p) ≡ sum_of (words_at u m l q)
  images-sums p q kp kq e =
      let v : List ℕ = words_at u m l p in
      let w : List ℕ = words_at u m l q in
      let a : (t : ℕ) × (t ≤ 7) × (least_to (image_no v) 7 ≡ image_no v t) = least_at (image_no v) 7 in
      let b : (t : ℕ) × (t ≤ 7) × (least_to (image_no w) 7 ≡ image_no w t) = least_at (image_no w) 7 in
      let ha : a.0 < 8 = omega (arith, a.1) in
      let hb : b.0 < 8 = omega (arith, b.1) in
      sum-image p a.0 kp ha
      ∙ sum_same 8 (λ i. image_digit v a.0 i / 8) (λ i. image_digit w b.0 i / 8)
      (λ i hi. ap (λ (n : ℕ). n / tag_base) (image-same v w a.0 b.0 ha hb (sym a.2 ∙ e ∙ b.2) i hi))
      ∙ sym (sum-image q b.0 kq hb)

  -- so the least images alone tell
  key-least : (p q : ℕ) → KeptAt p → KeptAt q → eqb (record_key u m l p) (record_key u m l q) ≡ eqb (least_image (words_at u m l p)) (least_image (words_at u m l q))
  key-least p q kp kq = iff-eq (eqb (record_key u m l p) (record_key u m l q)) (eqb i j) forth back
    where
      v : List ℕ
      v = words_at u m l p

      w : List ℕ
      w = words_at u m l q

      i : ℕ
      i = least_image v

      j : ℕ
      j = least_image w

      forth : T (eqb (record_key u m l p) (record_key u m l q)) → T (eqb i j)
      forth t =
          true-T (eq-eqb i j (rest-same image_base (sum_of v) (sum_of w) i j (least-image-lt v) (least-image-lt w) (eqb→eq (record_key u m l p) (record_key u m l q) t)))

      back : T (eqb i j) → T (eqb (record_key u m l p) (record_key u m l q))
      back t =
          let e : i ≡ j = eqb→eq i j t in
          true-T (eq-eqb (record_key u m l p) (record_key u m l q) (ap₂ (λ (s k : ℕ). s * image_base + k) (images-sums p q kp kq e) e))

  pub key-match : (p q : ℕ) → KeptAt p → KeptAt q → eqb (record_key u m l p) (record_key u m l q) ≡ any_below 8 (records_match u m l p q)
  key-match p q kp kq =
      key-least p q kp kq
      ∙ least-match (image_no (words_at u m l p)) (image_no (words_at u m l q)) (records_match u m l p q) (image-match p q kp kq) (match-image p q kp kq)

  pub record-group : (p : ℕ) → KeptAt p → Group (record_symmetry u m l p)
  unfolding record_symmetry
  record-group p kp = record {
    none = true-T (symmetry-bit f 0 (lit< tt) ∙ T_true (image-match p p kp kp 0 0 (lit< tt) (lit< tt) refl));
    closed = λ s t hs ht a b. true-T (symmetry-bit f (bit_xor s t) (xor8-lt s t hs ht) ∙ T_true (image-match p p kp kp s t hs ht (sym (from s hs a) ∙ from t ht b)));
  }
    where
      f : ℕ → Bool
      f = records_match u m l p p

      from : (t : ℕ) → t < 8 → T (marked (symmetry_for f) t) → image_no (words_at u m l p) 0 ≡ image_no (words_at u m l p) t
      from t ht a =
          match-image p p kp kp 0 t (lit< tt) ht (true-T (sym (symmetry-bit f t ht) ∙ T_true a)) ∙ ap (image_no (words_at u m l p)) (xor_zero_l t)

  -- a record that keeps its rules, where every mark is a group
  pub record-kept : Bytes l → Bytes m → Grouped u m → (p : ℕ) → T (record_rules u m l p) → KeptAt p
  unfolding record_rules pointer_rules pointers_at
  record-kept bl bm groups p t i = go (eqb r.code 0) refl rules
    where
      r : PackedPointer
      r = pointer p i

      k : ℕ
      k = mark_of u m r.place

      rules : T (pointer_rules u m r)
      rules = all_in-at (pointer_rules u m) no_pointer tt (pointers_at l p) (and_right (record_ok l p) (all_in (pointer_rules u m) (pointers_at l p)) t) i

      fits : Fits r
      fits = pointers-fit 8 (header_at l p) (drop (2 * p + 2) l) (bytes_drop (2 * p + 2) l bl) i

      go : (b : Bool) → eqb r.code 0 ≡ b → T (cond b true (ltb 0 k && eqb r.code (code_for r.place) && low_by k r.tag)) → Kept u m r
      go true e s = inl (eqb-true r.code 0 e)
      go false e s =
          let first : T (ltb 0 k && eqb r.code (code_for r.place)) = and_left (ltb 0 k && eqb r.code (code_for r.place)) (low_by k r.tag) s in
          let mark : 0 < k = ltb→lt 0 k (and_left (ltb 0 k) (eqb r.code (code_for r.place)) first) in
          let fit : (r.tag < 8) × (r.place < 2 ^ 29) = fits (eqb→eq r.code (code_for r.place) (and_right (ltb 0 k) (eqb r.code (code_for r.place)) first)) in
          inr (record { some = eqb-false r.code 0 e; tag = fit.0; small = fit.1; byte = bm (u * r.place); group = groups r.place (λ z. omega (arith, mark, z)) })

-- ---- leaves

pub leaf-lt : (l : List ℕ) (p : ℕ) → Bytes l → leaf_no (leaf_at l p) < 2 ^ 64
unfolding leaf_at
leaf-lt l p b = omega (arith, num4-lt (drop (8 * p) l) (bytes_drop (8 * p) l b), num4-lt (drop (8 * p + 4) l) (bytes_drop (8 * p + 4) l b))

-- an image mirrored back
leaf-back : (n s : ℕ) → n < 2 ^ 64 → s < 8 → mirror_leaf s (mirror_leaf s n) ≡ n
leaf-back n s h hs = mirror_leaf-mirror_leaf s s n hs hs ∙ ap (λ (t : ℕ). mirror_leaf t n) (xor_self s) ∙ mirror_leaf-zero n h

leaf_key_lem : (a b : ℕ) → a < 2 ^ 64 → eqb (leaf_key a) (leaf_key b) ≡ any_below 8 (λ t. eqb a (mirror_leaf t b))
leaf_key_lem a b ha =
    least-match (λ t. mirror_leaf t a) (λ t. mirror_leaf t b) (λ t. eqb a (mirror_leaf t b))
    (λ s t hs ht e. true-T (eq-eqb a (mirror_leaf (bit_xor s t) b) (sym (leaf-back a s ha hs) ∙ ap (mirror_leaf s) e ∙ mirror_leaf-mirror_leaf s t b hs ht)))
    (λ s t hs ht e. ap (mirror_leaf s) (eqb→eq a (mirror_leaf t b) e) ∙ mirror_leaf-mirror_leaf s t b hs ht)

module _ (l : List ℕ) (by : Bytes l) where
  pub leaf-match : (p q : ℕ) → eqb (leaf_key (leaf_no (leaf_at l p))) (leaf_key (leaf_no (leaf_at l q))) ≡ any_below 8 (leaves_match l p q)
  unfolding leaves_match
  leaf-match p q = leaf_key_lem (leaf_no (leaf_at l p)) (leaf_no (leaf_at l q)) (leaf-lt l p by)

  pub leaf-group : (p : ℕ) → Group (leaf_symmetry l p)
  unfolding leaf_symmetry leaves_match
  leaf-group p = record {
    none = true-T (symmetry-bit f 0 (lit< tt) ∙ eq-eqb n (mirror_leaf 0 n) (sym (mirror_leaf-zero n (leaf-lt l p by))));
    closed = λ s t hs ht a b. true-T (symmetry-bit f (bit_xor s t) (xor8-lt s t hs ht)
        ∙ eq-eqb n (mirror_leaf (bit_xor s t) n) (same s hs a ∙ ap (mirror_leaf s) (same t ht b) ∙ mirror_leaf-mirror_leaf s t n hs ht));
  }
    where
      n : ℕ
      n = leaf_no (leaf_at l p)

      f : ℕ → Bool
      f = λ t. eqb n (mirror_leaf t n)

      same : (t : ℕ) → t < 8 → T (marked (symmetry_for f) t) → n ≡ mirror_leaf t n
      same t ht a = eqb→eq n (mirror_leaf t n) (true-T (sym (symmetry-bit f t ht) ∙ T_true a))
