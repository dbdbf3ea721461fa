-- The half-words and bytes of pointers, records and lists: their bounds and lengths. By the clauses of the definitions. Assumes nothing.
use mathlib.Core.Path.{◌≡◌, refl, sym, ap, ◌∙◌}
use mathlib.Core.Bool.{Bool, true, false, cond}
use mathlib.Core.List.{List, [], ◌∷◌, map}
use Prim.Native.Nat.{ℕ, zero, suc, ◌+◌, ◌-◌, ◌*◌, ◌^◌, ◌<◌, ◌≤◌}
use native.Mathlib.Nat.{pow-succ'}
use native.Mathlib.Omega.{arith}
use lib.Dec.{eqb, leb, lit<}
use lib.ListN.{length, get_or, length-append}
use borrow.Author.Tests.{le-leb, lt-leb, eq-eqb, ne_eqb}
use Rattle.paper.specs.Numbers.{bytes, flatten}
use Rattle.paper.specs.Store.{Cell, tag_of}
use Rattle.paper.specs.Packed.{farthest_short, code_for}
use Rattle.paper.specs.Pack.{place_of, code, pointer_bytes, header, width, record_bytes, size_of}
use Rattle.laws.proofs.Bytes.{bytes-length}

-- ---- a pointer

pub short-code : (p : ℕ) → p ≤ farthest_short → code_for p ≡ 1
short-code p h = ap (λ (b : Bool). cond b 1 2) (le-leb p farthest_short h)

pub long-code : (p : ℕ) → farthest_short < p → code_for p ≡ 2
long-code p h = ap (λ (b : Bool). cond b 1 2) (lt-leb p farthest_short h)

pub code-most : (p : ℕ) → code_for p ≤ 2
code-most p = go (leb p farthest_short)
  where
    go : (b : Bool) → cond b 1 2 ≤ 2
    go true = omega arith
    go false = omega arith

module _ (ps : List ℕ) (p : ℕ) where
  pub no_code : p ≡ 0 → code ps p ≡ 0
  unfolding code
  no_code e = rw (eq-eqb p 0 e)

  pub no_bytes : p ≡ 0 → pointer_bytes ps p ≡ []
  unfolding pointer_bytes
  no_bytes e = rw (eq-eqb p 0 e)

  pub some-code : (p ≡ 0 → ⊥) → code ps p ≡ code_for (place_of ps p)
  unfolding code
  some-code n = rw (ne_eqb p 0 n)

  pub some_bytes : (p ≡ 0 → ⊥) → pointer_bytes ps p ≡ bytes (2 * code_for (place_of ps p)) (tag_of p * 2 ^ (16 * code_for (place_of ps p) - 3) + place_of ps p)
  unfolding pointer_bytes
  some_bytes n = rw (ne_eqb p 0 n)

  pub code-le : code ps p ≤ 2
  unfolding code
  code-le = go (eqb p 0) (code-most (place_of ps p))
    where
      go : (b : Bool) → code_for (place_of ps p) ≤ 2 → cond b 0 (code_for (place_of ps p)) ≤ 2
      go true h = omega arith
      go false h = h

  pub code-pos : (p ≡ 0 → ⊥) → 0 < code ps p
  code-pos n = rw (some-code n) (go (leb (place_of ps p) farthest_short))
    where
      go : (b : Bool) → 0 < cond b 1 2
      go true = lit< tt
      go false = lit< tt

  pub pointer-length : length (pointer_bytes ps p) ≡ 2 * code ps p
  unfolding pointer_bytes code
  pointer-length = go (eqb p 0)
    where
      go : (b : Bool)
          → length (cond b [] (bytes (2 * code_for (place_of ps p)) (tag_of p * 2 ^ (16 * code_for (place_of ps p) - 3) + place_of ps p)))
          ≡ 2 * cond b 0 (code_for (place_of ps p))
      go true = refl
      go false = bytes-length (2 * code_for (place_of ps p)) (tag_of p * 2 ^ (16 * code_for (place_of ps p) - 3) + place_of ps p)

  -- a short and a long pointer to place l
  pub bytes-short : (l t : ℕ) → (p ≡ 0 → ⊥) → l ≡ place_of ps p → t ≡ tag_of p → l ≤ farthest_short → pointer_bytes ps p ≡ bytes 2 (t * 8192 + l)
  bytes-short l t n e f h =
      some_bytes n ∙ ap (λ (x : ℕ). bytes (2 * code_for x) (tag_of p * 2 ^ (16 * code_for x - 3) + x)) (sym e)
      ∙ ap (λ (c : ℕ). bytes (2 * c) (tag_of p * 2 ^ (16 * c - 3) + l)) (short-code l h) ∙ ap (λ (x : ℕ). bytes 2 (x * 8192 + l)) (sym f)

  pub bytes-long : (l t : ℕ) → (p ≡ 0 → ⊥) → l ≡ place_of ps p → t ≡ tag_of p → farthest_short < l → pointer_bytes ps p ≡ bytes 4 (t * 536870912 + l)
  bytes-long l t n e f h =
      some_bytes n ∙ ap (λ (x : ℕ). bytes (2 * code_for x) (tag_of p * 2 ^ (16 * code_for x - 3) + x)) (sym e)
      ∙ ap (λ (c : ℕ). bytes (2 * c) (tag_of p * 2 ^ (16 * c - 3) + l)) (long-code l h) ∙ ap (λ (x : ℕ). bytes 4 (x * 536870912 + l)) (sym f)

-- ---- a record

module _ (ps : List ℕ) where
  pub width-le : (c : Cell) → width ps c ≤ 1 + 2 * length c
  unfolding width
  width-le [] = omega arith
  width-le (p ∷ c) = omega (arith, code-le ps p, width-le c)

  pub width-pos : (c : Cell) → 1 ≤ width ps c
  unfolding width
  width-pos [] = lit< tt
  width-pos (p ∷ c) = omega (arith, width-pos c)

  pub header-lt : (c : Cell) → header ps c < 4 ^ length c
  unfolding header
  header-lt [] = lit< tt
  header-lt (p ∷ c) = omega (arith, code-le ps p, header-lt c, pow-succ' 4 (length c))

  pub header-pos : (c : Cell) (i : ℕ) → (get_or c i 0 ≡ 0 → ⊥) → 0 < header ps c
  unfolding header
  header-pos [] i n = absurd (n refl)
  header-pos (p ∷ c) zero n = omega (arith, code-pos ps p n)
  header-pos (p ∷ c) (suc i) n = omega (arith, header-pos c i n)

  pointers-length : (c : Cell) → length (flatten (map (pointer_bytes ps) c)) + 2 ≡ 2 * width ps c
  unfolding flatten width
  pointers-length [] = refl
  pointers-length (p ∷ c) =
      rw (length-append (pointer_bytes ps p) (flatten (map (pointer_bytes ps) c))) (omega (arith, pointer-length ps p, pointers-length c))

  pub record-length : (c : Cell) → length (record_bytes ps c) ≡ 2 * width ps c
  unfolding record_bytes
  record-length c =
      length-append (bytes 2 (header ps c)) (flatten (map (pointer_bytes ps) c)) ∙ omega (arith, bytes-length 2 (header ps c), pointers-length c)

-- ---- a list

module _ (ps : List ℕ) where
  pub list_length : (cs : List Cell) → length (flatten (map (record_bytes ps) cs)) ≡ 2 * size_of ps cs
  unfolding flatten size_of
  list_length [] = refl
  list_length (c ∷ cs) = length-append (record_bytes ps c) (flatten (map (record_bytes ps) cs)) ∙ omega (arith, record-length ps c, list_length cs)

  pub size-le : (cs : List Cell) → ((q : ℕ) → q < length cs → length (get_or cs q []) ≡ 8) → size_of ps cs ≤ 17 * length cs
  unfolding size_of
  size-le [] h = omega arith
  size-le (c ∷ cs) h = omega (arith, width-le ps c, h 0 (omega arith), size-le cs (λ q m. h (suc q) (omega arith)))
