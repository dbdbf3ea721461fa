-- The parts of a file, in the code's words: a record, a list, the lists and the sizes from one list down. By the clauses of the definitions,
-- carried from k + 1 to k - 1 once. Assumes nothing.
use mathlib.Core.Path.{◌≡◌, refl, ap, ◌∙◌}
use mathlib.Core.List.{List, [], ◌++◌, map}
use Prim.Native.Nat.{ℕ, zero, suc, ◌+◌, ◌-◌, ◌*◌, ◌<◌}
use native.Mathlib.Numerals.{sub-one}
use native.Mathlib.Omega.{arith}
use lib.ListN.{get_or}
use Rattle.paper.specs.Numbers.{bytes, flatten}
use Rattle.paper.specs.Store.{Cell, cell_at}
use Rattle.paper.specs.Pack.{header, pointer_bytes, record_bytes, leaf_bytes}
use Rattle.pack_scratch.specs.Parts.{places_in}
use Rattle.pack_bytes.specs.Writing.{record_in, list_in, body_in, sizes_in, body_length}

-- a record
pub record-leaf : (K : List (List Cell)) (C k : ℕ) (s : List ℕ) (q : ℕ) → k ≡ 0 → record_in K C k s q ≡ leaf_bytes (cell_at K 0 q)
unfolding record_in
record-leaf K C k s q e = rw e

pub record-cell : (K : List (List Cell)) (C k : ℕ) (s : List ℕ) (q b : ℕ) (c : Cell) → (k ≡ 0 → ⊥) → c ≡ cell_at K k q → b ≡ header (places_in C (k - 1) s) c
    → record_in K C k s q ≡ bytes 2 b ++ flatten (map (pointer_bytes (places_in C (k - 1) s)) c)
unfolding record_in record_bytes
record-cell K C zero s q b c z e f = absurd (z refl)
record-cell K C (suc k) s q b c z e f =
    let d : suc k - 1 ≡ k = omega arith in
    let g : b ≡ header (places_in C k s) c = f ∙ ap (λ (j : ℕ). header (places_in C j s) c) d in
    rw (d, g, e)

-- the last k lists
pub body-down : (K : List (List Cell)) (C : ℕ) (counts : List ℕ) (k : ℕ) (s : List ℕ) → 0 < k
    → body_in K C counts k s ≡ list_in K C (k - 1) (get_or counts (k - 1) 0) s ++ body_in K C counts (k - 1) s
unfolding body_in
body-down K C counts zero s z = absurd (omega arith)
body-down K C counts (suc k) s z = rw (sub-one (suc k))

pub body-none : (K : List (List Cell)) (C : ℕ) (counts : List ℕ) (k : ℕ) (s : List ℕ) → k ≡ 0 → body_in K C counts k s ≡ []
unfolding body_in
body-none K C counts k s e = rw e

-- the sizes
module _ (sizes : List ℕ) where
  pub sizes-down : (k : ℕ) → 0 < k → sizes_in sizes k ≡ bytes 4 (get_or sizes (k - 1) 0) ++ sizes_in sizes (k - 1)
  unfolding sizes_in
  sizes-down zero z = absurd (omega arith)
  sizes-down (suc k) z = rw (sub-one (suc k))

  pub sizes-none : (k : ℕ) → k ≡ 0 → sizes_in sizes k ≡ []
  unfolding sizes_in
  sizes-none k e = rw e

  pub length-down : (k : ℕ) → 0 < k → body_length sizes k ≡ 2 * get_or sizes k 0 + body_length sizes (k - 1)
  unfolding body_length
  length-down zero z = absurd (omega arith)
  length-down (suc k) z = rw (sub-one (suc k))

  pub length_last : (k : ℕ) → k ≡ 0 → body_length sizes k ≡ 8 * get_or sizes 0 0
  unfolding body_length
  length_last k e = rw e
