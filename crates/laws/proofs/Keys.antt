-- Cells that match are in one chain: a cell and its image have one key, since the same cell numbers are added up in another order; a leaf and its image
-- have as many voxels. A pointer with a tag and no number must be excluded. Assumes nothing.
use mathlib.Core.Path.{◌≡◌, sym, ◌∙◌, ap}
use mathlib.Core.Bool.{Bool, true, false}
use mathlib.Core.List.{List, []}
use mathlib.Core.Logic.{inl, inr}
use Prim.Native.Nat.{ℕ, zero, suc, ◌*◌, ◌/◌, ◌%◌, ◌^◌, ◌<◌, ◌≤◌}
use native.Mathlib.Omega.{arith}
use lib.Bits.{bit_xor}
use lib.Dec.{T}
use lib.ListN.{length, get_or}
use Rattle.paper.specs.Store.{Cell, cells_at, cell_at, low_of, cell_no, bad_pointer, any_bad, solid_of, key_factor, key_of, chain_of, list_usable}
use Rattle.paper.specs.Match.{pointer_match, matches}
use Rattle.laws.specs.Chains.{NamesCells}
use Rattle.laws.specs.Symmetries.{marked, symmetry_match}
use Rattle.laws.proofs.Tests.{true-T, all-at, none-at}
use Rattle.laws.proofs.Eight.{xor8-lt}
use Rattle.laws.proofs.Sums.{sum_same, sum-places}
use Rattle.laws.proofs.Matching.{PointersMatch, pointer-rule, cell-rule}
use Rattle.laws.proofs.Invariant.{OkPointer, OkCell, not-bad-ok}
use Rattle.laws.proofs.TrueCounts.{usable-sound}
use Rattle.laws.proofs.Counts.{match-solid}
use Rattle.laws.proofs.Chains.{Only}

-- ---- the key of an image

-- the same numbers in mirrored places
pub key-images : (a b : Cell) (t : ℕ) → t < 8 → ((i : ℕ) → i < 8 → low_of (get_or a i 0) ≡ low_of (get_or b (bit_xor i t) 0)) → key_of a ≡ key_of b
unfolding key_of
key-images a b t ht e =
    let f : ℕ → ℕ = λ i. low_of (get_or b i 0) * key_factor in
    ap (λ (n : ℕ). n % 2 ^ 32)
    (sum_same 8 (λ i. low_of (get_or a i 0) * key_factor) (λ i. f (bit_xor i t)) (λ i h. ap (λ (n : ℕ). n * key_factor) (e i h)) ∙ sum-places f t ht)

-- ---- pointers that are there have a number

abbrev pub HasNumber : ℕ → Type 0
HasNumber p = (p ≡ 0 → ⊥) → 1 ≤ low_of p

-- each pointer of a cell of list k that is there has one; nothing is asked of leaves
abbrev pub Numbered : ℕ → Cell → Type 0
Numbered zero c = Unit {0}
Numbered (suc k) c = NamesCells c

pub ok-number : (n p : ℕ) → OkPointer n p → HasNumber p
ok-number n p (inl e) z = absurd (z e)
ok-number n p (inr h) z = h.some_number

-- cells as they may stand
pub ok-numbered : (K : List (List Cell)) (k : ℕ) (c : Cell) → OkCell K k c → Numbered k c
ok-numbered K zero c ok = tt
ok-numbered K (suc k) c ok = λ i h. ok-number (length (cells_at K k)) (get_or c i 0) (ok i h)

-- cells with no bad pointer, n cells being kept one height down
pub sound-numbered : (n k : ℕ) (c : Cell) → any_bad n c ≡ false → Numbered (suc k) c
sound-numbered n k c s = λ i h. ok-number n (get_or c i 0) (not-bad-ok n (get_or c i 0) (none-at 8 (λ j. bad_pointer n (get_or c j 0)) s i h))

-- the cells of a list that is usable
pub usable-numbered : (K : List (List Cell)) (k : ℕ) → T (list_usable K k) → (q : ℕ) → q < length (cells_at K k) → Numbered k (cell_at K k q)
usable-numbered K zero u q h = tt
usable-numbered K (suc k) u q h = sound-numbered (length (cells_at K k)) k (cell_at K (suc k) q) (usable-sound K k q u h)

-- ---- cells that match

pub match_low : (self : ℕ → ℕ → Bool) (t p q : ℕ) → HasNumber p → HasNumber q → PointersMatch self t p q → low_of p ≡ low_of q
match_low self t p q np nq (inl (ep, eq)) = ap low_of (ep ∙ sym eq)
match_low self t p q np nq (inr j) =
    let a : 1 ≤ low_of p = np j.left in
    let b : 1 ≤ low_of q = nq j.right in
    let c : cell_no p ≡ cell_no q = j.cell in
    omega arith

-- by the symmetries of the children: the low parts of the pointers, and so the keys
module _ (k : ℕ) (ms : List ℕ) (a b : Cell) (t : ℕ) (ht : t < 8) (na : Numbered (suc k) a) (nb : Numbered (suc k) b) (m : symmetry_match ms a b t ≡ true) where
  pub match-lows : (i : ℕ) → i < 8 → low_of (get_or a i 0) ≡ low_of (get_or b (bit_xor i t) 0)
  unfolding symmetry_match
  match-lows i h =
      let self : ℕ → ℕ → Bool = λ q u. marked (get_or ms i 0) u in
      let p : ℕ = get_or a i 0 in
      let q : ℕ = get_or b (bit_xor i t) 0 in
      match_low self t p q (na i h) (nb (bit_xor i t) (xor8-lt i t h ht))
      (pointer-rule self t p q (all-at 8 (λ j. pointer_match (λ q u. marked (get_or ms j 0) u) t (get_or a j 0) (get_or b (bit_xor j t) 0)) (true-T m) i h))

  pub match-key : key_of a ≡ key_of b
  match-key = key-images a b t ht match-lows

-- by the match rule
pub match-chain : (K : List (List Cell)) (k : ℕ) (a b : Cell) (t : ℕ) → t < 8 → Numbered k a → Numbered k b → matches K k a b t ≡ true → chain_of k a ≡ chain_of k b
unfolding solid_of
match-chain K zero a b t ht na nb m = match-solid K 0 a b t ht (true-T m)
match-chain K (suc k) a b t ht na nb m =
    ap (λ (n : ℕ). n / 2 ^ 24)
    (key-images a b t ht
    (λ i h. match_low _ t (get_or a i 0) (get_or b (bit_xor i t) 0) (na i h) (nb (bit_xor i t) (xor8-lt i t h ht)) (cell-rule K k a b t (true-T m) i h)))

-- ---- only cells of its chain match a cell

pub only-matches : (K : List (List Cell)) (k : ℕ) (c : Cell) (cs : List Cell) → Numbered k c → ((q : ℕ) → q < length cs → Numbered k (get_or cs q []))
    → Only k (chain_of k c) (λ b t. matches K k c b t) cs
only-matches K k c cs nc ns = λ i h t ht m. sym (match-chain K k c (get_or cs i []) t ht nc (ns i h) m)

pub only-symmetries : (k : ℕ) (ms : List ℕ) (c : Cell) (cs : List Cell) → Numbered (suc k) c → ((q : ℕ) → q < length cs → Numbered (suc k) (get_or cs q []))
    → Only (suc k) (chain_of (suc k) c) (symmetry_match ms c) cs
only-symmetries k ms c cs nc ns = λ i h t ht m. ap (λ (n : ℕ). n / 2 ^ 24) (sym (match-key k ms c (get_or cs i []) t ht nc (ns i h) m))
