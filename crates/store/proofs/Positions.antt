-- Where cells lie: the words of a list from a cell on are inside the words used, and a kept cell, then its count, is the words from its place on.
-- By the list's number, a product's bound, and the law of kept cells. Assumes nothing.
use mathlib.Core.Path.{◌≡◌, refl, sym, ap, ap₂, ◌∙◌}
use mathlib.Core.List.{List, [], ◌∷◌}
use Prim.Native.Nat.{ℕ, zero, suc, ◌+◌, ◌-◌, ◌*◌, ◌^◌, ◌≤◌, ◌<◌}
use native.Mathlib.Nat.{mul-le-mul_left, le_of_suc-le-suc, add-zero}
use native.Mathlib.Numerals.{sub-one}
use native.Mathlib.Omega.{arith}
use lib.Dec.{lit<}
use lib.ListN.{length, take, drop, get_or}
use lib.Seq.{drop-cons, get_or-take, get_or-drop}
use Rattle.laws.proofs.Kept.{kept-cell}
use Rattle.paper.specs.Numbers.{tabulate}
use Rattle.paper.specs.Store.{heights, used, capacity_of, kept_count, stride, list_position, cell_position, kept_of, cell_at, pair_no, leaf_no, leaf_solid, count_of}

-- ---- room

-- the lists from list 1 to list k have 10Ck words, at most as many as those of all but the last
pub lists-fit : (C k : ℕ) → k < 14 → stride 1 * C * k ≤ stride 1 * C * 13
lists-fit C k h = mul-le-mul_left (stride 1 * C) (le_of_suc-le-suc h)

-- cell n's place in list k, and the words from there to the list's end
pub leaves-fit : (C k n : ℕ) → k ≡ 0 → n ≤ C → cell_position C k n + stride 0 * (C - n) ≤ used C
leaves-fit C k n e l = rw e (omega arith)

pub cells_fit : (C k n : ℕ) → (k ≡ 0 → ⊥) → k < heights → n ≤ C → cell_position C k n + stride 1 * (C - n) ≤ used C
cells_fit C zero n z h l = absurd (z refl)
cells_fit C (suc k) n z h l = omega (arith, lists-fit C k (le_of_suc-le-suc h))

-- from cell n's place to cell m's: the words of the cells between
pub position_in : (C k n : ℕ) → k < heights → n ≤ C → cell_position C k n ≤ used C
position_in C zero n h l = omega arith
position_in C (suc k) n h l = omega (arith, lists-fit C k (le_of_suc-le-suc h))

pub position-rises : (C k n m : ℕ) → n ≤ m → cell_position C k n ≤ cell_position C k m
position-rises C zero n m l = omega arith
position-rises C (suc k) n m l = omega arith

pub position-between : (C k n m : ℕ) → n ≤ m → cell_position C k m - cell_position C k n ≡ stride k * (m - n)
position-between C zero n m l = omega arith
position-between C (suc k) n m l = omega arith

-- ---- words

from-position : (n b a : ℕ) (ws : List ℕ) → a + b + n ≤ length ws → take n (drop (a + b) ws) ≡ tabulate b n (λ i. get_or ws (a + i) 0)
unfolding tabulate
from-position zero b a ws h = refl
from-position (suc n) b a ws h =
    let e : suc (a + b) ≡ a + suc b = omega arith in
    let rest : take n (drop (suc (a + b)) ws) ≡ tabulate (suc b) n (λ i. get_or ws (a + i) 0) = rw e (from-position n (suc b) a ws (omega arith)) in
    rw (drop-cons ws (a + b) 0 (omega arith)) (ap (λ (l : List ℕ). get_or ws (a + b) 0 ∷ l) rest)

pub eight-words : (ws : List ℕ) (a : ℕ) → a + 8 ≤ length ws →
    get_or ws a 0 ∷ get_or ws (a + 1) 0 ∷ get_or ws (a + 2) 0 ∷ get_or ws (a + 3) 0 ∷ get_or ws (a + 4) 0 ∷ get_or ws (a + 5) 0 ∷ get_or ws (a + 6) 0 ∷ get_or ws (a + 7) 0 ∷ []
    ≡ take 8 (drop a ws)
unfolding tabulate
eight-words ws a h =
    let e : take 8 (drop (a + 0) ws) ≡ tabulate 0 8 (λ i. get_or ws (a + i) 0) = from-position 8 0 a ws (omega arith) in
    sym (rw add-zero at e)

-- two words, the high one first
pub pair-words : (ws : List ℕ) (a : ℕ) → get_or ws a 0 * 2 ^ 32 + get_or ws (a + 1) 0 ≡ pair_no (drop a ws)
pair-words ws a = sym (ap₂ (λ (x y : ℕ). x * 2 ^ 32 + y) (get_or-drop a ws 0 0 ∙ ap (λ (i : ℕ). get_or ws i 0) (add-zero a)) (get_or-drop a ws 1 0))

module _ (ws : List ℕ) (n c at : ℕ) (e : c ≡ capacity_of ws) where
  -- leaf n's two words
  pub leaf-words : n < kept_count ws 0 → at ≡ cell_position c 0 n → pair_no (drop at ws) ≡ leaf_no (cell_at (kept_of ws) 0 n)
  leaf-words l p =
      let q : cell_at (kept_of ws) 0 n ≡ take 2 (drop at ws) = kept-cell ws 0 n (lit< tt) l ∙ ap (λ (i : ℕ). take 2 (drop i ws)) (sym (p ∙ ap (λ (C : ℕ). cell_position C 0 n) e)) in
      sym (ap leaf_no q ∙ ap₂ (λ (a b : ℕ). a * 2 ^ 32 + b) (get_or-take 2 (drop at ws) 0 0 (lit< tt)) (get_or-take 2 (drop at ws) 1 0 (lit< tt)))

  -- the eight of cell n in list k
  pub cell-words : (k : ℕ) → 1 ≤ k → k < heights → n < kept_count ws k → at ≡ cell_position c k n → take 8 (drop at ws) ≡ cell_at (kept_of ws) k n
  cell-words zero o h l p = absurd (omega arith)
  cell-words (suc k) o h l p = sym (kept-cell ws (suc k) n h l ∙ ap (λ (i : ℕ). take 8 (drop i ws)) (sym (p ∙ ap (λ (C : ℕ). cell_position C (suc k) n) e)))

  -- and the two after them, its count
  pub count-words : (k : ℕ) → (k ≡ 0 → ⊥) → at ≡ cell_position c k n → pair_no (drop (at + 8) ws) ≡ count_of ws k n
  unfolding count_of
  count-words zero z p = absurd (z refl)
  count-words (suc k) z p = ap (λ (i : ℕ). pair_no (drop (i + 8) ws)) (p ∙ ap (λ (C : ℕ). cell_position C (suc k) n) e)

-- a leaf's count is its bits
pub leaf-count : (ws : List ℕ) (k n leaf : ℕ) → k ≡ 0 → leaf ≡ leaf_no (cell_at (kept_of ws) 0 n) → leaf_solid leaf ≡ count_of ws k n
unfolding count_of
leaf-count ws k n leaf z e = rw z (ap leaf_solid e)

-- ---- a cell's place as the code computes it

pub leaf-position : (C k n : ℕ) → k ≡ 0 → list_position C 0 + stride 0 * n ≡ cell_position C k n
leaf-position C k n e = rw e

pub inner-position : (C k n : ℕ) → (k ≡ 0 → ⊥) → list_position C 0 + stride 0 * C + stride 1 * C * (k - 1) + stride 1 * n ≡ cell_position C k n
inner-position C zero n z = absurd (z refl)
inner-position C (suc k) n z = rw (sub-one (suc k))
