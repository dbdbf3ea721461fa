-- How many cells a chain has: as many as are met by following it, and the chains of a list have all its cells between them. So links that rise within their
-- chains and lead to as many cells as the list has are the right ones. By induction on the cells, and on the range of a sum. Assumes nothing.
use mathlib.Core.Path.{◌≡◌, refl, sym, ◌∙◌, ap, ap₂}
use mathlib.Core.Bool.{Bool, true, false, cond}
use mathlib.Core.List.{List, [], ◌∷◌, ◌++◌}
use mathlib.Core.Logic.{◌⊎◌, inl, inr}
use Prim.Native.Nat.{ℕ, zero, suc, ◌+◌, ◌-◌, ◌<◌, ◌≤◌}
use native.Mathlib.Nat.{le_refl, le_of_suc-le-suc, not-suc-le-zero, eq-or-lt_of_le, suc-ne-zero}
use native.Mathlib.Omega.{arith}
use borrow.Author.Tests.{eq-eqb, ne_eqb}
use lib.Dec.{eqb}
use lib.ListN.{length, take, drop, get_or, take-append-drop, length-drop}
use lib.Seq.{drop-drop, drop-cons, length-take-le}
use Rattle.paper.specs.Numbers.{sum, bit_for}
use Rattle.paper.specs.Store.{Cell, chains, chain_of, first_in}
use Rattle.laws.specs.Chains.{count_in}
use Rattle.laws.proofs.Sums.{sum_same, sum-add, sum-zero}
use Rattle.laws.proofs.Chains.{chain-few, or_next, first-hit, first-append, first-at, next-at, pass-none, pass-first, pass-rest}

module _ (k j : ℕ) where
  -- ---- one chain

  pub count-nil : count_in k j [] ≡ 0
  unfolding count_in
  count-nil = refl

  pub count-hit : (c : Cell) (cs : List Cell) → chain_of k c ≡ j → count_in k j (c ∷ cs) ≡ suc (count_in k j cs)
  unfolding count_in
  count-hit c cs e = ap (λ (b : Bool). cond b (suc (count_in k j cs)) (count_in k j cs)) (eq-eqb (chain_of k c) j e)

  pub count-miss : (c : Cell) (cs : List Cell) → (chain_of k c ≡ j → ⊥) → count_in k j (c ∷ cs) ≡ count_in k j cs
  unfolding count_in
  count-miss c cs e = ap (λ (b : Bool). cond b (suc (count_in k j cs)) (count_in k j cs)) (ne_eqb (chain_of k c) j e)

  -- one more where the cell is in the chain
  pub count-cons : (c : Cell) (cs : List Cell) → count_in k j (c ∷ cs) ≡ bit_for (eqb (chain_of k c) j) + count_in k j cs
  unfolding count_in
  count-cons c cs = go (eqb (chain_of k c) j)
    where
      go : (b : Bool) → cond b (suc (count_in k j cs)) (count_in k j cs) ≡ bit_for b + count_in k j cs
      go true = omega arith
      go false = omega arith

  pub count-append : (cs ds : List Cell) → count_in k j (cs ++ ds) ≡ count_in k j cs + count_in k j ds
  count-append [] ds = omega (arith, count-nil)
  count-append (c ∷ cs) ds = omega (arith, count-cons c (cs ++ ds), count-cons c cs, count-append cs ds)

  -- along the chain
  pub count_none : (n : ℕ) (cs : List Cell) → first_in k j n cs ≡ 0 → count_in k j cs ≡ 0
  count_none n cs z = pass-none k j (λ m ds. count_in k j ds) (λ c. Unit {0}) (λ m c ds g e. count-miss c ds e) n cs (λ i h. tt) z ∙ count-nil

  pub count-first : (n : ℕ) (cs : List Cell) (m : ℕ) → first_in k j n cs ≡ suc m → count_in k j cs ≡ suc (count_in k j (drop (suc m - n) cs))
  count-first n cs m q =
      pass-first k j (λ i ds. count_in k j ds) (λ c. Unit {0}) (λ i c ds g e. count-miss c ds e) n cs m (λ i h. tt) q
      ∙ count-hit (get_or cs (m - n) []) (drop (suc m - n) cs) (first-at k j n cs m q).is

  -- from cell `last` on
  pub count-rest : (cs : List Cell) (last m : ℕ) → first_in k j last (drop last cs) ≡ suc m → count_in k j (drop last cs) ≡ suc (count_in k j (drop (suc m) cs))
  count-rest cs last m q =
      pass-rest k j (λ i ds. count_in k j ds) (λ c. Unit {0}) (λ i c ds g e. count-miss c ds e) cs last m (λ i h. tt) q
      ∙ count-hit (get_or cs m []) (drop (suc m) cs) (next-at k j cs last m q).is

  pub count-zero : (n : ℕ) (cs : List Cell) → count_in k j cs ≡ 0 → first_in k j n cs ≡ 0
  count-zero n cs z = go (first_in k j n cs) refl
    where
      go : (l : ℕ) → first_in k j n cs ≡ l → l ≡ 0
      go zero q = refl
      go (suc m) q = absurd (suc-ne-zero (count_in k j (drop (suc m - n) cs)) (sym (count-first n cs m q) ∙ z))

  -- ---- following links

  -- from cell `last` on: those before cell m, and those from it on
  module _ (cs : List Cell) (last m : ℕ) (from : last ≤ m) (inside : m < length cs) (is : chain_of k (get_or cs m []) ≡ j) where
    between : List Cell
    between = take (m - last) (drop last cs)

    between-length : length between ≡ m - last
    unfolding between
    between-length = length-take-le (m - last) (drop last cs) (omega (arith, length-drop last cs))

    from-there : drop last cs ≡ between ++ get_or cs m [] ∷ drop (suc m) cs
    unfolding between
    from-there =
        let a : last + (m - last) ≡ m = omega arith in
        sym (take-append-drop (m - last) (drop last cs))
        ∙ ap (λ (ds : List Cell). take (m - last) (drop last cs) ++ ds) (drop-drop (m - last) last cs ∙ ap (λ (i : ℕ). drop i cs) a ∙ drop-cons cs m [] inside)

    counted : count_in k j (drop last cs) ≡ count_in k j between + suc (count_in k j (drop (suc m) cs))
    counted =
        ap (count_in k j) from-there ∙ count-append between (get_or cs m [] ∷ drop (suc m) cs)
        ∙ ap (λ (n : ℕ). count_in k j between + n) (count-hit (get_or cs m []) (drop (suc m) cs) is)

    -- a cell of the chain further on leaves at least one more than are after it
    pub linked-most : (r : ℕ) → r ≤ count_in k j (drop (suc m) cs) → suc r ≤ count_in k j (drop last cs)
    linked-most r h = omega (arith, counted)

    -- and where no more are left, it is the next
    pub linked-first : (r : ℕ) → r ≤ count_in k j (drop (suc m) cs) → suc r ≡ count_in k j (drop last cs) → first_in k j last (drop last cs) ≡ suc m
    linked-first r h q =
        let z : count_in k j between ≡ 0 = omega (arith, counted) in
        let a : last + length between ≡ m = omega (arith, between-length) in
        ap (first_in k j last) from-there ∙ first-append k j last between (get_or cs m [] ∷ drop (suc m) cs)
        ∙ ap₂ (λ (l n : ℕ). or_next l (first_in k j n (get_or cs m [] ∷ drop (suc m) cs))) (count-zero last between z) a
        ∙ first-hit k j m (get_or cs m []) (drop (suc m) cs) is

    pub linked-left : (r : ℕ) → r ≤ count_in k j (drop (suc m) cs) → suc r ≡ count_in k j (drop last cs) → r ≡ count_in k j (drop (suc m) cs)
    linked-left r h q = omega (arith, counted)

  -- the same of a link m, a number plus 1
  module _ (cs : List Cell) (last m : ℕ) (above : last < m) (inside : m ≤ length cs) (is : chain_of k (get_or cs (m - 1) []) ≡ j) where
    one_less : suc (m - 1) ≡ m
    one_less = omega arith

    pub follow-most : (r : ℕ) → r ≤ count_in k j (drop m cs) → suc r ≤ count_in k j (drop last cs)
    follow-most r h = linked-most cs last (m - 1) (omega arith) (omega arith) is r (rw one_less h)

    pub follow-all : (r : ℕ) → r ≤ count_in k j (drop m cs) → suc r ≡ count_in k j (drop last cs)
        → (m ≡ first_in k j last (drop last cs)) × (r ≡ count_in k j (drop m cs))
    follow-all r h q =
        let a : last ≤ m - 1 = omega arith in
        let b : m - 1 < length cs = omega arith in
        let l : r ≤ count_in k j (drop (suc (m - 1)) cs) = rw one_less h in
        (sym one_less ∙ sym (linked-first cs last (m - 1) a b is r l q), linked-left cs last (m - 1) a b is r l q ∙ ap (λ (i : ℕ). count_in k j (drop i cs)) one_less)

-- ---- all chains

-- one number of n is i
sum_one : (n i : ℕ) → i < n → sum n (λ j. bit_for (eqb i j)) ≡ 1
unfolding sum
sum_one zero i h = absurd (not-suc-le-zero h)
sum_one (suc n) i h = go (eq-or-lt_of_le (le_of_suc-le-suc h)) (sum_one n i)
  where
    go : (i ≡ n) ⊎ (i < n) → (i < n → sum n (λ j. bit_for (eqb i j)) ≡ 1) → sum n (λ j. bit_for (eqb i j)) + bit_for (eqb i n) ≡ 1
    go (inl e) ih =
        let z : sum n (λ j. bit_for (eqb i j)) ≡ 0 = sum-zero n (λ j. bit_for (eqb i j)) (λ j l. ap bit_for (ne_eqb i j (λ q. omega arith))) in
        let o : bit_for (eqb i n) ≡ 1 = ap bit_for (eq-eqb i n e) in
        omega arith
    go (inr l) ih =
        let o : bit_for (eqb i n) ≡ 0 = ap bit_for (ne_eqb i n (λ q. omega arith)) in
        omega (arith, ih l)

counts-below : (k n : ℕ) → ((c : Cell) → chain_of k c < n) → (cs : List Cell) → sum n (λ j. count_in k j cs) ≡ length cs
counts-below k n few [] = sum-zero n (λ j. count_in k j []) (λ j h. count-nil k j)
counts-below k n few (c ∷ cs) =
    sum_same n (λ j. count_in k j (c ∷ cs)) (λ j. bit_for (eqb (chain_of k c) j) + count_in k j cs) (λ j h. count-cons k j c cs)
    ∙ sum-add n (λ j. bit_for (eqb (chain_of k c) j)) (λ j. count_in k j cs)
    ∙ omega (arith, sum_one n (chain_of k c) (few c), counts-below k n few cs)

-- each cell is in one chain
pub counts_all : (k : ℕ) (cs : List Cell) → sum chains (λ j. count_in k j cs) ≡ length cs
counts_all k cs = counts-below k chains (chain-few k) cs

-- ---- sums whose parts are at most those of another

pub sum-le : (n : ℕ) (f g : ℕ → ℕ) → ((i : ℕ) → i < n → f i ≤ g i) → sum n f ≤ sum n g
unfolding sum
sum-le zero f g h = le_refl 0
sum-le (suc n) f g h = omega (arith, sum-le n f g (λ i l. h i (omega arith)), h n (le_refl (suc n)))

-- where the sums are equal, so is each part
pub pigeon : (n : ℕ) (f g : ℕ → ℕ) → ((i : ℕ) → i < n → f i ≤ g i) → sum n f ≡ sum n g → (i : ℕ) → i < n → f i ≡ g i
unfolding sum
pigeon zero f g h e i l = absurd (not-suc-le-zero l)
pigeon (suc n) f g h e i l = go (eq-or-lt_of_le (le_of_suc-le-suc l)) (pigeon n f g (λ x y. h x (omega arith)))
  where
    most : sum n f ≤ sum n g
    most = sum-le n f g (λ x y. h x (omega arith))

    go : (i ≡ n) ⊎ (i < n) → (sum n f ≡ sum n g → (x : ℕ) → x < n → f x ≡ g x) → f i ≡ g i
    go (inl q) ih = let o : f n ≡ g n = omega (arith, e, most, h n (le_refl (suc n))) in rw q o
    go (inr q) ih = ih (omega (arith, e, most, h n (le_refl (suc n)))) i q
