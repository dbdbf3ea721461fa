-- The chains of a list taken together, as the code adds up their lengths: they are right exactly where the sum is that of all cells kept and nothing follows
-- a number that isn't kept. And the store's chains are right where those of every list are. By the bound of each length. Assumes nothing.
use mathlib.Core.Path.{◌≡◌, refl, sym, ap, subst, ◌∙◌}
use mathlib.Core.Bool.{Bool, true, false, true≢false}
use mathlib.Core.List.{List}
use mathlib.Core.Logic.{◌⊎◌, inl, inr}
use Prim.Native.Nat.{ℕ, zero, suc, ◌+◌, ◌-◌, ◌≤◌, ◌<◌, zero-le}
use native.Mathlib.Nat.{le_refl, eq-or-lt_of_le, le_of_suc-le-suc}
use native.Mathlib.Omega.{arith}
use borrow.Author.Tests.{eq-eqb}
use lib.Dec.{T, eqb, eqb→eq}
use lib.ListN.{length, take, drop, get_or, length-drop}
use lib.Seq.{get_or-take, get_or-drop, length-take-le}
use Rattle.paper.specs.Numbers.{sum}
use Rattle.paper.specs.Store.{cells_at, heights, chains, used, capacity_of, kept_count, kept_of, next_position, blank, chains_ok}
use Rattle.laws.specs.Chains.{count_in, next_word, ChainRight, ListRight}
use Rattle.laws.proofs.Tests.{true-T, T_true, false-unless}
use Rattle.laws.proofs.Lists.{all_in-at, all_in-T}
use Rattle.laws.proofs.Sums.{sum-next}
use Rattle.laws.proofs.Kept.{kept-length}
use Rattle.laws.proofs.ChainWords.{list_right, lists-right}
use Rattle.laws.proofs.ChainCounts.{counts_all}
use Rattle.store_whole.specs.Following.{Followed}

-- ---- words that are zero, each by its place

blank-word : (ws : List ℕ) (a n i : ℕ) → i < n → T (blank ws a n) → get_or ws (a + i) 0 ≡ 0
unfolding blank
blank-word ws a n i h t =
    let l : List ℕ = take n (drop a ws) in
    sym (get_or-take n (drop a ws) i 0 h ∙ get_or-drop a ws i 0) ∙ sym (eqb→eq 0 (get_or l i 0) (all_in-at (eqb 0) 0 tt l t i))

words-blank : (ws : List ℕ) (a n : ℕ) → a + n ≤ length ws → ((i : ℕ) → i < n → get_or ws (a + i) 0 ≡ 0) → T (blank ws a n)
unfolding blank
words-blank ws a n room zero-at =
    let l : List ℕ = take n (drop a ws) in
    let e : length l ≡ n = length-take-le n (drop a ws) (omega (arith, length-drop a ws)) in
    all_in-T (eqb 0) 0 l
    (λ i h.
    let b : i < n = omega (arith, h, e) in
    true-T (eq-eqb 0 (get_or l i 0) (sym (get_or-take n (drop a ws) i 0 b ∙ get_or-drop a ws i 0 ∙ zero-at i b))))

-- ---- a part of a sum

sum-part : (n m : ℕ) (f : ℕ → ℕ) → m ≤ n → sum m f ≤ sum n f
unfolding sum
sum-part zero m f h = let z : m ≡ 0 = omega arith in rw z (le_refl 0)
sum-part (suc n) m f h = go (eq-or-lt_of_le h) (sum-part n m f)
  where
    go : (m ≡ suc n) ⊎ (m < suc n) → (m ≤ n → sum m f ≤ sum n f) → sum m f ≤ sum n f + f n
    go (inl e) ih = rw e (le_refl (sum n f + f n))
    go (inr l) ih = omega (arith, ih (le_of_suc-le-suc l))

-- ---- the chains of list k

module _ (ws : List ℕ) (k : ℕ) where
  -- how many cells chain i has
  abbrev many : ℕ → ℕ
  many i = count_in k i (cells_at (kept_of ws) k)

  -- the first j chains have `all` cells, as they were followed
  pub record Together (j all : ℕ) : Type 0 where
    pub most : all ≤ sum j many
    pub back : all ≡ sum j many → (i : ℕ) → i < j → ChainRight ws k i
    pub fore : ((i : ℕ) → i < j → ChainRight ws k i) → all ≡ sum j many

  pub together-none : Together 0 0
  unfolding sum
  together-none = record { most = zero-le; back = λ q i h. absurd (omega arith); fore = λ r. refl }

  -- one chain more
  pub together-more : {j all : ℕ} (r : ℕ) → Together j all → Followed ws k j r → Together (j + 1) (all + r)
  together-more {j} {all} r t f = record {
    most = omega (arith, one, t.most, f.most);
    back = λ q i b. go q i b;
    fore = λ c. omega (arith, one, t.fore (λ i b. c i (omega arith)), f.right (c j (omega arith)));
  }
    where
      one : sum (j + 1) many ≡ sum j many + many j
      one = sum-next j many

      go : all + r ≡ sum (j + 1) many → (i : ℕ) → i < j + 1 → ChainRight ws k i
      go q i b = by (eq-or-lt_of_le (omega arith))
        where
          by : (i ≡ j) ⊎ (i < j) → ChainRight ws k i
          by (inl e) = subst (ChainRight ws k) (sym e) (f.all (omega (arith, one, q, t.most, f.most)))
          by (inr l) = t.back (omega (arith, one, q, t.most, f.most)) i l

  module _ (listed : k < heights) where
    -- together as many as are kept
    every : sum chains many ≡ kept_count ws k
    every = counts_all k (cells_at (kept_of ws) k) ∙ kept-length ws k listed

    pub together-most : {j all : ℕ} → Together j all → j ≤ chains → all ≤ kept_count ws k
    together-most {j} t h = omega (arith, t.most, every, sum-part chains j many h)

    -- too few cells together
    pub not-all : {all : ℕ} → Together chains all → (all ≡ kept_count ws k → ⊥) → ListRight ws k → ⊥
    not-all t n c = n (t.fore c.each ∙ every)

    -- where all cells are together, the rest says it
    pub by-rest : {all : ℕ} → Together chains all → all ≡ kept_count ws k → kept_count ws k ≤ capacity_of ws
        → next_position (capacity_of ws) k (capacity_of ws) ≤ length ws → (r : Bool) → r ≡ blank ws (next_position (capacity_of ws) k (kept_count ws k)) (capacity_of ws - kept_count ws k)
        → (r ≡ true → ListRight ws k) × (ListRight ws k → r ≡ true)
    by-rest t e few room r q = (
      λ z. record { each = t.back (e ∙ sym every); spare = spare-word (true-T (sym q ∙ z)) },
      λ c. q ∙ blanks (λ i h. ap (λ (p : ℕ). get_or ws p 0) (at i) ∙ c.spare (kept_count ws k + i) (omega arith) (omega arith)),
    )
      where
        first : ℕ
        first = next_position (capacity_of ws) k (kept_count ws k)

        rest : ℕ
        rest = capacity_of ws - kept_count ws k

        at : (i : ℕ) → first + i ≡ next_position (capacity_of ws) k (kept_count ws k + i)
        at i = omega arith

        blanks : ((i : ℕ) → i < rest → get_or ws (first + i) 0 ≡ 0) → blank ws first rest ≡ true
        blanks f = T_true (words-blank ws first rest (omega arith) f)

        spare-word : T (blank ws first rest) → (n : ℕ) → kept_count ws k ≤ n → n < capacity_of ws → next_word ws k n ≡ 0
        spare-word b n h l =
            let o : next_position (capacity_of ws) k n ≡ first + (n - kept_count ws k) = omega arith in
            ap (λ (p : ℕ). get_or ws p 0) o ∙ blank-word ws first rest (n - kept_count ws k) (omega arith) b

-- ---- all lists

module _ (ws : List ℕ) where
  -- the lists below k, and one more
  pub lists-more : (k : ℕ) → ((i : ℕ) → i < k → ListRight ws i) → ListRight ws k → (i : ℕ) → i < k + 1 → ListRight ws i
  lists-more k each r i h = go (eq-or-lt_of_le (omega arith))
    where
      go : (i ≡ k) ⊎ (i < k) → ListRight ws i
      go (inl e) = subst (ListRight ws) (sym e) r
      go (inr l) = each i l

  module _ (room : used (capacity_of ws) ≤ length ws) where
    -- a list that the code finds wrong
    pub lists-wrong : ((k : ℕ) → k < heights → kept_count ws k ≤ capacity_of ws) → (k : ℕ) {r : Bool} → k < heights → (ListRight ws k → r ≡ true) → r ≡ false → chains_ok ws ≡ false
    lists-wrong few k h right wrong =
        false-unless (chains_ok ws) (λ q. true≢false (sym (right (list_right ws room few (true-T q) k h)) ∙ wrong))

    pub lists-end : (k : ℕ) → heights ≤ k → ((i : ℕ) → i < k → ListRight ws i) → chains_ok ws ≡ true
    lists-end k h each = T_true (lists-right ws room (λ i l. each i (omega arith)))
