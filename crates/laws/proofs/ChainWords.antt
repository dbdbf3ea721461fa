-- The words of chains: how many they are, which stands where, and that they are right exactly where each head and each next word is what the cells determine.
-- By the place of each word. Assumes nothing.
use mathlib.Core.Path.{◌≡◌, refl, sym, ◌∙◌, ap, ap₂, subst}
use mathlib.Core.Bool.{Bool, true, false, cond}
use mathlib.Core.List.{List, [], ◌∷◌}
use Prim.Native.Nat.{ℕ, suc, ◌+◌, ◌-◌, ◌*◌, ◌/◌, ◌%◌, ◌<◌, ◌≤◌}
use native.Mathlib.Nat.{zero-add, add-zero, mul-add-div, div-eq_of_lt, mod-eq_of_lt, mod-lt, div-add-mod, div-lt_iff_lt-mul, mul-add-mod_self_left, mul-le-mul_left}
use native.Mathlib.Omega.{arith}
use borrow.Author.Tests.{eqb-true, eq-eqb}
use lib.Dec.{T, eqb, ltb}
use lib.ListN.{length, take, drop, get_or, length-append, length-drop, drop_of_length-le, get_or-append}
use lib.Seq.{ext_get_or, get_or-take, get_or-drop, get_or-append-add, length-take-le}
use borrow.Author.Tests.{ltb-true, ltb-false}
use Rattle.paper.specs.Numbers.{same_list}
use Rattle.paper.specs.Store.{Cell, cells_at, cell_at, heights, chains, used, capacity_of, kept_count, first_head, head_position, next_position, kept_of, chain_of, first_in, head_of, next_of, head_words, next_words, chain_words, chains_ok}
use Rattle.laws.specs.Chains.{head_word, next_word, ListRight}
use Rattle.laws.proofs.Lists.{get_or-tabulate, length-tabulate}
use Rattle.laws.proofs.Kept.{kept-length}
use Rattle.laws.proofs.Chains.{chain-few}

-- ---- the same list

pub same_list_lem : (a b : List ℕ) → T (same_list a b) → a ≡ b
unfolding same_list
same_list_lem [] [] t = refl
same_list_lem [] (y ∷ ys) t = absurd t
same_list_lem (x ∷ xs) [] t = absurd t
same_list_lem (x ∷ xs) (y ∷ ys) t = go (eqb x y) refl t (same_list_lem xs ys)
  where
    go : (b : Bool) → eqb x y ≡ b → T (cond b (same_list xs ys) false) → (T (same_list xs ys) → xs ≡ ys) → x ∷ xs ≡ y ∷ ys
    go true e t rest = ap₂ ◌∷◌ (eqb-true x y e) (rest t)
    go false e t rest = absurd t

pub same_self : (a : List ℕ) → T (same_list a a)
unfolding same_list
same_self [] = tt
same_self (x ∷ xs) = rw (eq-eqb x x refl) (same_self xs)

-- ---- a place and a number below s, in one number

module _ (s k n : ℕ) (h : n < s) where
  pub place_of : (s * k + n) / s ≡ k
  place_of = mul-add-div {m = s} (omega arith) k n ∙ ap (λ (m : ℕ). k + m) (div-eq_of_lt h) ∙ add-zero k

  pub number_of : (s * k + n) % s ≡ n
  number_of = mul-add-mod_self_left s k n ∙ mod-eq_of_lt h

  pub place_in : (m : ℕ) → k < m → s * k + n < s * m
  place_in m l = omega (arith, mul-le-mul_left s l)

-- ---- what stands where

module _ (K : List (List Cell)) (C : ℕ) where
  heads-long : length (head_words K) ≡ chains * heights
  heads-long = length-tabulate (chains * heights) 0 (λ i. head_of K (i / chains) (i % chains))

  nexts-long : length (next_words K C) ≡ C * heights
  nexts-long = length-tabulate (C * heights) 0 (λ i. next_of K (i / C) (i % C))

  pub chains-long : length (chain_words K C) ≡ (chains + C) * heights
  unfolding chain_words
  chains-long = length-append (head_words K) (next_words K C) ∙ omega (arith, heads-long, nexts-long)

  -- by its place among the heads, or among the next words
  head-is : (i : ℕ) → i < chains * heights → get_or (chain_words K C) i 0 ≡ head_of K (i / chains) (i % chains)
  unfolding chain_words
  head-is i h =
      get_or-append (head_words K) (next_words K C) 0 i (rw heads-long h) ∙ get_or-tabulate (chains * heights) 0 i (λ j. head_of K (j / chains) (j % chains)) 0 h
      ∙ ap (λ (j : ℕ). head_of K (j / chains) (j % chains)) (zero-add i)

  next-is : (i : ℕ) → i < C * heights → get_or (chain_words K C) (chains * heights + i) 0 ≡ next_of K (i / C) (i % C)
  unfolding chain_words
  next-is i h =
      ap (λ (m : ℕ). get_or (chain_words K C) (m + i) 0) (sym heads-long) ∙ get_or-append-add (head_words K) (next_words K C) i 0
      ∙ get_or-tabulate (C * heights) 0 i (λ j. next_of K (j / C) (j % C)) 0 h ∙ ap (λ (j : ℕ). next_of K (j / C) (j % C)) (zero-add i)

  -- by list, and chain or number
  pub head_at : (k j : ℕ) → k < heights → j < chains → get_or (chain_words K C) (chains * k + j) 0 ≡ head_of K k j
  head_at k j hk hj =
      head-is (chains * k + j) (place_in chains k j hj heights hk) ∙ ap₂ (head_of K) (place_of chains k j hj) (number_of chains k j hj)

  pub next-at : (k n : ℕ) → k < heights → n < C → get_or (chain_words K C) (chains * heights + (C * k + n)) 0 ≡ next_of K k n
  next-at k n hk hn =
      next-is (C * k + n) (place_in C k n hn heights hk) ∙ ap₂ (next_of K) (place_of C k n hn) (number_of C k n hn)

  -- words that have every head and every next word at its place are these
  pub chains-by : (l : List ℕ) → length l ≡ (chains + C) * heights → ((k j : ℕ) → k < heights → j < chains → get_or l (chains * k + j) 0 ≡ head_of K k j)
      → ((k n : ℕ) → k < heights → n < C → get_or l (chains * heights + (C * k + n)) 0 ≡ next_of K k n) → l ≡ chain_words K C
  chains-by l e heads nexts = ext_get_or 0 l (chain_words K C) (e ∙ sym chains-long) (λ i h. go i (ltb i (chains * heights)) refl (omega (arith, e)))
    where
      go : (i : ℕ) (b : Bool) → ltb i (chains * heights) ≡ b → i < (chains + C) * heights → get_or l i 0 ≡ get_or (chain_words K C) i 0
      go i true q h =
          let in-heads : i < chains * heights = ltb-true i (chains * heights) q in
          let at : chains * (i / chains) + i % chains ≡ i = div-add-mod i chains in
          let hk : i / chains < heights = (div-lt_iff_lt-mul {k = chains} {x = i} {y = heights} (omega arith)).1 (omega arith) in
          ap (λ (m : ℕ). get_or l m 0) (sym at) ∙ heads (i / chains) (i % chains) hk (mod-lt i (omega arith)) ∙ sym (head-is i in-heads)
      go i false q h =
          let a : ℕ = i - chains * heights in
          let there : chains * heights + a ≡ i = omega (arith, ltb-false i (chains * heights) q) in
          let below : a < C * heights = omega (arith, ltb-false i (chains * heights) q) in
          let some : 0 < C = omega (arith, below) in
          let at : C * (a / C) + a % C ≡ a = div-add-mod a C in
          ap (λ (m : ℕ). get_or l m 0) (sym there ∙ ap (λ (m : ℕ). chains * heights + m) (sym at))
          ∙ nexts (a / C) (a % C) ((div-lt_iff_lt-mul {k = C} {x = a} {y = heights} some).1 (omega (arith, below))) (mod-lt a some) ∙ sym (ap (λ (m : ℕ). get_or (chain_words K C) m 0) (sym there) ∙ next-is a below)

-- ---- the words of a store

-- past the cells kept nothing follows
pub next-spare : (K : List (List Cell)) (k n : ℕ) → length (cells_at K k) ≤ n → next_of K k n ≡ 0
unfolding first_in
next-spare K k n h = ap (first_in k (chain_of k (cell_at K k n)) (suc n)) (drop_of_length-le (cells_at K k) {i = suc n} (omega arith))

-- words that are long enough for their capacity
module _ (ws : List ℕ) (long : used (capacity_of ws) ≤ length ws) where
  abbrev C : ℕ
  C = capacity_of ws

  abbrev K : List (List Cell)
  K = kept_of ws

  abbrev there : List ℕ
  there = take ((chains + C) * heights) (drop (first_head C) ws)

  there-long : length there ≡ (chains + C) * heights
  there-long = length-take-le ((chains + C) * heights) (drop (first_head C) ws) (rw (length-drop (first_head C) ws) (omega arith))

  there-at : (i : ℕ) → i < (chains + C) * heights → get_or there i 0 ≡ get_or ws (first_head C + i) 0
  there-at i h = get_or-take ((chains + C) * heights) (drop (first_head C) ws) i 0 h ∙ get_or-drop (first_head C) ws i 0

  head-there : (k j : ℕ) → k < heights → j < chains → get_or there (chains * k + j) 0 ≡ head_word ws k j
  head-there k j hk hj =
      let at : first_head C + (chains * k + j) ≡ head_position C k j = omega arith in
      there-at (chains * k + j) (omega arith) ∙ ap (λ (i : ℕ). get_or ws i 0) at

  next-there : (k n : ℕ) → k < heights → n < C → get_or there (chains * heights + (C * k + n)) 0 ≡ next_word ws k n
  next-there k n hk hn =
      let at : first_head C + (chains * heights + (C * k + n)) ≡ next_position C k n = omega arith in
      let inside : C * k + n < C * heights = place_in C k n hn heights hk in
      there-at (chains * heights + (C * k + n)) (omega arith) ∙ ap (λ (i : ℕ). get_or ws i 0) at

  -- right words, each head and each next word
  pub chains-are : T (chains_ok ws) → take ((chains + capacity_of ws) * heights) (drop (first_head (capacity_of ws)) ws) ≡ chain_words (kept_of ws) (capacity_of ws)
  unfolding chains_ok
  chains-are t = same_list_lem there (chain_words K C) t

  pub chains-right : take ((chains + capacity_of ws) * heights) (drop (first_head (capacity_of ws)) ws) ≡ chain_words (kept_of ws) (capacity_of ws) → T (chains_ok ws)
  unfolding chains_ok
  chains-right e = subst (λ (l : List ℕ). T (same_list there l)) e (same_self there)

  pub head-right : T (chains_ok ws) → (k j : ℕ) → k < heights → j < chains → head_word ws k j ≡ head_of (kept_of ws) k j
  head-right t k j hk hj = sym (head-there k j hk hj) ∙ ap (λ (l : List ℕ). get_or l (chains * k + j) 0) (chains-are t) ∙ head_at K C k j hk hj

  pub next-right : T (chains_ok ws) → (k n : ℕ) → k < heights → n < capacity_of ws → next_word ws k n ≡ next_of (kept_of ws) k n
  next-right t k n hk hn =
      sym (next-there k n hk hn) ∙ ap (λ (l : List ℕ). get_or l (chains * heights + (C * k + n)) 0) (chains-are t) ∙ next-at K C k n hk hn

  -- list by list
  pub list_right : ((k : ℕ) → k < heights → kept_count ws k ≤ capacity_of ws) → T (chains_ok ws) → (k : ℕ) → k < heights → ListRight ws k
  list_right few t k hk = record {
    each = λ j hj. record { head = head-right t k j hk hj; nexts = λ n hn e. next-right t k n hk (omega (arith, few k hk)) };
    spare = λ n hn hc. next-right t k n hk hc ∙ next-spare K k n (rw (kept-length ws k hk) hn);
  }

  pub lists-right : ((k : ℕ) → k < heights → ListRight ws k) → T (chains_ok ws)
  lists-right each = chains-right (chains-by K C there there-long (λ k j hk hj. head-there k j hk hj ∙ ((each k hk).each j hj).head) next)
    where
      by : (k n : ℕ) → k < heights → n < C → (b : Bool) → ltb n (kept_count ws k) ≡ b → next_word ws k n ≡ next_of K k n
      by k n hk hn true q = ((each k hk).each (chain_of k (cell_at K k n)) (chain-few k (cell_at K k n))).nexts n (ltb-true n (kept_count ws k) q) refl
      by k n hk hn false q =
          let past : kept_count ws k ≤ n = ltb-false n (kept_count ws k) q in
          (each k hk).spare n past hn ∙ sym (next-spare K k n (rw (kept-length ws k hk) past))

      next : (k n : ℕ) → k < heights → n < C → get_or there (chains * heights + (C * k + n)) 0 ≡ next_of K k n
      next k n hk hn = next-there k n hk hn ∙ by k n hk hn (ltb n (kept_count ws k)) refl
