-- What one cell more at the end of a list, or a cut, does to its chains: to their heads and to what follows each cell. By the last cell of the chain that it
-- joins. Assumes nothing.
use mathlib.Core.Path.{◌≡◌, refl, sym, ◌∙◌, ap, ap₂, subst}
use mathlib.Core.Bool.{cond, ◌&&◌}
use mathlib.Core.List.{List, [], ◌∷◌, ◌++◌}
use mathlib.Core.Logic.{◌≢◌}
use Prim.Native.Nat.{ℕ, zero, suc, ◌+◌, ◌<◌, ◌≤◌, zero-le}
use native.Mathlib.Nat.{zero-add}
use native.Mathlib.Decide.{ℕ_discrete, dec_lt}
use native.Mathlib.Omega.{arith}
use borrow.Author.Tests.{eq-eqb, ne_eqb}
use lib.Dec.{eqb}
use lib.ListN.{length, drop, get_or, set, length-append, length-drop, drop_of_length-le, get_or-append}
use lib.Seq.{drop-append-le, get_or-set_same, get_or-set_other}
use Rattle.paper.specs.Store.{Cell, cells_at, chain_of, first_in, head_of, next_of}
use Rattle.laws.specs.Chains.{last_in, last_of, cut_link}
use Rattle.laws.proofs.Chains.{or_next, or-none, or_some, cut-kept, cut-gone, first-nil, first_more, first_above, first-none, first-cut}
use Rattle.laws.proofs.ChainEnds.{Last, last-at, last-zero, last_some, last-most}

-- ---- one cell more: only the link to it changes, which is its chain's head or what follows the last of its chain

-- what follows cell n of a list
abbrev pub next_in : ℕ → ℕ → List Cell → ℕ
next_in k n cs = first_in k (chain_of k (get_or cs n [])) (suc n) (drop (suc n) cs)

-- nothing, where cell n is the list's last or no cell of it
pub next-end : (k n : ℕ) (cs : List Cell) → length cs ≤ suc n → next_in k n cs ≡ 0
next-end k n cs h = ap (first_in k (chain_of k (get_or cs n [])) (suc n)) (drop_of_length-le cs {i = suc n} h) ∙ first-nil k (chain_of k (get_or cs n [])) (suc n)

module _ (k : ℕ) (cs : List Cell) where
  -- a cell that stays has its chain, and what follows it is sought in what was there, then in what is added
  next-append : (n : ℕ) (ds : List Cell) → n < length cs → next_in k n (cs ++ ds) ≡ first_in k (chain_of k (get_or cs n [])) (suc n) (drop (suc n) cs ++ ds)
  next-append n ds h =
      ap₂ (λ (c : Cell) (es : List Cell). first_in k (chain_of k c) (suc n) es) (get_or-append cs ds [] n h) (drop-append-le (suc n) cs ds h)

  rest-length : (n : ℕ) → n < length cs → suc n + length (drop (suc n) cs) ≡ length cs
  rest-length n h = omega (arith, length-drop (suc n) cs)

  pub first-grown : (c : Cell) (j : ℕ)
      → first_in k j 0 (cs ++ (c ∷ [])) ≡ cond (eqb j (chain_of k c) && eqb (last_in k (chain_of k c) 0 0 cs) 0) (suc (length cs)) (first_in k j 0 cs)
  first-grown c j = first_more k j 0 cs c ∙ go (ℕ_discrete j (chain_of k c)) (ℕ_discrete (last_in k (chain_of k c) 0 0 cs) 0)
    where
      i : ℕ
      i = chain_of k c

      f : ℕ
      f = first_in k j 0 cs

      go : Dec (j ≡ i) → Dec (last_in k i 0 0 cs ≡ 0)
          → or_next f (cond (eqb i j) (suc (0 + length cs)) 0) ≡ cond (eqb j i && eqb (last_in k i 0 0 cs) 0) (suc (length cs)) f
      go (yes e) (yes z) =
          let y : f ≡ 0 = ap (λ (x : ℕ). first_in k x 0 cs) e ∙ last-zero k i cs z in
          rw (eq-eqb j i e, eq-eqb i j (sym e), eq-eqb (last_in k i 0 0 cs) 0 z, y, zero-add (length cs))
      go (yes e) (no z) =
          rw (eq-eqb j i e, ne_eqb (last_in k i 0 0 cs) 0 z) (or_some f (cond (eqb i j) (suc (0 + length cs)) 0) (λ y. last_some k i cs z (ap (λ (x : ℕ). first_in k x 0 cs) (sym e) ∙ y)))
      go (no e) d = rw (ne_eqb j i e, ne_eqb i j (λ y. e (sym y))) (or-none f)

  pub next-grown : (c : Cell) (n : ℕ) → next_in k n (cs ++ (c ∷ [])) ≡ cond (eqb (suc n) (last_in k (chain_of k c) 0 0 cs)) (suc (length cs)) (next_in k n cs)
  next-grown c n = go (dec_lt n (length cs))
    where
      i : ℕ
      i = chain_of k c

      l : ℕ
      l = last_in k i 0 0 cs

      j : ℕ
      j = chain_of k (get_or cs n [])

      -- the last of the chain, another of it, one of another chain
      link : ℕ → ℕ
      link m = or_next (next_in k n cs) (cond (eqb i j) (suc m) 0)

      stays : n < length cs → l ≢ suc n → Dec (i ≡ j) → link (length cs) ≡ next_in k n cs
      stays h ne (no e) = rw (ne_eqb i j e) (or-none (next_in k n cs))
      stays h ne (yes e) = or_some (next_in k n cs) (cond (eqb i j) (suc (length cs)) 0) (some l refl)
        where
          some : (x : ℕ) → l ≡ x → next_in k n cs ≡ 0 → ⊥
          some zero q y = first-none k i 0 cs (last-zero k i cs q) n h (sym e)
          some (suc m) q y = (last-at k i cs m q).one-after n h (sym e) (λ d. ne (q ∙ ap suc (sym d))) (ap (λ (x : ℕ). first_in k x (suc n) (drop (suc n) cs)) e ∙ y)

      linked : n < length cs → Dec (suc n ≡ l) → link (length cs) ≡ cond (eqb (suc n) l) (suc (length cs)) (next_in k n cs)
      linked h (yes e) =
          let a : Last k i cs n = last-at k i cs n (sym e) in
          let y : next_in k n cs ≡ 0 = ap (λ (x : ℕ). first_in k x (suc n) (drop (suc n) cs)) a.is ∙ a.none_after in
          rw (eq-eqb (suc n) l e, eq-eqb i j (sym a.is), y)
      linked h (no e) = rw (ne_eqb (suc n) l e) (stays h (λ d. e (sym d)) (ℕ_discrete i j))

      go : Dec (n < length cs) → next_in k n (cs ++ (c ∷ [])) ≡ cond (eqb (suc n) l) (suc (length cs)) (next_in k n cs)
      go (yes h) = next-append n (c ∷ []) h ∙ first_more k j (suc n) (drop (suc n) cs) c ∙ ap link (rest-length n h) ∙ linked h (ℕ_discrete (suc n) l)
      go (no h) =
          let m : l ≤ length cs = last-most k i cs in
          rw (ne_eqb (suc n) l (λ e. omega arith)) (next-end k n (cs ++ (c ∷ [])) (omega (arith, length-append cs (c ∷ []))) ∙ sym (next-end k n cs (omega arith)))

  -- a list cut back: the links to what is gone are none
  pub next-cut : (ds : List Cell) (n : ℕ) → cut_link (length cs) (next_in k n (cs ++ ds)) ≡ next_in k n cs
  next-cut ds n = go (dec_lt n (length cs))
    where
      j : ℕ
      j = chain_of k (get_or cs n [])

      i : ℕ
      i = chain_of k (get_or (cs ++ ds) n [])

      gone : length cs ≤ n → Dec (next_in k n (cs ++ ds) ≡ 0) → cut_link (length cs) (next_in k n (cs ++ ds)) ≡ 0
      gone h (yes z) = ap (cut_link (length cs)) z ∙ cut-kept (length cs) 0 zero-le
      gone h (no z) =
          let a : suc n < next_in k n (cs ++ ds) = first_above k i (suc n) (drop (suc n) (cs ++ ds)) z in
          cut-gone (length cs) (next_in k n (cs ++ ds)) (omega arith)

      go : Dec (n < length cs) → cut_link (length cs) (next_in k n (cs ++ ds)) ≡ next_in k n cs
      go (yes h) =
          ap (cut_link (length cs)) (next-append n ds h)
          ∙ ap (λ (x : ℕ). cut_link x (first_in k j (suc n) (drop (suc n) cs ++ ds))) (sym (rest-length n h)) ∙ first-cut k j (suc n) (drop (suc n) cs) ds
      go (no h) = gone (omega arith) (ℕ_discrete (next_in k n (cs ++ ds)) 0) ∙ sym (next-end k n cs (omega arith))

  pub head-cut : (ds : List Cell) (j : ℕ) → cut_link (length cs) (first_in k j 0 (cs ++ ds)) ≡ first_in k j 0 cs
  head-cut ds j = ap (λ (x : ℕ). cut_link x (first_in k j 0 (cs ++ ds))) (sym (zero-add (length cs))) ∙ first-cut k j 0 cs ds

-- ---- the same of a store's lists

module _ (K : List (List Cell)) (k : ℕ) (hk : k < length K) (c : Cell) where
  abbrev pub more : List (List Cell)
  more = set K k (cells_at K k ++ (c ∷ []))

  abbrev pub last : ℕ
  last = last_of K k (chain_of k c)

  same_list_lem : cells_at more k ≡ cells_at K k ++ (c ∷ [])
  same_list_lem = get_or-set_same K k (cells_at K k ++ (c ∷ [])) [] hk

  other-list : (k' : ℕ) → k' ≢ k → cells_at more k' ≡ cells_at K k'
  other-list k' ne = get_or-set_other K k k' (cells_at K k ++ (c ∷ [])) [] ne

  -- other lists keep their chains
  pub head-other : (k' j : ℕ) → k' ≢ k → head_of more k' j ≡ head_of K k' j
  head-other k' j ne = ap (first_in k' j 0) (other-list k' ne)

  pub next-other : (k' n : ℕ) → k' ≢ k → next_of more k' n ≡ next_of K k' n
  next-other k' n ne = ap (next_in k' n) (other-list k' ne)

  -- the list itself
  pub head-own : (j : ℕ) → head_of more k j ≡ cond (eqb j (chain_of k c) && eqb last 0) (suc (length (cells_at K k))) (head_of K k j)
  head-own j = ap (first_in k j 0) same_list_lem ∙ first-grown k (cells_at K k) c j

  pub next-own : (n : ℕ) → next_of more k n ≡ cond (eqb (suc n) last) (suc (length (cells_at K k))) (next_of K k n)
  next-own n = ap (next_in k n) same_list_lem ∙ next-grown k (cells_at K k) c n

  -- all lists
  pub head_more : (k' j' : ℕ) → head_of more k' j' ≡ cond (eqb k' k && eqb j' (chain_of k c) && eqb last 0) (suc (length (cells_at K k))) (head_of K k' j')
  head_more k' j' = go (ℕ_discrete k' k)
    where
      go : Dec (k' ≡ k) → head_of more k' j' ≡ cond (eqb k' k && eqb j' (chain_of k c) && eqb last 0) (suc (length (cells_at K k))) (head_of K k' j')
      go (yes e) = rw (eq-eqb k' k e) (subst (λ (x : ℕ). head_of more x j' ≡ cond (eqb j' (chain_of k c) && eqb last 0) (suc (length (cells_at K k))) (head_of K x j')) (sym e) (head-own j'))
      go (no e) = rw (ne_eqb k' k e) (head-other k' j' e)

  pub next_more : (k' n : ℕ) → next_of more k' n ≡ cond (eqb k' k && eqb (suc n) last) (suc (length (cells_at K k))) (next_of K k' n)
  next_more k' n = go (ℕ_discrete k' k)
    where
      go : Dec (k' ≡ k) → next_of more k' n ≡ cond (eqb k' k && eqb (suc n) last) (suc (length (cells_at K k))) (next_of K k' n)
      go (yes e) = rw (eq-eqb k' k e) (subst (λ (x : ℕ). next_of more x n ≡ cond (eqb (suc n) last) (suc (length (cells_at K k))) (next_of K x n)) (sym e) (next-own n))
      go (no e) = rw (ne_eqb k' k e) (next-other k' n e)

-- lists that are others cut back
module _ (K K' : List (List Cell)) (k : ℕ) (ds : List Cell) (is : cells_at K' k ≡ cells_at K k ++ ds) where
  pub heads-cut : (j : ℕ) → cut_link (length (cells_at K k)) (head_of K' k j) ≡ head_of K k j
  heads-cut j = ap (λ (cs : List Cell). cut_link (length (cells_at K k)) (first_in k j 0 cs)) is ∙ head-cut k (cells_at K k) ds j

  pub nexts-cut : (n : ℕ) → cut_link (length (cells_at K k)) (next_of K' k n) ≡ next_of K k n
  nexts-cut n =
      ap (λ (cs : List Cell). cut_link (length (cells_at K k)) (next_in k n cs)) is ∙ next-cut k (cells_at K k) ds n
