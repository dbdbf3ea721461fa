-- Placing along a list and over the lists: what is left to place comes to the same as all that was to be placed. Only the list's own places change,
-- so the order and the places of the list below stay. By the parts that a write leaves. Assumes nothing.
use mathlib.Core.Path.{◌≡◌, refl, sym, ap, subst, ◌∙◌}
use mathlib.Core.List.{List, []}
use Prim.Native.Nat.{ℕ, zero, suc, ◌+◌, ◌-◌, ◌*◌, ◌<◌, ◌≤◌}
use native.Mathlib.Numerals.{add-one}
use native.Mathlib.Omega.{arith}
use lib.Dec.{T}
use lib.ListN.{length, get_or, set, drop, replicate, length-set}
use lib.Seq.{drop-cons, drop-length}
use borrow.Author.Tests.{ne_eqb}
use Rattle.paper.specs.Store.{Cell, heights, capacity_of, kept_count, kept_of, cell_at, store_ok}
use Rattle.paper.specs.Pack.{width}
use Rattle.laws.proofs.Undamaged.{fine-header, store-header}
use Rattle.laws.proofs.StoreFacts.{cell-sound, cell-names}
use Rattle.numbers.specs.Laid.{reached}
use Rattle.pack_scratch.specs.Parts.{orders, places, buckets, word_in, with_word, Only, OnlyPart, order_in, places_in}
use Rattle.pack_scratch.proofs.Words.{in-orders, in-places, only_none, only-written, only_then, only-more, words-at, words-length, words_same}
use Rattle.pack_places.specs.Placing.{span, placing, placed_list, placed, onto, list_placed, placed_lists, Below, Kept}
use Rattle.pack_places.proofs.Placings.{words, placing-only}

-- ---- a cell's record

-- each pointer of a kept cell names a number below the capacity
pub cell_below : (ws : List ℕ) → T (store_ok ws) → (k q : ℕ) → (k ≡ 0 → ⊥) → k < heights → q < kept_count ws k → Below (capacity_of ws) (cell_at (kept_of ws) k q)
cell_below ws ok zero q z hk hq = absurd (z refl)
cell_below ws ok (suc k) q z hk hq = λ i h n.
    let few : kept_count ws k ≤ capacity_of ws = (fine-header ws (store-header ws ok)).few k (omega arith) in
    omega (arith, cell-names (kept_count ws k) (cell_at (kept_of ws) (suc k) q) (cell-sound ws ok k q hk hq) i h (ne_eqb (get_or (cell_at (kept_of ws) (suc k) q) i 0) 0 n))

pub span-leaf : (K : List (List Cell)) (C k : ℕ) (s : List ℕ) (q : ℕ) → k ≡ 0 → 1 ≡ span K C k s q
unfolding span
span-leaf K C k s q e = rw e

pub span-cell : (K : List (List Cell)) (C k : ℕ) (s : List ℕ) (q : ℕ) → (k ≡ 0 → ⊥) → width (places_in C (k - 1) s) (cell_at K k q) ≡ span K C k s q
unfolding span
span-cell K C zero s q z = absurd (z refl)
span-cell K C (suc k) s q z = let e : suc k - 1 ≡ k = omega arith in rw e

-- ---- along a list

-- the places of the list below stay
pub span_same : (K : List (List Cell)) (C k : ℕ) (s s' : List ℕ) (q : ℕ) → k < heights → OnlyPart C (places k) s s' → span K C k s' q ≡ span K C k s q
unfolding span
span_same K C zero s s' q h o = refl
span_same K C (suc k) s s' q h o =
    ap (λ (ps : List ℕ). width ps (cell_at K (suc k) q))
    (words_same C (places k) C s' s (λ i l. o.same (places k) i (in-places C k i (omega arith) l) (λ e. omega arith)))

module _ (K : List (List Cell)) (C k n : ℕ) (s₀ : List ℕ) where
  -- the first i of n cells are placed, up to place a
  pub record Run (s : List ℕ) (a i : ℕ) : Type 0 where
    pub few : i ≤ n
    pub low : a ≤ 17 * i
    pub frame : OnlyPart C (places k) s₀ s
    pub left : placing (span K C k s₀) C k a (drop i (order_in C k n s₀)) s ≡ placed_list K C k n s₀

  pub run-first : Run s₀ 0 0
  unfolding placed_list
  run-first = record { few = omega arith; low = omega arith; frame = only_none C (λ p. p ≡ places k) s₀; left = refl }

  module _ (list : k < heights) where
    -- the next cell of the order
    pub run-next : (s : List ℕ) (a i : ℕ) → Run s a i → i < n → n ≤ C → word_in C (orders k) s i ≡ get_or (order_in C k n s₀) i 0
    run-next s a i r h few = r.frame.same (orders k) i (in-orders C k i list (omega arith)) (λ e. omega arith) ∙ sym (words-at C (orders k) n s₀ i h)

    pub run_on : (s : List ℕ) (a i q w : ℕ) → Run s a i → i < n → q < C → q ≡ get_or (order_in C k n s₀) i 0 → w ≡ span K C k s q → w ≤ 17
        → Run (with_word C (places k) q a s) (a + w) (i + 1)
    unfolding placing
    run_on s a i q w r h b e f l = record {
      few = omega arith;
      low = omega (arith, r.low);
      frame = only-written C (λ p. p ≡ places k) s₀ s (places k) q a (in-places C k q list b) refl r.frame;
      left =
          ap (λ (m : ℕ). placing (span K C k s₀) C k (a + m) (drop (i + 1) ns) (with_word C (places k) q a s)) (f ∙ span_same K C k s₀ s q list r.frame)
          ∙ ap (λ (j : ℕ). placing (span K C k s₀) C k (a + span K C k s₀ q) (drop j ns) (with_word C (places k) q a s)) (add-one i)
          ∙ ap (λ (x : ℕ). placing (span K C k s₀) C k (a + span K C k s₀ x) (drop (suc i) ns) (with_word C (places k) x a s)) e
          ∙ ap (λ (m : List ℕ). placing (span K C k s₀) C k a m s) (sym (drop-cons ns i 0 (rw (words-length C (orders k) n s₀) h)))
          ∙ r.left;
    }
      where
        ns : List ℕ
        ns = order_in C k n s₀

  pub run-last : (s : List ℕ) (a i : ℕ) → Run s a i → n ≤ i → reached a s ≡ placed_list K C k n s₀
  unfolding placing
  run-last s a i r h =
      let ns : List ℕ = order_in C k n s₀ in
      let e : i ≡ n = omega (arith, r.few) in
      let none : drop i ns ≡ [] = ap (λ (j : ℕ). drop j ns) (e ∙ sym (words-length C (orders k) n s₀)) ∙ drop-length ns in
      ap (λ (m : List ℕ). placing (span K C k s₀) C k a m s) (sym none) ∙ r.left

-- ---- over the lists

-- the places of any list
abbrev pub Places : ℕ → Type 0
Places p = (places 0 ≤ p) × (p < buckets)

order-stays : (k : ℕ) → k < heights → Places (orders k) → ⊥
order-stays k h p = omega (arith, p.0)

-- a list placed changes its places alone
pub list-only : (K : List (List Cell)) (C k n : ℕ) (s : List ℕ) → k < heights → ((i : ℕ) → i < n → word_in C (orders k) s i < C)
    → OnlyPart C (places k) s (words (placed_list K C k n s))
unfolding placed_list
list-only K C k n s h below =
    placing-only (span K C k s) C k h 0 (order_in C k n s) s
    (λ i l. let m : i < n = omega (arith, words-length C (orders k) n s) in omega (arith, words-at C (orders k) n s i m, below i m))

-- the cells of each list's order stay kept ones
pub kept-still : (ws : List ℕ) (k n : ℕ) (s s' : List ℕ) → k < heights → Kept ws k n s → Only (capacity_of ws) Places s s' → Kept ws k n s'
kept-still ws k n s s' h r o = record {
  few = r.few;
  kept = λ i l.
      let C : ℕ = capacity_of ws in
      rw (o.same (orders k) i (in-orders C k i h (omega (arith, r.few))) (order-stays k h)) (r.kept i l);
}

-- and below the capacity
pub kept-below : (ws : List ℕ) (k n : ℕ) (s : List ℕ) → T (store_ok ws) → k < heights → Kept ws k n s → (i : ℕ) → i < n → word_in (capacity_of ws) (orders k) s i < capacity_of ws
kept-below ws k n s ok h r i l = omega (arith, r.kept i l, (fine-header ws (store-header ws ok)).few k h)

module _ (K : List (List Cell)) (C : ℕ) (counts : List ℕ) (top : ℕ) (s₀ : List ℕ) where
  -- the first k lists are placed
  pub record Lists (sizes s : List ℕ) (k : ℕ) : Type 0 where
    pub few : k ≤ top + 1
    pub fifteen : length sizes ≡ heights
    pub frame : Only C Places s₀ s
    pub is : placed sizes s ≡ placed_lists K C counts k s₀

  pub lists-first : Lists (replicate heights 0) s₀ 0
  unfolding placed_lists
  lists-first = record { few = omega arith; fifteen = refl; frame = only_none C Places s₀; is = refl }

  pub lists-on : (sizes s : List ℕ) (k n r : ℕ) (s' : List ℕ) → Lists sizes s k → k ≤ top → k < heights → ((i : ℕ) → i < n → word_in C (orders k) s i < C)
      → n ≡ get_or counts k 0 → reached r s' ≡ placed_list K C k n s → Lists (set sizes k r) s' (k + 1)
  unfolding placed_lists
  lists-on sizes s k n r s' l h list below c e = record {
    few = omega arith;
    fifteen = length-set sizes k r ∙ l.fifteen;
    frame =
        only_then C Places s₀ s s' l.frame
        (only-more C (λ p. p ≡ places k) Places s s' (λ p d. (omega arith, omega arith)) (subst (OnlyPart C (places k) s) (sym (ap words e)) (list-only K C k n s list below)));
    is =
        ap (onto k sizes) (e ∙ ap (λ (m : ℕ). placed_list K C k m s) c) ∙ ap (list_placed K C counts k) l.is
        ∙ ap (λ (j : ℕ). placed_lists K C counts j s₀) (sym (add-one k));
  }
