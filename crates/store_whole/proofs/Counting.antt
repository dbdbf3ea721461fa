-- The ways through the tests of the counts, in the code's words: what a pointer stands for, the sum over a cell's children, a list's counts one by one,
-- and the lists from the leaves up. No sum wraps: below a list whose counts are tested each is the number of its cell's voxels. Assumes nothing.
use mathlib.Core.Path.{◌≡◌, refl, sym, ap, subst, ◌∙◌}
use mathlib.Core.Bool.{Bool, true, false, cond, true≢false}
use mathlib.Core.List.{List}
use Prim.Native.Nat.{ℕ, zero, suc, ◌+◌, ◌-◌, ◌*◌, ◌^◌, ◌≤◌, ◌<◌, zero-le}
use native.Mathlib.Nat.{le_trans}
use native.Mathlib.Numerals.{add-one, sub-one}
use native.Mathlib.Omega.{arith}
use lib.Dec.{T, eqb, leb, leb→le}
use lib.ListN.{length, get_or}
use borrow.Author.Tests.{eqb-false, eq-eqb, ne_eqb}
use Rattle.paper.specs.Numbers.{all_below, sum}
use Rattle.paper.specs.Store.{Cell, cells_at, cell_at, cell_no, bad_pointer, any_bad, heights, kept_count, kept_of, over_children, solid_of, count_of, list_usable, counts_ok}
use Rattle.laws.proofs.Tests.{T_true, true-T, false-unless, both-T, all-at, none-at}
use Rattle.laws.proofs.Sums.{sum-most}
use Rattle.laws.proofs.Kept.{kept-length}
use Rattle.laws.proofs.Invariant.{named-kept}
use Rattle.laws.proofs.TrueCounts.{usable-sound, counts-below, solid-most}
use Rattle.store_whole.specs.Counts.{share_of, Bounded, Countable}

-- ---- a pointer

module _ (ws : List ℕ) (k p : ℕ) where
  abbrev by-pointer : Bool → ℕ
  by-pointer b = cond b 0 (count_of ws k (cell_no p))

  pub share-none : p ≡ 0 → 0 ≡ share_of ws k p
  share-none e = sym (ap (λ (q : ℕ). cond (eqb q 0) 0 (count_of ws k (cell_no p))) e)

  pub share-named : (p ≡ 0 → ⊥) → count_of ws k (cell_no p) ≡ share_of ws k p
  share-named z = sym (ap by-pointer (ne_eqb p 0 z))

  -- at most the voxels of the highest cell
  pub share-most : k < heights → bad_pointer (kept_count ws k) p ≡ false → Bounded ws k → share_of ws k p ≤ 8 ^ 16
  share-most h b w = go (eqb p 0) refl
    where
      go : (t : Bool) → eqb p 0 ≡ t → cond t 0 (count_of ws k (cell_no p)) ≤ 8 ^ 16
      go true e = zero-le
      go false e =
          le_trans (w (cell_no p) (named-kept (kept_count ws k) p b (eqb-false p 0 e)))
          (leb→le (8 ^ suc (suc k)) (8 ^ 16) (all-at heights (λ i. leb (8 ^ suc (suc i)) (8 ^ 16)) tt k h))

-- ---- a cell: the shares of its pointers, summed one after the other

module _ (ws : List ℕ) (k : ℕ) (c : Cell) where
  abbrev pub shares_below : ℕ → ℕ
  shares_below i = sum i (λ j. share_of ws k (get_or c j 0))

  pub shares-none : 0 ≡ shares_below 0
  unfolding sum
  shares-none = refl

  pub shares-all : (i : ℕ) → i ≡ 8 → shares_below i ≡ over_children (count_of ws k) c
  unfolding over_children
  shares-all i e = ap shares_below e

  pub shares-most : (i : ℕ) → i ≤ 8 → k < heights → any_bad (kept_count ws k) c ≡ false → Bounded ws k → shares_below i ≤ i * 8 ^ 16
  shares-most i l h b w =
      sum-most i (8 ^ 16) (λ j. share_of ws k (get_or c j 0))
      (λ j m. share-most ws k (get_or c j 0) h (none-at 8 (λ t. bad_pointer (kept_count ws k) (get_or c t 0)) b j (omega arith)) w)

-- ---- a list: its counts one by one

abbrev pub sum_of : List ℕ → ℕ → ℕ → ℕ
sum_of ws k n = over_children (count_of ws (k - 1)) (cell_at (kept_of ws) k n)

abbrev pub counted : List ℕ → ℕ → ℕ → Bool
counted ws k n = eqb (count_of ws k n) (sum_of ws k n)

pub list_counted : (ws : List ℕ) (k : ℕ) → 1 ≤ k → counts_ok ws k ≡ all_below (kept_count ws k) (counted ws k)
unfolding counts_ok
list_counted ws zero o = absurd (omega arith)
list_counted ws (suc k) o =
    let e : k ≡ suc k - 1 = omega arith in
    ap (λ (j : ℕ). all_below (kept_count ws (suc k)) (λ n. eqb (count_of ws (suc k) n) (over_children (count_of ws j) (cell_at (kept_of ws) (suc k) n)))) e

module _ (ws : List ℕ) (k n : ℕ) (w : Countable ws k) (h : n < kept_count ws k) where
  -- no pointer of a cell tested is bad
  pub cell-sound : any_bad (kept_count ws (k - 1)) (cell_at (kept_of ws) k n) ≡ false
  cell-sound = go k w.above w.listed w.usable h
    where
      go : (j : ℕ) → 1 ≤ j → j < heights → T (list_usable (kept_of ws) j) → n < kept_count ws j → any_bad (kept_count ws (j - 1)) (cell_at (kept_of ws) j n) ≡ false
      go zero o l u m = absurd (omega arith)
      go (suc j) o l u m =
          let e : length (cells_at (kept_of ws) j) ≡ kept_count ws (suc j - 1) = rw (sub-one (suc j)) (kept-length ws j (omega arith)) in
          subst (λ (i : ℕ). any_bad i (cell_at (kept_of ws) (suc j) n) ≡ false) e
          (usable-sound (kept_of ws) j n u (rw (kept-length ws (suc j) l) m))

module _ (ws : List ℕ) (k n : ℕ) {a b : ℕ} (p : a ≡ count_of ws k n) (q : b ≡ sum_of ws k n) where
  pub count-right : a ≡ b → counted ws k n ≡ true
  count-right e = eq-eqb (count_of ws k n) (sum_of ws k n) (sym p ∙ e ∙ q)

  pub count-wrong : (a ≡ b → ⊥) → counted ws k n ≡ false
  count-wrong z = ne_eqb (count_of ws k n) (sum_of ws k n) (λ e. z (p ∙ e ∙ sym q))

-- ---- the lists, from the leaves up: those below k have been tested

module _ (ws : List ℕ) (k : ℕ) (above : 1 ≤ k) (u : T (all_below heights (list_usable (kept_of ws)))) (t : T (all_below k (counts_ok ws))) where
  pub can-count : k < heights → Countable ws k
  can-count h =
      record {
        above = above;
        listed = h;
        usable = all-at heights (list_usable (kept_of ws)) u k h;
        bounded = λ n l. subst (λ (m : ℕ). m ≤ 8 ^ suc (suc (k - 1))) (sym (true_below n l)) (solid-most (kept_of ws) (k - 1) (cell_at (kept_of ws) (k - 1) n));
      }
    where
      true_below : (n : ℕ) → n < kept_count ws (k - 1) → count_of ws (k - 1) n ≡ solid_of (kept_of ws) (k - 1) (cell_at (kept_of ws) (k - 1) n)
      true_below n l = counts-below ws u (k - 1) (omega arith) (λ j m. all-at k (counts_ok ws) t j (omega arith)) n l

-- list k too, list k not, and no list left
pub lists-more : (ws : List ℕ) (k : ℕ) → T (all_below k (counts_ok ws)) → counts_ok ws k ≡ true → T (all_below (k + 1) (counts_ok ws))
lists-more ws k t e = rw (add-one k) (both-T (counts_ok ws k) (all_below k (counts_ok ws)) (true-T e) t)

pub lists-stop : (ws : List ℕ) (k : ℕ) → k < heights → counts_ok ws k ≡ false → all_below heights (counts_ok ws) ≡ false
lists-stop ws k h e = false-unless (all_below heights (counts_ok ws)) (λ t. true≢false (sym (T_true (all-at heights (counts_ok ws) (true-T t) k h)) ∙ e))

pub lists-end : (ws : List ℕ) (k : ℕ) → k ≤ heights → heights ≤ k → T (all_below k (counts_ok ws)) → all_below heights (counts_ok ws) ≡ true
lists-end ws k l m t = let e : k ≡ heights = omega arith in T_true (subst (λ (n : ℕ). T (all_below n (counts_ok ws))) e t)

pub leaves-counted : (ws : List ℕ) → T (all_below 1 (counts_ok ws))
unfolding counts_ok
leaves-counted ws = tt
