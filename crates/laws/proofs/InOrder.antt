-- A store in order: one that passes the whole store's test is, and so are the words of lists whose cells are ok; its chains are right, its kept cells'
-- pointers name cells, and the laws of adding hold of it. By what a store's words give back. Assumes nothing.
use mathlib.Core.Path.{◌≡◌, sym, ◌∙◌, ap, ap₂, subst}
use mathlib.Core.Bool.{Bool, false, not, ◌&&◌}
use mathlib.Core.List.{List, ◌++◌}
use Prim.Native.Nat.{ℕ, suc, ◌^◌, ◌<◌, ◌≤◌}
use borrow.Author.Tests.{ne_eqb, not-false}
use lib.Dec.{T, eqb, leb, leb→le}
use lib.ListN.{length, drop, get_or}
use lib.Seq.{drop_at}
use Rattle.paper.specs.Store.{Cell, cells_at, cell_at, leaf_no, low_of, bad_pointer, any_bad, used, capacity_of, scenes_held, kept_of, store_of, words_of, capacity_ok, chains_ok, store_ok}
use Rattle.laws.specs.Chains.{NamesCells}
use Rattle.laws.specs.InOrder.{InOrder}
use Rattle.laws.proofs.Tests.{true-T, and_left, none-at}
use Rattle.laws.proofs.Invariant.{OkCells}
use Rattle.laws.proofs.Adding.{Sound}
use Rattle.laws.proofs.Words.{Fine, store_with, stored, words_of-length, capacity-read, kept_read, store_of-words_of}
use Rattle.laws.proofs.Undamaged.{FineHeader, fine-header, fine-header-ok, header-fine, undamaged, store-header, words_of-store_of}
use Rattle.laws.proofs.SoundWords.{words-header, stored-chained}
use Rattle.laws.proofs.Filled.{none-bad}
use Rattle.laws.proofs.Places.{cells-sound, store-none-bad, store-leaves}

-- a store that passes the test, of 32-bit words
pub in_order : (ws : List ℕ) → T (store_ok ws) → ((i : ℕ) → get_or ws i 0 < 2 ^ 32) → InOrder ws
in_order ws t words = record { header = store-header ws t; own = words_of-store_of ws (undamaged ws t) words; leaves = store-leaves ws (undamaged ws t) words; sound = store-none-bad ws (undamaged ws t) }

-- a pointer that isn't bad, and not 0, names a cell
pub low-named : (n p : ℕ) → (p ≡ 0 → ⊥) → bad_pointer n p ≡ false → 1 ≤ low_of p
low-named n p ne e =
    let good : not (eqb p 0) && not (leb 1 (low_of p) && leb (low_of p) n) ≡ false = e in
    let both : T (leb 1 (low_of p) && leb (low_of p) n) = true-T (not-false (leb 1 (low_of p) && leb (low_of p) n) (subst (λ (b : Bool). not b && not (leb 1 (low_of p) && leb (low_of p) n) ≡ false) (ne_eqb p 0 ne) good)) in
    leb→le 1 (low_of p) (and_left (leb 1 (low_of p)) (leb (low_of p) n) both)

-- ---- what holds of it

module _ (ws : List ℕ) (o : InOrder ws) where
  pub order-header : FineHeader ws
  order-header = fine-header ws o.header

  pub order-fine : Fine (capacity_of ws) (scenes_held ws) (store_of ws).scenes (kept_of ws)
  unfolding store_of
  order-fine = header-fine ws order-header

  -- its words are those of its lists
  pub order-stored : stored (capacity_of ws) (scenes_held ws) (store_of ws).scenes (kept_of ws) (drop (used (capacity_of ws)) ws) ≡ ws
  unfolding store_of
  order-stored = o.own

  pub order-chained : T (chains_ok ws)
  order-chained =
      subst (λ (w : List ℕ). T (chains_ok w)) order-stored
      (stored-chained (capacity_of ws) (scenes_held ws) (store_of ws).scenes (kept_of ws) order-fine (drop (used (capacity_of ws)) ws))

  pub order-sound : Sound (capacity_of ws) (kept_of ws)
  order-sound = cells-sound ws order-header.few o.leaves o.sound

  pub order-names : (k q : ℕ) → q < length (cells_at (kept_of ws) (suc k)) → NamesCells (cell_at (kept_of ws) (suc k) q)
  order-names k q h i hi ne =
      let n : ℕ = length (cells_at (kept_of ws) k) in
      let c : Cell = cell_at (kept_of ws) (suc k) q in
      low-named n (get_or c i 0) ne (none-at 8 (λ j. bad_pointer n (get_or c j 0)) (o.sound k q h) i hi)

-- ---- the words of lists whose cells are ok

module _ (C N : ℕ) (S : List Cell) (K : List (List Cell)) (f : Fine C N S K) (c : T (capacity_ok C)) (s : OkCells K) (l : List ℕ) where
  abbrev words : List ℕ
  words = stored C N S K l

  pub stored-in-order : InOrder (stored C N S K l)
  stored-in-order = record {
    header = fine-header-ok words (words-header C N S K f l c);
    own = ap₂ (λ (a b : List ℕ). a ++ b) (ap words_of (store_of-words_of C N S K f l))
        (ap (λ (D : ℕ). drop (used D) words) (capacity-read C N S K f l) ∙ drop_at (words_of (store_with C N S K)) l (used C) (words_of-length C N S K f));
    leaves = subst (λ (G : List (List Cell)). (q : ℕ) → q < length (cells_at G 0) → leaf_no (cell_at G 0 q) < 2 ^ 64) (sym (kept_read C N S K f l)) (s 0);
    sound = subst (λ (G : List (List Cell)). (k q : ℕ) → q < length (cells_at G (suc k)) → any_bad (length (cells_at G k)) (cell_at G (suc k) q) ≡ false) (sym (kept_read C N S K f l))
        (λ k q h. none-bad (length (cells_at K k)) (cell_at K (suc k) q) (s (suc k) q h));
  }
