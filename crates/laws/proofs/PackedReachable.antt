-- Which cells packing lays out: those that a reached cell names are reached, each once, by popularity. By induction from the root down, with the
-- laws of the order. Assumes nothing.
use mathlib.Core.Path.{◌≡◌, refl, sym, ◌∙◌, subst, ap}
use mathlib.Core.List.{List, [], ◌∷◌, map}
use mathlib.Core.Logic.{◌⊎◌, inl, inr}
use Prim.Native.Nat.{ℕ, zero, suc, ◌*◌, ◌<◌, ◌≤◌}
use native.Mathlib.Nat.{le_of_suc-le-suc, not-suc-le-zero, eq-or-lt_of_le}
use native.Mathlib.Decide.{dec_lt}
use native.Mathlib.Omega.{arith}
use borrow.Author.Tests.{eq-eqb, ne_eqb}
use lib.Dec.{T}
use lib.ListN.{length, get_or, length-map, get_or-eq_default}
use Rattle.paper.specs.Numbers.{is_in}
use Rattle.paper.specs.Store.{Cell, most_capacity, cell_no, cells_at, cell_at}
use Rattle.paper.specs.Packed.{weight, most_weight, popularity}
use Rattle.paper.specs.Pack.{ordered, next, reachable}
use Rattle.laws.proofs.Lists.{map_at, is_in-at, Once}
use Rattle.laws.proofs.Weights.{weight-pos, weight-le}
use Rattle.laws.proofs.Invariant.{Names, OkPointer, Inv}
pub use Rattle.laws.proofs.RenumberedPointers.{Listed, InList, none-renumbered, listed-is, listed_small, listed-some, listed-cell, listed-tag}
use Rattle.laws.proofs.PackedOrder.{Every, Pairs, every-at, Before, Counted, ordered-counted, ordered-pairs, ordered-all, ordered-once, ordered-length}

-- ---- which cells are named

pub popularity-pos : (cs : List Cell) (i q : ℕ) → i < length cs → 0 < weight q (get_or cs i []) → 1 ≤ popularity cs q
unfolding popularity
popularity-pos [] i q h e = absurd (not-suc-le-zero h)
popularity-pos (c ∷ cs) zero q h e = omega arith
popularity-pos (c ∷ cs) (suc i) q h e = omega (arith, popularity-pos cs i q (le_of_suc-le-suc h) e)

pub popularity-le : (cs : List Cell) (q : ℕ) → popularity cs q ≤ most_weight * length cs
unfolding popularity
popularity-le [] q = omega arith
popularity-le (c ∷ cs) q = omega (arith, weight-le q c, popularity-le cs q)

-- ---- which numbers are reached

pub reachable-top : (K : List (List Cell)) (k : ℕ) (ns : List ℕ) → reachable K k ns k ≡ ns
unfolding reachable
reachable-top K zero ns = refl
reachable-top K (suc k) ns = rw (eq-eqb (suc k) (suc k) refl)

reachable-below : (K : List (List Cell)) (k : ℕ) (ns : List ℕ) (j : ℕ) → j ≤ k → reachable K (suc k) ns j ≡ reachable K k (next K k ns) j
unfolding reachable
reachable-below K k ns j h = rw (ne_eqb j (suc k) (λ e. omega arith))

pub reachable-next : (K : List (List Cell)) (k : ℕ) (ns : List ℕ) (j : ℕ) → j < k → reachable K k ns j ≡ next K j (reachable K k ns (suc j))
reachable-next K zero ns j h = absurd (not-suc-le-zero h)
reachable-next K (suc k) ns j h =
    reachable-below K k ns j (le_of_suc-le-suc h)
    ∙ elim (eq-or-lt_of_le (le_of_suc-le-suc h)) [
      | inl e ↦
          ap (reachable K k (next K k ns)) e ∙ reachable-top K k (next K k ns)
          ∙ ap (next K k) (sym (reachable-top K (suc k) ns)) ∙ ap (λ (i : ℕ). next K i (reachable K (suc k) ns (suc i))) (sym e)
      | inr l ↦ reachable-next K k (next K k ns) j l ∙ ap (next K j) (sym (reachable-below K k ns (suc j) l))
    ]

-- ---- lists that can be packed: as they should be, none longer than a store can hold

pub record Packable (K : List (List Cell)) : Type 0 where
  pub invs : (j : ℕ) → Inv K j
  pub few : (j : ℕ) → length (cells_at K j) ≤ most_capacity

-- numbers below m, none twice
pub record Chosen (m : ℕ) (ns : List ℕ) : Type 0 where
  pub below : (i : ℕ) → i < length ns → get_or ns i 0 < m
  pub once : Once ns
  pub len : length ns ≤ m

chosen-one : (q m : ℕ) → q < m → Chosen m (q ∷ [])
chosen-one q m h = record { below = first; once = λ i j hi hj e. omega arith; len = omega arith }
  where
    first : (i : ℕ) → i < 1 → get_or (q ∷ []) i 0 < m
    first zero l = h
    first (suc i) l = absurd (omega arith)

chosen-ordered : (f : ℕ → ℕ) (c m : ℕ) → Chosen m (ordered f c m)
chosen-ordered f c m = record {
  below = λ i h. (every-at (Counted f c m) (ordered f c m) (ordered-counted f c m) i h).below;
  once = ordered-once f c m;
  len = ordered-length f c m;
}

pub before-le : (f : ℕ → ℕ) (x y : ℕ) → Before f x y → f y ≤ f x
before-le f x y (inl h) = omega arith
before-le f x y (inr h) = omega arith

-- the store's numbers in list j of the graph under root p of list k, in their order
abbrev pub numbers : List (List Cell) → ℕ → ℕ → ℕ → List ℕ
numbers K k p = reachable K k (cell_no p ∷ [])

-- cell n of that list, as the store has it
abbrev pub kept_at : List (List Cell) → ℕ → ℕ → ℕ → ℕ → Cell
kept_at K k p j n = cell_at K j (get_or (numbers K k p j) n 0)

-- how many pointers of the graph's cells one height up name a number
abbrev pub uses : List (List Cell) → ℕ → ℕ → ℕ → ℕ → ℕ
uses K k p j = popularity (map (cell_at K (suc j)) (numbers K k p (suc j)))

pub N-top : (K : List (List Cell)) (k p : ℕ) → numbers K k p k ≡ cell_no p ∷ []
N-top K k p = reachable-top K k (cell_no p ∷ [])

-- where a kept cell has eight pointers and each names one of the list below, or none, each list's numbers are kept ones, none twice, and every
-- cell that a reached one names is reached
abbrev pub Pointing : List (List Cell) → ℕ → Type 0
Pointing K k =
    (j : ℕ) → j < k → (q : ℕ) → q < length (cells_at K (suc j))
    → (length (cell_at K (suc j) q) ≡ 8) × ((i : ℕ) → i < 8 → OkPointer (length (cells_at K j)) (get_or (cell_at K (suc j) q) i 0))

module _ (K : List (List Cell)) (k p : ℕ) where
  abbrev N : ℕ → List ℕ
  N = numbers K k p

  abbrev used : ℕ → ℕ → ℕ
  used = uses K k p

  N-next : (j : ℕ) → j < k → N j ≡ ordered (used j) (most_weight * length (N (suc j))) (length (cells_at K j))
  unfolding next
  N-next j h = reachable-next K k (cell_no p ∷ []) j h

  pub N-used : (j : ℕ) → j < k → Every (Counted (used j) (most_weight * length (N (suc j))) (length (cells_at K j))) (N j)
  N-used j h =
      subst (Every (Counted (used j) (most_weight * length (N (suc j))) (length (cells_at K j)))) (sym (N-next j h)) (ordered-counted (used j) (most_weight * length (N (suc j))) (length (cells_at K j)))

  pub N-falls : (j : ℕ) → j < k → Pairs (Before (used j)) (N j)
  N-falls j h = subst (Pairs (Before (used j))) (sym (N-next j h)) (ordered-pairs (used j) (most_weight * length (N (suc j))) (length (cells_at K j)))

  module _ (root : cell_no p < length (cells_at K k)) where
    pub chosen : (j : ℕ) → j ≤ k → Chosen (length (cells_at K j)) (N j)
    chosen j h = go (eq-or-lt_of_le h)
      where
        top : Chosen (length (cells_at K k)) (N k)
        top = subst (Chosen (length (cells_at K k))) (sym (reachable-top K k (cell_no p ∷ []))) (chosen-one (cell_no p) (length (cells_at K k)) root)

        go : (j ≡ k) ⊎ (j < k) → Chosen (length (cells_at K j)) (N j)
        go (inl e) = subst (λ (i : ℕ). Chosen (length (cells_at K i)) (N i)) (sym e) top
        go (inr l) = subst (Chosen (length (cells_at K j))) (sym (N-next j l)) (chosen-ordered (used j) (most_weight * length (N (suc j))) (length (cells_at K j)))

    pub listed : Pointing K k → (j : ℕ) → j < k → (n : ℕ) → n < length (N (suc j)) → (i : ℕ) → InList (N j) (get_or (kept_at K k p (suc j) n) i 0)
    listed ok j h n m i = elim (dec_lt i 8) [ yes l ↦ go l (points.1 i l) | no l ↦ inl (get_or-eq_default c 0 (omega (arith, points.0))) ]
      where
        c : Cell
        c = kept_at K k p (suc j) n

        r : ℕ
        r = get_or c i 0

        points : (length c ≡ 8) × ((i : ℕ) → i < 8 → OkPointer (length (cells_at K j)) (get_or c i 0))
        points = ok j h (get_or (N (suc j)) n 0) ((chosen (suc j) h).below n m)

        go : i < 8 → OkPointer (length (cells_at K j)) r → InList (N j) r
        go l (inl e) = inl e
        go l (inr w) =
            let some : r ≡ 0 → ⊥ = λ e. omega arith in
            let cs : List Cell = map (cell_at K (suc j)) (N (suc j)) in
            let is : get_or cs n [] ≡ c = map_at (cell_at K (suc j)) (N (suc j)) n 0 [] m in
            let count : Counted (used j) (most_weight * length (N (suc j))) (length (cells_at K j)) (cell_no r) =
            record {
              below = omega arith;
              some = popularity-pos cs n (cell_no r) (omega (arith, length-map (N (suc j)) (cell_at K (suc j)))) (rw is (weight-pos c i l some));
              most = omega (arith, popularity-le cs (cell_no r), length-map (N (suc j)) (cell_at K (suc j)));
            } in
            inr (record {
              some = some;
              at = is_in-at (cell_no r) (N j) (subst (λ (l : List ℕ). T (is_in (cell_no r) l)) (sym (N-next j h)) (ordered-all (used j) (most_weight * length (N (suc j))) (length (cells_at K j)) (cell_no r) count));
            })

-- so it is in lists that can be packed
module _ (K : List (List Cell)) (s : Packable K) (k p : ℕ) (hp : Names (length (cells_at K k)) p) where
  pub N-chosen : (j : ℕ) → j ≤ k → Chosen (length (cells_at K j)) (numbers K k p j)
  N-chosen = chosen K k p (omega arith)

  pub N-few : (j : ℕ) → j ≤ k → length (numbers K k p j) ≤ most_capacity
  N-few j h = omega (arith, (N-chosen j h).len, s.few j)

  pub all-pointing : Pointing K k
  all-pointing j h q l = (((s.invs (suc j)).shape q l).0, (s.invs (suc j)).ok q l)

  pub all_listed : (j : ℕ) → j < k → (n : ℕ) → n < length (numbers K k p (suc j)) → (i : ℕ) → InList (numbers K k p j) (get_or (kept_at K k p (suc j) n) i 0)
  all_listed = listed K k p (omega arith) all-pointing
