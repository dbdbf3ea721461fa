-- Kept cells counted as cells of rooms: no family of rooms, no two of them images, that are images of kept cells is longer than the list; and where a
-- cell is refused, it and the cells kept are such a family, longer than C. By pigeonholes, and the match rule's agreement with voxels. Assumes nothing.
use mathlib.Core.Path.{◌≡◌, refl, sym, ◌∙◌, subst, ap}
use mathlib.Core.List.{List, [], ◌∷◌, ◌++◌}
use mathlib.Core.Logic.{◌⊎◌, inl, inr}
use Prim.Native.Nat.{ℕ, zero, suc, ◌<◌, ◌≤◌, zero-le, suc-le-suc}
use native.Mathlib.Nat.{not-suc-le-zero, le_refl, le_of_suc-le-suc, eq-or-lt_of_le}
use native.Mathlib.Decide.{ℕ_discrete, dec_lt}
use native.Mathlib.Omega.{arith}
use lib.ListN.{get_or, length, get_or-append}
use lib.Seq.{get_or-append_seam}
use Rattle.paper.specs.Rooms.{Room, Same, Image, NonEmpty}
use Rattle.paper.specs.Outline.{edge}
use Rattle.paper.specs.Store.{Cell, cells_at, cell_at}
use Rattle.paper.specs.Meaning.{cell_voxel}
use Rattle.laws.proofs.Mirrors.{image-sym, image-trans}
use Rattle.laws.proofs.Invariant.{OkCells, match-complete}
use Rattle.laws.proofs.Growing.{ext-cell, ext-voxels}
use Rattle.laws.proofs.Adding.{Invs, Refused}

-- ---- pigeonholes

-- n things, each related to a number below m, no two to the same, are at most m
pub few-related : (n m : ℕ) (R : ℕ → ℕ → Type 0) → ((i : ℕ) → i < n → (q : ℕ) × (q < m) × R i q)
    → ((i j q : ℕ) → i < n → j < n → R i q → R j q → i ≡ j) → n ≤ m
few-related zero m R some one = zero-le
few-related (suc n) zero R some one = absurd (not-suc-le-zero (some 0 (suc-le-suc zero-le)).1)
few-related (suc n) (suc m) R some one =
    suc-le-suc (few-related n m (λ i q. R i q ⊎ ((q ≡ last.0) × R i m)) (λ i h. moved i h (some i (omega arith)) (ℕ_discrete (some i (omega arith)).0 m)) apart)
  where
    last : (q : ℕ) × (q < suc m) × R n q
    last = some n (le_refl (suc n))

    -- what was related to m is related to the last one's number
    moved : (i : ℕ) → i < n → (r : (q : ℕ) × (q < suc m) × R i q) → Dec (r.0 ≡ m) → (q : ℕ) × (q < m) × (R i q ⊎ ((q ≡ last.0) × R i m))
    moved i h (q, hq, r) (no ne) = (q, omega arith, inl r)
    moved i h (q, hq, r) (yes e) =
        let rm : R i m = subst (R i) e r in
        let other : last.0 ≡ m → ⊥ = λ f. omega (arith, one i n m (omega arith) (le_refl (suc n)) rm (subst (R n) f last.2)) in
        (last.0, omega (arith, last.1), inr (refl, rm))

    apart : (i j q : ℕ) → i < n → j < n → R i q ⊎ ((q ≡ last.0) × R i m) → R j q ⊎ ((q ≡ last.0) × R j m) → i ≡ j
    apart i j q hi hj (inl a) (inl b) = one i j q (omega arith) (omega arith) a b
    apart i j q hi hj (inl a) (inr b) = absurd (omega (arith, one i n last.0 (omega arith) (le_refl (suc n)) (subst (R i) b.0 a) last.2))
    apart i j q hi hj (inr a) (inl b) = absurd (omega (arith, one j n last.0 (omega arith) (le_refl (suc n)) (subst (R j) a.0 b) last.2))
    apart i j q hi hj (inr a) (inr b) = one i j m (omega arith) (omega arith) a.1 b.1

-- ---- rooms, no two of them images

abbrev pub Distinct : ℕ → ℕ → (ℕ → Room) → Type 0
Distinct S n rooms = (i j : ℕ) → i < n → j < n → Image S (rooms i) (rooms j) → i ≡ j

-- images of kept cells are at most as many as those
pub kept-at-least : (K : List (List Cell)) (k n : ℕ) (rooms : ℕ → Room)
    → ((i : ℕ) → i < n → (q : ℕ) × (q < length (cells_at K k)) × Image (edge k) (rooms i) (cell_voxel K k (cell_at K k q)))
    → Distinct (edge k) n rooms → n ≤ length (cells_at K k)
kept-at-least K k n rooms some one =
    few-related n (length (cells_at K k)) (λ i q. Image (edge k) (rooms i) (cell_voxel K k (cell_at K k q))) some
    (λ i j q hi hj a b. one i j hi hj (image-trans (edge k) (rooms i) (cell_voxel K k (cell_at K k q)) (rooms j) a (image-sym (edge k) (rooms j) (cell_voxel K k (cell_at K k q)) b)))

-- kept cells are such rooms
pub kept-distinct : (K : List (List Cell)) (k : ℕ) → Invs K → Distinct (edge k) (length (cells_at K k)) (λ q. cell_voxel K k (cell_at K k q))
kept-distinct K k I q r hq hr (t, ht, e) = (I k).apart q r t hq hr ht e

-- ---- where a cell is refused

module _ {A : Type 0} {C : ℕ} {K : List (List Cell)} (P : ℕ → Room → Type 0) (n : Refused A C K P) (a : A) where
  -- the cells kept at its height, and it
  abbrev pub candidates : List Cell
  candidates = cells_at n.lists n.list ++ (n.cell ∷ [])

  abbrev pub candidate : ℕ → Room
  candidate i = cell_voxel n.lists n.list (get_or candidates i [])

  old-is : (i : ℕ) → i < length (cells_at n.lists n.list) → get_or candidates i [] ≡ cell_at n.lists n.list i
  old-is i h = get_or-append (cells_at n.lists n.list) (n.cell ∷ []) [] i h

  new_is : get_or candidates (length (cells_at n.lists n.list)) [] ≡ n.cell
  new_is = get_or-append_seam (cells_at n.lists n.list) n.cell [] []

  -- a rule of the candidates, of those kept and of the one refused
  each : (Q : ℕ → Cell → Type 0) → ((i : ℕ) → i < length (cells_at n.lists n.list) → Q i (cell_at n.lists n.list i))
      → Q (length (cells_at n.lists n.list)) n.cell → (i : ℕ) → i < suc (length (cells_at n.lists n.list)) → Q i (get_or candidates i [])
  each Q old new i h =
      elim (eq-or-lt_of_le (le_of_suc-le-suc h)) [
        | inl e ↦ subst (λ (j : ℕ). Q j (get_or candidates j [])) (sym e) (subst (Q (length (cells_at n.lists n.list))) (sym new_is) new)
        | inr l ↦ subst (Q i) (sym (old-is i l)) (old i l)
      ]

  -- more than C of them
  pub refused-more : C < suc (length (cells_at n.lists n.list))
  refused-more = suc-le-suc n.no_room

  -- none of them empty
  pub refused-solid : (i : ℕ) → i < suc (length (cells_at n.lists n.list)) → NonEmpty (edge n.list) (candidate i)
  refused-solid = each (λ i c. NonEmpty (edge n.list) (cell_voxel n.lists n.list c)) (n.invs a n.list).solid (n.solid a)

  not-kept : (q : ℕ) → q < length (cells_at n.lists n.list) → Image (edge n.list) (cell_voxel n.lists n.list n.cell) (cell_voxel n.lists n.list (cell_at n.lists n.list q)) → ⊥
  not-kept q hq (t, ht, e) =
      n.nowhere q t hq ht (match-complete n.lists n.list (λ j l. n.invs a j) n.cell (cell_at n.lists n.list q) t ht n.okc ((n.invs a n.list).ok q hq) e)

  -- no two of them images
  pub refused-distinct : Distinct (edge n.list) (suc (length (cells_at n.lists n.list))) candidate
  refused-distinct i j hi hj =
      let S = edge n.list in
      let room : Cell → Room = cell_voxel n.lists n.list in
      each (λ p c. Image S (room c) (candidate j) → p ≡ j)
      (λ p hp. each (λ q d. Image S (room (cell_at n.lists n.list p)) (room d) → p ≡ q)
      (λ q hq m. kept-distinct n.lists n.list (n.invs a) p q hp hq m)
      (λ m. absurd (not-kept p hp (image-sym S (room (cell_at n.lists n.list p)) (room n.cell) m))) j hj)
      (each (λ q d. Image S (room n.cell) (room d) → length (cells_at n.lists n.list) ≡ q)
      (λ q hq m. absurd (not-kept q hq m)) (λ m. refl) j hj) i hi

  -- each was kept before, or P holds of it
  abbrev pub From : ℕ → Cell → Type 0
  From i c =
      ((i < length (cells_at K n.list)) × Same (edge n.list) (cell_voxel n.lists n.list c) (cell_voxel K n.list (cell_at K n.list i)))
      ⊎ P n.list (cell_voxel n.lists n.list c)

  from_old : OkCells K → (i : ℕ) → i < length (cells_at n.lists n.list) → Dec (i < length (cells_at K n.list)) → From i (cell_at n.lists n.list i)
  from_old ok i h (yes l) =
      inl (l, λ v m. ap (λ (c : Cell). cell_voxel n.lists n.list c v) (ext-cell n.ext n.list i l) ∙ ext-voxels n.ext ok n.list (cell_at K n.list i) (ok n.list i l) v m)
  from_old ok i h (no m) = inr (n.fresh n.list i (omega arith) h)

  pub refused-from : OkCells K → (i : ℕ) → i < suc (length (cells_at n.lists n.list)) → From i (get_or candidates i [])
  refused-from ok = each From (λ i h. from_old ok i h (dec_lt i (length (cells_at K n.list)))) (inr n.of-cell)
