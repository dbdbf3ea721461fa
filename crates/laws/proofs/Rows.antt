-- The rows of a store's cells, each its words and behind them its count, and the lists of rows as regions: where each stands, what is in it, and that
-- only the counts of its own cells matter to it. By induction on the lists. Assumes nothing.
use mathlib.Core.Path.{◌≡◌, refl, sym, ◌∙◌, subst, ap, ap₂}
use mathlib.Core.List.{List, [], ◌∷◌, ◌++◌, map}
use Prim.Native.Nat.{ℕ, zero, suc, ◌+◌, ◌*◌, ◌<◌, ◌≤◌, zero-le}
use native.Mathlib.Nat.{le_of_suc-le-suc, not-suc-le-zero, add-zero, mul-le-mul_left}
use native.Mathlib.Omega.{arith}
use lib.ListN.{length, take, get_or, set, length-map, length-append}
use lib.Seq.{take_all, take_at}
use Rattle.paper.specs.Store.{Cell, cells_at, cell_at, two_words, heights, used, cell_length, stride, list_position, first_head, solid_of, padded, Region, region, row_of, list_regions}
use Rattle.laws.proofs.Padded.{Sized, snil, scons, padded-length, sized-snoc}
use Rattle.laws.proofs.Regions.{region_at, Fit, fnil, fcons, region_place}
use Rattle.laws.proofs.Lists.{length-snoc}

-- ---- rows: a cell's words, and its count behind them

module _ (G : List (List Cell)) where
  pub row-length : (k : ℕ) (c : Cell) → length c ≡ cell_length k → length (row_of G k c) ≡ stride k
  row-length zero c e = e
  row-length (suc k) c e = length-append c (two_words (solid_of G (suc k) c)) ∙ ap (λ (n : ℕ). n + 2) e

  pub rows-sized : (k : ℕ) {cs : List Cell} → Sized (cell_length k) cs → Sized (stride k) (map (row_of G k) cs)
  rows-sized k snil = snil
  rows-sized k (scons {c} e r) = scons (row-length k c e) (rows-sized k r)

  -- the cell is what a row begins with
  row-cell : (k : ℕ) (c : Cell) → length c ≡ cell_length k → take (cell_length k) (row_of G k c) ≡ c
  row-cell zero c e = take_all 2 c (omega arith)
  row-cell (suc k) c e = take_at c (two_words (solid_of G (suc k) c)) 8 e

  pub rows-cells : (k : ℕ) {cs : List Cell} → Sized (cell_length k) cs → map (take (cell_length k)) (map (row_of G k) cs) ≡ cs
  rows-cells k snil = refl
  rows-cells k (scons {c} e r) = ap₂ ◌∷◌ (row-cell k c e) (rows-cells k r)

-- by lists that give the same counts
pub row_same : (G G' : List (List Cell)) (k : ℕ) (c : Cell) → solid_of G k c ≡ solid_of G' k c → row_of G k c ≡ row_of G' k c
row_same G G' zero c e = refl
row_same G G' (suc k) c e = ap (λ (n : ℕ). c ++ two_words n) e

rows_same : (G G' : List (List Cell)) (k : ℕ) (cs : List Cell) → ((q : ℕ) → q < length cs → solid_of G k (get_or cs q []) ≡ solid_of G' k (get_or cs q []))
    → map (row_of G k) cs ≡ map (row_of G' k) cs
rows_same G G' k [] e = refl
rows_same G G' k (c ∷ cs) e = ap₂ ◌∷◌ (row_same G G' k c (e 0 (omega arith))) (rows_same G G' k cs (λ q h. e (suc q) (omega arith)))

-- ---- the lists of cells

-- the lists from list j on have cells of their words, and at most C of them
pub data Lists (C : ℕ) : ℕ → List (List Cell) → Type 0 where
  lnil : {j : ℕ} → Lists C j []
  lcons : {j : ℕ} {cs : List Cell} {Ks : List (List Cell)} → Sized (cell_length j) cs → length cs ≤ C → Lists C (suc j) Ks → Lists C j (cs ∷ Ks)

-- where the next list stands, and that the words of each are before the chains, and used
pub list-next : (C j : ℕ) → list_position C (suc j) ≡ list_position C j + stride j * C
list-next C zero = omega arith
list-next C (suc j) = omega arith

pub list-end : (C j : ℕ) → j < heights → list_position C j + stride j * C ≤ first_head C
list-end C j h = omega (arith, list-next C j, mul-le-mul_left (stride 1 * C) (le_of_suc-le-suc h))

pub list-in : (C j : ℕ) → j < heights → list_position C j + stride j * C ≤ used C
list-in C j h = omega (arith, list-end C j h)

pub words_fit : (j n C : ℕ) → n ≤ C → n * stride j ≤ stride j * C
words_fit zero n C h = omega arith
words_fit (suc j) n C h = omega arith

-- list j + m has cells of their words, at most C of them
pub lists-sized : {C j : ℕ} {Ks : List (List Cell)} → Lists C j Ks → (m : ℕ) → m < length Ks → Sized (cell_length (j + m)) (get_or Ks m [])
lists-sized lnil m h = absurd (not-suc-le-zero h)
lists-sized {j} (lcons {cs = cs} r q t) zero h = rw (add-zero j) r
lists-sized {j} (lcons r q t) (suc m) h =
    let ji : j + suc m ≡ suc j + m = omega arith in
    rw ji (lists-sized t m (le_of_suc-le-suc h))

pub lists-few : {C j : ℕ} {Ks : List (List Cell)} → Lists C j Ks → (m : ℕ) → length (get_or Ks m []) ≤ C
lists-few lnil m = zero-le
lists-few (lcons r q t) zero = q
lists-few (lcons r q t) (suc m) = lists-few t m

-- a cell more in list j + m
pub lists-snoc : {C j : ℕ} {Ks : List (List Cell)} → Lists C j Ks → (m : ℕ) (c : Cell) → length c ≡ cell_length (j + m) → length (get_or Ks m []) < C
    → Lists C j (set Ks m (get_or Ks m [] ++ (c ∷ [])))
lists-snoc lnil m c e l = lnil
lists-snoc {C} {j} (lcons {cs = cs} r q t) zero c e l =
    lcons (sized-snoc c r (e ∙ ap cell_length (add-zero j))) (rw (length-snoc cs c) l) t
lists-snoc {C} {j} (lcons r q t) (suc m) c e l =
    let ji : j + suc m ≡ suc j + m = omega arith in
    lcons r q (lists-snoc t m c (e ∙ ap cell_length ji) l)

-- their regions, with the counts that lists G give: each has room for its rows, stands at its place, and has the rows of its list
module _ (G : List (List Cell)) where
  list_length : (C j : ℕ) (cs : List Cell) → Sized (cell_length j) cs → length cs ≤ C → length (padded (stride j * C) (map (row_of G j) cs)) ≡ stride j * C
  list_length C j cs r h = padded-length (stride j * C) (rows-sized G j r) (rw (length-map cs (row_of G j)) (words_fit j (length cs) C h))

  pub lists-fit : {C j : ℕ} {Ks : List (List Cell)} → Lists C j Ks → Fit (list_regions G C j Ks)
  unfolding list_regions
  lists-fit lnil = fnil
  lists-fit {C} {j} (lcons {cs = cs} r h t) = fcons (list_length C j cs r h) (lists-fit t)

  pub lists-place : (C j : ℕ) (Ks : List (List Cell)) (m : ℕ) → m ≤ length Ks → list_position C j + region_place (list_regions G C j Ks) m ≡ list_position C (j + m)
  unfolding list_regions region_place
  lists-place C j Ks zero h = add-zero (list_position C j) ∙ ap (list_position C) (sym (add-zero j))
  lists-place C j [] (suc m) h = absurd (not-suc-le-zero h)
  lists-place C j (cs ∷ Ks) (suc m) h =
      let ji : suc j + m ≡ j + suc m = omega arith in
      let next : list_position C j + (stride j * C + region_place (list_regions G C (suc j) Ks) m) ≡ list_position C (suc j) + region_place (list_regions G C (suc j) Ks) m = omega (arith, list-next C j) in
      next ∙ lists-place C (suc j) Ks m (le_of_suc-le-suc h) ∙ ap (list_position C) ji

  pub lists-many : (C j : ℕ) (Ks : List (List Cell)) → length (list_regions G C j Ks) ≡ length Ks
  unfolding list_regions
  lists-many C j [] = refl
  lists-many C j (cs ∷ Ks) = ap suc (lists-many C (suc j) Ks)

  -- list j as a region, of these cells
  abbrev pub list_of : ℕ → ℕ → List Cell → Region
  list_of C j cs = region (stride j * C) (map (row_of G j) cs)

  pub list-region : (C j : ℕ) (Ks : List (List Cell)) (m : ℕ) → m < length Ks
      → region_at (list_regions G C j Ks) m ≡ region (stride (j + m) * C) (map (row_of G (j + m)) (get_or Ks m []))
  unfolding list_regions
  list-region C j [] m h = absurd (not-suc-le-zero h)
  list-region C j (cs ∷ Ks) zero h = ap (λ (i : ℕ). list_of C i cs) (sym (add-zero j))
  list-region C j (cs ∷ Ks) (suc m) h =
      let ji : suc j + m ≡ j + suc m = omega arith in
      list-region C (suc j) Ks m (le_of_suc-le-suc h) ∙ ap (λ (i : ℕ). list_of C i (get_or Ks m [])) ji

  -- other cells in list j + m
  pub list_set : (C j : ℕ) (Ks : List (List Cell)) (m : ℕ) (X : List Cell)
      → list_regions G C j (set Ks m X) ≡ set (list_regions G C j Ks) m (region (stride (j + m) * C) (map (row_of G (j + m)) X))
  unfolding list_regions
  list_set C j [] m X = refl
  list_set C j (cs ∷ Ks) zero X = ap (λ (i : ℕ). list_of C i X ∷ list_regions G C (suc j) Ks) (sym (add-zero j))
  list_set C j (cs ∷ Ks) (suc m) X =
      let ji : suc j + m ≡ j + suc m = omega arith in
      ap (λ (rs : List Region). list_of C j cs ∷ rs)
      (list_set C (suc j) Ks m X ∙ ap (λ (i : ℕ). set (list_regions G C (suc j) Ks) m (list_of C i X)) ji)

-- by lists that give the same counts
pub lists-same : (G G' : List (List Cell)) (C j : ℕ) (Ks : List (List Cell))
    → ((m q : ℕ) → q < length (cells_at Ks m) → solid_of G (j + m) (cell_at Ks m q) ≡ solid_of G' (j + m) (cell_at Ks m q)) → list_regions G C j Ks ≡ list_regions G' C j Ks
unfolding list_regions
lists-same G G' C j [] e = refl
lists-same G G' C j (cs ∷ Ks) e =
    ap₂ (λ (rows : List (List ℕ)) (rs : List Region). region (stride j * C) rows ∷ rs)
    (rows_same G G' j cs (λ q h. subst (λ (i : ℕ). solid_of G i (get_or cs q []) ≡ solid_of G' i (get_or cs q [])) (add-zero j) (e 0 q h)))
    (lists-same G G' C (suc j) Ks
    (λ m q h.
    let ji : j + suc m ≡ suc j + m = omega arith in
    subst (λ (i : ℕ). solid_of G i (cell_at Ks m q) ≡ solid_of G' i (cell_at Ks m q)) ji (e (suc m) q h)))
