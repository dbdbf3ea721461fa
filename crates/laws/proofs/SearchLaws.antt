-- A search through the cells, on any lists: its children one after another, as a loop takes them; at most so many cells entered; and a cell wholly
-- inside the box that met nothing meets nothing under any mirror, after as many cells. By induction on the height: under another mirror the
-- children come in another order, and a sum doesn't mind. Assumes nothing.
use mathlib.Core.Path.{◌≡◌, refl, sym, ◌∙◌, ap, ap₂, subst}
use mathlib.Core.Bool.{Bool, true, false, cond, ◌&&◌}
use mathlib.Core.List.{List}
use Prim.Native.Nat.{ℕ, zero, suc, ◌+◌, ◌-◌, ◌*◌, ◌^◌, ◌<◌, ◌≤◌}
use native.Mathlib.Nat.{pow-succ', pow-le-pow_right, zero-add, add-zero}
use native.Mathlib.Omega.{arith}
use lib.Bits.{bit_xor}
use lib.Pow.{pow_pos}
use borrow.Author.Tests.{lt-ltb}
use lib.Dec.{eqb, ltb, lit<}
use lib.ListN.{length, get_or}
use Rattle.paper.specs.Numbers.{sum}
use Rattle.paper.specs.Rooms.{Point, Room, mirrored, box_count, has_voxel, origin, far, is_whole, clipped}
use Rattle.paper.specs.Leaf.{leaf_voxel}
use Rattle.paper.specs.Outline.{edge}
use Rattle.paper.specs.Store.{Cell, cells_at, cell_at, leaf_no, tag_of, cell_no, bad_pointer}
use Rattle.paper.specs.Anything.{further, or_else, in_order, pointer_of, shared_bad, pointer_search, cell_search}
use Rattle.paper.specs.Anything.{Search}
use Rattle.paper.specs.Anything.{Met, Passed, Damaged}
use Rattle.laws.proofs.Tests.{none-at, none-T}
use Rattle.laws.proofs.Eight.{xor8-lt, xor8-back}
use Rattle.laws.proofs.Matching.{tag-lt}
use Rattle.laws.proofs.OutlineWriting.{edge-twice}
use Rattle.laws.proofs.Sums.{sum_head, sum-places}
use Rattle.laws.proofs.Boxes.{box-mirrored}
use Rattle.laws.proofs.Counts.{origin-clipped, far-clipped}
use Rattle.laws.proofs.BoxTallies.{whole-box}

-- ---- searches one after another

pub further-none : (s : Search) → further 0 s ≡ s
further-none (Met e) = ap Met (zero-add e)
further-none (Passed e) = ap Passed (zero-add e)
further-none Damaged = refl

pub further-twice : (a b : ℕ) (s : Search) → further a (further b s) ≡ further (a + b) s
further-twice a b (Met e) = ap Met (omega arith)
further-twice a b (Passed e) = ap Passed (omega arith)
further-twice a b Damaged = refl

-- no child is left
pub order-done : (i : ℕ) (f : ℕ → Search) → in_order i 0 f ≡ Passed 0
unfolding in_order
order-done i f = refl

-- the first, then the rest
pub order-more : (i n : ℕ) (f : ℕ → Search) → in_order i (suc n) f ≡ or_else (f i) (in_order (suc i) n f)
unfolding in_order
order-more i n f = refl

-- by what the first gives
pub order-met : (i n : ℕ) (f : ℕ → Search) (e : ℕ) → f i ≡ Met e → in_order i (suc n) f ≡ Met e
order-met i n f e q = order-more i n f ∙ ap (λ (s : Search). or_else s (in_order (suc i) n f)) q

pub order-passed : (i n : ℕ) (f : ℕ → Search) (e : ℕ) → f i ≡ Passed e → in_order i (suc n) f ≡ further e (in_order (suc i) n f)
order-passed i n f e q = order-more i n f ∙ ap (λ (s : Search). or_else s (in_order (suc i) n f)) q

pub order-damaged : (i n : ℕ) (f : ℕ → Search) → f i ≡ Damaged → in_order i (suc n) f ≡ Damaged
order-damaged i n f q = order-more i n f ∙ ap (λ (s : Search). or_else s (in_order (suc i) n f)) q

-- in a loop's words: child i of n, with a cells entered before it
abbrev pub rest_from : ℕ → ℕ → (ℕ → Search) → ℕ → Search
rest_from n i f a = further a (in_order i (n - i) f)

left_over : (n i : ℕ) → i < n → n - i ≡ suc (n - (i + 1))
left_over n i h = omega arith

step : (n i : ℕ) (f : ℕ → Search) → i < n → in_order i (n - i) f ≡ or_else (f i) (in_order (i + 1) (n - (i + 1)) f)
step n i f h =
    let e : suc i ≡ i + 1 = omega arith in
    ap (λ (m : ℕ). in_order i m f) (left_over n i h) ∙ order-more i (n - (i + 1)) f ∙ ap (λ (j : ℕ). or_else (f i) (in_order j (n - (i + 1)) f)) e

pub loop-starts : (n : ℕ) (f : ℕ → Search) → in_order 0 n f ≡ rest_from n 0 f 0
loop-starts n f = sym (further-none (in_order 0 (n - 0) f) ∙ ap (λ (m : ℕ). in_order 0 m f) (omega arith))

pub loop-met : (n i : ℕ) (f : ℕ → Search) (a e : ℕ) → i < n → f i ≡ Met e → rest_from n i f a ≡ Met (a + e)
loop-met n i f a e h q = ap (further a) (step n i f h ∙ ap (λ (s : Search). or_else s (in_order (i + 1) (n - (i + 1)) f)) q)

pub loop-passed : (n i : ℕ) (f : ℕ → Search) (a e : ℕ) → i < n → f i ≡ Passed e → rest_from n i f a ≡ rest_from n (i + 1) f (a + e)
loop-passed n i f a e h q =
    ap (further a) (step n i f h ∙ ap (λ (s : Search). or_else s (in_order (i + 1) (n - (i + 1)) f)) q)
    ∙ further-twice a e (in_order (i + 1) (n - (i + 1)) f)

pub loop-damaged : (n i : ℕ) (f : ℕ → Search) (a : ℕ) → i < n → f i ≡ Damaged → rest_from n i f a ≡ Damaged
loop-damaged n i f a h q = ap (further a) (step n i f h ∙ ap (λ (s : Search). or_else s (in_order (i + 1) (n - (i + 1)) f)) q)

pub loop-done : (n i : ℕ) (f : ℕ → Search) (a : ℕ) → n ≤ i → rest_from n i f a ≡ Passed a
loop-done n i f a h =
    let e : n - i ≡ 0 = omega arith in
    ap (λ (m : ℕ). further a (in_order i m f)) e ∙ ap (further a) (order-done i f) ∙ ap Passed (add-zero a)

-- ---- at most so many cells

eight-pos : (k : ℕ) → 0 < 8 ^ k
eight-pos zero = lit< tt
eight-pos (suc k) = omega (arith, pow-succ' 8 k, eight-pos k)

-- seven times the cells entered are at most x
abbrev pub Few : ℕ → Search → Type 0
Few x (Met e) = 7 * e ≤ x
Few x (Passed e) = 7 * e ≤ x
Few x Damaged = Unit {0}

more-few : (x y : ℕ) (s : Search) → x ≤ y → Few x s → Few y s
more-few x y (Met e) h l = omega arith
more-few x y (Passed e) h l = omega arith
more-few x y Damaged h l = tt

further-few : (a x : ℕ) (s : Search) → Few x s → Few (7 * a + x) (further a s)
further-few a x (Met e) l = omega arith
further-few a x (Passed e) l = omega arith
further-few a x Damaged l = tt

else-few : (x y : ℕ) (s t : Search) → Few x s → Few y t → Few (x + y) (or_else s t)
else-few x y (Met e) t l m = omega arith
else-few x y (Passed e) t l m = more-few (7 * e + y) (x + y) (further e t) (omega arith) (further-few e y t m)
else-few x y Damaged t l m = tt

pub order-few : (n i x : ℕ) (f : ℕ → Search) → ((j : ℕ) → Few x (f j)) → Few (n * x) (in_order i n f)
unfolding in_order
order-few zero i x f h = omega arith
order-few (suc n) i x f h =
    more-few (x + n * x) (suc n * x) (or_else (f i) (in_order (suc i) n f)) (omega arith) (else-few x (n * x) (f i) (in_order (suc i) n f) (h i) (order-few n (suc i) x f h))

-- a pointer leads to no more than the cell that it names
pub pointer-few : (x : ℕ) (go : ℕ → ℕ → Point → Point → Search) (p m : ℕ) (low high : Point) → Few x (go (cell_no p) (bit_xor (tag_of p) m) low high)
    → Few x (pointer_search go p m low high)
pointer-few x go p m low high h = pick (has_voxel low high) (eqb p 0)
  where
    pick : (v z : Bool) → Few x (cond v (cond z (Passed 0) (go (cell_no p) (bit_xor (tag_of p) m) low high)) (Passed 0))
    pick false z = omega arith
    pick true true = omega arith
    pick true false = h

-- child i of cell n of list k + 1, seen under m
abbrev pub child_search : List (List Cell) → ℕ → ℕ → ℕ → Point → Point → ℕ → Search
child_search K k n m low high i = pointer_search (λ q t a b. cell_search K k q t a b) (pointer_of K k n m i) m (clipped (edge k) i low) (clipped (edge k) i high)

-- child i of it shares a voxel with the box, and its pointer is bad
abbrev pub bad_at : List (List Cell) → ℕ → ℕ → ℕ → Point → Point → ℕ → Bool
bad_at K k n m low high i = has_voxel (clipped (edge k) i low) (clipped (edge k) i high) && bad_pointer (length (cells_at K k)) (pointer_of K k n m i)

module _ (K : List (List Cell)) where
  -- a leaf
  pub leaf_search_lem : (n m : ℕ) (low high : Point)
      → cell_search K 0 n m low high ≡ cond (ltb 0 (box_count (edge 0) (mirrored m (edge 0) (leaf_voxel (leaf_no (cell_at K 0 n)))) low high)) (Met 1) (Passed 1)
  unfolding cell_search
  leaf_search_lem n m low high = refl

  -- any other cell: its children's pointers, then its children
  pub cell_bad_lem : (k n m : ℕ) (low high : Point) → shared_bad K k n m low high ≡ true → cell_search K (suc k) n m low high ≡ Damaged
  unfolding cell_search
  cell_bad_lem k n m low high e = ap (λ (b : Bool). cond b Damaged (further 1 (in_order 0 8 (child_search K k n m low high)))) e

  pub cell-open : (k n m : ℕ) (low high : Point) → shared_bad K k n m low high ≡ false
      → cell_search K (suc k) n m low high ≡ further 1 (in_order 0 8 (child_search K k n m low high))
  unfolding cell_search
  cell-open k n m low high e = ap (λ (b : Bool). cond b Damaged (further 1 (in_order 0 8 (child_search K k n m low high)))) e

  pub cell-few : (k n m : ℕ) (low high : Point) → Few (8 ^ suc k - 1) (cell_search K k n m low high)
  unfolding cell_search
  cell-few zero n m low high = pick (ltb 0 (box_count (edge 0) (mirrored m (edge 0) (leaf_voxel (leaf_no (cell_at K 0 n)))) low high))
    where
      pick : (b : Bool) → Few (8 ^ 1 - 1) (cond b (Met 1) (Passed 1))
      pick true = lit< tt
      pick false = lit< tt
  cell-few (suc k) n m low high = pick (cell-few k) (shared_bad K k n m low high)
    where
      x : ℕ
      x = 8 ^ suc k - 1

      most : 7 * 1 + 8 * x ≤ 8 ^ suc (suc k) - 1
      most = omega (arith, pow-succ' 8 (suc k), eight-pos (suc k))

      pick : ((q t : ℕ) (a b : Point) → Few x (cell_search K k q t a b)) → (b : Bool)
          → Few (8 ^ suc (suc k) - 1) (cond b Damaged (further 1 (in_order 0 8 (child_search K k n m low high))))
      pick ih true = tt
      pick ih false =
          more-few (7 * 1 + 8 * x) (8 ^ suc (suc k) - 1) (further 1 (in_order 0 8 (child_search K k n m low high))) most
          (further-few 1 (8 * x) (in_order 0 8 (child_search K k n m low high))
          (order-few 8 0 x (child_search K k n m low high) (λ i. pointer-few x (λ q t a b. cell_search K k q t a b) (pointer_of K k n m i) m (clipped (edge k) i low) (clipped (edge k) i high) (ih _ _ _ _))))

  -- so 8^0 + 8^1 + .. + 8^k cells at the most
  pub search-most-met : (k n m : ℕ) (low high : Point) (e : ℕ) → cell_search K k n m low high ≡ Met e → 7 * e + 1 ≤ 8 ^ suc k
  search-most-met k n m low high e q = let l : 7 * e ≤ 8 ^ suc k - 1 = subst (Few (8 ^ suc k - 1)) q (cell-few k n m low high) in omega (arith, eight-pos (suc k))

  pub search-most-passed : (k n m : ℕ) (low high : Point) (e : ℕ) → cell_search K k n m low high ≡ Passed e → 7 * e + 1 ≤ 8 ^ suc k
  search-most-passed k n m low high e q = let l : 7 * e ≤ 8 ^ suc k - 1 = subst (Few (8 ^ suc k - 1)) q (cell-few k n m low high) in omega (arith, eight-pos (suc k))

  -- the same of a pointer
  pub pointer-most-met : (k p m : ℕ) (low high : Point) (e : ℕ) → pointer_search (cell_search K k) p m low high ≡ Met e → 7 * e + 1 ≤ 8 ^ suc k
  pointer-most-met k p m low high e q =
      let l : 7 * e ≤ 8 ^ suc k - 1 = subst (Few (8 ^ suc k - 1)) q (pointer-few (8 ^ suc k - 1) (cell_search K k) p m low high (cell-few k _ _ low high)) in
      omega (arith, eight-pos (suc k))

  pub pointer-most-passed : (k p m : ℕ) (low high : Point) (e : ℕ) → pointer_search (cell_search K k) p m low high ≡ Passed e → 7 * e + 1 ≤ 8 ^ suc k
  pointer-most-passed k p m low high e q =
      let l : 7 * e ≤ 8 ^ suc k - 1 = subst (Few (8 ^ suc k - 1)) q (pointer-few (8 ^ suc k - 1) (cell_search K k) p m low high (cell-few k _ _ low high)) in
      omega (arith, eight-pos (suc k))

-- so they fit, with room for many more
pub cells_fit : (k e : ℕ) → k ≤ 14 → 7 * e + 1 ≤ 8 ^ suc k → e < 2 ^ 45
cells_fit k e h l =
    let le : suc k ≤ 15 = omega arith in
    let m : 8 ^ suc k ≤ 8 ^ 15 = pow-le-pow_right (lit< tt) le in
    omega arith

-- ---- searches that met nothing

-- it met nothing, after e cells
abbrev Misses : ℕ → Search → Type 0
Misses e (Met d) = ⊥
Misses e (Passed d) = d ≡ e
Misses e Damaged = ⊥

misses-is : (e : ℕ) (s : Search) → Misses e s → s ≡ Passed e
misses-is e (Met d) h = absurd h
misses-is e (Passed d) h = ap Passed h
misses-is e Damaged h = absurd h

is-misses : (e : ℕ) (s : Search) → s ≡ Passed e → Misses e s
is-misses e s q = subst (Misses e) (sym q) refl

-- the cells of a search that met nothing
abbrev pub cells_of : Search → ℕ
cells_of (Met e) = 0
cells_of (Passed e) = e
cells_of Damaged = 0

further-misses : (a e : ℕ) (s : Search) → Misses e (further a s) → Misses (cells_of s) s × (e ≡ a + cells_of s)
further-misses a e (Met d) h = absurd h
further-misses a e (Passed d) h = (refl, sym h)
further-misses a e Damaged h = absurd h

else-misses : (e : ℕ) (s t : Search) → Misses e (or_else s t) → Misses (cells_of s) s × Misses (cells_of t) t × (e ≡ cells_of s + cells_of t)
else-misses e (Met d) t h = absurd h
else-misses e (Passed d) t h = let w : Misses (cells_of t) t × (e ≡ d + cells_of t) = further-misses d e t h in (refl, w.0, w.1)
else-misses e Damaged t h = absurd h

-- all in order, and their cells added up
pub order-all-passed : (n i : ℕ) (f : ℕ → Search) (g : ℕ → ℕ) → ((j : ℕ) → j < n → f (i + j) ≡ Passed (g j)) → in_order i n f ≡ Passed (sum n g)
unfolding in_order sum
order-all-passed zero i f g h = refl
order-all-passed (suc n) i f g h =
    let here : f i ≡ Passed (g 0) = ap f (omega arith) ∙ h 0 (omega arith) in
    let rest : in_order (suc i) n f ≡ Passed (sum n (λ j. g (suc j))) =
    order-all-passed n (suc i) f (λ j. g (suc j)) (λ j l. let e : suc i + j ≡ i + suc j = omega arith in ap f e ∙ h (suc j) (omega arith)) in
    ap₂ or_else here rest ∙ ap Passed (sym (sum_head n g))

pub order-passed-all : (n i e : ℕ) (f : ℕ → Search) → in_order i n f ≡ Passed e → (j : ℕ) → j < n → f (i + j) ≡ Passed (cells_of (f (i + j)))
unfolding in_order
order-passed-all zero i e f q j h = absurd (omega arith)
order-passed-all (suc n) i e f q zero h =
    let w = else-misses e (f i) (in_order (suc i) n f) (is-misses e (or_else (f i) (in_order (suc i) n f)) q) in
    let z : i ≡ i + 0 = omega arith in
    subst (λ (a : ℕ). f a ≡ Passed (cells_of (f a))) z (misses-is (cells_of (f i)) (f i) w.0)
order-passed-all (suc n) i e f q (suc j) h =
    let w = else-misses e (f i) (in_order (suc i) n f) (is-misses e (or_else (f i) (in_order (suc i) n f)) q) in
    let z : suc i + j ≡ i + suc j = omega arith in
    subst (λ (a : ℕ). f a ≡ Passed (cells_of (f a))) z (order-passed-all n (suc i) (cells_of (in_order (suc i) n f)) f (misses-is _ _ w.1) j (omega arith))

passed-same : (a b : ℕ) (s : Search) → s ≡ Passed a → s ≡ Passed b → a ≡ b
passed-same a b s p q = is-misses b (Passed a) (sym p ∙ q)

-- ---- a cell wholly inside, under another mirror

-- a whole cell cut to a child is the whole child
pub far-child : (k i : ℕ) → clipped (edge k) i (far (edge (suc k))) ≡ far (edge k)
far-child k i = ap (λ (E : ℕ). clipped (edge k) i (far E)) (edge-twice k) ∙ far-clipped (edge k) i

-- and has a voxel
pub whole-voxel : (k : ℕ) → has_voxel origin (far (edge k)) ≡ true
whole-voxel k = rw (lt-ltb 0 (edge k) (pow_pos (suc (suc k))))

-- what pointer p of list k leads to, wholly inside
abbrev pub whole_pointer : List (List Cell) → ℕ → ℕ → ℕ → Search
whole_pointer K k p m = cond (eqb p 0) (Passed 0) (cell_search K k (cell_no p) (bit_xor (tag_of p) m) origin (far (edge k)))

module _ (K : List (List Cell)) where
  pub pointer-inside : (k p m : ℕ) → pointer_search (cell_search K k) p m origin (far (edge k)) ≡ whole_pointer K k p m
  pointer-inside k p m = ap (λ (b : Bool). cond b (whole_pointer K k p m) (Passed 0)) (whole-voxel k)

  pub child-inside : (k n m i : ℕ) → child_search K k n m origin (far (edge (suc k))) i ≡ whole_pointer K k (pointer_of K k n m i) m
  child-inside k n m i =
      ap₂ (λ (a b : Point). pointer_search (λ q t c d. cell_search K k q t c d) (pointer_of K k n m i) m a b) (origin-clipped (edge k) i) (far-child k i)
      ∙ pointer-inside k (pointer_of K k n m i) m

  shared-inside : (k n m i : ℕ) → bad_at K k n m origin (far (edge (suc k))) i ≡ bad_pointer (length (cells_at K k)) (pointer_of K k n m i)
  shared-inside k n m i =
      ap₂ (λ (a b : Point). has_voxel a b && bad_pointer (length (cells_at K k)) (pointer_of K k n m i)) (origin-clipped (edge k) i) (far-child k i)
      ∙ ap (λ (b : Bool). b && bad_pointer (length (cells_at K k)) (pointer_of K k n m i)) (whole-voxel k)

  -- the pointers of a cell that are tested, wholly inside: all eight, under any mirror
  shared-turned : (k n m m' : ℕ) → m < 8 → m' < 8 → shared_bad K k n m origin (far (edge (suc k))) ≡ false → shared_bad K k n m' origin (far (edge (suc k))) ≡ false
  shared-turned k n m m' h h' e =
      let bad : ℕ → Bool = λ j. bad_pointer (length (cells_at K k)) (get_or (cell_at K (suc k) n) j 0) in
      none-T 8 (bad_at K k n m' origin (far (edge (suc k)))) (λ i l.
      let j : ℕ = bit_xor i m' in
      let lj : j < 8 = xor8-lt i m' l h' in
      shared-inside k n m' i
      ∙ ap bad (sym (xor8-back j m lj h))
      ∙ sym (shared-inside k n m (bit_xor j m))
      ∙ none-at 8 (bad_at K k n m origin (far (edge (suc k)))) e (bit_xor j m) (xor8-lt j m lj h))

  passed-turned : (k n m m' e : ℕ) → m < 8 → m' < 8 → cell_search K k n m origin (far (edge k)) ≡ Passed e → cell_search K k n m' origin (far (edge k)) ≡ Passed e
  unfolding cell_search
  passed-turned zero n m m' e h h' q =
      let r : Room = leaf_voxel (leaf_no (cell_at K 0 n)) in
      let same : (t : ℕ) → box_count (edge 0) (mirrored t (edge 0) r) origin (far (edge 0)) ≡ box_count (edge 0) r origin (far (edge 0)) = λ t. box-mirrored t (edge 0) r in
      ap (λ (c : ℕ). cond (ltb 0 c) (Met 1) (Passed 1)) (same m' ∙ sym (same m)) ∙ q
  passed-turned (suc k) n m m' e h h' q = go (passed-turned k) (shared_bad K k n m origin (far (edge (suc k)))) refl q
    where
      c : Cell
      c = cell_at K (suc k) n

      child : ℕ → ℕ → Search
      child t = child_search K k n t origin (far (edge (suc k)))

      go : ((q t t' d : ℕ) → t < 8 → t' < 8 → cell_search K k q t origin (far (edge k)) ≡ Passed d → cell_search K k q t' origin (far (edge k)) ≡ Passed d)
          → (b : Bool) → shared_bad K k n m origin (far (edge (suc k))) ≡ b → cond b Damaged (further 1 (in_order 0 8 (child m))) ≡ Passed e
          → cond (shared_bad K k n m' origin (far (edge (suc k)))) Damaged (further 1 (in_order 0 8 (child m'))) ≡ Passed e
      go ih true b p = absurd (is-misses e Damaged p)
      go ih false b p =
          let w : Misses (cells_of (in_order 0 8 (child m))) (in_order 0 8 (child m)) × (e ≡ 1 + cells_of (in_order 0 8 (child m))) =
          further-misses 1 e (in_order 0 8 (child m)) (is-misses e (further 1 (in_order 0 8 (child m))) p) in
          let a : ℕ = cells_of (in_order 0 8 (child m)) in
          let passed : in_order 0 8 (child m) ≡ Passed a = misses-is a (in_order 0 8 (child m)) w.0 in
          let f : ℕ → ℕ = λ i. cells_of (child m i) in
          let each : (i : ℕ) → i < 8 → child m i ≡ Passed (f i) = λ i l. rw (zero-add i) at (order-passed-all 8 0 a (child m) passed i l) in
          let total : a ≡ sum 8 f = passed-same a (sum 8 f) (in_order 0 8 (child m)) passed (order-all-passed 8 0 (child m) f (λ i l. rw (zero-add i) (each i l))) in
          let turn : (z : ℕ) (d : ℕ) → whole_pointer K k z m ≡ Passed d → whole_pointer K k z m' ≡ Passed d = λ z d. pointer ih z d in
          let each' : (i : ℕ) → i < 8 → child m' i ≡ Passed (f (bit_xor (bit_xor i m') m)) =
          λ i l.
          let j : ℕ = bit_xor i m' in
          let lj : j < 8 = xor8-lt i m' l h' in
          child-inside k n m' i
          ∙ turn (get_or c j 0) (f (bit_xor j m))
          (ap (λ (x : ℕ). whole_pointer K k (get_or c x 0) m) (sym (xor8-back j m lj h)) ∙ sym (child-inside k n m (bit_xor j m)) ∙ each (bit_xor j m) (xor8-lt j m lj h)) in
          ap (λ (x : Bool). cond x Damaged (further 1 (in_order 0 8 (child m')))) (shared-turned k n m m' h h' b)
          ∙ ap (further 1) (order-all-passed 8 0 (child m') (λ i. f (bit_xor (bit_xor i m') m)) (λ i l. rw (zero-add i) (each' i l)))
          ∙ ap (λ (x : ℕ). Passed (1 + x)) (sum-places (λ j. f (bit_xor j m)) m' h' ∙ sum-places f m h ∙ sym total)
          ∙ ap Passed (sym w.1)
        where
          pointer : ((q t t' d : ℕ) → t < 8 → t' < 8 → cell_search K k q t origin (far (edge k)) ≡ Passed d → cell_search K k q t' origin (far (edge k)) ≡ Passed d)
              → (z d : ℕ) → whole_pointer K k z m ≡ Passed d → whole_pointer K k z m' ≡ Passed d
          pointer ih z d = pick (eqb z 0)
            where
              pick : (b : Bool) → cond b (Passed 0) (cell_search K k (cell_no z) (bit_xor (tag_of z) m) origin (far (edge k))) ≡ Passed d
                  → cond b (Passed 0) (cell_search K k (cell_no z) (bit_xor (tag_of z) m') origin (far (edge k))) ≡ Passed d
              pick true x = x
              pick false x = ih (cell_no z) (bit_xor (tag_of z) m) (bit_xor (tag_of z) m') d (xor8-lt (tag_of z) m (tag-lt z) h) (xor8-lt (tag_of z) m' (tag-lt z) h') x

  -- a cell wholly inside that met nothing meets nothing under any mirror, after as many cells
  pub passed-mirrors : (k n m m' : ℕ) (low high : Point) (e : ℕ) → m < 8 → m' < 8 → is_whole (edge k) low high ≡ true
      → cell_search K k n m low high ≡ Passed e → cell_search K k n m' low high ≡ Passed e
  passed-mirrors k n m m' low high e h h' w q =
      let o : (low ≡ origin) × (high ≡ far (edge k)) = whole-box (edge k) low high w in
      ap₂ (λ (a b : Point). cell_search K k n m' a b) o.0 o.1
      ∙ passed-turned k n m m' e h h' (ap₂ (λ (a b : Point). cell_search K k n m a b) (sym o.0) (sym o.1) ∙ q)
