-- Adding a cell to any lists whose cells are ok: kept cells stay, the pointer answered stands for the cell and has its symmetry, the invariant is
-- kept, and it is refused only where C others are kept. A found cell matches, so it has the mirrored voxels; else it is kept. Assumes nothing.
use mathlib.Core.Path.{◌≡◌, refl, sym, ◌∙◌, subst, subst₂, ap, ap₂}
use mathlib.Core.Bool.{Bool, true, false, cond}
use mathlib.Core.List.{List, [], ◌∷◌, ◌++◌}
use mathlib.Core.Option.{Option, some}
use mathlib.Core.Option as O
use mathlib.Core.Logic.{inr}
use Prim.Native.Nat.{ℕ, suc, ◌^◌, ◌<◌, ◌≤◌, zero-le}
use native.Mathlib.Nat.{zero-add, not-suc-le-zero}
use native.Mathlib.Decide.{ℕ_discrete, dec_lt}
use native.Mathlib.Omega.{arith}
use borrow.Author.Tests.{ltb-true, ltb-false}
use lib.Bits.{bit_xor}
use lib.Dec.{ltb, lit<}
use lib.ListN.{get_or, length, set, length-set, replicate, length-replicate, get_or-replicate, get_or-eq_default}
use Rattle.paper.specs.Rooms.{Point, Room, mirror, Same, NonEmpty}
use Rattle.paper.specs.Outline.{edge}
use Rattle.paper.specs.Store.{Cell, cells_at, cell_at, tag_of, cell_no, pointer, heights, most_capacity, empty_store}
use Rattle.paper.specs.Meaning.{pointer_voxel, cell_voxel}
use Rattle.paper.specs.Match.{matches, find, Adding, full, added, then, or_keep, keep, add_cell}
use Rattle.laws.proofs.Eight.{xor8-lt, xor8-back}
use Rattle.laws.proofs.Mirrors.{mirror-inside, mirror-mirror}
use Rattle.laws.proofs.Matching.{match-sound}
use Rattle.laws.proofs.Invariant.{Names, OkPointer, OkCell, OkCells, ok-fits, Alike, LowTag, Shape, Inv, match-complete, pointer-at}
use Rattle.laws.specs.Symmetries.{symmetry_of}
use Rattle.laws.proofs.Symmetries.{symmetry-match-same}
use Rattle.laws.proofs.Seeking.{Found, Nowhere, Sought, find-is}
use Rattle.laws.proofs.Growing.{Extends, ext_refl, ext_trans, ext-cell, ext-voxels, ext-symmetry-of}
use Rattle.laws.proofs.Keeping.{K⁺, keep-other, keep-extends, keep-length, keep-cell, keep-each, keep-ok, keep-inv}
use Rattle.laws.proofs.Occurring.{Occurs, occurs-here}

-- ---- pointers as they are made

pub pointer-cell : (t n : ℕ) → suc n < 2 ^ 29 → cell_no (pointer t n) ≡ n
pointer-cell t n h = omega arith

pub pointer-tag : (t n : ℕ) → t < 8 → suc n < 2 ^ 29 → tag_of (pointer t n) ≡ t
pointer-tag t n ht h = omega arith

pub pointer-names : (t n m : ℕ) → suc n < 2 ^ 29 → n < m → Names m (pointer t n)
pointer-names t n m h l = record { some_number = omega arith; is-kept = omega arith }

-- 'it means that cell so mirrored'
pub pointer-means : (K : List (List Cell)) (k t n : ℕ) (v : Point) → t < 8 → suc n < 2 ^ 29
    → pointer_voxel (cell_voxel K k) (cells_at K k) (edge k) (pointer t n) v ≡ cell_voxel K k (cell_at K k n) (mirror t (edge k) v)
pointer-means K k t n v ht h =
    pointer-at (cell_voxel K k) (cells_at K k) (edge k) (pointer t n) (λ e. omega arith) v
    ∙ ap₂ (λ (m u : ℕ). cell_voxel K k (get_or (cells_at K k) m []) (mirror u (edge k) v)) (pointer-cell t n h) (pointer-tag t n ht h)

-- ---- what is said of an answer

-- F where there was no room, else P of the value and the lists
abbrev pub Answer : {A : Type 0} → Type 0 → (A → List (List Cell) → Type 0) → Adding A → Type 0
Answer F P full = F
Answer F P (added a K) = P a K

pub then-answer : {A B : Type 0} (F G : Type 0) (P : A → List (List Cell) → Type 0) (Q : B → List (List Cell) → Type 0) (x : Adding A) (f : A → List (List Cell) → Adding B)
    → Answer F P x → (F → G) → ((a : A) (K : List (List Cell)) → P a K → Answer G Q (f a K)) → Answer G Q (then x f)
then-answer F G P Q full f h n g = n h
then-answer F G P Q (added a K) f h n g = g a K h

pub map-answer : {A : Type 0} (F G : Type 0) (P Q : A → List (List Cell) → Type 0) (x : Adding A)
    → (F → G) → ((a : A) (K : List (List Cell)) → P a K → Q a K) → Answer F P x → Answer G Q x
map-answer F G P Q full n h r = n r
map-answer F G P Q (added a K) n h r = h a K r

-- every cell ok, and at most C of them at a height
pub record Sound (C : ℕ) (K : List (List Cell)) : Type 0 where
  pub ok : OkCells K
  pub few : (j : ℕ) → length (cells_at K j) ≤ C

-- every list as it should be
abbrev pub Invs : List (List Cell) → Type 0
Invs K = (j : ℕ) → Inv K j

-- a store with nothing in it
pub empty-list : (C k : ℕ) → cells_at (empty_store C).kept k ≡ []
unfolding empty_store
empty-list C k = go (dec_lt k heights)
  where
    go : Dec (k < heights) → get_or (replicate {A = List Cell} heights []) k [] ≡ []
    go (yes h) = get_or-replicate heights k [] [] h
    go (no n) = get_or-eq_default (replicate {A = List Cell} heights []) [] {n = k} (rw length-replicate (omega arith))

pub no_cell : (C k q : ℕ) → q < length (cells_at (empty_store C).kept k) → ⊥
no_cell C k q h = not-suc-le-zero (subst (λ (cs : List Cell). q < length cs) (empty-list C k) h)

pub empty-sound : (C : ℕ) → Sound C (empty_store C).kept
empty-sound C = record { ok = λ k q h. absurd (no_cell C k q h); few = λ j. subst (λ (cs : List Cell). length cs ≤ C) (sym (empty-list C j)) zero-le }

pub empty-invs : (C : ℕ) → Invs (empty_store C).kept
empty-invs C k = record {
  ok = λ q h. absurd (no_cell C k q h);
  shape = λ q h. absurd (no_cell C k q h);
  solid = λ q h. absurd (no_cell C k q h);
  apart = λ q r t h. absurd (no_cell C k q h);
}

-- a rule of rooms by list that goes by voxels
abbrev pub ByVoxels : (ℕ → Room → Type 0) → Type 0
ByVoxels P = (j : ℕ) (r s : Room) → Same (edge j) r s → P j r → P j s

-- P holds of the cells that K' has and K has not
abbrev pub Fresh : List (List Cell) → List (List Cell) → (ℕ → Room → Type 0) → Type 0
Fresh K K' P = (j q : ℕ) → length (cells_at K j) ≤ q → q < length (cells_at K' j) → P j (cell_voxel K' j (cell_at K' j q))

-- from K to K' and a pointer of list k that stands for f, every new cell occurring in f; under A, the lists are as they should be and the
-- pointer's tag is the lowest
pub record Done (A : Type 0) (C : ℕ) (K : List (List Cell)) (k : ℕ) (f : Room) (p : ℕ) (K' : List (List Cell)) : Type 0 where
  pub sound : Sound C K'
  pub ext : Extends K K'
  pub len : length K' ≡ length K
  pub okp : OkPointer (length (cells_at K' k)) p
  pub means : Same (edge k) (pointer_voxel (cell_voxel K' k) (cells_at K' k) (edge k) p) f
  pub fresh : Fresh K K' (Occurs f k)
  pub invs : A → Invs K'
  pub low : A → LowTag K' k p

-- refused: C cells are kept at the height of one that matches none of them; P holds of it and of every cell kept since K
pub record Refused (A : Type 0) (C : ℕ) (K : List (List Cell)) (P : ℕ → Room → Type 0) : Type 0 where
  pub lists : List (List Cell)
  pub list : ℕ
  pub cell : Cell
  pub sound : Sound C lists
  pub ext : Extends K lists
  pub fresh : Fresh K lists P
  pub okc : OkCell lists list cell
  pub of-cell : P list (cell_voxel lists list cell)
  pub nowhere : Nowhere (λ b t. matches lists list cell b t) (cells_at lists list)
  pub no_room : C ≤ length (cells_at lists list)
  pub invs : A → Invs lists
  pub solid : A → NonEmpty (edge list) (cell_voxel lists list cell)

-- two steps
pub fresh-trans : (K : List (List Cell)) {K' K'' : List (List Cell)} (P : ℕ → Room → Type 0) → ByVoxels P → OkCells K' → Extends K' K'' → Fresh K K' P → Fresh K' K'' P → Fresh K K'' P
fresh-trans K {K'} {K''} P by ok x f g j q h l = go (dec_lt q (length (cells_at K' j)))
  where
    go : Dec (q < length (cells_at K' j)) → P j (cell_voxel K'' j (cell_at K'' j q))
    go (yes m) =
        by j (cell_voxel K' j (cell_at K' j q)) (cell_voxel K'' j (cell_at K'' j q))
        (λ v lv. sym (ap (λ (c : Cell). cell_voxel K'' j c v) (ext-cell x j q m) ∙ ext-voxels x ok j (cell_at K' j q) (ok j q m) v lv)) (f j q h m)
    go (no n) = g j q (omega arith) l

pub fresh-none : (K : List (List Cell)) (P : ℕ → Room → Type 0) → Fresh K K P
fresh-none K P j q h l = absurd (omega arith)

-- the same refusal, seen from other lists and of another rule
refused-with : {A : Type 0} {C : ℕ} {K K' : List (List Cell)} (P Q : ℕ → Room → Type 0) (n : Refused A C K' P) → Extends K n.lists → Fresh K n.lists Q
    → Q n.list (cell_voxel n.lists n.list n.cell) → Refused A C K Q
refused-with P Q n x f c = record {
  lists = n.lists;
  list = n.list;
  cell = n.cell;
  sound = n.sound;
  ext = x;
  fresh = f;
  okc = n.okc;
  of-cell = c;
  nowhere = n.nowhere;
  no_room = n.no_room;
  invs = n.invs;
  solid = n.solid;
}

pub refused-map : {A : Type 0} {C : ℕ} {K : List (List Cell)} (P Q : ℕ → Room → Type 0) → ((j : ℕ) (r : Room) → P j r → Q j r) → Refused A C K P → Refused A C K Q
refused-map P Q h n = refused-with P Q n n.ext (λ j q l m. h j _ (n.fresh j q l m)) (h n.list _ n.of-cell)

pub refused-after : {A : Type 0} {C : ℕ} {K K' : List (List Cell)} (P : ℕ → Room → Type 0) → ByVoxels P → OkCells K' → Extends K K' → Fresh K K' P → Refused A C K' P → Refused A C K P
refused-after {K = K} P by ok x f n = refused-with P P n (ext_trans x n.ext) (fresh-trans K P by ok n.ext f n.fresh) n.of-cell

-- ---- adding a cell

-- what is b mirrored by t is b mirrored by u, if b is itself under their difference
lower : (K : List (List Cell)) (k : ℕ) (a b : Cell) (t u : ℕ) → t < 8 → u < 8 → Alike K k a b t → Alike K k b b (bit_xor u t) → Alike K k a b u
lower K k a b t u ht hu s e v l =
    let B : Room = cell_voxel K k b in
    s v l ∙ e (mirror t (edge k) v) (mirror-inside t (edge k) v l)
    ∙ ap B (mirror-mirror (bit_xor u t) t (edge k) v (xor8-lt u t hu ht) ht l)
    ∙ ap (λ (n : ℕ). B (mirror n (edge k) v)) (xor8-back u t hu ht)

module _ (C : ℕ) (hC : C ≤ most_capacity) (K : List (List Cell)) (sd : Sound C K) (k : ℕ) (hk : k < length K) (c : Cell) (okc : OkCell K k c) where
  few⁺ : (j : ℕ) → length (cells_at K k) < C → Dec (j ≡ k) → length (cells_at (K⁺ K k hk c) j) ≤ C
  few⁺ j room (yes e) = subst (λ (i : ℕ). length (cells_at (K⁺ K k hk c) i) ≤ C) (sym e) (omega (arith, keep-length K k hk c))
  few⁺ j room (no ne) = omega (arith, ap length (keep-other K k hk c j ne), sd.few j)

  -- the new cell stands for itself
  new-voxels : Same (edge k) (cell_voxel K k c) (cell_voxel (K⁺ K k hk c) k (cell_at (K⁺ K k hk c) k (length (cells_at K k))))
  new-voxels v l = sym (ap (λ (a : Cell). cell_voxel (K⁺ K k hk c) k a v) (keep-cell K k hk c) ∙ ext-voxels (keep-extends K k hk c) sd.ok k c okc v l)

  fresh⁺ : Fresh K (K⁺ K k hk c) (Occurs (cell_voxel K k c) k)
  fresh⁺ j q h l =
      keep-each K k hk c (λ i p. length (cells_at K i) ≤ p → Occurs (cell_voxel K k c) k i (cell_voxel (K⁺ K k hk c) i (cell_at (K⁺ K k hk c) i p)))
      (λ i p m n. absurd (omega arith))
      (λ n. occurs-here (cell_voxel K k c) (cell_voxel (K⁺ K k hk c) k (cell_at (K⁺ K k hk c) k (length (cells_at K k)))) k new-voxels)
      j q l h

  -- a pointer that was found
  pub found-small : {p : ℕ} (f : Found (λ b t. matches K k c b t) (cells_at K k) 0 p) → suc f.cell < 2 ^ 29
  found-small f = omega (arith, f.is-cell, sd.few k)

  pub found-pointer : {p : ℕ} (f : Found (λ b t. matches K k c b t) (cells_at K k) 0 p) → pointer f.mirror f.cell ≡ p
  found-pointer f = sym (f.is ∙ ap (pointer f.mirror) (zero-add f.cell))

  module _ (A : Type 0) (inv : A → Invs K) (shape : A → Shape K k c) (solid : A → NonEmpty (edge k) (cell_voxel K k c)) where
    keep-done : Nowhere (λ b t. matches K k c b t) (cells_at K k) → Answer (Refused A C K (Occurs (cell_voxel K k c) k)) (Done A C K k (cell_voxel K k c)) (keep C k c K)
    unfolding keep
    keep-done nowhere = go (ltb (length (cells_at K k)) C) refl
      where
        go : (b : Bool) → ltb (length (cells_at K k)) C ≡ b
            → Answer (Refused A C K (Occurs (cell_voxel K k c) k)) (Done A C K k (cell_voxel K k c)) (cond b (added (pointer 0 (length (cells_at K k))) (set K k (cells_at K k ++ (c ∷ [])))) full)
        go false e = record {
          lists = K;
          list = k;
          cell = c;
          sound = sd;
          ext = ext_refl K;
          fresh = fresh-none K (Occurs (cell_voxel K k c) k);
          okc = okc;
          of-cell = occurs-here (cell_voxel K k c) (cell_voxel K k c) k (λ v l. refl);
          nowhere = nowhere;
          no_room = ltb-false (length (cells_at K k)) C e;
          invs = inv;
          solid = solid;
        }
        go true e =
            let n : ℕ = length (cells_at K k) in
            let room : n < C = ltb-true n C e in
            record {
              sound = record { ok = keep-ok K k hk c sd.ok okc; few = λ j. few⁺ j room (ℕ_discrete j k) };
              ext = keep-extends K k hk c;
              len = length-set K k (cells_at K k ++ (c ∷ []));
              okp = inr (pointer-names 0 n (length (cells_at (K⁺ K k hk c) k)) (omega arith) (omega (arith, keep-length K k hk c)));
              means = λ v l. pointer-means (K⁺ K k hk c) k 0 n v (lit< tt) (omega arith) ∙ sym (new-voxels v l);
              fresh = fresh⁺;
              invs = λ I. keep-inv K k hk c (inv I) okc (shape I) (solid I) nowhere;
              low = λ I u hu e. omega (arith, pointer-tag 0 n (lit< tt) (omega arith));
            }

    found-done : (p : ℕ) → Found (λ b t. matches K k c b t) (cells_at K k) 0 p → Done A C K k (cell_voxel K k c) p K
    found-done p f =
        let q : ℕ = f.cell in
        let t : ℕ = f.mirror in
        let ht : t < 8 = f.is-mirror in
        let small : suc q < 2 ^ 29 = found-small f in
        subst (λ (r : ℕ). Done A C K k (cell_voxel K k c) r K) (found-pointer f)
        (record {
          sound = sd;
          ext = ext_refl K;
          len = refl;
          okp = inr (pointer-names t q (length (cells_at K k)) small f.is-cell);
          means = λ v l. pointer-means K k t q v ht small ∙ sym (match-sound K k c (cell_at K k q) t ht f.passes v l);
          fresh = fresh-none K (Occurs (cell_voxel K k c) k);
          invs = inv;
          low = λ I. subst₂ (λ (r s : ℕ). (u : ℕ) → u < s → Alike K k (cell_at K k r) (cell_at K k r) (bit_xor u s) → ⊥) (sym (pointer-cell t q small)) (sym (pointer-tag t q ht small))
              (λ u hu e. f.lowest-mirror u hu (match-complete K k (λ j l. inv I j) c (cell_at K k q) u (omega arith) okc (sd.ok k q f.is-cell)
              (lower K k c (cell_at K k q) t u ht (omega arith) (match-sound K k c (cell_at K k q) t ht f.passes) e)));
        })

    pub add_cell-done : Answer (Refused A C K (Occurs (cell_voxel K k c) k)) (Done A C K k (cell_voxel K k c)) (add_cell C k c K)
    unfolding add_cell
    add_cell-done = go (find (λ b t. matches K k c b t) (cells_at K k) 0) (find-is (λ b t. matches K k c b t) (cells_at K k) 0)
      where
        go : (o : Option ℕ) → Sought (λ b t. matches K k c b t) (cells_at K k) 0 o → Answer (Refused A C K (Occurs (cell_voxel K k c) k)) (Done A C K k (cell_voxel K k c)) (or_keep o K (keep C k c K))
        go O.none f = keep-done f
        go (some p) f = found-done p f

  -- the cell that the pointer names has the symmetry of the cell added
  abbrev pub SameSymmetry : ℕ → List (List Cell) → Type 0
  SameSymmetry p K' = symmetry_of K' k (cell_at K' k (cell_no p)) ≡ symmetry_of K k c

  keep-symmetry : Answer (Unit {0}) SameSymmetry (keep C k c K)
  unfolding keep
  keep-symmetry = go (ltb (length (cells_at K k)) C) refl
    where
      go : (b : Bool) → ltb (length (cells_at K k)) C ≡ b
          → Answer (Unit {0}) SameSymmetry (cond b (added (pointer 0 (length (cells_at K k))) (set K k (cells_at K k ++ (c ∷ [])))) full)
      go false e = tt
      go true e =
          let K'' : List (List Cell) = K⁺ K k hk c in
          ap (λ (n : ℕ). symmetry_of K'' k (cell_at K'' k n)) (pointer-cell 0 (length (cells_at K k)) (omega (arith, ltb-true (length (cells_at K k)) C e)))
          ∙ ap (symmetry_of K'' k) (keep-cell K k hk c) ∙ ext-symmetry-of (keep-extends K k hk c) sd.ok k c okc

  found-symmetry : (p : ℕ) → Found (λ b t. matches K k c b t) (cells_at K k) 0 p → SameSymmetry p K
  found-symmetry p f =
      ap (λ (n : ℕ). symmetry_of K k (cell_at K k n)) (ap cell_no (sym (found-pointer f)) ∙ pointer-cell f.mirror f.cell (found-small f))
      ∙ sym (symmetry-match-same K k c (cell_at K k f.cell) f.mirror f.is-mirror (ok-fits K k c okc)
      (ok-fits K k (cell_at K k f.cell) (sd.ok k f.cell f.is-cell)) f.passes)

  pub add_cell-symmetry : Answer (Unit {0}) SameSymmetry (add_cell C k c K)
  unfolding add_cell
  add_cell-symmetry = go (find (λ b t. matches K k c b t) (cells_at K k) 0) (find-is (λ b t. matches K k c b t) (cells_at K k) 0)
    where
      go : (o : Option ℕ) → Sought (λ b t. matches K k c b t) (cells_at K k) 0 o → Answer (Unit {0}) SameSymmetry (or_keep o K (keep C k c K))
      go O.none f = keep-symmetry
      go (some p) f = found-symmetry p f
