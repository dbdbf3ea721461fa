-- What a box's walk that takes counts finds: never more than the cube has voxels; the same by two tellers of counts that agree on the kept cells; and,
-- where no kept cell has a bad pointer and each count is true, just the solid voxels of the box, whatever the box. By induction on the height, a
-- cube's box being its children's. Assumes nothing.
use mathlib.Core.Path.{◌≡◌, refl, sym, ◌∙◌, ap, ap₂, subst}
use mathlib.Core.Bool.{Bool, true, false, cond, false≢true, ◌&&◌}
use mathlib.Core.List.{List}
use Prim.Native.Nat.{ℕ, zero, suc, ◌+◌, ◌-◌, ◌*◌, ◌^◌, ◌<◌, ◌≤◌}
use native.Mathlib.Nat.{pow-succ', le_refl}
use native.Mathlib.Omega.{arith}
use borrow.Author.Tests.{eqb-false, lt-ltb, le-leb, leb-true}
use lib.Bits.{bit_xor}
use lib.Dec.{T, eqb, leb, eqb→eq, lit<}
use lib.ListN.{length, get_or}
use Rattle.paper.specs.Numbers.{sum}
use Rattle.paper.specs.Rooms.{Point, point, Room, depth_ok, child_room, mirror, mirrored, box_count, has_voxel, origin, far, whole_side, is_whole, clipped}
use Rattle.paper.specs.Leaf.{leaf_voxel}
use Rattle.paper.specs.Outline.{edge}
use Rattle.paper.specs.Store.{Cell, cells_at, cell_at, leaf_no, tag_of, cell_no, bad_pointer, any_bad, solid_of}
use Rattle.paper.specs.Meaning.{pointer_voxel, cell_voxel, root_room}
use Rattle.paper.specs.Questions.{plus, total, count_taken, pointer_tally, cell_tally, box_tally}
use Rattle.paper.specs.Questions.{Tally}
use Rattle.paper.specs.Questions.{Solid, Damaged}
use Rattle.laws.proofs.Tests.{true-T, and_left, and_right, none-at}
use Rattle.laws.proofs.Eight.{xor8-lt}
use Rattle.laws.proofs.Mirrors.{mirror-inside, mirror-mirror, child-mirrored}
use Rattle.laws.proofs.OutlineWriting.{edge-twice}
use Rattle.laws.proofs.Outlines.{depth-two}
use Rattle.laws.proofs.Sums.{sum_same}
use Rattle.laws.proofs.Boxes.{Within, box-same, box-children, box-clear, box-none, box-mirrored}
use Rattle.laws.proofs.Matching.{tag-lt}
use Rattle.laws.proofs.Invariant.{cell-child, named-kept}
use Rattle.laws.proofs.Counts.{solid-whole, solid-most, box-cube}

-- ---- at most so many

-- a tally's voxels are at most b, if it has any
abbrev pub Most : ℕ → Tally → Type 0
Most b (Solid s) = s ≤ b
Most b Damaged = Unit {0}

pub most-says : (b s : ℕ) (t : Tally) → Most b t → t ≡ Solid s → s ≤ b
most-says b s t m e = subst (Most b) e m

plus-most : (a b : ℕ) (x y : Tally) → Most a x → Most b y → Most (a + b) (plus x y)
plus-most a b Damaged y h l = tt
plus-most a b (Solid n) Damaged h l = tt
plus-most a b (Solid n) (Solid m) h l = omega arith

more-most : (a b : ℕ) (t : Tally) → a ≤ b → Most a t → Most b t
more-most a b Damaged h m = tt
more-most a b (Solid n) h m = omega arith

pub total-most : (n b : ℕ) (f : ℕ → Tally) → ((i : ℕ) → i < n → Most b (f i)) → Most (n * b) (total n f)
unfolding total
total-most zero b f h = omega arith
total-most (suc n) b f h =
    more-most (n * b + b) (suc n * b) (plus (total n f) (f n)) (omega arith)
    (plus-most (n * b) b (total n f) (f n) (total-most n b f (λ i l. h i (omega arith))) (h n (le_refl (suc n))))

taken-most : (k c : ℕ) → Most (8 ^ suc (suc k)) (count_taken k c)
taken-most k c = go (leb c (8 ^ suc (suc k))) refl
  where
    go : (b : Bool) → leb c (8 ^ suc (suc k)) ≡ b → Most (8 ^ suc (suc k)) (cond b (Solid c) Damaged)
    go true e = leb-true c (8 ^ suc (suc k)) e
    go false e = tt

-- a pointer has no more than the cell that it names
pub pointer-most : (b : ℕ) (go : ℕ → ℕ → Point → Point → Tally) (n p m : ℕ) (low high : Point) → Most b (go (cell_no p) (bit_xor (tag_of p) m) low high) → Most b (pointer_tally go n p m low high)
pointer-most b go n p m low high h = pick (has_voxel low high) (bad_pointer n p) (eqb p 0)
  where
    pick : (v w z : Bool) → Most b (cond v (cond w Damaged (cond z (Solid 0) (go (cell_no p) (bit_xor (tag_of p) m) low high))) (Solid 0))
    pick false w z = omega arith
    pick true true z = tt
    pick true false true = omega arith
    pick true false false = h

module _ (K : List (List Cell)) (count : ℕ → ℕ → ℕ) where
  pub cell-most : (k n m : ℕ) (low high : Point) → Most (8 ^ suc (suc k)) (cell_tally K count k n m low high)
  unfolding cell_tally
  cell-most zero n m low high = box-cube 0 (mirrored m (edge 0) (leaf_voxel (leaf_no (cell_at K 0 n)))) low high
  cell-most (suc k) n m low high = go (cell-most k) (is_whole (edge (suc k)) low high)
    where
      child : ℕ → Tally
      child i =
          pointer_tally (λ q t a b. cell_tally K count k q t a b) (length (cells_at K k)) (get_or (cell_at K (suc k) n) (bit_xor i m) 0) m (clipped (edge k) i low) (clipped (edge k) i high)

      go : ((q t : ℕ) (a b : Point) → Most (8 ^ suc (suc k)) (cell_tally K count k q t a b)) → (b : Bool)
          → Most (8 ^ suc (suc (suc k))) (cond b (count_taken (suc k) (count (suc k) n)) (total 8 child))
      go ih true = taken-most (suc k) (count (suc k) n)
      go ih false =
          subst (λ (b : ℕ). Most b (total 8 child)) (sym (pow-succ' 8 (suc (suc k))))
          (total-most 8 (8 ^ suc (suc k)) child (λ i l.
          let p : ℕ = get_or (cell_at K (suc k) n) (bit_xor i m) 0 in
          pointer-most (8 ^ suc (suc k)) (λ q t a b. cell_tally K count k q t a b) (length (cells_at K k)) p m (clipped (edge k) i low) (clipped (edge k) i high)
          (ih (cell_no p) (bit_xor (tag_of p) m) (clipped (edge k) i low) (clipped (edge k) i high))))

  pub tally-most : (k n m : ℕ) (low high : Point) (s : ℕ) → cell_tally K count k n m low high ≡ Solid s → s ≤ 8 ^ suc (suc k)
  tally-most k n m low high s e = most-says (8 ^ suc (suc k)) s (cell_tally K count k n m low high) (cell-most k n m low high) e

  pub pointer-tally-most : (k n p m : ℕ) (low high : Point) (s : ℕ) → pointer_tally (cell_tally K count k) n p m low high ≡ Solid s → s ≤ 8 ^ suc (suc k)
  pointer-tally-most k n p m low high s e =
      most-says (8 ^ suc (suc k)) s (pointer_tally (cell_tally K count k) n p m low high) (pointer-most (8 ^ suc (suc k)) (cell_tally K count k) n p m low high (cell-most k _ _ low high)) e

-- ---- the same by two tellers of counts

total-same : (n : ℕ) (f g : ℕ → Tally) → ((i : ℕ) → i < n → f i ≡ g i) → total n f ≡ total n g
unfolding total
total-same zero f g e = refl
total-same (suc n) f g e = ap₂ plus (total-same n f g (λ i l. e i (omega arith))) (e n (le_refl (suc n)))

-- by what the cell named gives, where there is one
pointer-same : (f g : ℕ → ℕ → Point → Point → Tally) (n p m : ℕ) (low high : Point)
    → (cell_no p < n → f (cell_no p) (bit_xor (tag_of p) m) low high ≡ g (cell_no p) (bit_xor (tag_of p) m) low high) → pointer_tally f n p m low high ≡ pointer_tally g n p m low high
pointer-same f g n p m low high e = go (bad_pointer n p) refl (eqb p 0) refl
  where
    go : (w : Bool) → bad_pointer n p ≡ w → (z : Bool) → eqb p 0 ≡ z
        → cond (has_voxel low high) (cond w Damaged (cond z (Solid 0) (f (cell_no p) (bit_xor (tag_of p) m) low high))) (Solid 0)
        ≡ cond (has_voxel low high) (cond w Damaged (cond z (Solid 0) (g (cell_no p) (bit_xor (tag_of p) m) low high))) (Solid 0)
    go true b z y = refl
    go false b true y = refl
    go false b false y = ap (λ (t : Tally). cond (has_voxel low high) t (Solid 0)) (e (named-kept n p b (eqb-false p 0 y)))

module _ (K : List (List Cell)) (count count' : ℕ → ℕ → ℕ) (agree : (k q : ℕ) → q < length (cells_at K k) → count k q ≡ count' k q) where
  pub cell-tally-same : (k n m : ℕ) (low high : Point) → n < length (cells_at K k) → cell_tally K count k n m low high ≡ cell_tally K count' k n m low high
  unfolding cell_tally
  cell-tally-same zero n m low high hn = refl
  cell-tally-same (suc k) n m low high hn =
      ap₂ (λ (c : ℕ) (t : Tally). cond (is_whole (edge (suc k)) low high) (count_taken (suc k) c) t) (agree (suc k) n hn)
      (total-same 8 _ _ (λ i l. pointer-same (λ q t a b. cell_tally K count k q t a b) (λ q t a b. cell_tally K count' k q t a b) (length (cells_at K k))
      (get_or (cell_at K (suc k) n) (bit_xor i m) 0) m (clipped (edge k) i low) (clipped (edge k) i high) (λ h. cell-tally-same k _ _ _ _ h)))

  pub box-tally-same : (D p : ℕ) (low high : Point) → box_tally K count D p low high ≡ box_tally K count' D p low high
  unfolding box_tally
  box-tally-same D p low high =
      pointer-same (cell_tally K count (D - 2)) (cell_tally K count' (D - 2)) (length (cells_at K (D - 2))) p 0 low high (λ h. cell-tally-same (D - 2) _ _ _ _ h)

-- ---- a cell's box, child by child

-- seen under m, child i is that of pointer (i xor m)
pub seen-children : (K : List (List Cell)) (k : ℕ) (c : Cell) (m : ℕ) (low high : Point) → m < 8
    → box_count (edge (suc k)) (mirrored m (edge (suc k)) (cell_voxel K (suc k) c)) low high
    ≡ sum 8 (λ i. box_count (edge k) (mirrored m (edge k) (pointer_voxel (cell_voxel K k) (cells_at K k) (edge k) (get_or c (bit_xor i m) 0))) (clipped (edge k) i low) (clipped (edge k) i high))
seen-children K k c m low high hm =
    let r : Room = cell_voxel K (suc k) c in
    let S : ℕ = edge k in
    let P : ℕ → Room = pointer_voxel (cell_voxel K k) (cells_at K k) S in
    ap (λ (E : ℕ). box_count E (mirrored m E r) low high) (edge-twice k)
    ∙ box-children S (mirrored m (2 * S) r) low high
    ∙ sum_same 8 (λ i. box_count S (child_room S i (mirrored m (2 * S) r)) (clipped S i low) (clipped S i high))
    (λ i. box_count S (mirrored m S (P (get_or c (bit_xor i m) 0))) (clipped S i low) (clipped S i high))
    (λ i hi. box-same S (child_room S i (mirrored m (2 * S) r)) (mirrored m S (P (get_or c (bit_xor i m) 0))) (clipped S i low) (clipped S i high)
    (λ v l. child-mirrored i m S r hi hm v l ∙ cell-child K k c (bit_xor i m) (xor8-lt i m hi hm) (mirror m S v) (mirror-inside m S v l)))

-- ---- the tests of a box

-- a whole box is the whole cube
whole-ends : (S low high : ℕ) → T (whole_side S low high) → (low ≡ 0) × (high ≡ S)
whole-ends S low high t = (eqb→eq low 0 (and_left (eqb low 0) (eqb high S) t), eqb→eq high S (and_right (eqb low 0) (eqb high S) t))

pub whole-box : (S : ℕ) (low high : Point) → is_whole S low high ≡ true → (low ≡ origin) × (high ≡ far S)
whole-box S low high e =
    let a : Bool = whole_side S low.x high.x in
    let b : Bool = whole_side S low.y high.y in
    let c : Bool = whole_side S low.z high.z in
    let t : T (a && b && c) = true-T e in
    let x : (low.x ≡ 0) × (high.x ≡ S) = whole-ends S low.x high.x (and_left a b (and_left (a && b) c t)) in
    let y : (low.y ≡ 0) × (high.y ≡ S) = whole-ends S low.y high.y (and_right a b (and_left (a && b) c t)) in
    let z : (low.z ≡ 0) × (high.z ≡ S) = whole-ends S low.z high.z (and_right (a && b) c t) in
    (λ i. point (x.0 i) (y.0 i) (z.0 i), λ i. point (x.1 i) (y.1 i) (z.1 i))

-- a box without a voxel has no point
pub no-voxel : (low high : Point) → has_voxel low high ≡ false → (v : Point) → Within low high v → ⊥
no-voxel low high e v w =
    let t : has_voxel low high ≡ true =
    rw (lt-ltb low.x high.x (omega arith), lt-ltb low.y high.y (omega arith), lt-ltb low.z high.z (omega arith)) in
    false≢true (sym e ∙ t)

-- ---- the true answer

total-true : (n : ℕ) (f : ℕ → Tally) (g : ℕ → ℕ) → ((i : ℕ) → i < n → f i ≡ Solid (g i)) → total n f ≡ Solid (sum n g)
unfolding total sum
total-true zero f g e = refl
total-true (suc n) f g e = ap₂ plus (total-true n f g (λ i l. e i (omega arith))) (e n (le_refl (suc n)))

-- a pointer that is not bad gives its voxels, if the cell that it names does
pub pointer-true : (K : List (List Cell)) (k : ℕ) (go : ℕ → ℕ → Point → Point → Tally) (p m : ℕ) (low high : Point) → m < 8 → bad_pointer (length (cells_at K k)) p ≡ false
    → (cell_no p < length (cells_at K k) → go (cell_no p) (bit_xor (tag_of p) m) low high
    ≡ Solid (box_count (edge k) (mirrored (bit_xor (tag_of p) m) (edge k) (cell_voxel K k (cell_at K k (cell_no p)))) low high))
    → pointer_tally go (length (cells_at K k)) p m low high ≡ Solid (box_count (edge k) (mirrored m (edge k) (pointer_voxel (cell_voxel K k) (cells_at K k) (edge k) p)) low high)
pointer-true K k go p m low high hm ok there = pick (has_voxel low high) refl (bad_pointer (length (cells_at K k)) p) refl (eqb p 0) refl
  where
    S : ℕ
    S = edge k

    r : Room
    r = cell_voxel K k (cell_at K k (cell_no p))

    pick : (v : Bool) → has_voxel low high ≡ v → (w : Bool) → bad_pointer (length (cells_at K k)) p ≡ w → (z : Bool) → eqb p 0 ≡ z
        → cond v (cond w Damaged (cond z (Solid 0) (go (cell_no p) (bit_xor (tag_of p) m) low high))) (Solid 0)
        ≡ Solid (box_count S (λ u. cond z false (r (mirror (tag_of p) S (mirror m S u)))) low high)
    pick false ev w ew z ez = ap Solid (sym (box-none S (λ u. cond z false (r (mirror (tag_of p) S (mirror m S u)))) low high (no-voxel low high ev)))
    pick true ev true ew z ez = absurd (false≢true (sym ok ∙ ew))
    pick true ev false ew true ez = ap Solid (sym (box-clear S (λ u. false) low high (λ v l. refl)))
    pick true ev false ew false ez =
        there (named-kept (length (cells_at K k)) p ew (eqb-false p 0 ez))
        ∙ ap Solid (sym (box-same S (λ u. r (mirror (tag_of p) S (mirror m S u))) (mirrored (bit_xor (tag_of p) m) S r) low high
        (λ v l. ap r (mirror-mirror (tag_of p) m S v (tag-lt p) hm l))))

-- no kept cell has a bad pointer, and each count told of a kept cell is its solid count
pub record TrueTold (K : List (List Cell)) (count : ℕ → ℕ → ℕ) : Type 0 where
  pub pointers : (k q : ℕ) → q < length (cells_at K (suc k)) → any_bad (length (cells_at K k)) (cell_at K (suc k) q) ≡ false
  pub counts : (k q : ℕ) → q < length (cells_at K (suc k)) → count (suc k) q ≡ solid_of K (suc k) (cell_at K (suc k) q)

module _ (K : List (List Cell)) (count : ℕ → ℕ → ℕ) (told : TrueTold K count) where
  taken_true : (k n m : ℕ) → n < length (cells_at K (suc k))
      → count_taken (suc k) (count (suc k) n) ≡ Solid (box_count (edge (suc k)) (mirrored m (edge (suc k)) (cell_voxel K (suc k) (cell_at K (suc k) n))) origin (far (edge (suc k))))
  taken_true k n m h =
      let c : Cell = cell_at K (suc k) n in
      ap (count_taken (suc k)) (told.counts k n h)
      ∙ ap (λ (b : Bool). cond b (Solid (solid_of K (suc k) c)) Damaged) (le-leb (solid_of K (suc k) c) (8 ^ suc (suc (suc k))) (solid-most K (suc k) c))
      ∙ ap Solid (solid-whole K (suc k) c ∙ sym (box-mirrored m (edge (suc k)) (cell_voxel K (suc k) c)))

  pub cell-true : (k n m : ℕ) (low high : Point) → n < length (cells_at K k) → m < 8
      → cell_tally K count k n m low high ≡ Solid (box_count (edge k) (mirrored m (edge k) (cell_voxel K k (cell_at K k n))) low high)
  unfolding cell_tally cell_voxel
  cell-true zero n m low high hn hm = refl
  cell-true (suc k) n m low high hn hm = go (cell-true k) (is_whole (edge (suc k)) low high) refl
    where
      c : Cell
      c = cell_at K (suc k) n

      S : ℕ
      S = edge k

      child : ℕ → Tally
      child i = pointer_tally (λ q t a b. cell_tally K count k q t a b) (length (cells_at K k)) (get_or c (bit_xor i m) 0) m (clipped S i low) (clipped S i high)

      part : ℕ → ℕ
      part i = box_count S (mirrored m S (pointer_voxel (cell_voxel K k) (cells_at K k) S (get_or c (bit_xor i m) 0))) (clipped S i low) (clipped S i high)

      go : ((q t : ℕ) (a b : Point) → q < length (cells_at K k) → t < 8 → cell_tally K count k q t a b ≡ Solid (box_count S (mirrored t S (cell_voxel K k (cell_at K k q))) a b))
          → (b : Bool) → is_whole (edge (suc k)) low high ≡ b
          → cond b (count_taken (suc k) (count (suc k) n)) (total 8 child) ≡ Solid (box_count (edge (suc k)) (mirrored m (edge (suc k)) (cell_voxel K (suc k) c)) low high)
      go ih true e =
          let w : (low ≡ origin) × (high ≡ far (edge (suc k))) = whole-box (edge (suc k)) low high e in
          taken_true k n m hn
          ∙ ap₂ (λ (a b : Point). Solid (box_count (edge (suc k)) (mirrored m (edge (suc k)) (cell_voxel K (suc k) c)) a b)) (sym w.0) (sym w.1)
      go ih false e =
          total-true 8 child part (λ i hi.
          let p : ℕ = get_or c (bit_xor i m) 0 in
          pointer-true K k (λ q t a b. cell_tally K count k q t a b) p m (clipped S i low) (clipped S i high) hm
          (none-at 8 (λ j. bad_pointer (length (cells_at K k)) (get_or c j 0)) (told.pointers k n hn) (bit_xor i m) (xor8-lt i m hi hm))
          (λ h. ih (cell_no p) (bit_xor (tag_of p) m) (clipped S i low) (clipped S i high) h (xor8-lt (tag_of p) m (tag-lt p) hm)))
          ∙ ap Solid (sym (seen-children K k c m low high hm))

  pub pointer-tally-true : (k p m : ℕ) (low high : Point) → m < 8 → bad_pointer (length (cells_at K k)) p ≡ false
      → pointer_tally (cell_tally K count k) (length (cells_at K k)) p m low high
      ≡ Solid (box_count (edge k) (mirrored m (edge k) (pointer_voxel (cell_voxel K k) (cells_at K k) (edge k) p)) low high)
  pointer-tally-true k p m low high hm ok =
      pointer-true K k (cell_tally K count k) p m low high hm ok (λ h. cell-true k (cell_no p) (bit_xor (tag_of p) m) low high h (xor8-lt (tag_of p) m (tag-lt p) hm))

  -- from a root that is not bad: the room's
  pub box-tally-true : (D p : ℕ) (low high : Point) → T (depth_ok D) → bad_pointer (length (cells_at K (D - 2))) p ≡ false
      → box_tally K count D p low high ≡ Solid (box_count (2 ^ D) (root_room K D p) low high)
  unfolding box_tally root_room
  box-tally-true D p low high deep ok =
      pointer-tally-true (D - 2) p 0 low high (lit< tt) ok
      ∙ ap (λ (h : ℕ). Solid (box_count (2 ^ h) (pointer_voxel (cell_voxel K (D - 2)) (cells_at K (D - 2)) (2 ^ h) p) low high)) (depth-two D deep)
