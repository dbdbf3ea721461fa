-- A search on lists where no kept cell has a bad pointer and each has a solid voxel: it is never damaged, meets a solid voxel exactly where the box has
-- one, and enters no more cells than are non-empty and share a voxel with the box. From a cell wholly inside it goes straight down to one leaf. By
-- induction on the height: a box is its children's, and a child that is there is not empty. Assumes nothing.
use mathlib.Core.Path.{◌≡◌, refl, sym, ◌∙◌, ap, ap₂, subst, subst₂}
use mathlib.Core.Bool.{Bool, true, false, cond, ◌&&◌}
use mathlib.Core.List.{List}
use Prim.Native.Nat.{ℕ, zero, suc, ◌+◌, ◌<◌, ◌≤◌}
use native.Mathlib.Nat.{zero-add}
use native.Mathlib.Omega.{arith}
use borrow.Author.Tests.{eqb-false, ltb-true, ltb-false, lt-ltb}
use lib.Bits.{bit_xor}
use lib.Dec.{T, eqb, ltb}
use lib.ListN.{length, get_or}
use Rattle.paper.specs.Numbers.{sum}
use Rattle.paper.specs.Rooms.{Point, Room, NonEmpty, child_room, mirror, mirrored, box_count, has_voxel, origin, far, is_whole, clipped}
use Rattle.paper.specs.Outline.{edge}
use Rattle.paper.specs.Store.{Cell, heights, kept_count, kept_of, cells_at, cell_at, tag_of, cell_no, bad_pointer, any_bad, store_ok}
use Rattle.paper.specs.Meaning.{pointer_voxel, cell_voxel}
use Rattle.paper.specs.Anything.{further, or_else, in_order, pointer_of, shared_bad, pointer_search, cell_search}
use Rattle.paper.specs.Anything.{Search}
use Rattle.paper.specs.Anything.{Met, Passed, Damaged}
use Rattle.laws.proofs.Tests.{none-at, none-T}
use Rattle.laws.proofs.Eight.{xor8-lt}
use Rattle.laws.proofs.Matching.{tag-lt}
use Rattle.laws.proofs.Invariant.{named-kept}
use Rattle.laws.proofs.OutlineCells.{some-non_empty}
use Rattle.laws.proofs.Kept.{kept-length}
use Rattle.laws.proofs.Places.{kept-placed}
use Rattle.laws.proofs.StoreFacts.{Words, cell-sound}
use Rattle.laws.proofs.Records.{seen_room, named-seen, child-seen, solid-mirrored, kept-solid}
use Rattle.laws.proofs.Adding.{Invs}
use Rattle.laws.proofs.Filled.{none-bad}
use Rattle.laws.proofs.Sums.{sum_head, sum_same}
use Rattle.laws.proofs.Boxes.{box-same, box-clear, box-none, box-pos}
use Rattle.laws.proofs.BoxTallies.{seen-children, whole-box, no-voxel}
use Rattle.laws.proofs.SearchLaws.{child_search, bad_at, cell-open, whole-voxel, child-inside}
use Rattle.laws.proofs.SharingCells.{shares, sharers, sharers-same}

-- ---- what a search tells of a count g, after at most M cells

abbrev pub Tells : ℕ → ℕ → Search → Type 0
Tells g M (Met e) = (0 < g) × (e ≤ M)
Tells g M (Passed e) = (g ≡ 0) × (e ≤ M)
Tells g M Damaged = ⊥

further-tells : (a g M : ℕ) (s : Search) → Tells g M s → Tells g (a + M) (further a s)
further-tells a g M (Met e) t = (t.0, omega (arith, t.1))
further-tells a g M (Passed e) t = (t.0, omega (arith, t.1))
further-tells a g M Damaged t = t

else-tells : (g h M N : ℕ) (s t : Search) → Tells g M s → Tells h N t → Tells (g + h) (M + N) (or_else s t)
else-tells g h M N (Met e) t p q = omega arith
else-tells g h M N (Passed e) (Met d) p q = omega arith
else-tells g h M N (Passed e) (Passed d) p q = omega arith
else-tells g h M N (Passed e) Damaged p q = q
else-tells g h M N Damaged t p q = absurd p

order-tells : (n i : ℕ) (f : ℕ → Search) (g M : ℕ → ℕ) → ((j : ℕ) → j < n → Tells (g j) (M j) (f (i + j))) → Tells (sum n g) (sum n M) (in_order i n f)
unfolding in_order sum
order-tells zero i f g M h = omega arith
order-tells (suc n) i f g M h =
    let here : Tells (g 0) (M 0) (f i) = let e : i + 0 ≡ i = omega arith in subst (λ (a : ℕ). Tells (g 0) (M 0) (f a)) e (h 0 (omega arith)) in
    let rest : Tells (sum n (λ j. g (suc j))) (sum n (λ j. M (suc j))) (in_order (suc i) n f) =
    order-tells n (suc i) f (λ j. g (suc j)) (λ j. M (suc j))
    (λ j l. let e : i + suc j ≡ suc i + j = omega arith in subst (λ (a : ℕ). Tells (g (suc j)) (M (suc j)) (f a)) e (h (suc j) (omega arith))) in
    subst₂ (λ (a b : ℕ). Tells a b (or_else (f i) (in_order (suc i) n f))) (sym (sum_head n g)) (sym (sum_head n M))
    (else-tells (g 0) (sum n (λ j. g (suc j))) (M 0) (sum n (λ j. M (suc j))) (f i) (in_order (suc i) n f) here rest)

-- ---- a search that meets at the end of one way of e cells, or enters none

abbrev Way : ℕ → Search → Type 0
Way e (Met d) = d ≡ e
Way e (Passed d) = d ≡ 0
Way e Damaged = ⊥

order-way : (n i e : ℕ) (f : ℕ → Search) → ((j : ℕ) → i ≤ j → j < i + n → Way e (f j)) → Way e (in_order i n f)
unfolding in_order
order-way zero i e f h = refl
order-way (suc n) i e f h = then (f i) (in_order (suc i) n f) (h i (omega arith) (omega arith)) (order-way n (suc i) e f (λ j l m. h j (omega arith) (omega arith)))
  where
    then : (s t : Search) → Way e s → Way e t → Way e (or_else s t)
    then (Met d) t p q = p
    then (Passed d) (Met c) p q = omega arith
    then (Passed d) (Passed c) p q = omega arith
    then (Passed d) Damaged p q = q
    then Damaged t p q = p

-- where there is a voxel to meet, it does
further-met : (e g M : ℕ) (s : Search) → Way e s → 0 < g → Tells g M (further 1 s) → further 1 s ≡ Met (suc e)
further-met e g M (Met d) w h t = ap Met (omega arith)
further-met e g M (Passed d) w h t = absurd (omega (arith, t.0))
further-met e g M Damaged w h t = absurd t

-- ---- lists in order

pub record Searchable (K : List (List Cell)) : Type 0 where
  pub pointers : (k q : ℕ) → q < length (cells_at K (suc k)) → any_bad (length (cells_at K k)) (cell_at K (suc k) q) ≡ false
  pub solid : (k q : ℕ) → q < length (cells_at K k) → NonEmpty (edge k) (cell_voxel K k (cell_at K k q))

-- lists that adding made are such
pub invs-searchable : (K : List (List Cell)) → Invs K → Searchable K
invs-searchable K I = record { pointers = λ k q h. none-bad (length (cells_at K k)) (cell_at K (suc k) q) ((I (suc k)).ok q h); solid = λ k q h. (I k).solid q h }

-- and those of an undamaged store of 32-bit words
pub store-searchable : (ws : List ℕ) → T (store_ok ws) → Words ws → Searchable (kept_of ws)
store-searchable ws ok w = record {
  pointers = λ k q h.
      let l : (suc k < heights) × (q < kept_count ws (suc k)) = kept-placed ws (suc k) q h in
      rw (kept-length ws k (omega (arith, l.0))) (cell-sound ws ok k q l.0 l.1);
  solid = λ k q h. let l : (k < heights) × (q < kept_count ws k) = kept-placed ws k q h in kept-solid ws ok w k q l.0 l.1;
}

-- what a pointer of list k stands for, seen under m
abbrev pub seen_pointer : List (List Cell) → ℕ → ℕ → ℕ → Room
seen_pointer K k p m = mirrored m (edge k) (pointer_voxel (cell_voxel K k) (cells_at K k) (edge k) p)

-- by what the cell named tells, where one is named and has a voxel of the box
pub pointer-tells : (K : List (List Cell)) (k : ℕ) (go : ℕ → ℕ → Point → Point → Search) (p m : ℕ) (low high : Point) → m < 8 → bad_pointer (length (cells_at K k)) p ≡ false
    → (cell_no p < length (cells_at K k) → has_voxel low high ≡ true
    → Tells (box_count (edge k) (seen_room K k (cell_no p) (bit_xor (tag_of p) m)) low high) (sharers k (seen_room K k (cell_no p) (bit_xor (tag_of p) m)) low high)
    (go (cell_no p) (bit_xor (tag_of p) m) low high))
    → Tells (box_count (edge k) (seen_pointer K k p m) low high) (sharers k (seen_pointer K k p m) low high) (pointer_search go p m low high)
pointer-tells K k go p m low high hm ok there = pick (has_voxel low high) refl (eqb p 0) refl
  where
    S : ℕ
    S = edge k

    r : Room
    r = cell_voxel K k (cell_at K k (cell_no p))

    t : ℕ
    t = bit_xor (tag_of p) m

    pick : (v : Bool) → has_voxel low high ≡ v → (z : Bool) → eqb p 0 ≡ z
        → Tells (box_count S (seen_pointer K k p m) low high) (sharers k (seen_pointer K k p m) low high) (cond v (cond z (Passed 0) (go (cell_no p) t low high)) (Passed 0))
    pick false ev z ez = (box-none S (seen_pointer K k p m) low high (no-voxel low high ev), omega arith)
    pick true ev true ez =
        (box-clear S (seen_pointer K k p m) low high (λ v l. ap (λ (b : Bool). cond b false (r (mirror (tag_of p) S (mirror m S v)))) ez), omega arith)
    pick true ev false ez =
        subst₂ (λ (a b : ℕ). Tells a b (go (cell_no p) t low high))
        (sym (box-same S (seen_pointer K k p m) (seen_room K k (cell_no p) t) low high (named-seen K k p m hm ez)))
        (sym (sharers-same k (seen_pointer K k p m) (seen_room K k (cell_no p) t) low high (named-seen K k p m hm ez)))
        (there (named-kept (length (cells_at K k)) p ok (eqb-false p 0 ez)) ev)

module _ (K : List (List Cell)) (sound : Searchable K) where
  pub seen-solid : (k n m : ℕ) → n < length (cells_at K k) → NonEmpty (edge k) (seen_room K k n m)
  seen-solid k n m h = solid-mirrored m (edge k) (cell_voxel K k (cell_at K k n)) (sound.solid k n h)

  -- a kept cell with a voxel of the box counts
  shares-one : (k n m : ℕ) (low high : Point) → n < length (cells_at K k) → has_voxel low high ≡ true → shares k (seen_room K k n m) low high ≡ 1
  shares-one k n m low high h v = rw (v, some-non_empty (edge k) (seen_room K k n m) (seen-solid k n m h))

  child-fine : (k n m i : ℕ) → n < length (cells_at K (suc k)) → m < 8 → i < 8 → bad_pointer (length (cells_at K k)) (pointer_of K k n m i) ≡ false
  child-fine k n m i h hm hi =
      none-at 8 (λ j. bad_pointer (length (cells_at K k)) (get_or (cell_at K (suc k) n) j 0)) (sound.pointers k n h) (bit_xor i m) (xor8-lt i m hi hm)

  -- no pointer that is tested is bad
  pub none-shared : (k n m : ℕ) (low high : Point) → n < length (cells_at K (suc k)) → m < 8 → shared_bad K k n m low high ≡ false
  none-shared k n m low high h hm =
      none-T 8 (bad_at K k n m low high) (λ i l.
      ap (λ (b : Bool). has_voxel (clipped (edge k) i low) (clipped (edge k) i high) && b) (child-fine k n m i h hm l) ∙ neither (has_voxel (clipped (edge k) i low) (clipped (edge k) i high)))
    where
      neither : (b : Bool) → (b && false) ≡ false
      neither true = refl
      neither false = refl

  -- a cell by its children
  module _ (k n m : ℕ) (low high : Point) (hn : n < length (cells_at K (suc k))) (hm : m < 8) where
    abbrev child : ℕ → Search
    child = child_search K k n m low high

    abbrev part : ℕ → ℕ
    part i = box_count (edge k) (seen_pointer K k (pointer_of K k n m i) m) (clipped (edge k) i low) (clipped (edge k) i high)

    abbrev most : ℕ → ℕ
    most i = sharers k (seen_pointer K k (pointer_of K k n m i) m) (clipped (edge k) i low) (clipped (edge k) i high)

    parts-most : has_voxel low high ≡ true → sharers (suc k) (seen_room K (suc k) n m) low high ≡ 1 + sum 8 (λ i. most i)
    unfolding sharers
    parts-most v =
        ap₂ (λ (a b : ℕ). a + b) (shares-one (suc k) n m low high hn v)
        (sum_same 8 (λ i. sharers k (child_room (edge k) i (seen_room K (suc k) n m)) (clipped (edge k) i low) (clipped (edge k) i high)) (λ i. most i)
        (λ i l. sharers-same k (child_room (edge k) i (seen_room K (suc k) n m)) (seen_pointer K k (pointer_of K k n m i) m) (clipped (edge k) i low) (clipped (edge k) i high)
        (child-seen K k (cell_at K (suc k) n) m i hm l)))

    tells_more : has_voxel low high ≡ true
        → ((q t : ℕ) (a b : Point) → q < length (cells_at K k) → t < 8 → has_voxel a b ≡ true
        → Tells (box_count (edge k) (seen_room K k q t) a b) (sharers k (seen_room K k q t) a b) (cell_search K k q t a b))
        → Tells (box_count (edge (suc k)) (seen_room K (suc k) n m) low high) (sharers (suc k) (seen_room K (suc k) n m) low high) (cell_search K (suc k) n m low high)
    tells_more v ih =
        let g : ℕ = box_count (edge (suc k)) (seen_room K (suc k) n m) low high in
        let M : ℕ = sharers (suc k) (seen_room K (suc k) n m) low high in
        let each : (i : ℕ) → i < 8 → Tells (part i) (most i) (child i) =
        λ i l.
        let p : ℕ = pointer_of K k n m i in
        pointer-tells K k (λ q t a b. cell_search K k q t a b) p m (clipped (edge k) i low) (clipped (edge k) i high) hm (child-fine k n m i hn hm l)
        (λ h w. ih (cell_no p) (bit_xor (tag_of p) m) (clipped (edge k) i low) (clipped (edge k) i high) h (xor8-lt (tag_of p) m (tag-lt p) hm) w) in
        subst (Tells g M) (sym (cell-open K k n m low high (none-shared k n m low high hn hm)))
        (subst₂ (λ (a b : ℕ). Tells a b (further 1 (in_order 0 8 child))) (sym (seen-children K k (cell_at K (suc k) n) m low high hm)) (sym (parts-most v))
        (further-tells 1 (sum 8 part) (sum 8 most) (in_order 0 8 child)
        (order-tells 8 0 child part most (λ i l. subst (λ (j : ℕ). Tells (part i) (most i) (child j)) (sym (zero-add i)) (each i l)))))

  pub cell-tells : (k n m : ℕ) (low high : Point) → n < length (cells_at K k) → m < 8 → has_voxel low high ≡ true
      → Tells (box_count (edge k) (seen_room K k n m) low high) (sharers k (seen_room K k n m) low high) (cell_search K k n m low high)
  unfolding cell_search cell_voxel sharers
  cell-tells zero n m low high hn hm v = go (ltb 0 g) refl
    where
      g : ℕ
      g = box_count (edge 0) (seen_room K 0 n m) low high

      one : shares 0 (seen_room K 0 n m) low high ≡ 1
      one = shares-one 0 n m low high hn v

      go : (b : Bool) → ltb 0 g ≡ b → Tells g (shares 0 (seen_room K 0 n m) low high) (cond b (Met 1) (Passed 1))
      go true e = (ltb-true 0 g e, omega (arith, one))
      go false e = (omega (arith, ltb-false 0 g e), omega (arith, one))
  cell-tells (suc k) n m low high hn hm v = tells_more k n m low high hn hm v (cell-tells k)

  -- what a pointer that is not bad leads to
  pub pointer-search-tells : (k p m : ℕ) (low high : Point) → m < 8 → bad_pointer (length (cells_at K k)) p ≡ false
      → Tells (box_count (edge k) (seen_pointer K k p m) low high) (sharers k (seen_pointer K k p m) low high) (pointer_search (cell_search K k) p m low high)
  pointer-search-tells k p m low high hm ok =
      pointer-tells K k (cell_search K k) p m low high hm ok (λ h v. cell-tells k (cell_no p) (bit_xor (tag_of p) m) low high h (xor8-lt (tag_of p) m (tag-lt p) hm) v)

  -- ---- straight down

  whole-solid : (k n m : ℕ) → n < length (cells_at K k) → 0 < box_count (edge k) (seen_room K k n m) origin (far (edge k))
  whole-solid k n m h =
      let w : NonEmpty (edge k) (seen_room K k n m) = seen-solid k n m h in
      box-pos (edge k) (seen_room K k n m) origin (far (edge k)) w.0 w.1
      (record { from_x = omega arith; to_x = w.1.in_x; from_y = omega arith; to_y = w.1.in_y; from_z = omega arith; to_z = w.1.in_z }) w.2

  down-more : (k n m : ℕ) → n < length (cells_at K (suc k)) → m < 8
      → ((q t : ℕ) → q < length (cells_at K k) → t < 8 → cell_search K k q t origin (far (edge k)) ≡ Met (suc k))
      → cell_search K (suc k) n m origin (far (edge (suc k))) ≡ Met (suc (suc k))
  down-more k n m hn hm ih =
      cell-open K k n m origin (far (edge (suc k))) fine
      ∙ further-met (suc k) g M (in_order 0 8 child) (order-way 8 0 (suc k) child each) (whole-solid (suc k) n m hn)
      (subst (Tells g M) (cell-open K k n m origin (far (edge (suc k))) fine) (cell-tells (suc k) n m origin (far (edge (suc k))) hn hm (whole-voxel (suc k))))
    where
      g : ℕ
      g = box_count (edge (suc k)) (seen_room K (suc k) n m) origin (far (edge (suc k)))

      M : ℕ
      M = sharers (suc k) (seen_room K (suc k) n m) origin (far (edge (suc k)))

      child : ℕ → Search
      child = child_search K k n m origin (far (edge (suc k)))

      fine : shared_bad K k n m origin (far (edge (suc k))) ≡ false
      fine = none-shared k n m origin (far (edge (suc k))) hn hm

      way : (p : ℕ) → bad_pointer (length (cells_at K k)) p ≡ false → (z : Bool) → eqb p 0 ≡ z
          → Way (suc k) (cond z (Passed 0) (cell_search K k (cell_no p) (bit_xor (tag_of p) m) origin (far (edge k))))
      way p ok true e = refl
      way p ok false e =
          subst (Way (suc k)) (sym (ih (cell_no p) (bit_xor (tag_of p) m) (named-kept (length (cells_at K k)) p ok (eqb-false p 0 e)) (xor8-lt (tag_of p) m (tag-lt p) hm))) refl

      each : (i : ℕ) → 0 ≤ i → i < 0 + 8 → Way (suc k) (child i)
      each i l h =
          subst (Way (suc k)) (sym (child-inside K k n m i)) (way (pointer_of K k n m i) (child-fine k n m i hn hm (omega arith)) (eqb (pointer_of K k n m i) 0) refl)

  straight-down : (k n m : ℕ) → n < length (cells_at K k) → m < 8 → cell_search K k n m origin (far (edge k)) ≡ Met (suc k)
  unfolding cell_search cell_voxel
  straight-down zero n m hn hm = ap (λ (b : Bool). cond b (Met 1) (Passed 1)) (lt-ltb 0 (box_count (edge 0) (seen_room K 0 n m) origin (far (edge 0))) (whole-solid 0 n m hn))
  straight-down (suc k) n m hn hm = down-more k n m hn hm (straight-down k)

  -- from a cell wholly inside: one cell for each height
  pub straight : (k n m : ℕ) (low high : Point) → n < length (cells_at K k) → m < 8 → is_whole (edge k) low high ≡ true → cell_search K k n m low high ≡ Met (suc k)
  straight k n m low high hn hm w =
      let o : (low ≡ origin) × (high ≡ far (edge k)) = whole-box (edge k) low high w in
      ap₂ (λ (a b : Point). cell_search K k n m a b) o.0 o.1 ∙ straight-down k n m hn hm
