-- Words behind those that a store uses are not looked at: each reader and each test of a store long enough gives the same with words behind it.
-- By the places that each looks at, all of them inside. Assumes nothing.
use mathlib.Core.Path.{◌≡◌, refl, sym, ap, ap₂, ◌∙◌, subst}
use mathlib.Core.Bool.{Bool, true, false, cond, not, ◌&&◌}
use mathlib.Core.List.{List, ◌∷◌, ◌++◌}
use Prim.Native.Nat.{ℕ, zero, suc, ◌+◌, ◌-◌, ◌*◌, ◌^◌, ◌<◌, ◌≤◌}
use native.Mathlib.Nat.{zero-add, mul-le-mul_left, mul-sub}
use native.Mathlib.Omega.{arith}
use borrow.Author.Tests.{le-leb}
use lib.Dec.{T, eqb, leb, ltb}
use lib.ListN.{length, take, drop, get_or, length-append, length-drop, get_or-append}
use lib.Seq.{take-append-le, drop-append-le, get_or-drop}
use Rattle.paper.specs.Numbers.{all_below, all_in, same_list}
use Rattle.paper.specs.Rooms.{depth_ok}
use Rattle.paper.specs.Store.{Cell, cells_at, cell_at, pair_no, leaf_no, bad_pointer, most_scenes, heights, chains, used, first_head, capacity_of, scenes_held, is_held, kept_count, zeros_position, first_scene, scene_words, scene_position, cell_length, stride, first_list, list_position, cell_position, count_position}
use Rattle.paper.specs.Store.{groups, kept_in, kept_of, store_of, leaf_solid, over_children, count_of, scene_depth, scene_root, blank, capacity_ok, header_ok, scene_ok, place_ok, list_usable, counts_ok, chain_words, chains_ok, list_blank, store_ok}
use Rattle.laws.proofs.Tests.{true-T, and_left, and_right, all-at, all_same}
use Rattle.laws.proofs.Lists.{tabulate-same}
use Rattle.laws.proofs.Kept.{cell-fits, kept-length}
use Rattle.laws.proofs.TrueCounts.{over-same, usable-sound}
use Rattle.laws.proofs.Rows.{list-in}
use Rattle.laws.proofs.Undamaged.{FineHeader, fine-header, depth-list}

-- ---- parts of a list

pub groups-front : (s w n : ℕ) (l r : List ℕ) → w ≤ s → s * n ≤ length l → groups s w n (l ++ r) ≡ groups s w n l
unfolding groups
groups-front s w zero l r inside h = refl
groups-front s w (suc n) l r inside h =
    let one : s ≤ length l = omega arith in
    ap₂ ◌∷◌ (take-append-le w l r (omega arith))
    (ap (groups s w n) (drop-append-le s l r one) ∙ groups-front s w n (drop s l) r inside (rw (length-drop s l) (omega arith)))

groups-part : (s w n a : ℕ) (f r : List ℕ) → w ≤ s → a + s * n ≤ length f → groups s w n (drop a (f ++ r)) ≡ groups s w n (drop a f)
groups-part s w n a f r inside h =
    ap (groups s w n) (drop-append-le a f r (omega arith)) ∙ groups-front s w n (drop a f) r inside (rw (length-drop a f) (omega arith))

blank_part : (f r : List ℕ) (a n : ℕ) → a + n ≤ length f → blank (f ++ r) a n ≡ blank f a n
unfolding blank
blank_part f r a n h =
    ap (λ (l : List ℕ). all_in (eqb 0) (take n l)) (drop-append-le a f r (omega arith))
    ∙ ap (all_in (eqb 0)) (take-append-le n (drop a f) r (rw (length-drop a f) (omega arith)))

-- ---- tests

-- a test that is looked at only where another passes
and-when : (a b c : Bool) → (T a → b ≡ c) → a && b ≡ a && c
and-when true b c h = h tt
and-when false b c h = refl

pub no_header : (ws : List ℕ) → header_ok ws ≡ false → store_ok ws ≡ false
unfolding store_ok
no_header ws e = rw e refl

-- ---- readers and tests, of a store f long enough with words r behind it

module _ (f r : List ℕ) (whole : used (capacity_of f) ≤ length f) where
  word-unseen : (i : ℕ) → i < first_list → get_or (f ++ r) i 0 ≡ get_or f i 0
  word-unseen i h = get_or-append f r 0 i (omega arith)

  pub capacity-unseen : capacity_of (f ++ r) ≡ capacity_of f
  capacity-unseen = word-unseen 0 (omega arith)

  pub held-unseen : scenes_held (f ++ r) ≡ scenes_held f
  held-unseen = word-unseen 1 (omega arith)

  pub number-unseen : (n : ℕ) → is_held (f ++ r) n ≡ is_held f n
  number-unseen n = ap (ltb n) held-unseen

  pub count-unseen : (k : ℕ) → k < heights → kept_count (f ++ r) k ≡ kept_count f k
  count-unseen k h = word-unseen (2 + k) (omega arith)

  pub header-unseen : header_ok (f ++ r) ≡ header_ok f
  unfolding header_ok
  header-unseen =
      let room : leb (used (capacity_of (f ++ r))) (length (f ++ r)) ≡ leb (used (capacity_of f)) (length f) =
      ap (λ (c : ℕ). leb (used c) (length (f ++ r))) capacity-unseen
      ∙ le-leb (used (capacity_of f)) (length (f ++ r)) (rw (length-append f r) (omega arith)) ∙ sym (le-leb (used (capacity_of f)) (length f) whole) in
      let count : (k : ℕ) → k < heights → leb (kept_count (f ++ r) k) (capacity_of (f ++ r)) ≡ leb (kept_count f k) (capacity_of f) =
      λ k l. ap₂ leb (count-unseen k l) capacity-unseen in
      ap₂ ◌&&◌ (ap₂ ◌&&◌ (ap₂ ◌&&◌ (ap₂ ◌&&◌ room (ap capacity_ok capacity-unseen)) (ap (λ (n : ℕ). leb n most_scenes) held-unseen))
      (all_same heights (λ k. leb (kept_count (f ++ r) k) (capacity_of (f ++ r))) (λ k. leb (kept_count f k) (capacity_of f)) count))
      (blank_part f r zeros_position (first_scene - zeros_position) (omega arith))

  module _ (head : T (header_ok f)) where
    list-unseen : (k : ℕ) → k < heights → kept_in (f ++ r) k ≡ kept_in f k
    unfolding kept_in
    list-unseen k l =
        let h : FineHeader f = fine-header f head in
        let C : ℕ = capacity_of f in
        let s : ℕ = stride k in
        let w : ℕ = cell_length k in
        let n : ℕ = kept_count f k in
        ap₂ (λ (m c : ℕ). groups s w m (drop (list_position c k) (f ++ r))) (count-unseen k l) capacity-unseen
        ∙ groups-part s w n (list_position C k) f r (cell-fits k) (omega (arith, mul-le-mul_left s (h.few k l), list-in C k l))

    pub kept-unseen : kept_of (f ++ r) ≡ kept_of f
    unfolding kept_of
    kept-unseen = tabulate-same 0 heights (kept_in (f ++ r)) (kept_in f) (λ k l. list-unseen k (rw zero-add at l))

    pub store-unseen : store_of (f ++ r) ≡ store_of f
    unfolding store_of
    store-unseen =
        let scenes : groups scene_words scene_words most_scenes (drop first_scene (f ++ r)) ≡ groups scene_words scene_words most_scenes (drop first_scene f) =
        groups-part scene_words scene_words most_scenes first_scene f r (omega arith) (omega arith) in
        λ i. record { capacity = capacity-unseen i; held = held-unseen i; scenes = scenes i; kept = kept-unseen i }

    pub depth-unseen : (n : ℕ) → n < most_scenes → scene_depth (f ++ r) n ≡ scene_depth f n
    depth-unseen n l = word-unseen (scene_position n) (omega arith)

    pub root-unseen : (n : ℕ) → n < most_scenes → scene_root (f ++ r) n ≡ scene_root f n
    root-unseen n l = word-unseen (scene_position n + 1) (omega arith)

    pub scene-unseen : (n : ℕ) → n < most_scenes → scene_ok (f ++ r) n ≡ scene_ok f n
    unfolding scene_ok
    scene-unseen n l =
        let p : ℕ = scene_root f n in
        ap₂ (λ (a b : ℕ). depth_ok a && not (bad_pointer (kept_count (f ++ r) (a - 2)) b)) (depth-unseen n l) (root-unseen n l)
        ∙ depth-list (scene_depth f n) (λ k. not (bad_pointer (kept_count (f ++ r) k) p)) (λ k. not (bad_pointer (kept_count f k) p))
        (λ k m. ap (λ (c : ℕ). not (bad_pointer c p)) (count-unseen k m))

    place-unseen : (n : ℕ) → n < most_scenes → place_ok (f ++ r) n ≡ place_ok f n
    unfolding place_ok
    place-unseen n l =
        λ i. cond (number-unseen n i) (scene-unseen n l i) (eqb (depth-unseen n l i) 0 && eqb (root-unseen n l i) 0)

    list-blank-unseen : (k : ℕ) → k < heights → list_blank (f ++ r) k ≡ list_blank f k
    list-blank-unseen k l =
        let C : ℕ = capacity_of f in
        let w : ℕ = stride k in
        let n : ℕ = kept_count f k in
        let all : w * n ≤ w * C = mul-le-mul_left w ((fine-header f head).few k l) in
        ap₂ (λ (c m : ℕ). blank (f ++ r) (cell_position c k m) (w * (c - m))) capacity-unseen (count-unseen k l)
        ∙ blank_part f r (cell_position C k n) (w * (C - n)) (omega (arith, all, mul-sub w C n, list-in C k l))

    -- ---- counts

    count-word-unseen : (k n i : ℕ) → suc k < heights → n < kept_count f (suc k) → i < 2
        → get_or (drop (count_position (capacity_of f) (suc k) n) (f ++ r)) i 0 ≡ get_or (drop (count_position (capacity_of f) (suc k) n) f) i 0
    count-word-unseen k n i l h hi =
        let C : ℕ = capacity_of f in
        let a : ℕ = count_position C (suc k) n in
        let inside : a + i < length f = omega (arith, list-in C (suc k) l, mul-le-mul_left (stride (suc k)) ((fine-header f head).few (suc k) l), mul-le-mul_left (stride (suc k)) h) in
        get_or-drop a (f ++ r) i 0 ∙ get_or-append f r 0 (a + i) inside ∙ sym (get_or-drop a f i 0)

    pub solid-unseen : (k n : ℕ) → k < heights → n < kept_count f k → count_of (f ++ r) k n ≡ count_of f k n
    unfolding count_of
    solid-unseen zero n l h = ap (λ (K : List (List Cell)). leaf_solid (leaf_no (cell_at K 0 n))) kept-unseen
    solid-unseen (suc k) n l h =
        ap (λ (C : ℕ). pair_no (drop (count_position C (suc k) n) (f ++ r))) capacity-unseen
        ∙ ap₂ (λ (a b : ℕ). a * 2 ^ 32 + b) (count-word-unseen k n 0 l h (omega arith)) (count-word-unseen k n 1 l h (omega arith))

    -- the sums, where every pointer of a kept cell names a kept cell
    counts-unseen : T (all_below heights (list_usable (kept_of f))) → (k : ℕ) → k < heights → counts_ok (f ++ r) k ≡ counts_ok f k
    unfolding counts_ok
    counts-unseen u zero l = refl
    counts-unseen u (suc k) l =
        let K : List (List Cell) = kept_of f in
        let same : (w : List ℕ) → List (List Cell) → ℕ → Bool = λ w L n. eqb (count_of w (suc k) n) (over_children (count_of w k) (cell_at L (suc k) n)) in
        ap₂ (λ (m : ℕ) (L : List (List Cell)). all_below m (same (f ++ r) L)) (count-unseen (suc k) l) kept-unseen
        ∙ all_same (kept_count f (suc k)) (same (f ++ r) K) (same f K)
        (λ n h.
        ap₂ eqb (solid-unseen (suc k) n l h)
        (over-same (count_of (f ++ r) k) (count_of f k) (length (cells_at K k)) (cell_at K (suc k) n)
        (usable-sound K k n (all-at heights (list_usable K) u (suc k) l) (rw (kept-length f (suc k) l) h))
        (λ q hq. solid-unseen k q (omega arith) (subst (λ (m : ℕ). q < m) (kept-length f k (omega arith)) hq))))

    chains-unseen : chains_ok (f ++ r) ≡ chains_ok f
    unfolding chains_ok
    chains-unseen =
        let C : ℕ = capacity_of f in
        let n : ℕ = (chains + C) * heights in
        ap₂ same_list
        (ap (λ (D : ℕ). take ((chains + D) * heights) (drop (first_head D) (f ++ r))) capacity-unseen
        ∙ ap (take n) (drop-append-le (first_head C) f r (omega arith)) ∙ take-append-le n (drop (first_head C) f) r (rw (length-drop (first_head C) f) (omega arith)))
        (ap₂ chain_words kept-unseen capacity-unseen)

    tests-unseen : store_ok (f ++ r) ≡ store_ok f
    unfolding store_ok
    tests-unseen =
        let U : Bool = all_below heights (list_usable (kept_of f)) in
        let X : Bool = header_ok f && all_below most_scenes (place_ok f) in
        let B : Bool = all_below heights (list_blank f) in
        ap₂ ◌&&◌
        (ap (λ (b : Bool). b && all_below heights (counts_ok (f ++ r)))
        (ap₂ ◌&&◌ (ap₂ ◌&&◌ (ap₂ ◌&&◌ header-unseen (all_same most_scenes (place_ok (f ++ r)) (place_ok f) place-unseen)) (ap (λ (K : List (List Cell)). all_below heights (list_usable K)) kept-unseen))
        (all_same heights (list_blank (f ++ r)) (list_blank f) list-blank-unseen))
        ∙ and-when (X && U && B) (all_below heights (counts_ok (f ++ r))) (all_below heights (counts_ok f))
        (λ t. all_same heights (counts_ok (f ++ r)) (counts_ok f) (counts-unseen (and_right X U (and_left (X && U) B t)))))
        chains-unseen

  pub undamaged-unseen : store_ok (f ++ r) ≡ store_ok f
  undamaged-unseen = go (header_ok f) refl
    where
      go : (b : Bool) → header_ok f ≡ b → store_ok (f ++ r) ≡ store_ok f
      go true e = tests-unseen (true-T e)
      go false e = no_header (f ++ r) (header-unseen ∙ e) ∙ sym (no_header f e)
