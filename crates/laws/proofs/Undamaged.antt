-- What the tests of a store say; the store that words with a good header hold is fine, and an undamaged store's 32-bit words are the words of the store
-- that they hold, followed by the rest of the slice. By the regions of the words, each cut into rows and padded with zeros; the counts are true.
-- Assumes nothing.
use mathlib.Core.Path.{◌≡◌, refl, sym, ◌∙◌, subst, ap, ap₂}
use mathlib.Core.Bool.{Bool, true, false, cond, not, ◌&&◌}
use mathlib.Core.List.{List, [], ◌∷◌, ◌++◌, map, append-nil}
use Prim.Native.Nat.{ℕ, zero, suc, ◌+◌, ◌-◌, ◌*◌, ◌/◌, ◌%◌, ◌^◌, ◌<◌, ◌≤◌}
use native.Mathlib.Nat.{zero-add, mul-le-mul_left}
use native.Mathlib.Omega.{arith}
use borrow.Author.Tests.{not-false, le-ltb}
use lib.Dec.{T, leb, leb→le, le→leb, ltb→lt}
use lib.ListN.{length, take, drop, get_or, replicate, length-map, length-drop, take-append-drop}
use lib.Seq.{take-add, drop-drop, length-take-le, ext_get_or, get_or-take, get_or-drop}
use Rattle.paper.specs.Numbers.{tabulate, all_below, all_in, flatten}
use Rattle.paper.specs.Rooms.{depth_ok}
use Rattle.paper.specs.Store.{Cell, Store, cell_at, two_words, most_scenes, heights, chains, used, first_head, capacity_of, scenes_held, is_held, kept_count, zeros_position, first_scene, scene_words, cell_length, stride, list_position, cell_position, count_position, groups, kept_in, kept_of, store_of, solid_of, count_of}
use Rattle.paper.specs.Store.{padded, region_words, row_of, list_regions, header_row, regions, words_of, blank, capacity_ok, header_ok, scene_ok, is_free, place_ok, list_usable, counts_ok, chains_ok, list_blank, store_ok}
use Rattle.paper.specs.Calls.{next_scene, no_scene}
use Rattle.laws.proofs.Tests.{T_true, true-T, and_left, and_right, and5, and5-T, all-at, all-T}
use Rattle.laws.proofs.Lists.{map_at}
use Rattle.laws.proofs.Kept.{groups-length, groups-at, cell-fits, kept_in-length, kept-list, kept-length, kept-cell, kept-tall, places-length}
use Rattle.laws.proofs.Padded.{groups-sized, blank-zeros, padded-groups}
use Rattle.laws.proofs.Regions.{in_row, region_at, region_place, regions-length, regions-back}
use Rattle.laws.proofs.TrueCounts.{counts-below}
use Rattle.laws.proofs.Rows.{Lists, lnil, lcons, list-in, words_fit, lists-place, lists-many, list_of, list-region}
use Rattle.laws.proofs.Words.{Fine, counted_by, store-fit, length-by, words_of-length}
use Rattle.laws.proofs.ChainWords.{chains-are}

-- ---- what the tests say

pub record FineHeader (ws : List ℕ) : Type 0 where
  pub long : used (capacity_of ws) ≤ length ws
  pub capacity : T (capacity_ok (capacity_of ws))
  pub held : scenes_held ws ≤ most_scenes
  pub few : (k : ℕ) → k < heights → kept_count ws k ≤ capacity_of ws
  pub header-zeros : T (blank ws zeros_position (first_scene - zeros_position))

pub fine-header : (ws : List ℕ) → T (header_ok ws) → FineHeader ws
unfolding header_ok
fine-header ws t =
    let C : ℕ = capacity_of ws in
    let few : ℕ → Bool = λ k. leb (kept_count ws k) C in
    let h = and5 (leb (used C) (length ws)) (capacity_ok C) (leb (scenes_held ws) most_scenes) (all_below heights few) (blank ws zeros_position (first_scene - zeros_position)) t in
    record {
      long = leb→le (used C) (length ws) h.0;
      capacity = h.1;
      held = leb→le (scenes_held ws) most_scenes h.2;
      few = λ k l. leb→le (kept_count ws k) C (all-at heights few h.3 k l);
      header-zeros = h.4;
    }

pub fine-header-ok : (ws : List ℕ) → FineHeader ws → T (header_ok ws)
unfolding header_ok
fine-header-ok ws h =
    let C : ℕ = capacity_of ws in
    let few : ℕ → Bool = λ k. leb (kept_count ws k) C in
    and5-T (leb (used C) (length ws)) (capacity_ok C) (leb (scenes_held ws) most_scenes) (all_below heights few) (blank ws zeros_position (first_scene - zeros_position))
    (le→leb (used C) (length ws) h.long) h.capacity (le→leb (scenes_held ws) most_scenes h.held)
    (all-T heights few (λ k l. le→leb (kept_count ws k) C (h.few k l))) h.header-zeros

pub record Undamaged (ws : List ℕ) : Type 0 where
  pub long : used (capacity_of ws) ≤ length ws
  pub capacity : T (capacity_ok (capacity_of ws))
  pub held : scenes_held ws ≤ most_scenes
  pub few : (k : ℕ) → k < heights → kept_count ws k ≤ capacity_of ws
  pub header-zeros : T (blank ws zeros_position (first_scene - zeros_position))
  pub places : (n : ℕ) → n < most_scenes → T (place_ok ws n)
  pub usable : (k : ℕ) → k < heights → T (list_usable (kept_of ws) k)
  pub list-zeros : (k : ℕ) → k < heights → T (list_blank ws k)
  pub counts : (k : ℕ) → k < heights → T (counts_ok ws k)
  pub chained : T (chains_ok ws)

store-tests : (ws : List ℕ) → T (store_ok ws)
    → (T (header_ok ws) × T (all_below most_scenes (place_ok ws)) × T (all_below heights (list_usable (kept_of ws))) × T (all_below heights (list_blank ws)) × T (all_below heights (counts_ok ws)))
    × T (chains_ok ws)
unfolding store_ok
store-tests ws t =
    let L : Bool = header_ok ws && all_below most_scenes (place_ok ws) && all_below heights (list_usable (kept_of ws)) && all_below heights (list_blank ws) && all_below heights (counts_ok ws) in (
      and5 (header_ok ws) (all_below most_scenes (place_ok ws)) (all_below heights (list_usable (kept_of ws))) (all_below heights (list_blank ws)) (all_below heights (counts_ok ws))
          (and_left L (chains_ok ws) t),
      and_right L (chains_ok ws) t,
    )

-- an undamaged store has a good header
pub store-header : (ws : List ℕ) → T (store_ok ws) → T (header_ok ws)
store-header ws t = (store-tests ws t).0.0

pub undamaged : (ws : List ℕ) → T (store_ok ws) → Undamaged ws
undamaged ws t =
    let s = (store-tests ws t).0 in
    let h : FineHeader ws = fine-header ws s.0 in
    record {
      long = h.long;
      capacity = h.capacity;
      held = h.held;
      few = h.few;
      header-zeros = h.header-zeros;
      places = all-at most_scenes (place_ok ws) s.1;
      usable = all-at heights (list_usable (kept_of ws)) s.2;
      list-zeros = all-at heights (list_blank ws) s.3;
      counts = all-at heights (counts_ok ws) s.4;
      chained = (store-tests ws t).1;
    }

pub undamaged-header : {ws : List ℕ} → Undamaged ws → FineHeader ws
undamaged-header u = record { long = u.long; capacity = u.capacity; held = u.held; few = u.few; header-zeros = u.header-zeros }

-- a number held is no refusal 9, and any other is
pub held-there : (ws : List ℕ) (n : ℕ) → T (is_held ws n) → no_scene ws n ≡ false
held-there ws n t = ap not (T_true {b = is_held ws n} t)

pub there-held : (ws : List ℕ) (n : ℕ) → no_scene ws n ≡ false → T (is_held ws n)
there-held ws n e = true-T (not-false (is_held ws n) e)

-- nothing is held under the next number
pub next-free : (ws : List ℕ) → is_held ws (next_scene ws) ≡ false
next-free ws = le-ltb (scenes_held ws) (scenes_held ws) (omega arith)

-- the number of a scene held has a place, and the scene there is not damaged
pub held-placed : (ws : List ℕ) (n : ℕ) → scenes_held ws ≤ most_scenes → T (is_held ws n) → n < most_scenes
held-placed ws n h t = omega (arith, ltb→lt n (scenes_held ws) t)

pub held-sound : {ws : List ℕ} → Undamaged ws → (n : ℕ) → T (is_held ws n) → T (scene_ok ws n)
unfolding place_ok
held-sound {ws} u n t = subst (λ (b : Bool). T (cond b (scene_ok ws n) (is_free ws n))) (T_true {b = is_held ws n} t) (u.places n (held-placed ws n u.held t))

-- a depth in range has its list, and a test after it looks at that list only
pub depth_low : (D : ℕ) → T (depth_ok D) → D - 2 < heights
depth_low D t = let low : D ≤ 16 = leb→le D 16 (and_right (leb 2 D) (leb D 16) t) in omega arith

pub depth-list : (D : ℕ) (f g : ℕ → Bool) → ((k : ℕ) → k < heights → f k ≡ g k) → depth_ok D && f (D - 2) ≡ depth_ok D && g (D - 2)
depth-list D f g e = go (depth_ok D) refl
  where
    go : (b : Bool) → depth_ok D ≡ b → b && f (D - 2) ≡ b && g (D - 2)
    go true q = e (D - 2) (depth_low D (true-T q))
    go false q = refl

-- ---- the store that words with a good header hold is fine

module _ (ws : List ℕ) (h : FineHeader ws) where
  tables-fine : (n j : ℕ) → j + n ≡ heights → Lists (capacity_of ws) j (tabulate j n (kept_in ws))
  unfolding tabulate kept_in
  tables-fine zero j e = lnil
  tables-fine (suc n) j e =
      let C : ℕ = capacity_of ws in
      let m : ℕ = kept_count ws j in
      let hj : j < heights = omega arith in
      let hl : m * stride j ≤ length (drop (list_position C j) ws) = rw length-drop (omega (arith, h.long, list-in C j hj, words_fit j m C (h.few j hj))) in
      lcons (groups-sized (stride j) (cell_length j) m (drop (list_position C j) ws) (cell-fits j) hl) (rw (kept_in-length ws j) (h.few j hj))
      (tables-fine n (suc j) (omega arith))

  pub header-fine : Fine (capacity_of ws) (scenes_held ws) (store_of ws).scenes (store_of ws).kept
  unfolding store_of kept_of
  header-fine = record {
    lists = kept-tall ws;
    of-scenes = groups-sized scene_words scene_words most_scenes (drop first_scene ws) (omega arith) (rw length-drop (omega (arith, h.long)));
    all-scenes = places-length ws;
    few-scenes = h.held;
    of-cells = tables-fine heights 0 refl;
  }

-- ---- the words of an undamaged store, part by part

take2 : (ws : List ℕ) → 2 ≤ length ws → take 2 ws ≡ get_or ws 0 0 ∷ get_or ws 1 0 ∷ []
take2 [] h = absurd (omega arith)
take2 (x ∷ []) h = absurd (omega arith)
take2 (x ∷ y ∷ ws) h = refl

-- two words are those of their number
pair-words : (h l : ℕ) → l < 2 ^ 32 → two_words (h * 2 ^ 32 + l) ≡ h ∷ l ∷ []
pair-words h l s =
    let high : (h * 2 ^ 32 + l) / 2 ^ 32 ≡ h = omega arith in
    let low : (h * 2 ^ 32 + l) % 2 ^ 32 ≡ l = omega arith in
    λ i. high i ∷ low i ∷ []

-- the zeros of list j, counted in groups
pub list-blank-at : (ws : List ℕ) (C j n : ℕ) → blank ws (cell_position C j n) (stride j * (C - n)) ≡ blank ws (list_position C j + n * stride j) (stride j * C - n * stride j)
list-blank-at ws C zero n = ap₂ (blank ws) (omega arith) (omega arith)
list-blank-at ws C (suc j) n = ap₂ (blank ws) (omega arith) (omega arith)

module _ (ws : List ℕ) (u : Undamaged ws) where
  counts-back : map length (kept_of ws) ≡ take heights (drop 2 ws)
  counts-back =
      let m : List ℕ = map (length {A = Cell}) (kept_of ws) in
      let hm : length m ≡ heights = length-map (kept_of ws) length ∙ kept-tall ws in
      let hd : heights ≤ length (drop 2 ws) = rw length-drop (omega (arith, u.long)) in
      ext_get_or 0 m (take heights (drop 2 ws)) (hm ∙ sym (length-take-le heights (drop 2 ws) hd))
      (λ i h.
      let hi : i < heights = omega arith in
      map_at length (kept_of ws) i [] 0 (rw (kept-tall ws) hi) ∙ kept-length ws i hi ∙ sym (get_or-take heights (drop 2 ws) i 0 hi ∙ get_or-drop 2 ws i 0))

  -- the header's row is its first words, and zeros follow
  header-back : padded first_scene (header_row (store_of ws) ∷ []) ≡ take first_scene ws
  unfolding store_of padded flatten
  header-back =
      let A : List ℕ = take heights (drop 2 ws) in
      let R : List ℕ = get_or ws 0 0 ∷ get_or ws 1 0 ∷ A in
      let n : ℕ = first_scene - zeros_position in
      let row : header_row (store_of ws) ≡ R = ap (λ (r : List ℕ). get_or ws 0 0 ∷ get_or ws 1 0 ∷ r) counts-back in
      let long : length R ≡ zeros_position = ap (λ (m : ℕ). suc (suc m)) (length-take-le heights (drop 2 ws) (rw length-drop (omega (arith, u.long)))) in
      let whole : take first_scene ws ≡ R ++ take n (drop zeros_position ws) =
      take-add 2 30 ws ∙ ap₂ (λ (x y : List ℕ). x ++ y) (take2 ws (omega (arith, u.long))) (take-add heights n (drop 2 ws) ∙ ap (λ (x : List ℕ). A ++ take n x) (drop-drop heights 2 ws)) in
      ap (λ (r : List ℕ). r ++ replicate (first_scene - length r) 0) (append-nil (header_row (store_of ws)) ∙ row) ∙ ap (λ (m : ℕ). R ++ replicate (first_scene - m) 0) long
      ∙ ap (λ (r : List ℕ). R ++ r) (sym (blank-zeros ws zeros_position n (omega (arith, u.long)) u.header-zeros))
      ∙ sym whole

  scenes-back : padded (scene_words * most_scenes) (store_of ws).scenes ≡ take (scene_words * most_scenes) (drop first_scene ws)
  unfolding store_of blank all_in
  scenes-back = padded-groups ws first_scene scene_words most_scenes (scene_words * most_scenes) (omega arith) (omega (arith, u.long)) tt

  pub store-fine : Fine (capacity_of ws) (scenes_held ws) (store_of ws).scenes (store_of ws).kept
  store-fine = header-fine ws (undamaged-header u)

  -- each count is true
  count-back : (j q : ℕ) → j < heights → q < kept_count ws j → count_of ws j q ≡ solid_of (kept_of ws) j (cell_at (kept_of ws) j q)
  count-back j q h = counts-below ws (all-T heights (list_usable (kept_of ws)) u.usable) j h (λ i l. u.counts i (omega arith)) q

  words_long : length (words_of (store_of ws)) ≡ used (capacity_of ws)
  unfolding store_of
  words_long = words_of-length (capacity_of ws) (scenes_held ws) (store_of ws).scenes (store_of ws).kept store-fine

  module _ (words : (i : ℕ) → get_or ws i 0 < 2 ^ 32) where
    abbrev K : List (List Cell)
    K = kept_of ws

    abbrev C : ℕ
    C = capacity_of ws

    -- a cell's row is what stands at its place
    row_back : (j q : ℕ) → j < heights → q < kept_count ws j → row_of (kept_of ws) j (cell_at (kept_of ws) j q) ≡ take (stride j) (drop (cell_position (capacity_of ws) j q) ws)
    unfolding count_of
    row_back zero q h hq = kept-cell ws 0 q h hq
    row_back (suc j) q h hq =
        let a : ℕ = cell_position C (suc j) q in
        let b : ℕ = count_position C (suc j) q in
        let l : List ℕ = drop b ws in
        let low : get_or l 1 0 < 2 ^ 32 = rw (get_or-drop b ws 1 0) (words (b + 1)) in
        let long : 2 ≤ length l = rw (length-drop b ws) (omega (arith, u.long, list-in C (suc j) h, mul-le-mul_left (stride (suc j)) (u.few (suc j) h), mul-le-mul_left (stride (suc j)) hq)) in
        ap₂ (λ (c : Cell) (n : ℕ). c ++ two_words n) (kept-cell ws (suc j) q h hq) (sym (count-back (suc j) q h hq))
        ∙ ap (λ (r : List ℕ). take 8 (drop a ws) ++ r) (pair-words (get_or l 0 0) (get_or l 1 0) low ∙ sym (take2 l long) ∙ ap (take 2) (sym (drop-drop 8 a ws)))
        ∙ sym (take-add 8 2 (drop a ws))

    rows_back : (j : ℕ) → j < heights → map (row_of (kept_of ws) j) (kept_in ws j) ≡ groups (stride j) (stride j) (kept_count ws j) (drop (list_position (capacity_of ws) j) ws)
    rows_back j h =
        let w : ℕ = stride j in
        let n : ℕ = kept_count ws j in
        let p : ℕ = list_position C j in
        let long : length (map (row_of K j) (kept_in ws j)) ≡ n = length-map (kept_in ws j) (row_of K j) ∙ kept_in-length ws j in
        ext_get_or [] (map (row_of K j) (kept_in ws j)) (groups w w n (drop p ws)) (long ∙ sym (groups-length w w n (drop p ws)))
        (λ q l.
        let hq : q < n = omega (arith, long) in
        map_at (row_of K j) (kept_in ws j) q [] [] (rw (kept_in-length ws j) hq) ∙ ap (λ (cs : List Cell). row_of K j (get_or cs q [])) (sym (kept-list ws j h))
        ∙ row_back j q h hq ∙ sym (groups-at w w n q (drop p ws) hq ∙ ap (take w) (drop-drop (w * q) p ws)))

    list_back : (j : ℕ) → j < heights
        → padded (stride j * capacity_of ws) (map (row_of (kept_of ws) j) (kept_in ws j)) ≡ take (stride j * capacity_of ws) (drop (list_position (capacity_of ws) j) ws)
    list_back j h =
        let n : ℕ = kept_count ws j in
        ap (padded (stride j * C)) (rows_back j h)
        ∙ padded-groups ws (list_position C j) (stride j) n (stride j * C) (words_fit j n C (u.few j h)) (omega (arith, u.long, list-in C j h))
        (subst T (list-blank-at ws C j n) (u.list-zeros j h))

    -- each region's words stand where it starts
    region-back : (i : ℕ) → i < length (regions (store_of ws))
        → region_words (region_at (regions (store_of ws)) i) ≡ take (region_at (regions (store_of ws)) i).size (drop (0 + region_place (regions (store_of ws)) i) ws)
    unfolding region_place store_of
    region-back zero h = header-back
    region-back (suc zero) h = scenes-back
    region-back (suc (suc k)) h =
        let hk : k < heights = omega (arith, lists-many K C 0 K, kept-tall ws) in
        let there : region_at (list_regions K C 0 K) k ≡ list_of K C k (kept_in ws k) =
        list-region K C 0 K k (omega (arith, kept-tall ws)) ∙ ap₂ (λ (i : ℕ) (cs : List Cell). list_of K C i cs) (zero-add k) (kept-list ws k hk) in
        let start : 0 + (first_scene + (scene_words * most_scenes + region_place (list_regions K C 0 K) k)) ≡ list_position C k =
        omega (arith, lists-place K C 0 K k (omega (arith, kept-tall ws)) ∙ ap (list_position C) (zero-add k)) in
        rw (there, start) (list_back k hk)

    -- and the chains' behind them
    regions-front : in_row (regions (store_of ws)) ≡ take (first_head (capacity_of ws)) ws
    unfolding store_of counted_by
    regions-front =
        let s : Store = store_of ws in
        regions-back ws 0 (regions s) region-back
        ∙ ap (λ (n : ℕ). take n ws) (sym (regions-length (store-fit s.capacity s.held s.scenes s.kept store-fine)) ∙ length-by s.kept s.capacity s.held s.scenes s.kept store-fine)

    pub words-front : words_of (store_of ws) ≡ take (used (capacity_of ws)) ws
    unfolding words_of store_of
    words-front =
        let n : ℕ = (chains + C) * heights in
        let all : first_head C + n ≡ used C = omega arith in
        ap₂ (λ (a b : List ℕ). a ++ b) regions-front (sym (chains-are ws u.long u.chained)) ∙ sym (take-add (first_head C) n ws) ∙ ap (λ (m : ℕ). take m ws) all

    -- the words are those of the store that they hold, and the rest of the slice
    pub words_of-store_of : words_of (store_of ws) ++ drop (used (capacity_of ws)) ws ≡ ws
    words_of-store_of = ap (λ (x : List ℕ). x ++ drop (used (capacity_of ws)) ws) words-front ∙ take-append-drop (used (capacity_of ws)) ws
