-- The words of a store: how many they are, that they give the store and the solid counts back, and that a cell or a scene more is its count and its row
-- stored at their places, the counts of the other cells staying; the chains' words follow. By the laws of regions, and induction on the lists. Assumes
-- nothing.
use mathlib.Core.Path.{◌≡◌, refl, sym, ◌∙◌, subst, ap, ap₂}
use mathlib.Core.Bool.{true}
use mathlib.Core.List.{List, [], ◌∷◌, ◌++◌, map, append_assoc}
use Prim.Native.Nat.{ℕ, zero, suc, ◌+◌, ◌-◌, ◌*◌, ◌^◌, ◌<◌, ◌≤◌}
use native.Mathlib.Nat.{zero-add, mul_comm, mul-le-mul_left}
use native.Mathlib.Omega.{arith}
use lib.ListN.{length, take, drop, get_or, set, length-map, length-set, length-append}
use lib.Seq.{sets, ext_get_or, drop-drop, get_or-take, get_or-drop, get_or-append-add, drop_at}
use Rattle.paper.specs.Store.{Cell, Store, cells_at, cell_at, two_words, pair_no, leaf_no, most_scenes, heights, used, capacity_of, scenes_held, kept_count, zeros_position, first_scene, scene_words, scene_position, cell_length, stride, first_list, list_position, cell_position, count_position, first_head}
use Rattle.paper.specs.Store.{groups, kept_in, kept_of, store_of, leaf_solid, solid_of, count_of, padded, Region, region, region_words, row_of, list_regions, header_row, regions, chain_words, words_of, blank}
use Rattle.laws.proofs.Put.{put, stored-before}
use Rattle.laws.proofs.Padded.{Sized, snil, scons, sized-at, padded-length, padded-snoc, sized_set, padded-set, row-set, row_word, groups-padded, take-sized, padded-row, padded-blank}
use Rattle.laws.proofs.Regions.{in_row, region_at, Fit, fcons, region_place, regions-length, region-from, region-set}
use Rattle.laws.proofs.Rows.{row-length, rows-sized, rows-cells, Lists, list-end, words_fit, lists-sized, lists-few, lists-snoc, lists-fit, lists-place, lists-many, list_of, list-region, list_set, lists-same}
use Rattle.laws.proofs.ChainWords.{chains-long}
use Rattle.laws.proofs.Lists.{length-snoc, map_at, map-append}
use Rattle.laws.proofs.Kept.{cell-fits, kept-list, kept-tall}
use Rattle.laws.proofs.Invariant.{OkCell, OkCells}
use Rattle.laws.proofs.Growing.{Extends, ext-cell, ext-solid}
use Rattle.laws.proofs.Keeping.{K⁺, keep-extends, keep-cell, keep-each}

-- ---- the whole store

-- its capacity, how many scenes are held, the places of scenes, the lists
abbrev pub store_with : ℕ → ℕ → List Cell → List (List Cell) → Store
store_with C N S Ks = record { capacity = C; held = N; scenes = S; kept = Ks }

-- its words, and l behind them
abbrev pub stored : ℕ → ℕ → List Cell → List (List Cell) → List ℕ → List ℕ
stored C N S Ks l = words_of (store_with C N S Ks) ++ l

-- its words up to the chains, but with the counts that lists G give
unfoldable pub counted_by : List (List Cell) → ℕ → ℕ → List Cell → List (List Cell) → List ℕ
counted_by G C N S Ks = in_row (region first_scene (header_row (store_with C N S Ks) ∷ []) ∷ region (scene_words * most_scenes) S ∷ list_regions G C 0 Ks)

pub counted-own : (C N : ℕ) (S : List Cell) (Ks : List (List Cell)) → words_of (store_with C N S Ks) ≡ counted_by Ks C N S Ks ++ chain_words Ks C
unfolding words_of counted_by
counted-own C N S Ks = refl

pub counted_same : (G G' : List (List Cell)) (C N : ℕ) (S : List Cell) (Ks : List (List Cell))
    → ((k q : ℕ) → q < length (cells_at Ks k) → solid_of G k (cell_at Ks k q) ≡ solid_of G' k (cell_at Ks k q)) → counted_by G C N S Ks ≡ counted_by G' C N S Ks
unfolding counted_by
counted_same G G' C N S Ks e =
    ap (λ (rs : List Region). in_row (region first_scene (header_row (store_with C N S Ks) ∷ []) ∷ region (scene_words * most_scenes) S ∷ rs))
    (lists-same G G' C 0 Ks (λ m q h. subst (λ (i : ℕ). solid_of G i (cell_at Ks m q) ≡ solid_of G' i (cell_at Ks m q)) (sym (zero-add m)) (e m q h)))

-- lists that grow give the same counts of the cells kept before
pub counted-grown : (C N : ℕ) (S : List Cell) {Ks G : List (List Cell)} → Extends Ks G → OkCells Ks → counted_by G C N S Ks ≡ counted_by Ks C N S Ks
counted-grown C N S {Ks} {G} x ok = counted_same G Ks C N S Ks (λ k q h. ext-solid x ok k (cell_at Ks k q) (ok k q h))

-- and l behind them, the chains first
pub stored-own : (C N : ℕ) (S : List Cell) (Ks : List (List Cell)) (l : List ℕ) → stored C N S Ks l ≡ counted_by Ks C N S Ks ++ (chain_words Ks C ++ l)
stored-own C N S Ks l = ap (λ (w : List ℕ). w ++ l) (counted-own C N S Ks) ∙ append_assoc (counted_by Ks C N S Ks) (chain_words Ks C) l

-- a store that its words can hold
pub record Fine (C N : ℕ) (S : List Cell) (Ks : List (List Cell)) : Type 0 where
  pub lists : length Ks ≡ heights
  pub of-scenes : Sized scene_words S
  pub all-scenes : length S ≡ most_scenes
  pub few-scenes : N ≤ most_scenes
  pub of-cells : Lists C 0 Ks

two-add : (n : ℕ) → 2 + n ≡ suc (suc n)
two-add n = omega arith

map-set : (g : List Cell → ℕ) (Ls : List (List Cell)) (k : ℕ) (X : List Cell) → map g (set Ls k X) ≡ set (map g Ls) k (g X)
map-set g [] k X = refl
map-set g (L ∷ Ls) zero X = refl
map-set g (L ∷ Ls) (suc k) X = ap {B = List ℕ} (λ r. g L ∷ r) (map-set g Ls k X)

-- a number is that of its two words
pair-back : (n : ℕ) → pair_no (two_words n) ≡ n
pair-back n = omega arith

-- ---- with the counts that lists G give

module _ (G : List (List Cell)) (C N : ℕ) (S : List Cell) (Ks : List (List Cell)) (f : Fine C N S Ks) where
  -- the header's row, and the regions: header, scenes, lists
  abbrev row : List ℕ
  row = header_row (store_with C N S Ks)

  abbrev H : Region
  H = region first_scene (row ∷ [])

  abbrev P : Region
  P = region (scene_words * most_scenes) S

  abbrev L : List Region
  L = list_regions G C 0 Ks

  header-row-length : length row ≡ zeros_position
  header-row-length = simp length-map (omega (arith, f.lists))

  header-length : (x : List ℕ) → length x ≡ zeros_position → length (padded first_scene (x ∷ [])) ≡ first_scene
  header-length x e = padded-length first_scene (scons e snil) (omega arith)

  scenes-length : length (padded (scene_words * most_scenes) S) ≡ scene_words * most_scenes
  scenes-length = padded-length (scene_words * most_scenes) f.of-scenes (omega (arith, f.all-scenes))

  -- every region has its room, under any header
  fit-under : (x : List ℕ) → length x ≡ zeros_position → Fit (region first_scene (x ∷ []) ∷ P ∷ L)
  fit-under x e = fcons (header-length x e) (fcons scenes-length (lists-fit G f.of-cells))

  fit-by : Fit (H ∷ P ∷ L)
  fit-by = fit-under row header-row-length

  -- list k is region k + 2
  start-by : (k : ℕ) → k ≤ heights → region_place (H ∷ P ∷ L) (suc (suc k)) ≡ list_position C k
  unfolding region_place
  start-by k h =
      let p : first_list + region_place L k ≡ list_position C k = lists-place G C 0 Ks k (omega (arith, f.lists)) ∙ ap (list_position C) (zero-add k) in
      omega (arith, p)

  -- up to the chains
  pub length-by : length (counted_by G C N S Ks) ≡ first_head C
  unfolding counted_by
  length-by =
      regions-length fit-by ∙ ap (λ (n : ℕ). region_place (H ∷ P ∷ L) (suc (suc n))) (lists-many G C 0 Ks ∙ f.lists) ∙ start-by heights (omega arith)

  -- a word of the header set
  header-by : (i v : ℕ) → i < zeros_position → in_row (region first_scene (set row i v ∷ []) ∷ P ∷ L) ≡ set (counted_by G C N S Ks) i v
  unfolding counted_by region_place
  header-by i v h =
      region-set fit-by 0 (region first_scene (set row i v ∷ [])) i (v ∷ []) (omega arith) (row-set first_scene row i v (omega (arith, header-row-length))) (omega arith)
      ∙ ap (λ (j : ℕ). set (in_row (H ∷ P ∷ L)) j v) (zero-add i)

  -- list k set to X, by words c from its word j on, and its count
  pub list-by : (k : ℕ) (X : List Cell) (j : ℕ) (c : List ℕ) → k < heights
      → padded (stride k * C) (map (row_of G k) X) ≡ sets (padded (stride k * C) (map (row_of G k) (get_or Ks k []))) j c → j + length c ≤ stride k * C
      → counted_by G C N S (set Ks k X) ≡ sets (set (counted_by G C N S Ks) (2 + k) (length X)) (list_position C k + j) c
  unfolding counted_by region_place
  list-by k X j c h e fit =
      let row' : List ℕ = set row (2 + k) (length X) in
      let hk : k < length Ks = omega (arith, f.lists) in
      let there : region_at L k ≡ list_of G C k (get_or Ks k []) = list-region G C 0 Ks k hk ∙ ap (λ (i : ℕ). list_of G C i (get_or Ks k [])) (zero-add k) in
      let counts : C ∷ N ∷ map (length {A = Cell}) (set Ks k X) ≡ row' = rw (two-add k) (ap (λ (r : List ℕ). C ∷ N ∷ r) (map-set length Ks k X)) in
      let lists : list_regions G C 0 (set Ks k X) ≡ set L k (list_of G C k X) = list_set G C 0 Ks k X ∙ ap (λ (i : ℕ). set L k (list_of G C i X)) (zero-add k) in
      ap₂ (λ (x : List ℕ) (rs : List Region). in_row (region first_scene (x ∷ []) ∷ P ∷ rs)) counts lists
      ∙ region-set (fit-under row' (length-set row (2 + k) (length X) ∙ header-row-length)) (suc (suc k)) (list_of G C k X) j c
      (omega (arith, lists-many G C 0 Ks)) (rw there e) (rw there fit)
      ∙ ap₂ (λ (x : List ℕ) (i : ℕ). sets x (i + j) c) (header-by (2 + k) (length X) (omega arith)) (start-by k (omega arith))

  -- a scene more, at place i: the count of scenes, and its two words
  scene-by : (i : ℕ) (c : Cell) → length c ≡ scene_words → i < most_scenes
      → counted_by G C (suc N) (set S i c) Ks ≡ sets (set (counted_by G C N S Ks) 1 (suc N)) (scene_position i) c
  unfolding counted_by region_place
  scene-by i c e l =
      let row' : List ℕ = set row 1 (suc N) in
      let at : first_scene + 0 + i * scene_words ≡ scene_position i = omega arith in
      region-set (fit-under row' (length-set row 1 (suc N) ∙ header-row-length)) 1 (region (scene_words * most_scenes) (set S i c)) (i * scene_words) c (omega arith)
      (padded-set scene_words (scene_words * most_scenes) S i c f.of-scenes e (omega (arith, f.all-scenes))) (omega arith)
      ∙ ap₂ (λ (x : List ℕ) (j : ℕ). sets x j c) (header-by 1 (suc N) (omega arith)) at

  -- read again, l being the words that follow: what stands at each place
  module _ (l : List ℕ) where
    abbrev ws : List ℕ
    ws = counted_by G C N S Ks ++ l

    header-from : ws ≡ padded first_scene (row ∷ []) ++ (in_row (P ∷ L) ++ l)
    unfolding counted_by region_place
    header-from = region-from l fit-by 0 (omega arith)

    zeros_by : blank (counted_by G C N S Ks ++ l) zeros_position (first_scene - zeros_position) ≡ true
    zeros_by = padded-blank ws 0 first_scene (in_row (P ∷ L) ++ l) (scons header-row-length snil) header-from

    scenes-from : drop first_scene (counted_by G C N S Ks ++ l) ≡ padded (scene_words * most_scenes) S ++ (in_row L ++ l)
    unfolding counted_by region_place
    scenes-from = region-from l fit-by 1 (omega arith)

    rows-by : (k : ℕ) → k < heights
        → drop (list_position C k) (counted_by G C N S Ks ++ l) ≡ padded (stride k * C) (map (row_of G k) (get_or Ks k [])) ++ (in_row (drop (suc k) (list_regions G C 0 Ks)) ++ l)
    unfolding counted_by
    rows-by k h =
        let hk : k < length Ks = omega (arith, f.lists) in
        ap (λ (n : ℕ). drop n (in_row (H ∷ P ∷ L) ++ l)) (sym (start-by k (omega arith))) ∙ region-from l fit-by (suc (suc k)) (omega (arith, lists-many G C 0 Ks))
        ∙ ap (λ (r : Region). region_words r ++ (in_row (drop (suc k) L) ++ l)) (list-region G C 0 Ks k hk ∙ ap (λ (i : ℕ). list_of G C i (get_or Ks k [])) (zero-add k))

    -- what the words give back
    row_read : (i : ℕ) → i < zeros_position → get_or ws i 0 ≡ get_or row i 0
    row_read i h = ap (λ (x : List ℕ). get_or x i 0) header-from ∙ row_word first_scene row (in_row (P ∷ L) ++ l) i (omega (arith, header-row-length))

    pub capacity-by : capacity_of (counted_by G C N S Ks ++ l) ≡ C
    capacity-by = row_read 0 (omega arith)

    scenes-by : scenes_held (counted_by G C N S Ks ++ l) ≡ N
    scenes-by = row_read 1 (omega arith)

    pub count_by : (k : ℕ) → k < heights → kept_count (counted_by G C N S Ks ++ l) k ≡ length (get_or Ks k [])
    count_by k h =
        row_read (2 + k) (omega arith) ∙ ap (λ (i : ℕ). get_or row i 0) (two-add k) ∙ map_at length Ks k [] 0 (omega (arith, f.lists))

-- ---- with its own counts

module _ (C N : ℕ) (S : List Cell) (Ks : List (List Cell)) (f : Fine C N S Ks) where
  pub store-fit : Fit (regions (store_with C N S Ks))
  store-fit = fit-by Ks C N S Ks f

  -- list k is region k + 2
  pub list-start : (k : ℕ) → k ≤ heights → region_place (regions (store_with C N S Ks)) (suc (suc k)) ≡ list_position C k
  list-start = start-by Ks C N S Ks f

  -- 'uses the first'
  pub words_of-length : length (words_of (store_with C N S Ks)) ≡ used C
  words_of-length =
      ap length (counted-own C N S Ks) ∙ length-append (counted_by Ks C N S Ks) (chain_words Ks C) ∙ omega (arith, length-by Ks C N S Ks f, chains-long Ks C)

  -- the cells of list k
  pub cells-sized : (k : ℕ) → k < heights → Sized (cell_length k) (get_or Ks k [])
  cells-sized k h = subst (λ (n : ℕ). Sized (cell_length n) (get_or Ks k [])) (zero-add k) (lists-sized f.of-cells k (omega (arith, f.lists)))

  pub cells-few : (k : ℕ) → length (get_or Ks k []) ≤ C
  cells-few = lists-few f.of-cells

  -- a cell more in list k: its count, and its row behind those of the others, whose counts stay
  keep-rows : (k : ℕ) (c : Cell) → k < heights → OkCells Ks → OkCell Ks k c → length c ≡ cell_length k → length (get_or Ks k []) < C
      → counted_by (set Ks k (get_or Ks k [] ++ (c ∷ []))) C N S (set Ks k (get_or Ks k [] ++ (c ∷ [])))
      ≡ sets (set (counted_by Ks C N S Ks) (2 + k) (suc (length (get_or Ks k [])))) (cell_position C k (length (get_or Ks k []))) (row_of Ks k c)
  keep-rows k c h ok okc e l =
      let hk : k < length Ks = omega (arith, f.lists) in
      let K' : List (List Cell) = K⁺ Ks k hk c in
      let x : Extends Ks K' = keep-extends Ks k hk c in
      let cs : List Cell = get_or Ks k [] in
      let rows : List (List ℕ) = map (row_of Ks k) cs in
      let n : ℕ = length cs in
      let m : length rows ≡ n = length-map cs (row_of Ks k) in
      let row : List ℕ = row_of Ks k c in
      let fit : suc n * stride k ≤ stride k * C = words_fit k (suc n) C l in
      let at : list_position C k + length rows * stride k ≡ cell_position C k n = ap (λ (j : ℕ). list_position C k + j) (ap (λ (j : ℕ). j * stride k) m ∙ mul_comm n (stride k)) in
      let okeach : (j q : ℕ) → q < length (cells_at K' j) → OkCell Ks j (cell_at K' j q) =
      keep-each Ks k hk c (λ j q. OkCell Ks j (cell_at K' j q)) (λ j q hq. subst (OkCell Ks j) (sym (ext-cell x j q hq)) (ok j q hq)) (subst (OkCell Ks k) (sym (keep-cell Ks k hk c)) okc) in
      counted_same K' Ks C N S K' (λ j q hq. ext-solid x ok j (cell_at K' j q) (okeach j q hq))
      ∙ list-by Ks C N S Ks f k (cs ++ (c ∷ [])) (length rows * stride k) row h
      (ap (padded (stride k * C)) (map-append (row_of Ks k) cs (c ∷ []))
      ∙ padded-snoc (stride k) (stride k * C) rows row (rows-sized Ks k (cells-sized k h)) (row-length Ks k c e) (rw m fit))
      (rw m (omega (arith, row-length Ks k c e)))
      ∙ (λ i. sets (set (counted_by Ks C N S Ks) (2 + k) (length-snoc cs c i)) (at i) row)

  pub keep-fine : (k : ℕ) (c : Cell) → length c ≡ cell_length k → length (get_or Ks k []) < C → Fine C N S (set Ks k (get_or Ks k [] ++ (c ∷ [])))
  keep-fine k c e l = record {
    lists = length-set Ks k (get_or Ks k [] ++ (c ∷ [])) ∙ f.lists;
    of-scenes = f.of-scenes;
    all-scenes = f.all-scenes;
    few-scenes = f.few-scenes;
    of-cells = lists-snoc f.of-cells k c (e ∙ ap cell_length (sym (zero-add k))) l;
  }

  pub scene-fine : (i : ℕ) (c : Cell) → length c ≡ scene_words → N < most_scenes → Fine C (suc N) (set S i c) Ks
  scene-fine i c e l = record {
    lists = f.lists;
    of-scenes = sized_set i c f.of-scenes e;
    all-scenes = length-set S i c ∙ f.all-scenes;
    few-scenes = l;
    of-cells = f.of-cells;
  }

  -- the same with other words x behind, and its link
  pub keep-rows-before : (k : ℕ) (c : Cell) (x : List ℕ) → k < heights → OkCells Ks → OkCell Ks k c → length c ≡ cell_length k → length (get_or Ks k []) < C
      → counted_by (set Ks k (get_or Ks k [] ++ (c ∷ []))) C N S (set Ks k (get_or Ks k [] ++ (c ∷ []))) ++ x
      ≡ put (cell_position C k (length (get_or Ks k []))) (row_of Ks k c) (set (counted_by Ks C N S Ks ++ x) (2 + k) (suc (length (get_or Ks k []))))
  keep-rows-before k c x h ok okc e l =
      let n : ℕ = length (get_or Ks k []) in
      ap (λ (r : List ℕ). r ++ x) (keep-rows k c h ok okc e l)
      ∙ stored-before (counted_by Ks C N S Ks) x (row_of Ks k c) (cell_position C k n) (2 + k) (suc n)
      (omega (arith, length-by Ks C N S Ks f)) (omega (arith, length-by Ks C N S Ks f, list-end C k h, mul-le-mul_left (stride k) l, row-length Ks k c e))

  pub scene-words-before : (i : ℕ) (c : Cell) (x : List ℕ) → length c ≡ scene_words → i < most_scenes
      → words_of (store_with C (suc N) (set S i c) Ks) ++ x ≡ put (scene_position i) c (set (words_of (store_with C N S Ks) ++ x) 1 (suc N))
  scene-words-before i c x e l =
      stored-own C (suc N) (set S i c) Ks x ∙ ap (λ (r : List ℕ). r ++ (chain_words Ks C ++ x)) (scene-by Ks C N S Ks f i c e l)
      ∙ stored-before (counted_by Ks C N S Ks) (chain_words Ks C ++ x) c (scene_position i) 1 (suc N) (omega (arith, length-by Ks C N S Ks f)) (omega (arith, length-by Ks C N S Ks f))
      ∙ ap (λ (w : List ℕ). put (scene_position i) c (set w 1 (suc N))) (sym (stored-own C N S Ks x))

  -- ---- read again, l being the words that follow

  module _ (l : List ℕ) where
    abbrev words : List ℕ
    words = stored C N S Ks l

    -- the chains' words, and those that follow
    abbrev behind : List ℕ
    behind = chain_words Ks C ++ l

    own : words ≡ counted_by Ks C N S Ks ++ behind
    own = stored-own C N S Ks l

    -- the chains' words stand behind the lists
    pub chains-from : drop (first_head C) (words_of (store_with C N S Ks) ++ l) ≡ chain_words Ks C ++ l
    chains-from =
        ap (drop (first_head C)) own ∙ drop_at (counted_by Ks C N S Ks) behind (first_head C) (length-by Ks C N S Ks f)

    pub zeros-from : blank (words_of (store_with C N S Ks) ++ l) zeros_position (first_scene - zeros_position) ≡ true
    zeros-from = ap (λ (w : List ℕ). blank w zeros_position (first_scene - zeros_position)) own ∙ zeros_by Ks C N S Ks f behind

    pub cells-from : (k : ℕ) → k < heights
        → drop (list_position C k) (words_of (store_with C N S Ks) ++ l) ≡ padded (stride k * C) (map (row_of Ks k) (get_or Ks k [])) ++ (in_row (drop (suc k) (list_regions Ks C 0 Ks)) ++ (chain_words Ks C ++ l))
    cells-from k h = ap (drop (list_position C k)) own ∙ rows-by Ks C N S Ks f behind k h

    pub capacity-read : capacity_of (words_of (store_with C N S Ks) ++ l) ≡ C
    capacity-read = ap capacity_of own ∙ capacity-by Ks C N S Ks f behind

    pub scenes-read : scenes_held (words_of (store_with C N S Ks) ++ l) ≡ N
    scenes-read = ap scenes_held own ∙ scenes-by Ks C N S Ks f behind

    pub count-read : (k : ℕ) → k < heights → kept_count (words_of (store_with C N S Ks) ++ l) k ≡ length (get_or Ks k [])
    count-read k h = ap (λ (w : List ℕ). kept_count w k) own ∙ count_by Ks C N S Ks f behind k h

    list_read : (k : ℕ) → k < heights → kept_in words k ≡ get_or Ks k []
    unfolding kept_in
    list_read k h =
        let cs : List Cell = get_or Ks k [] in
        let rows : List (List ℕ) = map (row_of Ks k) cs in
        ap₂ (λ (n c : ℕ). groups (stride k) (cell_length k) n (drop (list_position c k) words)) (count-read k h ∙ sym (length-map cs (row_of Ks k))) capacity-read
        ∙ ap (groups (stride k) (cell_length k) (length rows)) (cells-from k h)
        ∙ groups-padded (cell_length k) (stride k * C) (in_row (drop (suc k) (list_regions Ks C 0 Ks)) ++ behind) (cell-fits k) (rows-sized Ks k (cells-sized k h))
        ∙ rows-cells Ks k (cells-sized k h)

    pub kept_read : kept_of (words_of (store_with C N S Ks) ++ l) ≡ Ks
    kept_read =
        ext_get_or [] (kept_of words) Ks (kept-tall words ∙ sym f.lists)
        (λ k h.
        let hk : k < heights = omega (arith, kept-tall words) in
        kept-list words k hk ∙ list_read k hk)

    places-read : groups scene_words scene_words most_scenes (drop first_scene words) ≡ S
    places-read =
        ap₂ (groups scene_words scene_words) (sym f.all-scenes) (ap (drop first_scene) own ∙ scenes-from Ks C N S Ks f behind)
        ∙ groups-padded scene_words (scene_words * most_scenes) (in_row (list_regions Ks C 0 Ks) ++ behind) (omega arith) f.of-scenes ∙ take-sized f.of-scenes

    -- the words give the store back, whatever follows them
    pub store_of-words_of : store_of (words_of (store_with C N S Ks) ++ l) ≡ store_with C N S Ks
    unfolding store_of
    store_of-words_of = λ i. store_with (capacity-read i) (scenes-read i) (places-read i) (kept_read i)

    -- and each cell's row, in it the count
    row_from : (k n : ℕ) → k < heights → n < length (cells_at Ks k) → take (stride k) (drop (cell_position C k n) words) ≡ row_of Ks k (cell_at Ks k n)
    row_from k n h hn =
        let cs : List Cell = cells_at Ks k in
        ap (take (stride k)) (sym (drop-drop (stride k * n) (list_position C k) words) ∙ ap (drop (stride k * n)) (cells-from k h))
        ∙ padded-row (stride k * C) (in_row (drop (suc k) (list_regions Ks C 0 Ks)) ++ behind) n (rows-sized Ks k (cells-sized k h)) (rw (length-map cs (row_of Ks k)) hn)
        ∙ map_at (row_of Ks k) cs n [] [] hn

    count_word : (k n i : ℕ) → suc k < heights → n < length (cells_at Ks (suc k)) → i < 2 → length (cell_at Ks (suc k) n) ≡ 8
        → get_or (drop (count_position C (suc k) n) words) i 0 ≡ get_or (two_words (solid_of Ks (suc k) (cell_at Ks (suc k) n))) i 0
    count_word k n i h hn hi e =
        let a : ℕ = cell_position C (suc k) n in
        let c : Cell = cell_at Ks (suc k) n in
        let s : List ℕ = two_words (solid_of Ks (suc k) c) in
        let at : count_position C (suc k) n + i ≡ a + (8 + i) = omega arith in
        get_or-drop (count_position C (suc k) n) words i 0 ∙ ap (λ (j : ℕ). get_or words j 0) at ∙ sym (get_or-drop a words (8 + i) 0)
        ∙ sym (get_or-take 10 (drop a words) (8 + i) 0 (omega arith)) ∙ ap (λ (r : List ℕ). get_or r (8 + i) 0) (row_from (suc k) n h hn)
        ∙ ap (λ (j : ℕ). get_or (c ++ s) (j + i) 0) (sym e) ∙ get_or-append-add c s i 0

    -- the count that is read is the number of the cell's solid voxels
    pub solid-read : (k n : ℕ) → k < heights → n < length (cells_at Ks k) → count_of (words_of (store_with C N S Ks) ++ l) k n ≡ solid_of Ks k (cell_at Ks k n)
    unfolding count_of solid_of
    solid-read zero n h hn = ap (λ (K : List (List Cell)). leaf_solid (leaf_no (cell_at K 0 n))) kept_read
    solid-read (suc k) n h hn =
        let c : Cell = cell_at Ks (suc k) n in
        let e : length c ≡ 8 = sized-at (cells-sized (suc k) h) n hn in
        ap (λ (D : ℕ). pair_no (drop (count_position D (suc k) n) words)) capacity-read
        ∙ ap₂ (λ (a b : ℕ). a * 2 ^ 32 + b) (count_word k n 0 h hn (omega arith) e) (count_word k n 1 h hn (omega arith) e)
        ∙ pair-back (solid_of Ks (suc k) c)
