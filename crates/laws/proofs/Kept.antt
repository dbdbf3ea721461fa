-- Where a kept cell's and a scene's words lie: cell q of list k is so many words from its place on, and a list has as many cells as its count
-- says. By the groups that the words are cut into. Assumes nothing.
use mathlib.Core.Path.{◌≡◌, refl, sym, ap, ◌∙◌}
use mathlib.Core.List.{List, []}
use Prim.Native.Nat.{ℕ, zero, suc, ◌+◌, ◌*◌, ◌<◌, ◌≤◌}
use native.Mathlib.Nat.{le_of_suc-le-suc, mul-zero, zero-add}
use native.Mathlib.Omega.{arith}
use lib.ListN.{length, take, drop, get_or}
use lib.Seq.{drop-drop, get_or-take, get_or-drop}
use Rattle.paper.specs.Store.{Cell, most_scenes, heights, capacity_of, kept_count, first_scene, scene_words, scene_position, cell_length, stride, list_position, cell_position, groups, kept_in, kept_of, store_of, cells_at, cell_at}
use Rattle.laws.proofs.Lists.{get_or-tabulate, length-tabulate}

pub groups-length : (s w n : ℕ) (l : List ℕ) → length (groups s w n l) ≡ n
unfolding groups
groups-length s w zero l = refl
groups-length s w (suc n) l = ap suc (groups-length s w n (drop s l))

pub groups-at : (s w n q : ℕ) (l : List ℕ) → q < n → get_or (groups s w n l) q [] ≡ take w (drop (s * q) l)
unfolding groups
groups-at s w zero q l h = absurd (omega arith)
groups-at s w (suc n) zero l h = ap (λ (i : ℕ). take w (drop i l)) (sym (mul-zero s))
groups-at s w (suc n) (suc q) l h =
    let e : s + s * q ≡ s * suc q = omega arith in
    groups-at s w n q (drop s l) (le_of_suc-le-suc h) ∙ ap (take w) (drop-drop (s * q) s l ∙ ap (λ (i : ℕ). drop i l) e)

-- a cell's words are the first of those that a store has for it
pub cell-fits : (k : ℕ) → cell_length k ≤ stride k
cell-fits zero = omega arith
cell-fits (suc k) = omega arith

pub kept-list : (ws : List ℕ) (k : ℕ) → k < heights → cells_at (kept_of ws) k ≡ kept_in ws k
unfolding kept_of
kept-list ws k h = get_or-tabulate heights 0 k (kept_in ws) [] h ∙ ap (kept_in ws) (zero-add k)

pub kept_in-length : (ws : List ℕ) (k : ℕ) → length (kept_in ws k) ≡ kept_count ws k
unfolding kept_in
kept_in-length ws k = groups-length (stride k) (cell_length k) (kept_count ws k) (drop (list_position (capacity_of ws) k) ws)

pub kept-length : (ws : List ℕ) (k : ℕ) → k < heights → length (cells_at (kept_of ws) k) ≡ kept_count ws k
kept-length ws k h = ap length (kept-list ws k h) ∙ kept_in-length ws k

-- a list for each height
pub kept-tall : (ws : List ℕ) → length (kept_of ws) ≡ heights
unfolding kept_of
kept-tall ws = length-tabulate heights 0 (kept_in ws)

-- a place for each scene that can be held
pub places-length : (ws : List ℕ) → length (store_of ws).scenes ≡ most_scenes
unfolding store_of
places-length ws = groups-length scene_words scene_words most_scenes (drop first_scene ws)

pub kept-cell : (ws : List ℕ) (k q : ℕ) → k < heights → q < kept_count ws k → cell_at (kept_of ws) k q ≡ take (cell_length k) (drop (cell_position (capacity_of ws) k q) ws)
unfolding kept_in
kept-cell ws k q h l =
    ap (λ (cs : List Cell). get_or cs q []) (kept-list ws k h)
    ∙ groups-at (stride k) (cell_length k) (kept_count ws k) q (drop (list_position (capacity_of ws) k) ws) l
    ∙ ap (take (cell_length k)) (drop-drop (stride k * q) (list_position (capacity_of ws) k) ws)

-- word i of place n of the scenes
pub scene-word : (ws : List ℕ) (n i : ℕ) → n < most_scenes → i < scene_words → get_or (get_or (store_of ws).scenes n []) i 0 ≡ get_or ws (scene_position n + i) 0
unfolding store_of
scene-word ws n i l h =
    let from : List ℕ = drop first_scene ws in
    let sum : first_scene + (scene_words * n + i) ≡ scene_position n + i = omega arith in
    ap (λ (c : Cell). get_or c i 0) (groups-at scene_words scene_words most_scenes n from l) ∙ get_or-take scene_words (drop (scene_words * n) from) i 0 h
    ∙ get_or-drop (scene_words * n) from i 0
    ∙ get_or-drop first_scene ws (scene_words * n + i) 0 ∙ ap (λ (j : ℕ). get_or ws j 0) sum
