-- Document 01, 'The store': the cells and scenes that a store holds, the words that hold them, and when a store is damaged; document 02, requests 1
-- and 10: the solid counts among its words, and the chains behind them, which follow from the cells. Definitions only.
-- Heights are counted from 2: list k has the cells of height k + 2, so list 0 has the leaves. A cell is its words: a leaf two, high first,
-- any other eight pointers; its count is no part of it.
use Rattle.std.specs.Prelude.{Bool, true, cond, not, ◌&&◌, List, [], ◌∷◌, ◌++◌, map, ℕ, zero, suc, ◌+◌, ◌-◌, ◌*◌, ◌/◌, ◌%◌, ◌^◌, eqb, leb, ltb, length, take, drop, get_or, replicate}
use Rattle.paper.specs.Numbers.{all_below, any_below, all_in, flatten, tabulate, sum, bit, same_list}
use Rattle.paper.specs.Rooms.{depth_ok}

abbrev pub Cell : Type 0
Cell = List ℕ

-- what a store holds: its capacity, how many scenes are held, the places of scenes (depth and root pointer; a free one two zeros), and the
-- cells kept at each height
pub record Store : Type 0 where
  pub capacity : ℕ
  pub held : ℕ
  pub scenes : List Cell
  pub kept : List (List Cell)

abbrev pub cells_at : List (List Cell) → ℕ → List Cell
cells_at K k = get_or K k []

abbrev pub cell_at : List (List Cell) → ℕ → ℕ → Cell
cell_at K k q = get_or (cells_at K k) q []

-- a number's two words, high first, and the number of a list's first two words
abbrev pub two_words : ℕ → List ℕ
two_words n = n / 2 ^ 32 ∷ n % 2 ^ 32 ∷ []

abbrev pub pair_no : List ℕ → ℕ
pair_no l = get_or l 0 0 * 2 ^ 32 + get_or l 1 0

-- the number that a leaf's two words are
abbrev pub leaf_no : Cell → ℕ
leaf_no c = pair_no c

-- ---- pointers ('A pointer is 0'): 0 names nothing; any other has a mirror, its tag, above 29 bits that hold the cell's number, counted from 1

-- the unit of the three mirror bits: 29 bits lie below them
abbrev pub tag_unit : ℕ
tag_unit = 2 ^ 29

abbrev pub tag_of : ℕ → ℕ
tag_of p = p / tag_unit % 8

abbrev pub low_of : ℕ → ℕ
low_of p = p % tag_unit

abbrev pub cell_no : ℕ → ℕ
cell_no p = low_of p - 1

abbrev pub pointer : ℕ → ℕ → ℕ
pointer tag n = tag * tag_unit + (n + 1)

-- a pointer that claims to name a cell and does not ('Bad:'), n cells being kept at the height pointed to. A tag with no number is bad.
abbrev pub bad_pointer : ℕ → ℕ → Bool
bad_pointer n p = not (eqb p 0) && not (leb 1 (low_of p) && leb (low_of p) n)

-- some pointer of a cell is bad ('among the eight'), n cells being kept one height down
abbrev pub any_bad : ℕ → Cell → Bool
any_bad n c = any_below 8 (λ i. bad_pointer n (get_or c i 0))

-- ---- the words, by named places

-- the greatest capacity, the most scenes, and at how many heights cells are kept
abbrev pub most_capacity : ℕ
most_capacity = 65536

abbrev pub most_scenes : ℕ
most_scenes = 64

abbrev pub heights : ℕ
heights = 15

-- where the header ends and the scenes start
abbrev pub first_scene : ℕ
first_scene = 32

-- the header ('Word 0'): the capacity, the number of scenes held, how many cells each height keeps, and from `zeros_position` on nothing
abbrev pub capacity_of : List ℕ → ℕ
capacity_of ws = get_or ws 0 0

abbrev pub scenes_held : List ℕ → ℕ
scenes_held ws = get_or ws 1 0

-- is a scene held under number n
abbrev pub is_held : List ℕ → ℕ → Bool
is_held ws n = ltb n (scenes_held ws)

abbrev pub kept_count : List ℕ → ℕ → ℕ
kept_count ws k = get_or ws (2 + k) 0

abbrev pub zeros_position : ℕ
zeros_position = 17

-- how many words a scene has, and where those of scene n are ('64 scenes of two'), its depth first, then its root pointer
abbrev pub scene_words : ℕ
scene_words = 2

abbrev pub scene_position : ℕ → ℕ
scene_position n = first_scene + scene_words * n

-- the words of a cell of list k: a leaf two, any other eight pointers
abbrev pub cell_length : ℕ → ℕ
cell_length zero = 2
cell_length (suc k) = 8

-- the words that a store has for a cell of list k: a leaf's two; any other's pointers, then two for its solid count (document 02, request 1, 'two more
-- words')
abbrev pub stride : ℕ → ℕ
stride zero = 2
stride (suc k) = 10

-- the lists ('Then C leaves'), lowest height first, each with room for C cells: where list k starts, where its cell n does. All lists above the
-- leaves have one stride.
abbrev pub first_list : ℕ
first_list = scene_position most_scenes

abbrev pub list_position : ℕ → ℕ → ℕ
list_position C zero = first_list
list_position C (suc k) = first_list + stride 0 * C + stride 1 * C * k

abbrev pub cell_position : ℕ → ℕ → ℕ → ℕ
cell_position C k n = list_position C k + stride k * n

-- where its count is, k not 0: after the cell's own words
abbrev pub count_position : ℕ → ℕ → ℕ → ℕ
count_position C k n = cell_position C k n + cell_length k

-- after the lists the chains (document 02, request 10, 'After the old words'): where the head of chain j of list k is, all heads of a height together; then
-- where the next word of cell n of list k is, C for each height
abbrev pub chains : ℕ
chains = 256

abbrev pub first_head : ℕ → ℕ
first_head C = list_position C heights

abbrev pub head_position : ℕ → ℕ → ℕ → ℕ
head_position C k j = first_head C + chains * k + j

abbrev pub first_next : ℕ → ℕ
first_next C = head_position C heights 0

abbrev pub next_position : ℕ → ℕ → ℕ → ℕ
next_position C k n = first_next C + C * k + n

-- how many words a store of capacity C has ('uses the first'): up to where the next words of a list after the last would start
abbrev pub used : ℕ → ℕ
used C = next_position C heights 0

-- ---- from words to cells

-- n groups, one every s words: of each the first w
unfoldable pub groups : ℕ → ℕ → ℕ → List ℕ → List Cell
groups s w zero l = []
groups s w (suc n) l = take w l ∷ groups s w n (drop s l)

unfoldable pub kept_in : List ℕ → ℕ → List Cell
kept_in ws k = groups (stride k) (cell_length k) (kept_count ws k) (drop (list_position (capacity_of ws) k) ws)

unfoldable pub kept_of : List ℕ → List (List Cell)
kept_of ws = tabulate 0 heights (kept_in ws)

unfoldable pub store_of : List ℕ → Store
store_of ws = record {
  capacity = capacity_of ws;
  held = scenes_held ws;
  scenes = groups scene_words scene_words most_scenes (drop first_scene ws);
  kept = kept_of ws;
}

-- ---- solid counts (document 02, request 1, 'its solid count')

-- how many solid voxels a leaf has: its bits that are 1
abbrev pub leaf_solid : ℕ → ℕ
leaf_solid n = sum 64 (bit n)

-- what f gives for the cells that a cell's pointers name, summed; a cell named twice counts twice
unfoldable pub over_children : (ℕ → ℕ) → Cell → ℕ
over_children f c = sum 8 (λ i. let r = f (cell_no (get_or c i 0)) in cond (eqb (get_or c i 0) 0) 0 r)

-- how many solid voxels a cell of list k has, by its pointers, none of them bad: a leaf its own, any other what its children have
unfoldable pub solid_of : List (List Cell) → ℕ → Cell → ℕ
solid_of K zero c = leaf_solid (leaf_no c)
solid_of K (suc k) c = over_children (λ n. solid_of K k (cell_at K k n)) c

-- what the words say of cell n of list k: a leaf has no count, its bits say it; any other's count is two words, high first
unfoldable pub count_of : List ℕ → ℕ → ℕ → ℕ
count_of ws zero n = leaf_solid (leaf_no (cell_at (kept_of ws) 0 n))
count_of ws (suc k) n = pair_no (drop (count_position (capacity_of ws) (suc k) n) ws)

-- ---- chains (document 02, request 10, 'by a key')

-- an inner cell's key ('all sums kept modulo'): the cell numbers plus 1, each times `key_factor`; an absent pointer adds nothing, and no tag counts
abbrev pub key_factor : ℕ
key_factor = 2654435761

unfoldable pub key_of : Cell → ℕ
key_of c = sum 8 (λ i. low_of (get_or c i 0) * key_factor) % 2 ^ 32

-- the chain of a cell of list k ('its top byte', 'its number of ones')
abbrev pub chain_of : ℕ → Cell → ℕ
chain_of zero c = leaf_solid (leaf_no c)
chain_of (suc k) c = key_of c / 2 ^ 24

-- the first of some cells of list k, counted from n, that is in chain j: its number plus 1, or 0
unfoldable pub first_in : ℕ → ℕ → ℕ → List Cell → ℕ
first_in k j n [] = 0
first_in k j n (c ∷ cs) = let r = first_in k j (suc n) cs in cond (eqb (chain_of k c) j) (suc n) r

-- what a chain's head is, and what follows cell n in its chain ('numbers rising'): a cell number plus 1, or 0; after a number that isn't kept, 0
abbrev pub head_of : List (List Cell) → ℕ → ℕ → ℕ
head_of K k j = first_in k j 0 (cells_at K k)

abbrev pub next_of : List (List Cell) → ℕ → ℕ → ℕ
next_of K k n = first_in k (chain_of k (cell_at K k n)) (suc n) (drop (suc n) (cells_at K k))

-- a scene's two words
abbrev pub scene_depth : List ℕ → ℕ → ℕ
scene_depth ws n = get_or ws (scene_position n) 0

abbrev pub scene_root : List ℕ → ℕ → ℕ
scene_root ws n = get_or ws (scene_position n + 1) 0

-- ---- from cells to words

-- these rows, and zeros up to n words ('Unused words')
unfoldable pub padded : ℕ → List (List ℕ) → List ℕ
padded n rows = flatten rows ++ replicate (n - length (flatten rows)) 0

-- a part of a store's words: how many they are, and the rows that stand in it
pub record Region : Type 0 where
  pub size : ℕ
  pub rows : List (List ℕ)

abbrev pub region : ℕ → List (List ℕ) → Region
region n rows = record { size = n; rows = rows }

abbrev pub region_words : Region → List ℕ
region_words r = padded r.size r.rows

-- a cell of list k as a store has it, K being kept: a leaf its words; any other its pointers, then its count
abbrev pub row_of : List (List Cell) → ℕ → Cell → List ℕ
row_of K zero c = c
row_of K (suc k) c = c ++ two_words (solid_of K (suc k) c)

-- the lists from list k on, each with room for C cells
unfoldable pub list_regions : List (List Cell) → ℕ → ℕ → List (List Cell) → List Region
list_regions K C k [] = []
list_regions K C k (cs ∷ Ks) = region (stride k * C) (map (row_of K k) cs) ∷ list_regions K C (suc k) Ks

-- the header, the scenes, list 0, list 1, ..
abbrev pub header_row : Store → List ℕ
header_row s = s.capacity ∷ s.held ∷ map length s.kept

abbrev pub regions : Store → List Region
regions s = region first_scene (header_row s ∷ []) ∷ region (scene_words * most_scenes) s.scenes ∷ list_regions s.kept s.capacity 0 s.kept

-- the heads ('by height then chain'), and the next words ('by height then number') of C for each height, that the cells determine
abbrev pub head_words : List (List Cell) → List ℕ
head_words K = tabulate 0 (chains * heights) (λ i. head_of K (i / chains) (i % chains))

abbrev pub next_words : List (List Cell) → ℕ → List ℕ
next_words K C = tabulate 0 (C * heights) (λ i. next_of K (i / C) (i % C))

unfoldable pub chain_words : List (List Cell) → ℕ → List ℕ
chain_words K C = head_words K ++ next_words K C

unfoldable pub words_of : Store → List ℕ
words_of s = flatten (map region_words (regions s)) ++ chain_words s.kept s.capacity

-- a place that holds no scene, and a store with nothing in it
abbrev pub free_place : Cell
free_place = 0 ∷ 0 ∷ []

unfoldable pub empty_store : ℕ → Store
empty_store C = record { capacity = C; held = 0; scenes = replicate most_scenes free_place; kept = replicate heights [] }

-- ---- damage

-- all of n words from place a on are zero
unfoldable pub blank : List ℕ → ℕ → ℕ → Bool
blank ws a n = all_in (eqb 0) (take n (drop a ws))

abbrev pub capacity_ok : ℕ → Bool
capacity_ok C = leb 1 C && leb C most_capacity

-- the header is not damaged ('Damaged, header'): the slice has all words of its capacity, and each of the first 32 is in its range
unfoldable pub header_ok : List ℕ → Bool
header_ok ws =
    leb (used (capacity_of ws)) (length ws) && capacity_ok (capacity_of ws) && leb (scenes_held ws) most_scenes
    && all_below heights (λ k. leb (kept_count ws k) (capacity_of ws)) && blank ws zeros_position (first_scene - zeros_position)

-- the two words of scene n are not damaged ('Scene:')
unfoldable pub scene_ok : List ℕ → ℕ → Bool
scene_ok ws n = depth_ok (scene_depth ws n) && not (bad_pointer (kept_count ws (scene_depth ws n - 2)) (scene_root ws n))

-- place n of the scenes is two zeros
abbrev pub is_free : List ℕ → ℕ → Bool
is_free ws n = eqb (scene_depth ws n) 0 && eqb (scene_root ws n) 0

-- it is not damaged: a scene held is not, any other place is free
unfoldable pub place_ok : List ℕ → ℕ → Bool
place_ok ws n = cond (is_held ws n) (scene_ok ws n) (is_free ws n)

-- a kept cell that may stand in a store ('used cells'): a leaf with a voxel; any other with a child and no bad pointer
unfoldable pub leaf_usable : Cell → Bool
leaf_usable c = ltb 0 (leaf_no c)

unfoldable pub cell_usable : ℕ → Cell → Bool
cell_usable n c = not (all_below 8 (λ i. eqb (get_or c i 0) 0)) && not (any_bad n c)

unfoldable pub list_usable : List (List Cell) → ℕ → Bool
list_usable K zero = all_in leaf_usable (cells_at K 0)
list_usable K (suc k) = all_in (cell_usable (length (cells_at K k))) (cells_at K (suc k))

-- each count of list k is the sum of its children's ('the sum of its children's'), as whole numbers; leaves have none
unfoldable pub counts_ok : List ℕ → ℕ → Bool
counts_ok ws zero = true
counts_ok ws (suc k) =
    all_below (kept_count ws (suc k)) (λ n. eqb (count_of ws (suc k) n) (over_children (count_of ws k) (cell_at (kept_of ws) (suc k) n)))

-- the chains are right ('wrong chain'): the heads and next words are those that the cells determine
unfoldable pub chains_ok : List ℕ → Bool
chains_ok ws = same_list (take ((chains + capacity_of ws) * heights) (drop (first_head (capacity_of ws)) ws)) (chain_words (kept_of ws) (capacity_of ws))

-- nothing stands past the cells kept in list k
abbrev pub list_blank : List ℕ → ℕ → Bool
list_blank ws k =
    blank ws (cell_position (capacity_of ws) k (kept_count ws k)) (stride k * (capacity_of ws - kept_count ws k))

-- the whole store is not damaged ('for the whole store'): its header, every place of a scene, every kept cell, nothing where nothing is kept, every
-- count, and every chain
unfoldable pub store_ok : List ℕ → Bool
store_ok ws =
    header_ok ws && all_below most_scenes (place_ok ws) && all_below heights (list_usable (kept_of ws))
    && all_below heights (list_blank ws) && all_below heights (counts_ok ws) && chains_ok ws
