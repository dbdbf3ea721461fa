-- Document 01, 'The packed file', 'Packing writes': the graph of a scene, its cells as the store has them, each list the most popular first and
-- equally popular ones by their numbers in the store; and a graph laid out as bytes. Definitions only.
use Rattle.std.specs.Prelude.{cond, List, [], ◌∷◌, ◌++◌, map, ℕ, zero, suc, ◌+◌, ◌-◌, ◌*◌, ◌^◌, eqb, length, get_or}
use Rattle.paper.specs.Numbers.{bytes, flatten, count, tabulate, index_in}
use Rattle.paper.specs.Store.{Cell, heights, cells_at, cell_at, tag_of, cell_no, pointer}
use Rattle.paper.specs.Packed.{packed_version, packed_head, empty_mark, code_for, most_weight, popularity}

-- ---- a graph's bytes

-- the place of a pointer's record; ps: where the records of the next list start
abbrev pub place_of : List ℕ → ℕ → ℕ
place_of ps p = get_or ps (cell_no p) 0

-- its code: 0 none, 1 short, 2 long
unfoldable pub code : List ℕ → ℕ → ℕ
code ps p = cond (eqb p 0) 0 (code_for (place_of ps p))

-- its bytes: three mirror bits, then the place
unfoldable pub pointer_bytes : List ℕ → ℕ → List ℕ
pointer_bytes ps p =
    cond (eqb p 0) [] (bytes (2 * code_for (place_of ps p)) (tag_of p * 2 ^ (16 * code_for (place_of ps p) - 3) + place_of ps p))

-- a record's header, half-words and bytes
unfoldable pub header : List ℕ → Cell → ℕ
header ps [] = 0
header ps (p ∷ c) = code ps p + 4 * header ps c

unfoldable pub width : List ℕ → Cell → ℕ
width ps [] = 1
width ps (p ∷ c) = code ps p + width ps c

unfoldable pub record_bytes : List ℕ → Cell → List ℕ
record_bytes ps c = bytes 2 (header ps c) ++ flatten (map (pointer_bytes ps) c)

-- a leaf's two words, high first
unfoldable pub leaf_bytes : Cell → List ℕ
leaf_bytes c = flatten (map (bytes 4) c)

-- where records start, if the first is at place a
unfoldable pub places_from : List ℕ → ℕ → List Cell → List ℕ
places_from ps a [] = []
places_from ps a (c ∷ cs) = a ∷ places_from ps (a + width ps c) cs

unfoldable pub size_of : List ℕ → List Cell → ℕ
size_of ps [] = 0
size_of ps (c ∷ cs) = width ps c + size_of ps cs

unfoldable pub places : List (List Cell) → ℕ → List ℕ
places K zero = count 0 (length (cells_at K 0))
places K (suc k) = places_from (places K k) 0 (cells_at K (suc k))

-- a list's size and bytes
unfoldable pub size : List (List Cell) → ℕ → ℕ
size K zero = length (cells_at K 0)
size K (suc k) = size_of (places K k) (cells_at K (suc k))

unfoldable pub list_bytes : List (List Cell) → ℕ → List ℕ
list_bytes K zero = flatten (map leaf_bytes (cells_at K 0))
list_bytes K (suc k) = flatten (map (record_bytes (places K k)) (cells_at K (suc k)))

-- from list k down to the leaves: the sizes, the lists
unfoldable pub size_bytes : List (List Cell) → ℕ → List ℕ
size_bytes K zero = bytes 4 (size K 0)
size_bytes K (suc k) = bytes 4 (size K (suc k)) ++ size_bytes K k

unfoldable pub body : List (List Cell) → ℕ → List ℕ
body K zero = list_bytes K 0
body K (suc k) = list_bytes K (suc k) ++ body K k

-- the file of a graph: k the top, m the root's mirror
unfoldable pub layout : ℕ → ℕ → List (List Cell) → List ℕ
layout k m K =
    let tail : List ℕ = size_bytes K k ++ body K k in
    packed_version ∷ bytes 4 (packed_head + length tail) ++ (suc (suc k) ∷ m ∷ tail)

-- the 7 bytes of an empty scene
unfoldable pub empty_file : ℕ → List ℕ
empty_file D = packed_version ∷ bytes 4 packed_head ++ (D ∷ empty_mark ∷ [])

-- the most bytes of a record: header and eight long pointers
abbrev pub most_record : ℕ
most_record = 34

-- the most bytes of a packed scene of a store of capacity C: head, sizes, one record on top, C records in each list between, C leaves
abbrev pub packed_most : ℕ → ℕ
packed_most C = packed_head + 4 * heights + most_record + (8 + (heights - 2) * most_record) * C

-- ---- the graph of a scene

-- those of q, q + 1 .. q + m - 1 to which f gives c
unfoldable pub with_count : (ℕ → ℕ) → ℕ → ℕ → ℕ → List ℕ
with_count f c zero q = []
with_count f c (suc m) q = let r = with_count f c m (suc q) in cond (eqb (f q) c) (q ∷ r) r

-- the order of a list: the numbers below m by f falling, from c down to 1, equal ones by number
unfoldable pub ordered : (ℕ → ℕ) → ℕ → ℕ → List ℕ
ordered f zero m = []
ordered f (suc c) m = with_count f (suc c) m 0 ++ ordered f c m

-- the cells of list k that the cells ns of list k + 1 name, by popularity
unfoldable pub next : List (List Cell) → ℕ → List ℕ → List ℕ
next K k ns = ordered (popularity (map (cell_at K (suc k)) ns)) (most_weight * length ns) (length (cells_at K k))

-- the cells under those numbered ns of list k ('reachable'): the numbers in list j
unfoldable pub reachable : List (List Cell) → ℕ → List ℕ → ℕ → List ℕ
reachable K zero ns j = ns
reachable K (suc k) ns j = let r = reachable K k (next K k ns) j in cond (eqb j (suc k)) ns r

-- a pointer by the number in the packed list; ns: the store's numbers in that order
unfoldable pub renumber : List ℕ → ℕ → ℕ
renumber ns p = cond (eqb p 0) 0 (pointer (tag_of p) (index_in (cell_no p) ns))

-- list j of the graph, N giving the numbers of each list
unfoldable pub list_for : List (List Cell) → (ℕ → List ℕ) → ℕ → List Cell
list_for K N zero = map (cell_at K 0) (N 0)
list_for K N (suc j) = map (λ q. map (renumber (N j)) (cell_at K (suc j) q)) (N (suc j))

-- the graph under root p of list k
unfoldable pub scene_graph : List (List Cell) → ℕ → ℕ → List (List Cell)
scene_graph K k p = tabulate 0 (suc k) (list_for K (reachable K k (cell_no p ∷ [])))

-- the packed file of the scene of depth D with root p
unfoldable pub packed_file : List (List Cell) → ℕ → ℕ → List ℕ
packed_file K D p =
    let f : List ℕ = layout (D - 2) (tag_of p) (scene_graph K (D - 2) p) in
    cond (eqb p 0) (empty_file D) f
