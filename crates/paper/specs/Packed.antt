-- Document 01, 'The packed file': what its bytes say, when it is proper, which room it means, and the walk of a voxel question. Definitions only.
-- A list is named by k, as a store's are: that of height k + 2, so list 0 is the leaves and list D - 2 the top.
-- All reading is total: on broken bytes it gives some value, and a named test says that they are broken. A list is measured from the end of the
-- file, where the leaves are. The lists are read into a GRAPH: cells whose pointers go by the number of the record, just as a store keeps them,
-- so the match rule and the voxels of a cell are the store's own.
use Rattle.std.specs.Prelude.{Bool, true, false, cond, not, ◌&&◌, List, [], ◌∷◌, map, ℕ, zero, suc, ◌+◌, ◌-◌, ◌*◌, ◌/◌, ◌%◌, ◌^◌, eqb, leb, ltb, length, take, drop, get_or, replicate}
use Rattle.std.specs.Int.Bits.{bit_xor}
use Rattle.paper.specs.Numbers.{all_below, sum, bit_for, num, count, tabulate, all_in, is_in, index_in}
use Rattle.paper.specs.Rooms.{Point, Room, mirror, depth_ok}
use Rattle.paper.specs.Outline.{file_depth, version_ok, length_ok}
use Rattle.paper.specs.Store.{Cell, heights, cells_at, cell_at, leaf_no, tag_of, cell_no, pointer}
use Rattle.paper.specs.Meaning.{cell_voxel}
use Rattle.paper.specs.Match.{matches}
use Rattle.paper.specs.Walk.{Child, none, wrong, to, Reading, Walk, unless, root_walk}
use Rattle.paper.specs.Questions.{graph_reading}

-- ---- the head

-- the version byte ('Byte 0'; document 02, request 4: 'at the front')
abbrev pub packed_version : ℕ
packed_version = 0x22

-- the bytes before the sizes: version byte, length, depth, the root's mirror
abbrev pub packed_head : ℕ
packed_head = 7

-- byte 6 ('the root's mirror'): the tag under which the scene sees its top record, or the mark of an empty scene
abbrev pub empty_mark : ℕ
empty_mark = 8

abbrev pub root_tag : List ℕ → ℕ
root_tag bs = get_or bs 6 0

abbrev pub is_empty : List ℕ → Bool
is_empty bs = eqb (root_tag bs) empty_mark

-- the top list, that of height D
abbrev pub top_of : List ℕ → ℕ
top_of bs = file_depth bs - 2

-- the size of list k ('size in half-words'), four bytes, the top list's first; that of the leaves is how many there are
unfoldable pub size_at : List ℕ → ℕ → ℕ
size_at bs k = num 4 (drop (packed_head + 4 * (top_of bs - k)) bs)

-- how many bytes list k and all after it take ('in that order'): the lists follow as their sizes do, a half-word two bytes, a leaf eight
unfoldable pub tail_at : List ℕ → ℕ → ℕ
tail_at bs zero = 8 * size_at bs 0
tail_at bs (suc k) = 2 * size_at bs (suc k) + tail_at bs k

-- where list k starts in the file
abbrev pub start_at : List ℕ → ℕ → ℕ
start_at bs k = length bs - tail_at bs k

-- the bytes of list k
unfoldable pub list_at : List ℕ → ℕ → List ℕ
list_at bs zero = drop (start_at bs 0) bs
list_at bs (suc k) = take (2 * size_at bs (suc k)) (drop (start_at bs (suc k)) bs)

-- ---- a record at place p of the bytes l of a list

-- its header ('two-byte header'): a code of two bits for each child, child 0 lowest, which counts the half-words of the child's pointer
abbrev pub header_at : List ℕ → ℕ → ℕ
header_at l p = num 2 (drop (2 * p) l)

-- its half-words: one for the header and, for each of n children, as many as its code says
unfoldable pub halves : ℕ → ℕ → ℕ
halves zero h = 1
halves (suc n) h = h % 4 + halves n (h / 4)

-- no code 3 among the lowest n
unfoldable pub codes_ok : ℕ → ℕ → Bool
codes_ok zero h = true
codes_ok (suc n) h = let r = codes_ok n (h / 4) in cond (eqb (h % 4) 3) false r

-- a pointer with its code ('three mirror bits'): the tag on top, the place in the bits below it
pub record PackedPointer : Type 0 where
  pub code : ℕ
  pub tag : ℕ
  pub place : ℕ

-- of code c, read as the number v
abbrev pub pointer_of : ℕ → ℕ → PackedPointer
pointer_of c v = record { code = c; tag = v / 2 ^ (16 * c - 3); place = v % 2 ^ (16 * c - 3) }

abbrev pub no_pointer : PackedPointer
no_pointer = record { code = 0; tag = 0; place = 0 }

-- the pointers of n children in turn ('then the pointers'), with the codes of h
unfoldable pub read_pointers : ℕ → ℕ → List ℕ → List PackedPointer
read_pointers zero h bs = []
read_pointers (suc n) h bs = pointer_of (h % 4) (num (2 * (h % 4)) bs) ∷ read_pointers n (h / 4) (drop (2 * (h % 4)) bs)

unfoldable pub pointers_at : List ℕ → ℕ → List PackedPointer
pointers_at l p = read_pointers 8 (header_at l p) (drop (2 * p + 2) l)

-- leaf p: its two words, high first
unfoldable pub leaf_at : List ℕ → ℕ → Cell
leaf_at l p = num 4 (drop (8 * p) l) ∷ num 4 (drop (8 * p + 4) l) ∷ []

-- header not zero, no code 3, room in its list
unfoldable pub record_ok : List ℕ → ℕ → Bool
record_ok l p = ltb 0 (header_at l p) && codes_ok 8 (header_at l p) && leb (2 * (p + halves 8 (header_at l p))) (length l)

-- leaf not zero
unfoldable pub leaf_ok : List ℕ → ℕ → Bool
leaf_ok l p = ltb 0 (leaf_no (leaf_at l p))

-- the code that a place calls for ('short exactly when'): 13 bits of a short pointer reach to 8,191
abbrev pub farthest_short : ℕ
farthest_short = 8191

abbrev pub code_for : ℕ → ℕ
code_for p = cond (leb p farthest_short) 1 2

-- ---- the lists as records, and the graph: cells whose pointers go by number, as a store's do

-- where records start: at most n, the first at place p
unfoldable pub starts_from : List ℕ → ℕ → ℕ → List ℕ
starts_from l zero p = []
starts_from l (suc n) p = let r = p ∷ starts_from l n (p + halves 8 (header_at l p)) in cond (ltb (2 * p) (length l)) r []

-- the places at which the records of list k start
unfoldable pub places_at : List ℕ → ℕ → List ℕ
places_at bs zero = count 0 (size_at bs 0)
places_at bs (suc k) = starts_from (list_at bs (suc k)) (size_at bs (suc k)) 0

-- a pointer by the number of the record that it names; ps: where those start. Where rules 1 to 4 hold the number plus 1 is below 2^29: an inner
-- record takes two half-words at least and its place is below 2^29, and a file has less than 2^29 leaves
abbrev pub by_number : List ℕ → PackedPointer → ℕ
by_number ps l = cond (eqb l.code 0) 0 (pointer l.tag (index_in l.place ps))

unfoldable pub cells_of : List ℕ → ℕ → List Cell
cells_of bs zero = map (leaf_at (list_at bs 0)) (places_at bs 0)
cells_of bs (suc k) = map (λ p. map (by_number (places_at bs k)) (pointers_at (list_at bs (suc k)) p)) (places_at bs (suc k))

-- leaves first
unfoldable pub graph_of : List ℕ → List (List Cell)
graph_of bs = tabulate 0 (suc (top_of bs)) (cells_of bs)

-- ---- the rules of a proper file, in document 01's order

-- 1 ('add up'): head, sizes and lists are together as long as the file
unfoldable pub sizes_ok : List ℕ → Bool
sizes_ok bs = eqb (packed_head + 4 * suc (top_of bs) + tail_at bs (top_of bs)) (length bs)

-- 2 ('exactly one record'): of the top list
unfoldable pub top_ok : List ℕ → Bool
top_ok bs = eqb (length (places_at bs (top_of bs))) 1

-- 3 ('whole records'): each leaf of list 0 has a voxel; each record of any other list has a header without fault and ends within the list
unfoldable pub whole_at : List ℕ → ℕ → Bool
whole_at bs zero = all_in (leaf_ok (list_at bs 0)) (places_at bs 0)
whole_at bs (suc k) = all_in (record_ok (list_at bs (suc k))) (places_at bs (suc k))

-- 4 ('names the start'): each pointer of list k + 1 leads to one of the places ps, where the records of list k start, and has the code that its
-- place calls for
unfoldable pub packed_pointer_ok : List ℕ → PackedPointer → Bool
packed_pointer_ok ps l = cond (eqb l.code 0) true (is_in l.place ps && eqb l.code (code_for l.place))

unfoldable pub packed_pointers_ok : List ℕ → ℕ → Bool
packed_pointers_ok bs k = all_in (λ p. all_in (packed_pointer_ok (places_at bs k)) (pointers_at (list_at bs (suc k)) p)) (places_at bs (suc k))

-- does a pointer name number q
abbrev pub names : ℕ → ℕ → Bool
names q p = not (eqb p 0) && eqb (cell_no p) q

-- what one record counts towards the popularity of number q (document 02, request 4, 'every pointer'): how many of its eight pointers name q, and
-- the most that it can count
unfoldable pub weight : ℕ → Cell → ℕ
weight q c = sum 8 (λ i. bit_for (names q (get_or c i 0)))

abbrev pub most_weight : ℕ
most_weight = 8

-- how popular number q is ('one height up'): how many pointers of these records name it
unfoldable pub popularity : List Cell → ℕ → ℕ
popularity [] q = 0
popularity (c ∷ cs) q = weight q c + popularity cs q

-- 5 ('below the top'): each record of list k is named by one of list k + 1
unfoldable pub named_ok : List (List Cell) → ℕ → Bool
named_ok K k = all_below (length (cells_at K k)) (λ q. ltb 0 (popularity (cells_at K (suc k)) q))

-- 6 ('no two of one height'): of list k, by the match rule
unfoldable pub apart_ok : List (List Cell) → ℕ → Bool
apart_ok K k =
    all_below (length (cells_at K k)) (λ q. all_below q (λ r. all_below 8 (λ t. not (matches K k (cell_at K k q) (cell_at K k r) t))))

-- 7 ('with the same meaning'): no lower tag differs from this one by a mirror under which the cell matches itself; of pointers and of the root
abbrev pub tag_low : List (List Cell) → ℕ → ℕ → ℕ → Bool
tag_low K k tag q = all_below tag (λ u. not (matches K k (cell_at K k q) (cell_at K k q) (bit_xor u tag)))

unfoldable pub pointer_low : List (List Cell) → ℕ → ℕ → Bool
pointer_low K k p = let r = tag_low K k (tag_of p) (cell_no p) in cond (eqb p 0) true r

-- of all pointers of list k + 1
unfoldable pub tags_ok : List (List Cell) → ℕ → Bool
tags_ok K k = all_below (length (cells_at K (suc k))) (λ n. all_below 8 (λ i. pointer_low K k (get_or (cell_at K (suc k) n) i 0)))

-- 8 ('never rises'): in list k, no record is more popular than the one before it
unfoldable pub falling_ok : List (List Cell) → ℕ → Bool
falling_ok K k =
    all_below (length (cells_at K k) - 1) (λ q. leb (popularity (cells_at K (suc k)) (suc q)) (popularity (cells_at K (suc k)) q))

-- rules 2 to 4, on the bytes
unfoldable pub lists_ok : List ℕ → Bool
lists_ok bs = top_ok bs && all_below (suc (top_of bs)) (whole_at bs) && all_below (top_of bs) (packed_pointers_ok bs)

-- rules 5 to 8, on a graph; k the top and m the root's mirror
unfoldable pub graph_ok : ℕ → ℕ → List (List Cell) → Bool
graph_ok k m K = all_below k (named_ok K) && all_below (suc k) (apart_ok K) && all_below k (tags_ok K) && tag_low K k m 0 && all_below k (falling_ok K)

-- byte 6 ('8 only at'): a mirror, or the mark of an empty scene in a file that ends with it
abbrev pub root_ok : List ℕ → Bool
root_ok bs = leb (root_tag bs) empty_mark && cond (is_empty bs) (eqb (length bs) packed_head) true

-- byte 6 and, unless the scene is empty, the sizes
unfoldable pub head_ok : List ℕ → Bool
head_ok bs = let r = sizes_ok bs in root_ok bs && cond (is_empty bs) true r

-- refusal 6 of a check is given where this fails: byte 6 and, unless the scene is empty, the eight rules
unfoldable pub packed_rules : List ℕ → Bool
packed_rules bs =
    let r : Bool = lists_ok bs && graph_ok (top_of bs) (root_tag bs) (graph_of bs) in
    head_ok bs && cond (is_empty bs) true r

-- a proper file ('is proper when'): nothing in it that refusals 3 to 6 speak of. An empty scene's file, which has no list, is proper
unfoldable pub proper : List ℕ → Bool
proper bs = version_ok packed_version bs && length_ok packed_head bs && depth_ok (file_depth bs) && packed_rules bs

-- ---- long pointers (document 02, request 12)

-- none of the pointers of the record at place p of a list's bytes is long: has code 2
unfoldable pub short_at : List ℕ → ℕ → Bool
short_at l p = all_in (λ q. not (eqb q.code 2)) (pointers_at l p)

-- none of list k + 1 is
unfoldable pub short_list : List ℕ → ℕ → Bool
short_list bs k = all_in (short_at (list_at bs (suc k))) (places_at bs (suc k))

-- 'no pointer is long': of any list above the leaves; an empty scene has none
unfoldable pub all_short : List ℕ → Bool
all_short bs = let r = all_below (top_of bs) (short_list bs) in cond (is_empty bs) true r

-- ---- the room that a proper file means, by coordinates, and the path to a voxel

-- voxel v as the top record sees it
abbrev pub in_top : List ℕ → Point → Point
in_top bs v = mirror (root_tag bs) (2 ^ file_depth bs) v

unfoldable pub packed_room : List ℕ → Room
packed_room bs v =
    let k : ℕ = top_of bs in
    let r : Bool = cell_voxel (graph_of bs) k (cell_at (graph_of bs) k 0) (in_top bs v) in
    cond (is_empty bs) false r

-- what the scene sees: its top record under the root's mirror, or nothing
abbrev pub root_of : List ℕ → Child
root_of bs = cond (is_empty bs) none (to (root_tag bs) 0)

-- how many records are on the path to v ('records read'): the top one, then each that a pointer taken names, to a leaf or an absent child
unfoldable pub packed_path : List ℕ → Point → ℕ
packed_path bs v = length (root_walk (graph_reading (graph_of bs)) (file_depth bs) (root_of bs) v).path

-- ---- the walk of a packed voxel question, on any bytes

-- what a pointer of list k + 1 leads to: wrong where it leads past list k, or hasn't the code that its place calls for
unfoldable pub packed_child : List ℕ → ℕ → PackedPointer → Child
packed_child bs k l = cond (eqb l.code 0) none (cond (ltb l.place (size_at bs k) && eqb l.code (code_for l.place)) (to l.tag l.place) wrong)

-- the tests on entering place p of list k
abbrev pub entry_ok : List ℕ → ℕ → ℕ → Bool
entry_ok bs zero p = leaf_ok (list_at bs 0) p
entry_ok bs (suc k) p = record_ok (list_at bs (suc k)) p

-- records by place ('on its path'): nothing off the path is looked at
abbrev pub file_reading : List ℕ → Reading
file_reading bs = record {
  ok = entry_ok bs;
  leaf = λ p. leaf_no (leaf_at (list_at bs 0) p);
  child = λ k p i. packed_child bs k (get_or (pointers_at (list_at bs (suc k)) p) i no_pointer);
}

-- from the root; an empty scene reads nothing
unfoldable pub file_walk : List ℕ → Point → Walk
file_walk bs v = unless (head_ok bs) (root_walk (file_reading bs) (file_depth bs) (root_of bs) v)

-- ---- opening: the list starts, 0 above the depth and for an empty scene

unfoldable pub starts_of : List ℕ → List ℕ
starts_of bs =
    let r : List ℕ = tabulate 0 heights (λ k. cond (leb k (top_of bs)) (start_at bs k) 0) in
    cond (is_empty bs) (replicate heights 0) r
