-- The claims C1 to C17, the demands of documents 01 and 02, as types. This file states all and proves none; docs/READING.md says where each is proved.
-- A claim that speaks of a call speaks of its outcome function (Calls, Detail); the promise of the call ties the code to that function.
use Rattle.std.specs.Prelude.{Bool, true, false, cond, not, List, [], ◌∷◌, ◌↔◌, ◌≡◌, ℕ, zero, suc, ◌+◌, ◌-◌, ◌*◌, ◌<◌, ◌≤◌, ◌^◌, T, eqb, leb, ltb, Float, length, take, drop, get_or}
use Rattle.std.proofs.Math.Option.{Option, some}
use Rattle.std.proofs.Math.Option as O
use Rattle.std.specs.Int.Bits.{bit_xor}
use Rattle.std.specs.Float.{binary64}
use Rattle.std.specs.Float.Ieee.{fits, le}
use Rattle.std.specs.Float.Ieee.Exact.{HasValue}
use Rattle.std.specs.Float.Ieee.Positive.{num, den}
use Rattle.paper.specs.Numbers.{all_below, all_in, bit_for, is_in, tabulate}
use Rattle.paper.specs.Rooms.{Point, point, Room, deepest, depth_ok, Inside, cell_of, OneCell, cell_around, child_room, mirror, mirrored, Same, Image, NonEmpty, box_count, origin, far, is_whole, non_empty, empty_at}
use Rattle.paper.specs.Outline.{edge, IsOutline, outline_of, file_depth, file_room}
use Rattle.paper.specs.Store.{Cell, leaf_no, tag_unit, tag_of, low_of, cell_no, any_bad, heights, capacity_of, is_held, kept_count, head_position, next_position, kept_of, cells_at, cell_at, count_of, leaf_solid, chains, key_of, chain_of, scene_depth, store_ok}
use Rattle.paper.specs.Meaning.{cell_voxel, root_room}
use Rattle.paper.specs.Leaf.{mirror_leaf}
use Rattle.paper.specs.Match.{matches, lowest, or_found, find}
use Rattle.paper.specs.Packed.{root_tag, is_empty, top_of, places_at, farthest_short, graph_of, proper, all_short, packed_room, packed_path, starts_of}
use Rattle.paper.specs.Pack.{layout, empty_file, packed_most}
use Rattle.paper.specs.Answers.{Outcome, told, outcome}
use Rattle.paper.specs.Order.{first_number}
use Rattle.paper.specs.Detail.{factor_ok, distance_ok, reaches, doubled}
use Rattle.paper.specs.Calls.{over, cleared, next_scene, scenes_full, outline_order, of_scene, add_outcome, voxel_outcome, cell_outcome, box_outside, box_outcome, kept_outcome, outline_outcome, scratch_for, pack_bytes, pack_outcome, check_outcome, packed_voxel_outcome, open_outcome, ask_outcome}
use Rattle.paper.specs.Runs.{Call, Bytes, Given, outcome_of, words_after, besides, Scene, scene_of, holding, alone, State, Reached, Occurs, Outnumbered, Number, kept_room, used_by}
use Rattle.paper.specs.Lines.{Before, Between, tested}
use Rattle.paper.specs.Sight.{sight_outcome}
use Rattle.paper.specs.Anything.{cell_search, any_outcome, sharing}
use Rattle.paper.specs.Headset.{meets_headset, headset_check_outcome, headset_pack_outcome}
use Rattle.paper.specs.Anything.{Met}
use Rattle.paper.specs.Samples.{samples, holds}

-- ---- C1, mirror laws, once over the edge

pub record C1 : Type 0 where
  -- a mirror twice is nothing
  pub twice : (t S : ℕ) (v : Point) → Inside S v → mirror t S (mirror t S v) ≡ v
  -- two in a row are their exclusive or
  pub in_a_row : (t u S : ℕ) (v : Point) → t < 8 → u < 8 → Inside S v → mirror t S (mirror u S v) ≡ mirror (bit_xor t u) S v
  -- child i of a mirrored cell is the mirrored child (i xor t); S is the children's edge
  pub child : (t i S : ℕ) (r : Room) → t < 8 → i < 8 → Same S (child_room S i (mirrored t (2 * S) r)) (mirrored t S (child_room S (bit_xor i t) r))

-- ---- C2, one room for each file

-- refused by 3, 4, 5 or 6, or by none
abbrev pub outline_refusal : List ℕ → ℕ
outline_refusal bs = first_number (outline_order bs)

pub record C2 : Type 0 where
  -- two outlines of one depth that mean the same room are the same bytes
  pub one_file : (D : ℕ) (r r' : Room) (bs bs' : List ℕ) → IsOutline bs D r → IsOutline bs' D r' → Same (2 ^ D) r r' → bs ≡ bs'
  -- and a file means one room
  pub one_room : (D D' : ℕ) (r r' : Room) (bs : List ℕ) → IsOutline bs D r → IsOutline bs D' r' → (D ≡ D') × Same (2 ^ D) r r'
  -- a file is refused exactly when it is no room's outline
  pub refused : (bs : List ℕ) → Bytes bs → (outline_refusal bs ≡ 0) ↔ ((D : ℕ) × (r : Room) × IsOutline bs D r)
  -- what is written for a room is read back as that room
  pub read_back : (bs : List ℕ) (D : ℕ) (r : Room) → IsOutline bs D r → (file_depth bs ≡ D) × Same (2 ^ D) (file_room bs) r
  -- and what was read is written back byte for byte
  pub written_back : (bs : List ℕ) → Bytes bs → outline_refusal bs ≡ 0 → outline_of (file_depth bs) (file_room bs) ≡ bs

-- ---- C3, the match rule agrees with the voxels, on every store that only the calls wrote

-- a cell that may be sought in list k: a leaf of 64 bits, or eight pointers none of which is bad
abbrev pub Sought : List (List Cell) → ℕ → Cell → Type 0
Sought K zero c = leaf_no c < 2 ^ 64
Sought K (suc k) c = any_bad (length (cells_at K k)) c ≡ false

pub record MatchesVoxels (s : State) : Type 0 where
  -- any two cells that may be sought, kept or not
  pub agree : (k : ℕ) (a b : Cell) (t : ℕ) → Sought (kept_of s.words) k a → Sought (kept_of s.words) k b → t < 8
      → (matches (kept_of s.words) k a b t ≡ true)
      ↔ Same (edge k) (cell_voxel (kept_of s.words) k a) (mirrored t (edge k) (cell_voxel (kept_of s.words) k b))
  -- kept cells are such
  pub kept : (k q : ℕ) → q < length (cells_at (kept_of s.words) k) → Sought (kept_of s.words) k (cell_at (kept_of s.words) k q)

abbrev pub C3 : Type 0
C3 = (s : State) → Reached s → MatchesVoxels s

-- ---- C4, demand 3, after any list of calls on a new store

pub record Demand3 (s : State) : Type 0 where
  -- (a) no call answers 2
  pub undamaged : (c : Call) → Given c → ¬ ((outcome_of s.words c).number ≡ 2)
  -- (b) no two kept cells of one height are images
  pub apart : (k q r : ℕ) → r < q → q < length (cells_at (kept_of s.words) k) → ¬ Image (edge k) (kept_room s.words k q) (kept_room s.words k r)
  -- (c) every kept cell occurs in an accepted scene, itself, unmirrored, at an aligned place
  pub occur : (k q : ℕ) → q < length (cells_at (kept_of s.words) k) → Occurs s.held (suc (suc k)) (kept_room s.words k q)
  -- (d) each accepted scene answers every voxel as its outline does, with the height that the room's voxels give (`empty_at`)
  pub voxels : (n : ℕ) (sc : Scene) (v : Point) → s.held n ≡ some sc → Inside (2 ^ sc.depth) v
      → voxel_outcome s.words n v ≡ outcome (told 0 (bit_for (sc.room v) ∷ empty_at sc.depth sc.room v ∷ [])) []
  -- (e) an outline that meets no earlier refusal is refused by 8 exactly when the cells of the accepted scenes and its own outnumber C
  pub capacity : (file : List ℕ) → Bytes file → outline_refusal file ≡ 0 → scenes_full s.words ≡ false
      → ((add_outcome s.words file).number ≡ 8) ↔ Outnumbered (holding (next_scene s.words) (scene_of file) s.held) s.capacity
  -- (f) kept at h answers the number of differing non-empty cells of height h in the accepted scenes, images counted once
  pub kept : (h : ℕ) → T (depth_ok h) → (n : ℕ) × (kept_outcome s.words h ≡ outcome (told 0 (n ∷ [])) []) × Number s.held h n
  -- word 0 is the capacity given to the last accepted new store
  pub given : capacity_of s.words ≡ s.capacity
  -- the numbers that the words hold are those of the scenes held, so that a number is never given twice
  pub numbers : (n : ℕ) → T (is_held s.words n) ↔ ((sc : Scene) × (s.held n ≡ some sc))

abbrev pub C4 : Type 0
C4 = (s : State) → Reached s → Demand3 s

-- ---- C5, answers are the room's (demand 2), on such a store; of voxels it is (d) above

pub record AnswersAreTheRooms (s : State) : Type 0 where
  -- the cell of height h at c
  pub cells : (n : ℕ) (sc : Scene) (h : ℕ) (c : Point) → s.held n ≡ some sc → h ≤ sc.depth → Inside (2 ^ (sc.depth - h)) c
      → cell_outcome s.words n h c ≡ outcome (told 0 (bit_for (non_empty (2 ^ h) (cell_of sc.room h c)) ∷ [])) []
  -- the box from low to high
  pub boxes : (n : ℕ) (sc : Scene) (low high : Point) → s.held n ≡ some sc
      → (low.x ≤ high.x) × (high.x ≤ 2 ^ sc.depth) × (low.y ≤ high.y) × (high.y ≤ 2 ^ sc.depth) × (low.z ≤ high.z) × (high.z ≤ 2 ^ sc.depth)
      → box_outcome s.words n low high ≡ outcome (told 0 (box_count (2 ^ sc.depth) sc.room low high ∷ [])) []
  -- outline out gives the file that came
  pub outlines : (n : ℕ) (sc : Scene) (out : List ℕ) → s.held n ≡ some sc → length sc.file ≤ length out
      → outline_outcome s.words n out ≡ outcome (told 0 (length sc.file ∷ [])) (over sc.file out ∷ [])

abbrev pub C5 : Type 0
C5 = (s : State) → Reached s → AnswersAreTheRooms s

-- ---- C6, packing, on such a store: of every accepted scene, with `file` what pack writes for it

-- the records of list k of a packed file
abbrev pub records_at : List ℕ → ℕ → ℕ
records_at file k = length (cells_at (graph_of file) k)

pub record Packs (s : State) (n : ℕ) (sc : Scene) (file : List ℕ) : Type 0 where
  -- it is written, into scratch and output that hold it
  pub written : (scratch out : List ℕ) → scratch_for s.words ≤ length scratch → length file ≤ length out
      → pack_outcome s.words n scratch out ≡ outcome (told 0 (length file ∷ [])) (cleared (scratch_for s.words) scratch ∷ over file out ∷ [])
  -- it is proper, and means that room
  pub is_proper : proper file ≡ true
  pub depth : file_depth file ≡ sc.depth
  pub means : Same (2 ^ sc.depth) (packed_room file) sc.room
  -- check accepts it
  pub checks : (scratch : List ℕ) → length file ≤ length scratch
      → check_outcome file scratch ≡ outcome (told 0 (sc.depth ∷ [])) (cleared (length file) scratch ∷ [])
  -- packed voxel on it gives the room's voxel and the height of its emptiness
  pub voxels : (v : Point) → Inside (2 ^ sc.depth) v
      → packed_voxel_outcome file v ≡ outcome (told 0 (bit_for (sc.room v) ∷ packed_path file v ∷ empty_at sc.depth sc.room v ∷ [])) []
  -- its records of each height are as many as the scene's differing non-empty cells there, images counted once
  pub counts : (k : ℕ) → suc (suc k) ≤ sc.depth → Number (alone sc.depth sc.room) (suc (suc k)) (records_at file k)
  -- and every proper file that means the room has just as many
  pub fewest : (other : List ℕ) → Bytes other → proper other ≡ true → file_depth other ≡ sc.depth → Same (2 ^ sc.depth) (packed_room other) sc.room
      → (k : ℕ) → suc (suc k) ≤ sc.depth → records_at other k ≡ records_at file k
  -- what a caller has to lend at most
  pub most : length file ≤ packed_most s.capacity

pub record Packing (s : State) : Type 0 where
  -- each scene held packs
  pub each : (n : ℕ) (sc : Scene) → s.held n ≡ some sc → Packs s n sc (pack_bytes s.words n)
  -- two scenes held with the same depth and voxels pack to the same bytes
  pub same : (n n' : ℕ) (sc sc' : Scene) → s.held n ≡ some sc → s.held n' ≡ some sc' → sc.depth ≡ sc'.depth → Same (2 ^ sc.depth) sc.room sc'.room
      → pack_bytes s.words n ≡ pack_bytes s.words n'

abbrev pub C6 : Type 0
C6 = (s : State) → Reached s → Packing s

-- ---- C7, proper files

-- the voxels of record q of list k of a packed file
abbrev pub record_room : List ℕ → ℕ → ℕ → Room
record_room file k q = cell_voxel (graph_of file) k (cell_at (graph_of file) k q)

-- pointer i of record n of list k + 1, by number
abbrev pub pointer_at : List ℕ → ℕ → ℕ → ℕ → ℕ
pointer_at file k n i = get_or (cell_at (graph_of file) (suc k) n) i 0

-- a proper file that isn't empty, by voxels
pub record RecordsDiffer (file : List ℕ) : Type 0 where
  -- each record has a solid voxel
  pub non_empty_lem : (k q : ℕ) → q < records_at file k → NonEmpty (edge k) (record_room file k q)
  -- no two of one height are images
  pub apart : (k q r : ℕ) → r < q → q < records_at file k → ¬ Image (edge k) (record_room file k q) (record_room file k r)
  -- a lower tag gives other voxels
  pub tags : (k n i u : ℕ) → n < records_at file (suc k) → i < 8 → ¬ (pointer_at file k n i ≡ 0) → u < tag_of (pointer_at file k n i)
      → ¬ Same (edge k) (mirrored (tag_of (pointer_at file k n i)) (edge k) (record_room file k (cell_no (pointer_at file k n i))))
      (mirrored u (edge k) (record_room file k (cell_no (pointer_at file k n i))))
  -- the root's too
  pub root : (u : ℕ) → u < root_tag file → ¬ Same (2 ^ file_depth file) (packed_room file) (mirrored u (2 ^ file_depth file) (record_room file (top_of file) 0))

pub record C7 : Type 0 where
  -- check answers 0 exactly on proper files (with scratch enough to look)
  pub checked : (file scratch : List ℕ) → Bytes file → ((check_outcome file scratch).number ≡ 0) ↔ ((proper file ≡ true) × (length file ≤ length scratch))
  -- on a proper file the packed voxel never refuses a point inside, gives the voxel of the room that the file means and how big the emptiness is,
  -- and its number of records is the length of the path in the definition
  pub asked : (file : List ℕ) (v : Point) → Bytes file → proper file ≡ true → Inside (2 ^ file_depth file) v
      → packed_voxel_outcome file v ≡ outcome (told 0 (bit_for (packed_room file v) ∷ packed_path file v ∷ empty_at (file_depth file) (packed_room file) v ∷ [])) []
  -- its records differ by voxels
  pub differ : (file : List ℕ) → Bytes file → proper file ≡ true → is_empty file ≡ false → RecordsDiffer file
  -- its records of each height are as many as the differing non-empty cells of the room that it means, images counted once
  pub counts : (file : List ℕ) → Bytes file → proper file ≡ true → (k : ℕ) → k ≤ top_of file → Number (alone (file_depth file) (packed_room file)) (suc (suc k)) (records_at file k)
  -- it is what is laid out for its depth, root's tag and graph (lists in order)
  pub laid : (file : List ℕ) → Bytes file → proper file ≡ true → is_empty file ≡ false → file ≡ layout (top_of file) (root_tag file) (graph_of file)
  -- or, where it is empty, the 7 bytes of its depth
  pub laid_empty : (file : List ℕ) → Bytes file → proper file ≡ true → is_empty file ≡ true → file ≡ empty_file (file_depth file)
  -- so two proper files with the same depth, root's tag and graph are the same bytes
  pub same : (file file' : List ℕ) → Bytes file → Bytes file' → proper file ≡ true → proper file' ≡ true → file_depth file ≡ file_depth file' → root_tag file ≡ root_tag file'
      → graph_of file ≡ graph_of file' → file ≡ file'
  -- it opens
  pub opened : (file : List ℕ) → proper file ≡ true → open_outcome file ≡ outcome (told 0 (file_depth file ∷ starts_of file)) (file ∷ [])
  -- and a question on the opened scene gives its room's voxel and the height of its emptiness
  pub questioned : (file : List ℕ) (v : Point) → Bytes file → proper file ≡ true → Inside (2 ^ file_depth file) v
      → ask_outcome file (file_depth file) (starts_of file) v ≡ outcome (told 0 (bit_for (packed_room file v) ∷ packed_path file v ∷ empty_at (file_depth file) (packed_room file) v ∷ [])) []

-- ---- C8, opened scenes

pub record C8 : Type 0 where
  -- a question on an opened scene answers as the packed voxel on its bytes
  pub asked : (file part starts : List ℕ) (D : ℕ) (v : Point) → open_outcome file ≡ outcome (told 0 (D ∷ starts)) (part ∷ [])
      → (part ≡ file) × (ask_outcome part D starts v ≡ packed_voxel_outcome file v)
  -- and one on a refused opening is refused by 6
  pub refused : (file part starts : List ℕ) (n D : ℕ) (v : Point) → open_outcome file ≡ outcome (told (suc n) (D ∷ starts)) (part ∷ [])
      → (part ≡ []) × (ask_outcome part D starts v ≡ outcome (told 6 (0 ∷ 0 ∷ 0 ∷ [])) [])

-- ---- C9, detail: the floats that the code compares, against whole numbers

pub record C9 : Type 0 where
  -- doubling the factor, an f64, up to 16 times loses nothing
  pub exact : (h : ℕ) (f : Float) → h ≤ deepest → T (fits binary64 f) → T (factor_ok f) → HasValue (doubled h f) false (2 ^ h * num f) (den f)
  -- so comparing the doubled factor with the distance compares the exact values
  pub compared : (h : ℕ) (f d : Float) → h ≤ deepest → T (fits binary64 f) → T (factor_ok f) → T (distance_ok d)
      → le (doubled h f) d ≡ reaches (num f) (den f) d h

-- ---- C10, samples: S1 to S12 and that of document 02, request 4, one list

abbrev pub C10 : Type 0
C10 = all_in holds samples ≡ true

-- ---- C11, what is not looked at

-- two stores that agree on the words used give the same answer and the same used words afterwards, and each keeps its own rest
pub record SameAnswer (c : Call) (ws ws' : List ℕ) : Type 0 where
  pub number : (outcome_of ws c).number ≡ (outcome_of ws' c).number
  pub values : (outcome_of ws c).values ≡ (outcome_of ws' c).values
  pub lent : besides ws c ≡ besides ws' c
  pub first : take (used_by ws c) (words_after ws c) ≡ take (used_by ws c) (words_after ws' c)
  pub rest : drop (used_by ws c) (words_after ws c) ≡ drop (used_by ws c) ws
  pub rest' : drop (used_by ws c) (words_after ws' c) ≡ drop (used_by ws c) ws'

-- two outcomes that differ only where a slice lent to them kept what it held: the same number and values, and the same m elements at the front
pub record SameBut (m : ℕ) (o o' : Outcome) (was was' : List ℕ) (i : ℕ) : Type 0 where
  pub number : o.number ≡ o'.number
  pub values : o.values ≡ o'.values
  pub front : take m (get_or o.lent i []) ≡ take m (get_or o'.lent i [])
  pub kept : drop m (get_or o.lent i []) ≡ drop m was
  pub kept' : drop m (get_or o'.lent i []) ≡ drop m was'

-- the length written, 0 on a refusal
abbrev pub length_in : Outcome → ℕ
length_in o = get_or o.values 0 0

pub record C11 : Type 0 where
  pub stores : (c : Call) (ws ws' : List ℕ) → take (used_by ws c) ws ≡ take (used_by ws c) ws' → SameAnswer c ws ws'
  -- outline out, pack and check answer alike whatever output and scratch held before
  pub outlines : (ws : List ℕ) (n : ℕ) (out out' : List ℕ) → length out ≡ length out'
      → SameBut (length_in (outline_outcome ws n out)) (outline_outcome ws n out) (outline_outcome ws n out') out out' 0
  pub packs : (ws : List ℕ) (n : ℕ) (scratch scratch' out out' : List ℕ) → length scratch ≡ length scratch' → length out ≡ length out'
      → SameBut (length_in (pack_outcome ws n scratch out)) (pack_outcome ws n scratch out) (pack_outcome ws n scratch' out') out out' 1
  pub checks : (file scratch scratch' : List ℕ) → length scratch ≡ length scratch'
      → ((check_outcome file scratch).number ≡ (check_outcome file scratch').number) × ((check_outcome file scratch).values ≡ (check_outcome file scratch').values)
  -- pack's scratch is zero afterwards as far as it was needed, but as it was after 2, 9 and 11
  pub pack_scratch_lem : (ws : List ℕ) (n : ℕ) (scratch out : List ℕ)
      → get_or (pack_outcome ws n scratch out).lent 0 [] ≡ cond (is_in (pack_outcome ws n scratch out).number (2 ∷ 9 ∷ 11 ∷ [])) scratch (cleared (scratch_for ws) scratch)
  -- check's after 0 and 6, else as it was
  pub check_scratch : (file scratch : List ℕ)
      → get_or (check_outcome file scratch).lent 0 [] ≡ cond (is_in (check_outcome file scratch).number (0 ∷ 6 ∷ [])) (cleared (length file) scratch) scratch

-- ---- C12, what a walk tells, on any words and bytes; and what `empty_at` says of a room

pub record C12 : Type 0 where
  -- a voxel that a store answers is the one that its cells mean, whoever wrote them
  pub means : (ws : List ℕ) (n : ℕ) (v : Point) → (voxel_outcome ws n v).number ≡ 0 → get_or (voxel_outcome ws n v).values 0 0 ≡ bit_for (of_scene root_room ws n v)
  -- document 02, request 2: an empty answer with height h is a whole cell's: each point in one cell of height h with v gets the same, records included
  pub shared : (ws : List ℕ) (n h : ℕ) (v w : Point) → voxel_outcome ws n v ≡ outcome (told 0 (0 ∷ h ∷ [])) [] → OneCell h v w → voxel_outcome ws n w ≡ voxel_outcome ws n v
  pub packed_shared : (file : List ℕ) (m h : ℕ) (v w : Point) → packed_voxel_outcome file v ≡ outcome (told 0 (0 ∷ m ∷ h ∷ [])) [] → OneCell h v w
      → packed_voxel_outcome file w ≡ packed_voxel_outcome file v
  pub ask_shared : (file starts : List ℕ) (D m h : ℕ) (v w : Point) → ask_outcome file D starts v ≡ outcome (told 0 (0 ∷ m ∷ h ∷ [])) [] → OneCell h v w
      → ask_outcome file D starts w ≡ ask_outcome file D starts v
  -- what C4, C6 and C7 say by `empty_at`: it is 0 exactly where v's leaf is non-empty, or else from 2 up to the depth
  pub leaf : (D : ℕ) (r : Room) (v : Point) → (empty_at D r v ≡ 0) ↔ NonEmpty (2 ^ 2) (cell_around r 2 v)
  pub range : (D : ℕ) (r : Room) (v : Point) → T (depth_ok D) → ¬ (empty_at D r v ≡ 0) → (2 ≤ empty_at D r v) × (empty_at D r v ≤ D)
  -- where v is empty, so is the cell of that height around it: in a non-empty leaf the voxel alone
  pub empty : (D : ℕ) (r : Room) (v : Point) → r v ≡ false → ¬ NonEmpty (2 ^ empty_at D r v) (cell_around r (empty_at D r v) v)
  -- and from height 2 up it is the greatest: the cell one height up around v, unless the height is the depth, is non-empty
  pub greatest : (D : ℕ) (r : Room) (v : Point) → ¬ (empty_at D r v ≡ 0) → empty_at D r v < D → NonEmpty (2 ^ suc (empty_at D r v)) (cell_around r (suc (empty_at D r v)) v)

-- ---- C13, sight lines (document 02, request 3)

-- v is the first voxel of a room that blocks the line from a to b: solid, met, no end, and every other such voxel comes after it
pub record FirstBlock (r : Room) (a b v : Point) : Type 0 where
  pub between : Between a b v
  pub solid : r v ≡ true
  pub first : (w : Point) → Between a b w → r w ≡ true → ¬ (w ≡ v) → Before a b v w

-- the voxels tested between a and b, in their order; v is one of them
abbrev pub tested_at : Point → Point → ℕ → Point
tested_at a b i = get_or (tested a b) i (point 0 0 0)

abbrev pub IsTested : Point → Point → Point → Type 0
IsTested a b v = (i : ℕ) × (i < length (tested a b)) × (tested_at a b i ≡ v)

pub record C13 : Type 0 where
  -- the voxels tested are those met but for the ends, each once, in their order along the segment
  pub tested_met : (a b v : Point) → IsTested a b v ↔ Between a b v
  pub ordered : (a b : Point) (i j : ℕ) → i < j → j < length (tested a b) → Before a b (tested_at a b i) (tested_at a b j)
  -- on stores that only the calls wrote, blocked at v exactly where v is the first that blocks, clear exactly where none does
  pub blocked : (s : State) → Reached s → (n : ℕ) (sc : Scene) (a b v : Point) → s.held n ≡ some sc → Inside (2 ^ sc.depth) a → Inside (2 ^ sc.depth) b
      → (sight_outcome s.words n a b ≡ outcome (told 0 (1 ∷ v.x ∷ v.y ∷ v.z ∷ [])) []) ↔ FirstBlock sc.room a b v
  pub clear : (s : State) → Reached s → (n : ℕ) (sc : Scene) (a b : Point) → s.held n ≡ some sc → Inside (2 ^ sc.depth) a → Inside (2 ^ sc.depth) b
      → (sight_outcome s.words n a b ≡ outcome (told 0 (0 ∷ 0 ∷ 0 ∷ 0 ∷ [])) []) ↔ ((v : Point) → Between a b v → sc.room v ≡ false)
  -- on any words the line is clear from a to b exactly where it is from b to a
  pub both_ways : (ws : List ℕ) (n : ℕ) (a b : Point)
      → (sight_outcome ws n a b ≡ outcome (told 0 (0 ∷ 0 ∷ 0 ∷ 0 ∷ [])) []) ↔ (sight_outcome ws n b a ≡ outcome (told 0 (0 ∷ 0 ∷ 0 ∷ 0 ∷ [])) [])

-- ---- C14, solid counts (document 02, request 1)

-- how many voxels of a cube of edge S are solid
abbrev pub solid_count : ℕ → Room → ℕ
solid_count S r = box_count S r origin (far S)

pub record CountsTrue (ws : List ℕ) : Type 0 where
  -- each kept cell's count is the number of its solid voxels
  pub counts : (k q : ℕ) → q < length (cells_at (kept_of ws) k) → count_of ws k q ≡ solid_count (edge k) (kept_room ws k q)
  -- a box of a scene held answers how many of the box's voxels are solid
  pub boxes : (n : ℕ) (low high : Point) → T (is_held ws n) → box_outside ws n low high ≡ false
      → box_outcome ws n low high ≡ outcome (told 0 (box_count (2 ^ scene_depth ws n) (of_scene root_room ws n) low high ∷ [])) []

pub record C14 : Type 0 where
  -- on every store that passes the whole store's test, whoever wrote it
  pub any : (ws : List ℕ) → T (store_ok ws) → CountsTrue ws
  -- so on every store that only the calls wrote
  pub ours : (s : State) → Reached s → CountsTrue s.words

-- ---- C15, anything in the way (document 02, request 5)

-- what a search of a scene held answers: yes exactly where the box has a solid voxel (so where the box call, by C14, counts above 0), after at most so many
-- cells as are non-empty, of heights 2 to D, and share a voxel with the box
pub record AnyTrue (ws : List ℕ) (n : ℕ) (low high : Point) : Type 0 where
  pub entered : ℕ
  pub answer : any_outcome ws n low high ≡ outcome (told 0 (bit_for (ltb 0 (box_count (2 ^ scene_depth ws n) (of_scene root_room ws n) low high)) ∷ entered ∷ [])) []
  pub most : entered ≤ sharing (scene_depth ws n) (of_scene root_room ws n) low high

pub record Searches (ws : List ℕ) : Type 0 where
  pub boxes : (n : ℕ) (low high : Point) → T (is_held ws n) → box_outside ws n low high ≡ false → AnyTrue ws n low high
  -- from a cell wholly inside the search goes straight down, one cell of each height, and meets a solid voxel in that leaf
  pub straight : (k q m : ℕ) (low high : Point) → q < length (cells_at (kept_of ws) k) → m < 8 → is_whole (edge k) low high ≡ true
      → cell_search (kept_of ws) k q m low high ≡ Met (suc k)
  -- so the whole room of a scene that isn't empty answers yes, after a cell for each height
  pub whole : (n : ℕ) → T (is_held ws n) → NonEmpty (2 ^ scene_depth ws n) (of_scene root_room ws n)
      → any_outcome ws n origin (far (2 ^ scene_depth ws n)) ≡ outcome (told 0 (1 ∷ (scene_depth ws n - 1) ∷ [])) []

pub record C15 : Type 0 where
  -- on every store of 32-bit words that passes the whole store's test, whoever wrote it (a leaf's high word past 32 bits would pass and have no voxel)
  pub any : (ws : List ℕ) → T (store_ok ws) → ((i : ℕ) → get_or ws i 0 < 2 ^ 32) → Searches ws
  -- so on every store that only the calls wrote
  pub ours : (s : State) → Reached s → Searches s.words

-- ---- C16, chains (document 02, request 10)

-- a chain followed from a link (a number plus 1, or 0 at its end), at most n cells of it: the numbers of its cells, in its order
unfoldable pub followed : List ℕ → ℕ → ℕ → ℕ → List ℕ
followed ws k zero link = []
followed ws k (suc n) zero = []
followed ws k (suc n) (suc m) = m ∷ followed ws k n (get_or ws (next_position (capacity_of ws) k m) 0)

-- chain j of list k as the words have it; one cell more is asked for than are kept, so that a ring shows as a list too long
abbrev pub chain_read : List ℕ → ℕ → ℕ → List ℕ
chain_read ws k j = followed ws k (suc (kept_count ws k)) (get_or ws (head_position (capacity_of ws) k j) 0)

-- the numbers, rising, of those of some cells of list k, counted from n, that are in chain j
unfoldable pub numbers_in : ℕ → ℕ → ℕ → List Cell → List ℕ
numbers_in k j n [] = []
numbers_in k j n (c ∷ cs) = let r = numbers_in k j (suc n) cs in cond (eqb (chain_of k c) j) (n ∷ r) r

-- the first of these numbers whose cell passes under some mirror, with the lowest such mirror
unfoldable pub find_along : (Cell → ℕ → Bool) → List Cell → List ℕ → Option ℕ
find_along p cs [] = O.none
find_along p cs (n ∷ ns) = let r = find_along p cs ns in or_found (lowest 8 0 (p (get_or cs n []))) n r

-- a cell of pointers mirrored by t ('A mirrored cell'): each pointer in the place mirrored by t, its own mirror so changed
abbrev pub turned : ℕ → ℕ → ℕ
turned t p = cond (eqb p 0) 0 (bit_xor (tag_of p) t * tag_unit + low_of p)

abbrev pub turned_cell : ℕ → Cell → Cell
turned_cell t c = tabulate 0 8 (λ i. turned t (get_or c (bit_xor i t) 0))

-- a cell whose chain can be followed for it: any leaf, or a cell without a bad pointer
abbrev pub Seekable : List (List Cell) → ℕ → Cell → Type 0
Seekable K zero c = Unit {0}
Seekable K (suc k) c = any_bad (length (cells_at K k)) c ≡ false

pub record ChainsTrue (ws : List ℕ) : Type 0 where
  -- a chain has exactly the kept cells that are in it by their key or their ones, numbers rising
  pub each : (k j : ℕ) → k < heights → j < chains → chain_read ws k j ≡ numbers_in k j 0 (cells_at (kept_of ws) k)
  -- a number that isn't kept has no next word
  pub spare : (k n : ℕ) → k < heights → kept_count ws k ≤ n → n < capacity_of ws → get_or ws (next_position (capacity_of ws) k n) 0 ≡ 0
  -- along the chain of a cell the same cell is found, with the same mirror, as among all that are kept
  pub found : (k : ℕ) (c : Cell) → k < heights → Seekable (kept_of ws) k c
      → find_along (matches (kept_of ws) k c) (cells_at (kept_of ws) k) (chain_read ws k (chain_of k c)) ≡ find (matches (kept_of ws) k c) (cells_at (kept_of ws) k) 0

pub record C16 : Type 0 where
  -- every cell has a chain
  pub some : (k : ℕ) (c : Cell) → chain_of k c < chains
  -- no mirror changes the key of a cell, or the number of a leaf's ones
  pub key : (t : ℕ) (c : Cell) → t < 8 → key_of (turned_cell t c) ≡ key_of c
  pub ones : (t n : ℕ) → t < 8 → leaf_solid (mirror_leaf t n) ≡ leaf_solid n
  -- cells that match under some mirror have one chain
  pub same : (K : List (List Cell)) (k : ℕ) (a b : Cell) (t : ℕ) → t < 8 → Seekable K k a → Seekable K k b → matches K k a b t ≡ true → chain_of k a ≡ chain_of k b
  -- on every store that passes the whole store's test, whoever wrote it
  pub any : (ws : List ℕ) → T (store_ok ws) → ChainsTrue ws
  -- so on every store that only the calls wrote
  pub ours : (s : State) → Reached s → ChainsTrue s.words

-- ---- C17, the headset profile (document 02, request 12)

pub record C17 : Type 0 where
  -- the headset check answers 0 exactly on files that meet the profile: proper, of depth at most 10, no pointer long (with scratch enough to look)
  pub checked : (file scratch : List ℕ) → Bytes file → ((headset_check_outcome file scratch).number ≡ 0) ↔ ((meets_headset file ≡ true) × (length file ≤ length scratch))
  -- a proper file has no long pointer exactly where no record below the top starts past place 8,191
  pub long : (file : List ℕ) → Bytes file → proper file ≡ true → is_empty file ≡ false
      → all_short file ≡ all_below (top_of file) (λ k. all_in (λ p. leb p farthest_short) (places_at file k))
  -- where the headset packing is accepted, its outcome is pack's, all of it ('the ordinary bytes')
  pub ordinary : (ws : List ℕ) (n : ℕ) (scratch out : List ℕ) → (headset_pack_outcome ws n scratch out).number ≡ 0 → headset_pack_outcome ws n scratch out ≡ pack_outcome ws n scratch out
  -- of the scenes held it refuses by 14 and 15 just those whose packed file doesn't meet the profile
  pub refused : (s : State) → Reached s → (n : ℕ) (sc : Scene) → s.held n ≡ some sc → (scratch out : List ℕ) → scratch_for s.words ≤ length scratch
      → is_in (headset_pack_outcome s.words n scratch out).number (14 ∷ 15 ∷ []) ≡ not (meets_headset (pack_bytes s.words n))
  -- and what it writes passes the headset check
  pub passes : (s : State) → Reached s → (n : ℕ) (scratch out scratch' : List ℕ) → (headset_pack_outcome s.words n scratch out).number ≡ 0
      → length (pack_bytes s.words n) ≤ length scratch' → (headset_check_outcome (pack_bytes s.words n) scratch').number ≡ 0
  -- both answer alike whatever output and scratch held before
  pub packs : (ws : List ℕ) (n : ℕ) (scratch scratch' out out' : List ℕ) → length scratch ≡ length scratch' → length out ≡ length out'
      → SameBut (length_in (headset_pack_outcome ws n scratch out)) (headset_pack_outcome ws n scratch out) (headset_pack_outcome ws n scratch' out') out out' 1
  pub checks : (file scratch scratch' : List ℕ) → length scratch ≡ length scratch'
      → ((headset_check_outcome file scratch).number ≡ (headset_check_outcome file scratch').number) × ((headset_check_outcome file scratch).values ≡ (headset_check_outcome file scratch').values)
  -- the packing's scratch is zero afterwards as far as it was needed, but as it was after 2, 9 and 11; the check's after 0, 6, 14 and 15, else as it was
  pub pack_scratch_lem : (ws : List ℕ) (n : ℕ) (scratch out : List ℕ)
      → get_or (headset_pack_outcome ws n scratch out).lent 0 []
      ≡ cond (is_in (headset_pack_outcome ws n scratch out).number (2 ∷ 9 ∷ 11 ∷ [])) scratch (cleared (scratch_for ws) scratch)
  pub check_scratch : (file scratch : List ℕ)
      → get_or (headset_check_outcome file scratch).lent 0 []
      ≡ cond (is_in (headset_check_outcome file scratch).number (0 ∷ 6 ∷ 14 ∷ 15 ∷ [])) (cleared (length file) scratch) scratch
