-- The calls of document 01, as document 02 changes them (detail is in Detail): for each its refusals in their order, and its whole outcome: number, values, and every slice lent for
-- writing, to its last element, as the call leaves it. Definitions only. Slices lent for reading only never change.
-- Words (ws, scratch of pack) and bytes (files, out, scratch of check) are lists of numbers.
use Rattle.std.specs.Prelude.{Bool, true, false, cond, not, ◌&&◌, ◌||◌, List, [], ◌∷◌, ◌++◌, ℕ, suc, ◌-◌, ◌*◌, ◌^◌, eqb, leb, ltb, length, drop, replicate, set}
use Rattle.paper.specs.Numbers.{bit_for, same_list}
use Rattle.paper.specs.Rooms.{Point, depth_ok, inside}
use Rattle.paper.specs.Outline.{outline_version, outline_head, longest, outline_of, version_ok, length_ok, file_depth, outline_rules, outline_tree}
use Rattle.paper.specs.Store.{Cell, Store, most_scenes, used, capacity_of, scenes_held, is_held, kept_count, capacity_ok, kept_of, count_of, store_of, words_of, scene_depth, scene_root, header_ok, scene_ok, store_ok}
use Rattle.paper.specs.Meaning.{root_room}
use Rattle.paper.specs.Match.{Adding, full, added, add_tree}
use Rattle.paper.specs.Walk.{End, is_damaged, solid_at, empty_height}
use Rattle.paper.specs.Questions.{Tally, voxel_walk, cell_non_empty, cell_walk_damaged, box_tally, tally_damaged, tally_solid}
use Rattle.paper.specs.Packed.{packed_version, packed_head, head_ok, packed_rules, file_walk, starts_of}
use Rattle.paper.specs.Pack.{packed_file}
use Rattle.paper.specs.Answers.{Outcome}
use Rattle.paper.specs.Order.{Test, when, first_number, settled}

-- the bytes written, then what was there beyond them ('past the written length')
abbrev pub over : List ℕ → List ℕ → List ℕ
over new old = new ++ drop (length new) old

-- the first n are zero, the rest is as it was ('past that size')
abbrev pub cleared : ℕ → List ℕ → List ℕ
cleared n l = replicate n 0 ++ drop n l

-- ---- new store: nothing in it but its capacity ('A new store')

-- the capacity is out of range, or the slice has not all words for it
unfoldable pub bad_size : ℕ → List ℕ → Bool
bad_size C ws = not (capacity_ok C && leb (used C) (length ws))

-- the order ('New store:')
abbrev pub new_order : ℕ → List ℕ → List Test
new_order C ws = when (bad_size C ws) 1 ∷ []

unfoldable pub new_words : ℕ → List ℕ → List ℕ
new_words C ws = set (cleared (used C) ws) 0 C

unfoldable pub new_outcome : ℕ → List ℕ → Outcome
new_outcome C ws = settled (first_number (new_order C ws)) [] (new_words C ws ∷ []) (ws ∷ [])

-- ---- which scenes are held, and the next number

-- the number of the next scene ('count of scenes before')
abbrev pub next_scene : List ℕ → ℕ
next_scene ws = scenes_held ws

-- no scene more can be held: refusal 7
abbrev pub scenes_full : List ℕ → Bool
scenes_full ws = leb most_scenes (scenes_held ws)

-- n is no scene's number: refusal 9
abbrev pub no_scene : List ℕ → ℕ → Bool
no_scene ws n = not (is_held ws n)

-- ---- add

-- the cells of a file added to those of the store
unfoldable pub adding : List ℕ → List ℕ → Adding ℕ
adding ws file = add_tree (capacity_of ws) (outline_tree file) (file_depth file - 2) (kept_of ws)

-- the cells don't fit at some height: refusal 8
abbrev pub is_full : Adding ℕ → Bool
is_full full = true
is_full (added p K) = false

unfoldable pub cells_full : List ℕ → List ℕ → Bool
cells_full ws file = is_full (adding ws file)

-- the refusals of a file by itself: 3,4,5,6
abbrev pub outline_order : List ℕ → List Test
outline_order file =
    when (not (version_ok outline_version file)) 3 ∷ when (not (length_ok outline_head file)) 4
    ∷ when (not (depth_ok (file_depth file))) 5 ∷ when (not (outline_rules file)) 6 ∷ []

-- the order ('Add:')
abbrev pub add_order : List ℕ → List ℕ → List Test
add_order ws file =
    when (not (store_ok ws)) 2 ∷ outline_order file ++ (when (scenes_full ws) 7 ∷ when (cells_full ws file) 8 ∷ [])

-- one scene more, under number n and of depth D: its two words, and the cells
abbrev pub with_scene : Store → ℕ → ℕ → Adding ℕ → Store
with_scene s n D full = s
with_scene s n D (added p K) = record {
  capacity = s.capacity;
  held = suc s.held;
  scenes = set s.scenes n (D ∷ p ∷ []);
  kept = K;
}

-- the store with the scene in it; what lies beyond its words stays ('Words beyond')
unfoldable pub add_words : List ℕ → List ℕ → List ℕ
add_words ws file = over (words_of (with_scene (store_of ws) (next_scene ws) (file_depth file) (adding ws file))) ws

unfoldable pub add_outcome : List ℕ → List ℕ → Outcome
add_outcome ws file = settled (first_number (add_order ws file)) (next_scene ws ∷ []) (add_words ws file ∷ []) (ws ∷ [])

-- ---- voxel, cell, box

-- the order ('Voxel, cell, box:'): damage is judged three times, in the header, in the scene's two words, on the walk
abbrev pub question_order : List ℕ → ℕ → Bool → Bool → List Test
question_order ws n outside walk =
    when (not (header_ok ws)) 2 ∷ when (no_scene ws n) 9 ∷ when (not (scene_ok ws n)) 2 ∷ when outside 10 ∷ when walk 2 ∷ []

-- what a scene's two words ask of the kept cells
abbrev pub of_scene : {A : Type 0} → (List (List Cell) → ℕ → ℕ → A) → List ℕ → ℕ → A
of_scene f ws n =
    let K : List (List Cell) = kept_of ws in
    let D : ℕ = scene_depth ws n in
    let p : ℕ = scene_root ws n in
    f K D p

unfoldable pub voxel_outside : List ℕ → ℕ → Point → Bool
voxel_outside ws n v = not (inside (2 ^ scene_depth ws n) v)

unfoldable pub voxel_damaged : List ℕ → ℕ → Point → Bool
voxel_damaged ws n v = is_damaged (of_scene voxel_walk ws n v).end

-- the voxel, and the height of the emptiness (document 02, request 2)
unfoldable pub voxel_outcome : List ℕ → ℕ → Point → Outcome
voxel_outcome ws n v =
    let end : End = (of_scene voxel_walk ws n v).end in
    settled (first_number (question_order ws n (voxel_outside ws n v) (voxel_damaged ws n v))) (bit_for (solid_at end) ∷ empty_height end ∷ []) [] []

-- the height is above the room's, or no cell of that height has these coordinates
unfoldable pub cell_outside : List ℕ → ℕ → ℕ → Point → Bool
cell_outside ws n h c = not (leb h (scene_depth ws n)) || not (inside (2 ^ (scene_depth ws n - h)) c)

unfoldable pub cell_damaged : List ℕ → ℕ → ℕ → Point → Bool
cell_damaged ws n h c = of_scene cell_walk_damaged ws n h c

unfoldable pub cell_outcome : List ℕ → ℕ → ℕ → Point → Outcome
cell_outcome ws n h c =
    let value : ℕ = bit_for (of_scene cell_non_empty ws n h c) in
    settled (first_number (question_order ws n (cell_outside ws n h c) (cell_damaged ws n h c))) (value ∷ []) [] []

-- on one axis: low is above high, or high past the edge
abbrev pub axis_outside : ℕ → ℕ → ℕ → Bool
axis_outside S low high = ltb high low || ltb S high

unfoldable pub box_outside : List ℕ → ℕ → Point → Point → Bool
box_outside ws n low high =
    axis_outside (2 ^ scene_depth ws n) low.x high.x || axis_outside (2 ^ scene_depth ws n) low.y high.y
    || axis_outside (2 ^ scene_depth ws n) low.z high.z

-- what a box finds in a scene
unfoldable pub scene_tally : List ℕ → ℕ → Point → Point → Tally
scene_tally ws n low high = box_tally (kept_of ws) (count_of ws) (scene_depth ws n) (scene_root ws n) low high

unfoldable pub box_damaged : List ℕ → ℕ → Point → Point → Bool
box_damaged ws n low high = tally_damaged (scene_tally ws n low high)

unfoldable pub box_outcome : List ℕ → ℕ → Point → Point → Outcome
box_outcome ws n low high =
    let value : ℕ = tally_solid (scene_tally ws n low high) in
    settled (first_number (question_order ws n (box_outside ws n low high) (box_damaged ws n low high))) (value ∷ []) [] []

-- ---- kept

-- the order ('Kept:'); a height that keeps cells is a depth that a scene can have
abbrev pub kept_order : List ℕ → ℕ → List Test
kept_order ws h = when (not (header_ok ws)) 2 ∷ when (not (depth_ok h)) 10 ∷ []

unfoldable pub kept_outcome : List ℕ → ℕ → Outcome
kept_outcome ws h = settled (first_number (kept_order ws h)) (kept_count ws (h - 2) ∷ []) [] []

-- ---- outline out

-- the outline of a scene's room
unfoldable pub outline_bytes : List ℕ → ℕ → List ℕ
outline_bytes ws n = outline_of (scene_depth ws n) (of_scene root_room ws n)

-- the output doesn't hold what is to be written
abbrev pub out_short : List ℕ → List ℕ → Bool
out_short new out = ltb (length out) (length new)

-- nor does the length field a length past the longest ('also past')
unfoldable pub outline_short : List ℕ → ℕ → List ℕ → Bool
outline_short ws n out = out_short (outline_bytes ws n) out || ltb longest (length (outline_bytes ws n))

-- the order ('Outline out:')
abbrev pub outline_out_order : List ℕ → ℕ → List ℕ → List Test
outline_out_order ws n out = when (not (store_ok ws)) 2 ∷ when (no_scene ws n) 9 ∷ when (outline_short ws n out) 12 ∷ []

unfoldable pub outline_outcome : List ℕ → ℕ → List ℕ → Outcome
outline_outcome ws n out =
    settled (first_number (outline_out_order ws n out)) (length (outline_bytes ws n) ∷ []) (over (outline_bytes ws n) out ∷ []) (out ∷ [])

-- ---- pack

-- the words of scratch that pack takes ('Scratch:')
abbrev pub pack_scratch : ℕ → ℕ
pack_scratch C = 60 * C

abbrev pub scratch_for : List ℕ → ℕ
scratch_for ws = pack_scratch (capacity_of ws)

unfoldable pub pack_bytes : List ℕ → ℕ → List ℕ
pack_bytes ws n = of_scene packed_file ws n

unfoldable pub pack_short : List ℕ → ℕ → List ℕ → Bool
pack_short ws n out = out_short (pack_bytes ws n) out

-- the order ('Pack:')
abbrev pub pack_order : List ℕ → ℕ → List ℕ → List ℕ → List Test
pack_order ws n scratch out =
    when (not (store_ok ws)) 2 ∷ when (no_scene ws n) 9 ∷ when (ltb (length scratch) (scratch_for ws)) 11
    ∷ when (pack_short ws n out) 12 ∷ []

-- the scratch after a refusal ('That much is zero'): cleared after 12, as it was after the others
abbrev pub pack_scratch_after : ℕ → List ℕ → List ℕ → List ℕ
pack_scratch_after number ws scratch = cond (eqb number 12) (cleared (scratch_for ws) scratch) scratch

unfoldable pub pack_outcome : List ℕ → ℕ → List ℕ → List ℕ → Outcome
pack_outcome ws n scratch out =
    let number : ℕ = first_number (pack_order ws n scratch out) in
    settled number (length (pack_bytes ws n) ∷ []) (cleared (scratch_for ws) scratch ∷ over (pack_bytes ws n) out ∷ [])
    (pack_scratch_after number ws scratch ∷ out ∷ [])

-- ---- packed check

-- the refusals of a packed file before its rules: 3,4,5
abbrev pub packed_order : List ℕ → List Test → List Test
packed_order file rest =
    when (not (version_ok packed_version file)) 3 ∷ when (not (length_ok packed_head file)) 4 ∷ when (not (depth_ok (file_depth file))) 5 ∷ rest

-- the order ('Packed check:'); the scratch is too short where it is shorter than the file
abbrev pub check_order : List ℕ → List ℕ → List Test
check_order file scratch =
    when (ltb (length scratch) (length file)) 11 ∷ packed_order file (when (not (packed_rules file)) 6 ∷ [])

-- the scratch after a refusal ('answers 0 and 6'): cleared after 6, as it was after the others
abbrev pub check_scratch_after : ℕ → List ℕ → List ℕ → List ℕ
check_scratch_after number file scratch = cond (eqb number 6) (cleared (length file) scratch) scratch

unfoldable pub check_outcome : List ℕ → List ℕ → Outcome
check_outcome file scratch =
    let number : ℕ = first_number (check_order file scratch) in
    settled number (file_depth file ∷ []) (cleared (length file) scratch ∷ []) (check_scratch_after number file scratch ∷ [])

-- ---- packed voxel

unfoldable pub packed_outside : List ℕ → Point → Bool
packed_outside file v = not (inside (2 ^ file_depth file) v)

unfoldable pub packed_broken : List ℕ → Point → Bool
packed_broken file v = is_damaged (file_walk file v).end

-- the order ('Packed voxel:')
abbrev pub packed_voxel_order : List ℕ → Point → List Test
packed_voxel_order file v = packed_order file (when (packed_outside file v) 10 ∷ when (packed_broken file v) 6 ∷ [])

-- the voxel, the records read, and the height of the emptiness (document 02, request 2)
abbrev pub packed_values : List ℕ → Point → List ℕ
packed_values file v = bit_for (solid_at (file_walk file v).end) ∷ length (file_walk file v).path ∷ empty_height (file_walk file v).end ∷ []

unfoldable pub packed_voxel_outcome : List ℕ → Point → Outcome
packed_voxel_outcome file v = settled (first_number (packed_voxel_order file v)) (packed_values file v) [] []

-- ---- opening, and a question on an opened scene

-- the order ('Opening:'); of the rules, byte 6 and the sizes are judged
abbrev pub open_order : List ℕ → List Test
open_order file = packed_order file (when (not (head_ok file)) 6 ∷ [])

-- depth and list starts. Nothing is lent for writing; in that place stands the part that the scene holds: the file, or nothing after a refusal
unfoldable pub open_outcome : List ℕ → Outcome
open_outcome file = settled (first_number (open_order file)) (file_depth file ∷ starts_of file) (file ∷ []) ([] ∷ [])

-- its bytes open to its numbers
unfoldable pub opens_to : List ℕ → ℕ → List ℕ → Bool
opens_to file D starts = eqb (open_outcome file).number 0 && same_list (open_outcome file).values (D ∷ starts)

-- the order ('A question on an opened'): 6 where the scene is not what opening its bytes gives, then the packed voxel's
abbrev pub ask_order : List ℕ → ℕ → List ℕ → Point → List Test
ask_order file D starts v = when (not (opens_to file D starts)) 6 ∷ packed_voxel_order file v

unfoldable pub ask_outcome : List ℕ → ℕ → List ℕ → Point → Outcome
ask_outcome file D starts v = settled (first_number (ask_order file D starts v)) (packed_values file v) [] []
