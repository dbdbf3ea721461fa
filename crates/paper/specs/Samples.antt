-- Document 01, 'Samples': S1 to S12 as one list, and the order of document 02, request 4, each computed by the outcome functions on words and
-- bytes. A sample is what is got beside what document 01 says, the heights of emptiness by document 02, request 2, the version byte by request 4.
-- Definitions only: the claim that all hold is C10.
use Rattle.std.specs.Prelude.{Bool, false, cond, not, List, [], ◌∷◌, ◌++◌, ℕ, ◌+◌, ◌*◌, ◌%◌, pos, negsuc, Float, take, drop, get_or, replicate}
use Rattle.std.specs.Float.{fin}
use Rattle.paper.specs.Numbers.{flatten, tabulate, bit_for, same_list}
use Rattle.paper.specs.Rooms.{point, Room, mirrored, box_count}
use Rattle.paper.specs.Outline.{file_room}
use Rattle.paper.specs.Store.{used, tag_of, scene_depth, scene_root}
use Rattle.paper.specs.Match.{matches, leaf_cell}
use Rattle.paper.specs.Answers.{Outcome}
use Rattle.paper.specs.Detail.{detail_outcome}
use Rattle.paper.specs.Calls.{new_outcome, add_outcome, voxel_outcome, box_outcome, kept_outcome, pack_outcome, pack_scratch, packed_voxel_outcome}
use Rattle.paper.specs.declared.Wish.TheVariants.{WidestEdge, Distance}

-- what is got, what is said
pub record Sample : Type 0 where
  pub got : List ℕ
  pub said : List ℕ

abbrev pub ◌is◌ : List ℕ → List ℕ → Sample
◌is◌ a b = record { got = a; said = b }

infix 80 ◌is◌
abbrev pub holds : Sample → Bool
holds s = same_list s.got s.said

-- an outcome's number and values; its slice i
abbrev pub answer : Outcome → List ℕ
answer o = o.number ∷ o.values

abbrev pub slice : Outcome → ℕ → List ℕ
slice o i = get_or o.lent i []

-- ---- the stores and files

-- n words or bytes with numbers in them
unfoldable pub noise : ℕ → List ℕ
noise n = tabulate 0 n (λ i. (7 * i + 3) % 256)

-- a new store of capacity C, five words of a slice beyond it
unfoldable pub new_store : ℕ → List ℕ
new_store C = slice (new_outcome C (noise (used C + 5))) 0

-- the room of the program's sample, and rooms P and Q
abbrev pub room : List ℕ
room = 0x11 ∷ 0 ∷ 0 ∷ 0 ∷ 0x17 ∷ 3 ∷ 0x03 ∷ 0 ∷ 0 ∷ 0 ∷ 0 ∷ 0 ∷ 0 ∷ 0 ∷ 1 ∷ 0 ∷ 0 ∷ 0 ∷ 0 ∷ 0 ∷ 0 ∷ 0 ∷ 8 ∷ []

abbrev pub room_p : List ℕ
room_p = 0x11 ∷ 0 ∷ 0 ∷ 0 ∷ 0x17 ∷ 3 ∷ 0x03 ∷ 0 ∷ 0 ∷ 0 ∷ 0 ∷ 0 ∷ 0 ∷ 0x80 ∷ 0x01 ∷ 0 ∷ 0 ∷ 0 ∷ 0 ∷ 0 ∷ 0 ∷ 0 ∷ 1 ∷ []

abbrev pub room_q : List ℕ
room_q = 0x11 ∷ 0 ∷ 0 ∷ 0 ∷ 0x17 ∷ 3 ∷ 0x0C ∷ 0 ∷ 0 ∷ 0 ∷ 0 ∷ 0 ∷ 0 ∷ 0x10 ∷ 0x08 ∷ 0 ∷ 0 ∷ 0 ∷ 0 ∷ 0 ∷ 0 ∷ 0x10 ∷ 0 ∷ []

abbrev pub empty_room : List ℕ
empty_room = 0x11 ∷ 0 ∷ 0 ∷ 0 ∷ 6 ∷ 2 ∷ []

-- a leaf's record with one byte that isn't zero
abbrev pub small_leaf : ℕ → List ℕ
small_leaf b = 0 ∷ 0 ∷ 0 ∷ 0 ∷ 0 ∷ 0 ∷ 0 ∷ b ∷ []

-- a room of depth 4: a cell with leaf 1, one with leaves 1 and 3, one with leaf 7 eight times
abbrev pub bolt_room : List ℕ
bolt_room =
    0x11 ∷ 0 ∷ 0 ∷ 0 ∷ 0x62 ∷ 4 ∷ 0x07 ∷ 0x01 ∷ small_leaf 1 ++ (0x03 ∷ small_leaf 1 ++ (small_leaf 3 ++ (0xFF ∷ flatten (replicate 8 (small_leaf 7)))))

-- the voxels at which two rooms of edge 8 differ
unfoldable pub differing : Room → Room → ℕ
differing a b = box_count 8 (λ v. cond (a v) (not (b v)) (b v)) (point 0 0 0) (point 8 8 8)

-- ---- the list

-- m times 2 ^ e as an f64, and m times 2 ^ -1
abbrev pub whole : ℕ → ℕ → Float
whole m e = fin false m (pos e)

abbrev pub half_of : ℕ → Float
half_of m = fin false m (negsuc 0)

-- D = 6: a widest edge; a distance with its factor
abbrev pub widest : Float → List ℕ
widest e = answer (detail_outcome 6 (WidestEdge e))

abbrev pub distant : Float → Float → List ℕ
distant d f = answer (detail_outcome 6 (Distance (record { distance = d; factor = f })))

-- is leaf 0x8001 matched by itself under t
abbrev pub own_mirror : ℕ → ℕ
own_mirror t = bit_for (matches [] 0 (leaf_cell 0x8001) (leaf_cell 0x8001) t)

-- what pack answers, and the 29 bytes that it wrote
abbrev pub s1 : Outcome → List ℕ → List Sample
s1 room_packed packed =
    answer room_packed is (0 ∷ 29 ∷ [])
    ∷ packed is (0x22 ∷ 0 ∷ 0 ∷ 0 ∷ 0x1D ∷ 3 ∷ 0 ∷ 0 ∷ 0 ∷ 0 ∷ 3 ∷ 0 ∷ 0 ∷ 0 ∷ 1 ∷ 0 ∷ 5 ∷ 0 ∷ 0 ∷ 0x20 ∷ 0 ∷ 0 ∷ 0 ∷ 0 ∷ 0 ∷ 0 ∷ 0 ∷ 0 ∷ 1 ∷ [])
    ∷ []

-- of those bytes
abbrev pub s2_s5 : List ℕ → List Sample
s2_s5 packed =
    answer (packed_voxel_outcome packed (point 7 0 0)) is (0 ∷ 1 ∷ 2 ∷ 0 ∷ [])
    ∷ answer (packed_voxel_outcome packed (point 4 0 0)) is (0 ∷ 0 ∷ 2 ∷ 0 ∷ [])
    ∷ answer (packed_voxel_outcome packed (point 0 4 0)) is (0 ∷ 0 ∷ 1 ∷ 2 ∷ [])
    ∷ answer (packed_voxel_outcome packed (point 8 0 0)) is (10 ∷ 0 ∷ 0 ∷ 0 ∷ [])
    ∷ []

-- of the store with that room
abbrev pub s6 : List ℕ → List Sample
s6 room_store = answer (box_outcome room_store 0 (point 0 0 0) (point 7 8 8)) is (0 ∷ 1 ∷ []) ∷ []

abbrev pub s7 : List Sample
s7 = tabulate 0 8 own_mirror is (1 ∷ 0 ∷ 0 ∷ 1 ∷ 0 ∷ 0 ∷ 0 ∷ 0 ∷ []) ∷ []

-- P, then Q; Q is P mirrored in y; the cells kept at heights 3 and 2; the tag of Q's root
abbrev pub s8 : Outcome → Outcome → List ℕ → List Sample
s8 first second both =
    answer first is (0 ∷ 0 ∷ [])
    ∷ answer second is (0 ∷ 1 ∷ [])
    ∷ (differing (file_room room_q) (mirrored 2 8 (file_room room_p)) ∷ []) is (0 ∷ [])
    ∷ answer (kept_outcome both 3) is (0 ∷ 1 ∷ [])
    ∷ answer (kept_outcome both 2) is (0 ∷ 2 ∷ [])
    ∷ (tag_of (scene_root both 1) ∷ []) is (2 ∷ [])
    ∷ []

-- P in a store with C = 1, which stays as it was, and with C = 2
abbrev pub s9 : List ℕ → List ℕ → List Sample
s9 one two =
    answer (add_outcome one room_p) is (8 ∷ 0 ∷ [])
    ∷ slice (add_outcome one room_p) 0 is one
    ∷ answer (add_outcome two room_p) is (0 ∷ 0 ∷ [])
    ∷ []

abbrev pub s10_s11 : List Sample
s10_s11 =
    widest (whole 1 3) is (0 ∷ 3 ∷ [])
    ∷ widest (half_of 15) is (0 ∷ 2 ∷ [])
    ∷ widest (half_of 1) is (13 ∷ 0 ∷ [])
    ∷ distant (whole 5 1) (half_of 5) is (0 ∷ 2 ∷ [])
    ∷ distant (whole 5 1) (whole 3 0) is (0 ∷ 1 ∷ [])
    ∷ []

-- accepted; its scene's two words: depth 2, no root; nothing solid, and the emptiness is the whole room
abbrev pub s12 : Outcome → List ℕ → List Sample
s12 first ws =
    answer first is (0 ∷ 0 ∷ [])
    ∷ (scene_depth ws 0 ∷ scene_root ws 0 ∷ []) is (2 ∷ 0 ∷ [])
    ∷ answer (box_outcome ws 0 (point 0 0 0) (point 4 4 4)) is (0 ∷ 0 ∷ [])
    ∷ answer (voxel_outcome ws 0 (point 3 3 3)) is (0 ∷ 0 ∷ 2 ∷ [])
    ∷ []

-- document 02, request 4: of the leaves, the one that one record names eight times comes before the one that two records name once each
abbrev pub bolts : Outcome → List Sample
bolts packed =
    answer packed is (0 ∷ 79 ∷ [])
    ∷ drop 55 (slice packed 1) is (small_leaf 7 ++ (small_leaf 1 ++ small_leaf 3))
    ∷ []

unfoldable pub samples : List Sample
samples =
    let one : List ℕ = new_store 1 in
    let two : List ℕ = new_store 2 in
    let four : List ℕ = new_store 4 in
    let large : List ℕ = new_store 32 in
    let room_store : List ℕ = slice (add_outcome large room) 0 in
    let room_packed : Outcome = pack_outcome room_store 0 (noise (pack_scratch 32 + 1)) (noise 40) in
    let packed : List ℕ = take 29 (slice room_packed 1) in
    let first : Outcome = add_outcome four room_p in
    let second : Outcome = add_outcome (slice first 0) room_q in
    let third : Outcome = add_outcome one empty_room in
    let bolts_packed : Outcome = pack_outcome (slice (add_outcome four bolt_room) 0) 0 (noise (pack_scratch 4)) (noise 79) in
    s1 room_packed packed
    ++ (s2_s5 packed ++ (s6 room_store ++ (s7 ++ (s8 first second (slice second 0) ++ (s9 one two ++ (s10_s11 ++ (s12 third (slice third 0) ++ bolts bolts_packed)))))))
