-- Any list of calls on a new store, and the scenes accepted on the way: what the claims about runs speak of. Definitions only.
use Rattle.std.specs.Prelude.{Bool, true, false, cond, List, [], ◌∷◌, ◌≡◌, ℕ, ◌-◌, ◌<◌, ◌≤◌, ◌^◌, eqb, length, get_or}
use Rattle.std.proofs.Math.Option.{Option, some}
use Rattle.std.proofs.Math.Option as O
use Rattle.paper.specs.Rooms.{Point, Room, Inside, cell_of, Same, Image, NonEmpty}
use Rattle.paper.specs.Outline.{file_depth, file_room}
use Rattle.paper.specs.Store.{used, capacity_of, kept_of, cell_at}
use Rattle.paper.specs.Meaning.{cell_voxel}
use Rattle.paper.specs.Answers.{Outcome}
use Rattle.paper.specs.Detail.{detail_outcome}
use Rattle.paper.specs.Calls.{new_outcome, add_outcome, voxel_outcome, cell_outcome, box_outcome, kept_outcome, outline_outcome, pack_outcome, check_outcome, packed_voxel_outcome, open_outcome, ask_outcome}
use Rattle.paper.specs.Sight.{sight_outcome}
use Rattle.paper.specs.Anything.{any_outcome}
use Rattle.paper.specs.Headset.{headset_check_outcome, headset_pack_outcome}
use Rattle.paper.specs.declared.Wish.{Wish}

-- ---- calls

-- a question on a store, with its arguments and what is lent to it beside the store: it reads the words and changes none
pub data StoreQuestion : Type 0 where
  voxel : ℕ → Point → StoreQuestion
  sight : ℕ → Point → Point → StoreQuestion
  cell : ℕ → ℕ → Point → StoreQuestion
  box : ℕ → Point → Point → StoreQuestion
  anything : ℕ → Point → Point → StoreQuestion
  kept : ℕ → StoreQuestion
  outline : ℕ → List ℕ → StoreQuestion
  pack : ℕ → List ℕ → List ℕ → StoreQuestion
  headset_pack : ℕ → List ℕ → List ℕ → StoreQuestion

-- a question that looks at no store: on a packed file, or on detail
pub data FileQuestion : Type 0 where
  check : List ℕ → List ℕ → FileQuestion
  headset_check : List ℕ → List ℕ → FileQuestion
  packed_voxel : List ℕ → Point → FileQuestion
  opening : List ℕ → FileQuestion
  ask : List ℕ → ℕ → List ℕ → Point → FileQuestion
  detail : ℕ → Wish → FileQuestion

-- a call with its arguments and what is lent to it beside the store: any numbers, any bytes, any output and scratch
pub data Call : Type 0 where
  new : ℕ → Call
  add : List ℕ → Call
  of_store : StoreQuestion → Call
  of_file : FileQuestion → Call

-- bytes are below 256
abbrev pub Bytes : List ℕ → Type 0
Bytes bs = (i : ℕ) → get_or bs i 0 < 256

-- the file that is added is bytes
abbrev pub Given : Call → Type 0
Given (new C) = Unit {0}
Given (add file) = Bytes file
Given (of_store q) = Unit {0}
Given (of_file q) = Unit {0}

-- what a question answers on these words
abbrev pub store_answer : List ℕ → StoreQuestion → Outcome
store_answer ws (voxel n v) = voxel_outcome ws n v
store_answer ws (sight n a b) = sight_outcome ws n a b
store_answer ws (cell n h c) = cell_outcome ws n h c
store_answer ws (box n low high) = box_outcome ws n low high
store_answer ws (anything n low high) = any_outcome ws n low high
store_answer ws (kept h) = kept_outcome ws h
store_answer ws (outline n out) = outline_outcome ws n out
store_answer ws (pack n scratch out) = pack_outcome ws n scratch out
store_answer ws (headset_pack n scratch out) = headset_pack_outcome ws n scratch out

-- what a question that looks at no store answers
abbrev pub file_answer : FileQuestion → Outcome
file_answer (check file scratch) = check_outcome file scratch
file_answer (headset_check file scratch) = headset_check_outcome file scratch
file_answer (packed_voxel file v) = packed_voxel_outcome file v
file_answer (opening file) = open_outcome file
file_answer (ask file D starts v) = ask_outcome file D starts v
file_answer (detail D w) = detail_outcome D w

-- what a call answers on these words
abbrev pub outcome_of : List ℕ → Call → Outcome
outcome_of ws (new C) = new_outcome C ws
outcome_of ws (add file) = add_outcome ws file
outcome_of ws (of_store q) = store_answer ws q
outcome_of ws (of_file q) = file_answer q

-- new store and add write the store, and are lent nothing else for writing
abbrev pub writes : Call → Bool
writes (new C) = true
writes (add file) = true
writes (of_store q) = false
writes (of_file q) = false

-- the store afterwards
abbrev pub words_after : List ℕ → Call → List ℕ
words_after ws c = cond (writes c) (get_or (outcome_of ws c).lent 0 []) ws

-- what else was lent for writing, afterwards
abbrev pub besides : List ℕ → Call → List (List ℕ)
besides ws c = cond (writes c) [] (outcome_of ws c).lent

-- ---- scenes: a map from number to what was accepted under it

-- the file that came, its depth and its room
pub record Scene : Type 0 where
  pub file : List ℕ
  pub depth : ℕ
  pub room : Room

abbrev pub scene_of : List ℕ → Scene
scene_of file = record { file = file; depth = file_depth file; room = file_room file }

abbrev pub Held : Type 0
Held = ℕ → Option Scene

abbrev pub nothing : Held
nothing n = O.none

abbrev pub holding : ℕ → Scene → Held → Held
holding n s held m = cond (eqb m n) (some s) (held m)

-- a room alone, under number 0
abbrev pub alone : ℕ → Room → Held
alone D r = holding 0 (record { file = []; depth = D; room = r }) nothing

-- ---- a run

pub record State : Type 0 where
  pub words : List ℕ
  pub held : Held
  -- the C of the last accepted new store
  pub capacity : ℕ

abbrev pub accepted : Outcome → Bool
accepted o = eqb o.number 0

-- an accepted new store holds nothing; an accepted file is held under the number answered; nothing else changes what is held
abbrev pub held_after : State → Call → Held
held_after s (new C) = cond (accepted (new_outcome C s.words)) nothing s.held
held_after s (add file) =
    cond (accepted (add_outcome s.words file)) (holding (get_or (add_outcome s.words file).values 0 0) (scene_of file) s.held) s.held
held_after s (of_store q) = s.held
held_after s (of_file q) = s.held

-- an accepted new store has the capacity given; nothing else changes it
abbrev pub capacity_after : State → Call → ℕ
capacity_after s (new C) = cond (accepted (new_outcome C s.words)) C s.capacity
capacity_after s (add file) = s.capacity
capacity_after s (of_store q) = s.capacity
capacity_after s (of_file q) = s.capacity

abbrev pub step : State → Call → State
step s c = record { words = words_after s.words c; held = held_after s c; capacity = capacity_after s c }

unfoldable pub run : State → List Call → State
run s [] = s
run s (c ∷ cs) = run (step s c) cs

-- a new store of capacity C in these words
abbrev pub start : ℕ → List ℕ → State
start C ws = record { words = words_after ws (new C); held = nothing; capacity = C }

abbrev pub AllGiven : List Call → Type 0
AllGiven [] = Unit {0}
AllGiven (c ∷ cs) = Given c × AllGiven cs

-- a state that some list of calls leads to, from a new store of any capacity in any words
pub record Reached (s : State) : Type 0 where
  pub capacity : ℕ
  pub before : List ℕ
  pub calls : List Call
  pub began : (new_outcome capacity before).number ≡ 0
  pub given : AllGiven calls
  pub led : run (start capacity before) calls ≡ s

-- ---- cells of the scenes held, by their voxels

-- a cell of height h that occurs in a scene held: itself, at an aligned place
pub record Occurs (held : Held) (h : ℕ) (c : Room) : Type 0 where
  pub number : ℕ
  pub scene : Scene
  pub is_held : held number ≡ some scene
  pub low : h ≤ scene.depth
  pub place : Point
  pub in_scene : Inside (2 ^ (scene.depth - h)) place
  pub same : Same (2 ^ h) c (cell_of scene.room h place)

-- cells of height h, each occurring, non-empty, no two of them images
pub record Differing (held : Held) (h : ℕ) (cs : List Room) : Type 0 where
  pub occur : (i : ℕ) → i < length cs → Occurs held h (get_or cs i (λ v. false))
  pub non_empty_lem : (i : ℕ) → i < length cs → NonEmpty (2 ^ h) (get_or cs i (λ v. false))
  pub apart : (i j : ℕ) → i < j → j < length cs → ¬ Image (2 ^ h) (get_or cs i (λ v. false)) (get_or cs j (λ v. false))

-- at some height from 2 up there are more than C of them
pub record Outnumbered (held : Held) (C : ℕ) : Type 0 where
  pub height : ℕ
  pub from : 2 ≤ height
  pub cells : List Room
  pub differing : Differing held height cells
  pub more : C < length cells

-- the number of differing non-empty cells of height h, images counted once: so many there are, and no more
pub record Number (held : Held) (h n : ℕ) : Type 0 where
  pub cells : List Room
  pub differing : Differing held h cells
  pub all : length cells ≡ n
  pub most : (cs : List Room) → Differing held h cs → length cs ≤ n

-- the voxels of kept cell q of list k
abbrev pub kept_room : List ℕ → ℕ → ℕ → Room
kept_room ws k q = cell_voxel (kept_of ws) k (cell_at (kept_of ws) k q)

-- ---- what a call may look at

-- the words that a call uses: those of the capacity given, or of the store's
abbrev pub used_by : List ℕ → Call → ℕ
used_by ws (new C) = used C
used_by ws (add file) = used (capacity_of ws)
used_by ws (of_store q) = used (capacity_of ws)
used_by ws (of_file q) = 0
