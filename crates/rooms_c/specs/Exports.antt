-- The promise of each export: what it is given as in the promise of the call of `rooms`, then the number answered, each value written, and each slice lent
-- for writing as the export leaves it. Its `ensures` and the theorem of one outcome both cite it. Definitions only.
use Rattle.std.specs.Prelude.{◌≡◌, List, [], ◌∷◌, ℕ, Float}
use Rattle.paper.specs.Rooms.{Point}
use Rattle.paper.specs.Answers.{told, outcome}
use Rattle.paper.specs.Calls.{new_outcome, add_outcome, voxel_outcome, cell_outcome, box_outcome, kept_outcome, outline_outcome, pack_outcome, check_outcome, packed_voxel_outcome}
use Rattle.paper.specs.Sight.{sight_outcome}
use Rattle.paper.specs.Anything.{any_outcome}
use Rattle.paper.specs.Headset.{headset_check_outcome, headset_pack_outcome}
use Rattle.rooms_numbers.specs.Numbers.{open_c_outcome, ask_c_outcome, detail_c_outcome}

abbrev pub RoomsNewPromise : ℕ → List ℕ → ℕ → List ℕ → Type 0
RoomsNewPromise C ws r ws' = outcome (told r []) (ws' ∷ []) ≡ new_outcome C ws

abbrev pub RoomsAddPromise : List ℕ → List ℕ → ℕ → ℕ → List ℕ → Type 0
RoomsAddPromise ws file r scene ws' = outcome (told r (scene ∷ [])) (ws' ∷ []) ≡ add_outcome ws file

abbrev pub RoomsVoxelPromise : List ℕ → ℕ → Point → ℕ → ℕ → ℕ → Type 0
RoomsVoxelPromise ws n v r solid height = outcome (told r (solid ∷ height ∷ [])) [] ≡ voxel_outcome ws n v

abbrev pub RoomsSightPromise : List ℕ → ℕ → Point → Point → ℕ → ℕ → ℕ → ℕ → ℕ → Type 0
RoomsSightPromise ws n a b r blocked x y z = outcome (told r (blocked ∷ x ∷ y ∷ z ∷ [])) [] ≡ sight_outcome ws n a b

abbrev pub RoomsCellPromise : List ℕ → ℕ → ℕ → Point → ℕ → ℕ → Type 0
RoomsCellPromise ws n h c r full = outcome (told r (full ∷ [])) [] ≡ cell_outcome ws n h c

abbrev pub RoomsBoxPromise : List ℕ → ℕ → Point → Point → ℕ → ℕ → Type 0
RoomsBoxPromise ws n low high r count = outcome (told r (count ∷ [])) [] ≡ box_outcome ws n low high

-- the store's words, the scene, the low and the high corner; 1 or 0, and the cells entered
abbrev pub RoomsAnyPromise : List ℕ → ℕ → Point → Point → ℕ → ℕ → ℕ → Type 0
RoomsAnyPromise ws n low high r solid entered = outcome (told r (solid ∷ entered ∷ [])) [] ≡ any_outcome ws n low high

abbrev pub RoomsKeptPromise : List ℕ → ℕ → ℕ → ℕ → Type 0
RoomsKeptPromise ws h r count = outcome (told r (count ∷ [])) [] ≡ kept_outcome ws h

abbrev pub RoomsOutlinePromise : List ℕ → ℕ → List ℕ → ℕ → ℕ → List ℕ → Type 0
RoomsOutlinePromise ws n out r len out' = outcome (told r (len ∷ [])) (out' ∷ []) ≡ outline_outcome ws n out

abbrev pub RoomsPackPromise : List ℕ → ℕ → List ℕ → List ℕ → ℕ → ℕ → List ℕ → List ℕ → Type 0
RoomsPackPromise ws n scratch out r len scratch' out' = outcome (told r (len ∷ [])) (scratch' ∷ out' ∷ []) ≡ pack_outcome ws n scratch out

abbrev pub RoomsCheckPromise : List ℕ → List ℕ → ℕ → ℕ → List ℕ → Type 0
RoomsCheckPromise file scratch r depth scratch' = outcome (told r (depth ∷ [])) (scratch' ∷ []) ≡ check_outcome file scratch

-- the headset's: as pack, and as check
abbrev pub RoomsHeadsetPackPromise : List ℕ → ℕ → List ℕ → List ℕ → ℕ → ℕ → List ℕ → List ℕ → Type 0
RoomsHeadsetPackPromise ws n scratch out r len scratch' out' = outcome (told r (len ∷ [])) (scratch' ∷ out' ∷ []) ≡ headset_pack_outcome ws n scratch out

abbrev pub RoomsHeadsetCheckPromise : List ℕ → List ℕ → ℕ → ℕ → List ℕ → Type 0
RoomsHeadsetCheckPromise file scratch r depth scratch' = outcome (told r (depth ∷ [])) (scratch' ∷ []) ≡ headset_check_outcome file scratch

abbrev pub RoomsPackedVoxelPromise : List ℕ → Point → ℕ → ℕ → ℕ → ℕ → Type 0
RoomsPackedVoxelPromise file v r solid records height = outcome (told r (solid ∷ records ∷ height ∷ [])) [] ≡ packed_voxel_outcome file v

-- the numbers, and the numbers afterwards
abbrev pub RoomsOpenPromise : List ℕ → List ℕ → ℕ → List ℕ → Type 0
RoomsOpenPromise file ns r ns' = outcome (told r []) (ns' ∷ []) ≡ open_c_outcome file ns

abbrev pub RoomsAskPromise : List ℕ → List ℕ → Point → ℕ → ℕ → ℕ → ℕ → Type 0
RoomsAskPromise file ns v r solid records height = outcome (told r (solid ∷ records ∷ height ∷ [])) [] ≡ ask_c_outcome file ns v

-- the depth, the wish's kind and its two numbers
abbrev pub RoomsDetailPromise : ℕ → ℕ → Float → Float → ℕ → ℕ → Type 0
RoomsDetailPromise D kind a b r height = outcome (told r (height ∷ [])) [] ≡ detail_c_outcome D kind a b
