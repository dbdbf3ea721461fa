-- The promise of each public call: the outcome read from its answer is the documents'. First what the call is given, then its answer, then each slice
-- lent for writing as the call leaves it. The calls' `ensures` and the theorems of one outcome both cite these. Definitions only.
use Rattle.std.specs.Prelude.{◌≡◌, List, [], ◌∷◌, ℕ, Bool, Result, ⊤}
use Rattle.paper.specs.Rooms.{Point}
use Rattle.paper.specs.Answers.{outcome, started, added, seen, sighted, searched, occupied, counted, kept, written, checked, found, chosen, opened, holds}
use Rattle.paper.specs.Calls.{new_outcome, add_outcome, voxel_outcome, cell_outcome, box_outcome, kept_outcome, outline_outcome, pack_outcome, check_outcome, packed_voxel_outcome, open_outcome, ask_outcome}
use Rattle.paper.specs.Detail.{detail_outcome}
use Rattle.paper.specs.Sight.{sight_outcome}
use Rattle.paper.specs.Headset.{headset_check_outcome, headset_pack_outcome}
use Rattle.paper.specs.Anything.{any_outcome}
use Rattle.paper.specs.declared.Searched.{Searched}
use Rattle.paper.specs.declared.Found.{Found}
use Rattle.paper.specs.declared.Opening.{Opening}
use Rattle.paper.specs.declared.Voxel.{Voxel}
use Rattle.paper.specs.declared.Sight.{Sight}
use Rattle.paper.specs.declared.Refusal.{Refusal}
use Rattle.paper.specs.declared.Wish.{Wish}

-- the capacity, the words; the words afterwards
abbrev pub NewStorePromise : ℕ → List ℕ → Result ⊤ Refusal → List ℕ → Type 0
NewStorePromise C ws r ws' = outcome (started r) (ws' ∷ []) ≡ new_outcome C ws

-- the store's words, the file; the words afterwards
abbrev pub AddPromise : List ℕ → List ℕ → Result ℕ Refusal → List ℕ → Type 0
AddPromise ws file r ws' = outcome (added r) (ws' ∷ []) ≡ add_outcome ws file

-- the store's words, the scene, the point
abbrev pub VoxelPromise : List ℕ → ℕ → Point → Result Voxel Refusal → Type 0
VoxelPromise ws n v r = outcome (seen r) [] ≡ voxel_outcome ws n v

-- the store's words, the scene, the two ends
abbrev pub SightPromise : List ℕ → ℕ → Point → Point → Result Sight Refusal → Type 0
SightPromise ws n a b r = outcome (sighted r) [] ≡ sight_outcome ws n a b

-- the store's words, the scene, the height, the cell
abbrev pub CellPromise : List ℕ → ℕ → ℕ → Point → Result Bool Refusal → Type 0
CellPromise ws n h c r = outcome (occupied r) [] ≡ cell_outcome ws n h c

-- the store's words, the scene, the low and the high corner
abbrev pub BoxPromise : List ℕ → ℕ → Point → Point → Result ℕ Refusal → Type 0
BoxPromise ws n low high r = outcome (counted r) [] ≡ box_outcome ws n low high

-- the store's words, the scene, the low and the high corner
abbrev pub AnyPromise : List ℕ → ℕ → Point → Point → Result Searched Refusal → Type 0
AnyPromise ws n low high r = outcome (searched r) [] ≡ any_outcome ws n low high

-- the store's words, the height
abbrev pub KeptPromise : List ℕ → ℕ → Result ℕ Refusal → Type 0
KeptPromise ws h r = outcome (kept r) [] ≡ kept_outcome ws h

-- the store's words, the scene, the output; the output afterwards
abbrev pub OutlinePromise : List ℕ → ℕ → List ℕ → Result ℕ Refusal → List ℕ → Type 0
OutlinePromise ws n out r out' = outcome (written r) (out' ∷ []) ≡ outline_outcome ws n out

-- the store's words, the scene, scratch and output; both afterwards
abbrev pub PackPromise : List ℕ → ℕ → List ℕ → List ℕ → Result ℕ Refusal → List ℕ → List ℕ → Type 0
PackPromise ws n scratch out r scratch' out' = outcome (written r) (scratch' ∷ out' ∷ []) ≡ pack_outcome ws n scratch out

-- the file, the scratch; the scratch afterwards
abbrev pub CheckPromise : List ℕ → List ℕ → Result ℕ Refusal → List ℕ → Type 0
CheckPromise file scratch r scratch' = outcome (checked r) (scratch' ∷ []) ≡ check_outcome file scratch

-- the headset packing: as pack
abbrev pub HeadsetPackPromise : List ℕ → ℕ → List ℕ → List ℕ → Result ℕ Refusal → List ℕ → List ℕ → Type 0
HeadsetPackPromise ws n scratch out r scratch' out' = outcome (written r) (scratch' ∷ out' ∷ []) ≡ headset_pack_outcome ws n scratch out

-- the headset check: as check
abbrev pub HeadsetCheckPromise : List ℕ → List ℕ → Result ℕ Refusal → List ℕ → Type 0
HeadsetCheckPromise file scratch r scratch' = outcome (checked r) (scratch' ∷ []) ≡ headset_check_outcome file scratch

-- the file, the point
abbrev pub PackedVoxelPromise : List ℕ → Point → Result Found Refusal → Type 0
PackedVoxelPromise file v r = outcome (found r) [] ≡ packed_voxel_outcome file v

-- the file; the opening holds a part of it
abbrev pub OpenPromise : List ℕ → Opening → Type 0
OpenPromise file r = outcome (opened r) (holds r ∷ []) ≡ open_outcome file

-- the bytes held, the depth and the list starts beside them, the point
abbrev pub AskPromise : List ℕ → ℕ → List ℕ → Point → Result Found Refusal → Type 0
AskPromise bytes D starts v r = outcome (found r) [] ≡ ask_outcome bytes D starts v

-- the depth, the wish
abbrev pub DetailPromise : ℕ → Wish → Result ℕ Refusal → Type 0
DetailPromise D wish r = outcome (chosen r) [] ≡ detail_outcome D wish
