-- The records of a proper file are as many, at each height, as the differing non-empty cells of the room that it means; so two proper files of one
-- depth that mean the same voxels have as many. An empty file has no record, and its room no solid voxel. Assumes nothing.
use mathlib.Core.Path.{◌≡◌, refl, sym, ◌∙◌, subst, ap}
use mathlib.Core.Bool.{Bool, true, false, cond}
use mathlib.Core.List.{List}
use Prim.Native.Nat.{ℕ, zero, suc, ◌-◌, ◌*◌, ◌^◌, ◌≤◌}
use native.Mathlib.Omega.{arith}
use lib.Dec.{eqb→eq}
use lib.ListN.{length, drop}
use lib.Seq.{drop-nil, drop-drop}
use Rattle.paper.specs.Numbers.{be, num, count}
use Rattle.paper.specs.Rooms.{Point, Room, Same, mirror}
use Rattle.paper.specs.Outline.{edge, file_depth}
use Rattle.paper.specs.Store.{cells_at}
use Rattle.paper.specs.Packed.{packed_head, root_tag, is_empty, top_of, size_at, starts_from, places_at, graph_of, top_ok, proper, packed_room}
use Rattle.paper.specs.Runs.{Bytes, alone, Number}
use Rattle.paper.specs.Claims.{records_at, record_room}
use Rattle.laws.proofs.Tests.{true-T}
use Rattle.laws.proofs.Outlines.{depth-two}
use Rattle.laws.proofs.PackedLists.{records-length}
use Rattle.laws.proofs.Records.{seen_room}
use Rattle.laws.proofs.Alone.{number_same, number-none, number-one}
use Rattle.laws.proofs.ProperClaim.{proper-passes}
use Rattle.laws.proofs.ProperVoxels.{proper-lists, proper-graph, proper-inv, root_tag_lem}
use Rattle.laws.proofs.GraphCounts.{graph-number}
use Rattle.laws.proofs.RoundTrip.{nothing-more}

module _ (file : List ℕ) (by : Bytes file) (e : proper file ≡ true) where
  deep : suc (suc (top_of file)) ≡ file_depth file
  deep = depth-two (file_depth file) (proper-passes file (true-T e)).deep

  -- ---- an empty one

  module _ (none : is_empty file ≡ true) where
    no_size : (k : ℕ) → size_at file k ≡ 0
    unfolding size_at be
    no_size k =
        let n : ℕ = 4 * (top_of file - k) in
        ap (num 4) (sym (drop-drop n packed_head file) ∙ ap (drop n) (nothing-more file by (proper-passes file (true-T e)) none) ∙ drop-nil n)

    no-places : (k : ℕ) → length (places_at file k) ≡ 0
    unfolding places_at count starts_from
    no-places zero = rw (no_size 0)
    no-places (suc k) = rw (no_size (suc k))

    no-solid : (v : Point) → packed_room file v ≡ false
    unfolding packed_room
    no-solid v = rw none

    empty-counts : (k : ℕ) → k ≤ top_of file → Number (alone (file_depth file) (packed_room file)) (suc (suc k)) (records_at file k)
    empty-counts k h = rw (records-length file k h ∙ no-places k) (number-none (file_depth file) (suc (suc k)) (packed_room file) no-solid)

  -- ---- one that isn't

  module _ (some : is_empty file ≡ false) where
    top_one : length (cells_at (graph_of file) (top_of file)) ≡ 1
    unfolding top_ok
    top_one = records-length file (top_of file) (omega arith) ∙ eqb→eq (length (places_at file (top_of file))) 1 (proper-lists file by e some).top

    top-room : Same (edge (top_of file)) (packed_room file) (seen_room (graph_of file) (top_of file) 0 (root_tag file))
    unfolding packed_room
    top-room v l =
        let r : Room = record_room file (top_of file) 0 in
        ap (λ (b : Bool). cond b false (r (mirror (root_tag file) (2 ^ file_depth file) v))) some
        ∙ ap (λ (D : ℕ). r (mirror (root_tag file) (2 ^ D) v)) (sym deep)

    some-counts : (k : ℕ) → k ≤ top_of file → Number (alone (file_depth file) (packed_room file)) (suc (suc k)) (records_at file k)
    some-counts k h =
        graph-number (graph_of file) (top_of file) (root_tag file) (packed_room file) (root_tag_lem file by e some) top_one (proper-inv file by e some)
        (proper-graph file by e some).named top-room k h (file_depth file) deep

  pub file-counts : (k : ℕ) → k ≤ top_of file → Number (alone (file_depth file) (packed_room file)) (suc (suc k)) (records_at file k)
  file-counts k h = go (is_empty file) refl
    where
      go : (b : Bool) → is_empty file ≡ b → Number (alone (file_depth file) (packed_room file)) (suc (suc k)) (records_at file k)
      go true z = empty-counts z k h
      go false z = some-counts z k h

  -- as many as any room with the same voxels has
  pub means-counts : (D : ℕ) (r : Room) → file_depth file ≡ D → Same (2 ^ D) (packed_room file) r → (k : ℕ) → suc (suc k) ≤ D → Number (alone D r) (suc (suc k)) (records_at file k)
  means-counts D r d same k h =
      number_same D (suc (suc k)) (packed_room file) r (records_at file k) same
      (subst (λ (n : ℕ). Number (alone n (packed_room file)) (suc (suc k)) (records_at file k)) d (file-counts k (omega (arith, d))))

-- so two files that mean it have as many
pub means-fewest : (file other : List ℕ) → Bytes file → Bytes other → proper file ≡ true → proper other ≡ true → (D : ℕ) (r : Room) → file_depth file ≡ D → file_depth other ≡ D
    → Same (2 ^ D) (packed_room file) r → Same (2 ^ D) (packed_room other) r → (k : ℕ) → suc (suc k) ≤ D → records_at other k ≡ records_at file k
means-fewest file other by by' e e' D r d d' same same' k h =
    number-one (records_at other k) (records_at file k) (means-counts other by' e' D r d' same' k h) (means-counts file by e D r d same k h)
