-- Claim C6, packing, on every store that only the calls wrote: what pack writes for an accepted scene is written whole, is proper, means that scene's
-- room, is accepted by check, answers the packed voxel as the room does, and has the records and at most the bytes claimed; and the same room packs
-- to the same bytes. From what the words hold and the laws of packing. Assumes nothing.
use mathlib.Core.Path.{◌≡◌, sym, ◌∙◌, subst, ap, ap₂}
use mathlib.Core.Bool.{Bool, true}
use mathlib.Core.List.{List, [], ◌∷◌}
use Prim.Native.Nat.{ℕ, ◌-◌, ◌^◌, ◌≤◌}
use native.Mathlib.Omega.{arith}
use borrow.Author.Tests.{le-ltb}
use lib.Dec.{T, leb, leb→le}
use lib.ListN.{length}
use Rattle.paper.specs.Numbers.{bit_for}
use Rattle.paper.specs.Rooms.{Room, Inside, Same, depth_ok, empty_at}
use Rattle.paper.specs.Outline.{file_depth, file_room}
use Rattle.paper.specs.Store.{Cell, most_capacity, capacity_of, is_held, kept_of, scene_depth, scene_root, store_ok}
use Rattle.paper.specs.Packed.{proper, packed_room, packed_path}
use Rattle.paper.specs.Pack.{packed_file, packed_most}
use Rattle.paper.specs.Answers.{told, outcome}
use Rattle.paper.specs.Order.{first_number}
use Rattle.paper.specs.Calls.{over, cleared, scratch_for, pack_bytes, pack_short, pack_order, pack_outcome}
use Rattle.paper.specs.Runs.{Bytes, Scene, scene_of, State}
use Rattle.paper.specs.Claims.{Packs, C6}
use Rattle.laws.proofs.Tests.{T_true, and_right}
use Rattle.laws.proofs.Undamaged.{undamaged}
use Rattle.laws.proofs.Refusals.{settled-accepted}
use Rattle.laws.proofs.Running.{reached-running}
use Rattle.laws.proofs.Holding.{Means, Holds, HeldAt, root_room_lem, held_at, below-there, running-capacity, reached-holds}
use Rattle.laws.proofs.ProperClaim.{check-accepts}
use Rattle.laws.proofs.ProperEmptiness.{proper-answer}
use Rattle.laws.proofs.Emptiness.{empty-same}
use Rattle.laws.proofs.Outlines.{depth-two}
use Rattle.laws.proofs.PackedReachable.{Packable}
use Rattle.laws.proofs.SamePack.{scenes-same}
use Rattle.laws.proofs.Packing.{pack-proper, pack-depth, pack-room, pack_bytes_lem}
use Rattle.laws.proofs.PackedMost.{pack-most}
use Rattle.laws.proofs.ProperCounts.{means-counts, means-fewest}

module _ (s : State) (h : Holds s.words s.held) where
  abbrev ws : List ℕ
  ws = s.words

  abbrev K : List (List Cell)
  K = kept_of ws

  packable : Packable K
  packable =
      let C : ℕ = capacity_of ws in
      let most : C ≤ most_capacity = leb→le C most_capacity (and_right (leb 1 C) (leb C most_capacity) (undamaged ws h.ok).capacity) in
      record { invs = h.invs; few = λ j. omega (arith, h.sound.few j) }

  module _ (n : ℕ) where
    abbrev D : ℕ
    D = scene_depth ws n

    abbrev p : ℕ
    p = scene_root ws n

    abbrev packed : List ℕ
    packed = pack_bytes ws n

    pack-written : T (is_held ws n) → (scratch out : List ℕ) → scratch_for ws ≤ length scratch → length packed ≤ length out
        → pack_outcome ws n scratch out ≡ outcome (told 0 (length packed ∷ [])) (cleared (scratch_for ws) scratch ∷ over packed out ∷ [])
    unfolding pack_outcome pack_short first_number
    pack-written l scratch out hs ho =
        let none : first_number (pack_order ws n scratch out) ≡ 0 =
        rw (
          T_true {b = store_ok ws} h.ok,
          below-there h n l,
          le-ltb (length scratch) (scratch_for ws) hs,
          le-ltb (length out) (length packed) ho,
        ) in
        settled-accepted (first_number (pack_order ws n scratch out)) _ _ _ none

    module _ (file : List ℕ) (m : Means K D p file) where
      deep : T (depth_ok D)
      deep = subst (λ (d : ℕ). T (depth_ok d)) (sym m.depth) m.accepted.deep

      packed-proper : proper packed ≡ true
      unfolding pack_bytes
      packed-proper = T_true {b = proper (packed_file K D p)} (pack-proper K packable D p deep m.okp m.low)

      packed-bytes : Bytes packed
      unfolding pack_bytes
      packed-bytes = pack_bytes_lem K packable D p deep m.okp

      packed-depth : file_depth packed ≡ file_depth file
      unfolding pack_bytes
      packed-depth = pack-depth K packable D p deep ∙ m.depth

      packed-means : Same (2 ^ file_depth file) (packed_room packed) (file_room file)
      unfolding pack_bytes
      packed-means v l =
          pack-room K packable D p deep m.okp v ∙ ap (λ (r : Room). r v) (sym (root_room_lem K D p deep))
          ∙ m.room v (subst (λ (d : ℕ). Inside (2 ^ d) v) (sym m.depth) l)

      packed_most_lem : length packed ≤ packed_most (capacity_of ws)
      unfolding pack_bytes
      packed_most_lem = pack-most K packable (capacity_of ws) h.sound.few D p deep m.okp

      pub scene-packs : T (is_held ws n) → capacity_of ws ≡ s.capacity → Packs s n (scene_of file) packed
      scene-packs l given = record {
        written = pack-written l;
        is_proper = packed-proper;
        depth = packed-depth;
        means = packed-means;
        checks = λ scratch hs. check-accepts packed scratch packed-proper hs ∙ ap (λ (d : ℕ). outcome (told 0 (d ∷ [])) (cleared (length packed) scratch ∷ [])) packed-depth;
        voxels = λ v i.
            proper-answer packed packed-bytes packed-proper v (subst (λ (d : ℕ). Inside (2 ^ d) v) (sym packed-depth) i)
            ∙ ap₂ (λ (b : Bool) (h : ℕ). outcome (told 0 (bit_for b ∷ packed_path packed v ∷ h ∷ [])) []) (packed-means v i)
            (ap (λ (d : ℕ). empty_at d (packed_room packed) v) packed-depth ∙ empty-same (file_depth file - 2) (file_depth file) (packed_room packed) (file_room file) v (omega (arith, depth-two (file_depth file) m.accepted.deep)) packed-means i);
        counts = means-counts packed packed-bytes packed-proper (file_depth file) (file_room file) packed-depth packed-means;
        fewest = λ other by e d same.
            means-fewest packed other packed-bytes by packed-proper e (file_depth file) (file_room file) packed-depth d packed-means same;
        most = subst (λ (C : ℕ). length packed ≤ packed_most C) given packed_most_lem;
      }

pub claim6 : C6
claim6 s r =
    let h : Holds s.words s.held = reached-holds s r in
    record {
      each = λ n sc e.
          let a : HeldAt s.words n sc (h.file n) = held_at h n sc e in
          subst (λ (c : Scene). Packs s n c (pack_bytes s.words n)) (sym a.is) (scene-packs s h n (h.file n) a.means a.below (running-capacity s (reached-running s r)));
      same = scenes-same h;
    }
