-- A graph under one root whose records below the top are all named: each occurs in the root's room, mirrored as the way to it says. So where lists
-- are as they should be, the records of a height are the differing cells of that room. By going down from the root. Assumes nothing.
use mathlib.Core.Path.{◌≡◌, refl, sym, subst, ap}
use mathlib.Core.Bool.{false}
use mathlib.Core.List.{List}
use mathlib.Core.Logic.{inr}
use Prim.Native.Nat.{ℕ, zero, suc, ◌+◌, ◌-◌, ◌^◌, ◌<◌, ◌≤◌}
use native.Mathlib.Decide.{dec_lt}
use native.Mathlib.Omega.{arith}
use borrow.Author.Tests.{ne_eqb}
use lib.Bits.{bit_xor}
use lib.Dec.{T, eqb, ltb, ltb→lt, lit<}
use lib.ListN.{length, get_or}
use Rattle.paper.specs.Rooms.{Room, Inside, cell_of, child_room, Same, Image, NonEmpty}
use Rattle.paper.specs.Outline.{edge}
use Rattle.paper.specs.Store.{Cell, tag_of, cell_no, cells_at, cell_at}
use Rattle.paper.specs.Meaning.{cell_voxel}
use Rattle.paper.specs.Packed.{popularity, named_ok}
use Rattle.laws.proofs.Weights.{NamedBy, named_by}
use Rattle.paper.specs.Runs.{alone, Occurs, Number}
use Rattle.laws.proofs.Tests.{all-at}
use Rattle.laws.proofs.Eight.{xor8-lt, xor8-back}
use Rattle.laws.proofs.Mirrors.{image-sym, image-trans}
use Rattle.laws.proofs.Matching.{tag-lt}
use Rattle.laws.proofs.Occurring as InRoom
use Rattle.laws.proofs.Occurring.{occurs-here, occurs-as, occurs-child}
use Rattle.laws.proofs.Parts.{Part, part_same, cell-part, part-image}
use Rattle.laws.proofs.Adding.{Invs}
use Rattle.laws.proofs.Counting.{Distinct, kept-distinct}
use Rattle.laws.proofs.Records.{seen_room, child_room_lem, solid-mirrored}
use Rattle.laws.proofs.Filling.{occurs-held}
use Rattle.laws.proofs.Differing.{images-number}
use Rattle.laws.proofs.Alone.{CellAt, alone-cell}

-- ---- the graph K under its record 0 of list k, seen under m

module _ (K : List (List Cell)) (k m : ℕ) (room : Room) (hm : m < 8) (one : length (cells_at K k) ≡ 1) (invs : Invs K)
    (named : (j : ℕ) → j < k → T (named_ok K j)) (is : Same (edge k) room (seen_room K k 0 m)) where
  -- record q of list j occurs, so mirrored
  record Seen (j q : ℕ) : Type 0 where
    mirror : ℕ
    is-mirror : mirror < 8
    occurs : q < length (cells_at K j) → InRoom.Occurs room k j (seen_room K j q mirror)

  namer : (j : ℕ) → j < k → (q : ℕ) → q < length (cells_at K j) → NamedBy (cells_at K (suc j)) q
  unfolding named_ok
  namer j h q l = named_by (cells_at K (suc j)) q (ltb→lt 0 (popularity (cells_at K (suc j)) q) (all-at (length (cells_at K j)) (λ q. ltb 0 (popularity (cells_at K (suc j)) q)) (named j h) q l))

  -- from the record that names it
  seen_below : (j : ℕ) → ((n : ℕ) → Seen (suc j) n) → (q : ℕ) → q < length (cells_at K j) → NamedBy (cells_at K (suc j)) q → Seen j q
  seen_below j up q l by = record {
    mirror = bit_xor (tag_of p) t;
    is-mirror = xor8-lt (tag_of p) t (tag-lt p) ht;
    occurs = λ h. occurs-as (child_room (edge j) (bit_xor i t) (seen_room K (suc j) n t)) (seen_room K j q (bit_xor (tag_of p) t)) same (occurs-child (seen_room K (suc j) n t) (bit_xor i t) ((up n).occurs by.is-cell));
  }
    where
      n : ℕ
      n = by.cell

      i : ℕ
      i = by.child

      c : Cell
      c = cell_at K (suc j) n

      p : ℕ
      p = get_or c i 0

      t : ℕ
      t = (up n).mirror

      ht : t < 8
      ht = (up n).is-mirror

      hi : i < 8
      hi = by.eight

      back : bit_xor (bit_xor i t) t ≡ i
      back = xor8-back i t hi ht

      same : Same (edge j) (child_room (edge j) (bit_xor i t) (seen_room K (suc j) n t)) (seen_room K j q (bit_xor (tag_of p) t))
      same =
          subst (λ (x : ℕ). Same (edge j) (child_room (edge j) (bit_xor i t) (seen_room K (suc j) n t)) (seen_room K j x (bit_xor (tag_of p) t))) by.is
          (subst (λ (x : ℕ). Same (edge j) (child_room (edge j) (bit_xor i t) (seen_room K (suc j) n t)) (seen_room K j (cell_no (get_or c x 0)) (bit_xor (tag_of (get_or c x 0)) t))) back
          (child_room_lem K j n t (bit_xor i t) ht (xor8-lt i t hi ht) (subst (λ (x : ℕ). eqb (get_or c x 0) 0 ≡ false) (sym back) (ne_eqb p 0 by.some))))

  -- the top is the room
  seen-top : (j : ℕ) → j ≡ k → (q : ℕ) → Seen j q
  seen-top j e q = record {
    mirror = m;
    is-mirror = hm;
    occurs = λ h.
        let z : q ≡ 0 = omega (arith, ap (λ (i : ℕ). length (cells_at K i)) e) in
        subst (λ (i : ℕ). InRoom.Occurs room k i (seen_room K i q m)) (sym e)
        (subst (λ (x : ℕ). InRoom.Occurs room k k (seen_room K k x m)) (sym z) (occurs-here room (seen_room K k 0 m) k is));
  }

  seen : (d j : ℕ) → j + d ≡ k → (q : ℕ) → Seen j q
  seen zero j e q = seen-top j (omega arith) q
  seen (suc d) j e q = go (dec_lt q (length (cells_at K j))) (seen d (suc j) (omega arith))
    where
      go : Dec (q < length (cells_at K j)) → ((n : ℕ) → Seen (suc j) n) → Seen j q
      go (yes l) up = seen_below j up q l (namer j (omega arith) q l)
      go (no l) up = record { mirror = 0; is-mirror = lit< tt; occurs = λ h. absurd (l h) }

  -- ---- the records of list j are the number of its differing cells

  module _ (j : ℕ) (hj : j ≤ k) where
    abbrev at : (q : ℕ) → Seen j q
    at q = seen (k - j) j (omega arith) q

    abbrev rooms : ℕ → Room
    rooms q = seen_room K j q (at q).mirror

    rooms-image : (q : ℕ) → Image (edge j) (rooms q) (cell_voxel K j (cell_at K j q))
    rooms-image q = ((at q).mirror, (at q).is-mirror, λ v l. refl)

    rooms-distinct : Distinct (edge j) (length (cells_at K j)) rooms
    rooms-distinct q r hq hr z =
        let a : Room = cell_voxel K j (cell_at K j q) in
        let b : Room = cell_voxel K j (cell_at K j r) in
        kept-distinct K j invs q r hq hr
        (image-trans (edge j) a (rooms q) b (image-sym (edge j) (rooms q) a (rooms-image q)) (image-trans (edge j) (rooms q) (rooms r) b z (rooms-image r)))

    part : Part K k room
    part = inr (record { cell = 0; mirror = m; is-cell = omega arith; is-mirror = hm; is = is })

    module _ (D : ℕ) (deep : suc (suc k) ≡ D) where
      occurs-image : (c : Room) → Occurs (alone D room) (suc (suc j)) c → NonEmpty (edge j) c → (q : ℕ) × (q < length (cells_at K j)) × Image (edge j) c (cell_voxel K j (cell_at K j q))
      occurs-image c o full =
          let a : CellAt D room (suc (suc j)) c = alone-cell D room (suc (suc j)) c o in
          let d : ℕ = k - j in
          let down : k ≡ j + d = omega arith in
          let steps : D - suc (suc j) ≡ d = omega arith in
          part-image K j c
          (part_same c (cell_of room (suc (suc j)) a.place) a.same
          (cell-part K (λ i q h. (invs i).ok q h) d j room (subst (λ (n : ℕ). Part K n room) down part) a.place (subst (λ (n : ℕ). Inside (2 ^ n) a.place) steps a.in_room))) full

      pub graph-number : Number (alone D room) (suc (suc j)) (length (cells_at K j))
      graph-number =
          images-number K j occurs-image rooms
          (λ q h. occurs-held (alone D room) 0 _ k j (rooms q) refl deep ((at q).occurs h))
          (λ q h. solid-mirrored (at q).mirror (edge j) (cell_voxel K j (cell_at K j q)) ((invs j).solid q h))
          rooms-distinct
