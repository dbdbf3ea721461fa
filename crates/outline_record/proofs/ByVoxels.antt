-- On an undamaged store a kept cell's record by pointers is the record of its room by voxels. By induction on the list: a child's part is there where
-- its pointer is. Assumes nothing.
use mathlib.Core.Path.{◌≡◌, refl, sym, ap, ap₂, ◌∙◌}
use mathlib.Core.Bool.{Bool, true, false, cond, not}
use mathlib.Core.List.{List, [], ◌∷◌}
use Prim.Native.Nat.{ℕ, zero, suc, ◌<◌}
use native.Mathlib.Omega.{arith}
use lib.Bits.{bit_xor}
use lib.Dec.{T, eqb}
use Rattle.paper.specs.Numbers.{bit_for, flatten, tabulate}
use Rattle.paper.specs.Rooms.{Room}
use Rattle.paper.specs.Outline.{child_of, child_non_empty, record_of}
use Rattle.paper.specs.Store.{Cell, heights, kept_count, kept_of, cell_at, tag_of, cell_no, store_ok}
use Rattle.laws.proofs.Eight.{xor8-lt}
use Rattle.laws.proofs.Bits.{gather-same}
use Rattle.laws.proofs.Lists.{tabulate-same}
use Rattle.laws.proofs.OutlineWriting.{record_same}
use Rattle.laws.proofs.StoreFacts.{Words, cell-names, cell-sound}
use Rattle.laws.proofs.Matching.{tag-lt}
use Rattle.laws.proofs.Records.{seen_room, leaf-record, child_non_empty-is, child_room_lem}
use Rattle.outline_record.specs.Record.{pointer_at, mask_at, part_at, children_at, record_at}

-- all eight children
eight-children : (r : ℕ → ℕ → List ℕ) (c : Cell) (m : ℕ) → children_at r c m 8 ≡ flatten (tabulate 0 8 (λ i. part_at r m (pointer_at c m i)))
unfolding children_at flatten tabulate
eight-children r c m = refl

-- a part of a record by voxels is one by pointers
pub same-part : (there none : Bool) (a b : List ℕ) → there ≡ not none → (none ≡ false → a ≡ b) → cond there a [] ≡ cond none [] b
same-part there true a b e h = ap (λ (x : Bool). cond x a []) e
same-part there false a b e h = ap (λ (x : Bool). cond x a []) e ∙ h refl

module _ (ws : List ℕ) (ok : T (store_ok ws)) (w : Words ws) where
  cell-record : (k n m : ℕ) → suc k < heights → n < kept_count ws (suc k) → m < 8
      → ((q s : ℕ) → q < kept_count ws k → s < 8 → record_of k (seen_room (kept_of ws) k q s) ≡ record_at (kept_of ws) k q s)
      → record_of (suc k) (seen_room (kept_of ws) (suc k) n m) ≡ record_at (kept_of ws) (suc k) n m
  unfolding record_of record_at mask_at
  cell-record k n m hk hn hm ih =
      let K : List (List Cell) = kept_of ws in
      let c : Cell = cell_at K (suc k) n in
      let r : Room = seen_room K (suc k) n m in
      let there : (i : ℕ) → i < 8 → child_non_empty k r i ≡ not (eqb (pointer_at c m i) 0) = λ i h. child_non_empty-is ws ok w k n m i hk hn hm h in
      let part : (i : ℕ) → i < 8 → cond (child_non_empty k r i) (record_of k (child_of k r i)) [] ≡ part_at (record_at K k) m (pointer_at c m i) =
      λ i h. let p : ℕ = pointer_at c m i in
      same-part (child_non_empty k r i) (eqb p 0) (record_of k (child_of k r i)) (record_at K k (cell_no p) (bit_xor (tag_of p) m)) (there i h)
      (λ e. record_same k (child_of k r i) (seen_room K k (cell_no p) (bit_xor (tag_of p) m)) (child_room_lem K k n m i hm h e)
      ∙ ih (cell_no p) (bit_xor (tag_of p) m) (cell-names (kept_count ws k) c (cell-sound ws ok k n hk hn) (bit_xor i m) (xor8-lt i m h hm) e) (xor8-lt (tag_of p) m (tag-lt p) hm)) in
      ap₂ ◌∷◌ (gather-same 0 8 (λ i. bit_for (child_non_empty k r i)) (λ i. bit_for (not (eqb (pointer_at c m i) 0))) (λ i h. ap bit_for (there i h)))
      (ap flatten (tabulate-same 0 8 (λ i. cond (child_non_empty k r i) (record_of k (child_of k r i)) []) (λ i. part_at (record_at K k) m (pointer_at c m i)) part)
      ∙ sym (eight-children (record_at K k) c m))

  -- a kept cell's record by voxels is that by pointers
  pub record-by-pointers : (k n m : ℕ) → k < heights → n < kept_count ws k → m < 8 → record_of k (seen_room (kept_of ws) k n m) ≡ record_at (kept_of ws) k n m
  unfolding record_at
  record-by-pointers zero n m hk hn hm = leaf-record (kept_of ws) n m
  record-by-pointers (suc k) n m hk hn hm = cell-record k n m hk hn hm (λ q s hq hs. record-by-pointers k q s (omega arith) hq hs)
