-- On an undamaged store every kept cell has a solid voxel, so a record goes by pointers: child i of a cell seen under a mirror m is non-empty exactly
-- where pointer (i xor m) is there, and its room is that of the cell named, the tag joined to m. By induction on the list. Assumes nothing.
use mathlib.Core.Path.{◌≡◌, refl, sym, ap, ◌∙◌, subst}
use mathlib.Core.Bool.{Bool, true, false, cond, not}
use mathlib.Core.List.{List, []}
use Prim.Native.Nat.{ℕ, zero, suc, ◌-◌, ◌^◌, ◌<◌, ◌≤◌}
use native.Mathlib.Omega.{arith}
use lib.Bits.{bit_xor}
use lib.Dec.{T, eqb, lit<}
use lib.ListN.{get_or}
use Rattle.paper.specs.Numbers.{bytes}
use Rattle.paper.specs.Rooms.{Point, Room, mirror, mirrored, Same, NonEmpty, non_empty, depth_ok}
use Rattle.paper.specs.Leaf.{mirror_leaf}
use Rattle.paper.specs.Outline.{edge, child_of, child_non_empty, record_of}
use Rattle.paper.specs.Store.{Cell, heights, kept_count, kept_of, cells_at, cell_at, tag_of, cell_no, leaf_no, bad_pointer, store_ok}
use Rattle.paper.specs.Meaning.{pointer_voxel, cell_voxel, root_room}
use Rattle.laws.proofs.Places.{leaf-fits}
use Rattle.laws.proofs.StoreFacts.{Words, depth-range, names-kept, cell-names, leaf-not-zero, cell-sound, some-pointer}
use Rattle.laws.proofs.Matching.{tag-lt}
use Rattle.laws.proofs.Tests.{none-at}
use Rattle.laws.proofs.Eight.{xor8-lt}
use Rattle.laws.proofs.Mirrors.{from_child, mirror-inside, mirror-twice, mirror-mirror, mirror-from_child, child_no-from_child, in_child-from_child, same-sym, same-trans}
use Rattle.laws.proofs.Leaves.{leaf_solid_lem}
use Rattle.laws.proofs.OutlineCells.{some-non_empty, non_empty-same, no-voxel-empty, child_non_empty_lem}
use Rattle.laws.proofs.OutlineWriting.{edge-twice}

-- cell n of list k seen under mirror m
abbrev pub seen_room : List (List Cell) → ℕ → ℕ → ℕ → Room
seen_room K k n m = mirrored m (edge k) (cell_voxel K k (cell_at K k n))

-- the pointer of child i of cell c seen under m
abbrev pub seen_pointer : Cell → ℕ → ℕ → ℕ
seen_pointer c m i = get_or c (bit_xor i m) 0

-- what a pointer of list k stands for
abbrev named : List (List Cell) → ℕ → ℕ → Room
named K k p = pointer_voxel (cell_voxel K k) (cells_at K k) (edge k) p

-- ---- rooms of pointers and of children

-- a pointer that is there means its cell so mirrored; none is empty
pointer-there : (of : Cell → Room) (cs : List Cell) (S p : ℕ) (v : Point) → eqb p 0 ≡ false → pointer_voxel of cs S p v ≡ of (get_or cs (cell_no p) []) (mirror (tag_of p) S v)
pointer-there of cs S p v e = ap (λ (b : Bool). cond b false (of (get_or cs (cell_no p) []) (mirror (tag_of p) S v))) e

pointer_none : (of : Cell → Room) (cs : List Cell) (S p : ℕ) (v : Point) → eqb p 0 ≡ true → pointer_voxel of cs S p v ≡ false
pointer_none of cs S p v e = ap (λ (b : Bool). cond b false (of (get_or cs (cell_no p) []) (mirror (tag_of p) S v))) e

-- seen under m: the tag joined to m
pub named-seen : (K : List (List Cell)) (k p m : ℕ) → m < 8 → eqb p 0 ≡ false → Same (edge k) (mirrored m (edge k) (named K k p)) (seen_room K k (cell_no p) (bit_xor (tag_of p) m))
named-seen K k p m hm e v l =
    pointer-there (cell_voxel K k) (cells_at K k) (edge k) p (mirror m (edge k) v) e
    ∙ ap (cell_voxel K k (cell_at K k (cell_no p))) (mirror-mirror (tag_of p) m (edge k) v (tag-lt p) hm l)

-- child j of a cell is what its pointer j stands for
cell-child : (K : List (List Cell)) (k : ℕ) (c : Cell) (j : ℕ) → j < 8 → Same (edge k) (child_of k (cell_voxel K (suc k) c) j) (named K k (get_or c j 0))
unfolding cell_voxel
cell-child K k c j h u l =
    λ i. named K k (get_or c (child_no-from_child (edge k) j u h l i) 0) (in_child-from_child (edge k) j u l i)

-- child i of a cell seen under m is what its pointer (i xor m) stands for, seen under m
pub child-seen : (K : List (List Cell)) (k : ℕ) (c : Cell) (m i : ℕ) → m < 8 → i < 8
    → Same (edge k) (child_of k (mirrored m (edge (suc k)) (cell_voxel K (suc k) c)) i) (mirrored m (edge k) (named K k (seen_pointer c m i)))
child-seen K k c m i hm hi u l =
    let r : Room = cell_voxel K (suc k) c in
    ap (λ (E : ℕ). r (mirror m E (from_child (edge k) i u))) (edge-twice k)
    ∙ ap r (mirror-from_child m (edge k) i u hm hi l)
    ∙ cell-child K k c (bit_xor i m) (xor8-lt i m hi hm) (mirror m (edge k) u) (mirror-inside m (edge k) u l)

-- so where the pointer is there, it is the cell named, the tag joined to m
pub child_room_lem : (K : List (List Cell)) (k n m i : ℕ) → m < 8 → i < 8 → eqb (seen_pointer (cell_at K (suc k) n) m i) 0 ≡ false
    → Same (edge k) (child_of k (seen_room K (suc k) n m) i) (seen_room K k (cell_no (seen_pointer (cell_at K (suc k) n) m i)) (bit_xor (tag_of (seen_pointer (cell_at K (suc k) n) m i)) m))
child_room_lem K k n m i hm hi e = same-trans (child-seen K k (cell_at K (suc k) n) m i hm hi) (named-seen K k (seen_pointer (cell_at K (suc k) n) m i) m hm e)

-- the root: the cell named, under its tag
edge-root : (D : ℕ) → 2 ≤ D → edge (D - 2) ≡ 2 ^ D
edge-root D d = let e : suc (suc (D - 2)) ≡ D = omega arith in ap (λ (n : ℕ). 2 ^ n) e

pub root_room_lem : (K : List (List Cell)) (D p : ℕ) → 2 ≤ D → eqb p 0 ≡ false → Same (edge (D - 2)) (root_room K D p) (seen_room K (D - 2) (cell_no p) (tag_of p))
unfolding root_room
root_room_lem K D p d e v l =
    pointer-there (cell_voxel K (D - 2)) (cells_at K (D - 2)) (2 ^ D) p v e
    ∙ ap (λ (E : ℕ). cell_voxel K (D - 2) (cell_at K (D - 2) (cell_no p)) (mirror (tag_of p) E v)) (sym (edge-root D d))

-- the record of a leaf seen under m is the leaf so mirrored
pub leaf-record : (K : List (List Cell)) (n m : ℕ) → record_of 0 (seen_room K 0 n m) ≡ bytes 8 (mirror_leaf m (leaf_no (cell_at K 0 n)))
unfolding record_of mirror_leaf cell_voxel
leaf-record K n m = refl

-- ---- non-empty rooms

pub solid-mirrored : (t S : ℕ) (r : Room) → NonEmpty S r → NonEmpty S (mirrored t S r)
solid-mirrored t S r (v, l, e) = (mirror t S v, mirror-inside t S v l, ap r (mirror-twice t S v l) ∙ e)

solid-same : (S : ℕ) (a b : Room) → Same S a b → NonEmpty S a → NonEmpty S b
solid-same S a b s (v, l, e) = (v, l, sym (s v l) ∙ e)

-- ---- an undamaged store

module _ (ws : List ℕ) (ok : T (store_ok ws)) (w : Words ws) where
  -- every kept cell has a solid voxel
  pub kept-solid : (k n : ℕ) → k < heights → n < kept_count ws k → NonEmpty (edge k) (cell_voxel (kept_of ws) k (cell_at (kept_of ws) k n))
  unfolding cell_voxel
  kept-solid zero n hk hn = leaf_solid_lem (leaf_no (cell_at (kept_of ws) 0 n)) (leaf-fits ws w n hn) (leaf-not-zero ws ok n hn)
  kept-solid (suc k) n hk hn =
      let K : List (List Cell) = kept_of ws in
      let c : Cell = cell_at K (suc k) n in
      let s : (i : ℕ) × (i < 8) × (eqb (get_or c i 0) 0 ≡ false) = some-pointer ws ok k n hk hn in
      let p : ℕ = get_or c s.0 0 in
      let ih : NonEmpty (edge k) (cell_voxel K k (cell_at K k (cell_no p))) =
      kept-solid k (cell_no p) (omega arith) (cell-names (kept_count ws k) c (cell-sound ws ok k n hk hn) s.0 s.1 s.2) in
      let there : NonEmpty (edge k) (named K k p) =
      solid-same (edge k) (mirrored (tag_of p) (edge k) (cell_voxel K k (cell_at K k (cell_no p)))) (named K k p)
      (λ v l. sym (pointer-there (cell_voxel K k) (cells_at K k) (edge k) p v s.2))
      (solid-mirrored (tag_of p) (edge k) (cell_voxel K k (cell_at K k (cell_no p))) ih) in
      rw (edge-twice k)
      (child_non_empty_lem (edge k) s.0 (cell_voxel K (suc k) c)
      (solid-same (edge k) (named K k p) (child_of k (cell_voxel K (suc k) c) s.0) (same-sym (cell-child K k c s.0 s.1)) there))

  -- a pointer that names a kept cell has a solid voxel, any other none
  pub pointer-non_empty : (k p m : ℕ) → k < heights → m < 8 → bad_pointer (kept_count ws k) p ≡ false → non_empty (edge k) (mirrored m (edge k) (named (kept_of ws) k p)) ≡ not (eqb p 0)
  pointer-non_empty k p m hk hm b = go (eqb p 0) refl
    where
      go : (z : Bool) → eqb p 0 ≡ z → non_empty (edge k) (mirrored m (edge k) (named (kept_of ws) k p)) ≡ not z
      go true e =
          non_empty-same (edge k) (mirrored m (edge k) (named (kept_of ws) k p)) (λ v. false)
          (λ v l. pointer_none (cell_voxel (kept_of ws) k) (cells_at (kept_of ws) k) (edge k) p (mirror m (edge k) v) e)
          ∙ no-voxel-empty (edge k)
      go false e =
          non_empty-same (edge k) (mirrored m (edge k) (named (kept_of ws) k p)) (seen_room (kept_of ws) k (cell_no p) (bit_xor (tag_of p) m)) (named-seen (kept_of ws) k p m hm e)
          ∙ some-non_empty (edge k) (seen_room (kept_of ws) k (cell_no p) (bit_xor (tag_of p) m))
          (solid-mirrored (bit_xor (tag_of p) m) (edge k) (cell_voxel (kept_of ws) k (cell_at (kept_of ws) k (cell_no p))) (kept-solid k (cell_no p) hk (names-kept (kept_count ws k) p b e)))

  -- child i of a kept cell seen under m: non-empty where its pointer is there
  pub child_non_empty-is : (k n m i : ℕ) → suc k < heights → n < kept_count ws (suc k) → m < 8 → i < 8
      → child_non_empty k (seen_room (kept_of ws) (suc k) n m) i ≡ not (eqb (seen_pointer (cell_at (kept_of ws) (suc k) n) m i) 0)
  child_non_empty-is k n m i hk hn hm hi =
      let c : Cell = cell_at (kept_of ws) (suc k) n in
      non_empty-same (edge k) (child_of k (seen_room (kept_of ws) (suc k) n m) i) (mirrored m (edge k) (named (kept_of ws) k (seen_pointer c m i)))
      (child-seen (kept_of ws) k c m i hm hi)
      ∙ pointer-non_empty k (seen_pointer c m i) m (omega arith) hm
      (none-at 8 (λ j. bad_pointer (kept_count ws k) (get_or c j 0)) (cell-sound ws ok k n hk hn) (bit_xor i m) (xor8-lt i m hi hm))

  -- the root of a scene held: the room is non-empty where its pointer is there
  pub root-non_empty : (D p : ℕ) → T (depth_ok D) → bad_pointer (kept_count ws (D - 2)) p ≡ false → non_empty (2 ^ D) (root_room (kept_of ws) D p) ≡ not (eqb p 0)
  unfolding root_room
  root-non_empty D p d b =
      let K : List (List Cell) = kept_of ws in
      let range = depth-range D d in
      subst (λ (E : ℕ). non_empty E (pointer_voxel (cell_voxel K (D - 2)) (cells_at K (D - 2)) E p) ≡ not (eqb p 0)) (edge-root D range.0) (pointer-non_empty (D - 2) p 0 (omega arith) (lit< tt) b)
