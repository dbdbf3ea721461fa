-- The children of a cell that share a voxel with the box, by the numbers of those that its first voxel and its last lie in; and whether one of them has
-- a bad pointer. By the cuts of a box. Assumes nothing.
use mathlib.Core.Path.{◌≡◌, refl, sym, ap, ap₂, ◌∙◌}
use mathlib.Core.Bool.{Bool, true, false, ◌&&◌}
use Prim.Native.Nat.{ℕ, suc, ◌+◌, ◌%◌, ◌<◌}
use native.Mathlib.Omega.{arith}
use lib.Bits.{bit_xor}
use lib.Dec.{ltb}
use lib.ListN.{get_or}
use borrow.Author.Tests.{lt-ltb}
use Rattle.paper.specs.Numbers.{any_below}
use Rattle.paper.specs.Rooms.{Point, in_child, has_voxel, clipped}
use Rattle.paper.specs.Outline.{edge}
use Rattle.paper.specs.Store.{Cell, heights, bad_pointer}
use Rattle.laws.proofs.Tests.{any_same}
use Rattle.points.specs.Seeing.{child_no_at}
use Rattle.boxes_parts.specs.Parts.{past_in, Spans, shares_in}
use Rattle.boxes_parts.proofs.Cuts.{start_in, end_in, cut-start, cut-end, cut-spans, cut-none}
use Rattle.search.specs.Searching.{cell_bad}

-- a box from its first voxel to its last has a voxel
pub span-voxel : (S : ℕ) (low last : Point) → Spans S low last → has_voxel (in_child S low) (past_in S last) ≡ true
span-voxel S low last s =
    let x : ltb (low.x % S) (last.x % S + 1) ≡ true = lt-ltb (low.x % S) (last.x % S + 1) (omega (arith, s.span_x)) in
    let y : ltb (low.y % S) (last.y % S + 1) ≡ true = lt-ltb (low.y % S) (last.y % S + 1) (omega (arith, s.span_y)) in
    let z : ltb (low.z % S) (last.z % S + 1) ≡ true = lt-ltb (low.z % S) (last.z % S + 1) (omega (arith, s.span_z)) in
    ap₂ (λ (a b : Bool). a && b) (ap₂ (λ (a b : Bool). a && b) x y) z

module _ (k : ℕ) (hk : k < heights) (low last : Point) (s : Spans (edge (suc k)) low last) where
  -- the box in child i of the cell, of list k + 1
  abbrev low_in : ℕ → Point
  low_in i = clipped (edge k) i (in_child (edge (suc k)) low)

  abbrev high_in : ℕ → Point
  high_in i = clipped (edge k) i (past_in (edge (suc k)) last)

  -- child i shares a voxel with it
  abbrev sharing : ℕ → Bool
  sharing i = shares_in (child_no_at k low) (child_no_at k last) i

  pub sharing-voxel : (i : ℕ) → i < 8 → has_voxel (low_in i) (high_in i) ≡ sharing i
  sharing-voxel i hi = go (sharing i) refl
    where
      go : (b : Bool) → sharing i ≡ b → has_voxel (low_in i) (high_in i) ≡ b
      go true e =
          ap₂ has_voxel (cut-start k hk low last i hi e) (cut-end k hk low last i hi e)
          ∙ span-voxel (edge k) (start_in k i low) (end_in k i last) (cut-spans k hk low last i hi e s)
      go false e = cut-none k hk low last i hi e

  module _ (n : ℕ) (c : Cell) (m : ℕ) where
    abbrev bad_at : ℕ → Bool
    bad_at i = sharing i && bad_pointer n (get_or c (bit_xor i m) 0)

    pub sharing-bad : any_below 8 bad_at ≡ cell_bad n k c m (in_child (edge (suc k)) low) (past_in (edge (suc k)) last)
    sharing-bad =
        any_same 8 bad_at (λ i. has_voxel (low_in i) (high_in i) && bad_pointer n (get_or c (bit_xor i m) 0)) (λ i hi.
        ap (λ (b : Bool). b && bad_pointer n (get_or c (bit_xor i m) 0)) (sym (sharing-voxel i hi)))
