-- The pointer that a cell question ends at: the cell asked for is what it means, mirrored, so on lists as they should be it is none exactly where
-- the cell is empty. By going down with the cell's place and any voxel in it, both mirrored and moved into the child. Assumes nothing.
use mathlib.Core.Path.{◌≡◌, refl, sym, ◌∙◌, ap, ap₂, subst}
use mathlib.Core.Bool.{false, not}
use mathlib.Core.List.{List}
use mathlib.Core.Logic.{inl, inr}
use Prim.Native.Nat.{ℕ, zero, suc, ◌+◌, ◌*◌, ◌<◌, ◌^◌}
use native.Mathlib.Nat.{add-zero, add-suc, pow-succ'}
use native.Mathlib.Omega.{arith}
use borrow.Author.Tests.{eq-eqb, ne_eqb, le-leb, lt-leb}
use lib.Bits.{bit_xor}
use lib.Dec.{eqb, lit<}
use lib.Pow.{pow-add, pow_pos}
use lib.ListN.{length, get_or}
use Rattle.paper.specs.Rooms.{Point, Room, Inside, cell_of, child_no, in_child, child_room, mirror, mirrored, Same, NonEmpty, non_empty}
use Rattle.paper.specs.Outline.{edge}
use Rattle.paper.specs.Store.{Cell, cells_at, tag_of, cell_no}
use Rattle.paper.specs.Meaning.{pointer_voxel, cell_voxel}
use Rattle.paper.specs.Questions.{taken, below, pointer_to}
use Rattle.laws.proofs.Eight.{xor8-lt}
use Rattle.laws.proofs.CellPoints.{point_at, mirror-point_at, child_no-point_at, in_child-point_at}
use Rattle.laws.proofs.Mirrors.{mirror-inside, mirror-twice, mirrored-trans, child_no-lt, in_child-inside}
use Rattle.laws.proofs.Matching.{tag-lt}
use Rattle.laws.proofs.Occurring.{cell-down, cell-whole, same-cell}
use Rattle.laws.proofs.Invariant.{OkPointer, Names, OkCells, names-lt, names-ne, pointer_none, pointer-at, pointer-solid, cell-child}
use Rattle.laws.proofs.Adding.{Invs}
use Rattle.laws.proofs.OutlineCells.{some-non_empty, non_empty-same, no-voxel-empty}

-- ---- the way down

-- q is none or names a kept cell of list j, and r is what it means, mirrored
pub record Ends (K : List (List Cell)) (j : ℕ) (r : Room) (q : ℕ) : Type 0 where
  pub okq : OkPointer (length (cells_at K j)) q
  pub under : ℕ
  pub is-mirror : under < 8
  pub is : Same (edge j) r (mirrored under (edge j) (pointer_voxel (cell_voxel K j) (cells_at K j) (edge j) q))

module _ (K : List (List Cell)) (ok : OkCells K) (j : ℕ) where
  -- what a pointer of list k means
  abbrev room_at : ℕ → ℕ → Room
  room_at k p = pointer_voxel (cell_voxel K k) (cells_at K k) (edge k) p

  -- from every pointer of list k, d heights above list j
  abbrev Leads : ℕ → ℕ → Type 0
  Leads d k = (p : ℕ) → OkPointer (length (cells_at K k)) p → (c u : Point) → Inside (2 ^ d) c → Inside (edge j) u
      → Ends K j (cell_of (room_at k p) (suc (suc j)) c) (pointer_to K j k p (point_at (edge j) c u))

  pub pointer_to-here : (i p : ℕ) (v : Point) → pointer_to K i i p v ≡ p
  unfolding pointer_to
  pointer_to-here zero p v = refl
  pointer_to-here (suc i) p v = rw (le-leb (suc i) (suc i) (omega arith))

  leads-here : Leads 0 j
  leads-here p okp c u lc lu = rw (pointer_to-here j p (point_at (edge j) c u)) (record {
    okq = okp;
    under = 0;
    is-mirror = lit< tt;
    is = λ v l. cell-whole (suc (suc j)) (room_at j p) c lc v;
  })

  pointer_to-none : (k p : ℕ) (v : Point) → j < suc k → p ≡ 0 → pointer_to K j (suc k) p v ≡ 0
  unfolding pointer_to
  pointer_to-none k p v h e = rw (lt-leb (suc k) j h, eq-eqb p 0 e)

  pub pointer_to-some : (k p : ℕ) (v : Point) → j < suc k → (p ≡ 0 → ⊥)
      → pointer_to K j (suc k) p v ≡ pointer_to K j k (taken k (below K (suc k) p) (mirror (tag_of p) (edge (suc k)) v)) (in_child (edge k) (mirror (tag_of p) (edge (suc k)) v))
  unfolding pointer_to
  pointer_to-some k p v h ne = rw (lt-leb (suc k) j h, ne_eqb p 0 ne)

  ends-none : (k p : ℕ) (c v : Point) → p ≡ 0 → j < suc k → Ends K j (cell_of (room_at (suc k) p) (suc (suc j)) c) (pointer_to K j (suc k) p v)
  ends-none k p c v e h = rw (pointer_to-none k p v h e) (record {
    okq = inl refl;
    under = 0;
    is-mirror = lit< tt;
    is = λ w l. pointer_none (cell_voxel K (suc k)) (cells_at K (suc k)) (edge (suc k)) p e _ ∙ sym (pointer_none (cell_voxel K j) (cells_at K j) (edge j) 0 refl w);
  })

  -- one height down
  module _ (d k : ℕ) (e : k ≡ j + d) (p : ℕ) (h : Names (length (cells_at K (suc k))) p) (c u : Point) (lc : Inside (2 ^ suc d) c) (lu : Inside (edge j) u) where
    -- the cell named, and the place in it
    abbrev a : Cell
    a = below K (suc k) p

    abbrev c' : Point
    c' = mirror (tag_of p) (2 ^ suc d) c

    abbrev i : ℕ
    i = child_no (2 ^ d) c'

    abbrev c'' : Point
    c'' = in_child (2 ^ d) c'

    abbrev u' : Point
    u' = mirror (tag_of p) (edge j) u

    below-edge : edge k ≡ edge j * 2 ^ d
    below-edge =
        let up : suc (suc k) ≡ suc (suc j) + d = omega arith in
        ap (λ (n : ℕ). 2 ^ n) up ∙ pow-add 2 (suc (suc j)) d

    here-edge : edge (suc k) ≡ edge j * 2 ^ suc d
    here-edge =
        let up : suc (suc (suc k)) ≡ suc (suc j) + suc d = omega arith in
        ap (λ (n : ℕ). 2 ^ n) up ∙ pow-add 2 (suc (suc j)) (suc d)

    in_halves : Inside (2 * 2 ^ d) c'
    in_halves = subst (λ (E : ℕ). Inside E c') (pow-succ' 2 d) (mirror-inside (tag_of p) (2 ^ suc d) c lc)

    in_cell : Inside (edge j) u'
    in_cell = mirror-inside (tag_of p) (edge j) u lu

    -- a voxel of the cell at c, mirrored, is one of the cell at c'
    mirrored-at : (v : Point) → Inside (edge j) v → mirror (tag_of p) (edge (suc k)) (point_at (edge j) c v) ≡ point_at (edge j) c' (mirror (tag_of p) (edge j) v)
    mirrored-at v l =
        ap (λ (E : ℕ). mirror (tag_of p) E (point_at (edge j) c v)) here-edge ∙ mirror-point_at (tag_of p) (edge j) (2 ^ suc d) c v lc l

    next : pointer_to K j (suc k) p (point_at (edge j) c u) ≡ pointer_to K j k (get_or a i 0) (point_at (edge j) c'' u')
    next =
        pointer_to-some k p (point_at (edge j) c u) (omega arith) (names-ne h)
        ∙ ap (λ (w : Point). pointer_to K j k (taken k a w) (in_child (edge k) w)) (mirrored-at u lu)
        ∙ ap (λ (S : ℕ). pointer_to K j k (get_or a (child_no S (point_at (edge j) c' u')) 0) (in_child S (point_at (edge j) c' u'))) below-edge
        ∙ ap₂ (λ (n : ℕ) (w : Point). pointer_to K j k (get_or a n 0) w) (child_no-point_at (edge j) (2 ^ d) c' u' (pow_pos d) in_cell) (in_child-point_at (edge j) (2 ^ d) c' u' (pow_pos d) in_cell)

    cell-next : Same (edge j) (cell_of (room_at (suc k) p) (suc (suc j)) c) (mirrored (tag_of p) (edge j) (cell_of (room_at k (get_or a i 0)) (suc (suc j)) c''))
    cell-next v l =
        let w : Point = mirror (tag_of p) (edge j) v in
        let lw : Inside (edge j) w = mirror-inside (tag_of p) (edge j) v l in
        let R : Room = cell_voxel K (suc k) a in
        pointer-at (cell_voxel K (suc k)) (cells_at K (suc k)) (edge (suc k)) p (names-ne h) (point_at (edge j) c v)
        ∙ ap R (mirrored-at v l)
        ∙ cell-down (suc (suc j)) d (edge k) R c' below-edge in_halves w
        ∙ same-cell (suc (suc j)) d (edge k) (child_room (edge k) i R) (room_at k (get_or a i 0)) c'' below-edge (cell-child K k a i (child_no-lt (2 ^ d) c' in_halves))
        (in_child-inside (2 ^ d) c' in_halves) w lw

    ends_next : Leads d k → Ends K j (cell_of (room_at (suc k) p) (suc (suc j)) c) (pointer_to K j (suc k) p (point_at (edge j) c u))
    ends_next ih =
        let r : Ends K j (cell_of (room_at k (get_or a i 0)) (suc (suc j)) c'') (pointer_to K j k (get_or a i 0) (point_at (edge j) c'' u')) =
        ih (get_or a i 0) (ok (suc k) (cell_no p) (names-lt h) i (child_no-lt (2 ^ d) c' in_halves)) c'' u' (in_child-inside (2 ^ d) c' in_halves) in_cell in
        rw next (record {
          okq = r.okq;
          under = bit_xor (tag_of p) r.under;
          is-mirror = xor8-lt (tag_of p) r.under (tag-lt p) r.is-mirror;
          is = mirrored-trans (tag_of p) r.under (edge j) (cell_of (room_at (suc k) p) (suc (suc j)) c) (cell_of (room_at k (get_or a i 0)) (suc (suc j)) c'')
              (room_at j (pointer_to K j k (get_or a i 0) (point_at (edge j) c'' u'))) (tag-lt p) r.is-mirror cell-next r.is;
        })

  leads-step : (d k : ℕ) → k ≡ j + d → Leads d k → Leads (suc d) (suc k)
  leads-step d k e ih p (inl z) c u lc lu = ends-none k p c (point_at (edge j) c u) z (omega arith)
  leads-step d k e ih p (inr h) c u lc lu = ends_next d k e p h c u lc lu ih

  pub leads : (d k : ℕ) → k ≡ j + d → Leads d k
  leads zero k e = subst (Leads 0) (sym (e ∙ add-zero j)) leads-here
  leads (suc d) k e = subst (Leads (suc d)) (sym (e ∙ add-suc j d)) (leads-step d (j + d) refl (leads d (j + d) refl))

-- ---- none exactly where the cell is empty

pub ends-non_empty : (K : List (List Cell)) → Invs K → (j : ℕ) (r : Room) (q : ℕ) → Ends K j r q → not (eqb q 0) ≡ non_empty (edge j) r
ends-non_empty K I j r q s = go s.okq
  where
    go : OkPointer (length (cells_at K j)) q → not (eqb q 0) ≡ non_empty (edge j) r
    go (inl e) =
        ap not (eq-eqb q 0 e) ∙ sym (no-voxel-empty (edge j))
        ∙ sym (non_empty-same (edge j) r (λ v. false) (λ v l. s.is v l ∙ pointer_none (cell_voxel K j) (cells_at K j) (edge j) q e (mirror s.under (edge j) v)))
    go (inr h) =
        let w : NonEmpty (edge j) (pointer_voxel (cell_voxel K j) (cells_at K j) (edge j) q) = pointer-solid (cell_voxel K j) (cells_at K j) (edge j) (I j).solid q h in
        let v : Point = mirror s.under (edge j) w.0 in
        let l : Inside (edge j) v = mirror-inside s.under (edge j) w.0 w.1 in
        ap not (ne_eqb q 0 (names-ne h))
        ∙ sym (some-non_empty (edge j) r (v, l, s.is v l ∙ ap (pointer_voxel (cell_voxel K j) (cells_at K j) (edge j) q) (mirror-twice s.under (edge j) w.0 w.1) ∙ w.2))
