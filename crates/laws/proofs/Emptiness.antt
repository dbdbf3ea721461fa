-- How big the emptiness is. On lists as they should be a walk ends at an absent child of height h exactly where the room's greatest empty cell around
-- the point has height h: the pointers on the way down are none where the cells that they stand for are empty. And what `empty_at` says of a room, by
-- its cells. By induction on the list. Assumes nothing.
use mathlib.Core.Path.{◌≡◌, refl, sym, ◌∙◌, ap, ap₂, subst}
use mathlib.Core.Bool.{Bool, true, false, cond, not}
use mathlib.Core.List.{List}
use Prim.Native.Nat.{ℕ, zero, suc, ◌+◌, ◌-◌, ◌*◌, ◌/◌, ◌%◌, ◌^◌, ◌<◌, ◌≤◌}
use native.Mathlib.Nat.{div-lt_iff_lt-mul, div-div-eq-div-mul, mod-lt, suc-ne-zero, pow-suc}
use native.Mathlib.Decide.{dec_lt}
use native.Mathlib.Omega.{arith}
use borrow.Author.Tests.{eqb-false}
use lib.Dec.{eqb, lit<}
use lib.Pow.{pow-add, pow_pos}
use lib.ListN.{length}
use Rattle.paper.specs.Rooms.{Point, point, Room, Inside, cell_of, cell_around, mirror, in_child, Same, NonEmpty, non_empty, empty_up_to}
use Rattle.paper.specs.Outline.{edge}
use Rattle.paper.specs.Store.{Cell, cells_at, tag_of, cell_no}
use Rattle.paper.specs.Meaning.{pointer_voxel, cell_voxel}
use Rattle.paper.specs.Walk.{Walk, empty_height, none, to, onward, walk_in}
use Rattle.paper.specs.Questions.{child_for, graph_reading, taken, below, pointer_to}
use Rattle.laws.proofs.Occurring.{same-cell}
use Rattle.laws.proofs.OutlineCells.{non_empty-some, some-non_empty, non_empty-same, no-voxel-empty}
use Rattle.laws.proofs.Invariant.{OkPointer, OkCells}
use Rattle.laws.proofs.Adding.{Invs}
use Rattle.laws.proofs.CellPoints.{point_at, point-parts, point-lt, point-whole}
use Rattle.laws.proofs.Walking.{reduced-inside}
use Rattle.laws.proofs.CellWalk.{Ends, leads, ends-non_empty, pointer_to-here, pointer_to-some}

-- ---- the cell around a voxel

around-inside : (h d : ℕ) (v : Point) → Inside (2 ^ (d + h)) v → Inside (2 ^ d) (point (v.x / 2 ^ h) (v.y / 2 ^ h) (v.z / 2 ^ h))
around-inside h d v l =
    let e : 2 ^ (d + h) ≡ 2 ^ d * 2 ^ h = pow-add 2 d h in
    let low : (x : ℕ) → x < 2 ^ (d + h) → x / 2 ^ h < 2 ^ d = λ x hx. (div-lt_iff_lt-mul (pow_pos h)).1 (subst (λ (n : ℕ). x < n) e hx) in
    record { in_x = low v.x l.in_x; in_y = low v.y l.in_y; in_z = low v.z l.in_z }

-- in rooms with the same voxels
around-same : (h D : ℕ) (a b : Room) (v : Point) → h ≤ D → Same (2 ^ D) a b → Inside (2 ^ D) v → non_empty (2 ^ h) (cell_around a h v) ≡ non_empty (2 ^ h) (cell_around b h v)
around-same h D a b v hD s l =
    let d : ℕ = D - h in
    let c : Point = point (v.x / 2 ^ h) (v.y / 2 ^ h) (v.z / 2 ^ h) in
    let up : D ≡ d + h = omega arith in
    let up' : D ≡ h + d = omega arith in
    non_empty-same (2 ^ h) (cell_around a h v) (cell_around b h v)
    (same-cell h d (2 ^ D) a b c (ap (λ (n : ℕ). 2 ^ n) up' ∙ pow-add 2 h d) s (around-inside h d v (subst (λ (n : ℕ). Inside (2 ^ n) v) up l)))

pub empty-same : (k D : ℕ) (a b : Room) (v : Point) → suc (suc k) ≤ D → Same (2 ^ D) a b → Inside (2 ^ D) v → empty_up_to a k v ≡ empty_up_to b k v
unfolding empty_up_to
empty-same zero D a b v hD s l = ap (λ (c : Bool). cond c 0 2) (around-same 2 D a b v hD s l)
empty-same (suc k) D a b v hD s l =
    ap₂ (λ (c : Bool) (n : ℕ). cond c n (suc (suc (suc k)))) (around-same (suc (suc (suc k))) D a b v hD s l) (empty-same k D a b v (omega arith) s l)

-- in a room without a voxel
around-none : (h : ℕ) (r : Room) (v : Point) → ((u : Point) → r u ≡ false) → non_empty (2 ^ h) (cell_around r h v) ≡ false
around-none h r v e = non_empty-same (2 ^ h) (cell_around r h v) (λ u. false) (λ u l. e _) ∙ no-voxel-empty (2 ^ h)

pub empty-nothing : (k : ℕ) (r : Room) (v : Point) → ((u : Point) → r u ≡ false) → empty_up_to r k v ≡ suc (suc k)
unfolding empty_up_to
empty-nothing zero r v e = ap (λ (b : Bool). cond b 0 2) (around-none 2 r v e)
empty-nothing (suc k) r v e = ap (λ (b : Bool). cond b (empty_up_to r k v) (suc (suc (suc k)))) (around-none (suc (suc (suc k))) r v e)

-- ---- what it says, by the room's cells

-- a cell in a non-empty one is in a non-empty one of the next height
part_up : (H x u : ℕ) → x / (H * 2) * (H * 2) + (x / H % 2 * H + u) ≡ x / H * H + u
part_up H x u =
    ap (λ (n : ℕ). n * (H * 2) + (x / H % 2 * H + u)) (sym (div-div-eq-div-mul x H 2)) ∙ sym (point-parts H 2 (x / H) u)

part_in : (H c u : ℕ) → u < H → c % 2 * H + u < H * 2
part_in H c u h = point-lt H 2 (c % 2) u (mod-lt c (lit< tt)) h

pub around-up : (h : ℕ) (r : Room) (v : Point) → NonEmpty (2 ^ h) (cell_around r h v) → NonEmpty (2 ^ suc h) (cell_around r (suc h) v)
around-up h r v (u, l, e) =
    let H : ℕ = 2 ^ h in
    let w : Point = point (v.x / H % 2 * H + u.x) (v.y / H % 2 * H + u.y) (v.z / H % 2 * H + u.z) in
    let twice : H * 2 ≡ 2 ^ suc h = sym (pow-suc 2 h) in
    subst (λ (S : ℕ). NonEmpty S (λ u. r (point (v.x / S * S + u.x) (v.y / S * S + u.y) (v.z / S * S + u.z)))) twice (
      w,
      record { in_x = part_in H (v.x / H) u.x l.in_x; in_y = part_in H (v.y / H) u.y l.in_y; in_z = part_in H (v.z / H) u.z l.in_z },
      (λ i. r (point (part_up H v.x u.x i) (part_up H v.y u.y i) (part_up H v.z u.z i))) ∙ e,
    )

-- a non-empty leaf
pub empty_leaf : (k : ℕ) (r : Room) (v : Point) → NonEmpty (2 ^ 2) (cell_around r 2 v) → (empty_up_to r k v ≡ 0) × NonEmpty (2 ^ suc (suc k)) (cell_around r (suc (suc k)) v)
unfolding empty_up_to
empty_leaf zero r v w = (ap (λ (b : Bool). cond b 0 2) (some-non_empty (2 ^ 2) (cell_around r 2 v) w), w)
empty_leaf (suc k) r v w =
    let below = empty_leaf k r v w in
    let h : ℕ = suc (suc (suc k)) in
    let up : NonEmpty (2 ^ h) (cell_around r h v) = around-up (suc (suc k)) r v below.1 in
    (ap (λ (b : Bool). cond b (empty_up_to r k v) h) (some-non_empty (2 ^ h) (cell_around r h v) up) ∙ below.0, up)

-- 0 where the leaf is non-empty
abbrev leaf_or : Bool → ℕ
leaf_or b = cond b 0 2

pub zero-leaf : (k : ℕ) (r : Room) (v : Point) → empty_up_to r k v ≡ 0 → NonEmpty (2 ^ 2) (cell_around r 2 v)
unfolding empty_up_to
zero-leaf zero r v = go (non_empty (2 ^ 2) (cell_around r 2 v)) refl
  where
    go : (b : Bool) → non_empty (2 ^ 2) (cell_around r 2 v) ≡ b → leaf_or b ≡ 0 → NonEmpty (2 ^ 2) (cell_around r 2 v)
    go true q e = non_empty-some (2 ^ 2) (cell_around r 2 v) q
    go false q e = absurd (suc-ne-zero 1 e)
zero-leaf (suc k) r v = go (non_empty (2 ^ suc (suc (suc k))) (cell_around r (suc (suc (suc k))) v)) (zero-leaf k r v)
  where
    go : (b : Bool) → (empty_up_to r k v ≡ 0 → NonEmpty (2 ^ 2) (cell_around r 2 v)) → cond b (empty_up_to r k v) (suc (suc (suc k))) ≡ 0 → NonEmpty (2 ^ 2) (cell_around r 2 v)
    go true ih e = ih e
    go false ih e = absurd (suc-ne-zero (suc (suc k)) e)

-- otherwise: the height of an empty cell, and the next one, up to height k + 2, is non-empty
pub record Greatest (k : ℕ) (r : Room) (v : Point) (h : ℕ) : Type 0 where
  pub low : 2 ≤ h
  pub high : h ≤ suc (suc k)
  pub empty : non_empty (2 ^ h) (cell_around r h v) ≡ false
  pub above : h < suc (suc k) → non_empty (2 ^ suc h) (cell_around r (suc h) v) ≡ true

greatest-up : (k : ℕ) (r : Room) (v : Point) (h : ℕ) → non_empty (2 ^ suc (suc (suc k))) (cell_around r (suc (suc (suc k))) v) ≡ true → Greatest k r v h → Greatest (suc k) r v h
greatest-up k r v h q g = record { low = g.low; high = omega (arith, g.high); empty = g.empty; above = λ l. go (dec_lt h (suc (suc k))) }
  where
    go : Dec (h < suc (suc k)) → non_empty (2 ^ suc h) (cell_around r (suc h) v) ≡ true
    go (yes l) = g.above l
    go (no n) = let e : suc (suc k) ≡ h = omega (arith, n, g.high) in subst (λ (m : ℕ). non_empty (2 ^ suc m) (cell_around r (suc m) v) ≡ true) e q

pub empty-greatest : (k : ℕ) (r : Room) (v : Point) → (empty_up_to r k v ≡ 0 → ⊥) → Greatest k r v (empty_up_to r k v)
unfolding empty_up_to
empty-greatest zero r v = go (non_empty (2 ^ 2) (cell_around r 2 v)) refl
  where
    go : (b : Bool) → non_empty (2 ^ 2) (cell_around r 2 v) ≡ b → (leaf_or b ≡ 0 → ⊥) → Greatest 0 r v (leaf_or b)
    go true q ne = absurd (ne refl)
    go false q ne = record { low = omega arith; high = omega arith; empty = q; above = λ l. absurd (omega (arith, l)) }
empty-greatest (suc k) r v = go (non_empty (2 ^ suc (suc (suc k))) (cell_around r (suc (suc (suc k))) v)) refl (empty-greatest k r v)
  where
    go : (b : Bool) → non_empty (2 ^ suc (suc (suc k))) (cell_around r (suc (suc (suc k))) v) ≡ b → ((empty_up_to r k v ≡ 0 → ⊥) → Greatest k r v (empty_up_to r k v))
        → (cond b (empty_up_to r k v) (suc (suc (suc k))) ≡ 0 → ⊥) → Greatest (suc k) r v (cond b (empty_up_to r k v) (suc (suc (suc k))))
    go true q ih ne = greatest-up k r v (empty_up_to r k v) q (ih ne)
    go false q ih ne = record { low = omega arith; high = omega arith; empty = q; above = λ l. absurd (omega (arith, l)) }

-- ---- by the pointers on the way down

-- the height of the topmost that is none, of lists j down to 0; 0 where none is
unfoldable scan : List (List Cell) → ℕ → ℕ → Point → ℕ → ℕ
scan K top p v zero = cond (not (eqb (pointer_to K 0 top p v) 0)) 0 2
scan K top p v (suc j) = let r = scan K top p v j in cond (not (eqb (pointer_to K (suc j) top p v) 0)) r (suc (suc (suc j)))

module _ (K : List (List Cell)) (ok : OkCells K) where
  -- one list down
  scan-down : (k p : ℕ) (v : Point) (j : ℕ) → j ≤ k → (p ≡ 0 → ⊥)
      → scan K (suc k) p v j ≡ scan K k (taken k (below K (suc k) p) (mirror (tag_of p) (edge (suc k)) v)) (in_child (edge k) (mirror (tag_of p) (edge (suc k)) v)) j
  unfolding scan
  scan-down k p v zero h ne = ap (λ (n : ℕ). cond (not (eqb n 0)) 0 2) (pointer_to-some K ok 0 k p v (omega arith) ne)
  scan-down k p v (suc j) h ne =
      ap₂ (λ (n m : ℕ). cond (not (eqb n 0)) m (suc (suc (suc j)))) (pointer_to-some K ok (suc j) k p v (omega arith) ne) (scan-down k p v j (omega arith) ne)

  -- the walk from pointer p of list k
  abbrev walk_from : ℕ → ℕ → Point → Walk
  walk_from k p v = onward (suc (suc k)) (λ t n. walk_in (graph_reading K) k n t v) (child_for p)

  walk-scan : (k p : ℕ) (v : Point) → empty_height (walk_from k p v).end ≡ scan K k p v k
  unfolding walk_in scan
  walk-scan zero p v = rw (pointer_to-here K ok 0 0 p v) (go (eqb p 0))
    where
      go : (b : Bool) → empty_height (onward 2 (λ t n. walk_in (graph_reading K) 0 n t v) (cond b none (to (tag_of p) (cell_no p)))).end ≡ cond (not b) 0 2
      go true = refl
      go false = refl
  walk-scan (suc k) p v =
      let w : Point = mirror (tag_of p) (edge (suc k)) v in
      rw (pointer_to-here K ok (suc k) (suc k) p v) (go (eqb p 0) refl (walk-scan k (taken k (below K (suc k) p) w) (in_child (edge k) w)))
    where
      w : Point
      w = mirror (tag_of p) (edge (suc k)) v

      q : ℕ
      q = taken k (below K (suc k) p) w

      go : (b : Bool) → eqb p 0 ≡ b → empty_height (walk_from k q (in_child (edge k) w)).end ≡ scan K k q (in_child (edge k) w) k
          → empty_height (onward (suc (suc (suc k))) (λ t n. walk_in (graph_reading K) (suc k) n t v) (cond b none (to (tag_of p) (cell_no p)))).end
          ≡ cond (not b) (scan K (suc k) p v k) (suc (suc (suc k)))
      go true e ih = refl
      go false e ih = ih ∙ sym (scan-down k p v k (omega arith) (eqb-false p 0 e))

-- ---- none exactly where the cell is empty

module _ (K : List (List Cell)) (I : Invs K) (k p : ℕ) (okp : OkPointer (length (cells_at K k)) p) (v : Point) (l : Inside (edge k) v) where
  abbrev R : Room
  R = pointer_voxel (cell_voxel K k) (cells_at K k) (edge k) p

  pointer-around : (j : ℕ) → j ≤ k → not (eqb (pointer_to K j k p v) 0) ≡ non_empty (edge j) (cell_around R (suc (suc j)) v)
  pointer-around j h =
      let d : ℕ = k - j in
      let c : Point = point (v.x / edge j) (v.y / edge j) (v.z / edge j) in
      let u : Point = in_child (edge j) v in
      let up : suc (suc k) ≡ d + suc (suc j) = omega arith in
      let s : Ends K j (cell_of R (suc (suc j)) c) (pointer_to K j k p (point_at (edge j) c u)) =
      leads K (λ i q m. (I i).ok q m) j d k (omega arith) p okp c u (around-inside (suc (suc j)) d v (subst (λ (n : ℕ). Inside (2 ^ n) v) up l)) (reduced-inside (edge j) v (pow_pos (suc (suc j)))) in
      ap (λ (x : Point). not (eqb (pointer_to K j k p x) 0)) (sym (point-whole (edge j) v)) ∙ ends-non_empty K I j (cell_of R (suc (suc j)) c) _ s

  scan-empty : (j : ℕ) → j ≤ k → scan K k p v j ≡ empty_up_to R j v
  unfolding scan empty_up_to
  scan-empty zero h = ap (λ (b : Bool). cond b 0 2) (pointer-around 0 h)
  scan-empty (suc j) h = ap₂ (λ (b : Bool) (n : ℕ). cond b n (suc (suc (suc j)))) (pointer-around (suc j) h) (scan-empty j (omega arith))

  -- the walk from a pointer that is not bad, in lists as they should be
  pub pointer-empty : empty_height (onward (suc (suc k)) (λ t n. walk_in (graph_reading K) k n t v) (child_for p)).end ≡ empty_up_to R k v
  pointer-empty = walk-scan K (λ i q m. (I i).ok q m) k p v ∙ scan-empty k (omega arith)
