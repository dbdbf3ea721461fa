-- A cell question: from height 2 up the walk to its list ends at its pointer; below that all its voxels lie in one leaf, so one walk serves them
-- all. By the laws of walks, and since a walk looks at coordinates in fours only. Assumes nothing.
use mathlib.Core.Path.{◌≡◌, refl, sym, ap, ap₂, ◌∙◌, subst}
use mathlib.Core.Bool.{Bool, true, false, cond, not}
use mathlib.Core.List.{List}
use Prim.Native.Nat.{ℕ, zero, suc, ◌+◌, ◌-◌, ◌*◌, ◌/◌, ◌%◌, ◌^◌, ◌<◌, ◌≤◌}
use native.Mathlib.Nat.{div-div-eq-div-mul, lt_of_lt_of_le, mul-mod_left, mul-lt-mul_of_pos_right, mul-le-mul_right}
use native.Mathlib.Omega.{arith}
use lib.Bits.{bit_xor, xor_zero_r}
use lib.Dec.{T, eqb, leb}
use lib.ListN.{length, get_or}
use lib.Pow.{pow-add, pow_mono, pow_pos}
use Rattle.paper.specs.Numbers.{bit_for}
use Rattle.paper.specs.Rooms.{Point, point, Inside, deepest, depth_ok, mirror, cell_of, non_empty}
use Rattle.paper.specs.Outline.{edge}
use Rattle.paper.specs.Store.{Cell, cells_at, cell_at, leaf_no, tag_of, cell_no, any_bad}
use Rattle.paper.specs.Meaning.{root_room}
use Rattle.paper.specs.Walk.{is_damaged, solid_at}
use Rattle.paper.specs.Questions.{voxel_walk, below, walk_damaged, from_root, corner, pointer_to}
use Rattle.laws.proofs.CellVoxels.{voxel-means}
use Rattle.laws.proofs.OutlineCells.{non_empty-same, no-voxel-empty}
use Rattle.walk.specs.Walk.{Ended, Absent, At, Damaged, taken_from, walk_to, end_of}
use Rattle.cell.specs.Cell.{Aligned, cell_end, leaf_seen, small_at}
use Rattle.points.specs.Seeing.{child_no_at, seen_at}
use Rattle.walk.proofs.Roots.{root-seen, voxel-root}
use Rattle.cell.proofs.Pointers.{or_damage, met_damage, end-damage, root-damaged, pointer-end}

-- ---- the corner lies inside

pub corner-inside : (D h : ℕ) (c : Point) → h ≤ D → Inside (2 ^ (D - h)) c → Inside (2 ^ D) (corner h c)
corner-inside D h c l i =
    let e : 2 ^ (D - h) * 2 ^ h ≡ 2 ^ D = sym (pow-add 2 (D - h) h) ∙ ap (λ (n : ℕ). 2 ^ n) (omega arith) in
    let at : (x : ℕ) → x < 2 ^ (D - h) → x * 2 ^ h < 2 ^ D = λ x q. subst (λ (n : ℕ). x * 2 ^ h < n) e (mul-lt-mul_of_pos_right q (pow_pos h)) in
    record { in_x = at c.x i.in_x; in_y = at c.y i.in_y; in_z = at c.z i.in_z }

pub corner-fits : (D h : ℕ) (c : Point) → D ≤ deepest → h ≤ D → Inside (2 ^ (D - h)) c → Inside 65536 (corner h c)
corner-fits D h c m l i =
    let j = corner-inside D h c l i in
    let up : 2 ^ D ≤ 65536 = pow_mono {j = 16} m in
    record { in_x = lt_of_lt_of_le j.in_x up; in_y = lt_of_lt_of_le j.in_y up; in_z = lt_of_lt_of_le j.in_z up }

-- and on the edges of cells of its height
pub corner-aligned : (h : ℕ) (c : Point) → Aligned h (corner h c)
corner-aligned h c = record { on_x = mul-mod_left c.x (2 ^ h); on_y = mul-mod_left c.y (2 ^ h); on_z = mul-mod_left c.z (2 ^ h) }

-- ---- from height 2 up

-- no mirror, inside
plain-seen : (D : ℕ) (v : Point) → T (depth_ok D) → Inside (2 ^ D) v → seen_at (D - 2) 0 v ≡ v
plain-seen D v d h = sym (root-seen D 0 v d h)

pub pointer-root : (K : List (List Cell)) (stop D p : ℕ) (v : Point) → T (depth_ok D) → Inside (2 ^ D) v → T (not (eqb p 0))
    → cell_end (walk_to K stop (D - 2) (cell_no p) (tag_of p) v) ≡ or_damage (from_root (walk_damaged K stop) K D p v) (bit_for (not (eqb (pointer_to K stop (D - 2) p v) 0)))
pointer-root K stop D p v d h n =
    let t : ℕ = tag_of p in
    let e : bit_xor t 0 ≡ t = xor_zero_r t in
    let c : Cell = below K (D - 2) p in
    ap (λ (m : ℕ). cell_end (walk_to K stop (D - 2) (cell_no p) m v)) (sym e)
    ∙ pointer-end K stop (D - 2) p 0 v (omega arith) n
    ∙ ap₂ (λ (w u : Point). or_damage (walk_damaged K stop (D - 2) c w) (bit_for (not (eqb (pointer_to K stop (D - 2) p u) 0))))
    (ap (λ (m : ℕ). seen_at (D - 2) m v) e ∙ sym (root-seen D t v d h)) (plain-seen D v d h)
    ∙ named (eqb p 0) n
  where
    named : (b : Bool) → T (not b)
        → or_damage (walk_damaged K stop (D - 2) (below K (D - 2) p) (mirror (tag_of p) (2 ^ D) v)) (bit_for (not (eqb (pointer_to K stop (D - 2) p v) 0)))
        ≡ or_damage (cond b false (walk_damaged K stop (D - 2) (below K (D - 2) p) (mirror (tag_of p) (2 ^ D) v))) (bit_for (not (eqb (pointer_to K stop (D - 2) p v) 0)))
    named true q = absurd q
    named false q = refl

-- ---- a walk looks at coordinates in fours only

pub record InFours (v w : Point) : Type 0 where
  pub of_x : v.x / 4 ≡ w.x / 4
  pub of_y : v.y / 4 ≡ w.y / 4
  pub of_z : v.z / 4 ≡ w.z / 4

by-fours : (x k : ℕ) → x / edge k ≡ x / 4 / 2 ^ k
by-fours x k =
    let e : 4 * 2 ^ k ≡ 2 ^ suc (suc k) = omega arith in
    ap (λ (n : ℕ). x / n) (sym e) ∙ sym (div-div-eq-div-mul x 4 (2 ^ k))

half-fours : (x y k : ℕ) → x / 4 ≡ y / 4 → x / edge k % 2 ≡ y / edge k % 2
half-fours x y k e = ap (λ (n : ℕ). n % 2) (by-fours x k ∙ ap (λ (n : ℕ). n / 2 ^ k) e ∙ sym (by-fours y k))

child_no_at-fours : (k : ℕ) (v w : Point) → InFours v w → child_no_at k v ≡ child_no_at k w
child_no_at-fours k v w s = λ i. half-fours v.x w.x k s.of_x i + 2 * half-fours v.y w.y k s.of_y i + 4 * half-fours v.z w.z k s.of_z i

pub walk-fours : (K : List (List Cell)) (stop k n m : ℕ) (v w : Point) → InFours v w → walk_to K stop k n m v ≡ walk_to K stop k n m w
unfolding walk_to
walk-fours K stop zero n m v w s = refl
walk-fours K stop (suc k) n m v w s =
    let c : Cell = cell_at K (suc k) n in
    let q : ℕ = taken_from k c m w in
    let at : ℕ → Ended → Ended = λ p r. cond (leb (suc k) stop) (At n m) (cond (any_bad (length (cells_at K k)) c) Damaged (cond (eqb p 0) (Absent (suc (suc k))) r)) in
    ap (λ (i : ℕ). at (get_or c (bit_xor i m) 0) (walk_to K stop k (cell_no (get_or c (bit_xor i m) 0)) (bit_xor (tag_of (get_or c (bit_xor i m) 0)) m) v)) (child_no_at-fours k v w s)
    ∙ ap (at q) (walk-fours K stop k (cell_no q) (bit_xor (tag_of q) m) v w s)

-- ---- below height 2

-- voxel u of the cell of height h at c, in the room
abbrev pub within : ℕ → Point → Point → Point
within h c u = point (c.x * 2 ^ h + u.x) (c.y * 2 ^ h + u.y) (c.z * 2 ^ h + u.z)

-- the end of such a question
abbrev pub small_end : List (List Cell) → ℕ → Point → Ended → ℕ
small_end K h c r = small_at K h (corner h c) r

same-four : (a h u : ℕ) → h < 2 → u < 2 ^ h → (a * 2 ^ h + u) / 4 ≡ a * 2 ^ h / 4
same-four a zero u l q = ap (λ (n : ℕ). n / 4) (omega arith)
same-four a (suc zero) u l q = omega arith
same-four a (suc (suc h)) u l q = absurd (omega arith)

within-fours : (h : ℕ) (c u : Point) → h < 2 → Inside (2 ^ h) u → InFours (within h c u) (corner h c)
within-fours h c u l i = record { of_x = same-four c.x h u.x l i.in_x; of_y = same-four c.y h u.y l i.in_y; of_z = same-four c.z h u.z l i.in_z }

within-inside : (D h : ℕ) (c u : Point) → h ≤ D → Inside (2 ^ (D - h)) c → Inside (2 ^ h) u → Inside (2 ^ D) (within h c u)
within-inside D h c u l i j =
    let e : 2 ^ (D - h) * 2 ^ h ≡ 2 ^ D = sym (pow-add 2 (D - h) h) ∙ ap (λ (n : ℕ). 2 ^ n) (omega arith) in
    let at : (x y : ℕ) → x < 2 ^ (D - h) → y < 2 ^ h → x * 2 ^ h + y < 2 ^ D = λ x y q r. subst (λ (n : ℕ). x * 2 ^ h + y < n) e (omega (arith, mul-le-mul_right (2 ^ h) q)) in
    record { in_x = at c.x u.x i.in_x j.in_x; in_y = at c.y u.y i.in_y j.in_y; in_z = at c.z u.z i.in_z j.in_z }

module _ (K : List (List Cell)) (D p h : ℕ) (c : Point) (d : T (depth_ok D)) (l : h < 2) (low : h ≤ D) (i : Inside (2 ^ (D - h)) c) (n : T (not (eqb p 0))) where
  abbrev end : Ended
  end = walk_to K 0 (D - 2) (cell_no p) (tag_of p) (corner h c)

  -- each voxel of the cell is seen where that one walk ended
  each_seen : (R : Ended) → end ≡ R → met_damage R ≡ false → (u : Point) → Inside (2 ^ h) u → root_room K D p (within h c u) ≡ solid_at (end_of K (within h c u) R)
  each_seen R e o u j =
      let w : Point = within h c u in
      let q : Inside (2 ^ D) w = within-inside D h c u low i j in
      let r : (voxel_walk K D p w).end ≡ end_of K w R =
      sym (voxel-root K D p w d q n) ∙ ap (end_of K w) (walk-fours K 0 (D - 2) (cell_no p) (tag_of p) w (corner h c) (within-fours h c u l j) ∙ e) in
      sym (voxel-means K D p d w (ap is_damaged r ∙ end-damage K w R ∙ o)) ∙ ap solid_at r

  by_end : (R : Ended) → end ≡ R → small_end K h c R ≡ or_damage (met_damage R) (bit_for (non_empty (2 ^ h) (cell_of (root_room K D p) h c)))
  by_end (Absent g) e = ap bit_for (sym (non_empty-same (2 ^ h) (cell_of (root_room K D p) h c) (λ u. false) (each_seen (Absent g) e refl) ∙ no-voxel-empty (2 ^ h)))
  by_end (At q m) e = ap bit_for (sym (non_empty-same (2 ^ h) (cell_of (root_room K D p) h c) (leaf_seen (leaf_no (cell_at K 0 q)) m (corner h c)) (each_seen (At q m) e refl)))
  by_end Damaged e = refl

  pub small-root : small_end K h c end ≡ or_damage (from_root (walk_damaged K 0) K D p (corner h c)) (bit_for (non_empty (2 ^ h) (cell_of (root_room K D p) h c)))
  small-root =
      by_end end refl
      ∙ ap (λ (b : Bool). or_damage b (bit_for (non_empty (2 ^ h) (cell_of (root_room K D p) h c)))) (sym (root-damaged K 0 D p (corner h c) d (corner-inside D h c low i) n))
