-- The non-empty cells that share a voxel with a box, counted by going down: a cell that does counts once, and so does each that its children have of the
-- box cut to them. That comes to the paper's count, height by height over all places. By induction on the height: the cells of one height in a cube
-- are those of its eight children. Assumes nothing.
use mathlib.Core.Path.{◌≡◌, refl, sym, ◌∙◌, ap, ap₂}
use mathlib.Core.Bool.{Bool, ◌&&◌}
use Prim.Native.Nat.{ℕ, zero, suc, ◌+◌, ◌-◌, ◌*◌, ◌/◌, ◌%◌, ◌^◌, ◌<◌, ◌≤◌, min}
use native.Mathlib.Nat.{pow-succ', mul-le-mul_right}
use native.Mathlib.Omega.{arith}
use lib.Dec.{T, ltb, lt→ltb, ltb→lt, lit<}
use lib.Pow.{pow-add, pow_pos}
use Rattle.paper.specs.Numbers.{sum, bit_for}
use Rattle.paper.specs.Rooms.{Point, Room, Inside, Same, cell_of, child_room, sum3, has_voxel, origin, clip, clipped, non_empty}
use Rattle.paper.specs.Outline.{edge}
use Rattle.paper.specs.Anything.{axis_shares, shares_voxel, sharing_at, sharing}
use Rattle.laws.proofs.Tests.{iff-eq, and_left, and_right, and_T}
use Rattle.laws.proofs.Mirrors.{from_child}
use Rattle.laws.proofs.OutlineCells.{non_empty-same}
use Rattle.laws.proofs.OutlineWriting.{child_of-same}
use Rattle.laws.proofs.Occurring.{cell-from_child, cell-whole}
use Rattle.laws.proofs.Sums.{sum_same, sum-add, sum-zero, sum3-same, sum3-children}

-- ---- counted by going down

-- the cell itself
abbrev pub shares : ℕ → Room → Point → Point → ℕ
shares k r low high = bit_for (has_voxel low high && non_empty (edge k) r)

-- and all in it, of list k down to the leaves
unfoldable pub sharers : ℕ → Room → Point → Point → ℕ
sharers zero r low high = shares 0 r low high
sharers (suc k) r low high = shares (suc k) r low high + sum 8 (λ i. sharers k (child_room (edge k) i r) (clipped (edge k) i low) (clipped (edge k) i high))

-- by the voxels alone
pub sharers-same : (k : ℕ) (r r' : Room) (low high : Point) → Same (edge k) r r' → sharers k r low high ≡ sharers k r' low high
unfolding sharers
sharers-same zero r r' low high e = ap (λ (b : Bool). bit_for (has_voxel low high && b)) (non_empty-same (edge 0) r r' e)
sharers-same (suc k) r r' low high e =
    ap₂ (λ (b : Bool) (n : ℕ). bit_for (has_voxel low high && b) + n) (non_empty-same (edge (suc k)) r r' e)
    (sum_same 8 _ _ (λ i l. sharers-same k (child_room (edge k) i r) (child_room (edge k) i r') (clipped (edge k) i low) (clipped (edge k) i high) (child_of-same k r r' e i)))

-- ---- one axis

record Overlap (S c low high : ℕ) : Type 0 where
  some : low < high
  from : low < c * S + S
  to : c * S < high

-- P is the cell's corner in its half, B that of the half
cut_down : (E B P S low high : ℕ) → 0 < S → P + S ≤ E → low < high → low < B + P + S → B + P < high
    → (min E (low - B) < min E (high - B)) × (min E (low - B) < P + S) × (P < min E (high - B))
cut_down E B P S low high s p h l r = omega arith

cut_up : (E B P S low high : ℕ) → 0 < S → P + S ≤ E → min E (low - B) < min E (high - B) → min E (low - B) < P + S → P < min E (high - B)
    → (low < high) × (low < B + P + S) × (B + P < high)
cut_up E B P S low high s p h l r = omega arith

module _ (S N b c low high : ℕ) (s : 0 < S) (l : c < N) where
  abbrev E : ℕ
  E = S * N

  inside : c * S + S ≤ S * N
  inside = omega (arith, mul-le-mul_right S l)

  place : (b * N + c) * S ≡ b * (S * N) + c * S
  place = omega arith

  overlap-down : Overlap S (b * N + c) low high → Overlap S c (clip (S * N) b low) (clip (S * N) b high)
  overlap-down o =
      let q = cut_down E (b * E) (c * S) S low high s inside o.some (omega (arith, o.from, place)) (omega (arith, o.to, place)) in
      record { some = q.0; from = q.1; to = q.2 }

  overlap-up : Overlap S c (clip (S * N) b low) (clip (S * N) b high) → Overlap S (b * N + c) low high
  overlap-up o =
      let q = cut_up E (b * E) (c * S) S low high s inside o.some o.from o.to in
      record { some = q.0; from = omega (arith, q.1, place); to = omega (arith, q.2, place) }

-- ---- three axes

record Overlaps (S : ℕ) (c low high : Point) : Type 0 where
  on_x : Overlap S c.x low.x high.x
  on_y : Overlap S c.y low.y high.y
  on_z : Overlap S c.z low.z high.z

axis-overlap : (S c low high : ℕ) → T (ltb low high) → T (axis_shares S c low high) → Overlap S c low high
axis-overlap S c low high a b = record {
  some = ltb→lt low high a;
  from = ltb→lt low (c * S + S) (and_left (ltb low (c * S + S)) (ltb (c * S) high) b);
  to = ltb→lt (c * S) high (and_right (ltb low (c * S + S)) (ltb (c * S) high) b);
}

overlap-axis : (S c low high : ℕ) → Overlap S c low high → T (axis_shares S c low high)
overlap-axis S c low high o = and_T (ltb low (c * S + S)) (ltb (c * S) high) (lt→ltb low (c * S + S) o.from) (lt→ltb (c * S) high o.to)

shares-overlaps : (h : ℕ) (c low high : Point) → T (shares_voxel h c low high) → Overlaps (2 ^ h) c low high
shares-overlaps h c low high t =
    let S : ℕ = 2 ^ h in
    let lx : Bool = ltb low.x high.x in
    let ly : Bool = ltb low.y high.y in
    let lz : Bool = ltb low.z high.z in
    let v : Bool = has_voxel low high in
    let a : Bool = axis_shares S c.x low.x high.x in
    let b : Bool = axis_shares S c.y low.y high.y in
    let d : Bool = axis_shares S c.z low.z high.z in
    let tb : T (v && a && b) = and_left (v && a && b) d t in
    let ta : T (v && a) = and_left (v && a) b tb in
    let tv : T (lx && ly && lz) = and_left v a ta in
    let ty : T (lx && ly) = and_left (lx && ly) lz tv in
    record {
      on_x = axis-overlap S c.x low.x high.x (and_left lx ly ty) (and_right v a ta);
      on_y = axis-overlap S c.y low.y high.y (and_right lx ly ty) (and_right (v && a) b tb);
      on_z = axis-overlap S c.z low.z high.z (and_right (lx && ly) lz tv) (and_right (v && a && b) d t);
    }

overlaps-shares : (h : ℕ) (c low high : Point) → Overlaps (2 ^ h) c low high → T (shares_voxel h c low high)
overlaps-shares h c low high o =
    let S : ℕ = 2 ^ h in
    let lx : Bool = ltb low.x high.x in
    let ly : Bool = ltb low.y high.y in
    let lz : Bool = ltb low.z high.z in
    let v : Bool = has_voxel low high in
    let a : Bool = axis_shares S c.x low.x high.x in
    let b : Bool = axis_shares S c.y low.y high.y in
    let d : Bool = axis_shares S c.z low.z high.z in
    let tv : T (lx && ly && lz) =
    and_T (lx && ly) lz (and_T lx ly (lt→ltb low.x high.x o.on_x.some) (lt→ltb low.y high.y o.on_y.some)) (lt→ltb low.z high.z o.on_z.some) in
    and_T (v && a && b) d
    (and_T (v && a) b (and_T v a tv (overlap-axis S c.x low.x high.x o.on_x)) (overlap-axis S c.y low.y high.y o.on_y))
    (overlap-axis S c.z low.z high.z o.on_z)

-- a cell of child i shares a voxel with the box where it does with the box cut to the child
shares-child : (h d i : ℕ) (u low high : Point) → Inside (2 ^ d) u
    → shares_voxel h (from_child (2 ^ d) i u) low high ≡ shares_voxel h u (clipped (2 ^ h * 2 ^ d) i low) (clipped (2 ^ h * 2 ^ d) i high)
shares-child h d i u low high l =
    let S : ℕ = 2 ^ h in
    let N : ℕ = 2 ^ d in
    let s : 0 < S = pow_pos h in
    let c : Point = from_child N i u in
    let low' : Point = clipped (S * N) i low in
    let high' : Point = clipped (S * N) i high in
    iff-eq (shares_voxel h c low high) (shares_voxel h u low' high')
    (λ t.
    let o : Overlaps S c low high = shares-overlaps h c low high t in
    overlaps-shares h u low' high' (record {
      on_x = overlap-down S N (i % 2) u.x low.x high.x s l.in_x o.on_x;
      on_y = overlap-down S N (i / 2 % 2) u.y low.y high.y s l.in_y o.on_y;
      on_z = overlap-down S N (i / 4 % 2) u.z low.z high.z s l.in_z o.on_z;
    }))
    (λ t.
    let o : Overlaps S u low' high' = shares-overlaps h u low' high' t in
    overlaps-shares h c low high (record {
      on_x = overlap-up S N (i % 2) u.x low.x high.x s l.in_x o.on_x;
      on_y = overlap-up S N (i / 2 % 2) u.y low.y high.y s l.in_y o.on_y;
      on_z = overlap-up S N (i / 4 % 2) u.z low.z high.z s l.in_z o.on_z;
    }))

-- ---- the cells of one height

-- those of a cube are those of its children
sharing-children : (k j : ℕ) (r : Room) (low high : Point) → j < suc k
    → sharing_at (suc (suc (suc k))) r low high (suc (suc j))
    ≡ sum 8 (λ i. sharing_at (suc (suc k)) (child_room (edge k) i r) (clipped (edge k) i low) (clipped (edge k) i high) (suc (suc j)))
unfolding sharing_at
sharing-children k j r low high hj =
    let h : ℕ = suc (suc j) in
    let d : ℕ = suc (suc k) - h in
    let E : ℕ = edge k in
    let up : suc (suc (suc k)) - h ≡ suc d = omega arith in
    let whole : suc (suc k) ≡ h + d = omega arith in
    let e : E ≡ 2 ^ h * 2 ^ d = ap (λ (n : ℕ). 2 ^ n) whole ∙ pow-add 2 h d in
    let F : Point → ℕ = λ c. bit_for (shares_voxel h c low high && non_empty (2 ^ h) (cell_of r h c)) in
    let G : ℕ → Point → ℕ = λ i u. bit_for (shares_voxel h u (clipped E i low) (clipped E i high) && non_empty (2 ^ h) (cell_of (child_room E i r) h u)) in
    let shared : (i : ℕ) (u : Point) → Inside (2 ^ d) u → shares_voxel h (from_child (2 ^ d) i u) low high ≡ shares_voxel h u (clipped E i low) (clipped E i high) =
    λ i u l. shares-child h d i u low high l ∙ ap (λ (n : ℕ). shares_voxel h u (clipped n i low) (clipped n i high)) (sym e) in
    let filled : (i : ℕ) (u : Point) → non_empty (2 ^ h) (cell_of r h (from_child (2 ^ d) i u)) ≡ non_empty (2 ^ h) (cell_of (child_room E i r) h u) =
    λ i u. non_empty-same (2 ^ h) (cell_of r h (from_child (2 ^ d) i u)) (cell_of (child_room E i r) h u) (λ v m. cell-from_child h d E i r u e v) in
    ap (λ (n : ℕ). sum3 n F) (ap (λ (n : ℕ). 2 ^ n) up ∙ pow-succ' 2 d)
    ∙ sum3-children (2 ^ d) F
    ∙ sum_same 8 (λ i. sum3 (2 ^ d) (λ u. F (from_child (2 ^ d) i u))) (λ i. sum3 (2 ^ d) (G i))
    (λ i l. sum3-same (2 ^ d) (λ u. F (from_child (2 ^ d) i u)) (G i) (λ u m. ap₂ (λ (a b : Bool). bit_for (a && b)) (shared i u m) (filled i u)))

-- a box that ends in the cube
pub record Ends (S : ℕ) (high : Point) : Type 0 where
  pub end_x : high.x ≤ S
  pub end_y : high.y ≤ S
  pub end_z : high.z ≤ S

clipped-ends : (S i : ℕ) (high : Point) → Ends S (clipped S i high)
clipped-ends S i high = record { end_x = omega arith; end_y = omega arith; end_z = omega arith }

-- the whole cube is the one cell of its own height
top-overlap : (S low high : ℕ) → high ≤ S → low < high → Overlap S 0 low high
top-overlap S low high e l = record { some = l; from = omega arith; to = omega arith }

top-shares : (h : ℕ) (low high : Point) → Ends (2 ^ h) high → shares_voxel h origin low high ≡ has_voxel low high
top-shares h low high e =
    let lx : Bool = ltb low.x high.x in
    let ly : Bool = ltb low.y high.y in
    let lz : Bool = ltb low.z high.z in
    let v : Bool = has_voxel low high in
    let a : Bool = axis_shares (2 ^ h) 0 low.x high.x in
    let b : Bool = axis_shares (2 ^ h) 0 low.y high.y in
    let d : Bool = axis_shares (2 ^ h) 0 low.z high.z in
    iff-eq (shares_voxel h origin low high) v
    (λ t. and_left v a (and_left (v && a) b (and_left (v && a && b) d t)))
    (λ t.
    let ty : T (lx && ly) = and_left (lx && ly) lz t in
    overlaps-shares h origin low high (record {
      on_x = top-overlap (2 ^ h) low.x high.x e.end_x (ltb→lt low.x high.x (and_left lx ly ty));
      on_y = top-overlap (2 ^ h) low.y high.y e.end_y (ltb→lt low.y high.y (and_right lx ly ty));
      on_z = top-overlap (2 ^ h) low.z high.z e.end_z (ltb→lt low.z high.z (and_right (lx && ly) lz t));
    }))

sum3-one : (f : Point → ℕ) → sum3 1 f ≡ f origin
unfolding sum3 sum
sum3-one f = omega arith

sharing-top : (k : ℕ) (r : Room) (low high : Point) → Ends (edge k) high → sharing_at (suc (suc k)) r low high (suc (suc k)) ≡ shares k r low high
unfolding sharing_at
sharing-top k r low high e =
    let h : ℕ = suc (suc k) in
    let F : Point → ℕ = λ c. bit_for (shares_voxel h c low high && non_empty (2 ^ h) (cell_of r h c)) in
    let none : h - h ≡ 0 = omega arith in
    ap (λ (n : ℕ). sum3 (2 ^ n) F) none ∙ sum3-one F
    ∙ ap₂ (λ (a b : Bool). bit_for (a && b)) (top-shares h low high e)
    (non_empty-same (2 ^ h) (cell_of r h origin) r (λ v l. cell-whole h r origin (record { in_x = lit< tt; in_y = lit< tt; in_z = lit< tt }) v))

-- ---- all heights

sum-swap : (n m : ℕ) (f : ℕ → ℕ → ℕ) → sum n (λ i. sum m (λ j. f i j)) ≡ sum m (λ j. sum n (λ i. f i j))
unfolding sum
sum-swap zero m f = sym (sum-zero m (λ j. 0) (λ j l. refl))
sum-swap (suc n) m f = ap (λ (a : ℕ). a + sum m (λ j. f n j)) (sum-swap n m f) ∙ sym (sum-add m (λ j. sum n (λ i. f i j)) (λ j. f n j))

sharing-heights : (k : ℕ) (r : Room) (low high : Point) → sharing (suc (suc k)) r low high ≡ sum (suc k) (λ j. sharing_at (suc (suc k)) r low high (suc (suc j)))
unfolding sharing
sharing-heights k r low high = let e : suc (suc k) - 1 ≡ suc k = omega arith in ap (λ (n : ℕ). sum n (λ j. sharing_at (suc (suc k)) r low high (suc (suc j)))) e

sum-last : (n : ℕ) (f : ℕ → ℕ) → f n + sum n f ≡ sum (suc n) f
unfolding sum
sum-last n f = omega arith

pub sharers-are : (k : ℕ) (r : Room) (low high : Point) → Ends (edge k) high → sharers k r low high ≡ sharing (suc (suc k)) r low high
unfolding sharers
sharers-are zero r low high e =
    let f : ℕ → ℕ = λ j. sharing_at 2 r low high (suc (suc j)) in
    let none : sum 0 f ≡ 0 = sum-zero 0 f (λ i l. absurd (omega arith)) in
    sym (sharing-heights 0 r low high ∙ sym (sum-last 0 f) ∙ omega (arith, none, sharing-top 0 r low high e))
sharers-are (suc k) r low high e =
    let E : ℕ = edge k in
    let f : ℕ → ℕ = λ j. sharing_at (suc (suc (suc k))) r low high (suc (suc j)) in
    let G : ℕ → ℕ → ℕ = λ i j. sharing_at (suc (suc k)) (child_room E i r) (clipped E i low) (clipped E i high) (suc (suc j)) in
    ap₂ (λ (a b : ℕ). a + b) (sym (sharing-top (suc k) r low high e))
    (sum_same 8 (λ i. sharers k (child_room E i r) (clipped E i low) (clipped E i high)) (λ i. sum (suc k) (G i))
    (λ i l.
    sharers-are k (child_room E i r) (clipped E i low) (clipped E i high) (clipped-ends E i high)
    ∙ sharing-heights k (child_room E i r) (clipped E i low) (clipped E i high))
    ∙ sum-swap 8 (suc k) G
    ∙ sum_same (suc k) (λ j. sum 8 (λ i. G i j)) f (λ j l. sym (sharing-children k j r low high l)))
    ∙ sum-last (suc k) f ∙ sym (sharing-heights (suc k) r low high)
