-- Where a cell occurs in a room: as one of its aligned cells, unmirrored. Cells of a child are cells of the whole, and rooms with the same voxels
-- have the same cells. By the coordinates on each axis. Assumes nothing.
use mathlib.Core.Path.{◌≡◌, sym, ◌∙◌, ap}
use Prim.Native.Nat.{ℕ, zero, suc, ◌+◌, ◌*◌, ◌/◌, ◌%◌, ◌^◌, ◌<◌}
use native.Mathlib.Nat.{add-zero, mul-le-mul_right, pow-succ'}
use native.Mathlib.Omega.{arith}
use lib.Dec.{lit<}
use lib.Pow.{pow-add}
use Rattle.paper.specs.Rooms.{Point, point, Room, Inside, cell_of, child_no, in_child, child_room, Same}
use Rattle.paper.specs.Outline.{edge}
use Rattle.laws.proofs.Mirrors.{from_child, from_child-whole, from_child-inside}

-- ---- cells of a room

-- on one axis
axis-down : (q D m H E v : ℕ) → E ≡ H * D → (q * D + m) * H + v ≡ q * E + (m * H + v)
axis-down q D m H E v e = rw e (omega arith)

axis-in : (D H c v : ℕ) → c < D → v < H → c * H + v < H * D
axis-in D H c v hc hv = omega (arith, mul-le-mul_right H hc)

axis-first : (H n m : ℕ) → n < 1 → n * H + m ≡ m
axis-first H zero m p = omega arith
axis-first H (suc n) m p = absurd (omega arith)

-- a cell of child i, S being the child's edge, as one of the whole
pub cell-from_child : (h d S i : ℕ) (r : Room) (c : Point) → S ≡ 2 ^ h * 2 ^ d
    → (v : Point) → cell_of r h (from_child (2 ^ d) i c) v ≡ cell_of (child_room S i r) h c v
cell-from_child h d S i r c e v =
    ap r (λ y. point (axis-down (i % 2) (2 ^ d) c.x (2 ^ h) S v.x e y) (axis-down (i / 2 % 2) (2 ^ d) c.y (2 ^ h) S v.y e y)
    (axis-down (i / 4 % 2) (2 ^ d) c.z (2 ^ h) S v.z e y))

-- a cell of the whole, as one of the child that holds it
pub cell-down : (h d S : ℕ) (r : Room) (c : Point) → S ≡ 2 ^ h * 2 ^ d → Inside (2 * 2 ^ d) c
    → (v : Point) → cell_of r h c v ≡ cell_of (child_room S (child_no (2 ^ d) c) r) h (in_child (2 ^ d) c) v
cell-down h d S r c e l v =
    ap (λ (b : Point). cell_of r h b v) (sym (from_child-whole (2 ^ d) c l)) ∙ cell-from_child h d S (child_no (2 ^ d) c) r (in_child (2 ^ d) c) e v

-- the only cell of its own height
pub cell-whole : (h : ℕ) (r : Room) (c : Point) → Inside 1 c → (v : Point) → cell_of r h c v ≡ r v
cell-whole h r c l v =
    ap r (λ y. point (axis-first (2 ^ h) c.x v.x l.in_x y) (axis-first (2 ^ h) c.y v.y l.in_y y) (axis-first (2 ^ h) c.z v.z l.in_z y))

-- rooms with the same voxels have the same cells
pub same-cell : (h d S : ℕ) (a b : Room) (c : Point) → S ≡ 2 ^ h * 2 ^ d → Same S a b → Inside (2 ^ d) c → Same (2 ^ h) (cell_of a h c) (cell_of b h c)
same-cell h d S a b c e s l v m =
    s (point (c.x * 2 ^ h + v.x) (c.y * 2 ^ h + v.y) (c.z * 2 ^ h + v.z))
    (rw e (record {
      in_x = axis-in (2 ^ d) (2 ^ h) c.x v.x l.in_x m.in_x;
      in_y = axis-in (2 ^ d) (2 ^ h) c.y v.y l.in_y m.in_y;
      in_z = axis-in (2 ^ d) (2 ^ h) c.z v.z l.in_z m.in_z;
    }))

-- ---- a cell that occurs

-- r is the cell of list j at some place of the room f of list k
pub record Occurs (f : Room) (k j : ℕ) (r : Room) : Type 0 where
  pub down : ℕ
  pub is_down : j + down ≡ k
  pub place : Point
  pub is-inside : Inside (2 ^ down) place
  pub is : Same (edge j) (cell_of f (suc (suc j)) place) r

-- the edge, d heights up
pub edge-up : (j d k : ℕ) → j + d ≡ k → edge k ≡ 2 ^ suc (suc j) * 2 ^ d
edge-up j d k e =
    let up : suc (suc k) ≡ suc (suc j) + d = omega arith in
    ap (λ (n : ℕ). 2 ^ n) up ∙ pow-add 2 (suc (suc j)) d

-- the room itself
pub occurs-here : (f r : Room) (k : ℕ) → Same (edge k) f r → Occurs f k k r
occurs-here f r k s = record {
  down = 0;
  is_down = add-zero k;
  place = point 0 0 0;
  is-inside = record { in_x = lit< tt; in_y = lit< tt; in_z = lit< tt };
  is = λ v l. cell-whole (suc (suc k)) f (point 0 0 0) (record { in_x = lit< tt; in_y = lit< tt; in_z = lit< tt }) v ∙ s v l;
}

-- a cell with the same voxels
pub occurs-as : {f : Room} {k j : ℕ} (r s : Room) → Same (edge j) r s → Occurs f k j r → Occurs f k j s
occurs-as r s e o = record { down = o.down; is_down = o.is_down; place = o.place; is-inside = o.is-inside; is = λ v l. o.is v l ∙ e v l }

-- in a room with the same voxels
pub occurs-in : {k j : ℕ} {r : Room} (f g : Room) → Same (edge k) g f → Occurs f k j r → Occurs g k j r
occurs-in {k} {j} f g e o = record {
  down = o.down;
  is_down = o.is_down;
  place = o.place;
  is-inside = o.is-inside;
  is = λ v l. same-cell (suc (suc j)) o.down (edge k) g f o.place (edge-up j o.down k o.is_down) e o.is-inside v l ∙ o.is v l;
}

-- in a child, so in the whole
pub occurs-up : {m j : ℕ} {r : Room} (f g : Room) (i : ℕ) → Same (edge m) (child_room (edge m) i f) g → Occurs g m j r → Occurs f (suc m) j r
occurs-up {m} {j} {r} f g i e o =
    let b : Occurs (child_room (edge m) i f) m j r = occurs-in g (child_room (edge m) i f) e o in
    let d : ℕ = b.down in
    record {
      down = suc d;
      is_down = omega (arith, b.is_down);
      place = from_child (2 ^ d) i b.place;
      is-inside = rw (pow-succ' 2 d) (from_child-inside (2 ^ d) i b.place b.is-inside);
      is = λ v l. cell-from_child (suc (suc j)) d (edge m) i f b.place (edge-up j d m b.is_down) v ∙ b.is v l;
    }

-- a child of a cell that occurs
axis-child : (c b H E v : ℕ) → E ≡ 2 * H → (2 * c + b) * H + v ≡ c * E + (b * H + v)
axis-child c b H E v e = rw e (omega arith)

pub occurs-child : {f : Room} {k j : ℕ} (r : Room) (i : ℕ) → Occurs f k (suc j) r → Occurs f k j (child_room (edge j) i r)
occurs-child {f} {k} {j} r i o =
    let d : ℕ = o.down in
    let c : Point = o.place in
    let e : edge (suc j) ≡ 2 * edge j = pow-succ' 2 (suc (suc j)) in
    record {
      down = suc d;
      is_down = omega (arith, o.is_down);
      place = point (2 * c.x + i % 2) (2 * c.y + i / 2 % 2) (2 * c.z + i / 4 % 2);
      is-inside = rw (pow-succ' 2 d) (record { in_x = omega (arith, o.is-inside.in_x); in_y = omega (arith, o.is-inside.in_y); in_z = omega (arith, o.is-inside.in_z) });
      is = λ v l.
          ap f (λ y. point (axis-child c.x (i % 2) (edge j) (edge (suc j)) v.x e y) (axis-child c.y (i / 2 % 2) (edge j) (edge (suc j)) v.y e y)
          (axis-child c.z (i / 4 % 2) (edge j) (edge (suc j)) v.z e y))
          ∙ o.is (from_child (edge j) i v) (rw e (from_child-inside (edge j) i v l));
    }
