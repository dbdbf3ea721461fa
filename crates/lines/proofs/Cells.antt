-- How far a cell reaches along a line: the steps from those at hand up to the last ones are just those whose voxels lie in the same cell. By one axis at
-- a time: the coordinates with one quotient. Assumes nothing.
use mathlib.Core.Path.{◌≡◌, refl, ap}
use mathlib.Core.Bool.{Bool, true, false, cond}
use Prim.Native.Nat.{ℕ, ◌+◌, ◌-◌, ◌*◌, ◌/◌, ◌%◌, ◌^◌, ◌<◌, ◌≤◌}
use native.Mathlib.Nat.{div-add-mod', mod-lt, div-eq_of_lt-le, lt-div-mul-add, div-mul-le_self}
use native.Mathlib.Omega.{arith}
use borrow.Author.Tests.{leb-false, le-leb, lt-leb}
use lib.Dec.{leb}
use lib.Pow.{pow_pos}
use Rattle.paper.specs.Rooms.{Point, Inside}
use Rattle.paper.specs.Lines.{distance, along, distances, voxel_at}
use Rattle.laws.specs.Lines.{AtMost}
use Rattle.laws.proofs.LineSteps.{point-eq}
use Rattle.laws.proofs.LineMeeting.{voxel-inside}
use Rattle.laws.proofs.LineSkipping.{Passes}
use Rattle.lines.specs.Cells.{cell_holding, last_in, last_of}

-- ---- one axis, H the cell's edge

-- upwards from c to e, and downwards
up_in : (H c e : ℕ) → 0 < H → c ≤ e → e + c % H < c + H → e / H ≡ c / H
up_in H c e p h l = div-eq_of_lt-le {k = c / H} H {m = e} (omega (arith, div-add-mod' c H)) (omega (arith, div-add-mod' c H))

up-out : (H c e : ℕ) → 0 < H → e / H ≡ c / H → e + c % H < c + H
up-out H c e p q =
    let s : e / H * H ≡ c / H * H = ap (λ (n : ℕ). n * H) q in
    omega (arith, s, lt-div-mul-add {a = e} {b = H} p, div-add-mod' c H)

down-in : (H c e : ℕ) → 0 < H → e ≤ c → c ≤ e + c % H → e / H ≡ c / H
down-in H c e p h l = div-eq_of_lt-le {k = c / H} H {m = e} (omega (arith, div-add-mod' c H)) (omega (arith, div-add-mod' c H, mod-lt c p))

down_out : (H c e : ℕ) → e / H ≡ c / H → c ≤ e + c % H
down_out H c e q =
    let s : e / H * H ≡ c / H * H = ap (λ (n : ℕ). n * H) q in
    omega (arith, s, div-mul-le_self e H, div-add-mod' c H)

last-least : (h a b i : ℕ) → i ≤ last_in h a b i
unfolding last_in
last-least h a b i = go (leb a b)
  where
    go : (t : Bool) → i ≤ cond t (i + (2 ^ h - 1 - (a + i) % 2 ^ h)) (i + (a - i) % 2 ^ h)
    go true = omega arith
    go false = omega arith

axis-in : (h a b i j : ℕ) → j ≤ distance a b → i ≤ j → j ≤ last_in h a b i → along a b j / 2 ^ h ≡ along a b i / 2 ^ h
unfolding last_in
axis-in h a b i j m l = go (leb a b) refl
  where
    H : ℕ
    H = 2 ^ h

    go : (t : Bool) → leb a b ≡ t → j ≤ cond t (i + (H - 1 - (a + i) % H)) (i + (a - i) % H) → cond t (a + j) (a - j) / H ≡ cond t (a + i) (a - i) / H
    go true e k = up_in H (a + i) (a + j) (pow_pos h) (omega arith) (omega (arith, mod-lt (a + i) (pow_pos h)))
    go false e k = let d : b < a = leb-false a b e in down-in H (a - i) (a - j) (pow_pos h) (omega arith) (omega arith)

axis-out : (h a b i j : ℕ) → j ≤ distance a b → i ≤ j → along a b j / 2 ^ h ≡ along a b i / 2 ^ h → j ≤ last_in h a b i
unfolding last_in
axis-out h a b i j m l = go (leb a b) refl
  where
    H : ℕ
    H = 2 ^ h

    go : (t : Bool) → leb a b ≡ t → cond t (a + j) (a - j) / H ≡ cond t (a + i) (a - i) / H → j ≤ cond t (i + (H - 1 - (a + i) % H)) (i + (a - i) % H)
    go true e k = omega (arith, up-out H (a + i) (a + j) (pow_pos h) k)
    go false e k = let d : b < a = leb-false a b e in omega (arith, down_out H (a - i) (a - j) k)

-- as code computes it, e being the edge
pub last_up : (h a b i e : ℕ) → e ≡ 2 ^ h → a ≤ b → i + (e - 1 - (a + i) % e) ≡ last_in h a b i
unfolding last_in
last_up h a b i e q l = rw (q, le-leb a b l)

pub last-down : (h a b i e : ℕ) → e ≡ 2 ^ h → b < a → i + (a - i) % e ≡ last_in h a b i
unfolding last_in
last-down h a b i e q l = rw (q, lt-leb a b l)

-- ---- three axes

module _ (h : ℕ) (a b s : Point) where
  -- the steps at hand lie in it
  pub last-from : AtMost s (last_of h a b s)
  last-from =
      record {
        up_x = last-least h a.x b.x s.x;
        up_y = last-least h a.y b.y s.y;
        up_z = last-least h a.z b.z s.z;
      }

  pub last_in_lem : (w : Point) → AtMost w (distances a b) → AtMost s w → AtMost w (last_of h a b s)
      → cell_holding h (voxel_at a b w) ≡ cell_holding h (voxel_at a b s)
  last_in_lem w m f l =
      point-eq (cell_holding h (voxel_at a b w)) (cell_holding h (voxel_at a b s))
      (axis-in h a.x b.x s.x w.x m.up_x f.up_x l.up_x)
      (axis-in h a.y b.y s.y w.y m.up_y f.up_y l.up_y)
      (axis-in h a.z b.z s.z w.z m.up_z f.up_z l.up_z)

  pub in-last : (w : Point) → AtMost w (distances a b) → AtMost s w → cell_holding h (voxel_at a b w) ≡ cell_holding h (voxel_at a b s)
      → AtMost w (last_of h a b s)
  in-last w m f e =
      record {
        up_x = axis-out h a.x b.x s.x w.x m.up_x f.up_x (ap (λ (v : Point). v.x) e);
        up_y = axis-out h a.y b.y s.y w.y m.up_y f.up_y (ap (λ (v : Point). v.y) e);
        up_z = axis-out h a.z b.z s.z w.z m.up_z f.up_z (ap (λ (v : Point). v.z) e);
      }

  -- a test that passes at every voxel of the cell, in a cube that holds the line, passes up to the last steps
  pub cell-passes : (S : ℕ) (ok : Point → Bool) → Inside S a → Inside S b
      → ((v : Point) → Inside S v → cell_holding h v ≡ cell_holding h (voxel_at a b s) → ok v ≡ true)
      → Passes (λ w. ok (voxel_at a b w)) (distances a b) s (last_of h a b s)
  cell-passes S ok i j f w from l m = f (voxel_at a b w) (voxel-inside a b S w i j m) (last_in_lem w m from l)
