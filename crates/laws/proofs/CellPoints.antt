-- Voxels of one cell, by the cell's coordinates and the voxel's in it: mirrored and moved into a child both go their own ways. By one axis at a
-- time. Assumes nothing.
use mathlib.Core.Path.{◌≡◌, refl, sym, ◌∙◌, ap}
use mathlib.Core.Bool.{Bool, true, false, ◌&&◌}
use Prim.Native.Nat.{ℕ, suc, ◌+◌, ◌-◌, ◌*◌, ◌/◌, ◌%◌, ◌<◌}
use native.Mathlib.Nat.{div-add-mod', mod-lt, mul-le-mul_right}
use native.Mathlib.Omega.{arith}
use borrow.Author.Tests.{lt-ltb}
use lib.Arith.{digits_div, digits_mod}
use lib.Dec.{T, ltb, ltb→lt}
use Rattle.paper.specs.Rooms.{Point, point, inside, Inside, child_no, in_child, flip, mark_x, mark_y, mark_z, mirror}
use Rattle.laws.proofs.Tests.{and_left, and_right}

-- ---- voxel u of the cell of edge H at c, c counted in such cells

abbrev pub point_at : ℕ → Point → Point → Point
point_at H c u = point (c.x * H + u.x) (c.y * H + u.y) (c.z * H + u.z)

-- on one axis: mirrored, and in the child of edge H * D
flip-point_at : (b : Bool) (H M c u : ℕ) → c < M → u < H → flip b (H * M) (c * H + u) ≡ flip b M c * H + flip b H u
flip-point_at false H M c u hc hu = refl
flip-point_at true H M c u hc hu =
    let m : ℕ = M - 1 - c in
    let e : M ≡ c + suc m = omega arith in
    let p : H * M ≡ c * H + m * H + H = ap (λ (n : ℕ). H * n) e ∙ omega arith in
    omega arith

pub point-parts : (H D c u : ℕ) → c * H + u ≡ c / D * (H * D) + (c % D * H + u)
point-parts H D c u = ap (λ (n : ℕ). n * H + u) (sym (div-add-mod' c D)) ∙ spread H D (c / D) (c % D) u
  where
    spread : (H D q r u : ℕ) → (q * D + r) * H + u ≡ q * (H * D) + (r * H + u)
    spread H D q r u = omega arith

pub point-lt : (H D r u : ℕ) → r < D → u < H → r * H + u < H * D
point-lt H D r u hr hu = omega (arith, mul-le-mul_right H hr)

point-div : (H D c u : ℕ) → 0 < D → u < H → (c * H + u) / (H * D) ≡ c / D
point-div H D c u hD hu =
    ap (λ (n : ℕ). n / (H * D)) (point-parts H D c u) ∙ digits_div (c / D) (point-lt H D (c % D) u (mod-lt c hD) hu)

point-mod : (H D c u : ℕ) → 0 < D → u < H → (c * H + u) % (H * D) ≡ c % D * H + u
point-mod H D c u hD hu =
    ap (λ (n : ℕ). n % (H * D)) (point-parts H D c u) ∙ digits_mod (c / D) (point-lt H D (c % D) u (mod-lt c hD) hu)

pub mirror-point_at : (t H M : ℕ) (c u : Point) → Inside M c → Inside H u → mirror t (H * M) (point_at H c u) ≡ point_at H (mirror t M c) (mirror t H u)
mirror-point_at t H M c u lc lu =
    λ i. point (flip-point_at (mark_x t) H M c.x u.x lc.in_x lu.in_x i) (flip-point_at (mark_y t) H M c.y u.y lc.in_y lu.in_y i)
    (flip-point_at (mark_z t) H M c.z u.z lc.in_z lu.in_z i)

pub child_no-point_at : (H D : ℕ) (c u : Point) → 0 < D → Inside H u → child_no (H * D) (point_at H c u) ≡ child_no D c
child_no-point_at H D c u hD lu =
    λ i. point-div H D c.x u.x hD lu.in_x i + 2 * point-div H D c.y u.y hD lu.in_y i + 4 * point-div H D c.z u.z hD lu.in_z i

pub in_child-point_at : (H D : ℕ) (c u : Point) → 0 < D → Inside H u → in_child (H * D) (point_at H c u) ≡ point_at H (in_child D c) u
in_child-point_at H D c u hD lu =
    λ i. point (point-mod H D c.x u.x hD lu.in_x i) (point-mod H D c.y u.y hD lu.in_y i) (point-mod H D c.z u.z hD lu.in_z i)

-- what the test says
pub is-inside : (S : ℕ) (v : Point) → T (inside S v) → Inside S v
is-inside S v t =
    let a : T (ltb v.x S && ltb v.y S) = and_left (ltb v.x S && ltb v.y S) (ltb v.z S) t in
    record {
      in_x = ltb→lt v.x S (and_left (ltb v.x S) (ltb v.y S) a);
      in_y = ltb→lt v.y S (and_right (ltb v.x S) (ltb v.y S) a);
      in_z = ltb→lt v.z S (and_right (ltb v.x S && ltb v.y S) (ltb v.z S) t);
    }

pub inside_is : (S : ℕ) (v : Point) → Inside S v → inside S v ≡ true
inside_is S v l = rw (lt-ltb v.x S l.in_x, lt-ltb v.y S l.in_y, lt-ltb v.z S l.in_z)

-- every voxel is one of the cell that holds it
pub point-whole : (H : ℕ) (v : Point) → point_at H (point (v.x / H) (v.y / H) (v.z / H)) (in_child H v) ≡ v
point-whole H v = λ i. point (div-add-mod' v.x H i) (div-add-mod' v.y H i) (div-add-mod' v.z H i)
