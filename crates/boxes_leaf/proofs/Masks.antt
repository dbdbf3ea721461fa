-- The masks of a leaf's axes: they fit, and their bits are the coordinates between two ends. One computed test for each axis, over all ends and
-- bits; masks joined pass where each does. Assumes nothing.
use mathlib.Core.Path.{◌≡◌, refl, ap₂, ◌∙◌}
use mathlib.Core.Bool.{Bool, true, false, ◌&&◌}
use Prim.Native.Nat.{ℕ, ◌*◌, ◌/◌, ◌%◌, ◌^◌, ◌<◌}
use lib.Bits.{bit_and}
use lib.Dec.{T, eqb, ltb, eqb→eq, ltb→lt}
use Rattle.paper.specs.Numbers.{all_below, bit, bit_for}
use Rattle.paper.specs.Rooms.{Point}
use Rattle.laws.proofs.Tests.{all-at, all-at2}
use Rattle.leaf.proofs.Moving.{bit-and}
use Rattle.boxes_leaf.specs.LeafBox.{Marks, in_side, in_sides}

-- ---- as the code writes them

-- so many ones, from the bit a on and without the last b
abbrev between : ℕ → ℕ → ℕ → ℕ
between ones a b = bit_and (ones * 2 ^ a % 2 ^ 64) (ones / 2 ^ b)

abbrev pub x_mask : ℕ → ℕ → ℕ
x_mask a b = between 15 a b * 1229782938247303441

abbrev pub y_mask : ℕ → ℕ → ℕ
y_mask a b = between 65535 (4 * a) (4 * b) * 281479271743489

abbrev pub z_mask : ℕ → ℕ → ℕ
z_mask a b = between 18446744073709551615 (16 * a) (16 * b)

-- ---- computed

-- a number for each pair of ends: its bits are those whose coordinate lies between them
abbrev passes : (ℕ → ℕ → ℕ) → (ℕ → ℕ) → Bool
passes mask at = all_below 4 (λ a. all_below 4 (λ b. all_below 64 (λ j. eqb (bit (mask a b) j) (bit_for (in_side a b (at j))))))

marked : (mask : ℕ → ℕ → ℕ) (at : ℕ → ℕ) → T (passes mask at) → (a b : ℕ) → a < 4 → b < 4 → Marks (mask a b) (λ j. in_side a b (at j))
marked mask at t a b ha hb j hj =
    eqb→eq (bit (mask a b) j) (bit_for (in_side a b (at j)))
    (all-at 64 (λ i. eqb (bit (mask a b) i) (bit_for (in_side a b (at i))))
    (all-at2 4 4 (λ x y. all_below 64 (λ i. eqb (bit (mask x y) i) (bit_for (in_side x y (at i))))) t a b ha hb) j hj)

pub x-marks : (a b : ℕ) → a < 4 → b < 4 → Marks (x_mask a b) (λ j. in_side a b (j % 4))
x-marks = marked x_mask (λ j. j % 4) tt

pub y-marks : (a b : ℕ) → a < 4 → b < 4 → Marks (y_mask a b) (λ j. in_side a b (j / 4 % 4))
y-marks = marked y_mask (λ j. j / 4 % 4) tt

pub z-marks : (a b : ℕ) → a < 4 → b < 4 → Marks (z_mask a b) (λ j. in_side a b (j / 16))
z-marks = marked z_mask (λ j. j / 16) tt

-- they fit in 64 bits
fits : (mask : ℕ → ℕ → ℕ) → T (all_below 4 (λ a. all_below 4 (λ b. ltb (mask a b) (2 ^ 64)))) → (a b : ℕ) → a < 4 → b < 4 → mask a b < 2 ^ 64
fits mask t a b ha hb = ltb→lt (mask a b) (2 ^ 64) (all-at2 4 4 (λ x y. ltb (mask x y) (2 ^ 64)) t a b ha hb)

pub x_fits : (a b : ℕ) → a < 4 → b < 4 → x_mask a b < 2 ^ 64
x_fits = fits x_mask tt

pub y-fits : (a b : ℕ) → a < 4 → b < 4 → y_mask a b < 2 ^ 64
y-fits = fits y_mask tt

-- ---- joined

tests-and : (p q : Bool) → bit_and (bit_for p) (bit_for q) ≡ bit_for (p && q)
tests-and true true = refl
tests-and true false = refl
tests-and false true = refl
tests-and false false = refl

both-mark : (m n : ℕ) (p q : ℕ → Bool) → Marks m p → Marks n q → Marks (bit_and m n) (λ j. p j && q j)
both-mark m n p q e f j h = bit-and m n j ∙ ap₂ bit_and (e j h) (f j h) ∙ tests-and (p j) (q j)

-- the three axes
pub sides-mark : (a b : Point) (l m n : ℕ) → Marks l (λ j. in_side a.x b.x (j % 4)) → Marks m (λ j. in_side a.y b.y (j / 4 % 4)) → Marks n (λ j. in_side a.z b.z (j / 16))
    → Marks (bit_and (bit_and l m) n) (in_sides a b)
sides-mark a b l m n x y z =
    both-mark (bit_and l m) n (λ j. in_side a.x b.x (j % 4) && in_side a.y b.y (j / 4 % 4)) (λ j. in_side a.z b.z (j / 16))
    (both-mark l m (λ j. in_side a.x b.x (j % 4)) (λ j. in_side a.y b.y (j / 4 % 4)) x y) z
