-- A cube of edge 2 in a leaf: its bits under a mask, and its corner under a mirror. One axis at a time: two voxels side by side are the same two under a
-- mirror. Assumes nothing.
use mathlib.Core.Path.{◌≡◌, refl, sym, ap, ap₂, ◌∙◌}
use mathlib.Core.Bool.{Bool, true, false, cond, not}
use Prim.Native.Nat.{ℕ, zero, suc, ◌+◌, ◌*◌, ◌/◌, ◌%◌, ◌^◌, ◌<◌}
use native.Mathlib.Nat.{mod-lt}
use native.Mathlib.Omega.{arith}
use lib.Bits.{bit_and, bit_xor, xor_lt, and_block, and_mask}
use borrow.Author.Tests.{eq-eqb, ne_eqb, eqb-true, eqb-false}
use lib.Dec.{eqb, lit<}
use lib.Pow.{shr-shr}
use Rattle.paper.specs.Leaf.{leaf_voxel}
use Rattle.paper.specs.Numbers.{any_below}
use Rattle.paper.specs.Rooms.{Point, point, flip, mark_y, mark_z, non_empty}
use Rattle.cell.specs.Cell.{Aligned, leaf_seen}

-- ---- one axis

-- two tests in either order
swap : (a b : Bool) → cond a true (cond b true false) ≡ cond b true (cond a true false)
swap true true = refl
swap true false = refl
swap false true = refl
swap false false = refl

-- two coordinates side by side, y the lower, by the mark t: both are kept, in one order or the other
pair : (p : ℕ → Bool) (t y : ℕ) → t < 2 → y < 4 → y % 2 ≡ 0
    → any_below 2 (λ a. p (flip (eqb t 1) 4 (y + a))) ≡ any_below 2 (λ a. p (bit_xor y (2 * t) + a))
pair p zero zero lt ly e = refl
pair p zero (suc zero) lt ly e = absurd (omega arith)
pair p zero (suc (suc zero)) lt ly e = refl
pair p zero (suc (suc (suc y))) lt ly e = absurd (omega arith)
pair p (suc zero) zero lt ly e = swap (p 2) (p 3)
pair p (suc zero) (suc zero) lt ly e = absurd (omega arith)
pair p (suc zero) (suc (suc zero)) lt ly e = swap (p 0) (p 1)
pair p (suc zero) (suc (suc (suc y))) lt ly e = absurd (omega arith)
pair p (suc (suc t)) y lt ly e = absurd (omega arith)

axis : (p : ℕ → Bool) (t x : ℕ) → t < 2 → x % 2 ≡ 0
    → any_below 2 (λ a. p (flip (eqb t 1) 4 ((x + a) % 4))) ≡ any_below 2 (λ a. p (bit_xor (x % 4) (2 * t) + a))
axis p t x l e =
    let up : (x + 1) % 4 ≡ x % 4 + 1 = omega arith in
    let here : (x + 0) % 4 ≡ x % 4 + 0 = omega arith in
    ap₂ (λ (i j : ℕ). cond (p (flip (eqb t 1) 4 i)) true (cond (p (flip (eqb t 1) 4 j)) true false)) up here
    ∙ pair p t (x % 4) l (mod-lt x (lit< tt)) (omega arith)

-- the corner's coordinate lies in the leaf
pub corner-lt : (t x : ℕ) → t < 2 → bit_xor (x % 4) (2 * t) < 4
corner-lt t x l = xor_lt 2 (x % 4) (2 * t) (mod-lt x (lit< tt)) (omega arith)

-- ---- the mask, of a leaf's bits from the corner's on

-- whether one of two numbers is not 0
abbrev either : ℕ → ℕ → Bool
either q r = cond (not (eqb q 0)) true (cond (not (eqb r 0)) true false)

-- a number that is 0 where both are
joined : (n q r : ℕ) → (n ≡ 0 → q ≡ 0) → (n ≡ 0 → r ≡ 0) → (q ≡ 0 → r ≡ 0 → n ≡ 0) → not (eqb n 0) ≡ either q r
joined n q r f g h = go (eqb q 0) refl (eqb r 0) refl
  where
    go : (x : Bool) → eqb q 0 ≡ x → (y : Bool) → eqb r 0 ≡ y → not (eqb n 0) ≡ cond (not x) true (cond (not y) true false)
    go true e true d = ap not (eq-eqb n 0 (h (eqb-true q 0 e) (eqb-true r 0 d)))
    go true e false d = ap not (ne_eqb n 0 (λ z. eqb-false r 0 d (g z)))
    go false e y d = ap not (ne_eqb n 0 (λ z. eqb-false q 0 e (f z)))

one : (q : ℕ) → q < 2 → not (eqb q 0) ≡ eqb q 1
one zero l = refl
one (suc zero) l = refl
one (suc (suc q)) l = absurd (omega arith)

-- two bits
row : (w k : ℕ) → not (eqb (w / 2 ^ k % 4) 0) ≡ cond (eqb (w / 2 ^ (k + 1) % 2) 1) true (cond (eqb (w / 2 ^ k % 2) 1) true false)
row w k =
    let n : ℕ = w / 2 ^ k in
    joined (n % 4) (n / 2 % 2) (n % 2) (λ e. omega arith) (λ e. omega arith) (λ e d. omega arith)
    ∙ ap₂ (λ (x y : Bool). cond x true (cond y true false)) (one (n / 2 % 2) (mod-lt (n / 2) (lit< tt)) ∙ ap (λ (x : ℕ). eqb (x % 2) 1) (shr-shr w k 1)) (one (n % 2) (mod-lt n (lit< tt)))

-- two rows of two
and-square : (w : ℕ) → bit_and w 51 ≡ w / 16 % 4 * 16 + w % 16 % 4
and-square w =
    let e : w ≡ w / 16 * 16 + w % 16 = omega arith in
    ap (λ (x : ℕ). bit_and x 51) e ∙ and_block 4 (w / 16) 3 (w % 16) 3 (mod-lt w (lit< tt)) (lit< tt)
    ∙ ap₂ (λ (x y : ℕ). x * 16 + y) (and_mask (w / 16) 2) (and_mask (w % 16) 2)

square : (w q r : ℕ) → w / 16 % 4 ≡ q → w % 4 ≡ r → not (eqb (bit_and w 51) 0) ≡ either q r
square w q r eq er = joined (bit_and w 51) q r (λ e. omega (arith, and-square w)) (λ e. omega (arith, and-square w)) (λ e d. omega (arith, and-square w))

-- two squares of two rows
and-cube : (w : ℕ) → bit_and w 3342387 ≡ bit_and (w / 65536) 51 * 65536 + bit_and (w % 65536) 51
and-cube w =
    let e : w ≡ w / 65536 * 65536 + w % 65536 = omega arith in
    ap (λ (x : ℕ). bit_and x 3342387) e ∙ and_block 16 (w / 65536) 51 (w % 65536) 51 (mod-lt w (lit< tt)) (lit< tt)

masked : (w : ℕ) → not (eqb (bit_and w 3342387) 0) ≡ any_below 2 (λ c. any_below 2 (λ b. any_below 2 (λ a. eqb (w / 2 ^ (a + 4 * b + 16 * c) % 2) 1)))
masked w =
    let two : Bool → Bool → Bool = λ x y. cond x true (cond y true false) in
    joined (bit_and w 3342387) (bit_and (w / 65536) 51) (bit_and (w % 65536) 51) (λ e. omega (arith, and-cube w)) (λ e. omega (arith, and-cube w)) (λ e d. omega (arith, and-cube w))
    ∙ ap₂ two
    (square (w / 65536) (w / 2 ^ 20 % 4) (w / 2 ^ 16 % 4) (omega arith) refl ∙ ap₂ two (row w 20) (row w 16))
    (square (w % 65536) (w / 2 ^ 4 % 4) (w / 2 ^ 0 % 4) (omega arith) (omega arith) ∙ ap₂ two (row w 4) (row w 0))

-- ---- the cube

-- its low corner as the leaf has it
abbrev pub corner_in : ℕ → Point → Point
corner_in m w = point (bit_xor (w.x % 4) (2 * (m % 2))) (bit_xor (w.y % 4) (2 * (m / 2 % 2))) (bit_xor (w.z % 4) (2 * (m / 4 % 2)))

module _ (leaf m : ℕ) (w : Point) (a : Aligned 1 w) where
  abbrev low : Point
  low = corner_in m w

  -- the same eight voxels
  unmirrored : non_empty 2 (leaf_seen leaf m w) ≡ non_empty 2 (λ u. leaf_voxel leaf (point (low.x + u.x) (low.y + u.y) (low.z + u.z)))
  unfolding non_empty
  unmirrored =
      let solid : ℕ → ℕ → ℕ → Bool = λ i j k. leaf_voxel leaf (point i j k) in
      let y : ℕ → ℕ = λ b. flip (mark_y m) 4 ((w.y + b) % 4) in
      let z : ℕ → ℕ = λ c. flip (mark_z m) 4 ((w.z + c) % 4) in
      (λ i. any_below 2 (λ c. any_below 2 (λ b. axis (λ n. solid n (y b) (z c)) (m % 2) w.x (mod-lt m (lit< tt)) a.on_x i)))
      ∙ (λ i. any_below 2 (λ c. axis (λ n. any_below 2 (λ a. solid (low.x + a) n (z c))) (m / 2 % 2) w.y (mod-lt (m / 2) (lit< tt)) a.on_y i))
      ∙ axis (λ n. any_below 2 (λ b. any_below 2 (λ a. solid (low.x + a) (low.y + b) n))) (m / 4 % 2) w.z (mod-lt (m / 4) (lit< tt)) a.on_z

  -- their bits from the corner's on
  bits : (i j k : ℕ) → eqb (leaf / 2 ^ (low.x + 4 * low.y + 16 * low.z) / 2 ^ (i + 4 * j + 16 * k) % 2) 1 ≡ leaf_voxel leaf (point (low.x + i) (low.y + j) (low.z + k))
  bits i j k =
      let s : ℕ = low.x + 4 * low.y + 16 * low.z in
      let e : s + (i + 4 * j + 16 * k) ≡ low.x + i + 4 * (low.y + j) + 16 * (low.z + k) = omega arith in
      ap (λ (n : ℕ). eqb (n % 2) 1) (shr-shr leaf s (i + 4 * j + 16 * k) ∙ ap (λ (n : ℕ). leaf / 2 ^ n) e)

  pub cube-masked : not (eqb (bit_and (leaf / 2 ^ (low.x + 4 * low.y + 16 * low.z)) 3342387) 0) ≡ non_empty 2 (leaf_seen leaf m w)
  unfolding non_empty
  cube-masked =
      masked (leaf / 2 ^ (low.x + 4 * low.y + 16 * low.z))
      ∙ (λ i. any_below 2 (λ c. any_below 2 (λ b. any_below 2 (λ a. bits a b c i))))
      ∙ sym unmirrored
