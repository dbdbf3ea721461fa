-- Sums over a range and over a cube: equal and bounded where their parts are, above 0 where a part is, in mirrored places, row by row, backwards and
-- mirrored, and by the eight children of a cube. By induction on the range, one axis at a time. Assumes nothing.
use mathlib.Core.Path.{◌≡◌, refl, sym, ◌∙◌, ap, ap₂}
use mathlib.Core.Bool.{Bool, true, false}
use mathlib.Core.Logic.{◌⊎◌, inl, inr}
use Prim.Native.Nat.{ℕ, zero, suc, ◌+◌, ◌-◌, ◌*◌, ◌/◌, ◌%◌, ◌<◌, ◌≤◌}
use native.Mathlib.Nat.{le_refl, le_of_suc-le-suc, not-suc-le-zero, eq-or-lt_of_le, add-zero, add-suc, zero-mul}
use native.Mathlib.Numerals.{add-one}
use native.Mathlib.Omega.{arith}
use lib.Bits.{bit_xor}
use Rattle.paper.specs.Numbers.{sum}
use Rattle.paper.specs.Rooms.{Point, point, Inside, flip, mark_x, mark_y, mark_z, mirror, sum3}
use Rattle.paper.specs.Leaf.{voxel_of}
use Rattle.laws.proofs.Eight.{below8}
use Rattle.laws.proofs.Mirrors.{from_child}

-- ---- a range

pub sum_same : (n : ℕ) (f g : ℕ → ℕ) → ((i : ℕ) → i < n → f i ≡ g i) → sum n f ≡ sum n g
unfolding sum
sum_same zero f g e = refl
sum_same (suc n) f g e = ap₂ (λ (a b : ℕ). a + b) (sum_same n f g (λ i l. e i (omega arith))) (e n (le_refl (suc n)))

pub sum-add : (n : ℕ) (f g : ℕ → ℕ) → sum n (λ i. f i + g i) ≡ sum n f + sum n g
unfolding sum
sum-add zero f g = refl
sum-add (suc n) f g = omega (arith, sum-add n f g)

pub sum-times : (n m : ℕ) (f : ℕ → ℕ) → sum n (λ i. f i * m) ≡ sum n f * m
unfolding sum
sum-times zero m f = omega arith
sum-times (suc n) m f = omega (arith, sum-times n m f)

pub sum-zero : (n : ℕ) (f : ℕ → ℕ) → ((i : ℕ) → i < n → f i ≡ 0) → sum n f ≡ 0
unfolding sum
sum-zero zero f e = refl
sum-zero (suc n) f e = omega (arith, sum-zero n f (λ i l. e i (omega arith)), e n (le_refl (suc n)))

-- one part more, in the code's words
pub sum-next : (n : ℕ) (f : ℕ → ℕ) → sum (n + 1) f ≡ sum n f + f n
unfolding sum
sum-next n f = rw (add-one n)

-- parts of at most b each
pub sum-most : (n b : ℕ) (f : ℕ → ℕ) → ((i : ℕ) → i < n → f i ≤ b) → sum n f ≤ n * b
unfolding sum
sum-most zero b f h = omega arith
sum-most (suc n) b f h = omega (arith, sum-most n b f (λ i l. h i (omega arith)), h n (le_refl (suc n)))

-- above 0 exactly where a part is
pub sum-pos : (n : ℕ) (f : ℕ → ℕ) (i : ℕ) → i < n → 0 < f i → 0 < sum n f
unfolding sum
sum-pos zero f i h p = absurd (not-suc-le-zero h)
sum-pos (suc n) f i h p = go (eq-or-lt_of_le (le_of_suc-le-suc h)) (λ l. sum-pos n f i l p)
  where
    go : (i ≡ n) ⊎ (i < n) → (i < n → 0 < sum n f) → 0 < sum n f + f n
    go (inl e) ih = omega (arith, rw e at p)
    go (inr l) ih = omega (arith, ih l)

pub sum-some : (n : ℕ) (f : ℕ → ℕ) → 0 < sum n f → (i : ℕ) × (i < n) × (0 < f i)
unfolding sum
sum-some zero f p = absurd (not-suc-le-zero p)
sum-some (suc n) f p = go (f n) refl (sum-some n f) p
  where
    go : (m : ℕ) → f n ≡ m → (0 < sum n f → (i : ℕ) × (i < n) × (0 < f i)) → 0 < sum n f + m → (i : ℕ) × (i < suc n) × (0 < f i)
    go zero e ih h = let w : (i : ℕ) × (i < n) × (0 < f i) = ih (omega arith) in (w.0, omega (arith, w.1), w.2)
    go (suc m) e ih h = (n, le_refl (suc n), rw e (omega arith))

-- m more
sum-split : (n m : ℕ) (f : ℕ → ℕ) → sum (n + m) f ≡ sum n f + sum m (λ i. f (n + i))
unfolding sum
sum-split n zero f = ap (λ (k : ℕ). sum k f) (add-zero n) ∙ sym (add-zero (sum n f))
sum-split n (suc m) f = ap (λ (k : ℕ). sum k f) (add-suc n m) ∙ omega (arith, sum-split n m f)

-- eight parts in mirrored places
pub sum-places : (f : ℕ → ℕ) (t : ℕ) → t < 8 → sum 8 (λ i. f (bit_xor i t)) ≡ sum 8 f
unfolding sum
sum-places f =
    below8 (λ t. sum 8 (λ i. f (bit_xor i t)) ≡ sum 8 f) (omega arith) (omega arith) (omega arith) (omega arith) (omega arith) (omega arith) (omega arith) (omega arith)

-- row by row, m to a row
pub sum_rows : (n m : ℕ) (f : ℕ → ℕ) → sum (n * m) f ≡ sum n (λ i. sum m (λ j. f (i * m + j)))
unfolding sum
sum_rows zero m f = ap (λ (k : ℕ). sum k f) (zero-mul m)
sum_rows (suc n) m f =
    let e : suc n * m ≡ n * m + m = omega arith in
    ap (λ (k : ℕ). sum k f) e ∙ sum-split (n * m) m f ∙ ap (λ (a : ℕ). a + sum m (λ j. f (n * m + j))) (sum_rows n m f)

-- backwards
pub sum_head : (n : ℕ) (f : ℕ → ℕ) → sum (suc n) f ≡ f 0 + sum n (λ i. f (suc i))
unfolding sum
sum_head zero f = omega arith
sum_head (suc n) f = omega (arith, sum_head n f)

sum_back : (n : ℕ) (f : ℕ → ℕ) → sum n (λ i. f (n - 1 - i)) ≡ sum n f
unfolding sum
sum_back zero f = refl
sum_back (suc n) f =
    let e : sum n (λ i. f (suc n - 1 - suc i)) ≡ sum n f = sum_same n (λ i. f (suc n - 1 - suc i)) (λ i. f (n - 1 - i)) (λ i l. ap f (omega arith)) ∙ sum_back n f in
    let h : f (suc n - 1 - 0) ≡ f n = ap f (omega arith) in
    sum_head n (λ i. f (suc n - 1 - i)) ∙ omega arith

sum-flip : (b : Bool) (S : ℕ) (f : ℕ → ℕ) → sum S (λ i. f (flip b S i)) ≡ sum S f
sum-flip true S f = sum_back S f
sum-flip false S f = refl

-- ---- a cube

pub sum3-same : (S : ℕ) (f g : Point → ℕ) → ((v : Point) → Inside S v → f v ≡ g v) → sum3 S f ≡ sum3 S g
unfolding sum3
sum3-same S f g e =
    sum_same S _ _ (λ c hc. sum_same S _ _ (λ b hb. sum_same S (λ a. f (point a b c)) (λ a. g (point a b c))
    (λ a ha. e (point a b c) (record { in_x = ha; in_y = hb; in_z = hc }))))

pub sum3-zero : (S : ℕ) (f : Point → ℕ) → ((v : Point) → Inside S v → f v ≡ 0) → sum3 S f ≡ 0
unfolding sum3
sum3-zero S f e =
    sum-zero S _ (λ c hc. sum-zero S _ (λ b hb. sum-zero S (λ a. f (point a b c)) (λ a ha. e (point a b c) (record { in_x = ha; in_y = hb; in_z = hc }))))

pub sum3-most : (S : ℕ) (f : Point → ℕ) → ((v : Point) → f v ≤ 1) → sum3 S f ≤ S * (S * (S * 1))
unfolding sum3
sum3-most S f h = sum-most S (S * (S * 1)) _ (λ c hc. sum-most S (S * 1) _ (λ b hb. sum-most S 1 (λ a. f (point a b c)) (λ a ha. h (point a b c))))

pub sum3-pos : (S : ℕ) (f : Point → ℕ) (v : Point) → Inside S v → 0 < f v → 0 < sum3 S f
unfolding sum3
sum3-pos S f v l p =
    sum-pos S (λ c. sum S (λ b. sum S (λ a. f (point a b c)))) v.z l.in_z
    (sum-pos S (λ b. sum S (λ a. f (point a b v.z))) v.y l.in_y (sum-pos S (λ a. f (point a v.y v.z)) v.x l.in_x p))

pub sum3-some : (S : ℕ) (f : Point → ℕ) → 0 < sum3 S f → (v : Point) × Inside S v × (0 < f v)
unfolding sum3
sum3-some S f p =
    let c = sum-some S (λ c. sum S (λ b. sum S (λ a. f (point a b c)))) p in
    let b = sum-some S (λ b. sum S (λ a. f (point a b c.0))) c.2 in
    let a = sum-some S (λ a. f (point a b.0 c.0)) b.2 in
    (point a.0 b.0 c.0, record { in_x = a.1; in_y = b.1; in_z = c.1 }, a.2)

-- the mirrored cube has the same sum
pub sum3-mirrored : (t S : ℕ) (f : Point → ℕ) → sum3 S (λ v. f (mirror t S v)) ≡ sum3 S f
unfolding sum3
sum3-mirrored t S f =
    let Y : ℕ → ℕ = flip (mark_y t) S in
    let Z : ℕ → ℕ = flip (mark_z t) S in
    sum_same S (λ c. sum S (λ b. sum S (λ a. f (mirror t S (point a b c))))) (λ c. sum S (λ b. sum S (λ a. f (point a b (Z c)))))
    (λ c l.
    sum_same S (λ b. sum S (λ a. f (mirror t S (point a b c)))) (λ b. sum S (λ a. f (point a (Y b) (Z c)))) (λ b m. sum-flip (mark_x t) S (λ a. f (point a (Y b) (Z c))))
    ∙ sum-flip (mark_y t) S (λ b. sum S (λ a. f (point a b (Z c)))))
    ∙ sum-flip (mark_z t) S (λ c. sum S (λ b. sum S (λ a. f (point a b c))))

-- a leaf's cube, bit by bit
pub sum3-leaf : (f : Point → ℕ) → sum3 4 f ≡ sum 64 (λ j. f (voxel_of j))
unfolding sum3
sum3-leaf f =
    let bit : ℕ → ℕ → ℕ → ℕ = λ c b a. (c * 4 + b) * 4 + a in
    let back : (a b c : ℕ) → a < 4 → b < 4 → c < 4 → point a b c ≡ voxel_of (bit c b a) =
    λ a b c ha hb hc i. point ((let e : a ≡ bit c b a % 4 = omega arith in e) i) ((let e : b ≡ bit c b a / 4 % 4 = omega arith in e) i) ((let e : c ≡ bit c b a / 16 = omega arith in e) i) in
    sum_same 4 (λ c. sum 4 (λ b. sum 4 (λ a. f (point a b c)))) (λ c. sum 4 (λ b. sum 4 (λ a. f (voxel_of (bit c b a)))))
    (λ c hc. sum_same 4 (λ b. sum 4 (λ a. f (point a b c))) (λ b. sum 4 (λ a. f (voxel_of (bit c b a))))
    (λ b hb. sum_same 4 (λ a. f (point a b c)) (λ a. f (voxel_of (bit c b a))) (λ a ha. ap f (back a b c ha hb hc))))
    ∙ sym (sum_rows 4 4 (λ i. sum 4 (λ a. f (voxel_of (i * 4 + a)))))
    ∙ sym (sum_rows 16 4 (λ j. f (voxel_of j)))

-- ---- the children of a cube

halves : (S : ℕ) (f : ℕ → ℕ) → sum (2 * S) f ≡ sum S (λ i. f (0 * S + i)) + sum S (λ i. f (1 * S + i))
halves S f =
    ap (λ (n : ℕ). sum n f) (omega arith) ∙ sum-split S S f
    ∙ ap₂ (λ (a b : ℕ). a + b) (sum_same S f (λ i. f (0 * S + i)) (λ i l. ap f (omega arith))) (sum_same S (λ i. f (S + i)) (λ i. f (1 * S + i)) (λ i l. ap f (omega arith)))

part : ℕ → (Point → ℕ) → ℕ → ℕ → ℕ → ℕ
part S f p q r = sum S (λ c. sum S (λ b. sum S (λ a. f (point (p * S + a) (q * S + b) (r * S + c)))))

row : (S : ℕ) (f : Point → ℕ) (q c : ℕ)
    → sum S (λ b. sum (2 * S) (λ a. f (point a (q * S + b) c)))
    ≡ sum S (λ b. sum S (λ a. f (point (0 * S + a) (q * S + b) c))) + sum S (λ b. sum S (λ a. f (point (1 * S + a) (q * S + b) c)))
row S f q c =
    sum_same S (λ b. sum (2 * S) (λ a. f (point a (q * S + b) c)))
    (λ b. sum S (λ a. f (point (0 * S + a) (q * S + b) c)) + sum S (λ a. f (point (1 * S + a) (q * S + b) c)))
    (λ b l. halves S (λ a. f (point a (q * S + b) c)))
    ∙ sum-add S (λ b. sum S (λ a. f (point (0 * S + a) (q * S + b) c))) (λ b. sum S (λ a. f (point (1 * S + a) (q * S + b) c)))

plane : (S : ℕ) (f : Point → ℕ) (r : ℕ)
    → sum S (λ c. sum (2 * S) (λ b. sum (2 * S) (λ a. f (point a b (r * S + c)))))
    ≡ (part S f 0 0 r + part S f 1 0 r) + (part S f 0 1 r + part S f 1 1 r)
unfolding part
plane S f r =
    let q : ℕ → ℕ → ℕ → ℕ = λ x y c. sum S (λ b. sum S (λ a. f (point (x * S + a) (y * S + b) (r * S + c)))) in
    sum_same S (λ c. sum (2 * S) (λ b. sum (2 * S) (λ a. f (point a b (r * S + c))))) (λ c. (q 0 0 c + q 1 0 c) + (q 0 1 c + q 1 1 c))
    (λ c l. halves S (λ b. sum (2 * S) (λ a. f (point a b (r * S + c)))) ∙ omega (arith, row S f 0 (r * S + c), row S f 1 (r * S + c)))
    ∙ sum-add S (λ c. q 0 0 c + q 1 0 c) (λ c. q 0 1 c + q 1 1 c)
    ∙ omega (arith, sum-add S (q 0 0) (q 1 0), sum-add S (q 0 1) (q 1 1))

pub sum3-children : (S : ℕ) (f : Point → ℕ) → sum3 (2 * S) f ≡ sum 8 (λ i. sum3 S (λ u. f (from_child S i u)))
unfolding sum3 sum part
sum3-children S f = halves S (λ c. sum (2 * S) (λ b. sum (2 * S) (λ a. f (point a b c)))) ∙ omega (arith, plane S f 0, plane S f 1)
