-- The walk by numbers goes the way of the coordinates: a voxel seen under a mirror lies in the child of the mirrored number, and there again it is
-- seen under that mirror; a pointer's tag joins the mirror. From the mirror laws, once over the edge. Assumes nothing.
use mathlib.Core.Path.{◌≡◌, ap, ◌∙◌}
use Prim.Native.Nat.{ℕ, suc, ◌+◌, ◌*◌, ◌/◌, ◌%◌, ◌<◌}
use native.Mathlib.Nat.{mod-lt}
use native.Mathlib.Omega.{arith}
use lib.Arith.{mod-mul, digits_div, digits_mod}
use lib.Bits.{bit_xor}
use lib.Dec.{lit<}
use lib.Pow.{pow_pos}
use Rattle.paper.specs.Rooms.{Point, point, Inside, mirror, child_no, in_child}
use Rattle.paper.specs.Outline.{edge}
use Rattle.paper.specs.Store.{tag_of}
use Rattle.laws.proofs.Eight.{xor8-lt}
use Rattle.laws.proofs.Matching.{tag-lt}
use Rattle.laws.proofs.OutlineWriting.{edge-twice}
use Rattle.laws.proofs.Mirrors.{mirror-mirror, child_no-mirror, in_child-mirror}
use Rattle.points.specs.Seeing.{child_no_at, seen_at}

-- ---- one coordinate reduced twice

low_half : (x S : ℕ) → 0 < S → x % (2 * S) / S ≡ x / S % 2
low_half x S h = ap (λ (n : ℕ). n / S) (mod-mul x {m = 2} {c = S} (lit< tt) h) ∙ digits_div (x / S % 2) (mod-lt x h)

low-low : (x S : ℕ) → 0 < S → x % (2 * S) % S ≡ x % S
low-low x S h = ap (λ (n : ℕ). n % S) (mod-mul x {m = 2} {c = S} (lit< tt) h) ∙ digits_mod (x / S % 2) (mod-lt x h)

reduced-inside : (S : ℕ) (v : Point) → 0 < S → Inside S (in_child S v)
reduced-inside S v h = record { in_x = mod-lt v.x h; in_y = mod-lt v.y h; in_z = mod-lt v.z h }

module _ (S : ℕ) (v : Point) (h : 0 < S) where
  child-reduced : child_no S (in_child (2 * S) v) ≡ v.x / S % 2 + 2 * (v.y / S % 2) + 4 * (v.z / S % 2)
  child-reduced = λ i. low_half v.x S h i + 2 * low_half v.y S h i + 4 * low_half v.z S h i

  in-reduced : in_child S (in_child (2 * S) v) ≡ in_child S v
  in-reduced = λ i. point (low-low v.x S h i) (low-low v.y S h i) (low-low v.z S h i)

-- ---- under a mirror

two_pos : (S : ℕ) → 0 < S → 0 < 2 * S
two_pos S h = omega arith

pub edge-pos : (k : ℕ) → 0 < edge k
edge-pos k = pow_pos (suc (suc k))

-- the child that holds it
pub child-seen : (k m : ℕ) (v : Point) → m < 8 → child_no (edge k) (seen_at (suc k) m v) ≡ bit_xor (child_no_at k v) m
child-seen k m v hm =
    ap (λ (E : ℕ). child_no (edge k) (mirror m E (in_child E v))) (edge-twice k)
    ∙ child_no-mirror m (edge k) (in_child (2 * edge k) v) hm (reduced-inside (2 * edge k) v (two_pos (edge k) (edge-pos k)))
    ∙ ap (λ (n : ℕ). bit_xor n m) (child-reduced (edge k) v (edge-pos k))

-- where it lies there
pub in-seen : (k m : ℕ) (v : Point) → m < 8 → in_child (edge k) (seen_at (suc k) m v) ≡ seen_at k m v
in-seen k m v hm =
    ap (λ (E : ℕ). in_child (edge k) (mirror m E (in_child E v))) (edge-twice k)
    ∙ in_child-mirror m (edge k) (in_child (2 * edge k) v) hm (reduced-inside (2 * edge k) v (two_pos (edge k) (edge-pos k)))
    ∙ ap (mirror m (edge k)) (in-reduced (edge k) v (edge-pos k))

-- under a tag besides
pub tag-seen : (k t m : ℕ) (v : Point) → t < 8 → m < 8 → mirror t (edge k) (seen_at k m v) ≡ seen_at k (bit_xor t m) v
tag-seen k t m v ht hm = mirror-mirror t m (edge k) (in_child (edge k) v) ht hm (reduced-inside (edge k) v (edge-pos k))

-- a pointer's tag and a mirror make a mirror
pub tag-joins : (p m : ℕ) → m < 8 → bit_xor (tag_of p) m < 8
tag-joins p m h = xor8-lt (tag_of p) m (tag-lt p) h
