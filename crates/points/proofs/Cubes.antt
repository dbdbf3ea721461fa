-- Depths and cubes: a depth below 2 or above 16; an edge as code shifts it; a point outside, a coordinate at or above the edge. By cases on the
-- tests. Assumes nothing.
use mathlib.Core.Path.{◌≡◌, refl, sym, ap, ap₂, ◌∙◌}
use mathlib.Core.Bool.{Bool, true, false, not, ◌&&◌, ◌||◌}
use Prim.Native.Nat.{ℕ, ◌*◌, ◌%◌, ◌^◌, ◌≤◌}
use native.Mathlib.Nat.{mod-eq_of_lt, one-mul, lt_of_le_of_lt}
use borrow.Author.Tests.{le-ltb, lt-ltb, leb-true, leb-false}
use lib.Dec.{leb, ltb, lit<}
use lib.Pow.{pow_mono}
use Rattle.paper.specs.Rooms.{Point, inside, least, deepest, depth_ok}
use Rattle.laws.proofs.Tests.{ltb-not}

-- 2 to a height that a depth can have, shifted in 32 bits
pub edge-fits : (h : ℕ) → h ≤ deepest → 1 * 2 ^ h % 4294967296 ≡ 2 ^ h
edge-fits h l = ap (λ (n : ℕ). n % 4294967296) (one-mul (2 ^ h)) ∙ mod-eq_of_lt (lt_of_le_of_lt (pow_mono l) (lit< tt))

-- not both: one of them not
not-both : (a b : Bool) → not a || not b ≡ not (a && b)
not-both true b = refl
not-both false b = refl

pub depth-outside : (D : ℕ) → ltb D least || ltb deepest D ≡ not (depth_ok D)
depth-outside D = ap₂ ◌||◌ (ltb-not D least) (ltb-not deepest D) ∙ not-both (leb least D) (leb D deepest)

not-below : (S a : ℕ) → leb S a ≡ not (ltb a S)
not-below S a = go (leb S a) refl
  where
    go : (b : Bool) → leb S a ≡ b → b ≡ not (ltb a S)
    go true e = ap not (sym (le-ltb a S (leb-true S a e)))
    go false e = ap not (sym (lt-ltb a S (leb-false S a e)))

not-all : (a b c : Bool) → (not a || not b) || not c ≡ not (a && b && c)
not-all true b c = not-both b c
not-all false b c = refl

-- a coordinate at or above the edge
pub point-outside : (S : ℕ) (v : Point) → (leb S v.x || leb S v.y) || leb S v.z ≡ not (inside S v)
point-outside S v =
    ap₂ ◌||◌ (ap₂ ◌||◌ (not-below S v.x) (not-below S v.y)) (not-below S v.z) ∙ not-all (ltb v.x S) (ltb v.y S) (ltb v.z S)
