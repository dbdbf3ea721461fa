-- Products of small moments and distances fit 64 bits, and the steps up to a moment fit 32. Assumes nothing.
use mathlib.Core.Path.{◌≡◌}
use Prim.Native.Nat.{ℕ, ◌*◌, ◌^◌, ◌<◌, ◌≤◌}
use native.Mathlib.Nat.{mul-le-mul}
use native.Mathlib.Omega.{arith}
use lib.Pow.{pow_pos, pow_mono}
use Rattle.paper.specs.Rooms.{deepest}
use Rattle.laws.specs.Lines.{Moment, passed}
use Rattle.laws.proofs.LineMoments.{passed-counts, counts-most}

pub product-fits : (a b : ℕ) → a < 2 ^ 33 → b < 2 ^ 16 → a * b < 2 ^ 50
product-fits a b h l =
    let m : a * b ≤ 2 ^ 33 * 2 ^ 16 = mul-le-mul {n₁ = a} {m₁ = b} {n₂ = 2 ^ 33} {m₂ = 2 ^ 16} (omega arith) (omega arith) in
    omega arith

pub passed-most : (t : Moment) (d : ℕ) → 0 < t.parts → t.halves ≤ 2 * t.parts → passed t d ≤ d
passed-most t d p h = counts-most t d (passed t d) p h (passed-counts t d p)

-- the edge of a cell
pub edge-some : (h e : ℕ) → e ≡ 2 ^ h → 0 < e
edge-some h e q = rw q (pow_pos h)

pub edge-most : (h e : ℕ) → h ≤ deepest → e ≡ 2 ^ h → e ≤ 2 ^ deepest
edge-most h e l q = rw q (pow_mono l)
