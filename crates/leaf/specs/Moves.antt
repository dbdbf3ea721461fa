-- A leaf's bits moved by changing their numbers: what one axis of a mirror does. Definitions only.
use Rattle.std.specs.Prelude.{Bool, cond, ◌&&◌, ◌||◌, ℕ, ◌+◌, ◌-◌, ◌*◌, ◌^◌, eqb, leb, ltb}
use Rattle.std.specs.Int.Bits.{bit_xor}
use Rattle.paper.specs.Numbers.{all_below, bit, gather}

-- the number whose bit k is bit (k xor s) of n
unfoldable pub moved : ℕ → ℕ → ℕ
moved s n = gather 0 64 (λ k. bit n (bit_xor k s))

-- the bits of `below` are those that change places with the bit s above
abbrev pub pairs : ℕ → ℕ → ℕ → Bool
pairs below s k =
    cond (eqb (bit below k) 1) (eqb (bit_xor k s) (s + k) && (ltb k s || eqb (bit below (k - s)) 0))
    (leb s k && (eqb (bit_xor k s) (k - s) && eqb (bit below (k - s)) 1))

unfoldable pub swaps : ℕ → ℕ → Bool
swaps below s = ltb s 64 && (ltb (below * 2 ^ s) (2 ^ 64) && all_below 64 (pairs below s))

-- changing both bits of a coordinate is changing one and then the other
abbrev pub both : ℕ → ℕ → Bool
both s k = eqb (bit_xor (bit_xor k (2 * s)) s) (bit_xor k (3 * s)) && ltb (bit_xor k (2 * s)) 64

unfoldable pub axis : ℕ → ℕ → ℕ → Bool
axis below s twice = swaps below s && (swaps twice (2 * s) && all_below 64 (both s))
