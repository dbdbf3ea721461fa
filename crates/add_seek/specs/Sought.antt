-- What seeking answers, read as the paper's, and the last cell of its chain; the images of a leaf; numbers that differ
-- in some bits alone. Definitions only.
use Rattle.std.specs.Prelude.{◌≡◌, List, ℕ, ◌<◌, Option, Some, None, get_or}
use Rattle.std.proofs.Math.Option as O
use Rattle.std.specs.Int.Bits.{bit_or, bit_xor}
use Rattle.paper.specs.Numbers.{tabulate}
use Rattle.paper.specs.Leaf.{mirror_leaf}
use Rattle.add_seek.specs.declared.find.Sought.{Sought}
use Rattle.add_seek.specs.declared.find.Sought.TheVariants.{At, Nowhere}

-- the pointer found, or none
abbrev pub sought : Sought → O.Option ℕ
sought (At p) = O.some p
sought (Nowhere last) = O.none

-- where nothing is found, the chain ends at cell n, its number plus 1
abbrev pub EndsAt : Sought → ℕ → Type 0
EndsAt (At p) n = Unit {0}
EndsAt (Nowhere last) n = last ≡ n

-- the mirror found, or none
abbrev pub mirror_found : Option ℕ → O.Option ℕ
mirror_found None = O.none
mirror_found (Some t) = O.some t

-- the eight images of a leaf, one a mirror
abbrev pub leaf_images : ℕ → List ℕ
leaf_images n = tabulate 0 8 (λ t. mirror_leaf t n)

-- a and b differ in none but these bits
abbrev pub Among : ℕ → ℕ → ℕ → Type 0
Among a b bits = bit_or (bit_xor a b) bits ≡ bits

-- nor do the first of some images and any other below t
abbrev pub Changing : List ℕ → ℕ → ℕ → Type 0
Changing images t bits = (i : ℕ) → i < t → Among (get_or images 0 0) (get_or images i 0) bits
