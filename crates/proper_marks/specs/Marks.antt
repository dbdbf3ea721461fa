-- Marks and symmetries as numbers. A list's MARKS are as many bytes as the list has: at the first byte of each record its symmetry (bit t: it matches itself
-- under t), 0 elsewhere. Definitions only.
use Rattle.std.specs.Prelude.{◌≡◌, Bool, cond, not, List, ℕ, zero, suc, ◌*◌, ◌<◌, T, get_or}
use Rattle.std.specs.Int.Bits.{bit_xor}
use Rattle.paper.specs.Numbers.{all_below}
use Rattle.laws.specs.Symmetries.{marked}

-- the mark of place x, 0 where no record starts: m the marks of a list, u the bytes that a place counts there
abbrev pub mark_of : ℕ → List ℕ → ℕ → ℕ
mark_of u m x = get_or m (u * x) 0

-- a symmetry that is a group of mirrors: it has the mirror that changes nothing, and with any two their exclusive or
pub record Group (symmetry : ℕ) : Type 0 where
  pub none : T (marked symmetry 0)
  pub closed : (s t : ℕ) → s < 8 → t < 8 → T (marked symmetry s) → T (marked symmetry t) → T (marked symmetry (bit_xor s t))

-- every mark is one
abbrev pub Grouped : ℕ → List ℕ → Type 0
Grouped u m = (x : ℕ) → (mark_of u m x ≡ 0 → ⊥) → Group (mark_of u m x)

-- ---- lowest tags

-- the first of u, u + 1 .. u + n - 1 that passes, else d
unfoldable pub first_from : (ℕ → Bool) → ℕ → ℕ → ℕ → ℕ
first_from p d zero u = d
first_from p d (suc n) u = let r = first_from p d n (suc u) in cond (p u) u r

-- the lowest tag that differs from this one by a mirror of the symmetry, or this one
abbrev pub low_tag : ℕ → ℕ → ℕ
low_tag symmetry tag = first_from (λ u. marked symmetry (bit_xor u tag)) tag tag 0

-- a tag is the lowest with its meaning: no lower one differs from it by a mirror of this symmetry
unfoldable pub low_by : ℕ → ℕ → Bool
low_by symmetry tag = all_below tag (λ v. not (marked symmetry (bit_xor v tag)))
