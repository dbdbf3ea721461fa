-- Long pointers as code finds them: by the codes of a header. Definitions only.
use Rattle.std.specs.Prelude.{Bool, true, false, cond, ℕ, zero, suc, ◌/◌, ◌%◌, ltb}

-- no code above 1 among the lowest n
unfoldable pub codes_short : ℕ → ℕ → Bool
codes_short zero h = true
codes_short (suc n) h = let r = codes_short n (h / 4) in cond (ltb (h % 4) 2) r false
