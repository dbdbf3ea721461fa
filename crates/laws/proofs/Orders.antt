-- A call's tests in their order, and the answer that their number settles: accepted means that each test failed, and what is answered beside the
-- slices lent goes by the number alone. By cases of each test. Assumes nothing.
use mathlib.Core.Path.{◌≡◌, refl}
use mathlib.Core.Bool.{Bool, true, false, cond}
use mathlib.Core.List.{List, [], ◌∷◌}
use Prim.Native.Nat.{ℕ, zero, suc}
use native.Mathlib.Nat.{suc-ne-zero}
use lib.Dec.{eqb, eqb-suc-zero}
use lib.ListN.{get_or}
use Rattle.paper.specs.Order.{Test, when, first_number, settled}

-- accepted: the first test failed, and those after it
pub none_passed : (b : Bool) (n : ℕ) (ts : List Test) → first_number (when b (suc n) ∷ ts) ≡ 0 → (b ≡ false) × (first_number ts ≡ 0)
unfolding first_number
none_passed true n ts e = absurd (suc-ne-zero n e)
none_passed false n ts e = (refl, e)

pub no-tests : first_number [] ≡ 0
unfolding first_number
no-tests = refl

pub first-failed : (b : Bool) (n : ℕ) (ts : List Test) → b ≡ false → first_number ts ≡ 0 → first_number (when b n ∷ ts) ≡ 0
unfolding first_number
first-failed b n ts e r = rw e r

-- what is lent is that of acceptance at 0, that of refusal elsewhere
pub lent-first : (n : ℕ) (vs A E : List ℕ) → get_or (settled n vs (A ∷ []) (E ∷ [])).lent 0 [] ≡ cond (eqb n 0) A E
unfolding settled
lent-first zero vs A E = refl
lent-first (suc n) vs A E = rw (eqb-suc-zero n)

pub told-number : (n : ℕ) (vs : List ℕ) (A E A' E' : List (List ℕ)) → (settled n vs A E).number ≡ (settled n vs A' E').number
unfolding settled
told-number zero vs A E A' E' = refl
told-number (suc n) vs A E A' E' = rw (eqb-suc-zero n)

pub told-values : (n : ℕ) (vs : List ℕ) (A E A' E' : List (List ℕ)) → (settled n vs A E).values ≡ (settled n vs A' E').values
unfolding settled
told-values zero vs A E A' E' = refl
told-values (suc n) vs A E A' E' = rw (eqb-suc-zero n)
