-- A loop that stores words one after the other in place of those from a place on: none, one more, and all of them.
-- By the library's laws of a copy, word by word. Assumes nothing.
use mathlib.Core.Path.{◌≡◌, refl, sym, ap, ap₂, ◌∙◌}
use mathlib.Core.List.{List, ◌++◌}
use Prim.Native.Nat.{ℕ, zero, suc, ◌+◌, ◌≤◌, ◌<◌}
use native.Mathlib.Nat.{zero-add}
use native.Mathlib.Numerals.{add-one}
use native.Mathlib.Omega.{arith}
use lib.ListN.{length, take, drop, get_or, set, replicate, length-replicate}
use lib.Seq.{sets, sets-eq, paste, paste-zero, paste-suc, take_all}
use Rattle.paper.specs.Calls.{cleared}

module _ (d : List ℕ) (a : ℕ) (s : List ℕ) (room : a + length s ≤ length d) where
  pub none-stored : d ≡ paste d a s 0
  none-stored = paste-zero d a s

  -- word i of s
  pub one-stored : (l : List ℕ) (i v : ℕ) → l ≡ paste d a s i → i < length s → v ≡ get_or s i 0 → set l (a + i) v ≡ paste d a s (i + 1)
  one-stored l i v e h p =
      ap₂ (λ (m : List ℕ) (w : ℕ). set m (a + i) w) e p ∙ paste-suc d a s i 0 (omega arith) h ∙ ap (paste d a s) (sym (add-one i))

  pub all-stored : (l : List ℕ) (i : ℕ) → l ≡ paste d a s i → i ≡ length s → l ≡ sets d a s
  all-stored l i e p =
      e ∙ ap (paste d a s) p
      ∙ ap (λ (m : List ℕ). take a d ++ m ++ drop (a + length s) d) (take_all (length s) s (omega arith))
      ∙ sym (sets-eq s d a room)

pub zero-at : (n i : ℕ) → ◌≡◌ {A = ℕ} 0 (get_or (replicate n 0) i 0)
zero-at zero i = refl
zero-at (suc n) zero = refl
zero-at (suc n) (suc i) = zero-at n i

-- zeros in place of the first n
pub zeros-first : (n : ℕ) (l : List ℕ) → n ≤ length l → sets l 0 (replicate n 0) ≡ cleared n l
zeros-first n l h =
    let z : List ℕ = replicate n 0 in
    let e : 0 + length z ≡ n = zero-add (length z) ∙ length-replicate n 0 in
    sets-eq z l 0 (rw e h) ∙ ap (λ (m : ℕ). z ++ drop m l) e
