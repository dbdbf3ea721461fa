-- Bytes written one part behind the other: what is left to write at a position comes to the same as all that was to be written at the first. By
-- the law of two writers. Assumes nothing.
use mathlib.Core.Path.{◌≡◌, refl, sym, ap, ◌∙◌}
use mathlib.Core.List.{List, [], ◌++◌}
use Prim.Native.Nat.{ℕ, ◌+◌, ◌≤◌}
use native.Mathlib.Omega.{arith}
use lib.ListN.{length, length-append}
use Rattle.numbers.specs.Laid.{reached, writing}
use Rattle.numbers.proofs.Laying.{writing-none, writing-then, reached-at, reached-length}

-- `rest` is left to write over l at n, of `all` that was to be written over l₀ at n₀
pub record Going (rest : List ℕ) (n : ℕ) (l all : List ℕ) (n₀ : ℕ) (l₀ : List ℕ) : Type 0 where
  pub same : writing rest n l ≡ writing all n₀ l₀
  pub room : n + length rest ≤ length l
  pub long : length l ≡ length l₀

pub going-first : (all : List ℕ) (n : ℕ) (l : List ℕ) → n + length all ≤ length l → Going all n l all n l
going-first all n l h = record { same = refl; room = h; long = refl }

module _ {rest : List ℕ} {n : ℕ} {l all : List ℕ} {n₀ : ℕ} {l₀ : List ℕ} (g : Going rest n l all n₀ l₀) where
  -- nothing is left
  pub going-none : rest ≡ [] → reached n l ≡ writing all n₀ l₀
  going-none p = writing-none n l ∙ ap (λ (x : List ℕ). writing x n l) (sym p) ∙ g.same

  -- nothing is the first of what is left
  pub going-past : (b : List ℕ) → rest ≡ b → Going b n l all n₀ l₀
  going-past b p = rw p at g

  -- `a` is the first of what is left: it has room, and once it is written the rest is left
  module _ (a b : List ℕ) (p : rest ≡ a ++ b) where
    pub going-room : n + length a ≤ length l
    going-room = omega (arith, ap length p, length-append a b, g.room)

    pub going_on : (m : ℕ) (l' : List ℕ) → reached m l' ≡ writing a n l → Going b m l' all n₀ l₀
    going_on m l' e =
        record {
          same = writing-then a n m l l' e b going-room ∙ ap (λ (x : List ℕ). writing x n l) (sym p) ∙ g.same;
          room = omega (arith, ap length p, length-append a b, g.room, reached-at a n m l l' e, reached-length a n m l l' e going-room);
          long = reached-length a n m l l' e going-room ∙ g.long;
        }
