-- Bytes written one part behind the other: what is left to write at a position comes to the same as all that was to be written at the first. By
-- the law of two writers. Assumes nothing.
use mathlib.Core.Path.{◌≡◌, refl, sym, ap, ◌∙◌}
use mathlib.Core.List.{List, [], ◌++◌, map}
use Prim.Native.Nat.{ℕ, suc, ◌+◌, ◌<◌, ◌≤◌}
use native.Mathlib.Omega.{arith}
use lib.ListN.{length, get_or, drop, length-append}
use lib.Seq.{drop-cons, drop-length}
use Rattle.paper.specs.Numbers.{bytes, flatten}
use Rattle.laws.proofs.Bytes.{bytes-length}
use Rattle.numbers.specs.Laid.{reached, writing}
use Rattle.numbers.proofs.Laying.{writing-none, writing-then, reached-at, reached-length}

-- `rest` is left to write over l at n, of `all` that was to be written over l₀ at n₀
pub record Going (rest : List ℕ) (n : ℕ) (l all : List ℕ) (n₀ : ℕ) (l₀ : List ℕ) : Type 0 where
  pub same : writing rest n l ≡ writing all n₀ l₀
  pub room : n + length rest ≤ length l
  pub long : length l ≡ length l₀

pub going-first : (all : List ℕ) (n : ℕ) (l : List ℕ) → n + length all ≤ length l → Going all n l all n l
going-first all n l h = record { same = refl; room = h; long = refl }

-- a number is all that has room, or the first of it
pub number-room : (n v at L : ℕ) (all : List ℕ) → all ≡ bytes n v → at + length all ≤ L → at + n ≤ L
number-room n v at L all e h = omega (arith, ap length e, bytes-length n v)

pub number-first : (n v at L : ℕ) (b all : List ℕ) → all ≡ bytes n v ++ b → at + length all ≤ L → at + n ≤ L
number-first n v at L b all e h = omega (arith, ap length e, length-append (bytes n v) b, bytes-length n v)

module _ {rest : List ℕ} {n : ℕ} {l all : List ℕ} {n₀ : ℕ} {l₀ : List ℕ} (g : Going rest n l all n₀ l₀) where
  -- nothing is left
  pub going-none : rest ≡ [] → reached n l ≡ writing all n₀ l₀
  going-none p = writing-none n l ∙ ap (λ (x : List ℕ). writing x n l) (sym p) ∙ g.same

  -- `a` is the first of what is left: it has room, and once it is written the rest is left
  module _ (a b : List ℕ) (p : rest ≡ a ++ b) where
    pub going-room : n + length a ≤ length l
    going-room = omega (arith, ap length p, length-append a b, g.room)

    pub going_on : (m : ℕ) (l' : List ℕ) → reached m l' ≡ writing a n l → Going b m l' all n₀ l₀
    going_on m l' e =
        let stays : length l' ≡ length l = reached-length a n m l l' e going-room in
        record {
          same = writing-then a n m l l' e b going-room ∙ ap (λ (x : List ℕ). writing x n l) (sym p) ∙ g.same;
          room = omega (arith, ap length p, length-append a b, g.room, reached-at a n m l l' e);
          long = stays ∙ g.long;
        }

  -- all that is left is written
  module _ (m : ℕ) (l' : List ℕ) (e : reached m l' ≡ writing rest n l) where
    pub going-last : reached m l' ≡ writing all n₀ l₀
    going-last = e ∙ g.same

    pub last-long : length l' ≡ length l₀
    last-long = reached-length rest n m l l' e g.room ∙ g.long

-- the parts of a list's elements from the i-th on
pub parts_from : {A : Type 0} (f : A → List ℕ) (l : List A) (i : ℕ) (d : A) → i < length l → flatten (map f (drop i l)) ≡ f (get_or l i d) ++ flatten (map f (drop (suc i) l))
unfolding flatten
parts_from f l i d h = rw (drop-cons l i d h)

pub parts_none : {A : Type 0} (f : A → List ℕ) (l : List A) (i : ℕ) → i ≡ length l → flatten (map f (drop i l)) ≡ []
unfolding flatten
parts_none f l i e = rw (e, drop-length l)
