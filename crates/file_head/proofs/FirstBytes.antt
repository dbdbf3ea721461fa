-- A file's version byte and length field: what each test says where the code has found the file long enough, or too short.
-- By the value of the first test, at which the conjunction computes. Assumes nothing.
use mathlib.Core.Path.{◌≡◌}
use mathlib.Core.Bool.{Bool, true, false, not, ◌&&◌}
use mathlib.Core.List.{List}
use Prim.Native.Nat.{ℕ, ◌<◌, ◌≤◌}
use native.Mathlib.Omega.{arith}
use borrow.Author.Tests.{le-leb, lt-leb, lt-ltb, le-ltb, not-false}
use lib.Dec.{eqb, leb, ltb, leb→le}
use lib.ListN.{length, drop, get_or}
use Rattle.paper.specs.Numbers.{num}
use Rattle.paper.specs.Outline.{version_ok, length_ok}
use Rattle.laws.proofs.Tests.{true-T, and_left}

-- a conjunction that is not so, by its first test
fails-first : (a b : Bool) → a ≡ false → not (a && b) ≡ true
fails-first a b e = rw e

rests-on-second : (a b : Bool) → a ≡ true → not (a && b) ≡ not b
rests-on-second a b e = rw e

module _ (file : List ℕ) where
  pub version-none : (v : ℕ) → length file ≡ 0 → not (version_ok v file) ≡ true
  version-none v e = fails-first (ltb 0 (length file)) (eqb (get_or file 0 0) v) (le-ltb 0 (length file) (omega arith))

  pub version-first : (v : ℕ) → (length file ≡ 0 → ⊥) → not (version_ok v file) ≡ not (eqb (get_or file 0 0) v)
  version-first v n = rests-on-second (ltb 0 (length file)) (eqb (get_or file 0 0) v) (lt-ltb 0 (length file) (omega arith))

  pub length-under : (n : ℕ) → length file < n → not (length_ok n file) ≡ true
  length-under n l = fails-first (leb n (length file)) (eqb (num 4 (drop 1 file)) (length file)) (lt-leb n (length file) l)

  pub length-field : (n : ℕ) → n ≤ length file → not (length_ok n file) ≡ not (eqb (num 4 (drop 1 file)) (length file))
  length-field n l = rests-on-second (leb n (length file)) (eqb (num 4 (drop 1 file)) (length file)) (le-leb n (length file) l)

  pub length-least : (n : ℕ) → not (length_ok n file) ≡ false → n ≤ length file
  length-least n e =
      leb→le n (length file) (and_left (leb n (length file)) (eqb (num 4 (drop 1 file)) (length file)) (true-T (not-false (length_ok n file) e)))
