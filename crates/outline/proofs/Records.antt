-- The records by position, one law for each way through the readers: a leaf's record, a cell's, and the children's that are left.
-- By the value of each test on the way, at which the definitions compute. Assumes nothing.
use mathlib.Core.Path.{◌≡◌}
use mathlib.Core.List.{List}
use Prim.Native.Nat.{ℕ, suc, ◌+◌, ◌-◌, ◌/◌, ◌%◌, ◌^◌, ◌<◌, ◌≤◌}
use Rattle.std.proofs.Math.Nat.{div-div-eq-div-mul, pow-suc, sub-eq-zero_of_le}
use native.Mathlib.Numerals.{add-one}
use native.Mathlib.Omega.{arith}
use borrow.Author.Tests.{eq-eqb, ne_eqb, lt-ltb, le-ltb, le-leb, lt-leb}
use lib.ListN.{length, drop, get_or}
use Rattle.paper.specs.Numbers.{num}
use Rattle.outline.specs.Positions.{Reading}
use Rattle.outline.specs.Positions.{Broken, EndsAt}
use Rattle.outline.specs.Positions.{and_then, leaf_at, children_at, record_at}

module _ (file : List ℕ) (at : ℕ) where
  pub leaf-short : length file < at + 8 → leaf_at file at ≡ Broken
  unfolding leaf_at
  leaf-short l = rw (lt-ltb (length file) (at + 8) l)

  pub leaf-zero : at + 8 ≤ length file → num 8 (drop at file) ≡ 0 → leaf_at file at ≡ Broken
  unfolding leaf_at
  leaf-zero l e = rw (le-ltb (length file) (at + 8) l, eq-eqb (num 8 (drop at file)) 0 e)

  pub leaf-ends : at + 8 ≤ length file → (num 8 (drop at file) ≡ 0 → ⊥) → leaf_at file at ≡ EndsAt (at + 8)
  unfolding leaf_at
  leaf-ends l e = rw (le-ltb (length file) (at + 8) l, ne_eqb (num 8 (drop at file)) 0 e)

-- a record of height h, with h - 2 = k + 1 for an inner cell
module _ (file : List ℕ) (h at : ℕ) where
  pub record-leaf : h ≡ 2 → record_at file (h - 2) at ≡ leaf_at file at
  unfolding record_at
  record-leaf e = rw e

  inner : 3 ≤ h → h - 2 ≡ suc (h - 1 - 2)
  inner l = omega arith

  pub record-short : 3 ≤ h → length file ≤ at → record_at file (h - 2) at ≡ Broken
  unfolding record_at
  record-short l e = rw (inner l, le-leb (length file) at e)

  pub record-empty : 3 ≤ h → at < length file → get_or file at 0 ≡ 0 → record_at file (h - 2) at ≡ Broken
  unfolding record_at
  record-empty l b e = rw (inner l, lt-leb (length file) at b, eq-eqb (get_or file at 0) 0 e)

  pub record-children : 3 ≤ h → at < length file → (get_or file at 0 ≡ 0 → ⊥) →
      record_at file (h - 2) at ≡ children_at (record_at file (h - 1 - 2)) 8 (get_or file at 0) (at + 1)
  unfolding record_at
  record-children l b e = rw (inner l, lt-leb (length file) at b, ne_eqb (get_or file at 0) 0 e)

-- children each read by f, from child i of eight on, by the bits of m
module _ (f : ℕ → Reading) (i m at : ℕ) where
  pub children-none : 8 ≤ i → children_at f (8 - i) (m / 2 ^ i) at ≡ EndsAt at
  unfolding children_at
  children-none l = rw (sub-eq-zero_of_le l)

  module _ (l : i < 8) where
    one-left : 8 - i ≡ suc (8 - (i + 1))
    one-left = omega arith

    halved : m / 2 ^ i / 2 ≡ m / 2 ^ (i + 1)
    halved = rw (add-one i, pow-suc 2 i) (div-div-eq-div-mul m (2 ^ i) 2)

    pub children-skip : (m / 2 ^ i % 2 ≡ 1 → ⊥) → children_at f (8 - i) (m / 2 ^ i) at ≡ children_at f (8 - (i + 1)) (m / 2 ^ (i + 1)) at
    unfolding children_at
    children-skip z = rw (one-left, ne_eqb (m / 2 ^ i % 2) 1 z, halved)

    pub children-broken : m / 2 ^ i % 2 ≡ 1 → f at ≡ Broken → children_at f (8 - i) (m / 2 ^ i) at ≡ Broken
    unfolding children_at and_then
    children-broken e b = rw (one-left, eq-eqb (m / 2 ^ i % 2) 1 e, b)

    pub children-next : (p : ℕ) → m / 2 ^ i % 2 ≡ 1 → f at ≡ EndsAt p → children_at f (8 - i) (m / 2 ^ i) at ≡ children_at f (8 - (i + 1)) (m / 2 ^ (i + 1)) p
    unfolding children_at and_then
    children-next p e b = rw (one-left, eq-eqb (m / 2 ^ i % 2) 1 e, b, halved)
