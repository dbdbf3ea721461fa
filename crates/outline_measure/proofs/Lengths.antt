-- The length of a record in its parts, in the code's words: a leaf's, and of a cell what is counted with what is left to count. By the clauses of
-- the definitions, carried from k + 1 to k - 1 once. Assumes nothing.
use mathlib.Core.Path.{◌≡◌, refl, sym, ap, ◌∙◌}
use mathlib.Core.Bool.{Bool, cond}
use mathlib.Core.List.{List}
use Prim.Native.Nat.{ℕ, zero, suc, ◌+◌, ◌-◌, ◌≤◌, ◌<◌}
use native.Mathlib.Nat.{zero-add}
use native.Mathlib.Numerals.{sub-one}
use native.Mathlib.Omega.{arith}
use lib.ListN.{get_or}
use borrow.Author.Tests.{eq-eqb, ne_eqb}
use Rattle.std.specs.Prelude.{None, Some}
use Rattle.paper.specs.Store.{Cell, cell_at, cell_no}
use Rattle.outline_measure.specs.Measure.{Within, part_measure, children_measure, measure_at}

pub measure-leaf : (K : List (List Cell)) (k n : ℕ) → k ≡ 0 → measure_at K k n ≡ 8
unfolding measure_at
measure-leaf K k n e = rw e

pub measure-cell : (K : List (List Cell)) (k n : ℕ) (c : Cell) → (k ≡ 0 → ⊥) → c ≡ cell_at K k n → measure_at K k n ≡ 1 + children_measure (measure_at K (k - 1)) c 8
unfolding measure_at
measure-cell K zero n c z e = absurd (z refl)
measure-cell K (suc k) n c z e = rw (sub-one (suc k), e) (omega arith)

module _ (f : ℕ → ℕ) (c : Cell) where
  pub measure-none : (left : ℕ) → left ≡ 0 → children_measure f c left ≡ 0
  unfolding children_measure
  measure-none left e = rw e

  measure-part : (left : ℕ) → (left ≡ 0 → ⊥) → children_measure f c left ≡ part_measure f (get_or c (left - 1) 0) + children_measure f c (left - 1)
  unfolding children_measure
  measure-part zero z = absurd (z refl)
  measure-part (suc left) z = rw (sub-one (suc left))

  pub measure-absent : (left : ℕ) → (left ≡ 0 → ⊥) → get_or c (left - 1) 0 ≡ 0 → children_measure f c left ≡ children_measure f c (left - 1)
  measure-absent left z e =
      let p : ℕ = get_or c (left - 1) 0 in
      measure-part left z ∙ ap (λ (b : Bool). cond b 0 (f (cell_no p)) + children_measure f c (left - 1)) (eq-eqb p 0 e) ∙ zero-add (children_measure f c (left - 1))

  pub measure-there : (left q : ℕ) → (left ≡ 0 → ⊥) → (get_or c (left - 1) 0 ≡ 0 → ⊥) → q ≡ cell_no (get_or c (left - 1) 0) → children_measure f c left ≡ f q + children_measure f c (left - 1)
  measure-there left q z e g =
      let p : ℕ = get_or c (left - 1) 0 in
      measure-part left z ∙ ap (λ (b : Bool). cond b 0 (f (cell_no p)) + children_measure f c (left - 1)) (ne_eqb p 0 e) ∙ ap (λ (x : ℕ). f x + children_measure f c (left - 1)) (sym g)

-- ---- counted so far

-- `sum` is counted, within the limit, and the first i children are left, of a record of this length
pub record Counting (f : ℕ → ℕ) (c : Cell) (limit length sum i : ℕ) : Type 0 where
  pub few : i ≤ 8
  pub near : sum ≤ limit
  pub same : sum + children_measure f c i ≡ length

module _ {f : ℕ → ℕ} {c : Cell} {limit length : ℕ} where
  pub counting-first : (limit ≡ 0 → ⊥) → length ≡ 1 + children_measure f c 8 → Counting f c limit length 1 8
  counting-first some e = record { few = omega arith; near = omega arith; same = sym e }

  module _ {sum i : ℕ} (h : Counting f c limit length sum i) where
    pub counting-absent : 0 < i → get_or c (i - 1) 0 ≡ 0 → Counting f c limit length sum (i - 1)
    counting-absent z e =
        record { few = omega (arith, h.few); near = h.near; same = ap (λ (x : ℕ). sum + x) (sym (measure-absent f c i (omega arith) e)) ∙ h.same }

    -- the child that comes
    module _ (q : ℕ) (some : 0 < i) (there : get_or c (i - 1) 0 ≡ 0 → ⊥) (named : q ≡ cell_no (get_or c (i - 1) 0)) where
      next : children_measure f c i ≡ f q + children_measure f c (i - 1)
      next = measure-there f c i q (omega arith) there named

      pub counting-there : (n : ℕ) → Within (limit - sum) (f q) (Some n) → Counting f c limit length (sum + n) (i - 1)
      counting-there n told = record { few = omega (arith, h.few); near = omega (arith, h.near, told); same = omega (arith, h.same, told, next) }

      pub counting-past : Within (limit - sum) (f q) None → limit < length
      counting-past told = omega (arith, h.near, h.same, told, next)

    -- all children are counted
    pub counting-done : i ≡ 0 → Within limit length (Some sum)
    counting-done z =
        let e : sum ≡ length = omega (arith, h.same, measure-none f c i z) in
        (e, omega (arith, e, h.near))
