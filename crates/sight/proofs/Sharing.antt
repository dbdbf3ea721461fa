-- Where a search for a cell that holds two points stops: they lie in one cell of that height, by the test or since the greatest holds both. Assumes nothing.
use mathlib.Core.Path.{◌≡◌, refl, sym, ◌∙◌, subst, subst⁻¹}
use mathlib.Core.Bool.{Bool, true, false, false≢true, not, ◌&&◌, ◌||◌}
use Prim.Native.Nat.{ℕ, ◌+◌, ◌/◌, ◌^◌, ◌<◌, ◌≤◌}
use native.Mathlib.Nat.{div-eq_of_lt}
use native.Mathlib.Omega.{arith}
use borrow.Author.Tests.{eqb-true, ltb-true, ltb-false}
use lib.Dec.{eqb, ltb}
use Rattle.paper.specs.Rooms.{Point, Inside, OneCell}
use Rattle.sight.specs.Paths.{apart_in}

pub apart-one : (h : ℕ) (a b : Point) → apart_in h a b ≡ false → OneCell h a b
apart-one h a b e =
    go (eqb (a.x / 2 ^ h) (b.x / 2 ^ h)) (eqb (a.y / 2 ^ h) (b.y / 2 ^ h)) (eqb (a.z / 2 ^ h) (b.z / 2 ^ h)) (eqb-true (a.x / 2 ^ h) (b.x / 2 ^ h))
    (eqb-true (a.y / 2 ^ h) (b.y / 2 ^ h)) (eqb-true (a.z / 2 ^ h) (b.z / 2 ^ h)) e
  where
    go : (x y z : Bool) → (x ≡ true → a.x / 2 ^ h ≡ b.x / 2 ^ h) → (y ≡ true → a.y / 2 ^ h ≡ b.y / 2 ^ h) → (z ≡ true → a.z / 2 ^ h ≡ b.z / 2 ^ h)
        → (not x || not y || not z) ≡ false → OneCell h a b
    go true true true f g k q = record { one_x = f refl; one_y = g refl; one_z = k refl }
    go true true false f g k q = absurd (false≢true (sym q))
    go true false z f g k q = absurd (false≢true (sym q))
    go false y z f g k q = absurd (false≢true (sym q))

pub whole-one : (h : ℕ) (a b : Point) → Inside (2 ^ h) a → Inside (2 ^ h) b → OneCell h a b
whole-one h a b l m =
    let same : (x y : ℕ) → x < 2 ^ h → y < 2 ^ h → x / 2 ^ h ≡ y / 2 ^ h = λ x y lx ly. div-eq_of_lt lx ∙ sym (div-eq_of_lt ly) in
    record { one_x = same a.x b.x l.in_x m.in_x; one_y = same a.y b.y l.in_y m.in_y; one_z = same a.z b.z l.in_z m.in_z }

-- apart in every cell passed, this one with them
pub apart_next : (low k : ℕ) (a b : Point) → ((j : ℕ) → low ≤ j → j < k → apart_in (j + 2) a b ≡ true) → apart_in (k + 2) a b ≡ true
    → (j : ℕ) → low ≤ j → j < k + 1 → apart_in (j + 2) a b ≡ true
apart_next low k a b f e j l h = go (ltb j k) refl
  where
    go : (t : Bool) → ltb j k ≡ t → apart_in (j + 2) a b ≡ true
    go true q = f j l (ltb-true j k q)
    go false q = let s : k ≡ j = omega (arith, ltb-false j k q) in subst (λ (n : ℕ). apart_in (n + 2) a b ≡ true) s e
