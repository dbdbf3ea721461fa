-- The codes of a cell's pointers as digits: to base 4 they are the record's header, to base 1 all its half-words but the header's, and a loop
-- gathers them from the last pointer up. By the clauses of the definitions. Assumes nothing.
use mathlib.Core.Path.{◌≡◌, refl, sym, ap, ap₂, ◌∙◌}
use mathlib.Core.List.{List, [], ◌∷◌}
use Prim.Native.Nat.{ℕ, suc, ◌+◌, ◌-◌, ◌*◌, ◌^◌, ◌<◌, ◌≤◌}
use native.Mathlib.Nat.{le_refl, mul-le-mul, pow-le-pow_right}
use native.Mathlib.Omega.{arith}
use lib.Dec.{lit<}
use lib.ListN.{length, get_or, drop, length-drop}
use lib.Seq.{drop-cons, drop-length}
use Rattle.paper.specs.Store.{Cell}
use Rattle.paper.specs.Pack.{code, header, width}
use Rattle.laws.proofs.RecordSizes.{header-lt}
use Rattle.pack_places.specs.Placing.{digits}

module _ (ps : List ℕ) where
  pub digits-header : (c : Cell) → digits 4 ps c ≡ header ps c
  unfolding digits header
  digits-header [] = refl
  digits-header (p ∷ c) = ap (λ (x : ℕ). code ps p + 4 * x) (digits-header c)

  pub digits-width : (c : Cell) → digits 1 ps c + 1 ≡ width ps c
  unfolding digits width
  digits-width [] = refl
  digits-width (p ∷ c) = omega (arith, digits-width c)

  -- no more than the header
  digits_le : (b : ℕ) (c : Cell) → b ≤ 4 → digits b ps c ≤ header ps c
  unfolding digits header
  digits_le b [] h = le_refl 0
  digits_le b (p ∷ c) h = let m : b * digits b ps c ≤ 4 * header ps c = mul-le-mul h (digits_le b c h) in omega arith

  -- from the last pointer up
  module _ (b : ℕ) (c : Cell) (eight : length c ≡ 8) where
    pub digits-none : digits b ps (drop 8 c) ≡ 0
    unfolding digits
    digits-none = ap (λ (n : ℕ). digits b ps (drop n c)) (sym eight) ∙ ap (digits b ps) (drop-length c)

    pub digits-down : (i n d : ℕ) → (i ≡ 0 → ⊥) → i ≤ 8 → n ≡ digits b ps (drop i c) → d ≡ code ps (get_or c (i - 1) 0) → d + b * n ≡ digits b ps (drop (i - 1) c)
    unfolding digits
    digits-down i n d z h e f =
        let s : suc (i - 1) ≡ i = omega arith in
        ap₂ (λ (x y : ℕ). x + b * y) f (e ∙ ap (λ (j : ℕ). digits b ps (drop j c)) (sym s))
        ∙ sym (ap (digits b ps) (drop-cons c (i - 1) 0 (omega (arith, eight))))

    pub digits-small : (i : ℕ) → b ≤ 4 → digits b ps (drop i c) < 65536
    digits-small i h =
        let rest : Cell = drop i c in
        let few : length rest ≤ 8 = rw (length-drop i c) (omega (arith, eight)) in
        let most : 4 ^ length rest ≤ 4 ^ 8 = pow-le-pow_right (lit< tt) few in
        omega (arith, digits_le b rest h, header-lt ps rest)
