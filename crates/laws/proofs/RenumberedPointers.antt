-- A pointer renumbered: it follows its cell to the number that the cell has among some cells in some order. It names the same cell under the same
-- tag, matches as before, and counts as before for popularity. From the number at which a cell stands. Assumes nothing.
use mathlib.Core.Path.{◌≡◌, refl, sym, ◌∙◌, ap, ap₂}
use mathlib.Core.Bool.{Bool}
use mathlib.Core.List.{List, [], ◌∷◌, map}
use mathlib.Core.Logic.{◌⊎◌, inl, inr}
use Prim.Native.Nat.{ℕ, suc, ◌+◌, ◌^◌, ◌<◌, ◌≤◌}
use native.Mathlib.Decide.{ℕ_discrete}
use native.Mathlib.Omega.{arith}
use borrow.Author.Tests.{eq-eqb, ne_eqb}
use lib.Bits.{bit_xor}
use lib.Dec.{eqb}
use lib.ListN.{length, get_or, get_or-map}
use Rattle.paper.specs.Numbers.{bit_for, index_in}
use Rattle.paper.specs.Store.{Cell, most_capacity, cell_no, tag_of, pointer}
use Rattle.paper.specs.Match.{pointer_match}
use Rattle.paper.specs.Packed.{names, weight, popularity}
use Rattle.paper.specs.Pack.{renumber}
use Rattle.laws.proofs.Lists.{At, is_in-at, is_in-get_or, Once, index-get_or}
use Rattle.laws.proofs.Sums.{sum_same}
use Rattle.laws.proofs.Matching.{tag-lt}
use Rattle.laws.proofs.Invariant.{OkPointer}
use Rattle.laws.proofs.Adding.{pointer-cell, pointer-tag, pointer-names}

-- ---- the cells ns, in their order

-- a pointer to one of the cells ns
pub record Listed (ns : List ℕ) (r : ℕ) : Type 0 where
  pub some : r ≡ 0 → ⊥
  pub at : At (cell_no r) ns

-- none, or one of them
abbrev pub InList : List ℕ → ℕ → Type 0
InList ns r = (r ≡ 0) ⊎ Listed ns r

module _ (ns : List ℕ) where
  pub none-renumbered : (r : ℕ) → r ≡ 0 → renumber ns r ≡ 0
  unfolding renumber
  none-renumbered r e = rw (eq-eqb r 0 e)

  pub listed-is : (r : ℕ) → Listed ns r → renumber ns r ≡ pointer (tag_of r) (index_in (cell_no r) ns)
  unfolding renumber
  listed-is r h = rw (ne_eqb r 0 h.some)

  pub listed-some : (r : ℕ) → Listed ns r → renumber ns r ≡ 0 → ⊥
  listed-some r h e = let q : pointer (tag_of r) (index_in (cell_no r) ns) ≡ 0 = sym (listed-is r h) ∙ e in omega arith

  -- numbers listed are told apart by where they stand
  same_number : (x y : ℕ) → At x ns → At y ns → eqb (index_in x ns) (index_in y ns) ≡ eqb x y
  same_number x y a b = go (ℕ_discrete x y)
    where
      go : Dec (x ≡ y) → eqb (index_in x ns) (index_in y ns) ≡ eqb x y
      go (yes e) = rw (eq-eqb x y e, eq-eqb (index_in x ns) (index_in y ns) (ap (λ (z : ℕ). index_in z ns) e))
      go (no n) = rw (ne_eqb x y n, ne_eqb (index_in x ns) (index_in y ns) (λ e. n (sym a.is ∙ ap (λ (i : ℕ). get_or ns i 0) e ∙ b.is)))

-- ---- few enough for a pointer's 29 bits: a pointer renumbered names the same cell under the same tag

module _ (ns : List ℕ) (few : length ns ≤ most_capacity) where
  pub listed_small : (r : ℕ) → Listed ns r → suc (index_in (cell_no r) ns) < 2 ^ 29
  listed_small r h = omega (arith, h.at.inside)

  pub listed-cell : (r : ℕ) → Listed ns r → cell_no (renumber ns r) ≡ index_in (cell_no r) ns
  listed-cell r h = ap cell_no (listed-is ns r h) ∙ pointer-cell (tag_of r) (index_in (cell_no r) ns) (listed_small r h)

  pub listed-tag : (r : ℕ) → Listed ns r → tag_of (renumber ns r) ≡ tag_of r
  listed-tag r h = ap tag_of (listed-is ns r h) ∙ pointer-tag (tag_of r) (index_in (cell_no r) ns) (tag-lt r) (listed_small r h)

  pub ok-renumbered : (r : ℕ) → InList ns r → OkPointer (length ns) (renumber ns r)
  ok-renumbered r (inl e) = inl (none-renumbered ns r e)
  ok-renumbered r (inr h) =
      inr (rw (listed-is ns r h) (pointer-names (tag_of r) (index_in (cell_no r) ns) (length ns) (listed_small r h) h.at.inside))

  -- pointers match as before by tests of 'matches itself' that agree on the cells listed
  pub pointers-match : (f g : ℕ → ℕ → Bool) → ((r : ℕ) → Listed ns r → (u : ℕ) → f (cell_no (renumber ns r)) u ≡ g (cell_no r) u)
      → (t p q : ℕ) → InList ns p → InList ns q → pointer_match f t (renumber ns p) (renumber ns q) ≡ pointer_match g t p q
  unfolding pointer_match
  pointers-match f g e t p q (inl ep) (inl eq) = rw (none-renumbered ns p ep, none-renumbered ns q eq, eq-eqb p 0 ep, eq-eqb q 0 eq)
  pointers-match f g e t p q (inl ep) (inr hq) =
      rw (none-renumbered ns p ep, eq-eqb p 0 ep, ne_eqb (renumber ns q) 0 (listed-some ns q hq), ne_eqb q 0 hq.some)
  pointers-match f g e t p q (inr hp) (inl eq) =
      rw (none-renumbered ns q eq, eq-eqb q 0 eq, ne_eqb (renumber ns p) 0 (listed-some ns p hp), ne_eqb p 0 hp.some)
  pointers-match f g e t p q (inr hp) (inr hq) =
      rw (
        ne_eqb (renumber ns p) 0 (listed-some ns p hp),
        ne_eqb p 0 hp.some,
        ne_eqb (renumber ns q) 0 (listed-some ns q hq),
        ne_eqb q 0 hq.some,
        listed-tag p hp,
        listed-tag q hq,
        e p hp (bit_xor (bit_xor (tag_of p) (tag_of q)) t),
        listed-cell p hp,
        listed-cell q hq,
        same_number ns (cell_no p) (cell_no q) hp.at hq.at,
      )

  -- as many pointers name number q as named the cell that has it
  module _ (once : Once ns) (q : ℕ) (hq : q < length ns) where
    same_name : (r : ℕ) → Listed ns r → eqb (index_in (cell_no r) ns) q ≡ eqb (cell_no r) (get_or ns q 0)
    same_name r h =
        ap (eqb (index_in (cell_no r) ns)) (sym (index-get_or ns once q hq))
        ∙ same_number ns (cell_no r) (get_or ns q 0) h.at (is_in-at (get_or ns q 0) ns (is_in-get_or ns q hq))

    names_same : (r : ℕ) → InList ns r → names q (renumber ns r) ≡ names (get_or ns q 0) r
    names_same r (inl e) = rw (none-renumbered ns r e, eq-eqb r 0 e)
    names_same r (inr w) = rw (ne_eqb (renumber ns r) 0 (listed-some ns r w), ne_eqb r 0 w.some, listed-cell r w) (same_name r w)

    weight-same : (c : Cell) → ((i : ℕ) → InList ns (get_or c i 0)) → weight q (map (renumber ns) c) ≡ weight (get_or ns q 0) c
    unfolding weight renumber
    weight-same c h =
        sum_same 8 (λ i. bit_for (names q (get_or (map (renumber ns) c) i 0))) (λ i. bit_for (names (get_or ns q 0) (get_or c i 0)))
        (λ i m. ap (λ (r : ℕ). bit_for (names q r)) (get_or-map (renumber ns) c i 0) ∙ ap bit_for (names_same (get_or c i 0) (h i)))

    pub popularity-same : (g : ℕ → Cell) (ms : List ℕ) → ((n : ℕ) → n < length ms → (i : ℕ) → InList ns (get_or (g (get_or ms n 0)) i 0))
        → popularity (map (λ m. map (renumber ns) (g m)) ms) q ≡ popularity (map g ms) (get_or ns q 0)
    unfolding popularity
    popularity-same g [] h = refl
    popularity-same g (m ∷ ms) h =
        ap₂ (λ (a n : ℕ). a + n) (weight-same (g m) (h 0 (omega arith))) (popularity-same g ms (λ n l. h (suc n) (omega arith)))
