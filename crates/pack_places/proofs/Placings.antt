-- Cells placed one behind the other: only the list's places change, where the last record ends, and the place that a cell gets. By induction on the
-- cells. Assumes nothing.
use mathlib.Core.Path.{◌≡◌, refl, sym, ◌∙◌}
use mathlib.Core.List.{List, [], ◌∷◌}
use Prim.Native.Nat.{ℕ, zero, suc, ◌+◌, ◌<◌}
use native.Mathlib.Nat.{not-suc-le-zero, le_of_suc-le-suc, add-zero}
use native.Mathlib.Omega.{arith}
use lib.ListN.{length, get_or, take}
use Rattle.paper.specs.Store.{heights}
use Rattle.laws.proofs.Lists.{Once}
use Rattle.numbers.specs.Laid.{Reached, reached}
use Rattle.pack_scratch.specs.Parts.{places, word_in, with_word, Lent, OnlyPart}
use Rattle.pack_scratch.proofs.Words.{in-places, lent_written, word-written, word-other, only_none, only-written, only_then}
use Rattle.pack_places.specs.Placing.{placing}

-- where it ends, and the words then
abbrev pub stop : Reached → ℕ
stop (reached n s) = n

abbrev pub words : Reached → List ℕ
words (reached n s) = s

-- what these cells take together
unfoldable pub total : (ℕ → ℕ) → List ℕ → ℕ
total w [] = 0
total w (q ∷ ns) = w q + total w ns

module _ (w : ℕ → ℕ) (C k : ℕ) where
  pub placing-stop : (a : ℕ) (ns s : List ℕ) → stop (placing w C k a ns s) ≡ a + total w ns
  unfolding placing total
  placing-stop a [] s = sym (add-zero a)
  placing-stop a (q ∷ ns) s = placing-stop (a + w q) ns (with_word C (places k) q a s) ∙ omega arith

  -- numbers of cells
  abbrev pub Numbers : List ℕ → Type 0
  Numbers ns = (i : ℕ) → i < length ns → get_or ns i 0 < C

  rest : (q : ℕ) (ns : List ℕ) → Numbers (q ∷ ns) → Numbers ns
  rest q ns h i l = h (suc i) (omega arith)

  module _ (list : k < heights) where
    pub placing-only : (a : ℕ) (ns s : List ℕ) → Numbers ns → OnlyPart C (places k) s (words (placing w C k a ns s))
    unfolding placing
    placing-only a [] s h = only_none C (λ p. p ≡ places k) s
    placing-only a (q ∷ ns) s h =
        let one : OnlyPart C (places k) s (with_word C (places k) q a s) =
        only-written C (λ p. p ≡ places k) s s (places k) q a (in-places C k q list (h 0 (omega arith))) refl (only_none C (λ p. p ≡ places k) s) in
        only_then C (λ p. p ≡ places k) s (with_word C (places k) q a s) (words (placing w C k (a + w q) ns (with_word C (places k) q a s))) one
        (placing-only (a + w q) ns (with_word C (places k) q a s) (rest q ns h))

    -- a cell that is not placed
    placing-other : (a : ℕ) (ns s : List ℕ) → Numbers ns → (x : ℕ) → x < C → ((i : ℕ) → i < length ns → get_or ns i 0 ≡ x → ⊥)
        → word_in C (places k) (words (placing w C k a ns s)) x ≡ word_in C (places k) s x
    unfolding placing
    placing-other a [] s n x l h = refl
    placing-other a (q ∷ ns) s n x l h =
        placing-other (a + w q) ns (with_word C (places k) q a s) (rest q ns n) x l (λ i d. h (suc i) (omega arith))
        ∙ word-other C s (places k) q a (places k) x (in-places C k q list (n 0 (omega arith))) (in-places C k x list l) (λ e d. h 0 (omega arith) d)

    -- the i-th cell's place
    pub placing-at : (a : ℕ) (ns s : List ℕ) → Lent C s → Once ns → Numbers ns
        → (i : ℕ) → i < length ns → word_in C (places k) (words (placing w C k a ns s)) (get_or ns i 0) ≡ a + total w (take i ns)
    unfolding placing total
    placing-at a [] s lent once n i h = absurd (not-suc-le-zero h)
    placing-at a (q ∷ ns) s lent once n zero h =
        placing-other (a + w q) ns (with_word C (places k) q a s) (rest q ns n) q (n 0 h) (λ i l e. let z : suc i ≡ 0 = once (suc i) 0 (omega arith) (omega arith) (omega (arith, e)) in omega arith)
        ∙ word-written C s (places k) q a lent (in-places C k q list (n 0 h)) ∙ sym (add-zero a)
    placing-at a (q ∷ ns) s lent once n (suc i) h =
        placing-at (a + w q) ns (with_word C (places k) q a s) (lent_written C s (places k) q a lent)
        (λ i j hi hj e. let z : suc i ≡ suc j = once (suc i) (suc j) (omega arith) (omega arith) e in omega arith)
        (rest q ns n) i (le_of_suc-le-suc h)
        ∙ omega arith
