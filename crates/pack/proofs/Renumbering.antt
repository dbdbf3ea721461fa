-- Records by places looked up under the store's numbers are the records of the renumbered pointers: each pointer keeps its tag and finds the same
-- place. By induction on a cell's pointers and a list's cells. Assumes nothing.
use mathlib.Core.Path.{◌≡◌, refl, sym, ap, ap₂, ◌∙◌}
use mathlib.Core.List.{List, [], ◌∷◌, ◌++◌, map}
use mathlib.Core.Logic.{inl, inr}
use Prim.Native.Nat.{ℕ, zero, suc, ◌+◌, ◌-◌, ◌*◌, ◌^◌, ◌<◌, ◌≤◌}
use native.Mathlib.Nat.{not-suc-le-zero, le_of_suc-le-suc, add-zero}
use native.Mathlib.Omega.{arith}
use lib.ListN.{length, get_or, take}
use Rattle.paper.specs.Numbers.{bytes, flatten, index_in}
use Rattle.paper.specs.Store.{Cell, most_capacity, cell_no}
use Rattle.paper.specs.Packed.{code_for}
use Rattle.paper.specs.Pack.{place_of, code, pointer_bytes, header, width, record_bytes, places_from, size_of, renumber}
use Rattle.laws.proofs.PackedReachable.{Listed, InList, none-renumbered, listed-some, listed-cell, listed-tag}
use Rattle.laws.proofs.RecordSizes.{no_code, some-code, some_bytes}
use Rattle.laws.proofs.RecordSizes.{no_bytes}
use Rattle.pack_places.proofs.Placings.{total}

-- ns: the store's numbers in their order; ps: their places in that order; table: the places by number
module _ (ns : List ℕ) (few : length ns ≤ most_capacity) (ps table : List ℕ) (told : (i : ℕ) → i < length ns → get_or table (get_or ns i 0) 0 ≡ get_or ps i 0) where
  same_place : (r : ℕ) → Listed ns r → place_of table r ≡ place_of ps (renumber ns r)
  same_place r h =
      ap (λ (q : ℕ). get_or table q 0) (sym h.at.is) ∙ told (index_in (cell_no r) ns) h.at.inside ∙ ap (λ (i : ℕ). get_or ps i 0) (sym (listed-cell ns few r h))

  same_code : (r : ℕ) → InList ns r → code table r ≡ code ps (renumber ns r)
  same_code r (inl e) = no_code table r e ∙ sym (no_code ps (renumber ns r) (none-renumbered ns r e))
  same_code r (inr h) = some-code table r h.some ∙ ap code_for (same_place r h) ∙ sym (some-code ps (renumber ns r) (listed-some ns r h))

  same_bytes : (r : ℕ) → InList ns r → pointer_bytes table r ≡ pointer_bytes ps (renumber ns r)
  same_bytes r (inl e) = no_bytes table r e ∙ sym (no_bytes ps (renumber ns r) (none-renumbered ns r e))
  same_bytes r (inr h) =
      some_bytes table r h.some
      ∙ ap₂ (λ (t l : ℕ). bytes (2 * code_for l) (t * 2 ^ (16 * code_for l - 3) + l)) (sym (listed-tag ns few r h)) (same_place r h)
      ∙ sym (some_bytes ps (renumber ns r) (listed-some ns r h))

  -- a record
  same_width : (c : Cell) → ((i : ℕ) → InList ns (get_or c i 0)) → width table c ≡ width ps (map (renumber ns) c)
  unfolding width
  same_width [] h = refl
  same_width (r ∷ c) h = ap₂ (λ (x y : ℕ). x + y) (same_code r (h 0)) (same_width c (λ i. h (suc i)))

  same-header : (c : Cell) → ((i : ℕ) → InList ns (get_or c i 0)) → header table c ≡ header ps (map (renumber ns) c)
  unfolding header
  same-header [] h = refl
  same-header (r ∷ c) h = ap₂ (λ (x y : ℕ). x + 4 * y) (same_code r (h 0)) (same-header c (λ i. h (suc i)))

  same-pointers : (c : Cell) → ((i : ℕ) → InList ns (get_or c i 0)) → flatten (map (pointer_bytes table) c) ≡ flatten (map (pointer_bytes ps) (map (renumber ns) c))
  unfolding flatten
  same-pointers [] h = refl
  same-pointers (r ∷ c) h = ap₂ (λ (x y : List ℕ). x ++ y) (same_bytes r (h 0)) (same-pointers c (λ i. h (suc i)))

  same-record : (c : Cell) → ((i : ℕ) → InList ns (get_or c i 0)) → record_bytes table c ≡ record_bytes ps (map (renumber ns) c)
  unfolding record_bytes
  same-record c h = ap₂ (λ (b : ℕ) (l : List ℕ). bytes 2 b ++ l) (same-header c h) (same-pointers c h)

  -- a list; g: the cells by the store's numbers
  module _ (g : ℕ → Cell) where
    abbrev pub Points : List ℕ → Type 0
    Points ms = (n : ℕ) → n < length ms → (i : ℕ) → InList ns (get_or (g (get_or ms n 0)) i 0)

    abbrev renumbered : List ℕ → List Cell
    renumbered ms = map (λ q. map (renumber ns) (g q)) ms

    rest : (m : ℕ) (ms : List ℕ) → Points (m ∷ ms) → Points ms
    rest m ms h n l = h (suc n) (omega arith)

    pub same_list_lem : (ms : List ℕ) → Points ms → flatten (map (λ q. record_bytes table (g q)) ms) ≡ flatten (map (record_bytes ps) (renumbered ms))
    unfolding flatten
    same_list_lem [] h = refl
    same_list_lem (m ∷ ms) h = ap₂ (λ (x y : List ℕ). x ++ y) (same-record (g m) (h 0 (omega arith))) (same_list_lem ms (rest m ms h))

    pub same_size : (ms : List ℕ) → Points ms → total (λ q. width table (g q)) ms ≡ size_of ps (renumbered ms)
    unfolding total size_of
    same_size [] h = refl
    same_size (m ∷ ms) h = ap₂ (λ (x y : ℕ). x + y) (same_width (g m) (h 0 (omega arith))) (same_size ms (rest m ms h))

    pub same-places : (a : ℕ) (ms : List ℕ) → Points ms → (i : ℕ) → i < length ms → a + total (λ q. width table (g q)) (take i ms) ≡ get_or (places_from ps a (renumbered ms)) i 0
    unfolding total places_from
    same-places a [] h i l = absurd (not-suc-le-zero l)
    same-places a (m ∷ ms) h zero l = add-zero a
    same-places a (m ∷ ms) h (suc i) l =
        let w : width table (g m) ≡ width ps (map (renumber ns) (g m)) = same_width (g m) (h 0 (omega arith)) in
        let e : a + (width table (g m) + total (λ q. width table (g q)) (take i ms)) ≡ a + width ps (map (renumber ns) (g m)) + total (λ q. width table (g q)) (take i ms) = omega (arith, w) in
        e ∙ same-places (a + width ps (map (renumber ns) (g m))) ms (rest m ms h) i (le_of_suc-le-suc l)
