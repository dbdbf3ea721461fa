-- A cell that is nowhere found and is kept as it stands: the lists are the old ones and one cell more, and stay as they should be.
-- Each rule holds of the old cells, which stay, and of the new one. Assumes nothing.
use mathlib.Core.Path.{◌≡◌, sym, ◌∙◌, subst, subst₂, ap}
use mathlib.Core.List.{List, [], ◌∷◌, ◌++◌, append-nil}
use mathlib.Core.Logic.{inl, inr, ◌≢◌}
use Prim.Native.Nat.{ℕ, suc, ◌<◌}
use native.Mathlib.Nat.{le_of_suc-le-suc, eq-or-lt_of_le}
use native.Mathlib.Decide.{ℕ_discrete}
use lib.ListN.{get_or, length, set}
use lib.Seq.{get_or-set_same, get_or-set_other, get_or-append_seam}
use Rattle.paper.specs.Rooms.{NonEmpty}
use Rattle.paper.specs.Outline.{edge}
use Rattle.paper.specs.Store.{Cell, cells_at, cell_at}
use Rattle.paper.specs.Meaning.{cell_voxel}
use Rattle.paper.specs.Match.{matches}
use Rattle.laws.proofs.Lists.{length-snoc}
use Rattle.laws.proofs.Mirrors.{mirrored-sym}
use Rattle.laws.proofs.Invariant.{OkCell, OkCells, Alike, Shape, Inv, match-complete}
use Rattle.laws.proofs.Seeking.{Nowhere}
use Rattle.laws.proofs.Growing.{Extends, ext-cell, ext-ok, ext-voxels, ext-shape, alike-back}

module _ (K : List (List Cell)) (k : ℕ) (hk : k < length K) (c : Cell) where
  -- the lists with c kept at the end of list k
  abbrev pub K⁺ : List (List Cell)
  K⁺ = set K k (cells_at K k ++ (c ∷ []))

  at-k : cells_at K⁺ k ≡ cells_at K k ++ (c ∷ [])
  at-k = get_or-set_same K k (cells_at K k ++ (c ∷ [])) [] hk

  pub keep-other : (j : ℕ) → j ≢ k → cells_at K⁺ j ≡ cells_at K j
  keep-other j ne = get_or-set_other K k j (cells_at K k ++ (c ∷ [])) [] ne

  grown : (j : ℕ) → Dec (j ≡ k) → List Cell
  grown j (yes e) = c ∷ []
  grown j (no ne) = []

  grown-is : (j : ℕ) (d : Dec (j ≡ k)) → cells_at K⁺ j ≡ cells_at K j ++ grown j d
  unfolding grown
  grown-is j (yes e) = subst (λ (i : ℕ). cells_at K⁺ i ≡ cells_at K i ++ (c ∷ [])) (sym e) at-k
  grown-is j (no ne) = keep-other j ne ∙ sym (append-nil (cells_at K j))

  pub keep-extends : Extends K K⁺
  keep-extends = record { more = λ j. grown j (ℕ_discrete j k); is = λ j. grown-is j (ℕ_discrete j k) }

  pub keep-length : length (cells_at K⁺ k) ≡ suc (length (cells_at K k))
  keep-length = ap length at-k ∙ length-snoc (cells_at K k) c

  -- under the next number
  pub keep-cell : cell_at K⁺ k (length (cells_at K k)) ≡ c
  keep-cell = ap (λ (l : List Cell). get_or l (length (cells_at K k)) []) at-k ∙ get_or-append_seam (cells_at K k) c [] []

  -- a rule of every kept cell: of the old ones and of the new one
  pub keep-each : (P : ℕ → ℕ → Type 0) → ((j q : ℕ) → q < length (cells_at K j) → P j q) → P k (length (cells_at K k))
      → (j q : ℕ) → q < length (cells_at K⁺ j) → P j q
  keep-each P old new j q h = go (ℕ_discrete j k)
    where
      at : q < suc (length (cells_at K k)) → P k q
      at l = elim (eq-or-lt_of_le (le_of_suc-le-suc l)) [ inl e ↦ subst (P k) (sym e) new | inr m ↦ old k q m ]

      go : Dec (j ≡ k) → P j q
      go (yes e) = subst (λ (i : ℕ). P i q) (sym e) (at (subst (λ (n : ℕ). q < n) (ap (λ (i : ℕ). length (cells_at K⁺ i)) e ∙ keep-length) h))
      go (no ne) = old j q (subst (λ (n : ℕ). q < n) (ap length (keep-other j ne)) h)

  old-is : (j q : ℕ) → q < length (cells_at K j) → cell_at K⁺ j q ≡ cell_at K j q
  old-is = ext-cell keep-extends

  pub keep-ok : OkCells K → OkCell K k c → OkCells K⁺
  keep-ok ok okc =
      keep-each (λ i q. OkCell K⁺ i (cell_at K⁺ i q))
      (λ i q h. subst (OkCell K⁺ i) (sym (old-is i q h)) (ext-ok keep-extends i (cell_at K i q) (ok i q h)))
      (subst (OkCell K⁺ k) (sym keep-cell) (ext-ok keep-extends k c okc))

  module _ (inv : (j : ℕ) → Inv K j) (okc : OkCell K k c) (shc : Shape K k c) (sol : NonEmpty (edge k) (cell_voxel K k c))
      (nowhere : Nowhere (λ b t. matches K k c b t) (cells_at K k)) where
    ok : OkCells K
    ok j q h = (inv j).ok q h

    back : (j : ℕ) (a b : Cell) (t : ℕ) → OkCell K j a → OkCell K j b → Alike K⁺ j a b t → Alike K j a b t
    back = alike-back keep-extends ok

    not_new : (q t : ℕ) → q < length (cells_at K k) → t < 8 → Alike K k c (cell_at K k q) t → ⊥
    not_new q t hq ht s = nowhere q t hq ht (match-complete K k (λ j l. inv j) c (cell_at K k q) t ht okc ((inv k).ok q hq) s)

    apart-new : (r t : ℕ) → r < length (cells_at K⁺ k) → t < 8 → Alike K⁺ k c (cell_at K⁺ k r) t → length (cells_at K k) ≡ r
    apart-new r t hr ht s =
        elim (eq-or-lt_of_le (le_of_suc-le-suc (subst (λ (n : ℕ). r < n) keep-length hr))) [
          | inl e ↦ sym e
          | inr m ↦ absurd (not_new r t m ht (back k c (cell_at K k r) t okc ((inv k).ok r m) (subst (λ (b : Cell). Alike K⁺ k c b t) (old-is k r m) s)))
        ]

    apart-old : (j r : ℕ) → r < length (cells_at K⁺ j) → (q t : ℕ) → q < length (cells_at K j) → t < 8 → Alike K⁺ j (cell_at K⁺ j q) (cell_at K⁺ j r) t → q ≡ r
    apart-old =
        keep-each (λ j r. (q t : ℕ) → q < length (cells_at K j) → t < 8 → Alike K⁺ j (cell_at K⁺ j q) (cell_at K⁺ j r) t → q ≡ r)
        (λ j r hr q t hq ht s. (inv j).apart q r t hq hr ht
        (back j (cell_at K j q) (cell_at K j r) t ((inv j).ok q hq) ((inv j).ok r hr)
        (subst₂ (λ (a b : Cell). Alike K⁺ j a b t) (old-is j q hq) (old-is j r hr) s)))
        (λ q t hq ht s. absurd (not_new q t hq ht (mirrored-sym t (edge k) (cell_voxel K k (cell_at K k q)) (cell_voxel K k c)
        (back k (cell_at K k q) c t ((inv k).ok q hq) okc (subst₂ (λ (a b : Cell). Alike K⁺ k a b t) (old-is k q hq) keep-cell s)))))

    pub keep-inv : (j : ℕ) → Inv K⁺ j
    keep-inv j = record {
      ok = keep-ok ok okc j;
      shape = keep-each (λ i q. Shape K⁺ i (cell_at K⁺ i q))
          (λ i q h. subst (Shape K⁺ i) (sym (old-is i q h)) (ext-shape keep-extends ok i (cell_at K i q) ((inv i).ok q h) ((inv i).shape q h)))
          (subst (Shape K⁺ k) (sym keep-cell) (ext-shape keep-extends ok k c okc shc)) j;
      solid = keep-each (λ i q. NonEmpty (edge i) (cell_voxel K⁺ i (cell_at K⁺ i q)))
          (λ i q h. let s = (inv i).solid q h in
          subst (λ (a : Cell). NonEmpty (edge i) (cell_voxel K⁺ i a)) (sym (old-is i q h)) (s.0, s.1, ext-voxels keep-extends ok i (cell_at K i q) ((inv i).ok q h) s.0 s.1 ∙ s.2))
          (subst (λ (a : Cell). NonEmpty (edge k) (cell_voxel K⁺ k a)) (sym keep-cell) (sol.0, sol.1, ext-voxels keep-extends ok k c okc sol.0 sol.1 ∙ sol.2)) j;
      apart = λ q r t hq hr ht s.
          keep-each (λ i q. (r t : ℕ) → r < length (cells_at K⁺ i) → t < 8 → Alike K⁺ i (cell_at K⁺ i q) (cell_at K⁺ i r) t → q ≡ r)
          (λ i q h r t hr ht s. apart-old i r hr q t h ht s)
          (λ r t hr ht s. apart-new r t hr ht (subst (λ (a : Cell). Alike K⁺ k a (cell_at K⁺ k r) t) keep-cell s)) j q hq r t hr ht s;
    }
