-- The words of a list past its kept cells, as the code finds them: from the place after the last kept cell to the list's end.
-- By the definition at the list's number. Assumes nothing.
use mathlib.Core.Path.{◌≡◌, refl, ap₂, ◌∙◌}
use mathlib.Core.List.{List}
use Prim.Native.Nat.{ℕ, zero, suc, ◌-◌, ◌*◌}
use native.Mathlib.Omega.{arith}
use Rattle.paper.specs.Store.{capacity_of, kept_count, stride, cell_position, blank, list_blank}

module _ (ws : List ℕ) (n c at : ℕ) (e : c ≡ capacity_of ws) where
  pub leaves-spare : (k : ℕ) → k ≡ 0 → n ≡ kept_count ws k → at ≡ cell_position c k n → blank ws at (stride 0 * (c - n)) ≡ list_blank ws k
  leaves-spare zero z m p = ap₂ (blank ws) (p ∙ ap₂ (λ (C q : ℕ). cell_position C 0 q) e m) (ap₂ (λ (C q : ℕ). stride 0 * (C - q)) e m)
  leaves-spare (suc k) z m p = absurd (omega arith)

  pub cells-spare : (k : ℕ) → (k ≡ 0 → ⊥) → n ≡ kept_count ws k → at ≡ cell_position c k n → blank ws at (stride 1 * (c - n)) ≡ list_blank ws k
  cells-spare zero z m p = absurd (z refl)
  cells-spare (suc k) z m p = ap₂ (blank ws) (p ∙ ap₂ (λ (C q : ℕ). cell_position C (suc k) q) e m) (ap₂ (λ (C q : ℕ). stride 1 * (C - q)) e m)
