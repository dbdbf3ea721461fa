-- Seeking a cell: the pointer found is to a cell that passes, under the lowest mirror that does, and no earlier cell passes; nothing is found
-- exactly where no cell passes. By induction on the mirrors and on the cells. Assumes nothing.
use mathlib.Core.Path.{◌≡◌, refl, sym, ◌∙◌, subst, ap}
use mathlib.Core.Bool.{Bool, true, false, cond}
use mathlib.Core.List.{List, [], ◌∷◌}
use mathlib.Core.Logic.{inl, inr}
use mathlib.Core.Option.{Option, some}
use mathlib.Core.Option as O
use Prim.Native.Nat.{ℕ, zero, suc, ◌+◌, ◌<◌, ◌≤◌}
use native.Mathlib.Nat.{le_refl, not-suc-le-zero, le_of_suc-le-suc, eq-or-lt_of_le}
use native.Mathlib.Omega.{arith}
use lib.Dec.{T}
use lib.ListN.{get_or, length}
use Rattle.paper.specs.Store.{Cell, pointer}
use Rattle.paper.specs.Match.{lowest, or_found, find}

-- the lowest of t .. t + n - 1 that passes, or none does
abbrev pub Lowest : (ℕ → Bool) → ℕ → ℕ → Option ℕ → Type 0
Lowest p t n O.none = (u : ℕ) → t ≤ u → u < t + n → T (p u) → ⊥
Lowest p t n (some u) = (t ≤ u) × (u < t + n) × T (p u) × ((w : ℕ) → t ≤ w → w < u → T (p w) → ⊥)

pub lowest-is : (n t : ℕ) (p : ℕ → Bool) → Lowest p t n (lowest n t p)
unfolding lowest
lowest-is zero t p = λ u h l s. omega arith
lowest-is (suc n) t p = go (p t) refl (lowest n (suc t) p) (lowest-is n (suc t) p)
  where
    go : (b : Bool) → p t ≡ b → (r : Option ℕ) → Lowest p (suc t) n r → Lowest p t (suc n) (cond b (some t) r)
    go true e r h = (le_refl t, omega arith, rw e tt, λ w l m s. omega arith)
    go false e O.none h = λ u l m s. elim (eq-or-lt_of_le l) [ inl q ↦ subst T e (subst (λ (x : ℕ). T (p x)) (sym q) s) | inr q ↦ h u q (omega arith) s ]
    go false e (some u) h =
        (omega (arith, h.0), omega (arith, h.1), h.2, λ w l m s. elim (eq-or-lt_of_le l) [ inl q ↦ subst T e (subst (λ (x : ℕ). T (p x)) (sym q) s) | inr q ↦ h.3 w q m s ])

-- cell q passes under t, under no lower mirror, and no earlier cell passes; the pointer counts the cells from n
pub record Found (p : Cell → ℕ → Bool) (cs : List Cell) (n r : ℕ) : Type 0 where
  pub cell : ℕ
  pub mirror : ℕ
  pub is-cell : cell < length cs
  pub is-mirror : mirror < 8
  pub passes : T (p (get_or cs cell []) mirror)
  pub is : r ≡ pointer mirror (n + cell)
  pub lowest-mirror : (u : ℕ) → u < mirror → T (p (get_or cs cell []) u) → ⊥
  pub lowest-cell : (q u : ℕ) → q < cell → u < 8 → T (p (get_or cs q []) u) → ⊥

abbrev pub Nowhere : (Cell → ℕ → Bool) → List Cell → Type 0
Nowhere p cs = (q t : ℕ) → q < length cs → t < 8 → T (p (get_or cs q []) t) → ⊥

abbrev pub Sought : (Cell → ℕ → Bool) → List Cell → ℕ → Option ℕ → Type 0
Sought p cs n O.none = Nowhere p cs
Sought p cs n (some r) = Found p cs n r

pub find-is : (p : Cell → ℕ → Bool) (cs : List Cell) (n : ℕ) → Sought p cs n (find p cs n)
unfolding find
find-is p [] n = λ q t h ht s. not-suc-le-zero h
find-is p (c ∷ cs) n = go (lowest 8 0 (p c)) (lowest-is 8 0 (p c)) (find p cs (suc n)) (find-is p cs (suc n))
  where
    no_cell : Lowest (p c) 0 8 O.none → (m : ℕ) → ((q t : ℕ) → q < m → t < 8 → T (p (get_or cs q []) t) → ⊥)
        → (q t : ℕ) → q < suc m → t < 8 → T (p (get_or (c ∷ cs) q []) t) → ⊥
    no_cell h m f zero t l ht s = h t (omega arith) (omega arith) s
    no_cell h m f (suc q) t l ht s = f q t (le_of_suc-le-suc l) ht s

    go : (o : Option ℕ) → Lowest (p c) 0 8 o → (r : Option ℕ) → Sought p cs (suc n) r → Sought p (c ∷ cs) n (or_found o n r)
    go (some t) h r f = record {
      cell = 0;
      mirror = t;
      is-cell = omega arith;
      is-mirror = omega (arith, h.1);
      passes = h.2;
      is = ap (pointer t) (omega arith);
      lowest-mirror = λ u l s. h.3 u (omega arith) l s;
      lowest-cell = λ q u l hu s. not-suc-le-zero l;
    }
    go O.none h O.none f = no_cell h (length cs) f
    go O.none h (some r) f = record {
      cell = suc f.cell;
      mirror = f.mirror;
      is-cell = omega (arith, f.is-cell);
      is-mirror = f.is-mirror;
      passes = f.passes;
      is = f.is ∙ ap (pointer f.mirror) (omega arith);
      lowest-mirror = f.lowest-mirror;
      lowest-cell = no_cell h f.cell f.lowest-cell;
    }
