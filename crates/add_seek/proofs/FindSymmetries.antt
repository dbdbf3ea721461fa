-- Tests that agree find the same; so seeking by symmetries is seeking by the match rule, where the symmetries are those of the children. By induction on
-- the cells. Assumes nothing.
use mathlib.Core.Path.{◌≡◌, refl, ap₂}
use mathlib.Core.Bool.{Bool}
use mathlib.Core.List.{List, [], ◌∷◌}
use mathlib.Core.Option.{Option}
use Prim.Native.Nat.{ℕ, suc, ◌<◌}
use Rattle.paper.specs.Store.{Cell, cells_at}
use Rattle.paper.specs.Match.{or_found, find, matches}
use Rattle.laws.specs.Symmetries.{symmetry_match, ChildSymmetries}
use Rattle.laws.proofs.Symmetries.{symmetry_match_lem}
use Rattle.add_seek.proofs.FindFirst.{lowest-same}

pub find-same : (p q : Cell → ℕ → Bool) → ((c : Cell) (t : ℕ) → t < 8 → p c t ≡ q c t) → (cs : List Cell) (n : ℕ) → find p cs n ≡ find q cs n
unfolding find
find-same p q e [] n = refl
find-same p q e (c ∷ cs) n =
    ap₂ (λ (o r : Option ℕ). or_found o n r) (lowest-same 8 0 (p c) (q c) (e c)) (find-same p q e cs (suc n))

-- seeking by symmetries is seeking by the match rule, where the symmetries are those of the children
pub find-symmetries : (K : List (List Cell)) (j : ℕ) (cell : Cell) (symmetries : List ℕ) → ChildSymmetries K j cell symmetries
    → find (symmetry_match symmetries cell) (cells_at K (suc j)) 0 ≡ find (λ b t. matches K (suc j) cell b t) (cells_at K (suc j)) 0
find-symmetries K j cell symmetries h =
    find-same (symmetry_match symmetries cell) (λ b t. matches K (suc j) cell b t) (λ b t ht. symmetry_match_lem K j cell b symmetries t ht h) (cells_at K (suc j)) 0
