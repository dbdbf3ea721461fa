-- Counters along a list: what a loop has of the records counted, and of the counters tested, at the starts left. By one start at a time. Assumes nothing.
use mathlib.Core.Path.{◌≡◌, refl, ◌∙◌, ap, ap₂}
use mathlib.Core.Bool.{true, false}
use mathlib.Core.List.{List, [], ◌∷◌, ◌++◌, map}
use Prim.Native.Nat.{ℕ, zero, suc, ◌+◌, ◌*◌, ◌/◌, ◌<◌, ◌≤◌}
use native.Mathlib.Omega.{arith}
use lib.Dec.{T}
use lib.ListN.{length, drop}
use lib.Seq.{drop-append-add}
use Rattle.std.proofs.lemmas.List.{take-append-le, length-append}
use Rattle.paper.specs.Numbers.{num, be, count}
use Rattle.paper.specs.Packed.{pointers_at, record_ok}
use Rattle.laws.proofs.Tests.{and_left}
use Rattle.proper_marks.specs.Places.{leaves_in}
use Rattle.proper_popular.specs.Counting.{count_of, count_pointers, count_records, countable, falls_by, falls_from}

pub counts-next : (u : ℕ) (l : List ℕ) (p : ℕ) (ps qs m : List ℕ) → ps ≡ p ∷ qs → count_records u l ps m ≡ count_records u l qs (count_pointers u (pointers_at l p) 8 m)
unfolding count_records
counts-next u l p ps qs m e = ap (λ (r : List ℕ). count_records u l r m) e

pub counts-none : (u : ℕ) (l ps m : List ℕ) → ps ≡ [] → count_records u l ps m ≡ m
unfolding count_records
counts-none u l ps m e = ap (λ (r : List ℕ). count_records u l r m) e

-- ---- counters along places

pub falls-none : (c : ℕ → ℕ) (last : ℕ) (ps : List ℕ) → ps ≡ [] → falls_from last (map c ps) ≡ true
unfolding falls_from
falls-none c last ps e = ap (λ (r : List ℕ). falls_from last (map c r)) e

module _ (c : ℕ → ℕ) (last p : ℕ) (ps qs : List ℕ) (e : ps ≡ p ∷ qs) where
  pub falls-fails : falls_by last (c p) ≡ false → falls_from last (map c ps) ≡ false
  unfolding falls_from
  falls-fails z = ap (λ (r : List ℕ). falls_from last (map c r)) e ∙ rw z

  pub falls-more : falls_by last (c p) ≡ true → falls_from last (map c ps) ≡ falls_from (c p) (map c qs)
  unfolding falls_from
  falls-more z = ap (λ (r : List ℕ). falls_from last (map c r)) e ∙ rw z

-- the same of the counters themselves, the first being n
module _ (last n : ℕ) (ns ms : List ℕ) (e : ns ≡ n ∷ ms) where
  pub counters-fail : falls_by last n ≡ false → falls_from last ns ≡ false
  unfolding falls_from
  counters-fail z = ap (falls_from last) e ∙ rw z

  pub counters-fall : falls_by last n ≡ true → falls_from last ns ≡ falls_from n ms
  unfolding falls_from
  counters-fall z = ap (falls_from last) e ∙ rw z

pub counters-none : (last : ℕ) (ns : List ℕ) → ns ≡ [] → falls_from last ns ≡ true
unfolding falls_from
counters-none last ns e = ap (falls_from last) e

-- ---- counters along leaves, the first of them cut off

-- those of a list of counters, each in the first four of its leaf's eight bytes
abbrev pub leaf_counts : List ℕ → List ℕ
leaf_counts m = map (count_of 8 m) (leaves_in m)

module _ (x m : List ℕ) (eight : length x ≡ 8) where
  counts-past : (n p : ℕ) → map (count_of 8 (x ++ m)) (count (suc p) n) ≡ map (count_of 8 m) (count p n)
  unfolding count
  counts-past zero p = refl
  counts-past (suc n) p =
      let e : 8 * suc p ≡ length x + 8 * p = omega arith in
      ap₂ ◌∷◌ (ap (λ (i : ℕ). num 4 (drop i (x ++ m))) e ∙ ap (num 4) (drop-append-add x m (8 * p))) (counts-past n (suc p))

  pub leaf-counts-next : leaf_counts (x ++ m) ≡ num 4 x ∷ leaf_counts m
  unfolding count
  leaf-counts-next =
      let room : 4 ≤ length x = omega arith in
      let e : length (x ++ m) / 8 ≡ suc (length m / 8) = omega (arith, length-append x m) in
      ap (λ (n : ℕ). map (count_of 8 (x ++ m)) (count 0 n)) e
      ∙ ap₂ ◌∷◌ (ap (be 0) (take-append-le 4 x m room)) (counts-past (length m / 8) 0)

pub leaf-counts-none : (m : List ℕ) → length m < 8 → leaf_counts m ≡ []
unfolding count
leaf-counts-none m h = let e : length m / 8 ≡ 0 = omega arith in ap (λ (n : ℕ). map (count_of 8 m) (count 0 n)) e

-- ---- one record

pub countable-whole : (u n : ℕ) (l : List ℕ) (p : ℕ) → T (countable u n l p) → T (record_ok l p)
unfolding countable
countable-whole u n l p t = search and_left
