-- Where lists and pointers are sound, pointers name records by places just where the graph's pointers name cells by numbers, so the rules of popularity
-- are the same. By induction along the records one list up. Assumes nothing.
use mathlib.Core.Path.{◌≡◌, refl, sym, ◌∙◌, ap, ap₂}
use mathlib.Core.Bool.{◌&&◌}
use mathlib.Core.List.{List, [], ◌∷◌, map}
use mathlib.Core.Logic.{inl, inr}
use Prim.Native.Nat.{ℕ, suc, ◌+◌, ◌-◌, ◌<◌}
use native.Mathlib.Omega.{arith}
use borrow.Author.Tests.{eq-eqb, ne_eqb}
use lib.Dec.{T, leb, ltb}
use lib.ListN.{length, get_or, get_or-map}
use Rattle.paper.specs.Numbers.{bit_for, is_in, index_in}
use Rattle.paper.specs.Store.{Cell, cells_at}
use Rattle.paper.specs.Packed.{top_of, list_at, PackedPointer, no_pointer, pointers_at, places_at, by_number, cells_of, graph_of, names, weight, popularity, named_ok, falling_ok}
use Rattle.laws.proofs.Tests.{all_same}
use Rattle.laws.proofs.Lists.{is_in-get_or, index-get_or}
use Rattle.laws.proofs.Sums.{sum_same}
use Rattle.laws.proofs.PackedLists.{graph-cells}
use Rattle.proper_popular.specs.Places.{points_to, weight_at, times_named, popular_at, popular_rules}
use Rattle.proper_rules.proofs.Starting.{once-at}
use Rattle.proper_rules.proofs.Arrows.{SoundFile, Points, points, no-packed_pointer, pointer-no, pointer-ne, same_place}
use Rattle.proper_rules.proofs.MarksAre.{cells-length}

module _ (bs : List ℕ) (f : SoundFile bs) where
  abbrev G : List (List Cell)
  G = graph_of bs

  abbrev ss : ℕ → List ℕ
  ss = places_at bs

  abbrev pointers : ℕ → ℕ → List PackedPointer
  pointers k p = pointers_at (list_at bs (suc k)) p

  names_same : (k x : ℕ) → T (is_in x (ss k)) → (r : PackedPointer) → Points bs f k r → points_to x r ≡ names (index_in x (ss k)) (by_number (ss k) r)
  names_same k x hx r (inl e) = rw (no-packed_pointer bs f k r e, eq-eqb r.code 0 e)
  names_same k x hx r (inr a) =
      rw (ne_eqb (by_number (ss k) r) 0 (pointer-ne bs f k r a), pointer-no bs f k r a, same_place bs f k r.place x a.at hx, ne_eqb r.code 0 a.some)

  weight-same : (k x : ℕ) → T (is_in x (ss k)) → (rs : List PackedPointer) → ((i : ℕ) → Points bs f k (get_or rs i no_pointer)) → weight_at x rs ≡ weight (index_in x (ss k)) (map (by_number (ss k)) rs)
  unfolding weight_at weight
  weight-same k x hx rs h =
      sum_same 8 (λ i. bit_for (points_to x (get_or rs i no_pointer))) (λ i. bit_for (names (index_in x (ss k)) (get_or (map (by_number (ss k)) rs) i 0)))
      (λ i m. ap bit_for (names_same k x hx (get_or rs i no_pointer) (h i)) ∙ ap (λ (p : ℕ). bit_for (names (index_in x (ss k)) p)) (sym (get_or-map (by_number (ss k)) rs i no_pointer)))

  times-list : (k x : ℕ) → k < top_of bs → T (is_in x (ss k)) → (ts : List ℕ) → ((n : ℕ) → n < length ts → T (is_in (get_or ts n 0) (ss (suc k))))
      → times_named (list_at bs (suc k)) ts x ≡ popularity (map (λ p. map (by_number (ss k)) (pointers k p)) ts) (index_in x (ss k))
  unfolding times_named popularity
  times-list k x h hx [] ht = refl
  times-list k x h hx (t ∷ ts) ht =
      ap₂ (λ (a n : ℕ). a + n) (weight-same k x hx (pointers k t) (points bs f k h t (ht 0 (omega arith)))) (times-list k x h hx ts (λ n l. ht (suc n) (omega arith)))

  -- record number q of list k
  popular-same : (k q : ℕ) → k < top_of bs → q < length (ss k) → popular_at bs k (get_or (ss k) q 0) ≡ popularity (cells_at G (suc k)) q
  unfolding cells_of
  popular-same k q h l =
      times-list k (get_or (ss k) q 0) h (is_in-get_or (ss k) q l) (ss (suc k)) (is_in-get_or (ss (suc k)))
      ∙ ap₂ (λ (cs : List Cell) (n : ℕ). popularity cs n) (sym (graph-cells bs (suc k) h)) (index-get_or (ss k) (once-at bs k) q l)

  pub popular_rules_lem : (k : ℕ) → k < top_of bs → popular_rules bs k ≡ (named_ok G k && falling_ok G k)
  unfolding popular_rules named_ok falling_ok
  popular_rules_lem k h =
      rw (cells-length bs f k (omega arith))
      (ap₂ ◌&&◌
      (all_same (length (ss k)) (λ q. ltb 0 (popular_at bs k (get_or (ss k) q 0))) (λ q. ltb 0 (popularity (cells_at G (suc k)) q)) (λ q l. ap (ltb 0) (popular-same k q h l)))
      (all_same (length (ss k) - 1) (λ q. leb (popular_at bs k (get_or (ss k) (suc q) 0)) (popular_at bs k (get_or (ss k) q 0)))
      (λ q. leb (popularity (cells_at G (suc k)) (suc q)) (popularity (cells_at G (suc k)) q))
      (λ q l. ap₂ leb (popular-same k (suc q) h (omega arith)) (popular-same k q h (omega arith)))))
