-- The lists in the file, by the list starts: where each lies, its length, and its places by its own bytes. By the sizes, which add up to the length.
-- Assumes nothing.
use mathlib.Core.Path.{◌≡◌, refl, ◌∙◌, ap, ap₂, subst}
use mathlib.Core.Bool.{Bool, true, cond}
use mathlib.Core.List.{List}
use Prim.Native.Nat.{ℕ, zero, suc, ◌+◌, ◌-◌, ◌*◌, ◌/◌, ◌%◌, ◌<◌, ◌≤◌, ◌^◌}
use native.Mathlib.Omega.{arith}
use borrow.Author.Tests.{le-leb, ne_eqb}
use lib.Dec.{T, leb}
use lib.ListN.{length, get_or, take, drop}
use Rattle.paper.specs.Numbers.{count}
use Rattle.paper.specs.Store.{heights}
use Rattle.paper.specs.Packed.{top_of, is_empty, size_at, tail_at, start_at, list_at, places_at, sizes_ok, root_ok, head_ok, starts_of, starts_from}
use Rattle.laws.proofs.PackedLists.{sizes-whole, tail-in, leaves-length, inner-length}
use Rattle.laws.proofs.Tests.{and_right}
use Rattle.laws.proofs.Lists.{get_or-tabulate}
use Rattle.proper_marks.specs.Places.{places_in, leaves_in, LeafList, RecordList, Lies}
use Rattle.packed_lists.specs.Ends.{unit_at, end_at, end_in, Listed}
use Rattle.proper_marks.proofs.Along.{part-all}

module _ (bs : List ℕ) (sized : T (sizes_ok bs)) where
  pub tail-inside : (k : ℕ) → k ≤ top_of bs → tail_at bs k ≤ length bs
  tail-inside k h = omega (arith, tail-in bs (sizes-whole bs sized) k h)

  -- each list has its size
  pub list_length : (k : ℕ) → k ≤ top_of bs → length (list_at bs k) ≡ unit_at k * size_at bs k
  list_length zero h = leaves-length bs (sizes-whole bs sized)
  list_length (suc k) h = inner-length bs (sizes-whole bs sized) k h

module _ (bs starts : List ℕ) (known : Listed bs starts) where
  pub sized : T (sizes_ok bs)
  unfolding head_ok
  sized = subst (λ (b : Bool). T (cond b true (sizes_ok bs))) known.solid (and_right (root_ok bs) (cond (is_empty bs) true (sizes_ok bs)) known.opens.head)

  pub start_in_lem : (k : ℕ) → k ≤ top_of bs → start_at bs k + tail_at bs k ≡ length bs
  start_in_lem k h = omega (arith, tail-inside bs sized k h)

  pub start_is : (k : ℕ) → k ≤ top_of bs → get_or starts k 0 ≡ start_at bs k
  unfolding starts_of
  start_is k h =
      ap (λ (l : List ℕ). get_or l k 0) known.is ∙ rw known.solid
      (get_or-tabulate heights 0 k (λ k. cond (leb k (top_of bs)) (start_at bs k) 0) 0 (omega (arith, known.opens.tested.flat)) ∙ rw (zero-plus k, le-leb k (top_of bs) h))
    where
      zero-plus : (n : ℕ) → 0 + n ≡ n
      zero-plus n = omega arith

  pub end_is : (k : ℕ) → k ≤ top_of bs → end_in starts (length bs) k ≡ end_at bs k
  end_is zero h = refl
  end_is (suc k) h = let e : suc k - 1 ≡ k = omega arith in rw (ne_eqb (suc k) 0 (λ z. omega arith)) (ap (λ (n : ℕ). get_or starts n 0) e ∙ start_is k (omega arith))

  pub list-in : (k : ℕ) → k ≤ top_of bs → start_at bs k + length (list_at bs k) ≡ end_at bs k
  unfolding tail_at
  list-in zero h = omega (arith, list_length bs sized 0 h, start_in_lem 0 h)
  list-in (suc k) h = omega (arith, list_length bs sized (suc k) h, start_in_lem (suc k) h, start_in_lem k (omega arith))

  pub end_in_lem : (k : ℕ) → k ≤ top_of bs → end_at bs k ≤ length bs
  end_in_lem zero h = omega arith
  end_in_lem (suc k) h = omega arith

  -- the list cut from the file
  pub cut-is : (k : ℕ) → k ≤ top_of bs → take (end_at bs k - start_at bs k) (drop (start_at bs k) bs) ≡ list_at bs k
  unfolding list_at tail_at
  cut-is zero h = part-all bs (start_at bs 0)
  cut-is (suc k) h =
      let e : start_at bs k - start_at bs (suc k) ≡ 2 * size_at bs (suc k) = omega (arith, start_in_lem (suc k) h, start_in_lem k (omega arith)) in
      ap (λ (n : ℕ). take n (drop (start_at bs (suc k)) bs)) e

  -- ---- its places and its length by its own bytes

  pub places-leaf : places_at bs 0 ≡ leaves_in (list_at bs 0)
  unfolding places_at
  places-leaf = let e : size_at bs 0 ≡ length (list_at bs 0) / 8 = omega (arith, list_length bs sized 0 (omega arith)) in ap (count 0) e

  pub places-inner : (k : ℕ) → suc k ≤ top_of bs → places_at bs (suc k) ≡ places_in (list_at bs (suc k))
  unfolding places_at
  places-inner k h =
      let e : size_at bs (suc k) ≡ length (list_at bs (suc k)) / 2 = omega (arith, list_length bs sized (suc k) h) in
      ap (λ (n : ℕ). starts_from (list_at bs (suc k)) n 0) e

  pub eights : length (list_at bs 0) % 8 ≡ 0
  eights = omega (arith, list_length bs sized 0 (omega arith))

  pub evens : (k : ℕ) → suc k ≤ top_of bs → length (list_at bs (suc k)) % 2 ≡ 0
  evens k h = omega (arith, list_length bs sized (suc k) h)

  pub list-short : (k : ℕ) → k ≤ top_of bs → length (list_at bs k) < 2 ^ 32
  list-short k h = omega (arith, list-in k h, end_in_lem k h, known.opens.tested.short)

  pub leaf-list : LeafList (list_at bs 0)
  leaf-list = record { eights = eights; short = list-short 0 (omega arith) }

  pub record-list : (k : ℕ) → suc k ≤ top_of bs → RecordList (list_at bs (suc k))
  record-list k h = record { even = evens k h; short = list-short (suc k) h }

  -- where it lies
  pub lies : (k : ℕ) → k ≤ top_of bs → Lies bs k (get_or starts k 0) (end_in starts (length bs) k)
  lies k h = record {
    start = start_is k h;
    end = end_is k h;
    order = omega (arith, start_is k h, end_is k h, list-in k h);
    inside = omega (arith, end_is k h, end_in_lem k h);
    is = ap₂ (λ (a b : ℕ). take (b - a) (drop a bs)) (start_is k h) (end_is k h) ∙ cut-is k h;
  }
