-- How long a packed scene is at most, of lists with at most C cells each: a record has at most 34 bytes, the top list one of them, a leaf 8 bytes.
-- List by list, from the leaves up. Assumes nothing.
use mathlib.Core.Path.{◌≡◌, refl, ◌∙◌, ap}
use mathlib.Core.List.{List, ◌++◌}
use mathlib.Core.Logic.{inl, inr}
use Prim.Native.Nat.{ℕ, zero, suc, ◌+◌, ◌-◌, ◌*◌, ◌<◌, ◌≤◌}
use native.Mathlib.Nat.{mul-le-mul_right}
use native.Mathlib.Omega.{arith}
use lib.Dec.{T}
use lib.ListN.{length, length-append}
use Rattle.paper.specs.Numbers.{bytes}
use Rattle.paper.specs.Rooms.{depth_ok}
use Rattle.paper.specs.Store.{Cell, heights, tag_of, cells_at}
use Rattle.paper.specs.Packed.{packed_head}
use Rattle.paper.specs.Pack.{places, size, list_bytes, size_bytes, body, layout, empty_file, scene_graph, packed_file, most_record, packed_most}
use Rattle.laws.proofs.Undamaged.{depth_low}
use Rattle.laws.proofs.Invariant.{Names, OkPointer, names-ne}
use Rattle.laws.proofs.RecordSizes.{size-le}
use Rattle.laws.proofs.Layouts.{list-size, leaf-size, sizes-length}
use Rattle.laws.proofs.PackedReachable.{Packable, N-top, N-chosen}
use Rattle.laws.proofs.PackedGraph.{graph-length}
use Rattle.laws.proofs.Packing.{scene-good, none-pack, some-pack}

layout-length : (k m : ℕ) (K : List (List Cell)) → length (layout k m K) ≡ packed_head + length (size_bytes K k ++ body K k)
unfolding layout bytes
layout-length k m K = omega arith

module _ (K : List (List Cell)) (s : Packable K) (C : ℕ) (few : (j : ℕ) → length (cells_at K j) ≤ C) where
  module _ (k p : ℕ) (hk : k < heights) (hp : Names (length (cells_at K k)) p) where
    abbrev g : List (List Cell)
    g = scene_graph K k p

    graph-few : (j : ℕ) → j ≤ k → length (cells_at g j) ≤ C
    graph-few j h = omega (arith, graph-length K s k p hp j h, (N-chosen K s k p hp j h).len, few j)

    list-most : (j : ℕ) → j < k → length (list_bytes g (suc j)) ≤ most_record * length (cells_at g (suc j))
    unfolding size
    list-most j h =
        omega (arith, list-size k g (scene-good K s k p hk hp) j h, size-le (places g j) (cells_at g (suc j)) (λ q m. ((scene-good K s k p hk hp).rows j h q m).eight))

    leaves-most : length (list_bytes g 0) ≤ 8 * length (cells_at g 0)
    unfolding size
    leaves-most = omega (arith, leaf-size k g (scene-good K s k p hk hp))

    -- below the top
    body-most : (j : ℕ) → j < k → length (body g j) ≤ 8 * C + j * (most_record * C)
    unfolding body
    body-most zero h = omega (arith, leaves-most, graph-few 0 (omega arith))
    body-most (suc j) h =
        omega (arith, length-append (list_bytes g (suc j)) (body g j), list-most j (omega arith), graph-few (suc j) (omega arith), body-most j (omega arith))

    top_one : length (cells_at g k) ≡ 1
    top_one = graph-length K s k p hp k (omega arith) ∙ ap length (N-top K k p)

    -- with the top
    all_most : (j : ℕ) → j ≡ k → length (body g j) ≤ most_record + 8 * C + (j - 1) * (most_record * C)
    unfolding body
    all_most zero e = omega (arith, leaves-most, ap (λ (i : ℕ). length (cells_at g i)) e ∙ top_one)
    all_most (suc j) e =
        let n : suc j - 1 ≡ j = omega arith in
        let one : length (cells_at g (suc j)) ≡ 1 = ap (λ (i : ℕ). length (cells_at g i)) e ∙ top_one in
        rw n (omega (arith, length-append (list_bytes g (suc j)) (body g j), list-most j (omega arith), one, body-most j (omega arith)))

    pub scene-most : length (layout k (tag_of p) g) ≤ packed_most C
    scene-most =
        let lists : (k - 1) * (most_record * C) ≤ (heights - 2) * (most_record * C) = mul-le-mul_right (most_record * C) (omega arith) in
        omega (arith, layout-length k (tag_of p) g, length-append (size_bytes g k) (body g k), sizes-length g k, all_most k refl, lists)

  -- of a scene of depth D with root pointer p
  pub pack-most : (D p : ℕ) → T (depth_ok D) → OkPointer (length (cells_at K (D - 2))) p → length (packed_file K D p) ≤ packed_most C
  unfolding empty_file bytes
  pack-most D p deep (inl e) = rw (none-pack K s D p deep e) (omega arith)
  pack-most D p deep (inr w) = rw (some-pack K s D p deep (names-ne w)) (scene-most (D - 2) p (depth_low D deep) w)
