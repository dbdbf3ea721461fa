-- The graph that packing lays out stands for the scene's voxels, and the rules on records hold of it. It has the store's cells renumbered, so its
-- lists are as they should be: 'no two match' and 'tags lowest'; 'named' and 'falling' are the order's laws. Assumes nothing.
use mathlib.Core.Path.{◌≡◌, ◌∙◌, subst₂, ap}
use mathlib.Core.Bool.{Bool, true, false, cond, not}
use mathlib.Core.List.{List, [], map}
use mathlib.Core.Logic.{inr}
use Prim.Native.Nat.{ℕ, suc, ◌-◌, ◌*◌, ◌<◌, ◌≤◌}
use native.Mathlib.Nat.{zero-add}
use native.Mathlib.Omega.{arith}
use borrow.Author.Tests.{lt-ltb, le-leb}
use lib.Bits.{bit_xor}
use lib.Dec.{T, eqb, not_T}
use lib.ListN.{length, get_or}
use Rattle.paper.specs.Numbers.{all_below, index_in}
use Rattle.paper.specs.Rooms.{Point}
use Rattle.paper.specs.Store.{Cell, most_capacity, cell_no, tag_of, cells_at, cell_at}
use Rattle.paper.specs.Meaning.{cell_voxel}
use Rattle.paper.specs.Match.{matches}
use Rattle.paper.specs.Packed.{most_weight, popularity, named_ok, apart_ok, tag_low, pointer_low, tags_ok, falling_ok, graph_ok}
use Rattle.paper.specs.Pack.{renumber, list_for, scene_graph}
use Rattle.laws.proofs.Tests.{T_true, true-T, all-T}
use Rattle.laws.proofs.Lists.{is_in-at, in_head, get_or-tabulate}
use Rattle.laws.proofs.Eight.{xor8-lt}
use Rattle.laws.proofs.Matching.{tag-lt, match-sound}
use Rattle.laws.proofs.Invariant.{Names, names-ne, LowTag, Inv}
use Rattle.laws.proofs.RenumberedPointers.{Listed, listed-cell, listed-tag}
use Rattle.laws.proofs.Renumbering.{Renumbered, renumbered-length, renumbered-cell, renumbered-pointer, renumbered-voxels, renumbered-popularity, pointer_low_lem, renumbered-inv}
use Rattle.laws.proofs.PackedOrder.{every-at, pairs-at, Before, Counted}
use Rattle.laws.proofs.PackedReachable.{Pointing, Packable, numbers, kept_at, uses, chosen, listed, N-top, N-few, N-used, N-falls, all-pointing, before-le}

-- ---- the lists of a scene's graph

module _ (K : List (List Cell)) (k p : ℕ) where
  graph-list : (j : ℕ) → j ≤ k → cells_at (scene_graph K k p) j ≡ list_for K (numbers K k p) j
  unfolding scene_graph
  graph-list j h = get_or-tabulate (suc k) 0 j (list_for K (numbers K k p)) [] (omega arith) ∙ ap (list_for K (numbers K k p)) (zero-add j)

  pub graph-leaves : cells_at (scene_graph K k p) 0 ≡ map (cell_at K 0) (numbers K k p 0)
  unfolding list_for
  graph-leaves = graph-list 0 (omega arith)

  pub graph-inner : (j : ℕ) → j < k → cells_at (scene_graph K k p) (suc j) ≡ map (λ q. map (renumber (numbers K k p j)) (cell_at K (suc j) q)) (numbers K k p (suc j))
  unfolding list_for
  graph-inner j h = graph-list (suc j) h

  -- the graph's cells are the store's renumbered, where kept cells point to kept ones
  pub pointing-renumbered : cell_no p < length (cells_at K k) → ((j : ℕ) → j ≤ k → length (cells_at K j) ≤ most_capacity) → Pointing K k → Renumbered K (scene_graph K k p) (numbers K k p) k
  pointing-renumbered root few ok = record {
    list = graph-list;
    below = λ j h. (chosen K k p root j h).below;
    once = λ j h. (chosen K k p root j h).once;
    few = λ j h. omega (arith, (chosen K k p root j h).len, few j h);
    closed = listed K k p root ok;
  }

  -- and every one below the top is named
  pub renumbered-named : Renumbered K (scene_graph K k p) (numbers K k p) k → (j : ℕ) → j < k → (q : ℕ) → q < length (numbers K k p j) → 0 < popularity (cells_at (scene_graph K k p) (suc j)) q
  renumbered-named r j h q l =
      let u : Counted (uses K k p j) (most_weight * length (numbers K k p (suc j))) (length (cells_at K j)) (get_or (numbers K k p j) q 0) = every-at _ (numbers K k p j) (N-used K k p j h) q l in
      omega (arith, renumbered-popularity r j h q l, u.some)

-- ---- lists as they should be keep the rules

-- no two match
apart_ok_lem : (G : List (List Cell)) (j : ℕ) → Inv G j → T (apart_ok G j)
unfolding apart_ok
apart_ok_lem G j inv =
    all-T (length (cells_at G j)) _ (λ q hq. all-T q _ (λ r hr. all-T 8 (λ t. not (matches G j (cell_at G j q) (cell_at G j r) t)) (λ t ht.
    not_T (matches G j (cell_at G j q) (cell_at G j r) t)
    (λ w. absurd (omega (arith, inv.apart q r t hq (omega arith) ht (match-sound G j (cell_at G j q) (cell_at G j r) t ht w)))))))

-- tags are lowest
tag_low_lem : (G : List (List Cell)) (j p : ℕ) → LowTag G j p → T (tag_low G j (tag_of p) (cell_no p))
tag_low_lem G j p low =
    let c : Cell = cell_at G j (cell_no p) in
    all-T (tag_of p) _ (λ u hu. not_T (matches G j c c (bit_xor u (tag_of p))) (λ w.
    low u hu (match-sound G j c c (bit_xor u (tag_of p)) (xor8-lt u (tag_of p) (omega (arith, tag-lt p)) (tag-lt p)) w)))

named-low : (G : List (List Cell)) (j p : ℕ) → LowTag G j p → T (pointer_low G j p)
unfolding pointer_low
named-low G j p low = go (eqb p 0)
  where
    go : (b : Bool) → T (cond b true (tag_low G j (tag_of p) (cell_no p)))
    go true = tt
    go false = tag_low_lem G j p low

tags_ok_lem : (G : List (List Cell)) (j : ℕ) → Inv G (suc j) → T (tags_ok G j)
unfolding tags_ok
tags_ok_lem G j inv =
    all-T (length (cells_at G (suc j))) _ (λ n hn. all-T 8 (λ i. pointer_low G j (get_or (cell_at G (suc j) n) i 0)) (λ i hi.
    named-low G j (get_or (cell_at G (suc j) n) i 0) ((inv.shape n hn).1 i hi)))

module _ (K : List (List Cell)) (s : Packable K) (k p : ℕ) (hp : Names (length (cells_at K k)) p) where
  abbrev N : ℕ → List ℕ
  N = numbers K k p

  abbrev kept : ℕ → ℕ → Cell
  kept = kept_at K k p

  abbrev used : ℕ → ℕ → ℕ
  used = uses K k p

  abbrev G : List (List Cell)
  G = scene_graph K k p

  -- ---- the graph's cells are the store's renumbered

  pub graph-renumbered : Renumbered K G N k
  graph-renumbered = pointing-renumbered K k p (omega arith) (λ j h. s.few j) (all-pointing K s k p hp)

  pub graph-length : (j : ℕ) → j ≤ k → length (cells_at G j) ≡ length (N j)
  graph-length = renumbered-length graph-renumbered

  pub graph-leaf : (n : ℕ) → n < length (N 0) → cell_at G 0 n ≡ kept 0 n
  graph-leaf = renumbered-cell graph-renumbered 0 (omega arith)

  pub graph-pointer : (j : ℕ) → j < k → (n : ℕ) → n < length (N (suc j)) → (i : ℕ) → get_or (cell_at G (suc j) n) i 0 ≡ renumber (N j) (get_or (kept (suc j) n) i 0)
  graph-pointer = renumbered-pointer graph-renumbered

  pub graph-voxels : (j : ℕ) → j ≤ k → (n : ℕ) (v : Point) → n < length (N j) → cell_voxel G j (cell_at G j n) v ≡ cell_voxel K j (kept j n) v
  graph-voxels j h n v m = renumbered-voxels graph-renumbered j h n m v

  graph-inv : (j : ℕ) → j ≤ k → Inv G j
  graph-inv j h = renumbered-inv graph-renumbered j h (s.invs j)

  -- ---- the rules of the order

  -- as many pointers name it as named the kept cell
  graph-popularity : (j : ℕ) → j < k → (q : ℕ) → q < length (N j) → popularity (cells_at G (suc j)) q ≡ used j (get_or (N j) q 0)
  graph-popularity = renumbered-popularity graph-renumbered

  -- every record below the top is named
  named_ok_lem : (j : ℕ) → j < k → T (named_ok G j)
  unfolding named_ok
  named_ok_lem j h =
      all-T (length (cells_at G j)) _ (λ q hq.
      true-T (lt-ltb 0 (popularity (cells_at G (suc j)) q) (renumbered-named K k p graph-renumbered j h q (omega (arith, graph-length j (omega arith))))))

  -- along each list that number never rises
  falling_ok_lem : (j : ℕ) → j < k → T (falling_ok G j)
  unfolding falling_ok
  falling_ok_lem j h =
      all-T (length (cells_at G j) - 1) _ (λ q hq.
      let l : suc q < length (N j) = omega (arith, graph-length j (omega arith)) in
      let b : Before (used j) (get_or (N j) q 0) (get_or (N j) (suc q) 0) = pairs-at (Before (used j)) (N j) (N-falls K k p j h) q (suc q) (omega arith) l in
      true-T (le-leb (popularity (cells_at G (suc j)) (suc q)) (popularity (cells_at G (suc j)) q)
      (omega (arith, graph-popularity j h q (omega arith), graph-popularity j h (suc q) l, before-le (used j) (get_or (N j) q 0) (get_or (N j) (suc q) 0) b))))

  -- ---- all of them

  -- the root's cell is number 0 of the top list
  root-listed : Listed (N k) p
  root-listed = record { some = names-ne hp; at = is_in-at (cell_no p) (N k) (rw (N-top K k p) (in_head (cell_no p) [])) }

  root_ok : LowTag K k p → T (tag_low G k (tag_of p) 0)
  root_ok low =
      let few : length (N k) ≤ most_capacity = N-few K s k p hp k (omega arith) in
      let first : index_in (cell_no p) (N k) ≡ 0 = omega (arith, root-listed.at.inside, ap length (N-top K k p)) in
      subst₂ (λ (t n : ℕ). T (tag_low G k t n)) (listed-tag (N k) few p root-listed) (listed-cell (N k) few p root-listed ∙ first)
      (tag_low_lem G k (renumber (N k) p) (pointer_low_lem graph-renumbered k (omega arith) p (inr root-listed) low))

  pub graph_ok_lem : LowTag K k p → T (graph_ok k (tag_of p) G)
  unfolding graph_ok
  graph_ok_lem low =
      rw (
        T_true {b = all_below k (named_ok G)} (all-T k (named_ok G) named_ok_lem),
        T_true {b = all_below (suc k) (apart_ok G)} (all-T (suc k) (apart_ok G) (λ j h. apart_ok_lem G j (graph-inv j (omega arith)))),
        T_true {b = all_below k (tags_ok G)} (all-T k (tags_ok G) (λ j h. tags_ok_lem G j (graph-inv (suc j) h))),
        T_true {b = tag_low G k (tag_of p) 0} (root_ok low),
      ) (all-T k (falling_ok G) falling_ok_lem)
