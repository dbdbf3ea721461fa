-- Solid counts: where every list's counts are the sums of the counts below, each is the number of its cell's solid voxels; what is summed over a cell's
-- children depends on the cells that it names only; and no cell has more than its cube. By induction on the height. Assumes nothing.
use mathlib.Core.Path.{◌≡◌, refl, ◌∙◌, ap, subst}
use mathlib.Core.Bool.{Bool, true, false, cond, not, ◌&&◌}
use mathlib.Core.List.{List, []}
use Prim.Native.Nat.{ℕ, zero, suc, ◌*◌, ◌^◌, ◌<◌, ◌≤◌, zero-le}
use native.Mathlib.Nat.{le_refl, le_of_suc-le-suc, pow-succ'}
use native.Mathlib.Omega.{arith}
use borrow.Author.Tests.{eqb-false}
use lib.Dec.{T, eqb, eqb→eq}
use lib.ListN.{length, get_or}
use Rattle.paper.specs.Numbers.{all_below, bit}
use Rattle.paper.specs.Store.{Cell, cells_at, cell_at, leaf_no, cell_no, bad_pointer, any_bad, most_scenes, heights, kept_count, kept_of, leaf_solid, over_children, solid_of, count_of, header_ok, place_ok, cell_usable, list_usable, counts_ok, chains_ok, list_blank, store_ok}
use Rattle.laws.proofs.Tests.{not-false, and_left, and_right, and5, all-at, none-at}
use Rattle.laws.proofs.Lists.{all_in-in}
use Rattle.laws.proofs.Bits.{bit-lt}
use Rattle.laws.proofs.Sums.{sum_same, sum-most}
use Rattle.laws.proofs.Invariant.{named-kept}
use Rattle.laws.proofs.Kept.{kept-length}

-- ---- over a cell's children

-- what is said of the children that a cell has decides the sum
pub over-each : (f g : ℕ → ℕ) (c d : Cell) → ((i : ℕ) → i < 8 → get_or c i 0 ≡ get_or d i 0)
    → ((i : ℕ) → i < 8 → (get_or d i 0 ≡ 0 → ⊥) → f (cell_no (get_or d i 0)) ≡ g (cell_no (get_or d i 0)))
    → over_children f c ≡ over_children g d
unfolding over_children
over-each f g c d same e =
    sum_same 8 (λ i. cond (eqb (get_or c i 0) 0) 0 (f (cell_no (get_or c i 0)))) (λ i. cond (eqb (get_or d i 0) 0) 0 (g (cell_no (get_or d i 0))))
    (λ i h. ap (λ (p : ℕ). cond (eqb p 0) 0 (f (cell_no p))) (same i h) ∙ go i h (eqb (get_or d i 0) 0) refl)
  where
    go : (i : ℕ) → i < 8 → (b : Bool) → eqb (get_or d i 0) 0 ≡ b → cond b 0 (f (cell_no (get_or d i 0))) ≡ cond b 0 (g (cell_no (get_or d i 0)))
    go i h true q = refl
    go i h false q = e i h (eqb-false (get_or d i 0) 0 q)

-- no pointer is bad, n cells being kept one height down, and the same is said of these
pub over-same : (f g : ℕ → ℕ) (n : ℕ) (c : Cell) → any_bad n c ≡ false → ((q : ℕ) → q < n → f q ≡ g q) → over_children f c ≡ over_children g c
over-same f g n c ok e =
    over-each f g c c (λ i h. refl)
    (λ i h z. e (cell_no (get_or c i 0)) (named-kept n (get_or c i 0) (none-at 8 (λ j. bad_pointer n (get_or c j 0)) ok i h) z))

-- at most b for each child
pub over-most : (f : ℕ → ℕ) (b : ℕ) (c : Cell) → ((q : ℕ) → f q ≤ b) → over_children f c ≤ 8 * b
unfolding over_children
over-most f b c h =
    sum-most 8 b (λ i. cond (eqb (get_or c i 0) 0) 0 (f (cell_no (get_or c i 0)))) (λ i l. go (eqb (get_or c i 0) 0) (f (cell_no (get_or c i 0))) (h (cell_no (get_or c i 0))))
  where
    go : (t : Bool) (m : ℕ) → m ≤ b → cond t 0 m ≤ b
    go true m l = zero-le
    go false m l = l

-- ---- at most the voxels of the cube

pub leaf-most : (n : ℕ) → leaf_solid n ≤ 64
leaf-most n = sum-most 64 1 (bit n) (λ i l. le_of_suc-le-suc (bit-lt n i))

pub solid-most : (K : List (List Cell)) (k : ℕ) (c : Cell) → solid_of K k c ≤ 8 ^ suc (suc k)
unfolding solid_of
solid-most K zero c = leaf-most (leaf_no c)
solid-most K (suc k) c =
    rw (pow-succ' 8 (suc (suc k))) (over-most (λ n. solid_of K k (cell_at K k n)) (8 ^ suc (suc k)) c (λ q. solid-most K k (cell_at K k q)))

-- ---- what the words say

-- a kept cell with a pointer that is bad does not stand in a list that is usable
pub usable-sound : (K : List (List Cell)) (k n : ℕ) → T (list_usable K (suc k)) → n < length (cells_at K (suc k)) → any_bad (length (cells_at K k)) (cell_at K (suc k) n) ≡ false
unfolding list_usable cell_usable
usable-sound K k n t h =
    let m : ℕ = length (cells_at K k) in
    let c : Cell = cell_at K (suc k) n in
    not-false (any_bad m c) (and_right (not (all_below 8 (λ i. eqb (get_or c i 0) 0))) (not (any_bad m c)) (all_in-in (cell_usable m) [] (cells_at K (suc k)) t n h))

count-tested : (ws : List ℕ) (k n : ℕ) → T (counts_ok ws (suc k)) → n < kept_count ws (suc k) → count_of ws (suc k) n ≡ over_children (count_of ws k) (cell_at (kept_of ws) (suc k) n)
unfolding counts_ok
count-tested ws k n t h =
    eqb→eq (count_of ws (suc k) n) (over_children (count_of ws k) (cell_at (kept_of ws) (suc k) n))
    (all-at (kept_count ws (suc k)) (λ m. eqb (count_of ws (suc k) m) (over_children (count_of ws k) (cell_at (kept_of ws) (suc k) m))) t n h)

-- the counts of list k, where those of the lists up to it have been tested
pub counts-below : (ws : List ℕ) → T (all_below heights (list_usable (kept_of ws))) → (k : ℕ) → k < heights → ((j : ℕ) → j ≤ k → T (counts_ok ws j))
    → (n : ℕ) → n < kept_count ws k → count_of ws k n ≡ solid_of (kept_of ws) k (cell_at (kept_of ws) k n)
unfolding count_of solid_of
counts-below ws u zero hk t n h = refl
counts-below ws u (suc k) hk t n h =
    let K : List (List Cell) = kept_of ws in
    let hk' : k < heights = omega arith in
    let there : n < length (cells_at K (suc k)) = rw (kept-length ws (suc k) hk) h in
    let sound : any_bad (kept_count ws k) (cell_at K (suc k) n) ≡ false =
    subst (λ (m : ℕ). any_bad m (cell_at K (suc k) n) ≡ false) (kept-length ws k hk') (usable-sound K k n (all-at heights (list_usable K) u (suc k) hk) there) in
    count-tested ws k n (t (suc k) (le_refl (suc k))) h
    ∙ over-same (count_of ws k) (λ q. solid_of K k (cell_at K k q)) (kept_count ws k) (cell_at K (suc k) n) sound
    (counts-below ws u k hk' (λ j l. t j (omega arith)))

-- on an undamaged store each count is the number of its cell's solid voxels
pub counts-true : (ws : List ℕ) → T (store_ok ws) → (k n : ℕ) → k < heights → n < kept_count ws k → count_of ws k n ≡ solid_of (kept_of ws) k (cell_at (kept_of ws) k n)
unfolding store_ok
counts-true ws t k n hk h =
    let L : Bool = header_ok ws && all_below most_scenes (place_ok ws) && all_below heights (list_usable (kept_of ws)) && all_below heights (list_blank ws) && all_below heights (counts_ok ws) in
    let s = and5 (header_ok ws) (all_below most_scenes (place_ok ws)) (all_below heights (list_usable (kept_of ws))) (all_below heights (list_blank ws)) (all_below heights (counts_ok ws))
    (and_left L (chains_ok ws) t) in
    counts-below ws s.2 k hk (λ j l. all-at heights (counts_ok ws) s.4 j (omega arith)) n h
