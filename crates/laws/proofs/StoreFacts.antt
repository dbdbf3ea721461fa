-- What an undamaged store says of its parts: header, scenes and lists are in order, a kept leaf has a bit, a kept cell a child, and every pointer
-- that is there names a kept cell. By taking the test's parts one after the other. Assumes nothing.
use mathlib.Core.Path.{◌≡◌, refl, sym, subst}
use mathlib.Core.Bool.{Bool, true, false, not, false≢true}
use mathlib.Core.List.{List, []}
use Prim.Native.Nat.{ℕ, zero, suc, ◌-◌, ◌^◌, ◌<◌, ◌≤◌}
use native.Mathlib.Omega.{arith}
use borrow.Author.Tests.{eqb-false}
use lib.Dec.{T, eqb, leb, lit<, leb→le, ltb→lt}
use lib.ListN.{length, get_or}
use Rattle.paper.specs.Numbers.{both, all_below}
use Rattle.paper.specs.Rooms.{depth_ok, least, deepest}
use Rattle.paper.specs.Store.{Cell, heights, is_held, kept_count, kept_of, cells_at, cell_at, cell_no, leaf_no, bad_pointer, any_bad, scene_depth, scene_root, scene_ok, leaf_usable, cell_usable, list_usable, store_ok}
use Rattle.laws.proofs.Tests.{not-false, and_left, and_right, none-at}
use Rattle.laws.proofs.Kept.{kept-length}
use Rattle.laws.proofs.Undamaged.{undamaged, held-sound}
use Rattle.laws.proofs.Invariant.{named-kept}
use Rattle.laws.proofs.Lists.{all_in-in}

-- words are below 2^32
abbrev pub Words : List ℕ → Type 0
Words ws = (i : ℕ) → get_or ws i 0 < 2 ^ 32

-- ---- tests

-- a test that fails at some number below n
all-fails-at : (n : ℕ) (p : ℕ → Bool) → all_below n p ≡ false → (i : ℕ) × (i < n) × (p i ≡ false)
all-fails-at zero p e = absurd (false≢true (sym e))
all-fails-at (suc n) p e = go (p n) refl e (all-fails-at n p)
  where
    go : (b : Bool) → p n ≡ b → both b (all_below n p) ≡ false → (all_below n p ≡ false → (i : ℕ) × (i < n) × (p i ≡ false)) → (i : ℕ) × (i < suc n) × (p i ≡ false)
    go true q r ih = let w : (i : ℕ) × (i < n) × (p i ≡ false) = ih r in (w.0, omega (arith, w.1), w.2)
    go false q r ih = (n, omega arith, q)

-- ---- depths and pointers

pub depth-range : (D : ℕ) → T (depth_ok D) → (least ≤ D) × (D ≤ deepest)
depth-range D d = (leb→le least D (and_left (leb least D) (leb D deepest) d), leb→le D deepest (and_right (leb least D) (leb D deepest) d))

-- a pointer that is there and not bad names a kept cell
pub names-kept : (n p : ℕ) → bad_pointer n p ≡ false → eqb p 0 ≡ false → cell_no p < n
names-kept n p b e = named-kept n p b (eqb-false p 0 e)

pub cell-names : (n : ℕ) (c : Cell) → any_bad n c ≡ false → (i : ℕ) → i < 8 → eqb (get_or c i 0) 0 ≡ false → cell_no (get_or c i 0) < n
cell-names n c b i h = names-kept n (get_or c i 0) (none-at 8 (λ j. bad_pointer n (get_or c j 0)) b i h)

-- ---- an undamaged store

module _ (ws : List ℕ) (ok : T (store_ok ws)) where
  -- a scene held has a depth and a root that is not bad
  pub scene_sound_lem : (n : ℕ) → T (is_held ws n) → T (depth_ok (scene_depth ws n)) × (bad_pointer (kept_count ws (scene_depth ws n - 2)) (scene_root ws n) ≡ false)
  unfolding scene_ok
  scene_sound_lem n h =
      let D : ℕ = scene_depth ws n in
      let b : Bool = bad_pointer (kept_count ws (D - 2)) (scene_root ws n) in
      (and_left (depth_ok D) (not b) (held-sound (undamaged ws ok) n h), not-false b (and_right (depth_ok D) (not b) (held-sound (undamaged ws ok) n h)))

  -- a kept leaf is not 0; a kept cell has a child, and no bad pointer
  pub leaf-not-zero : (n : ℕ) → n < kept_count ws 0 → 0 < leaf_no (cell_at (kept_of ws) 0 n)
  unfolding list_usable leaf_usable
  leaf-not-zero n h =
      let K : List (List Cell) = kept_of ws in
      ltb→lt 0 (leaf_no (cell_at K 0 n)) (all_in-in leaf_usable [] (cells_at K 0) ((undamaged ws ok).usable 0 (lit< tt)) n (rw (kept-length ws 0 (lit< tt)) h))

  module _ (k n : ℕ) (hk : suc k < heights) (hn : n < kept_count ws (suc k)) where
    abbrev cell : Cell
    cell = cell_at (kept_of ws) (suc k) n

    cell_usable_lem : T (cell_usable (kept_count ws k) (cell_at (kept_of ws) (suc k) n))
    unfolding list_usable
    cell_usable_lem =
        let K : List (List Cell) = kept_of ws in
        subst (λ (m : ℕ). T (cell_usable m (cell_at K (suc k) n))) (kept-length ws k (omega arith))
        (all_in-in (cell_usable (length (cells_at K k))) [] (cells_at K (suc k)) ((undamaged ws ok).usable (suc k) hk) n (rw (kept-length ws (suc k) hk) hn))

    pub cell-sound : any_bad (kept_count ws k) (cell_at (kept_of ws) (suc k) n) ≡ false
    unfolding cell_usable
    cell-sound = not-false _ (and_right (not (all_below 8 (λ i. eqb (get_or cell i 0) 0))) (not (any_bad (kept_count ws k) cell)) cell_usable_lem)

    pub some-pointer : (i : ℕ) × (i < 8) × (eqb (get_or (cell_at (kept_of ws) (suc k) n) i 0) 0 ≡ false)
    unfolding cell_usable
    some-pointer =
        all-fails-at 8 (λ i. eqb (get_or cell i 0) 0)
        (not-false _ (and_left (not (all_below 8 (λ i. eqb (get_or cell i 0) 0))) (not (any_bad (kept_count ws k) cell)) cell_usable_lem))
