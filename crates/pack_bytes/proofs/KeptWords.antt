-- A kept cell's words: a leaf has two, any other cell eight; and a leaf's two words written one behind the other are the eight bytes of its
-- number. By the place of the cell, and by division. Assumes nothing.
use mathlib.Core.Path.{◌≡◌, sym, ap, ◌∙◌}
use mathlib.Core.List.{List, [], ◌∷◌, ◌++◌}
use Prim.Native.Nat.{ℕ, suc, ◌+◌, ◌-◌, ◌*◌, ◌/◌, ◌%◌, ◌^◌, ◌<◌, ◌≤◌}
use native.Mathlib.Nat.{div-div-eq-div-mul}
use native.Mathlib.Omega.{arith}
use lib.Dec.{T, lit<}
use lib.ListN.{length, get_or, drop, length-drop}
use lib.Seq.{length-take-le}
use Rattle.paper.specs.Numbers.{bytes, flatten}
use Rattle.paper.specs.Store.{Cell, heights, used, capacity_of, kept_count, stride, cell_position, kept_of, cell_at, leaf_no, header_ok}
use Rattle.paper.specs.Pack.{leaf_bytes}
use Rattle.laws.proofs.Kept.{kept-cell}
use Rattle.laws.proofs.Places.{kept_word}
use Rattle.laws.proofs.Undamaged.{fine-header, FineHeader}
use Rattle.store.proofs.Positions.{cells_fit}

module _ (ws : List ℕ) (ok : T (header_ok ws)) where
  pub leaf-two : (q : ℕ) → q < kept_count ws 0 → length (cell_at (kept_of ws) 0 q) ≡ 2
  leaf-two q h =
      let a : ℕ = cell_position (capacity_of ws) 0 q in
      let r : FineHeader ws = fine-header ws ok in
      let few : kept_count ws 0 ≤ capacity_of ws = r.few 0 (lit< tt) in
      ap length (kept-cell ws 0 q (lit< tt) h) ∙ length-take-le 2 (drop a ws) (rw (length-drop a ws) (omega (arith, r.long)))

  pub cell-eight : (k q : ℕ) → suc k < heights → q < kept_count ws (suc k) → length (cell_at (kept_of ws) (suc k) q) ≡ 8
  cell-eight k q hk h =
      let a : ℕ = cell_position (capacity_of ws) (suc k) q in
      let r : FineHeader ws = fine-header ws ok in
      let few : kept_count ws (suc k) ≤ capacity_of ws = r.few (suc k) hk in
      let room : a + stride 1 * (capacity_of ws - q) ≤ used (capacity_of ws) = cells_fit (capacity_of ws) (suc k) q (λ e. omega arith) hk (omega arith) in
      ap length (kept-cell ws (suc k) q hk h) ∙ length-take-le 8 (drop a ws) (rw (length-drop a ws) (omega (arith, r.long)))

-- ---- a leaf's bytes

module _ (h l : ℕ) (low : l < 4294967296) where
  abbrev v : ℕ
  v = h * 4294967296 + l

  upper : v / 4294967296 ≡ h
  upper = omega arith

  high : (b : ℕ) → v / (4294967296 * b) % 256 ≡ h / b % 256
  high b = ap (λ (x : ℕ). x % 256) (sym (div-div-eq-div-mul v 4294967296 b) ∙ ap (λ (x : ℕ). x / b) upper)

  low3 : v / 16777216 % 256 ≡ l / 16777216 % 256
  low3 = omega arith

  low2 : v / 65536 % 256 ≡ l / 65536 % 256
  low2 = omega arith

  low1 : v / 256 % 256 ≡ l / 256 % 256
  low1 = omega arith

  low0 : v / 1 % 256 ≡ l / 1 % 256
  low0 = omega arith

  pub eight-bytes : bytes 8 (h * 2 ^ 32 + l) ≡ bytes 4 h ++ (bytes 4 l ++ [])
  unfolding bytes
  eight-bytes = λ i.
      high 16777216 i ∷ high 65536 i ∷ high 256 i ∷ high 1 i ∷ low3 i ∷ low2 i ∷ low1 i ∷ low0 i ∷ []

leaf-shape : (c : Cell) → length c ≡ 2 → get_or c 1 0 < 2 ^ 32 → bytes 8 (leaf_no c) ≡ leaf_bytes c
unfolding leaf_bytes flatten
leaf-shape [] e h = absurd (omega (arith, e))
leaf-shape (a ∷ []) e h = absurd (omega (arith, e))
leaf-shape (a ∷ b ∷ []) e h = eight-bytes a b h
leaf-shape (a ∷ b ∷ d ∷ c) e h = absurd (omega (arith, e))

pub leaf_bytes_lem : (ws : List ℕ) → T (header_ok ws) → ((i : ℕ) → get_or ws i 0 < 2 ^ 32) → (q : ℕ) → q < kept_count ws 0
    → leaf_bytes (cell_at (kept_of ws) 0 q) ≡ bytes 8 (leaf_no (cell_at (kept_of ws) 0 q))
leaf_bytes_lem ws ok words q h =
    let small : get_or (cell_at (kept_of ws) 0 q) 1 0 < 2 ^ 32 = rw (kept_word ws 0 q 1 (lit< tt) h (lit< tt)) (words (cell_position (capacity_of ws) 0 q + 1)) in
    sym (leaf-shape (cell_at (kept_of ws) 0 q) (leaf-two ws ok q h) small)
