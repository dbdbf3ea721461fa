-- The number that two or four bytes of a list write is their sum, each times its power of 256; eight bytes write two such numbers.
-- By taking one byte after another off the list. Assumes nothing.
use mathlib.Core.Path.{◌≡◌, ap, ◌∙◌}
use mathlib.Core.List.{List, ◌∷◌}
use Prim.Native.Nat.{ℕ, suc, ◌+◌, ◌*◌, ◌<◌, ◌≤◌}
use native.Mathlib.Numerals.{add-one}
use native.Mathlib.Omega.{arith}
use lib.ListN.{length, take, drop, get_or}
use lib.Seq.{drop-cons}
use Rattle.paper.specs.Numbers.{be, num}

-- four bytes of s from a position on, each times its power of 256
abbrev sum4 : List ℕ → ℕ → ℕ
sum4 s at = get_or s at 0 * 16777216 + get_or s (at + 1) 0 * 65536 + get_or s (at + 2) 0 * 256 + get_or s (at + 3) 0

module _ (s : List ℕ) where
  -- a byte joins the number read before it
  byte-joins : (n a at next : ℕ) → at < length s → next ≡ suc at → be a (take (suc n) (drop at s)) ≡ be (a * 256 + get_or s at 0) (take n (drop next s))
  unfolding be
  byte-joins n a at next h e = rw (e, drop-cons s at 0 h)

  four-join : (n a at : ℕ) → at + 4 ≤ length s → be a (take (suc (suc (suc (suc n)))) (drop at s)) ≡ be (a * 4294967296 + sum4 s at) (take n (drop (at + 4) s))
  four-join n a at h =
      byte-joins (suc (suc (suc n))) a at (at + 1) (omega arith) (omega arith)
      ∙ byte-joins (suc (suc n)) (a * 256 + get_or s at 0) (at + 1) (at + 2) (omega arith) (omega arith)
      ∙ byte-joins (suc n) ((a * 256 + get_or s at 0) * 256 + get_or s (at + 1) 0) (at + 2) (at + 3) (omega arith) (omega arith)
      ∙ byte-joins n (((a * 256 + get_or s at 0) * 256 + get_or s (at + 1) 0) * 256 + get_or s (at + 2) 0) (at + 3) (at + 4) (omega arith) (omega arith)
      ∙ ap (λ (b : ℕ). be b (take n (drop (at + 4) s))) (omega arith)

  pub four_bytes : (at : ℕ) → at + 4 ≤ length s → num 4 (drop at s) ≡ sum4 s at
  unfolding be
  four_bytes at h = four-join 0 0 at h ∙ omega arith

  pub eight-bytes : (at : ℕ) → at + 8 ≤ length s → num 8 (drop at s) ≡ num 4 (drop at s) * 4294967296 + num 4 (drop (at + 4) s)
  unfolding be
  eight-bytes at h =
      let e : num 8 (drop at s) ≡ sum4 s at * 4294967296 + sum4 s (at + 4) = four-join 4 0 at (omega arith) ∙ four-join 0 (0 * 4294967296 + sum4 s at) (at + 4) (omega arith) ∙ omega arith in
      rw (four_bytes at (omega arith), four_bytes (at + 4) (omega arith)) e

-- two bytes
pub num-two : (s : List ℕ) (at : ℕ) → at + 2 ≤ length s → num 2 (drop at s) ≡ get_or s at 0 * 256 + get_or s (at + 1) 0
unfolding be
num-two s at h =
    let a : drop at s ≡ get_or s at 0 ∷ drop (suc at) s = drop-cons s at 0 (omega arith) in
    let b : drop (suc at) s ≡ get_or s (suc at) 0 ∷ drop (suc (suc at)) s = drop-cons s (suc at) 0 (omega arith) in
    rw (a, b, add-one at) (omega arith)
