-- What std reads from two, four or eight bytes, the highest first, is the number that they write. By the sums of Sums. Assumes nothing.
use Rattle.std.proofs.Common.{◌≡◌, ap, ◌∙◌, List, ℕ, ◌+◌, ◌*◌, ◌≤◌, length, take, drop, get_or, arith}
use Rattle.std.proofs.lemmas.List.{length-take-le, take_all, length-drop}
use Rattle.std.specs.Int.{w16, w32, w64, from_be_bytes}
use Rattle.paper.specs.Numbers.{be, num}
use Rattle.numbers.proofs.Sums.{num-two, four_bytes, eight-bytes}

-- a list of n numbers is all that its first n are
whole : (n : ℕ) (x : List ℕ) → length x ≡ n → num n (drop 0 x) ≡ be 0 x
whole n x h = ap (be 0) (take_all n x (omega arith))

two-read : (x : List ℕ) → length x ≡ 2 → from_be_bytes w16 x ≡ be 0 x
two-read x h =
    let e : num 2 (drop 0 x) ≡ get_or x 0 0 * 256 + get_or x (0 + 1) 0 = num-two x 0 (omega arith) in
    omega (arith, e, whole 2 x h)

four-read : (x : List ℕ) → length x ≡ 4 → from_be_bytes w32 x ≡ be 0 x
four-read x h = omega (arith, four_bytes x 0 (omega arith), whole 4 x h)

eight-read : (x : List ℕ) → length x ≡ 8 → from_be_bytes w64 x ≡ be 0 x
eight-read x h =
    omega (arith, eight-bytes x 0 (omega arith), four_bytes x 0 (omega arith), four_bytes x 4 (omega arith), whole 8 x h)

module _ (s : List ℕ) (at : ℕ) where
  taken : (n : ℕ) → at + n ≤ length s → length (take n (drop at s)) ≡ n
  taken n h = length-take-le n (drop at s) (simp length-drop (omega arith))

  pub read-two : (x : List ℕ) (r : ℕ) → at + 2 ≤ length s → r ≡ from_be_bytes w16 x → x ≡ take 2 (drop at s) → r ≡ num 2 (drop at s)
  read-two x r h e q = e ∙ ap (from_be_bytes w16) q ∙ two-read (take 2 (drop at s)) (taken 2 h)

  pub read-four : (x : List ℕ) (r : ℕ) → at + 4 ≤ length s → r ≡ from_be_bytes w32 x → x ≡ take 4 (drop at s) → r ≡ num 4 (drop at s)
  read-four x r h e q = e ∙ ap (from_be_bytes w32) q ∙ four-read (take 4 (drop at s)) (taken 4 h)

  pub read-eight : (x : List ℕ) (r : ℕ) → at + 8 ≤ length s → r ≡ from_be_bytes w64 x → x ≡ take 8 (drop at s) → r ≡ num 8 (drop at s)
  read-eight x r h e q = e ∙ ap (from_be_bytes w64) q ∙ eight-read (take 8 (drop at s)) (taken 8 h)
