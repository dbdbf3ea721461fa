-- The ones of a number below 2^64 are its 64 bits, summed. By the lowest bits one by one and the ones above them. Assumes nothing.
use mathlib.Core.Path.{◌≡◌, sym, ap, ◌∙◌}
use Prim.Native.Nat.{ℕ, zero, suc, ◌+◌, ◌/◌, ◌^◌, ◌<◌}
use native.Mathlib.Nat.{add-zero, zero-add, add_assoc, mul_comm, div-one, div-div-eq-div-mul, div-eq_of_lt, pow-succ'}
use lib.Count.{ones, ones_step}
use Rattle.paper.specs.Numbers.{sum, bit}

-- the lowest n bits one by one, and the ones above them
bits-ones : (n x : ℕ) → ones x ≡ sum n (bit x) + ones (x / 2 ^ n)
unfolding sum
bits-ones zero x = ap ones (sym (div-one x)) ∙ sym (zero-add (ones (x / 2 ^ 0)))
bits-ones (suc n) x =
    let half : x / 2 ^ n / 2 ≡ x / 2 ^ suc n = div-div-eq-div-mul x (2 ^ n) 2 ∙ ap (λ (m : ℕ). x / m) (mul_comm (2 ^ n) 2 ∙ sym (pow-succ' 2 n)) in
    bits-ones n x
    ∙ ap (λ (m : ℕ). sum n (bit x) + m) (ones_step (x / 2 ^ n) ∙ ap (λ (m : ℕ). bit x n + ones m) half)
    ∙ sym (add_assoc (sum n (bit x)) (bit x n) (ones (x / 2 ^ suc n)))

pub all_ones : (x : ℕ) → x < 2 ^ 64 → ones x ≡ sum 64 (bit x)
unfolding ones
all_ones x h = bits-ones 64 x ∙ ap (λ (m : ℕ). sum 64 (bit x) + ones m) (div-eq_of_lt h) ∙ add-zero (sum 64 (bit x))
