-- A number of 64 bits has at most twenty decimal digits: the twenty-first would stand for more. Assumes nothing.
use Rattle.std.proofs.Common.{◌≡◌, ℕ, ◌-◌, ◌^◌, ◌<◌, ◌≤◌, ltb, refl, arith, ltb→lt, nltb→le}
use native.Mathlib.Nat.{pow-le-pow_right}
use lib.Dec.{not_T}
use Rattle.io.specs.Digits.{IsDigitCount}

pub few : (n k : ℕ) → n < 18446744073709551616 → IsDigitCount 10 1 n k → k ≤ 20
few n k small fewest =
    nltb→le
    20
    k
    (
    not_T
    (ltb 20 k)
    (
    λ t.
    let more : 20 < k = ltb→lt 20 k t in
    let e : 10 ^ 20 ≡ 100000000000000000000 = refl in
    let p : 10 ^ 20 ≤ 10 ^ (k - 1) = pow-le-pow_right {n = 10} (omega arith) {i = 20} {j = k - 1} (omega arith) in
    let q : 10 ^ (k - 1) ≤ n = fewest.2 (omega arith) in
    omega arith
    )
    )
