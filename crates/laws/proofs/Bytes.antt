-- Bytes and big-endian numbers: lists made of bytes are bytes, a number written is read back, and bytes read are written back.
-- By induction on the number of bytes. Assumes nothing.
use mathlib.Core.Path.{◌≡◌, refl, sym, ◌∙◌, ap, ap₂}
use mathlib.Core.List.{List, [], ◌∷◌, ◌++◌}
use Prim.Native.Nat.{ℕ, zero, suc, ◌+◌, ◌*◌, ◌/◌, ◌%◌, ◌^◌, ◌<◌}
use native.Mathlib.Nat.{zero-lt-suc, mul_assoc, mod-one, mod-lt, div-one, div-div-eq-div-mul, pow-suc, pow-succ', one-le-pow}
use native.Mathlib.Omega.{arith}
use lib.Arith.{mod-mul}
use lib.Dec.{lit<}
use lib.ListN.{length, take, drop}
use Rattle.paper.specs.Numbers.{bytes, be, flatten, tabulate}
use Rattle.paper.specs.Runs.{Bytes}

pub bytes-nil : Bytes []
bytes-nil i = lit< tt

pub bytes-cons : (x : ℕ) (l : List ℕ) → x < 256 → Bytes l → Bytes (x ∷ l)
bytes-cons x l hx h zero = hx
bytes-cons x l hx h (suc i) = h i

pub bytes-append : (a b : List ℕ) → Bytes a → Bytes b → Bytes (a ++ b)
bytes-append [] b ha hb i = hb i
bytes-append (x ∷ a) b ha hb zero = ha 0
bytes-append (x ∷ a) b ha hb (suc i) = bytes-append a b (λ j. ha (suc j)) hb i

pub bytes_take : (n : ℕ) (l : List ℕ) → Bytes l → Bytes (take n l)
bytes_take zero l h i = lit< tt
bytes_take (suc n) [] h i = lit< tt
bytes_take (suc n) (x ∷ l) h zero = h 0
bytes_take (suc n) (x ∷ l) h (suc i) = bytes_take n l (λ j. h (suc j)) i

pub bytes_drop : (n : ℕ) (l : List ℕ) → Bytes l → Bytes (drop n l)
bytes_drop zero l h = h
bytes_drop (suc n) [] h = bytes-nil
bytes_drop (suc n) (x ∷ l) h = bytes_drop n l (λ i. h (suc i))

pub bytes-flatten : (a n : ℕ) (f : ℕ → List ℕ) → ((i : ℕ) → Bytes (f i)) → Bytes (flatten (tabulate a n f))
unfolding flatten tabulate
bytes-flatten a zero f h = bytes-nil
bytes-flatten a (suc n) f h = bytes-append (f a) (flatten (tabulate (suc a) n f)) (h a) (bytes-flatten (suc a) n f h)

pub bytes_below : (n v : ℕ) → Bytes (bytes n v)
unfolding bytes
bytes_below zero v i = lit< tt
bytes_below (suc n) v zero = mod-lt (v / 256 ^ n) (lit< tt)
bytes_below (suc n) v (suc i) = bytes_below n v i

pub bytes-length : (n v : ℕ) → length (bytes n v) ≡ n
unfolding bytes
bytes-length zero v = refl
bytes-length (suc n) v = ap suc (bytes-length n v)

-- a number written is read back, and bytes read are written back
pub be-bytes : (n v a : ℕ) → be a (bytes n v) ≡ a * 256 ^ n + v % 256 ^ n
unfolding be bytes
be-bytes zero v a = omega (arith, mod-one v)
be-bytes (suc n) v a =
    let P : ℕ = 256 ^ n in
    let m : v % (256 * P) ≡ (v / P % 256) * P + v % P = mod-mul v (zero-lt-suc 255) (one-le-pow n 256 (zero-lt-suc 255)) in
    be-bytes n v (a * 256 + v / P % 256) ∙ rw (pow-succ' 256 n) (omega arith)

be-high : (bs : List ℕ) (a : ℕ) → Bytes bs → be a bs / 256 ^ length bs ≡ a
unfolding be
be-high [] a h = div-one a
be-high (b ∷ bs) a h =
    let low : (a * 256 + b) / 256 ≡ a = omega (arith, h 0) in
    ap (λ (p : ℕ). be (a * 256 + b) bs / p) (pow-suc 256 (length bs))
    ∙ sym (div-div-eq-div-mul (be (a * 256 + b) bs) (256 ^ length bs) 256)
    ∙ ap (λ (q : ℕ). q / 256) (be-high bs (a * 256 + b) (λ i. h (suc i))) ∙ low

pub bytes-be : (bs : List ℕ) (a : ℕ) → Bytes bs → bytes (length bs) (be a bs) ≡ bs
unfolding be bytes
bytes-be [] a h = refl
bytes-be (b ∷ bs) a h =
    let rest : Bytes bs = λ i. h (suc i) in
    let byte : (a * 256 + b) % 256 ≡ b = omega (arith, h 0) in
    ap₂ ◌∷◌ (ap (λ (q : ℕ). q % 256) (be-high bs (a * 256 + b) rest) ∙ byte) (bytes-be bs (a * 256 + b) rest)

pub be-lt : (bs : List ℕ) (n M : ℕ) → Bytes bs → n < M → be n bs < M * 256 ^ length bs
unfolding be
be-lt [] n M h l = omega arith
be-lt (b ∷ bs) n M h l =
    let r : be (n * 256 + b) bs < (M * 256) * 256 ^ length bs = be-lt bs (n * 256 + b) (M * 256) (λ i. h (suc i)) (omega (arith, h 0)) in
    rw (pow-succ' 256 (length bs), ← mul_assoc M 256 (256 ^ length bs)) r
