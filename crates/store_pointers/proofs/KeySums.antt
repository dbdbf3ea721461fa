-- A key as it is added up, in the code's words: one number more, and after eight the cell's key.
-- By what a sum modulo 2^32 keeps. Assumes nothing.
use Rattle.std.proofs.Common.{◌≡◌, ℕ, ◌+◌, ◌*◌, ◌%◌, ◌^◌, ◌≤◌, get_or, sym, refl, ap, ◌∙◌, ap₂, le_antisymm, arith}
use Rattle.paper.specs.Numbers.{sum}
use Rattle.paper.specs.Store.{Cell, low_of, key_factor, key_of}
use Rattle.laws.proofs.Sums.{sum-next}

-- the key of the first i pointers
abbrev pub key_to : Cell → ℕ → ℕ
key_to c i = sum i (λ j. low_of (get_or c j 0) * key_factor) % 2 ^ 32

sums_kept : (a b : ℕ) → (a % 2 ^ 32 + b % 2 ^ 32) % 2 ^ 32 ≡ (a + b) % 2 ^ 32
sums_kept a b = omega arith

pub key-none : (c : Cell) → 0 ≡ key_to c 0
unfolding sum
key-none c = refl

pub key_more : (c : Cell) (i key share r : ℕ) → key ≡ key_to c i → share ≡ low_of (get_or c i 0) * key_factor % 2 ^ 32 → r ≡ (key + share) % 2 ^ 32 → r ≡ key_to c (i + 1)
key_more c i key share r k s e =
    let f : ℕ → ℕ = λ j. low_of (get_or c j 0) * key_factor in
    e ∙ ap₂ (λ (a b : ℕ). (a + b) % 2 ^ 32) k s ∙ sums_kept (sum i f) (f i) ∙ ap (λ (n : ℕ). n % 2 ^ 32) (sym (sum-next i f))

pub key-whole : (c : Cell) (i key : ℕ) → key ≡ key_to c i → i ≤ 8 → 8 ≤ i → key ≡ key_of c
unfolding key_of
key-whole c i key e l h = e ∙ ap (key_to c) (le_antisymm l h)
