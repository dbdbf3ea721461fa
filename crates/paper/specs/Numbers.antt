-- Numbers and lists as the other files use them: tests over ranges and lists, sums, big-endian bytes. Definitions only.
use Rattle.std.specs.Prelude.{Bool, true, false, cond, List, [], ◌∷◌, ◌++◌, ℕ, zero, suc, ◌+◌, ◌*◌, ◌/◌, ◌%◌, ◌^◌, eqb, take}

-- a conjunction that stops at its first false
abbrev pub both : Bool → Bool → Bool
both true b = b
both false b = false

-- the test passes at each number below n
abbrev pub all_below : ℕ → (ℕ → Bool) → Bool
all_below zero p = true
all_below (suc n) p = let r = all_below n p in both (p n) r

-- the test passes at some number below n
abbrev pub any_below : ℕ → (ℕ → Bool) → Bool
any_below zero p = false
any_below (suc n) p = let r = any_below n p in cond (p n) true r

-- f 0 + f 1 + .. + f (n - 1)
unfoldable pub sum : ℕ → (ℕ → ℕ) → ℕ
sum zero f = 0
sum (suc n) f = sum n f + f n

-- the number 1 for true, 0 for false
abbrev pub bit_for : Bool → ℕ
bit_for true = 1
bit_for false = 0

-- bit k of a number
abbrev pub bit : ℕ → ℕ → ℕ
bit n k = n / 2 ^ k % 2

-- the number of n bits whose bit j is f (k + j)
unfoldable pub gather : ℕ → ℕ → (ℕ → ℕ) → ℕ
gather k zero f = 0
gather k (suc n) f = f k + 2 * gather (suc k) n f

-- n bytes of a number, high first ('big-endian')
unfoldable pub bytes : ℕ → ℕ → List ℕ
bytes zero v = []
bytes (suc n) v = v / 256 ^ n % 256 ∷ bytes n v

-- the number that bytes write, high first, after n
unfoldable pub be : ℕ → List ℕ → ℕ
be n [] = n
be n (b ∷ bs) = be (n * 256 + b) bs

-- the number that the first n bytes write
abbrev pub num : ℕ → List ℕ → ℕ
num n bs = be 0 (take n bs)

-- the lists one after the other
unfoldable pub flatten : List (List ℕ) → List ℕ
flatten [] = []
flatten (l ∷ ls) = l ++ flatten ls

-- n numbers from a on: a, a + 1 ..
unfoldable pub count : ℕ → ℕ → List ℕ
count a zero = []
count a (suc n) = a ∷ count (suc a) n

-- f a, f (a + 1) .. , n of them
unfoldable pub tabulate : {A : Type 0} → ℕ → ℕ → (ℕ → A) → List A
tabulate a zero f = []
tabulate a (suc n) f = f a ∷ tabulate (suc a) n f

-- the test passes at each of the list
unfoldable pub all_in {ℓ} : {A : Type ℓ} → (A → Bool) → List A → Bool
all_in p [] = true
all_in p (x ∷ xs) = let r = all_in p xs in cond (p x) r false

-- x is one of the list; and its number there, counted from 0
unfoldable pub is_in : ℕ → List ℕ → Bool
is_in x [] = false
is_in x (y ∷ ys) = let r = is_in x ys in cond (eqb y x) true r

unfoldable pub index_in : ℕ → List ℕ → ℕ
index_in x [] = 0
index_in x (y ∷ ys) = let r = suc (index_in x ys) in cond (eqb y x) 0 r

-- the same numbers in the same order
unfoldable pub same_list : List ℕ → List ℕ → Bool
same_list [] [] = true
same_list [] (y ∷ ys) = false
same_list (x ∷ xs) [] = false
same_list (x ∷ xs) (y ∷ ys) = let r = same_list xs ys in cond (eqb x y) r false
