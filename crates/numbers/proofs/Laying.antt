-- Bytes laid over a list: its length stays, bytes laid behind others are laid together with them, and so is a byte in front. By splitting the
-- list where the bytes begin and end. Assumes nothing.
use mathlib.Core.Path.{◌≡◌, sym, ap, ap₂, ◌∙◌}
use mathlib.Core.List.{List, [], ◌∷◌, ◌++◌, append_assoc}
use Prim.Native.Nat.{ℕ, suc, ◌+◌, ◌-◌, ◌/◌, ◌%◌, ◌^◌, ◌≤◌, ◌<◌}
use native.Mathlib.Nat.{zero-add, add-zero, div-div-eq-div-mul, pow-suc}
use native.Mathlib.Omega.{arith}
use lib.ListN.{length, take, drop, get_or, set, length-append, take-append-drop, length-drop}
use lib.Seq.{length-take-le, take-suc, set_at, set_split, take_at, drop_at, drop-drop}
use Rattle.paper.specs.Numbers.{bytes}
use Rattle.paper.specs.Calls.{over}
use Rattle.laws.proofs.Bytes.{bytes-length}
use Rattle.numbers.specs.Laid.{laid, reached, writing}

-- laid over nothing, and one byte
pub laid_none : (at : ℕ) (l : List ℕ) → laid [] at l ≡ l
unfolding laid
laid_none at l = ap (λ (n : ℕ). take at l ++ drop n l) (add-zero at) ∙ take-append-drop at l

pub laid_one : (b at : ℕ) (l : List ℕ) → at < length l → set l at b ≡ laid (b ∷ []) at l
unfolding laid
laid_one b at l h = let e : suc at ≡ at + 1 = omega arith in set_split l at b h ∙ ap (λ (n : ℕ). take at l ++ b ∷ drop n l) e

-- laid from the first on
pub laid-first : (bs l : List ℕ) → laid bs 0 l ≡ over bs l
unfolding laid
laid-first bs l = ap (λ (n : ℕ). bs ++ drop n l) (zero-add (length bs))

-- the length stays
pub length-laid : (bs : List ℕ) (at : ℕ) (l : List ℕ) → at + length bs ≤ length l → length (laid bs at l) ≡ length l
unfolding laid
length-laid bs at l h =
    let version : length (take at l) ≡ at = length-take-le at l (omega arith) in
    simp (length-append, length-drop, version) (omega arith)

-- one byte in front
pub laid-before : (b : ℕ) (bs : List ℕ) (at : ℕ) (l : List ℕ) → suc at + length bs ≤ length l → set (laid bs (suc at) l) at b ≡ laid (b ∷ bs) at l
unfolding laid
laid-before b bs at l h =
    let rest : List ℕ = bs ++ drop (suc at + length bs) l in
    let e : suc at + length bs ≡ at + suc (length bs) = omega arith in
    ap (λ (x : List ℕ). set (x ++ rest) at b) (take-suc l at 0 (omega arith))
    ∙ ap (λ (x : List ℕ). set x at b) (append_assoc (take at l) (get_or l at 0 ∷ []) rest)
    ∙ set_at (take at l) (get_or l at 0) rest b at (length-take-le at l (omega arith))
    ∙ ap (λ (n : ℕ). take at l ++ b ∷ (bs ++ drop n l)) e

-- bytes behind bytes
pub laid_then : (a b : List ℕ) (at : ℕ) (l : List ℕ) → at + length a ≤ length l → laid b (at + length a) (laid a at l) ≡ laid (a ++ b) at l
unfolding laid
laid_then a b at l h =
    let n : ℕ = at + length a in
    let version : length (take at l) ≡ at = length-take-le at l (omega arith) in
    let head : length (take at l ++ a) ≡ n = length-append (take at l) a ∙ ap (λ (x : ℕ). x + length a) version in
    let tail : List ℕ = drop n l in
    let whole : take at l ++ (a ++ tail) ≡ (take at l ++ a) ++ tail = sym (append_assoc (take at l) a tail) in
    let early : take n (take at l ++ (a ++ tail)) ≡ take at l ++ a = ap (take n) whole ∙ take_at (take at l ++ a) tail n head in
    let late : drop (n + length b) (take at l ++ (a ++ tail)) ≡ drop (n + length b) l =
    sym (drop-drop (length b) n (take at l ++ (a ++ tail))) ∙ ap (drop (length b)) (ap (drop n) whole ∙ drop_at (take at l ++ a) tail n head) ∙ drop-drop (length b) n l in
    let e : n + length b ≡ at + length (a ++ b) = rw (length-append a b) (omega arith) in
    ap₂ (λ (x y : List ℕ). x ++ (b ++ y)) early (late ∙ ap (λ (m : ℕ). drop m l) e)
    ∙ append_assoc (take at l) a (b ++ drop (at + length (a ++ b)) l)
    ∙ ap (λ (x : List ℕ). take at l ++ x) (sym (append_assoc a b (drop (at + length (a ++ b)) l)))

-- ---- the bytes of a number, the last first

-- none yet
pub put-none : (number at n : ℕ) (l : List ℕ) → l ≡ laid (bytes (n - n) number) (at + n) l
unfolding bytes
put-none number at n l = let e : n - n ≡ 0 = omega arith in rw e (sym (laid_none (at + n) l))

module _ (number n left : ℕ) (some : left ≡ 0 → ⊥) (most : left ≤ n) where
  one_more : n - (left - 1) ≡ suc (n - left)
  one_more = omega arith

  -- one more in front of those laid
  pub put-more : (rest at : ℕ) (l o : List ℕ) → rest ≡ number / 256 ^ (n - left) → at + n ≤ length l → o ≡ laid (bytes (n - left) number) (at + left) l
      → set o (at + (left - 1)) (rest % 256) ≡ laid (bytes (n - (left - 1)) number) (at + (left - 1)) l
  unfolding bytes
  put-more rest at l o r h e =
      let place : at + left ≡ suc (at + (left - 1)) = omega arith in
      let bs : List ℕ = bytes (n - left) number in
      let fits : suc (at + (left - 1)) + length bs ≤ length l = rw (bytes-length (n - left) number) (omega arith) in
      ap₂ (λ (x : List ℕ) (b : ℕ). set x (at + (left - 1)) b) (e ∙ ap (λ (i : ℕ). laid bs i l) place) (ap (λ (x : ℕ). x % 256) r)
      ∙ laid-before (number / 256 ^ (n - left) % 256) bs (at + (left - 1)) l fits
      ∙ ap (λ (j : ℕ). laid (bytes j number) (at + (left - 1)) l) (sym one_more)

  -- what is left of the number
  pub rest_more : (rest : ℕ) → rest ≡ number / 256 ^ (n - left) → rest / 256 ≡ number / 256 ^ (n - (left - 1))
  rest_more rest r =
      ap (λ (x : ℕ). x / 256) r ∙ div-div-eq-div-mul number (256 ^ (n - left)) 256
      ∙ ap (λ (x : ℕ). number / x) (sym (pow-suc 256 (n - left))) ∙ ap (λ (j : ℕ). number / 256 ^ j) (sym one_more)

-- ---- writers, one after the other

pub writing-none : (at : ℕ) (l : List ℕ) → reached at l ≡ writing [] at l
unfolding writing
writing-none at l = ap₂ reached (sym (add-zero at)) (sym (laid_none at l))

pub writing-one : (b at : ℕ) (l : List ℕ) → at < length l → reached (at + 1) (set l at b) ≡ writing (b ∷ []) at l
unfolding writing
writing-one b at l h = ap (reached (at + 1)) (laid_one b at l h)

pub writing-number : (n v at : ℕ) (l l' : List ℕ) → l' ≡ laid (bytes n v) at l → reached (at + n) l' ≡ writing (bytes n v) at l
unfolding writing
writing-number n v at l l' e = ap₂ reached (ap (λ (m : ℕ). at + m) (sym (bytes-length n v))) e

module _ (a : List ℕ) (at n : ℕ) (l l' : List ℕ) (e : reached n l' ≡ writing a at l) where
  pub reached-at : n ≡ at + length a
  unfolding writing
  reached-at = cc

  pub reached-list : l' ≡ laid a at l
  unfolding writing
  reached-list = cc

  pub reached-length : at + length a ≤ length l → length l' ≡ length l
  reached-length h = ap length reached-list ∙ length-laid a at l h

  -- what is written next is written together with it
  pub writing-then : (b : List ℕ) → at + length a ≤ length l → writing b n l' ≡ writing (a ++ b) at l
  unfolding writing
  writing-then b h =
      let q : at + length a + length b ≡ at + length (a ++ b) = rw (length-append a b) (omega arith) in
      ap₂ (λ (x : ℕ) (y : List ℕ). reached (x + length b) (laid b x y)) reached-at reached-list
      ∙ ap₂ reached q (laid_then a b at l h)
