-- Words stored in place of as many others: what is read there, before and after, and storing into the first or the second part of a list; put at
-- once (`put`) or one by one (`sets`), which is the same. By cutting the list at the place. Assumes nothing.
use mathlib.Core.Path.{◌≡◌, refl, sym, ap, ap₂, ◌∙◌}
use mathlib.Core.List.{List, [], ◌∷◌, ◌++◌, append_assoc, append-nil}
use Prim.Native.Nat.{ℕ, zero, suc, ◌+◌, ◌-◌, ◌<◌, ◌≤◌}
use native.Mathlib.Nat.{zero-add, add-suc, suc-add, sub-zero, zero-sub, suc-sub-suc}
use native.Mathlib.Omega.{arith}
use lib.ListN.{length, take, drop, get_or, set, replicate, length-append, length-set, length-replicate, get_or-append}
use lib.Seq.{length-take-le, drop-length, drop-append-add, get_or-append-add, get_or-take, get_or-drop, set-append_left, sets, sets-eq}

-- c in place of as many words of l, from place a on
unfoldable pub put : ℕ → List ℕ → List ℕ → List ℕ
put a c l = take a l ++ (c ++ drop (a + length c) l)

-- ---- reading

pub put-before : (a : ℕ) (c l : List ℕ) (i d : ℕ) → i < a → a ≤ length l → get_or (put a c l) i d ≡ get_or l i d
unfolding put
put-before a c l i d h k =
    get_or-append (take a l) (c ++ drop (a + length c) l) d i (rw (length-take-le a l k) h) ∙ get_or-take a l i d h

past-front : (a : ℕ) (c l : List ℕ) (i d : ℕ) → a ≤ length l → get_or (put a c l) (a + i) d ≡ get_or (c ++ drop (a + length c) l) i d
unfolding put
past-front a c l i d k =
    ap (λ (n : ℕ). get_or (put a c l) (n + i) d) (sym (length-take-le a l k)) ∙ get_or-append-add (take a l) (c ++ drop (a + length c) l) i d

pub put-inside : (a : ℕ) (c l : List ℕ) (i d : ℕ) → i < length c → a ≤ length l → get_or (put a c l) (a + i) d ≡ get_or c i d
put-inside a c l i d h k = past-front a c l i d k ∙ get_or-append c (drop (a + length c) l) d i h

pub put-after : (a : ℕ) (c l : List ℕ) (i d : ℕ) → a + length c ≤ i → a ≤ length l → get_or (put a c l) i d ≡ get_or l i d
put-after a c l i d h k =
    let j : ℕ = i - (a + length c) in
    let far : i ≡ a + (length c + j) = omega arith in
    let near : a + length c + j ≡ i = omega arith in
    ap (λ (n : ℕ). get_or (put a c l) n d) far ∙ past-front a c l (length c + j) d k ∙ get_or-append-add c (drop (a + length c) l) j d
    ∙ get_or-drop (a + length c) l j d ∙ ap (λ (n : ℕ). get_or l n d) near

-- ---- parts

-- past the first part
pub drop_past : (p q : List ℕ) (m n : ℕ) → length p ≡ m → drop (m + n) (p ++ q) ≡ drop n q
drop_past p q m n e = ap (λ (i : ℕ). drop (i + n) (p ++ q)) (sym e) ∙ drop-append-add p q n

drop-replicate : (k n v : ℕ) → drop k (replicate n v) ≡ replicate (n - k) v
drop-replicate zero n v = ap (λ (m : ℕ). replicate m v) (sym (sub-zero n))
drop-replicate (suc k) zero v = ap (λ (m : ℕ). replicate m v) (sym (zero-sub (suc k)))
drop-replicate (suc k) (suc n) v = drop-replicate k n v ∙ ap (λ (m : ℕ). replicate m v) (sym (suc-sub-suc n k))

pub put-zeros : (c : List ℕ) (n : ℕ) → put 0 c (replicate n 0) ≡ c ++ replicate (n - length c) 0
unfolding put
put-zeros c n =
    ap (λ (l : List ℕ). c ++ l) (ap (λ (k : ℕ). drop k (replicate n 0)) (zero-add (length c)) ∙ drop-replicate (length c) n 0)

-- ---- words stored one by one

pub put-sets : (a : ℕ) (c l : List ℕ) → a + length c ≤ length l → put a c l ≡ sets l a c
unfolding put
put-sets a c l h = sym (sets-eq c l a h ∙ append_assoc (take a l) c (drop (a + length c) l))

pub set-right : (p q : List ℕ) (j a : ℕ) → set (p ++ q) (length p + j) a ≡ p ++ set q j a
set-right [] q j a = ap (λ (n : ℕ). set q n a) (zero-add j)
set-right (x ∷ p) q j a = ap (λ (n : ℕ). set (x ∷ (p ++ q)) n a) (suc-add (length p) j) ∙ ap {B = List ℕ} (λ r. x ∷ r) (set-right p q j a)

pub sets-right : (vs p q : List ℕ) (j : ℕ) → sets (p ++ q) (length p + j) vs ≡ p ++ sets q j vs
sets-right [] p q j = refl
sets-right (a ∷ vs) p q j =
    ap₂ (λ (l : List ℕ) (n : ℕ). sets l n vs) (set-right p q j a) (sym (add-suc (length p) j)) ∙ sets-right vs p (set q j a) (suc j)

pub sets-left : (vs p q : List ℕ) (i : ℕ) → i + length vs ≤ length p → sets (p ++ q) i vs ≡ sets p i vs ++ q
sets-left [] p q i h = refl
sets-left (a ∷ vs) p q i h =
    ap (λ (l : List ℕ). sets l (suc i) vs) (set-append_left p q i a (omega arith))
    ∙ sets-left vs (set p i a) q (suc i) (simp length-set (omega arith))

pub sets-zeros : (c : List ℕ) (n : ℕ) → length c ≤ n → sets (replicate n 0) 0 c ≡ c ++ replicate (n - length c) 0
sets-zeros c n h = sym (put-sets 0 c (replicate n 0) (rw (length-replicate {A = ℕ} n 0, zero-add (length c)) h)) ∙ put-zeros c n

-- all words of a list replaced
pub sets-all : (c l : List ℕ) → length c ≡ length l → sets l 0 c ≡ c
unfolding put
sets-all c l e =
    let all : 0 + length c ≡ length l = zero-add (length c) ∙ e in
    sym (put-sets 0 c l (omega arith)) ∙ ap (λ (n : ℕ). c ++ drop n l) all ∙ ap (λ (r : List ℕ). c ++ r) (drop-length l) ∙ append-nil c

-- a word and then words stored in the first part of a list
pub stored-before : (w x c : List ℕ) (a i v : ℕ) → i < length w → a + length c ≤ length w → sets (set w i v) a c ++ x ≡ put a c (set (w ++ x) i v)
stored-before w x c a i v l h =
    sym (sets-left c (set w i v) x a (rw (length-set w i v) h)) ∙ ap (λ (r : List ℕ). sets r a c) (sym (set-append_left w x i v l))
    ∙ sym (put-sets a c (set (w ++ x) i v) (rw (length-set (w ++ x) i v, length-append w x) (omega arith)))
