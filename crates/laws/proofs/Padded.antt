-- Rows laid one after the other and filled up with zeros are cut back into those rows, or into the first words of each, and words that end in zeros are
-- the words of the rows cut from them. By induction on the rows. Assumes nothing.
use mathlib.Core.Path.{◌≡◌, refl, sym, ◌∙◌, ap, ap₂}
use mathlib.Core.Bool.{true}
use mathlib.Core.List.{List, [], ◌∷◌, ◌++◌, map, append_assoc, append-nil}
use Prim.Native.Nat.{ℕ, zero, suc, ◌+◌, ◌-◌, ◌*◌, ◌<◌, ◌≤◌}
use native.Mathlib.Nat.{le_refl, zero-mul, add-zero, not-suc-le-zero, le_of_suc-le-suc, mul-le-mul_right}
use native.Mathlib.Omega.{arith}
use lib.Dec.{T, eqb}
use lib.ListN.{length, take, drop, get_or, set, replicate, length-set, get_or-append, length-append, length-replicate, length-drop}
use lib.Seq.{sets, length-sets, set-append_left, take_all, take-append-le, take_at, drop_at, take-add, drop-drop, length-take-le}
use Rattle.paper.specs.Numbers.{all_in, flatten}
use Rattle.paper.specs.Store.{Cell, groups, padded, blank}
use Rattle.laws.proofs.Kept.{groups-at}
use Rattle.laws.proofs.Lists.{zeros_of, zeros-pass}
use Rattle.laws.proofs.Put.{sets-right, sets-left, sets-all, sets-zeros}

-- ---- cells laid out

-- every cell has w words
pub data Sized (w : ℕ) : List Cell → Type 0 where
  snil : Sized w []
  scons : {c : Cell} {cs : List Cell} → length c ≡ w → Sized w cs → Sized w (c ∷ cs)

pub sized-at : {w : ℕ} {cs : List Cell} → Sized w cs → (q : ℕ) → q < length cs → length (get_or cs q []) ≡ w
sized-at snil q h = absurd (not-suc-le-zero h)
sized-at (scons e r) zero h = e
sized-at (scons e r) (suc q) h = sized-at r q (le_of_suc-le-suc h)

pub flatten-length : {w : ℕ} {cs : List Cell} → Sized w cs → length (flatten cs) ≡ length cs * w
unfolding flatten
flatten-length {w} snil = sym (zero-mul w)
flatten-length {w} (scons {c} {cs} e r) = length-append c (flatten cs) ∙ omega (arith, flatten-length r)

pub padded-length : {w : ℕ} {cs : List Cell} (n : ℕ) → Sized w cs → length cs * w ≤ n → length (padded n cs) ≡ n
unfolding padded
padded-length {w} {cs} n r h = simp (length-append, length-replicate, flatten-length r) (omega arith)

-- read group by group, of each the first w words, they are the first w words of each
groups-flatten : {s : ℕ} {cs : List Cell} (w : ℕ) (l : List ℕ) → w ≤ s → Sized s cs → groups s w (length cs) (flatten cs ++ l) ≡ map (take w) cs
unfolding flatten groups
groups-flatten w l h snil = refl
groups-flatten {s} w l h (scons {c} {cs} e r) =
    ap (groups s w (suc (length cs))) (append_assoc c (flatten cs) l)
    ∙ ap₂ ◌∷◌ (take-append-le w c (flatten cs ++ l) (omega arith)) (ap (groups s w (length cs)) (drop_at c (flatten cs ++ l) s e) ∙ groups-flatten w l h r)

pub groups-padded : {s : ℕ} {cs : List Cell} (w n : ℕ) (l : List ℕ) → w ≤ s → Sized s cs → groups s w (length cs) (padded n cs ++ l) ≡ map (take w) cs
unfolding padded
groups-padded {s} {cs} w n l h r = rw append_assoc (groups-flatten w (replicate (n - length (flatten cs)) 0 ++ l) h r)

-- all words of each
pub take-sized : {w : ℕ} {cs : List Cell} → Sized w cs → map (take w) cs ≡ cs
take-sized snil = refl
take-sized {w} (scons {c} {cs} e r) = ap₂ ◌∷◌ (take_all w c (omega arith)) (take-sized r)

-- row q, the words behind it cut off
pub padded-row : {w : ℕ} {cs : List Cell} (n : ℕ) (l : List ℕ) (q : ℕ) → Sized w cs → q < length cs → take w (drop (w * q) (padded n cs ++ l)) ≡ get_or cs q []
padded-row {w} {cs} n l q r h =
    sym (groups-at w w (length cs) q (padded n cs ++ l) h) ∙ ap (λ (x : List Cell). get_or x q []) (groups-padded w n l (le_refl w) r ∙ take-sized r)

-- past the cells there are zeros
padded-zeros : {w : ℕ} {cs : List Cell} (n : ℕ) (l : List ℕ) → Sized w cs
    → take (n - length cs * w) (drop (length cs * w) (padded n cs ++ l)) ≡ replicate (n - length cs * w) 0
unfolding padded
padded-zeros {w} {cs} n l r =
    let F : List ℕ = flatten cs in
    let e : length F ≡ length cs * w = flatten-length r in
    let Z : List ℕ = replicate (n - length F) 0 in
    ap (take (n - length cs * w)) (ap (drop (length cs * w)) (append_assoc F Z l) ∙ drop_at F (Z ++ l) (length cs * w) e)
    ∙ take_at Z l (n - length cs * w) (length-replicate (n - length F) 0 ∙ ap (λ (m : ℕ). n - m) e)
    ∙ ap (λ (m : ℕ). replicate (n - m) 0) e

pub padded-blank : {w : ℕ} {cs : List Cell} (ws : List ℕ) (a n : ℕ) (l : List ℕ) → Sized w cs → drop a ws ≡ padded n cs ++ l
    → blank ws (a + length cs * w) (n - length cs * w) ≡ true
unfolding blank
padded-blank {w} {cs} ws a n l r e =
    let g : ℕ = length cs * w in
    ap (λ (x : List ℕ). all_in (eqb 0) (take (n - g) x)) (sym (drop-drop g a ws) ∙ ap (drop g) e) ∙ ap (all_in (eqb 0)) (padded-zeros n l r) ∙ zeros-pass (n - g)

pub sized-snoc : {w : ℕ} {cs : List Cell} (c : Cell) → Sized w cs → length c ≡ w → Sized w (cs ++ (c ∷ []))
sized-snoc c snil e = scons e snil
sized-snoc c (scons d r) e = scons d (sized-snoc c r e)

pub flatten-append : (a b : List Cell) → flatten (a ++ b) ≡ flatten a ++ flatten b
unfolding flatten
flatten-append [] b = refl
flatten-append (c ∷ a) b = ap (λ (l : List ℕ). c ++ l) (flatten-append a b) ∙ sym (append_assoc c (flatten a) (flatten b))

flatten-snoc : (cs : List Cell) (c : Cell) → flatten (cs ++ (c ∷ [])) ≡ flatten cs ++ c
unfolding flatten
flatten-snoc cs c = flatten-append cs (c ∷ []) ∙ ap (λ (l : List ℕ). flatten cs ++ l) (append-nil c)

-- a group more, stored behind the others
pub padded-snoc : (w n : ℕ) (cs : List Cell) (c : Cell) → Sized w cs → length c ≡ w → suc (length cs) * w ≤ n
    → padded n (cs ++ (c ∷ [])) ≡ sets (padded n cs) (length cs * w) c
unfolding padded
padded-snoc w n cs c r e h =
    let F : List ℕ = flatten cs in
    let m : ℕ = n - length F in
    let left : n - length (F ++ c) ≡ m - length c = simp length-append (omega arith) in
    ap (λ (x : List ℕ). x ++ replicate (n - length x) 0) (flatten-snoc cs c)
    ∙ append_assoc F c (replicate (n - length (F ++ c)) 0)
    ∙ ap (λ (k : ℕ). F ++ (c ++ replicate k 0)) left
    ∙ ap (λ (x : List ℕ). F ++ x) (sym (sets-zeros c m (omega (arith, flatten-length r))))
    ∙ sym (sets-right c F (replicate m 0) 0)
    ∙ ap (λ (i : ℕ). sets (F ++ replicate m 0) i c) (add-zero (length F) ∙ flatten-length r)

-- another cell of as many words in place of cell i
flatten-set : {w : ℕ} {cs : List Cell} (i : ℕ) (c : Cell) → Sized w cs → length c ≡ w → i < length cs → flatten (set cs i c) ≡ sets (flatten cs) (i * w) c
unfolding flatten
flatten-set i c snil e h = absurd (not-suc-le-zero h)
flatten-set {w} zero c (scons {c = d} {cs = cs} l r) e h =
    ap (λ (x : List ℕ). x ++ flatten cs) (sym (sets-all c d (e ∙ sym l))) ∙ sym (sets-left c d (flatten cs) 0 (omega arith))
    ∙ ap (λ (j : ℕ). sets (d ++ flatten cs) j c) (sym (zero-mul w))
flatten-set {w} (suc i) c (scons {c = d} {cs = cs} l r) e h =
    let at : length d + i * w ≡ suc i * w = omega arith in
    ap (λ (x : List ℕ). d ++ x) (flatten-set i c r e (le_of_suc-le-suc h)) ∙ sym (sets-right c d (flatten cs) (i * w))
    ∙ ap (λ (j : ℕ). sets (d ++ flatten cs) j c) at

pub padded-set : (w n : ℕ) (cs : List Cell) (i : ℕ) (c : Cell) → Sized w cs → length c ≡ w → i < length cs → padded n (set cs i c) ≡ sets (padded n cs) (i * w) c
unfolding padded
padded-set w n cs i c r e h =
    let F : List ℕ = flatten cs in
    let fits : i * w + length c ≤ length F = rw (flatten-length r) (omega (arith, mul-le-mul_right w h)) in
    ap (λ (x : List ℕ). x ++ replicate (n - length x) 0) (flatten-set i c r e h)
    ∙ ap (λ (m : ℕ). sets F (i * w) c ++ replicate (n - m) 0) (length-sets F (i * w) c)
    ∙ sym (sets-left c F (replicate (n - length F) 0) (i * w) fits)

pub sized_set : {w : ℕ} {cs : List Cell} (i : ℕ) (c : Cell) → Sized w cs → length c ≡ w → Sized w (set cs i c)
sized_set i c snil e = snil
sized_set zero c (scons l r) e = scons e r
sized_set (suc i) c (scons l r) e = scons l (sized_set i c r e)

-- a row by itself: a word of it set, and read with others behind
pub row-set : (n : ℕ) (row : List ℕ) (i v : ℕ) → i < length row → padded n (set row i v ∷ []) ≡ set (padded n (row ∷ [])) i v
unfolding padded flatten
row-set n row i v h =
    let alone : (x : List ℕ) → (x ++ []) ++ replicate (n - length (x ++ [])) 0 ≡ x ++ replicate (n - length x) 0 = λ x. ap (λ (y : List ℕ). y ++ replicate (n - length y) 0) (append-nil x) in
    alone (set row i v) ∙ ap (λ (m : ℕ). set row i v ++ replicate (n - m) 0) (length-set row i v)
    ∙ sym (set-append_left row (replicate (n - length row) 0) i v h) ∙ ap (λ (x : List ℕ). set x i v) (sym (alone row))

pub row_word : (n : ℕ) (row l : List ℕ) (i : ℕ) → i < length row → get_or (padded n (row ∷ []) ++ l) i 0 ≡ get_or row i 0
unfolding padded flatten
row_word n row l i h =
    let Z : List ℕ = replicate (n - length (row ++ [])) 0 in
    ap (λ (x : List ℕ). get_or ((x ++ Z) ++ l) i 0) (append-nil row) ∙ ap (λ (x : List ℕ). get_or x i 0) (append_assoc row Z l) ∙ get_or-append row (Z ++ l) 0 i h

-- ---- cells cut

pub groups-sized : (s w n : ℕ) (l : List ℕ) → w ≤ s → n * s ≤ length l → Sized w (groups s w n l)
unfolding groups
groups-sized s w zero l f h = snil
groups-sized s w (suc n) l f h =
    scons (length-take-le w l (omega arith)) (groups-sized s w n (drop s l) f (rw length-drop (omega arith)))

flatten-groups : (w n : ℕ) (l : List ℕ) → flatten (groups w w n l) ≡ take (n * w) l
unfolding flatten groups
flatten-groups w zero l = ap (λ (m : ℕ). take m l) (sym (zero-mul w))
flatten-groups w (suc n) l =
    let e : w + n * w ≡ suc n * w = omega arith in
    ap (λ (x : List ℕ). take w l ++ x) (flatten-groups w n (drop w l)) ∙ sym (take-add w (n * w) l) ∙ ap (λ (m : ℕ). take m l) e

pub blank-zeros : (ws : List ℕ) (a n : ℕ) → a + n ≤ length ws → T (blank ws a n) → take n (drop a ws) ≡ replicate n 0
unfolding blank
blank-zeros ws a n h t =
    let e : length (take n (drop a ws)) ≡ n = length-take-le n (drop a ws) (rw length-drop (omega arith)) in
    zeros_of (take n (drop a ws)) t ∙ ap (λ (m : ℕ). replicate m 0) e

-- n groups of w words at place a, and zeros up to m words
pub padded-groups : (ws : List ℕ) (a w n m : ℕ) → n * w ≤ m → a + m ≤ length ws → T (blank ws (a + n * w) (m - n * w))
    → padded m (groups w w n (drop a ws)) ≡ take m (drop a ws)
unfolding padded
padded-groups ws a w n m fit long t =
    let l : List ℕ = drop a ws in
    let g : ℕ = n * w in
    let hl : g ≤ length l = rw length-drop (omega arith) in
    let hF : length (take g l) ≡ g = length-take-le g l hl in
    let hm : g + (m - g) ≡ m = omega arith in
    ap (λ (x : List ℕ). x ++ replicate (m - length x) 0) (flatten-groups w n l)
    ∙ ap (λ (x : ℕ). take g l ++ replicate (m - x) 0) hF
    ∙ ap (λ (x : List ℕ). take g l ++ x) (sym (blank-zeros ws (a + g) (m - g) (omega arith) t) ∙ ap (take (m - g)) (sym (drop-drop g a ws)))
    ∙ sym (take-add g (m - g) l) ∙ ap (λ (x : ℕ). take x l) hm
