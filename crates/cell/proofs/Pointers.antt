-- A walk stopped at a list has the damage and the pointer that a cell question finds. By induction on the list, one step down being the same for all
-- three. Assumes nothing.
use mathlib.Core.Path.{◌≡◌, refl, sym, ap, ap₂, ◌∙◌}
use mathlib.Core.Bool.{Bool, true, false, cond, not}
use mathlib.Core.List.{List, [], ◌∷◌}
use Prim.Native.Nat.{ℕ, zero, suc, ◌-◌, ◌^◌, ◌<◌}
use lib.Bits.{bit_xor}
use lib.Dec.{T, eqb, leb, eqb→eq}
use lib.ListN.{length, get_or}
use Rattle.paper.specs.Numbers.{bit_for}
use Rattle.paper.specs.Rooms.{Point, Inside, depth_ok, mirror, in_child}
use Rattle.paper.specs.Outline.{edge}
use Rattle.paper.specs.Store.{Cell, cells_at, cell_at, tag_of, cell_no, any_bad}
use Rattle.paper.specs.Walk.{is_damaged}
use Rattle.paper.specs.Questions.{taken, below, in_below, walk_damaged, from_root, pointer_to}
use Rattle.laws.proofs.Matching.{tag-lt}
use Rattle.laws.proofs.Tests.{T_true}
use Rattle.points.specs.Seeing.{seen_at}
use Rattle.points.proofs.Seen.{tag-joins, child-seen, in-seen, tag-seen}
use Rattle.store_entry.specs.Entry.{past_entry}
use Rattle.walk.specs.Walk.{Ended, Absent, At, Damaged, taken_from, walk_to, end_of}
use Rattle.walk.proofs.Roots.{root-seen}
use Rattle.cell.specs.Cell.{cell_end, told_by}

-- one step down: the pointer taken, and the voxel in the cell below
taken-seen : (k m : ℕ) (c : Cell) (v : Point) → m < 8 → taken k c (seen_at (suc k) m v) ≡ taken_from k c m v
taken-seen k m c v h = ap (λ (i : ℕ). get_or c i 0) (child-seen k m v h)

below-seen : (k m p : ℕ) (v : Point) → m < 8 → in_below k p (seen_at (suc k) m v) ≡ seen_at k (bit_xor (tag_of p) m) v
below-seen k m p v h = ap (mirror (tag_of p) (edge k)) (in-seen k m v h) ∙ tag-seen k (tag_of p) m v (tag-lt p) h

-- damage
abbrev pub met_damage : Ended → Bool
met_damage (Absent h) = false
met_damage (At n m) = false
met_damage Damaged = true

-- the damage is that of the end
pub end-damage : (K : List (List Cell)) (v : Point) (r : Ended) → is_damaged (end_of K v r) ≡ met_damage r
end-damage K v (Absent h) = refl
end-damage K v (At n m) = refl
end-damage K v Damaged = refl

-- the same tests on both sides
same_tests : (a b c : Bool) (r : Bool) (x : Ended) (n m h : ℕ) → r ≡ met_damage x
    → cond a false (cond b true (cond c false r)) ≡ met_damage (cond a (At n m) (cond b Damaged (cond c (Absent h) x)))
same_tests true b c r x n m h e = refl
same_tests false true c r x n m h e = refl
same_tests false false true r x n m h e = refl
same_tests false false false r x n m h e = e

pub cell-walk-damaged : (K : List (List Cell)) (stop k n m : ℕ) (v : Point) → m < 8 → walk_damaged K stop k (cell_at K k n) (seen_at k m v) ≡ met_damage (walk_to K stop k n m v)
unfolding walk_damaged walk_to
cell-walk-damaged K stop zero n m v h = refl
cell-walk-damaged K stop (suc k) n m v h =
    let c : Cell = cell_at K (suc k) n in
    let p : ℕ = taken_from k c m v in
    let e : walk_damaged K stop (suc k) c (seen_at (suc k) m v) ≡ cond (leb (suc k) stop) false (cond (any_bad (length (cells_at K k)) c) true (cond (eqb p 0) false (walk_damaged K stop k (below K k p) (in_below k p (seen_at (suc k) m v))))) =
    ap (λ (q : ℕ). cond (leb (suc k) stop) false (cond (any_bad (length (cells_at K k)) c) true (cond (eqb q 0) false (walk_damaged K stop k (below K k q) (in_below k q (seen_at (suc k) m v)))))) (taken-seen k m c v h) in
    e ∙ same_tests (leb (suc k) stop) (any_bad (length (cells_at K k)) c) (eqb p 0) (walk_damaged K stop k (below K k p) (in_below k p (seen_at (suc k) m v)))
    (walk_to K stop k (cell_no p) (bit_xor (tag_of p) m) v) n m (suc (suc k))
    (ap (walk_damaged K stop k (below K k p)) (below-seen k m p v h) ∙ cell-walk-damaged K stop k (cell_no p) (bit_xor (tag_of p) m) v (tag-joins p m h))

-- damage on the way from the root
pub root-damaged : (K : List (List Cell)) (stop D p : ℕ) (v : Point) → T (depth_ok D) → Inside (2 ^ D) v → T (not (eqb p 0))
    → from_root (walk_damaged K stop) K D p v ≡ met_damage (walk_to K stop (D - 2) (cell_no p) (tag_of p) v)
root-damaged K stop D p v d h n =
    named (eqb p 0) n
    ∙ ap (walk_damaged K stop (D - 2) (below K (D - 2) p)) (root-seen D (tag_of p) v d h)
    ∙ cell-walk-damaged K stop (D - 2) (cell_no p) (tag_of p) v (tag-lt p)
  where
    named : (b : Bool) → T (not b) → cond b false (walk_damaged K stop (D - 2) (below K (D - 2) p) (mirror (tag_of p) (2 ^ D) v)) ≡ walk_damaged K stop (D - 2) (below K (D - 2) p) (mirror (tag_of p) (2 ^ D) v)
    named true t = absurd t
    named false t = refl

-- ---- the number that a question answers

-- 2 for damage, else the number
abbrev pub or_damage : Bool → ℕ → ℕ
or_damage true n = 2
or_damage false n = n

-- such a number, told
pub told-end : (w b : Bool) → told_by (or_damage w (bit_for b)) ≡ past_entry false w (bit_for b ∷ [])
told-end true b = refl
told-end false true = refl
told-end false false = refl

-- a pointer that is not none
drop-test : (p s : ℕ) → T (not (eqb p 0)) → cond (eqb p 0) 0 s ≡ s
drop-test p s d = go (eqb p 0) d
  where
    go : (b : Bool) → T (not b) → cond b 0 s ≡ s
    go true t = absurd t
    go false t = refl

-- ---- the pointer of the cell asked for, under a pointer p of list k that is not none; m is the mirror under which p is seen

same-cell : (a b c r : Bool) (x : Ended) (h n m p s : ℕ) → T (not (eqb p 0)) → (T (not a) → T (not c) → cell_end x ≡ or_damage r (bit_for (not (eqb s 0)))) → (T c → s ≡ 0)
    → cell_end (cond a (At n m) (cond b Damaged (cond c (Absent h) x))) ≡ or_damage (cond a false (cond b true (cond c false r))) (bit_for (not (eqb (cond a p (cond (eqb p 0) 0 s)) 0)))
same-cell true b c r x h n m p s d e z = ap (λ (y : Bool). bit_for y) (sym (T_true {b = not (eqb p 0)} d))
same-cell false true c r x h n m p s d e z = refl
same-cell false false true r x h n m p s d e z = ap (λ (y : ℕ). bit_for (not (eqb y 0))) (sym (drop-test p s d ∙ z tt))
same-cell false false false r x h n m p s d e z = e tt tt ∙ ap (λ (y : ℕ). or_damage r (bit_for (not (eqb y 0)))) (sym (drop-test p s d))

pub none_stays : (K : List (List Cell)) (stop k : ℕ) (v : Point) → pointer_to K stop k 0 v ≡ 0
unfolding pointer_to
none_stays K stop zero v = refl
none_stays K stop (suc k) v = go (leb (suc k) stop)
  where
    go : (b : Bool) → cond {A = ℕ} b 0 0 ≡ 0
    go true = refl
    go false = refl

eqb-zero : (q : ℕ) → T (eqb q 0) → q ≡ 0
eqb-zero q t = eqb→eq q 0 t

pub pointer-end : (K : List (List Cell)) (stop k p m : ℕ) (v : Point) → m < 8 → T (not (eqb p 0))
    → cell_end (walk_to K stop k (cell_no p) (bit_xor (tag_of p) m) v) ≡ or_damage (walk_damaged K stop k (below K k p) (seen_at k (bit_xor (tag_of p) m) v)) (bit_for (not (eqb (pointer_to K stop k p (seen_at k m v)) 0)))
unfolding walk_damaged walk_to pointer_to
pointer-end K stop zero p m v h d = ap (λ (y : Bool). bit_for y) (sym (T_true {b = not (eqb p 0)} d))
pointer-end K stop (suc k) p m v h d =
    let m' : ℕ = bit_xor (tag_of p) m in
    let h' : m' < 8 = tag-joins p m h in
    let c : Cell = below K (suc k) p in
    let w : Point = seen_at (suc k) m' v in
    let bad : Bool = any_bad (length (cells_at K k)) c in
    let q : ℕ = taken_from k c m' v in
    let to : Point → ℕ = λ y. cond (leb (suc k) stop) p (cond (eqb p 0) 0 (pointer_to K stop k (taken k c y) (in_child (edge k) y))) in
    let path : to (mirror (tag_of p) (edge (suc k)) (seen_at (suc k) m v)) ≡ cond (leb (suc k) stop) p (cond (eqb p 0) 0 (pointer_to K stop k q (seen_at k m' v))) =
    ap to (tag-seen (suc k) (tag_of p) m v (tag-lt p) h)
    ∙ (λ i. cond (leb (suc k) stop) p (cond (eqb p 0) 0 (pointer_to K stop k (taken-seen k m' c v h' i) (in-seen k m' v h' i)))) in
    let harm : ℕ → Bool = λ y. cond (leb (suc k) stop) false (cond bad true (cond (eqb y 0) false (walk_damaged K stop k (below K k y) (in_below k y w)))) in
    let r : Bool = walk_damaged K stop k (below K k q) (in_below k q w) in
    let rest : T (not (leb (suc k) stop)) → T (not (eqb q 0)) → cell_end (walk_to K stop k (cell_no q) (bit_xor (tag_of q) m') v) ≡ or_damage r (bit_for (not (eqb (pointer_to K stop k q (seen_at k m' v)) 0))) =
    λ a b. pointer-end K stop k q m' v h' b ∙ ap (λ (y : Point). or_damage (walk_damaged K stop k (below K k q) y) (bit_for (not (eqb (pointer_to K stop k q (seen_at k m' v)) 0)))) (sym (below-seen k m' q v h')) in
    same-cell (leb (suc k) stop) bad (eqb q 0) r (walk_to K stop k (cell_no q) (bit_xor (tag_of q) m') v) (suc (suc k)) (cell_no p) m' p (pointer_to K stop k q (seen_at k m' v)) d rest
    (λ t. ap (λ (y : ℕ). pointer_to K stop k y (seen_at k m' v)) (eqb-zero q t) ∙ none_stays K stop k (seen_at k m' v))
    ∙ ap₂ (λ (x : Bool) (y : ℕ). or_damage x (bit_for (not (eqb y 0)))) (ap harm (sym (taken-seen k m' c v h'))) (sym path)
