-- A walk down to a list depends only on the cell of that list that holds the voxel, and goes on from any cell that it enters. By induction on the
-- list: the children taken on the way are named by the coordinates above that list. Assumes nothing.
use mathlib.Core.Path.{◌≡◌, refl, sym, ap, ◌∙◌}
use mathlib.Core.Bool.{Bool, true, false, cond}
use mathlib.Core.List.{List}
use Prim.Native.Nat.{ℕ, zero, suc, ◌+◌, ◌-◌, ◌*◌, ◌/◌, ◌%◌, ◌^◌, ◌<◌, ◌≤◌}
use native.Mathlib.Nat.{suc-ne-zero}
use native.Mathlib.Omega.{arith}
use borrow.Author.Tests.{leb-true, leb-false, lt-leb}
use lib.Bits.{bit_xor}
use lib.Dec.{eqb, leb}
use lib.Pow.{shr-shr}
use lib.ListN.{length, get_or}
use Rattle.paper.specs.Rooms.{Point, OneCell}
use Rattle.paper.specs.Store.{Cell, cells_at, cell_at, tag_of, cell_no, any_bad}
use Rattle.points.specs.Seeing.{child_no_at}
use Rattle.walk.specs.Walk.{taken_from, walk_to}
use Rattle.walk.specs.Walk.{Ended}
use Rattle.walk.specs.Walk.{Absent, At, Damaged}
use Rattle.walk.proofs.Steps.{walk-stop}

-- one coordinate: what lies in one cell lies in one greater cell
one_up : (h k a b : ℕ) → h ≤ k → a / 2 ^ h ≡ b / 2 ^ h → a / 2 ^ k ≡ b / 2 ^ k
one_up h k a b l e =
    let up : h + (k - h) ≡ k = omega arith in
    ap (λ (n : ℕ). a / 2 ^ n) (sym up) ∙ sym (shr-shr a h (k - h)) ∙ ap (λ (n : ℕ). n / 2 ^ (k - h)) e ∙ shr-shr b h (k - h) ∙ ap (λ (n : ℕ). b / 2 ^ n) up

-- points of one cell lie in one child above it
child-one : (h k : ℕ) (v w : Point) → h ≤ suc (suc k) → OneCell h v w → child_no_at k v ≡ child_no_at k w
child-one h k v w l s =
    let x = one_up h (suc (suc k)) v.x w.x l s.one_x in
    let y = one_up h (suc (suc k)) v.y w.y l s.one_y in
    let z = one_up h (suc (suc k)) v.z w.z l s.one_z in
    λ i. x i % 2 + 2 * (y i % 2) + 4 * (z i % 2)

pub walk-one : (K : List (List Cell)) (stop k n m h : ℕ) (v w : Point) → h ≤ suc (suc stop) → OneCell h v w → walk_to K stop k n m v ≡ walk_to K stop k n m w
unfolding walk_to
walk-one K stop zero n m h v w l s = refl
walk-one K stop (suc k) n m h v w l s = go (leb (suc k) stop) refl (λ q t. walk-one K stop k q t h v w l s)
  where
    on : ℕ → Point → Ended
    on i u =
        let p : ℕ = get_or (cell_at K (suc k) n) (bit_xor i m) 0 in
        cond (any_bad (length (cells_at K k)) (cell_at K (suc k) n)) Damaged (cond (eqb p 0) (Absent (suc (suc k))) (walk_to K stop k (cell_no p) (bit_xor (tag_of p) m) u))

    go : (a : Bool) → leb (suc k) stop ≡ a → ((q t : ℕ) → walk_to K stop k q t v ≡ walk_to K stop k q t w)
        → cond a (At n m) (on (child_no_at k v) v) ≡ cond a (At n m) (on (child_no_at k w) w)
    go true e ih = refl
    go false e ih =
        let p : ℕ = get_or (cell_at K (suc k) n) (bit_xor (child_no_at k v) m) 0 in
        let d : stop < suc k = leb-false (suc k) stop e in
        ap (λ (r : Ended). cond (any_bad (length (cells_at K k)) (cell_at K (suc k) n)) Damaged (cond (eqb p 0) (Absent (suc (suc k))) r)) (ih (cell_no p) (bit_xor (tag_of p) m))
        ∙ ap (λ (i : ℕ). on i w) (child-one h k v w (omega arith) s)

-- ---- from a cell on the way

abbrev number_at : Ended → ℕ
number_at (Absent h) = 0
number_at (At n m) = n
number_at Damaged = 0

abbrev mirror_at : Ended → ℕ
mirror_at (Absent h) = 0
mirror_at (At n m) = m
mirror_at Damaged = 0

abbrev is_at : Ended → ℕ
is_at (Absent h) = 0
is_at (At n m) = 1
is_at Damaged = 0

pub walk_through : (K : List (List Cell)) (i j k n m n' m' : ℕ) (v : Point) → i ≤ j → j ≤ k → walk_to K j k n m v ≡ At n' m' → walk_to K i k n m v ≡ walk_to K i j n' m' v
unfolding walk_to
walk_through K i j zero n m n' m' v hi hj e = e ∙ walk-stop K i j n' m' v (omega arith)
walk_through K i j (suc k) n m n' m' v hi hj e = go (leb (suc k) j) refl (λ q t. walk_through K i j k q t n' m' v hi) e
  where
    p : ℕ
    p = taken_from k (cell_at K (suc k) n) m v

    down : (b z : Bool) (r s : Ended) → (r ≡ At n' m' → s ≡ walk_to K i j n' m' v) → cond b Damaged (cond z (Absent (suc (suc k))) r) ≡ At n' m'
        → cond b Damaged (cond z (Absent (suc (suc k))) s) ≡ walk_to K i j n' m' v
    down true z r s ih q = absurd (suc-ne-zero 0 (sym (ap is_at q)))
    down false true r s ih q = absurd (suc-ne-zero 0 (sym (ap is_at q)))
    down false false r s ih q = ih q

    go : (a : Bool) → leb (suc k) j ≡ a → ((q t : ℕ) → j ≤ k → walk_to K j k q t v ≡ At n' m' → walk_to K i k q t v ≡ walk_to K i j n' m' v)
        → cond a (At n m) (cond (any_bad (length (cells_at K k)) (cell_at K (suc k) n)) Damaged (cond (eqb p 0) (Absent (suc (suc k))) (walk_to K j k (cell_no p) (bit_xor (tag_of p) m) v))) ≡ At n' m'
        → walk_to K i (suc k) n m v ≡ walk_to K i j n' m' v
    go true q ih r =
        let top : suc k ≡ j = omega (arith, leb-true (suc k) j q) in
        λ t. walk_to K i (top t) (number_at (r t)) (mirror_at (r t)) v
    go false q ih r =
        let d : j < suc k = leb-false (suc k) j q in
        let out : leb (suc k) i ≡ false = lt-leb (suc k) i (omega arith) in
        ap (λ (a : Bool). cond a (At n m) (cond (any_bad (length (cells_at K k)) (cell_at K (suc k) n)) Damaged (cond (eqb p 0) (Absent (suc (suc k))) (walk_to K i k (cell_no p) (bit_xor (tag_of p) m) v)))) out
        ∙ down (any_bad (length (cells_at K k)) (cell_at K (suc k) n)) (eqb p 0) (walk_to K j k (cell_no p) (bit_xor (tag_of p) m) v) (walk_to K i k (cell_no p) (bit_xor (tag_of p) m) v)
        (ih (cell_no p) (bit_xor (tag_of p) m) (omega arith)) r
