-- A record has as many bytes as it is measured, under any mirror. By induction on the list: the eight children only change places. Assumes nothing.
use mathlib.Core.Path.{◌≡◌, refl, sym, ap, ◌∙◌}
use mathlib.Core.Bool.{Bool, true, false, cond}
use mathlib.Core.List.{List, []}
use Prim.Native.Nat.{ℕ, zero, suc, ◌+◌, ◌<◌}
use native.Mathlib.Omega.{arith}
use lib.Bits.{bit_xor}
use lib.Dec.{eqb}
use lib.ListN.{length, get_or, length-append}
use Rattle.paper.specs.Store.{Cell, cell_at, tag_of, cell_no}
use Rattle.laws.proofs.Eight.{below8, xor8-lt}
use Rattle.laws.proofs.Bytes.{bytes-length}
use Rattle.laws.proofs.Matching.{tag-lt}
use Rattle.outline_measure.specs.Measure.{part_measure, children_measure, measure_at}
use Rattle.outline_record.specs.Record.{pointer_at, part_at, children_at, record_at}

-- eight numbers summed in the order of a mirror
abbrev sum8 : (ℕ → ℕ) → ℕ
sum8 f = f 0 + (f 1 + (f 2 + (f 3 + (f 4 + (f 5 + (f 6 + f 7))))))

sum8-mirrored : (f : ℕ → ℕ) (m : ℕ) → m < 8 → sum8 (λ i. f (bit_xor i m)) ≡ sum8 f
sum8-mirrored f =
    below8 (λ m. sum8 (λ i. f (bit_xor i m)) ≡ sum8 f)
    (omega arith) (omega arith) (omega arith) (omega arith) (omega arith) (omega arith) (omega arith) (omega arith)

part_length : (r : ℕ → ℕ → List ℕ) (f : ℕ → ℕ) (m p : ℕ) → ((q s : ℕ) → s < 8 → length (r q s) ≡ f q) → m < 8 → length (part_at r m p) ≡ part_measure f p
part_length r f m p h hm = go (eqb p 0)
  where
    go : (b : Bool) → length (cond b [] (r (cell_no p) (bit_xor (tag_of p) m))) ≡ cond b 0 (f (cell_no p))
    go true = refl
    go false = h (cell_no p) (bit_xor (tag_of p) m) (xor8-lt (tag_of p) m (tag-lt p) hm)

children-length : (r : ℕ → ℕ → List ℕ) (c : Cell) (m : ℕ) → length (children_at r c m 8) ≡ sum8 (λ i. length (part_at r m (pointer_at c m i)))
unfolding children_at
children-length r c m = simp length-append (omega arith)

children_measure_lem : (f : ℕ → ℕ) (c : Cell) → children_measure f c 8 ≡ sum8 (λ j. part_measure f (get_or c j 0))
unfolding children_measure
children_measure_lem f c = omega arith

-- a record is as long under any mirror
pub record-length : (K : List (List Cell)) (k n m : ℕ) → m < 8 → length (record_at K k n m) ≡ measure_at K k n
unfolding record_at measure_at
record-length K zero n m hm = bytes-length 8 _
record-length K (suc k) n m hm =
    let c : Cell = cell_at K (suc k) n in
    let r : ℕ → ℕ → List ℕ = record_at K k in
    let f : ℕ → ℕ = measure_at K k in
    let part : (i : ℕ) → length (part_at r m (pointer_at c m i)) ≡ part_measure f (pointer_at c m i) = λ i. part_length r f m (pointer_at c m i) (λ q s h. record-length K k q s h) hm in
    let parts : sum8 (λ i. length (part_at r m (pointer_at c m i))) ≡ sum8 (λ i. part_measure f (pointer_at c m i)) = λ j. sum8 (λ i. part i j) in
    ap suc (children-length r c m ∙ parts ∙ sum8-mirrored (λ j. part_measure f (get_or c j 0)) m hm ∙ sym (children_measure_lem f c))
