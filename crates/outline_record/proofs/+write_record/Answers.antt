-- `write_record` meets its contract, using its own one list down: a leaf by its writer; of a cell the mask, then the child that comes, and what is left
-- to write comes to the same as from the start. The measure: the list. By the laws of a record's parts. Assumes nothing.
use Rattle.std.proofs.Common.{◌≡◌, ap, ◌∙◌, List, [], ◌∷◌, ◌++◌, ℕ, ◌+◌, ◌-◌, ◌<◌, ◌≤◌, arith, bit_xor, length, set}
use Rattle.paper.specs.Store.{Cell, kept_of}
use Rattle.laws.proofs.Eight.{xor8-lt}
use Rattle.laws.proofs.Matching.{tag-lt}
use Rattle.numbers.proofs.Laying.{writing-one}
use Rattle.outline_measure.proofs.KeptCells.{child-kept}
use Rattle.outline_record.specs.Record.{record_at}
use Rattle.outline_record.proofs.Behind.{Going, going-first, going-none, going-past, going-room, going_on}
use Rattle.outline_record.proofs.Lengths.{record-length}
use Rattle.outline_record.proofs.Parts.{from, from_last, record-cell, next-absent, next-there}
use Rattle.outline_record.proofs.+write_record.Goals as goal

pub bounds-out-at : goal.bounds-out-at
bounds-out-at t c =
    let whole : ℕ → List ℕ = λ k. record_at (kept_of c.args.store.words.now) k c.args.n c.args.mirror in
    let part : ℕ → ℕ → List ℕ = record_at (kept_of c.args.store.words.now) (c.args.k - 1) in
    let rest : ℕ → List ℕ = λ i. from part c.cell_at-cell.result c.args.mirror i in
    let both : whole c.args.k ≡ (c.mask.result ∷ []) ++ rest 0 = let a = c.args in
    record-cell (kept_of a.store.words.now) a.k a.n a.mirror c.mask.result c.cell_at-cell.result c.if-k-eq0.false c.cell_at-cell.ensures c.mask.ensures in
    omega (arith, c.requires.out_in_bounds, ap length both)

pub loop-i-init : goal.loop-i-init
loop-i-init t c =
    let part : ℕ → ℕ → List ℕ = record_at (kept_of c.args.store.words.now) (c.args.k - 1) in
    let rest : ℕ → List ℕ = λ i. from part c.cell_at-cell.result c.args.mirror i in
    let whole : ℕ → List ℕ = λ k. record_at (kept_of c.args.store.words.now) k c.args.n c.args.mirror in
    let both : whole c.args.k ≡ (c.mask.result ∷ []) ++ rest 0 = let a = c.args in
    record-cell (kept_of a.store.words.now) a.k a.n a.mirror c.mask.result c.cell_at-cell.result c.if-k-eq0.false c.cell_at-cell.ensures c.mask.ensures in
    let room : c.args.at < length c.args.out.now = omega (arith, c.requires.out_in_bounds, ap length both) in
    let masked : (let a = c.args in Going (rest 0) (a.at + 1) (set a.out.now a.at c.mask.result) (whole a.k) a.at a.out.now) = let a = c.args in
    going_on (going-first (whole a.k) a.at a.out.now c.requires.out_in_bounds) (c.mask.result ∷ []) (rest 0) both
    (a.at + 1) (set a.out.now a.at c.mask.result) (writing-one c.mask.result a.at a.out.now room) in
    let a = c.args in (omega arith, going-first (rest 0) (a.at + 1) (set a.out.now a.at c.mask.result) masked.room)

-- ---- its children
-- the number of the pointer that is read
pub bounds-cell-i : goal.bounds-cell-i
bounds-cell-i t c = xor8-lt c.loop-i.i _ c.loop-i-test.true (omega arith)

pub loop-i-preserved-then-p-eq0 : goal.loop-i-preserved-then-p-eq0
loop-i-preserved-then-p-eq0 t c =
    let part : ℕ → ℕ → List ℕ = record_at (kept_of c.args.store.words.now) (c.args.k - 1) in
    let rest : ℕ → List ℕ = λ i. from part c.cell_at-cell.result c.args.mirror i in (
      omega (arith, c.loop-i-test.true),
      going-past c.loop-i.invariant.1 (rest (c.loop-i.i + 1))
          (next-absent part c.cell_at-cell.result c.args.mirror c.loop-i.i c.loop-i-test.true c.if-p-eq0.true),
    )

-- a record is as long under another mirror
as_long : (K : List (List Cell)) (k n t m m' at size : ℕ) → t < 8 → m < 8 → m' < 8 → at + length (record_at K k n (bit_xor t m)) ≤ size → at + length (record_at K k n (bit_xor t m')) ≤ size
as_long K k n t m m' at size ht hm hm' h = omega (arith, record-length K k n (bit_xor t m) (xor8-lt t m ht hm), record-length K k n (bit_xor t m') (xor8-lt t m' ht hm'), h)

pub write_record-next-requires : goal.write_record-next-requires
write_record-next-requires t c =
    let number_lt : bit_xor c.loop-i.i c.args.mirror < 8 = xor8-lt c.loop-i.i c.args.mirror c.loop-i-test.true c.requires.mirror_bound in
    let part : ℕ → ℕ → List ℕ = record_at (kept_of c.args.store.words.now) (c.args.k - 1) in
    let here : List ℕ = part c.cell_number.result (bit_xor c.tag.result c.args.mirror) in
    let rest : ℕ → List ℕ = λ i. from part c.cell_at-cell.result c.args.mirror i in
    let ahead : (rest c.loop-i.i ≡ here ++ rest (c.loop-i.i + 1)) = next-there part c.cell_at-cell.result c.args.mirror c.loop-i.i c.loop-i-test.true
    c.cell_number.result c.tag.result c.if-p-eq0.false c.cell_number.ensures c.tag.ensures in
    let a = c.args in
    let kept =
    child-kept a.store.words.now a.k a.n c.cell_at-cell.result (bit_xor c.loop-i.i a.mirror) c.cell_number.result c.requires.kept c.if-k-eq0.false
    c.cell_at-cell.ensures number_lt c.if-p-eq0.false c.cell_number.ensures in
    let tag_bound : c.tag.result < 8 = rw c.tag.ensures (tag-lt _) in
    let room = going-room c.loop-i.invariant.1 here (rest (c.loop-i.i + 1)) ahead in (
      omega (arith, c.decreases, c.if-k-eq0.false),
      (kept, (xor8-lt c.tag.result _ tag_bound (omega arith), as_long (kept_of a.store.words.now) (a.k - 1) c.cell_number.result c.tag.result a.mirror _ _ _ tag_bound c.requires.mirror_bound (omega arith) room)),
    )

pub loop-i-preserved : goal.loop-i-preserved
loop-i-preserved t c =
    let part : ℕ → ℕ → List ℕ = record_at (kept_of c.args.store.words.now) (c.args.k - 1) in
    let here : List ℕ = part c.cell_number.result (bit_xor c.tag.result c.args.mirror) in
    let rest : ℕ → List ℕ = λ i. from part c.cell_at-cell.result c.args.mirror i in
    let ahead : (rest c.loop-i.i ≡ here ++ rest (c.loop-i.i + 1)) = next-there part c.cell_at-cell.result c.args.mirror c.loop-i.i c.loop-i-test.true
    c.cell_number.result c.tag.result c.if-p-eq0.false c.cell_number.ensures c.tag.ensures in (
      omega (arith, c.loop-i-test.true),
      going_on c.loop-i.invariant.1 here (rest (c.loop-i.i + 1)) ahead c.write_record-next.result c.write_record-next.new.out c.write_record-next.ensures,
    )

pub returns : goal.returns
returns t c =
    let part : ℕ → ℕ → List ℕ = record_at (kept_of c.args.store.words.now) (c.args.k - 1) in
    let rest : ℕ → List ℕ = λ i. from part c.cell_at-cell.result c.args.mirror i in
    let whole : ℕ → List ℕ = λ k. record_at (kept_of c.args.store.words.now) k c.args.n c.args.mirror in
    let both : whole c.args.k ≡ (c.mask.result ∷ []) ++ rest 0 = let a = c.args in
    record-cell (kept_of a.store.words.now) a.k a.n a.mirror c.mask.result c.cell_at-cell.result c.if-k-eq0.false c.cell_at-cell.ensures c.mask.ensures in
    let room : c.args.at < length c.args.out.now = omega (arith, c.requires.out_in_bounds, ap length both) in
    let masked : (let a = c.args in Going (rest 0) (a.at + 1) (set a.out.now a.at c.mask.result) (whole a.k) a.at a.out.now) = let a = c.args in
    going_on (going-first (whole a.k) a.at a.out.now c.requires.out_in_bounds) (c.mask.result ∷ []) (rest 0) both
    (a.at + 1) (set a.out.now a.at c.mask.result) (writing-one c.mask.result a.at a.out.now room) in
    going-none c.loop-i.invariant.1 (from_last part c.cell_at-cell.result c.args.mirror c.loop-i.i (omega (arith, c.loop-i-test.false))) ∙ masked.same
