-- `symmetry_of` meets its contract: each turn gathers one bit more, and a byte has room for eight. Assumes nothing.
use Rattle.std.proofs.Common.{◌≡◌, ap, ◌∙◌, ◌+◌, ◌-◌, ◌*◌, ◌^◌, ◌<◌, Bool, true, false, refl, arith}
use mir.Val.{bool_byte}
use Rattle.paper.specs.Numbers.{bit_for}
use Rattle.laws.proofs.Bits.{bit_for-lt}
use Rattle.laws.proofs.SymmetryLoop.{upper-none, upper-room, upper-more, upper-all}
use Rattle.leaf.proofs.symmetry.symmetry_of.Goals as goal

-- a test's answer as a byte is its bit
as_bit : (b : Bool) → bool_byte b ≡ bit_for b
as_bit true = refl
as_bit false = refl

pub loop-t-init : goal.loop-t-init
loop-t-init g c = upper-none g.p

pub overflow_mul-symmetry : goal.overflow_mul-symmetry
overflow_mul-symmetry g c =
    let a = c.loop-t in
    let room : 2 * c.loop-t.symmetry + 1 < 2 ^ 8 = upper-room g.p a.t a.symmetry a.invariant (omega arith) a.auto.t in
    omega (arith, room)

pub overflow_add-symmetry : goal.overflow_add-symmetry
overflow_add-symmetry g c =
    let a = c.loop-t in
    let room : 2 * c.loop-t.symmetry + 1 < 2 ^ 8 = upper-room g.p a.t a.symmetry a.invariant (omega arith) a.auto.t in
    omega (arith, room, as_bit c.test.result, bit_for-lt c.test.result)

pub loop-t-preserved : goal.loop-t-preserved
loop-t-preserved g c =
    let a = c.loop-t in
    upper-more g.p a.t a.symmetry a.invariant c.from.result
    (c.from.ensures ∙ as_bit c.test.result ∙ ap bit_for (c.requires.1.1 (a.t - 1) c.test.result (omega arith) c.test.ensures))
    (omega arith) a.auto.t

pub returns : goal.returns
returns g c = upper-all g.p c.loop-t.t c.loop-t.symmetry c.loop-t.invariant (omega arith)
