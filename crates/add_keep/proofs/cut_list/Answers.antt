-- `cut_list` meets its contract: the chains are cut, then the zeros and the count are what the definition stores.
-- By where the list's cells lie, and the room that the header gives, which has not changed. Assumes nothing.
use Rattle.std.proofs.Common.{◌∙◌, ◌≤◌, arith}
use Rattle.paper.specs.Store.{header_ok}
use Rattle.laws.proofs.Tests.{T_true}
use Rattle.store.proofs.HeaderFacts.{header, header-front}
use Rattle.store.proofs.Positions.{position_in, position-rises}
use Rattle.add_keep.proofs.Headers.{cut-in-order, cut-enough, cut-few}
use Rattle.add_keep.proofs.Ways.{list-cut}
use Rattle.add_keep.proofs.cut_list.Goals as goal

pub of-cut-requires : goal.of-cut-requires
of-cut-requires c = T_true {b = header_ok c.cut_chains.new.store} (cut-in-order c.requires c.cut_chains.ensures)

pub cell_position-end-requires-clause-c_le_most_capacity : goal.cell_position-end-requires-clause-c_le_most_capacity
cell_position-end-requires-clause-c_le_most_capacity c = omega (arith, (header _ (cut-in-order c.requires c.cut_chains.ensures)).most, rw c.of-cut.ensures at c.capacity-units.ensures)

pub cell_position-end-requires-clause-n_le_c : goal.cell_position-end-requires-clause-n_le_c
cell_position-end-requires-clause-n_le_c c =
    omega (arith, cut-few c.requires c.cut_chains.ensures, rw c.of-cut.ensures at c.capacity-units.ensures, rw c.of-cut.ensures at c.kept_count.ensures)

pub cell_position-at-requires-clause-c_le_most_capacity : goal.cell_position-at-requires-clause-c_le_most_capacity
cell_position-at-requires-clause-c_le_most_capacity c = omega (arith, (header _ (cut-in-order c.requires c.cut_chains.ensures)).most, rw c.of-cut.ensures at c.capacity-units.ensures)

pub cell_position-at-requires-clause-n_le_c : goal.cell_position-at-requires-clause-n_le_c
cell_position-at-requires-clause-n_le_c c =
    omega (arith, cut-few c.requires c.cut_chains.ensures, cut-enough c.requires c.cut_chains.ensures, rw c.of-cut.ensures at c.capacity-units.ensures)

pub overflow_sub-end : goal.overflow_sub-end
overflow_sub-end c =
    let a = c.args in
    let enough : a.count ≤ c.kept_count.result = omega (arith, cut-enough c.requires c.cut_chains.ensures, rw c.of-cut.ensures at c.kept_count.ensures) in
    omega (arith, position-rises c.capacity-units.result a.k a.count c.kept_count.result enough, c.cell_position-at.ensures, c.cell_position-end.ensures)

pub put_zeros-requires : goal.put_zeros-requires
put_zeros-requires c =
    let a = c.args in
    let units = rw c.of-cut.ensures at c.capacity-units.ensures in
    let kept = rw c.of-cut.ensures at c.kept_count.ensures in
    let few : c.kept_count.result ≤ c.capacity-units.result = omega (arith, cut-few c.requires c.cut_chains.ensures, units, kept) in
    let enough : a.count ≤ c.kept_count.result = omega (arith, cut-enough c.requires c.cut_chains.ensures, kept) in
    let inside = position_in c.capacity-units.result a.k c.kept_count.result c.requires.list few in
    omega (
      arith,
      position-rises c.capacity-units.result a.k a.count c.kept_count.result enough,
      (header _ (cut-in-order c.requires c.cut_chains.ensures)).room,
      inside,
      units,
      c.cell_position-at.ensures,
      c.cell_position-end.ensures,
    )

pub set_count-requires-clause-in_bounds : goal.set_count-requires-clause-in_bounds
set_count-requires-clause-in_bounds c = omega (arith, c.put_zeros.auto.words, header-front _ (cut-in-order c.requires c.cut_chains.ensures))

pub returns : goal.returns
returns c =
    let a = c.args in
    let kept = rw c.of-cut.ensures at c.kept_count.ensures in
    let enough : a.count ≤ c.kept_count.result = omega (arith, cut-enough c.requires c.cut_chains.ensures, kept) in
    c.set_count.ensures
    ∙ list-cut a.store.now c.cut_chains.new.store _ a.k a.count _ _ _ _ c.cut_chains.ensures (rw c.of-cut.ensures at c.capacity-units.ensures) kept
    c.cell_position-at.ensures c.cell_position-end.ensures enough c.put_zeros.ensures
