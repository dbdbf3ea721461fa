-- `mark_list` meets its contract: the list is cut from the file, its shares from the scratch, and put back. By where the lists lie. Assumes nothing.
use Rattle.std.proofs.Common.{sym, ◌∙◌, ap, subst, List, ℕ, ◌+◌, arith, length, get_or, drop}
use Rattle.std.proofs.lemmas.Result.{on_ok_weaker}
use Rattle.proper_lists.specs.Marking.{Shares, inner_rules, record_marks}
use Rattle.proper_lists.proofs.Cuts.{part, list_cut}
use Rattle.proper_lists.proofs.mark_list.Goals as goal

pub mark_inner_list-requires : goal.mark_inner_list-requires
mark_inner_list-requires c =
    let a : ℕ = get_or c.args.starts (c.args.below + 1) 0 in
    let list : List ℕ = part a (get_or c.args.starts c.args.below 0) c.args.file.now in
    let shares : List ℕ = part a c.list_end-c.result c.args.scratch.now in
    let cut = list_cut c.args.file.now c.args.starts c.args.scratch.now c.args.below c.list_end-c.result (λ i. omega (arith, c.shared_slice_known-1.given i)) c.requires.marked_below c.requires.below_bound
    c.list_end-c.ensures in
    subst (λ (u : ℕ). Shares u list shares) (sym c.unit_of.ensures.0) cut.shares

pub returns-clause-rules : goal.returns-clause-rules
returns-clause-rules c =
    let a : ℕ = get_or c.args.starts (c.args.below + 1) 0 in
    let list : List ℕ = part a (get_or c.args.starts c.args.below 0) c.args.file.now in
    let shares : List ℕ = part a c.list_end-c.result c.args.scratch.now in
    let cut = list_cut c.args.file.now c.args.starts c.args.scratch.now c.args.below c.list_end-c.result (λ i. omega (arith, c.shared_slice_known-1.given i)) c.requires.marked_below c.requires.below_bound
    c.list_end-c.ensures in
    c.mark_inner_list.ensures.rules ∙ ap (λ (u : ℕ). inner_rules u (drop (length list) shares) list) c.unit_of.ensures.0 ∙ cut.tells

pub returns-clause-marked : goal.returns-clause-marked
returns-clause-marked c =
    let a : ℕ = get_or c.args.starts (c.args.below + 1) 0 in
    let list : List ℕ = part a (get_or c.args.starts c.args.below 0) c.args.file.now in
    let shares : List ℕ = part a c.list_end-c.result c.args.scratch.now in
    let cut = list_cut c.args.file.now c.args.starts c.args.scratch.now c.args.below c.list_end-c.result (λ i. omega (arith, c.shared_slice_known-1.given i)) c.requires.marked_below c.requires.below_bound
    c.list_end-c.ensures in
    on_ok_weaker c.mark_inner_list.result
    (λ e. cut.marked c.mark_inner_list.new.shares (e ∙ ap (λ (u : ℕ). record_marks u (drop (length list) shares) list shares) c.unit_of.ensures.0))
    c.mark_inner_list.ensures.marked
