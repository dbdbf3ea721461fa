-- `mark_lists` meets its contract. The invariant: the lists up to list `below` keep their rules and are marked. Assumes nothing.
use Rattle.std.proofs.lemmas.Result.{err_from_is_err_and}
use Rattle.std.proofs.Common.{◌≡◌, sym, subst, Bool, false, ℕ, suc, ◌<◌, arith, T}
use Rattle.paper.specs.Numbers.{all_below}
use Rattle.paper.specs.Packed.{top_of}
use Rattle.laws.proofs.Tests.{all-at, true-T, false-unless}
use Rattle.proper_lists.specs.Marking.{list_rules}
use Rattle.proper_lists.proofs.mark_lists.Goals as goal

one-fails : (n : ℕ) (p : ℕ → Bool) (i : ℕ) → i < n → false ≡ p i → false ≡ all_below n p
one-fails n p i h e = sym (false-unless (all_below n p) (λ a. subst T (sym e) (all-at n p (true-T a) i h)))

pub returns-in_err-mark_bottom-clause-rules : goal.returns-in_err-mark_bottom-clause-rules
returns-in_err-mark_bottom-clause-rules c =
    let f = c.args.file.now in
    let exit = err_from_is_err_and c.from_residual.result c.from_residual.ensures.1 in rw exit.1 (one-fails (suc (top_of f)) (list_rules f) 0 (omega arith) c.in_err-mark_bottom.ensures.rules)

pub returns-in_err-mark_list-clause-rules : goal.returns-in_err-mark_list-clause-rules
returns-in_err-mark_list-clause-rules c =
    let f = c.args.file.now in
    let exit = err_from_is_err_and c.from_residual-in_err-mark_list.result c.from_residual-in_err-mark_list.ensures.1 in rw exit.1 (one-fails (suc (top_of f)) (list_rules f) (suc c.loop-below.below) (omega arith) c.in_err-mark_list.ensures.rules)
