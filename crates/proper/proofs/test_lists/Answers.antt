-- `test_lists` meets its contract: phase 1, then popularity. By the parts of `rules_by`. Assumes nothing.
use Rattle.std.proofs.lemmas.Result.{err_from_is_err_and}
use Rattle.std.proofs.Common.{◌≡◌, sym, ◌∙◌, ap, subst, List, ℕ, length, replicate, rules}
use lib.ListN.{length-replicate}
use Rattle.paper.specs.Numbers.{all_below}
use Rattle.paper.specs.Packed.{top_of}
use Rattle.laws.proofs.Tests.{true-T}
use Rattle.packed_lists.specs.Ends.{Listed}
use Rattle.proper_popular.specs.Places.{popular_rules}
use Rattle.proper_marks.proofs.InFile.{sized}
use Rattle.proper_popular.specs.Counting.{Clean}
use Rattle.proper_popular.proofs.Shares.{all-zero}
use Rattle.proper_rules.proofs.Rules.{marked-sound}
use Rattle.proper.proofs.Checking.{marks-fail, popular-decides, zeros-to, scratch-start}
use Rattle.proper.proofs.test_lists.Goals as goal

pub test_marked-requires-clause-unmarked : goal.test_marked-requires-clause-unmarked
test_marked-requires-clause-unmarked c = record {
  listed = subst (λ (f : List ℕ). Listed f c.of-lists.result.starts) c.of-lists.ensures.0 c.of-lists.result.listed;
  rules = tt;
  is = scratch-start c.args.file.now _ _ c.clear.ensures c.requires.scratch_len;
}

pub returns-in_err-test_marked : goal.returns-in_err-test_marked
returns-in_err-test_marked c = let exit = err_from_is_err_and c.from_residual.result c.from_residual.ensures.1 in rw exit.1 (sym (marks-fail c.args.file.now (sym c.in_err-test_marked.ensures)))

pub test-requires : goal.test-requires
test-requires c =
    let file : List ℕ = c.args.file.now in
    let listed : Listed file c.of-lists.result.starts = subst (λ (f : List ℕ). Listed f c.of-lists.result.starts) c.of-lists.ensures.0 c.of-lists.result.listed in
    let long : length c.test_marked.new.scratch ≡ length file = let e : length c.test_marked.new.scratch ≡ length c.clear.new.scratch = search rules in
    e ∙ ap length c.clear.ensures ∙ length-replicate (length c.args.scratch.now) 0 ∙ c.requires.scratch_len in
    let z : c.clear-2.new.scratch ≡ replicate (length file) 0 = zeros-to _ (length c.test_marked.new.scratch) (length file) c.clear-2.ensures long in
    let clean : Clean file 0 c.clear-2.new.scratch = record {
      sound = marked-sound file (sized file c.of-lists.result.starts listed) (true-T (sym c.in_ok-test_marked.ensures));
      long = ap length z ∙ length-replicate (length file) 0;
      zero = all-zero (length file) c.clear-2.new.scratch z;
    } in subst (λ (f : List ℕ). Clean f 0 c.clear-2.new.scratch) (sym c.of-lists.ensures.0) clean

pub returns : goal.returns
returns c =
    c.test.ensures ∙ ap (λ (f : List ℕ). all_below (top_of f) (popular_rules f)) c.of-lists.ensures.0
    ∙ sym (popular-decides c.args.file.now (sym c.in_ok-test_marked.ensures))
