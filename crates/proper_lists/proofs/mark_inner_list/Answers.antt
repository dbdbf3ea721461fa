-- `mark_inner_list` meets its contract: the share marked, and the marks one list down behind it as they were. Assumes nothing.
use Rattle.std.proofs.Common.{◌≡◌, sym, ◌∙◌, ap, ap₂, List, ℕ, ◌++◌, take, drop, length, take-append-drop}
use Rattle.std.proofs.lemmas.Result.{on_ok_weaker}
use Rattle.proper_lists.specs.Marking.{record_marks}
use Rattle.proper_lists.proofs.Scratch.{marked_beside}
use Rattle.proper_lists.proofs.mark_inner_list.Goals as goal

pub returns-clause-marked : goal.returns-clause-marked
returns-clause-marked c =
    let list : List ℕ = c.args.list.now in
    let shares : List ℕ = c.args.shares.now in
    let share : List ℕ = c.split_at_mut-share.result.0.now in
    let marks : List ℕ = c.split_at_mut-share.result.1.now in
    let front : share ≡ take (length list) shares = c.split_at_mut-share.ensures.front in
    let back : marks ≡ drop (length list) shares = c.split_at_mut-share.ensures.back in
    let whole : shares ≡ share ++ marks = sym (ap₂ ◌++◌ front back ∙ take-append-drop (length list) shares) in
    on_ok_weaker c.mark_beside.result
    (λ e. ap (λ (s : List ℕ). s ++ marks) e ∙ marked_beside c.args.unit marks list share shares whole c.split_at_mut-share.ensures.front_len
    ∙ ap (λ (m : List ℕ). record_marks c.args.unit m list shares) back)
    c.mark_beside.ensures.marked
