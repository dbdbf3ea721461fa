-- `test` meets its contract: its six tests are those of the definition, in order.
-- Each way is one of the ways through the store's test. Assumes nothing.
use Rattle.std.proofs.Common.{sym, ap, ◌∙◌}
use Rattle.paper.specs.Store.{store_ok}
use Rattle.laws.proofs.UnseenWords.{no_header}
use Rattle.store_whole.proofs.Leaving.{left-at}
use Rattle.store_whole.proofs.Usable.{store-scenes, store-unusable, store-unblank, store-miscounted, store-rest}
use Rattle.store_whole.proofs.test.Goals as goal

pub returns-in_err-store : goal.returns-in_err-store
returns-in_err-store c = left-at _ c.from_residual.ensures.0 (no_header c.args.words.now (sym c.in_err-store.ensures.opened))

pub returns-in_err-test_scenes : goal.returns-in_err-test_scenes
returns-in_err-test_scenes c =
    let opened = c.in_ok-store in
    left-at _ c.from_residual-in_err-test_scenes.ensures.0
    (ap store_ok (sym opened.ensures.same_words) ∙ store-scenes _ opened.store.header_ok (sym c.in_err-test_scenes.ensures))

pub returns-in_err-test_lists : goal.returns-in_err-test_lists
returns-in_err-test_lists c =
    let opened = c.in_ok-store in
    left-at _ c.from_residual-in_err-test_lists.ensures.0
    (ap store_ok (sym opened.ensures.same_words) ∙ store-unusable _ opened.store.header_ok (sym c.in_ok-test_scenes.ensures) (sym c.in_err-test_lists.ensures))

pub returns-in_err-test_unused : goal.returns-in_err-test_unused
returns-in_err-test_unused c =
    let opened = c.in_ok-store in
    left-at _ c.from_residual-in_err-test_unused.ensures.0
    (ap store_ok (sym opened.ensures.same_words) ∙ store-unblank _ opened.store.header_ok (sym c.in_ok-test_scenes.ensures) (sym c.in_ok-test_lists.ensures) (sym c.in_err-test_unused.ensures))

pub returns-in_err-test_sums : goal.returns-in_err-test_sums
returns-in_err-test_sums c =
    let opened = c.in_ok-store in
    left-at _ c.from_residual-in_err-test_sums.ensures.0
    (ap store_ok (sym opened.ensures.same_words) ∙ store-miscounted _ opened.store.header_ok (sym c.in_ok-test_scenes.ensures) (sym c.in_ok-test_lists.ensures) (sym c.in_ok-test_unused.ensures) (sym c.in_err-test_sums.ensures))

pub returns : goal.returns
returns c =
    let opened = c.in_ok-store in
    c.test_links.ensures
    ∙ sym (store-rest _ opened.store.header_ok (sym c.in_ok-test_scenes.ensures) (sym c.in_ok-test_lists.ensures) (sym c.in_ok-test_unused.ensures) (sym c.in_ok-test_sums.ensures))
    ∙ ap store_ok opened.ensures.same_words
