-- `test_scenes` meets its contract. The invariant: no place from n on is damaged, so the answer is that of the places below n. Assumes nothing.
use Rattle.std.proofs.Common.{◌≡◌}
use Rattle.paper.specs.Numbers.{all_below}
use Rattle.paper.specs.Store.{most_scenes, place_ok}
use Rattle.store_whole.proofs.test_scenes.Given as goal

abbrev pub invariant-loop-n : goal.invariant-loop-n
invariant-loop-n l = all_below most_scenes (place_ok l.store.words.now) ≡ all_below l.n (place_ok l.store.words.now)
