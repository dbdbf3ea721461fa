-- `keep_if_room` meets its contract: by the test of room, kept or refused. Assumes nothing.
use Rattle.add_cells.proofs.Ways.{words-few, some-room, keep-full, keep-next, last-behind}
use Rattle.add_cells.proofs.keep_if_room.Goals as goal

pub returns-then-no_room : goal.returns-then-no_room
returns-then-no_room g c = keep-full _ _ _ _ _ _ (rw c.of-before.ensures at c.no_room.ensures) c.if-no_room.true

pub keep_behind-requires : goal.keep_behind-requires
keep_behind-requires g c = (
  words-few _ _ c.requires.words_len,
  (
    last-behind _ _ _ _ (record { header = c.requires.header; list = c.requires.list; room = some-room _ _ _ (rw c.of-before.ensures at c.no_room.ensures) c.if-no_room.false })
        c.requires.chain_lt_chains c.requires.last_value,
    c.requires.words_len,
  ),
)

pub returns : goal.returns
returns g c = keep-next _ _ _ _ _ _ (rw c.of-before.ensures at c.no_room.ensures) c.if-no_room.false (rw c.of-before.ensures at c.next_pointer-next.ensures) c.requires.last_value c.keep_behind.ensures
