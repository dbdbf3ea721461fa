-- `keep_behind` meets its contract: linked, then kept; a list has its room still when a link is stored. Assumes nothing.
use Rattle.std.proofs.Common.{sym, subst}
use Rattle.add_keep.specs.Keeping.{Room}
use Rattle.add_keep.proofs.Headers.{link-room}
use Rattle.add_keep.proofs.keep_behind.Goals as goal

pub keep-requires-clause-room : goal.keep-requires-clause-room
keep-requires-clause-room g c = let a = c.args in subst (Room a.k) (sym c.link.ensures) (link-room a.k a.j a.last a.store.now c.requires.behind.room)
