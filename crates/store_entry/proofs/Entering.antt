-- What entering a scene answers, in the code's words: a damaged part is an entry refused by that. By cases on the result. Assumes nothing.
use mathlib.Core.Path.{◌≡◌, ap}
use Rattle.std.specs.Prelude.{Result, Ok, Err, IsErrAnd}
use Rattle.paper.specs.declared.Refusal.{Refusal}
use Rattle.paper.specs.declared.Refusal.TheVariants.{DamagedStore}
use Rattle.store.specs.declared.scenes.Scene.{Scene}
use Rattle.store_entry.specs.Entry.{Refused}
use Rattle.store_entry.specs.Entering.{entered}

pub entered-damaged : (r : Result Scene Refusal) → IsErrAnd r (λ e. e ≡ DamagedStore) → entered r ≡ Refused DamagedStore
entered-damaged (Ok s) h = absurd h
entered-damaged (Err e) h = ap Refused h
