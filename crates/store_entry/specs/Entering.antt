-- What entering a scene answers, read as an entry. Definitions only.
use Rattle.std.specs.Prelude.{Result, Ok, Err}
use Rattle.paper.specs.declared.Refusal.{Refusal}
use Rattle.store.specs.declared.scenes.Scene.{Scene}
use Rattle.store_entry.specs.Entry.{Entry}
use Rattle.store_entry.specs.Entry.{Root, Refused}

abbrev pub entered : Result Scene Refusal → Entry
entered (Ok scene) = Root scene.depth scene.root
entered (Err refusal) = Refused refusal
