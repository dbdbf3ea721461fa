-- What the commands of a script say of their answers: that they stay inside the script and the memory. Definitions only.
use Rattle.std.specs.Prelude.{ℕ, ◌+◌, ◌≤◌, List, length}
use Rattle.script.specs.declared.asks.Memory.{Memory}
use Rattle.script.specs.declared.asks.Asked.{Asked}

-- what a command asks for lies in what is left of the script and in the memory that there is
pub record Fits (asked : Asked) (left : ℕ) (most : Memory) : Type 0 where
  pub ordered : asked.from ≤ asked.end
  pub inside : asked.end ≤ left
  pub words_fit : asked.part.words ≤ most.words
  pub size_fits : asked.part.size ≤ most.size
  pub room_fits : asked.part.room ≤ most.room
  pub scratch_fits : asked.part.scratch ≤ most.scratch

-- what a command asks for lies in these bytes of the script and these memories
pub record Parts (asked : Asked) (given store file out scratch : List ℕ) : Type 0 where
  pub ordered : asked.from ≤ asked.end
  pub inside : asked.end ≤ length given
  pub words_fit : asked.part.words ≤ length store
  pub size_fits : asked.part.size ≤ length file
  pub room_fits : asked.part.room ≤ length out
  pub scratch_fits : asked.part.scratch ≤ length scratch

-- the place lies in the script, the words in the store and the bytes in the file, and the text has room for a line
pub record Inside (script store file text : List ℕ) (at words size used : ℕ) : Type 0 where
  pub place : at ≤ length script
  pub words_fit : words ≤ length store
  pub size_fits : size ≤ length file
  pub room : used + 1000 ≤ length text
