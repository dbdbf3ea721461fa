-- What stays as it is while a file's records are taken into a store, and what holds of its lists at every step. Definitions only.
use mathlib.Core.List.{List}
use Prim.Native.Nat.{ℕ}
use lib.Dec.{T}
use Rattle.paper.specs.Store.{Cell, capacity_ok}
use Rattle.paper.specs.Runs.{Bytes}
use Rattle.laws.proofs.Words.{Fine, stored}
use Rattle.laws.proofs.Adding.{Sound}

-- a store's capacity, how many scenes it holds and their places, the words behind it; and a file
pub record Setting : Type 0 where
  pub capacity : ℕ
  pub capacity_ok_lem : T (capacity_ok capacity)
  pub held : ℕ
  pub places : List Cell
  pub behind : List ℕ
  pub file : List ℕ
  pub bytes : Bytes file

module _ (g : Setting) (K : List (List Cell)) where
  -- the words of the store with these lists, and what is behind it
  abbrev pub words_with : List ℕ
  words_with = stored g.capacity g.held g.places K g.behind

  -- the lists fit the store
  abbrev pub Fitting : Type 0
  Fitting = Fine g.capacity g.held g.places K

  -- they fit, and their cells are as adding leaves them
  pub record Good : Type 0 where
    pub sound : Sound g.capacity K
    pub fine : Fitting
