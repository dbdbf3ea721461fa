-- The rules of a whole file by the position at which its root's record ends. From the agreement of the readers.
-- Assumes nothing.
use mathlib.Core.Path.{◌≡◌, refl, sym, ap, ◌∙◌}
use mathlib.Core.Bool.{Bool, true, false, not}
use mathlib.Core.List.{List, [], ◌∷◌}
use Prim.Native.Nat.{ℕ, ◌-◌, ◌<◌}
use native.Mathlib.Omega.{arith}
use borrow.Author.Tests.{eq-eqb, ne_eqb}
use lib.Dec.{eqb}
use lib.ListN.{length, drop, length-drop, drop_of_length-le}
use lib.Seq.{drop-cons}
use Rattle.paper.specs.Outline.{outline_head, file_depth, Tree, Read, bad, ok, read_record, read_root, read_whole, outline_rules}
use Rattle.outline.specs.Positions.{Reading}
use Rattle.outline.specs.Positions.{Broken, EndsAt}
use Rattle.outline.specs.Positions.{record_at, Agrees}
use Rattle.outline.proofs.Agreeing.{record-agrees}

module _ (file : List ℕ) where
  -- 'nothing follows': the position is the file's length
  abbrev ends_there : Reading → Bool
  ends_there Broken = false
  ends_there (EndsAt p) = eqb p (length file)

  whole-ends : (x : Reading) (r : Read Tree) → Agrees file x r → read_whole r ≡ ends_there x
  whole-ends Broken bad h = refl
  whole-ends Broken (ok t bs) h = absurd h
  whole-ends (EndsAt p) bad h = absurd h
  whole-ends (EndsAt p) (ok t []) h = sym (eq-eqb p (length file) (omega (arith, length-drop p file, ap length h.0)))
  whole-ends (EndsAt p) (ok t (b ∷ bs)) h = sym (ne_eqb p (length file) (λ e. omega (arith, length-drop p file, ap length h.0)))

  root-record : (k : ℕ) → outline_head < length file → read_root k (drop outline_head file) ≡ read_record k (drop outline_head file)
  unfolding read_root
  root-record k l = rw (drop-cons file outline_head 0 l)

  pub rules-nothing : length file ≡ outline_head → outline_rules file ≡ true
  unfolding outline_rules read_root
  rules-nothing e = rw (drop_of_length-le file {i = outline_head} (omega arith))

  -- a root's record of the height that byte 5 says
  module _ (D : ℕ) (deep : D ≡ file_depth file) (l : outline_head < length file) where
    rules-by-end : outline_rules file ≡ ends_there (record_at file (D - 2) outline_head)
    unfolding outline_rules
    rules-by-end =
        rw (← deep, root-record (D - 2) l)
        (whole-ends (record_at file (D - 2) outline_head) (read_record (D - 2) (drop outline_head file)) (record-agrees file (D - 2) outline_head (omega arith)))

    pub rules-stop : record_at file (D - 2) outline_head ≡ Broken → outline_rules file ≡ false
    rules-stop e = rules-by-end ∙ ap ends_there e

    pub rules-broken : record_at file (D - 2) outline_head ≡ Broken → not (outline_rules file) ≡ true
    rules-broken e = ap not (rules-stop e)

    pub rules-end : (p : ℕ) → record_at file (D - 2) outline_head ≡ EndsAt p → outline_rules file ≡ eqb p (length file)
    rules-end p e = rules-by-end ∙ ap ends_there e
