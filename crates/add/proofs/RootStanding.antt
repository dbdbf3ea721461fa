-- The root's record taken into the words of an undamaged store stands as the paper's adding of the file's tree. By the record's law where something follows
-- the head, and by nothing added where nothing does. Assumes nothing.
use mathlib.Core.Path.{◌≡◌, refl, sym, subst}
use mathlib.Core.Bool.{Bool, true, false, false≢true, cond}
use mathlib.Core.List.{List, [], ◌∷◌}
use mathlib.Core.Logic.{inl}
use Prim.Native.Nat.{ℕ, ◌-◌, ◌^◌, ◌<◌}
use native.Mathlib.Omega.{arith}
use lib.Dec.{eqb}
use lib.ListN.{length, drop, get_or, drop_of_length-le}
use lib.Seq.{drop-cons}
use borrow.Author.Tests.{eqb-true, eqb-false}
use Rattle.paper.specs.Outline.{Tree, none, Read, bad, ok, read_record, read_root, read_whole, tree_read, outline_head, file_depth, outline_read, outline_rules, outline_tree}
use Rattle.paper.specs.Store.{Cell, capacity_of, kept_of}
use Rattle.paper.specs.Match.{Adding, add_tree}
use Rattle.paper.specs.Calls.{adding}
use Rattle.paper.specs.Runs.{Bytes}
use Rattle.laws.proofs.Tests.{T_true}
use Rattle.laws.specs.InOrder.{InOrder}
use Rattle.laws.proofs.Undamaged.{depth_low}
use Rattle.laws.proofs.InOrder.{in_order}
use Rattle.laws.proofs.Growing.{ext_refl}
use Rattle.add_records.specs.RecordAdding.{RecordAdding, record_added, add_record}
use Rattle.add_records.proofs.Settings.{Setting, words_with, Good}
use Rattle.add_records.proofs.Standing.{Stands, After}
use Rattle.add_records.proofs.Lasting as lasting
use Rattle.add.specs.SceneAdding.{Ready, add_root}
use Rattle.add.proofs.Roots.{accepted, file-long}

-- the words of a store and the bytes of a file, as they are lent for a scene to be taken
pub record Lent (ws file : List ℕ) : Type 0 where
  pub ready : Ready ws file
  pub words : (i : ℕ) → get_or ws i 0 < 2 ^ 32
  pub bytes : Bytes file

module _ (ws file : List ℕ) (lent : Lent ws file) where
  abbrev D : ℕ
  D = file_depth file

  abbrev K : List (List Cell)
  K = kept_of ws

  -- the store is in order, and its setting with the file
  pub ordered : InOrder ws
  ordered = in_order ws lent.ready.whole lent.words

  abbrev pub setting : Setting
  setting = lasting.setting ws file ordered lent.bytes

  pub good : Good setting K
  good = lasting.good ws file ordered lent.bytes

  pub again : words_with setting K ≡ ws
  again = lasting.again ws file ordered lent.bytes

  abbrev pub Standing : Adding ℕ → RecordAdding → Type 0
  Standing a o = Stands setting K (D - 2) [] a o

  -- the trees that may be read, added
  abbrev AfterAdding : Read Tree → RecordAdding → Type 0
  AfterAdding r o = After setting K (D - 2) r (λ t. add_tree (capacity_of ws) t (D - 2) K) o

  -- ---- a root's record follows the head

  -- a file that is read whole: its tree, and nothing after it
  whole-stands : (r : Read Tree) (o : RecordAdding) → read_whole r ≡ true → AfterAdding r o → Standing (add_tree (capacity_of ws) (tree_read r) (D - 2) K) o
  whole-stands bad o e h = absurd (false≢true e)
  whole-stands (ok t []) o e h = h
  whole-stands (ok t (b ∷ bs)) o e h = absurd (false≢true e)

  rules : read_whole (outline_read file) ≡ true
  unfolding outline_rules
  rules = T_true {b = read_whole (outline_read file)} (accepted file lent.ready.fair).rules

  record-after : AfterAdding (read_record (D - 2) (drop outline_head file)) (add_record file (D - 2) outline_head ws)
  record-after =
      let fair = lent.ready.fair in
      lasting.record-after ws file ordered lent.bytes (D - 2) outline_head (depth_low D (accepted file fair).deep) (file-long file fair)

  root-read : outline_head < length file → read_root (D - 2) (drop outline_head file) ≡ read_record (D - 2) (drop outline_head file)
  unfolding read_root
  root-read l = rw (drop-cons file outline_head 0 l)

  some-stands : outline_head < length file → Standing (add_tree (capacity_of ws) (tree_read (outline_read file)) (D - 2) K) (add_record file (D - 2) outline_head ws)
  some-stands l =
      let o = add_record file (D - 2) outline_head ws in
      whole-stands (outline_read file) o rules (subst (λ (r : Read Tree). AfterAdding r o) (sym (root-read l)) record-after)

  -- ---- nothing follows it

  nothing_read : length file ≡ outline_head → outline_read file ≡ ok none []
  unfolding read_root
  nothing_read e = rw (drop_of_length-le file {i = outline_head} (omega arith))

  none-stands : length file ≡ outline_head → Standing (add_tree (capacity_of ws) (tree_read (outline_read file)) (D - 2) K) (record_added outline_head 0 0 0 ws)
  unfolding add_tree
  none-stands e =
      subst (λ (r : Read Tree). Standing (add_tree (capacity_of ws) (tree_read r) (D - 2) K) (record_added outline_head 0 0 0 ws)) (sym (nothing_read e))
      (record {
        same = refl;
        words = sym again;
        good = good;
        grown = record { ext = ext_refl K; len = refl };
        okp = inl refl;
        symmetry = λ ne. absurd (ne refl);
        solid = refl;
        ends = sym (drop_of_length-le file {i = outline_head} (omega arith));
        within = omega arith;
      })

  -- ---- either

  root_stands : Standing (adding ws file) (add_root file ws)
  unfolding adding outline_tree add_root
  root_stands = go (eqb (length file) outline_head) refl
    where
      go : (b : Bool) → eqb (length file) outline_head ≡ b
          → Standing (add_tree (capacity_of ws) (tree_read (outline_read file)) (D - 2) K) (cond b (record_added outline_head 0 0 0 ws) (add_record file (D - 2) outline_head ws))
      go true e = none-stands (eqb-true (length file) outline_head e)
      go false e = some-stands (omega (arith, file-long file lent.ready.fair, eqb-false (length file) outline_head e))

  pub stands-as : (o : RecordAdding) → add_root file ws ≡ o → Standing (adding ws file) o
  stands-as o e = subst (Standing (adding ws file)) e root_stands
