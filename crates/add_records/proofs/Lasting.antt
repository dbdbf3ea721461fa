-- A store in order is the words of its lists, whose cells are ok; so it is in order after a record that is read to the end and taken, and the pointer that is
-- answered names a cell or is none. By what taking a record comes to on the words of lists. Assumes nothing.
use mathlib.Core.Path.{◌≡◌, sym, subst}
use mathlib.Core.List.{List}
use Prim.Native.Nat.{ℕ, ◌-◌, ◌<◌, ◌≤◌}
use native.Mathlib.Decide.{ℕ_discrete}
use native.Mathlib.Omega.{arith}
use lib.ListN.{length, drop, get_or, set}
use lib.Seq.{get_or-set_same, get_or-set_other}
use Rattle.paper.specs.Outline.{Tree, Read, bad, ok, read_record}
use Rattle.paper.specs.Store.{Cell, cells_at, low_of, heights, used, capacity_of, scenes_held, kept_of, store_of}
use Rattle.paper.specs.Match.{Adding, full, added, add_tree}
use Rattle.paper.specs.Runs.{Bytes}
use Rattle.laws.specs.Chains.{NamesCells}
use Rattle.laws.specs.InOrder.{InOrder}
use Rattle.laws.proofs.InOrder.{order-header, order-fine, order-sound, order-stored, stored-in-order}
use Rattle.laws.proofs.Keys.{HasNumber, ok-number}
use Rattle.outline.specs.Positions.{record_at, Agrees}
use Rattle.outline.specs.Positions.{Reading}
use Rattle.outline.specs.Positions.{Broken, EndsAt}
use Rattle.outline.proofs.Agreeing.{record-agrees}
use Rattle.add_records.specs.RecordAdding.{RecordAdding, record_added, add_record, Whole}
use Rattle.add_records.proofs.Settings.{Setting, words_with, Good}
use Rattle.add_records.proofs.Standing.{Stands, After}
use Rattle.add_records.proofs.RecordStanding.{record-stands}
use Rattle.add_records.proofs.Wholes.{whole-leaf, whole-inner}

-- ---- the setting of a store in order

module _ (ws file : List ℕ) (o : InOrder ws) (bytes : Bytes file) where
  abbrev pub setting : Setting
  setting = record {
    capacity = capacity_of ws;
    capacity_ok_lem = (order-header ws o).capacity;
    held = scenes_held ws;
    places = (store_of ws).scenes;
    behind = drop (used (capacity_of ws)) ws;
    file = file;
    bytes = bytes;
  }

  pub good : Good setting (kept_of ws)
  good = record { sound = order-sound ws o; fine = order-fine ws o }

  pub again : words_with setting (kept_of ws) ≡ ws
  again = order-stored ws o

  -- the trees that may be read of list k, added
  abbrev pub AfterAdding : ℕ → Read Tree → RecordAdding → Type 0
  AfterAdding k r x = After setting (kept_of ws) k r (λ t. add_tree (capacity_of ws) t k (kept_of ws)) x

  pub record-after : (k at : ℕ) → k < heights → at ≤ length file → AfterAdding k (read_record k (drop at file)) (add_record file k at ws)
  record-after k at h l =
      subst (λ (w : List ℕ). AfterAdding k (read_record k (drop at file)) (add_record file k at w)) again (record-stands setting k h at (kept_of ws) l good)

  -- ---- after a record

  -- the store is in order, and a pointer has a number or is none
  pub record Lasts (u : List ℕ) (p : ℕ) : Type 0 where
    pub order : InOrder u
    pub number : HasNumber p

  module _ (k next p s n : ℕ) (u : List ℕ) where
    lasts-added : (a : Adding ℕ) (rest : List ℕ) → Stands setting (kept_of ws) k rest a (record_added next p s n u) → Lasts u p
    lasts-added full rest t = absurd t
    lasts-added (added q K') rest t = record {
      order = subst InOrder (sym t.words)
          (stored-in-order (capacity_of ws) (scenes_held ws) (store_of ws).scenes K' t.good.fine (order-header ws o).capacity t.good.sound.ok (drop (used (capacity_of ws)) ws));
      number = subst HasNumber (sym t.same) (ok-number (length (cells_at K' k)) q t.okp);
    }

    lasts-read : (x : Reading) (r : Read Tree) → Whole x → Agrees file x r → AfterAdding k r (record_added next p s n u) → Lasts u p
    lasts-read Broken r w a t = absurd w
    lasts-read (EndsAt q) bad w a t = absurd a
    lasts-read (EndsAt q) (ok tree rest) w a t = lasts-added (add_tree (capacity_of ws) tree k (kept_of ws)) rest t

    pub record-lasts : (at : ℕ) → k < heights → at ≤ length file → Whole (record_at file k at) → add_record file k at ws ≡ record_added next p s n u → Lasts u p
    record-lasts at h l w e =
        lasts-read (record_at file k at) (read_record k (drop at file)) w (record-agrees file k at l) (subst (AfterAdding k (read_record k (drop at file))) e (record-after k at h l))

-- ---- a whole record is in the file

pub whole-within : (file : List ℕ) (h at : ℕ) → 2 ≤ h → Whole (record_at file (h - 2) at) → at ≤ length file
whole-within file h at l w = go (ℕ_discrete h 2)
  where
    go : Dec (h ≡ 2) → at ≤ length file
    go (yes e) = omega (arith, whole-leaf file h at e w)
    go (no n) = omega (arith, (whole-inner file h at (omega arith) w).0)

-- ---- a pointer more in a cell

pub names-set : (c : Cell) (i p : ℕ) → i < length c → NamesCells c → HasNumber p → NamesCells (set c i p)
names-set c i p h names n j hj = go (ℕ_discrete j i)
  where
    go : Dec (j ≡ i) → (get_or (set c i p) j 0 ≡ 0 → ⊥) → 1 ≤ low_of (get_or (set c i p) j 0)
    go (yes e) = rw (e, get_or-set_same c i p 0 h) n
    go (no ne) = rw (get_or-set_other c i j p 0 ne) (names j hj)
