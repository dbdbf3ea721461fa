-- The children of a record taken in turn, whatever its height: what holds before child i, and each way of a turn. By the clauses of taking and of
-- reading by position. Assumes nothing.
use mathlib.Core.Path.{◌≡◌, refl, sym, ap, ◌∙◌}
use mathlib.Core.List.{List}
use Prim.Native.Nat.{ℕ, ◌+◌, ◌-◌, ◌*◌, ◌/◌, ◌%◌, ◌^◌, ◌<◌, ◌≤◌}
use native.Mathlib.Omega.{arith}
use lib.ListN.{length, get_or, set, replicate, length-set, get_or-replicate}
use Rattle.paper.specs.Runs.{Bytes}
use Rattle.laws.specs.Chains.{NamesCells}
use Rattle.laws.specs.InOrder.{InOrder}
use Rattle.outline.specs.Positions.{children_at, record_at}
use Rattle.add_cells.specs.CellAdding.{CellAdding, add_cell_in}
use Rattle.add_records.specs.RecordAdding.{record_added, record_full, ending_at, add_children, add_record, Whole, AtRecord}
use Rattle.add_records.proofs.Ways.{children-none, children-skip, children-full, children-next, record-inner}
use Rattle.add_records.proofs.Wholes.{whole-inner, whole-skip, whole_here, whole-next, record-ended}
use Rattle.add_records.proofs.Lasting.{Lasts, record-lasts, whole-within, names-set}
use Rattle.add_records.proofs.CubeBound.{child-most}

-- before child i of the record of a cell of height h, at a position of the file, its children in list h - 1 - 2, the store ws₀ before the first: the
-- children left are whole, the store is in order, the pointers of those before it name cells, they have at most a cube of solid voxels each, and taking the
-- rest comes to the record
pub record Turn (file ws₀ : List ℕ) (at h : ℕ) (ws cell symmetries : List ℕ) (mask next solid i : ℕ) : Type 0 where
  pub whole : Whole (children_at (record_at file (h - 1 - 2)) (8 - i) mask next)
  pub order : InOrder ws
  pub names : NamesCells cell
  pub eight : length cell ≡ 8
  pub same_length : length ws ≡ length ws₀
  pub few : solid ≤ i * 8 ^ 15
  pub rest : add_children (add_record file (h - 1 - 2)) (h - 2) (8 - i) mask next cell symmetries solid ws ≡ add_record file (h - 2) at ws₀

module _ {file ws₀ : List ℕ} {at h : ℕ} (inner : 3 ≤ h) (here : AtRecord file ws₀ at h) where
  -- its mask is there
  pub turn-mask : at < length file
  turn-mask = (whole-inner file h at inner here.whole).0

  pub turn-first : Turn file ws₀ at h ws₀ (replicate 8 0) (replicate 8 0) (get_or file at 0) (at + 1) 0 0
  turn-first = record {
    whole = (whole-inner file h at inner here.whole).1;
    order = here.store;
    names = λ j l ne. absurd (ne (get_or-replicate 8 j 0 0 l));
    eight = refl;
    same_length = refl;
    few = omega arith;
    rest = sym (record-inner file h at ws₀ inner);
  }

  -- child i is next
  module _ {ws cell symmetries : List ℕ} {mask next solid i : ℕ} (t : Turn file ws₀ at h ws cell symmetries mask next solid i) where
    pub turn_last : 8 ≤ i → {x : CellAdding} → x ≡ add_cell_in (h - 2) cell symmetries solid ws → ending_at next solid x ≡ add_record file (h - 2) at ws₀
    turn_last l e = ap (ending_at next solid) e ∙ sym (children-none _ _ _ _ _ _ _ _ _ l) ∙ t.rest

    module _ (l : i < 8) where
      -- it is not called for
      pub turn-skip : mask % 2 ≡ 0 → Turn file ws₀ at h ws cell symmetries (mask / 2) next solid (i + 1)
      turn-skip e = record {
        whole = whole-skip _ _ _ _ l t.whole e;
        order = t.order;
        names = t.names;
        eight = t.eight;
        same_length = t.same_length;
        few = omega (arith, t.few);
        rest = sym (children-skip _ _ _ _ _ _ _ _ _ l e) ∙ t.rest;
      }

      -- it is called for
      module _ (odd : mask % 2 ≡ 0 → ⊥) where
        child-whole : Whole (record_at file (h - 1 - 2) next)
        child-whole = whole_here _ _ _ _ l t.whole odd

        pub turn-child : AtRecord file ws next (h - 1)
        turn-child = record { low = omega arith; high = omega (arith, here.high); whole = child-whole; store = t.order }

        pub turn-full : {u : List ℕ} → add_record file (h - 1 - 2) next ws ≡ record_full u → record_full u ≡ add_record file (h - 2) at ws₀
        turn-full e = sym (children-full _ _ _ _ _ _ _ _ _ l odd _ e) ∙ t.rest

        module _ {u : List ℕ} {end p s n : ℕ} (e : add_record file (h - 1 - 2) next ws ≡ record_added end p s n u) where
          child-few : n ≤ 8 ^ 15
          child-few = child-most file (h - 1 - 2) next ws u end p s n (omega (arith, here.high)) e

          pub turn-few : solid + n ≤ (i + 1) * 8 ^ 15
          turn-few = omega (arith, child-few, t.few)

          pub turn-next : Bytes file → length u ≡ length ws → Turn file ws₀ at h u (set cell i p) (set symmetries i s) (mask / 2) end (solid + n) (i + 1)
          turn-next bytes same =
              let r : Lasts ws file t.order bytes u p =
              record-lasts ws file t.order bytes (h - 1 - 2) end p s n u next (omega (arith, here.high)) (whole-within file (h - 1) next (omega arith) child-whole) child-whole e
              in record {
                whole = whole-next _ _ _ _ l t.whole odd end (record-ended file (h - 1 - 2) next ws u end p s n child-whole e);
                order = r.order;
                names = names-set cell i p (omega (arith, t.eight)) t.names r.number;
                eight = length-set cell i p ∙ t.eight;
                same_length = same ∙ t.same_length;
                few = turn-few;
                rest = sym (children-next _ _ _ _ _ _ _ _ _ l odd u end p s n e) ∙ t.rest;
              }
