-- What an accepted file says of its root: the head is there, the depth is in range, and where something follows the head the root's record is read to the
-- end. And the two ways of adding the root. Assumes nothing.
use mathlib.Core.Path.{◌≡◌, refl, sym, ◌∙◌, ap}
use mathlib.Core.Bool.{false≢true, not}
use mathlib.Core.List.{List, []}
use Prim.Native.Nat.{ℕ, ◌-◌, ◌≤◌}
use native.Mathlib.Omega.{arith}
use lib.Dec.{leb→le, leb}
use lib.ListN.{length}
use borrow.Author.Tests.{ne_eqb}
use Rattle.paper.specs.Rooms.{least, deepest}
use Rattle.paper.specs.Outline.{outline_head, file_depth, outline_rules}
use Rattle.paper.specs.Order.{first_number}
use Rattle.paper.specs.Calls.{outline_order}
use Rattle.laws.proofs.Tests.{T_true, and_left, and_right}
use Rattle.laws.proofs.Outlines.{Accepted}
use Rattle.laws.proofs.OutlineClaim.{file-accepted}
use Rattle.outline.specs.Positions.{Reading}
use Rattle.outline.specs.Positions.{Broken, EndsAt}
use Rattle.outline.specs.Positions.{record_at}
use Rattle.outline.proofs.Refusals.{rules-broken}
use Rattle.add_records.specs.RecordAdding.{record_added, add_record, Whole}
use Rattle.add.specs.SceneAdding.{add_root}

module _ (file : List ℕ) (fair : first_number (outline_order file) ≡ 0) where
  pub accepted : Accepted file
  accepted = (file-accepted file [] fair).0

  pub file-long : outline_head ≤ length file
  file-long = leb→le outline_head (length file) (and_left (leb outline_head (length file)) _ accepted.long)

  pub file-deep : (least ≤ file_depth file) × (file_depth file ≤ deepest)
  file-deep =
      let D : ℕ = file_depth file in
      (leb→le least D (and_left (leb least D) (leb D deepest) accepted.deep), leb→le D deepest (and_right (leb least D) (leb D deepest) accepted.deep))

  pub root-whole : (length file ≡ outline_head → ⊥) → (D : ℕ) → D ≡ file_depth file → Whole (record_at file (D - 2) outline_head)
  root-whole ne D e = go (record_at file (D - 2) outline_head) refl
    where
      go : (r : Reading) → record_at file (D - 2) outline_head ≡ r → Whole r
      go Broken b =
          false≢true (sym (ap not (T_true {b = outline_rules file} accepted.rules)) ∙ rules-broken file D e (omega (arith, file-long, ne)) b)
      go (EndsAt p) b = tt

-- ---- the two ways

module _ (file ws : List ℕ) where
  pub root_none : length file ≡ outline_head → add_root file ws ≡ record_added outline_head 0 0 0 ws
  unfolding add_root
  root_none e = rw e

  pub root-some : (D : ℕ) → (length file ≡ outline_head → ⊥) → D ≡ file_depth file → add_root file ws ≡ add_record file (D - 2) outline_head ws
  unfolding add_root
  root-some D ne e = rw (ne_eqb (length file) outline_head ne, e)
