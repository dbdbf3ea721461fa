-- A voxel question past the scene's tests: outside, or told by the end of its walk; and its whole outcome. By cases on the tests. Assumes nothing.
use mathlib.Core.Path.{◌≡◌, sym, ap, ap₂, ◌∙◌}
use mathlib.Core.Bool.{not, ◌&&◌}
use mathlib.Core.List.{List, [], ◌∷◌}
use Prim.Native.Nat.{ℕ, ◌^◌}
use borrow.Author.Tests.{ne_eqb}
use lib.Dec.{T, eqb, ltb, ltb→lt}
use Rattle.paper.specs.Rooms.{Point, Inside, inside}
use Rattle.paper.specs.Store.{Cell, scene_depth, scene_root, kept_of}
use Rattle.paper.specs.Answers.{told, outcome, number_of}
use Rattle.paper.specs.Calls.{voxel_outside, voxel_damaged, voxel_outcome}
use Rattle.paper.specs.declared.Refusal.{Refusal}
use Rattle.paper.specs.Walk.{End, is_damaged, root_walk}
use Rattle.paper.specs.Questions.{child_for, kept_reading, voxel_walk}
use Rattle.laws.proofs.Tests.{T_true, true-T, not-not, and_left, and_right}
use Rattle.walk.specs.Walk.{Absent, end_of, voxel_values, end_told, voxel_told}
use Rattle.store_entry.specs.Entry.{Refused}
use Rattle.store_entry.proofs.Asked.{refused_by}
use Rattle.store_entry.proofs.Entries.{Entered, Says, past-outside, past-inside, past-settled}

pub not_none : (p : ℕ) → (p ≡ 0 → ⊥) → T (not (eqb p 0))
not_none p z = true-T (ap not (ne_eqb p 0 z))

pub is-inside : (S : ℕ) (v : Point) → T (inside S v) → Inside S v
is-inside S v t =
    let a : T (ltb v.x S && ltb v.y S) = and_left (ltb v.x S && ltb v.y S) (ltb v.z S) t in
    record {
      in_x = ltb→lt v.x S (and_left (ltb v.x S) (ltb v.y S) a);
      in_y = ltb→lt v.y S (and_right (ltb v.x S) (ltb v.y S) a);
      in_z = ltb→lt v.z S (and_right (ltb v.x S && ltb v.y S) (ltb v.z S) t);
    }

module _ (K : List (List Cell)) (D p : ℕ) (v : Point) where
  abbrev end : End
  end = (voxel_walk K D p v).end

  pub voxel_outside_lem : T (not (inside (2 ^ D) v)) → told 10 (0 ∷ 0 ∷ []) ≡ voxel_told K D p v
  voxel_outside_lem = past-outside (not (inside (2 ^ D) v)) (is_damaged end) (voxel_values end)

  pub voxel-inside : T (inside (2 ^ D) v) → end_told end ≡ voxel_told K D p v
  voxel-inside i = past-inside (not (inside (2 ^ D) v)) (is_damaged end) (voxel_values end) (true-T (not-not (inside (2 ^ D) v) ∙ T_true {b = inside (2 ^ D) v} i))

-- an absent root
pub voxel-none : (K : List (List Cell)) (D p : ℕ) (v : Point) → p ≡ 0 → end_of K v (Absent D) ≡ (voxel_walk K D p v).end
unfolding voxel_walk
voxel-none K D p v e = ap (λ (q : ℕ). (root_walk (kept_reading K) D (child_for q) v).end) (sym e)

-- ---- the whole outcome of a voxel question

pub voxel-settled : (ws : List ℕ) (n D p : ℕ) (v : Point) → Entered ws n D p → outcome (voxel_told (kept_of ws) D p v) [] ≡ voxel_outcome ws n v
unfolding voxel_outcome voxel_outside voxel_damaged
voxel-settled ws n D p v e =
    ap₂ (λ (d q : ℕ). outcome (voxel_told (kept_of ws) d q v) []) e.depth e.root
    ∙ past-settled e (not (inside (2 ^ scene_depth ws n) v)) (is_damaged (voxel_walk (kept_of ws) (scene_depth ws n) (scene_root ws n) v).end) (voxel_values (voxel_walk (kept_of ws) (scene_depth ws n) (scene_root ws n) v).end)

pub voxel-refused : (ws : List ℕ) (n : ℕ) (v : Point) (r : Refusal) → Says ws n (Refused r) → refused_by (number_of r) (0 ∷ 0 ∷ []) ≡ voxel_outcome ws n v
unfolding voxel_outcome voxel_outside voxel_damaged
voxel-refused ws n v r s =
    s (not (inside (2 ^ scene_depth ws n) v)) (is_damaged (voxel_walk (kept_of ws) (scene_depth ws n) (scene_root ws n) v).end) (voxel_values (voxel_walk (kept_of ws) (scene_depth ws n) (scene_root ws n) v).end)
