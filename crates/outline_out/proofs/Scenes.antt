-- A scene's file in its parts, in the code's words: what a scene held says of its two words, a root's record, and the head with the record behind it. By
-- the tests of an undamaged store and whether the root is there. Assumes nothing.
use mathlib.Core.Path.{◌≡◌, refl, sym, ap, ap₂, ◌∙◌}
use mathlib.Core.Bool.{Bool, cond}
use mathlib.Core.List.{List, [], ◌++◌}
use Prim.Native.Nat.{ℕ, ◌+◌, ◌-◌, ◌≤◌, ◌<◌}
use native.Mathlib.Omega.{arith}
use lib.ListN.{length, length-append}
use borrow.Author.Tests.{eq-eqb, ne_eqb}
use Rattle.paper.specs.Outline.{outline_version, outline_head}
use Rattle.paper.specs.Store.{Cell, most_scenes, kept_count, kept_of, tag_of, cell_no, scene_depth, scene_root}
use Rattle.laws.proofs.StoreFacts.{scene_sound_lem, names-kept, depth-range}
use Rattle.laws.proofs.Undamaged.{store-header, held-placed}
use Rattle.laws.proofs.Matching.{tag-lt}
use Rattle.store.proofs.HeaderFacts.{header}
use Rattle.file_head.specs.Heads.{head_of}
use Rattle.file_head.proofs.HeadWritten.{head-length}
use Rattle.outline_measure.specs.Measure.{Kept, measure_at}
use Rattle.outline_record.specs.Record.{record_at}
use Rattle.outline_record.proofs.Lengths.{record-length}
use Rattle.outline_out.specs.File.{Root, Scene, root_at, file_at, scene_file}

-- ---- a root

pub root-low : {ws : List ℕ} {D p : ℕ} → Root ws D p → 2 ≤ D
root-low {D} r = (depth-range D r.deep).0

pub root-high : {ws : List ℕ} {D p : ℕ} → Root ws D p → D ≤ 16
root-high {D} r = (depth-range D r.deep).1

-- a root that is there names a kept cell
pub root_kept : (ws : List ℕ) (D p q : ℕ) → Root ws D p → (p ≡ 0 → ⊥) → q ≡ cell_no p → Kept ws (D - 2) q
root_kept ws D p q r z e =
    rw e (record { whole = r.whole; list = omega (arith, root-low r, root-high r); number = names-kept (kept_count ws (D - 2)) p r.sound (ne_eqb p 0 z) })

-- its record
module _ (K : List (List Cell)) (D p : ℕ) where
  pub root_none : p ≡ 0 → root_at K D p ≡ []
  unfolding root_at
  root_none e = ap (λ (b : Bool). cond b [] (record_at K (D - 2) (cell_no p) (tag_of p))) (eq-eqb p 0 e)

  pub root-there : (q s : ℕ) → (p ≡ 0 → ⊥) → q ≡ cell_no p → s ≡ tag_of p → root_at K D p ≡ record_at K (D - 2) q s
  unfolding root_at
  root-there q s z e f = ap (λ (b : Bool). cond b [] (record_at K (D - 2) (cell_no p) (tag_of p))) (ne_eqb p 0 z) ∙ sym (ap₂ (record_at K (D - 2)) e f)

  pub root-length : (q : ℕ) → (p ≡ 0 → ⊥) → q ≡ cell_no p → length (root_at K D p) ≡ measure_at K (D - 2) q
  root-length q z e = ap length (root-there q (tag_of p) z e refl) ∙ record-length K (D - 2) q (tag_of p) (tag-lt p)

  long : length (file_at K D p) ≡ outline_head + length (root_at K D p)
  unfolding file_at
  long =
      length-append (head_of outline_version (outline_head + length (root_at K D p)) D) (root_at K D p)
      ∙ ap (λ (x : ℕ). x + length (root_at K D p)) (head-length outline_version (outline_head + length (root_at K D p)) D)

  parts : file_at K D p ≡ head_of outline_version (length (file_at K D p)) D ++ root_at K D p
  unfolding file_at
  parts = ap (λ (n : ℕ). head_of outline_version n D ++ root_at K D p) (sym long)

-- ---- a scene held

pub scene-few : (ws : List ℕ) (n : ℕ) → Scene ws n → n < most_scenes
scene-few ws n s = held-placed ws n (header ws (store-header ws s.whole)).scenes s.held

module _ (ws : List ℕ) (n D p : ℕ) (deep : D ≡ scene_depth ws n) (names : p ≡ scene_root ws n) where
  pub scene_root_lem : Scene ws n → Root ws D p
  scene_root_lem s =
      let h = scene_sound_lem ws s.whole n s.held in
      rw (deep, names) (record { whole = s.whole; deep = h.0; sound = h.1 })

  -- its file: the head, and the root's record
  pub file_length_lem : length (scene_file ws n) ≡ outline_head + length (root_at (kept_of ws) D p)
  file_length_lem = rw (deep, names) (long (kept_of ws) (scene_depth ws n) (scene_root ws n))

  pub file-parts : (total : ℕ) → total ≡ length (scene_file ws n) → scene_file ws n ≡ head_of outline_version total D ++ root_at (kept_of ws) D p
  file-parts total e = rw (e, deep, names) (parts (kept_of ws) (scene_depth ws n) (scene_root ws n))
