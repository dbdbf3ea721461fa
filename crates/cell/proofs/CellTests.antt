-- A cell question past the scene's tests: outside, an absent root, or the end of its walk; and its whole outcome. By the laws of cell questions from a
-- root. Assumes nothing.
use mathlib.Core.Path.{◌≡◌, refl, sym, ap, ap₂, ◌∙◌}
use mathlib.Core.Bool.{Bool, true, false, cond, not, ◌||◌}
use mathlib.Core.List.{List, [], ◌∷◌}
use Prim.Native.Nat.{ℕ, zero, suc, ◌-◌, ◌^◌, ◌<◌, ◌≤◌}
use native.Mathlib.Omega.{arith}
use borrow.Author.Tests.{le-leb, lt-leb}
use lib.Dec.{T, eqb, leb}
use Rattle.paper.specs.Numbers.{bit_for}
use Rattle.paper.specs.Rooms.{Point, Inside, inside, depth_ok, cell_of, non_empty}
use Rattle.paper.specs.Store.{Cell, tag_of, cell_no, scene_depth, scene_root, kept_of}
use Rattle.paper.specs.Meaning.{root_room}
use Rattle.paper.specs.Answers.{told, outcome, number_of}
use Rattle.paper.specs.Questions.{corner, pointer_to, cell_non_empty, cell_walk_damaged, from_root, walk_damaged}
use Rattle.paper.specs.Calls.{cell_outside, cell_damaged, cell_outcome}
use Rattle.paper.specs.declared.Refusal.{Refusal}
use Rattle.laws.proofs.OutlineCells.{no-voxel-empty}
use Rattle.laws.proofs.Tests.{T_true, true-T, not-not}
use Rattle.walk.specs.Walk.{Ended, Damaged, walk_to}
use Rattle.cell.specs.Cell.{cell_end, small_at, told_by, cell_out, cell_asked, cell_told}
use Rattle.store_entry.specs.Entry.{Refused}
use Rattle.store_entry.specs.Entry.{past_entry}
use Rattle.store_entry.proofs.Asked.{refused_by}
use Rattle.store_entry.proofs.Entries.{Entered, Says, past-outside, past-inside, past-settled}
use Rattle.cell.proofs.Pointers.{told-end, none_stays}
use Rattle.cell.proofs.Cells.{corner-inside, pointer-root, small-root}

-- which of the two decides
full-high : (K : List (List Cell)) (D p h : ℕ) (c : Point) → 2 ≤ h → cell_non_empty K D p h c ≡ not (eqb (pointer_to K (h - 2) (D - 2) p (corner h c)) 0)
unfolding cell_non_empty
full-high K D p h c l = ap (λ (b : Bool). cond b (not (eqb (pointer_to K (h - 2) (D - 2) p (corner h c)) 0)) (non_empty (2 ^ h) (cell_of (root_room K D p) h c))) (le-leb 2 h l)

full-low : (K : List (List Cell)) (D p h : ℕ) (c : Point) → h < 2 → cell_non_empty K D p h c ≡ non_empty (2 ^ h) (cell_of (root_room K D p) h c)
unfolding cell_non_empty
full-low K D p h c l = ap (λ (b : Bool). cond b (not (eqb (pointer_to K (h - 2) (D - 2) p (corner h c)) 0)) (non_empty (2 ^ h) (cell_of (root_room K D p) h c))) (lt-leb 2 h l)

-- ---- an absent root

none-full : (K : List (List Cell)) (D h : ℕ) (c : Point) → cell_non_empty K D 0 h c ≡ false
unfolding cell_non_empty root_room
none-full K D h c =
    ap (λ (q : ℕ). cond (leb 2 h) (not (eqb q 0)) (non_empty (2 ^ h) (λ v. false))) (none_stays K (h - 2) (D - 2) (corner h c))
    ∙ ap (cond (leb 2 h) false) (no-voxel-empty (2 ^ h)) ∙ same (leb 2 h)
  where
    same : (b : Bool) → cond b false false ≡ false
    same true = refl
    same false = refl

pub cell-none : (K : List (List Cell)) (D p h : ℕ) (c : Point) → p ≡ 0 → told 0 (0 ∷ []) ≡ cell_asked K D p h c
cell-none K D p h c e = ap (λ (b : Bool). told 0 (bit_for b ∷ [])) (sym (none-full K D h c)) ∙ ap (λ (q : ℕ). cell_asked K D q h c) (sym e)

-- ---- the end of its walk

pub cell-high : (K : List (List Cell)) (D p h : ℕ) (c : Point) → T (depth_ok D) → 2 ≤ h → h ≤ D → Inside (2 ^ (D - h)) c → T (not (eqb p 0))
    → told_by (cell_end (walk_to K (h - 2) (D - 2) (cell_no p) (tag_of p) (corner h c))) ≡ cell_asked K D p h c
cell-high K D p h c d l m i z =
    ap told_by (pointer-root K (h - 2) D p (corner h c) d (corner-inside D h c m i) z)
    ∙ told-end (cell_walk_damaged K D p h c) (not (eqb (pointer_to K (h - 2) (D - 2) p (corner h c)) 0))
    ∙ ap (λ (b : Bool). past_entry false (cell_walk_damaged K D p h c) (bit_for b ∷ [])) (sym (full-high K D p h c l))

pub cell-low : (K : List (List Cell)) (D p h : ℕ) (c : Point) → T (depth_ok D) → h < 2 → h ≤ D → Inside (2 ^ (D - h)) c → T (not (eqb p 0))
    → told_by (small_at K h (corner h c) (walk_to K (h - 2) (D - 2) (cell_no p) (tag_of p) (corner h c))) ≡ cell_asked K D p h c
cell-low K D p h c d l m i z =
    let e : h - 2 ≡ 0 = omega arith in
    ap (λ (s : ℕ). told_by (small_at K h (corner h c) (walk_to K s (D - 2) (cell_no p) (tag_of p) (corner h c)))) e
    ∙ ap told_by (small-root K D p h c d l m i z)
    ∙ told-end (from_root (walk_damaged K 0) K D p (corner h c)) (non_empty (2 ^ h) (cell_of (root_room K D p) h c))
    ∙ ap₂ (λ (s : ℕ) (b : Bool). past_entry false (from_root (walk_damaged K s) K D p (corner h c)) (bit_for b ∷ [])) (sym e) (sym (full-low K D p h c l))

-- damage on the way to its list, or to its leaf
pub cell-met : (K : List (List Cell)) (D p h : ℕ) (c : Point) → T (depth_ok D) → h ≤ D → Inside (2 ^ (D - h)) c → T (not (eqb p 0))
    → Damaged ≡ walk_to K (h - 2) (D - 2) (cell_no p) (tag_of p) (corner h c) → told 2 (0 ∷ []) ≡ cell_asked K D p h c
cell-met K D p zero c d m i z e = ap (λ (r : Ended). told_by (small_at K 0 (corner 0 c) r)) e ∙ cell-low K D p 0 c d (omega arith) m i z
cell-met K D p (suc zero) c d m i z e = ap (λ (r : Ended). told_by (small_at K 1 (corner 1 c) r)) e ∙ cell-low K D p 1 c d (omega arith) m i z
cell-met K D p (suc (suc h)) c d m i z e = ap (λ (r : Ended). told_by (cell_end r)) e ∙ cell-high K D p (suc (suc h)) c d (omega arith) m i z

-- ---- outside

module _ (K : List (List Cell)) (D p h : ℕ) (c : Point) where
  pub cell-above : D < h → told 10 (0 ∷ []) ≡ cell_told K D p h c
  cell-above l = past-outside (cell_out D h c) (cell_walk_damaged K D p h c) (bit_for (cell_non_empty K D p h c) ∷ []) (true-T (ap (λ (b : Bool). not b || not (inside (2 ^ (D - h)) c)) (lt-leb h D l)))

  -- at most the depth: the coordinates decide
  out-is : h ≤ D → cell_out D h c ≡ not (inside (2 ^ (D - h)) c)
  out-is l = ap (λ (b : Bool). not b || not (inside (2 ^ (D - h)) c)) (le-leb h D l)

  pub cell-past : h ≤ D → T (not (inside (2 ^ (D - h)) c)) → told 10 (0 ∷ []) ≡ cell_told K D p h c
  cell-past l o = past-outside (cell_out D h c) (cell_walk_damaged K D p h c) (bit_for (cell_non_empty K D p h c) ∷ []) (true-T (out-is l ∙ T_true {b = not (inside (2 ^ (D - h)) c)} o))

  pub cell-inside : h ≤ D → T (inside (2 ^ (D - h)) c) → cell_asked K D p h c ≡ cell_told K D p h c
  cell-inside l i = past-inside (cell_out D h c) (cell_walk_damaged K D p h c) (bit_for (cell_non_empty K D p h c) ∷ []) (true-T (ap not (out-is l) ∙ not-not (inside (2 ^ (D - h)) c) ∙ T_true {b = inside (2 ^ (D - h)) c} i))

-- ---- the whole outcome

pub cell-settled : (ws : List ℕ) (n D p h : ℕ) (c : Point) → Entered ws n D p → outcome (cell_told (kept_of ws) D p h c) [] ≡ cell_outcome ws n h c
unfolding cell_outcome cell_outside cell_damaged
cell-settled ws n D p h c e =
    ap₂ (λ (d q : ℕ). outcome (cell_told (kept_of ws) d q h c) []) e.depth e.root
    ∙ past-settled e (cell_out (scene_depth ws n) h c) (cell_walk_damaged (kept_of ws) (scene_depth ws n) (scene_root ws n) h c) (bit_for (cell_non_empty (kept_of ws) (scene_depth ws n) (scene_root ws n) h c) ∷ [])

pub cell-refused : (ws : List ℕ) (n h : ℕ) (c : Point) (r : Refusal) → Says ws n (Refused r) → refused_by (number_of r) (0 ∷ []) ≡ cell_outcome ws n h c
unfolding cell_outcome cell_outside cell_damaged
cell-refused ws n h c r s =
    s (cell_out (scene_depth ws n) h c) (cell_walk_damaged (kept_of ws) (scene_depth ws n) (scene_root ws n) h c) (bit_for (cell_non_empty (kept_of ws) (scene_depth ws n) (scene_root ws n) h c) ∷ [])
