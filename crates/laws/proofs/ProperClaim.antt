-- Proper files, for claim C7: check answers 0 exactly on proper files; on one the packed voxel refuses no point inside, gives the voxel of the file's
-- room, and counts the records of its path. By the tests of the two orders, and by the walk on sound lists. Assumes nothing.
use mathlib.Core.Path.{◌≡◌, refl, sym, ◌∙◌, ap, ap₂}
use mathlib.Core.Bool.{Bool, true, false, false≢true, cond, not, ◌&&◌}
use mathlib.Core.List.{List, [], ◌∷◌}
use Prim.Native.Nat.{ℕ, ◌^◌, ◌≤◌}
use native.Mathlib.Nat.{suc-ne-zero}
use borrow.Author.Tests.{lt-ltb, le-ltb, ltb-false}
use lib.Dec.{T, ltb}
use lib.ListN.{length}
use Rattle.paper.specs.Numbers.{bit_for}
use Rattle.paper.specs.Rooms.{Point, Inside, depth_ok, mirror}
use Rattle.paper.specs.Outline.{file_depth, version_ok, length_ok}
use Rattle.paper.specs.Store.{Cell, cell_at}
use Rattle.paper.specs.Meaning.{cell_voxel}
use Rattle.paper.specs.Walk.{none, to, is_damaged, solid_at, empty_height, root_walk}
use Rattle.paper.specs.Questions.{graph_reading}
use Rattle.paper.specs.Packed.{packed_version, packed_head, root_tag, is_empty, top_of, graph_of, sizes_ok, lists_ok, graph_ok, root_ok, head_ok, packed_rules, proper, packed_room, packed_path, root_of, file_reading, file_walk}
use Rattle.paper.specs.Answers.{told, outcome}
use Rattle.paper.specs.Order.{when, first_number}
use Rattle.paper.specs.Calls.{cleared, check_order, check_outcome, packed_outside, packed_broken, packed_voxel_order, packed_values, packed_voxel_outcome}
use Rattle.paper.specs.Runs.{Bytes}
use Rattle.laws.proofs.Tests.{T_true, true-T, and_left, and_right}
use Rattle.laws.proofs.Outlines.{depth-two}
use Rattle.laws.proofs.Refusals.{settled-accepted, settled-number}
use Rattle.laws.proofs.Walking.{SameWalk, same_length}
use Rattle.laws.proofs.CellVoxels.{graph-voxel, graph-sound}
use Rattle.laws.proofs.PackedWalk.{lists_of, top-same}

-- ---- check

abbrev five : Bool → Bool → Bool → Bool → Bool → ℕ
five s a b c d = first_number (when s 11 ∷ when (not a) 3 ∷ when (not b) 4 ∷ when (not c) 5 ∷ when (not d) 6 ∷ [])

five-pass : (s a b c d : Bool) → five s a b c d ≡ 0 → (a && b && c && d ≡ true) × (s ≡ false)
unfolding first_number
five-pass true a b c d e = absurd (suc-ne-zero 10 e)
five-pass false false b c d e = absurd (suc-ne-zero 2 e)
five-pass false true false c d e = absurd (suc-ne-zero 3 e)
five-pass false true true false d e = absurd (suc-ne-zero 4 e)
five-pass false true true true false e = absurd (suc-ne-zero 5 e)
five-pass false true true true true e = (refl, refl)

pass-five : (s a b c d : Bool) → a && b && c && d ≡ true → s ≡ false → five s a b c d ≡ 0
unfolding first_number
pass-five true a b c d e f = absurd (false≢true (sym f))
pass-five false false b c d e f = absurd (false≢true e)
pass-five false true false c d e f = absurd (false≢true e)
pass-five false true true false d e f = absurd (false≢true e)
pass-five false true true true false e f = absurd (false≢true e)
pass-five false true true true true e f = refl

module _ (file scratch : List ℕ) where
  pub check-passed : first_number (check_order file scratch) ≡ 0 → (proper file ≡ true) × (length file ≤ length scratch)
  unfolding proper
  check-passed e =
      let p = five-pass (ltb (length scratch) (length file)) (version_ok packed_version file) (length_ok packed_head file) (depth_ok (file_depth file)) (packed_rules file) e in
      (p.0, ltb-false (length scratch) (length file) p.1)

  pub passed-check : proper file ≡ true → length file ≤ length scratch → first_number (check_order file scratch) ≡ 0
  unfolding proper
  passed-check e h =
      pass-five (ltb (length scratch) (length file)) (version_ok packed_version file) (length_ok packed_head file) (depth_ok (file_depth file)) (packed_rules file) e
      (le-ltb (length scratch) (length file) h)

  pub check-number : (check_outcome file scratch).number ≡ first_number (check_order file scratch)
  unfolding check_outcome
  check-number = settled-number (first_number (check_order file scratch)) _ _ _

  -- on a proper file, with scratch enough to look
  pub check-accepts : proper file ≡ true → length file ≤ length scratch → check_outcome file scratch ≡ outcome (told 0 (file_depth file ∷ [])) (cleared (length file) scratch ∷ [])
  unfolding check_outcome
  check-accepts e h = settled-accepted (first_number (check_order file scratch)) _ _ _ (passed-check e h)

-- ---- packed voxel

-- what a proper file passes
pub record Proper (bs : List ℕ) : Type 0 where
  pub version : T (version_ok packed_version bs)
  pub long : T (length_ok packed_head bs)
  pub deep : T (depth_ok (file_depth bs))
  pub head : T (head_ok bs)
  pub rules : T (cond (is_empty bs) true (lists_ok bs && graph_ok (top_of bs) (root_tag bs) (graph_of bs)))

pub proper-passes : (bs : List ℕ) → T (proper bs) → Proper bs
unfolding proper packed_rules
proper-passes bs t = record {
  version = search (and_left, and_right);
  long = search (and_left, and_right);
  deep = search (and_left, and_right);
  head = search (and_left, and_right);
  rules = search (and_left, and_right);
}

pub head-sizes : (bs : List ℕ) → T (head_ok bs) → T (cond (is_empty bs) true (sizes_ok bs))
unfolding head_ok
head-sizes bs t = and_right (root_ok bs) (cond (is_empty bs) true (sizes_ok bs)) t

-- the walk from the root of a proper file is the walk over its graph
pub proper-walk : (bs : List ℕ) → Bytes bs → Proper bs → (v : Point) → SameWalk (file_walk bs v) (root_walk (graph_reading (graph_of bs)) (file_depth bs) (root_of bs) v)
unfolding file_walk
proper-walk bs by p v = rw (T_true {b = head_ok bs} p.head) (go (is_empty bs) p.rules (head-sizes bs p.head))
  where
    k : ℕ
    k = top_of bs

    go : (b : Bool) → T (cond b true (lists_ok bs && graph_ok k (root_tag bs) (graph_of bs))) → T (cond b true (sizes_ok bs))
        → SameWalk (root_walk (file_reading bs) (file_depth bs) (cond b none (to (root_tag bs) 0)) v) (root_walk (graph_reading (graph_of bs)) (file_depth bs) (cond b none (to (root_tag bs) 0)) v)
    go true s z = record { ends = refl; tags = refl }
    go false s z = top-same bs by p.long (lists_of bs z (and_left (lists_ok bs) (graph_ok k (root_tag bs) (graph_of bs)) s)) (root_tag bs) v

-- so it isn't damaged, and ends at the voxel of the room that the file means
pub proper-sound : (bs : List ℕ) → Bytes bs → Proper bs → (v : Point) → is_damaged (file_walk bs v).end ≡ false
proper-sound bs by p v = ap is_damaged (proper-walk bs by p v).ends ∙ go (is_empty bs)
  where
    go : (b : Bool) → is_damaged (root_walk (graph_reading (graph_of bs)) (file_depth bs) (cond b none (to (root_tag bs) 0)) v).end ≡ false
    go true = refl
    go false = graph-sound (graph_of bs) (top_of bs) 0 (root_tag bs) v

pub proper-means : (bs : List ℕ) → Bytes bs → Proper bs → (v : Point) → solid_at (file_walk bs v).end ≡ packed_room bs v
unfolding packed_room
proper-means bs by p v = ap solid_at (proper-walk bs by p v).ends ∙ go (is_empty bs)
  where
    G : List (List Cell)
    G = graph_of bs

    k : ℕ
    k = top_of bs

    go : (b : Bool) → solid_at (root_walk (graph_reading G) (file_depth bs) (cond b none (to (root_tag bs) 0)) v).end ≡ cond b false (cell_voxel G k (cell_at G k 0) (mirror (root_tag bs) (2 ^ file_depth bs) v))
    go true = refl
    go false = graph-voxel G k 0 (root_tag bs) v ∙ ap (λ (h : ℕ). cell_voxel G k (cell_at G k 0) (mirror (root_tag bs) (2 ^ h) v)) (depth-two (file_depth bs) p.deep)

pub proper-path : (bs : List ℕ) → Bytes bs → Proper bs → (v : Point) → length (file_walk bs v).path ≡ packed_path bs v
unfolding packed_path
proper-path bs by p v = same_length (file_walk bs v) _ (proper-walk bs by p v)

-- at every point inside
pub proper-voxel : (bs : List ℕ) (v : Point) → Bytes bs → proper bs ≡ true → Inside (2 ^ file_depth bs) v
    → packed_voxel_outcome bs v ≡ outcome (told 0 (bit_for (packed_room bs v) ∷ packed_path bs v ∷ empty_height (file_walk bs v).end ∷ [])) []
unfolding packed_voxel_outcome packed_outside packed_broken first_number
proper-voxel bs v by e l =
    let p : Proper bs = proper-passes bs (true-T e) in
    let none : first_number (packed_voxel_order bs v) ≡ 0 =
    rw (
      T_true {b = version_ok packed_version bs} p.version,
      T_true {b = length_ok packed_head bs} p.long,
      T_true {b = depth_ok (file_depth bs)} p.deep,
      lt-ltb v.x (2 ^ file_depth bs) l.in_x,
      lt-ltb v.y (2 ^ file_depth bs) l.in_y,
      lt-ltb v.z (2 ^ file_depth bs) l.in_z,
      proper-sound bs by p v,
    ) in
    settled-accepted (first_number (packed_voxel_order bs v)) (packed_values bs v) [] [] none
    ∙ ap₂ (λ (b : Bool) (n : ℕ). outcome (told 0 (bit_for b ∷ n ∷ empty_height (file_walk bs v).end ∷ [])) []) (proper-means bs by p v) (proper-path bs by p v)
