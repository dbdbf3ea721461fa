-- One room for each file: outlines of one depth with the same room are the same bytes, a file is the outline of one room only, and a file is
-- accepted exactly where it is an outline; what is written is read back, what is read is written back. From the records' laws. Assumes nothing.
use mathlib.Core.Path.{◌≡◌, refl, sym, ◌∙◌, ap, ap₂, subst}
use mathlib.Core.Bool.{Bool, true, false, cond}
use mathlib.Core.List.{List, [], ◌∷◌, ◌++◌, append-nil}
use mathlib.Core.Logic.{◌↔◌}
use Prim.Native.Nat.{ℕ, zero, suc, ◌+◌, ◌-◌, ◌*◌, ◌^◌, ◌<◌, ◌≤◌}
use native.Mathlib.Nat.{le_refl}
use native.Mathlib.Omega.{arith}
use borrow.Author.Tests.{eq-eqb}
use lib.Dec.{T, eqb, leb, ltb, eqb→eq, leb→le, le→leb, lt→ltb}
use lib.ListN.{length, take, drop, get_or, length-drop, take-append-drop}
use lib.Seq.{drop-cons, drop-drop, length-take-le}
use Rattle.paper.specs.Numbers.{bytes, be, num}
use Rattle.paper.specs.Rooms.{Room, Inside, Same, depth_ok, least, deepest, non_empty}
use Rattle.paper.specs.Outline.{outline_version, outline_head, longest, record_of, root_record, outline_of, IsOutline}
use Rattle.paper.specs.Outline.{Tree, none, tree_voxel, Read, bad, ok, read_record, read_root, read_whole, tree_read}
use Rattle.paper.specs.Outline.{version_ok, length_ok, file_depth, outline_read, outline_rules, outline_tree, file_room}
use Rattle.paper.specs.Runs.{Bytes}
use Rattle.laws.proofs.Tests.{true-T, and_left, and_right, and_T}
use Rattle.laws.proofs.Bytes.{bytes_take, bytes_drop, be-bytes, bytes-be, be-lt}
use Rattle.laws.proofs.OutlineCells.{non_empty-same, no-voxel-empty, empty-voxel}
use Rattle.laws.proofs.OutlineWriting.{record_same, tree_for, tree-voxels}
use Rattle.laws.proofs.OutlineReading.{record-read, OkRead, Recorded, record-written}

-- refused by none of 3, 4, 5 and 6
pub record Accepted (bs : List ℕ) : Type 0 where
  pub version : T (version_ok outline_version bs)
  pub long : T (length_ok outline_head bs)
  pub deep : T (depth_ok (file_depth bs))
  pub rules : T (outline_rules bs)

-- ---- depths

-- a root is a cell of height k + 2 with k = D - 2
pub depth-two : (D : ℕ) → T (depth_ok D) → suc (suc (D - 2)) ≡ D
depth-two D d = omega (arith, leb→le 2 D (and_left (leb least D) (leb D deepest) d))

-- ---- the root's record

pub root-same : (D : ℕ) (r r' : Room) → T (depth_ok D) → Same (2 ^ D) r r' → root_record D r ≡ root_record D r'
unfolding root_record
root-same D r r' d e =
    ap₂ (λ (b : Bool) (l : List ℕ). cond b l []) (non_empty-same (2 ^ D) r r' e)
    (record_same (D - 2) r r' (subst (λ (h : ℕ). Same (2 ^ h) r r') (sym (depth-two D d)) e))

-- the tree of a room of depth D
abbrev root_tree : ℕ → Room → Tree
root_tree D r = cond (non_empty (2 ^ D) r) (tree_for (D - 2) r) none

record-root : (k : ℕ) (r : Room) → read_root k (record_of k r) ≡ read_record k (record_of k r)
unfolding read_root record_of bytes
record-root zero r = refl
record-root (suc k) r = refl

root-read : (D : ℕ) (r : Room) → T (depth_ok D) → read_root (D - 2) (root_record D r) ≡ ok (root_tree D r) []
unfolding root_record read_root
root-read D r d = go (non_empty (2 ^ D) r) refl
  where
    go : (b : Bool) → non_empty (2 ^ D) r ≡ b → read_root (D - 2) (cond b (record_of (D - 2) r) []) ≡ ok (cond b (tree_for (D - 2) r) none) []
    go true e =
        record-root (D - 2) r ∙ ap (read_record (D - 2)) (sym (append-nil (record_of (D - 2) r)))
        ∙ record-read (D - 2) r (ap (λ (h : ℕ). non_empty (2 ^ h) r) (depth-two D d) ∙ e) []
    go false e = refl

root-voxels : (D : ℕ) (r : Room) → T (depth_ok D) → Same (2 ^ D) (tree_voxel (root_tree D r) D) r
unfolding tree_voxel
root-voxels D r d = go (non_empty (2 ^ D) r) refl
  where
    go : (b : Bool) → non_empty (2 ^ D) r ≡ b → Same (2 ^ D) (tree_voxel (cond b (tree_for (D - 2) r) none) D) r
    go true e = subst (λ (h : ℕ). Same (2 ^ h) (tree_voxel (tree_for (D - 2) r) h) r) (depth-two D d) (tree-voxels (D - 2) r)
    go false e = λ v h. sym (empty-voxel (2 ^ D) r e v h)

-- a reader's whole answer is the record of its room
abbrev Whole : ℕ → ℕ → List ℕ → Tree → Type 0
Whole k h l t = (record_of k (tree_voxel t h) ≡ l) × (non_empty (2 ^ h) (tree_voxel t h) ≡ true)

whole-written : (k : ℕ) (l : List ℕ) (a : Read Tree) → OkRead (Recorded k l) a → T (read_whole a) → Whole k (suc (suc k)) l (tree_read a)
whole-written k l bad h w = absurd w
whole-written k l (ok t []) h w = (sym (h.written ∙ append-nil (record_of k (tree_voxel t (suc (suc k))))), h.solid)
whole-written k l (ok t (x ∷ xs)) h w = absurd w

pub root-written : (D : ℕ) (l : List ℕ) → T (depth_ok D) → Bytes l → T (read_whole (read_root (D - 2) l))
    → root_record D (tree_voxel (tree_read (read_root (D - 2) l)) D) ≡ l
unfolding root_record read_root tree_voxel
root-written D [] d h w = ap (λ (b : Bool). cond b (record_of (D - 2) (λ v. false)) []) (no-voxel-empty (2 ^ D))
root-written D (x ∷ l) d h w =
    let k : ℕ = D - 2 in
    let t : Tree = tree_read (read_record k (x ∷ l)) in
    let below : Whole k (suc (suc k)) (x ∷ l) t = whole-written k (x ∷ l) (read_record k (x ∷ l)) (record-written k (x ∷ l) h) w in
    let f : Whole k D (x ∷ l) t = subst (λ (h : ℕ). Whole k h (x ∷ l) t) (depth-two D d) below in
    ap (λ (b : Bool). cond b (record_of k (tree_voxel t D)) []) f.1 ∙ f.0

-- ---- a file's parts

pub written-depth : (D : ℕ) (r : Room) → file_depth (outline_of D r) ≡ D
unfolding outline_of bytes
written-depth D r = refl

outline-rest : (D : ℕ) (r : Room) → drop outline_head (outline_of D r) ≡ root_record D r
unfolding outline_of bytes
outline-rest D r = refl

outline-length : (D : ℕ) (r : Room) → length (outline_of D r) ≡ outline_head + length (root_record D r)
unfolding outline_of bytes
outline-length D r = omega arith

outline-field : (D : ℕ) (r : Room) → num 4 (drop 1 (outline_of D r)) ≡ be 0 (bytes 4 (outline_head + length (root_record D r)))
unfolding outline_of bytes
outline-field D r = refl

outline_version_lem : (D : ℕ) (r : Room) → get_or (outline_of D r) 0 0 ≡ outline_version
unfolding outline_of
outline_version_lem D r = refl

outline_read_lem : (D : ℕ) (r : Room) → T (depth_ok D) → outline_read (outline_of D r) ≡ ok (root_tree D r) []
outline_read_lem D r d = rw (written-depth D r, outline-rest D r) (root-read D r d)

-- ---- written is read

pub written-accepted : (D : ℕ) (r : Room) → T (depth_ok D) → T (leb (length (outline_of D r)) longest) → Accepted (outline_of D r)
unfolding outline_rules
written-accepted D r d l =
    let bs : List ℕ = outline_of D r in
    let n : length bs ≡ outline_head + length (root_record D r) = outline-length D r in
    let short : length bs ≤ longest = leb→le (length bs) longest l in
    let field : num 4 (drop 1 bs) ≡ length bs = outline-field D r ∙ be-bytes 4 (outline_head + length (root_record D r)) 0 ∙ omega arith in
    let is : T (eqb (get_or bs 0 0) outline_version) = true-T (eq-eqb (get_or bs 0 0) outline_version (outline_version_lem D r)) in
    let fits : T (eqb (num 4 (drop 1 bs)) (length bs)) = true-T (eq-eqb (num 4 (drop 1 bs)) (length bs) field) in
    record {
      version = and_T (ltb 0 (length bs)) (eqb (get_or bs 0 0) outline_version) (lt→ltb 0 (length bs) (omega arith)) is;
      long = and_T (leb outline_head (length bs)) (eqb (num 4 (drop 1 bs)) (length bs)) (le→leb outline_head (length bs) (omega arith)) fits;
      deep = rw (written-depth D r) d;
      rules = rw (outline_read_lem D r d) tt;
    }

pub written-room : (D : ℕ) (r : Room) → T (depth_ok D) → Same (2 ^ D) (file_room (outline_of D r)) r
unfolding file_room outline_tree
written-room D r d = rw (outline_read_lem D r d, written-depth D r) (root-voxels D r d)

-- ---- read is written

header-split : (bs : List ℕ) → outline_head ≤ length bs → bs ≡ get_or bs 0 0 ∷ take 4 (drop 1 bs) ++ (file_depth bs ∷ drop outline_head bs)
header-split bs h =
    drop-cons bs 0 0 (omega arith)
    ∙ ap (◌∷◌ (get_or bs 0 0))
    (sym (take-append-drop 4 (drop 1 bs)) ∙ ap (λ (l : List ℕ). take 4 (drop 1 bs) ++ l) (drop-drop 4 1 bs ∙ drop-cons bs 5 0 (omega arith)))

module _ (bs : List ℕ) (h : Bytes bs) (a : Accepted bs) where
  version-is : get_or bs 0 0 ≡ outline_version
  version-is = eqb→eq (get_or bs 0 0) outline_version (and_right (ltb 0 (length bs)) (eqb (get_or bs 0 0) outline_version) a.version)

  head_in : outline_head ≤ length bs
  head_in = leb→le outline_head (length bs) (and_left (leb outline_head (length bs)) (eqb (num 4 (drop 1 bs)) (length bs)) a.long)

  field_is : num 4 (drop 1 bs) ≡ length bs
  field_is = eqb→eq (num 4 (drop 1 bs)) (length bs) (and_right (leb outline_head (length bs)) (eqb (num 4 (drop 1 bs)) (length bs)) a.long)

  field-bytes : Bytes (take 4 (drop 1 bs))
  field-bytes = bytes_take 4 (drop 1 bs) (bytes_drop 1 bs h)

  field-length : length (take 4 (drop 1 bs)) ≡ 4
  field-length = length-take-le 4 (drop 1 bs) (rw (length-drop 1 bs) (omega (arith, head_in)))

  field-written : bytes 4 (length bs) ≡ take 4 (drop 1 bs)
  field-written =
      ap (bytes 4) (sym field_is) ∙ ap (λ (n : ℕ). bytes n (num 4 (drop 1 bs))) (sym field-length) ∙ bytes-be (take 4 (drop 1 bs)) 0 field-bytes

  file-short : length bs ≤ longest
  file-short =
      let lt : num 4 (drop 1 bs) < 1 * 256 ^ length (take 4 (drop 1 bs)) = be-lt (take 4 (drop 1 bs)) 0 1 field-bytes (le_refl 1) in
      let lt4 : num 4 (drop 1 bs) < 1 * 256 ^ 4 = rw field-length at lt in
      omega (arith, field_is)

  rest-written : root_record (file_depth bs) (file_room bs) ≡ drop outline_head bs
  unfolding file_room outline_tree outline_rules
  rest-written = root-written (file_depth bs) (drop outline_head bs) a.deep (bytes_drop outline_head bs h) a.rules

  pub read-written : outline_of (file_depth bs) (file_room bs) ≡ bs
  unfolding outline_of
  read-written =
      let n : outline_head + length (drop outline_head bs) ≡ length bs = ap (λ (m : ℕ). outline_head + m) (length-drop outline_head bs) ∙ omega (arith, head_in) in
      ap (λ (l : List ℕ). outline_version ∷ bytes 4 (outline_head + length l) ++ (file_depth bs ∷ l)) rest-written
      ∙ ap₂ (λ (x m : ℕ). x ∷ bytes 4 m ++ (file_depth bs ∷ drop outline_head bs)) (sym version-is) n
      ∙ ap (λ (l : List ℕ). get_or bs 0 0 ∷ l ++ (file_depth bs ∷ drop outline_head bs)) field-written
      ∙ sym (header-split bs head_in)

  pub accepted-outline : IsOutline bs (file_depth bs) (file_room bs)
  accepted-outline = record { deep = a.deep; fits = rw read-written (le→leb (length bs) longest file-short); same = sym read-written }

-- ---- the claim

-- what is written goes by the voxels
pub outline-same : (D : ℕ) (r r' : Room) → T (depth_ok D) → Same (2 ^ D) r r' → outline_of D r ≡ outline_of D r'
unfolding outline_of
outline-same D r r' d e = ap (λ (l : List ℕ). outline_version ∷ bytes 4 (outline_head + length l) ++ (D ∷ l)) (root-same D r r' d e)

-- two outlines of one depth that mean the same room are the same bytes
pub same-room-same-bytes : {bs bs' : List ℕ} {D : ℕ} {r r' : Room} → IsOutline bs D r → IsOutline bs' D r' → Same (2 ^ D) r r' → bs ≡ bs'
same-room-same-bytes {D} {r} {r'} o o' e = o.same ∙ outline-same D r r' o.deep e ∙ sym o'.same

-- an outline's depth and room are those that the file is read as
pub outline-depth : {bs : List ℕ} {D : ℕ} {r : Room} → IsOutline bs D r → file_depth bs ≡ D
outline-depth {D} {r} o = ap file_depth o.same ∙ written-depth D r

pub outline-room : {bs : List ℕ} {D : ℕ} {r : Room} → IsOutline bs D r → Same (2 ^ D) (file_room bs) r
outline-room {D} {r} o = λ v h. ap (λ (l : List ℕ). file_room l v) o.same ∙ written-room D r o.deep v h

-- a file is the outline of one room
pub same-bytes-same-room : {bs : List ℕ} {D D' : ℕ} {r r' : Room} → IsOutline bs D r → IsOutline bs D' r' → (D ≡ D') × Same (2 ^ D) r r'
same-bytes-same-room {D} {D'} o o' =
    let e : D ≡ D' = sym (outline-depth o) ∙ outline-depth o' in
    (e, λ v h. sym (outline-room o v h) ∙ outline-room o' v (subst (λ (d : ℕ). Inside (2 ^ d) v) e h))

-- an outline is accepted, and what is accepted is an outline
pub outline-accepted : {bs : List ℕ} {D : ℕ} {r : Room} → IsOutline bs D r → Accepted bs
outline-accepted {D} {r} o = rw o.same (written-accepted D r o.deep o.fits)

pub accepted-exactly : (bs : List ℕ) → Bytes bs → Accepted bs ↔ ((D : ℕ) × (r : Room) × IsOutline bs D r)
accepted-exactly bs h = (λ a. (file_depth bs, file_room bs, accepted-outline bs h a), λ w. outline-accepted w.2)
