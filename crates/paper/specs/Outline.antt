-- Document 01, 'The outline file': the bytes of a room, and reading bytes. Definitions only.
-- Writing goes by the room's voxels and says which bytes are an outline. Reading goes by the bytes and gives the records as a tree;
-- that it accepts just what is written for some room is a claim.
use Rattle.std.specs.Prelude.{Bool, true, false, cond, ◌&&◌, List, [], ◌∷◌, ◌++◌, ◌≡◌, ℕ, zero, suc, pred, ◌+◌, ◌-◌, ◌/◌, ◌%◌, ◌^◌, eqb, leb, ltb, T, length, drop, get_or}
use Rattle.paper.specs.Numbers.{bit_for, gather, bytes, num, flatten, tabulate}
use Rattle.paper.specs.Rooms.{Room, depth_ok, child_no, in_child, child_room, non_empty}
use Rattle.paper.specs.Leaf.{leaf_voxel, leaf_of}

-- the edge of a cell of height k + 2
abbrev pub edge : ℕ → ℕ
edge k = 2 ^ suc (suc k)

-- the version byte ('Byte 0')
abbrev pub outline_version : ℕ
outline_version = 0x11

-- the head: version byte, length, depth
abbrev pub outline_head : ℕ
outline_head = 6

-- the greatest length that four bytes write: 4,294,967,295
abbrev pub longest : ℕ
longest = 2 ^ 32 - 1

-- ---- writing a room

-- child i of a cell of height k + 3
abbrev pub child_of : ℕ → Room → ℕ → Room
child_of k r i = child_room (edge k) i r

-- is it non-empty
abbrev pub child_non_empty : ℕ → Room → ℕ → Bool
child_non_empty k r i = non_empty (edge k) (child_of k r i)

-- which children are non-empty, a bit for each, child 0 lowest ('a mask byte')
abbrev pub mask_of : ℕ → Room → ℕ
mask_of k r = gather 0 8 (λ i. bit_for (child_non_empty k r i))

-- the record of a non-empty cell of height k + 2: a leaf's number ('A leaf's record'); of any other the mask, then the records of the non-empty
-- children in turn ('Any other record')
unfoldable pub record_of : ℕ → Room → List ℕ
record_of zero r = bytes 8 (leaf_of r)
record_of (suc k) r = mask_of k r ∷ flatten (tabulate 0 8 (λ i. let b = record_of k (child_of k r i) in cond (child_non_empty k r i) b []))

-- the root's record; an empty room has none
unfoldable pub root_record : ℕ → Room → List ℕ
root_record D r = let b = record_of (D - 2) r in cond (non_empty (2 ^ D) r) b []

-- the outline of a room of depth D
unfoldable pub outline_of : ℕ → Room → List ℕ
outline_of D r = outline_version ∷ bytes 4 (outline_head + length (root_record D r)) ++ (D ∷ root_record D r)

-- these bytes are the outline of the room r of depth D
pub record IsOutline (bs : List ℕ) (D : ℕ) (r : Room) : Type 0 where
  pub deep : T (depth_ok D)
  pub fits : T (leb (length (outline_of D r)) longest)
  pub same : bs ≡ outline_of D r

-- ---- reading bytes

-- the records of a file: none, a leaf's number, or a cell's eight children
pub data Tree : Type 0 where
  none : Tree
  leaf : ℕ → Tree
  node : Tree → Tree → Tree → Tree → Tree → Tree → Tree → Tree → Tree

-- what a reader answers: broken, or a value and the bytes after it
pub data Read (A : Type 0) : Type 0 where
  bad : Read A
  ok : A → List ℕ → Read A

abbrev pub bind : {A B : Type 0} → Read A → (A → List ℕ → Read B) → Read B
bind bad f = bad
bind (ok a bs) f = f a bs

-- a leaf: eight bytes that are there and not all zero
unfoldable pub read_leaf : List ℕ → Read Tree
read_leaf bs =
    let n : ℕ = num 8 bs in
    let r = ok (leaf n) (drop 8 bs) in
    cond (leb 8 (length bs)) (cond (eqb n 0) bad r) bad

-- one child more before the children read
abbrev pub before : Tree → Read (List Tree) → Read (List Tree)
before t r = bind r (λ ts bs. ok (t ∷ ts) bs)

-- n children to go, with the bits of m for them, lowest first; each that is present is read by r, the next from where that one ends
unfoldable pub read_children : (List ℕ → Read Tree) → ℕ → ℕ → List ℕ → Read (List Tree)
read_children r zero m bs = ok [] bs
read_children r (suc n) m bs =
    let here = bind (r bs) (λ t bs'. before t (read_children r n (m / 2) bs')) in
    let skip = before none (read_children r n (m / 2) bs) in
    cond (eqb (m % 2) 1) here skip

abbrev pub node_of : List Tree → Tree
node_of ts = node (get_or ts 0 none) (get_or ts 1 none) (get_or ts 2 none) (get_or ts 3 none) (get_or ts 4 none) (get_or ts 5 none) (get_or ts 6 none) (get_or ts 7 none)

-- the record of a cell of height k + 2; above the leaves a mask of zero is broken, as is no mask
unfoldable pub read_record : ℕ → List ℕ → Read Tree
read_record zero bs = read_leaf bs
read_record (suc k) [] = bad
read_record (suc k) (m ∷ bs) =
    let r = bind (read_children (read_record k) 8 m bs) (λ ts bs'. ok (node_of ts) bs') in
    cond (eqb m 0) bad r

-- the root's record, or nothing
unfoldable pub read_root : ℕ → List ℕ → Read Tree
read_root k [] = ok none []
read_root k (b ∷ bs) = read_record k (b ∷ bs)

-- 'nothing follows'
abbrev pub read_whole : Read Tree → Bool
read_whole bad = false
read_whole (ok t []) = true
read_whole (ok t (b ∷ bs)) = false

abbrev pub tree_read : Read Tree → Tree
tree_read bad = none
tree_read (ok t bs) = t

-- ---- a file's parts and tests; both kinds of file begin alike

-- refusal 3 is given where this fails: there is a first byte and it is v
abbrev pub version_ok : ℕ → List ℕ → Bool
version_ok v bs = ltb 0 (length bs) && eqb (get_or bs 0 0) v

-- refusal 4 is given where this fails: at least n bytes, and the length that the file states ('length field') is its own
abbrev pub length_ok : ℕ → List ℕ → Bool
length_ok n bs = leb n (length bs) && eqb (num 4 (drop 1 bs)) (length bs)

-- byte 5
abbrev pub file_depth : List ℕ → ℕ
file_depth bs = get_or bs 5 0

abbrev pub outline_read : List ℕ → Read Tree
outline_read bs = read_root (file_depth bs - 2) (drop outline_head bs)

-- refusal 6 is given where this fails: the records can be read, and nothing follows them
unfoldable pub outline_rules : List ℕ → Bool
outline_rules bs = read_whole (outline_read bs)

unfoldable pub outline_tree : List ℕ → Tree
outline_tree bs = tree_read (outline_read bs)

-- ---- the room of a tree, by coordinates

-- number i of eight
abbrev pub pick8 {ℓ} : {A : Type ℓ} → ℕ → A → A → A → A → A → A → A → A → A
pick8 zero a b c d e f g h = a
pick8 (suc zero) a b c d e f g h = b
pick8 (suc (suc zero)) a b c d e f g h = c
pick8 (suc (suc (suc zero))) a b c d e f g h = d
pick8 (suc (suc (suc (suc zero)))) a b c d e f g h = e
pick8 (suc (suc (suc (suc (suc zero))))) a b c d e f g h = f
pick8 (suc (suc (suc (suc (suc (suc zero)))))) a b c d e f g h = g
pick8 (suc (suc (suc (suc (suc (suc (suc n))))))) a b c d e f g h = h

-- voxel v of a cell of height h: that of the child whose half holds v, v minus its corner
unfoldable pub tree_voxel : Tree → ℕ → Room
tree_voxel none h v = false
tree_voxel (leaf n) h v = leaf_voxel n v
tree_voxel (node a b c d e f g i) h v =
    pick8 (child_no (2 ^ pred h) v) (tree_voxel a) (tree_voxel b) (tree_voxel c) (tree_voxel d) (tree_voxel e) (tree_voxel f) (tree_voxel g) (tree_voxel i)
    (pred h) (in_child (2 ^ pred h) v)

-- the room that a file means
unfoldable pub file_room : List ℕ → Room
file_room bs = tree_voxel (outline_tree bs) (file_depth bs)
