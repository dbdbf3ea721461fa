-- A record that is written is read as the room's tree, and bytes that are read as a tree are the record written for that tree's room.
-- By induction on the height and on the children left; the second speaks of whatever a reader answers. Assumes nothing.
use mathlib.Core.Path.{◌≡◌, refl, sym, ◌∙◌, ap, ap₂}
use mathlib.Core.Bool.{Bool, true, false, cond}
use mathlib.Core.List.{List, [], ◌∷◌, ◌++◌, append_assoc}
use Prim.Native.Nat.{ℕ, zero, suc, ◌+◌, ◌*◌, ◌/◌, ◌%◌, ◌^◌, ◌<◌, ◌≤◌}
use native.Mathlib.Nat.{le_refl, pow-succ'}
use native.Mathlib.Omega.{arith}
use borrow.Author.Tests.{eq-eqb, ne_eqb, le-leb, eqb-true, eqb-false, leb-true}
use lib.Dec.{eqb, leb}
use lib.ListN.{length, take, drop, get_or, length-append, take-append-drop}
use lib.Seq.{take_at, drop_at, length-take-le}
use Rattle.paper.specs.Numbers.{bit_for, gather, bytes, be, num, flatten, tabulate}
use Rattle.paper.specs.Rooms.{Room, Same, non_empty}
use Rattle.paper.specs.Leaf.{leaf_voxel, leaf_of}
use Rattle.paper.specs.Outline.{edge, child_of, child_non_empty, mask_of, record_of, Tree, none, leaf, node_of, tree_voxel}
use Rattle.paper.specs.Outline.{Read, bad, ok, bind, before, read_leaf, read_children, read_record}
use Rattle.paper.specs.Runs.{Bytes}
use Rattle.laws.proofs.Bits.{gather-same, gather-shift, gather-some, bit_for-pos}
use Rattle.laws.proofs.Bytes.{bytes_take, bytes_drop, bytes-length, be-bytes, bytes-be, be-lt}
use Rattle.laws.proofs.Lists.{tabulate-same, tabulate-shift}
use Rattle.laws.proofs.Leaves.{leaf_of-lt, leaf_of-leaf_voxel, leaf_of-solid, leaf_solid_lem}
use Rattle.laws.proofs.OutlineCells.{non_empty-some, some-non_empty, non_empty-same, no-voxel-empty, child_non_empty_lem, node-child}
use Rattle.laws.proofs.OutlineWriting.{edge-twice, record_same, mask-pos, tree_for}

-- ---- what is written is read

leaf-read : (n : ℕ) (x : List ℕ) → n < 2 ^ 64 → 0 < n → read_leaf (bytes 8 n ++ x) ≡ ok (leaf n) x
unfolding read_leaf
leaf-read n x h p =
    let e : num 8 (bytes 8 n ++ x) ≡ n = ap (be 0) (take_at (bytes 8 n) x 8 (bytes-length 8 n)) ∙ be-bytes 8 n 0 ∙ omega arith in
    rw (
      e,
      drop_at (bytes 8 n) x 8 (bytes-length 8 n),
      ne_eqb n 0 (λ q. omega arith),
      le-leb 8 (length (bytes 8 n ++ x)) (simp length-append (omega (arith, bytes-length 8 n))),
    )

-- children of which some are there, each read as it is written
module _ (rd : List ℕ → Read Tree) (there : ℕ → Bool) (rec : ℕ → List ℕ) (tree : ℕ → Tree) where
  abbrev parts : ℕ → ℕ → List ℕ
  parts a n = flatten (tabulate a n (λ i. cond (there i) (rec i) []))

  abbrev trees : ℕ → ℕ → List Tree
  trees a n = tabulate a n (λ i. cond (there i) (tree i) none)

  abbrev mask : ℕ → ℕ → ℕ
  mask a n = gather a n (λ i. bit_for (there i))

  child-read : (a n : ℕ) (x : List ℕ) (b : Bool) → (b ≡ true → (y : List ℕ) → rd (rec a ++ y) ≡ ok (tree a) y)
      → read_children rd n (mask (suc a) n) (parts (suc a) n ++ x) ≡ ok (trees (suc a) n) x
      → read_children rd (suc n) (bit_for b + 2 * mask (suc a) n) ((cond b (rec a) [] ++ parts (suc a) n) ++ x) ≡ ok (cond b (tree a) none ∷ trees (suc a) n) x
  unfolding read_children
  child-read a n x true h ih =
      let half : (1 + 2 * mask (suc a) n) / 2 ≡ mask (suc a) n = omega arith in
      rw (eq-eqb ((1 + 2 * mask (suc a) n) % 2) 1 (omega arith), append_assoc (rec a) (parts (suc a) n) x, h refl (parts (suc a) n ++ x), half, ih)
  child-read a n x false h ih =
      let half : (0 + 2 * mask (suc a) n) / 2 ≡ mask (suc a) n = omega arith in
      rw (ne_eqb ((0 + 2 * mask (suc a) n) % 2) 1 (λ e. omega arith), half, ih)

  children-read : ((i : ℕ) → there i ≡ true → (y : List ℕ) → rd (rec i ++ y) ≡ ok (tree i) y) → (n a : ℕ) (x : List ℕ)
      → read_children rd n (mask a n) (parts a n ++ x) ≡ ok (trees a n) x
  unfolding read_children gather flatten tabulate
  children-read h zero a x = refl
  children-read h (suc n) a x = child-read a n x (there a) (h a) (children-read h n (suc a) x)

pub record-read : (k : ℕ) (r : Room) → non_empty (edge k) r ≡ true → (x : List ℕ) → read_record k (record_of k r ++ x) ≡ ok (tree_for k r) x
unfolding read_record record_of tree_for
record-read zero r e x = leaf-read (leaf_of r) x (leaf_of-lt r) (leaf_of-solid r (non_empty-some 4 r e))
record-read (suc k) r e x =
    rw (
      ne_eqb (mask_of k r) 0 (λ q. omega (arith, mask-pos k r e)),
      children-read (read_record k) (child_non_empty k r) (λ i. record_of k (child_of k r i)) (λ i. tree_for k (child_of k r i)) (λ i h. record-read k (child_of k r i) h) 8 0 x,
    )

-- ---- what is read is written

-- of whatever is read
abbrev pub OkRead : {A : Type 0} → (A → List ℕ → Type 0) → Read A → Type 0
OkRead P bad = Unit {0}
OkRead P (ok a bs) = P a bs

-- what is said of the first reader's answer goes into the second
pub bind_ok : {A B : Type 0} (P : A → List ℕ → Type 0) (Q : B → List ℕ → Type 0) (x : Read A) (f : A → List ℕ → Read B)
    → OkRead P x → ((a : A) (bs : List ℕ) → P a bs → OkRead Q (f a bs)) → OkRead Q (bind x f)
bind_ok P Q bad f h g = tt
bind_ok P Q (ok a bs) f h g = g a bs h

pos : (n : ℕ) → (n ≡ 0 → ⊥) → 0 < n
pos n ne = omega arith

-- the room of a tree of height k + 2, whether it is non-empty, and its record
abbrev room_of : ℕ → Tree → Room
room_of k t = tree_voxel t (suc (suc k))

abbrev there : ℕ → Tree → Bool
there k t = non_empty (edge k) (room_of k t)

-- bs begins with the record of the room of t, which is non-empty; the bytes x follow
pub record Recorded (k : ℕ) (bs : List ℕ) (t : Tree) (x : List ℕ) : Type 0 where
  pub solid : non_empty (edge k) (tree_voxel t (suc (suc k))) ≡ true
  pub written : bs ≡ record_of k (tree_voxel t (suc (suc k))) ++ x
  pub after : Bytes x

leaf-recorded : (bs : List ℕ) → Bytes bs → 8 ≤ length bs → (num 8 bs ≡ 0 → ⊥) → Recorded 0 bs (leaf (num 8 bs)) (drop 8 bs)
unfolding tree_voxel record_of
leaf-recorded bs h l ne =
    let n : ℕ = num 8 bs in
    let eight : length (take 8 bs) ≡ 8 = length-take-le 8 bs l in
    let lt : n < 1 * 256 ^ length (take 8 bs) = be-lt (take 8 bs) 0 1 (bytes_take 8 bs h) (le_refl 1) in
    let small : n < 2 ^ 64 = rw eight at lt in
    let back : leaf_of (leaf_voxel n) ≡ n = leaf_of-leaf_voxel n small in
    let front : bytes 8 n ≡ take 8 bs = ap (λ (j : ℕ). bytes j n) (sym eight) ∙ bytes-be (take 8 bs) 0 (bytes_take 8 bs h) in
    record {
      solid = some-non_empty 4 (leaf_voxel n) (leaf_solid_lem n small (omega arith));
      written = sym (take-append-drop 8 bs) ∙ ap (λ (l : List ℕ). l ++ drop 8 bs) (sym front ∙ ap (bytes 8) (sym back));
      after = bytes_drop 8 bs h;
    }

leaf-written : (bs : List ℕ) → Bytes bs → OkRead (Recorded 0 bs) (read_leaf bs)
unfolding read_leaf
leaf-written bs h = go (leb 8 (length bs)) refl (eqb (num 8 bs) 0) refl
  where
    go : (a : Bool) → leb 8 (length bs) ≡ a → (b : Bool) → eqb (num 8 bs) 0 ≡ b
        → OkRead (Recorded 0 bs) (cond a (cond b bad (ok (leaf (num 8 bs)) (drop 8 bs))) bad)
    go false e b q = tt
    go true e true q = tt
    go true e false q = leaf-recorded bs h (leb-true 8 (length bs) e) (eqb-false (num 8 bs) 0 q)

-- bs begins with the records of n children, those that the mask m calls for; the bytes x follow
record Children (k n m : ℕ) (bs : List ℕ) (ts : List Tree) (x : List ℕ) : Type 0 where
  called : m ≡ gather 0 n (λ i. bit_for (there k (get_or ts i none)))
  written : bs ≡ flatten (tabulate 0 n (λ i. cond (there k (get_or ts i none)) (record_of k (room_of k (get_or ts i none))) [])) ++ x
  after : Bytes x

children-nil : (k m : ℕ) (bs : List ℕ) → m < 1 → Bytes bs → Children k 0 m bs [] bs
unfolding gather flatten tabulate
children-nil k m bs l h = record { called = omega arith; written = refl; after = h }

children-cons : (k n m : ℕ) (bs : List ℕ) (t : Tree) (y : List ℕ) (ts : List Tree) (x : List ℕ) → m % 2 ≡ bit_for (there k t)
    → bs ≡ cond (there k t) (record_of k (room_of k t)) [] ++ y → Children k n (m / 2) y ts x → Children k (suc n) m bs (t ∷ ts) x
unfolding gather flatten tabulate
children-cons k n m bs t y ts x low w c =
    let bits : ℕ → ℕ = λ i. bit_for (there k (get_or (t ∷ ts) i none)) in
    let here : List ℕ = cond (there k t) (record_of k (room_of k t)) [] in
    let parts : ℕ → List ℕ = λ i. cond (there k (get_or (t ∷ ts) i none)) (record_of k (room_of k (get_or (t ∷ ts) i none))) [] in
    let high : gather 1 n bits ≡ m / 2 = gather-shift 0 n bits ∙ sym c.called in
    record {
      called = omega arith;
      written =
          w ∙ ap (λ (l : List ℕ). here ++ l) (c.written ∙ ap (λ (l : List (List ℕ)). flatten l ++ x) (sym (tabulate-shift 0 n parts)))
          ∙ sym (append_assoc here (flatten (tabulate 1 n parts)) x);
      after = c.after;
    }

none-empty : (k : ℕ) → there k none ≡ false
unfolding tree_voxel
none-empty k = no-voxel-empty (edge k)

low-zero : (m : ℕ) → (m % 2 ≡ 1 → ⊥) → m % 2 ≡ 0
low-zero m ne = omega arith

module _ (k : ℕ) (rd : List ℕ → Read Tree) (ih : (bs : List ℕ) → Bytes bs → OkRead (Recorded k bs) (rd bs)) where
  child-written : (n m : ℕ) (bs : List ℕ) → Bytes bs → ((cs : List ℕ) → Bytes cs → OkRead (Children k n (m / 2) cs) (read_children rd n (m / 2) cs))
      → (b : Bool) → eqb (m % 2) 1 ≡ b
      → OkRead (Children k (suc n) m bs) (cond b (bind (rd bs) (λ t y. before t (read_children rd n (m / 2) y))) (before none (read_children rd n (m / 2) bs)))
  child-written n m bs h rec true e =
      bind_ok (Recorded k bs) (Children k (suc n) m bs) (rd bs) (λ t y. before t (read_children rd n (m / 2) y)) (ih bs h)
      (λ t y c. bind_ok (Children k n (m / 2) y) (Children k (suc n) m bs) (read_children rd n (m / 2) y) (λ ts x. ok (t ∷ ts) x) (rec y c.after)
      (λ ts x r. children-cons k n m bs t y ts x (eqb-true (m % 2) 1 e ∙ ap bit_for (sym c.solid))
      (c.written ∙ ap (λ (b : Bool). cond b (record_of k (room_of k t)) [] ++ y) (sym c.solid)) r))
  child-written n m bs h rec false e =
      bind_ok (Children k n (m / 2) bs) (Children k (suc n) m bs) (read_children rd n (m / 2) bs) (λ ts x. ok (none ∷ ts) x) (rec bs h)
      (λ ts x r. children-cons k n m bs none bs ts x (low-zero m (eqb-false (m % 2) 1 e) ∙ ap bit_for (sym (none-empty k)))
      (ap (λ (b : Bool). cond b (record_of k (room_of k none)) [] ++ bs) (sym (none-empty k))) r)

  children-written : (n m : ℕ) (bs : List ℕ) → m < 2 ^ n → Bytes bs → OkRead (Children k n m bs) (read_children rd n m bs)
  unfolding read_children
  children-written zero m bs l h = children-nil k m bs l h
  children-written (suc n) m bs l h = child-written n m bs h (λ cs g. children-written n (m / 2) cs (omega (arith, pow-succ' 2 n)) g) (eqb (m % 2) 1) refl

node-recorded : (k m : ℕ) (bs : List ℕ) (ts : List Tree) (x : List ℕ) → (m ≡ 0 → ⊥) → Children k 8 m bs ts x → Recorded (suc k) (m ∷ bs) (node_of ts) x
unfolding record_of
node-recorded k m bs ts x ne c =
    let R : Room = room_of (suc k) (node_of ts) in
    let child : (i : ℕ) → i < 8 → Same (edge k) (child_of k R i) (room_of k (get_or ts i none)) = node-child (suc (suc k)) ts in
    let same : (i : ℕ) → i < 8 → child_non_empty k R i ≡ there k (get_or ts i none) = λ i h. non_empty-same (edge k) (child_of k R i) (room_of k (get_or ts i none)) (child i h) in
    let bits : ℕ → ℕ = λ i. bit_for (there k (get_or ts i none)) in
    let mask : mask_of k R ≡ m = gather-same 0 8 (λ i. bit_for (child_non_empty k R i)) bits (λ i h. ap bit_for (same i h)) ∙ sym c.called in
    let w : (i : ℕ) × (i < 8) × (0 < bits i) = gather-some 0 8 bits (rw c.called at (pos m ne)) in
    let solid : child_non_empty k R w.0 ≡ true = same w.0 w.1 ∙ bit_for-pos (there k (get_or ts w.0 none)) w.2 in
    record {
      solid = some-non_empty (edge (suc k)) R (rw (edge-twice k) (child_non_empty_lem (edge k) w.0 R (non_empty-some (edge k) (child_of k R w.0) solid)));
      written = ap₂ ◌∷◌ (sym mask) (c.written ∙ ap (λ (l : List (List ℕ)). flatten l ++ x) (sym (tabulate-same 0 8
          (λ i. cond (child_non_empty k R i) (record_of k (child_of k R i)) []) (λ i. cond (there k (get_or ts i none)) (record_of k (room_of k (get_or ts i none))) [])
          (λ i h. ap₂ (λ (b : Bool) (l : List ℕ). cond b l []) (same i h) (record_same k (child_of k R i) (room_of k (get_or ts i none)) (child i h))))));
      after = c.after;
    }

node-written : (k m : ℕ) (bs : List ℕ) → Bytes (m ∷ bs) → ((cs : List ℕ) → Bytes cs → OkRead (Recorded k cs) (read_record k cs)) → (b : Bool) → eqb m 0 ≡ b
    → OkRead (Recorded (suc k) (m ∷ bs)) (cond b bad (bind (read_children (read_record k) 8 m bs) (λ ts x. ok (node_of ts) x)))
node-written k m bs h rec true e = tt
node-written k m bs h rec false e =
    bind_ok (Children k 8 m bs) (Recorded (suc k) (m ∷ bs)) (read_children (read_record k) 8 m bs) (λ ts x. ok (node_of ts) x)
    (children-written k (read_record k) rec 8 m bs (h 0) (λ i. h (suc i))) (λ ts x c. node-recorded k m bs ts x (eqb-false m 0 e) c)

pub record-written : (k : ℕ) (bs : List ℕ) → Bytes bs → OkRead (Recorded k bs) (read_record k bs)
unfolding read_record
record-written zero bs h = leaf-written bs h
record-written (suc k) [] h = tt
record-written (suc k) (m ∷ bs) h = node-written k m bs h (record-written k) (eqb m 0) refl
