-- What the words of a state that calls lead to say: the store is undamaged, its lists are as they should be, each scene's two words stand for the
-- file held under its number, every kept cell occurs in a scene held. By reading the words of a store as calls make it. Assumes nothing.
use mathlib.Core.Path.{◌≡◌, refl, sym, ◌∙◌, ap, subst, subst₂}
use mathlib.Core.Bool.{Bool, true, false}
use mathlib.Core.List.{List}
use mathlib.Core.Option.{some, some-injective, some-ne-none}
use mathlib.Core.Option as O
use Prim.Native.Nat.{ℕ, suc, ◌+◌, ◌-◌, ◌*◌, ◌<◌, ◌^◌}
use native.Mathlib.Omega.{arith}
use lib.Dec.{T}
use lib.ListN.{length}
use lib.Pow.{pow-add}
use Rattle.paper.specs.Rooms.{Room, Inside, Same, cell_of, NonEmpty, Image, depth_ok}
use Rattle.paper.specs.Outline.{edge, file_depth, file_room}
use Rattle.paper.specs.Store.{Cell, cells_at, cell_at, capacity_of, is_held, kept_of, scene_depth, scene_root, header_ok, scene_ok, store_ok}
use Rattle.paper.specs.Meaning.{pointer_voxel, cell_voxel, root_room}
use Rattle.paper.specs.Calls.{no_scene}
use Rattle.paper.specs.Runs.{Bytes, Scene, scene_of, Held, State, Occurs, Reached}
use Rattle.laws.proofs.Tests.{true-T}
use Rattle.laws.proofs.Occurring.{same-cell}
use Rattle.laws.proofs.Parts.{Part, part_same, pointer-part, cell-part, part-image}
use Rattle.laws.proofs.Invariant.{OkPointer, LowTag}
use Rattle.laws.proofs.Adding.{Sound, Invs}
use Rattle.laws.proofs.Undamaged.{undamaged, store-header, held-sound, held-there, there-held}
use Rattle.laws.proofs.Outlines.{Accepted, depth-two}
use Rattle.laws.proofs.Words.{stored, capacity-read, kept_read}
use Rattle.laws.proofs.SoundWords.{held_in, held-read}
use Rattle.laws.proofs.Filled.{Stands, Filled, filled-fine, filled_ok, scene_depth_lem, scene_root_lem}
use Rattle.laws.proofs.Running.{Running, reached-running}

-- a root of depth D stands for an accepted file
pub record Means (K : List (List Cell)) (D p : ℕ) (file : List ℕ) : Type 0 where
  pub bytes : Bytes file
  pub accepted : Accepted file
  pub depth : D ≡ file_depth file
  pub okp : OkPointer (length (cells_at K (D - 2))) p
  pub low : LowTag K (D - 2) p
  pub room : Same (2 ^ D) (root_room K D p) (file_room file)

pub record Holds (ws : List ℕ) (held : Held) : Type 0 where
  pub ok : T (store_ok ws)
  pub sound : Sound (capacity_of ws) (kept_of ws)
  pub invs : Invs (kept_of ws)
  pub file : ℕ → List ℕ
  pub under : (n : ℕ) → T (is_held ws n) → held n ≡ some (scene_of (file n))
  pub no_more : (n : ℕ) → is_held ws n ≡ false → held n ≡ O.none
  pub means : (n : ℕ) → T (is_held ws n) → Means (kept_of ws) (scene_depth ws n) (scene_root ws n) (file n)
  pub occur : (k q : ℕ) → q < length (cells_at (kept_of ws) k) → Occurs held (suc (suc k)) (cell_voxel (kept_of ws) k (cell_at (kept_of ws) k q))

-- ---- read from the words

-- the room of a root, by the list of its cell
pub root_room_lem : (K : List (List Cell)) (D p : ℕ) → T (depth_ok D) → root_room K D p ≡ pointer_voxel (cell_voxel K (D - 2)) (cells_at K (D - 2)) (edge (D - 2)) p
unfolding root_room
root_room_lem K D p d = ap (λ (h : ℕ). pointer_voxel (cell_voxel K (D - 2)) (cells_at K (D - 2)) (2 ^ h) p) (sym (depth-two D d))

stands-means : {K : List (List Cell)} {c : Cell} {file : List ℕ} (s : Stands K c file) → Means K (file_depth file) s.root file
stands-means {K} {c} {file} s =
    let D : ℕ = file_depth file in
    let d : T (depth_ok D) = s.accepted.deep in
    record {
      bytes = s.bytes;
      accepted = s.accepted;
      depth = refl;
      okp = s.okp;
      low = s.low;
      room = λ v l. ap (λ (r : Room). r v) (root_room_lem K D s.root d) ∙ s.means v (subst (λ (h : ℕ). Inside (2 ^ h) v) (sym (depth-two D d)) l);
    }

filled-holds : {C N : ℕ} {S : List Cell} {K : List (List Cell)} {held : Held} → Filled C N S K held → (l : List ℕ) → Holds (stored C N S K l) held
filled-holds {C} {N} {S} {K} {held} f l = record {
  ok = filled_ok f l;
  sound = subst₂ Sound (sym (capacity-read C N S K (filled-fine f) l)) (sym kept) f.sound;
  invs = subst Invs (sym kept) f.invs;
  file = f.file;
  under = λ n h. f.under n (there n h);
  no_more = λ n h. f.no_more n (sym (held-read C N S K (filled-fine f) l n) ∙ h);
  means = λ n h. rw (kept, scene_depth_lem f l n (there n h), scene_root_lem f l n (there n h)) (stands-means (f.stands n (there n h)));
  occur = subst (λ (Ks : List (List Cell)). (k q : ℕ) → q < length (cells_at Ks k) → Occurs held (suc (suc k)) (cell_voxel Ks k (cell_at Ks k q))) (sym kept) f.occur;
}
  where
    kept : kept_of (stored C N S K l) ≡ K
    kept = kept_read C N S K (filled-fine f) l

    there : (n : ℕ) → T (is_held (stored C N S K l) n) → T (held_in N S n)
    there n h = subst T (held-read C N S K (filled-fine f) l n) h

pub running-holds : (s : State) → Running s → Holds s.words s.held
running-holds s r = subst (λ (ws : List ℕ). Holds ws s.held) (sym r.words) (filled-holds r.filled r.rest)

-- word 0 is the capacity given
pub running-capacity : (s : State) → Running s → capacity_of s.words ≡ s.capacity
running-capacity s r = ap capacity_of r.words ∙ capacity-read s.capacity r.count r.scenes r.lists (filled-fine r.filled) r.rest

pub reached-holds : (s : State) → Reached s → Holds s.words s.held
reached-holds s r = running-holds s (reached-running s r)

-- ---- what is held under a number

-- a scene held under n is held by the words, and is that of the file there
pub record HeldAt (ws : List ℕ) (n : ℕ) (sc : Scene) (file : List ℕ) : Type 0 where
  pub below : T (is_held ws n)
  pub is : sc ≡ scene_of file
  pub means : Means (kept_of ws) (scene_depth ws n) (scene_root ws n) file

module _ {ws : List ℕ} {held : Held} (s : Holds ws held) where
  pub held_at : (n : ℕ) (sc : Scene) → held n ≡ some sc → HeldAt ws n sc (s.file n)
  held_at n sc e = go (is_held ws n) refl
    where
      go : (b : Bool) → is_held ws n ≡ b → HeldAt ws n sc (s.file n)
      go true h =
          let t : T (is_held ws n) = true-T h in
          record { below = t; is = some-injective sc (scene_of (s.file n)) (sym e ∙ s.under n t); means = s.means n t }
      go false h = absurd (some-ne-none sc (sym e ∙ s.no_more n h))

  pub header_ok_lem : T (header_ok ws)
  header_ok_lem = store-header ws s.ok

  pub scene_ok_lem : (n : ℕ) → T (is_held ws n) → T (scene_ok ws n)
  scene_ok_lem = held-sound (undamaged ws s.ok)

  pub below-there : (n : ℕ) → T (is_held ws n) → no_scene ws n ≡ false
  below-there n h = held-there ws n h

  pub there-below : (n : ℕ) → no_scene ws n ≡ false → T (is_held ws n)
  there-below n e = there-held ws n e

  -- ---- a cell that occurs in a scene held

  -- its voxels are those of the root's cell at its place
  pub occurs-root : (h : ℕ) (c : Room) (o : Occurs held h c)
      → Same (2 ^ h) c (cell_of (root_room (kept_of ws) (scene_depth ws o.number) (scene_root ws o.number)) h o.place)
  occurs-root h c o =
      let a : HeldAt ws o.number o.scene (s.file o.number) = held_at o.number o.scene o.is_held in
      let D : ℕ = scene_depth ws o.number in
      let p : ℕ = scene_root ws o.number in
      let file : List ℕ = s.file o.number in
      let eD : o.scene.depth ≡ D = ap (λ (sc : Scene). sc.depth) a.is ∙ sym a.means.depth in
      let up : D ≡ h + (D - h) = omega (arith, o.low) in
      let e : 2 ^ D ≡ 2 ^ h * 2 ^ (D - h) = ap (λ (n : ℕ). 2 ^ n) up ∙ pow-add 2 h (D - h) in
      let l : Inside (2 ^ (D - h)) o.place = subst (λ (n : ℕ). Inside (2 ^ (n - h)) o.place) eD o.in_scene in
      λ v m. o.same v m ∙ ap (λ (sc : Scene). cell_of sc.room h o.place v) a.is
      ∙ sym (same-cell h (D - h) (2 ^ D) (root_room (kept_of ws) D p) (file_room file) o.place e a.means.room l v m)

  -- so it is empty or a kept cell mirrored
  pub occurs-part : (k : ℕ) (c : Room) → Occurs held (suc (suc k)) c → Part (kept_of ws) k c
  occurs-part k c o =
      let K : List (List Cell) = kept_of ws in
      let a : HeldAt ws o.number o.scene (s.file o.number) = held_at o.number o.scene o.is_held in
      let D : ℕ = scene_depth ws o.number in
      let p : ℕ = scene_root ws o.number in
      let eD : o.scene.depth ≡ D = ap (λ (sc : Scene). sc.depth) a.is ∙ sym a.means.depth in
      let d : ℕ = D - suc (suc k) in
      let down : D - 2 ≡ k + d = omega (arith, o.low) in
      let deep : T (depth_ok D) = subst (λ (n : ℕ). T (depth_ok n)) (sym a.means.depth) a.means.accepted.deep in
      let root : Part K (D - 2) (root_room K D p) = subst (Part K (D - 2)) (sym (root_room_lem K D p deep)) (pointer-part K (D - 2) p a.means.okp) in
      part_same c (cell_of (root_room K D p) (suc (suc k)) o.place) (occurs-root (suc (suc k)) c o)
      (cell-part K s.sound.ok d k (root_room K D p) (subst (λ (n : ℕ). Part K n (root_room K D p)) down root) o.place
      (subst (λ (n : ℕ). Inside (2 ^ (n - suc (suc k))) o.place) eD o.in_scene))

  pub occurs-kept : (k : ℕ) (c : Room) → Occurs held (suc (suc k)) c → NonEmpty (edge k) c
      → (q : ℕ) × (q < length (cells_at (kept_of ws) k)) × Image (edge k) c (cell_voxel (kept_of ws) k (cell_at (kept_of ws) k q))
  occurs-kept k c o full = part-image (kept_of ws) k c (occurs-part k c o) full
