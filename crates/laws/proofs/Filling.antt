-- The calls that write keep a store as calls make it: one with nothing in it is such a store, and so is one with an accepted file added, every
-- cell occurring in a scene held. From what adding a tree gives, and that kept cells and scenes stay. Assumes nothing.
use mathlib.Core.Path.{◌≡◌, refl, sym, ◌∙◌, ap, subst}
use mathlib.Core.Bool.{false, cond}
use mathlib.Core.List.{List, [], ◌∷◌}
use mathlib.Core.Option.{some, some-ne-none}
use mathlib.Core.Option as O
use mathlib.Core.Logic.{inl, inr}
use Prim.Native.Nat.{ℕ, zero, suc, ◌-◌, ◌<◌, ◌≤◌, ◌^◌, zero-le}
use native.Mathlib.Nat.{not-suc-le-zero, le_of_suc-le-suc, eq-or-lt_of_le}
use native.Mathlib.Decide.{dec_lt}
use native.Mathlib.Omega.{arith}
use borrow.Author.Tests.{eq-eqb, ne_eqb, le-ltb, ltb-false}
use lib.Dec.{T, eqb, leb, leb→le, lt→ltb, ltb→lt}
use lib.ListN.{length, get_or, set, replicate, length-set, get_or-replicate}
use lib.Seq.{get_or-set_same, get_or-set_other}
use Rattle.paper.specs.Rooms.{Room, Inside, depth_ok, Same}
use Rattle.paper.specs.Outline.{tree_voxel, file_depth, file_room, outline_tree}
use Rattle.paper.specs.Store.{Cell, cells_at, cell_at, most_scenes, heights, most_capacity, free_place, capacity_ok, empty_store}
use Rattle.paper.specs.Meaning.{cell_voxel}
use Rattle.paper.specs.Match.{Adding, add_tree}
use Rattle.paper.specs.Runs.{Bytes, Scene, scene_of, Held, nothing, holding, Occurs}
use Rattle.laws.proofs.Tests.{and_right}
use Rattle.laws.proofs.Occurring as InRoom
use Rattle.laws.proofs.Growing.{ext-cell, ext-pointer, ext-voxels, ext-means, ext_low}
use Rattle.laws.proofs.Adding.{Answer, Sound, Invs, Done, Refused, no_cell, empty-sound, empty-invs}
use Rattle.laws.proofs.AddingTrees.{add_tree-done}
use Rattle.laws.proofs.Outlines.{Accepted, depth-two}
use Rattle.laws.proofs.TreesRead.{outline-good}
use Rattle.laws.proofs.Undamaged.{depth_low}
use Rattle.laws.proofs.Padded.{Sized, snil, scons, sized_set}
use Rattle.laws.proofs.SoundWords.{held_in}
use Rattle.laws.proofs.Filled.{Stands, Filled}

-- ---- cells that occur in the scenes held

-- a cell with the same voxels
pub occurs-same : {held : Held} {h : ℕ} (a b : Room) → Same (2 ^ h) a b → Occurs held h b → Occurs held h a
occurs-same a b e o = record {
  number = o.number;
  scene = o.scene;
  is_held = o.is_held;
  low = o.low;
  place = o.place;
  in_scene = o.in_scene;
  same = λ v l. e v l ∙ o.same v l;
}

-- a scene more, under a number that nothing is held under
pub holding-old : (held : Held) (n m : ℕ) (s sc : Scene) → held n ≡ O.none → held m ≡ some sc → holding n s held m ≡ some sc
holding-old held n m s sc none is = rw (ne_eqb m n (λ e. some-ne-none sc (sym is ∙ ap held e ∙ none))) is

pub holding-new : (held : Held) (n : ℕ) (s : Scene) → holding n s held n ≡ some s
holding-new held n s = rw (eq-eqb n n refl)

pub occurs-more : (held : Held) (n : ℕ) (s : Scene) {h : ℕ} {c : Room} → held n ≡ O.none → Occurs held h c → Occurs (holding n s held) h c
occurs-more held n s none o = record {
  number = o.number;
  scene = o.scene;
  is_held = holding-old held n o.number s o.scene none o.is_held;
  low = o.low;
  place = o.place;
  in_scene = o.in_scene;
  same = o.same;
}

-- a cell of a room that is held
pub occurs-held : (held : Held) (n : ℕ) (sc : Scene) (k j : ℕ) (r : Room) → held n ≡ some sc → suc (suc k) ≡ sc.depth → InRoom.Occurs sc.room k j r
    → Occurs held (suc (suc j)) r
occurs-held held n sc k j r is e o =
    let d : o.down ≡ sc.depth - suc (suc j) = omega (arith, o.is_down) in
    record {
      number = n;
      scene = sc;
      is_held = is;
      low = omega (arith, o.is_down);
      place = o.place;
      in_scene = subst (λ (m : ℕ). Inside (2 ^ m) o.place) d o.is-inside;
      same = λ v l. sym (o.is v l);
    }

-- ---- a store with nothing in it

empty-lists : (C : ℕ) → length (empty_store C).kept ≡ heights
unfolding empty_store
empty-lists C = refl

all-free : (n : ℕ) → Sized 2 (replicate n free_place)
all-free zero = snil
all-free (suc n) = scons refl (all-free n)

pub empty-filled : (C : ℕ) → T (capacity_ok C) → Filled C 0 (empty_store C).scenes (empty_store C).kept nothing
unfolding empty_store
empty-filled C ok = record {
  capacity = ok;
  lists = empty-lists C;
  few-scenes = zero-le;
  all-scenes = refl;
  of-scenes = all-free most_scenes;
  sound = empty-sound C;
  invs = empty-invs C;
  file = λ n. [];
  under = λ n h. absurd (not-suc-le-zero (ltb→lt n 0 h));
  no_more = λ n h. refl;
  stands = λ n h. absurd (not-suc-le-zero (ltb→lt n 0 h));
  free = λ n l h. get_or-replicate most_scenes n free_place [] l;
  occur = λ k q h. absurd (no_cell C k q h);
}

-- ---- a file more

-- the room of a file's tree, its height counted from the root's list
pub tree-room : (file : List ℕ) → T (depth_ok (file_depth file)) → tree_voxel (outline_tree file) (suc (suc (file_depth file - 2))) ≡ file_room file
unfolding file_room
tree-room file d = ap (tree_voxel (outline_tree file)) (depth-two (file_depth file) d)

-- what adding a file's tree answers
abbrev pub AddsFile : ℕ → List (List Cell) → List ℕ → Adding ℕ → Type 0
AddsFile C K file =
    Answer (Refused (Unit {0}) C K (InRoom.Occurs (file_room file) (file_depth file - 2))) (Done (Unit {0}) C K (file_depth file - 2) (file_room file))

pub file-adds : (C : ℕ) (K : List (List Cell)) → T (capacity_ok C) → length K ≡ heights → Sound C K → Invs K → (file : List ℕ) → Bytes file → Accepted file
    → AddsFile C K file (add_tree C (outline_tree file) (file_depth file - 2) K)
file-adds C K c e s I file b a =
    let k : ℕ = file_depth file - 2 in
    subst (λ (r : Room). Answer (Refused (Unit {0}) C K (InRoom.Occurs r k)) (Done (Unit {0}) C K k r) (add_tree C (outline_tree file) k K)) (tree-room file a.deep)
    (add_tree-done (Unit {0}) C (leb→le C most_capacity (and_right (leb 1 C) (leb C most_capacity) c)) (outline-good file b) K s (λ u. I)
    (omega (arith, depth_low (file_depth file) a.deep)))

module _ {C N : ℕ} {S : List Cell} {K : List (List Cell)} {held : Held} (f : Filled C N S K held) (file : List ℕ) (b : Bytes file) (a : Accepted file)
    (p : ℕ) (K' : List (List Cell)) (d : Done (Unit {0}) C K (file_depth file - 2) (file_room file) p K') (room : N < most_scenes) where
  -- the scenes with this one, the files, and what is held
  abbrev pub S⁺ : List Cell
  S⁺ = set S N (file_depth file ∷ p ∷ [])

  abbrev pub held⁺ : Held
  held⁺ = holding N (scene_of file) held

  abbrev files⁺ : ℕ → List ℕ
  files⁺ n = cond (eqb n N) file (f.file n)

  -- the number of this scene was free, and is held; any other is held if it was
  was_free : held_in N S N ≡ false
  was_free = le-ltb N N (omega arith)

  held-old : (n : ℕ) → T (held_in N S n) → ¬ (n ≡ N)
  held-old n h e = omega (arith, ltb→lt n N h)

  free-old : (n : ℕ) → held_in (suc N) S⁺ n ≡ false → (held_in N S n ≡ false) × (¬ (n ≡ N))
  free-old n h = let l : suc N ≤ n = ltb-false n (suc N) h in (le-ltb n N (omega arith), λ e. omega arith)

  -- a rule of every scene held: of the old ones and of this one
  each : (P : ℕ → Type 0) → ((n : ℕ) → T (held_in N S n) → P n) → P N → (n : ℕ) → T (held_in (suc N) S⁺ n) → P n
  each P old new n h =
      elim (eq-or-lt_of_le (le_of_suc-le-suc (ltb→lt n (suc N) h))) [
        | inl e ↦ subst P (sym e) new
        | inr l ↦ old n (lt→ltb n N l)
      ]

  old-stands : (n : ℕ) → T (held_in N S n) → Stands K' (get_or S⁺ n []) (files⁺ n)
  old-stands n h =
      let s : Stands K (get_or S n []) (f.file n) = f.stands n h in
      let k : ℕ = file_depth (f.file n) - 2 in
      rw (ne_eqb n N (held-old n h)) (record {
        bytes = s.bytes;
        accepted = s.accepted;
        root = s.root;
        words = get_or-set_other S N n (file_depth file ∷ p ∷ []) [] (held-old n h) ∙ s.words;
        okp = ext-pointer d.ext k s.root s.okp;
        low = ext_low d.ext f.sound.ok k s.root s.okp s.low;
        means = λ v l. ext-means d.ext f.sound.ok k s.root s.okp v l ∙ s.means v l;
      })

  new-stands : Stands K' (get_or S⁺ N []) (files⁺ N)
  new-stands =
      rw (eq-eqb N N refl) (record {
        bytes = b;
        accepted = a;
        root = p;
        words = get_or-set_same S N (file_depth file ∷ p ∷ []) [] (omega (arith, f.all-scenes));
        okp = d.okp;
        low = d.low tt;
        means = d.means;
      })

  occur⁺ : (k q : ℕ) → q < length (cells_at K' k) → Occurs held⁺ (suc (suc k)) (cell_voxel K' k (cell_at K' k q))
  occur⁺ k q h = go (dec_lt q (length (cells_at K k)))
    where
      go : Dec (q < length (cells_at K k)) → Occurs held⁺ (suc (suc k)) (cell_voxel K' k (cell_at K' k q))
      go (yes l) =
          occurs-same (cell_voxel K' k (cell_at K' k q)) (cell_voxel K k (cell_at K k q))
          (λ v m. ap (λ (c : Cell). cell_voxel K' k c v) (ext-cell d.ext k q l) ∙ ext-voxels d.ext f.sound.ok k (cell_at K k q) (f.sound.ok k q l) v m)
          (occurs-more held N (scene_of file) (f.no_more N was_free) (f.occur k q l))
      go (no m) =
          occurs-held held⁺ N (scene_of file) (file_depth file - 2) k (cell_voxel K' k (cell_at K' k q)) (holding-new held N (scene_of file))
          (depth-two (file_depth file) a.deep) (d.fresh k q (omega arith) h)

  pub add-filled : Filled C (suc N) S⁺ K' held⁺
  add-filled = record {
    capacity = f.capacity;
    lists = d.len ∙ f.lists;
    few-scenes = room;
    all-scenes = length-set S N (file_depth file ∷ p ∷ []) ∙ f.all-scenes;
    of-scenes = sized_set N (file_depth file ∷ p ∷ []) f.of-scenes refl;
    sound = d.sound;
    invs = d.invs tt;
    file = files⁺;
    under = each (λ n. held⁺ n ≡ some (scene_of (files⁺ n))) (λ n h. rw (ne_eqb n N (held-old n h)) (f.under n h)) (rw (eq-eqb N N refl));
    no_more = λ n h. rw (ne_eqb n N (free-old n h).1) (f.no_more n (free-old n h).0);
    stands = each (λ n. Stands K' (get_or S⁺ n []) (files⁺ n)) old-stands new-stands;
    free = λ n l h. get_or-set_other S N n (file_depth file ∷ p ∷ []) [] (free-old n h).1 ∙ f.free n l (free-old n h).0;
    occur = occur⁺;
  }
