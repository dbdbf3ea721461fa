-- What holds of the capacity, scenes, cells and scenes held of a store that only the calls wrote, and that its words are those of an undamaged
-- store. By the rules of its lists: cells have their words, none is empty, every pointer names a kept cell. Assumes nothing.
use mathlib.Core.Path.{◌≡◌, refl, sym, ◌∙◌, ap, subst}
use mathlib.Core.Bool.{Bool, true, false, cond, ◌&&◌, false≢true}
use mathlib.Core.List.{List, [], ◌∷◌}
use mathlib.Core.Option.{some}
use mathlib.Core.Option as O
use Prim.Native.Nat.{ℕ, zero, suc, ◌+◌, ◌-◌, ◌<◌, ◌≤◌}
use native.Mathlib.Nat.{zero-add, pow-succ'}
use native.Mathlib.Omega.{arith}
use lib.Dec.{T, eqb, eqb→eq, lt→ltb, ltb→lt}
use lib.ListN.{length, get_or}
use Rattle.paper.specs.Numbers.{all_below}
use Rattle.paper.specs.Rooms.{depth_ok, Same, NonEmpty, child_no, in_child}
use Rattle.paper.specs.Outline.{edge, file_depth, file_room}
use Rattle.paper.specs.Store.{Cell, cells_at, cell_at, leaf_no, bad_pointer, any_bad, most_scenes, heights, scene_words, cell_length, free_place, scene_depth, scene_root, capacity_ok, leaf_usable, cell_usable, list_usable, store_ok}
use Rattle.paper.specs.Meaning.{pointer_voxel, cell_voxel}
use Rattle.paper.specs.Runs.{Bytes, scene_of, Held, Occurs}
use Rattle.laws.proofs.Tests.{true-T, and_T, all-at, all-T, none-T}
use Rattle.laws.proofs.Lists.{all_in-T}
use Rattle.laws.proofs.Mirrors.{child_no-lt}
use Rattle.laws.proofs.Leaves.{leaf_of-solid, leaf_of-leaf_voxel}
use Rattle.laws.proofs.Invariant.{OkPointer, ok-not-bad, LowTag, Shape, pointer_none}
use Rattle.laws.proofs.Adding.{Sound, Invs}
use Rattle.laws.proofs.Rows.{Lists, lnil, lcons}
use Rattle.laws.proofs.Words.{Fine, stored}
use Rattle.laws.proofs.Padded.{Sized, snil, scons}
use Rattle.laws.proofs.Outlines.{Accepted}
use Rattle.laws.proofs.SoundWords.{scene_sound, held_in, place_sound, sound_store, sound-words, depth-read, root-read}

-- ---- what is held

-- the two words of a scene stand for an accepted file: its depth, and a pointer with the lowest tag that means the file's room
pub record Stands (K : List (List Cell)) (c : Cell) (file : List ℕ) : Type 0 where
  pub bytes : Bytes file
  pub accepted : Accepted file
  pub root : ℕ
  pub words : c ≡ file_depth file ∷ root ∷ []
  pub okp : OkPointer (length (cells_at K (file_depth file - 2))) root
  pub low : LowTag K (file_depth file - 2) root
  pub means : Same (edge (file_depth file - 2))
      (pointer_voxel (cell_voxel K (file_depth file - 2)) (cells_at K (file_depth file - 2)) (edge (file_depth file - 2)) root) (file_room file)

-- capacity, scenes and cells as the calls make them: each scene held stands for the file held under its number, any other place is free, and every
-- cell occurs in a scene held
pub record Filled (C N : ℕ) (S : List Cell) (K : List (List Cell)) (held : Held) : Type 0 where
  pub capacity : T (capacity_ok C)
  pub lists : length K ≡ heights
  pub few-scenes : N ≤ most_scenes
  pub all-scenes : length S ≡ most_scenes
  pub of-scenes : Sized scene_words S
  pub sound : Sound C K
  pub invs : Invs K
  pub file : ℕ → List ℕ
  pub under : (n : ℕ) → T (held_in N S n) → held n ≡ some (scene_of (file n))
  pub no_more : (n : ℕ) → held_in N S n ≡ false → held n ≡ O.none
  pub stands : (n : ℕ) → T (held_in N S n) → Stands K (get_or S n []) (file n)
  pub free : (n : ℕ) → n < most_scenes → held_in N S n ≡ false → get_or S n [] ≡ free_place
  pub occur : (k q : ℕ) → q < length (cells_at K k) → Occurs held (suc (suc k)) (cell_voxel K k (cell_at K k q))

-- ---- its words can hold it

sized-from : (w : ℕ) (cs : List Cell) → ((q : ℕ) → q < length cs → length (get_or cs q []) ≡ w) → Sized w cs
sized-from w [] h = snil
sized-from w (c ∷ cs) h = scons (h 0 (omega arith)) (sized-from w cs (λ q l. h (suc q) (omega arith)))

lists-from : (C j : ℕ) (Ks : List (List Cell)) → ((m q : ℕ) → q < length (cells_at Ks m) → length (cell_at Ks m q) ≡ cell_length (j + m))
    → ((m : ℕ) → length (cells_at Ks m) ≤ C) → Lists C j Ks
lists-from C j [] h few = lnil
lists-from C j (cs ∷ Ks) h few =
    let here : j + 0 ≡ j = omega arith in
    lcons (sized-from (cell_length j) cs (λ q l. h 0 q l ∙ ap cell_length here)) (few 0)
    (lists-from C (suc j) Ks (λ m q l. let e : j + suc m ≡ suc j + m = omega arith in h (suc m) q l ∙ ap cell_length e) (λ m. few (suc m)))

-- a leaf has two words, any other cell eight
pub shape-words : (K : List (List Cell)) (k : ℕ) (c : Cell) → Shape K k c → length c ≡ cell_length k
shape-words K zero c s = ap length s.is
shape-words K (suc k) c s = s.0

pub filled-fine : {C N : ℕ} {S : List Cell} {K : List (List Cell)} {held : Held} → Filled C N S K held → Fine C N S K
filled-fine {C} {N} {S} {K} f = record {
  lists = f.lists;
  of-scenes = f.of-scenes;
  all-scenes = f.all-scenes;
  few-scenes = f.few-scenes;
  of-cells = lists-from C 0 K (λ m q h. shape-words K m (cell_at K m q) ((f.invs m).shape q h) ∙ ap cell_length (sym (zero-add m))) f.sound.few;
}

-- ---- no cell is empty or has a bad pointer

leaf_usable_lem : (K : List (List Cell)) → Invs K → (q : ℕ) → q < length (cells_at K 0) → T (leaf_usable (cell_at K 0 q))
unfolding leaf_usable cell_voxel
leaf_usable_lem K I q h =
    let n : ℕ = leaf_no (cell_at K 0 q) in
    lt→ltb 0 n (subst (λ (m : ℕ). 0 < m) (leaf_of-leaf_voxel n ((I 0).ok q h)) (leaf_of-solid _ ((I 0).solid q h)))

-- a cell with no child has no voxel
some-child : (K : List (List Cell)) (k : ℕ) (c : Cell) → NonEmpty (edge (suc k)) (cell_voxel K (suc k) c) → all_below 8 (λ i. eqb (get_or c i 0) 0) ≡ false
unfolding cell_voxel
some-child K k c (v, l, e) = go (all_below 8 (λ i. eqb (get_or c i 0) 0)) refl
  where
    go : (b : Bool) → all_below 8 (λ i. eqb (get_or c i 0) 0) ≡ b → b ≡ false
    go false q = refl
    go true q =
        let i : ℕ = child_no (edge k) v in
        let hi : i < 8 = child_no-lt (edge k) v (rw (pow-succ' 2 (suc (suc k))) at l) in
        let z : get_or c i 0 ≡ 0 = eqb→eq (get_or c i 0) 0 (all-at 8 (λ i. eqb (get_or c i 0) 0) (true-T q) i hi) in
        absurd (false≢true (sym (pointer_none (cell_voxel K k) (cells_at K k) (edge k) (get_or c i 0) z (in_child (edge k) v)) ∙ e))

pub none-bad : (n : ℕ) (c : Cell) → ((i : ℕ) → i < 8 → OkPointer n (get_or c i 0)) → any_bad n c ≡ false
none-bad n c ok = none-T 8 (λ i. bad_pointer n (get_or c i 0)) (λ i h. ok-not-bad n (get_or c i 0) (ok i h))

cell_usable_lem : (K : List (List Cell)) → Invs K → (k q : ℕ) → q < length (cells_at K (suc k)) → T (cell_usable (length (cells_at K k)) (cell_at K (suc k) q))
unfolding cell_usable
cell_usable_lem K I k q h =
    rw (some-child K k (cell_at K (suc k) q) ((I (suc k)).solid q h), none-bad (length (cells_at K k)) (cell_at K (suc k) q) ((I (suc k)).ok q h)) tt

pub invs-usable : (K : List (List Cell)) → Invs K → (k : ℕ) → T (list_usable K k)
unfolding list_usable
invs-usable K I zero = all_in-T leaf_usable [] (cells_at K 0) (leaf_usable_lem K I)
invs-usable K I (suc k) = all_in-T (cell_usable (length (cells_at K k))) [] (cells_at K (suc k)) (cell_usable_lem K I k)

-- ---- so its words are undamaged

module _ {C N : ℕ} {S : List Cell} {K : List (List Cell)} {held : Held} (f : Filled C N S K held) (l : List ℕ) where
  fine : Fine C N S K
  fine = filled-fine f

  -- a number held has a place
  placed : (n : ℕ) → T (held_in N S n) → n < most_scenes
  placed n h = omega (arith, f.few-scenes, ltb→lt n N h)

  -- a scene's two words, as they are read
  pub scene_depth_lem : (n : ℕ) → T (held_in N S n) → scene_depth (stored C N S K l) n ≡ file_depth (f.file n)
  scene_depth_lem n h = depth-read C N S K fine l n (placed n h) ∙ ap (λ (c : Cell). get_or c 0 0) (f.stands n h).words

  pub scene_root_lem : (n : ℕ) (h : T (held_in N S n)) → scene_root (stored C N S K l) n ≡ (f.stands n h).root
  scene_root_lem n h = root-read C N S K fine l n (placed n h) ∙ ap (λ (c : Cell). get_or c 1 0) (f.stands n h).words

  scene_sound_lem : (n : ℕ) → T (held_in N S n) → T (scene_sound K (get_or S n []))
  scene_sound_lem n h =
      let D : ℕ = file_depth (f.file n) in
      let d : T (depth_ok D) = (f.stands n h).accepted.deep in
      rw ((f.stands n h).words, ok-not-bad (length (cells_at K (D - 2))) (f.stands n h).root (f.stands n h).okp) (and_T (depth_ok D) true d tt)

  place_sound_lem : (n : ℕ) → n < most_scenes → T (place_sound N S K n)
  place_sound_lem n h = go (held_in N S n) refl
    where
      go : (b : Bool) → held_in N S n ≡ b → T (cond b (scene_sound K (get_or S n [])) (eqb (get_or (get_or S n []) 0 0) 0 && eqb (get_or (get_or S n []) 1 0) 0))
      go true e = scene_sound_lem n (true-T e)
      go false e = rw (f.free n h e) tt

  pub filled_ok : T (store_ok (stored C N S K l))
  unfolding sound_store
  filled_ok =
      rw (sound-words C N S K fine l f.capacity)
      (and_T (all_below most_scenes (place_sound N S K)) (all_below heights (list_usable K))
      (all-T most_scenes (place_sound N S K) place_sound_lem)
      (all-T heights (list_usable K) (λ k h. invs-usable K f.invs k)))
