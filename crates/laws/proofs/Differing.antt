-- Kept cells are the differing non-empty cells of the scenes held, images counted once; and a file is refused by 8 exactly where those of the scenes
-- held and its own outnumber the capacity. By pigeonholes: each such cell is the image of a kept one, and what is refused is one more. Assumes nothing.
use mathlib.Core.Path.{◌≡◌, refl, sym, ◌∙◌, ap, subst}
use mathlib.Core.Bool.{Bool, true, false, false≢true, cond}
use mathlib.Core.List.{List}
use mathlib.Core.Logic.{inl, inr, ◌↔◌}
use Prim.Native.Nat.{ℕ, suc, ◌-◌, ◌<◌, ◌≤◌, ◌^◌}
use native.Mathlib.Nat.{zero-add, suc-ne-zero}
use native.Mathlib.Decide.{dec_lt}
use native.Mathlib.Omega.{arith}
use lib.ListN.{length, get_or}
use Rattle.paper.specs.Numbers.{flatten, tabulate}
use Rattle.paper.specs.Rooms.{Room, Image, NonEmpty}
use Rattle.paper.specs.Outline.{edge, file_depth, file_room}
use Rattle.paper.specs.Store.{Cell, Store, cells_at, cell_at, heights, capacity_of, kept_in, kept_of, store_of, padded, words_of}
use Rattle.paper.specs.Meaning.{cell_voxel}
use Rattle.paper.specs.Match.{Adding, full, added}
use Rattle.paper.specs.Order.{first_number}
use Rattle.paper.specs.Calls.{next_scene, scenes_full, adding, is_full, cells_full, add_order, with_scene, add_words, add_outcome}
use Rattle.paper.specs.Runs.{Bytes, scene_of, Held, holding, State, Occurs, Differing, Outnumbered, Number}
use Rattle.laws.proofs.Lists.{get_or-tabulate, length-tabulate}
use Rattle.laws.proofs.Mirrors.{image-sym}
use Rattle.laws.proofs.Occurring as InRoom
use Rattle.laws.proofs.Adding.{Refused}
use Rattle.laws.proofs.Counting.{Distinct, kept-at-least, kept-distinct, candidate, From, refused-more, refused-solid, refused-distinct, refused-from}
use Rattle.laws.proofs.Undamaged.{undamaged, next-free}
use Rattle.laws.proofs.Outlines.{Accepted, depth-two}
use Rattle.laws.proofs.Filling.{occurs-same, occurs-more, occurs-held, holding-new, AddsFile, file-adds}
use Rattle.laws.proofs.Refusals.{settled-number, add-number}
use Rattle.laws.proofs.Running.{Running, add-accepted}
use Rattle.laws.proofs.Holding.{Holds, occurs-kept, running-holds}

-- ---- families of cells

-- n rooms that occur, none empty, no two images, as a list
pub differing-table : (held : Held) (h n : ℕ) (rooms : ℕ → Room) → ((i : ℕ) → i < n → Occurs held h (rooms i)) → ((i : ℕ) → i < n → NonEmpty (2 ^ h) (rooms i))
    → Distinct (2 ^ h) n rooms → Differing held h (tabulate 0 n rooms)
differing-table held h n rooms occur solid one = record {
  occur = λ i l. subst (Occurs held h) (sym (at i (below i l))) (occur i (below i l));
  non_empty_lem = λ i l. subst (NonEmpty (2 ^ h)) (sym (at i (below i l))) (solid i (below i l));
  apart = λ i j l m z. omega (
    arith,
    one i j (below i (omega arith)) (below j m)
        (subst (λ (b : Room). Image (2 ^ h) (rooms i) b) (at j (below j m)) (subst (λ (a : Room). Image (2 ^ h) a (get_or (tabulate 0 n rooms) j (λ v. false))) (at i (below i (omega arith))) z)),
  );
}
  where
    below : (i : ℕ) → i < length (tabulate 0 n rooms) → i < n
    below i l = subst (λ (m : ℕ). i < m) (length-tabulate n 0 rooms) l

    at : (i : ℕ) → i < n → get_or (tabulate 0 n rooms) i (λ v. false) ≡ rooms i
    at i l = get_or-tabulate n 0 i rooms (λ v. false) l ∙ ap rooms (zero-add i)

pub differing-distinct : {held : Held} {h : ℕ} (cs : List Room) → Differing held h cs → Distinct (2 ^ h) (length cs) (λ i. get_or cs i (λ v. false))
differing-distinct {held} {h} cs d i j hi hj m = go (dec_lt i j) (dec_lt j i)
  where
    go : Dec (i < j) → Dec (j < i) → i ≡ j
    go (yes l) q = absurd (d.apart i j l hj m)
    go (no n) (yes l) = absurd (d.apart j i l hi (image-sym (2 ^ h) (get_or cs i (λ v. false)) (get_or cs j (λ v. false)) m))
    go (no n) (no k) = omega arith

-- where every non-empty cell that occurs is the image of a cell of list k
module _ {held : Held} (K : List (List Cell)) (k : ℕ)
    (image : (c : Room) → Occurs held (suc (suc k)) c → NonEmpty (edge k) c → (q : ℕ) × (q < length (cells_at K k)) × Image (edge k) c (cell_voxel K k (cell_at K k q))) where
  -- there are no more than those
  pub images-most : (cs : List Room) → Differing held (suc (suc k)) cs → length cs ≤ length (cells_at K k)
  images-most cs d =
      kept-at-least K k (length cs) (λ i. get_or cs i (λ v. false)) (λ i h. image (get_or cs i (λ v. false)) (d.occur i h) (d.non_empty_lem i h)) (differing-distinct cs d)

  -- and where as many differing ones occur, those are the number
  pub images-number : (rooms : ℕ → Room) → ((q : ℕ) → q < length (cells_at K k) → Occurs held (suc (suc k)) (rooms q)) → ((q : ℕ) → q < length (cells_at K k) → NonEmpty (edge k) (rooms q))
      → Distinct (edge k) (length (cells_at K k)) rooms → Number held (suc (suc k)) (length (cells_at K k))
  images-number rooms occur solid one =
      let n : ℕ = length (cells_at K k) in
      record { cells = tabulate 0 n rooms; differing = differing-table held (suc (suc k)) n rooms occur solid one; all = length-tabulate n 0 rooms; most = images-most }

module _ {ws : List ℕ} {held : Held} (s : Holds ws held) where
  -- there are no more than are kept
  pub differing-most : (k : ℕ) (cs : List Room) → Differing held (suc (suc k)) cs → length cs ≤ length (cells_at (kept_of ws) k)
  differing-most k = images-most (kept_of ws) k (occurs-kept s k)

  -- (f) those kept are the number
  pub kept-number : (k : ℕ) → Number held (suc (suc k)) (length (cells_at (kept_of ws) k))
  kept-number k =
      let K : List (List Cell) = kept_of ws in
      images-number K k (occurs-kept s k) (λ q. cell_voxel K k (cell_at K k q)) (s.occur k) (s.invs k).solid (kept-distinct K k s.invs)

  lists-kept : length (kept_of ws) ≡ heights
  unfolding kept_of
  lists-kept = length-tabulate heights 0 (kept_in ws)

  -- ---- (e) refused by 8

  module _ (file : List ℕ) (b : Bytes file) (a : Accepted file) where
    pub adds : AddsFile (capacity_of ws) (kept_of ws) file (adding ws file)
    unfolding adding
    adds = file-adds (capacity_of ws) (kept_of ws) (undamaged ws s.ok).capacity lists-kept s.sound s.invs file b a

    -- the scenes held, and the file under the next number
    abbrev pub with-file : Held
    with-file = holding (next_scene ws) (scene_of file) held

    module _ (n : Refused (Unit {0}) (capacity_of ws) (kept_of ws) (InRoom.Occurs (file_room file) (file_depth file - 2))) where
      abbrev P : ℕ → Room → Type 0
      P = InRoom.Occurs (file_room file) (file_depth file - 2)

      candidate-occurs : (i : ℕ) (c : Cell) → From P n tt i c → Occurs with-file (suc (suc n.list)) (cell_voxel n.lists n.list c)
      candidate-occurs i c (inl (l, e)) =
          occurs-same (cell_voxel n.lists n.list c) (cell_voxel (kept_of ws) n.list (cell_at (kept_of ws) n.list i)) e
          (occurs-more held (next_scene ws) (scene_of file) (s.no_more (next_scene ws) (next-free ws)) (s.occur n.list i l))
      candidate-occurs i c (inr o) =
          occurs-held with-file (next_scene ws) (scene_of file) (file_depth file - 2) n.list (cell_voxel n.lists n.list c)
          (holding-new held (next_scene ws) (scene_of file)) (depth-two (file_depth file) a.deep) o

      pub refused-outnumbered : Outnumbered with-file (capacity_of ws)
      refused-outnumbered =
          let m : ℕ = suc (length (cells_at n.lists n.list)) in
          record {
            height = suc (suc n.list);
            from = omega arith;
            cells = tabulate 0 m (candidate P n tt);
            differing = differing-table with-file (suc (suc n.list)) m (candidate P n tt)
                (λ i h. candidate-occurs i _ (refused-from P n tt s.sound.ok i h)) (refused-solid P n tt) (refused-distinct P n tt);
            more = subst (λ (x : ℕ). capacity_of ws < x) (sym (length-tabulate m 0 (candidate P n tt))) (refused-more P n tt);
          }

    pub full-outnumbered : cells_full ws file ≡ true → Outnumbered with-file (capacity_of ws)
    unfolding cells_full
    full-outnumbered e = go (adding ws file) e adds
      where
        go : (x : Adding ℕ) → is_full x ≡ true → AddsFile (capacity_of ws) (kept_of ws) file x → Outnumbered with-file (capacity_of ws)
        go full q n = refused-outnumbered n
        go (added p K) q n = absurd (false≢true q)

-- ---- accepted, so not outnumbered

with-capacity : (st : Store) (n D : ℕ) (x : Adding ℕ) → (with_scene st n D x).capacity ≡ st.capacity
with-capacity st n D full = refl
with-capacity st n D (added p K) = refl

pub add-capacity : (ws file : List ℕ) → capacity_of (add_words ws file) ≡ capacity_of ws
unfolding add_words words_of store_of flatten padded
add-capacity ws file = with-capacity (store_of ws) (next_scene ws) (file_depth file) (adding ws file)

module _ (s : State) (r : Running s) (file : List ℕ) (b : Bytes file) (a : Accepted file) (room : scenes_full s.words ≡ false) where
  outnumbered-full : Outnumbered (holding (next_scene s.words) (scene_of file) s.held) (capacity_of s.words) → cells_full s.words file ≡ true
  outnumbered-full o = go (cells_full s.words file) refl
    where
      go : (c : Bool) → cells_full s.words file ≡ c → c ≡ true
      go true e = refl
      go false e =
          let ws' : List ℕ = add_words s.words file in
          let t : Holds ws' (holding (next_scene s.words) (scene_of file) s.held) =
          running-holds _ (add-accepted s file r b (record { accepted = a; scenes = room; cells = e })) in
          let k : ℕ = o.height - 2 in
          let h : o.height ≡ suc (suc k) = omega (arith, o.from) in
          let most : length o.cells ≤ length (cells_at (kept_of ws') k) = differing-most t k o.cells (subst (λ (x : ℕ). Differing (holding (next_scene s.words) (scene_of file) s.held) x o.cells) h o.differing) in
          absurd (omega (arith, o.more, t.sound.few k, add-capacity s.words file))

  number_is : (add_outcome s.words file).number ≡ cond (cells_full s.words file) 8 0
  unfolding add_outcome
  number_is = settled-number (first_number (add_order s.words file)) _ _ _ ∙ add-number s.words file (running-holds s r).ok a room

  eight-full : (c : Bool) → ◌≡◌ {A = ℕ} (cond c 8 0) 8 → c ≡ true
  eight-full true e = refl
  eight-full false e = absurd (suc-ne-zero 7 (sym e))

  -- (e) refused by 8 exactly when the cells of the scenes held and the file's outnumber the capacity
  pub eight-outnumbered : ((add_outcome s.words file).number ≡ 8) ↔ Outnumbered (holding (next_scene s.words) (scene_of file) s.held) (capacity_of s.words)
  eight-outnumbered = (
    λ e. full-outnumbered (running-holds s r) file b a (eight-full (cells_full s.words file) (sym number_is ∙ e)),
    λ o. number_is ∙ ap (λ (c : Bool). cond c 8 0) (outnumbered-full o),
  )
