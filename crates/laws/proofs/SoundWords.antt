-- Whether the words of a fine store are undamaged is a test on its scenes and cells alone, whatever words follow. By what its words give back, the
-- counts among them, and the zeros that fill up the header, the scenes and each list. Assumes nothing.
use mathlib.Core.Path.{◌≡◌, refl, sym, ap, ap₂, ◌∙◌, subst}
use mathlib.Core.Bool.{Bool, true, false, cond, not, ◌&&◌}
use mathlib.Core.List.{List, [], ◌++◌}
use Prim.Native.Nat.{ℕ, zero, suc, ◌+◌, ◌-◌, ◌*◌, ◌<◌, ◌≤◌}
use native.Mathlib.Nat.{add-zero}
use native.Mathlib.Omega.{arith}
use borrow.Author.Tests.{eq-eqb}
use lib.Dec.{T, eqb, ltb}
use lib.ListN.{length, take, drop, get_or, length-append, length-map}
use lib.Seq.{take_at}
use Rattle.paper.specs.Numbers.{all_below}
use Rattle.paper.specs.Rooms.{depth_ok}
use Rattle.paper.specs.Store.{Cell, Store, cells_at, cell_at, bad_pointer, most_scenes, heights, chains, used, first_head, capacity_of, is_held, kept_count, scene_words, scene_position, stride, list_position, cell_position}
use Rattle.paper.specs.Store.{kept_of, over_children, solid_of, count_of, scene_depth, scene_root, row_of, list_regions, chain_words, words_of, blank, capacity_ok, header_ok, scene_ok, place_ok, list_usable, counts_ok, chains_ok, list_blank, store_ok}
use Rattle.laws.proofs.Tests.{T_true, and-true, all-at, all-T, true-T, all_same}
use Rattle.laws.proofs.Kept.{scene-word}
use Rattle.laws.proofs.Padded.{padded-blank}
use Rattle.laws.proofs.Regions.{in_row}
use Rattle.laws.proofs.TrueCounts.{over-same, usable-sound}
use Rattle.laws.proofs.Rows.{rows-sized}
use Rattle.laws.proofs.Words.{store_with, Fine, words_of-length, cells-sized, cells-few, zeros-from, cells-from, chains-from, capacity-read, scenes-read, count-read, kept_read, store_of-words_of, solid-read}
use Rattle.laws.proofs.ChainWords.{chains-long, chains-right}
use Rattle.laws.proofs.Undamaged.{FineHeader, fine-header-ok, depth-list, list-blank-at}

-- a scene's depth is in range, and its root pointer not bad
abbrev pub scene_sound : List (List Cell) → Cell → Bool
scene_sound K c = depth_ok (get_or c 0 0) && not (bad_pointer (length (cells_at K (get_or c 0 0 - 2))) (get_or c 1 0))

-- N scenes being held at places S: is one held under number n
abbrev pub held_in : ℕ → List Cell → ℕ → Bool
held_in N S n = ltb n N

-- a scene held is sound, any other place free
abbrev pub place_sound : ℕ → List Cell → List (List Cell) → ℕ → Bool
place_sound N S K n = cond (held_in N S n) (scene_sound K (get_or S n [])) (eqb (get_or (get_or S n []) 0 0) 0 && eqb (get_or (get_or S n []) 1 0) 0)

unfoldable pub sound_store : Store → Bool
sound_store s = all_below most_scenes (place_sound s.held s.scenes s.kept) && all_below heights (list_usable s.kept)

and-false : (b : Bool) → b && false ≡ false
and-false true = refl
and-false false = refl

module _ (C N : ℕ) (S : List Cell) (Ks : List (List Cell)) (f : Fine C N S Ks) (l : List ℕ) where
  abbrev ws : List ℕ
  ws = words_of (store_with C N S Ks) ++ l

  -- ---- a scene's two words

  pub held-read : (n : ℕ) → is_held (words_of (store_with C N S Ks) ++ l) n ≡ held_in N S n
  held-read n = ap (ltb n) (scenes-read C N S Ks f l)

  scene-read : (n i : ℕ) → n < most_scenes → i < scene_words → get_or ws (scene_position n + i) 0 ≡ get_or (get_or S n []) i 0
  scene-read n i h m =
      sym (scene-word ws n i h m) ∙ ap (λ (s : Store). get_or (get_or s.scenes n []) i 0) (store_of-words_of C N S Ks f l)

  pub depth-read : (n : ℕ) → n < most_scenes → scene_depth (words_of (store_with C N S Ks) ++ l) n ≡ get_or (get_or S n []) 0 0
  depth-read n h = ap (λ (j : ℕ). get_or ws j 0) (sym (add-zero (scene_position n))) ∙ scene-read n 0 h (omega arith)

  pub root-read : (n : ℕ) → n < most_scenes → scene_root (words_of (store_with C N S Ks) ++ l) n ≡ get_or (get_or S n []) 1 0
  root-read n h = scene-read n 1 h (omega arith)

  scene_sound_lem : (n : ℕ) → n < most_scenes → scene_ok ws n ≡ scene_sound Ks (get_or S n [])
  unfolding scene_ok
  scene_sound_lem n h =
      let p : ℕ = get_or (get_or S n []) 1 0 in
      ap₂ (λ (a b : ℕ). depth_ok a && not (bad_pointer (kept_count ws (a - 2)) b)) (depth-read n h) (root-read n h)
      ∙ depth-list (get_or (get_or S n []) 0 0) (λ k. not (bad_pointer (kept_count ws k) p)) (λ k. not (bad_pointer (length (cells_at Ks k)) p))
      (λ k m. ap (λ (c : ℕ). not (bad_pointer c p)) (count-read C N S Ks f l k m))

  place_sound_lem : (n : ℕ) → n < most_scenes → place_ok ws n ≡ place_sound N S Ks n
  unfolding place_ok
  place_sound_lem n h = λ i. cond (held-read n i) (scene_sound_lem n h i) (eqb (depth-read n h i) 0 && eqb (root-read n h i) 0)

  -- ---- unused words are zero

  words_long : used (capacity_of ws) ≤ length ws
  words_long = rw (capacity-read C N S Ks f l, length-append (words_of (store_with C N S Ks)) l) (omega (arith, words_of-length C N S Ks f))

  pub words-header : T (capacity_ok C) → FineHeader (words_of (store_with C N S Ks) ++ l)
  words-header c =
      let e : capacity_of ws ≡ C = capacity-read C N S Ks f l in
      record {
        long = words_long;
        capacity = rw e c;
        held = rw (scenes-read C N S Ks f l) f.few-scenes;
        few = λ k h. rw (e, count-read C N S Ks f l k h) (cells-few C N S Ks f k);
        header-zeros = true-T (zeros-from C N S Ks f l);
      }

  list_blank_lem : (k : ℕ) → k < heights → list_blank ws k ≡ true
  list_blank_lem k h =
      ap₂ (λ (c m : ℕ). blank ws (cell_position c k m) (stride k * (c - m))) (capacity-read C N S Ks f l) (count-read C N S Ks f l k h)
      ∙ list-blank-at ws C k (length (cells_at Ks k))
      ∙ ap (λ (m : ℕ). blank ws (list_position C k + m * stride k) (stride k * C - m * stride k)) (sym (length-map (cells_at Ks k) (row_of Ks k)))
      ∙ padded-blank ws (list_position C k) (stride k * C) (in_row (drop (suc k) (list_regions Ks C 0 Ks)) ++ (chain_words Ks C ++ l)) (rows-sized Ks k (cells-sized C N S Ks f k h)) (cells-from C N S Ks f l k h)

  -- ---- counts are true, where every pointer of a kept cell names a kept cell

  module _ (usable : T (all_below heights (list_usable Ks))) where
    count-true : (k n : ℕ) → suc k < heights → n < length (cells_at Ks (suc k)) → count_of ws (suc k) n ≡ over_children (count_of ws k) (cell_at Ks (suc k) n)
    unfolding solid_of
    count-true k n h hn =
        solid-read C N S Ks f l (suc k) n h hn
        ∙ over-same (λ q. solid_of Ks k (cell_at Ks k q)) (count_of ws k) (length (cells_at Ks k)) (cell_at Ks (suc k) n) (usable-sound Ks k n (all-at heights (list_usable Ks) usable (suc k) h) hn)
        (λ q hq. sym (solid-read C N S Ks f l k q (omega arith) hq))

    counts-pass : (k : ℕ) → k < heights → T (counts_ok ws k)
    unfolding counts_ok
    counts-pass zero h = tt
    counts-pass (suc k) h =
        all-T (kept_count ws (suc k)) (λ n. eqb (count_of ws (suc k) n) (over_children (count_of ws k) (cell_at (kept_of ws) (suc k) n)))
        (λ n hn.
        true-T (eq-eqb (count_of ws (suc k) n) (over_children (count_of ws k) (cell_at (kept_of ws) (suc k) n))
        (count-true k n h (subst (λ (m : ℕ). n < m) (count-read C N S Ks f l (suc k) h) hn)
        ∙ ap (λ (K : List (List Cell)). over_children (count_of ws k) (cell_at K (suc k) n)) (sym (kept_read C N S Ks f l)))))

  -- ---- undamaged

  -- the chains' words are those that the cells determine
  pub stored-chained : T (chains_ok (words_of (store_with C N S Ks) ++ l))
  stored-chained =
      chains-right ws words_long
      (ap (λ (D : ℕ). take ((chains + D) * heights) (drop (first_head D) ws)) (capacity-read C N S Ks f l)
      ∙ ap (take ((chains + C) * heights)) (chains-from C N S Ks f l) ∙ take_at (chain_words Ks C) l ((chains + C) * heights) (chains-long Ks C)
      ∙ sym (ap₂ chain_words (kept_read C N S Ks f l) (capacity-read C N S Ks f l)))

  join : (H S U B N L S' U' : Bool) → H ≡ true → S ≡ S' → U ≡ U' → B ≡ true → (T U' → N ≡ true) → L ≡ true → H && S && U && B && N && L ≡ S' && U'
  join H S U B N L S' U' h e u b n c = rw (h, e, u, b, c) (and-true (S' && U' && true && N) ∙ go U' n)
    where
      go : (b : Bool) → (T b → N ≡ true) → S' && b && true && N ≡ S' && b
      go true m = rw (m tt) (and-true (S' && true && true) ∙ and-true (S' && true))
      go false m = rw (and-false S')

  pub sound-words : T (capacity_ok C) → store_ok (words_of (store_with C N S Ks) ++ l) ≡ sound_store (store_with C N S Ks)
  unfolding store_ok sound_store
  sound-words c =
      join (header_ok ws) (all_below most_scenes (place_ok ws)) (all_below heights (list_usable (kept_of ws))) (all_below heights (list_blank ws)) (all_below heights (counts_ok ws)) (chains_ok ws)
      (all_below most_scenes (place_sound N S Ks)) (all_below heights (list_usable Ks))
      (T_true (fine-header-ok ws (words-header c))) (all_same most_scenes (place_ok ws) (place_sound N S Ks) place_sound_lem)
      (ap (λ (K : List (List Cell)). all_below heights (list_usable K)) (kept_read C N S Ks f l))
      (T_true (all-T heights (list_blank ws) (λ k h. true-T (list_blank_lem k h))))
      (λ t. T_true (all-T heights (counts_ok ws) (counts-pass t))) (T_true stored-chained)
