-- The ways through keeping a cell, holding a scene and cutting lists back, in the code's words.
-- Each by the values of the words read before, which the definition reads. Assumes nothing.
use mathlib.Core.Path.{◌≡◌, refl, sym, ap, ap₂, ◌∙◌}
use mathlib.Core.List.{List, [], ◌∷◌, ◌++◌, map, append-nil}
use Prim.Native.Nat.{ℕ, zero, suc, ◌+◌, ◌-◌, ◌*◌, ◌<◌, ◌≤◌}
use native.Mathlib.Nat.{not-suc-le-zero, zero-add, mul-le-mul_left}
use native.Mathlib.Numerals.{add-one}
use native.Mathlib.Omega.{arith}
use lib.ListN.{length, take, drop, get_or, set, replicate, length-append, length-map, drop_of_length-le}
use lib.Seq.{sets, sets-eq, get_or-drop, paste, paste-suc, drop-paste, take_all, ext_get_or}
use borrow.Rule.Slice.PartMut.{put_mid}
use Rattle.std.proofs.lemmas.Slice.{put_mid-paste}
use Rattle.std.proofs.lemmas.List.{get_or-map}
use Rattle.paper.specs.Numbers.{tabulate}
use Rattle.laws.proofs.Lists.{get_or-tabulate, length-tabulate}
use Rattle.paper.specs.Store.{Cell, heights, chains, used, capacity_of, scenes_held, kept_count, scene_position, stride, cell_position, head_position, next_position, two_words}
use Rattle.laws.specs.Chains.{link_position, cut_link, cut_links}
use Rattle.laws.proofs.Rows.{list-in}
use Rattle.laws.proofs.Chains.{cut-kept, cut-gone}
use Rattle.laws.proofs.ChainLinks.{link-head, link-next, links-long}
use Rattle.add_keep.specs.Keeping.{link_in, keep_in, hold_in, cut_chains, cut_cells, cut_list, cut_lists, cut_back}
use Rattle.store.proofs.Positions.{position-between, eight-words}

-- ---- a part of the store written over at once

pub part-put : (a k : ℕ) (xs ys zs : List ℕ) → ys ≡ zs → k ≡ length zs → a + length zs ≤ length xs → put_mid a k xs ys ≡ sets xs a zs
part-put a k xs ys zs e f room =
    put_mid-paste a k xs ys zs (length zs) e (sym f) refl
    ∙ ap (λ (l : List ℕ). take a xs ++ l ++ drop (a + length zs) xs) (take_all (length zs) zs (omega arith)) ∙ sym (sets-eq zs xs a room)

-- ---- the counts of all lists

pub counts-all : (ws r : List ℕ) → length r ≡ heights → ((j : ℕ) → j < heights → get_or r j 0 ≡ kept_count ws j) → r ≡ tabulate 0 heights (kept_count ws)
counts-all ws r e h =
    ext_get_or 0 r (tabulate 0 heights (kept_count ws)) (e ∙ sym (length-tabulate heights 0 (kept_count ws)))
    (λ j g.
    let l : j < heights = omega arith in
    h j l ∙ sym (get_or-tabulate heights 0 j (kept_count ws) 0 l ∙ ap (kept_count ws) (zero-add j)))

-- ---- a cell more: its list has n cells, and its words go to `at`

module _ (ws : List ℕ) (k n C at : ℕ) (counted : n ≡ kept_count ws k) (sized : C ≡ capacity_of ws) (placed : at ≡ cell_position C k n) where
  pub cell-kept : (l : List ℕ) (c : Cell) → l ≡ set ws (2 + k) (n + 1) → sets l at c ≡ keep_in k c ws
  unfolding keep_in
  cell-kept l c e =
      ap₂ (λ (m : List ℕ) (i : ℕ). sets m i c)
      (e ∙ ap (set ws (2 + k)) (add-one n ∙ ap suc counted))
      (placed ∙ ap₂ (λ (D q : ℕ). cell_position D k q) sized counted)

-- one more cell has room in its list
pub cell_room : (C k n : ℕ) → k < heights → n < C → cell_position C k n + stride k ≤ used C
cell_room C k n h l = omega (arith, list-in C k h, mul-le-mul_left (stride k) l)

-- eight pointers one by one, then a number's two words
pub cell-and-count : (c d : List ℕ) (n : ℕ) → length c ≡ 8 → d ≡ two_words n →
    get_or c 0 0 ∷ get_or c 1 0 ∷ get_or c 2 0 ∷ get_or c 3 0 ∷ get_or c 4 0 ∷ get_or c 5 0 ∷ get_or c 6 0 ∷ get_or c 7 0 ∷ get_or d 0 0 ∷ get_or d 1 0 ∷ []
    ≡ c ++ two_words n
cell-and-count c d n e f =
    let eight : List ℕ → List ℕ = λ l. get_or c 0 0 ∷ get_or c 1 0 ∷ get_or c 2 0 ∷ get_or c 3 0 ∷ get_or c 4 0 ∷ get_or c 5 0 ∷ get_or c 6 0 ∷ get_or c 7 0 ∷ l in
    ap (λ (l : List ℕ). eight (get_or l 0 0 ∷ get_or l 1 0 ∷ [])) f ∙ ap (λ (l : List ℕ). l ++ two_words n) (eight-words c 0 (omega arith) ∙ take_all 8 c (omega arith))

-- they are the words that a list has for a cell, if it is not the leaves'
pub ten-words : (k n : ℕ) (c l : List ℕ) → 1 ≤ k → length c ≡ 8 → l ≡ c ++ two_words n → length l ≡ stride k
ten-words zero n c l h e f = absurd (not-suc-le-zero h)
ten-words (suc k) n c l h e f = ap length f ∙ length-append c (two_words n) ∙ ap (λ (m : ℕ). m + 2) e

-- ---- a scene more

pub scene-held : (ws : List ℕ) (n at d r : ℕ) → n ≡ scenes_held ws → at ≡ scene_position n → sets (set ws 1 (n + 1)) at (d ∷ r ∷ []) ≡ hold_in (d ∷ r ∷ []) ws
unfolding hold_in
scene-held ws n at d r held placed =
    ap₂ (λ (m : List ℕ) (i : ℕ). sets m i (d ∷ r ∷ [])) (ap (set ws 1) (add-one n ∙ ap suc held)) (placed ∙ ap scene_position held)

-- ---- the next cell of list k linked, behind `last`, a number plus 1, or to the head of its chain where that is 0

module _ (ws : List ℕ) (k j last C at v : ℕ) (sized : C ≡ capacity_of ws) (counted : v ≡ kept_count ws k + 1) where
  link_set : at ≡ link_position C k j last → set ws at v ≡ link_in k j last ws
  unfolding link_in
  link_set placed = ap₂ (set ws) (placed ∙ ap (λ (D : ℕ). link_position D k j last) sized) (counted ∙ add-one (kept_count ws k))

  pub head-linked : last ≡ 0 → at ≡ head_position C k j → set ws at v ≡ link_in k j last ws
  head-linked z placed = link_set (placed ∙ sym (ap (link_position C k j) z ∙ link-head C k j))

  pub next-linked : (last ≡ 0 → ⊥) → at ≡ next_position C k (last - 1) → set ws at v ≡ link_in k j last ws
  next-linked z placed =
      let e : last ≡ suc (last - 1) = omega (arith, z) in
      link_set (placed ∙ sym (ap (link_position C k j) e ∙ link-next C k j (last - 1)))

-- ---- a loop that cuts link after link of some, that are l when the first i of them are cut

module _ (n : ℕ) (links l : List ℕ) (i : ℕ) (so : l ≡ paste links 0 (map (cut_link n) links) i) where
  abbrev cut : List ℕ
  cut = map (cut_link n) links

  cut-many : length cut ≡ length links
  cut-many = length-map links (cut_link n)

  module _ (h : i < length links) where
    link-there : get_or l i 0 ≡ get_or links i 0
    link-there =
        let first : (w : List ℕ) → get_or w i 0 ≡ get_or (drop (0 + i) w) 0 0 = λ w. sym (get_or-drop (0 + i) w 0 0 ∙ ap (λ (p : ℕ). get_or w p 0) (omega arith)) in
        ap (λ (w : List ℕ). get_or w i 0) so ∙ first (paste links 0 cut i)
        ∙ ap (λ (w : List ℕ). get_or w 0 0) (drop-paste links 0 cut i (omega arith) (omega (arith, cut-many))) ∙ sym (first links)

    link-stored : (v : ℕ) → v ≡ cut_link n (get_or l i 0) → set l i v ≡ paste links 0 cut (i + 1)
    link-stored v e =
        let word : v ≡ get_or cut i 0 = e ∙ ap (cut_link n) link-there ∙ sym (get_or-map (cut_link n) links i 0 0 h) in
        ap₂ (λ (m : List ℕ) (w : ℕ). set m i w) so word ∙ ap (λ (p : ℕ). set (paste links 0 cut i) p (get_or cut i 0)) (sym (zero-add i))
        ∙ paste-suc links 0 cut i 0 (omega arith) (omega (arith, cut-many)) ∙ ap (paste links 0 cut) (sym (add-one i))

    -- one to a cell that goes, one to a cell that stays
    pub link-goes : n < get_or l i 0 → set l i 0 ≡ paste links 0 (map (cut_link n) links) (i + 1)
    link-goes g = link-stored 0 (sym (cut-gone n (get_or l i 0) g))

    pub link_stays : get_or l i 0 ≤ n → set l i (get_or l i 0) ≡ paste links 0 (map (cut_link n) links) (i + 1)
    link_stays g = link-stored (get_or l i 0) (sym (cut-kept n (get_or l i 0) g))

  links-over : length links ≤ i → l ≡ cut
  links-over h =
      so ∙ ap₂ (λ (x y : List ℕ). x ++ y) (take_all i cut (omega (arith, cut-many))) (drop_of_length-le links (omega arith)) ∙ append-nil cut

-- all of them, which are m words of a store from a place on
pub all-links-cut : (n at m k : ℕ) (ws l : List ℕ) (i : ℕ) → at + m ≤ length ws → k ≡ m → l ≡ paste (take k (drop at ws)) 0 (map (cut_link n) (take k (drop at ws))) i
    → length (take k (drop at ws)) ≤ i → put_mid at k ws l ≡ cut_links n at m ws
unfolding cut_links
all-links-cut n at m k ws l i room e so over =
    part-put at k ws l (map (cut_link n) (take k (drop at ws))) (links-over n (take k (drop at ws)) l i so over)
    (rw e (sym (links-long n at m ws room))) (rw e (omega (arith, links-long n at m ws room)))
    ∙ ap (λ (q : ℕ). sets ws at (map (cut_link n) (take q (drop at ws)))) e

-- ---- list k back to n of its m cells, which end at `end`: its chains first, then its cells

pub chains-cut : (ws vs : List ℕ) (k n C m heads nexts : ℕ) → C ≡ capacity_of ws → m ≡ kept_count ws k → heads ≡ head_position C k 0 → nexts ≡ next_position C k 0
    → vs ≡ cut_links n heads chains ws → cut_links n nexts m vs ≡ cut_chains k n ws
unfolding cut_chains
chains-cut ws vs k n C m heads nexts sized counted first second e =
    ap₂ (λ (i : ℕ) (w : List ℕ). cut_links n i m w) second (e ∙ ap (λ (i : ℕ). cut_links n i chains ws) first)
    ∙ ap₂ (λ (D q : ℕ). cut_links n (next_position D k 0) q (cut_links n (head_position D k 0) chains ws)) sized counted

cells_cut : (ws l : List ℕ) (k n m C at end : ℕ) → C ≡ capacity_of ws → m ≡ kept_count ws k → at ≡ cell_position C k n → end ≡ cell_position C k m → n ≤ m
    → l ≡ sets ws at (replicate (end - at) 0) → set l (2 + k) n ≡ cut_cells k n ws
unfolding cut_cells
cells_cut ws l k n m C at end sized counted start stop h e =
    let words : end - at ≡ stride k * (kept_count ws k - n) =
    ap₂ (λ (a b : ℕ). a - b) stop start ∙ position-between C k n m h ∙ ap (λ (q : ℕ). stride k * (q - n)) counted in
    ap (λ (w : List ℕ). set w (2 + k) n)
    (e ∙ ap₂ (λ (i j : ℕ). sets ws i (replicate j 0)) (start ∙ ap (λ (D : ℕ). cell_position D k n) sized) words)

pub list-cut : (ws vs l : List ℕ) (k n m C at end : ℕ) → vs ≡ cut_chains k n ws → C ≡ capacity_of vs → m ≡ kept_count vs k → at ≡ cell_position C k n
    → end ≡ cell_position C k m → n ≤ m → l ≡ sets vs at (replicate (end - at) 0) → set l (2 + k) n ≡ cut_list k n ws
unfolding cut_list
list-cut ws vs l k n m C at end chained sized counted start stop h e = cells_cut vs l k n m C at end sized counted start stop h e ∙ ap (cut_cells k n) chained

-- ---- a loop that cuts list after list, with words l that are ws with the first k lists cut

module _ (ns ws : List ℕ) where
  pub none-cut : ws ≡ cut_lists 0 ns ws
  unfolding cut_lists
  none-cut = refl

  module _ (k : ℕ) (l : List ℕ) (so : l ≡ cut_lists k ns ws) where
    pub one-cut : cut_list k (get_or ns k 0) l ≡ cut_lists (k + 1) ns ws
    unfolding cut_lists
    one-cut = rw (add-one k) (ap (cut_list k (get_or ns k 0)) so)

    pub all-cut : k ≡ heights → l ≡ cut_back ns ws
    unfolding cut_back
    all-cut e = so ∙ ap (λ (m : ℕ). cut_lists m ns ws) e
