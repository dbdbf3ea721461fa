-- On the words of a store: linking a cell and keeping its row gives the words of the store with the cell, and holding a scene those of the store with it.
-- By the laws of a store's words and of its chains', and words put at once or one by one. Assumes nothing.
use mathlib.Core.Path.{◌≡◌, sym, ap, ap₂, ◌∙◌}
use mathlib.Core.List.{List, [], ◌∷◌, ◌++◌}
use Prim.Native.Nat.{ℕ, suc, ◌+◌, ◌-◌, ◌≤◌, ◌<◌}
use native.Mathlib.Nat.{mul-le-mul_left}
use native.Mathlib.Omega.{arith}
use lib.Dec.{T}
use lib.ListN.{length, set, length-append, length-set}
use lib.Seq.{sets, set-append_left}
use Rattle.paper.specs.Store.{Cell, most_scenes, heights, used, scene_position, cell_length, stride, cell_position, first_head, cells_at, chain_of, row_of, chain_words, capacity_ok, header_ok}
use Rattle.laws.specs.Chains.{last_of, link_position}
use Rattle.laws.proofs.Put.{put-sets, set-right}
use Rattle.laws.proofs.Rows.{row-length, list-end}
use Rattle.laws.proofs.Chains.{chain-few}
use Rattle.laws.proofs.ChainEnds.{last-most}
use Rattle.laws.proofs.ChainWords.{chains-long}
use Rattle.laws.proofs.ChainLinks.{link-past, link_in_lem, link-words}
use Rattle.laws.proofs.Words.{Fine, stored, stored-own, counted_by, length-by, capacity-by, count_by, words_of-length, keep-rows-before, scene-words-before, capacity-read, scenes-read, count-read}
use Rattle.laws.proofs.Invariant.{OkCell, OkCells}
use Rattle.laws.proofs.Undamaged.{fine-header-ok}
use Rattle.laws.proofs.SoundWords.{words-header}
use Rattle.add_keep.specs.Keeping.{link_in, keep_in, hold_in}

module _ (C N : ℕ) (S : List Cell) (K : List (List Cell)) (f : Fine C N S K) (x : List ℕ) where
  -- its words have a good header, and the room that they use
  pub stored-header : T (capacity_ok C) → T (header_ok (stored C N S K x))
  stored-header t = fine-header-ok (stored C N S K x) (words-header C N S K f x t)

  pub stored-room : used C ≤ length (stored C N S K x)
  stored-room = simp length-append (omega (arith, words_of-length C N S K f))

  -- the next cell of list k, that is c, linked behind the last of its chain
  link-stored : (k : ℕ) (c : Cell) → k < heights → length (cells_at K k) < C
      → link_in k (chain_of k c) (last_of K k (chain_of k c)) (stored C N S K x) ≡ counted_by K C N S K ++ (chain_words (set K k (cells_at K k ++ (c ∷ []))) C ++ x)
  unfolding link_in
  link-stored k c h l =
      let W : List ℕ = counted_by K C N S K in
      let j : ℕ = chain_of k c in
      let last : ℕ = last_of K k j in
      let v : ℕ = suc (length (cells_at K k)) in
      let i : ℕ = link_position C k j last - first_head C in
      let at : link_position C k j last ≡ length W + i = omega (arith, length-by K C N S K f, link-past C k j last) in
      let inside : link_position C k j last < used C = link_in_lem C k j last h (chain-few k c) (omega (arith, last-most k j (cells_at K k))) in
      ap₂ (λ (D m : ℕ). set (stored C N S K x) (link_position D k j last) (suc m)) (capacity-read C N S K f x) (count-read C N S K f x k h)
      ∙ ap₂ (λ (w : List ℕ) (p : ℕ). set w p v) (stored-own C N S K x) at
      ∙ set-right W (chain_words K C ++ x) i v
      ∙ ap (λ (w : List ℕ). W ++ w)
      (set-append_left (chain_words K C) x i v (omega (arith, inside, chains-long K C)) ∙ ap (λ (w : List ℕ). w ++ x) (sym (link-words K C k c f.lists h l)))

  -- a cell more in list k, with its count, y being the words behind the lists
  rows-stored : (k : ℕ) (c : Cell) (y : List ℕ) → k < heights → OkCells K → OkCell K k c → length c ≡ cell_length k → length (cells_at K k) < C
      → keep_in k (row_of K k c) (counted_by K C N S K ++ y) ≡ counted_by (set K k (cells_at K k ++ (c ∷ []))) C N S (set K k (cells_at K k ++ (c ∷ []))) ++ y
  unfolding keep_in
  rows-stored k c y h ok okc e l =
      let ws : List ℕ = counted_by K C N S K ++ y in
      let n : ℕ = length (cells_at K k) in
      let row : List ℕ = row_of K k c in
      let read = count_by K C N S K f y k h in
      ap₂ (λ (m i : ℕ). sets (set ws (2 + k) (suc m)) i row) read (ap₂ (λ (D m : ℕ). cell_position D k m) (capacity-by K C N S K f y) read)
      ∙ sym (put-sets (cell_position C k n) row (set ws (2 + k) (suc n))
      (simp (length-set, length-append) (omega (arith, length-by K C N S K f, list-end C k h, mul-le-mul_left (stride k) l, row-length K k c e))))
      ∙ sym (keep-rows-before C N S K f k c y h ok okc e l)

  -- linked and kept
  pub keep-stored : (k : ℕ) (c : Cell) → k < heights → OkCells K → OkCell K k c → length c ≡ cell_length k → length (cells_at K k) < C
      → keep_in k (row_of K k c) (link_in k (chain_of k c) (last_of K k (chain_of k c)) (stored C N S K x)) ≡ stored C N S (set K k (cells_at K k ++ (c ∷ []))) x
  keep-stored k c h ok okc e l =
      let more : List (List Cell) = set K k (cells_at K k ++ (c ∷ [])) in
      ap (keep_in k (row_of K k c)) (link-stored k c h l) ∙ rows-stored k c (chain_words more C ++ x) h ok okc e l ∙ sym (stored-own C N S more x)

  -- a scene more
  pub hold-stored : (c : Cell) → length c ≡ 2 → N < most_scenes → hold_in c (stored C N S K x) ≡ stored C (suc N) (set S N c) K x
  unfolding hold_in
  hold-stored c e l =
      let ws : List ℕ = stored C N S K x in
      ap (λ (m : ℕ). sets (set ws 1 (suc m)) (scene_position m) c) (scenes-read C N S K f x)
      ∙ sym (put-sets (scene_position N) c (set ws 1 (suc N)) (simp length-set (omega (arith, stored-room))))
      ∙ sym (scene-words-before C N S K f N c x e l)
