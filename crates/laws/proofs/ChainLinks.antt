-- The words of chains after a cell more in a list, and after a list is cut back: one link is stored, or the links of the list's heads and next words are cut.
-- By the place of each word, and what a cell more or a cut does to each head and each next word. Assumes nothing.
use mathlib.Core.Path.{◌≡◌, refl, sym, ◌∙◌, ap, ap₂, subst}
use mathlib.Core.Bool.{Bool, true, false, cond, ◌&&◌}
use mathlib.Core.List.{List, [], ◌∷◌, ◌++◌, map}
use mathlib.Core.Logic.{◌≢◌}
use Prim.Native.Nat.{ℕ, zero, suc, ◌+◌, ◌-◌, ◌*◌, ◌/◌, ◌%◌, ◌<◌, ◌≤◌}
use native.Mathlib.Nat.{suc-ne-zero, mul-le-mul_left}
use native.Mathlib.Decide.{ℕ_discrete, dec_lt}
use native.Mathlib.Numerals.{sub-one}
use native.Mathlib.Omega.{arith}
use borrow.Author.Tests.{eq-eqb, ne_eqb}
use lib.Dec.{T, eqb, eqb→eq}
use lib.ListN.{length, take, drop, get_or, set, length-map, length-drop, length-set, length-append}
use lib.Seq.{sets, length-sets, length-take-le, get_or-take, get_or-drop, get_or-set_same, get_or-set_other, drop-append-add, drop-append-le, take-append-le}
use Rattle.paper.specs.Store.{Cell, cells_at, heights, chains, used, first_head, head_position, next_position, chain_of, first_in, head_of, next_of, chain_words}
use Rattle.laws.specs.Chains.{last_of, link_position, cut_link, cut_links}
use Rattle.laws.proofs.Tests.{true-T, and_left, and_right, and_T}
use Rattle.laws.proofs.Lists.{map_at, row_before}
use Rattle.laws.proofs.Put.{put, put-before, put-inside, put-after, put-sets, sets-left, sets-right}
use Rattle.laws.proofs.Chains.{chain-few}
use Rattle.laws.proofs.ChainEnds.{last-most}
use Rattle.laws.proofs.ChainGrowing.{next_in, head_more, next_more, heads-cut, nexts-cut}
use Rattle.laws.proofs.ChainWords.{place_of, number_of, place_in, chains-long, head_at, next-at, chains-by, next-spare}

-- ---- where a link stands

module _ (C k j : ℕ) where
  pub link-head : link_position C k j 0 ≡ head_position C k j
  unfolding link_position
  link-head = refl

  pub link-next : (m : ℕ) → link_position C k j (suc m) ≡ next_position C k m
  unfolding link_position
  link-next m = rw (ne_eqb (suc m) 0 (suc-ne-zero m), sub-one (suc m))

  pub link-past : (last : ℕ) → first_head C ≤ link_position C k j last
  link-past zero = omega (arith, link-head)
  link-past (suc m) = omega (arith, link-next m)

  pub link_in_lem : (last : ℕ) → k < heights → j < chains → last ≤ C → link_position C k j last < used C
  link_in_lem zero hk hj l = omega (arith, link-head)
  link_in_lem (suc m) hk hj l = omega (arith, link-next m, place_in C k m l heights hk)

  -- among the words of chains
  abbrev pub link_place : ℕ → ℕ
  link_place last = link_position C k j last - first_head C

  place-head : link_place 0 ≡ chains * k + j
  place-head = omega (arith, link-head)

  place-next : (m : ℕ) → link_place (suc m) ≡ chains * heights + (C * k + m)
  place-next m = omega (arith, link-next m)

-- two places are one where both parts are
same_place : (s k n k' n' : ℕ) → n < s → n' < s → s * k' + n' ≡ s * k + n → (k' ≡ k) × (n' ≡ n)
same_place s k n k' n' h h' e =
    (sym (place_of s k' n' h') ∙ ap (λ (m : ℕ). m / s) e ∙ place_of s k n h, sym (number_of s k' n' h') ∙ ap (λ (m : ℕ). m % s) e ∙ number_of s k n h)

-- ---- a cell more

-- a word stored in a list, read at any place, b being the test whether it is that place
set-read : (l : List ℕ) (p v i : ℕ) (b : Bool) → i < length l → (T b → i ≡ p) → (i ≡ p → T b) → get_or (set l p v) i 0 ≡ cond b v (get_or l i 0)
set-read l p v i true h here back = ap (λ (q : ℕ). get_or (set l q v) i 0) (sym (here tt)) ∙ get_or-set_same l i v 0 h
set-read l p v i false h here back = get_or-set_other l p i v 0 back

eqb-T : (a b : ℕ) → a ≡ b → T (eqb a b)
eqb-T a b e = true-T (eq-eqb a b e)

module _ (K : List (List Cell)) (C k : ℕ) (hk : k < heights) (j v : ℕ) (hj : j < chains) where
  abbrev words : List ℕ
  words = chain_words K C

  -- the link behind `last`, a number plus 1, or 0: read as a head, and as a next word
  head-linked : (last k' j' : ℕ) → k' < heights → j' < chains
      → get_or (set words (link_place C k j last) v) (chains * k' + j') 0 ≡ cond (eqb k' k && eqb j' j && eqb last 0) v (head_of K k' j')
  head-linked last k' j' hk' hj' =
      set-read words (link_place C k j last) v (chains * k' + j') (eqb k' k && eqb j' j && eqb last 0) (omega (arith, chains-long K C)) here (back last)
      ∙ ap (cond (eqb k' k && eqb j' j && eqb last 0) v) (head_at K C k' j' hk' hj')
    where
      here : T (eqb k' k && eqb j' j && eqb last 0) → chains * k' + j' ≡ link_place C k j last
      here t =
          let two : T (eqb k' k && eqb j' j) = and_left (eqb k' k && eqb j' j) (eqb last 0) t in
          let z : last ≡ 0 = eqb→eq last 0 (and_right (eqb k' k && eqb j' j) (eqb last 0) t) in
          ap₂ (λ (a b : ℕ). chains * a + b) (eqb→eq k' k (and_left (eqb k' k) (eqb j' j) two)) (eqb→eq j' j (and_right (eqb k' k) (eqb j' j) two))
          ∙ sym (ap (link_place C k j) z ∙ place-head C k j)

      back : (l : ℕ) → chains * k' + j' ≡ link_place C k j l → T (eqb k' k && eqb j' j && eqb l 0)
      back zero e =
          let both = same_place chains k j k' j' hj hj' (e ∙ place-head C k j) in
          and_T (eqb k' k && eqb j' j) true (and_T (eqb k' k) (eqb j' j) (eqb-T k' k both.0) (eqb-T j' j both.1)) tt
      back (suc m) e = absurd (omega (arith, place-next C k j m))

  next-linked : (last k' n : ℕ) → last ≤ C → k' < heights → n < C
      → get_or (set words (link_place C k j last) v) (chains * heights + (C * k' + n)) 0 ≡ cond (eqb k' k && eqb (suc n) last) v (next_of K k' n)
  next-linked last k' n few hk' hn =
      set-read words (link_place C k j last) v (chains * heights + (C * k' + n)) (eqb k' k && eqb (suc n) last) (omega (arith, place_in C k' n hn heights hk', chains-long K C)) here (back last few)
      ∙ ap (cond (eqb k' k && eqb (suc n) last) v) (next-at K C k' n hk' hn)
    where
      here : T (eqb k' k && eqb (suc n) last) → chains * heights + (C * k' + n) ≡ link_place C k j last
      here t =
          ap (λ (a : ℕ). chains * heights + (C * a + n)) (eqb→eq k' k (and_left (eqb k' k) (eqb (suc n) last) t))
          ∙ sym (ap (link_place C k j) (sym (eqb→eq (suc n) last (and_right (eqb k' k) (eqb (suc n) last) t))) ∙ place-next C k j n)

      back : (l : ℕ) → l ≤ C → chains * heights + (C * k' + n) ≡ link_place C k j l → T (eqb k' k && eqb (suc n) l)
      back zero f e = absurd (omega (arith, place-head C k j))
      back (suc m) f e =
          let both = same_place C k m k' n f hn (omega (arith, place-next C k j m)) in
          and_T (eqb k' k) (eqb (suc n) (suc m)) (eqb-T k' k both.0) (eqb-T (suc n) (suc m) (ap suc both.1))

-- one link: that to the cell
pub link-words : (K : List (List Cell)) (C k : ℕ) (c : Cell) → length K ≡ heights → k < heights → length (cells_at K k) < C
    → chain_words (set K k (cells_at K k ++ (c ∷ []))) C
    ≡ set (chain_words K C) (link_position C k (chain_of k c) (last_of K k (chain_of k c)) - first_head C) (suc (length (cells_at K k)))
link-words K C k c tall hk room =
    let j : ℕ = chain_of k c in
    let last : ℕ = last_of K k j in
    let v : ℕ = suc (length (cells_at K k)) in
    let p : ℕ = link_place C k j last in
    let few : last ≤ C = omega (arith, last-most k j (cells_at K k)) in
    let in-lists : k < length K = omega (arith, tall) in
    sym
    (chains-by (set K k (cells_at K k ++ (c ∷ []))) C (set (chain_words K C) p v) (length-set (chain_words K C) p v ∙ chains-long K C)
    (λ k' j' hk' hj'. head-linked K C k hk j v (chain-few k c) last k' j' hk' hj' ∙ sym (head_more K k in-lists c k' j'))
    (λ k' n hk' hn. next-linked K C k hk j v (chain-few k c) last k' n few hk' hn ∙ sym (next_more K k in-lists c k' n)))

-- ---- links cut

pub cut-long : (n at m : ℕ) (l : List ℕ) → length (cut_links n at m l) ≡ length l
unfolding cut_links
cut-long n at m l = length-sets l at (map (cut_link n) (take m (drop at l)))

module _ (n at m : ℕ) (l : List ℕ) (room : at + m ≤ length l) where
  abbrev links : List ℕ
  links = map (cut_link n) (take m (drop at l))

  pub part-long : length (take m (drop at l)) ≡ m
  part-long = length-take-le m (drop at l) (rw (length-drop at l) (omega arith))

  pub links-long : length (map (cut_link n) (take m (drop at l))) ≡ m
  links-long = length-map (take m (drop at l)) (cut_link n) ∙ part-long

  cut-put : cut_links n at m l ≡ put at links l
  unfolding cut_links
  cut-put = sym (put-sets at links l (omega (arith, links-long)))

  pub link_at : (i : ℕ) → i < m → get_or (map (cut_link n) (take m (drop at l))) i 0 ≡ cut_link n (get_or l (at + i) 0)
  link_at i h =
      map_at (cut_link n) (take m (drop at l)) i 0 0 (omega (arith, part-long))
      ∙ ap (cut_link n) (get_or-take m (drop at l) i 0 h ∙ get_or-drop at l i 0)

  -- each link there, and the words before and after
  pub cut_inside : (i : ℕ) → at ≤ i → i < at + m → get_or (cut_links n at m l) i 0 ≡ cut_link n (get_or l i 0)
  cut_inside i h g =
      let q : ℕ = i - at in
      let e : at + q ≡ i = omega arith in
      ap₂ (λ (w : List ℕ) (p : ℕ). get_or w p 0) cut-put (sym e) ∙ put-inside at links l q 0 (omega (arith, links-long)) (omega arith)
      ∙ link_at q (omega arith) ∙ ap (λ (p : ℕ). cut_link n (get_or l p 0)) e

  pub cut-before : (i : ℕ) → i < at → get_or (cut_links n at m l) i 0 ≡ get_or l i 0
  cut-before i h = ap (λ (w : List ℕ). get_or w i 0) cut-put ∙ put-before at links l i 0 h (omega arith)

  pub cut-after : (i : ℕ) → at + m ≤ i → get_or (cut_links n at m l) i 0 ≡ get_or l i 0
  cut-after i h = ap (λ (w : List ℕ). get_or w i 0) cut-put ∙ put-after at links l i 0 (omega (arith, links-long)) (omega arith)

  -- with other words before and behind
  pub cut-within : (p x : List ℕ) → cut_links n (length p + at) m (p ++ (l ++ x)) ≡ p ++ (cut_links n at m l ++ x)
  unfolding cut_links
  cut-within p x =
      let there : take m (drop (length p + at) (p ++ (l ++ x))) ≡ take m (drop at l) =
      ap (take m) (drop-append-add p (l ++ x) at ∙ drop-append-le at l x (omega arith)) ∙ take-append-le m (drop at l) x (rw (length-drop at l) (omega arith)) in
      ap (λ (w : List ℕ). sets (p ++ (l ++ x)) (length p + at) (map (cut_link n) w)) there
      ∙ sets-right links p (l ++ x) at ∙ ap (λ (w : List ℕ). p ++ w) (sets-left links l x at (omega (arith, links-long)))

-- ---- a list back to a front part a of its cells

module _ (K : List (List Cell)) (C k : ℕ) (tall : length K ≡ heights) (hk : k < heights) (a b : List Cell) (e : cells_at K k ≡ a ++ b) (room : length (cells_at K k) ≤ C) where
  abbrev K⁻ : List (List Cell)
  K⁻ = set K k a

  -- how many cells stay, and how many there are
  abbrev n : ℕ
  n = length a

  abbrev m : ℕ
  m = length (cells_at K k)

  -- where its heads and its next words start, and where the next word of cell q of a list is
  abbrev heads : ℕ
  heads = chains * k

  abbrev nexts : ℕ
  nexts = chains * heights + C * k

  abbrev next_place : ℕ → ℕ → ℕ
  next_place k' q = chains * heights + (C * k' + q)

  -- the words, with its heads cut, and with its next words cut too
  abbrev all : List ℕ
  all = chain_words K C

  abbrev half : List ℕ
  half = cut_links n heads chains all

  abbrev done : List ℕ
  done = cut_links n nexts m half

  same-cells : cells_at K⁻ k ≡ a
  same-cells = get_or-set_same K k a [] (omega (arith, tall))

  other-cells : (k' : ℕ) → k' ≢ k → cells_at K⁻ k' ≡ cells_at K k'
  other-cells k' ne = get_or-set_other K k k' a [] ne

  parts : cells_at K k ≡ cells_at K⁻ k ++ b
  parts = e ∙ ap (λ (cs : List Cell). cs ++ b) (sym same-cells)

  heads-room : heads + chains ≤ length all
  heads-room = omega (arith, chains-long K C)

  nexts-room : nexts + m ≤ length half
  nexts-room = omega (arith, cut-long n heads chains all, chains-long K C, mul-le-mul_left C hk)

  -- a head, of the list or of another
  head_of_lem : (k' j : ℕ) → k' < heights → j < chains → Dec (k' ≡ k) → get_or half (chains * k' + j) 0 ≡ head_of K⁻ k' j
  head_of_lem k' j hk' hj (yes q) =
      cut_inside n heads chains all heads-room (chains * k' + j) (omega arith) (omega arith) ∙ ap (cut_link n) (head_at K C k' j hk' hj)
      ∙ subst (λ (i : ℕ). cut_link n (head_of K i j) ≡ head_of K⁻ i j) (sym q)
      (ap (λ (cs : List Cell). cut_link (length cs) (head_of K k j)) (sym same-cells) ∙ heads-cut K⁻ K k b parts j)
  head_of_lem k' j hk' hj (no q) = outside (dec_lt k' k) ∙ head_at K C k' j hk' hj ∙ ap (first_in k' j 0) (sym (other-cells k' q))
    where
      outside : Dec (k' < k) → get_or half (chains * k' + j) 0 ≡ get_or all (chains * k' + j) 0
      outside (yes h) = cut-before n heads chains all heads-room (chains * k' + j) (omega arith)
      outside (no h) = cut-after n heads chains all heads-room (chains * k' + j) (omega (arith, q))

  heads-are : (k' j : ℕ) → k' < heights → j < chains → get_or done (chains * k' + j) 0 ≡ head_of K⁻ k' j
  heads-are k' j hk' hj = cut-before n nexts m half nexts-room (chains * k' + j) (omega arith) ∙ head_of_lem k' j hk' hj (ℕ_discrete k' k)

  -- a next word
  next-left : (k' q : ℕ) → k' < heights → q < C → get_or half (next_place k' q) 0 ≡ next_of K k' q
  next-left k' q hk' hq = cut-after n heads chains all heads-room (next_place k' q) (omega arith) ∙ next-at K C k' q hk' hq

  -- of the list: of a cell of it, or past them
  next-own : (q : ℕ) → q < C → Dec (q < m) → get_or done (next_place k q) 0 ≡ next_of K⁻ k q
  next-own q hq (yes h) =
      cut_inside n nexts m half nexts-room (next_place k q) (omega arith) (omega arith) ∙ ap (cut_link n) (next-left k q hk hq)
      ∙ ap (λ (cs : List Cell). cut_link (length cs) (next_of K k q)) (sym same-cells) ∙ nexts-cut K⁻ K k b parts q
  next-own q hq (no h) =
      cut-after n nexts m half nexts-room (next_place k q) (omega arith) ∙ next-left k q hk hq
      ∙ next-spare K k q (omega arith) ∙ sym (next-spare K⁻ k q (omega (arith, ap length same-cells, ap length e, length-append a b)))

  nexts-are : (k' q : ℕ) → k' < heights → q < C → Dec (k' ≡ k) → get_or done (next_place k' q) 0 ≡ next_of K⁻ k' q
  nexts-are k' q hk' hq (yes o) = subst (λ (i : ℕ). get_or done (next_place i q) 0 ≡ next_of K⁻ i q) (sym o) (next-own q hq (dec_lt q m))
  nexts-are k' q hk' hq (no o) = outside (dec_lt k' k) ∙ next-left k' q hk' hq ∙ ap (next_in k' q) (sym (other-cells k' o))
    where
      outside : Dec (k' < k) → get_or done (next_place k' q) 0 ≡ get_or half (next_place k' q) 0
      outside (yes h) = cut-before n nexts m half nexts-room (next_place k' q) (omega (arith, row_before C k' k h))
      outside (no h) = cut-after n nexts m half nexts-room (next_place k' q) (omega (arith, row_before C k k' (omega (arith, o))))

  pub cut-words : chain_words (set K k a) C ≡ cut_links (length a) (chains * heights + C * k) (length (cells_at K k)) (cut_links (length a) (chains * k) chains (chain_words K C))
  cut-words =
      sym
      (chains-by K⁻ C done (cut-long n nexts m half ∙ cut-long n heads chains all ∙ chains-long K C) heads-are
      (λ k' q hk' hq. nexts-are k' q hk' hq (ℕ_discrete k' k)))
