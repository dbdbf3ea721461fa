-- On the words of a store: lists cut back to a front part of each give the words of the store with those front parts.
-- By zeros stored over the rows of the cells cut, in the list's region, the links of its chains cut, and induction on the lists. On the way the cells above
-- still have the counts that all cells gave; at the end each has its own again. Assumes nothing.
use mathlib.Core.Path.{◌≡◌, refl, sym, subst, ap, ap₂, ◌∙◌}
use mathlib.Core.List.{List, [], ◌∷◌, ◌++◌, map, append_assoc, append-nil}
use Prim.Native.Nat.{ℕ, zero, suc, ◌+◌, ◌-◌, ◌*◌, ◌≤◌, ◌<◌}
use native.Mathlib.Nat.{not-suc-le-zero, add-zero, zero-add, mul_comm, mul-add, mul-le-mul_left}
use native.Mathlib.Decide.{ℕ_discrete}
use native.Mathlib.Omega.{arith}
use lib.ListN.{length, get_or, set, replicate, length-map, length-append, length-replicate, length-set, replicate-append-replicate}
use lib.Seq.{sets, length-sets, set-append_left, set_comm, drop-length, get_or-set_same, get_or-set_other, ext_get_or}
use Rattle.paper.specs.Numbers.{tabulate, flatten}
use Rattle.paper.specs.Store.{Cell, heights, chains, kept_count, cell_length, stride, list_position, cell_position, first_head, head_position, next_position, cells_at, padded, row_of, chain_words}
use Rattle.laws.specs.Chains.{cut_links}
use Rattle.laws.proofs.Put.{sets-left, sets-right}
use Rattle.laws.proofs.Lists.{get_or-tabulate, map-append}
use Rattle.laws.proofs.Padded.{flatten-append, Sized, snil, scons, flatten-length}
use Rattle.laws.proofs.Rows.{rows-sized, Lists, lnil, lcons, list-end, words_fit}
use Rattle.laws.proofs.ChainWords.{chains-long}
use Rattle.laws.proofs.ChainLinks.{cut-long, cut-within, cut-words}
use Rattle.laws.proofs.Words.{Fine, stored, stored-own, counted_by, counted-grown, length-by, list-by, capacity-by, count_by, cells-sized, cells-few, count-read}
use Rattle.laws.proofs.Invariant.{OkCells}
use Rattle.laws.proofs.Growing.{Extends, ext-length}
use Rattle.add_keep.specs.Keeping.{cut_chains, cut_cells, cut_list, cut_lists, cut_back}
use Rattle.add_keep.proofs.Headers.{past-header}
use Rattle.store.proofs.InPlace.{zeros-first}

-- ---- one list: a front part a of its cells, and the others b

sized-front : {w : ℕ} (a b : List Cell) → Sized w (a ++ b) → Sized w a
sized-front [] b s = snil
sized-front (c ∷ a) b (scons e s) = scons e (sized-front a b s)

sized-back : {w : ℕ} (a b : List Cell) → Sized w (a ++ b) → Sized w b
sized-back [] b s = s
sized-back (c ∷ a) b (scons e s) = sized-back a b s

-- zeros over a whole list
all-zeros : (l : List ℕ) → sets l 0 (replicate (length l) 0) ≡ replicate (length l) 0
all-zeros l =
    let z : List ℕ = replicate (length l) 0 in
    zeros-first (length l) l (omega arith) ∙ ap (λ (r : List ℕ). z ++ r) (drop-length l) ∙ append-nil z

-- zeros over the middle one of three parts, the last having zeros too
zeros-between : (F G : List ℕ) (m : ℕ) → sets ((F ++ G) ++ replicate m 0) (length F) (replicate (length G) 0) ≡ F ++ replicate (length G + m) 0
zeros-between F G m =
    let Z : List ℕ = replicate m 0 in
    let z : List ℕ = replicate (length G) 0 in
    let fit : 0 + length z ≤ length G = rw (zero-add (length z), length-replicate {A = ℕ} (length G) 0) (omega arith) in
    ap₂ (λ (l : List ℕ) (i : ℕ). sets l i z) (append_assoc F G Z) (sym (add-zero (length F)))
    ∙ sets-right z F (G ++ Z) 0
    ∙ ap (λ (l : List ℕ). F ++ l) (sets-left z G Z 0 fit ∙ ap (λ (l : List ℕ). l ++ Z) (all-zeros G) ∙ replicate-append-replicate (length G) m 0)

module _ {w : ℕ} (n : ℕ) (cs a b : List Cell) (s : Sized w cs) (e : cs ≡ a ++ b) (fit : length cs * w ≤ n) where
  sized : Sized w (a ++ b)
  sized = subst (Sized w) e s

  -- cs are a's and b's
  both-lengths : length cs ≡ length a + length b
  both-lengths = ap length e ∙ length-append a b

  padded-cut : padded n a ≡ sets (padded n cs) (length a * w) (replicate (length b * w) 0)
  unfolding padded
  padded-cut =
      let F : List ℕ = flatten a in
      let G : List ℕ = flatten b in
      let f : length F ≡ length a * w = flatten-length (sized-front a b sized) in
      let g : length G ≡ length b * w = flatten-length (sized-back a b sized) in
      let m : ℕ = n - length (flatten cs) in
      let words : length cs * w ≡ (length a + length b) * w = ap (λ (c : ℕ). c * w) both-lengths in
      let left : length G + m ≡ n - length F = omega (arith, flatten-length s) in
      sym
      (ap₂ (λ (i j : ℕ). sets (flatten cs ++ replicate m 0) i (replicate j 0)) (sym f) (sym g)
      ∙ ap (λ (l : List ℕ). sets (l ++ replicate m 0) (length F) (replicate (length G) 0)) (ap flatten e ∙ flatten-append a b)
      ∙ zeros-between F G m ∙ ap (λ (j : ℕ). F ++ replicate j 0) left)

-- ---- the lists

lists-cut : {C j : ℕ} {Ks : List (List Cell)} → Lists C j Ks → (m : ℕ) (a b : List Cell) → get_or Ks m [] ≡ a ++ b → Lists C j (set Ks m a)
lists-cut lnil m a b e = lnil
lists-cut {C} {j} (lcons {cs = cs} r q t) zero a b e =
    lcons (sized-front a b (subst (Sized (cell_length j)) e r)) (omega (arith, ap length e, length-append a b)) t
lists-cut (lcons r q t) (suc m) a b e = lcons r q (lists-cut t m a b e)

-- ---- the whole store

-- a word set before or after others are stored past it
set_before : (c l : List ℕ) (a i v : ℕ) → i < a → set (sets l a c) i v ≡ sets (set l i v) a c
set_before [] l a i v h = refl
set_before (x ∷ c) l a i v h =
    set_before c (set l a x) (suc a) i v (omega arith) ∙ ap (λ (m : List ℕ). sets m (suc a) c) (set_comm l a i x v (λ e. omega (arith, e)))

module _ (C N : ℕ) (S : List Cell) (Ks : List (List Cell)) (f : Fine C N S Ks) (k : ℕ) (h : k < heights) (a b : List Cell) (e : cells_at Ks k ≡ a ++ b) where
  pub cut-fine : Fine C N S (set Ks k a)
  cut-fine = record {
    lists = length-set Ks k a ∙ f.lists;
    of-scenes = f.of-scenes;
    all-scenes = f.all-scenes;
    few-scenes = f.few-scenes;
    of-cells = lists-cut f.of-cells k a b e;
  }

  abbrev zeros : List ℕ
  zeros = replicate (stride k * length b) 0

  -- cells of the front part, and of the others
  all-lengths : length (cells_at Ks k) ≡ length a + length b
  all-lengths = ap length e ∙ length-append a b

  -- with the counts that lists G give
  module _ (G : List (List Cell)) where
    -- the list's count, and zeros over the rows of the cells cut
    words-cut : counted_by G C N S (set Ks k a) ≡ sets (set (counted_by G C N S Ks) (2 + k) (length a)) (cell_position C k (length a)) zeros
    words-cut =
        let cs : List Cell = cells_at Ks k in
        let w : ℕ = stride k in
        let rows : List Cell → List (List ℕ) = map (row_of G k) in
        let sizes : Sized w (rows cs) = rows-sized G k (cells-sized C N S Ks f k h) in
        let parts : rows cs ≡ rows a ++ rows b = ap rows e ∙ map-append (row_of G k) a b in
        let few : length cs * w ≤ w * C = words_fit k (length cs) C (cells-few C N S Ks f k) in
        let fit : length (rows cs) * w ≤ w * C = rw (length-map cs (row_of G k)) few in
        let both : length cs * w ≡ (length a + length b) * w = ap (λ (n : ℕ). n * w) all-lengths in
        let room : length a * w + length zeros ≤ w * C = rw (length-replicate {A = ℕ} (w * length b) 0, mul_comm w (length b)) (omega arith) in
        list-by G C N S Ks f k a (length a * w) zeros h
        (padded-cut (w * C) (rows cs) (rows a) (rows b) sizes parts fit
        ∙ ap₂ (λ (i n : ℕ). sets (padded (w * C) (rows cs)) (i * w) (replicate n 0)) (length-map a (row_of G k)) (ap (λ (n : ℕ). n * w) (length-map b (row_of G k)) ∙ mul_comm (length b) w)) room
        ∙ ap (λ (i : ℕ). sets (set (counted_by G C N S Ks) (2 + k) (length a)) (list_position C k + i) zeros) (mul_comm (length a) w)

    module _ (x : List ℕ) where
      zeros-fit : cell_position C k (length a) + length zeros ≤ length (counted_by G C N S Ks)
      zeros-fit =
          let few : length a + length b ≤ C = omega (arith, cells-few C N S Ks f k, all-lengths) in
          simp length-replicate (omega (arith, length-by G C N S Ks f, list-end C k h, mul-le-mul_left (stride k) few, mul-add (stride k) (length a) (length b)))

      -- the cells, x being the words behind the lists
      cells-cut-stored : cut_cells k (length a) (counted_by G C N S Ks ++ x) ≡ counted_by G C N S (set Ks k a) ++ x
      unfolding cut_cells
      cells-cut-stored =
          let W : List ℕ = counted_by G C N S Ks in
          let n : ℕ = length a in
          let i : ℕ = cell_position C k n in
          let left : kept_count (W ++ x) k - n ≡ length b = omega (arith, count_by G C N S Ks f x k h, all-lengths) in
          ap₂ (λ (D m : ℕ). set (sets (W ++ x) (cell_position D k n) (replicate (stride k * m) 0)) (2 + k) n) (capacity-by G C N S Ks f x) left
          ∙ ap (λ (l : List ℕ). set l (2 + k) n) (sets-left zeros W x i zeros-fit)
          ∙ set-append_left (sets W i zeros) x (2 + k) n (rw (length-sets W i zeros) (omega (arith, length-by G C N S Ks f)))
          ∙ ap (λ (l : List ℕ). l ++ x) (set_before zeros W i (2 + k) n (omega (arith, past-header C k n)) ∙ sym words-cut)

    module _ (x : List ℕ) where
      -- the chains, x being the words behind them
      chains-cut-stored : cut_chains k (length a) (counted_by G C N S Ks ++ (chain_words Ks C ++ x)) ≡ counted_by G C N S Ks ++ (chain_words (set Ks k a) C ++ x)
      unfolding cut_chains
      chains-cut-stored =
          let W : List ℕ = counted_by G C N S Ks in
          let y : List ℕ = chain_words Ks C ++ x in
          let n : ℕ = length a in
          let m : ℕ = length (cells_at Ks k) in
          let heads : ℕ = chains * k in
          let nexts : ℕ = chains * heights + C * k in
          let long : length W ≡ first_head C = length-by G C N S Ks f in
          let cut : List ℕ = cut_links n heads chains (chain_words Ks C) in
          let at-heads : head_position C k 0 ≡ length W + heads = omega (arith, long) in
          let at-nexts : next_position C k 0 ≡ length W + nexts = omega (arith, long) in
          ap₂ (λ (D q : ℕ). cut_links n (next_position D k 0) q (cut_links n (head_position D k 0) chains (W ++ y))) (capacity-by G C N S Ks f y) (count_by G C N S Ks f y k h)
          ∙ ap₂ (λ (i j : ℕ). cut_links n i m (cut_links n j chains (W ++ y))) at-nexts at-heads
          ∙ ap (cut_links n (length W + nexts) m) (cut-within n heads chains (chain_words Ks C) (omega (arith, chains-long Ks C)) W x)
          ∙ cut-within n nexts m cut (omega (arith, cut-long n heads chains (chain_words Ks C), chains-long Ks C, cells-few C N S Ks f k, mul-le-mul_left C h)) W x
          ∙ ap (λ (w : List ℕ). W ++ (w ++ x)) (sym (cut-words Ks C k f.lists h a b e (cells-few C N S Ks f k)))

      -- both
      pub list-cut-stored : cut_list k (length a) (counted_by G C N S Ks ++ (chain_words Ks C ++ x)) ≡ counted_by G C N S (set Ks k a) ++ (chain_words (set Ks k a) C ++ x)
      unfolding cut_list
      list-cut-stored = ap (cut_cells k (length a)) chains-cut-stored ∙ cells-cut-stored (chain_words (set Ks k a) C ++ x)

-- ---- all lists: each back to the front part that K has of it

unfoldable back : ℕ → List (List Cell) → List (List Cell) → List (List Cell)
back zero K K' = K'
back (suc k) K K' = set (back k K K') k (cells_at K k)

module _ (K K' : List (List Cell)) where
  back-length : (m : ℕ) → length (back m K K') ≡ length K'
  unfolding back
  back-length zero = refl
  back-length (suc k) = length-set (back k K K') k (cells_at K k) ∙ back-length k

  back-rest : (m j : ℕ) → m ≤ j → cells_at (back m K K') j ≡ cells_at K' j
  unfolding back
  back-rest zero j h = refl
  back-rest (suc k) j h = get_or-set_other (back k K K') k j (cells_at K k) [] (λ e. omega (arith, e)) ∙ back-rest k j (omega arith)

  back-front : (m j : ℕ) → m ≤ length K' → j < m → cells_at (back m K K') j ≡ cells_at K j
  unfolding back
  back-front zero j l h = absurd (not-suc-le-zero h)
  back-front (suc k) j l h = go (ℕ_discrete j k) (back-front k j (omega arith))
    where
      go : Dec (j ≡ k) → (j < k → cells_at (back k K K') j ≡ cells_at K j) → cells_at (set (back k K K') k (cells_at K k)) j ≡ cells_at K j
      go (yes e) ih = rw e (get_or-set_same (back k K K') k (cells_at K k) [] (omega (arith, back-length k)))
      go (no ne) ih = get_or-set_other (back k K K') k j (cells_at K k) [] ne ∙ ih (omega (arith, ne))

  back-all : length K ≡ length K' → back (length K) K K' ≡ K
  back-all e = ext_get_or [] (back (length K) K K') K (back-length (length K) ∙ sym e) (λ j h. back-front (length K) j (omega arith) (omega (arith, back-length (length K))))

module _ (C N : ℕ) (S : List Cell) (K K' : List (List Cell)) (f : Fine C N S K') (g : Extends K K') where
  back-fine : (m : ℕ) → m ≤ heights → Fine C N S (back m K K')
  unfolding back
  back-fine zero h = f
  back-fine (suc k) h = cut-fine C N S (back k K K') (back-fine k (omega arith)) k h (cells_at K k) (g.more k) (back-rest K K' k k (omega arith) ∙ g.is k)

  module _ (tall : length K ≡ heights) (x ns : List ℕ) (counted : (k : ℕ) → k < heights → get_or ns k 0 ≡ length (cells_at K k)) where
    lists-cut-stored : (m : ℕ) → m ≤ heights
        → cut_lists m ns (counted_by K' C N S K' ++ (chain_words K' C ++ x)) ≡ counted_by K' C N S (back m K K') ++ (chain_words (back m K K') C ++ x)
    unfolding cut_lists back
    lists-cut-stored zero h = refl
    lists-cut-stored (suc k) h =
        ap₂ (cut_list k) (counted k h) (lists-cut-stored k (omega arith))
        ∙ list-cut-stored C N S (back k K K') (back-fine k (omega arith)) k h (cells_at K k) (g.more k) (back-rest K K' k k (omega arith) ∙ g.is k) K' x

    -- the lists are those of K again
    pub cut-stored : OkCells K → cut_back ns (stored C N S K' x) ≡ stored C N S K x
    unfolding cut_back
    cut-stored ok =
        ap (cut_lists heights ns) (stored-own C N S K' x)
        ∙ lists-cut-stored heights (omega arith)
        ∙ ap (λ (Ks : List (List Cell)). counted_by K' C N S Ks ++ (chain_words Ks C ++ x)) (ap (λ (m : ℕ). back m K K') (sym tall) ∙ back-all K K' (tall ∙ sym f.lists))
        ∙ ap (λ (w : List ℕ). w ++ (chain_words K C ++ x)) (counted-grown C N S g ok)
        ∙ sym (stored-own C N S K x)

    -- which cutting back asks for: no list has fewer cells than that
    pub cut-counts : (k : ℕ) → k < heights → get_or ns k 0 ≤ kept_count (stored C N S K' x) k
    cut-counts k h = omega (arith, counted k h, count-read C N S K' f x k h, ext-length g k)

-- the counts that a store has
pub counts-taken : (C N : ℕ) (S : List Cell) (K : List (List Cell)) → Fine C N S K → (x : List ℕ) (k : ℕ) → k < heights
    → get_or (tabulate 0 heights (kept_count (stored C N S K x))) k 0 ≡ length (cells_at K k)
counts-taken C N S K f x k h =
    let ws : List ℕ = stored C N S K x in
    get_or-tabulate heights 0 k (kept_count ws) 0 h ∙ ap (kept_count ws) (zero-add k) ∙ count-read C N S K f x k h
