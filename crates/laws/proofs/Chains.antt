-- The chains of a list of cells: there are 256; where the first cell of a chain is and what follows each, and that seeking passes over the cells of other
-- chains. By induction on the cells. Assumes nothing.
use mathlib.Core.Path.{◌≡◌, refl, sym, ◌∙◌, ap, ap₂, subst}
use mathlib.Core.Bool.{Bool, true, false, cond}
use mathlib.Core.List.{List, [], ◌∷◌, ◌++◌}
use mathlib.Core.Option.{Option}
use mathlib.Core.Option as O
use Prim.Native.Nat.{ℕ, zero, suc, ◌+◌, ◌-◌, ◌^◌, ◌<◌, ◌≤◌, zero-le}
use native.Mathlib.Nat.{le_of_suc-le-suc, not-suc-le-zero, suc_inj, suc-ne-zero}
use native.Mathlib.Decide.{ℕ_discrete}
use native.Mathlib.Omega.{arith}
use borrow.Author.Tests.{eq-eqb, ne_eqb, lt-ltb, le-ltb}
use lib.Dec.{eqb}
use lib.ListN.{length, drop, get_or, length-drop}
use lib.Seq.{drop-drop, get_or-drop}
use Rattle.paper.specs.Store.{Cell, cells_at, cell_at, chains, leaf_no, key_of, chain_of, first_in, next_of}
use Rattle.paper.specs.Match.{lowest, or_found, find}
use Rattle.laws.specs.Chains.{cut_link}
use Rattle.laws.proofs.Tests.{false-unless}
use Rattle.laws.proofs.TrueCounts.{leaf-most}

-- ---- there are 256 chains

pub key-lt : (c : Cell) → key_of c < 2 ^ 32
unfolding key_of
key-lt c = omega arith

pub chain-few : (k : ℕ) (c : Cell) → chain_of k c < chains
chain-few zero c = omega (arith, leaf-most (leaf_no c))
chain-few (suc k) c = omega (arith, key-lt c)

-- ---- numbers plus 1, or 0

-- a number, or where it is 0 another
abbrev pub or_next : ℕ → ℕ → ℕ
or_next zero r = r
or_next (suc m) r = suc m

pub or-none : (l : ℕ) → or_next l 0 ≡ l
or-none zero = refl
or-none (suc l) = refl

pub or_some : (l r : ℕ) → (l ≡ 0 → ⊥) → or_next l r ≡ l
or_some zero r n = absurd (n refl)
or_some (suc l) r n = refl

-- a link as it was when a list had so many cells
pub cut-kept : (count l : ℕ) → l ≤ count → cut_link count l ≡ l
cut-kept count l h = ap (λ (b : Bool). cond b 0 l) (le-ltb count l h)

pub cut-gone : (count l : ℕ) → count < l → cut_link count l ≡ 0
cut-gone count l h = ap (λ (b : Bool). cond b 0 l) (lt-ltb count l h)

-- no mirror passes
pub lowest-none : (n t : ℕ) (p : ℕ → Bool) → ((u : ℕ) → u < t + n → p u ≡ false) → lowest n t p ≡ O.none
unfolding lowest
lowest-none zero t p h = refl
lowest-none (suc n) t p h = ap (λ (b : Bool). cond b (O.some t) (lowest n (suc t) p)) (h t (omega arith)) ∙ lowest-none n (suc t) p (λ u l. h u (omega arith))

module _ (k j : ℕ) where
  -- ---- the first of a chain

  pub first-hit : (n : ℕ) (c : Cell) (cs : List Cell) → chain_of k c ≡ j → first_in k j n (c ∷ cs) ≡ suc n
  unfolding first_in
  first-hit n c cs e = ap (λ (b : Bool). cond b (suc n) (first_in k j (suc n) cs)) (eq-eqb (chain_of k c) j e)

  pub first-miss : (n : ℕ) (c : Cell) (cs : List Cell) → (chain_of k c ≡ j → ⊥) → first_in k j n (c ∷ cs) ≡ first_in k j (suc n) cs
  unfolding first_in
  first-miss n c cs e = ap (λ (b : Bool). cond b (suc n) (first_in k j (suc n) cs)) (ne_eqb (chain_of k c) j e)

  pub first-nil : (n : ℕ) → first_in k j n [] ≡ 0
  unfolding first_in
  first-nil n = refl

  pub first-append : (n : ℕ) (cs ds : List Cell) → first_in k j n (cs ++ ds) ≡ or_next (first_in k j n cs) (first_in k j (n + length cs) ds)
  first-append n [] ds = ap (λ (m : ℕ). first_in k j m ds) (omega arith) ∙ ap (λ (l : ℕ). or_next l (first_in k j (n + 0) ds)) (sym (first-nil n))
  first-append n (c ∷ cs) ds = go (ℕ_discrete (chain_of k c) j) (first-append (suc n) cs ds)
    where
      r : ℕ
      r = first_in k j (n + length (c ∷ cs)) ds

      go : Dec (chain_of k c ≡ j) → first_in k j (suc n) (cs ++ ds) ≡ or_next (first_in k j (suc n) cs) (first_in k j (suc n + length cs) ds)
          → first_in k j n (c ∷ (cs ++ ds)) ≡ or_next (first_in k j n (c ∷ cs)) r
      go (yes e) ih = first-hit n c (cs ++ ds) e ∙ ap (λ (l : ℕ). or_next l r) (sym (first-hit n c cs e))
      go (no e) ih =
          first-miss n c (cs ++ ds) e ∙ ih ∙ ap (λ (m : ℕ). or_next (first_in k j (suc n) cs) (first_in k j m ds)) (omega arith)
          ∙ ap (λ (l : ℕ). or_next l r) (sym (first-miss n c cs e))

  -- one cell more
  pub first_one : (n : ℕ) (c : Cell) → first_in k j n (c ∷ []) ≡ cond (eqb (chain_of k c) j) (suc n) 0
  unfolding first_in
  first_one n c = refl

  pub first_more : (n : ℕ) (cs : List Cell) (c : Cell)
      → first_in k j n (cs ++ (c ∷ [])) ≡ or_next (first_in k j n cs) (cond (eqb (chain_of k c) j) (suc (n + length cs)) 0)
  first_more n cs c = first-append n cs (c ∷ []) ∙ ap (or_next (first_in k j n cs)) (first_one (n + length cs) c)

  -- ---- where it is

  -- cell number m, counted from n, is in the chain
  pub record First (n : ℕ) (cs : List Cell) (m : ℕ) : Type 0 where
    pub from : n ≤ m
    pub inside : m < n + length cs
    pub is : chain_of k (get_or cs (m - n) []) ≡ j

  pub first-at : (n : ℕ) (cs : List Cell) (m : ℕ) → first_in k j n cs ≡ suc m → First n cs m
  first-at n [] m q = absurd (suc-ne-zero m (sym q ∙ first-nil n))
  first-at n (c ∷ cs) m q = go (ℕ_discrete (chain_of k c) j) (first-at (suc n) cs m)
    where
      go : Dec (chain_of k c ≡ j) → (first_in k j (suc n) cs ≡ suc m → First (suc n) cs m) → First n (c ∷ cs) m
      go (yes e) ih =
          let h : n ≡ m = suc_inj (sym (first-hit n c cs e) ∙ q) in
          let o : 0 ≡ m - n = omega arith in
          record { from = omega arith; inside = omega arith; is = ap (λ (i : ℕ). chain_of k (get_or (c ∷ cs) i [])) (sym o) ∙ e }
      go (no e) ih =
          let f : First (suc n) cs m = ih (sym (first-miss n c cs e) ∙ q) in
          let h : suc n ≤ m = f.from in
          let o : m - n ≡ suc (m - suc n) = omega arith in
          record { from = omega arith; inside = omega (arith, f.inside); is = ap (λ (i : ℕ). chain_of k (get_or (c ∷ cs) i [])) o ∙ f.is }

  pub first-most : (n : ℕ) (cs : List Cell) → first_in k j n cs ≤ n + length cs
  first-most n cs = go (first_in k j n cs) refl
    where
      go : (l : ℕ) → first_in k j n cs ≡ l → l ≤ n + length cs
      go zero q = zero-le
      go (suc m) q = (first-at n cs m q).inside

  pub first_above : (n : ℕ) (cs : List Cell) → (first_in k j n cs ≡ 0 → ⊥) → n < first_in k j n cs
  first_above n cs = go (first_in k j n cs) refl
    where
      go : (l : ℕ) → first_in k j n cs ≡ l → (l ≡ 0 → ⊥) → n < l
      go zero q z = absurd (z refl)
      go (suc m) q z = let h : n ≤ m = (first-at n cs m q).from in omega arith

  -- there is none exactly where no cell is in the chain
  pub first-none : (n : ℕ) (cs : List Cell) → first_in k j n cs ≡ 0 → (i : ℕ) → i < length cs → chain_of k (get_or cs i []) ≡ j → ⊥
  first-none n [] z i h e = not-suc-le-zero h
  first-none n (c ∷ cs) z zero h e = suc-ne-zero n (sym (first-hit n c cs e) ∙ z)
  first-none n (c ∷ cs) z (suc i) h e = go (ℕ_discrete (chain_of k c) j) (λ y. first-none (suc n) cs y i (le_of_suc-le-suc h) e)
    where
      go : Dec (chain_of k c ≡ j) → (first_in k j (suc n) cs ≡ 0 → ⊥) → ⊥
      go (yes d) ih = suc-ne-zero n (sym (first-hit n c cs d) ∙ z)
      go (no d) ih = ih (sym (first-miss n c cs d) ∙ z)

  pub none_first : (n : ℕ) (cs : List Cell) → ((i : ℕ) → i < length cs → chain_of k (get_or cs i []) ≡ j → ⊥) → first_in k j n cs ≡ 0
  none_first n cs no_cell = go (first_in k j n cs) refl
    where
      go : (l : ℕ) → first_in k j n cs ≡ l → l ≡ 0
      go zero q = refl
      go (suc m) q =
          let f : First n cs m = first-at n cs m q in
          let a : n ≤ m = f.from in
          let b : m < n + length cs = f.inside in
          absurd (no_cell (m - n) (omega arith) f.is)

  -- ---- a list cut back

  pub first-cut : (n : ℕ) (cs ds : List Cell) → cut_link (n + length cs) (first_in k j n (cs ++ ds)) ≡ first_in k j n cs
  first-cut n cs ds = ap (cut_link (n + length cs)) (first-append n cs ds) ∙ go (first_in k j n cs) refl (ℕ_discrete (first_in k j (n + length cs) ds) 0)
    where
      go : (l : ℕ) → first_in k j n cs ≡ l → Dec (first_in k j (n + length cs) ds ≡ 0)
          → cut_link (n + length cs) (or_next l (first_in k j (n + length cs) ds)) ≡ l
      go zero q (yes z) = ap (cut_link (n + length cs)) z ∙ cut-kept (n + length cs) 0 zero-le
      go zero q (no z) = cut-gone (n + length cs) (first_in k j (n + length cs) ds) (first_above (n + length cs) ds z)
      go (suc m) q d = cut-kept (n + length cs) (suc m) (first-at n cs m q).inside

  -- ---- passing over the cells of other chains

  -- F says the same of some cells without their first, where that is of another chain
  module _ {A : Type 0} (F : ℕ → List Cell → A) (Good : Cell → Type 0)
      (pass : (n : ℕ) (c : Cell) (cs : List Cell) → Good c → (chain_of k c ≡ j → ⊥) → F n (c ∷ cs) ≡ F (suc n) cs) where
    pub pass-none : (n : ℕ) (cs : List Cell) → ((i : ℕ) → i < length cs → Good (get_or cs i [])) → first_in k j n cs ≡ 0 → F n cs ≡ F (n + length cs) []
    pass-none n [] good z = ap (λ (m : ℕ). F m []) (omega arith)
    pass-none n (c ∷ cs) good z = go (ℕ_discrete (chain_of k c) j) (pass-none (suc n) cs (λ i h. good (suc i) (omega arith)))
      where
        go : Dec (chain_of k c ≡ j) → (first_in k j (suc n) cs ≡ 0 → F (suc n) cs ≡ F (suc n + length cs) []) → F n (c ∷ cs) ≡ F (n + length (c ∷ cs)) []
        go (yes e) ih = absurd (suc-ne-zero n (sym (first-hit n c cs e) ∙ z))
        go (no e) ih = pass n c cs (good 0 (omega arith)) e ∙ ih (sym (first-miss n c cs e) ∙ z) ∙ ap (λ (m : ℕ). F m []) (omega arith)

    pub pass-first : (n : ℕ) (cs : List Cell) (m : ℕ) → ((i : ℕ) → i < length cs → Good (get_or cs i [])) → first_in k j n cs ≡ suc m
        → F n cs ≡ F m (get_or cs (m - n) [] ∷ drop (suc m - n) cs)
    pass-first n [] m good q = absurd (suc-ne-zero m (sym q ∙ first-nil n))
    pass-first n (c ∷ cs) m good q = go (ℕ_discrete (chain_of k c) j) (pass-first (suc n) cs m (λ i h. good (suc i) (omega arith)))
      where
        at : ℕ → ℕ → ℕ → A
        at m i d = F m (get_or (c ∷ cs) i [] ∷ drop d (c ∷ cs))

        go : Dec (chain_of k c ≡ j) → (first_in k j (suc n) cs ≡ suc m → F (suc n) cs ≡ F m (get_or cs (m - suc n) [] ∷ drop (suc m - suc n) cs))
            → F n (c ∷ cs) ≡ F m (get_or (c ∷ cs) (m - n) [] ∷ drop (suc m - n) (c ∷ cs))
        go (yes e) ih =
            let h : n ≡ m = suc_inj (sym (first-hit n c cs e) ∙ q) in
            let a : 0 ≡ m - n = omega arith in
            let b : 1 ≡ suc m - n = omega arith in
            ap (λ (x : ℕ). at x 0 1) h ∙ ap₂ (at m) a b
        go (no e) ih =
            let y : first_in k j (suc n) cs ≡ suc m = sym (first-miss n c cs e) ∙ q in
            let h : suc n ≤ m = (first-at (suc n) cs m y).from in
            let a : suc (m - suc n) ≡ m - n = omega arith in
            let b : suc (suc m - suc n) ≡ suc m - n = omega arith in
            pass n c cs (good 0 (omega arith)) e ∙ ih y ∙ ap₂ (at m) a b

    -- the same from cell `last` on
    pub pass-rest : (cs : List Cell) (last m : ℕ) → ((i : ℕ) → i < length cs → Good (get_or cs i [])) → first_in k j last (drop last cs) ≡ suc m
        → F last (drop last cs) ≡ F m (get_or cs m [] ∷ drop (suc m) cs)
    pass-rest cs last m good q =
        let f : First last (drop last cs) m = first-at last (drop last cs) m q in
        let h : last ≤ m = f.from in
        let a : last + (m - last) ≡ m = omega arith in
        let b : last + (suc m - last) ≡ suc m = omega arith in
        pass-first last (drop last cs) m (λ i l. subst Good (sym (get_or-drop last cs i [])) (good (last + i) (omega (arith, l, length-drop last cs)))) q
        ∙ ap₂ (λ (c : Cell) (ds : List Cell). F m (c ∷ ds))
        (get_or-drop last cs (m - last) [] ∙ ap (λ (i : ℕ). get_or cs i []) a)
        (drop-drop (suc m - last) last cs ∙ ap (λ (i : ℕ). drop i cs) b)

  -- the first from cell `last` on
  pub record Next (cs : List Cell) (last m : ℕ) : Type 0 where
    pub from : last ≤ m
    pub inside : m < length cs
    pub is : chain_of k (get_or cs m []) ≡ j

  pub next-at : (cs : List Cell) (last m : ℕ) → first_in k j last (drop last cs) ≡ suc m → Next cs last m
  next-at cs last m q =
      let f : First last (drop last cs) m = first-at last (drop last cs) m q in
      let h : last ≤ m = f.from in
      let l : m < last + length (drop last cs) = f.inside in
      let a : last + (m - last) ≡ m = omega arith in
      record {
        from = h;
        inside = omega (arith, l, length-drop last cs);
        is = ap (chain_of k) (sym (get_or-drop last cs (m - last) [] ∙ ap (λ (i : ℕ). get_or cs i []) a)) ∙ f.is;
      }

  -- ---- seeking along a chain

  -- only cells of the chain pass
  abbrev pub Only : (Cell → ℕ → Bool) → List Cell → Type 0
  Only p cs = (i : ℕ) → i < length cs → (t : ℕ) → t < 8 → p (get_or cs i []) t ≡ true → chain_of k (get_or cs i []) ≡ j

  module _ (p : Cell → ℕ → Bool) where
    abbrev pub Fair : Cell → Type 0
    Fair c = (t : ℕ) → t < 8 → p c t ≡ true → chain_of k c ≡ j

    pub find-hit : (n : ℕ) (c : Cell) (cs : List Cell) → find p (c ∷ cs) n ≡ or_found (lowest 8 0 (p c)) n (find p cs (suc n))
    unfolding find
    find-hit n c cs = refl

    pub find-miss : (n : ℕ) (c : Cell) (cs : List Cell) → Fair c → (chain_of k c ≡ j → ⊥) → find p (c ∷ cs) n ≡ find p cs (suc n)
    find-miss n c cs f ne =
        find-hit n c cs
        ∙ ap (λ (o : Option ℕ). or_found o n (find p cs (suc n))) (lowest-none 8 0 (p c) (λ u h. false-unless (p c u) (λ q. ne (f u (omega arith) q))))

    find-nil : (n : ℕ) → find p [] n ≡ O.none
    unfolding find
    find-nil n = refl

    pub find_none : (n : ℕ) (cs : List Cell) → Only p cs → first_in k j n cs ≡ 0 → find p cs n ≡ O.none
    find_none n cs only z = pass-none (λ m ds. find p ds m) Fair find-miss n cs only z ∙ find-nil (n + length cs)

    pub find_first : (n : ℕ) (cs : List Cell) (m : ℕ) → Only p cs → first_in k j n cs ≡ suc m
        → find p cs n ≡ or_found (lowest 8 0 (p (get_or cs (m - n) []))) m (find p (drop (suc m - n) cs) (suc m))
    find_first n cs m only q = pass-first (λ i ds. find p ds i) Fair find-miss n cs m only q ∙ find-hit m (get_or cs (m - n) []) (drop (suc m - n) cs)

    -- from cell `last` on
    pub rest-none : (cs : List Cell) (last : ℕ) → Only p cs → first_in k j last (drop last cs) ≡ 0 → find p (drop last cs) last ≡ O.none
    rest-none cs last only z =
        find_none last (drop last cs) (λ i h. subst Fair (sym (get_or-drop last cs i [])) (only (last + i) (omega (arith, h, length-drop last cs)))) z

    pub rest-first : (cs : List Cell) (last m : ℕ) → Only p cs → first_in k j last (drop last cs) ≡ suc m
        → find p (drop last cs) last ≡ or_found (lowest 8 0 (p (get_or cs m []))) m (find p (drop (suc m) cs) (suc m))
    rest-first cs last m only q = pass-rest (λ i ds. find p ds i) Fair find-miss cs last m only q ∙ find-hit m (get_or cs m []) (drop (suc m) cs)

-- what follows a cell of a chain
pub next-is : (K : List (List Cell)) (k j m : ℕ) → chain_of k (cell_at K k m) ≡ j → next_of K k m ≡ first_in k j (suc m) (drop (suc m) (cells_at K k))
next-is K k j m e = ap (λ (i : ℕ). first_in k i (suc m) (drop (suc m) (cells_at K k))) e
