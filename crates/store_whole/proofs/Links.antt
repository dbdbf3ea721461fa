-- A chain followed link by link, as the code does. A link leads from a cell, or from the head, to the next cell. As long as each leads further on within the
-- chain, no more cells are met than the chain has, and as many only where every link passed is the right one; right links are followed to the end. By what is
-- left of the chain behind a link. Assumes nothing.
use mathlib.Core.Path.{◌≡◌, refl, sym, ap, subst, ◌∙◌}
use mathlib.Core.Bool.{Bool, true, false}
use mathlib.Core.List.{List, [], ◌∷◌}
use Prim.Native.Nat.{ℕ, zero, suc, ◌+◌, ◌-◌, ◌≤◌, ◌<◌, zero-le}
use native.Mathlib.Nat.{le_refl, le_of_eq, le_of_suc-le-suc}
use native.Mathlib.Decide.{ℕ_discrete, dec_lt}
use native.Mathlib.Numerals.{sub-one}
use native.Mathlib.Omega.{arith}
use lib.Dec.{eqb}
use lib.ListN.{length, drop}
use Rattle.paper.specs.Numbers.{bit_for}
use Rattle.paper.specs.Store.{Cell, cells_at, cell_at, heights, kept_count, kept_of, chain_of, first_in}
use Rattle.laws.specs.Chains.{count_in, head_word, next_word, ChainRight}
use Rattle.laws.proofs.Kept.{kept-length}
use Rattle.laws.proofs.Chains.{Next, next-at, next-is}
use Rattle.laws.proofs.ChainCounts.{count-nil, count-cons, count_none, count-zero, count-rest, follow-most, follow-all}
use Rattle.store_whole.specs.Following.{Followed}

-- a chain has no more cells than the list
pub count_most : (k j : ℕ) (cs : List Cell) → count_in k j cs ≤ length cs
count_most k j [] = omega (arith, count-nil k j)
count_most k j (c ∷ cs) = go (eqb (chain_of k c) j) (count-cons k j c cs) (count_most k j cs)
  where
    go : (b : Bool) → count_in k j (c ∷ cs) ≡ bit_for b + count_in k j cs → count_in k j cs ≤ length cs → count_in k j (c ∷ cs) ≤ length (c ∷ cs)
    go true e h = omega arith
    go false e h = omega arith

module _ (ws : List ℕ) (k j : ℕ) where
  abbrev cells : List Cell
  cells = cells_at (kept_of ws) k

  -- a link is named by the number plus 1 of the cell it leads from, that of the head by 0: its word; that it is of this chain; how many cells of the chain
  -- are behind it, and the first of these
  abbrev link_word : ℕ → ℕ
  link_word zero = head_word ws k j
  link_word (suc m) = next_word ws k m

  abbrev Chained : ℕ → Type 0
  Chained zero = Unit {0}
  Chained (suc m) = chain_of k (cell_at (kept_of ws) k m) ≡ j

  abbrev behind : ℕ → ℕ
  behind l = count_in k j (drop l cells)

  abbrev next_from : ℕ → ℕ
  next_from l = first_in k j l (drop l cells)

  abbrev Right : ℕ → Type 0
  Right l = Chained l → link_word l ≡ next_from l

  right-links : ChainRight ws k j → (l : ℕ) → l ≤ kept_count ws k → Right l
  right-links r zero h s = r.head
  right-links r (suc m) h s = r.nexts m h s ∙ next-is (kept_of ws) k j m s

  links-right : ((l : ℕ) → l ≤ kept_count ws k → Right l) → ChainRight ws k j
  links-right each = record { head = each 0 zero-le tt; nexts = λ n h e. each (suc n) h e ∙ sym (next-is (kept_of ws) k j n e) }

  -- followed up to link `last`, whose word is n, over `seen` cells
  pub record Walked (last n seen : ℕ) : Type 0 where
    pub inside : last ≤ kept_count ws k
    pub chained : Chained last
    pub link : n ≡ link_word last
    pub most : seen + behind last ≤ count_in k j cells
    pub back : seen + behind last ≡ count_in k j cells → (l : ℕ) → l < last → Right l
    pub fore : ChainRight ws k j → seen + behind last ≡ count_in k j cells

  module _ (listed : k < heights) where
    many : length cells ≡ kept_count ws k
    many = kept-length ws k listed

    -- a link of the chain further on has fewer cells behind it
    fewer : (from to : ℕ) → from < to → to ≤ kept_count ws k → Chained to → suc (behind to) ≤ behind from
    fewer from zero h l s = absurd (omega arith)
    fewer from (suc m) h l s =
        follow-most k j cells from (suc m) h (omega (arith, many)) (ap (λ (i : ℕ). chain_of k (cell_at (kept_of ws) k i)) (sub-one (suc m)) ∙ s) (behind (suc m)) (le_refl (behind (suc m)))

    -- so none of the chain lies between two, where the one has one cell more behind it, nor after one with none
    none_between : (from to : ℕ) → to ≤ kept_count ws k → Chained to → behind from ≡ suc (behind to) → (l : ℕ) → from < l → l < to → Chained l → ⊥
    none_between from to h t e l a b s = omega (arith, fewer from l a (omega arith) s, fewer l to b h t)

    none_after : (from : ℕ) → behind from ≡ 0 → (l : ℕ) → from < l → l ≤ kept_count ws k → Chained l → ⊥
    none_after from e l a b s = omega (arith, fewer from l a b s)

    pub walked_none : (n : ℕ) → n ≡ head_word ws k j → Walked 0 n 0
    walked_none n e =
        let z : 0 + count_in k j cells ≡ count_in k j cells = omega arith in
        record { inside = zero-le; chained = tt; link = e; most = le_of_eq z; back = λ q l h. absurd (omega arith); fore = λ r. z }

    module _ {last n seen : ℕ} (w : Walked last n seen) where
      pub seen_most : seen ≤ kept_count ws k
      seen_most = omega (arith, w.most, count_most k j cells, many)

      -- right links lead further on within the chain, and one cell fewer is behind
      leads : ChainRight ws k j → (m : ℕ) → m ≡ n → (m ≡ 0 → ⊥) → (last < m) × (m ≤ kept_count ws k) × (chain_of k (cell_at (kept_of ws) k (m - 1)) ≡ j) × (behind last ≡ suc (behind m))
      leads r zero e z = absurd (z refl)
      leads r (suc m) e z =
          let q : next_from last ≡ suc m = sym (e ∙ w.link ∙ right-links r last w.inside w.chained) in
          let a : Next k j cells last m = next-at k j cells last m q in
          (omega (arith, a.from), omega (arith, a.inside, many), ap (λ (i : ℕ). chain_of k (cell_at (kept_of ws) k i)) (sub-one (suc m)) ∙ a.is, count-rest k j cells last m q)

      pub falls : (n ≡ 0 → ⊥) → n ≤ last → ChainRight ws k j → ⊥
      falls z h r = omega (arith, (leads r n refl z).0)

      pub leaves : (n ≡ 0 → ⊥) → kept_count ws k < n → ChainRight ws k j → ⊥
      leaves z h r = omega (arith, (leads r n refl z).1)

      pub strays : (n ≡ 0 → ⊥) → (chain_of k (cell_at (kept_of ws) k (n - 1)) ≡ j → ⊥) → ChainRight ws k j → ⊥
      strays z ne r = ne (leads r n refl z).2

      -- every link below `to` is right, where `last` is, as many cells were seen as come before it, and none of the chain is between
      upto : (to : ℕ) → seen + behind last ≡ count_in k j cells → link_word last ≡ next_from last → ((l : ℕ) → last < l → l < to → Chained l → ⊥) → (l : ℕ) → l < to → Right l
      upto to e here none l h = go (dec_lt l last) (ℕ_discrete l last)
        where
          go : Dec (l < last) → Dec (l ≡ last) → Right l
          go (yes b) d = w.back e l b
          go (no b) (yes d) = subst Right (sym d) (λ s. here)
          go (no b) (no d) = λ s. absurd (none l (omega arith) h s)

      module _ (h : last < n) (l : n ≤ kept_count ws k) (is : chain_of k (cell_at (kept_of ws) k (n - 1)) ≡ j) where
        by_number : (m : ℕ) → m ≡ n → (next_word ws k (n - 1) ≡ link_word m) × Chained m
        by_number zero e = absurd (omega arith)
        by_number (suc m) e =
            let o : n - 1 ≡ m = omega arith in
            (ap (next_word ws k) o, ap (λ (i : ℕ). chain_of k (cell_at (kept_of ws) k i)) (sym o) ∙ is)

        less : suc (behind n) ≤ behind last
        less = fewer last n h l (by_number n refl).1

        passed : seen + 1 + behind n ≡ count_in k j cells → (i : ℕ) → i < n → Right i
        passed q =
            let whole : seen + behind last ≡ count_in k j cells = omega (arith, w.most, less, q) in
            let one : suc (behind n) ≡ behind last = omega (arith, w.most, less, q) in
            let next : n ≡ next_from last = (follow-all k j cells last n h (omega (arith, many)) is (behind n) (le_refl (behind n)) one).0 in
            upto n whole (sym w.link ∙ next) (none_between last n l (by_number n refl).1 (sym one))

        -- one cell more
        pub walked_more : Walked n (next_word ws k (n - 1)) (seen + 1)
        walked_more = record {
          inside = l;
          chained = (by_number n refl).1;
          link = (by_number n refl).0;
          most = omega (arith, w.most, less);
          back = passed;
          fore = λ r. omega (arith, w.fore r, (leads r n refl (λ z. omega arith)).3);
        }

      -- the end of the chain
      module _ (z : n ≡ 0) where
        ended : link_word last ≡ 0
        ended = sym w.link ∙ z

        pub followed-end : Followed ws k j seen
        followed-end = record {
          most = omega (arith, w.most);
          right = λ r. omega (arith, w.fore r, count_none k j last (drop last cells) (sym (right-links r last w.inside w.chained) ∙ ended));
          all = λ e.
              let none : behind last ≡ 0 = omega (arith, w.most, e) in
              let here : link_word last ≡ next_from last = ended ∙ sym (count-zero k j last (drop last cells) none) in
              links-right (λ i b. upto (suc (kept_count ws k)) (omega (arith, e, none)) here (λ i a b. none_after last none i a (le_of_suc-le-suc b)) i (omega arith));
        }
