-- C16: every cell has a chain, and a mirror keeps its key; in a store that passes the whole store's test a chain followed by its words has exactly the kept
-- cells of its key, numbers rising, and a cell sought along its chain is found as among all. The test says what each head and next word is; only cells of
-- its chain match a cell. By induction on how far the chain is followed, and on the cells. Assumes nothing.
use mathlib.Core.Path.{◌≡◌, refl, sym, ◌∙◌, ap, ap₂}
use mathlib.Core.Bool.{Bool, true, false, cond}
use mathlib.Core.List.{List, [], ◌∷◌}
use mathlib.Core.Option.{Option}
use mathlib.Core.Option as O
use Prim.Native.Nat.{ℕ, zero, suc, ◌+◌, ◌*◌, ◌<◌, ◌≤◌}
use native.Mathlib.Nat.{zero-add}
use native.Mathlib.Decide.{ℕ_discrete}
use native.Mathlib.Omega.{arith}
use borrow.Author.Tests.{eq-eqb, ne_eqb, eqb-true}
use lib.Bits.{bit_xor}
use lib.Dec.{T, eqb}
use lib.ListN.{length, drop, get_or, drop_of_length-le}
use Rattle.paper.specs.Rooms.{mirrored, origin, far}
use Rattle.paper.specs.Leaf.{leaf_voxel, mirror_leaf}
use Rattle.paper.specs.Store.{Cell, tag_unit, tag_of, low_of, heights, chains, kept_count, kept_of, cells_at, leaf_solid, key_of, chain_of, first_in, store_ok}
use Rattle.paper.specs.Match.{matches, lowest, or_found, find}
use Rattle.paper.specs.Claims.{followed, chain_read, numbers_in, find_along, turned, turned_cell, Seekable, ChainsTrue, C16}
use Rattle.laws.specs.Chains.{next_word}
use Rattle.laws.proofs.Lists.{get_or-tabulate}
use Rattle.laws.proofs.Leaves.{mirror_leaf-voxels}
use Rattle.laws.proofs.Boxes.{box-same, box-mirrored}
use Rattle.laws.proofs.Counts.{leaf-whole}
use Rattle.laws.proofs.Kept.{kept-length}
use Rattle.laws.proofs.Chains.{chain-few, Next, next-at, next-is, pass-none, pass-rest, Only, find-hit, find-miss}
use Rattle.laws.proofs.ChainWords.{head-right, next-right, list_right}
use Rattle.laws.proofs.Keys.{Numbered, key-images, sound-numbered, usable-numbered, match-chain, only-matches}
use Rattle.laws.proofs.Undamaged.{Undamaged, undamaged}
use Rattle.laws.proofs.Holding.{reached-holds}

-- ---- a mirror keeps the key

low-turned : (t p : ℕ) → low_of (turned t p) ≡ low_of p
low-turned t p = go (eqb p 0) refl
  where
    go : (b : Bool) → eqb p 0 ≡ b → low_of (cond b 0 (bit_xor (tag_of p) t * tag_unit + low_of p)) ≡ low_of p
    go true e = ap low_of (sym (eqb-true p 0 e))
    go false e = let u : ℕ = bit_xor (tag_of p) t in omega arith

pub key-turned : (t : ℕ) (c : Cell) → t < 8 → key_of (turned_cell t c) ≡ key_of c
key-turned t c ht =
    let at : ℕ → ℕ = λ i. turned t (get_or c (bit_xor i t) 0) in
    key-images (turned_cell t c) c t ht
    (λ i h. ap low_of (get_or-tabulate 8 0 i at 0 h ∙ ap at (zero-add i)) ∙ low-turned t (get_or c (bit_xor i t) 0))

-- a mirrored leaf has as many voxels
pub ones-mirrored : (t n : ℕ) → leaf_solid (mirror_leaf t n) ≡ leaf_solid n
ones-mirrored t n =
    leaf-whole (mirror_leaf t n) ∙ box-same 4 (leaf_voxel (mirror_leaf t n)) (mirrored t 4 (leaf_voxel n)) origin (far 4) (mirror_leaf-voxels t n)
    ∙ box-mirrored t 4 (leaf_voxel n) ∙ sym (leaf-whole n)

module _ (k j : ℕ) where
  -- ---- the numbers of a chain's cells

  numbers-nil : (n : ℕ) → numbers_in k j n [] ≡ []
  unfolding numbers_in
  numbers-nil n = refl

  numbers-hit : (n : ℕ) (c : Cell) (cs : List Cell) → chain_of k c ≡ j → numbers_in k j n (c ∷ cs) ≡ n ∷ numbers_in k j (suc n) cs
  unfolding numbers_in
  numbers-hit n c cs e = ap (λ (b : Bool). cond b (n ∷ numbers_in k j (suc n) cs) (numbers_in k j (suc n) cs)) (eq-eqb (chain_of k c) j e)

  numbers-miss : (n : ℕ) (c : Cell) (cs : List Cell) → (chain_of k c ≡ j → ⊥) → numbers_in k j n (c ∷ cs) ≡ numbers_in k j (suc n) cs
  unfolding numbers_in
  numbers-miss n c cs e = ap (λ (b : Bool). cond b (n ∷ numbers_in k j (suc n) cs) (numbers_in k j (suc n) cs)) (ne_eqb (chain_of k c) j e)

  -- along the chain, from cell `last` on
  numbers-none : (n : ℕ) (cs : List Cell) → first_in k j n cs ≡ 0 → numbers_in k j n cs ≡ []
  numbers-none n cs z = pass-none k j (numbers_in k j) (λ c. Unit {0}) (λ m c ds g e. numbers-miss m c ds e) n cs (λ i h. tt) z ∙ numbers-nil (n + length cs)

  numbers-rest : (cs : List Cell) (last m : ℕ) → first_in k j last (drop last cs) ≡ suc m → numbers_in k j last (drop last cs) ≡ m ∷ numbers_in k j (suc m) (drop (suc m) cs)
  numbers-rest cs last m q =
      pass-rest k j (numbers_in k j) (λ c. Unit {0}) (λ i c ds g e. numbers-miss i c ds e) cs last m (λ i h. tt) q
      ∙ numbers-hit m (get_or cs m []) (drop (suc m) cs) (next-at k j cs last m q).is

  -- ---- finding along them, where only cells of the chain pass

  module _ (p : Cell → ℕ → Bool) (all : List Cell) where
    along-nil : find_along p all [] ≡ O.none
    unfolding find_along
    along-nil = refl

    along-cons : (n : ℕ) (ns : List ℕ) → find_along p all (n ∷ ns) ≡ or_found (lowest 8 0 (p (get_or all n []))) n (find_along p all ns)
    unfolding find_along
    along-cons n ns = refl

    -- the cells from number n on
    along-find : (n : ℕ) (cs : List Cell) → ((i : ℕ) → get_or all (n + i) [] ≡ get_or cs i []) → Only k j p cs → find_along p all (numbers_in k j n cs) ≡ find p cs n
    unfolding find
    along-find n [] at only = ap (find_along p all) (numbers-nil n) ∙ along-nil
    along-find n (c ∷ cs) at only =
        go (ℕ_discrete (chain_of k c) j)
        (along-find (suc n) cs (λ i. let e : suc n + i ≡ n + suc i = omega arith in ap (λ (m : ℕ). get_or all m []) e ∙ at (suc i)) (λ i h. only (suc i) (omega arith)))
      where
        here : get_or all n [] ≡ c
        here = let e : n ≡ n + 0 = omega arith in ap (λ (m : ℕ). get_or all m []) e ∙ at 0

        go : Dec (chain_of k c ≡ j) → find_along p all (numbers_in k j (suc n) cs) ≡ find p cs (suc n) → find_along p all (numbers_in k j n (c ∷ cs)) ≡ find p (c ∷ cs) n
        go (yes e) ih =
            ap (find_along p all) (numbers-hit n c cs e) ∙ along-cons n (numbers_in k j (suc n) cs)
            ∙ ap₂ (λ (d : Cell) (o : Option ℕ). or_found (lowest 8 0 (p d)) n o) here ih ∙ sym (find-hit k j p n c cs)
        go (no e) ih = ap (find_along p all) (numbers-miss n c cs e) ∙ ih ∙ sym (find-miss k j p n c cs (only 0 (omega arith)) e)

-- ---- a store that passes the test

seekable-numbered : (K : List (List Cell)) (k : ℕ) (c : Cell) → Seekable K k c → Numbered k c
seekable-numbered K zero c s = tt
seekable-numbered K (suc k) c s = sound-numbered (length (cells_at K k)) k c s

module _ (ws : List ℕ) (ok : T (store_ok ws)) where
  u : Undamaged ws
  u = undamaged ws ok

  module _ (k : ℕ) (hk : k < heights) where
    abbrev cs : List Cell
    cs = cells_at (kept_of ws) k

    -- what follows a cell of the chain
    link-right : (j last m : ℕ) → first_in k j last (drop last cs) ≡ suc m → next_word ws k m ≡ first_in k j (suc m) (drop (suc m) cs)
    link-right j last m q =
        let n : Next k j cs last m = next-at k j cs last m q in
        next-right ws u.long u.chained k m hk (omega (arith, n.inside, kept-length ws k hk, u.few k hk)) ∙ next-is (kept_of ws) k j m n.is

    -- from cell `last` on, n cells of the chain or all there are
    followed-numbers : (j n last : ℕ) → length cs ≤ n + last → followed ws k n (first_in k j last (drop last cs)) ≡ numbers_in k j last (drop last cs)
    unfolding followed
    followed-numbers j zero last h = sym (ap (numbers_in k j last) (drop_of_length-le cs {i = last} (omega arith)) ∙ numbers-nil k j last)
    followed-numbers j (suc n) last h = go (first_in k j last (drop last cs)) refl (followed-numbers j n)
      where
        go : (l : ℕ) → first_in k j last (drop last cs) ≡ l
            → ((m : ℕ) → length cs ≤ n + m → followed ws k n (first_in k j m (drop m cs)) ≡ numbers_in k j m (drop m cs))
            → followed ws k (suc n) l ≡ numbers_in k j last (drop last cs)
        go zero q ih = sym (numbers-none k j last (drop last cs) q)
        go (suc m) q ih =
            ap (λ (l : ℕ). m ∷ followed ws k n l) (link-right j last m q)
            ∙ ap (λ (ns : List ℕ). m ∷ ns) (ih (suc m) (omega (arith, (next-at k j cs last m q).from))) ∙ sym (numbers-rest k j cs last m q)

    pub chain-numbers : (j : ℕ) → j < chains → chain_read ws k j ≡ numbers_in k j 0 (cells_at (kept_of ws) k)
    chain-numbers j hj =
        ap (followed ws k (suc (kept_count ws k))) (head-right ws u.long u.chained k j hk hj)
        ∙ followed-numbers j (suc (kept_count ws k)) 0 (omega (arith, kept-length ws k hk))

    pub chain-found : (c : Cell) → Seekable (kept_of ws) k c
        → find_along (matches (kept_of ws) k c) (cells_at (kept_of ws) k) (chain_read ws k (chain_of k c)) ≡ find (matches (kept_of ws) k c) (cells_at (kept_of ws) k) 0
    chain-found c s =
        let p : Cell → ℕ → Bool = matches (kept_of ws) k c in
        ap (find_along p cs) (chain-numbers (chain_of k c) (chain-few k c))
        ∙ along-find k (chain_of k c) p cs 0 cs (λ i. ap (λ (m : ℕ). get_or cs m []) (zero-add i))
        (only-matches (kept_of ws) k c cs (seekable-numbered (kept_of ws) k c s) (usable-numbered (kept_of ws) k (u.usable k hk)))

  pub chains-hold : ChainsTrue ws
  chains-hold = record {
    each = λ k j hk. chain-numbers k hk j;
    spare = λ k n hk. (list_right ws u.long u.few u.chained k hk).spare n;
    found = λ k c hk. chain-found k hk c;
  }

pub claim16 : C16
claim16 = record {
  some = chain-few;
  key = key-turned;
  ones = λ t n h. ones-mirrored t n;
  same = λ K k a b t h sa sb. match-chain K k a b t h (seekable-numbered K k a sa) (seekable-numbered K k b sb);
  any = chains-hold;
  ours = λ s r. chains-hold s.words (reached-holds s r).ok;
}
