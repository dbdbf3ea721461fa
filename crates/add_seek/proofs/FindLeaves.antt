-- A leaf's images: a leaf is found under the mirrors under which the leaf sought has it as its image, since a is b mirrored exactly where b is a mirrored.
-- Assumes nothing.
use mathlib.Core.Path.{◌≡◌, refl, sym, ap, ap₂, ◌∙◌}
use mathlib.Core.Bool.{Bool}
use mathlib.Core.List.{List}
use mathlib.Core.Option.{Option, some}
use mathlib.Core.Option as O
use Prim.Native.Nat.{ℕ, ◌+◌, ◌-◌, ◌*◌, ◌/◌, ◌%◌, ◌^◌, ◌<◌}
use native.Mathlib.Nat.{zero-add, mod-lt, div-add-mod'}
use native.Mathlib.Omega.{arith}
use borrow.Author.Tests.{eq-eqb}
use lib.Bits.{xor_self}
use lib.Dec.{T, eqb, eqb→eq, lit<}
use lib.ListN.{length, get_or}
use lib.Seq.{ext_get_or}
use Rattle.paper.specs.Numbers.{tabulate}
use Rattle.paper.specs.Leaf.{mirror_leaf}
use Rattle.paper.specs.Store.{Cell, cells_at, cell_at, pointer, capacity_of, head_position, next_position, kept_of, leaf_no, leaf_solid, chain_of}
use Rattle.paper.specs.Match.{matches, lowest, find, leaf_cell}
use Rattle.laws.proofs.Tests.{true-T, iff-eq}
use Rattle.laws.proofs.Lists.{get_or-tabulate, length-tabulate}
use Rattle.laws.specs.Chains.{last_of, exchanged}
use Rattle.laws.specs.InOrder.{InOrder}
use Rattle.laws.proofs.Kept.{kept-length}
use Rattle.laws.proofs.Chains.{Only, chain-few}
use Rattle.laws.proofs.Keys.{only-matches}
use Rattle.laws.proofs.Leaves.{mirror_leaf-zero, mirror_leaf-mirror_leaf, mirror_leaf-lt}
use Rattle.laws.proofs.AddingTrees.{leaf-words}
use Rattle.add_seek.specs.Sought.{leaf_images}
use Rattle.add_seek.proofs.FindFirst.{lowest-same}
use Rattle.add_seek.proofs.FindChain.{Along, KeptAt, search-head, search-at, search-next, along-found, along-nowhere, along-last}

mirror-back : (t n : ℕ) → t < 8 → n < 2 ^ 64 → mirror_leaf t (mirror_leaf t n) ≡ n
mirror-back t n ht h = mirror_leaf-mirror_leaf t t n ht ht ∙ ap (λ (u : ℕ). mirror_leaf u n) (xor_self t) ∙ mirror_leaf-zero n h

across : (t a b : ℕ) → t < 8 → a < 2 ^ 64 → T (eqb (mirror_leaf t a) b) → a ≡ mirror_leaf t b
across t a b ht ha s = sym (mirror-back t a ht ha) ∙ ap (mirror_leaf t) (eqb→eq (mirror_leaf t a) b s)

back : (t a b : ℕ) → t < 8 → b < 2 ^ 64 → T (eqb a (mirror_leaf t b)) → mirror_leaf t a ≡ b
back t a b ht hb s = ap (mirror_leaf t) (eqb→eq a (mirror_leaf t b) s) ∙ mirror-back t b ht hb

leaf-across : (t a b : ℕ) → t < 8 → a < 2 ^ 64 → b < 2 ^ 64 → eqb (mirror_leaf t a) b ≡ eqb a (mirror_leaf t b)
leaf-across t a b ht ha hb =
    iff-eq (eqb (mirror_leaf t a) b) (eqb a (mirror_leaf t b)) (λ s. true-T (eq-eqb a (mirror_leaf t b) (across t a b ht ha s)))
    (λ s. true-T (eq-eqb (mirror_leaf t a) b (back t a b ht hb s)))

leaf-match : (K : List (List Cell)) (leaf t : ℕ) (b : Cell) → matches K 0 (leaf_cell leaf) b t ≡ eqb leaf (mirror_leaf t (leaf_no b))
unfolding matches
leaf-match K leaf t b = ap (λ (n : ℕ). eqb n (mirror_leaf t (leaf_no b))) (leaf-words leaf)

pub image-at : (leaf t : ℕ) → t < 8 → get_or (leaf_images leaf) t 0 ≡ mirror_leaf t leaf
image-at leaf t h = get_or-tabulate 8 0 t (λ u. mirror_leaf u leaf) 0 h ∙ ap (λ (u : ℕ). mirror_leaf u leaf) (zero-add t)

-- eight numbers that are by index what f gives
pub eight-numbers : (f : ℕ → ℕ) (all : List ℕ) → length all ≡ 8 → ((i : ℕ) → i < 8 → get_or all i 0 ≡ f i) → all ≡ tabulate 0 8 f
eight-numbers f all long each =
    ext_get_or 0 all (tabulate 0 8 f) (long ∙ sym (length-tabulate 8 0 f))
    (λ i l.
    let h : i < 8 = omega arith in
    each i h ∙ sym (get_or-tabulate 8 0 i f 0 h ∙ ap f (zero-add i)))

-- the first of them that a leaf is, and the lowest mirror under which the leaf sought matches it
image-first : (K : List (List Cell)) (all : List ℕ) (leaf other : ℕ) (b : Cell) → leaf < 2 ^ 64 → other < 2 ^ 64 → all ≡ leaf_images leaf → other ≡ leaf_no b
    → lowest 8 0 (λ t. eqb (get_or all t 0) other) ≡ lowest 8 0 (λ t. matches K 0 (leaf_cell leaf) b t)
image-first K all leaf other b hl ho ea eo =
    lowest-same 8 0 (λ t. eqb (get_or all t 0) other) (λ t. matches K 0 (leaf_cell leaf) b t)
    (λ t h.
    ap (λ (i : ℕ). eqb i other) (ap (λ (l : List ℕ). get_or l t 0) ea ∙ image-at leaf t h) ∙ leaf-across t leaf other h hl ho
    ∙ ap (λ (n : ℕ). eqb leaf (mirror_leaf t n)) eo ∙ sym (leaf-match K leaf t b))

-- the same, each read with its words exchanged
words-low : (a b : ℕ) → a < 2 ^ 32 → (b * 2 ^ 32 + a) % 2 ^ 32 ≡ a
words-low a b h = omega arith

words-high : (a b : ℕ) → a < 2 ^ 32 → (b * 2 ^ 32 + a) / 2 ^ 32 ≡ b
words-high a b h = omega arith

words_fit : (a b : ℕ) → a < 2 ^ 32 → b < 2 ^ 32 → b * 2 ^ 32 + a < 2 ^ 64
words_fit a b ha hb = omega arith

high-few : (n : ℕ) → n < 2 ^ 64 → n / 2 ^ 32 < 2 ^ 32
high-few n h = omega arith

pub exchanged-fits : (n : ℕ) → n < 2 ^ 64 → exchanged n < 2 ^ 64
exchanged-fits n h = words_fit (n / 2 ^ 32) (n % 2 ^ 32) (high-few n h) (mod-lt n (omega arith))

exchanged-twice : (n : ℕ) → n < 2 ^ 64 → exchanged (exchanged n) ≡ n
exchanged-twice n h =
    let a : ℕ = n / 2 ^ 32 in
    let b : ℕ = n % 2 ^ 32 in
    ap₂ (λ (x y : ℕ). x * 2 ^ 32 + y) (words-low a b (high-few n h)) (words-high a b (high-few n h)) ∙ div-add-mod' n (2 ^ 32)

exchanged-eqb : (a b : ℕ) → a < 2 ^ 64 → b < 2 ^ 64 → eqb (exchanged a) (exchanged b) ≡ eqb a b
exchanged-eqb a b ha hb =
    iff-eq (eqb (exchanged a) (exchanged b)) (eqb a b)
    (λ s. true-T (eq-eqb a b (sym (exchanged-twice a ha) ∙ ap exchanged (eqb→eq (exchanged a) (exchanged b) s) ∙ exchanged-twice b hb)))
    (λ s. true-T (eq-eqb (exchanged a) (exchanged b) (ap exchanged (eqb→eq a b s))))

pub exchanged-first : (K : List (List Cell)) (all images : List ℕ) (leaf other : ℕ) (b : Cell) → leaf < 2 ^ 64 → leaf_no b < 2 ^ 64 → images ≡ leaf_images leaf
    → all ≡ tabulate 0 8 (λ t. exchanged (get_or images t 0)) → other ≡ exchanged (leaf_no b)
    → lowest 8 0 (λ t. eqb (get_or all t 0) other) ≡ lowest 8 0 (λ t. matches K 0 (leaf_cell leaf) b t)
exchanged-first K all images leaf other b hl hb ei ea eo =
    lowest-same 8 0 (λ t. eqb (get_or all t 0) other) (λ t. eqb (get_or images t 0) (leaf_no b))
    (λ t h.
    let image : get_or images t 0 ≡ mirror_leaf t leaf = ap (λ (l : List ℕ). get_or l t 0) ei ∙ image-at leaf t h in
    ap₂ eqb (ap (λ (l : List ℕ). get_or l t 0) ea ∙ get_or-tabulate 8 0 t (λ u. exchanged (get_or images u 0)) 0 h ∙ ap (λ (u : ℕ). exchanged (get_or images u 0)) (zero-add t)) eo
    ∙ exchanged-eqb (get_or images t 0) (leaf_no b) (rw image (mirror_leaf-lt t leaf)) hb)
    ∙ image-first K images leaf (leaf_no b) b hl hb ei refl

-- the chain of a leaf
pub leaf-chain : (leaf : ℕ) → leaf_solid leaf ≡ chain_of 0 (leaf_cell leaf)
leaf-chain leaf = ap leaf_solid (sym (leaf-words leaf))

-- ---- the search for a leaf in its chain, in a store that is in order

-- the leaf matches cell b under t
abbrev pub leaf-passes : List ℕ → ℕ → Cell → ℕ → Bool
leaf-passes ws leaf b t = matches (kept_of ws) 0 (leaf_cell leaf) b t

-- where the search is: `last` is passed, n is the next
abbrev pub LeafSearch : List ℕ → ℕ → ℕ → ℕ → Type 0
LeafSearch ws leaf last n = Along 0 (chain_of 0 (leaf_cell leaf)) (leaf-passes ws leaf) (cells_at (kept_of ws) 0) last n

module _ {ws : List ℕ} (order : InOrder ws) (leaf : ℕ) where
  leaf-only : Only 0 (chain_of 0 (leaf_cell leaf)) (leaf-passes ws leaf) (cells_at (kept_of ws) 0)
  leaf-only = only-matches (kept_of ws) 0 (leaf_cell leaf) (cells_at (kept_of ws) 0) tt (λ q h. tt)

  pub leaf-head : {j n : ℕ} → j ≡ leaf_solid leaf → n ≡ get_or ws (head_position (capacity_of ws) 0 j) 0 → LeafSearch ws leaf 0 n
  leaf-head chained e =
      search-head ws order 0 (lit< tt) (chain_of 0 (leaf_cell leaf)) (leaf-passes ws leaf) (chain-few 0 (leaf_cell leaf))
      (e ∙ ap (λ (i : ℕ). get_or ws (head_position (capacity_of ws) 0 i) 0) (chained ∙ leaf-chain leaf))

  module _ {last n : ℕ} (a : LeafSearch ws leaf last n) where
    module _ (one : n ≡ 0 → ⊥) where
      pub leaf-kept-at : KeptAt ws 0 last n
      leaf-kept-at = search-at ws order 0 (lit< tt) (chain_of 0 (leaf_cell leaf)) (leaf-passes ws leaf) a one

      -- `all` has the leaf's images, and b is the leaf at n, each with its words exchanged
      module _ {all images : List ℕ} {b : ℕ} (fits : leaf < 2 ^ 64) (ei : images ≡ leaf_images leaf) (ea : all ≡ tabulate 0 8 (λ t. exchanged (get_or images t 0)))
          (eb : b ≡ exchanged (leaf_no (cell_at (kept_of ws) 0 (n - 1)))) where
        mirrors : lowest 8 0 (λ t. eqb (get_or all t 0) b) ≡ lowest 8 0 (leaf-passes ws leaf (cell_at (kept_of ws) 0 (n - 1)))
        mirrors =
            exchanged-first (kept_of ws) all images leaf b (cell_at (kept_of ws) 0 (n - 1)) fits
            (order.leaves (n - 1) (rw (kept-length ws 0 (lit< tt)) leaf-kept-at.kept)) ei ea eb

        pub leaf-next : O.none ≡ lowest 8 0 (λ t. eqb (get_or all t 0) b) → {m : ℕ} → m ≡ get_or ws (next_position (capacity_of ws) 0 (n - 1)) 0 → LeafSearch ws leaf n m
        leaf-next none e =
            search-next ws order 0 (lit< tt) (chain_of 0 (leaf_cell leaf)) (leaf-passes ws leaf) a one leaf-only (none ∙ mirrors) e

        pub leaf-found : {t p : ℕ} → some t ≡ lowest 8 0 (λ t. eqb (get_or all t 0) b) → p ≡ pointer t (n - 1) → some p ≡ find (leaf-passes ws leaf) (cells_at (kept_of ws) 0) 0
        leaf-found found e =
            ap some e ∙ along-found 0 (chain_of 0 (leaf_cell leaf)) (leaf-passes ws leaf) (cells_at (kept_of ws) 0) a one leaf-only (found ∙ mirrors)

    module _ (over : n ≡ 0) where
      pub leaf-nowhere : O.none ≡ find (leaf-passes ws leaf) (cells_at (kept_of ws) 0) 0
      leaf-nowhere = along-nowhere 0 (chain_of 0 (leaf_cell leaf)) (leaf-passes ws leaf) (cells_at (kept_of ws) 0) a over leaf-only

      pub leaf-last : last ≡ last_of (kept_of ws) 0 (chain_of 0 (leaf_cell leaf))
      leaf-last = along-last 0 (chain_of 0 (leaf_cell leaf)) (leaf-passes ws leaf) (cells_at (kept_of ws) 0) a over
