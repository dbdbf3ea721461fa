-- Chains of a store's cells (document 02, request 10): the last cell of one, where the link to a cell behind it stands, how many it has, links cut back; and
-- what it means that the words of a chain are right. Definitions only.
use Rattle.std.specs.Prelude.{◌≡◌, cond, List, [], ◌∷◌, map, ℕ, suc, ◌+◌, ◌-◌, ◌*◌, ◌/◌, ◌%◌, ◌^◌, ◌<◌, ◌≤◌, eqb, ltb, get_or, take, drop}
use Rattle.std.proofs.lemmas.List.Edits.{sets}
use Rattle.paper.specs.Store.{Cell, cells_at, cell_at, chains, capacity_of, kept_count, kept_of, head_position, next_position, low_of, chain_of, head_of, next_of}

-- the last of some cells of list k, counted from n, that is in chain j: its number plus 1; or `before`, where none is
unfoldable pub last_in : ℕ → ℕ → ℕ → ℕ → List Cell → ℕ
last_in k j before n [] = before
last_in k j before n (c ∷ cs) = last_in k j (cond (eqb (chain_of k c) j) (suc n) before) (suc n) cs

-- the last cell of chain j of list k: its number plus 1, or 0
abbrev pub last_of : List (List Cell) → ℕ → ℕ → ℕ
last_of K k j = last_in k j 0 0 (cells_at K k)

-- where the link stands to what follows `last`, a number plus 1, in chain j of list k: at its next word, or at the chain's head where that is 0
unfoldable pub link_position : ℕ → ℕ → ℕ → ℕ → ℕ
link_position C k j last = cond (eqb last 0) (head_position C k j) (next_position C k (last - 1))

-- a link to one of the first n cells stays, any other becomes none
abbrev pub cut_link : ℕ → ℕ → ℕ
cut_link n w = cond (ltb n w) 0 w

-- m links from a place on, each cut
unfoldable pub cut_links : ℕ → ℕ → ℕ → List ℕ → List ℕ
cut_links n at m ws = sets ws at (map (cut_link n) (take m (drop at ws)))

-- how many of some cells of list k are in chain j
unfoldable pub count_in : ℕ → ℕ → List Cell → ℕ
count_in k j [] = 0
count_in k j (c ∷ cs) = let r = count_in k j cs in cond (eqb (chain_of k c) j) (suc r) r

-- each pointer of a cell is 0, or its low part is a number plus 1
abbrev pub NamesCells : Cell → Type 0
NamesCells c = (i : ℕ) → i < 8 → (get_or c i 0 ≡ 0 → ⊥) → 1 ≤ low_of (get_or c i 0)

-- a number with its two words exchanged: a leaf as its words stand, read with the first one low
abbrev pub exchanged : ℕ → ℕ
exchanged n = n % 2 ^ 32 * 2 ^ 32 + n / 2 ^ 32

-- ---- what the words say

abbrev pub head_word : List ℕ → ℕ → ℕ → ℕ
head_word ws k j = get_or ws (head_position (capacity_of ws) k j) 0

abbrev pub next_word : List ℕ → ℕ → ℕ → ℕ
next_word ws k n = get_or ws (next_position (capacity_of ws) k n) 0

-- the head of chain j of list k, and what follows each of its cells, are what the cells determine
pub record ChainRight (ws : List ℕ) (k j : ℕ) : Type 0 where
  pub head : head_word ws k j ≡ head_of (kept_of ws) k j
  pub nexts : (n : ℕ) → n < kept_count ws k → chain_of k (cell_at (kept_of ws) k n) ≡ j → next_word ws k n ≡ next_of (kept_of ws) k n

-- every chain of list k is right, and no number that isn't kept has a next word
pub record ListRight (ws : List ℕ) (k : ℕ) : Type 0 where
  pub each : (j : ℕ) → j < chains → ChainRight ws k j
  pub spare : (n : ℕ) → kept_count ws k ≤ n → n < capacity_of ws → next_word ws k n ≡ 0
