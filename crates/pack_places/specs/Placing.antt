-- Where the records of a scene come to lie, as code finds it: from the leaves up, each list's cells in their order, each at the running place.
-- A place is kept in scratch under its cell's number, and a pointer's place is looked up there. Definitions only; that these are the places of
-- the packed file is a law.
use Rattle.std.specs.Prelude.{◌≡◌, Bool, List, [], ◌∷◌, ℕ, zero, suc, ◌+◌, ◌*◌, ◌<◌, ◌≤◌, leb, get_or, set, replicate}
use Rattle.paper.specs.Numbers.{all_below}
use Rattle.paper.specs.Store.{Cell, heights, cell_at, cell_no, kept_count, capacity_of}
use Rattle.paper.specs.Packed.{farthest_short}
use Rattle.paper.specs.Pack.{code, width}
use Rattle.numbers.specs.Laid.{Reached, reached}
use Rattle.pack_scratch.specs.Parts.{orders, places, word_in, with_word, order_in, places_in}

-- the codes of a cell's pointers as the digits of a number to base b, child 0's the lowest
unfoldable pub digits : ℕ → List ℕ → Cell → ℕ
digits b ps [] = 0
digits b ps (p ∷ c) = code ps p + b * digits b ps c

-- what the record of cell q of list k takes of its list: half-words, or one leaf
unfoldable pub span : List (List Cell) → ℕ → ℕ → List ℕ → ℕ → ℕ
span K C zero s q = 1
span K C (suc k) s q = width (places_in C k s) (cell_at K (suc k) q)

-- cells of list k placed one behind the other, the first at place a: cell q takes w q
unfoldable pub placing : (ℕ → ℕ) → ℕ → ℕ → ℕ → List ℕ → List ℕ → Reached
placing w C k a [] s = reached a s
placing w C k a (q ∷ ns) s = placing w C k (a + w q) ns (with_word C (places k) q a s)

-- list k of n cells: its size, and scratch with its places
unfoldable pub placed_list : List (List Cell) → ℕ → ℕ → ℕ → List ℕ → Reached
placed_list K C k n s = placing (span K C k s) C k 0 (order_in C k n s) s

-- the lists' sizes, and scratch with their places
pub data Placed : Type 0 where
  placed : List ℕ → List ℕ → Placed

abbrev pub onto : ℕ → List ℕ → Reached → Placed
onto k sizes (reached n s) = placed (set sizes k n) s

abbrev pub list_placed : List (List Cell) → ℕ → List ℕ → ℕ → Placed → Placed
list_placed K C counts k (placed sizes s) = onto k sizes (placed_list K C k (get_or counts k 0) s)

-- the first k lists, from the leaves up
unfoldable pub placed_lists : List (List Cell) → ℕ → List ℕ → ℕ → List ℕ → Placed
placed_lists K C counts zero s = placed (replicate heights 0) s
placed_lists K C counts (suc k) s = list_placed K C counts k (placed_lists K C counts k s)

-- where the last of the n cells of list k in their order is placed, 0 of no cell
unfoldable pub last_place : ℕ → ℕ → ℕ → List ℕ → ℕ
last_place C k zero s = 0
last_place C k (suc i) s = word_in C (places k) s (word_in C (orders k) s i)

-- a short pointer reaches the last cell of each of the first n lists
unfoldable pub all_near : ℕ → List ℕ → ℕ → List ℕ → Bool
all_near C counts n s = all_below n (λ k. leb (last_place C k (get_or counts k 0) s) farthest_short)

-- ---- what code asks of its arguments

-- each pointer of a cell names a number below C
abbrev pub Below : ℕ → Cell → Type 0
Below C c = (i : ℕ) → i < 8 → (get_or c i 0 ≡ 0 → ⊥) → cell_no (get_or c i 0) < C

-- the n cells of list k in their order are kept ones
pub record Kept (ws : List ℕ) (k n : ℕ) (s : List ℕ) : Type 0 where
  pub few : n ≤ capacity_of ws
  pub kept : (i : ℕ) → i < n → word_in (capacity_of ws) (orders k) s i < kept_count ws k
