-- Document 01, 'The store': the words after a cell more, a scene more, and after lists are cut back, and what each asks; document 02, request 10: their links. Definitions only.
-- As in `paper`, list k has the cells of height k + 2, so list 0 has the leaves.
use Rattle.std.specs.Prelude.{List, ℕ, zero, suc, ◌+◌, ◌-◌, ◌*◌, ◌≤◌, ◌<◌, T, get_or, set, replicate}
use Rattle.std.proofs.lemmas.List.Edits.{sets}
use Rattle.paper.specs.Calls.{next_scene}
use Rattle.paper.specs.Store.{Cell, heights, chains, capacity_of, scenes_held, kept_count, scene_position, stride, cell_position, head_position, next_position, header_ok}
use Rattle.laws.specs.Chains.{link_position, cut_links}

-- ---- what is asked of the words

-- list k has room for a cell more
pub record Room (k : ℕ) (ws : List ℕ) : Type 0 where
  pub header : T (header_ok ws)
  pub list : k < heights
  pub room : kept_count ws k < capacity_of ws

-- chain j of list k, whose last cell is `last`, its number plus 1, or 0, can have a cell more
pub record Behind (k j last : ℕ) (ws : List ℕ) : Type 0 where
  pub room : Room k ws
  pub chain : j < chains
  pub kept : last ≤ kept_count ws k

-- list k has n cells or more
pub record Keeps (k n : ℕ) (ws : List ℕ) : Type 0 where
  pub header : T (header_ok ws)
  pub list : k < heights
  pub enough : n ≤ kept_count ws k

-- ---- the words after

-- the next cell of list k linked behind the last cell of chain j
unfoldable pub link_in : ℕ → ℕ → ℕ → List ℕ → List ℕ
link_in k j last ws = set ws (link_position (capacity_of ws) k j last) (suc (kept_count ws k))

-- a cell more in list k ('as it stands'): its count grows by one, and the cell's words follow those of the others
unfoldable pub keep_in : ℕ → Cell → List ℕ → List ℕ
keep_in k c ws = sets (set ws (2 + k) (suc (kept_count ws k))) (cell_position (capacity_of ws) k (kept_count ws k)) c

-- a scene more ('the scene number'): word 1 grows by one, and the scene's depth and root pointer stand at the place of the next number
unfoldable pub hold_in : Cell → List ℕ → List ℕ
hold_in c ws = sets (set ws 1 (suc (scenes_held ws))) (scene_position (next_scene ws)) c

-- the chains of list k back to its first n cells: its heads, and the next words of its cells
unfoldable pub cut_chains : ℕ → ℕ → List ℕ → List ℕ
cut_chains k n ws =
    cut_links n (next_position (capacity_of ws) k 0) (kept_count ws k) (cut_links n (head_position (capacity_of ws) k 0) chains ws)

-- the cells of list k back to the first n: the words of the others become zero, and n is its count
unfoldable pub cut_cells : ℕ → ℕ → List ℕ → List ℕ
cut_cells k n ws = set (sets ws (cell_position (capacity_of ws) k n) (replicate (stride k * (kept_count ws k - n)) 0)) (2 + k) n

-- list k back to its first n cells
unfoldable pub cut_list : ℕ → ℕ → List ℕ → List ℕ
cut_list k n ws = cut_cells k n (cut_chains k n ws)

-- each of the first m lists back to so many cells as ns says
unfoldable pub cut_lists : ℕ → List ℕ → List ℕ → List ℕ
cut_lists zero ns ws = ws
cut_lists (suc k) ns ws = cut_list k (get_or ns k 0) (cut_lists k ns ws)

-- and all of them
unfoldable pub cut_back : List ℕ → List ℕ → List ℕ
cut_back ns ws = cut_lists heights ns ws
