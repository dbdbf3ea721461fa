-- A scene prepared for its packed file, and nothing written yet: what the counts, the sizes and the length answered say, and the order and the
-- places in scratch. Definitions only.
use Rattle.std.specs.Prelude.{◌≡◌, Bool, cond, not, ◌&&◌, List, [], ◌∷◌, ◌++◌, ℕ, suc, ◌+◌, ◌^◌, ◌<◌, ◌≤◌, length, get_or}
use Rattle.paper.specs.Store.{capacity_of, kept_of, cell_no, tag_of}
use Rattle.paper.specs.Packed.{all_short}
use Rattle.paper.specs.Pack.{places, size, reachable, scene_graph, packed_file}
use Rattle.paper.specs.Answers.{Outcome, outcome, told}
use Rattle.pack_scratch.specs.Parts.{word_in, Room}
use Rattle.pack_scratch.specs.Parts as part
use Rattle.pack_order.specs.OrderParts.{Ordered}
use Rattle.pack_places.specs.Placing.{Kept}
use Rattle.pack_bytes.specs.Writing.{body_in, sizes_in, head_of, fitted}

-- the scene under root p of list k of the store ws: scratch is t, and n the file's length
pub record Ready (ws : List ℕ) (k p : ℕ) (counts sizes : List ℕ) (n : ℕ) (t : List ℕ) : Type 0 where
  pub room : Room (capacity_of ws) k t
  pub ordered : Ordered (kept_of ws) k p (capacity_of ws) counts t
  -- by which every pointer of the file is known short or long
  pub placed : (j : ℕ) → j ≤ k → (i : ℕ) → i < length (reachable (kept_of ws) k (cell_no p ∷ []) j)
      → word_in (capacity_of ws) (part.places j) t (get_or (reachable (kept_of ws) k (cell_no p ∷ []) j) i 0) ≡ get_or (places (scene_graph (kept_of ws) k p) j) i 0
  pub sized : (j : ℕ) → j ≤ k → get_or sizes j 0 ≡ size (scene_graph (kept_of ws) k p) j
  pub kept : (j : ℕ) → j ≤ k → Kept ws j (get_or counts j 0) t
  pub whole : head_of n (k + 2) (tag_of p) ++ (sizes_in sizes (suc k) ++ body_in (kept_of ws) (capacity_of ws) counts (suc k) t) ≡ packed_file (kept_of ws) (k + 2) p
  pub measured : n ≡ length (packed_file (kept_of ws) (k + 2) p)
  pub small : n < 2 ^ 32

-- what comes of an output into which these bytes are to go, for the headset or not: bytes with a long pointer aren't for the headset
unfoldable pub profiled : Bool → List ℕ → List ℕ → Outcome
profiled headset bs out =
    let r : Outcome = fitted bs out in
    cond (headset && not (all_short bs)) (outcome (told 15 (0 ∷ [])) (out ∷ [])) r
