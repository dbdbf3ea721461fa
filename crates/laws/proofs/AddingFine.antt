-- Adding a file keeps a store fine: a leaf goes to the leaves, and any other cell has eight words and goes to a list above them. By induction on
-- the tree, which fits its height. Assumes nothing.
use mathlib.Core.Path.{◌≡◌, refl, sym, ap, ◌∙◌}
use mathlib.Core.Bool.{Bool, true, false, cond}
use mathlib.Core.List.{List, [], ◌∷◌, ◌++◌, map}
use mathlib.Core.Option.{Option, some}
use mathlib.Core.Option as O
use Prim.Native.Nat.{ℕ, zero, suc, pred, ◌-◌, ◌<◌}
use native.Mathlib.Nat.{zero-add}
use native.Mathlib.Omega.{arith}
use borrow.Author.Tests.{ltb-true, leb-false}
use lib.Dec.{ltb}
use lib.ListN.{length, set}
use Rattle.paper.specs.Outline.{Tree, none, leaf, node, outline_tree, file_depth}
use Rattle.paper.specs.Store.{Cell, Store, cells_at, pointer, most_scenes, cell_length, capacity_of, scenes_held, kept_of, store_of, words_of, used}
use Rattle.paper.specs.Match.{Adding, full, added, or_keep, keep, find, matches, add_cell, in_turn, leaf_cell, add_tree}
use Rattle.paper.specs.Calls.{next_scene, scenes_full, adding, with_scene}
use Rattle.laws.proofs.OutlineFits.{Fits, outline-fits}
use Rattle.laws.proofs.Rows.{Lists, lists-snoc}
use Rattle.laws.proofs.Words.{Fine, scene-fine, words_of-length}
use Rattle.laws.proofs.Undamaged.{FineHeader, header-fine}
use Rattle.laws.proofs.Adding.{Answer, then-answer}
use Rattle.laws.proofs.AddingTrees.{Each, enil, econs}
use Rattle.laws.proofs.Capacity.{Grows, add_tree-grows}

-- ---- the lists stay right

-- of whatever is added: cells of their lists' words, at most C of them
abbrev pub ListsAfter : ℕ → Adding ℕ → Type 0
ListsAfter C x = Answer (Unit {0}) (λ p K. Lists C 0 K) x

keep-lists : (C k : ℕ) (c : Cell) (K : List (List Cell)) → Lists C 0 K → length c ≡ cell_length k → ListsAfter C (keep C k c K)
unfolding keep
keep-lists C k c K h e = go (ltb (length (cells_at K k)) C) refl
  where
    go : (b : Bool) → ltb (length (cells_at K k)) C ≡ b → ListsAfter C (cond b (added (pointer 0 (length (cells_at K k))) (set K k (cells_at K k ++ (c ∷ [])))) full)
    go true t = lists-snoc h k c (e ∙ ap cell_length (sym (zero-add k))) (ltb-true (length (cells_at K k)) C t)
    go false t = tt

cell-lists : (C k : ℕ) (c : Cell) (K : List (List Cell)) → Lists C 0 K → length c ≡ cell_length k → ListsAfter C (add_cell C k c K)
unfolding add_cell
cell-lists C k c K h e = go (find (λ b t. matches K k c b t) (cells_at K k) 0)
  where
    go : (o : Option ℕ) → ListsAfter C (or_keep o K (keep C k c K))
    go O.none = keep-lists C k c K h e
    go (some p) = h

abbrev ListsBy : ℕ → ℕ → Tree → Type 0
ListsBy C k t = (K : List (List Cell)) → Lists C 0 K → ListsAfter C (add_tree C t k K)

-- and as many pointers as there are trees
abbrev Turned : ℕ → ℕ → List ℕ → List (List Cell) → Type 0
Turned C n ps K = (length ps ≡ n) × Lists C 0 K

in_turn-lists : (C k : ℕ) {ts : List Tree} → Each (ListsBy C k) ts → (K : List (List Cell)) → Lists C 0 K
    → Answer (Unit {0}) (Turned C (length ts)) (in_turn (map (λ t. add_tree C t k) ts) K)
unfolding in_turn
in_turn-lists C k enil K h = (refl, h)
in_turn-lists C k (econs {t} {ts} r rs) K h =
    then-answer (Unit {0}) (Unit {0}) (λ p K'. Lists C 0 K') (Turned C (suc (length ts))) (add_tree C t k K) _ (r K h) (λ u. u)
    (λ p K' h'. then-answer (Unit {0}) (Unit {0}) (Turned C (length ts)) (Turned C (suc (length ts))) (in_turn (map (λ t. add_tree C t k) ts) K') _
    (in_turn-lists C k rs K' h') (λ u. u) (λ ps K'' g. (ap suc g.0, g.1)))

eight-words : (k : ℕ) → 0 < k → 8 ≡ cell_length k
eight-words zero h = absurd (omega arith)
eight-words (suc k) h = refl

pub add_tree-lists : (C : ℕ) (t : Tree) (k : ℕ) → Fits t k → (K : List (List Cell)) → Lists C 0 K → ListsAfter C (add_tree C t k K)
unfolding add_tree
add_tree-lists C none k f K h = h
add_tree-lists C (leaf n) k f K h = cell-lists C 0 (leaf_cell n) K h refl
add_tree-lists C (node a b c d e g i j) k f K h =
    let m : ℕ = pred k in
    then-answer (Unit {0}) (Unit {0}) (Turned C 8) (λ p K'. Lists C 0 K') (in_turn (map (λ t. add_tree C t m) (a ∷ b ∷ c ∷ d ∷ e ∷ g ∷ i ∷ j ∷ [])) K)
    (λ ps K'. add_cell C k ps K')
    (in_turn-lists C m (econs {t = a} (add_tree-lists C a m f.1) (econs {t = b} (add_tree-lists C b m f.2) (econs {t = c} (add_tree-lists C c m f.3)
    (econs {t = d} (add_tree-lists C d m f.4) (econs {t = e} (add_tree-lists C e m f.5) (econs {t = g} (add_tree-lists C g m f.6)
    (econs {t = i} (add_tree-lists C i m f.7) (econs {t = j} (add_tree-lists C j m f.8) enil)))))))) K h)
    (λ u. u) (λ ps K' r. cell-lists C k ps K' r.1 (r.0 ∙ eight-words k f.0))

-- ---- the store after adding

module _ (ws file : List ℕ) (h : FineHeader ws) where
  pub adding-lists : ListsAfter (capacity_of ws) (adding ws file)
  unfolding adding store_of
  adding-lists = add_tree-lists (capacity_of ws) (outline_tree file) (file_depth file - 2) (outline-fits file) (kept_of ws) (header-fine ws h).of-cells

  adding-grows : Grows (kept_of ws) (adding ws file)
  unfolding adding
  adding-grows = add_tree-grows (capacity_of ws) (outline_tree file) (file_depth file - 2) (kept_of ws)

  -- the store with x added
  abbrev after : Adding ℕ → Store
  after x = with_scene (store_of ws) (next_scene ws) (file_depth file) x

  module _ (room : scenes_full ws ≡ false) where
    scene-after : (x : Adding ℕ) → ListsAfter (capacity_of ws) x → Grows (kept_of ws) x → Fine (capacity_of ws) (after x).held (after x).scenes (after x).kept
    unfolding store_of
    scene-after full r g = header-fine ws h
    scene-after (added p K) r g =
        let S : List Cell = (store_of ws).scenes in
        let f : Fine (capacity_of ws) (scenes_held ws) S (kept_of ws) = header-fine ws h in
        scene-fine (capacity_of ws) (scenes_held ws) S K (record { lists = g.len ∙ f.lists; of-scenes = f.of-scenes; all-scenes = f.all-scenes; few-scenes = f.few-scenes; of-cells = r })
        (next_scene ws) (file_depth file ∷ p ∷ []) refl (leb-false most_scenes (scenes_held ws) room)

    add-fine : Fine (capacity_of ws) (after (adding ws file)).held (after (adding ws file)).scenes (after (adding ws file)).kept
    add-fine = scene-after (adding ws file) adding-lists adding-grows

    length-after : (x : Adding ℕ) → Fine (capacity_of ws) (after x).held (after x).scenes (after x).kept → length (words_of (after x)) ≡ used (capacity_of ws)
    unfolding store_of
    length-after full f = words_of-length (capacity_of ws) (after full).held (after full).scenes (after full).kept f
    length-after (added p K) f = words_of-length (capacity_of ws) (after (added p K)).held (after (added p K)).scenes K f

    -- as many words are written as the store uses
    pub add-length : length (words_of (with_scene (store_of ws) (next_scene ws) (file_depth file) (adding ws file))) ≡ used (capacity_of ws)
    add-length = length-after (adding ws file) add-fine
