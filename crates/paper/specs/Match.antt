-- Document 01, 'The store': the match rule, and adding. Definitions only.
-- The match rule speaks of pointers, on any undamaged store; that it agrees with voxels on stores that only the calls wrote is a claim.
use Rattle.std.specs.Prelude.{Bool, false, cond, List, [], ◌∷◌, ◌++◌, ℕ, zero, suc, pred, eqb, ltb, length, get_or, set}
use Rattle.std.proofs.Math.Option.{Option, some}
use Rattle.std.proofs.Math.Option as O
use Rattle.std.specs.Int.Bits.{bit_xor}
use Rattle.paper.specs.Numbers.{all_below}
use Rattle.paper.specs.Leaf.{mirror_leaf}
use Rattle.paper.specs.Outline.{Tree, none, leaf, node}
use Rattle.paper.specs.Store.{Cell, cells_at, cell_at, two_words, leaf_no, tag_of, cell_no, pointer}

-- pointers p of a and q of b, under t ('both none'): neither names a cell; or both name one cell, and it matches itself under the exclusive or of
-- both tags and t. `self q u`: cell q matches itself under u
unfoldable pub pointer_match : (ℕ → ℕ → Bool) → ℕ → ℕ → ℕ → Bool
pointer_match self t p q =
    let r = self (cell_no p) (bit_xor (bit_xor (tag_of p) (tag_of q)) t) in
    cond (eqb p 0) (eqb q 0) (cond (eqb q 0) false (cond (eqb (cell_no p) (cell_no q)) r false))

-- each pointer of a against the one of b that stands in the place mirrored by t ('for each i')
unfoldable pub cell_match : (ℕ → ℕ → Bool) → Cell → Cell → ℕ → Bool
cell_match self a b t = all_below 8 (λ i. pointer_match self t (get_or a i 0) (get_or b (bit_xor i t) 0))

-- does cell a match cell b under t, both of list k ('Match rule'): leaves by their voxels, any other cells by their pointers
unfoldable pub matches : List (List Cell) → ℕ → Cell → Cell → ℕ → Bool
matches K zero a b t = eqb (leaf_no a) (mirror_leaf t (leaf_no b))
matches K (suc k) a b t = cell_match (λ q u. matches K k (cell_at K k q) (cell_at K k q) u) a b t

-- ---- seeking

-- the lowest of t, t + 1 .. t + n - 1 that passes
unfoldable pub lowest : ℕ → ℕ → (ℕ → Bool) → Option ℕ
lowest zero t p = O.none
lowest (suc n) t p = let r = lowest n (suc t) p in cond (p t) (some t) r

abbrev pub or_found : Option ℕ → ℕ → Option ℕ → Option ℕ
or_found O.none n r = r
or_found (some t) n r = some (pointer t n)

-- a pointer to the first cell that passes under some mirror, with the lowest such mirror ('lowest number first'); the cells are counted from n
unfoldable pub find : (Cell → ℕ → Bool) → List Cell → ℕ → Option ℕ
find p [] n = O.none
find p (c ∷ cs) n = let r = find p cs (suc n) in or_found (lowest 8 0 (p c)) n r

-- ---- adding

-- what adding answers: no room, or a value and the lists after
pub data Adding (A : Type 0) : Type 0 where
  full : Adding A
  added : A → List (List Cell) → Adding A

abbrev pub then : {A B : Type 0} → Adding A → (A → List (List Cell) → Adding B) → Adding B
then full f = full
then (added a K) f = f a K

abbrev pub or_keep : Option ℕ → List (List Cell) → Adding ℕ → Adding ℕ
or_keep O.none K r = r
or_keep (some p) K r = added p K

-- one cell more at the end of list k, and the pointer to it, unmirrored ('as it stands'); full where the list has C cells already
unfoldable pub keep : ℕ → ℕ → Cell → List (List Cell) → Adding ℕ
keep C k c K =
    let r = added (pointer 0 (length (cells_at K k))) (set K k (cells_at K k ++ (c ∷ []))) in
    cond (ltb (length (cells_at K k)) C) r full

-- seek a cell of list k, or keep it
unfoldable pub add_cell : ℕ → ℕ → Cell → List (List Cell) → Adding ℕ
add_cell C k c K =
    let r = keep C k c K in
    or_keep (find (λ b t. matches K k c b t) (cells_at K k) 0) K r

-- one after the other, with what they answer
unfoldable pub in_turn : {A : Type 0} → List (List (List Cell) → Adding A) → List (List Cell) → Adding (List A)
in_turn [] K = added [] K
in_turn (f ∷ fs) K = then (f K) (λ a K'. then (in_turn fs K') (λ rs K''. added (a ∷ rs) K''))

-- a leaf's two words, high first
abbrev pub leaf_cell : ℕ → Cell
leaf_cell n = two_words n

-- a tree of height k + 2 ('from the leaves up'): its children in turn, each added to what those before it left, then the cell of their pointers
unfoldable pub add_tree : ℕ → Tree → ℕ → List (List Cell) → Adding ℕ
add_tree C none k K = added 0 K
add_tree C (leaf n) k K = add_cell C 0 (leaf_cell n) K
add_tree C (node a b c d e f g h) k K =
    then (in_turn (add_tree C a (pred k) ∷ add_tree C b (pred k) ∷ add_tree C c (pred k) ∷ add_tree C d (pred k)
    ∷ add_tree C e (pred k) ∷ add_tree C f (pred k) ∷ add_tree C g (pred k) ∷ add_tree C h (pred k) ∷ []) K)
    (λ ps K'. add_cell C k ps K')
