-- The walk from a root to a voxel, by coordinates, over cells of a store and records of a packed file alike: how it ends, and what it entered.
-- Definitions only. List k has what is of height k + 2; of a cell or record a walk knows the list and the number or place in it.
use Rattle.std.specs.Prelude.{Bool, true, false, List, [], ◌∷◌, map, ℕ, zero, suc, ◌-◌}
use Rattle.std.specs.Int.Bits.{bit_xor}
use Rattle.paper.specs.Rooms.{Point, mirror, child_no, in_child}
use Rattle.paper.specs.Leaf.{leaf_voxel}
use Rattle.paper.specs.Outline.{edge}

-- ---- a walk

-- how it ends: what was entered or taken fails its test; the child of this height is absent; in a leaf of these bits, at this voxel of it as stored
pub data End : Type 0 where
  damaged : End
  absent : ℕ → End
  in_leaf : ℕ → Point → End

-- a cell or record entered: its list, its number or place, and the tag under which it is entered
pub record Step : Type 0 where
  pub list : ℕ
  pub place : ℕ
  pub tag : ℕ

-- how it ends, and what it entered, the root's first; a damaged walk has no path
pub record Walk : Type 0 where
  pub end : End
  pub path : List Step

abbrev pub damaged_walk : Walk
damaged_walk = record { end = damaged; path = [] }

-- damaged unless the test passes
abbrev pub unless : Bool → Walk → Walk
unless true w = w
unless false w = damaged_walk

-- one step before the others
abbrev pub path_after : Step → End → List Step → List Step
path_after s damaged path = []
path_after s (absent h) path = s ∷ path
path_after s (in_leaf n u) path = s ∷ path

abbrev pub after : Step → Walk → Walk
after s w = record { end = w.end; path = path_after s w.end w.path }

-- ---- what is read off it

abbrev pub is_damaged : End → Bool
is_damaged damaged = true
is_damaged (absent h) = false
is_damaged (in_leaf n u) = false

abbrev pub solid_at : End → Bool
solid_at damaged = false
solid_at (absent h) = false
solid_at (in_leaf n u) = leaf_voxel n u

-- document 02, request 2 ('ended the walk'): the height of the absent child; 0 in a leaf
abbrev pub empty_height : End → ℕ
empty_height damaged = 0
empty_height (absent h) = h
empty_height (in_leaf n u) = 0

-- the tags taken, the root's first, and the mirror in force at the end: their exclusive or
abbrev pub tags_of : Walk → List ℕ
tags_of w = map (λ s. s.tag) w.path

unfoldable pub in_force : List ℕ → ℕ
in_force [] = 0
in_force (t ∷ ts) = bit_xor t (in_force ts)

abbrev pub mirror_in : Walk → ℕ
mirror_in w = in_force (tags_of w)

-- ---- walking

-- what a pointer leads to: nothing; what fails its test; with this tag, this number or place one list down
pub data Child : Type 0 where
  none : Child
  wrong : Child
  to : ℕ → ℕ → Child

-- lists as a walk reads them: whether place p of list k passes the tests on entering it, the bits of the leaf at place p, and child i, as stored, of
-- what is at place p of list k + 1
pub record Reading : Type 0 where
  pub ok : ℕ → ℕ → Bool
  pub leaf : ℕ → ℕ
  pub child : ℕ → ℕ → ℕ → Child

-- on to a child of height h; `go` walks under a tag, from a place
abbrev pub onward : ℕ → (ℕ → ℕ → Walk) → Child → Walk
onward h go none = record { end = absent h; path = [] }
onward h go wrong = damaged_walk
onward h go (to t p) = go t p

-- from place p of list k, entered under tag t, to voxel v
unfoldable pub walk_in : Reading → ℕ → ℕ → ℕ → Point → Walk
walk_in R zero p t v =
    unless (R.ok 0 p) (record { end = in_leaf (R.leaf p) (mirror t (edge 0) v); path = record { list = 0; place = p; tag = t } ∷ [] })
walk_in R (suc k) p t v =
    let w : Point = mirror t (edge (suc k)) v in
    let on : ℕ → ℕ → Walk = λ t' p'. walk_in R k p' t' (in_child (edge k) w) in
    unless (R.ok (suc k) p) (after (record { list = suc k; place = p; tag = t }) (onward (suc (suc k)) on (R.child k p (child_no (edge k) w))))

-- from the root of depth D: what its pointer leads to
abbrev pub root_walk : Reading → ℕ → Child → Point → Walk
root_walk R D c v = onward D (λ t p. walk_in R (D - 2) p t v) c
