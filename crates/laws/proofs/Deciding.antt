-- What decides a walk, over any reading: the last thing entered. Where the walk ends at an absent child, that one's child is none under the number as
-- stored, which is that of the point mirrored once by the mirror in force; in a leaf, it is the leaf. By induction on the list. Assumes nothing.
use mathlib.Core.Path.{◌≡◌, refl, sym, ◌∙◌, ap}
use mathlib.Core.Bool.{Bool, true, false}
use mathlib.Core.List.{List, [], ◌∷◌, map}
use Prim.Native.Nat.{ℕ, zero, suc, ◌<◌, ◌≤◌}
use native.Mathlib.Nat.{mod-eq_of_lt}
use native.Mathlib.Omega.{arith}
use lib.Bits.{bit_xor, xor_zero_r}
use Rattle.paper.specs.Rooms.{Point, point, Inside, mirror, child_no, in_child}
use Rattle.paper.specs.Outline.{edge}
use Rattle.paper.specs.Walk.{End, damaged, absent, in_leaf, Step, Walk, unless, after, in_force, mirror_in, Child, none, wrong, to, Reading, onward, walk_in}
use Rattle.laws.proofs.Walking.{point_in, Mirrors, Seen, point-down, child-inside, walk-seen, absent-low}

-- ---- the last thing entered

abbrev pub last_of : Step → List Step → Step
last_of d [] = d
last_of d (s ∷ path) = last_of s path

module _ (R : Reading) (v : Point) (m : ℕ) (path : List Step) where
  -- entered under the mirror m in force, it has no child of height h where v lies
  pub record NoChild (h : ℕ) : Type 0 where
    pub list : ℕ
    pub place : ℕ
    pub tag : ℕ
    pub height : h ≡ suc (suc list)
    pub last : (d : Step) → last_of d path ≡ record { list = suc list; place = place; tag = tag }
    pub gone : R.child list place (child_no (edge list) (point_in (suc list) m v)) ≡ none

  -- it is the leaf of these bits
  pub record IsLeaf (n : ℕ) : Type 0 where
    pub place : ℕ
    pub tag : ℕ
    pub last : (d : Step) → last_of d path ≡ record { list = 0; place = place; tag = tag }
    pub bits : R.leaf place ≡ n

  abbrev pub DecidedAs : End → Type 0
  DecidedAs damaged = Unit {0}
  DecidedAs (absent h) = NoChild h
  DecidedAs (in_leaf n u) = IsLeaf n

abbrev pub Decided : Reading → Point → Walk → Type 0
Decided R v w = DecidedAs R v (mirror_in w) w.path w.end

abbrev tags : List Step → List ℕ
tags path = map (λ s. s.tag) path

-- one step before the others, from the child's point u to v
decided-after : (R : Reading) (k : ℕ) (s : Step) (u v : Point) (e : End) (path : List Step)
    → ((j : ℕ) → j ≤ k → point_in j (in_force (tags path)) u ≡ point_in j (bit_xor s.tag (in_force (tags path))) v) → ((h : ℕ) → e ≡ absent h → h < suc (suc k))
    → DecidedAs R u (in_force (tags path)) path e → Decided R v (after s (record { end = e; path = path }))
unfolding in_force
decided-after R k s u v damaged path same low r = tt
decided-after R k s u v (absent h) path same low r = record {
  list = r.list;
  place = r.place;
  tag = r.tag;
  height = r.height;
  last = λ d. r.last s;
  gone = ap (λ (w : Point). R.child r.list r.place (child_no (edge r.list) w)) (sym (same (suc r.list) (omega (arith, low h refl, r.height)))) ∙ r.gone;
}
decided-after R k s u v (in_leaf n w) path same low r = record { place = r.place; tag = r.tag; last = λ d. r.last s; bits = r.bits }

decided-unless : (R : Reading) (b : Bool) (v : Point) (w : Walk) → Decided R v w → Decided R v (unless b w)
decided-unless R true v w r = r
decided-unless R false v w r = tt

inside-whole : (S : ℕ) (v : Point) → Inside S v → in_child S v ≡ v
inside-whole S v l = λ i. point (mod-eq_of_lt l.in_x i) (mod-eq_of_lt l.in_y i) (mod-eq_of_lt l.in_z i)

pub walk-decided : (R : Reading) → Mirrors R → (k p t : ℕ) (v : Point) → t < 8 → Inside (edge k) v → Decided R v (walk_in R k p t v)
unfolding walk_in in_force
walk-decided R low zero p t v h l = decided-unless R (R.ok 0 p) v _ (record { place = p; tag = t; last = λ d. refl; bits = refl })
walk-decided R low (suc k) p t v h l =
    decided-unless R (R.ok (suc k) p) v (after here (onward (suc (suc k)) f (R.child k p i))) (go (R.child k p i) refl (λ t' q h'. walk-decided R low k q t' u h' (child-inside k t v l)))
  where
    w : Point
    w = mirror t (edge (suc k)) v

    i : ℕ
    i = child_no (edge k) w

    u : Point
    u = in_child (edge k) w

    here : Step
    here = record { list = suc k; place = p; tag = t }

    f : ℕ → ℕ → Walk
    f t' q = walk_in R k q t' u

    -- the point under the root's own tag
    here-is : point_in (suc k) (bit_xor t 0) v ≡ w
    here-is = ap (λ (n : ℕ). point_in (suc k) n v) (xor_zero_r t) ∙ ap (mirror t (edge (suc k))) (inside-whole (edge (suc k)) v l)

    go : (c : Child) → R.child k p i ≡ c → ((t' q : ℕ) → t' < 8 → Decided R u (f t' q)) → Decided R v (after here (onward (suc (suc k)) f c))
    go none e below = record {
      list = k;
      place = p;
      tag = t;
      height = refl;
      last = λ d. refl;
      gone = ap (λ (x : Point). R.child k p (child_no (edge k) x)) here-is ∙ e;
    }
    go wrong e below = tt
    go (to t' q) e below =
        let ht : t' < 8 = low k p i t' q e in
        let s : Seen u (f t' q) = walk-seen R low k q t' u ht (child-inside k t v l) in
        decided-after R k here u v (f t' q).end (f t' q).path (λ j a. point-down j k t (mirror_in (f t' q)) v a h s.one l) (λ g a. absent-low R k q t' u g a) (below t' q ht)
