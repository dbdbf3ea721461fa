-- Reading by position agrees with the paper's reading of the bytes that are left: broken exactly where it is `bad`, otherwise a position from
-- which on those bytes stand. By induction on the height and on the children left. Assumes nothing.
use mathlib.Core.Path.{◌≡◌, refl}
use mathlib.Core.Bool.{Bool, true, false, cond}
use mathlib.Core.List.{List, ◌∷◌}
use Prim.Native.Nat.{ℕ, zero, suc, ◌+◌, ◌/◌, ◌%◌, ◌≤◌}
use native.Mathlib.Numerals.{add-one}
use native.Mathlib.Omega.{arith}
use borrow.Author.Tests.{le-leb, lt-leb, ltb-true, ltb-false, leb-true, leb-false}
use lib.Dec.{eqb, leb, ltb}
use lib.ListN.{length, drop, get_or, length-drop, drop_of_length-le}
use lib.Seq.{drop-cons, drop-drop}
use Rattle.paper.specs.Numbers.{num}
use Rattle.paper.specs.Outline.{Tree, none, leaf, node_of, Read, bad, ok, bind, before, read_leaf, read_children, read_record}
use Rattle.outline.specs.Positions.{Reading}
use Rattle.outline.specs.Positions.{Broken, EndsAt}
use Rattle.outline.specs.Positions.{and_then, leaf_at, children_at, record_at, Agrees}

module _ (file : List ℕ) where
  -- another value read from the same bytes
  agrees-map : {A B : Type 0} (g : A → B) (x : Reading) (r : Read A) → Agrees file x r → Agrees file x (bind r (λ a bs. ok (g a) bs))
  agrees-map g Broken bad h = h
  agrees-map g Broken (ok a bs) h = h
  agrees-map g (EndsAt p) bad h = h
  agrees-map g (EndsAt p) (ok a bs) h = h

  -- one reading after another
  agrees-then : {A B : Type 0} (x : Reading) (r : Read A) (f : ℕ → Reading) (g : A → List ℕ → Read B) → Agrees file x r
      → ((a : A) (p : ℕ) → p ≤ length file → Agrees file (f p) (g a (drop p file))) → Agrees file (and_then x f) (bind r g)
  unfolding and_then
  agrees-then Broken bad f g h k = tt
  agrees-then Broken (ok a bs) f g h k = absurd h
  agrees-then (EndsAt p) bad f g h k = absurd h
  agrees-then (EndsAt p) (ok a bs) f g h k = rw h.0 (k a p h.1)

  leaf-agrees : (at : ℕ) → Agrees file (leaf_at file at) (read_leaf (drop at file))
  unfolding leaf_at read_leaf
  leaf-agrees at = go (ltb (length file) (at + 8)) refl (eqb (num 8 (drop at file)) 0)
    where
      go : (a : Bool) → ltb (length file) (at + 8) ≡ a → (b : Bool)
          → Agrees file (cond a Broken (cond b Broken (EndsAt (at + 8))))
          (cond (leb 8 (length (drop at file))) (cond b bad (ok (leaf (num 8 (drop at file))) (drop 8 (drop at file)))) bad)
      go true e b = rw (lt-leb 8 (length (drop at file)) (omega (arith, length-drop at file, ltb-true (length file) (at + 8) e))) tt
      go false e true = rw (le-leb 8 (length (drop at file)) (omega (arith, length-drop at file, ltb-false (length file) (at + 8) e))) tt
      go false e false =
          rw (le-leb 8 (length (drop at file)) (omega (arith, length-drop at file, ltb-false (length file) (at + 8) e)))
          (drop-drop 8 at file, ltb-false (length file) (at + 8) e)

  -- children each read alike, by f and by rd
  module _ (f : ℕ → Reading) (rd : List ℕ → Read Tree) (alike : (at : ℕ) → at ≤ length file → Agrees file (f at) (rd (drop at file))) where
    children-agree : (n m at : ℕ) → at ≤ length file → Agrees file (children_at f n m at) (read_children rd n m (drop at file))
    unfolding children_at read_children
    children-agree zero m at l = (refl, l)
    children-agree (suc n) m at l = go (eqb (m % 2) 1) (children-agree n (m / 2))
      where
        go : (b : Bool) → ((p : ℕ) → p ≤ length file → Agrees file (children_at f n (m / 2) p) (read_children rd n (m / 2) (drop p file)))
            → Agrees file (cond b (and_then (f at) (λ next. children_at f n (m / 2) next)) (children_at f n (m / 2) at))
            (cond b (bind (rd (drop at file)) (λ t bs. before t (read_children rd n (m / 2) bs))) (before none (read_children rd n (m / 2) (drop at file))))
        go true ih =
            agrees-then (f at) (rd (drop at file)) (λ next. children_at f n (m / 2) next) (λ t bs. before t (read_children rd n (m / 2) bs)) (alike at l)
            (λ t p h. agrees-map (λ ts. t ∷ ts) (children_at f n (m / 2) p) (read_children rd n (m / 2) (drop p file)) (ih p h))
        go false ih = agrees-map (λ ts. none ∷ ts) (children_at f n (m / 2) at) (read_children rd n (m / 2) (drop at file)) (ih at l)

  -- a mask byte and the children's records
  inner-agrees : (k at : ℕ) → ((p : ℕ) → p ≤ length file → Agrees file (record_at file k p) (read_record k (drop p file)))
      → Agrees file (record_at file (suc k) at) (read_record (suc k) (drop at file))
  unfolding record_at read_record
  inner-agrees k at ih = go (leb (length file) at) refl (eqb (get_or file at 0) 0) refl
    where
      m : ℕ
      m = get_or file at 0

      go : (a : Bool) → leb (length file) at ≡ a → (b : Bool) → eqb m 0 ≡ b
          → Agrees file (cond a Broken (cond b Broken (children_at (record_at file k) 8 m (at + 1)))) (read_record (suc k) (drop at file))
      go true e b z = rw (drop_of_length-le file {i = at} (leb-true (length file) at e)) tt
      go false e true z = rw (drop-cons file at 0 (leb-false (length file) at e), z) tt
      go false e false z =
          rw (drop-cons file at 0 (leb-false (length file) at e), z, ← add-one at)
          (agrees-map node_of (children_at (record_at file k) 8 m (at + 1)) (read_children (read_record k) 8 m (drop (at + 1) file))
          (children-agree (record_at file k) (read_record k) ih 8 m (at + 1) (omega (arith, leb-false (length file) at e))))

  pub record-agrees : (k at : ℕ) → at ≤ length file → Agrees file (record_at file k at) (read_record k (drop at file))
  unfolding record_at read_record
  record-agrees zero at l = leaf-agrees at
  record-agrees (suc k) at l = inner-agrees k at (record-agrees k)
