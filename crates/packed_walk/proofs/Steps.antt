-- The ways through the walk, in the code's words: ended at an absent child, broken at a record or a pointer, on to the next list; and the
-- ways through a leaf. By one step of `way_at`, the walk as a record sees the voxel, with the child's number and the tag mirrored as numbers. Assumes
-- nothing.
use mathlib.Core.Path.{◌≡◌, refl, sym, ◌∙◌, ap, ap₂, subst}
use mathlib.Core.Bool.{Bool, true, false, cond}
use mathlib.Core.List.{List, [], ◌∷◌}
use Prim.Native.Nat.{ℕ, zero, suc, ◌+◌, ◌-◌, ◌<◌}
use native.Mathlib.Nat.{add_assoc, zero-add}
use native.Mathlib.Numerals.{one-add}
use native.Mathlib.Omega.{arith}
use borrow.Author.Tests.{ne_eqb, lt-ltb, eqb-true, eqb-false}
use lib.Bits.{bit_xor}
use lib.Dec.{eqb, ltb}
use lib.ListN.{length, get_or}
use Rattle.paper.specs.Rooms.{Point, mirror, child_no, in_child}
use Rattle.paper.specs.Outline.{edge}
use Rattle.paper.specs.Store.{leaf_no}
use Rattle.paper.specs.Walk.{End, damaged, absent, in_leaf, Step, Walk, unless, after, path_after, onward, Child, none, wrong, to, walk_in}
use Rattle.paper.specs.Packed.{no_pointer, pointers_at, leaf_at, record_ok, leaf_ok}
use Rattle.std.specs.Prelude.{Ok, Err}
use Rattle.packed_walk.specs.declared.Ended.TheVariants.{InLeaf}
use Rattle.packed_records.specs.Records.{child_to}
use Rattle.packed_walk.specs.Walk.{lists_reading, taken_at, Ending, ending_of, ending, leaf_ending}
use Rattle.points.specs.Seeing.{seen_at, child_no_at}
use Rattle.points.proofs.Seen.{child-seen, in-seen, tag-seen}

-- ---- an ending with records before it

abbrev pub broken : Ending
broken = record { end = damaged; records = 0 }

abbrev counted : End → ℕ → ℕ → ℕ
counted damaged n m = 0
counted (absent h) n m = n + m
counted (in_leaf b u) n m = n + m

abbrev pub plus : ℕ → Ending → Ending
plus n e = record { end = e.end; records = counted e.end n e.records }

counted-one : (e : End) (n m : ℕ) → counted e (n + 1) m ≡ counted e n (counted e 1 m)
counted-one damaged n m = refl
counted-one (absent h) n m = add_assoc n 1 m
counted-one (in_leaf b u) n m = add_assoc n 1 m

pub plus_one : (n : ℕ) (e : Ending) → plus (n + 1) e ≡ plus n (plus 1 e)
plus_one n e = ap (λ (m : ℕ). record { end = e.end; records = m }) (counted-one e.end n e.records)

-- ---- the walk as a record sees the voxel

abbrev if_ok : Bool → Ending → Ending
if_ok true e = e
if_ok false e = broken

abbrev on_end : ℕ → (ℕ → ℕ → Ending) → Child → Ending
on_end h go none = record { end = absent h; records = 1 }
on_end h go wrong = broken
on_end h go (to t p) = plus 1 (go t p)

-- from place p of list k, w the voxel as what is there sees it
unfoldable pub way_at : (ℕ → List ℕ) → ℕ → ℕ → Point → Ending
way_at L zero p w = if_ok (leaf_ok (L 0) p) (record { end = in_leaf (leaf_no (leaf_at (L 0) p)) w; records = 1 })
way_at L (suc k) p w =
    let go : ℕ → ℕ → Ending = λ t q. way_at L k q (mirror t (edge k) (in_child (edge k) w)) in
    on_end (suc (suc k)) go (taken_at (L (suc k)) p (child_no (edge k) w))

after-length : (s : Step) (e : End) (path : List Step) → length (path_after s e path) ≡ counted e 1 (length path)
after-length s damaged path = refl
after-length s (absent h) path = sym (one-add (length path))
after-length s (in_leaf b u) path = sym (one-add (length path))

step-read : (b : Bool) (s : Step) (h : ℕ) (f : ℕ → ℕ → Walk) (g : ℕ → ℕ → Ending) (c : Child) → ((t p : ℕ) → ending_of (f t p) ≡ g t p)
    → ending_of (unless b (after s (onward h f c))) ≡ on_end h g (cond b c wrong)
step-read false s h f g c below = refl
step-read true s h f g none below = refl
step-read true s h f g wrong below = refl
step-read true s h f g (to t p) below =
    ap (λ (n : ℕ). record { end = (f t p).end; records = n }) (after-length s (f t p).end (f t p).path) ∙ ap (plus 1) (below t p)

leaf-read : (b : Bool) (n : ℕ) (u : Point) (s : Step) → ending_of (unless b (record { end = in_leaf n u; path = s ∷ [] })) ≡ if_ok b (record { end = in_leaf n u; records = 1 })
leaf-read true n u s = refl
leaf-read false n u s = refl

-- it is the paper's walk over the lists
pub way-read : (L : ℕ → List ℕ) (k p t : ℕ) (v : Point) → ending_of (walk_in (lists_reading L) k p t v) ≡ way_at L k p (mirror t (edge k) v)
unfolding walk_in way_at
way-read L zero p t v = leaf-read (leaf_ok (L 0) p) (leaf_no (leaf_at (L 0) p)) (mirror t (edge 0) v) (record { list = 0; place = p; tag = t })
way-read L (suc k) p t v =
    let w : Point = mirror t (edge (suc k)) v in
    step-read (record_ok (L (suc k)) p) (record { list = suc k; place = p; tag = t }) (suc (suc k)) (λ u q. walk_in (lists_reading L) k q u (in_child (edge k) w)) (λ u q. way_at L k q (mirror u (edge k) (in_child (edge k) w)))
    (child_to (get_or (pointers_at (L (suc k)) p) (child_no (edge k) w) no_pointer)) (λ u q. way-read L k q u (in_child (edge k) w))

-- ---- in a record

module _ (l : List ℕ) (p i : ℕ) where
  pub taken-broken : record_ok l p ≡ false → wrong ≡ taken_at l p i
  taken-broken e = rw e refl

  pub taken-good : record_ok l p ≡ true → child_to (get_or (pointers_at l p) i no_pointer) ≡ taken_at l p i
  taken-good e = rw e refl

-- ---- in a leaf

module _ (l : List ℕ) (p m n : ℕ) where
  pub leaf-broken : leaf_no (leaf_at l p) ≡ 0 → Err (record {}) ≡ leaf_ending l p m n
  leaf-broken e = rw e refl

  pub leaf-ends : (b : ℕ) → b ≡ leaf_no (leaf_at l p) → (b ≡ 0 → ⊥) → Ok (record { end = InLeaf b m; records = n + 1 }) ≡ leaf_ending l p m n
  leaf-ends b e z = rw (sym e, ne_eqb b 0 z) refl

  pub leaf_ending_lem : (v : Point) → ending v (leaf_ending l p m n) ≡ plus n (if_ok (leaf_ok l p) (record { end = in_leaf (leaf_no (leaf_at l p)) (seen_at 0 m v); records = 1 }))
  unfolding leaf_ok
  leaf_ending_lem v = go (eqb (leaf_no (leaf_at l p)) 0) refl
    where
      b : ℕ
      b = leaf_no (leaf_at l p)

      go : (c : Bool) → eqb b 0 ≡ c → ending v (cond c (Err (record {})) (Ok (record { end = InLeaf b m; records = n + 1 }))) ≡ plus n (if_ok (ltb 0 b) (record { end = in_leaf b (seen_at 0 m v); records = 1 }))
      go true e = rw (eqb-true b 0 e) refl
      go false e = rw (lt-ltb 0 b (omega (arith, eqb-false b 0 e))) refl

-- ---- one step of the walk, at place p of list k seen under m, n records being read before

module _ (L : ℕ → List ℕ) (k p m : ℕ) (v : Point) (h : 0 < k) (hm : m < 8) where
  -- what the walk takes there
  abbrev pub taken_in : Child
  taken_in = taken_at (L k) p (bit_xor (child_no_at (k - 1) v) m)

  -- what follows it
  abbrev on : ℕ → Child → Ending
  on j c = on_end (suc (suc j)) (λ t q. way_at L j q (mirror t (edge j) (seen_at j m v))) c

  step-suc : (j : ℕ) → way_at L (suc j) p (seen_at (suc j) m v) ≡ on j (taken_at (L (suc j)) p (bit_xor (child_no_at j v) m))
  unfolding way_at
  step-suc j =
      ap₂ (λ (i : ℕ) (u : Point). on_end (suc (suc j)) (λ t q. way_at L j q (mirror t (edge j) u)) (taken_at (L (suc j)) p i)) (child-seen j m v hm) (in-seen j m v hm)

  step : (c : Child) → c ≡ taken_in → way_at L k p (seen_at k m v) ≡ on (k - 1) c
  step c e =
      let up : suc (k - 1) ≡ k = omega arith in
      subst (λ (i : ℕ). way_at L i p (seen_at i m v) ≡ on (k - 1) (taken_at (L i) p (bit_xor (child_no_at (k - 1) v) m))) up (step-suc (k - 1)) ∙ ap (on (k - 1)) (sym e)

  module _ (n : ℕ) where
    pub way-absent : none ≡ taken_in → record { end = absent (k + 1); records = n + 1 } ≡ plus n (way_at L k p (seen_at k m v))
    way-absent e =
        let up : k + 1 ≡ suc (suc (k - 1)) = omega arith in
        ap (λ (i : ℕ). record { end = absent i; records = n + 1 }) up ∙ sym (ap (plus n) (step none e))

    pub way-wrong : wrong ≡ taken_in → broken ≡ plus n (way_at L k p (seen_at k m v))
    way-wrong e = sym (ap (plus n) (step wrong e))

    pub way_on : (t r : ℕ) → to t r ≡ taken_in → t < 8 → plus (n + 1) (way_at L (k - 1) r (seen_at (k - 1) (bit_xor t m) v)) ≡ plus n (way_at L k p (seen_at k m v))
    way_on t r e ht =
        plus_one n (way_at L (k - 1) r (seen_at (k - 1) (bit_xor t m) v))
        ∙ ap (λ (u : Point). plus n (plus 1 (way_at L (k - 1) r u))) (sym (tag-seen (k - 1) t m v ht hm))
        ∙ sym (ap (plus n) (step (to t r) e))

-- ---- before the first record

zero-counted : (e : End) (m : ℕ) → counted e 0 (counted e 1 m) ≡ counted e 1 m
zero-counted damaged m = refl
zero-counted (absent h) m = zero-add (1 + m)
zero-counted (in_leaf b u) m = zero-add (1 + m)

zero-if : (b : Bool) (e : Ending) → plus 0 e ≡ e → plus 0 (if_ok b e) ≡ if_ok b e
zero-if true e q = q
zero-if false e q = refl

zero-on : (h : ℕ) (go : ℕ → ℕ → Ending) (c : Child) → plus 0 (on_end h go c) ≡ on_end h go c
zero-on h go none = refl
zero-on h go wrong = refl
zero-on h go (to t p) = ap (λ (n : ℕ). record { end = (go t p).end; records = n }) (zero-counted (go t p).end (go t p).records)

pub way-zero : (L : ℕ → List ℕ) (k p : ℕ) (w : Point) → plus 0 (way_at L k p w) ≡ way_at L k p w
unfolding way_at
way-zero L zero p w = zero-if (leaf_ok (L 0) p) (record { end = in_leaf (leaf_no (leaf_at (L 0) p)) w; records = 1 }) refl
way-zero L (suc k) p w = zero-on (suc (suc k)) (λ t q. way_at L k q (mirror t (edge k) (in_child (edge k) w))) (taken_at (L (suc k)) p (child_no (edge k) w))

-- ---- at the leaves

pub leaves-end : (L : ℕ → List ℕ) (k p m n : ℕ) (v : Point) → k ≡ 0 → ending v (leaf_ending (L 0) p m n) ≡ plus n (way_at L k p (seen_at k m v))
unfolding way_at
leaves-end L k p m n v e = rw e (leaf_ending_lem (L 0) p m n v)
