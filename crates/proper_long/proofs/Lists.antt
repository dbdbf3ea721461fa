-- The lists above the leaves, and a file that has passed its rules. By the list starts of the header. Assumes nothing.
use mathlib.Core.Path.{◌≡◌, sym, ◌∙◌, ap, subst}
use mathlib.Core.Bool.{Bool, true, false, cond, not, ◌&&◌}
use mathlib.Core.List.{List}
use Prim.Native.Nat.{ℕ, suc, ◌+◌, ◌<◌}
use native.Mathlib.Numerals.{add-one}
use lib.Dec.{T}
use Rattle.paper.specs.Numbers.{all_in, all_below}
use Rattle.paper.specs.Packed.{top_of, root_tag, is_empty, list_at, record_ok, whole_at, graph_of, graph_ok, lists_ok, head_ok, packed_rules, short_at, short_list, all_short}
use Rattle.laws.proofs.Tests.{and_left, and_right}
use Rattle.laws.proofs.PackedWalk.{SoundLists, lists_of}
use Rattle.packed_lists.specs.Header.{Tested, Opens}
use Rattle.packed_lists.specs.Ends.{Listed}
use Rattle.proper_marks.specs.Places.{places_in, WholeList}
use Rattle.proper_marks.proofs.InFile.{places-inner, record-list, sized}

-- list k + 1, as code has it
module _ (bs starts : List ℕ) (k : ℕ) (listed : Listed bs starts) (sound : SoundLists bs) (h : k < top_of bs) (l : List ℕ) (e : l ≡ list_at bs (k + 1)) where
  is : l ≡ list_at bs (suc k)
  is = e ∙ ap (list_at bs) (add-one k)

  pub list-whole : WholeList l
  unfolding whole_at
  list-whole = subst WholeList (sym is) (record {
    list = record-list bs starts listed k h;
    whole = subst (λ (r : List ℕ). T (all_in (record_ok (list_at bs (suc k))) r)) (places-inner bs starts listed k h) (sound.whole (suc k) h);
  })

  pub list-tells : all_in (short_at l) (places_in l) ≡ short_list bs k
  unfolding short_list whole_at
  list-tells = ap (λ (m : List ℕ). all_in (short_at m) (places_in m)) is ∙ ap (all_in (short_at (list_at bs (suc k)))) (sym (places-inner bs starts listed k h))

-- ---- a file that has passed its rules

module _ (bs : List ℕ) (tested : Tested bs) (rules : T (packed_rules bs)) where
  pub opens : Opens bs
  unfolding packed_rules
  opens = record { tested = tested; head = and_left (head_ok bs) (cond (is_empty bs) true (lists_ok bs && graph_ok (top_of bs) (root_tag bs) (graph_of bs))) rules }

  pub sound : (starts : List ℕ) → Listed bs starts → SoundLists bs
  unfolding packed_rules
  sound starts listed =
      let graph : Bool = graph_ok (top_of bs) (root_tag bs) (graph_of bs) in
      let r : T (cond (is_empty bs) true (lists_ok bs && graph)) = and_right (head_ok bs) (cond (is_empty bs) true (lists_ok bs && graph)) rules in
      let t : T (lists_ok bs && graph) = subst (λ (b : Bool). T (cond b true (lists_ok bs && graph))) listed.solid r in
      lists_of bs (sized bs starts listed) (and_left (lists_ok bs) graph t)

-- ---- the ways of the test

pub none-long : (bs : List ℕ) → is_empty bs ≡ true → false ≡ not (all_short bs)
unfolding all_short
none-long bs e = rw e

pub lists-decide : (bs : List ℕ) → is_empty bs ≡ false → not (all_below (top_of bs) (short_list bs)) ≡ not (all_short bs)
unfolding all_short
lists-decide bs e = rw e
