-- The rules by places and marks are the rules of a proper file: refusal 6 of a check is given where they fail. By the graph where lists and pointers are
-- sound, and either rules say that they are. Assumes nothing.
use mathlib.Core.Path.{◌≡◌, refl}
use mathlib.Core.Bool.{Bool, true, false, cond, ◌&&◌}
use mathlib.Core.List.{List}
use Prim.Native.Nat.{ℕ, zero, suc, ◌<◌, ◌≤◌}
use native.Mathlib.Omega.{arith}
use borrow.Author.Tests.{eqb-false}
use lib.Dec.{T, eqb, leb, leb→le}
use lib.ListN.{length, get_or}
use Rattle.paper.specs.Numbers.{all_below, all_in}
use Rattle.paper.specs.Outline.{length_ok}
use Rattle.paper.specs.Packed.{packed_head, empty_mark, top_of, root_tag, is_empty, list_at, no_pointer, pointers_at, record_ok, leaf_ok, places_at, graph_of, packed_pointer_ok, packed_pointers_ok, whole_at, graph_ok, sizes_ok, top_ok, lists_ok, root_ok, head_ok, packed_rules}
use Rattle.paper.specs.Runs.{Bytes}
use Rattle.laws.proofs.Tests.{true-T, iff-eq, and_left, and_right, and_T, all-at, all-T}
use Rattle.laws.proofs.Lists.{all_in-in, all_in-T}
use Rattle.laws.proofs.PackedWalk.{SoundLists, lists_of}
use Rattle.proper_alike.specs.Matching.{leaves_match, pointer_rules, record_rules, apart_in}
use Rattle.packed_lists.specs.Ends.{unit_at}
use Rattle.proper_popular.specs.Places.{popular_rules}
use Rattle.proper_lists.specs.Marking.{marks_at, list_rules}
use Rattle.proper_rules.specs.Rules.{marked_by, rules_by, packed_by}
use Rattle.proper_rules.proofs.Starting.{pointer_ok}
use Rattle.proper_rules.proofs.ByPlaces.{graph-by, by-graph}

-- ---- the root's tag

root-small : (bs : List ℕ) → T (root_ok bs) → (root_tag bs ≡ empty_mark → ⊥) → root_tag bs < 8
root-small bs t n =
    let l : root_tag bs ≤ 8 = leb→le (root_tag bs) empty_mark (and_left (leb (root_tag bs) empty_mark) (cond (is_empty bs) (eqb (length bs) 7) true) t) in
    omega (arith, l, n)

-- where the header is tested
pub root-mirror : (bs : List ℕ) → T (head_ok bs) → (root_tag bs ≡ empty_mark → ⊥) → root_tag bs < 8
unfolding head_ok
root-mirror bs t n = root-small bs (and_left (root_ok bs) (cond (is_empty bs) true (sizes_ok bs)) t) n

-- ---- all rules

pub whole_by : (bs : List ℕ) (k : ℕ) → T (list_rules bs k) → T (whole_at bs k)
unfolding list_rules whole_at record_rules
whole_by bs zero t = and_left (all_in (leaf_ok (list_at bs 0)) (places_at bs 0)) (apart_in (leaves_match (list_at bs 0)) (places_at bs 0)) t
whole_by bs (suc k) t =
    let l : List ℕ = list_at bs (suc k) in
    let r : T (all_in (record_rules (unit_at k) (marks_at bs k) l) (places_at bs (suc k))) = search and_left in
    all_in-T (record_ok l) 0 (places_at bs (suc k)) (λ n h.
    and_left (record_ok l (get_or (places_at bs (suc k)) n 0)) (all_in (pointer_rules (unit_at k) (marks_at bs k)) (pointers_at l (get_or (places_at bs (suc k)) n 0)))
    (all_in-in (record_rules (unit_at k) (marks_at bs k) l) 0 (places_at bs (suc k)) r n h))

pointed-by : (bs : List ℕ) (k : ℕ) → T (list_rules bs (suc k)) → T (packed_pointers_ok bs k)
unfolding list_rules packed_pointers_ok record_rules
pointed-by bs k t =
    let l : List ℕ = list_at bs (suc k) in
    let ps : List ℕ = places_at bs (suc k) in
    let r : T (all_in (record_rules (unit_at k) (marks_at bs k) l) (places_at bs (suc k))) = search and_left in
    all_in-T (λ p. all_in (packed_pointer_ok (places_at bs k)) (pointers_at l p)) 0 ps (λ n h.
    all_in-T (packed_pointer_ok (places_at bs k)) no_pointer (pointers_at l (get_or ps n 0)) (λ i m.
    pointer_ok bs k (get_or (pointers_at l (get_or ps n 0)) i no_pointer)
    (all_in-in (pointer_rules (unit_at k) (marks_at bs k)) no_pointer (pointers_at l (get_or ps n 0))
    (and_right (record_ok l (get_or ps n 0)) (all_in (pointer_rules (unit_at k) (marks_at bs k)) (pointers_at l (get_or ps n 0)))
    (all_in-in (record_rules (unit_at k) (marks_at bs k) l) 0 ps r n h)) i m)))

lists_ok_lem : (bs : List ℕ) → SoundLists bs → T (lists_ok bs)
unfolding lists_ok
lists_ok_lem bs s =
    and_T (top_ok bs && all_below (suc (top_of bs)) (whole_at bs)) (all_below (top_of bs) (packed_pointers_ok bs))
    (and_T (top_ok bs) (all_below (suc (top_of bs)) (whole_at bs)) s.top (all-T (suc (top_of bs)) (whole_at bs) (λ k l. s.whole k (omega arith))))
    (all-T (top_of bs) (packed_pointers_ok bs) s.pointed)

-- a file whose lists keep the rules by marks, the top list with one record, has sound lists
lists-sound : (bs : List ℕ) → T (sizes_ok bs) → T (all_below (suc (top_of bs)) (list_rules bs)) → T (top_ok bs) → SoundLists bs
lists-sound bs sized rules one =
    let lists : (k : ℕ) → k ≤ top_of bs → T (list_rules bs k) = λ k l. all-at (suc (top_of bs)) (list_rules bs) rules k (omega arith) in
    record { sizes = sized; top = one; whole = λ k l. whole_by bs k (lists k l); pointed = λ k l. pointed-by bs k (lists (suc k) l) }

pub marked-sound : (bs : List ℕ) → T (sizes_ok bs) → T (marked_by bs) → SoundLists bs
unfolding marked_by
marked-sound bs sized t = lists-sound bs sized (search (and_left, and_right)) (search (and_left, and_right))

lists-by : (bs : List ℕ) → T (sizes_ok bs) → T (rules_by bs) → SoundLists bs
unfolding rules_by
lists-by bs sized t = marked-sound bs sized (and_left (marked_by bs) (all_below (top_of bs) (popular_rules bs)) t)

-- under: the length field is right. So refusal 6 of a check is given where the rules by marks fail
pub rules-by-places : (bs : List ℕ) → Bytes bs → T (length_ok packed_head bs) → packed_rules bs ≡ packed_by bs
unfolding packed_rules packed_by head_ok
rules-by-places bs by long = go (root_ok bs) refl (is_empty bs) refl (sizes_ok bs) refl
  where
    rules : Bool
    rules = lists_ok bs && graph_ok (top_of bs) (root_tag bs) (graph_of bs)

    there : root_ok bs ≡ true → is_empty bs ≡ false → T (sizes_ok bs) → T rules → T (rules_by bs)
    there r e z t =
        graph-by bs (record { by = by; long = long; lists = lists_of bs z (and_left (lists_ok bs) (graph_ok (top_of bs) (root_tag bs) (graph_of bs)) t) }) (root-small bs (true-T r) (eqb-false (root_tag bs) 8 e))
        (and_right (lists_ok bs) (graph_ok (top_of bs) (root_tag bs) (graph_of bs)) t)

    back : root_ok bs ≡ true → is_empty bs ≡ false → T (sizes_ok bs) → T (rules_by bs) → T rules
    back r e z t =
        let s : SoundLists bs = lists-by bs z t in
        and_T (lists_ok bs) (graph_ok (top_of bs) (root_tag bs) (graph_of bs)) (lists_ok_lem bs s) (by-graph bs (record { by = by; long = long; lists = s }) (root-small bs (true-T r) (eqb-false (root_tag bs) 8 e)) t)

    go : (r : Bool) → root_ok bs ≡ r → (e : Bool) → is_empty bs ≡ e → (z : Bool) → sizes_ok bs ≡ z
        → (r && cond e true z) && cond e true rules ≡ (r && cond e true z) && cond e true (rules_by bs)
    go false r e q z w = refl
    go true r true q z w = refl
    go true r false q false w = refl
    go true r false q true w = iff-eq rules (rules_by bs) (there r q (true-T w)) (back r q (true-T w))
