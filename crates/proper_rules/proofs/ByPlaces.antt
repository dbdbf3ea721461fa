-- The rules by places and marks, where lists and pointers are sound, are the graph's. By each rule in turn. Assumes nothing.
use mathlib.Core.Path.{sym, ◌∙◌}
use mathlib.Core.Bool.{Bool, ◌&&◌}
use mathlib.Core.List.{List}
use Prim.Native.Nat.{ℕ, zero, suc, ◌<◌, ◌≤◌}
use native.Mathlib.Omega.{arith}
use lib.Dec.{T}
use Rattle.paper.specs.Numbers.{all_below, all_in}
use Rattle.paper.specs.Store.{Cell}
use Rattle.paper.specs.Packed.{top_of, root_tag, list_at, places_at, graph_of, named_ok, apart_ok, tag_low, tags_ok, falling_ok, graph_ok, top_ok}
use Rattle.laws.proofs.Tests.{T_true, true-T, and_left, and_right, and_T, and5, and5-T, all-at, all-T}
use Rattle.proper_alike.specs.Matching.{records_match, record_rules, apart_in}
use Rattle.proper_popular.specs.Places.{popular_rules}
use Rattle.packed_lists.specs.Ends.{unit_at}
use Rattle.proper_lists.specs.Marking.{marks_at, list_rules}
use Rattle.proper_rules.specs.Rules.{root_low, marked_by, rules_by}
use Rattle.proper_rules.proofs.Named.{popular_rules_lem}
use Rattle.proper_rules.proofs.Apart.{leaves-rules, inner-apart}
use Rattle.proper_rules.proofs.LowTags.{root-same, tags-rules, rules-tags}
use Rattle.proper_rules.proofs.Arrows.{SoundFile}

module _ (bs : List ℕ) (f : SoundFile bs) where
  abbrev G : List (List Cell)
  G = graph_of bs

  abbrev ss : ℕ → List ℕ
  ss = places_at bs

  abbrev marks : ℕ → List ℕ
  marks = marks_at bs

  -- the rules of a record of list k + 1, by the marks of list k
  abbrev rules_of : ℕ → ℕ → Bool
  rules_of k = record_rules (unit_at k) (marks k) (list_at bs (suc k))

  -- the matching of two
  abbrev match_of : ℕ → ℕ → ℕ → ℕ → Bool
  match_of k = records_match (unit_at k) (marks k) (list_at bs (suc k))

  abbrev top : ℕ
  top = top_of bs

  list-by : ((k : ℕ) → k ≤ top → T (apart_ok G k)) → ((k : ℕ) → k < top → T (tags_ok G k)) → (k : ℕ) → k ≤ top → T (list_rules bs k)
  unfolding list_rules
  list-by a b zero l = true-T (leaves-rules bs f ∙ T_true {b = apart_ok G 0} (a 0 l))
  list-by a b (suc k) l =
      and_T (all_in (rules_of k) (ss (suc k))) (apart_in (match_of k) (ss (suc k)))
      (tags-rules bs f k l (b k l)) (true-T (inner-apart bs f k l ∙ T_true {b = apart_ok G (suc k)} (a (suc k) l)))

  apart_by : (k : ℕ) → k ≤ top → T (list_rules bs k) → T (apart_ok G k)
  unfolding list_rules
  apart_by zero l u = true-T (sym (leaves-rules bs f) ∙ T_true {b = list_rules bs 0} u)
  apart_by (suc k) l u =
      true-T (sym (inner-apart bs f k l) ∙ T_true {b = apart_in (match_of k) (ss (suc k))}
      (and_right (all_in (rules_of k) (ss (suc k))) (apart_in (match_of k) (ss (suc k))) u))

  tags-by : (k : ℕ) → k < top → T (list_rules bs (suc k)) → T (tags_ok G k)
  unfolding list_rules
  tags-by k l u =
      rules-tags bs f k l
      (and_left (all_in (rules_of k) (ss (suc k))) (apart_in (match_of k) (ss (suc k))) u)

  -- the rules on records, by the graph and by marks
  pub graph-by : root_tag bs < 8 → T (graph_ok top (root_tag bs) G) → T (rules_by bs)
  unfolding graph_ok rules_by marked_by
  graph-by h t =
      let five = and5 (all_below top (named_ok G)) (all_below (suc top) (apart_ok G)) (all_below top (tags_ok G)) (tag_low G top (root_tag bs) 0) (all_below top (falling_ok G)) t in
      let apart : (k : ℕ) → k ≤ top → T (apart_ok G k) = λ k l. all-at (suc top) (apart_ok G) five.1 k (omega arith) in
      and_T (all_below (suc top) (list_rules bs) && top_ok bs && root_low bs) (all_below top (popular_rules bs))
      (and_T (all_below (suc top) (list_rules bs) && top_ok bs) (root_low bs)
      (and_T (all_below (suc top) (list_rules bs)) (top_ok bs) (all-T (suc top) (list_rules bs) (λ k l. list-by apart (all-at top (tags_ok G) five.2) k (omega arith))) f.lists.top)
      (true-T (root-same bs f h ∙ T_true {b = tag_low G top (root_tag bs) 0} five.3)))
      (all-T top (popular_rules bs) (λ k l.
      true-T (popular_rules_lem bs f k l ∙ T_true {b = named_ok G k && falling_ok G k} (and_T (named_ok G k) (falling_ok G k) (all-at top (named_ok G) five.0 k l) (all-at top (falling_ok G) five.4 k l)))))

  pub by-graph : root_tag bs < 8 → T (rules_by bs) → T (graph_ok top (root_tag bs) G)
  unfolding graph_ok rules_by marked_by
  by-graph h t =
      let lists : (k : ℕ) → k ≤ top → T (list_rules bs k) = λ k l. all-at (suc top) (list_rules bs) (search (and_left, and_right)) k (omega arith) in
      let popular : (k : ℕ) → k < top → T (named_ok G k && falling_ok G k) = λ k l.
      true-T (sym (popular_rules_lem bs f k l) ∙ T_true {b = popular_rules bs k} (all-at top (popular_rules bs) (and_right (all_below (suc top) (list_rules bs) && top_ok bs && root_low bs) (all_below top (popular_rules bs)) t) k l)) in
      and5-T (all_below top (named_ok G)) (all_below (suc top) (apart_ok G)) (all_below top (tags_ok G)) (tag_low G top (root_tag bs) 0) (all_below top (falling_ok G))
      (all-T top (named_ok G) (λ k l. and_left (named_ok G k) (falling_ok G k) (popular k l)))
      (all-T (suc top) (apart_ok G) (λ k l. apart_by k (omega arith) (lists k (omega arith))))
      (all-T top (tags_ok G) (λ k l. tags-by k l (lists (suc k) l)))
      (true-T (sym (root-same bs f h) ∙ T_true {b = root_low bs} (search (and_left, and_right))))
      (all-T top (falling_ok G) (λ k l. and_right (named_ok G k) (falling_ok G k) (popular k l)))
