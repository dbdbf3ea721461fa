-- Where lists and pointers are sound, no two records of a list match by places just where no two of the graph's cells do. By the matching of each two.
-- Assumes nothing.
use mathlib.Core.Path.{◌≡◌, ◌∙◌, ap, ap₂}
use mathlib.Core.Bool.{Bool, not}
use mathlib.Core.List.{List}
use Prim.Native.Nat.{ℕ, suc, ◌<◌, ◌≤◌}
use native.Mathlib.Omega.{arith}
use lib.Dec.{T}
use lib.ListN.{length, get_or}
use Rattle.paper.specs.Numbers.{is_in}
use Rattle.paper.specs.Store.{Cell, cell_at}
use Rattle.paper.specs.Match.{matches}
use Rattle.paper.specs.Packed.{top_of, list_at, places_at, graph_of, whole_at, apart_ok}
use Rattle.laws.proofs.Tests.{T_true, all_same}
use Rattle.laws.proofs.Lists.{is_in-get_or, index-get_or}
use Rattle.proper_alike.specs.Matching.{leaves_match, records_match, apart_in}
use Rattle.packed_lists.specs.Ends.{unit_at}
use Rattle.proper_lists.specs.Marking.{marks_at, list_rules}
use Rattle.proper_rules.proofs.Starting.{once-at}
use Rattle.proper_rules.proofs.MarksAre.{cell_of, records_match_lem, leaves_match_lem, marks-are, cells-length}
use Rattle.proper_rules.proofs.Arrows.{SoundFile}

module _ (bs : List ℕ) (f : SoundFile bs) where
  abbrev G : List (List Cell)
  G = graph_of bs

  abbrev ss : ℕ → List ℕ
  ss = places_at bs

  abbrev marks : ℕ → List ℕ
  marks = marks_at bs

  -- the matching of two
  abbrev match_of : ℕ → ℕ → ℕ → ℕ → Bool
  match_of k = records_match (unit_at k) (marks k) (list_at bs (suc k))

  apart-same : (k : ℕ) (match : ℕ → ℕ → ℕ → Bool) → k ≤ top_of bs
      → ((p q t : ℕ) → t < 8 → T (is_in p (ss k)) → T (is_in q (ss k)) → match p q t ≡ matches G k (cell_of bs f k p) (cell_of bs f k q) t) → apart_in match (ss k) ≡ apart_ok G k
  unfolding apart_in apart_ok
  apart-same k match h e =
      rw (cells-length bs f k h) (all_same (length (ss k)) _ _ (λ q l. all_same q _ _ (λ r m.
      all_same 8 (λ t. not (match (get_or (ss k) q 0) (get_or (ss k) r 0) t)) (λ t. not (matches G k (cell_at G k q) (cell_at G k r) t)) (λ t ht.
      ap not (e (get_or (ss k) q 0) (get_or (ss k) r 0) t ht (is_in-get_or (ss k) q l) (is_in-get_or (ss k) r (omega arith))
      ∙ ap₂ (λ (a b : ℕ). matches G k (cell_at G k a) (cell_at G k b) t) (index-get_or (ss k) (once-at bs k) q l) (index-get_or (ss k) (once-at bs k) r (omega arith)))))))

  pub leaves-rules : list_rules bs 0 ≡ apart_ok G 0
  unfolding list_rules whole_at
  leaves-rules = rw (T_true {b = whole_at bs 0} (f.lists.whole 0 (omega arith))) (apart-same 0 (leaves_match (list_at bs 0)) (omega arith) (λ p q t ht hp hq. leaves_match_lem bs f p q t hp hq))

  pub inner-apart : (k : ℕ) → k < top_of bs → apart_in (match_of k) (ss (suc k)) ≡ apart_ok G (suc k)
  inner-apart k h = apart-same (suc k) (match_of k) h (records_match_lem bs f k h (marks-are bs f k (omega arith)))
