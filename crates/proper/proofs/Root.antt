-- The root's mark in the scratch, and its tag. By where the top list lies. Assumes nothing.
use mathlib.Core.Path.{◌≡◌, ◌∙◌, ap, ap₂}
use mathlib.Core.List.{List}
use Prim.Native.Nat.{ℕ, suc, ◌*◌, ◌<◌}
use native.Mathlib.Omega.{arith}
use borrow.Author.Tests.{eqb-false}
use lib.Dec.{T, eqb→eq}
use lib.ListN.{length, get_or}
use Rattle.paper.specs.Packed.{top_of, root_tag, start_at, list_at, places_at, top_ok}
use Rattle.packed_lists.specs.Ends.{unit_at, Listed}
use Rattle.proper_marks.specs.Marks.{low_by}
use Rattle.proper_marks.proofs.InFile.{start_is, list-in, end_in_lem}
use Rattle.proper_lists.specs.Marking.{marks_at, Marked}
use Rattle.proper_lists.proofs.Scratch.{scratch-length, first-mark}
use Rattle.proper_rules.specs.Rules.{root_low}
use Rattle.proper_rules.proofs.Rules.{root-mirror}
use Rattle.proper.proofs.Top.{some-list}

-- k the top list's number as code has it, S the scratch after phase 1
pub record RootMark (bs S : List ℕ) (a : ℕ) : Type 0 where
  pub tag : root_tag bs < 8
  pub inside : a < length S
  pub low : (m t : ℕ) → m ≡ get_or S a 0 → t ≡ root_tag bs → low_by m t ≡ root_low bs

pub root_mark : (bs starts S : List ℕ) (k : ℕ) → Marked bs starts (suc (top_of bs)) S → k ≡ top_of bs → T (top_ok bs) → RootMark bs S (get_or starts k 0)
unfolding top_ok root_low
root_mark bs starts S k marked ek one = record {
  tag = root-mirror bs known.opens.head (eqb-false (root_tag bs) 8 known.solid);
  inside = omega (arith, at, long, some, list-in bs starts known (top_of bs) (omega arith), end_in_lem bs starts known (top_of bs) (omega arith));
  low = λ m t em et. ap₂ low_by (em ∙ ap₂ (λ (s : List ℕ) (i : ℕ). get_or s i 0) marked.is at ∙ first-mark bs starts known (top_of bs) some ∙ ap (λ (i : ℕ). get_or (marks_at bs (top_of bs)) i 0) first) et;
}
  where
    known : Listed bs starts
    known = marked.listed

    some : 0 < length (list_at bs (top_of bs))
    some = some-list bs starts known (top_of bs) (omega arith) (eqb→eq (length (places_at bs (top_of bs))) 1 one)

    at : get_or starts k 0 ≡ start_at bs (top_of bs)
    at = ap (λ (i : ℕ). get_or starts i 0) ek ∙ start_is bs starts known (top_of bs) (omega arith)

    long : length S ≡ length bs
    long = ap length marked.is ∙ scratch-length bs starts known (suc (top_of bs)) (omega arith)

    first : 0 ≡ unit_at (top_of bs) * 0
    first = omega arith
