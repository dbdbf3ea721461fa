-- Claim C13, sight lines. The voxels tested are those met, so the first of them whose question isn't answered 'empty' is, on a store that only the
-- calls wrote, the first that blocks; and since the same voxels are met from either end, a line is clear both ways or neither. Assumes nothing.
use mathlib.Core.Path.{◌≡◌, refl, sym, ◌∙◌, ap, ap₂, subst}
use mathlib.Core.Bool.{Bool, true, false, false≢true, not, ◌||◌}
use mathlib.Core.List.{List, [], ◌∷◌}
use mathlib.Core.Logic.{◌↔◌}
use mathlib.Core.Option.{Option, some}
use mathlib.Core.Option as O
use Prim.Native.Nat.{ℕ, ◌^◌}
use native.Mathlib.Nat.{suc-ne-zero}
use lib.ListN.{get_or}
use Rattle.paper.specs.Numbers.{bit_for}
use Rattle.paper.specs.Rooms.{Point, point, Room, Inside, empty_at}
use Rattle.paper.specs.Store.{scene_depth}
use Rattle.paper.specs.Answers.{Outcome, told, outcome}
use Rattle.paper.specs.Order.{first_number}
use Rattle.paper.specs.Calls.{question_order, voxel_outside, voxel_outcome}
use Rattle.paper.specs.Lines.{Between}
use Rattle.paper.specs.Sight.{says_empty, decider, gives_two, sight_damaged, sight_outside, blocked_at, sight_outcome}
use Rattle.paper.specs.Runs.{Scene, Held}
use Rattle.paper.specs.Claims.{FirstBlock, IsTested, C13}
use Rattle.laws.proofs.Refusals.{settled-accepted, settled-number, QuestionPassed, question-passed, question-accepted}
use Rattle.laws.proofs.CellPoints.{inside_is}
use Rattle.laws.proofs.LineMeeting.{met-inside}
use Rattle.laws.proofs.LineTested.{tested_met_lem, tested-not-start, tested-not-end, tested-order, met-tested}
use Rattle.laws.proofs.LineBetween.{first-between, between_first, none_between, between_none, clear-reversed}
use Rattle.laws.proofs.Holding.{Holds, HeldAt, header_ok_lem, scene_ok_lem, below-there, held_at, reached-holds}
use Rattle.laws.proofs.NoDamage.{sight-undamaged}
use Rattle.laws.proofs.RoomAnswers.{voxel-answer}

-- ---- the outcomes

abbrev clear_outcome : Outcome
clear_outcome = outcome (told 0 (blocked_at O.none)) []

-- the values tell which voxel decides
value-some : (o : Option Point) (v : Point) → blocked_at o ≡ blocked_at (some v) → o ≡ some v
value-some O.none v e = absurd (suc-ne-zero 0 (sym (ap (λ (l : List ℕ). get_or l 0 0) e)))
value-some (some w) v e = λ i. some (point (get_or (e i) 1 0) (get_or (e i) 2 0) (get_or (e i) 3 0))

value_none : (o : Option Point) → blocked_at o ≡ blocked_at O.none → o ≡ O.none
value_none O.none e = refl
value_none (some w) e = absurd (suc-ne-zero 0 (ap (λ (l : List ℕ). get_or l 0 0) e))

tested-is : (a b v : Point) → IsTested a b v ↔ Between a b v
tested-is a b v = (
  λ t. subst (λ (x : Point). Between a b x) t.2 (record { met = tested_met_lem a b t.0 t.1; not_start = tested-not-start a b t.0 t.1; not_end = tested-not-end a b t.0 t.1 }),
  λ m. met-tested a b v m.met m.not_start m.not_end,
)

-- ---- on a store that only the calls wrote

module _ {ws : List ℕ} {held : Held} (s : Holds ws held) (n : ℕ) {sc : Scene} {file : List ℕ} (h : HeldAt ws n sc file) (a b : Point)
    (la : Inside (2 ^ sc.depth) a) (lb : Inside (2 ^ sc.depth) b) where
  abbrev r : Room
  r = sc.room

  -- a voxel inside is answered 'empty' where it isn't solid
  says : (v : Point) → Inside (2 ^ sc.depth) v → says_empty (voxel_outcome ws n v) ≡ not (r v)
  says v l = ap says_empty (voxel-answer s n h v l) ∙ go (r v)
    where
      go : (c : Bool) → says_empty (outcome (told 0 (bit_for c ∷ empty_at sc.depth r v ∷ [])) []) ≡ not c
      go true = refl
      go false = refl

  abbrev passes : Point → Bool
  passes v = says_empty (voxel_outcome ws n v)

  met-says : (v : Point) → Between a b v → passes v ≡ not (r v)
  met-says v m = says v (met-inside a b (2 ^ sc.depth) v la lb m.met)

  solid-fails : (v : Point) → Between a b v → r v ≡ true → passes v ≡ false
  solid-fails v m e = met-says v m ∙ ap not e

  fails-solid : (v : Point) → Between a b v → passes v ≡ false → r v ≡ true
  fails-solid v m e = go (r v) (sym (met-says v m) ∙ e)
    where
      go : (c : Bool) → not c ≡ false → c ≡ true
      go true q = refl
      go false q = absurd (false≢true (sym q))

  empty-passes : (v : Point) → Between a b v → r v ≡ false → passes v ≡ true
  empty-passes v m e = met-says v m ∙ ap not e

  passes-empty : (v : Point) → Between a b v → passes v ≡ true → r v ≡ false
  passes-empty v m e = go (r v) (sym (met-says v m) ∙ e)
    where
      go : (c : Bool) → not c ≡ true → c ≡ false
      go true q = absurd (false≢true q)
      go false q = refl

  -- no refusal
  depth_is : sc.depth ≡ scene_depth ws n
  depth_is = ap (λ (x : Scene). x.depth) h.is ∙ sym h.means.depth

  end-inside : (v : Point) → Inside (2 ^ sc.depth) v → voxel_outside ws n v ≡ false
  unfolding voxel_outside
  end-inside v l = ap not (inside_is (2 ^ scene_depth ws n) v (subst (λ (d : ℕ). Inside (2 ^ d) v) depth_is l))

  abbrev which : Option Point
  which = decider ws n a b

  sight-answer : sight_outcome ws n a b ≡ outcome (told 0 (blocked_at which)) []
  unfolding sight_outcome sight_outside
  sight-answer =
      let out : (voxel_outside ws n a || voxel_outside ws n b) ≡ false = ap₂ (λ (x y : Bool). x || y) (end-inside a la) (end-inside b lb) in
      settled-accepted (first_number (question_order ws n (sight_outside ws n a b) (sight_damaged ws n a b))) (blocked_at which) [] []
      (question-accepted ws n (sight_outside ws n a b) (sight_damaged ws n a b) (header_ok_lem s) (below-there s n h.below) (scene_ok_lem s n h.below) out (sight-undamaged s n a b))

  -- the voxel that decides is the first that blocks
  decides-first : (v : Point) → which ≡ some v → FirstBlock r a b v
  unfolding decider
  decides-first v e =
      let f = first-between passes a b v e in
      record { between = f.between; solid = fails-solid v f.between f.fails; first = λ w m q other. f.first w m (solid-fails w m q) other }

  first-decides : (v : Point) → FirstBlock r a b v → which ≡ some v
  unfolding decider
  first-decides v f =
      between_first passes a b v
      (record { between = f.between; fails = solid-fails v f.between f.solid; first = λ w m q other. f.first w m (fails-solid w m q) other })

  sight-blocked : (v : Point) → (sight_outcome ws n a b ≡ outcome (told 0 (blocked_at (some v))) []) ↔ FirstBlock r a b v
  sight-blocked v = (
    λ e. decides-first v (value-some which v (ap (λ (o : Outcome). o.values) (sym sight-answer ∙ e))),
    λ f. sight-answer ∙ ap (λ (o : Option Point). outcome (told 0 (blocked_at o)) []) (first-decides v f),
  )

  sight-clear : (sight_outcome ws n a b ≡ clear_outcome) ↔ ((v : Point) → Between a b v → r v ≡ false)
  unfolding decider
  sight-clear = (
    λ e v m. passes-empty v m (none_between passes a b (value_none which (ap (λ (o : Outcome). o.values) (sym sight-answer ∙ e))) v m),
    λ f. sight-answer ∙ ap (λ (o : Option Point). outcome (told 0 (blocked_at o)) []) (between_none passes a b (λ v m. empty-passes v m (f v m))),
  )

-- ---- both ways, on any words

module _ (ws : List ℕ) (n : ℕ) where
  or-swapped : (x y : Bool) → (x || y) ≡ (y || x)
  or-swapped true true = refl
  or-swapped true false = refl
  or-swapped false true = refl
  or-swapped false false = refl

  abbrev order : Point → Point → ℕ
  order a b = first_number (question_order ws n (sight_outside ws n a b) (sight_damaged ws n a b))

  clear-passed : (a b : Point) → sight_outcome ws n a b ≡ clear_outcome → QuestionPassed ws n (sight_outside ws n a b) (sight_damaged ws n a b) × (decider ws n a b ≡ O.none)
  unfolding sight_outcome
  clear-passed a b e =
      let none : order a b ≡ 0 = sym (settled-number (order a b) (blocked_at (decider ws n a b)) [] []) ∙ ap (λ (o : Outcome). o.number) e in (
        question-passed ws n (sight_outside ws n a b) (sight_damaged ws n a b) none,
        value_none (decider ws n a b) (ap (λ (o : Outcome). o.values) (sym (settled-accepted (order a b) (blocked_at (decider ws n a b)) [] [] none) ∙ e)),
      )

  clear-back : (a b : Point) → sight_outcome ws n a b ≡ clear_outcome → sight_outcome ws n b a ≡ clear_outcome
  unfolding sight_outcome sight_outside sight_damaged decider
  clear-back a b e =
      let p = clear-passed a b e in
      let q : QuestionPassed ws n (sight_outside ws n a b) (sight_damaged ws n a b) = p.0 in
      let none : decider ws n b a ≡ O.none = clear-reversed (λ v. says_empty (voxel_outcome ws n v)) a b p.1 in
      let out : sight_outside ws n b a ≡ false = or-swapped (voxel_outside ws n b) (voxel_outside ws n a) ∙ q.within in
      settled-accepted (order b a) (blocked_at (decider ws n b a)) [] [] (question-accepted ws n (sight_outside ws n b a) (sight_damaged ws n b a) q.header q.held q.scene out (ap (gives_two ws n) none))
      ∙ ap (λ (o : Option Point). outcome (told 0 (blocked_at o)) []) none

pub claim13 : C13
claim13 = record {
  tested_met = tested-is;
  ordered = λ a b i j h l. tested-order a b i j h l;
  blocked = λ s r n sc a b v e la lb. sight-blocked (reached-holds s r) n (held_at (reached-holds s r) n sc e) a b la lb v;
  clear = λ s r n sc a b e la lb. sight-clear (reached-holds s r) n (held_at (reached-holds s r) n sc e) a b la lb;
  both_ways = λ ws n a b. (clear-back ws n a b, clear-back ws n b a);
}
