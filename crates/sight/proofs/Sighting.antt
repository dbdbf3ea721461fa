-- A sight line past the scene's tests: outside, through an absent root, or told by its walks; and its whole outcome, since the voxels tested lie inside,
-- where a voxel question answers by the end of its walk. By cases on the tests. Assumes nothing.
use mathlib.Core.Path.{◌≡◌, refl, sym, ◌∙◌, ap, ap₂, subst}
use mathlib.Core.Bool.{Bool, true, false, false≢true, not, ◌||◌}
use mathlib.Core.List.{List, [], ◌∷◌, map}
use mathlib.Core.Option.{Option, some}
use mathlib.Core.Option as O
use Prim.Native.Nat.{ℕ, ◌^◌, ◌<◌}
use lib.Dec.{T, eqb}
use lib.ListN.{length, get_or}
use Rattle.paper.specs.Numbers.{bit_for}
use Rattle.paper.specs.Rooms.{Point, Inside, inside, origin}
use Rattle.paper.specs.Store.{Cell, kept_of}
use Rattle.paper.specs.Walk.{End, damaged, absent, in_leaf, is_damaged, solid_at}
use Rattle.paper.specs.Answers.{Told, told, Outcome, outcome, number_of}
use Rattle.paper.specs.Lines.{tested}
use Rattle.paper.specs.Questions.{voxel_walk}
use Rattle.paper.specs.Calls.{voxel_outside, voxel_outcome}
use Rattle.paper.specs.Sight.{says_empty, decider, gives_two, sight_damaged, sight_outside, blocked_at, sight_outcome}
use Rattle.paper.specs.declared.Refusal.{Refusal}
use Rattle.laws.proofs.Tests.{true-T}
use Rattle.laws.proofs.CellPoints.{is-inside, inside_is}
use Rattle.laws.proofs.FirstFailing.{first-same, first-is, passes_none}
use Rattle.laws.proofs.LineMeeting.{met-inside}
use Rattle.laws.proofs.LineTested.{tested_met_lem}
use Rattle.store_entry.specs.Entry.{past_entry}
use Rattle.store_entry.specs.Entry.{Refused}
use Rattle.store_entry.proofs.Asked.{refused_by}
use Rattle.store_entry.proofs.Entries.{Entered, Says, past-outside, past-inside, past-settled}
use Rattle.walk.specs.Walk.{end_told}
use Rattle.walk.proofs.Voxels.{voxel-inside, voxel-none, voxel-settled}
use Rattle.sight.specs.Tracing.{empty_end, traced, damaged_at, traced_told, sight_told}

-- as many zeros, whatever blocks
zeros-blocked : (o : Option Point) → blocked_at O.none ≡ map (λ x. 0) (blocked_at o)
zeros-blocked O.none = refl
zeros-blocked (some v) = refl

-- neither of two ends outside
both-in : (a b : Bool) → (not a || not b) ≡ false → (a ≡ true) × (b ≡ true)
both-in true true e = (refl, refl)
both-in true false e = absurd (false≢true (sym e))
both-in false b e = absurd (false≢true (sym e))

module _ (K : List (List Cell)) (D p : ℕ) (a b : Point) where
  abbrev outs : Bool
  outs = not (inside (2 ^ D) a) || not (inside (2 ^ D) b)

  abbrev harm : Bool
  harm = damaged_at K D p (traced K D p a b)

  abbrev values : List ℕ
  values = blocked_at (traced K D p a b)

  outside_told : T outs → told 10 (0 ∷ 0 ∷ 0 ∷ 0 ∷ []) ≡ sight_told K D p a b
  outside_told t = ap (told 10) (zeros-blocked (traced K D p a b)) ∙ past-outside outs harm values t

  -- o and q being the tests of the two ends
  module _ (o q : Bool) (eo : o ≡ not (inside (2 ^ D) a)) (eq : q ≡ not (inside (2 ^ D) b)) where
    tests : (o || q) ≡ outs
    tests = ap₂ (λ (x y : Bool). x || y) eo eq

    pub ends-outside : (o || q) ≡ true → told 10 (0 ∷ 0 ∷ 0 ∷ 0 ∷ []) ≡ sight_told K D p a b
    ends-outside e = outside_told (true-T (sym tests ∙ e))

    pub ends-inside : (o || q) ≡ false → traced_told K D p a b ≡ sight_told K D p a b
    ends-inside e = past-inside outs harm values (true-T (ap not (sym tests ∙ e)))

    pub both-inside : (o || q) ≡ false → Inside (2 ^ D) a × Inside (2 ^ D) b
    both-inside e =
        let i = both-in (inside (2 ^ D) a) (inside (2 ^ D) b) (sym tests ∙ e) in
        (is-inside (2 ^ D) a (true-T i.0), is-inside (2 ^ D) b (true-T i.1))

  -- an absent root: every voxel is empty
  pub none-clear : p ≡ 0 → told 0 (0 ∷ 0 ∷ 0 ∷ 0 ∷ []) ≡ traced_told K D p a b
  unfolding traced
  none-clear e =
      let passes : Point → Bool = λ v. empty_end (voxel_walk K D p v).end in
      let none : traced K D p a b ≡ O.none = passes_none passes (tested a b) origin (λ i h. ap empty_end (sym (voxel-none K D p (get_or (tested a b) i origin) e))) in
      ap (λ (o : Option Point). past_entry false (damaged_at K D p o) (blocked_at o)) (sym none)

-- ---- the whole outcome

-- a voxel question that ends so
says-end : (e : End) → says_empty (outcome (end_told e) []) ≡ empty_end e
says-end damaged = refl
says-end (absent h) = refl
says-end (in_leaf n u) = go (solid_at (in_leaf n u))
  where
    go : (b : Bool) → eqb (bit_for b) 0 ≡ not b
    go true = refl
    go false = refl

two-end : (e : End) → eqb (outcome (end_told e) []).number 2 ≡ is_damaged e
two-end damaged = refl
two-end (absent h) = refl
two-end (in_leaf n u) = refl

module _ (ws : List ℕ) (n D p : ℕ) (a b : Point) (e : Entered ws n D p) where
  abbrev K : List (List Cell)
  K = kept_of ws

  -- of a voxel inside
  voxel-by : (v : Point) → Inside (2 ^ D) v → voxel_outcome ws n v ≡ outcome (end_told (voxel_walk (kept_of ws) D p v).end) []
  voxel-by v l =
      sym (voxel-settled ws n D p v e) ∙ ap (λ (t : Told). outcome t []) (sym (voxel-inside K D p v (true-T (inside_is (2 ^ D) v l))))

  module _ (la : Inside (2 ^ D) a) (lb : Inside (2 ^ D) b) where
    tested-inside : (i : ℕ) → i < length (tested a b) → Inside (2 ^ D) (get_or (tested a b) i origin)
    tested-inside i h = met-inside a b (2 ^ D) (get_or (tested a b) i origin) la lb (tested_met_lem a b i h)

    same-decider : traced (kept_of ws) D p a b ≡ decider ws n a b
    unfolding traced decider
    same-decider =
        first-same (λ v. empty_end (voxel_walk K D p v).end) (λ v. says_empty (voxel_outcome ws n v)) (tested a b) origin
        (λ i h. sym (ap says_empty (voxel-by (get_or (tested a b) i origin) (tested-inside i h)) ∙ says-end (voxel_walk K D p (get_or (tested a b) i origin)).end))

    same-harm : damaged_at (kept_of ws) D p (traced (kept_of ws) D p a b) ≡ gives_two ws n (decider ws n a b)
    unfolding traced
    same-harm = go (traced K D p a b) refl ∙ ap (gives_two ws n) same-decider
      where
        go : (o : Option Point) → traced (kept_of ws) D p a b ≡ o → damaged_at (kept_of ws) D p o ≡ gives_two ws n o
        go O.none q = refl
        go (some v) q =
            let f = first-is (λ v. empty_end (voxel_walk (kept_of ws) D p v).end) (tested a b) origin v q in
            let l : Inside (2 ^ D) v = subst (Inside (2 ^ D)) f.is (tested-inside f.at f.inside) in
            sym (ap (λ (o : Outcome). eqb o.number 2) (voxel-by v l) ∙ two-end (voxel_walk (kept_of ws) D p v).end)

  -- what is told is told by the questions
  by-questions : sight_told (kept_of ws) D p a b ≡ past_entry (not (inside (2 ^ D) a) || not (inside (2 ^ D) b)) (sight_damaged ws n a b) (blocked_at (decider ws n a b))
  unfolding sight_damaged
  by-questions = go (not (inside (2 ^ D) a) || not (inside (2 ^ D) b)) refl
    where
      go : (t : Bool) → (not (inside (2 ^ D) a) || not (inside (2 ^ D) b)) ≡ t
          → past_entry t (damaged_at (kept_of ws) D p (traced (kept_of ws) D p a b)) (blocked_at (traced (kept_of ws) D p a b)) ≡ past_entry t (gives_two ws n (decider ws n a b)) (blocked_at (decider ws n a b))
      go true q = ap (told 10) (sym (zeros-blocked (traced (kept_of ws) D p a b)) ∙ zeros-blocked (decider ws n a b))
      go false q =
          let i = both-in (inside (2 ^ D) a) (inside (2 ^ D) b) q in
          let la : Inside (2 ^ D) a = is-inside (2 ^ D) a (true-T i.0) in
          let lb : Inside (2 ^ D) b = is-inside (2 ^ D) b (true-T i.1) in
          ap₂ (λ (x : Bool) (o : Option Point). past_entry false x (blocked_at o)) (same-harm la lb) (same-decider la lb)

  outside-is : (not (inside (2 ^ D) a) || not (inside (2 ^ D) b)) ≡ sight_outside ws n a b
  unfolding sight_outside voxel_outside
  outside-is = ap (λ (d : ℕ). not (inside (2 ^ d) a) || not (inside (2 ^ d) b)) e.depth

  pub sight-settled : outcome (sight_told (kept_of ws) D p a b) [] ≡ sight_outcome ws n a b
  unfolding sight_outcome
  sight-settled =
      ap (λ (t : Told). outcome t []) (by-questions ∙ ap (λ (o : Bool). past_entry o (sight_damaged ws n a b) (blocked_at (decider ws n a b))) outside-is)
      ∙ past-settled e (sight_outside ws n a b) (sight_damaged ws n a b) (blocked_at (decider ws n a b))

pub sight-refused : (ws : List ℕ) (n : ℕ) (a b : Point) (r : Refusal) → Says ws n (Refused r) → refused_by (number_of r) (0 ∷ 0 ∷ 0 ∷ 0 ∷ []) ≡ sight_outcome ws n a b
unfolding sight_outcome
sight-refused ws n a b r s =
    ap (λ (l : List ℕ). outcome (told (number_of r) l) []) (zeros-blocked (decider ws n a b)) ∙ s (sight_outside ws n a b) (sight_damaged ws n a b) (blocked_at (decider ws n a b))
