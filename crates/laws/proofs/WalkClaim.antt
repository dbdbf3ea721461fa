-- Claim C12, what a walk tells on any words and bytes: the voxel that a store answers is the one that its cells mean, and where the answer is empty
-- with height h, all voxels of the cell of height h share it. From the tests that an accepted question passed, and the walk of an absent child. And
-- what `empty_at` says of a room. Assumes nothing.
use mathlib.Core.Path.{◌≡◌, refl, sym, ◌∙◌, ap, ap₂, subst}
use mathlib.Core.Bool.{Bool, true, false, false≢true, cond, not}
use mathlib.Core.List.{List, [], ◌∷◌}
use mathlib.Core.Logic.{◌↔◌}
use Prim.Native.Nat.{ℕ, suc, ◌+◌, ◌-◌, ◌*◌, ◌/◌, ◌^◌, ◌<◌, ◌≤◌}
use native.Mathlib.Nat.{div-lt_iff_lt-mul, div-one, suc-ne-zero}
use native.Mathlib.Omega.{arith}
use borrow.Author.Tests.{eqb-true, eqb-false}
use lib.Dec.{T, eqb}
use lib.Pow.{pow-add, pow_pos}
use lib.ListN.{length, get_or}
use Rattle.paper.specs.Numbers.{bit_for}
use Rattle.paper.specs.Rooms.{Point, point, Room, depth_ok, inside, Inside, OneCell, cell_around, NonEmpty, empty_at}
use Rattle.paper.specs.Outline.{file_depth, version_ok, length_ok}
use Rattle.paper.specs.Store.{bad_pointer, kept_count, kept_of, scene_depth, scene_root, scene_ok}
use Rattle.paper.specs.Meaning.{root_room}
use Rattle.paper.specs.Walk.{End, damaged, absent, in_leaf, Walk, is_damaged, solid_at, empty_height, Child, none, wrong, to, Reading, unless, root_walk}
use Rattle.paper.specs.Questions.{child_for, kept_reading, voxel_walk}
use Rattle.paper.specs.Packed.{packed_version, packed_head, head_ok, root_of, file_reading, file_walk}
use Rattle.paper.specs.Answers.{Outcome, told, outcome}
use Rattle.paper.specs.Order.{Test, when, first_number, settled}
use Rattle.paper.specs.Calls.{of_scene, question_order, voxel_outside, voxel_damaged, voxel_outcome, packed_outside, packed_broken, packed_order, packed_voxel_order, packed_voxel_outcome, opens_to, ask_outcome}
use Rattle.paper.specs.Claims.{C12}
use Rattle.laws.proofs.Tests.{true-T, and_left}
use Rattle.laws.proofs.Outlines.{depth-two}
use Rattle.laws.proofs.OutlineCells.{non_empty-some, some-non_empty}
use Rattle.laws.proofs.CellPoints.{is-inside, inside_is}
use Rattle.laws.proofs.Refusals.{settled-accepted, settled-number, QuestionPassed, question-passed}
use Rattle.laws.proofs.Walking.{absent-low}
use Rattle.laws.proofs.CellVoxels.{voxel-means, voxel-absent}
use Rattle.laws.proofs.PackedWalk.{file-absent}
use Rattle.laws.proofs.Emptiness.{Greatest, empty_leaf, zero-leaf, empty-greatest}

not-not : (b : Bool) → not b ≡ false → b ≡ true
not-not true e = refl
not-not false e = absurd (false≢true (sym e))

-- ---- points of one cell

-- of height 0: one voxel
one-voxel : (v w : Point) → OneCell 0 v w → w ≡ v
one-voxel v w s =
    let same : (a b : ℕ) → a / 2 ^ 0 ≡ b / 2 ^ 0 → b ≡ a = λ a b e. sym (div-one b) ∙ sym e ∙ div-one a in
    λ i. point (same v.x w.x s.one_x i) (same v.y w.y s.one_y i) (same v.z w.z s.one_z i)

-- inside with one of them
one_inside : (h D : ℕ) (v w : Point) → h ≤ D → OneCell h v w → Inside (2 ^ D) v → Inside (2 ^ D) w
one_inside h D v w hD s l =
    let d : ℕ = D - h in
    let up : D ≡ d + h = omega arith in
    let e : 2 ^ D ≡ 2 ^ d * 2 ^ h = ap (λ (n : ℕ). 2 ^ n) up ∙ pow-add 2 d h in
    let same : (a b : ℕ) → a / 2 ^ h ≡ b / 2 ^ h → a < 2 ^ D → b < 2 ^ D =
    λ a b q la.
    let low : a / 2 ^ h < 2 ^ d = (div-lt_iff_lt-mul (pow_pos h)).1 (subst (λ (n : ℕ). a < n) e la) in
    subst (λ (n : ℕ). b < n) (sym e) ((div-lt_iff_lt-mul (pow_pos h)).0 (subst (λ (n : ℕ). n < 2 ^ d) q low)) in
    record { in_x = same v.x w.x s.one_x l.in_x; in_y = same v.y w.y s.one_y l.in_y; in_z = same v.z w.z s.one_z l.in_z }

-- ---- walks shared by a cell

-- an absent child is at most as high as the room
low-unless : (b : Bool) (w : Walk) (h : ℕ) → (unless b w).end ≡ absent h → w.end ≡ absent h
low-unless true w h e = e
low-unless false w h e = absurd (false≢true (sym (ap is_damaged e)))

pub root-low : (R : Reading) (D : ℕ) → T (depth_ok D) → (c : Child) (v : Point) (h : ℕ) → (root_walk R D c v).end ≡ absent h → h ≤ D
root-low R D deep none v h e = omega (arith, ap empty_height e)
root-low R D deep wrong v h e = absurd (false≢true (sym (ap is_damaged e)))
root-low R D deep (to t p) v h e = omega (arith, absent-low R (D - 2) p t v h e, depth-two D deep)

module _ (W : Point → Walk) (D : ℕ) (one : (v w : Point) (h : ℕ) → Inside (2 ^ D) v → (W v).end ≡ absent h → OneCell h v w → W w ≡ W v)
    (low : (v : Point) (h : ℕ) → (W v).end ≡ absent h → h ≤ D) (v w : Point) (l : Inside (2 ^ D) v) where
  -- of the height that the walk tells, if it isn't damaged: the same walk, and inside too
  pub walk-shared : is_damaged (W v).end ≡ false → OneCell (empty_height (W v).end) v w → (W w ≡ W v) × Inside (2 ^ D) w
  walk-shared sound s = go (W v).end refl
    where
      go : (e : End) → (W v).end ≡ e → (W w ≡ W v) × Inside (2 ^ D) w
      go damaged q = absurd (false≢true (sym sound ∙ ap is_damaged q))
      go (absent h) q =
          let c : OneCell h v w = subst (λ (x : End). OneCell (empty_height x) v w) q s in
          (one v w h l q c, one_inside h D v w (low v h q) c l)
      go (in_leaf n u) q =
          let c : w ≡ v = one-voxel v w (subst (λ (x : End). OneCell (empty_height x) v w) q s) in
          (ap W c, subst (λ (x : Point). Inside (2 ^ D) x) (sym c) l)

-- ---- a voxel question

-- a scene whose two words pass has a depth
scene-deep : (ws : List ℕ) (n : ℕ) → T (scene_ok ws n) → T (depth_ok (scene_depth ws n))
unfolding scene_ok
scene-deep ws n t =
    and_left (depth_ok (scene_depth ws n)) (not (bad_pointer (kept_count ws (scene_depth ws n - 2)) (scene_root ws n))) t

module _ (ws : List ℕ) (n : ℕ) where
  abbrev D : ℕ
  D = scene_depth ws n

  abbrev W : Point → Walk
  W v = voxel_walk (kept_of ws) D (scene_root ws n) v

  abbrev values : Point → List ℕ
  values v = bit_for (solid_at (W v).end) ∷ empty_height (W v).end ∷ []

  voxel-passed : (v : Point) → (voxel_outcome ws n v).number ≡ 0
      → (first_number (question_order ws n (voxel_outside ws n v) (voxel_damaged ws n v)) ≡ 0) × QuestionPassed ws n (voxel_outside ws n v) (voxel_damaged ws n v)
  unfolding voxel_outcome
  voxel-passed v e =
      let order : List Test = question_order ws n (voxel_outside ws n v) (voxel_damaged ws n v) in
      let none : first_number order ≡ 0 = sym (settled-number (first_number order) (values v) [] []) ∙ e in
      (none, question-passed ws n (voxel_outside ws n v) (voxel_damaged ws n v) none)

  voxel-values : (v : Point) → (voxel_outcome ws n v).number ≡ 0 → voxel_outcome ws n v ≡ outcome (told 0 (values v)) []
  unfolding voxel_outcome
  voxel-values v e = settled-accepted (first_number (question_order ws n (voxel_outside ws n v) (voxel_damaged ws n v))) (values v) [] [] (voxel-passed v e).0

  voxel-told : (v : Point) → (voxel_outcome ws n v).number ≡ 0 → get_or (voxel_outcome ws n v).values 0 0 ≡ bit_for (of_scene root_room ws n v)
  unfolding voxel_damaged
  voxel-told v e =
      let p : QuestionPassed ws n (voxel_outside ws n v) (voxel_damaged ws n v) = (voxel-passed v e).1 in
      ap (λ (o : Outcome). get_or o.values 0 0) (voxel-values v e)
      ∙ ap bit_for (voxel-means (kept_of ws) D (scene_root ws n) (scene-deep ws n p.scene) v p.walked)

  walk-low : T (depth_ok D) → (v : Point) (h : ℕ) → (W v).end ≡ absent h → h ≤ D
  unfolding voxel_walk
  walk-low deep v h e = root-low (kept_reading (kept_of ws)) D deep (child_for (scene_root ws n)) v h e

  -- the outcome by the walk and the test of the point
  outcome-by : (v w : Point) → W w ≡ W v → voxel_outside ws n w ≡ voxel_outside ws n v → voxel_outcome ws n w ≡ voxel_outcome ws n v
  unfolding voxel_outcome voxel_damaged
  outcome-by v w e o =
      ap₂ (λ (x : Walk) (b : Bool). settled (first_number (question_order ws n b (is_damaged x.end))) (bit_for (solid_at x.end) ∷ empty_height x.end ∷ []) [] []) e o

  voxel-shared : (h : ℕ) (v w : Point) → voxel_outcome ws n v ≡ outcome (told 0 (0 ∷ h ∷ [])) [] → OneCell h v w → voxel_outcome ws n w ≡ voxel_outcome ws n v
  unfolding voxel_outside voxel_damaged
  voxel-shared h v w e s =
      let zero_number : (voxel_outcome ws n v).number ≡ 0 = ap (λ (o : Outcome). o.number) e in
      let p : QuestionPassed ws n (voxel_outside ws n v) (voxel_damaged ws n v) = (voxel-passed v zero_number).1 in
      let deep : T (depth_ok D) = scene-deep ws n p.scene in
      let l : Inside (2 ^ D) v = is-inside (2 ^ D) v (true-T (not-not (inside (2 ^ D) v) p.within)) in
      let is : h ≡ empty_height (W v).end = ap (λ (o : Outcome). get_or o.values 1 0) (sym e ∙ voxel-values v zero_number) in
      let r = walk-shared W D (λ a b g la q c. voxel-absent (kept_of ws) D (scene_root ws n) deep a b g la q c) (walk-low deep) v w l p.walked
      (subst (λ (g : ℕ). OneCell g v w) is s) in
      outcome-by v w r.0 (ap not (inside_is (2 ^ D) w r.1 ∙ sym (inside_is (2 ^ D) v l)))

-- ---- a packed voxel question, and one on an opened scene

-- what an accepted one passed
pub record PackedPassed (file : List ℕ) (v : Point) : Type 0 where
  pub deep : T (depth_ok (file_depth file))
  pub within : packed_outside file v ≡ false
  pub walked : packed_broken file v ≡ false

packed-pass : (a b c o w : Bool) → first_number (when (not a) 3 ∷ when (not b) 4 ∷ when (not c) 5 ∷ when o 10 ∷ when w 6 ∷ []) ≡ 0 → T c × (o ≡ false) × (w ≡ false)
unfolding first_number
packed-pass false b c o w q = absurd (suc-ne-zero 2 q)
packed-pass true false c o w q = absurd (suc-ne-zero 3 q)
packed-pass true true false o w q = absurd (suc-ne-zero 4 q)
packed-pass true true true true w q = absurd (suc-ne-zero 9 q)
packed-pass true true true false true q = absurd (suc-ne-zero 5 q)
packed-pass true true true false false q = (tt, refl, refl)

six-first : (b : Bool) (n : ℕ) → cond b 6 n ≡ 0 → n ≡ 0
six-first true n e = absurd (suc-ne-zero 5 e)
six-first false n e = e

module _ (file : List ℕ) where
  packed-passed : (v : Point) → first_number (packed_voxel_order file v) ≡ 0 → PackedPassed file v
  packed-passed v e =
      let p = packed-pass (version_ok packed_version file) (length_ok packed_head file) (depth_ok (file_depth file)) (packed_outside file v) (packed_broken file v) e in
      record { deep = p.0; within = p.1; walked = p.2 }

  file-low : T (depth_ok (file_depth file)) → (v : Point) (h : ℕ) → (file_walk file v).end ≡ absent h → h ≤ file_depth file
  unfolding file_walk
  file-low deep v h e = root-low (file_reading file) (file_depth file) deep (root_of file) v h (low-unless (head_ok file) (root_walk (file_reading file) (file_depth file) (root_of file) v) h e)

  -- where all tests passed, the voxels of the cell told share walk and tests
  file-shared : (v w : Point) → first_number (packed_voxel_order file v) ≡ 0 → OneCell (empty_height (file_walk file v).end) v w
      → (file_walk file w ≡ file_walk file v) × (packed_outside file w ≡ packed_outside file v)
  unfolding packed_outside packed_broken
  file-shared v w e s =
      let p : PackedPassed file v = packed-passed v e in
      let S : ℕ = 2 ^ file_depth file in
      let l : Inside S v = is-inside S v (true-T (not-not (inside S v) p.within)) in
      let r = walk-shared (file_walk file) (file_depth file) (λ a b g la q c. file-absent file p.deep a b g la q c) (file-low p.deep) v w l p.walked s in
      (r.0, ap not (inside_is S w r.1 ∙ sym (inside_is S v l)))

  -- refused by 6 first, or else as the packed voxel
  abbrev asked : Bool → Bool → Walk → Outcome
  asked first o x = settled (first_number (when first 6 ∷ packed_order file (when o 10 ∷ when (is_damaged x.end) 6 ∷ []))) (bit_for (solid_at x.end) ∷ length x.path ∷ empty_height x.end ∷ []) [] []

  -- an accepted one passed those of the packed voxel, and tells the walk's height
  asked-passed : (first : Bool) (m h : ℕ) (v : Point) → asked first (packed_outside file v) (file_walk file v) ≡ outcome (told 0 (0 ∷ m ∷ h ∷ [])) []
      → (first_number (packed_voxel_order file v) ≡ 0) × (h ≡ empty_height (file_walk file v).end)
  unfolding packed_broken first_number
  asked-passed first m h v e =
      let x : Walk = file_walk file v in
      let vs : List ℕ = bit_for (solid_at x.end) ∷ length x.path ∷ empty_height x.end ∷ [] in
      let n : ℕ = first_number (when first 6 ∷ packed_voxel_order file v) in
      let none : n ≡ 0 = sym (settled-number n vs [] []) ∙ ap (λ (o : Outcome). o.number) e in
      (six-first first (first_number (packed_voxel_order file v)) none, ap (λ (o : Outcome). get_or o.values 2 0) (sym e ∙ settled-accepted n vs [] [] none))

  asked-shared : (first : Bool) (m h : ℕ) (v w : Point) → asked first (packed_outside file v) (file_walk file v) ≡ outcome (told 0 (0 ∷ m ∷ h ∷ [])) [] → OneCell h v w
      → asked first (packed_outside file w) (file_walk file w) ≡ asked first (packed_outside file v) (file_walk file v)
  asked-shared first m h v w e s =
      let p = asked-passed first m h v e in
      let r = file-shared v w p.0 (subst (λ (g : ℕ). OneCell g v w) p.1 s) in
      ap₂ (asked first) r.1 r.0

  packed_shared : (m h : ℕ) (v w : Point) → packed_voxel_outcome file v ≡ outcome (told 0 (0 ∷ m ∷ h ∷ [])) [] → OneCell h v w → packed_voxel_outcome file w ≡ packed_voxel_outcome file v
  unfolding packed_voxel_outcome packed_broken first_number
  packed_shared m h v w e s = asked-shared false m h v w e s

  ask_shared : (starts : List ℕ) (D m h : ℕ) (v w : Point) → ask_outcome file D starts v ≡ outcome (told 0 (0 ∷ m ∷ h ∷ [])) [] → OneCell h v w
      → ask_outcome file D starts w ≡ ask_outcome file D starts v
  unfolding ask_outcome packed_broken
  ask_shared starts D m h v w e s = asked-shared (not (opens_to file D starts)) m h v w e s

-- ---- what `empty_at` says

module _ (D : ℕ) (r : Room) (v : Point) where
  at_leaf : (empty_at D r v ≡ 0) ↔ NonEmpty (2 ^ 2) (cell_around r 2 v)
  at_leaf = (zero-leaf (D - 2) r v, λ w. (empty_leaf (D - 2) r v w).0)

  at-greatest : ¬ (empty_at D r v ≡ 0) → Greatest (D - 2) r v (empty_at D r v)
  at-greatest some = empty-greatest (D - 2) r v some

  at-range : T (depth_ok D) → ¬ (empty_at D r v ≡ 0) → (2 ≤ empty_at D r v) × (empty_at D r v ≤ D)
  at-range deep some = ((at-greatest some).low, omega (arith, (at-greatest some).high, depth-two D deep))

  -- in a non-empty leaf the voxel alone
  at-voxel : r v ≡ false → ¬ NonEmpty (2 ^ 0) (cell_around r 0 v)
  at-voxel e w =
      let whole : (c u : ℕ) → u < 2 ^ 0 → c / 2 ^ 0 * 2 ^ 0 + u ≡ c = λ c u h. omega (arith, div-one c, h) in
      false≢true (sym e ∙ sym (λ i. r (point (whole v.x w.0.x w.1.in_x i) (whole v.y w.0.y w.1.in_y i) (whole v.z w.0.z w.1.in_z i))) ∙ w.2)

  at-empty : r v ≡ false → ¬ NonEmpty (2 ^ empty_at D r v) (cell_around r (empty_at D r v) v)
  at-empty e w = go (eqb (empty_at D r v) 0) refl
    where
      go : (b : Bool) → eqb (empty_at D r v) 0 ≡ b → ⊥
      go true q = at-voxel e (subst (λ (h : ℕ). NonEmpty (2 ^ h) (cell_around r h v)) (eqb-true (empty_at D r v) 0 q) w)
      go false q = false≢true (sym (at-greatest (eqb-false (empty_at D r v) 0 q)).empty ∙ some-non_empty (2 ^ empty_at D r v) (cell_around r (empty_at D r v) v) w)

  at_above : ¬ (empty_at D r v ≡ 0) → empty_at D r v < D → NonEmpty (2 ^ suc (empty_at D r v)) (cell_around r (suc (empty_at D r v)) v)
  at_above some l =
      non_empty-some (2 ^ suc (empty_at D r v)) (cell_around r (suc (empty_at D r v)) v) ((at-greatest some).above (omega (arith, l, (at-greatest some).low)))

pub claim12 : C12
claim12 = record {
  means = voxel-told;
  shared = voxel-shared;
  packed_shared = packed_shared;
  ask_shared = λ file starts D m h v w. ask_shared file starts D m h v w;
  leaf = at_leaf;
  range = at-range;
  empty = at-empty;
  greatest = at_above;
}
