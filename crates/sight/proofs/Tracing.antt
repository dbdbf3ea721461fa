-- A line by its turns: what is still to be tested, and the path to the voxel tested last. Each way through a turn is a law: the walk is damaged, the
-- voxel is solid, the cell that it shows empty is left, or the line is at its end. By the laws of lines and of paths. Assumes nothing.
use mathlib.Core.Path.{◌≡◌, refl, sym, ◌∙◌, ap, ap₂, subst}
use mathlib.Core.Bool.{Bool, true, false, false≢true, not, ◌&&◌}
use mathlib.Core.List.{List, [], ◌∷◌}
use mathlib.Core.Option.{Option, some, map}
use mathlib.Core.Option as O
use Prim.Native.Nat.{ℕ, suc, ◌+◌, ◌-◌, ◌/◌, ◌%◌, ◌^◌, ◌<◌, ◌≤◌}
use native.Mathlib.Nat.{suc-ne-zero, lt_of_lt_of_le}
use native.Mathlib.Omega.{arith}
use lib.Arith.{digits_div, digits_mod}
use lib.Dec.{T}
use lib.Pow.{pow_mono}
use lib.ListN.{length, get_or, set, length-set}
use lib.Seq.{get_or-set_same}
use Rattle.paper.specs.Numbers.{bit_for}
use Rattle.paper.specs.Rooms.{Point, point, Inside, OneCell, depth_ok, deepest}
use Rattle.paper.specs.Store.{Cell, bad_pointer, cells_at, tag_of, cell_no, heights, kept_count, kept_of, most_capacity}
use Rattle.paper.specs.Walk.{End, damaged, absent, in_leaf, Walk, is_damaged, solid_at, empty_height}
use Rattle.paper.specs.Questions.{child_for, kept_reading, voxel_walk}
use Rattle.std.specs.Prelude.{Result, Ok, Err}
use Rattle.paper.specs.Answers.{Told, told}
use Rattle.paper.specs.declared.Damaged.{Damaged as Unsound}
use Rattle.paper.specs.declared.Voxel.{Voxel}
use Rattle.paper.specs.Lines.{distances, voxel_at, same_point, whole_of, first_failing}
use Rattle.paper.specs.Sight.{blocked_at}
use Rattle.laws.specs.Lines.{leave_of}
use Rattle.laws.proofs.CellVoxels.{voxel-absent}
use Rattle.laws.proofs.Invariant.{named-kept}
use Rattle.laws.proofs.Kept.{kept-length}
use Rattle.laws.proofs.Matching.{tag-lt}
use Rattle.laws.proofs.StoreFacts.{depth-range}
use Rattle.laws.proofs.WalkClaim.{root-low, walk-shared}
use Rattle.laws.proofs.LineSteps.{OnLine, line-most, most-whole, leave-on, leave-further}
use Rattle.laws.proofs.LineMeeting.{distances-inside, voxel-inside}
use Rattle.laws.proofs.LineTested.{first}
use Rattle.laws.proofs.LineSkipping.{rest_of, rest_end, rest-fails, rest-skips, tested-first}
use Rattle.store_entry.specs.Entry.{past_entry}
use Rattle.walk.specs.Walk.{walk_to, end_of, end_told}
use Rattle.walk.specs.Walk.{Ended}
use Rattle.walk.specs.Walk.{Absent, At, Damaged}
use Rattle.walk.proofs.Steps.{walk-stop}
use Rattle.walk.proofs.Roots.{voxel-root}
use Rattle.walk.proofs.Voxels.{not_none}
use Rattle.lines.specs.Cells.{cell_holding, last_of}
use Rattle.lines.proofs.Cells.{last-from, cell-passes}
use Rattle.sight.specs.Paths.{PathFrom, Reached, Ready, Stands, Walked, number_in, mirror_in, entry, walk_from, voxel_of}
use Rattle.sight.specs.Tracing.{empty_end, traced, damaged_at, traced_told}
use Rattle.sight.proofs.Descents.{entry-number, absent-most}

-- ---- what a voxel question on the way tells

abbrev pub Means : Result Voxel Unsound → End → Type 0
Means (Err x) e = is_damaged e ≡ true
Means (Ok Voxel.Solid) e = (is_damaged e ≡ false) × (solid_at e ≡ true)
Means (Ok (Voxel.Empty h)) e = (is_damaged e ≡ false) × (solid_at e ≡ false) × (empty_height e ≡ h)

abbrev flag : Told → ℕ
flag t = get_or t.values 0 0

abbrev height : Told → ℕ
height t = get_or t.values 1 0

pub seen-means : (r : Result Voxel Unsound) (e : End) → voxel_of r ≡ end_told e → Means r e
seen-means (Err x) damaged q = refl
seen-means (Err x) (absent h) q = absurd (suc-ne-zero 1 (ap (λ (t : Told). t.number) q))
seen-means (Err x) (in_leaf n u) q = absurd (suc-ne-zero 1 (ap (λ (t : Told). t.number) q))
seen-means (Ok Voxel.Solid) damaged q = absurd (suc-ne-zero 1 (sym (ap (λ (t : Told). t.number) q)))
seen-means (Ok Voxel.Solid) (absent h) q = absurd (suc-ne-zero 0 (ap flag q))
seen-means (Ok Voxel.Solid) (in_leaf n u) q = (refl, go (solid_at (in_leaf n u)) (ap flag q))
  where
    go : (b : Bool) → 1 ≡ bit_for b → b ≡ true
    go true f = refl
    go false f = absurd (suc-ne-zero 0 f)
seen-means (Ok (Voxel.Empty h)) damaged q = absurd (suc-ne-zero 1 (sym (ap (λ (t : Told). t.number) q)))
seen-means (Ok (Voxel.Empty h)) (absent g) q = (refl, refl, sym (ap height q))
seen-means (Ok (Voxel.Empty h)) (in_leaf n u) q = (refl, go (solid_at (in_leaf n u)) (ap flag q), sym (ap height q))
  where
    go : (b : Bool) → 0 ≡ bit_for b → b ≡ false
    go true f = absurd (suc-ne-zero 0 (sym f))
    go false f = refl

-- ---- from where a walk ended

reached-end : (K : List (List Cell)) (v : Point) (e : Ended) → is_damaged (end_of K v e) ≡ false → Reached e (empty_height (end_of K v e) - 1)
reached-end K v (Absent h) s = omega arith
reached-end K v (At n m) s = tt
reached-end K v Damaged s = absurd (false≢true (sym s))

low_end : (K : List (List Cell)) (k n m : ℕ) (v : Point) → empty_height (end_of K v (walk_to K 0 k n m v)) ≤ suc k
low_end K k n m v = go (walk_to K 0 k n m v) refl
  where
    go : (e : Ended) → walk_to K 0 k n m v ≡ e → empty_height (end_of K v e) ≤ suc k
    go (Absent h) q = absent-most K k n m v h q
    go (At x y) q = omega arith
    go Damaged q = omega arith

-- ---- a line through a scene

-- between two voxels inside it, its root pointer being not none
pub record Line (ws : List ℕ) (D p : ℕ) (a b : Point) : Type 0 where
  pub deep : T (depth_ok D)
  pub sound : bad_pointer (kept_count ws (D - 2)) p ≡ false
  pub few : kept_count ws (D - 2) ≤ most_capacity
  pub named : p ≡ 0 → ⊥
  pub from_in : Inside (2 ^ D) a
  pub to_in : Inside (2 ^ D) b

module _ (K : List (List Cell)) (D p : ℕ) where
  -- how the walk to a voxel ends
  abbrev pub end_at : Point → End
  end_at v = (voxel_walk K D p v).end

  -- of the voxels still to be tested from these steps on, the steps of the first that isn't empty
  abbrev pub decides : Point → Point → Point → Option Point
  decides a b s = first_failing (λ w. empty_end (end_at (voxel_at a b w))) (rest_of (distances a b) s)

  -- before a turn: the steps, the voxel tested last, and its path from list `low` up to the root's cell
  pub record Going (a b s last : Point) (low : ℕ) (P : List ℕ) : Type 0 where
    pub on : OnLine (distances a b) s
    pub same : decides a b s ≡ decides a b (first (distances a b))
    pub root : get_or P (D - 2) 0 ≡ entry (cell_no p) (tag_of p)
    pub cells : PathFrom K (D - 2) last low P
    pub lows : low ≤ D - 2
    pub within : Inside (2 ^ D) last
    pub sized : length P ≡ heights

  traced-first : (a b : Point) → traced K D p a b ≡ map (voxel_at a b) (decides a b (first (distances a b)))
  unfolding traced
  traced-first a b = tested-first (λ v. empty_end (end_at v)) a b

  told-by : (a b : Point) (o : Option Point) → traced K D p a b ≡ o → past_entry false (damaged_at K D p o) (blocked_at o) ≡ traced_told K D p a b
  told-by a b o e = ap (λ (x : Option Point). past_entry false (damaged_at K D p x) (blocked_at x)) (sym e)

-- the cube of the greatest depth holds every other
inside-deepest : (D : ℕ) (v : Point) → T (depth_ok D) → Inside (2 ^ D) v → Inside (2 ^ deepest) v
inside-deepest D v deep l =
    let m : 2 ^ D ≤ 2 ^ deepest = pow_mono (depth-range D deep).1 in
    record { in_x = lt_of_lt_of_le l.in_x m; in_y = lt_of_lt_of_le l.in_y m; in_z = lt_of_lt_of_le l.in_z m }

module _ {ws : List ℕ} {D p : ℕ} {a b : Point} (line : Line ws D p a b) where
  abbrev K : List (List Cell)
  K = kept_of ws

  pub line-deep : (2 ≤ D) × (D ≤ deepest)
  line-deep = depth-range D line.deep

  pub line-from : Inside (2 ^ deepest) a
  line-from = inside-deepest D a line.deep line.from_in

  pub line-to : Inside (2 ^ deepest) b
  line-to = inside-deepest D b line.deep line.to_in

  -- few steps on each axis, as code counts them
  pub line-few : (d : Point) → d ≡ distances a b → Inside (2 ^ deepest) d
  line-few d e = subst (Inside (2 ^ deepest)) (sym e) (distances-inside a b (2 ^ deepest) line-from line-to)

  -- the root's list, and its cell, whose number is small
  pub line-top : D - 2 < heights
  line-top = omega (arith, line-deep)

  root-there : cell_no p < kept_count ws (D - 2)
  root-there = named-kept (kept_count ws (D - 2)) p line.sound line.named

  pub root-few : cell_no p < most_capacity
  root-few = omega (arith, root-there, line.few)

  root_kept : cell_no p < length (cells_at (kept_of ws) (D - 2))
  root_kept = subst (λ (n : ℕ). cell_no p < n) (sym (kept-length ws (D - 2) line-top)) root-there

  -- at the start, by the first steps and the root's cell; n and m are its number and mirror as code has them
  pub line-start : (P : List ℕ) (s d : Point) (n m : ℕ) → length P ≡ heights → d ≡ distances a b → s ≡ leave_of d (point 0 0 0) → n ≡ cell_no p → m ≡ tag_of p
      → Going (kept_of ws) D p a b s a (D - 2) (set P (D - 2) (entry n m))
  line-start P s d n m sized ed e en em =
      let top : ℕ = D - 2 in
      let Q : List ℕ = set P top (entry n m) in
      let fits : top < length P = omega (arith, line-top, sized) in
      let few : m < 8 = subst (λ (x : ℕ). x < 8) (sym em) (tag-lt p) in
      let starts : s ≡ first (distances a b) = e ∙ ap (λ (x : Point). leave_of x (point 0 0 0)) ed in
      let here : Stands K top (number_in Q top) (mirror_in Q top) a Q top =
      record {
        ends = sym (walk-stop K top top (number_in Q top) (mirror_in Q top) a (omega arith));
        kept = subst (λ (x : ℕ). x < length (cells_at K top)) (sym (entry-number P top n m fits few ∙ en)) root_kept;
      } in
      record {
        on = subst (OnLine (distances a b)) (sym starts) (leave-on (distances a b) (point 0 0 0));
        same = ap (decides K D p a b) starts;
        root = get_or-set_same P top (entry n m) 0 fits ∙ ap₂ entry en em;
        cells = λ j l h. subst (Stands K top (number_in Q top) (mirror_in Q top) a Q) (let q : top ≡ j = omega arith in q) here;
        lows = omega arith;
        within = line.from_in;
        sized = length-set P top (entry n m) ∙ sized;
      }

  module _ (s last : Point) (low : ℕ) (P : List ℕ) (g : Going (kept_of ws) D p a b s last low P) where
    traced-rest : traced (kept_of ws) D p a b ≡ map (voxel_at a b) (decides (kept_of ws) D p a b s)
    traced-rest = traced-first K D p a b ∙ ap (map (voxel_at a b)) (sym g.same)

    -- the line is at its end
    pub going-clear : same_point s (distances a b) ≡ true → told 0 (0 ∷ 0 ∷ 0 ∷ 0 ∷ []) ≡ traced_told (kept_of ws) D p a b
    going-clear e =
        told-by K D p a b O.none (traced-rest ∙ ap (map (voxel_at a b)) (rest_end (λ w. empty_end (end_at K D p (voxel_at a b w))) (distances a b) s e))

-- ---- a turn in the code's words: v is the voxel reached

pub record Turn (ws : List ℕ) (D p : ℕ) (a b s last : Point) (low : ℕ) (P : List ℕ) (v : Point) : Type 0 where
  pub line : Line ws D p a b
  pub going : Going (kept_of ws) D p a b s last low P
  pub short : same_point s (distances a b) ≡ false
  pub is : v ≡ voxel_at a b s

less : (w n s : ℕ) → s < n → n ≤ w → w - n < w - s
less w n s h l = omega arith

module _ {ws : List ℕ} {D p : ℕ} {a b s last : Point} {low : ℕ} {P : List ℕ} {v : Point} (t : Turn ws D p a b s last low P v) where
  abbrev top : ℕ
  top = D - 2

  -- it lies inside
  turn_inside : Inside (2 ^ D) v
  turn_inside = subst (Inside (2 ^ D)) (sym t.is) (voxel-inside a b (2 ^ D) s t.line.from_in t.line.to_in (line-most t.going.on))

  -- and can be asked
  pub turn-ready : Ready ws P low (D - 2) last v
  turn-ready =
      let e : D ≡ D - 2 + 2 = omega (arith, (line-deep t.line).0) in
      let up : (x : Point) → Inside (2 ^ D) x → Inside (2 ^ (D - 2 + 2)) x = λ x i. subst (λ (n : ℕ). Inside (2 ^ n) x) e i in
      record {
        sized = t.going.sized;
        cells = t.going.cells;
        sought = record { order = t.going.lows; listed = line-top t.line; first = up last t.going.within; second = up v turn_inside };
      }

  -- the walk from the path's highest cell is that from the root
  turn_end : end_of (kept_of ws) v (walk_from (kept_of ws) P (D - 2) v) ≡ end_at (kept_of ws) D p v
  turn_end =
      let K = kept_of ws in
      let en : number_in P top ≡ cell_no p = ap (λ (w : ℕ). w / 8) t.going.root ∙ digits_div (cell_no p) (tag-lt p) in
      let em : mirror_in P top ≡ tag_of p = ap (λ (w : ℕ). w % 8) t.going.root ∙ digits_mod (cell_no p) (tag-lt p) in
      ap₂ (λ (n m : ℕ). end_of K v (walk_to K 0 top n m v)) en em ∙ voxel-root K D p v t.line.deep turn_inside (not_none p t.line.named)

  -- what the question tells of the voxel
  pub turn-means : (r : Result Voxel Unsound) → voxel_of r ≡ end_told (end_of (kept_of ws) v (walk_from (kept_of ws) P (D - 2) v)) → Means r (end_at (kept_of ws) D p v)
  turn-means r e = seen-means r (end_at (kept_of ws) D p v) (e ∙ ap end_told turn_end)

  -- the voxel decides
  decided : empty_end (end_at (kept_of ws) D p v) ≡ false → traced (kept_of ws) D p a b ≡ some v
  decided e =
      let passes : Point → Bool = λ w. empty_end (end_at (kept_of ws) D p (voxel_at a b w)) in
      traced-rest t.line s last low P t.going
      ∙ ap (map (voxel_at a b)) (rest-fails passes (distances a b) s t.going.on t.short (ap (λ (x : Point). empty_end (end_at (kept_of ws) D p x)) (sym t.is) ∙ e))
      ∙ ap some (sym t.is)

  pub turn-damaged : (r : Unsound) → Means (Err r) (end_at (kept_of ws) D p v) → told 2 (0 ∷ 0 ∷ 0 ∷ 0 ∷ []) ≡ traced_told (kept_of ws) D p a b
  turn-damaged r m =
      ap (λ (x : Bool). past_entry false x (blocked_at (some v))) (sym m)
      ∙ told-by (kept_of ws) D p a b (some v) (decided (ap (λ (x : Bool). not x && not (solid_at (end_at (kept_of ws) D p v))) m))

  pub turn-blocked : Means (Ok Voxel.Solid) (end_at (kept_of ws) D p v) → told 0 (1 ∷ v.x ∷ v.y ∷ v.z ∷ []) ≡ traced_told (kept_of ws) D p a b
  turn-blocked m =
      ap (λ (x : Bool). past_entry false x (blocked_at (some v))) (sym m.0)
      ∙ told-by (kept_of ws) D p a b (some v) (decided (ap₂ (λ (x y : Bool). not x && not y) m.0 m.1))

  -- it is empty, and the cell shown is left
  module _ (height : ℕ) (m : Means (Ok (Voxel.Empty height)) (end_at (kept_of ws) D p v)) where
    -- every voxel of that cell has the same walk
    shared-empty : (w : Point) → cell_holding height w ≡ cell_holding height (voxel_at a b s) → empty_end (end_at (kept_of ws) D p w) ≡ true
    unfolding voxel_walk
    shared-empty w q =
        let K = kept_of ws in
        let deep = t.line.deep in
        let e : cell_holding height w ≡ cell_holding height v = q ∙ ap (cell_holding height) (sym t.is) in
        let one : OneCell height v w =
        record { one_x = sym (ap (λ (x : Point). x.x) e); one_y = sym (ap (λ (x : Point). x.y) e); one_z = sym (ap (λ (x : Point). x.z) e) } in
        let r =
        walk-shared (voxel_walk K D p) D (λ x y h. voxel-absent K D p deep x y h) (λ x h. root-low (kept_reading K) D deep (child_for p) x h) v w turn_inside m.0
        (subst (λ (n : ℕ). OneCell n v w) (sym m.2) one) in
        ap (λ (x : Walk). empty_end x.end) r.0 ∙ ap₂ (λ (x y : Bool). not x && not y) m.0 m.1

    -- the cell lies below those entered, so the walk came as far down as the list above it
    low-here : height ≤ suc (D - 2)
    low-here =
        subst (λ (n : ℕ). n ≤ suc top) (ap empty_height turn_end ∙ m.2) (low_end (kept_of ws) top (number_in P top) (mirror_in P top) v)

    reached-here : Reached (walk_from (kept_of ws) P (D - 2) v) (height - 1)
    reached-here =
        subst (λ (n : ℕ). Reached (walk_from (kept_of ws) P top v) (n - 1)) (ap empty_height turn_end ∙ m.2)
        (reached-end (kept_of ws) v (walk_from (kept_of ws) P top v) (ap is_damaged turn_end ∙ m.0))

    pub turn-height : height ≤ deepest
    turn-height = omega (arith, low-here, line-deep t.line)

    -- d, far and next as code has them: the distances, the last steps in the cell, and those with which the line leaves it
    module _ (d far next : Point) (ed : d ≡ distances a b) (ef : far ≡ last_of height a b s) (en : next ≡ leave_of d far) where
      left : next ≡ leave_of (distances a b) (last_of height a b s)
      left = en ∙ ap₂ leave_of ed ef

      further-on : OnLine (distances a b) next
      further-on = subst (OnLine (distances a b)) (sym left) (leave-on (distances a b) (last_of height a b s))

      still : decides (kept_of ws) D p a b next ≡ decides (kept_of ws) D p a b s
      still =
          let K = kept_of ws in
          ap (decides K D p a b) left
          ∙ sym (rest-skips (λ w. empty_end (end_at K D p (voxel_at a b w))) (distances a b) s (last_of height a b s) t.going.on (last-from height a b s)
          (cell-passes height a b s (2 ^ D) (λ w. empty_end (end_at K D p w)) t.line.from_in t.line.to_in (λ w i q. shared-empty w q)))

      pub turn_on : (low' : ℕ) (Q : List ℕ) → low' ≡ height - 1 → Walked (kept_of ws) P (D - 2) v Q → Going (kept_of ws) D p a b next v low' Q
      turn_on low' Q el w =
          record {
            on = further-on;
            same = still ∙ t.going.same;
            root = w.root ∙ t.going.root;
            cells = λ j l h. subst (λ (x : ℕ). Stands (kept_of ws) top (x / 8) (x % 8) v Q j) (sym w.root) (w.cells (height - 1) reached-here j (omega (arith, l, el)) h);
            lows = omega (arith, low-here, el);
            within = turn_inside;
            sized = w.sized ∙ t.going.sized;
          }

      pub turn-less : whole_of (distances a b) - whole_of next < whole_of (distances a b) - whole_of s
      turn-less =
          let further : whole_of s < whole_of next = subst (λ (x : Point). whole_of s < whole_of x) (sym left) (leave-further t.going.on (last-from height a b s) t.short) in
          less (whole_of (distances a b)) (whole_of next) (whole_of s) further (most-whole (line-most further-on))
