-- Claims C3, C4 and C5, for every state that calls lead to from a new store: the match rule agrees with the voxels, demand 3, and the answers are the
-- rooms'. Each part is a law of such states. Assumes nothing.
use mathlib.Core.Path.{◌≡◌, sym, ◌∙◌, ap, subst}
use mathlib.Core.Bool.{true}
use mathlib.Core.List.{List, [], ◌∷◌}
use mathlib.Core.Option.{some}
use mathlib.Core.Logic.{◌↔◌}
use Prim.Native.Nat.{ℕ, zero, suc, ◌-◌, ◌<◌}
use native.Mathlib.Omega.{arith}
use lib.Dec.{T}
use lib.ListN.{length, get_or}
use Rattle.paper.specs.Rooms.{depth_ok, mirrored, Same, Image}
use Rattle.paper.specs.Outline.{edge}
use Rattle.paper.specs.Store.{Cell, bad_pointer, cells_at, cell_at, is_held, kept_count, kept_of, header_ok}
use Rattle.paper.specs.Meaning.{cell_voxel}
use Rattle.paper.specs.Match.{matches}
use Rattle.paper.specs.Answers.{told, outcome}
use Rattle.paper.specs.Order.{first_number}
use Rattle.paper.specs.Calls.{next_scene, add_outcome, kept_order, kept_outcome}
use Rattle.paper.specs.Runs.{Scene, scene_of, Held, holding, State, Outnumbered, Number, kept_room}
use Rattle.paper.specs.Claims.{Sought, C3, Demand3, C4, C5}
use Rattle.laws.proofs.Tests.{T_true, true-T, none-at, none-T}
use Rattle.laws.proofs.Invariant.{OkCell, ok-not-bad, not-bad-ok, match-voxels}
use Rattle.laws.proofs.Kept.{kept-length}
use Rattle.laws.proofs.Outlines.{depth-two}
use Rattle.laws.proofs.OutlineClaim.{refusal-none}
use Rattle.laws.proofs.Undamaged.{depth_low}
use Rattle.laws.proofs.Refusals.{settled-accepted}
use Rattle.laws.proofs.Running.{Running, reached-running}
use Rattle.laws.proofs.Holding.{Holds, held_at, header_ok_lem, running-holds, running-capacity, reached-holds}
use Rattle.laws.proofs.NoDamage.{never-damaged}
use Rattle.laws.proofs.Differing.{kept-number, eight-outnumbered}
use Rattle.laws.proofs.RoomAnswers.{voxel-answer, cell-answer, box-answer, outline-answer}

-- cells that may be sought are the ok ones
sought-ok : (K : List (List Cell)) (k : ℕ) (c : Cell) → Sought K k c → OkCell K k c
sought-ok K zero c h = h
sought-ok K (suc k) c h =
    let n : ℕ = length (cells_at K k) in
    λ i l. not-bad-ok n (get_or c i 0) (none-at 8 (λ j. bad_pointer n (get_or c j 0)) h i l)

ok-sought : (K : List (List Cell)) (k : ℕ) (c : Cell) → OkCell K k c → Sought K k c
ok-sought K zero c h = h
ok-sought K (suc k) c h =
    let n : ℕ = length (cells_at K k) in
    none-T 8 (λ j. bad_pointer n (get_or c j 0)) (λ i l. ok-not-bad n (get_or c i 0) (h i l))

module _ {ws : List ℕ} {held : Held} (s : Holds ws held) where
  -- matches under t exactly when the voxels are the mirrored voxels
  pub sought-match : (k : ℕ) (a b : Cell) (t : ℕ) → Sought (kept_of ws) k a → Sought (kept_of ws) k b → t < 8
      → (matches (kept_of ws) k a b t ≡ true) ↔ Same (edge k) (cell_voxel (kept_of ws) k a) (mirrored t (edge k) (cell_voxel (kept_of ws) k b))
  sought-match k a b t ha hb ht =
      let K : List (List Cell) = kept_of ws in
      let m = match-voxels K k s.invs a b t ht (sought-ok K k a ha) (sought-ok K k b hb) in
      (λ e. m.0 (true-T e), λ e. T_true {b = matches K k a b t} (m.1 e))

  pub kept-sought : (k q : ℕ) → q < length (cells_at (kept_of ws) k) → Sought (kept_of ws) k (cell_at (kept_of ws) k q)
  kept-sought k q h = ok-sought (kept_of ws) k (cell_at (kept_of ws) k q) ((s.invs k).ok q h)

  -- (b) no two kept cells of one height are images
  pub kept-apart : (k q r : ℕ) → r < q → q < length (cells_at (kept_of ws) k) → Image (edge k) (kept_room ws k q) (kept_room ws k r) → ⊥
  kept-apart k q r h l (t, ht, e) = omega (arith, (s.invs k).apart q r t l (omega arith) ht e)

  -- (f) kept at h
  pub kept-answer : (h : ℕ) → T (depth_ok h) → (n : ℕ) × (kept_outcome ws h ≡ outcome (told 0 (n ∷ [])) []) × Number held h n
  unfolding kept_outcome first_number
  kept-answer h d =
      let k : ℕ = h - 2 in
      let n : ℕ = length (cells_at (kept_of ws) k) in
      let none : first_number (kept_order ws h) ≡ 0 = rw (T_true {b = header_ok ws} (header_ok_lem s), T_true {b = depth_ok h} d) in (
        n,
        settled-accepted (first_number (kept_order ws h)) (kept_count ws k ∷ []) [] [] none ∙ ap (λ (m : ℕ). outcome (told 0 (m ∷ [])) []) (sym (kept-length ws k (depth_low h d))),
        subst (λ (m : ℕ). Number held m n) (depth-two h d) (kept-number s k),
      )

  -- the numbers that the words hold are those of the scenes held
  pub held-numbers : (n : ℕ) → T (is_held ws n) ↔ ((sc : Scene) × (held n ≡ some sc))
  held-numbers n = (λ h. (scene_of (s.file n), s.under n h), λ w. (held_at s n w.0 w.1).below)

pub claim3 : C3
claim3 s r = record { agree = sought-match (reached-holds s r); kept = kept-sought (reached-holds s r) }

demand3 : (s : State) → Running s → Demand3 s
demand3 s r =
    let h : Holds s.words s.held = running-holds s r in
    record {
      undamaged = λ c g. never-damaged h c;
      apart = kept-apart h;
      occur = h.occur;
      voxels = λ n sc v e l. voxel-answer h n (held_at h n sc e) v l;
      capacity = λ file b e room.
          subst (λ (C : ℕ). ((add_outcome s.words file).number ≡ 8) ↔ Outnumbered (holding (next_scene s.words) (scene_of file) s.held) C) (running-capacity s r)
          (eight-outnumbered s r file b (refusal-none file e) room);
      kept = kept-answer h;
      given = running-capacity s r;
      numbers = held-numbers h;
    }

pub claim4 : C4
claim4 s r = demand3 s (reached-running s r)

pub claim5 : C5
claim5 s r =
    let h : Holds s.words s.held = reached-holds s r in
    record {
      cells = λ n sc k c e l m. cell-answer h n (held_at h n sc e) k c l m;
      boxes = λ n sc low high e l. box-answer h n (held_at h n sc e) low high l;
      outlines = λ n sc out e l. outline-answer h n (held_at h n sc e) out l;
    }
