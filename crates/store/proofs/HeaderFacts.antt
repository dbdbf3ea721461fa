-- What a header that is in order says of the words: the room they have, the capacity's range, and what is at most what.
-- By taking the test's parts one after the other. Assumes nothing.
use mathlib.Core.Path.{◌≡◌, ap, ap₂, ◌∙◌}
use mathlib.Core.Bool.{Bool, true, false, ◌&&◌, and_comm}
use mathlib.Core.List.{List}
use Prim.Native.Nat.{ℕ, ◌-◌, ◌≤◌, ◌<◌}
use native.Mathlib.Omega.{arith}
use lib.Dec.{T, leb, leb→le}
use lib.ListN.{length}
use borrow.Author.Tests.{le-leb, lt-leb}
use Rattle.laws.proofs.Tests.{and_left, and_right, all-at}
use Rattle.paper.specs.Numbers.{all_below}
use Rattle.paper.specs.Store.{most_capacity, most_scenes, heights, first_scene, used, zeros_position, capacity_of, scenes_held, kept_count, scene_position, blank, capacity_ok, header_ok}

pub record Header (ws : List ℕ) : Type 0 where
  pub room : used (capacity_of ws) ≤ length ws
  pub least : 1 ≤ capacity_of ws
  pub most : capacity_of ws ≤ most_capacity
  pub scenes : scenes_held ws ≤ most_scenes
  pub counts : (k : ℕ) → k < heights → kept_count ws k ≤ capacity_of ws

pub header : (ws : List ℕ) → T (header_ok ws) → Header ws
unfolding header_ok
header ws t =
    let C : ℕ = capacity_of ws in
    let a : Bool = leb (used C) (length ws) in
    let b : Bool = capacity_ok C in
    let s : Bool = leb (scenes_held ws) most_scenes in
    let p : ℕ → Bool = λ k. leb (kept_count ws k) C in
    let z : Bool = blank ws zeros_position (first_scene - zeros_position) in
    let four : T (a && b && s && all_below heights p) = and_left (a && b && s && all_below heights p) z t in
    let three : T (a && b && s) = and_left (a && b && s) (all_below heights p) four in
    let two : T (a && b) = and_left (a && b) s three in
    let range : T b = and_right a b two in
    record {
      room = leb→le (used C) (length ws) (and_left a b two);
      least = leb→le 1 C (and_left (leb 1 C) (leb C most_capacity) range);
      most = leb→le C most_capacity (and_right (leb 1 C) (leb C most_capacity) range);
      scenes = leb→le (scenes_held ws) most_scenes (and_right (a && b) s three);
      counts = λ k l. leb→le (kept_count ws k) C (all-at heights p (and_right (a && b && s) (all_below heights p) four) k l);
    }

-- the words before the first list are there
pub header-front : (ws : List ℕ) → T (header_ok ws) → scene_position most_scenes ≤ length ws
header-front ws t = omega (arith, (header ws t).room)

-- ---- the ways through the header's test, in the code's order: size, scenes, counts, zeros

module _ (ws : List ℕ) where
  -- capacity and room
  abbrev pub sized : Bool
  sized = capacity_ok (capacity_of ws) && leb (used (capacity_of ws)) (length ws)

  -- no list keeps more cells than the capacity
  abbrev pub counted : Bool
  counted = all_below heights (λ k. leb (kept_count ws k) (capacity_of ws))

  abbrev pub zeros : Bool
  zeros = blank ws zeros_position (first_scene - zeros_position)

  abbrev parts : Bool → Bool → Bool → Bool
  parts s h k = s && h && k && zeros

  in_parts : header_ok ws ≡ parts sized (leb (scenes_held ws) most_scenes) counted
  unfolding header_ok
  in_parts = ap (λ (s : Bool). parts s (leb (scenes_held ws) most_scenes) counted) (and_comm (leb (used (capacity_of ws)) (length ws)) (capacity_ok (capacity_of ws)))

  pub header-short : length ws < scene_position most_scenes → header_ok ws ≡ false
  unfolding header_ok
  header-short l = rw (lt-leb (used (capacity_of ws)) (length ws) (omega arith))

  pub header-unsized : sized ≡ false → header_ok ws ≡ false
  header-unsized e = in_parts ∙ ap (λ (s : Bool). parts s (leb (scenes_held ws) most_scenes) counted) e

  pub header-crowded : sized ≡ true → most_scenes < scenes_held ws → header_ok ws ≡ false
  header-crowded e l = in_parts ∙ ap₂ (λ (s h : Bool). parts s h counted) e (lt-leb (scenes_held ws) most_scenes l)

  pub header-overfull : sized ≡ true → scenes_held ws ≤ most_scenes → counted ≡ false → header_ok ws ≡ false
  header-overfull e l f = in_parts ∙ ap₂ (λ (s h : Bool). parts s h counted) e (le-leb (scenes_held ws) most_scenes l) ∙ ap (λ (k : Bool). parts true true k) f

  pub header-zeros : sized ≡ true → scenes_held ws ≤ most_scenes → counted ≡ true → header_ok ws ≡ zeros
  header-zeros e l f = in_parts ∙ ap₂ (λ (s h : Bool). parts s h counted) e (le-leb (scenes_held ws) most_scenes l) ∙ ap (λ (k : Bool). parts true true k) f
