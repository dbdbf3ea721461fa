-- The ways through the test of a scene, in the code's words: its depth first, then its root pointer.
-- Each by the value of the test passed, at which the definition computes. Assumes nothing.
use mathlib.Core.Path.{◌≡◌, sym, ap, ◌∙◌}
use mathlib.Core.Bool.{Bool, true, false, not, ◌&&◌}
use mathlib.Core.List.{List}
use Prim.Native.Nat.{ℕ, ◌-◌}
use Rattle.paper.specs.Rooms.{depth_ok}
use Rattle.paper.specs.Store.{bad_pointer, kept_count, scene_depth, scene_root, scene_ok}

module _ (ws : List ℕ) (n D : ℕ) (e : D ≡ scene_depth ws n) where
  abbrev by-depth : ℕ → Bool → Bool
  by-depth d b = b && not (bad_pointer (kept_count ws (d - 2)) (scene_root ws n))

  pub scene-shallow : depth_ok D ≡ false → scene_ok ws n ≡ false
  unfolding scene_ok
  scene-shallow f = sym (ap (λ (d : ℕ). by-depth d (depth_ok d)) e) ∙ ap (by-depth D) f

  pub scene-rooted : depth_ok D ≡ true → scene_ok ws n ≡ not (bad_pointer (kept_count ws (D - 2)) (scene_root ws n))
  unfolding scene_ok
  scene-rooted t = sym (ap (λ (d : ℕ). by-depth d (depth_ok d)) e) ∙ ap (by-depth D) t
