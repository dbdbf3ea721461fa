-- A question on a scene, settled by its tests as code meets them: what each refusal answers, and what is answered past all of them. By the laws of
-- a question's order. Assumes nothing.
use mathlib.Core.Path.{◌≡◌, sym}
use mathlib.Core.Bool.{Bool, true, false, not, cond}
use mathlib.Core.List.{List}
use Prim.Native.Nat.{ℕ, ◌<◌}
use lib.Dec.{T}
use Rattle.paper.specs.Answers.{Outcome}
use Rattle.paper.specs.Store.{is_held, most_scenes, header_ok, scene_ok}
use Rattle.paper.specs.Calls.{no_scene}
use Rattle.laws.proofs.Undamaged.{fine-header, held-placed}
use Rattle.store_entry.proofs.Asked.{asked, refused_by, answered, asked-header, asked-scene, asked-words, asked-out, asked-walk}

twice : (b : Bool) → T b → T (not (not b))
twice true t = tt
twice false t = t

-- a scene that is held has its two words
pub held_fits : (ws : List ℕ) (n : ℕ) → T (header_ok ws) → T (is_held ws n) → n < most_scenes
held_fits ws n h l = held-placed ws n (fine-header ws h).held l

module _ (ws : List ℕ) (n : ℕ) (out walk : Bool) (xs : List ℕ) where
  abbrev question : Outcome
  question = asked (not (header_ok ws)) (no_scene ws n) (not (scene_ok ws n)) out walk xs

  pub by-header : T (not (header_ok ws)) → refused_by 2 xs ≡ question
  by-header h = sym (asked-header (not (header_ok ws)) (no_scene ws n) (not (scene_ok ws n)) out walk xs h)

  pub by-scene : T (header_ok ws) → T (no_scene ws n) → refused_by 9 xs ≡ question
  by-scene h l = sym (asked-scene (not (header_ok ws)) (no_scene ws n) (not (scene_ok ws n)) out walk xs (twice (header_ok ws) h) l)

  module _ (h : T (header_ok ws)) (l : T (is_held ws n)) where
    held : T (not (no_scene ws n))
    held = twice (is_held ws n) l

    pub by-words : T (not (scene_ok ws n)) → refused_by 2 xs ≡ question
    by-words s = sym (asked-words (not (header_ok ws)) (no_scene ws n) (not (scene_ok ws n)) out walk xs (twice (header_ok ws) h) held s)

    pub by_out : T (scene_ok ws n) → T out → refused_by 10 xs ≡ question
    by_out s o = sym (asked-out (not (header_ok ws)) (no_scene ws n) (not (scene_ok ws n)) out walk xs (twice (header_ok ws) h) held (twice (scene_ok ws n) s) o)

    pub by-walk : T (scene_ok ws n) → T (not out) → cond walk (refused_by 2 xs) (answered xs) ≡ question
    by-walk s o = sym (asked-walk (not (header_ok ws)) (no_scene ws n) (not (scene_ok ws n)) out walk xs (twice (header_ok ws) h) held (twice (scene_ok ws n) s) o)
