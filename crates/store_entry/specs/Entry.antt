-- What every question on a scene tests first, and what it then asks: the scene's depth and root pointer. Definitions only.
use Rattle.std.specs.Prelude.{Bool, cond, List, map, ℕ}
use Rattle.paper.specs.Store.{header_ok, scene_ok, scene_depth, scene_root}
use Rattle.paper.specs.Answers.{Told, told}
use Rattle.paper.specs.Calls.{no_scene}
use Rattle.paper.specs.declared.Refusal.TheVariants.{DamagedStore, NoScene}
use Rattle.paper.specs.declared.Refusal.{Refusal}

-- a scene that can be asked, by its depth and root pointer; or the refusal
pub data Entry : Type 0 where
  Root : ℕ → ℕ → Entry
  Refused : Refusal → Entry

-- 2 (header), 9, 2 (the scene's two words), or the scene's depth and root pointer
unfoldable pub entry_of : List ℕ → ℕ → Entry
entry_of ws n =
    cond (header_ok ws) (cond (no_scene ws n) (Refused NoScene) (cond (scene_ok ws n) (Root (scene_depth ws n) (scene_root ws n)) (Refused DamagedStore))) (Refused DamagedStore)

-- what a question tells past those tests: refused by 10 (outside), then by 2 (damage on its way), or its values
abbrev pub past_entry : Bool → Bool → List ℕ → Told
past_entry out walk xs = let zeros : List ℕ = map (λ x. 0) xs in cond out (told 10 zeros) (cond walk (told 2 zeros) (told 0 xs))
