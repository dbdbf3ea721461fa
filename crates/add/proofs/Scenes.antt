-- A scene taken into an undamaged store: the outcome is the paper's, with the cells of the file added and the scene's two words behind the others,
-- or with every word as it was where a height is full. By what taking the root's record comes to on the words of the store. Assumes nothing.
use mathlib.Core.Path.{◌≡◌, refl, sym, ◌∙◌, ap, ap₂, subst}
use mathlib.Core.Bool.{cond}
use mathlib.Core.List.{List, [], ◌∷◌, ◌++◌}
use Prim.Native.Nat.{ℕ, suc, ◌<◌, ◌≤◌}
use native.Mathlib.Omega.{arith}
use lib.Dec.{T}
use lib.ListN.{length, drop, get_or, set}
use borrow.Author.Tests.{lt-leb}
use Rattle.paper.specs.Numbers.{tabulate}
use Rattle.paper.specs.Outline.{file_depth}
use Rattle.paper.specs.Store.{Cell, cells_at, most_scenes, heights, scenes_held, kept_count, kept_of, store_of, words_of, header_ok}
use Rattle.paper.specs.Match.{Adding, full, added}
use Rattle.paper.specs.Answers.{told, outcome, added as added-told}
use Rattle.std.specs.Prelude.{Ok, Err}
use Rattle.paper.specs.declared.Refusal.TheVariants.{CellsFull}
use Rattle.paper.specs.Order.{first_number}
use Rattle.paper.specs.Calls.{over, next_scene, adding, is_full, cells_full, add_order, with_scene, add_words, add_outcome}
use Rattle.laws.proofs.Refusals.{settled-accepted, settled-refused, add-number}
use Rattle.laws.proofs.Words.{stored, store_with, words_of-length, scene-fine}
use Rattle.add_keep.specs.Keeping.{hold_in, cut_back}
use Rattle.add_keep.proofs.Stored.{hold-stored}
use Rattle.add_keep.proofs.Cutting.{cut-stored, cut-counts, counts-taken}
use Rattle.add_records.specs.RecordAdding.{record_added, record_full}
use Rattle.add_records.proofs.Settings.{Setting, Fitting}
use Rattle.add_records.proofs.SettingWords.{held-is, header-in-order}
use Rattle.add.specs.SceneAdding.{add_root}
use Rattle.add.proofs.Roots.{accepted}
use Rattle.add.proofs.RootStanding.{Lent, setting, good, again, Standing, stands-as}

module _ (ws file : List ℕ) (lent : Lent ws file) where
  abbrev g : Setting
  g = setting ws file lent

  abbrev D : ℕ
  D = file_depth file

  abbrev K : List (List Cell)
  K = kept_of ws

  abbrev C : ℕ
  C = g.capacity

  abbrev N : ℕ
  N = g.held

  room : N < most_scenes
  room = lent.ready.room

  number : (a : Adding ℕ) → adding ws file ≡ a → first_number (add_order ws file) ≡ cond (is_full a) 8 0
  unfolding cells_full
  number a e =
      add-number ws file lent.ready.whole (accepted file lent.ready.fair) (lt-leb most_scenes N room)
      ∙ ap (λ (b : Adding ℕ). cond (is_full b) 8 0) e

  -- ---- taken: the scene's two words follow

  -- the places with this one
  abbrev more : ℕ → List Cell
  more p = set g.places (next_scene ws) (D ∷ p ∷ [])

  words-added : (p : ℕ) (K' : List (List Cell)) → adding ws file ≡ added p K' → Fitting g K' → add_words ws file ≡ stored C (suc N) (more p) K' g.behind
  unfolding add_words store_of
  words-added p K' e f =
      ap (λ (a : Adding ℕ). over (words_of (with_scene (store_of ws) (next_scene ws) D a)) ws) e
      ∙ ap (λ (n : ℕ). words_of (store_with C (suc N) (more p) K') ++ drop n ws) (words_of-length C (suc N) (more p) K' (scene-fine C N g.places K' f (next_scene ws) (D ∷ p ∷ []) refl room))

  module _ (next p m n : ℕ) (v : List ℕ) (told-so : add_root file ws ≡ record_added next p m n v) where
    taken_as : (a : Adding ℕ) → adding ws file ≡ a → Standing ws file lent a (record_added next p m n v) → outcome (added-told (Ok (scenes_held ws))) (hold_in (D ∷ p ∷ []) v ∷ []) ≡ add_outcome ws file
    unfolding add_outcome
    taken_as full e s = absurd s
    taken_as (added q K') e s =
        let f = s.good.fine in
        ap (λ (l : List ℕ). outcome (told 0 (next_scene ws ∷ [])) (l ∷ []))
        (ap₂ (λ (r : ℕ) (w : List ℕ). hold_in (D ∷ r ∷ []) w) s.same s.words ∙ hold-stored C N g.places K' f g.behind (D ∷ q ∷ []) refl room ∙ sym (words-added q K' e f))
        ∙ sym (settled-accepted (first_number (add_order ws file)) (next_scene ws ∷ []) (add_words ws file ∷ []) (ws ∷ []) (number (added q K') e))

    pub taken-outcome : outcome (added-told (Ok (scenes_held ws))) (hold_in (D ∷ p ∷ []) v ∷ []) ≡ add_outcome ws file
    taken-outcome = taken_as (adding ws file) refl (stands-as ws file lent _ told-so)

    ready-as : (a : Adding ℕ) → Standing ws file lent a (record_added next p m n v) → T (header_ok v) × (scenes_held v < most_scenes)
    ready-as full s = absurd s
    ready-as (added q K') s =
        let f = s.good.fine in
        rw s.words (header-in-order g K' f, omega (arith, held-is g K' f, room))

    pub hold-ready : T (header_ok v) × (scenes_held v < most_scenes)
    hold-ready = ready-as (adding ws file) (stands-as ws file lent _ told-so)

  -- ---- full: cut back

  module _ (v : List ℕ) (told-so : add_root file ws ≡ record_full v) where
    abbrev ns : List ℕ
    ns = tabulate 0 heights (kept_count ws)

    counted : (k : ℕ) → k < heights → get_or ns k 0 ≡ length (cells_at K k)
    counted k h =
        subst (λ (w : List ℕ). get_or (tabulate 0 heights (kept_count w)) k 0 ≡ length (cells_at K k)) (again ws file lent)
        (counts-taken C N g.places K (good ws file lent).fine g.behind k h)

    full-as : (a : Adding ℕ) → adding ws file ≡ a → Standing ws file lent a (record_full v) → outcome (added-told (Err CellsFull)) (cut_back ns v ∷ []) ≡ add_outcome ws file
    unfolding add_outcome
    full-as (added q K') e s = absurd s
    full-as full e s =
        let eight : first_number (add_order ws file) ≡ 8 = number full e in
        ap₂ (λ (l : List ℕ) (n : ℕ). outcome (told n (0 ∷ [])) (l ∷ []))
        (ap (cut_back ns) s.words
        ∙ cut-stored C N g.places K s.lists s.fine s.grown.ext (good ws file lent).fine.lists g.behind ns counted (good ws file lent).sound.ok ∙ again ws file lent)
        (sym eight)
        ∙ sym (settled-refused (first_number (add_order ws file)) (next_scene ws ∷ []) (add_words ws file ∷ []) (ws ∷ []) (λ z. omega arith))

    pub full-outcome : outcome (added-told (Err CellsFull)) (cut_back (tabulate 0 heights (kept_count ws)) v ∷ []) ≡ add_outcome ws file
    full-outcome = full-as (adding ws file) refl (stands-as ws file lent _ told-so)

    cut_as : (a : Adding ℕ) → Standing ws file lent a (record_full v) → T (header_ok v) × ((k : ℕ) → k < heights → get_or ns k 0 ≤ kept_count v k)
    cut_as (added q K') s = absurd s
    cut_as full s =
        rw s.words
        (header-in-order g s.lists s.fine, cut-counts C N g.places K s.lists s.fine s.grown.ext (good ws file lent).fine.lists g.behind ns counted)

    pub cut-ready : T (header_ok v) × ((k : ℕ) → k < heights → get_or (tabulate 0 heights (kept_count ws)) k 0 ≤ kept_count v k)
    cut-ready = cut_as (adding ws file) (stands-as ws file lent _ told-so)
