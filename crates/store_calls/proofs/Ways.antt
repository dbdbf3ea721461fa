-- The ways through new store and kept, in the code's words: refused, or answered.
-- Each by the value of the tests of the call's order, at which the outcome computes. Assumes nothing.
use mathlib.Core.Path.{◌≡◌, refl, sym, ap, ap₂, ◌∙◌}
use mathlib.Core.Bool.{Bool, true, false, not, ◌&&◌}
use mathlib.Core.List.{List, [], ◌∷◌}
use Prim.Native.Nat.{ℕ, ◌-◌, ◌≤◌}
use lib.Dec.{leb, leb→le}
use lib.ListN.{length, set}
use Rattle.laws.proofs.Tests.{true-T, and_left, and_right}
use Rattle.paper.specs.Rooms.{depth_ok}
use Rattle.paper.specs.Store.{most_capacity, used, kept_count, capacity_ok, header_ok}
use Rattle.paper.specs.Answers.{Outcome, outcome, started, kept, number_of}
use Rattle.paper.specs.Order.{when, first_number, settled}
use Rattle.paper.specs.Calls.{bad_size, cleared, new_words, new_outcome, kept_outcome}
use Rattle.paper.specs.declared.Refusal.TheVariants.{BadSize, DamagedStore, Outside}
use Rattle.std.specs.Prelude.{Ok, Err}

-- ---- new store

module _ (C : ℕ) (ws : List ℕ) where
  abbrev pub fits : Bool
  fits = capacity_ok C && leb (used C) (length ws)

  pub fits-capacity : fits ≡ true → C ≤ most_capacity
  fits-capacity e = leb→le C most_capacity (and_right (leb 1 C) (leb C most_capacity) (and_left (capacity_ok C) (leb (used C) (length ws)) (true-T e)))

  pub fits-room : fits ≡ true → used C ≤ length ws
  fits-room e = leb→le (used C) (length ws) (and_right (capacity_ok C) (leb (used C) (length ws)) (true-T e))

  abbrev by_fits : Bool → Outcome
  by_fits b = settled (first_number (when (not b) (number_of BadSize) ∷ [])) [] (new_words C ws ∷ []) (ws ∷ [])

  new-whole : new_outcome C ws ≡ by_fits fits
  unfolding new_outcome bad_size
  new-whole = refl

  pub new-refused : fits ≡ false → outcome (started (Err BadSize)) (ws ∷ []) ≡ new_outcome C ws
  unfolding first_number settled
  new-refused e = sym (new-whole ∙ ap by_fits e)

  pub new-made : fits ≡ true → (l : List ℕ) → l ≡ cleared (used C) ws → outcome (started (Ok tt)) (set l 0 C ∷ []) ≡ new_outcome C ws
  unfolding first_number settled new_words
  new-made e l p = ap (λ (m : List ℕ). outcome (started (Ok tt)) (set m 0 C ∷ [])) p ∙ sym (new-whole ∙ ap by_fits e)

-- ---- kept

module _ (ws : List ℕ) (h : ℕ) where
  abbrev by_tests : Bool → Bool → Outcome
  by_tests p q = settled (first_number (when (not p) (number_of DamagedStore) ∷ when (not q) (number_of Outside) ∷ [])) (kept_count ws (h - 2) ∷ []) [] []

  kept_whole : kept_outcome ws h ≡ by_tests (header_ok ws) (depth_ok h)
  unfolding kept_outcome
  kept_whole = refl

  pub kept-damaged : header_ok ws ≡ false → outcome (kept (Err DamagedStore)) [] ≡ kept_outcome ws h
  unfolding first_number settled
  kept-damaged e = sym (kept_whole ∙ ap (λ (p : Bool). by_tests p (depth_ok h)) e)

  pub kept-outside : header_ok ws ≡ true → depth_ok h ≡ false → outcome (kept (Err Outside)) [] ≡ kept_outcome ws h
  unfolding first_number settled
  kept-outside e f = sym (kept_whole ∙ ap₂ by_tests e f)

  pub kept-answered : header_ok ws ≡ true → depth_ok h ≡ true → outcome (kept (Ok (kept_count ws (h - 2)))) [] ≡ kept_outcome ws h
  unfolding first_number settled
  kept-answered e f = sym (kept_whole ∙ ap₂ by_tests e f)
