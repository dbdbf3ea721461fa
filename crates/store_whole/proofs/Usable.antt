-- The ways through the tests of a leaf, of the cells of a list, of a scene's place and of the whole store, in the code's words.
-- Each by the value of the tests passed, at which the definition computes; a list by what it has from a cell on. Assumes nothing.
use mathlib.Core.Path.{◌≡◌, refl, sym, ap, ap₂, ◌∙◌}
use mathlib.Core.Bool.{Bool, true, false, cond, ◌&&◌}
use mathlib.Core.List.{List, []}
use Prim.Native.Nat.{ℕ, zero, suc, ◌+◌, ◌-◌, ◌≤◌, ◌<◌}
use native.Mathlib.Numerals.{add-one, sub-one}
use native.Mathlib.Omega.{arith}
use lib.ListN.{length, drop, get_or, drop_of_length-le}
use lib.Seq.{drop-cons}
use borrow.Author.Tests.{lt-ltb, le-ltb}
use Rattle.paper.specs.Numbers.{all_below, all_in}
use Rattle.paper.specs.Store.{Cell, cells_at, leaf_no, most_scenes, heights, is_held, kept_of, header_ok, scene_ok, is_free, place_ok, leaf_usable, cell_usable, list_usable, counts_ok, chains_ok, list_blank, store_ok}

-- ---- a leaf

pub leaf-empty : (c : Cell) → leaf_no c ≡ 0 → leaf_usable c ≡ false
unfolding leaf_usable
leaf-empty c e = le-ltb 0 (leaf_no c) (omega arith)

pub leaf-filled : (c : Cell) → (leaf_no c ≡ 0 → ⊥) → leaf_usable c ≡ true
unfolding leaf_usable
leaf-filled c z = lt-ltb 0 (leaf_no c) (omega arith)

-- ---- a loop over a list's cells, with an answer A that is still that of the cells from n on

first : (p : Cell → Bool) (l : List Cell) (n : ℕ) → n < length l → all_in p (drop n l) ≡ cond (p (get_or l n [])) (all_in p (drop (n + 1) l)) false
unfolding all_in
first p l n h = rw (add-one n, drop-cons l n [] h)

module _ (p : Cell → Bool) (l : List Cell) (n : ℕ) {A : Bool} where
  pub in-still : A ≡ all_in p (drop n l) → n < length l → p (get_or l n []) ≡ true → A ≡ all_in p (drop (n + 1) l)
  in-still a h e = a ∙ first p l n h ∙ ap (λ (b : Bool). cond b (all_in p (drop (n + 1) l)) false) e

  pub in-stop : A ≡ all_in p (drop n l) → n < length l → p (get_or l n []) ≡ false → A ≡ false
  in-stop a h e = a ∙ first p l n h ∙ ap (λ (b : Bool). cond b (all_in p (drop (n + 1) l)) false) e

  pub in_end : A ≡ all_in p (drop n l) → length l ≤ n → A ≡ true
  unfolding all_in
  in_end a h = a ∙ ap (all_in p) (drop_of_length-le l h)

pub list-leaves : (K : List (List Cell)) → list_usable K 0 ≡ all_in leaf_usable (cells_at K 0)
unfolding list_usable
list-leaves K = refl

pub list-cells : (K : List (List Cell)) (k m : ℕ) → 1 ≤ k → m ≡ length (cells_at K (k - 1)) → list_usable K k ≡ all_in (cell_usable m) (cells_at K k)
unfolding list_usable
list-cells K zero m o e = absurd (omega arith)
list-cells K (suc k) m o e =
    let f : length (cells_at K k) ≡ m = rw (sub-one (suc k)) at (sym e) in
    ap (λ (i : ℕ). all_in (cell_usable i) (cells_at K (suc k))) f

-- ---- a place of the scenes

module _ (ws : List ℕ) (n : ℕ) where
  abbrev by-held : Bool → Bool
  by-held b = cond b (scene_ok ws n) (is_free ws n)

  pub place-held : is_held ws n ≡ true → place_ok ws n ≡ scene_ok ws n
  unfolding place_ok
  place-held e = ap by-held e

  pub place-free : is_held ws n ≡ false → place_ok ws n ≡ is_free ws n
  unfolding place_ok
  place-free e = ap by-held e

-- ---- the whole store

module _ (ws : List ℕ) where
  abbrev scenes : Bool
  scenes = all_below most_scenes (place_ok ws)

  abbrev usable : Bool
  usable = all_below heights (list_usable (kept_of ws))

  abbrev spare : Bool
  spare = all_below heights (list_blank ws)

  abbrev counted : Bool
  counted = all_below heights (counts_ok ws)

  abbrev parts : Bool → Bool → Bool → Bool → Bool → Bool
  parts h s u b n = h && s && u && b && n && chains_ok ws

  in_parts : store_ok ws ≡ parts (header_ok ws) scenes usable spare counted
  unfolding store_ok
  in_parts = refl

  pub store-scenes : header_ok ws ≡ true → scenes ≡ false → store_ok ws ≡ false
  store-scenes e f = in_parts ∙ ap₂ (λ (h s : Bool). parts h s usable spare counted) e f

  module _ (e : header_ok ws ≡ true) (f : scenes ≡ true) where
    in_order : store_ok ws ≡ parts true true usable spare counted
    in_order = in_parts ∙ ap₂ (λ (h s : Bool). parts h s usable spare counted) e f

    pub store-unusable : usable ≡ false → store_ok ws ≡ false
    store-unusable u = in_order ∙ ap (λ (v : Bool). parts true true v spare counted) u

    pub store-unblank : usable ≡ true → spare ≡ false → store_ok ws ≡ false
    store-unblank u b = in_order ∙ ap₂ (λ (v w : Bool). parts true true v w counted) u b

    module _ (u : usable ≡ true) (b : spare ≡ true) where
      in-lists : store_ok ws ≡ parts true true true true counted
      in-lists = in_order ∙ ap₂ (λ (v w : Bool). parts true true v w counted) u b

      pub store-miscounted : counted ≡ false → store_ok ws ≡ false
      store-miscounted n = in-lists ∙ ap (λ (v : Bool). parts true true true true v) n

      pub store-rest : counted ≡ true → store_ok ws ≡ chains_ok ws
      store-rest n = in-lists ∙ ap (λ (v : Bool). parts true true true true v) n
