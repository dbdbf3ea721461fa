-- New store and add answer the same with other words behind those used, write as many words as there are, and leave what is behind as it was. By
-- the length of what they write: that of the words used, since adding keeps a store fine. Assumes nothing.
use mathlib.Core.Path.{◌≡◌, refl, sym, ap, ap₂, ◌∙◌}
use mathlib.Core.Bool.{Bool, true, false, cond, not, ◌&&◌}
use mathlib.Core.List.{List, [], ◌∷◌, ◌++◌, append_assoc}
use Prim.Native.Nat.{ℕ, ◌-◌, ◌<◌, ◌≤◌}
use native.Mathlib.Omega.{arith}
use borrow.Author.Tests.{le-leb, lt-leb, eqb-true, not-false}
use lib.Dec.{T, eqb, leb}
use lib.ListN.{length, drop, get_or, set, replicate, length-append, length-drop, length-set, length-replicate}
use lib.Seq.{drop-append-le, set-append_left}
use Rattle.paper.specs.Outline.{file_depth, outline_tree}
use Rattle.paper.specs.Store.{Cell, most_scenes, used, capacity_of, store_of, words_of, capacity_ok, header_ok, store_ok}
use Rattle.paper.specs.Match.{add_tree}
use Rattle.paper.specs.Answers.{Outcome}
use Rattle.paper.specs.Order.{when, first_number, settled}
use Rattle.paper.specs.Calls.{over, cleared, bad_size, new_order, new_words, new_outcome, next_scene, scenes_full, adding, cells_full, is_full, outline_order, add_order, with_scene, add_words, add_outcome}
use Rattle.laws.proofs.Tests.{true-T}
use Rattle.laws.proofs.Orders.{none_passed, lent-first, told-number, told-values}
use Rattle.laws.proofs.Outlines.{Accepted}
use Rattle.laws.proofs.OutlineClaim.{file-accepted}
use Rattle.laws.proofs.Undamaged.{fine-header, store-header}
use Rattle.laws.proofs.AddingFine.{add-length}
use Rattle.laws.proofs.UnseenWords.{no_header, capacity-unseen, held-unseen, kept-unseen, store-unseen, undamaged-unseen}

-- ---- what is lent

-- a call that writes: where accepted, the words written over f and over f with r behind differ by r alone
pub record Written (o o' : Outcome) (f r : List ℕ) : Type 0 where
  pub number : o'.number ≡ o.number
  pub values : o'.values ≡ o.values
  pub after : get_or o'.lent 0 [] ≡ get_or o.lent 0 [] ++ r
  pub long : length (get_or o.lent 0 []) ≡ length f

written : (N N' : ℕ) (vs vs' A A' f r : List ℕ) → N' ≡ N → vs' ≡ vs → (N ≡ 0 → (A' ≡ A ++ r) × (length A ≡ length f))
    → Written (settled N vs (A ∷ []) (f ∷ [])) (settled N' vs' (A' ∷ []) ((f ++ r) ∷ [])) f r
written N N' vs vs' A A' f r n v q = record {
  number = ap₂ (λ (m : ℕ) (us : List ℕ). (settled m us (A' ∷ []) ((f ++ r) ∷ [])).number) n v ∙ told-number N vs (A' ∷ []) ((f ++ r) ∷ []) (A ∷ []) (f ∷ []);
  values = ap₂ (λ (m : ℕ) (us : List ℕ). (settled m us (A' ∷ []) ((f ++ r) ∷ [])).values) n v ∙ told-values N vs (A' ∷ []) ((f ++ r) ∷ []) (A ∷ []) (f ∷ []);
  after = lent-first N' vs' A' (f ++ r) ∙ ap (λ (m : ℕ). cond (eqb m 0) A' (f ++ r)) n ∙ same (eqb N 0) refl ∙ sym (ap (λ (l : List ℕ). l ++ r) (lent-first N vs A f));
  long = ap length (lent-first N vs A f) ∙ many (eqb N 0) refl;
}
  where
    same : (b : Bool) → eqb N 0 ≡ b → cond b A' (f ++ r) ≡ cond b A f ++ r
    same true e = (q (eqb-true N 0 e)).0
    same false e = refl

    many : (b : Bool) → eqb N 0 ≡ b → length (cond b A f) ≡ length f
    many true e = (q (eqb-true N 0 e)).1
    many false e = refl

-- ---- new store

module _ (C : ℕ) (f r : List ℕ) (whole : used C ≤ length f) where
  size-unseen : bad_size C (f ++ r) ≡ bad_size C f
  unfolding bad_size
  size-unseen =
      ap (λ (b : Bool). not (capacity_ok C && b))
      (le-leb (used C) (length (f ++ r)) (rw (length-append f r) (omega arith)) ∙ sym (le-leb (used C) (length f) whole))

  new_words_lem : new_words C (f ++ r) ≡ new_words C f ++ r
  unfolding new_words
  new_words_lem =
      let Z : List ℕ = replicate (used C) 0 in
      let long : length Z ≡ used C = length-replicate (used C) 0 in
      ap (λ (l : List ℕ). set (Z ++ l) 0 C) (drop-append-le (used C) f r whole) ∙ ap (λ (l : List ℕ). set l 0 C) (sym (append_assoc Z (drop (used C) f) r))
      ∙ set-append_left (Z ++ drop (used C) f) r 0 C (rw (length-append Z (drop (used C) f)) (omega arith))

  new-long : length (new_words C f) ≡ length f
  unfolding new_words
  new-long =
      let Z : List ℕ = replicate (used C) 0 in
      let long : length Z ≡ used C = length-replicate (used C) 0 in
      length-set (cleared (used C) f) 0 C ∙ length-append Z (drop (used C) f) ∙ omega (arith, length-drop (used C) f)

  pub new-written : Written (new_outcome C f) (new_outcome C (f ++ r)) f r
  unfolding new_outcome
  new-written =
      written (first_number (new_order C f)) (first_number (new_order C (f ++ r))) [] [] (new_words C f) (new_words C (f ++ r)) f r
      (ap (λ (b : Bool). first_number (when b 1 ∷ [])) size-unseen) refl (λ e. (new_words_lem, new-long))

pub new-short : (C : ℕ) (ws : List ℕ) → length ws < used C → get_or (new_outcome C ws).lent 0 [] ≡ ws
unfolding new_outcome bad_size first_number
new-short C ws l =
    lent-first (first_number (new_order C ws)) [] (new_words C ws) ws ∙ rw (lt-leb (used C) (length ws) l) (go (capacity_ok C))
  where
    go : (b : Bool) → cond (eqb (cond (not (b && false)) 1 0) 0) (new_words C ws) ws ≡ ws
    go true = refl
    go false = refl

-- ---- add

-- a file is accepted by an undamaged store with room for a scene and for its cells
pub record Addable (ws file : List ℕ) : Type 0 where
  pub sound : T (store_ok ws)
  pub good : Accepted file
  pub room : scenes_full ws ≡ false
  pub fits : cells_full ws file ≡ false

pub add-accepted : (ws file : List ℕ) → first_number (add_order ws file) ≡ 0 → Addable ws file
add-accepted ws file e =
    let a = none_passed (not (store_ok ws)) 1 _ e in
    let b = file-accepted file _ a.1 in
    let c = none_passed (scenes_full ws) 6 _ b.1 in
    let d = none_passed (cells_full ws file) 7 _ c.1 in
    record { sound = true-T (not-false (store_ok ws) a.0); good = b.0; room = c.0; fits = d.0 }

order_same : (s F F' A A' : Bool) (file : List ℕ) → (T s → (F ≡ F') × (A ≡ A'))
    → first_number (when (not s) 2 ∷ outline_order file ++ (when F 7 ∷ when A 8 ∷ [])) ≡ first_number (when (not s) 2 ∷ outline_order file ++ (when F' 7 ∷ when A' 8 ∷ []))
unfolding first_number
order_same false F F' A A' file q = refl
order_same true F F' A A' file q = λ i. first_number (outline_order file ++ (when ((q tt).0 i) 7 ∷ when ((q tt).1 i) 8 ∷ []))

module _ (f r file : List ℕ) (whole : used (capacity_of f) ≤ length f) where
  adding-unseen : T (store_ok f) → adding (f ++ r) file ≡ adding f file
  unfolding adding
  adding-unseen t =
      ap₂ (λ (C : ℕ) (K : List (List Cell)). add_tree C (outline_tree file) (file_depth file - 2) K)
      (capacity-unseen f r whole) (kept-unseen f r whole (store-header f t))

  order-unseen : first_number (add_order (f ++ r) file) ≡ first_number (add_order f file)
  unfolding cells_full
  order-unseen =
      ap (λ (s : Bool). first_number (when (not s) 2 ∷ outline_order file ++ (when (scenes_full (f ++ r)) 7 ∷ when (cells_full (f ++ r) file) 8 ∷ []))) (undamaged-unseen f r whole)
      ∙ order_same (store_ok f) (scenes_full (f ++ r)) (scenes_full f) (cells_full (f ++ r) file) (cells_full f file) file
      (λ t. (ap (leb most_scenes) (held-unseen f r whole), ap is_full (adding-unseen t)))

  add_words_lem : Addable f file → (add_words (f ++ r) file ≡ add_words f file ++ r) × (length (add_words f file) ≡ length f)
  unfolding add_words
  add_words_lem a =
      let t : T (store_ok f) = a.sound in
      let D : ℕ = file_depth file in
      let W : List ℕ = words_of (with_scene (store_of f) (next_scene f) D (adding f file)) in
      let long : length W ≡ used (capacity_of f) = add-length f file (fine-header f (store-header f t)) a.room in (
        (λ i. over (words_of (with_scene (store-unseen f r whole (store-header f t) i) (held-unseen f r whole i) D (adding-unseen t i))) (f ++ r))
            ∙ ap (λ (l : List ℕ). W ++ l) (drop-append-le (length W) f r (omega arith)) ∙ sym (append_assoc W (drop (length W) f) r),
        length-append W (drop (length W) f) ∙ omega (arith, length-drop (length W) f),
      )

  pub add-written : Written (add_outcome f file) (add_outcome (f ++ r) file) f r
  unfolding add_outcome
  add-written =
      written (first_number (add_order f file)) (first_number (add_order (f ++ r) file)) (next_scene f ∷ []) (next_scene (f ++ r) ∷ []) (add_words f file) (add_words (f ++ r) file) f r
      order-unseen (ap (λ (n : ℕ). n ∷ []) (held-unseen f r whole)) (λ e. add_words_lem (add-accepted f file e))

header-short : (ws : List ℕ) → length ws < used (capacity_of ws) → header_ok ws ≡ false
unfolding header_ok
header-short ws l = rw (lt-leb (used (capacity_of ws)) (length ws) l)

pub add-short : (ws file : List ℕ) → length ws < used (capacity_of ws) → get_or (add_outcome ws file).lent 0 [] ≡ ws
unfolding add_outcome first_number
add-short ws file l =
    lent-first (first_number (add_order ws file)) (next_scene ws ∷ []) (add_words ws file) ws ∙ rw (no_header ws (header-short ws l))
