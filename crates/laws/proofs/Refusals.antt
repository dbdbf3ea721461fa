-- A call's tests in their order: its outcome from the number of the first that passes, when that number can be 2, and what it says where an order
-- ends in 0. By cases on the tests. Assumes nothing.
use mathlib.Core.Path.{◌≡◌, refl, sym, ◌∙◌, ap}
use mathlib.Core.Bool.{Bool, true, false, false≢true, cond, not, ◌&&◌}
use mathlib.Core.List.{List, [], ◌∷◌, ◌++◌, map}
use Prim.Native.Nat.{ℕ}
use native.Mathlib.Nat.{suc-ne-zero}
use borrow.Author.Tests.{eq-eqb, ne_eqb, eqb-true, eqb-false, not-true}
use lib.Dec.{T, eqb}
use Rattle.paper.specs.Rooms.{depth_ok}
use Rattle.paper.specs.Outline.{outline_version, outline_head, version_ok, length_ok, file_depth, outline_rules}
use Rattle.paper.specs.Store.{header_ok, scene_ok, store_ok}
use Rattle.paper.specs.Answers.{told, outcome}
use Rattle.paper.specs.Order.{Test, when, first_number, settled}
use Rattle.paper.specs.Calls.{scenes_full, cells_full, no_scene, add_order, question_order}
use Rattle.laws.proofs.Tests.{T_true, and_left, and_right}
use Rattle.laws.proofs.Outlines.{Accepted}

-- ---- orders one after the other

pub first-before : (ts us : List Test) → (first_number ts ≡ 0 → ⊥) → first_number (ts ++ us) ≡ first_number ts
unfolding first_number
first-before [] us ne = absurd (ne refl)
first-before (when b n ∷ ts) us ne = go b ne (first-before ts us)
  where
    go : (b : Bool) → (cond b n (first_number ts) ≡ 0 → ⊥) → ((first_number ts ≡ 0 → ⊥) → first_number (ts ++ us) ≡ first_number ts) → cond b n (first_number (ts ++ us)) ≡ cond b n (first_number ts)
    go true h ih = refl
    go false h ih = ih h

-- ---- the outcome from the number

pub settled-accepted : (n : ℕ) (vs : List ℕ) (after else : List (List ℕ)) → n ≡ 0 → settled n vs after else ≡ outcome (told 0 vs) after
unfolding settled
settled-accepted n vs after else e = rw (eq-eqb n 0 e)

pub settled-refused : (n : ℕ) (vs : List ℕ) (after else : List (List ℕ)) → (n ≡ 0 → ⊥) → settled n vs after else ≡ outcome (told n (map (λ v. 0) vs)) else
unfolding settled
settled-refused n vs after else ne = rw (ne_eqb n 0 ne)

pub settled-number : (n : ℕ) (vs : List ℕ) (after else : List (List ℕ)) → (settled n vs after else).number ≡ n
unfolding settled
settled-number n vs after else = go (eqb n 0) refl
  where
    go : (b : Bool) → eqb n 0 ≡ b → (cond b (outcome (told 0 vs) after) (outcome (told n (map (λ v. 0) vs)) else)).number ≡ n
    go true e = sym (eqb-true n 0 e)
    go false e = refl

-- ---- never 2

-- no test of the order gives 2
abbrev pub no_two : List Test → Bool
no_two [] = true
no_two (when b n ∷ ts) = not (eqb n 2) && no_two ts

first-not-2 : (ts : List Test) → T (no_two ts) → first_number ts ≡ 2 → ⊥
unfolding first_number
first-not-2 [] t e = eqb-false 0 2 refl e
first-not-2 (when b n ∷ ts) t e = go b e (first-not-2 ts (and_right (not (eqb n 2)) (no_two ts) t))
  where
    go : (b : Bool) → cond b n (first_number ts) ≡ 2 → (first_number ts ≡ 2 → ⊥) → ⊥
    go true q ih = eqb-false n 2 (not-true (eqb n 2) (T_true {b = not (eqb n 2)} (and_left (not (eqb n 2)) (no_two ts) t))) q
    go false q ih = ih q

pub never-2 : (ts : List Test) (vs : List ℕ) (after else : List (List ℕ)) → T (no_two ts) → (settled (first_number ts) vs after else).number ≡ 2 → ⊥
never-2 ts vs after else t e = first-not-2 ts t (sym (settled-number (first_number ts) vs after else) ∙ e)

-- where damage is tested first, and there is none
pub sound-never-2 : (damaged : Bool) (ts : List Test) (vs : List ℕ) (after else : List (List ℕ)) → damaged ≡ false → T (no_two ts)
    → (settled (first_number (when damaged 2 ∷ ts)) vs after else).number ≡ 2 → ⊥
unfolding first_number
sound-never-2 damaged ts vs after else d t e =
    first-not-2 ts t (ap (λ (b : Bool). cond b 2 (first_number ts)) (sym d) ∙ sym (settled-number (first_number (when damaged 2 ∷ ts)) vs after else) ∙ e)

-- ---- add

-- refused by none
pub record Passed (ws file : List ℕ) : Type 0 where
  pub accepted : Accepted file
  pub scenes : scenes_full ws ≡ false
  pub cells : cells_full ws file ≡ false

abbrev seven : Bool → Bool → Bool → Bool → Bool → Bool → Bool → ℕ
seven s a b c d f g = first_number (when (not s) 2 ∷ when (not a) 3 ∷ when (not b) 4 ∷ when (not c) 5 ∷ when (not d) 6 ∷ when f 7 ∷ when g 8 ∷ [])

seven-pass : (s a b c d f g : Bool) → seven s a b c d f g ≡ 0 → T a × T b × T c × T d × (f ≡ false) × (g ≡ false)
unfolding first_number
seven-pass false a b c d f g e = absurd (suc-ne-zero 1 e)
seven-pass true false b c d f g e = absurd (suc-ne-zero 2 e)
seven-pass true true false c d f g e = absurd (suc-ne-zero 3 e)
seven-pass true true true false d f g e = absurd (suc-ne-zero 4 e)
seven-pass true true true true false f g e = absurd (suc-ne-zero 5 e)
seven-pass true true true true true true g e = absurd (suc-ne-zero 6 e)
seven-pass true true true true true false true e = absurd (suc-ne-zero 7 e)
seven-pass true true true true true false false e = (tt, tt, tt, tt, refl, refl)

pub add-passed : (ws file : List ℕ) → first_number (add_order ws file) ≡ 0 → Passed ws file
add-passed ws file e =
    let p = seven-pass (store_ok ws) (version_ok outline_version file) (length_ok outline_head file) (depth_ok (file_depth file)) (outline_rules file) (scenes_full ws) (cells_full ws file) e in
    record { accepted = record { version = p.0; long = p.1; deep = p.2; rules = p.3 }; scenes = p.4; cells = p.5 }

-- an outline that meets no earlier refusal
pub add-number : (ws file : List ℕ) → T (store_ok ws) → Accepted file → scenes_full ws ≡ false → first_number (add_order ws file) ≡ cond (cells_full ws file) 8 0
unfolding first_number
add-number ws file s a f =
    rw (
      T_true {b = store_ok ws} s,
      T_true {b = version_ok outline_version file} a.version,
      T_true {b = length_ok outline_head file} a.long,
      T_true {b = depth_ok (file_depth file)} a.deep,
      T_true {b = outline_rules file} a.rules,
      f,
    )

-- ---- voxel, cell and box

pub question-accepted : (ws : List ℕ) (n : ℕ) (outside walk : Bool) → T (header_ok ws) → no_scene ws n ≡ false → T (scene_ok ws n) → outside ≡ false → walk ≡ false
    → first_number (question_order ws n outside walk) ≡ 0
unfolding first_number
question-accepted ws n outside walk h s o out w = rw (T_true {b = header_ok ws} h, s, T_true {b = scene_ok ws n} o, out, w)

-- refused by none: the tests passed
pub record QuestionPassed (ws : List ℕ) (n : ℕ) (outside walk : Bool) : Type 0 where
  pub header : T (header_ok ws)
  pub held : no_scene ws n ≡ false
  pub scene : T (scene_ok ws n)
  pub within : outside ≡ false
  pub walked : walk ≡ false

five-pass : (h e s o w : Bool) → first_number (when (not h) 2 ∷ when e 9 ∷ when (not s) 2 ∷ when o 10 ∷ when w 2 ∷ []) ≡ 0
    → T h × (e ≡ false) × T s × (o ≡ false) × (w ≡ false)
unfolding first_number
five-pass false e s o w q = absurd (suc-ne-zero 1 q)
five-pass true true s o w q = absurd (suc-ne-zero 8 q)
five-pass true false false o w q = absurd (suc-ne-zero 1 q)
five-pass true false true true w q = absurd (suc-ne-zero 9 q)
five-pass true false true false true q = absurd (suc-ne-zero 1 q)
five-pass true false true false false q = (tt, refl, tt, refl, refl)

pub question-passed : (ws : List ℕ) (n : ℕ) (outside walk : Bool) → first_number (question_order ws n outside walk) ≡ 0 → QuestionPassed ws n outside walk
question-passed ws n outside walk q =
    let p = five-pass (header_ok ws) (no_scene ws n) (scene_ok ws n) outside walk q in
    record { header = p.0; held = p.1; scene = p.2; within = p.3; walked = p.4 }

-- never 2, if no scene held has bad words or a bad walk
four-never-2 : (b s o w : Bool) → (b ≡ false → T s × (w ≡ false)) → first_number (when b 9 ∷ when (not s) 2 ∷ when o 10 ∷ when w 2 ∷ []) ≡ 2 → ⊥
unfolding first_number
four-never-2 true s o w h e = eqb-false 9 2 refl e
four-never-2 false false o w h e = (h refl).0
four-never-2 false true true w h e = eqb-false 10 2 refl e
four-never-2 false true false true h e = false≢true (sym (h refl).1)
four-never-2 false true false false h e = eqb-false 0 2 refl e

pub question-never-2 : (ws : List ℕ) (n : ℕ) (outside walk : Bool) → T (header_ok ws)
    → (no_scene ws n ≡ false → T (scene_ok ws n) × (walk ≡ false)) → first_number (question_order ws n outside walk) ≡ 2 → ⊥
unfolding first_number
question-never-2 ws n outside walk h held e = four-never-2 (no_scene ws n) (scene_ok ws n) outside walk held (rw (T_true {b = header_ok ws} h) at e)
