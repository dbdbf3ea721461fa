-- Entering a scene: each way through its tests is an entry, and an entry says what the tests found: a refusal settles every question alike, a root is
-- that of a scene whose words are good, and what is told past the tests settles the question. By cases on the tests. Assumes nothing.
use mathlib.Core.Path.{◌≡◌, refl, sym, ap, ap₂, ◌∙◌, subst, subst⁻¹}
use mathlib.Core.Bool.{Bool, true, false, not, cond}
use mathlib.Core.List.{List, [], map}
use Prim.Native.Nat.{ℕ, ◌-◌, ◌≤◌}
use lib.Dec.{T, leb, leb→le}
use Rattle.paper.specs.Rooms.{depth_ok, least, deepest}
use Rattle.paper.specs.Answers.{told, outcome, number_of}
use Rattle.paper.specs.Store.{is_held, kept_count, bad_pointer, header_ok, scene_ok, scene_depth, scene_root}
use Rattle.paper.specs.Calls.{no_scene}
use Rattle.paper.specs.declared.Refusal.TheVariants.{DamagedStore, NoScene}
use Rattle.laws.proofs.Tests.{true-T, T_true, not-false, and_left, and_right}
use Rattle.laws.proofs.Undamaged.{held-there, there-held}
use Rattle.store_entry.specs.Entry.{entry_of, past_entry}
use Rattle.store_entry.specs.Entry.{Entry}
use Rattle.store_entry.specs.Entry.{Root, Refused}
use Rattle.store_entry.proofs.Asked.{asked, refused_by}
use Rattle.store_entry.proofs.Settled.{by-header, by-scene, by-words, by_out, by-walk}

-- the three tests
abbrev entry : Bool → Bool → Bool → ℕ → ℕ → Entry
entry a b c D p = cond a (cond b (Refused NoScene) (cond c (Root D p) (Refused DamagedStore))) (Refused DamagedStore)

module _ (ws : List ℕ) (n : ℕ) where
  abbrev by : Bool → Bool → Bool → Entry
  by a b c = entry a b c (scene_depth ws n) (scene_root ws n)

  pub entry-header : T (not (header_ok ws)) → Refused DamagedStore ≡ entry_of ws n
  unfolding entry_of
  entry-header h = ap (λ (a : Bool). by a (no_scene ws n) (scene_ok ws n)) (sym (not-false (header_ok ws) h))

  pub entry-scene : T (header_ok ws) → no_scene ws n ≡ true → Refused NoScene ≡ entry_of ws n
  unfolding entry_of
  entry-scene h l = λ i. by (sym (T_true {b = header_ok ws} h) i) (sym l i) (scene_ok ws n)

  pub entry-words : T (header_ok ws) → T (is_held ws n) → T (not (scene_ok ws n)) → Refused DamagedStore ≡ entry_of ws n
  unfolding entry_of
  entry-words h l s = λ i. by (sym (T_true {b = header_ok ws} h) i) (sym (held-there ws n l) i) (sym (not-false (scene_ok ws n) s) i)

  pub entry-root : T (header_ok ws) → T (is_held ws n) → T (scene_ok ws n) → Root (scene_depth ws n) (scene_root ws n) ≡ entry_of ws n
  unfolding entry_of
  entry-root h l s = λ i. by (sym (T_true {b = header_ok ws} h) i) (sym (held-there ws n l) i) (sym (T_true {b = scene_ok ws n} s) i)

-- a scene that can be asked
pub record Entered (ws : List ℕ) (n D p : ℕ) : Type 0 where
  pub header : T (header_ok ws)
  pub held : T (is_held ws n)
  pub words : T (scene_ok ws n)
  pub depth : D ≡ scene_depth ws n
  pub root : p ≡ scene_root ws n

-- what an entry says
abbrev pub Says : List ℕ → ℕ → Entry → Type 0
Says ws n (Root D p) = Entered ws n D p
Says ws n (Refused r) = (out walk : Bool) (xs : List ℕ) → refused_by (number_of r) xs ≡ asked (not (header_ok ws)) (no_scene ws n) (not (scene_ok ws n)) out walk xs

says-by : (ws : List ℕ) (n : ℕ) (a b c : Bool) → header_ok ws ≡ a → no_scene ws n ≡ b → scene_ok ws n ≡ c → Says ws n (by ws n a b c)
says-by ws n false b c e f g = λ out walk xs. by-header ws n out walk xs (true-T (ap not e))
says-by ws n true true c e f g = λ out walk xs. by-scene ws n out walk xs (true-T e) (true-T f)
says-by ws n true false false e f g = λ out walk xs. by-words ws n out walk xs (true-T e) (there-held ws n f) (true-T (ap not g))
says-by ws n true false true e f g = record { header = true-T e; held = there-held ws n f; words = true-T g; depth = refl; root = refl }

pub entry-says : (ws : List ℕ) (n : ℕ) (e : Entry) → e ≡ entry_of ws n → Says ws n e
unfolding entry_of
entry-says ws n e q = subst (Says ws n) (sym q) (says-by ws n (header_ok ws) (no_scene ws n) (scene_ok ws n) refl refl refl)

-- past the tests: outside, inside, and the whole outcome
module _ (out walk : Bool) (xs : List ℕ) where
  pub past-outside : T out → told 10 (map (λ x. 0) xs) ≡ past_entry out walk xs
  past-outside t = ap (λ (b : Bool). past_entry b walk xs) (sym (T_true {b = out} t))

  pub past-inside : T (not out) → past_entry false walk xs ≡ past_entry out walk xs
  past-inside t = ap (λ (b : Bool). past_entry b walk xs) (sym (not-false out t))

pub past-settled : {ws : List ℕ} {n D p : ℕ} → Entered ws n D p → (out walk : Bool) (xs : List ℕ)
    → outcome (past_entry out walk xs) [] ≡ asked (not (header_ok ws)) (no_scene ws n) (not (scene_ok ws n)) out walk xs
past-settled {ws} {n} e true walk xs = by_out ws n true walk xs e.header e.held e.words tt
past-settled {ws} {n} e false true xs = by-walk ws n false true xs e.header e.held e.words tt
past-settled {ws} {n} e false false xs = by-walk ws n false false xs e.header e.held e.words tt

-- of a scene that can be asked: its depth is in range, its root pointer not bad
pub entered-depth : {ws : List ℕ} {n D p : ℕ} → Entered ws n D p → T (depth_ok D)
unfolding scene_ok
entered-depth {ws} {n} e =
    subst⁻¹ (λ (d : ℕ). T (depth_ok d)) e.depth (and_left (depth_ok (scene_depth ws n)) (not (bad_pointer (kept_count ws (scene_depth ws n - 2)) (scene_root ws n))) e.words)

pub entered-root : {ws : List ℕ} {n D p : ℕ} → Entered ws n D p → bad_pointer (kept_count ws (D - 2)) p ≡ false
unfolding scene_ok
entered-root {ws} {n} e =
    ap₂ (λ (d q : ℕ). bad_pointer (kept_count ws (d - 2)) q) e.depth e.root
    ∙ not-false (bad_pointer (kept_count ws (scene_depth ws n - 2)) (scene_root ws n)) (and_right (depth_ok (scene_depth ws n)) (not (bad_pointer (kept_count ws (scene_depth ws n - 2)) (scene_root ws n))) e.words)

pub scene-deep : (ws : List ℕ) (n : ℕ) → T (scene_ok ws n) → scene_depth ws n ≤ deepest
unfolding scene_ok
scene-deep ws n t =
    let d : T (depth_ok (scene_depth ws n)) = and_left (depth_ok (scene_depth ws n)) (not (bad_pointer (kept_count ws (scene_depth ws n - 2)) (scene_root ws n))) t in
    leb→le (scene_depth ws n) deepest (and_right (leb least (scene_depth ws n)) (leb (scene_depth ws n) deepest) d)
