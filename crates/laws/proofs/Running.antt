-- Every state that calls lead to from a new store has the words of a store as calls make it. A new store has, a file added keeps it, no other call
-- writes the store; so by induction on the list of calls. Assumes nothing.
use mathlib.Core.Path.{◌≡◌, refl, sym, ◌∙◌, ap, ap₂, subst, subst₂}
use mathlib.Core.Bool.{Bool, true, false, false≢true, cond, not, ◌&&◌}
use mathlib.Core.List.{List, [], ◌∷◌, ◌++◌}
use Prim.Native.Nat.{ℕ, zero, suc, ◌+◌, ◌-◌, ◌*◌, ◌<◌}
use native.Mathlib.Nat.{suc-ne-zero}
use native.Mathlib.Decide.{ℕ_discrete}
use native.Mathlib.Omega.{arith}
use borrow.Author.Tests.{not-false, leb-false, ne_eqb}
use lib.Dec.{T, leb}
use lib.ListN.{length, drop, get_or, set, replicate, length-replicate, get_or-replicate, replicate-append-replicate}
use lib.Seq.{drop_at}
use Rattle.paper.specs.Numbers.{flatten}
use Rattle.paper.specs.Outline.{file_depth, outline_tree}
use Rattle.paper.specs.Store.{Cell, cells_at, most_scenes, heights, chains, first_scene, scene_words, stride, first_list, first_head, used, free_place, capacity_ok, scenes_held, first_in, padded, list_regions, header_row, chain_words, words_of, empty_store}
use Rattle.paper.specs.Match.{Adding, full, added, add_tree}
use Rattle.paper.specs.Answers.{Outcome, told, outcome}
use Rattle.paper.specs.Order.{first_number}
use Rattle.paper.specs.Calls.{over, bad_size, new_order, new_words, new_outcome, next_scene, adding, is_full, cells_full, add_order, with_scene, add_words, add_outcome}
use Rattle.paper.specs.Runs.{Call, new, add, of_store, of_file, Bytes, Given, scene_of, Held, nothing, holding, State, accepted, step, run, start, AllGiven, Reached}
use Rattle.laws.proofs.Tests.{true-T, and_left}
use Rattle.laws.proofs.Words.{Fine, store_with, stored, words_of-length, store_of-words_of, capacity-read, kept_read, scenes-read}
use Rattle.laws.proofs.Regions.{in_row, region_place}
use Rattle.laws.proofs.Rows.{lists-place}
use Rattle.laws.proofs.ChainWords.{place_in, next-spare, chains-by}
use Rattle.laws.proofs.Filled.{Filled, filled-fine}
use Rattle.laws.proofs.Filling.{empty-filled, AddsFile, file-adds, S⁺, held⁺, add-filled}
use Rattle.laws.proofs.Refusals.{settled-accepted, settled-refused, settled-number, Passed, add-passed}

-- the words are those of a store of the capacity given as calls make it, and others behind them
pub record Running (s : State) : Type 0 where
  pub count : ℕ
  pub scenes : List Cell
  pub lists : List (List Cell)
  pub rest : List ℕ
  pub words : s.words ≡ stored s.capacity count scenes lists rest
  pub filled : Filled s.capacity count scenes lists s.held

-- ---- new store

no_words : (n : ℕ) → padded n [] ≡ replicate n 0
unfolding padded flatten
no_words n = let e : n - 0 ≡ n = omega arith in ap (λ (m : ℕ). replicate m 0) e

no-lists : (K : List (List Cell)) (C j n : ℕ) → in_row (list_regions K C j (replicate n [])) ≡ replicate (region_place (list_regions K C j (replicate n [])) n) 0
unfolding list_regions flatten region_place
no-lists K C j zero = refl
no-lists K C j (suc n) =
    ap₂ (λ (a b : List ℕ). a ++ b) (no_words (stride j * C)) (no-lists K C (suc j) n) ∙ replicate-append-replicate (stride j * C) (region_place (list_regions K C (suc j) (replicate n [])) n) 0

no-scenes : padded (scene_words * most_scenes) (replicate most_scenes free_place) ≡ replicate (scene_words * most_scenes) 0
unfolding padded flatten
no-scenes = refl

bare-header : (C : ℕ) → padded first_scene (header_row (empty_store C) ∷ []) ≡ C ∷ replicate (first_scene - 1) 0
unfolding padded flatten empty_store
bare-header C = refl

-- no cell is in a chain
no-chains : (C : ℕ) → chain_words (replicate heights []) C ≡ replicate ((chains + C) * heights) 0
unfolding first_in
no-chains C =
    let K : List (List Cell) = replicate heights [] in
    let none : (k : ℕ) → k < heights → cells_at K k ≡ [] = λ k h. get_or-replicate heights k [] [] h in
    let n : ℕ = (chains + C) * heights in
    sym (chains-by K C (replicate n 0) (length-replicate n 0)
    (λ k j hk hj. get_or-replicate n (chains * k + j) 0 0 (omega arith) ∙ sym (ap (first_in k j 0) (none k hk)))
    (λ k m hk hm. get_or-replicate n (chains * heights + (C * k + m)) 0 0 (omega (arith, place_in C k m hm heights hk)) ∙ sym (next-spare K k m (rw (none k hk) (omega arith)))))

-- 'a new store zeroes its words, then sets word 0'
empty-words : (C : ℕ) → words_of (store_with C 0 (empty_store C).scenes (empty_store C).kept) ≡ C ∷ replicate (used C - 1) 0
unfolding words_of empty_store flatten
empty-words C =
    let K : List (List Cell) = replicate heights [] in
    let n : ℕ = region_place (list_regions K C 0 K) heights in
    let m : ℕ = scene_words * most_scenes in
    let r : ℕ = (chains + C) * heights in
    let place : first_list + n ≡ first_head C = lists-place K C 0 K heights (omega arith) in
    let e : first_scene - 1 + (m + n) + r ≡ used C - 1 = omega (arith, place) in
    ap₂ (λ (a b : List ℕ). a ++ b)
    (ap₂ (λ (a b : List ℕ). a ++ b) (bare-header C) (ap₂ (λ (a b : List ℕ). a ++ b) no-scenes (no-lists K C 0 heights) ∙ replicate-append-replicate m n 0)
    ∙ ap (λ (a : List ℕ). C ∷ a) (replicate-append-replicate (first_scene - 1) (m + n) 0))
    (no-chains C)
    ∙ ap (λ (a : List ℕ). C ∷ a) (replicate-append-replicate (first_scene - 1 + (m + n)) r 0 ∙ ap (λ (j : ℕ). replicate j 0) e)

pub new_words_lem : (C : ℕ) (ws : List ℕ) → new_words C ws ≡ stored C 0 (empty_store C).scenes (empty_store C).kept (drop (used C) ws)
unfolding new_words
new_words_lem C ws =
    let r : List ℕ = drop (used C) ws in
    let e : used C ≡ suc (used C - 1) = omega arith in
    ap (λ (n : ℕ). set (replicate n 0 ++ r) 0 C) e ∙ ap (λ (l : List ℕ). l ++ r) (sym (empty-words C))

-- the state after an outcome of new store
abbrev new_state : ℕ → Held → ℕ → Outcome → State
new_state C held c o = record { words = get_or o.lent 0 []; held = cond (accepted o) nothing held; capacity = cond (accepted o) C c }

size_fits : (a b : Bool) → not (a && b) ≡ false → T a
size_fits a b e = and_left a b (true-T (not-false (a && b) e))

new-accepted : (C : ℕ) (ws : List ℕ) (held : Held) (c : ℕ) → bad_size C ws ≡ false → Running (new_state C held c (new_outcome C ws))
unfolding new_outcome first_number
new-accepted C ws held c e =
    subst (λ (o : Outcome). Running (new_state C held c o)) (sym (settled-accepted (first_number (new_order C ws)) [] (new_words C ws ∷ []) (ws ∷ []) (ap (λ (b : Bool). cond b 1 0) e)))
    (record {
      count = 0;
      scenes = (empty_store C).scenes;
      lists = (empty_store C).kept;
      rest = drop (used C) ws;
      words = new_words_lem C ws;
      filled = empty-filled C (unfold bad_size in size_fits (capacity_ok C) (leb (used C) (length ws)) e);
    })

new-refused : (C : ℕ) (s : State) → Running s → bad_size C s.words ≡ true → Running (new_state C s.held s.capacity (new_outcome C s.words))
unfolding new_outcome first_number
new-refused C s r e =
    let n : first_number (new_order C s.words) ≡ 1 = ap (λ (b : Bool). cond b 1 0) e in
    subst (λ (o : Outcome). Running (new_state C s.held s.capacity o))
    (sym (settled-refused (first_number (new_order C s.words)) [] (new_words C s.words ∷ []) (s.words ∷ []) (λ z. suc-ne-zero 0 (sym n ∙ z)) ∙ ap (λ (m : ℕ). outcome (told m []) (s.words ∷ [])) n)) r

new-running : (C : ℕ) (s : State) → Running s → Running (step s (new C))
new-running C s r = go (bad_size C s.words) refl
  where
    go : (b : Bool) → bad_size C s.words ≡ b → Running (new_state C s.held s.capacity (new_outcome C s.words))
    go true e = new-refused C s r e
    go false e = new-accepted C s.words s.held s.capacity e

no_size : (b : Bool) → ◌≡◌ {A = ℕ} (cond b 1 0) 0 → b ≡ false
no_size true e = absurd (suc-ne-zero 0 e)
no_size false e = refl

either : {A : Type 0} (b : Bool) (x : A) → cond b x x ≡ x
either true x = refl
either false x = refl

pub start-running : (C : ℕ) (ws : List ℕ) → (new_outcome C ws).number ≡ 0 → Running (start C ws)
unfolding new_outcome first_number
start-running C ws e =
    subst₂ (λ (h : Held) (c : ℕ). Running (record { words = get_or (new_outcome C ws).lent 0 []; held = h; capacity = c })) (either (accepted (new_outcome C ws)) nothing) (either (accepted (new_outcome C ws)) C)
    (new-accepted C ws nothing C (no_size (bad_size C ws) (sym (settled-number (first_number (new_order C ws)) [] (new_words C ws ∷ []) (ws ∷ [])) ∙ e)))

-- ---- add

module _ {C N : ℕ} {S : List Cell} {K : List (List Cell)} {held : Held} (f : Filled C N S K held) (l : List ℕ) where
  -- adding to the words is adding to the lists
  pub adding-is : (file : List ℕ) → adding (stored C N S K l) file ≡ add_tree C (outline_tree file) (file_depth file - 2) K
  unfolding adding
  adding-is file = ap₂ (λ (c : ℕ) (Ks : List (List Cell)). add_tree c (outline_tree file) (file_depth file - 2) Ks) (capacity-read C N S K (filled-fine f) l) (kept_read C N S K (filled-fine f) l)

  -- the words afterwards
  add_words_lem : (file : List ℕ) (p : ℕ) (K' : List (List Cell)) → adding (stored C N S K l) file ≡ added p K' → Fine C (suc N) (set S N (file_depth file ∷ p ∷ [])) K'
      → add_words (stored C N S K l) file ≡ stored C (suc N) (set S N (file_depth file ∷ p ∷ [])) K' l
  unfolding add_words
  add_words_lem file p K' e fine =
      let W : List ℕ = words_of (store_with C (suc N) (set S N (file_depth file ∷ p ∷ [])) K') in
      (λ i. over (words_of (with_scene (store_of-words_of C N S K (filled-fine f) l i) (scenes-read C N S K (filled-fine f) l i) (file_depth file) (e i))) (stored C N S K l))
      ∙ ap (λ (r : List ℕ). W ++ r) (drop_at (words_of (store_with C N S K)) l (length W)
      (words_of-length C N S K (filled-fine f) ∙ sym (words_of-length C (suc N) (set S N (file_depth file ∷ p ∷ [])) K' fine)))

  -- the file is held under the number of scenes before
  add-held : (file : List ℕ) → Bytes file → Passed (stored C N S K l) file
      → Running (record { words = add_words (stored C N S K l) file; held = holding (next_scene (stored C N S K l)) (scene_of file) held; capacity = C })
  unfolding cells_full
  add-held file b p = go (add_tree C (outline_tree file) (file_depth file - 2) K) refl (file-adds C K f.capacity f.lists f.sound f.invs file b p.accepted)
    where
      few : N < most_scenes
      few = subst (λ (n : ℕ). n < most_scenes) (scenes-read C N S K (filled-fine f) l) (leb-false most_scenes (scenes_held (stored C N S K l)) p.scenes)

      go : (x : Adding ℕ) → add_tree C (outline_tree file) (file_depth file - 2) K ≡ x → AddsFile C K file x
          → Running (record { words = add_words (stored C N S K l) file; held = holding (next_scene (stored C N S K l)) (scene_of file) held; capacity = C })
      go full e d = absurd (false≢true (sym p.cells ∙ ap is_full (adding-is file ∙ e)))
      go (added q K') e d =
          let filled : Filled C (suc N) (S⁺ f file b p.accepted q K' d few) K' (held⁺ f file b p.accepted q K' d few) = add-filled f file b p.accepted q K' d few in
          record {
            count = suc N;
            scenes = set S N (file_depth file ∷ q ∷ []);
            lists = K';
            rest = l;
            words = add_words_lem file q K' (adding-is file ∙ e) (filled-fine filled);
            filled = subst (λ (n : ℕ). Filled C (suc N) (set S N (file_depth file ∷ q ∷ [])) K' (holding n (scene_of file) held)) (sym (scenes-read C N S K (filled-fine f) l)) filled;
          }

-- the state after an outcome of add
abbrev add_state : State → List ℕ → Outcome → State
add_state s file o = record { words = get_or o.lent 0 []; held = cond (accepted o) (holding (get_or o.values 0 0) (scene_of file) s.held) s.held; capacity = s.capacity }

-- an accepted file
pub add-accepted : (s : State) (file : List ℕ) → Running s → Bytes file → Passed s.words file
    → Running (record { words = add_words s.words file; held = holding (next_scene s.words) (scene_of file) s.held; capacity = s.capacity })
add-accepted s file r b p =
    subst (λ (ws : List ℕ). Running (record { words = add_words ws file; held = holding (next_scene ws) (scene_of file) s.held; capacity = s.capacity })) (sym r.words)
    (add-held r.filled r.rest file b (subst (λ (ws : List ℕ). Passed ws file) r.words p))

add-running : (s : State) (file : List ℕ) → Running s → Bytes file → Running (step s (add file))
unfolding add_outcome
add-running s file r b = go (ℕ_discrete n 0)
  where
    n : ℕ
    n = first_number (add_order s.words file)

    go : Dec (n ≡ 0) → Running (add_state s file (add_outcome s.words file))
    go (yes e) =
        subst (λ (o : Outcome). Running (add_state s file o)) (sym (settled-accepted n (next_scene s.words ∷ []) (add_words s.words file ∷ []) (s.words ∷ []) e))
        (add-accepted s file r b (add-passed s.words file e))
    go (no ne) =
        subst (λ (o : Outcome). Running (add_state s file o)) (sym (settled-refused n (next_scene s.words ∷ []) (add_words s.words file ∷ []) (s.words ∷ []) ne))
        (rw (ne_eqb n 0 ne) r)

-- ---- every call, and every list of calls

-- only new store and add write the store or change what is held
pub step-running : (s : State) (c : Call) → Given c → Running s → Running (step s c)
step-running s (new C) g r = new-running C s r
step-running s (add file) g r = add-running s file r g
step-running s (of_store q) g r = r
step-running s (of_file q) g r = r

pub run-running : (cs : List Call) (s : State) → AllGiven cs → Running s → Running (run s cs)
unfolding run
run-running [] s g r = r
run-running (c ∷ cs) s g r = run-running cs (step s c) g.1 (step-running s c g.0 r)

pub reached-running : (s : State) → Reached s → Running s
reached-running s r = subst Running r.led (run-running r.calls (start r.capacity r.before) r.given (start-running r.capacity r.before r.began))
