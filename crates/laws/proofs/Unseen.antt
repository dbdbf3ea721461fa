-- Claim C11, what is not looked at. A store is the words that it uses and those behind: each call answers the same whatever is behind and leaves
-- it as it was, and a store too short is refused. What output and scratch held is not looked at, only how long they are. Assumes nothing.
use mathlib.Core.Path.{◌≡◌, refl, sym, ap, ap₂, subst, ◌∙◌}
use mathlib.Core.Bool.{Bool, true, false, not, ◌||◌}
use mathlib.Core.List.{List, [], ◌∷◌, ◌++◌}
use Prim.Native.Nat.{ℕ, zero, suc, ◌<◌, ◌≤◌}
use native.Mathlib.Omega.{arith}
use borrow.Author.Tests.{leb-true, leb-false}
use lib.Dec.{leb, ltb, eqb-suc-zero}
use lib.ListN.{length, take, drop, get_or, take-append-drop}
use lib.Seq.{length-take-le, take_all, take_at, drop_at, take-append_seam, drop-append_seam, get_or-take}
use Rattle.paper.specs.Outline.{longest, file_depth}
use Rattle.paper.specs.Store.{used, capacity_of, store_ok}
use Rattle.paper.specs.Packed.{packed_rules}
use Rattle.paper.specs.Answers.{Outcome}
use Rattle.paper.specs.Order.{when, first_number, settled}
use Rattle.paper.specs.Calls.{over, cleared, no_scene, outline_bytes, outline_short, outline_out_order, outline_outcome}
use Rattle.paper.specs.Calls.{scratch_for, pack_bytes, pack_short, pack_order, pack_scratch_after, pack_outcome, packed_order, check_order, check_scratch_after, check_outcome}
use Rattle.paper.specs.Runs.{StoreQuestion, voxel, sight, cell, box, anything, kept, outline, pack, headset_pack, Call, new, add, of_store, of_file, store_answer, outcome_of, writes, words_after, besides, used_by}
use Rattle.paper.specs.Claims.{SameAnswer, SameBut, length_in, C11}
use Rattle.laws.proofs.UnseenAnswers.{voxel-unseen, sight-unseen, cell-unseen, box-unseen, any-unseen, kept-answer-unseen, outline-unseen, pack-unseen, headset-pack-unseen}
use Rattle.laws.proofs.Orders.{told-number, told-values}
use Rattle.laws.proofs.Scratch.{pack_scratch_lem, check_scratch}
use Rattle.laws.proofs.UnseenWrites.{Written, new-written, new-short, add-written, add-short}

-- ---- the words after a call, of a store f with words r behind it

-- the same answer, the words behind as they were, and those before as many as they were
record Unseen (c : Call) (f r : List ℕ) : Type 0 where
  number : (outcome_of (f ++ r) c).number ≡ (outcome_of f c).number
  values : (outcome_of (f ++ r) c).values ≡ (outcome_of f c).values
  lent : besides (f ++ r) c ≡ besides f c
  after : words_after (f ++ r) c ≡ words_after f c ++ r
  long : length (words_after f c) ≡ length f

-- a call that reads only
reads : (c : Call) (f r : List ℕ) → writes c ≡ false → outcome_of (f ++ r) c ≡ outcome_of f c → Unseen c f r
reads c f r w e = record {
  number = ap (λ (o : Outcome). o.number) e;
  values = ap (λ (o : Outcome). o.values) e;
  lent = rw w (ap (λ (o : Outcome). o.lent) e);
  after = rw w refl;
  long = rw w refl;
}

-- a call that writes only the store
stores-only : (c : Call) (f r : List ℕ) → writes c ≡ true → Written (outcome_of f c) (outcome_of (f ++ r) c) f r → Unseen c f r
stores-only c f r w o = record {
  number = o.number;
  values = o.values;
  lent = rw w refl;
  after = rw w o.after;
  long = rw w o.long;
}

-- a question on a store; one that looks at no store is not asked what is behind
question-unseen : (q : StoreQuestion) (f r : List ℕ) → used (capacity_of f) ≤ length f → store_answer (f ++ r) q ≡ store_answer f q
question-unseen (voxel n v) f r h = voxel-unseen f r h n v
question-unseen (sight n a b) f r h = sight-unseen f r h n a b
question-unseen (cell n k c) f r h = cell-unseen f r h n k c
question-unseen (box n low high) f r h = box-unseen f r h n low high
question-unseen (anything n low high) f r h = any-unseen f r h n low high
question-unseen (kept k) f r h = kept-answer-unseen f r h k
question-unseen (outline n out) f r h = outline-unseen f r h n out
question-unseen (pack n scratch out) f r h = pack-unseen f r h n scratch out
question-unseen (headset_pack n scratch out) f r h = headset-pack-unseen f r h n scratch out

unseen : (c : Call) (f r : List ℕ) → used_by f c ≤ length f → Unseen c f r
unseen (new C) f r h = stores-only (new C) f r refl (new-written C f r h)
unseen (add file) f r h = stores-only (add file) f r refl (add-written f r file h)
unseen (of_store q) f r h = reads (of_store q) f r refl (question-unseen q f r h)
unseen (of_file q) f r h = reads (of_file q) f r refl refl

-- a slice that is too short is left as it is
short : (c : Call) (ws : List ℕ) → length ws < used_by ws c → words_after ws c ≡ ws
short (new C) ws l = new-short C ws l
short (add file) ws l = add-short ws file l
short (of_store q) ws l = refl
short (of_file q) ws l = refl

-- the words used say how many are used
used-front : (ws : List ℕ) → used (capacity_of (take (used (capacity_of ws)) ws)) ≡ used (capacity_of ws)
used-front ws = ap used (get_or-take (used (capacity_of ws)) ws 0 0 (omega arith))

front : (c : Call) (ws : List ℕ) → used_by (take (used_by ws c) ws) c ≡ used_by ws c
front (new C) ws = refl
front (add file) ws = used-front ws
front (of_store q) ws = used-front ws
front (of_file q) ws = refl

-- ---- two stores that agree on the words used

-- as long as that
long-stores : (c : Call) (ws ws' : List ℕ) → used_by ws c ≤ length ws → take (used_by ws c) ws ≡ take (used_by ws c) ws' → SameAnswer c ws ws'
long-stores c ws ws' l e =
    let n : ℕ = used_by ws c in
    let f : List ℕ = take n ws in
    let r : List ℕ = drop n ws in
    let r' : List ℕ = drop n ws' in
    let many : length f ≡ n = length-take-le n ws l in
    let fits : used_by f c ≤ length f = omega (arith, front c ws) in
    let u : Unseen c f r = unseen c f r fits in
    let u' : Unseen c f r' = unseen c f r' fits in
    let p : ws ≡ f ++ r = sym (take-append-drop n ws) in
    let p' : ws' ≡ f ++ r' = sym (take-append-drop n ws') ∙ ap (λ (x : List ℕ). x ++ r') (sym e) in
    let A : List ℕ = words_after f c in
    let a : words_after ws c ≡ A ++ r = ap (λ (x : List ℕ). words_after x c) p ∙ u.after in
    let a' : words_after ws' c ≡ A ++ r' = ap (λ (x : List ℕ). words_after x c) p' ∙ u'.after in
    let long : length A ≡ n = u.long ∙ many in
    record {
      number = ap (λ (x : List ℕ). (outcome_of x c).number) p ∙ u.number ∙ sym (ap (λ (x : List ℕ). (outcome_of x c).number) p' ∙ u'.number);
      values = ap (λ (x : List ℕ). (outcome_of x c).values) p ∙ u.values ∙ sym (ap (λ (x : List ℕ). (outcome_of x c).values) p' ∙ u'.values);
      lent = ap (λ (x : List ℕ). besides x c) p ∙ u.lent ∙ sym (ap (λ (x : List ℕ). besides x c) p' ∙ u'.lent);
      first = ap (take n) a ∙ take_at A r n long ∙ sym (ap (take n) a' ∙ take_at A r' n long);
      rest = ap (drop n) a ∙ drop_at A r n long;
      rest' = ap (drop n) a' ∙ drop_at A r' n long;
    }

-- shorter, and so the same
short-same : (n : ℕ) (l l' : List ℕ) → length l < n → take n l ≡ take n l' → l ≡ l'
short-same n l l' h e = sym all ∙ e ∙ go (leb n (length l')) refl
  where
    all : take n l ≡ l
    all = take_all n l (omega arith)

    go : (b : Bool) → leb n (length l') ≡ b → take n l' ≡ l'
    go true q = absurd (omega (arith, length-take-le n l' (leb-true n (length l') q), ap length (sym all ∙ e)))
    go false q = take_all n l' (omega (arith, leb-false n (length l') q))

short-stores : (c : Call) (ws ws' : List ℕ) → length ws < used_by ws c → take (used_by ws c) ws ≡ take (used_by ws c) ws' → SameAnswer c ws ws'
short-stores c ws ws' l e =
    let n : ℕ = used_by ws c in
    let p : ws ≡ ws' = short-same n ws ws' l e in
    let a : words_after ws c ≡ ws = short c ws l in
    record {
      number = ap (λ (x : List ℕ). (outcome_of x c).number) p;
      values = ap (λ (x : List ℕ). (outcome_of x c).values) p;
      lent = ap (λ (x : List ℕ). besides x c) p;
      first = ap (λ (x : List ℕ). take n (words_after x c)) p;
      rest = ap (drop n) a;
      rest' = ap (λ (x : List ℕ). drop n (words_after x c)) (sym p) ∙ ap (drop n) (a ∙ p);
    }

stores-alike : (c : Call) (ws ws' : List ℕ) → take (used_by ws c) ws ≡ take (used_by ws c) ws' → SameAnswer c ws ws'
stores-alike c ws ws' e = go (leb (used_by ws c) (length ws)) refl
  where
    go : (b : Bool) → leb (used_by ws c) (length ws) ≡ b → SameAnswer c ws ws'
    go true q = long-stores c ws ws' (leb-true (used_by ws c) (length ws) q) e
    go false q = short-stores c ws ws' (leb-false (used_by ws c) (length ws) q) e

-- ---- output and scratch

-- bytes B written over the slice lent as number i, or nothing
pub same-but : (n : ℕ) (B out out' : List ℕ) (A E A' E' : List (List ℕ)) (i : ℕ)
    → get_or A i [] ≡ over B out → get_or E i [] ≡ out → get_or A' i [] ≡ over B out' → get_or E' i [] ≡ out'
    → SameBut (length_in (settled n (length B ∷ []) A E)) (settled n (length B ∷ []) A E) (settled n (length B ∷ []) A' E') out out' i
unfolding settled
same-but zero B out out' A E A' E' i a e a' e' =
    let n : ℕ = length B in
    record {
      number = refl;
      values = refl;
      front = ap (take n) a ∙ take-append_seam B (drop n out) ∙ sym (ap (take n) a' ∙ take-append_seam B (drop n out'));
      kept = ap (drop n) a ∙ drop-append_seam B (drop n out);
      kept' = ap (drop n) a' ∙ drop-append_seam B (drop n out');
    }
same-but (suc n) B out out' A E A' E' i a e a' e' =
    rw (eqb-suc-zero n) (record { number = refl; values = refl; front = refl; kept = e; kept' = e' })

outlines-alike : (ws : List ℕ) (n : ℕ) (out out' : List ℕ) → length out ≡ length out'
    → SameBut (length_in (outline_outcome ws n out)) (outline_outcome ws n out) (outline_outcome ws n out') out out' 0
unfolding outline_outcome outline_short
outlines-alike ws n out out' e =
    let B : List ℕ = outline_bytes ws n in
    let N : ℕ = first_number (outline_out_order ws n out) in
    let same : N ≡ first_number (outline_out_order ws n out') =
    ap (λ (m : ℕ). first_number (when (not (store_ok ws)) 2 ∷ when (no_scene ws n) 9 ∷ when (ltb m (length B) || ltb longest (length B)) 12 ∷ [])) e in
    let o : Outcome = settled N (length B ∷ []) (over B out ∷ []) (out ∷ []) in
    subst (λ (m : ℕ). SameBut (length_in o) o (settled m (length B ∷ []) (over B out' ∷ []) (out' ∷ [])) out out' 0) same
    (same-but N B out out' (over B out ∷ []) (out ∷ []) (over B out' ∷ []) (out' ∷ []) 0 refl refl refl refl)

packs-alike : (ws : List ℕ) (n : ℕ) (scratch scratch' out out' : List ℕ) → length scratch ≡ length scratch' → length out ≡ length out'
    → SameBut (length_in (pack_outcome ws n scratch out)) (pack_outcome ws n scratch out) (pack_outcome ws n scratch' out') out out' 1
unfolding pack_outcome pack_short
packs-alike ws n scratch scratch' out out' d e =
    let B : List ℕ = pack_bytes ws n in
    let m : ℕ = scratch_for ws in
    let N : ℕ = first_number (pack_order ws n scratch out) in
    let same : N ≡ first_number (pack_order ws n scratch' out') =
    ap₂ (λ (i j : ℕ). first_number (when (not (store_ok ws)) 2 ∷ when (no_scene ws n) 9 ∷ when (ltb i m) 11 ∷ when (ltb j (length B)) 12 ∷ [])) d e in
    let A : List (List ℕ) = cleared m scratch ∷ over B out ∷ [] in
    let E : List (List ℕ) = pack_scratch_after N ws scratch ∷ out ∷ [] in
    let A' : List (List ℕ) = cleared m scratch' ∷ over B out' ∷ [] in
    let o : Outcome = settled N (length B ∷ []) A E in
    subst (λ (j : ℕ). SameBut (length_in o) o (settled j (length B ∷ []) A' (pack_scratch_after j ws scratch' ∷ out' ∷ [])) out out' 1) same
    (same-but N B out out' A E A' (pack_scratch_after N ws scratch' ∷ out' ∷ []) 1 refl refl refl refl)

checks-alike : (file scratch scratch' : List ℕ) → length scratch ≡ length scratch'
    → ((check_outcome file scratch).number ≡ (check_outcome file scratch').number) × ((check_outcome file scratch).values ≡ (check_outcome file scratch').values)
unfolding check_outcome
checks-alike file scratch scratch' e =
    let vs : List ℕ = file_depth file ∷ [] in
    let N : ℕ = first_number (check_order file scratch) in
    let N' : ℕ = first_number (check_order file scratch') in
    let same : N ≡ N' = ap (λ (m : ℕ). first_number (when (ltb m (length file)) 11 ∷ packed_order file (when (not (packed_rules file)) 6 ∷ []))) e in
    let A : List (List ℕ) = cleared (length file) scratch ∷ [] in
    let E : List (List ℕ) = check_scratch_after N file scratch ∷ [] in
    let A' : List (List ℕ) = cleared (length file) scratch' ∷ [] in
    let E' : List (List ℕ) = check_scratch_after N' file scratch' ∷ [] in (
      ap (λ (m : ℕ). (settled m vs A E).number) same ∙ told-number N' vs A E A' E',
      ap (λ (m : ℕ). (settled m vs A E).values) same ∙ told-values N' vs A E A' E',
    )

pub claim11 : C11
claim11 = record { stores = stores-alike; outlines = outlines-alike; packs = packs-alike; checks = checks-alike; pack_scratch_lem = pack_scratch_lem; check_scratch = check_scratch }
