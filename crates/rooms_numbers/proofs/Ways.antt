-- The ways through opening, a question on an opened scene and detail, in the code's words: which test is passed, and what the outcome is then; and the
-- numbers of an opened scene copied one by one. By the value of each test in turn. Assumes nothing.
use mathlib.Core.Path.{◌≡◌, refl, sym, ap, ap₂, ◌∙◌}
use mathlib.Core.Bool.{Bool, true, false, not, cond}
use mathlib.Core.List.{List, [], ◌∷◌, ◌++◌, append-nil}
use Prim.Native.Nat.{ℕ, suc, ◌+◌, ◌<◌, ◌≤◌}
use native.Mathlib.Nat.{not-suc-le-zero, zero-add}
use native.Mathlib.Omega.{arith}
use borrow.Author.Tests.{lt-ltb, le-ltb, lt-leb, eq-eqb, ne_eqb}
use lib.Dec.{eqb, leb}
use lib.ListN.{length, take, drop, get_or, set, length-drop, drop_of_length-le}
use lib.Seq.{take_all, get_or-drop, paste, paste-suc}
use lib.Ieee.{Float, of_bits, binary64}
use Rattle.paper.specs.Rooms.{Point, depth_ok}
use Rattle.paper.specs.Store.{heights}
use Rattle.paper.specs.Answers.{Told, Outcome, told, outcome}
use Rattle.paper.specs.Order.{when, first_number, settled}
use Rattle.paper.specs.Calls.{over, ask_outcome}
use Rattle.paper.specs.Detail.{height_for, detail_outcome}
use Rattle.paper.specs.declared.Wish.TheVariants.{EveryVoxel, WidestEdge, Distance}
use Rattle.opened_head.specs.Opens.{open_told}
use Rattle.rooms_numbers.specs.Numbers.{opened_numbers, numbers_short, open_c_outcome, depth_held, starts_held, ask_c_outcome, last_kind, wish_of, detail_c_outcome, wish_given}

-- ---- opening

module _ (file ns : List ℕ) where
  -- the outcome by what the header tells
  unfoldable by-told : Told → Outcome
  by-told t =
      settled (first_number (when (not (eqb t.number 0)) t.number ∷ when (numbers_short ns) 12 ∷ [])) [] (over t.values ns ∷ []) (ns ∷ [])

  told-refused : (n : ℕ) (vs : List ℕ) → eqb n 0 ≡ false → by-told (told n vs) ≡ outcome (told n []) (ns ∷ [])
  unfolding by-told first_number settled
  told-refused n vs f = rw (f, f) refl

  told-short : (n : ℕ) (vs : List ℕ) → eqb n 0 ≡ true → numbers_short ns ≡ true → by-told (told n vs) ≡ outcome (told 12 []) (ns ∷ [])
  unfolding by-told first_number settled
  told-short n vs t s = rw (t, s) refl

  told-accepted : (n : ℕ) (vs : List ℕ) → eqb n 0 ≡ true → numbers_short ns ≡ false → by-told (told n vs) ≡ outcome (told 0 []) (over vs ns ∷ [])
  unfolding by-told first_number settled
  told-accepted n vs t s = rw (t, s) refl

  module _ (n : ℕ) (vs : List ℕ) (e : told n vs ≡ open_told file) where
    is-by-told : by-told (told n vs) ≡ open_c_outcome file ns
    unfolding open_c_outcome by-told
    is-by-told = ap by-told e

    pub open-refused : (n ≡ 0 → ⊥) → outcome (told n []) (ns ∷ []) ≡ open_c_outcome file ns
    open-refused ne = sym (told-refused n vs (ne_eqb n 0 ne)) ∙ is-by-told

    pub open-short : n ≡ 0 → length ns < opened_numbers → outcome (told 12 []) (ns ∷ []) ≡ open_c_outcome file ns
    open-short z h = sym (told-short n vs (eq-eqb n 0 z) (lt-ltb (length ns) opened_numbers h)) ∙ is-by-told

    pub open-accepted : {l : List ℕ} → n ≡ 0 → opened_numbers ≤ length ns → l ≡ over vs ns → outcome (told 0 []) (l ∷ []) ≡ open_c_outcome file ns
    open-accepted z h p =
        ap (λ (x : List ℕ). outcome (told 0 []) (x ∷ [])) p ∙ sym (told-accepted n vs (eq-eqb n 0 z) (le-ltb (length ns) opened_numbers h)) ∙ is-by-told

-- ---- a question on an opened scene

module _ (file ns : List ℕ) (v : Point) where
  pub ask-short : length ns < opened_numbers → outcome (told 6 (0 ∷ 0 ∷ 0 ∷ [])) [] ≡ ask_c_outcome file ns v
  unfolding ask_c_outcome
  ask-short h = rw (lt-ltb (length ns) opened_numbers h) refl

  pub ask-asked : {starts : List ℕ} {o : Outcome} → opened_numbers ≤ length ns → starts ≡ starts_held ns → o ≡ ask_outcome file (depth_held ns) starts v → o ≡ ask_c_outcome file ns v
  unfolding ask_c_outcome
  ask-asked h s e =
      e ∙ ap (λ (l : List ℕ). ask_outcome file (depth_held ns) l v) s
      ∙ ap (λ (b : Bool). cond b (outcome (told 6 (0 ∷ 0 ∷ 0 ∷ [])) []) (ask_outcome file (depth_held ns) (starts_held ns) v)) (sym (le-ltb (length ns) opened_numbers h))

-- ---- the numbers copied

-- the depth first
pub written_all : (d : ℕ) (starts l : List ℕ) → length starts ≡ heights → opened_numbers ≤ length l → paste (set l 0 d) 1 starts heights ≡ over (d ∷ starts) l
written_all d starts [] e h = absurd (not-suc-le-zero h)
written_all d starts (x ∷ l) e h =
    ap (λ (r : List ℕ). d ∷ (r ++ drop heights l)) (take_all heights starts (omega (arith, e))) ∙ ap (λ (n : ℕ). d ∷ (starts ++ drop n l)) (sym e)

-- one more start written, and one more read
pub written_next : (l starts : List ℕ) (k : ℕ) → k + 1 < length l → k < length starts → set (paste l 1 starts k) (k + 1) (get_or starts k 0) ≡ paste l 1 starts (k + 1)
written_next l starts k h g =
    let e : k + 1 ≡ 1 + k = omega arith in
    let f : k + 1 ≡ suc k = omega arith in
    ap (λ (i : ℕ). set (paste l 1 starts k) i (get_or starts k 0)) e ∙ paste-suc l 1 starts k 0 (omega (arith, h)) g
    ∙ ap (λ (i : ℕ). paste l 1 starts i) (sym f)

pub read_next : (l ns : List ℕ) (k : ℕ) → k < length l → k + 1 < length ns → set (paste l 0 (drop 1 ns) k) k (get_or ns (k + 1) 0) ≡ paste l 0 (drop 1 ns) (k + 1)
read_next l ns k h g =
    let e : k + 1 ≡ 1 + k = omega arith in
    let f : k + 1 ≡ suc k = omega arith in
    let m : k < length (drop 1 ns) = rw (length-drop 1 ns) (omega (arith, g)) in
    ap₂ (λ (i v : ℕ). set (paste l 0 (drop 1 ns) k) i v) (sym (zero-add k)) (ap (λ (i : ℕ). get_or ns i 0) e ∙ sym (get_or-drop 1 ns k 0))
    ∙ paste-suc l 0 (drop 1 ns) k 0 (omega (arith, h)) m ∙ ap (λ (i : ℕ). paste l 0 (drop 1 ns) i) (sym f)

pub read_all : (l ns : List ℕ) → length l ≡ heights → paste l 0 (drop 1 ns) heights ≡ starts_held ns
read_all l ns e =
    ap (λ (r : List ℕ). take heights (drop 1 ns) ++ r) (drop_of_length-le l {i = heights} (omega (arith, e))) ∙ append-nil (take heights (drop 1 ns))

-- ---- detail

module _ (a b : Float) where
  pub wish-every : (kind : ℕ) → kind ≡ 0 → EveryVoxel ≡ wish_given kind a b
  unfolding wish_given wish_of
  wish-every kind e = sym (ap (λ (k : ℕ). wish_given k a b) e)

  pub wish-edge : (kind : ℕ) → kind ≡ 1 → WidestEdge a ≡ wish_given kind a b
  unfolding wish_given wish_of
  wish-edge kind e = sym (ap (λ (k : ℕ). wish_given k a b) e)

  pub wish-far : (kind : ℕ) → kind ≡ 2 → Distance (record { distance = a; factor = b }) ≡ wish_given kind a b
  unfolding wish_given wish_of
  wish-far kind e = sym (ap (λ (k : ℕ). wish_given k a b) e)

  pub wish-none : (kind : ℕ) → (kind ≡ 0 → ⊥) → (kind ≡ 1 → ⊥) → (kind ≡ 2 → ⊥) → WidestEdge (of_bits binary64 0) ≡ wish_given kind a b
  unfolding wish_given
  wish-none kind n0 n1 n2 = rw (lt-leb kind last_kind (omega (arith, n0, n1, n2))) refl

-- a widest edge of 0 is out of range
none-refused : (D : ℕ) → detail_outcome D (WidestEdge (of_bits binary64 0)) ≡ settled (first_number (when (not (depth_ok D)) 5 ∷ when true 13 ∷ [])) (0 ∷ []) [] []
unfolding detail_outcome of_bits first_number settled
none-refused D = go (depth_ok D)
  where
    go : (t : Bool) → settled (first_number (when (not t) 5 ∷ when true 13 ∷ [])) (height_for D (WidestEdge (of_bits binary64 0)) ∷ []) [] []
        ≡ settled (first_number (when (not t) 5 ∷ when true 13 ∷ [])) (0 ∷ []) [] []
    go true = refl
    go false = refl

pub detail-given : (D kind : ℕ) (a b : Float) → detail_outcome D (wish_given kind a b) ≡ detail_c_outcome D kind a b
unfolding wish_given detail_c_outcome
detail-given D kind a b = go (leb kind last_kind)
  where
    unknown : Outcome
    unknown = settled (first_number (when (not (depth_ok D)) 5 ∷ when true 13 ∷ [])) (0 ∷ []) [] []

    go : (t : Bool) → detail_outcome D (cond t (wish_of kind a b) (WidestEdge (of_bits binary64 0))) ≡ cond t (detail_outcome D (wish_of kind a b)) unknown
    go true = refl
    go false = none-refused D
