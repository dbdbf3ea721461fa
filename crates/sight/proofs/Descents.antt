-- One step of a walk with its path, and what stands in the path where the walk ends: from the list of the last cell entered upwards, the cells at which
-- the walk stopped there ends. By the clauses of both, and induction on the list. Assumes nothing.
use mathlib.Core.Path.{◌≡◌, refl, sym, ap, ap₂, ◌∙◌, subst}
use mathlib.Core.Bool.{Bool, true, false, cond, true≢false}
use mathlib.Core.Logic.{◌⊎◌, inl, inr}
use mathlib.Core.List.{List, [], ◌∷◌}
use Prim.Native.Nat.{ℕ, zero, suc, ◌+◌, ◌-◌, ◌/◌, ◌%◌, ◌<◌, ◌≤◌}
use native.Mathlib.Nat.{mod-lt, eq-or-lt_of_le}
use native.Mathlib.Omega.{arith}
use borrow.Author.Tests.{leb-true, leb-false, lt-leb, eqb-false}
use lib.Arith.{digits_div, digits_mod}
use lib.Bits.{bit_xor}
use lib.Dec.{eqb, leb, lit<}
use lib.ListN.{length, get_or, set, length-set}
use lib.Seq.{get_or-set_same, get_or-set_other}
use Rattle.paper.specs.Rooms.{Point, OneCell}
use Rattle.paper.specs.Store.{Cell, cells_at, cell_at, tag_of, cell_no, any_bad, kept_of}
use Rattle.std.specs.Prelude.{Result, Ok, Err, IsErr}
use Rattle.paper.specs.Answers.{told}
use Rattle.paper.specs.declared.Damaged.{Damaged as Unsound}
use Rattle.paper.specs.declared.Voxel.{Voxel}
use Rattle.walk.specs.declared.image.End.{End}
use Rattle.walk.specs.Reached.{ended}
use Rattle.points.proofs.Seen.{tag-joins}
use Rattle.walk.specs.Walk.{taken_from, walk_to, AtKept}
use Rattle.walk.specs.Walk.{Ended}
use Rattle.walk.specs.Walk.{Absent, At, Damaged}
use Rattle.walk.proofs.Steps.{walk-stop}
use Rattle.walk.proofs.Roots.{taken-kept, walk_kept}
use Rattle.sight.specs.Paths.{Lowest, OnPath, PathTo, Reached, Ready, Stands, Walked, number_in, mirror_in, entry, descended, walk_from, voxel_of}
use Rattle.sight.proofs.Cells.{walk-one, walk_through}

-- ---- one step

pub mirror-one : (P : List ℕ) (k : ℕ) → mirror_in P k < 8
mirror-one P k = mod-lt (get_or P k 0) (lit< tt)

-- from list l, k being the list below: how the walk that stops there ends says how any other goes, and what path it leaves
abbrev pub Goes : List (List Cell) → ℕ → ℕ → Point → List ℕ → Ended → Type 0
Goes K l k v P Damaged = (walk_to K 0 l (number_in P l) (mirror_in P l) v ≡ Damaged) × (descended K l v P ≡ P)
Goes K l k v P (Absent h) = (walk_to K 0 l (number_in P l) (mirror_in P l) v ≡ Absent h) × (descended K l v P ≡ P) × (h ≡ suc (suc k))
Goes K l k v P (At n m) =
    ((i : ℕ) → i ≤ k → walk_to K i l (number_in P l) (mirror_in P l) v ≡ walk_to K i k n m v)
    × (descended K l v P ≡ descended K k v (set P k (entry n m)))
    × (n < length (cells_at K k)) × (m < 8)

goes-suc : (K : List (List Cell)) (k : ℕ) (v : Point) (P : List ℕ) → Goes K (suc k) k v P (walk_to K k (suc k) (number_in P (suc k)) (mirror_in P (suc k)) v)
unfolding walk_to descended
goes-suc K k v P =
    subst (Goes K (suc k) k v P) whole (go (any_bad (length (cells_at K k)) c) refl (eqb p 0) refl)
  where
    n : ℕ
    n = number_in P (suc k)

    m : ℕ
    m = mirror_in P (suc k)

    c : Cell
    c = cell_at K (suc k) (number_in P (suc k))

    p : ℕ
    p = taken_from k (cell_at K (suc k) (number_in P (suc k))) (mirror_in P (suc k)) v

    to : ℕ → Ended
    to i = walk_to K i k (cell_no p) (bit_xor (tag_of p) m) v

    tests : Bool → Bool → Ended → Ended
    tests b z r = cond b Damaged (cond z (Absent (suc (suc k))) r)

    whole : tests (any_bad (length (cells_at K k)) c) (eqb p 0) (At (cell_no p) (bit_xor (tag_of p) m)) ≡ walk_to K k (suc k) n m v
    whole =
        ap (tests (any_bad (length (cells_at K k)) c) (eqb p 0)) (walk-stop K k k (cell_no p) (bit_xor (tag_of p) m) v (omega arith))
        ∙ ap (λ (a : Bool). cond a (At n m) (tests (any_bad (length (cells_at K k)) c) (eqb p 0) (to k))) (sym (lt-leb (suc k) k (omega arith)))

    walks : (i : ℕ) → i ≤ k → walk_to K i (suc k) n m v ≡ tests (any_bad (length (cells_at K k)) c) (eqb p 0) (to i)
    walks i h = ap (λ (a : Bool). cond a (At n m) (tests (any_bad (length (cells_at K k)) c) (eqb p 0) (to i))) (lt-leb (suc k) i (omega arith))

    left : List ℕ
    left = descended K k v (set P k (entry (cell_no p) (bit_xor (tag_of p) m)))

    go : (b : Bool) → any_bad (length (cells_at K k)) c ≡ b → (z : Bool) → eqb p 0 ≡ z → Goes K (suc k) k v P (tests b z (At (cell_no p) (bit_xor (tag_of p) m)))
    go true e z f =
        (walks 0 (omega arith) ∙ ap (λ (a : Bool). tests a (eqb p 0) (to 0)) e, ap (λ (a : Bool). cond a P (cond (eqb p 0) P left)) e)
    go false e true f = (
      walks 0 (omega arith) ∙ ap₂ (λ (a b : Bool). tests a b (to 0)) e f,
      ap₂ (λ (a b : Bool). cond a P (cond b P left)) e f,
      refl,
    )
    go false e false f = (
      λ i h. walks i h ∙ ap₂ (λ (a b : Bool). tests a b (to i)) e f,
      ap₂ (λ (a b : Bool). cond a P (cond b P left)) e f,
      taken-kept K k m c v (mirror-one P (suc k)) e (eqb-false p 0 f),
      tag-joins p m (mirror-one P (suc k)),
    )

goes : (K : List (List Cell)) (l : ℕ) (v : Point) (P : List ℕ) → 0 < l → Goes K l (l - 1) v P (walk_to K (l - 1) l (number_in P l) (mirror_in P l) v)
goes K zero v P h = absurd (omega arith)
goes K (suc k) v P h =
    let e : k ≡ suc k - 1 = omega arith in
    subst (λ (j : ℕ). Goes K (suc k) j v P (walk_to K j (suc k) (number_in P (suc k)) (mirror_in P (suc k)) v)) e (goes-suc K k v P)

-- the walk ends where it stopped
abbrev pub Ends : Ended → Type 0
Ends (Absent h) = Unit {0}
Ends (At n m) = ⊥
Ends Damaged = Unit {0}

-- ---- a word of the path

pub entry-number : (P : List ℕ) (k n m : ℕ) → k < length P → m < 8 → number_in (set P k (entry n m)) k ≡ n
entry-number P k n m h l = ap (λ (w : ℕ). w / 8) (get_or-set_same P k (entry n m) 0 h) ∙ digits_div n l

pub entry-mirror : (P : List ℕ) (k n m : ℕ) → k < length P → m < 8 → mirror_in (set P k (entry n m)) k ≡ m
entry-mirror P k n m h l = ap (λ (w : ℕ). w % 8) (get_or-set_same P k (entry n m) 0 h) ∙ digits_mod n l

-- ---- from list k down to list l

-- the walk to v from the cell of list l on path P goes as that from the cell of list k on path P₀, and leaves the same path; its cell is kept
pub record Follows (K : List (List Cell)) (v : Point) (k : ℕ) (P₀ : List ℕ) (l : ℕ) (P : List ℕ) : Type 0 where
  pub walk : walk_from K P l v ≡ walk_from K P₀ k v
  pub left : descended K l v P ≡ descended K k v P₀
  pub kept : number_in P l < length (cells_at K l)

pub follows-start : (K : List (List Cell)) (v : Point) (k : ℕ) (P : List ℕ) → number_in P k < length (cells_at K k) → Follows K v k P k P
follows-start K v k P h = record { walk = refl; left = refl; kept = h }

module _ {K : List (List Cell)} {v : Point} {k : ℕ} {P₀ : List ℕ} {l : ℕ} {P : List ℕ} (f : Follows K v k P₀ l P) (pos : 0 < l) where
  -- where the walk ends here
  pub follows-ends : (e : Ended) → e ≡ walk_to K (l - 1) l (number_in P l) (mirror_in P l) v → Ends e → (e ≡ walk_from K P₀ k v) × (P ≡ descended K k v P₀)
  follows-ends e q = go e (subst (Goes K l (l - 1) v P) (sym q) (goes K l v P pos))
    where
      go : (e : Ended) → Goes K l (l - 1) v P e → Ends e → (e ≡ walk_from K P₀ k v) × (P ≡ descended K k v P₀)
      go Damaged g t = (sym g.0 ∙ f.walk, sym g.1 ∙ f.left)
      go (Absent h) g t = (sym g.0 ∙ f.walk, sym g.1 ∙ f.left)
      go (At n m) g t = absurd t

  -- where it goes on
  module _ (n m : ℕ) (q : At n m ≡ walk_to K (l - 1) l (number_in P l) (mirror_in P l) v) where
    abbrev step : Goes K l (l - 1) v P (At n m)
    step = subst (Goes K l (l - 1) v P) (sym q) (goes K l v P pos)

    pub follows-kept : n < length (cells_at K (l - 1))
    follows-kept = step.2

    pub follows-mirror : m < 8
    follows-mirror = step.3

    pub follows_on : l - 1 < length P → Follows K v k P₀ (l - 1) (set P (l - 1) (entry n m))
    follows_on fits =
        let en : number_in (set P (l - 1) (entry n m)) (l - 1) ≡ n = entry-number P (l - 1) n m fits step.3 in
        let em : mirror_in (set P (l - 1) (entry n m)) (l - 1) ≡ m = entry-mirror P (l - 1) n m fits step.3 in
        record {
          walk = ap₂ (λ (x y : ℕ). walk_to K 0 (l - 1) x y v) en em ∙ sym (step.0 0 (omega arith)) ∙ f.walk;
          left = sym step.1 ∙ f.left;
          kept = subst (λ (x : ℕ). x < length (cells_at K (l - 1))) (sym en) step.2;
        }

-- at a leaf, whose word is w
stays : (K : List (List Cell)) (v : Point) (P : List ℕ) (j : ℕ) → j ≤ 0 → P ≡ descended K j v P
unfolding descended
stays K v P zero q = refl
stays K v P (suc j) q = absurd (omega arith)

pub follows-done : {K : List (List Cell)} {v : Point} {k : ℕ} {P₀ : List ℕ} {l : ℕ} {P : List ℕ} → Follows K v k P₀ l P → (w : ℕ) → l ≤ 0 → get_or P l 0 ≡ w
    → (At (w / 8) (w % 8) ≡ walk_from K P₀ k v) × (P ≡ descended K k v P₀)
follows-done {K} {v} {k} {P₀} {l} {P} f w h e = (
  ap (λ (x : ℕ). At (x / 8) (x % 8)) (sym e) ∙ walk-stop K 0 l (number_in P l) (mirror_in P l) v h ∙ f.walk,
  stays K v P l h ∙ f.left,
)

-- ---- the path left

-- what holds of a path, and of that left from one list down, holds of the path left
descended-step : (K : List (List Cell)) (k : ℕ) (v : Point) (P : List ℕ) (C : List ℕ → Type 0) → C P → ((n m : ℕ) → C (descended K k v (set P k (entry n m)))) → C (descended K (suc k) v P)
descended-step K k v P C here on = go (walk_to K k (suc k) (number_in P (suc k)) (mirror_in P (suc k)) v) (goes-suc K k v P)
  where
    go : (e : Ended) → Goes K (suc k) k v P e → C (descended K (suc k) v P)
    go Damaged g = subst C (sym g.1) here
    go (Absent h) g = subst C (sym g.1) here
    go (At n m) g = subst C (sym g.1) (on n m)

-- from list k upwards it is as it was
pub descended-above : (K : List (List Cell)) (k : ℕ) (v : Point) (P : List ℕ) (j : ℕ) → k ≤ j → get_or (descended K k v P) j 0 ≡ get_or P j 0
unfolding descended
descended-above K zero v P j h = refl
descended-above K (suc k) v P j h =
    descended-step K k v P (λ Q. get_or Q j 0 ≡ get_or P j 0) refl
    (λ n m. descended-above K k v (set P k (entry n m)) j (omega arith) ∙ get_or-set_other P k j (entry n m) 0 (λ q. omega arith))

pub descended-sized : (K : List (List Cell)) (k : ℕ) (v : Point) (P : List ℕ) → length (descended K k v P) ≡ length P
unfolding descended
descended-sized K zero v P = refl
descended-sized K (suc k) v P =
    descended-step K k v P (λ Q. length Q ≡ length P) refl (λ n m. descended-sized K k v (set P k (entry n m)) ∙ length-set P k (entry n m))

-- a walk that came so far down came further up
pub reached-up : (e : Ended) (i j : ℕ) → i ≤ j → Reached e i → Reached e j
reached-up (Absent h) i j l r = omega arith
reached-up (At n m) i j l r = tt
reached-up Damaged i j l r = r

stands_here : (K : List (List Cell)) (k : ℕ) (v : Point) (P : List ℕ) (i : ℕ) → number_in P k < length (cells_at K k) → i ≡ k
    → Stands K k (number_in P k) (mirror_in P k) v (descended K k v P) i
stands_here K k v P i l q =
    let same : get_or P k 0 ≡ get_or (descended K k v P) i 0 = sym (descended-above K k v P k (omega arith)) ∙ ap (λ (j : ℕ). get_or (descended K k v P) j 0) (sym q) in
    record {
      ends = sym (walk-stop K i k (number_in P k) (mirror_in P k) v (omega arith)) ∙ ap (λ (w : ℕ). At (w / 8) (w % 8)) same;
      kept = subst (λ (w : ℕ). w / 8 < length (cells_at K i)) same (subst (λ (j : ℕ). number_in P k < length (cells_at K j)) (sym q) l);
    }

pub descended-stands : (K : List (List Cell)) (k : ℕ) (v : Point) (P : List ℕ) → k < length P → number_in P k < length (cells_at K k) → (i : ℕ) → i ≤ k
    → Reached (walk_to K 0 k (number_in P k) (mirror_in P k) v) i → Stands K k (number_in P k) (mirror_in P k) v (descended K k v P) i
descended-stands K zero v P h l i hi r = stands_here K zero v P i l (omega arith)
descended-stands K (suc k) v P h l i hi r =
    at (eq-or-lt_of_le hi) (walk_to K k (suc k) (number_in P (suc k)) (mirror_in P (suc k)) v) (goes-suc K k v P) (descended-stands K k v)
  where
    n : ℕ
    n = number_in P (suc k)

    m : ℕ
    m = mirror_in P (suc k)

    at : (i ≡ suc k) ⊎ (i < suc k) → (e : Ended) → Goes K (suc k) k v P e
        → ((Q : List ℕ) → k < length Q → number_in Q k < length (cells_at K k) → (j : ℕ) → j ≤ k → Reached (walk_to K 0 k (number_in Q k) (mirror_in Q k) v) j
        → Stands K k (number_in Q k) (mirror_in Q k) v (descended K k v Q) j)
        → Stands K (suc k) n m v (descended K (suc k) v P) i
    at (inl q) e g ih = stands_here K (suc k) v P i l q
    at (inr q) Damaged g ih = absurd (subst (λ (e : Ended). Reached e i) g.0 r)
    at (inr q) (Absent a) g ih = let s : a ≤ suc i = subst (λ (e : Ended). Reached e i) g.0 r in absurd (omega (arith, g.2))
    at (inr q) (At n' m') g ih =
        let Q : List ℕ = set P k (entry n' m') in
        let fits : k < length P = omega arith in
        let sized : k < length Q = omega (arith, length-set P k (entry n' m')) in
        let en : number_in Q k ≡ n' = entry-number P k n' m' fits g.3 in
        let em : mirror_in Q k ≡ m' = entry-mirror P k n' m' fits g.3 in
        let on : (j : ℕ) → j ≤ k → walk_to K j (suc k) n m v ≡ walk_to K j k (number_in Q k) (mirror_in Q k) v =
        λ j hj. g.0 j hj ∙ ap₂ (λ (x y : ℕ). walk_to K j k x y v) (sym en) (sym em) in
        let low : i ≤ k = omega arith in
        let s = ih Q sized (subst (λ (x : ℕ). x < length (cells_at K k)) (sym en) g.2) i low (subst (λ (e : Ended). Reached e i) (on 0 (omega arith)) r) in
        subst (λ (R : List ℕ). Stands K (suc k) n m v R i) (sym g.1) (record { ends = on i low ∙ s.ends; kept = s.kept })

-- an absent child lies below the cells entered
pub absent-most : (K : List (List Cell)) (k n m : ℕ) (v : Point) (h : ℕ) → walk_to K 0 k n m v ≡ Absent h → h ≤ suc k
unfolding walk_to
absent-most K zero n m v h e = absurd (at-absent e)
  where
    at-absent : At n m ≡ Absent h → ⊥
    at-absent q = let z : ◌≡◌ {A = ℕ} 0 1 = cc in omega arith
absent-most K (suc k) n m v h e = go (leb (suc k) 0) (any_bad (length (cells_at K k)) (cell_at K (suc k) n)) (eqb p 0) (absent-most K k (cell_no p) (bit_xor (tag_of p) m) v h) e
  where
    p : ℕ
    p = taken_from k (cell_at K (suc k) n) m v

    go : (a b z : Bool) → (walk_to K 0 k (cell_no p) (bit_xor (tag_of p) m) v ≡ Absent h → h ≤ suc k)
        → cond a (At n m) (cond b Damaged (cond z (Absent (suc (suc k))) (walk_to K 0 k (cell_no p) (bit_xor (tag_of p) m) v))) ≡ Absent h → h ≤ suc (suc k)
    go true b z ih q = let z : ◌≡◌ {A = ℕ} 0 1 = cc in omega arith
    go false true z ih q = let z : ◌≡◌ {A = ℕ} 0 1 = cc in omega arith
    go false false true ih q = let s : suc (suc k) ≡ h = cc in omega arith
    go false false false ih q = omega (arith, ih q)

-- ---- the path to one voxel, and then to another

module _ (K : List (List Cell)) (top n m : ℕ) (v w : Point) (low k : ℕ) (P : List ℕ) (path : PathTo K top n m v low P) (l : low ≤ k) (h : k ≤ top)
    (fits : k < length P) (one : OneCell (k + 2) v w) where
  -- from the cell of list k that holds both, the walk goes on as from the root
  here : Stands K top n m w P k
  here =
      let s = path k l h in
      record { ends = sym (walk-one K k top n m (k + 2) v w (omega arith) one) ∙ s.ends; kept = s.kept }

  pub path-walk : walk_to K 0 k (number_in P k) (mirror_in P k) w ≡ walk_to K 0 top n m w
  path-walk = sym (walk_through K 0 k top n m (number_in P k) (mirror_in P k) w (omega arith) h here.ends)

  pub path-next : (e : ℕ) → Reached (walk_to K 0 top n m w) e → PathTo K top n m w e (descended K k w P)
  path-next e r j le lj = go (leb k j) refl
    where
      go : (b : Bool) → leb k j ≡ b → Stands K top n m w (descended K k w P) j
      go true f =
          let q : k ≤ j = leb-true k j f in
          let s = path j (omega arith) lj in
          let same : get_or P j 0 ≡ get_or (descended K k w P) j 0 = sym (descended-above K k w P j q) in
          record {
            ends = sym (walk-one K j top n m (k + 2) v w (omega arith) one) ∙ s.ends ∙ ap (λ (x : ℕ). At (x / 8) (x % 8)) same;
            kept = subst (λ (x : ℕ). x / 8 < length (cells_at K j)) same s.kept;
          }
      go false f =
          let below : j ≤ k = omega (arith, leb-false k j f) in
          let reached : Reached (walk_to K 0 k (number_in P k) (mirror_in P k) w) j =
          subst (λ (x : Ended). Reached x j) (sym path-walk) (reached-up (walk_to K 0 top n m w) e j le r) in
          let s = descended-stands K k w P fits here.kept j below reached in
          record {
            ends = walk_through K j k top n m (number_in P k) (mirror_in P k) w below h here.ends ∙ s.ends;
            kept = s.kept;
          }

-- ---- the next voxel, by the path to the one asked last, k being the list of the cell that holds both

module _ {ws path : List ℕ} {low top : ℕ} {last v : Point} {k : ℕ} (r : Ready ws path low top last v) (s : Lowest low top last v k) where
  abbrev K : List (List Cell)
  K = kept_of ws

  pub next-on : OnPath ws path k
  next-on =
      record {
        list = omega (arith, s.up_to, r.sought.listed);
        sized = r.sized;
        kept = (r.cells k s.from s.up_to).kept;
      }

  -- where the walk ends at a leaf, that leaf is kept
  pub next-kept : (e : Ended) → e ≡ walk_from (kept_of ws) path k v → AtKept (kept_of ws) e
  next-kept e q = subst (AtKept K) (sym q) (walk_kept K k (number_in path k) (mirror_in path k) v next-on.kept (mirror-one path k))

  fits : k < length path
  fits = omega (arith, next-on.list, r.sized)

  -- it goes on as from the path's highest cell
  pub next-walk : walk_from (kept_of ws) path k v ≡ walk_from (kept_of ws) path top v
  next-walk = path-walk K top (number_in path top) (mirror_in path top) last v low k path r.cells s.from s.up_to fits s.one

  pub next-walked : (left : List ℕ) → left ≡ descended (kept_of ws) k v path → Walked (kept_of ws) path top v left
  next-walked left q =
      subst (Walked K path top v) (sym q)
      (record {
        root = descended-above K k v path top s.up_to;
        sized = descended-sized K k v path;
        cells = λ i e. path-next K top (number_in path top) (mirror_in path top) last v low k path r.cells s.from s.up_to fits s.one i e;
      })

-- ---- answers of damage

pub err-ended : (r : Result End Unsound) → IsErr r → Damaged ≡ ended r
err-ended (Err e) h = refl
err-ended (Ok x) h = absurd (true≢false (sym h))

pub err-voxel : (r : Result Voxel Unsound) → IsErr r → told 2 (0 ∷ 0 ∷ []) ≡ voxel_of r
err-voxel (Err e) h = refl
err-voxel (Ok x) h = absurd (true≢false (sym h))
