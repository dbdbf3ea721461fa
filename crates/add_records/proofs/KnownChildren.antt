-- The children added so far: their pointers, the symmetries of the cells that they name and their solid voxels together stay right while the lists grow. By
-- the place of each, before the last or the last. Assumes nothing.
use mathlib.Core.Path.{◌≡◌, refl, sym, ◌∙◌, ap, ap₂}
use mathlib.Core.Bool.{Bool, true, false, cond}
use mathlib.Core.List.{List, [], ◌∷◌, ◌++◌, append_assoc}
use mathlib.Core.Logic.{inl}
use Prim.Native.Nat.{ℕ, suc, ◌+◌, ◌-◌, ◌<◌}
use native.Mathlib.Numerals.{add-one}
use native.Mathlib.Decide.{dec_lt}
use native.Mathlib.Omega.{arith}
use lib.Dec.{eqb}
use lib.ListN.{length, get_or, set, replicate, length-append, get_or-append}
use lib.Seq.{get_or-append_seam}
use borrow.Author.Tests.{eqb-false}
use Rattle.paper.specs.Numbers.{sum}
use Rattle.paper.specs.Store.{Cell, cells_at, cell_at, cell_no, solid_of}
use Rattle.laws.proofs.Put.{set-right}
use Rattle.laws.proofs.Sums.{sum_same}
use Rattle.laws.proofs.Invariant.{OkPointer}
use Rattle.laws.specs.Symmetries.{symmetry_of}
use Rattle.laws.proofs.Growing.{ext-pointer, ext-solid-at, ext-symmetry}
use Rattle.laws.proofs.Adding.{Sound}
use Rattle.laws.proofs.Capacity.{Grown}
use Rattle.add_records.proofs.Standing.{share}

-- p is a pointer of list k, and m the symmetry of the cell that it names
pub record Named (k : ℕ) (K : List (List Cell)) (p m : ℕ) : Type 0 where
  pub okay : OkPointer (length (cells_at K k)) p
  pub symmetry : (p ≡ 0 → ⊥) → m ≡ symmetry_of K k (cell_at K k (cell_no p))

-- what these pointers together add to the solid voxels of a cell
abbrev pub shares : List (List Cell) → ℕ → List ℕ → ℕ
shares K k ps = sum (length ps) (λ i. share K k (get_or ps i 0))

-- the first children's pointers, symmetries, and solid voxels together
pub record Known (k : ℕ) (K : List (List Cell)) (ps ms : List ℕ) (v : ℕ) : Type 0 where
  pub many : length ms ≡ length ps
  pub each : (i : ℕ) → i < length ps → Named k K (get_or ps i 0) (get_or ms i 0)
  pub solid : v ≡ shares K k ps

-- ---- one more at the end

snoc-before : (l : List ℕ) (p i : ℕ) → i < length l → get_or (l ++ (p ∷ [])) i 0 ≡ get_or l i 0
snoc-before l p i h = get_or-append l (p ∷ []) 0 i h

snoc-last : (l : List ℕ) (p i : ℕ) → i ≡ length l → get_or (l ++ (p ∷ [])) i 0 ≡ p
snoc-last l p i e = rw e (get_or-append_seam l p [] 0)

pub snoc-length : (l : List ℕ) (p : ℕ) → length (l ++ (p ∷ [])) ≡ suc (length l)
snoc-length l p = length-append l (p ∷ []) ∙ add-one (length l)

-- ---- none, and one more

module _ (k : ℕ) (K : List (List Cell)) where
  pub known-none : Known k K [] [] 0
  unfolding sum
  known-none = record { many = refl; each = λ i h. absurd (omega arith); solid = refl }

  -- an absent child
  pub named_none : Named k K 0 0
  named_none = record { okay = inl refl; symmetry = λ ne. absurd (ne refl) }

  module _ {C : ℕ} (sound : Sound C K) {K' : List (List Cell)} (d : Grown K K') where
    named-grown : (p m : ℕ) → Named k K p m → Named k K' p m
    named-grown p m n = record {
      okay = ext-pointer d.ext k p n.okay;
      symmetry = λ ne. n.symmetry ne ∙ sym (ext-symmetry d.ext sound.ok k p n.okay ne);
    }

    -- what a pointer adds stays
    share-grown : (p : ℕ) → OkPointer (length (cells_at K k)) p → share K' k p ≡ share K k p
    share-grown p okay = go (eqb p 0) refl
      where
        go : (b : Bool) → eqb p 0 ≡ b → cond b 0 (solid_of K' k (cell_at K' k (cell_no p))) ≡ cond b 0 (solid_of K k (cell_at K k (cell_no p)))
        go true e = refl
        go false e = ext-solid-at d.ext sound.ok k p okay (eqb-false p 0 e)

    shares-more : (ps : List ℕ) → ((i : ℕ) → i < length ps → OkPointer (length (cells_at K k)) (get_or ps i 0)) → (p : ℕ)
        → shares K' k (ps ++ (p ∷ [])) ≡ shares K k ps + share K' k p
    unfolding sum
    shares-more ps okay p =
        let l : List ℕ = ps ++ (p ∷ []) in
        ap (λ (n : ℕ). sum n (λ i. share K' k (get_or l i 0))) (snoc-length ps p)
        ∙ ap₂ ◌+◌
        (sum_same (length ps) (λ i. share K' k (get_or l i 0)) (λ i. share K k (get_or ps i 0)) (λ i h. ap (share K' k) (snoc-before ps p i h) ∙ share-grown (get_or ps i 0) (okay i h)))
        (ap (share K' k) (snoc-last ps p (length ps) refl))

    pub known_more : (ps ms : List ℕ) (v : ℕ) → Known k K ps ms v → (p m u : ℕ) → Named k K' p m → u ≡ share K' k p → Known k K' (ps ++ (p ∷ [])) (ms ++ (m ∷ [])) (v + u)
    known_more ps ms v kn p m u n e = record {
      many = snoc-length ms m ∙ ap suc kn.many ∙ sym (snoc-length ps p);
      each = λ i h. go i h (dec_lt i (length ps));
      solid = ap₂ ◌+◌ kn.solid e ∙ sym (shares-more ps (λ i h. (kn.each i h).okay) p);
    }
      where
        go : (i : ℕ) → i < length (ps ++ (p ∷ [])) → Dec (i < length ps) → Named k K' (get_or (ps ++ (p ∷ [])) i 0) (get_or (ms ++ (m ∷ [])) i 0)
        go i h (yes l) = rw (snoc-before ps p i l, snoc-before ms m i (omega (arith, kn.many))) (named-grown _ _ (kn.each i l))
        go i h (no f) =
            let e : i ≡ length ps = omega (arith, snoc-length ps p) in
            rw (snoc-last ps p i e, snoc-last ms m i (e ∙ sym kn.many)) n

-- ---- the next place of eight is set, or left 0

pub next-set : (l : List ℕ) (n p : ℕ) → length l + suc n ≡ 8 → set (l ++ replicate (suc n) 0) (7 - n) p ≡ (l ++ (p ∷ [])) ++ replicate n 0
next-set l n p e =
    let i : 7 - n ≡ length l + 0 = omega arith in
    ap (λ (j : ℕ). set (l ++ replicate (suc n) 0) j p) i ∙ set-right l (replicate (suc n) 0) 0 p ∙ sym (append_assoc l (p ∷ []) (replicate n 0))

pub next-zero : (l : List ℕ) (n : ℕ) → l ++ replicate (suc n) 0 ≡ (l ++ (0 ∷ [])) ++ replicate n 0
next-zero l n = sym (append_assoc l (0 ∷ []) (replicate n 0))
