-- The last cell of a chain: none follows it, and one follows every other cell of the chain; it is met by following the chain. By induction on the cells.
-- Assumes nothing.
use mathlib.Core.Path.{◌≡◌, refl, sym, ◌∙◌, ap, subst}
use mathlib.Core.Bool.{Bool, cond}
use mathlib.Core.List.{List, [], ◌∷◌, ◌++◌}
use mathlib.Core.Logic.{◌⊎◌, inl, inr, ◌≢◌}
use Prim.Native.Nat.{ℕ, zero, suc, ◌+◌, ◌-◌, ◌<◌, ◌≤◌, zero-le}
use native.Mathlib.Nat.{le_refl, suc_inj, suc-ne-zero, sub-zero}
use native.Mathlib.Decide.{ℕ_discrete, dec_lt}
use native.Mathlib.Omega.{arith}
use borrow.Author.Tests.{eq-eqb, ne_eqb}
use lib.Dec.{eqb}
use lib.ListN.{length, drop, get_or, length-drop}
use lib.Seq.{get_or-drop}
use Rattle.paper.specs.Store.{Cell, chain_of, first_in}
use Rattle.laws.specs.Chains.{last_in}
use Rattle.laws.proofs.Chains.{first-miss, first-nil, first-at, first-none, pass-none, pass-first, pass-rest, next-at}

module _ (k j : ℕ) where
  -- ---- the last of a chain

  pub last-hit : (b n : ℕ) (c : Cell) (cs : List Cell) → chain_of k c ≡ j → last_in k j b n (c ∷ cs) ≡ last_in k j (suc n) (suc n) cs
  unfolding last_in
  last-hit b n c cs e = ap (λ (t : Bool). last_in k j (cond t (suc n) b) (suc n) cs) (eq-eqb (chain_of k c) j e)

  pub last-miss : (b n : ℕ) (c : Cell) (cs : List Cell) → (chain_of k c ≡ j → ⊥) → last_in k j b n (c ∷ cs) ≡ last_in k j b (suc n) cs
  unfolding last_in
  last-miss b n c cs e = ap (λ (t : Bool). last_in k j (cond t (suc n) b) (suc n) cs) (ne_eqb (chain_of k c) j e)

  pub last-nil : (b n : ℕ) → last_in k j b n [] ≡ b
  unfolding last_in
  last-nil b n = refl

  pub last-append : (b n : ℕ) (cs ds : List Cell) → last_in k j b n (cs ++ ds) ≡ last_in k j (last_in k j b n cs) (n + length cs) ds
  unfolding last_in
  last-append b n [] ds = ap (λ (m : ℕ). last_in k j b m ds) (omega arith)
  last-append b n (c ∷ cs) ds =
      let b' : ℕ = cond (eqb (chain_of k c) j) (suc n) b in
      last-append b' (suc n) cs ds ∙ ap (λ (m : ℕ). last_in k j (last_in k j b' (suc n) cs) m ds) (omega arith)

  pub last_one : (b n : ℕ) (c : Cell) → last_in k j b n (c ∷ []) ≡ cond (eqb (chain_of k c) j) (suc n) b
  unfolding last_in
  last_one b n c = refl

  pub last_more : (b n : ℕ) (cs : List Cell) (c : Cell) → last_in k j b n (cs ++ (c ∷ [])) ≡ cond (eqb (chain_of k c) j) (suc (n + length cs)) (last_in k j b n cs)
  last_more b n cs c = last-append b n cs (c ∷ []) ∙ last_one (last_in k j b n cs) (n + length cs) c

  -- along the chain
  pub last_none : (b n : ℕ) (cs : List Cell) → first_in k j n cs ≡ 0 → last_in k j b n cs ≡ b
  last_none b n cs z =
      pass-none k j (λ m ds. last_in k j b m ds) (λ c. Unit {0}) (λ m c ds g e. last-miss b m c ds e) n cs (λ i h. tt) z ∙ last-nil b (n + length cs)

  pub last-first : (b n : ℕ) (cs : List Cell) (m : ℕ) → first_in k j n cs ≡ suc m → last_in k j b n cs ≡ last_in k j (suc m) (suc m) (drop (suc m - n) cs)
  last-first b n cs m q =
      pass-first k j (λ i ds. last_in k j b i ds) (λ c. Unit {0}) (λ i c ds g e. last-miss b i c ds e) n cs m (λ i h. tt) q
      ∙ last-hit b m (get_or cs (m - n) []) (drop (suc m - n) cs) (first-at k j n cs m q).is

  pub last_rest : (b : ℕ) (cs : List Cell) (last m : ℕ) → first_in k j last (drop last cs) ≡ suc m
      → last_in k j b last (drop last cs) ≡ last_in k j (suc m) (suc m) (drop (suc m) cs)
  last_rest b cs last m q =
      pass-rest k j (λ i ds. last_in k j b i ds) (λ c. Unit {0}) (λ i c ds g e. last-miss b i c ds e) cs last m (λ i h. tt) q
      ∙ last-hit b m (get_or cs m []) (drop (suc m) cs) (next-at k j cs last m q).is

  -- ---- where the last is

  -- cell number m, counted from n, is in the chain, and none after it is
  pub record Final (n : ℕ) (cs : List Cell) (m : ℕ) : Type 0 where
    pub from : n ≤ m
    pub inside : m < n + length cs
    pub is : chain_of k (get_or cs (m - n) []) ≡ j
    pub none_after : first_in k j (suc m) (drop (suc m - n) cs) ≡ 0

  -- no cell is in the chain and the last is the one before; or it is such a cell
  abbrev pub FinalOr : ℕ → ℕ → List Cell → Type 0
  FinalOr b n cs = ((first_in k j n cs ≡ 0) × (last_in k j b n cs ≡ b)) ⊎ ((m : ℕ) × (last_in k j b n cs ≡ suc m) × Final n cs m)

  pub last-is : (b n : ℕ) (cs : List Cell) → FinalOr b n cs
  last-is b n [] = inl (first-nil k j n, last-nil b n)
  last-is b n (c ∷ cs) = go (ℕ_discrete (chain_of k c) j) (λ b'. last-is b' (suc n) cs)
    where
      later : (b' : ℕ) → last_in k j b n (c ∷ cs) ≡ last_in k j b' (suc n) cs → (m : ℕ) × (last_in k j b' (suc n) cs ≡ suc m) × Final (suc n) cs m
          → (m : ℕ) × (last_in k j b n (c ∷ cs) ≡ suc m) × Final n (c ∷ cs) m
      later b' e w =
          let m : ℕ = w.0 in
          let f : Final (suc n) cs m = w.2 in
          let h : suc n ≤ m = f.from in
          let o : m - n ≡ suc (m - suc n) = omega arith in
          let d : suc m - n ≡ suc (suc m - suc n) = omega arith in (
            m,
            e ∙ w.1,
            record {
              from = omega arith;
              inside = omega (arith, f.inside);
              is = ap (λ (i : ℕ). chain_of k (get_or (c ∷ cs) i [])) o ∙ f.is;
              none_after = ap (λ (i : ℕ). first_in k j (suc m) (drop i (c ∷ cs))) d ∙ f.none_after;
            },
          )

      go : Dec (chain_of k c ≡ j) → ((b' : ℕ) → FinalOr b' (suc n) cs) → FinalOr b n (c ∷ cs)
      go (yes e) ih = hit (ih (suc n))
        where
          hit : FinalOr (suc n) (suc n) cs → FinalOr b n (c ∷ cs)
          hit (inl (z, l)) =
              let o : n - n ≡ 0 = omega arith in
              let d : suc n - n ≡ 1 = omega arith in
              inr (
                n,
                last-hit b n c cs e ∙ l,
                record {
                  from = le_refl n;
                  inside = omega arith;
                  is = ap (λ (i : ℕ). chain_of k (get_or (c ∷ cs) i [])) o ∙ e;
                  none_after = ap (λ (i : ℕ). first_in k j (suc n) (drop i (c ∷ cs))) d ∙ z;
                },
              )
          hit (inr w) = inr (later (suc n) (last-hit b n c cs e) w)
      go (no e) ih = miss (ih b)
        where
          miss : FinalOr b (suc n) cs → FinalOr b n (c ∷ cs)
          miss (inl (z, l)) = inl (first-miss k j n c cs e ∙ z, last-miss b n c cs e ∙ l)
          miss (inr w) = inr (later b (last-miss b n c cs e) w)

  -- the last of all: of the chain, no other after it, and one after every other
  pub record Last (cs : List Cell) (m : ℕ) : Type 0 where
    pub inside : m < length cs
    pub is : chain_of k (get_or cs m []) ≡ j
    pub none_after : first_in k j (suc m) (drop (suc m) cs) ≡ 0
    pub one-after : (n : ℕ) → n < length cs → chain_of k (get_or cs n []) ≡ j → n ≢ m → first_in k j (suc n) (drop (suc n) cs) ≡ 0 → ⊥

  -- a cell of the chain after cell n
  pub first-after : (cs : List Cell) (n m : ℕ) → n < m → m < length cs → chain_of k (get_or cs m []) ≡ j → first_in k j (suc n) (drop (suc n) cs) ≡ 0 → ⊥
  first-after cs n m h l e z =
      let a : suc n + (m - suc n) ≡ m = omega arith in
      first-none k j (suc n) (drop (suc n) cs) z (m - suc n) (omega (arith, length-drop (suc n) cs))
      (ap (chain_of k) (get_or-drop (suc n) cs (m - suc n) [] ∙ ap (λ (i : ℕ). get_or cs i []) a) ∙ e)

  pub last-at : (cs : List Cell) (m : ℕ) → last_in k j 0 0 cs ≡ suc m → Last cs m
  last-at cs m q = go (last-is 0 0 cs)
    where
      at : Final 0 cs m → Last cs m
      at f =
          let none : first_in k j (suc m) (drop (suc m) cs) ≡ 0 = ap (λ (i : ℕ). first_in k j (suc m) (drop i cs)) (sym (sub-zero (suc m))) ∙ f.none_after in
          let is' : chain_of k (get_or cs m []) ≡ j = ap (λ (i : ℕ). chain_of k (get_or cs i [])) (sym (sub-zero m)) ∙ f.is in
          let in' : m < length cs = omega (arith, f.inside) in
          record {
            inside = in';
            is = is';
            none_after = none;
            one-after = λ n h e ne z. other n h e ne z none is' in' (dec_lt n m);
          }
        where
          other : (n : ℕ) → n < length cs → chain_of k (get_or cs n []) ≡ j → n ≢ m → first_in k j (suc n) (drop (suc n) cs) ≡ 0
              → first_in k j (suc m) (drop (suc m) cs) ≡ 0 → chain_of k (get_or cs m []) ≡ j → m < length cs → Dec (n < m) → ⊥
          other n h e ne z none is' in' (yes l) = first-after cs n m l in' is' z
          other n h e ne z none is' in' (no l) = first-after cs m n (above (ℕ_discrete n m)) h e none
            where
              above : Dec (n ≡ m) → m < n
              above (yes d) = absurd (ne d)
              above (no d) = omega arith

      go : FinalOr 0 0 cs → Last cs m
      go (inl (z, l)) = absurd (suc-ne-zero m (sym q ∙ l))
      go (inr w) = at (subst (Final 0 cs) (suc_inj (sym w.1 ∙ q)) w.2)

  -- none is last exactly where none is first
  pub last-zero : (cs : List Cell) → last_in k j 0 0 cs ≡ 0 → first_in k j 0 cs ≡ 0
  last-zero cs z = go (last-is 0 0 cs)
    where
      go : FinalOr 0 0 cs → first_in k j 0 cs ≡ 0
      go (inl (f, l)) = f
      go (inr w) = absurd (suc-ne-zero w.0 (sym w.1 ∙ z))

  pub last_some : (cs : List Cell) → (last_in k j 0 0 cs ≡ 0 → ⊥) → first_in k j 0 cs ≡ 0 → ⊥
  last_some cs n z = n (last_none 0 0 cs z)

  pub last-most : (cs : List Cell) → last_in k j 0 0 cs ≤ length cs
  last-most cs = go (last_in k j 0 0 cs) refl
    where
      go : (l : ℕ) → last_in k j 0 0 cs ≡ l → l ≤ length cs
      go zero q = zero-le
      go (suc m) q = (last-at cs m q).inside
