-- Where lists and pointers are sound, every pointer of a record is none or leads to a start one list down, and the graph's pointer for it has that start's
-- number and the same tag. By the rules of pointers. Assumes nothing.
use mathlib.Core.Path.{◌≡◌, refl, sym, ◌∙◌, ap}
use mathlib.Core.Bool.{Bool, true, false, cond, ◌&&◌}
use mathlib.Core.List.{List}
use mathlib.Core.Logic.{◌⊎◌, inl, inr}
use Prim.Native.Nat.{ℕ, suc, ◌+◌, ◌*◌, ◌^◌, ◌<◌}
use native.Mathlib.Decide.{ℕ_discrete}
use native.Mathlib.Omega.{arith}
use borrow.Author.Tests.{eq-eqb, ne_eqb, eqb-true, eqb-false}
use lib.Dec.{T, eqb, eqb→eq}
use lib.ListN.{get_or, drop}
use Rattle.paper.specs.Numbers.{all_in, is_in, index_in}
use Rattle.paper.specs.Store.{cell_no, tag_of, pointer}
use Rattle.paper.specs.Packed.{packed_head, top_of, list_at, header_at, PackedPointer, no_pointer, pointers_at, code_for, places_at, by_number, packed_pointer_ok, packed_pointers_ok}
use Rattle.laws.proofs.Tests.{and_left, and_right}
use Rattle.laws.proofs.Lists.{all_in-at, all_in-is_in, is_in-at}
use Rattle.laws.proofs.Bytes.{bytes_drop}
use Rattle.laws.proofs.Adding.{pointer-cell, pointer-tag}
use Rattle.laws.proofs.PackedLists.{Fits, pointers-fit, list_bytes_lem, start_small, packed_pointer-some}
use Rattle.laws.proofs.PackedWalk.{SoundLists, few-leaves}
use Rattle.paper.specs.Outline.{length_ok}
use Rattle.paper.specs.Runs.{Bytes}

-- the bytes of a file whose length field is right and whose lists and pointers are sound
pub record SoundFile (bs : List ℕ) : Type 0 where
  pub by : Bytes bs
  pub long : T (length_ok packed_head bs)
  pub lists : SoundLists bs

module _ (bs : List ℕ) (f : SoundFile bs) where
  abbrev ss : ℕ → List ℕ
  ss = places_at bs

  abbrev pointers : ℕ → ℕ → List PackedPointer
  pointers k p = pointers_at (list_at bs (suc k)) p

  -- a pointer to a start of list k
  pub record Arrow (k : ℕ) (r : PackedPointer) : Type 0 where
    pub some : r.code ≡ 0 → ⊥
    pub at : T (is_in r.place (ss k))
    pub wide : r.code ≡ code_for r.place
    pub tag : r.tag < 8
    pub small : suc (index_in r.place (ss k)) < 2 ^ 29

  abbrev pub Points : ℕ → PackedPointer → Type 0
  Points k r = (r.code ≡ 0) ⊎ Arrow k r

  pointer-points : (k : ℕ) → k < top_of bs → (r : PackedPointer) → Fits r → T (packed_pointer_ok (ss k) r) → Points k r
  unfolding packed_pointer_ok
  pointer-points k h r fits t = go (eqb r.code 0) refl t
    where
      go : (b : Bool) → eqb r.code 0 ≡ b → T (cond b true (is_in r.place (ss k) && eqb r.code (code_for r.place))) → Points k r
      go true e s = inl (eqb-true r.code 0 e)
      go false e s =
          let i : T (is_in r.place (ss k)) = search and_left in
          let w : T (eqb r.code (code_for r.place)) = search and_right in
          let fit : (r.tag < 8) × (r.place < 2 ^ 29) = fits (eqb→eq r.code (code_for r.place) w) in
          inr (record { some = eqb-false r.code 0 e; at = i; wide = eqb→eq r.code (code_for r.place) w; tag = fit.0; small = start_small bs f.by f.lists.whole (few-leaves bs f.by f.long f.lists) k r.place (omega arith) i fit.1 })

  pointers-ok : (k : ℕ) → k < top_of bs → (p : ℕ) → T (is_in p (ss (suc k))) → T (all_in (packed_pointer_ok (ss k)) (pointers k p))
  unfolding packed_pointers_ok
  pointers-ok k h p t = all_in-is_in (λ q. all_in (packed_pointer_ok (ss k)) (pointers k q)) (ss (suc k)) p (f.lists.pointed k h) t

  pub points : (k : ℕ) → k < top_of bs → (p : ℕ) → T (is_in p (ss (suc k))) → (i : ℕ) → Points k (get_or (pointers k p) i no_pointer)
  unfolding pointers_at packed_pointer_ok
  points k h p t i =
      let l : List ℕ = list_at bs (suc k) in
      pointer-points k h (get_or (pointers k p) i no_pointer)
      (pointers-fit 8 (header_at l p) (drop (2 * p + 2) l) (bytes_drop (2 * p + 2) l (list_bytes_lem bs f.by (suc k))) i)
      (all_in-at (packed_pointer_ok (ss k)) no_pointer tt (pointers k p) (pointers-ok k h p t) i)

  pub no-packed_pointer : (k : ℕ) (r : PackedPointer) → r.code ≡ 0 → by_number (ss k) r ≡ 0
  no-packed_pointer k r e = rw (eq-eqb r.code 0 e)

  pub pointer-no : (k : ℕ) (r : PackedPointer) → Arrow k r → cell_no (by_number (ss k) r) ≡ index_in r.place (ss k)
  pointer-no k r a = ap cell_no (packed_pointer-some (ss k) r a.some) ∙ pointer-cell r.tag (index_in r.place (ss k)) a.small

  pub packed_pointer-tag : (k : ℕ) (r : PackedPointer) → Arrow k r → tag_of (by_number (ss k) r) ≡ r.tag
  packed_pointer-tag k r a = ap tag_of (packed_pointer-some (ss k) r a.some) ∙ pointer-tag r.tag (index_in r.place (ss k)) a.tag a.small

  pub pointer-ne : (k : ℕ) (r : PackedPointer) → Arrow k r → by_number (ss k) r ≡ 0 → ⊥
  pointer-ne k r a e = let q : pointer r.tag (index_in r.place (ss k)) ≡ 0 = sym (packed_pointer-some (ss k) r a.some) ∙ e in omega arith

  -- places are equal exactly where numbers are
  pub same_place : (k x y : ℕ) → T (is_in x (ss k)) → T (is_in y (ss k)) → eqb (index_in x (ss k)) (index_in y (ss k)) ≡ eqb x y
  same_place k x y hx hy = go (ℕ_discrete x y)
    where
      go : Dec (x ≡ y) → eqb (index_in x (ss k)) (index_in y (ss k)) ≡ eqb x y
      go (yes e) = rw (eq-eqb x y e, eq-eqb (index_in x (ss k)) (index_in y (ss k)) (ap (λ (z : ℕ). index_in z (ss k)) e))
      go (no n) = rw (ne_eqb x y n, ne_eqb (index_in x (ss k)) (index_in y (ss k)) (λ e. n (sym (is_in-at x (ss k) hx).is ∙ ap (λ (i : ℕ). get_or (ss k) i 0) e ∙ (is_in-at y (ss k) hy).is)))
