-- Lists that hold some cells of other lists, in any order and so under other numbers, with all that these point to and every pointer following its
-- cell. Voxels, matches, popularity, lowest tags and the invariant are carried across. By induction on the height. Assumes nothing.
use mathlib.Core.Path.{◌≡◌, refl, sym, ◌∙◌, subst, ap, ap₂}
use mathlib.Core.List.{List, [], map}
use mathlib.Core.Logic.{inl, inr}
use Prim.Native.Nat.{ℕ, zero, suc, ◌-◌, ◌^◌, ◌<◌, ◌≤◌}
use native.Mathlib.Omega.{arith}
use borrow.Author.Tests.{eq-eqb, ne_eqb}
use lib.Bits.{bit_xor}
use lib.ListN.{length, get_or, length-map, get_or-map}
use Rattle.paper.specs.Numbers.{index_in}
use Rattle.paper.specs.Rooms.{Point, mirror, NonEmpty, child_no, in_child}
use Rattle.paper.specs.Outline.{edge}
use Rattle.paper.specs.Store.{Cell, most_capacity, cell_no, tag_of, cells_at, cell_at}
use Rattle.paper.specs.Meaning.{pointer_voxel, cell_voxel, root_room}
use Rattle.paper.specs.Match.{pointer_match, cell_match, matches}
use Rattle.paper.specs.Packed.{popularity}
use Rattle.paper.specs.Pack.{renumber, list_for}
use Rattle.laws.proofs.Tests.{all_same}
use Rattle.laws.proofs.Lists.{map_at, Once}
use Rattle.laws.proofs.Matching.{self_at}
use Rattle.laws.proofs.Invariant.{OkCell, LowTag, Shape, Inv}
use Rattle.laws.proofs.RenumberedPointers.{Listed, InList, none-renumbered, listed-some, listed-cell, listed-tag, ok-renumbered, pointers-match, popularity-same}

-- ---- cells renumbered; N: the numbers of each list

-- every pointer of a cell of list j is none or to one of them; a leaf has none
abbrev pub AllListed : (ℕ → List ℕ) → ℕ → Cell → Type 0
AllListed N zero c = Unit {0}
AllListed N (suc j) c = (i : ℕ) → InList (N j) (get_or c i 0)

abbrev pub renumber_cell : (ℕ → List ℕ) → ℕ → Cell → Cell
renumber_cell N zero c = c
renumber_cell N (suc j) c = map (renumber (N j)) c

pub cell-pointer : (N : ℕ → List ℕ) (j : ℕ) (c : Cell) (i : ℕ) → get_or (renumber_cell N (suc j) c) i 0 ≡ renumber (N j) (get_or c i 0)
unfolding renumber
cell-pointer N j c i = get_or-map (renumber (N j)) c i 0

list-cells : (K : List (List Cell)) (N : ℕ → List ℕ) (j : ℕ) → list_for K N j ≡ map (λ q. renumber_cell N j (cell_at K j q)) (N j)
unfolding list_for
list-cells K N zero = refl
list-cells K N (suc j) = refl

-- ---- lists renumbered

-- up to list top G has K's cells of the numbers N, in that order, renumbered: none twice, and all that they point to among them
pub record Renumbered (K G : List (List Cell)) (N : ℕ → List ℕ) (top : ℕ) : Type 0 where
  pub list : (j : ℕ) → j ≤ top → cells_at G j ≡ list_for K N j
  pub below : (j : ℕ) → j ≤ top → (n : ℕ) → n < length (N j) → get_or (N j) n 0 < length (cells_at K j)
  pub once : (j : ℕ) → j ≤ top → Once (N j)
  pub few : (j : ℕ) → j ≤ top → length (N j) ≤ most_capacity
  pub closed : (j : ℕ) → j < top → (n : ℕ) → n < length (N (suc j)) → (i : ℕ) → InList (N j) (get_or (cell_at K (suc j) (get_or (N (suc j)) n 0)) i 0)

module _ {K G : List (List Cell)} {N : ℕ → List ℕ} {top : ℕ} (s : Renumbered K G N top) where
  -- K's cell of number n in G
  abbrev from : ℕ → ℕ → Cell
  from j n = cell_at K j (get_or (N j) n 0)

  pub from-listed : (j : ℕ) → j ≤ top → (n : ℕ) → n < length (N j) → AllListed N j (from j n)
  from-listed zero h n m = tt
  from-listed (suc j) h n m = s.closed j h n m

  -- ---- G's cells

  pub renumbered-length : (j : ℕ) → j ≤ top → length (cells_at G j) ≡ length (N j)
  renumbered-length j h = ap length (s.list j h ∙ list-cells K N j) ∙ length-map (N j) (λ q. renumber_cell N j (cell_at K j q))

  pub renumbered-cell : (j : ℕ) → j ≤ top → (n : ℕ) → n < length (N j) → cell_at G j n ≡ renumber_cell N j (from j n)
  renumbered-cell j h n m =
      ap (λ (l : List Cell). get_or l n []) (s.list j h ∙ list-cells K N j) ∙ map_at (λ q. renumber_cell N j (cell_at K j q)) (N j) n 0 [] m

  pub renumbered-pointer : (j : ℕ) → j < top → (n : ℕ) → n < length (N (suc j)) → (i : ℕ)
      → get_or (cell_at G (suc j) n) i 0 ≡ renumber (N j) (get_or (from (suc j) n) i 0)
  renumbered-pointer j h n m i = ap (λ (c : Cell). get_or c i 0) (renumbered-cell (suc j) h n m) ∙ cell-pointer N j (from (suc j) n) i

  -- the cell that a pointer to one of them names
  pub listed_kept : (j : ℕ) → j ≤ top → (r : ℕ) → Listed (N j) r → cell_at G j (cell_no (renumber (N j) r)) ≡ renumber_cell N j (cell_at K j (cell_no r))
  listed_kept j h r w =
      ap (cell_at G j) (listed-cell (N j) (s.few j h) r w)
      ∙ renumbered-cell j h (index_in (cell_no r) (N j)) w.at.inside ∙ ap (λ (q : ℕ). renumber_cell N j (cell_at K j q)) w.at.is

  pub listed-closed : (j : ℕ) → j ≤ top → (r : ℕ) → Listed (N j) r → AllListed N j (cell_at K j (cell_no r))
  listed-closed j h r w = subst (λ (q : ℕ). AllListed N j (cell_at K j q)) w.at.is (from-listed j h (index_in (cell_no r) (N j)) w.at.inside)

  -- ---- voxels

  voxels-under : (j : ℕ) → j ≤ top → ((c : Cell) → AllListed N j c → (v : Point) → cell_voxel G j (renumber_cell N j c) v ≡ cell_voxel K j c v)
      → (S r : ℕ) → InList (N j) r → (u : Point) → pointer_voxel (cell_voxel G j) (cells_at G j) S (renumber (N j) r) u ≡ pointer_voxel (cell_voxel K j) (cells_at K j) S r u
  voxels-under j h ih S r (inl e) u = rw (none-renumbered (N j) r e, eq-eqb r 0 e)
  voxels-under j h ih S r (inr w) u =
      rw (ne_eqb (renumber (N j) r) 0 (listed-some (N j) r w), ne_eqb r 0 w.some, listed_kept j h r w, listed-tag (N j) (s.few j h) r w)
      (ih (cell_at K j (cell_no r)) (listed-closed j h r w) (mirror (tag_of r) S u))

  -- of any cell whose pointers are listed
  pub cell-voxels : (j : ℕ) → j ≤ top → (c : Cell) → AllListed N j c → (v : Point) → cell_voxel G j (renumber_cell N j c) v ≡ cell_voxel K j c v
  unfolding cell_voxel
  cell-voxels zero h c a v = refl
  cell-voxels (suc j) h c a v =
      let i : ℕ = child_no (edge j) v in
      rw (cell-pointer N j c i) (voxels-under j (omega arith) (cell-voxels j (omega arith)) (edge j) (get_or c i 0) (a i) (in_child (edge j) v))

  -- of G's cells
  pub renumbered-voxels : (j : ℕ) → j ≤ top → (n : ℕ) → n < length (N j) → (v : Point) → cell_voxel G j (cell_at G j n) v ≡ cell_voxel K j (from j n) v
  renumbered-voxels j h n m v = ap (λ (c : Cell). cell_voxel G j c v) (renumbered-cell j h n m) ∙ cell-voxels j h (from j n) (from-listed j h n m) v

  -- of a pointer, and of a scene's root
  pub pointer-voxels : (j : ℕ) → j ≤ top → (S r : ℕ) → InList (N j) r → (u : Point)
      → pointer_voxel (cell_voxel G j) (cells_at G j) S (renumber (N j) r) u ≡ pointer_voxel (cell_voxel K j) (cells_at K j) S r u
  pointer-voxels j h = voxels-under j h (cell-voxels j h)

  pub root-voxels : (D : ℕ) → D - 2 ≤ top → (p : ℕ) → InList (N (D - 2)) p → (v : Point) → root_room G D (renumber (N (D - 2)) p) v ≡ root_room K D p v
  unfolding root_room
  root-voxels D h p a v = pointer-voxels (D - 2) h (2 ^ D) p a v

  -- ---- matches

  pub cell-matches : (j : ℕ) → j ≤ top → (a b : Cell) → AllListed N j a → AllListed N j b → (t : ℕ)
      → matches G j (renumber_cell N j a) (renumber_cell N j b) t ≡ matches K j a b t
  unfolding matches cell_match
  cell-matches zero h a b la lb t = refl
  cell-matches (suc j) h a b la lb t =
      all_same 8 (λ i. pointer_match (self_at G j) t (get_or (renumber_cell N (suc j) a) i 0) (get_or (renumber_cell N (suc j) b) (bit_xor i t) 0))
      (λ i. pointer_match (self_at K j) t (get_or a i 0) (get_or b (bit_xor i t) 0))
      (λ i hi. rw (cell-pointer N j a i, cell-pointer N j b (bit_xor i t))
      (pointers-match (N j) (s.few j (omega arith)) (self_at G j) (self_at K j)
      (λ r w u.
      let l : AllListed N j (cell_at K j (cell_no r)) = listed-closed j (omega arith) r w in
      rw (listed_kept j (omega arith) r w) (cell-matches j (omega arith) (cell_at K j (cell_no r)) (cell_at K j (cell_no r)) l l u))
      t (get_or a i 0) (get_or b (bit_xor i t) 0) (la i) (lb (bit_xor i t))))

  pub renumbered-matches : (j : ℕ) → j ≤ top → (m n : ℕ) → m < length (N j) → n < length (N j) → (t : ℕ)
      → matches G j (cell_at G j m) (cell_at G j n) t ≡ matches K j (from j m) (from j n) t
  renumbered-matches j h m n lm ln t =
      ap₂ (λ (a b : Cell). matches G j a b t) (renumbered-cell j h m lm) (renumbered-cell j h n ln)
      ∙ cell-matches j h (from j m) (from j n) (from-listed j h m lm) (from-listed j h n ln) t

  -- ---- popularity

  pub renumbered-popularity : (j : ℕ) → j < top → (q : ℕ) → q < length (N j)
      → popularity (cells_at G (suc j)) q ≡ popularity (map (cell_at K (suc j)) (N (suc j))) (get_or (N j) q 0)
  renumbered-popularity j h q m =
      ap (λ (l : List Cell). popularity l q) (s.list (suc j) h ∙ list-cells K N (suc j))
      ∙ popularity-same (N j) (s.few j (omega arith)) (s.once j (omega arith)) q m (cell_at K (suc j)) (N (suc j)) (s.closed j h)

  -- ---- the invariant

  pub pointer_low_lem : (j : ℕ) → j ≤ top → (r : ℕ) → InList (N j) r → LowTag K j r → LowTag G j (renumber (N j) r)
  pointer_low_lem j h r (inl e) low = rw (none-renumbered (N j) r e) (λ u hu. absurd (omega arith))
  pointer_low_lem j h r (inr w) low =
      let c : Cell = cell_at K j (cell_no r) in
      let same : (v : Point) → cell_voxel G j (renumber_cell N j c) v ≡ cell_voxel K j c v = cell-voxels j h c (listed-closed j h r w) in
      rw (listed-tag (N j) (s.few j h) r w, listed_kept j h r w)
      (λ u hu e. low u hu (λ v l. sym (same v) ∙ e v l ∙ same (mirror (bit_xor u (tag_of r)) (edge j) v)))

  pub cell-ok : (j : ℕ) → j ≤ top → (c : Cell) → AllListed N j c → OkCell K j c → OkCell G j (renumber_cell N j c)
  cell-ok zero h c a ok = ok
  cell-ok (suc j) h c a ok =
      λ i hi. rw (cell-pointer N j c i, renumbered-length j (omega arith)) (ok-renumbered (N j) (s.few j (omega arith)) (get_or c i 0) (a i))

  pub cell-shape : (j : ℕ) → j ≤ top → (c : Cell) → AllListed N j c → Shape K j c → Shape G j (renumber_cell N j c)
  cell-shape zero h c a sh = sh
  cell-shape (suc j) h c a sh = (
    length-map c (renumber (N j)) ∙ sh.0,
    λ i hi. rw (cell-pointer N j c i) (pointer_low_lem j (omega arith) (get_or c i 0) (a i) (sh.1 i hi)),
  )

  -- a list as it should be
  pub renumbered-inv : (j : ℕ) → j ≤ top → Inv K j → Inv G j
  renumbered-inv j h inv = record {
    ok = λ n m. rw (renumbered-cell j h n (l n m)) (cell-ok j h (from j n) (from-listed j h n (l n m)) (inv.ok (get_or (N j) n 0) (s.below j h n (l n m))));
    shape = λ n m. rw (renumbered-cell j h n (l n m)) (cell-shape j h (from j n) (from-listed j h n (l n m)) (inv.shape (get_or (N j) n 0) (s.below j h n (l n m))));
    solid = λ n m.
        let o : NonEmpty (edge j) (cell_voxel K j (from j n)) = inv.solid (get_or (N j) n 0) (s.below j h n (l n m)) in
        (o.0, o.1, renumbered-voxels j h n (l n m) o.0 ∙ o.2);
    apart = λ m n t lm ln ht e.
        s.once j h m n (l m lm) (l n ln)
        (inv.apart (get_or (N j) m 0) (get_or (N j) n 0) t (s.below j h m (l m lm)) (s.below j h n (l n ln)) ht
        (λ v i. sym (renumbered-voxels j h m (l m lm) v) ∙ e v i ∙ renumbered-voxels j h n (l n ln) (mirror t (edge j) v)));
  }
    where
      l : (n : ℕ) → n < length (cells_at G j) → n < length (N j)
      l n m = omega (arith, renumbered-length j h)
