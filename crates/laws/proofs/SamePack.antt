-- Two scenes held with the same depth and voxels pack to the same bytes, for claim C6: their roots name the same kept cell, since no two kept cells
-- are images, under the same tag, since tags are lowest; and a packed file depends on nothing else. Assumes nothing.
use mathlib.Core.Path.{◌≡◌, sym, ◌∙◌, subst, ap, ap₂}
use mathlib.Core.Bool.{false≢true}
use mathlib.Core.List.{List, [], ◌∷◌}
use mathlib.Core.Option.{some}
use mathlib.Core.Logic.{◌⊎◌, inl, inr}
use Prim.Native.Nat.{ℕ, suc, ◌-◌, ◌^◌, ◌<◌}
use native.Mathlib.Decide.{dec_lt}
use native.Mathlib.Omega.{arith}
use borrow.Author.Tests.{eq-eqb, ne_eqb}
use lib.Bits.{bit_xor, xor_comm}
use lib.ListN.{length}
use lib.Dec.{T}
use Rattle.paper.specs.Numbers.{tabulate}
use Rattle.paper.specs.Rooms.{Room, Inside, Same, NonEmpty, depth_ok}
use Rattle.paper.specs.Outline.{edge}
use Rattle.paper.specs.Store.{Cell, tag_of, cell_no, cells_at, cell_at, kept_of, scene_depth, scene_root}
use Rattle.paper.specs.Meaning.{pointer_voxel, cell_voxel, root_room}
use Rattle.paper.specs.Pack.{layout, reachable, list_for, scene_graph, packed_file}
use Rattle.paper.specs.Calls.{pack_bytes}
use Rattle.paper.specs.Runs.{Scene, Held}
use Rattle.laws.proofs.Mirrors.{mirrored-between}
use Rattle.laws.proofs.Eight.{xor8-lt}
use Rattle.laws.proofs.Matching.{tag-lt}
use Rattle.laws.proofs.Invariant.{Names, OkPointer, names-lt, names-ne, Alike, LowTag, pointer_none, pointer-at, pointer-solid}
use Rattle.laws.proofs.Adding.{Invs}
use Rattle.laws.proofs.Outlines.{depth-two}
use Rattle.laws.proofs.Holding.{Means, Holds, HeldAt, root_room_lem, held_at}

-- two pointers to one cell under one tag
record SameNamed (p q : ℕ) : Type 0 where
  left : p ≡ 0 → ⊥
  right : q ≡ 0 → ⊥
  cell : cell_no p ≡ cell_no q
  tag : tag_of p ≡ tag_of q

abbrev SameRoot : ℕ → ℕ → Type 0
SameRoot p q = ((p ≡ 0) × (q ≡ 0)) ⊎ SameNamed p q

module _ (K : List (List Cell)) (invs : Invs K) (k : ℕ) where
  abbrev of : ℕ → Room
  of p = pointer_voxel (cell_voxel K k) (cells_at K k) (edge k) p

  abbrev seen : ℕ → Room
  seen p = cell_voxel K k (cell_at K k (cell_no p))

  -- none and some have other voxels
  none-some : (p q : ℕ) → p ≡ 0 → Names (length (cells_at K k)) q → Same (edge k) (of p) (of q) → ⊥
  none-some p q e w s =
      let n : NonEmpty (edge k) (of q) = pointer-solid (cell_voxel K k) (cells_at K k) (edge k) (invs k).solid q w in
      false≢true (sym (pointer_none (cell_voxel K k) (cells_at K k) (edge k) p e n.0) ∙ s n.0 n.1 ∙ n.2)

  named-same : (p q : ℕ) → Names (length (cells_at K k)) p → Names (length (cells_at K k)) q → LowTag K k p → LowTag K k q → Same (edge k) (of p) (of q) → SameNamed p q
  named-same p q hp hq lp lq s = record { left = names-ne hp; right = names-ne hq; cell = cells; tag = tags (dec_lt (tag_of p) (tag_of q)) (dec_lt (tag_of q) (tag_of p)) }
    where
      between : Alike K k (cell_at K k (cell_no p)) (cell_at K k (cell_no q)) (bit_xor (tag_of q) (tag_of p))
      between =
          mirrored-between (tag_of p) (tag_of q) (edge k) (seen p) (seen q) (tag-lt p) (tag-lt q)
          (λ v l. sym (pointer-at (cell_voxel K k) (cells_at K k) (edge k) p (names-ne hp) v) ∙ s v l ∙ pointer-at (cell_voxel K k) (cells_at K k) (edge k) q (names-ne hq) v)

      cells : cell_no p ≡ cell_no q
      cells = (invs k).apart (cell_no p) (cell_no q) (bit_xor (tag_of q) (tag_of p)) (names-lt hp) (names-lt hq) (xor8-lt (tag_of q) (tag_of p) (tag-lt q) (tag-lt p)) between

      tags : Dec (tag_of p < tag_of q) → Dec (tag_of q < tag_of p) → tag_of p ≡ tag_of q
      tags (yes l) d =
          absurd (lq (tag_of p) l (subst (Alike K k (cell_at K k (cell_no q)) (cell_at K k (cell_no q))) (xor_comm (tag_of q) (tag_of p))
          (subst (λ (n : ℕ). Alike K k (cell_at K k n) (cell_at K k (cell_no q)) (bit_xor (tag_of q) (tag_of p))) cells between)))
      tags (no n) (yes l) =
          absurd (lp (tag_of q) l (subst (λ (n : ℕ). Alike K k (cell_at K k (cell_no p)) (cell_at K k n) (bit_xor (tag_of q) (tag_of p))) (sym cells) between))
      tags (no n) (no m) = omega arith

  root-same : (p q : ℕ) → OkPointer (length (cells_at K k)) p → OkPointer (length (cells_at K k)) q → LowTag K k p → LowTag K k q → Same (edge k) (of p) (of q) → SameRoot p q
  root-same p q (inl ep) (inl eq) lp lq s = inl (ep, eq)
  root-same p q (inl ep) (inr hq) lp lq s = absurd (none-some p q ep hq s)
  root-same p q (inr hp) (inl eq) lp lq s = absurd (none-some q p eq hp (λ v l. sym (s v l)))
  root-same p q (inr hp) (inr hq) lp lq s = inr (named-same p q hp hq lp lq s)

-- the same root, the same file
root-file : (K : List (List Cell)) (D p q : ℕ) → SameRoot p q → packed_file K D p ≡ packed_file K D q
unfolding packed_file scene_graph
root-file K D p q (inl (ep, eq)) = rw (eq-eqb p 0 ep, eq-eqb q 0 eq)
root-file K D p q (inr w) =
    rw (ne_eqb p 0 w.left, ne_eqb q 0 w.right)
    (ap₂ (λ (t c : ℕ). layout (D - 2) t (tabulate 0 (suc (D - 2)) (list_for K (reachable K (D - 2) (c ∷ []))))) w.tag w.cell)

module _ {ws : List ℕ} {held : Held} (h : Holds ws held) where
  abbrev K : List (List Cell)
  K = kept_of ws

  -- by the scenes' words
  words_same : (D D' p q : ℕ) (file file' : List ℕ) → Means K D p file → Means K D' q file' → D ≡ D'
      → Same (2 ^ D) (root_room K D p) (root_room K D' q) → packed_file K D p ≡ packed_file K D' q
  words_same D D' p q file file' m m' e s =
      subst (λ (d : ℕ). Means K d q file' → Same (2 ^ D) (root_room K D p) (root_room K d q) → packed_file K D p ≡ packed_file K d q) e at m' s
    where
      deep : T (depth_ok D)
      deep = subst (λ (d : ℕ). T (depth_ok d)) (sym m.depth) m.accepted.deep

      at : Means K D q file' → Same (2 ^ D) (root_room K D p) (root_room K D q) → packed_file K D p ≡ packed_file K D q
      at n r =
          root-file K D p q (root-same K h.invs (D - 2) p q m.okp n.okp m.low n.low
          (λ v l.
          ap (λ (f : Room). f v) (sym (root_room_lem K D p deep)) ∙ r v (subst (λ (d : ℕ). Inside (2 ^ d) v) (depth-two D deep) l)
          ∙ ap (λ (f : Room). f v) (root_room_lem K D q deep)))

  pub scenes-same : (n n' : ℕ) (sc sc' : Scene) → held n ≡ some sc → held n' ≡ some sc' → sc.depth ≡ sc'.depth → Same (2 ^ sc.depth) sc.room sc'.room
      → pack_bytes ws n ≡ pack_bytes ws n'
  unfolding pack_bytes
  scenes-same n n' sc sc' e e' d s =
      let a : HeldAt ws n sc (h.file n) = held_at h n sc e in
      let b : HeldAt ws n' sc' (h.file n') = held_at h n' sc' e' in
      let D : ℕ = scene_depth ws n in
      let D' : ℕ = scene_depth ws n' in
      let ad : D ≡ sc.depth = a.means.depth ∙ sym (ap (λ (x : Scene). x.depth) a.is) in
      let bd : D' ≡ sc'.depth = b.means.depth ∙ sym (ap (λ (x : Scene). x.depth) b.is) in
      let same : D ≡ D' = ad ∙ d ∙ sym bd in
      words_same D D' (scene_root ws n) (scene_root ws n') (h.file n) (h.file n') a.means b.means same
      (λ v l.
      a.means.room v l ∙ sym (ap (λ (x : Scene). x.room v) a.is) ∙ s v (subst (λ (x : ℕ). Inside (2 ^ x) v) ad l)
      ∙ ap (λ (x : Scene). x.room v) b.is ∙ sym (b.means.room v (subst (λ (x : ℕ). Inside (2 ^ x) v) same l)))
