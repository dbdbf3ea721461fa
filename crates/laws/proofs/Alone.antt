-- The cells of a room alone: rooms with the same voxels have the same number of differing non-empty cells, there is one such number, and it is 0
-- for a room with no solid voxel. From where a cell occurs. Assumes nothing.
use mathlib.Core.Path.{◌≡◌, refl, sym, ◌∙◌, ap, subst}
use mathlib.Core.Bool.{Bool, true, false, false≢true, cond}
use mathlib.Core.List.{List, [], ◌∷◌}
use mathlib.Core.Option.{some, some-injective, some-ne-none}
use mathlib.Core.Option as O
use Prim.Native.Nat.{ℕ, ◌+◌, ◌-◌, ◌*◌, ◌≤◌, ◌^◌}
use native.Mathlib.Nat.{not-suc-le-zero}
use native.Mathlib.Omega.{arith}
use lib.Dec.{eqb}
use lib.ListN.{length, get_or}
use lib.Pow.{pow-add}
use Rattle.paper.specs.Rooms.{Point, Room, Inside, cell_of, Same}
use Rattle.paper.specs.Runs.{Scene, alone, Held, Occurs, Differing, Number}
use Rattle.laws.proofs.Mirrors.{same-sym}
use Rattle.laws.proofs.Occurring.{same-cell}

-- what is held
abbrev lone : ℕ → Room → Scene
lone D r = record { file = []; depth = D; room = r }

alone-is : (D : ℕ) (r : Room) (n : ℕ) (sc : Scene) → alone D r n ≡ some sc → sc ≡ lone D r
alone-is D r n sc e = go (eqb n 0) e
  where
    go : (b : Bool) → cond b (some (lone D r)) O.none ≡ some sc → sc ≡ lone D r
    go true q = some-injective sc (lone D r) (sym q)
    go false q = absurd (some-ne-none sc (sym q))

-- c is the cell of height h at some place of a room of depth D
pub record CellAt (D : ℕ) (r : Room) (h : ℕ) (c : Room) : Type 0 where
  pub low : h ≤ D
  pub place : Point
  pub in_room : Inside (2 ^ (D - h)) place
  pub same : Same (2 ^ h) c (cell_of r h place)

module _ (D : ℕ) (r : Room) (h : ℕ) (c : Room) where
  pub alone-cell : Occurs (alone D r) h c → CellAt D r h c
  alone-cell o =
      let e : o.scene ≡ lone D r = alone-is D r o.number o.scene o.is_held in
      record {
        low = subst (λ (sc : Scene). h ≤ sc.depth) e o.low;
        place = o.place;
        in_room = subst (λ (sc : Scene). Inside (2 ^ (sc.depth - h)) o.place) e o.in_scene;
        same = subst (λ (sc : Scene). Same (2 ^ h) c (cell_of sc.room h o.place)) e o.same;
      }

  cell-alone : CellAt D r h c → Occurs (alone D r) h c
  cell-alone a = record { number = 0; scene = lone D r; is_held = refl; low = a.low; place = a.place; in_scene = a.in_room; same = a.same }

-- ---- rooms with the same voxels

module _ (D h : ℕ) where
  alone-same : (r s : Room) → Same (2 ^ D) r s → (c : Room) → Occurs (alone D r) h c → Occurs (alone D s) h c
  alone-same r s e c o =
      let a : CellAt D r h c = alone-cell D r h c o in
      let up : D ≡ h + (D - h) = omega (arith, a.low) in
      let whole : 2 ^ D ≡ 2 ^ h * 2 ^ (D - h) = ap (λ (n : ℕ). 2 ^ n) up ∙ pow-add 2 h (D - h) in
      cell-alone D s h c (record {
        low = a.low;
        place = a.place;
        in_room = a.in_room;
        same = λ v l. a.same v l ∙ same-cell h (D - h) (2 ^ D) r s a.place whole e a.in_room v l;
      })

  differing-same : (r s : Room) → Same (2 ^ D) r s → (cs : List Room) → Differing (alone D r) h cs → Differing (alone D s) h cs
  differing-same r s e cs d = record { occur = λ i l. alone-same r s e (get_or cs i (λ v. false)) (d.occur i l); non_empty_lem = d.non_empty_lem; apart = d.apart }

  -- they have the same number of cells
  pub number_same : (r s : Room) (n : ℕ) → Same (2 ^ D) r s → Number (alone D r) h n → Number (alone D s) h n
  number_same r s n e m = record {
    cells = m.cells;
    differing = differing-same r s e m.cells m.differing;
    all = m.all;
    most = λ cs d. m.most cs (differing-same s r (same-sym e) cs d);
  }

  -- a room with no solid voxel has none
  pub number-none : (r : Room) → ((v : Point) → r v ≡ false) → Number (alone D r) h 0
  number-none r e = record {
    cells = [];
    differing = record { occur = λ i l. absurd (not-suc-le-zero l); non_empty_lem = λ i l. absurd (not-suc-le-zero l); apart = λ i j l m. absurd (not-suc-le-zero m) };
    all = refl;
    most = none;
  }
    where
      none : (cs : List Room) → Differing (alone D r) h cs → length cs ≤ 0
      none [] d = omega arith
      none (c ∷ cs) d =
          let f = d.non_empty_lem 0 (omega arith) in
          absurd (false≢true (sym (e _) ∙ sym ((alone-cell D r h c (d.occur 0 (omega arith))).same f.0 f.1) ∙ f.2))

-- two such numbers are one
pub number-one : {held : Held} {h : ℕ} (n m : ℕ) → Number held h n → Number held h m → n ≡ m
number-one n m a b = omega (arith, a.most b.cells b.differing, a.all, b.most a.cells a.differing, b.all)
