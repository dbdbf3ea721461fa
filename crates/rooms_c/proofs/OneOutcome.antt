-- One outcome: for each export, two results that meet its promise on the same input are equal: the number, every value written and
-- every slice lent for writing. The promise is the one that the export's `ensures` cites. They are parts of an outcome, and both outcomes are the one that the promise names. Assumes nothing.
use mathlib.Core.Path.{◌≡◌, sym, ap, ◌∙◌}
use mathlib.Core.List.{List, [], ◌∷◌}
use Prim.Native.Nat.{ℕ}
use lib.Ieee.{Float}
use lib.ListN.{get_or}
use Rattle.paper.specs.Rooms.{Point}
use Rattle.paper.specs.Answers.{Outcome, told, outcome}
use Rattle.rooms_c.specs.Exports.{RoomsNewPromise, RoomsAddPromise, RoomsVoxelPromise, RoomsSightPromise, RoomsCellPromise, RoomsBoxPromise, RoomsAnyPromise, RoomsKeptPromise, RoomsOutlinePromise, RoomsPackPromise, RoomsHeadsetPackPromise, RoomsCheckPromise, RoomsHeadsetCheckPromise, RoomsPackedVoxelPromise, RoomsOpenPromise, RoomsAskPromise, RoomsDetailPromise}

-- ---- the parts of equal outcomes

module _ {n m : ℕ} {vs ws : List ℕ} {ls ms : List (List ℕ)} {o : Outcome} (a : outcome (told n vs) ls ≡ o) (b : outcome (told m ws) ms ≡ o) where
  same_number : n ≡ m
  same_number = ap (λ (p : Outcome). p.number) (a ∙ sym b)

  same-value : (i : ℕ) → get_or vs i 0 ≡ get_or ws i 0
  same-value i = ap (λ (p : Outcome). get_or p.values i 0) (a ∙ sym b)

  same-lent : (i : ℕ) → get_or ls i [] ≡ get_or ms i []
  same-lent i = ap (λ (p : Outcome). get_or p.lent i []) (a ∙ sym b)

-- an export that writes one value and is lent nothing for writing, whatever its outcome
one_value : {n m v w : ℕ} {o : Outcome} → outcome (told n (v ∷ [])) [] ≡ o → outcome (told m (w ∷ [])) [] ≡ o → (n ≡ m) × (v ≡ w)
one_value a b = (same_number a b, same-value a b 0)

-- one value and one slice
one-slice : {n m v w : ℕ} {xs ys : List ℕ} {o : Outcome} → outcome (told n (v ∷ [])) (xs ∷ []) ≡ o → outcome (told m (w ∷ [])) (ys ∷ []) ≡ o
    → (n ≡ m) × (v ≡ w) × (xs ≡ ys)
one-slice a b = (same_number a b, same-value a b 0, same-lent a b 0)

-- one value and two slices
two-slices : {n m v w : ℕ} {xs ys us vs : List ℕ} {o : Outcome} → outcome (told n (v ∷ [])) (xs ∷ us ∷ []) ≡ o → outcome (told m (w ∷ [])) (ys ∷ vs ∷ []) ≡ o
    → (n ≡ m) × (v ≡ w) × (xs ≡ ys) × (us ≡ vs)
two-slices a b = (same_number a b, same-value a b 0, same-lent a b 0, same-lent a b 1)

-- one slice and no value
slice-only : {n m : ℕ} {xs ys : List ℕ} {o : Outcome} → outcome (told n []) (xs ∷ []) ≡ o → outcome (told m []) (ys ∷ []) ≡ o → (n ≡ m) × (xs ≡ ys)
slice-only a b = (same_number a b, same-lent a b 0)

-- two values
two-values : {n m v w s t : ℕ} {o : Outcome} → outcome (told n (v ∷ s ∷ [])) [] ≡ o → outcome (told m (w ∷ t ∷ [])) [] ≡ o → (n ≡ m) × (v ≡ w) × (s ≡ t)
two-values a b = (same_number a b, same-value a b 0, same-value a b 1)

-- three values
three-values : {n m v w s t x y : ℕ} {o : Outcome} → outcome (told n (v ∷ s ∷ x ∷ [])) [] ≡ o → outcome (told m (w ∷ t ∷ y ∷ [])) [] ≡ o
    → (n ≡ m) × (v ≡ w) × (s ≡ t) × (x ≡ y)
three-values a b = (same_number a b, same-value a b 0, same-value a b 1, same-value a b 2)

-- four values
four-values : {n m v w s t x y k l : ℕ} {o : Outcome} → outcome (told n (v ∷ s ∷ x ∷ k ∷ [])) [] ≡ o → outcome (told m (w ∷ t ∷ y ∷ l ∷ [])) [] ≡ o
    → (n ≡ m) × (v ≡ w) × (s ≡ t) × (x ≡ y) × (k ≡ l)
four-values a b = (same_number a b, same-value a b 0, same-value a b 1, same-value a b 2, same-value a b 3)

-- ---- the exports

pub rooms-new : (C : ℕ) (ws : List ℕ) {n m : ℕ} {xs ys : List ℕ} → RoomsNewPromise C ws n xs → RoomsNewPromise C ws m ys → (n ≡ m) × (xs ≡ ys)
rooms-new C ws a b = slice-only a b

pub rooms-add : (ws file : List ℕ) {n m scene scene' : ℕ} {xs ys : List ℕ} → RoomsAddPromise ws file n scene xs → RoomsAddPromise ws file m scene' ys
    → (n ≡ m) × (scene ≡ scene') × (xs ≡ ys)
rooms-add ws file a b = one-slice a b

pub rooms-voxel : (ws : List ℕ) (scene : ℕ) (v : Point) {n m solid solid' height height' : ℕ} → RoomsVoxelPromise ws scene v n solid height
    → RoomsVoxelPromise ws scene v m solid' height' → (n ≡ m) × (solid ≡ solid') × (height ≡ height')
rooms-voxel ws scene v a b = two-values a b

pub rooms-sight : (ws : List ℕ) (scene : ℕ) (p q : Point) {n m blocked blocked' x x' y y' z z' : ℕ} → RoomsSightPromise ws scene p q n blocked x y z
    → RoomsSightPromise ws scene p q m blocked' x' y' z' → (n ≡ m) × (blocked ≡ blocked') × (x ≡ x') × (y ≡ y') × (z ≡ z')
rooms-sight ws scene p q a b = four-values a b

pub rooms-cell : (ws : List ℕ) (scene h : ℕ) (c : Point) {n m full full' : ℕ} → RoomsCellPromise ws scene h c n full → RoomsCellPromise ws scene h c m full'
    → (n ≡ m) × (full ≡ full')
rooms-cell ws scene h c a b = one_value a b

pub rooms-box : (ws : List ℕ) (scene : ℕ) (low high : Point) {n m count count' : ℕ} → RoomsBoxPromise ws scene low high n count
    → RoomsBoxPromise ws scene low high m count' → (n ≡ m) × (count ≡ count')
rooms-box ws scene low high a b = one_value a b

pub rooms-any : (ws : List ℕ) (scene : ℕ) (low high : Point) {n m solid solid' entered entered' : ℕ} → RoomsAnyPromise ws scene low high n solid entered
    → RoomsAnyPromise ws scene low high m solid' entered' → (n ≡ m) × (solid ≡ solid') × (entered ≡ entered')
rooms-any ws scene low high a b = two-values a b

pub rooms-kept : (ws : List ℕ) (h : ℕ) {n m count count' : ℕ} → RoomsKeptPromise ws h n count → RoomsKeptPromise ws h m count' → (n ≡ m) × (count ≡ count')
rooms-kept ws h a b = one_value a b

pub rooms-outline : (ws : List ℕ) (scene : ℕ) (out : List ℕ) {n m len len' : ℕ} {xs ys : List ℕ} → RoomsOutlinePromise ws scene out n len xs
    → RoomsOutlinePromise ws scene out m len' ys → (n ≡ m) × (len ≡ len') × (xs ≡ ys)
rooms-outline ws scene out a b = one-slice a b

pub rooms-pack : (ws : List ℕ) (scene : ℕ) (scratch out : List ℕ) {n m len len' : ℕ} {xs ys us vs : List ℕ} → RoomsPackPromise ws scene scratch out n len xs us
    → RoomsPackPromise ws scene scratch out m len' ys vs → (n ≡ m) × (len ≡ len') × (xs ≡ ys) × (us ≡ vs)
rooms-pack ws scene scratch out a b = two-slices a b

pub rooms-headset-pack : (ws : List ℕ) (scene : ℕ) (scratch out : List ℕ) {n m len len' : ℕ} {xs ys us vs : List ℕ} → RoomsHeadsetPackPromise ws scene scratch out n len xs us
    → RoomsHeadsetPackPromise ws scene scratch out m len' ys vs → (n ≡ m) × (len ≡ len') × (xs ≡ ys) × (us ≡ vs)
rooms-headset-pack ws scene scratch out a b = two-slices a b

pub rooms-check : (file scratch : List ℕ) {n m depth depth' : ℕ} {xs ys : List ℕ} → RoomsCheckPromise file scratch n depth xs
    → RoomsCheckPromise file scratch m depth' ys → (n ≡ m) × (depth ≡ depth') × (xs ≡ ys)
rooms-check file scratch a b = one-slice a b

pub rooms-headset-check : (file scratch : List ℕ) {n m depth depth' : ℕ} {xs ys : List ℕ} → RoomsHeadsetCheckPromise file scratch n depth xs
    → RoomsHeadsetCheckPromise file scratch m depth' ys → (n ≡ m) × (depth ≡ depth') × (xs ≡ ys)
rooms-headset-check file scratch a b = one-slice a b

pub rooms-packed-voxel : (file : List ℕ) (v : Point) {n m solid solid' records records' height height' : ℕ} → RoomsPackedVoxelPromise file v n solid records height
    → RoomsPackedVoxelPromise file v m solid' records' height' → (n ≡ m) × (solid ≡ solid') × (records ≡ records') × (height ≡ height')
rooms-packed-voxel file v a b = three-values a b

pub rooms-open : (file ns : List ℕ) {n m : ℕ} {xs ys : List ℕ} → RoomsOpenPromise file ns n xs → RoomsOpenPromise file ns m ys → (n ≡ m) × (xs ≡ ys)
rooms-open file ns a b = slice-only a b

pub rooms-ask : (file ns : List ℕ) (v : Point) {n m solid solid' records records' height height' : ℕ} → RoomsAskPromise file ns v n solid records height
    → RoomsAskPromise file ns v m solid' records' height' → (n ≡ m) × (solid ≡ solid') × (records ≡ records') × (height ≡ height')
rooms-ask file ns v a b = three-values a b

pub rooms-detail : (depth kind : ℕ) (a b : Float) {n m height height' : ℕ} → RoomsDetailPromise depth kind a b n height
    → RoomsDetailPromise depth kind a b m height' → (n ≡ m) × (height ≡ height')
rooms-detail depth kind a b e f = one_value e f
