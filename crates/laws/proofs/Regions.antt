-- A store's words as regions one after the other: where each starts, what stands there, and that a change of one leaves the words of the others.
-- By induction on the regions. Assumes nothing.
use mathlib.Core.Path.{◌≡◌, refl, sym, ◌∙◌, ap, ap₂}
use mathlib.Core.List.{List, [], ◌∷◌, ◌++◌, map, append_assoc}
use Prim.Native.Nat.{ℕ, zero, suc, ◌+◌, ◌<◌, ◌≤◌}
use native.Mathlib.Nat.{le_of_suc-le-suc, not-suc-le-zero, add-zero, zero-add}
use native.Mathlib.Omega.{arith}
use lib.ListN.{length, take, drop, get_or, set, length-append}
use lib.Seq.{sets, take-add, drop-drop}
use Rattle.paper.specs.Numbers.{flatten}
use Rattle.paper.specs.Store.{Region, region, region_words}
use Rattle.laws.proofs.Put.{sets-right, sets-left, drop_past}

-- the words of regions
abbrev pub in_row : List Region → List ℕ
in_row rs = flatten (map region_words rs)

-- region i; past the last, one of no words
abbrev pub region_at : List Region → ℕ → Region
region_at rs i = get_or rs i (region 0 [])

-- every region has room for its rows
pub data Fit : List Region → Type 0 where
  fnil : Fit []
  fcons : {r : Region} {rs : List Region} → length (region_words r) ≡ r.size → Fit rs → Fit (r ∷ rs)

-- where region i starts
unfoldable pub region_place : List Region → ℕ → ℕ
region_place rs zero = 0
region_place [] (suc i) = 0
region_place (r ∷ rs) (suc i) = r.size + region_place rs i

pub regions-length : {rs : List Region} → Fit rs → length (in_row rs) ≡ region_place rs (length rs)
unfolding flatten region_place
regions-length fnil = refl
regions-length (fcons {r} {rs} e t) = length-append (region_words r) (in_row rs) ∙ ap₂ (λ (a b : ℕ). a + b) e (regions-length t)

-- what stands there: region i, and the others behind it
pub region-from : {rs : List Region} (l : List ℕ) → Fit rs → (i : ℕ) → i < length rs
    → drop (region_place rs i) (in_row rs ++ l) ≡ region_words (region_at rs i) ++ (in_row (drop (suc i) rs) ++ l)
unfolding flatten region_place
region-from l fnil i h = absurd (not-suc-le-zero h)
region-from l (fcons {r} {rs} e t) zero h = append_assoc (region_words r) (in_row rs) l
region-from l (fcons {r} {rs} e t) (suc i) h =
    ap (drop (r.size + region_place rs i)) (append_assoc (region_words r) (in_row rs) l)
    ∙ drop_past (region_words r) (in_row rs ++ l) r.size (region_place rs i) e ∙ region-from l t i (le_of_suc-le-suc h)

-- a change of region i, words c from its word j on
pub region-set : {rs : List Region} → Fit rs → (i : ℕ) (r : Region) (j : ℕ) (c : List ℕ) → i < length rs
    → region_words r ≡ sets (region_words (region_at rs i)) j c → j + length c ≤ (region_at rs i).size
    → in_row (set rs i r) ≡ sets (in_row rs) (region_place rs i + j) c
unfolding flatten region_place
region-set fnil i r j c h e fit = absurd (not-suc-le-zero h)
region-set (fcons {r = q} {rs} l t) zero r j c h e fit =
    ap (λ (x : List ℕ). x ++ in_row rs) e ∙ sym (sets-left c (region_words q) (in_row rs) j (omega arith))
    ∙ ap (λ (n : ℕ). sets (region_words q ++ in_row rs) n c) (sym (zero-add j))
region-set (fcons {r = q} {rs} l t) (suc i) r j c h e fit =
    let at : length (region_words q) + (region_place rs i + j) ≡ q.size + region_place rs i + j = omega arith in
    ap (λ (x : List ℕ). region_words q ++ x) (region-set t i r j c (le_of_suc-le-suc h) e fit)
    ∙ sym (sets-right c (region_words q) (in_row rs) (region_place rs i + j)) ∙ ap (λ (n : ℕ). sets (region_words q ++ in_row rs) n c) at

-- words that have each region where it starts are the words of all
pub regions-back : (ws : List ℕ) (a : ℕ) (rs : List Region)
    → ((i : ℕ) → i < length rs → region_words (region_at rs i) ≡ take (region_at rs i).size (drop (a + region_place rs i) ws))
    → in_row rs ≡ take (region_place rs (length rs)) (drop a ws)
unfolding flatten region_place
regions-back ws a [] h = refl
regions-back ws a (r ∷ rs) h =
    let n : ℕ = region_place rs (length rs) in
    let first : region_words r ≡ take r.size (drop a ws) = h 0 (omega arith) ∙ ap (λ (i : ℕ). take r.size (drop i ws)) (add-zero a) in
    let rest : in_row rs ≡ take n (drop (a + r.size) ws) =
    regions-back ws (a + r.size) rs
    (λ i l.
    let at : a + (r.size + region_place rs i) ≡ a + r.size + region_place rs i = omega arith in
    h (suc i) (omega arith) ∙ ap (λ (j : ℕ). take (region_at rs i).size (drop j ws)) at) in
    let next : drop (a + r.size) ws ≡ drop r.size (drop a ws) = sym (drop-drop r.size a ws) in
    ap₂ (λ (x y : List ℕ). x ++ y) first (rest ∙ ap (take n) next) ∙ sym (take-add r.size n (drop a ws))
