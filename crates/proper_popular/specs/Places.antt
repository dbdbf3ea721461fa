-- The records of a packed file by places: the places of a list by its bytes, and the pointers to a place. Definitions only.
use Rattle.std.specs.Prelude.{Bool, not, ◌&&◌, List, [], ◌∷◌, ℕ, zero, suc, ◌+◌, ◌-◌, eqb, leb, ltb, length, get_or}
use Rattle.paper.specs.Numbers.{all_below, sum, bit_for}
use Rattle.paper.specs.Packed.{list_at, PackedPointer, no_pointer, pointers_at, places_at}
use Rattle.proper_marks.specs.Places.{places_in, leaves_in}

-- ---- the places of a list of bytes

-- the places of list k, by its bytes
abbrev pub starts_in : ℕ → List ℕ → List ℕ
starts_in zero l = leaves_in l
starts_in (suc k) l = places_in l

-- ---- popularity

-- a pointer to place x
abbrev pub points_to : ℕ → PackedPointer → Bool
points_to x r = not (eqb r.code 0) && eqb r.place x

-- what a record with these pointers counts towards the popularity of place x: how many of the eight go there
unfoldable pub weight_at : ℕ → List PackedPointer → ℕ
weight_at x rs = sum 8 (λ i. bit_for (points_to x (get_or rs i no_pointer)))

-- what the records at these places of the list l count towards that of place x one list down
unfoldable pub times_named : List ℕ → List ℕ → ℕ → ℕ
times_named l [] x = 0
times_named l (p ∷ ps) x = weight_at x (pointers_at l p) + times_named l ps x

-- of a record of list k
abbrev pub popular_at : List ℕ → ℕ → ℕ → ℕ
popular_at bs k x = times_named (list_at bs (suc k)) (places_at bs (suc k)) x

-- every record of list k is named, and along the list the number of pointers that name it never rises
unfoldable pub popular_rules : List ℕ → ℕ → Bool
popular_rules bs k =
    all_below (length (places_at bs k)) (λ q. ltb 0 (popular_at bs k (get_or (places_at bs k) q 0)))
    && all_below (length (places_at bs k) - 1) (λ q. leb (popular_at bs k (get_or (places_at bs k) (suc q) 0)) (popular_at bs k (get_or (places_at bs k) q 0)))
