-- The pointers to a place, counted in the four bytes that start there, and the counters tested along a list. Definitions only.
use Rattle.std.specs.Prelude.{◌≡◌, Bool, true, cond, ◌&&◌, List, [], ◌∷◌, map, ℕ, zero, suc, ◌+◌, ◌-◌, ◌*◌, ◌%◌, ◌^◌, T, eqb, leb, ltb, length, take, drop, replicate, get_or}
use Rattle.paper.specs.Numbers.{all_in, num, bytes}
use Rattle.paper.specs.Packed.{PackedPointer, no_pointer, pointers_at, record_ok}
use Rattle.numbers.specs.Laid.{laid}
use Rattle.proper_marks.specs.Places.{places_in, RecordList, WholeList}
use Rattle.packed_lists.specs.Ends.{unit_at, end_at}
use Rattle.laws.proofs.PackedWalk.{SoundLists}

-- the number at place x: four bytes
abbrev pub count_of : ℕ → List ℕ → ℕ → ℕ
count_of u m x = num 4 (drop (u * x) m)

-- one more there
abbrev pub one_more : ℕ → ℕ → List ℕ → List ℕ
one_more u x m = laid (bytes 4 (count_of u m x + 1)) (u * x) m

-- pointer n of a record with the pointers rs counted at its place
unfoldable pub count_pointer : ℕ → List PackedPointer → ℕ → List ℕ → List ℕ
count_pointer u rs n m =
    let x : ℕ = (get_or rs n no_pointer).place in
    let new : List ℕ = one_more u x m in
    cond (eqb (get_or rs n no_pointer).code 0) m new

-- the first n
unfoldable pub count_pointers : ℕ → List PackedPointer → ℕ → List ℕ → List ℕ
count_pointers u rs zero m = m
count_pointers u rs (suc n) m = count_pointer u rs n (count_pointers u rs n m)

-- those of the records at these places
unfoldable pub count_records : ℕ → List ℕ → List ℕ → List ℕ → List ℕ
count_records u l [] m = m
count_records u l (p ∷ ps) m = count_records u l ps (count_pointers u (pointers_at l p) 8 m)

-- a record whose places have four bytes each among n
abbrev pub pointer_fits : ℕ → ℕ → PackedPointer → Bool
pointer_fits u n r = cond (eqb r.code 0) true (leb (u * r.place + 4) n)

unfoldable pub countable : ℕ → ℕ → List ℕ → ℕ → Bool
countable u n l p = record_ok l p && all_in (pointer_fits u n) (pointers_at l p)

-- above 0, and not above the one before
abbrev pub falls_by : ℕ → ℕ → Bool
falls_by last n = ltb 0 n && leb n last

-- each of them
unfoldable pub falls_from : ℕ → List ℕ → Bool
falls_from last [] = true
falls_from last (n ∷ ns) = let r = falls_from n ns in falls_by last n && r

-- along these places
abbrev pub counts_fall : ℕ → List ℕ → List ℕ → Bool
counts_fall u m ps = falls_from (2 ^ 32 - 1) (map (count_of u m) ps)

-- the list k + 1, `above`, can be counted in a share of n bytes, as many as the list k has, and both can be gone along
pub record Shared (k : ℕ) (above list : List ℕ) (n : ℕ) : Type 0 where
  pub fits : T (all_in (countable (unit_at k) n above) (places_in above))
  pub over : RecordList above
  pub long : n ≡ length list
  pub eights : k ≡ 0 → n % 8 ≡ 0
  pub whole : (k ≡ 0 → ⊥) → WholeList list

-- ---- before list k is counted

-- the lists are sound, and as far as list k ends the scratch S is zero
pub record Clean (bs : List ℕ) (k : ℕ) (S : List ℕ) : Type 0 where
  pub sound : SoundLists bs
  pub long : length S ≡ length bs
  pub zero : take (end_at bs k) S ≡ replicate (end_at bs k) 0
