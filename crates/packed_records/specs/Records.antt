-- One record as code reads it: the code of a child, the pointer that the code's struct stands for, and what a pointer leads to. Definitions only.
use Rattle.std.specs.Prelude.{◌≡◌, Option, None, Some, Result, Ok, Err, Bool, cond, ◌&&◌, List, ℕ, ◌+◌, ◌*◌, ◌/◌, ◌%◌, ◌^◌, ◌≤◌, ◌<◌, eqb, ltb, length, drop, get_or}
use Rattle.paper.specs.Numbers.{num}
use Rattle.paper.specs.Walk.{Child, none, wrong, to}
use Rattle.paper.specs.Packed.{PackedPointer, no_pointer, pointer_of, pointers_at, codes_ok, code_for}
use Rattle.packed_records.specs.declared.Pointer.{Pointer}
use Rattle.packed_records.specs.declared.target.Target.{Target}

-- the two bits of child i
abbrev pub code_at : ℕ → ℕ → ℕ
code_at i h = h / 4 ^ i % 4

-- header not zero, no code 3
abbrev pub header_ok : ℕ → Bool
header_ok h = ltb 0 h && codes_ok 8 h

-- the bytes from `from` on, of this code, are in list l, and are the pointer of child i of the record at place p
pub record BytesOf (l : List ℕ) (p i from code : ℕ) : Type 0 where
  pub low : code < 3
  pub room : from + 2 * code ≤ length l
  pub is : pointer_of code (num (2 * code) (drop from l)) ≡ get_or (pointers_at l p) i no_pointer

abbrev pub pointer_is : Pointer → PackedPointer
pointer_is p = record { code = p.code; tag = p.tag; place = p.place }

-- what a pointer leads to: wrong where it hasn't the code that its place calls for
abbrev pub child_to : PackedPointer → Child
child_to q = cond (eqb q.code 0) none (cond (eqb q.code (code_for q.place)) (to q.tag q.place) wrong)

-- as code answers it
abbrev pub child_is : {E : Type 0} → Result (Option Target) E → Child
child_is (Ok None) = none
child_is (Ok (Some there)) = to there.mirror there.place
child_is (Err e) = wrong
