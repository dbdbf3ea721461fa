-- What the first three tests of a packed file say: its length is at least the head's and fits in four bytes, its depth is 2 to 16. Assumes nothing.
use mathlib.Core.Path.{◌≡◌, subst}
use mathlib.Core.Bool.{Bool}
use mathlib.Core.List.{List}
use Prim.Native.Nat.{ℕ, ◌^◌, ◌<◌}
use lib.Dec.{eqb, leb, leb→le, eqb→eq}
use lib.ListN.{length, drop}
use Rattle.paper.specs.Numbers.{num}
use Rattle.paper.specs.Rooms.{least, deepest}
use Rattle.paper.specs.Outline.{file_depth}
use Rattle.paper.specs.Packed.{packed_version, packed_head}
use Rattle.paper.specs.Runs.{Bytes}
use Rattle.laws.proofs.Tests.{true-T, and_left, and_right}
use Rattle.laws.proofs.Bytes.{bytes_drop}
use Rattle.laws.proofs.PackedLists.{num4-lt}
use Rattle.file_head.proofs.HeadTests.{Headed}
use Rattle.packed_lists.specs.Header.{Tested}

pub tested : (bs : List ℕ) → Bytes bs → Headed packed_version packed_head bs → Tested bs
tested bs h ok =
    let a : Bool = leb packed_head (length bs) in
    let b : Bool = eqb (num 4 (drop 1 bs)) (length bs) in
    let f : num 4 (drop 1 bs) ≡ length bs = eqb→eq (num 4 (drop 1 bs)) (length bs) (and_right a b (true-T ok.length_ok_lem)) in
    let low : Bool = leb least (file_depth bs) in
    let high : Bool = leb (file_depth bs) deepest in
    record {
      long = leb→le packed_head (length bs) (and_left a b (true-T ok.length_ok_lem));
      short = subst (λ (n : ℕ). n < 2 ^ 32) f (num4-lt (drop 1 bs) (bytes_drop 1 bs h));
      deep = leb→le least (file_depth bs) (and_left low high (true-T ok.depth_ok_lem));
      flat = leb→le (file_depth bs) deepest (and_right low high (true-T ok.depth_ok_lem));
    }
