-- Claim C2, one room for each file: the refusals 3, 4, 5 and 6 are none exactly where the four tests of a file pass, and the rest are the laws of
-- outlines. By the order of the tests. Assumes nothing.
use mathlib.Core.Path.{◌≡◌, ap}
use mathlib.Core.Bool.{Bool, false, not}
use mathlib.Core.List.{List, [], ◌++◌}
use Prim.Native.Nat.{ℕ}
use borrow.Author.Tests.{not-false}
use lib.Dec.{T}
use Rattle.paper.specs.Rooms.{depth_ok}
use Rattle.paper.specs.Outline.{outline_version, outline_head, version_ok, length_ok, file_depth, outline_rules}
use Rattle.paper.specs.Order.{Test, first_number}
use Rattle.paper.specs.Calls.{outline_order}
use Rattle.paper.specs.Claims.{outline_refusal, C2}
use Rattle.laws.proofs.Tests.{T_true, true-T}
use Rattle.laws.proofs.Orders.{none_passed, no-tests, first-failed}
use Rattle.laws.proofs.Outlines.{Accepted, accepted-exactly, same-room-same-bytes, same-bytes-same-room, outline-depth, outline-room, read-written}

-- the tests of a file, others following
pub file-accepted : (bs : List ℕ) (ts : List Test) → first_number (outline_order bs ++ ts) ≡ 0 → Accepted bs × (first_number ts ≡ 0)
file-accepted bs ts e =
    let a = none_passed (not (version_ok outline_version bs)) 2 _ e in
    let b = none_passed (not (length_ok outline_head bs)) 3 _ a.1 in
    let c = none_passed (not (depth_ok (file_depth bs))) 4 _ b.1 in
    let d = none_passed (not (outline_rules bs)) 5 ts c.1 in
    let pass : (t : Bool) → not t ≡ false → T t = λ t n. true-T (not-false t n) in (
      record {
        version = pass (version_ok outline_version bs) a.0;
        long = pass (length_ok outline_head bs) b.0;
        deep = pass (depth_ok (file_depth bs)) c.0;
        rules = pass (outline_rules bs) d.0;
      },
      d.1,
    )

pub refusal-none : (bs : List ℕ) → outline_refusal bs ≡ 0 → Accepted bs
refusal-none bs e = (file-accepted bs [] e).0

pub none-refusal : (bs : List ℕ) → Accepted bs → outline_refusal bs ≡ 0
none-refusal bs a =
    let failed : (t : Bool) → T t → not t ≡ false = λ t p. ap not (T_true {b = t} p) in
    first-failed (not (version_ok outline_version bs)) 3 _ (failed (version_ok outline_version bs) a.version)
    (first-failed (not (length_ok outline_head bs)) 4 _ (failed (length_ok outline_head bs) a.long)
    (first-failed (not (depth_ok (file_depth bs))) 5 _ (failed (depth_ok (file_depth bs)) a.deep)
    (first-failed (not (outline_rules bs)) 6 [] (failed (outline_rules bs) a.rules) no-tests)))

pub claim2 : C2
claim2 = record {
  one_file = λ D r r' bs bs' p q e. same-room-same-bytes p q e;
  one_room = λ D D' r r' bs p q. same-bytes-same-room p q;
  refused = λ bs b. (λ e. (accepted-exactly bs b).0 (refusal-none bs e), λ w. none-refusal bs ((accepted-exactly bs b).1 w));
  read_back = λ bs D r p. (outline-depth p, outline-room p);
  written_back = λ bs b e. read-written bs b (refusal-none bs e);
}
