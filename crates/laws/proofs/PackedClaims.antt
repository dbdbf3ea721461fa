-- Claim C7, proper files, whole: each part is a law of such files; and such a file opens, since its head is one of the rules. Assumes nothing.
use mathlib.Core.Path.{◌≡◌, sym, ◌∙◌}
use mathlib.Core.Bool.{true}
use mathlib.Core.List.{List, [], ◌∷◌}
use Prim.Native.Nat.{ℕ, ◌^◌}
use Rattle.paper.specs.Numbers.{bit_for}
use Rattle.paper.specs.Rooms.{Point, Inside, depth_ok, empty_at}
use Rattle.paper.specs.Outline.{file_depth, version_ok, length_ok}
use Rattle.paper.specs.Packed.{packed_version, packed_head, head_ok, proper, packed_room, packed_path, starts_of}
use Rattle.paper.specs.Answers.{told, outcome}
use Rattle.paper.specs.Order.{first_number}
use Rattle.paper.specs.Calls.{open_order, open_outcome, ask_outcome}
use Rattle.paper.specs.Runs.{Bytes}
use Rattle.paper.specs.Claims.{C7}
use Rattle.laws.proofs.Tests.{T_true, true-T}
use Rattle.laws.proofs.Refusals.{settled-accepted}
use Rattle.laws.proofs.OpenClaim.{opened-opens, opens-ask}
use Rattle.laws.proofs.ProperClaim.{check-passed, passed-check, check-number, Proper, proper-passes}
use Rattle.laws.proofs.ProperEmptiness.{proper-answer}
use Rattle.laws.proofs.ProperVoxels.{records-differ}
use Rattle.laws.proofs.RoundTrip.{file-laid, file-empty, file-same}
use Rattle.laws.proofs.ProperCounts.{file-counts}

-- a proper file opens
proper-opens : (file : List ℕ) → proper file ≡ true → open_outcome file ≡ outcome (told 0 (file_depth file ∷ starts_of file)) (file ∷ [])
unfolding open_outcome first_number
proper-opens file e =
    let p : Proper file = proper-passes file (true-T e) in
    let none : first_number (open_order file) ≡ 0 =
    rw (
      T_true {b = version_ok packed_version file} p.version,
      T_true {b = length_ok packed_head file} p.long,
      T_true {b = depth_ok (file_depth file)} p.deep,
      T_true {b = head_ok file} p.head,
    ) in
    settled-accepted (first_number (open_order file)) (file_depth file ∷ starts_of file) (file ∷ []) ([] ∷ []) none

-- and a question on it is the packed voxel's
proper-asked : (file : List ℕ) (v : Point) → Bytes file → proper file ≡ true → Inside (2 ^ file_depth file) v
    → ask_outcome file (file_depth file) (starts_of file) v ≡ outcome (told 0 (bit_for (packed_room file v) ∷ packed_path file v ∷ empty_at (file_depth file) (packed_room file) v ∷ [])) []
proper-asked file v by e l =
    opens-ask file (starts_of file) (file_depth file) v (opened-opens file file (starts_of file) (file_depth file) (proper-opens file e)) ∙ proper-answer file by e v l

pub claim7 : C7
claim7 = record {
  checked = λ file scratch by. (
    λ e. check-passed file scratch (sym (check-number file scratch) ∙ e),
    λ p. check-number file scratch ∙ passed-check file scratch p.0 p.1,
  );
  asked = λ file v by e l. proper-answer file by e v l;
  differ = records-differ;
  counts = file-counts;
  laid = file-laid;
  laid_empty = file-empty;
  same = file-same;
  opened = proper-opens;
  questioned = proper-asked;
}
