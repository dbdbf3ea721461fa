-- A file's head written: version byte, length and depth laid one behind the other. Assumes nothing.
use mathlib.Core.Path.{◌≡◌, ap, ◌∙◌}
use mathlib.Core.List.{List, [], ◌∷◌}
use Prim.Native.Nat.{ℕ, suc, ◌+◌, ◌≤◌}
use native.Mathlib.Omega.{arith}
use lib.ListN.{length, set, length-append}
use Rattle.paper.specs.Numbers.{bytes}
use Rattle.laws.proofs.Bytes.{bytes-length}
use Rattle.numbers.specs.Laid.{laid, reached, writing}
use Rattle.numbers.proofs.Laying.{writing-one, writing-then, writing-number, reached-length}
use Rattle.file_head.specs.Heads.{head_of}

pub head-length : (version n D : ℕ) → length (head_of version n D) ≡ 6
head-length version n D = ap suc (length-append (bytes 4 n) (D ∷ []) ∙ ap (λ (x : ℕ). x + 1) (bytes-length 4 n))

-- the version byte, the length, the depth
module _ (version total D : ℕ) (l l' : List ℕ) (room : 6 ≤ length l) (put : l' ≡ laid (bytes 4 total) 1 (set l 0 version)) where
  abbrev five : List ℕ
  five = version ∷ bytes 4 total

  fits : 0 + length five ≤ length l
  fits = omega (arith, bytes-length 4 total)

  put_five : reached 5 l' ≡ writing five 0 l
  put_five =
      let one : reached 1 (set l 0 version) ≡ writing (version ∷ []) 0 l = writing-one version 0 l (omega arith) in
      writing-number 4 total 1 (set l 0 version) l' put ∙ writing-then (version ∷ []) 0 1 l (set l 0 version) one (bytes 4 total) (omega arith)

  pub head-long : length l' ≡ length l
  head-long = reached-length five 0 5 l l' put_five fits

  pub head-written : reached 6 (set l' 5 D) ≡ writing (head_of version total D) 0 l
  head-written = writing-one D 5 l' (omega (arith, head-long)) ∙ writing-then five 0 5 l l' put_five (D ∷ []) fits
