-- A packed file's header: its length, and that it is written with the mirror behind what every file begins with. By the law of two writers.
-- Assumes nothing.
use mathlib.Core.Path.{◌≡◌, refl, ap, ◌∙◌}
use mathlib.Core.List.{List, [], ◌∷◌, append_assoc}
use Prim.Native.Nat.{ℕ, suc, ◌+◌, ◌<◌, ◌≤◌}
use native.Mathlib.Omega.{arith}
use lib.ListN.{length, set, length-append}
use Rattle.paper.specs.Numbers.{bytes}
use Rattle.paper.specs.Packed.{packed_version, packed_head}
use Rattle.paper.specs.Pack.{empty_file}
use Rattle.laws.proofs.Bytes.{bytes-length}
use Rattle.numbers.specs.Laid.{reached, writing}
use Rattle.file_head.specs.Heads as file
use Rattle.numbers.proofs.Laying.{writing-one, writing-then, reached-at, reached-length}
use Rattle.file_head.proofs.HeadWritten as begin
use Rattle.pack_bytes.specs.Writing.{head_of}

pub head-length : (n D m : ℕ) → length (head_of n D m) ≡ packed_head
head-length n D m = ap suc (length-append (bytes 4 n) (D ∷ m ∷ []) ∙ ap (λ (x : ℕ). x + 2) (bytes-length 4 n))

-- an empty scene's file is its header
pub empty-head : (D : ℕ) → head_of packed_head D 8 ≡ empty_file D
unfolding empty_file
empty-head D = refl

-- the mirror behind what every file begins with
module _ (total D at : ℕ) (l l' : List ℕ) (room : packed_head ≤ length l) (begun : reached at l' ≡ writing (file.head_of packed_version total D) 0 l) where
  abbrev first : List ℕ
  first = file.head_of packed_version total D

  fits : 0 + length first ≤ length l
  fits = omega (arith, begin.head-length packed_version total D)

  pub mark-at : at ≡ 6
  mark-at = omega (arith, reached-at first 0 at l l' begun, begin.head-length packed_version total D)

  pub mark-inside : at < length l'
  mark-inside = omega (arith, mark-at, reached-length first 0 at l l' begun fits)

  pub head-marked : (m : ℕ) → reached (at + 1) (set l' at m) ≡ writing (head_of total D m) 0 l
  head-marked m =
      writing-one m at l' mark-inside ∙ writing-then first 0 at l l' begun (m ∷ []) fits
      ∙ ap (λ (bs : List ℕ). writing bs 0 l) (append_assoc (packed_version ∷ bytes 4 total) (D ∷ []) (m ∷ []))
