-- The ways through a packed voxel question, in the code's words: refused by its first bytes, by 10, by 6, and the walk's end.
-- Each by the value of the tests of `packed_voxel_order`, at which the outcome computes. Assumes nothing.
use mathlib.Core.Path.{◌≡◌, refl, sym, ◌∙◌, ap, ap₂}
use mathlib.Core.Bool.{Bool, true, false}
use mathlib.Core.List.{List, [], ◌∷◌}
use Prim.Native.Nat.{ℕ}
use borrow.Author.Tests.{le-leb}
use lib.ListN.{length}
use Rattle.paper.specs.Numbers.{bit_for}
use Rattle.paper.specs.Rooms.{Point, least, deepest}
use Rattle.paper.specs.Outline.{file_depth}
use Rattle.paper.specs.Leaf.{leaf_voxel}
use Rattle.paper.specs.Walk.{End, damaged, absent, in_leaf, is_damaged, solid_at, empty_height}
use Rattle.paper.specs.Packed.{packed_version, packed_head, head_ok, file_walk}
use Rattle.paper.specs.Answers.{Outcome, told, outcome, number_of, found}
use Rattle.paper.specs.Order.{Test, when, first_number, settled}
use Rattle.paper.specs.Calls.{packed_outside, packed_broken, packed_voxel_order, packed_values, packed_voxel_outcome}
use Rattle.paper.specs.declared.Refusal.{Refusal}
use Rattle.paper.specs.declared.Refusal.TheVariants.{BrokenRules, Outside}
use Rattle.paper.specs.declared.Broken.{Broken}
use Rattle.paper.specs.declared.Found.{Found}
use Rattle.laws.proofs.Refusals.{settled-refused}
use Rattle.file_head.specs.Heads.{head_number}
use Rattle.file_head.proofs.HeadTests.{Headed, head-refuses, head-goes-on, refusal-is-not-0}
use Rattle.packed.specs.Headers.{HeaderRead}
use Rattle.std.specs.Prelude.{Result, Ok, Err}
use Rattle.packed_walk.specs.Walk.{solid_or, found_by, ending_of, found_at}

-- ---- the outcome by the tests: outside; broken

abbrev by_tests : List ℕ → Bool → Bool → Outcome
by_tests values o w = settled (first_number (when o (number_of Outside) ∷ when w (number_of BrokenRules) ∷ [])) values [] []

-- what is broken is refused by 6
abbrev pub refused : Result Found Broken → Result Found Refusal
refused (Ok f) = Ok f
refused (Err e) = Err BrokenRules

end-found : (e : End) (n : ℕ) → outcome (found (refused (found_by e n))) [] ≡ by_tests (bit_for (solid_at e) ∷ n ∷ empty_height e ∷ []) false (is_damaged e)
unfolding first_number settled
end-found damaged n = refl
end-found (absent h) n = refl
end-found (in_leaf b u) n = go (leaf_voxel b u)
  where
    go : (t : Bool) → outcome (found (Ok (record { voxel = solid_or t; records = n }))) [] ≡ by_tests (bit_for t ∷ n ∷ 0 ∷ []) false false
    go true = refl
    go false = refl

-- the first bytes of a file whose header is read
pub header-known : {bs starts : List ℕ} → HeaderRead bs starts → Headed packed_version packed_head bs
header-known {bs = bs} h =
    let D : ℕ = file_depth bs in
    record { version_ok_lem = h.version; length_ok_lem = h.size; depth_ok_lem = rw (le-leb least D h.opens.tested.deep, le-leb D deepest h.opens.tested.flat) refl }

module _ (bs : List ℕ) (v : Point) where
  -- the tests after those of the first bytes
  abbrev later : List Test
  later = when (packed_outside bs v) 10 ∷ when (packed_broken bs v) 6 ∷ []

  pub bad-bytes : (why : Refusal) → number_of why ≡ head_number packed_version packed_head bs → outcome (found (Err why)) [] ≡ packed_voxel_outcome bs v
  unfolding packed_voxel_outcome
  bad-bytes why e =
      let is : number_of why ≡ first_number (packed_voxel_order bs v) = head-refuses packed_version packed_head bs later why e in
      ap (λ (m : ℕ). outcome (told m (0 ∷ 0 ∷ 0 ∷ [])) []) is
      ∙ sym (settled-refused (first_number (packed_voxel_order bs v)) (packed_values bs v) [] [] (λ z. refusal-is-not-0 why (is ∙ z)))

  module _ (h : Headed packed_version packed_head bs) where
    rest : (o w : Bool) → packed_outside bs v ≡ o → packed_broken bs v ≡ w → by_tests (packed_values bs v) o w ≡ packed_voxel_outcome bs v
    unfolding packed_voxel_outcome
    rest o w eo ew =
        ap₂ (by_tests (packed_values bs v)) (sym eo) (sym ew)
        ∙ ap (λ (n : ℕ). settled n (packed_values bs v) [] []) (sym (head-goes-on packed_version packed_head bs later h))

    pub far-out : packed_outside bs v ≡ true → outcome (found (Err Outside)) [] ≡ packed_voxel_outcome bs v
    unfolding first_number settled
    far-out o = rest true (packed_broken bs v) o refl

    pub bad-head : packed_outside bs v ≡ false → head_ok bs ≡ false → outcome (found (Err BrokenRules)) [] ≡ packed_voxel_outcome bs v
    unfolding first_number settled packed_broken file_walk
    bad-head o e = rest false true o (rw e refl)

    pub walked : packed_outside bs v ≡ false → (r : Result Found Broken) → r ≡ found_at (ending_of (file_walk bs v)) → outcome (found (refused r)) [] ≡ packed_voxel_outcome bs v
    unfolding packed_broken
    walked o r e = ap (λ (x : Result Found Broken). outcome (found (refused x)) []) e ∙ end-found (file_walk bs v).end (length (file_walk bs v).path) ∙ rest false (is_damaged (file_walk bs v).end) o refl
