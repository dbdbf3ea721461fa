-- The packed walk over an inner part and a leaf part, as the list starts cut them, and how code answers its end. Definitions only.
use Rattle.std.specs.Prelude.{◌≡◌, Result, Ok, Err, Bool, true, false, cond, List, ℕ, zero, suc, ◌+◌, ◌-◌, ◌%◌, ◌≤◌, ◌<◌, eqb, length, take, drop, get_or}
use Rattle.paper.specs.Rooms.{Point, in_child}
use Rattle.paper.specs.Leaf.{leaf_voxel}
use Rattle.paper.specs.Outline.{edge}
use Rattle.paper.specs.Store.{heights, leaf_no}
use Rattle.paper.specs.Walk.{End, damaged, absent, in_leaf, Child, wrong, Walk, Reading, walk_in}
use Rattle.paper.specs.Packed.{no_pointer, pointers_at, leaf_at, record_ok, leaf_ok}
use Rattle.paper.specs.declared.Broken.{Broken}
use Rattle.paper.specs.declared.Voxel.{Voxel}
use Rattle.paper.specs.declared.Voxel.TheVariants.{Solid, Empty}
use Rattle.paper.specs.declared.Found.{Found}
use Rattle.packed_walk.specs.declared.Ended.{Ended}
use Rattle.packed_walk.specs.declared.Ended.TheVariants.{Absent, InLeaf}
use Rattle.packed_walk.specs.declared.Walked.{Walked}
use Rattle.packed_records.specs.Records.{child_to}
use Rattle.points.specs.Seeing.{seen_at}

-- ---- the lists of two parts

-- list k: it ends where the one below it starts; the leaves are a part of their own
abbrev pub list_in : List ℕ → List ℕ → List ℕ → ℕ → List ℕ
list_in inner leaves starts zero = leaves
list_in inner leaves starts (suc k) = take (get_or starts k 0 - get_or starts (suc k) 0) (drop (get_or starts (suc k) 0) inner)

-- list by list, from the top one down, the starts lie in the inner part; the leaves are whole
pub record Parts (inner leaves starts : List ℕ) (top : ℕ) : Type 0 where
  pub low : top < heights
  pub falling : (k : ℕ) → k < top → get_or starts (suc k) 0 ≤ get_or starts k 0
  pub inside : get_or starts 0 0 ≤ length inner
  pub eights : length leaves % 8 ≡ 0

-- the tests on entering place p of list k
abbrev pub entry_in : (ℕ → List ℕ) → ℕ → ℕ → Bool
entry_in L zero p = leaf_ok (L 0) p
entry_in L (suc k) p = record_ok (L (suc k)) p

-- records by place; a pointer past its list leads to what fails its test
abbrev pub lists_reading : (ℕ → List ℕ) → Reading
lists_reading L = record {
  ok = entry_in L;
  leaf = λ p. leaf_no (leaf_at (L 0) p);
  child = λ k p i. child_to (get_or (pointers_at (L (suc k)) p) i no_pointer);
}

-- what child i of the record at place p is; wrong where the record breaks a rule
abbrev pub taken_at : List ℕ → ℕ → ℕ → Child
taken_at l p i = cond (record_ok l p) (child_to (get_or (pointers_at l p) i no_pointer)) wrong

-- from the top record, seen under m, to v
abbrev pub parts_walk : List ℕ → List ℕ → List ℕ → ℕ → ℕ → Point → Walk
parts_walk inner leaves starts top m v = walk_in (lists_reading (list_in inner leaves starts)) top 0 m (in_child (edge top) v)

-- ---- how it ends, and how many records it read

pub record Ending : Type 0 where
  pub end : End
  pub records : ℕ

abbrev pub ending_of : Walk → Ending
ending_of w = record { end = w.end; records = length w.path }

-- as code answers it on the way to v
abbrev pub end_seen : Point → Ended → End
end_seen v (Absent h) = absent h
end_seen v (InLeaf b m) = in_leaf b (seen_at 0 m v)

abbrev pub ending : Point → Result Walked Broken → Ending
ending v (Ok w) = record { end = end_seen v w.end; records = w.records }
ending v (Err e) = record { end = damaged; records = 0 }

-- at leaf p seen under m, after n records
abbrev pub leaf_ending : List ℕ → ℕ → ℕ → ℕ → Result Walked Broken
leaf_ending l p m n = let b : ℕ = leaf_no (leaf_at l p) in cond (eqb b 0) (Err (record {})) (Ok (record { end = InLeaf b m; records = n + 1 }))

-- the answer for it
abbrev pub solid_or : Bool → Voxel
solid_or true = Solid
solid_or false = Empty 0

abbrev pub found_by : End → ℕ → Result Found Broken
found_by damaged n = Err (record {})
found_by (absent h) n = Ok (record { voxel = Empty h; records = n })
found_by (in_leaf b u) n = Ok (record { voxel = solid_or (leaf_voxel b u); records = n })

abbrev pub found_at : Ending → Result Found Broken
found_at e = found_by e.end e.records
