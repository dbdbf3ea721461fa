-- The walk list by list: what is known before each list, kept from one to the next, and what it says where the walk ends. By one step of the walk,
-- with list k as code cuts it. Assumes nothing.
use mathlib.Core.Path.{◌≡◌, refl, sym, ap, ◌∙◌}
use mathlib.Core.List.{List}
use Prim.Native.Nat.{ℕ, ◌+◌, ◌-◌, ◌<◌, ◌≤◌}
use native.Mathlib.Omega.{arith}
use lib.Bits.{bit_xor}
use lib.ListN.{length, take, drop, get_or}
use Rattle.paper.specs.Rooms.{Point, in_child}
use Rattle.paper.specs.Outline.{edge}
use Rattle.paper.specs.Walk.{absent, Child, none, wrong, to}
use Rattle.laws.proofs.Eight.{xor8-lt}
use Rattle.points.specs.Seeing.{seen_at, child_no_at}
use Rattle.packed_walk.specs.Walk.{Parts, ending, ending_of, leaf_ending, list_in, parts_walk, taken_at}
use Rattle.packed_walk.proofs.Lists.{falls, starts-inside, list-part}
use Rattle.packed_walk.proofs.Steps.{broken, plus, way_at, way-read, way-zero, way-absent, way-wrong, way_on, leaves-end}

-- before list k, which starts at `start`, with a pointer to place p of it seen under m, after n records: the walk from there ends as the whole walk does
pub record Walking (inner leaves starts : List ℕ) (top mirror : ℕ) (v : Point) (k start p m n : ℕ) : Type 0 where
  pub counted : n + k ≡ top
  pub mirrors : m < 8
  pub begins : start ≡ get_or starts k 0
  pub ends : plus n (way_at (list_in inner leaves starts) k p (seen_at k m v)) ≡ ending_of (parts_walk inner leaves starts top mirror v)

module _ {inner leaves starts : List ℕ} {top mirror : ℕ} {v : Point} where
  -- before the first list
  pub walking-first : mirror < 8 → Walking inner leaves starts top mirror v top (get_or starts top 0) 0 mirror 0
  walking-first h = record {
    counted = omega arith;
    mirrors = h;
    begins = refl;
    ends = way-zero (list_in inner leaves starts) top 0 (seen_at top mirror v) ∙ sym (way-read (list_in inner leaves starts) top 0 mirror (in_child (edge top) v));
  }

  -- at the leaves
  pub walking-leaf : {k start p m n : ℕ} → Walking inner leaves starts top mirror v k start p m n → k ≡ 0 → ending v (leaf_ending leaves p m n) ≡ ending_of (parts_walk inner leaves starts top mirror v)
  walking-leaf {k = k} {p = p} {m = m} {n = n} w e = leaves-end (list_in inner leaves starts) k p m n v e ∙ w.ends

  -- at a list of records
  module _ {k start p m n : ℕ} (parts : Parts inner leaves starts top) (w : Walking inner leaves starts top mirror v k start p m n) (h : 0 < k) where
    -- it ends where the one below it starts
    abbrev end : ℕ
    end = get_or starts (k - 1) 0

    pub list-falls : start ≤ end
    list-falls = omega (arith, w.begins, falls inner leaves starts top parts k h (omega (arith, w.counted)))

    pub list_inside : end ≤ length inner
    list_inside = starts-inside inner leaves starts top parts (k - 1) (omega (arith, w.counted))

    -- what is taken in it, as code cuts it
    abbrev pub taken : Child
    taken = taken_at (take (end - start) (drop start inner)) p (bit_xor (child_no_at (k - 1) v) m)

    taken_is : (c : Child) → c ≡ taken → c ≡ taken_at (list_in inner leaves starts k) p (bit_xor (child_no_at (k - 1) v) m)
    taken_is c e = e ∙ ap (λ (l : List ℕ). taken_at l p (bit_xor (child_no_at (k - 1) v) m)) (list-part inner leaves starts top parts k start end h w.begins refl)

    pub walking-absent : none ≡ taken → record { end = absent (k + 1); records = n + 1 } ≡ ending_of (parts_walk inner leaves starts top mirror v)
    walking-absent e = way-absent (list_in inner leaves starts) k p m v h w.mirrors n (taken_is none e) ∙ w.ends

    pub walking-wrong : wrong ≡ taken → broken ≡ ending_of (parts_walk inner leaves starts top mirror v)
    walking-wrong e = way-wrong (list_in inner leaves starts) k p m v h w.mirrors n (taken_is wrong e) ∙ w.ends

    pub walking_on : (t r : ℕ) → to t r ≡ taken → t < 8 → Walking inner leaves starts top mirror v (k - 1) end r (bit_xor t m) (n + 1)
    walking_on t r e ht = record {
      counted = omega (arith, w.counted);
      mirrors = xor8-lt t m ht w.mirrors;
      begins = refl;
      ends = way_on (list_in inner leaves starts) k p m v h w.mirrors n t r (taken_is (to t r) e) ht ∙ w.ends;
    }
