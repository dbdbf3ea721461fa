-- A proper file that isn't empty is exactly what is laid out for its depth, root's tag and graph, an empty one the 7 bytes of its depth; so two
-- proper files that agree on these are the same bytes. Lists are written back from the leaves up, then sizes and head. Assumes nothing.
use mathlib.Core.Path.{◌≡◌, refl, sym, ◌∙◌, subst, ap, ap₂}
use mathlib.Core.Bool.{Bool, true, false, cond}
use mathlib.Core.List.{List, [], ◌∷◌, ◌++◌, map}
use Prim.Native.Nat.{ℕ, zero, suc, ◌+◌, ◌-◌, ◌*◌, ◌^◌, ◌<◌, ◌≤◌}
use native.Mathlib.Omega.{arith}
use borrow.Author.Tests.{eqb-true}
use lib.Dec.{T, eqb, leb, ltb, eqb→eq, leb→le}
use lib.ListN.{length, get_or, take, drop, take-append-drop, length-drop, drop_of_length-le}
use lib.Seq.{take-add, drop-drop}
use Rattle.paper.specs.Numbers.{bytes, num, flatten, count, is_in, index_in}
use Rattle.paper.specs.Outline.{file_depth, length_ok}
use Rattle.paper.specs.Store.{Cell, cells_at}
use Rattle.paper.specs.Packed.{packed_version, packed_head, empty_mark, root_tag, is_empty, top_of, size_at, tail_at, start_at, list_at, places_at, cells_of, graph_of, whole_at, packed_pointers_ok, head_ok, proper}
use Rattle.paper.specs.Pack.{record_bytes, leaf_bytes, places_from, places, size, list_bytes, size_bytes, body, layout, empty_file}
use Rattle.paper.specs.Runs.{Bytes}
use Rattle.laws.proofs.Tests.{and_left, and_right, true-T}
use Rattle.laws.proofs.Lists.{length-count}
use Rattle.laws.proofs.Bytes.{bytes_drop}
use Rattle.laws.proofs.Outlines.{depth-two}
use Rattle.laws.proofs.RecordSizes.{list_length}
use Rattle.laws.proofs.PackedLists.{Whole, sizes-whole, tail-in, leaves-length, inner-length, list_bytes_lem, start_small, graph-cells, records-length}
use Rattle.laws.proofs.PackedWalk.{SoundLists, few-leaves}
use Rattle.laws.proofs.ProperClaim.{Proper, proper-passes}
use Rattle.laws.proofs.ProperVoxels.{proper-lists}
use Rattle.laws.proofs.RecordBytes.{bytes-num, ListBack, list_back, leaves-back}

-- ---- the lists of a file whose lists are sound

module _ (bs : List ℕ) (by : Bytes bs) (long : T (length_ok packed_head bs)) (s : SoundLists bs) where
  abbrev G : List (List Cell)
  G = graph_of bs

  whole : Whole bs
  whole = sizes-whole bs s.sizes

  small_at : (j : ℕ) → j ≤ top_of bs → (p : ℕ) → T (is_in p (places_at bs j)) → p < 2 ^ 29 → suc (index_in p (places_at bs j)) < 2 ^ 29
  small_at j h p i m = start_small bs by s.whole (few-leaves bs by long s) j p h i m

  back_at : (j : ℕ) (h : suc j ≤ top_of bs) → ListBack (places_at bs j) (small_at j (omega arith)) (list_at bs (suc j)) 0 (places_at bs (suc j))
  unfolding places_at whole_at packed_pointers_ok
  back_at j h =
      list_back (places_at bs j) (small_at j (omega arith)) (list_at bs (suc j)) (list_bytes_lem bs by (suc j)) (size_at bs (suc j)) 0
      (omega (arith, inner-length bs whole j h)) (s.whole (suc j) h) (s.pointed j h)

  places-back : (j : ℕ) → j ≤ top_of bs → places G j ≡ places_at bs j
  unfolding places places_at cells_of
  places-back zero h = ap (count 0) (records-length bs 0 h ∙ length-count (size_at bs 0) 0)
  places-back (suc j) h =
      ap₂ (λ (ps : List ℕ) (cs : List Cell). places_from ps 0 cs) (places-back j (omega arith)) (graph-cells bs (suc j) h) ∙ (back_at j h).are-places

  bytes_back : (j : ℕ) → j ≤ top_of bs → list_bytes G j ≡ list_at bs j
  unfolding list_bytes places_at cells_of
  bytes_back zero h =
      ap (λ (cs : List Cell). flatten (map leaf_bytes cs)) (graph-cells bs 0 h)
      ∙ leaves-back (list_at bs 0) (list_bytes_lem bs by 0) (size_at bs 0) 0 (omega (arith, leaves-length bs whole))
  bytes_back (suc j) h =
      ap₂ (λ (ps : List ℕ) (cs : List Cell). flatten (map (record_bytes ps) cs)) (places-back j (omega arith)) (graph-cells bs (suc j) h) ∙ (back_at j h).are-bytes

  size_back : (j : ℕ) → j ≤ top_of bs → size G j ≡ size_at bs j
  unfolding size list_bytes places_at
  size_back zero h = records-length bs 0 h ∙ length-count (size_at bs 0) 0
  size_back (suc j) h =
      omega (arith, list_length (places G j) (cells_at G (suc j)), ap length (bytes_back (suc j) h), inner-length bs whole j h)

  -- the lists from list j down are the rest of the file, the sizes from list j down stand before
  body_back : (j : ℕ) → j ≤ top_of bs → body G j ≡ drop (start_at bs j) bs
  unfolding body tail_at list_at
  body_back zero h = bytes_back 0 h
  body_back (suc j) h =
      let n : ℕ = 2 * size_at bs (suc j) in
      let a : ℕ = start_at bs (suc j) in
      let on : start_at bs j ≡ a + n = omega (arith, tail-in bs whole (suc j) h) in
      ap₂ ◌++◌ (bytes_back (suc j) h) (body_back j (omega arith) ∙ ap (λ (x : ℕ). drop x bs) on ∙ sym (drop-drop n a bs))
      ∙ take-append-drop n (drop a bs)

  sizes-back : (j : ℕ) → j ≤ top_of bs → size_bytes G j ≡ take (4 * suc j) (drop (packed_head + 4 * (top_of bs - j)) bs)
  unfolding size_bytes size_at
  sizes-back zero h =
      let a : ℕ = packed_head + 4 * (top_of bs - 0) in
      ap (bytes 4) (size_back 0 h) ∙ bytes-num 4 (drop a bs) (bytes_drop a bs by) (omega (arith, whole, length-drop a bs))
  sizes-back (suc j) h =
      let a : ℕ = packed_head + 4 * (top_of bs - suc j) in
      let on : packed_head + 4 * (top_of bs - j) ≡ a + 4 = omega arith in
      let sum : 4 + 4 * suc j ≡ 4 * suc (suc j) = omega arith in
      ap₂ ◌++◌ (ap (bytes 4) (size_back (suc j) h) ∙ bytes-num 4 (drop a bs) (bytes_drop a bs by) (omega (arith, whole, length-drop a bs)))
      (sizes-back j (omega arith) ∙ ap (λ (x : ℕ). take (4 * suc j) (drop x bs)) on ∙ ap (take (4 * suc j)) (sym (drop-drop 4 a bs)))
      ∙ sym (take-add 4 (4 * suc j) (drop a bs)) ∙ ap (λ (x : ℕ). take x (drop a bs)) sum

  -- all after the head
  rest_back : size_bytes G (top_of bs) ++ body G (top_of bs) ≡ drop packed_head bs
  rest_back =
      let k : ℕ = top_of bs in
      let first : packed_head + 4 * (k - k) ≡ packed_head = omega arith in
      let on : start_at bs k ≡ packed_head + 4 * suc k = omega (arith, whole) in
      ap₂ ◌++◌ (sizes-back k (omega arith) ∙ ap (λ (x : ℕ). take (4 * suc k) (drop x bs)) first)
      (body_back k (omega arith) ∙ ap (λ (x : ℕ). drop x bs) on ∙ sym (drop-drop (4 * suc k) packed_head bs))
      ∙ take-append-drop (4 * suc k) (drop packed_head bs)

-- ---- the head

-- seven bytes and the rest
head-split : (bs : List ℕ) → packed_head ≤ length bs → bs ≡ get_or bs 0 0 ∷ take 4 (drop 1 bs) ++ (file_depth bs ∷ root_tag bs ∷ drop packed_head bs)
head-split [] h = absurd (omega arith)
head-split (a ∷ []) h = absurd (omega arith)
head-split (a ∷ b ∷ []) h = absurd (omega arith)
head-split (a ∷ b ∷ c ∷ []) h = absurd (omega arith)
head-split (a ∷ b ∷ c ∷ d ∷ []) h = absurd (omega arith)
head-split (a ∷ b ∷ c ∷ d ∷ e ∷ []) h = absurd (omega arith)
head-split (a ∷ b ∷ c ∷ d ∷ e ∷ f ∷ []) h = absurd (omega arith)
head-split (a ∷ b ∷ c ∷ d ∷ e ∷ f ∷ g ∷ l) h = refl

module _ (bs : List ℕ) (by : Bytes bs) (p : Proper bs) where
  seven : packed_head ≤ length bs
  seven = leb→le packed_head (length bs) (and_left (leb packed_head (length bs)) (eqb (num 4 (drop 1 bs)) (length bs)) p.long)

  -- what is written before a rest of the right length
  head-back : (rest : List ℕ) → rest ≡ drop packed_head bs → bs ≡ packed_version ∷ bytes 4 (packed_head + length rest) ++ (file_depth bs ∷ root_tag bs ∷ rest)
  head-back rest e =
      let version : get_or bs 0 0 ≡ packed_version = eqb→eq (get_or bs 0 0) packed_version (and_right (ltb 0 (length bs)) (eqb (get_or bs 0 0) packed_version) p.version) in
      let field : num 4 (drop 1 bs) ≡ length bs = eqb→eq (num 4 (drop 1 bs)) (length bs) (and_right (leb packed_head (length bs)) (eqb (num 4 (drop 1 bs)) (length bs)) p.long) in
      let n : packed_head + length rest ≡ num 4 (drop 1 bs) = omega (arith, ap length e, length-drop packed_head bs, field, seven) in
      let four : bytes 4 (packed_head + length rest) ≡ take 4 (drop 1 bs) = ap (bytes 4) n ∙ bytes-num 4 (drop 1 bs) (bytes_drop 1 bs by) (omega (arith, length-drop 1 bs, seven)) in
      head-split bs seven ∙ ap₂ (λ (x : ℕ) (l : List ℕ). x ∷ l ++ (file_depth bs ∷ root_tag bs ∷ drop packed_head bs)) version (sym four)
      ∙ ap (λ (l : List ℕ). packed_version ∷ bytes 4 (packed_head + length rest) ++ (file_depth bs ∷ root_tag bs ∷ l)) (sym e)

  laid_out : SoundLists bs → bs ≡ layout (top_of bs) (root_tag bs) (graph_of bs)
  unfolding layout
  laid_out s =
      let tail : List ℕ = size_bytes (graph_of bs) (top_of bs) ++ body (graph_of bs) (top_of bs) in
      head-back tail (rest_back bs by p.long s)
      ∙ ap (λ (D : ℕ). packed_version ∷ bytes 4 (packed_head + length tail) ++ (D ∷ root_tag bs ∷ tail)) (sym (depth-two (file_depth bs) p.deep))

  -- an empty file ends after its head
  pub nothing-more : is_empty bs ≡ true → drop packed_head bs ≡ []
  unfolding head_ok
  nothing-more e =
      let alone = subst (λ (b : Bool). T (cond b (eqb (length bs) packed_head) true)) e (search (and_left, and_right)) in
      drop_of_length-le bs {i = packed_head} (omega (arith, eqb→eq (length bs) packed_head alone))

  laid_none : is_empty bs ≡ true → bs ≡ empty_file (file_depth bs)
  unfolding empty_file
  laid_none e = head-back [] (sym (nothing-more e)) ∙ ap (λ (m : ℕ). packed_version ∷ bytes 4 packed_head ++ (file_depth bs ∷ m ∷ [])) (eqb-true (root_tag bs) empty_mark e)

-- ---- claimed of every proper file

pub file-laid : (file : List ℕ) → Bytes file → proper file ≡ true → is_empty file ≡ false → file ≡ layout (top_of file) (root_tag file) (graph_of file)
file-laid file by e z = laid_out file by (proper-passes file (true-T e)) (proper-lists file by e z)

pub file-empty : (file : List ℕ) → Bytes file → proper file ≡ true → is_empty file ≡ true → file ≡ empty_file (file_depth file)
file-empty file by e = laid_none file by (proper-passes file (true-T e))

pub file-same : (file file' : List ℕ) → Bytes file → Bytes file' → proper file ≡ true → proper file' ≡ true → file_depth file ≡ file_depth file' → root_tag file ≡ root_tag file'
    → graph_of file ≡ graph_of file' → file ≡ file'
file-same file file' by by' e e' D m K = go (is_empty file) refl (sym (ap (λ (t : ℕ). eqb t empty_mark) m))
  where
    go : (b : Bool) → is_empty file ≡ b → is_empty file' ≡ is_empty file → file ≡ file'
    go true z z' = file-empty file by e z ∙ ap empty_file D ∙ sym (file-empty file' by' e' (z' ∙ z))
    go false z z' =
        file-laid file by e z ∙ ap₂ (λ (d t : ℕ). layout (d - 2) t (graph_of file)) D m ∙ ap (layout (top_of file') (root_tag file')) K
        ∙ sym (file-laid file' by' e' (z' ∙ z))
