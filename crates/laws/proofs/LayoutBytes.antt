-- What is laid out are bytes, and so are the 7 of an empty scene: pointers, records, lists, sizes, the file. Part by part, each made of numbers
-- written as bytes. Assumes nothing.
use mathlib.Core.Bool.{Bool, true, false, cond}
use mathlib.Core.List.{List, [], ◌∷◌, ◌++◌, map}
use Prim.Native.Nat.{ℕ, zero, suc, ◌+◌, ◌-◌, ◌*◌, ◌^◌, ◌<◌}
use native.Mathlib.Omega.{arith}
use lib.Dec.{eqb, lit<}
use lib.ListN.{length}
use Rattle.paper.specs.Numbers.{bytes, flatten}
use Rattle.paper.specs.Store.{Cell, heights, tag_of, cells_at}
use Rattle.paper.specs.Packed.{packed_version, packed_head, empty_mark, code_for}
use Rattle.paper.specs.Pack.{place_of, pointer_bytes, header, record_bytes, leaf_bytes, places, size, list_bytes, size_bytes, body, layout, empty_file}
use Rattle.paper.specs.Runs.{Bytes}
use Rattle.laws.proofs.Bytes.{bytes-nil, bytes-cons, bytes-append, bytes_below}

-- lists of bytes one after the other
bytes-map : {A : Type 0} (f : A → List ℕ) → ((x : A) → Bytes (f x)) → (l : List A) → Bytes (flatten (map f l))
unfolding flatten
bytes-map f h [] i = lit< tt
bytes-map f h (x ∷ l) i = bytes-append (f x) (flatten (map f l)) (h x) (bytes-map f h l) i

pointer_bytes_lem : (ps : List ℕ) (p : ℕ) → Bytes (pointer_bytes ps p)
unfolding pointer_bytes
pointer_bytes_lem ps p = go (eqb p 0)
  where
    go : (b : Bool) → Bytes (cond b [] (bytes (2 * code_for (place_of ps p)) (tag_of p * 2 ^ (16 * code_for (place_of ps p) - 3) + place_of ps p)))
    go true i = lit< tt
    go false i = bytes_below (2 * code_for (place_of ps p)) _ i

list_bytes_lem : (K : List (List Cell)) (j : ℕ) → Bytes (list_bytes K j)
unfolding list_bytes leaf_bytes record_bytes
list_bytes_lem K zero = bytes-map leaf_bytes (λ c. bytes-map (bytes 4) (bytes_below 4) c) (cells_at K 0)
list_bytes_lem K (suc j) =
    bytes-map (record_bytes (places K j)) (λ c. bytes-append (bytes 2 (header (places K j) c)) (flatten (map (pointer_bytes (places K j)) c)) (bytes_below 2 (header (places K j) c))
    (bytes-map (pointer_bytes (places K j)) (pointer_bytes_lem (places K j)) c)) (cells_at K (suc j))

size_bytes_lem : (K : List (List Cell)) (j : ℕ) → Bytes (size_bytes K j)
unfolding size_bytes
size_bytes_lem K zero = bytes_below 4 (size K 0)
size_bytes_lem K (suc j) = bytes-append (bytes 4 (size K (suc j))) (size_bytes K j) (bytes_below 4 (size K (suc j))) (size_bytes_lem K j)

body_bytes : (K : List (List Cell)) (j : ℕ) → Bytes (body K j)
unfolding body
body_bytes K zero = list_bytes_lem K 0
body_bytes K (suc j) = bytes-append (list_bytes K (suc j)) (body K j) (list_bytes_lem K (suc j)) (body_bytes K j)

pub layout-bytes : (k m : ℕ) (K : List (List Cell)) → k < heights → m < 8 → Bytes (layout k m K)
unfolding layout
layout-bytes k m K hk hm =
    let tail : List ℕ = size_bytes K k ++ body K k in
    bytes-cons packed_version (bytes 4 (packed_head + length tail) ++ (suc (suc k) ∷ m ∷ tail)) (lit< tt)
    (bytes-append (bytes 4 (packed_head + length tail)) (suc (suc k) ∷ m ∷ tail) (bytes_below 4 (packed_head + length tail))
    (bytes-cons (suc (suc k)) (m ∷ tail) (omega arith) (bytes-cons m tail (omega arith) (bytes-append (size_bytes K k) (body K k) (size_bytes_lem K k) (body_bytes K k)))))

pub empty-bytes : (D : ℕ) → D < 256 → Bytes (empty_file D)
unfolding empty_file
empty-bytes D h =
    bytes-cons packed_version (bytes 4 packed_head ++ (D ∷ empty_mark ∷ [])) (lit< tt)
    (bytes-append (bytes 4 packed_head) (D ∷ empty_mark ∷ []) (bytes_below 4 packed_head) (bytes-cons D (empty_mark ∷ []) h (bytes-cons empty_mark [] (lit< tt) bytes-nil)))
