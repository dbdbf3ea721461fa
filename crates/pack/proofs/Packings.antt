-- What code finds for a scene of an undamaged store is its packed file: once all lists are placed, scratch has the places of the graph's records,
-- the sizes are the lists' sizes, and the bytes by both are the file's, fewer than 2^32; and by the places, whether a pointer is long. By induction from
-- the leaves up. Assumes nothing.
use mathlib.Core.Path.{◌≡◌, refl, sym, ap, ap₂, subst, ◌∙◌}
use mathlib.Core.Bool.{false}
use mathlib.Core.List.{List, [], ◌∷◌, ◌++◌, map, append_assoc, append-nil}
use mathlib.Core.Logic.{◌⊎◌, inl, inr}
use Prim.Native.Nat.{ℕ, zero, suc, ◌+◌, ◌-◌, ◌<◌, ◌≤◌}
use native.Mathlib.Nat.{zero-add, eq-or-lt_of_le, le_of_suc-le-suc, not-suc-le-zero}
use native.Mathlib.Numerals.{add-one}
use native.Mathlib.Omega.{arith}
use lib.Dec.{T, leb}
use lib.ListN.{length, get_or, set, take, length-append, length-set, get_or-eq_default}
use lib.Seq.{get_or-set_same, get_or-set_other, ext_get_or}
use Rattle.paper.specs.Numbers.{bytes, flatten}
use Rattle.paper.specs.Store.{Cell, heights, capacity_of, kept_count, kept_of, tag_of, bad_pointer, store_ok}
use Rattle.paper.specs.Packed.{packed_version, packed_head, farthest_short, all_short}
use Rattle.paper.specs.Pack.{places, size, list_bytes, size_bytes, body, layout, scene_graph, packed_file}
use Rattle.laws.proofs.PackedReachable.{numbers}
use Rattle.laws.proofs.Tests.{all_same}
use Rattle.laws.proofs.Layouts.{list-size, leaf-size, sizes-length}
use Rattle.numbers.specs.Laid.{Reached, reached}
use Rattle.pack_scratch.specs.Parts.{orders, word_in, Lent, Only, OnlyPart, order_in}
use Rattle.pack_scratch.specs.Parts as part
use Rattle.pack_scratch.proofs.Words.{in-orders, in-places, only_none, only_then, only-more, only-lent, words-at, words-length}
use Rattle.pack_order.specs.OrderParts.{Ordered}
use Rattle.pack_places.specs.Placing.{span, placing, placed_list, Placed, placed, onto, list_placed, placed_lists, Kept, last_place, all_near}
use Rattle.pack_bytes.specs.Writing.{record_in, list_in, body_in, sizes_in, body_length, file_length, head_of}
use Rattle.pack.specs.Ready.{Ready}
use Rattle.pack.proofs.Heads.{head-length}
use Rattle.pack_places.proofs.Placings.{stop, words, total, placing-only, placing-stop, placing-at}
use Rattle.pack_places.proofs.Runs.{Places, kept-still}
use Rattle.pack.proofs.Scenes.{Told, ListIs, list-is, choice, N-kept, N-below, N-few, good, short, places-listed, file-layout, short-file}

-- the sizes and the words once lists are placed
abbrev sizes_of : Placed → List ℕ
sizes_of (placed a s) = a

abbrev words_of : Placed → List ℕ
words_of (placed a s) = s

module _ (ws : List ℕ) (ok : T (store_ok ws)) (top p : ℕ) (hk : top < heights) (some : p ≡ 0 → ⊥) (fine : bad_pointer (kept_count ws top) p ≡ false) where
  abbrev K : List (List Cell)
  K = kept_of ws

  abbrev C : ℕ
  C = capacity_of ws

  abbrev G : List (List Cell)
  G = scene_graph (kept_of ws) top p

  abbrev N : ℕ → List ℕ
  N = numbers (kept_of ws) top p

  module _ (counts s : List ℕ) (o : Ordered (kept_of ws) top p (capacity_of ws) counts s) (lent : Lent (capacity_of ws) s) where
    -- every list's cells in their order are kept ones
    pub all-kept : (j : ℕ) → j ≤ top → Kept ws j (get_or counts j 0) s
    all-kept j h = record {
      few = rw (o.count j h) (N-few ws ok top p hk some fine j h);
      kept = λ i l.
          let m : i < length (N j) = subst (λ (n : ℕ). i < n) (o.count j h) l in
          rw (o.order j h i m) (N-kept ws ok top p hk some fine j h i m);
    }

    -- the first k lists are placed
    record After (k : ℕ) (sizes t : List ℕ) : Type 0 where
      frame : Only C Places s t
      fifteen : length sizes ≡ heights
      told : (j : ℕ) → j < k → Told ws ok top p hk some fine j t
      sized : (j : ℕ) → j < k → get_or sizes j 0 ≡ size G j

    order-stays : (k : ℕ) → k ≤ top → (t : List ℕ) → Only C Places s t → (i : ℕ) → i < length (N k) → word_in C (orders k) t i ≡ get_or (N k) i 0
    order-stays k h t same i l =
        same.same (orders k) i (in-orders C k i (omega arith) (omega (arith, N-few ws ok top p hk some fine k h))) (λ x. omega (arith, x.0)) ∙ o.order k h i l

    order_is : (k : ℕ) → k ≤ top → (t : List ℕ) → Only C Places s t → order_in C k (get_or counts k 0) t ≡ N k
    order_is k h t same = ext_get_or 0 (order_in C k n t) (N k) (words-length C (orders k) n t ∙ o.count k h) each
      where
        n : ℕ
        n = get_or counts k 0

        each : (i : ℕ) → i < length (order_in C k n t) → get_or (order_in C k n t) i 0 ≡ get_or (N k) i 0
        each i l =
            let m : i < n = subst (λ (x : ℕ). i < x) (words-length C (orders k) n t) l in
            let u : i < length (N k) = subst (λ (x : ℕ). i < x) (o.count k h) m in
            words-at C (orders k) n t i m ∙ order-stays k h t same i u

    -- one list more
    module _ (k : ℕ) (h : k ≤ top) (sizes t : List ℕ) (a : After k sizes t) (r : ℕ) (t' : List ℕ) (e : reached r t' ≡ placed_list (kept_of ws) (capacity_of ws) k (get_or counts k 0) t) where
      abbrev P : Reached
      P = placing (span K C k t) C k 0 (N k) t

      is : reached r t' ≡ P
      unfolding placed_list
      is = e ∙ ap (λ (ns : List ℕ). placing (span K C k t) C k 0 ns t) (order_is k h t a.frame)

      words-is : t' ≡ words P
      words-is = ap words is

      this : ListIs ws ok top p hk some fine k t
      this = list-is ws ok top p hk some fine k h t a.told

      list : k < heights
      list = omega arith

      below : (i : ℕ) → i < length (N k) → get_or (N k) i 0 < C
      below = N-below ws ok top p hk some fine k h

      only : OnlyPart C (part.places k) t t'
      only = subst (OnlyPart C (part.places k) t) (sym words-is) (placing-only (span K C k t) C k list 0 (N k) t below)

      told-now : (j : ℕ) → (j ≡ k) ⊎ (j < k) → Told ws ok top p hk some fine j t'
      told-now j (inl q) = subst (λ (j : ℕ). Told ws ok top p hk some fine j t') (sym q) here
        where
          here : Told ws ok top p hk some fine k t'
          here i l =
              ap (λ (m : List ℕ). word_in C (part.places k) m (get_or (N k) i 0)) words-is
              ∙ placing-at (span K C k t) C k list 0 (N k) t (only-lent C Places s t a.frame lent) (choice ws ok top p hk some fine k h).once below i l
              ∙ zero-add (total (span K C k t) (take i (N k))) ∙ this.place i l
      told-now j (inr q) = λ i l.
          let x : ℕ = get_or (N j) i 0 in
          let small : x < C = N-below ws ok top p hk some fine j (omega arith) i l in
          only.same (part.places j) x (in-places C j x (omega arith) small) (λ y. omega (arith, q)) ∙ a.told j q i l

      sized-now : (j : ℕ) → (j ≡ k) ⊎ (j < k) → get_or (set sizes k r) j 0 ≡ size G j
      sized-now j (inl q) =
          ap (λ (i : ℕ). get_or (set sizes k r) i 0) q ∙ get_or-set_same sizes k r 0 (omega (arith, a.fifteen)) ∙ ap stop is
          ∙ placing-stop (span K C k t) C k 0 (N k) t ∙ zero-add (total (span K C k t) (N k)) ∙ this.size_is ∙ ap (size G) (sym q)
      sized-now j (inr q) = get_or-set_other sizes k j r 0 (λ y. omega (arith, y, q)) ∙ a.sized j q

      after_next : After (suc k) (set sizes k r) t'
      after_next = record {
        frame = only_then C Places s t t' a.frame (only-more C (λ x. x ≡ part.places k) Places t t' (λ x d. (omega arith, omega arith)) only);
        fifteen = length-set sizes k r ∙ a.fifteen;
        told = λ j l. told-now j (eq-or-lt_of_le (le_of_suc-le-suc l));
        sized = λ j l. sized-now j (eq-or-lt_of_le (le_of_suc-le-suc l));
      }

    after-onto : (k : ℕ) → k ≤ top → (sizes t : List ℕ) → After k sizes t → (x : Reached) → x ≡ placed_list K C k (get_or counts k 0) t
        → After (suc k) (sizes_of (onto k sizes x)) (words_of (onto k sizes x))
    after-onto k h sizes t a (reached r t') e = after_next k h sizes t a r t' e

    after_list : (k : ℕ) → k ≤ top → (x : Placed) → After k (sizes_of x) (words_of x) → After (suc k) (sizes_of (list_placed K C counts k x)) (words_of (list_placed K C counts k x))
    after_list k h (placed sizes t) a = after-onto k h sizes t a (placed_list K C k (get_or counts k 0) t) refl

    after : (k : ℕ) → k ≤ suc top → After k (sizes_of (placed_lists K C counts k s)) (words_of (placed_lists K C counts k s))
    unfolding placed_lists
    after zero h = record {
      frame = only_none C Places s;
      fifteen = refl;
      told = λ j l. absurd (not-suc-le-zero l);
      sized = λ j l. absurd (not-suc-le-zero l);
    }
    after (suc k) h = after_list k (le_of_suc-le-suc h) (placed_lists K C counts k s) (after k (omega arith))

    -- ---- the file

    module _ (sizes t : List ℕ) (e : placed sizes t ≡ placed_lists (kept_of ws) (capacity_of ws) counts (top + 1) s) where
      all : After (suc top) sizes t
      all =
          let q : placed_lists K C counts (suc top) s ≡ placed sizes t = ap (λ (j : ℕ). placed_lists K C counts j s) (sym (add-one top)) ∙ sym e in
          subst (λ (x : Placed). After (suc top) (sizes_of x) (words_of x)) q (after (suc top) (omega arith))

      pub placed-only : Only C Places s t
      placed-only = all.frame

      list-bytes-are : (k : ℕ) → k ≤ top → list_in K C k (get_or counts k 0) t ≡ list_bytes G k
      unfolding list_in
      list-bytes-are k h =
          ap (λ (ns : List ℕ). flatten (map (record_in K C k t) ns)) (order_is k h t all.frame) ∙ (list-is ws ok top p hk some fine k h t (λ j l. all.told j (omega arith))).bytes-are

      body_is : (k : ℕ) → k ≤ top → body_in K C counts (suc k) t ≡ body G k
      unfolding body_in body
      body_is zero h = append-nil (list_in K C 0 (get_or counts 0 0) t) ∙ list-bytes-are 0 h
      body_is (suc k) h = ap₂ (λ (x y : List ℕ). x ++ y) (list-bytes-are (suc k) h) (body_is k (omega arith))

      sizes-are : (k : ℕ) → k ≤ top → sizes_in sizes (suc k) ≡ size_bytes G k
      unfolding sizes_in size_bytes
      sizes-are zero h = append-nil (bytes 4 (get_or sizes 0 0)) ∙ ap (bytes 4) (all.sized 0 (omega arith))
      sizes-are (suc k) h = ap₂ (λ (n : ℕ) (l : List ℕ). bytes 4 n ++ l) (all.sized (suc k) (omega arith)) (sizes-are k (omega arith))

      length-is : (k : ℕ) → k ≤ top → body_length sizes k ≡ length (body G k)
      unfolding body_length body
      length-is zero h = omega (arith, all.sized 0 (omega arith), leaf-size top G (good ws ok top p hk some fine))
      length-is (suc k) h =
          omega (arith, all.sized (suc k) (omega arith), length-append (list_bytes G (suc k)) (body G k), list-size top G (good ws ok top p hk some fine) k h, length-is k (omega arith))

      -- the sizes and the lists
      abbrev tail : List ℕ
      tail = sizes_in sizes (suc top) ++ body_in (kept_of ws) (capacity_of ws) counts (suc top) t

      tail-is : tail ≡ size_bytes G top ++ body G top
      tail-is = ap₂ (λ (x y : List ℕ). x ++ y) (sizes-are top (omega arith)) (body_is top (omega arith))

      whole : file_length sizes top ≡ packed_head + length (size_bytes G top ++ body G top)
      whole = omega (arith, length-append (size_bytes G top) (body G top), sizes-length G top, length-is top (omega arith))

      file-is : head_of (file_length sizes top) (top + 2) (tag_of p) ++ tail ≡ packed_file K (top + 2) p
      unfolding layout
      file-is =
          let m : ℕ = tag_of p in
          let rest : List ℕ = size_bytes G top ++ body G top in
          let D : top + 2 ≡ suc (suc top) = omega arith in
          ap₂ (λ (n : ℕ) (l : List ℕ). head_of n (top + 2) m ++ l) whole tail-is
          ∙ ap (λ (l : List ℕ). packed_version ∷ l) (append_assoc (bytes 4 (packed_head + length rest)) ((top + 2) ∷ m ∷ []) rest)
          ∙ ap (λ (d : ℕ). packed_version ∷ bytes 4 (packed_head + length rest) ++ (d ∷ m ∷ rest)) D
          ∙ file-layout ws ok top p hk some fine

      file_length_lem : length (packed_file K (top + 2) p) ≡ file_length sizes top
      file_length_lem =
          ap length (sym file-is) ∙ length-append (head_of (file_length sizes top) (top + 2) (tag_of p)) tail
          ∙ ap₂ (λ (x y : ℕ). x + y) (head-length (file_length sizes top) (top + 2) (tag_of p)) (ap length tail-is) ∙ sym whole

      pub ready : (n : ℕ) → n ≡ file_length sizes top → Ready ws top p counts sizes n t
      ready n e = record {
        room = record { lent = only-lent C Places s t all.frame lent; list = hk };
        ordered = record { count = o.count; order = λ j h i l. order-stays j h t all.frame i l };
        placed = λ j h i l. all.told j (omega arith) i l;
        sized = λ j h. all.sized j (omega arith);
        kept = λ j h. kept-still ws j (get_or counts j 0) s t (omega arith) (all-kept j h) all.frame;
        whole = ap (λ (m : ℕ). head_of m (top + 2) (tag_of p) ++ tail) e ∙ file-is;
        measured = e ∙ sym file_length_lem;
        small = omega (arith, e, whole, short ws ok top p hk some fine);
      }

  -- ---- whether a pointer is long, by the places of a scene prepared

  module _ (counts sizes : List ℕ) (n : ℕ) (t : List ℕ) (r : Ready ws top p counts sizes n t) where
    last-at : (j : ℕ) → j < top → (m : ℕ) → length (N j) ≡ m → last_place C j m t ≡ get_or (places G j) (length (N j) - 1) 0
    unfolding last_place
    last-at j h zero e = sym (get_or-eq_default (places G j) 0 (omega (arith, e, places-listed ws ok top p hk some fine j (omega arith))))
    last-at j h (suc i) e =
        let l : i < length (N j) = omega (arith, e) in
        let last : i ≡ length (N j) - 1 = omega (arith, e) in
        ap (word_in C (part.places j) t) (r.ordered.order j (omega arith) i l) ∙ r.placed j (omega arith) i l ∙ ap (λ (m : ℕ). get_or (places G j) m 0) last

    last-is : (j : ℕ) → j < top → last_place C j (get_or counts j 0) t ≡ get_or (places G j) (length (N j) - 1) 0
    last-is j h = last-at j h (get_or counts j 0) (sym (r.ordered.count j (omega arith)))

    pub near-is : all_near C counts top t ≡ all_short (packed_file K (top + 2) p)
    unfolding all_near
    near-is =
        all_same top (λ j. leb (last_place C j (get_or counts j 0) t) farthest_short) (λ j. leb (get_or (places G j) (length (N j) - 1) 0) farthest_short)
        (λ j h. ap (λ (m : ℕ). leb m farthest_short) (last-is j h))
        ∙ sym (short-file ws ok top p hk some fine)
