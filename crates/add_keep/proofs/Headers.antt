-- The header after a link stored, a cell more, a scene more, and after lists are cut back: it is in order as before, and only the count written has changed.
-- By words stored in the header or past it, and for all lists by induction on their number. Assumes nothing.
use mathlib.Core.Path.{◌≡◌, refl, sym, subst, ap, ◌∙◌}
use mathlib.Core.List.{List, [], ◌∷◌, map}
use Prim.Native.Nat.{ℕ, zero, suc, ◌+◌, ◌-◌, ◌*◌, ◌≤◌, ◌<◌}
use native.Mathlib.Decide.{ℕ_discrete}
use native.Mathlib.Omega.{arith}
use lib.Dec.{T, eqb}
use lib.ListN.{length, take, drop, get_or, set, replicate, length-set}
use lib.Seq.{sets, length-sets, get_or-set_same, get_or-set_other, drop-set-lt, drop-set-add, take-set-le}
use Rattle.paper.specs.Numbers.{all_in}
use Rattle.paper.specs.Store.{Cell, heights, chains, first_scene, zeros_position, capacity_of, kept_count, stride, cell_position, head_position, next_position, blank, capacity_ok, header_ok}
use Rattle.laws.specs.Chains.{link_position, cut_link, cut_links}
use Rattle.laws.proofs.Undamaged.{FineHeader, fine-header, fine-header-ok}
use Rattle.laws.proofs.ChainLinks.{link-past}
use Rattle.store.proofs.HeaderFacts.{header}
use Rattle.add_keep.specs.Keeping.{Room, Keeps, link_in, keep_in, cut_chains, cut_cells, cut_list, cut_lists}

-- ---- words stored in the header, or past it

-- the header's words that are always zero
abbrev unused : ℕ
unused = first_scene - zeros_position

zeros-low : (l : List ℕ) (i v : ℕ) → i < zeros_position → take unused (drop zeros_position (set l i v)) ≡ take unused (drop zeros_position l)
zeros-low l i v h = ap (take unused) (drop-set-lt zeros_position l i v h)

zeros-high : (l : List ℕ) (i v : ℕ) → first_scene ≤ i → take unused (drop zeros_position (set l i v)) ≡ take unused (drop zeros_position l)
zeros-high l i v h =
    let j : ℕ = i - zeros_position in
    let e : i ≡ zeros_position + j = omega arith in
    ap (λ (n : ℕ). take unused (drop zeros_position (set l n v))) e ∙ ap (take unused) (drop-set-add zeros_position l j v) ∙ take-set-le unused (drop zeros_position l) j v (omega arith)

zeros-past : (c l : List ℕ) (a : ℕ) → first_scene ≤ a → take unused (drop zeros_position (sets l a c)) ≡ take unused (drop zeros_position l)
zeros-past [] l a h = refl
zeros-past (v ∷ c) l a h = zeros-past c (set l a v) (suc a) (omega arith) ∙ zeros-high l a v h

word-past : (c l : List ℕ) (a j : ℕ) → j < a → get_or (sets l a c) j 0 ≡ get_or l j 0
word-past [] l a j h = refl
word-past (v ∷ c) l a j h = word-past c (set l a v) (suc a) j (omega arith) ∙ get_or-set_other l a j v 0 (λ e. omega (arith, e))

-- ---- nothing of the header changed

-- the header's words are as they were
pub record Unchanged (ws vs : List ℕ) : Type 0 where
  pub same_length : length vs ≡ length ws
  pub words : (j : ℕ) → j < first_scene → get_or vs j 0 ≡ get_or ws j 0
  pub zeros : blank vs zeros_position unused ≡ blank ws zeros_position unused

past-unchanged : (ws c : List ℕ) (a : ℕ) → first_scene ≤ a → Unchanged ws (sets ws a c)
unfolding blank
past-unchanged ws c a past = record {
  same_length = length-sets ws a c;
  words = λ j h. word-past c ws a j (omega arith);
  zeros = ap (all_in (eqb 0)) (zeros-past c ws a past);
}

unchanged-twice : {ws vs us : List ℕ} → Unchanged ws vs → Unchanged vs us → Unchanged ws us
unchanged-twice d e = record {
  same_length = e.same_length ∙ d.same_length;
  words = λ j h. e.words j h ∙ d.words j h;
  zeros = e.zeros ∙ d.zeros;
}

module _ {ws vs : List ℕ} (d : Unchanged ws vs) where
  pub same-capacity : capacity_of vs ≡ capacity_of ws
  same-capacity = d.words 0 (omega arith)

  pub same_count : (k : ℕ) → k < heights → kept_count vs k ≡ kept_count ws k
  same_count k h = d.words (2 + k) (omega arith)

  pub same-header : T (header_ok ws) → T (header_ok vs)
  same-header t =
      let facts : FineHeader ws = fine-header ws t in
      fine-header-ok vs (record {
        long = rw (same-capacity, d.same_length) facts.long;
        capacity = subst (λ (n : ℕ). T (capacity_ok n)) (sym same-capacity) facts.capacity;
        held = rw (d.words 1 (omega arith)) facts.held;
        few = λ j h. rw (same-capacity, same_count j h) (facts.few j h);
        header-zeros = subst T (sym d.zeros) facts.header-zeros;
      })

-- ---- one count of the header changed

-- of the header's words, word i is v and the others are as they were
pub record Changed (ws vs : List ℕ) (i v : ℕ) : Type 0 where
  pub same_length : length vs ≡ length ws
  pub here : get_or vs i 0 ≡ v
  pub others : (j : ℕ) → j < first_scene → (j ≡ i → ⊥) → get_or vs j 0 ≡ get_or ws j 0
  pub zeros : blank vs zeros_position unused ≡ blank ws zeros_position unused

count-first : (ws c : List ℕ) (a i v : ℕ) → first_scene ≤ a → i < zeros_position → i < length ws → Changed ws (sets (set ws i v) a c) i v
unfolding blank
count-first ws c a i v past low inside = record {
  same_length = length-sets (set ws i v) a c ∙ length-set ws i v;
  here = word-past c (set ws i v) a i (omega arith) ∙ get_or-set_same ws i v 0 inside;
  others = λ j h ne. word-past c (set ws i v) a j (omega arith) ∙ get_or-set_other ws i j v 0 ne;
  zeros = ap (all_in (eqb 0)) (zeros-past c (set ws i v) a past ∙ zeros-low ws i v low);
}

count-last : (ws c : List ℕ) (a i v : ℕ) → first_scene ≤ a → i < zeros_position → i < length ws → Changed ws (set (sets ws a c) i v) i v
unfolding blank
count-last ws c a i v past low inside = record {
  same_length = length-set (sets ws a c) i v ∙ length-sets ws a c;
  here = get_or-set_same (sets ws a c) i v 0 (rw (length-sets ws a c) inside);
  others = λ j h ne. get_or-set_other (sets ws a c) i j v 0 ne ∙ word-past c ws a j (omega arith);
  zeros = ap (all_in (eqb 0)) (zeros-low (sets ws a c) i v low ∙ zeros-past c ws a past);
}

then-changed : {ws vs us : List ℕ} {i v : ℕ} → Unchanged ws vs → Changed vs us i v → Changed ws us i v
then-changed d e = record {
  same_length = e.same_length ∙ d.same_length;
  here = e.here;
  others = λ j h ne. e.others j h ne ∙ d.words j h;
  zeros = e.zeros ∙ d.zeros;
}

module _ (ws vs : List ℕ) (t : T (header_ok ws)) where
  abbrev facts : FineHeader ws
  facts = fine-header ws t

  -- a list's count
  pub count-header : (k v : ℕ) → Changed ws vs (2 + k) v → k < heights → v ≤ capacity_of ws → T (header_ok vs)
  count-header k v d h l =
      let C : capacity_of vs ≡ capacity_of ws = d.others 0 (omega arith) (λ e. omega (arith, e)) in
      fine-header-ok vs (record {
        long = rw (C, d.same_length) facts.long;
        capacity = subst (λ (n : ℕ). T (capacity_ok n)) (sym C) facts.capacity;
        held = rw (d.others 1 (omega arith) (λ e. omega (arith, e))) facts.held;
        few = λ j g. few j g C (ℕ_discrete j k);
        header-zeros = subst T (sym d.zeros) facts.header-zeros;
      })
    where
      few : (j : ℕ) → j < heights → capacity_of vs ≡ capacity_of ws → Dec (j ≡ k) → kept_count vs j ≤ capacity_of vs
      few j g C (yes e) = omega (arith, C, ap (λ (n : ℕ). kept_count vs n) e, d.here)
      few j g C (no ne) = omega (arith, C, d.others (2 + j) (omega arith) (λ e. ne (omega (arith, e))), facts.few j g)

-- ---- a link stored, or links cut

pub link-unchanged : (k j last : ℕ) (ws : List ℕ) → Unchanged ws (link_in k j last ws)
unfolding link_in
link-unchanged k j last ws =
    let at : ℕ = link_position (capacity_of ws) k j last in
    past-unchanged ws (suc (kept_count ws k) ∷ []) at (omega (arith, link-past (capacity_of ws) k j last))

pub link-header : (k j last : ℕ) (ws : List ℕ) → T (header_ok ws) → T (header_ok (link_in k j last ws))
link-header k j last ws t = same-header (link-unchanged k j last ws) t

-- the list has its room still
pub link-room : (k j last : ℕ) (ws : List ℕ) → Room k ws → Room k (link_in k j last ws)
link-room k j last ws r =
    let d : Unchanged ws (link_in k j last ws) = link-unchanged k j last ws in
    record { header = same-header d r.header; list = r.list; room = rw (same_count d k r.list, same-capacity d) r.room }

links-unchanged : (n at m : ℕ) (ws : List ℕ) → first_scene ≤ at → Unchanged ws (cut_links n at m ws)
unfolding cut_links
links-unchanged n at m ws past = past-unchanged ws (map (cut_link n) (take m (drop at ws))) at past

pub chains-unchanged : (k n : ℕ) (ws : List ℕ) → Unchanged ws (cut_chains k n ws)
unfolding cut_chains
chains-unchanged k n ws =
    let C : ℕ = capacity_of ws in
    unchanged-twice (links-unchanged n (head_position C k 0) chains ws (omega arith))
    (links-unchanged n (next_position C k 0) (kept_count ws k) (cut_links n (head_position C k 0) chains ws) (omega arith))

-- ---- a cell more, a list cut back

-- the chains of list k cut back to its first n cells: the words have their header, and the list its cells, still
module _ {k n : ℕ} {ws vs : List ℕ} (keeps : Keeps k n ws) (cut : vs ≡ cut_chains k n ws) where
  cut-unchanged : Unchanged ws vs
  cut-unchanged = subst (Unchanged ws) (sym cut) (chains-unchanged k n ws)

  pub cut-in-order : T (header_ok vs)
  cut-in-order = same-header cut-unchanged keeps.header

  pub cut-enough : n ≤ kept_count vs k
  cut-enough = omega (arith, keeps.enough, same_count cut-unchanged k keeps.list)

  pub cut-few : kept_count vs k ≤ capacity_of vs
  cut-few = (header _ cut-in-order).counts k keeps.list

pub past-header : (C k n : ℕ) → first_scene ≤ cell_position C k n
past-header C zero n = omega arith
past-header C (suc k) n = omega arith

module _ (ws : List ℕ) (t : T (header_ok ws)) where
  long-header : first_scene ≤ length ws
  long-header = omega (arith, (fine-header ws t).long)

  module _ (k : ℕ) (h : k < heights) where
    pub keep-changed : (c : Cell) → Changed ws (keep_in k c ws) (2 + k) (suc (kept_count ws k))
    unfolding keep_in
    keep-changed c =
        count-first ws c (cell_position (capacity_of ws) k (kept_count ws k)) (2 + k) (suc (kept_count ws k)) (past-header (capacity_of ws) k (kept_count ws k))
        (omega arith) (omega (arith, long-header))

    pub cut-changed : (n : ℕ) → Changed ws (cut_list k n ws) (2 + k) n
    unfolding cut_list cut_cells
    cut-changed n =
        let d : Unchanged ws (cut_chains k n ws) = chains-unchanged k n ws in
        let vs : List ℕ = cut_chains k n ws in
        then-changed d
        (count-last vs (replicate (stride k * (kept_count vs k - n)) 0) (cell_position (capacity_of vs) k n) (2 + k) n (past-header (capacity_of vs) k n)
        (omega arith) (omega (arith, long-header, d.same_length)))

    pub keep-header : (c : Cell) → kept_count ws k < capacity_of ws → T (header_ok (keep_in k c ws))
    keep-header c l = count-header ws (keep_in k c ws) t k (suc (kept_count ws k)) (keep-changed c) h l

    pub cut-header : (n : ℕ) → n ≤ kept_count ws k → T (header_ok (cut_list k n ws))
    cut-header n l = count-header ws (cut_list k n ws) t k n (cut-changed n) h (omega (arith, (fine-header ws t).few k h))

-- a cell more, linked before
pub linked-header : (ws : List ℕ) → T (header_ok ws) → (k : ℕ) → k < heights → (j last : ℕ) (c : Cell) → kept_count ws k < capacity_of ws
    → T (header_ok (keep_in k c (link_in k j last ws)))
linked-header ws t k h j last c l =
    let r : Room k (link_in k j last ws) = link-room k j last ws (record { header = t; list = h; room = l }) in
    keep-header (link_in k j last ws) r.header k h c r.room

-- ---- the first m lists cut back

-- the header is in order, and the counts of the other lists are as they were
pub record CutSo (m : ℕ) (ws vs : List ℕ) : Type 0 where
  pub in_order : T (header_ok vs)
  pub same_length : length vs ≡ length ws
  pub rest : (j : ℕ) → m ≤ j → j < heights → kept_count vs j ≡ kept_count ws j

module _ (ns ws : List ℕ) (t : T (header_ok ws)) (l : (k : ℕ) → k < heights → get_or ns k 0 ≤ kept_count ws k) where
  pub lists-cut-so : (m : ℕ) → m ≤ heights → CutSo m ws (cut_lists m ns ws)
  unfolding cut_lists
  lists-cut-so zero h = record { in_order = t; same_length = refl; rest = λ j g s. refl }
  lists-cut-so (suc k) h =
      let vs : List ℕ = cut_lists k ns ws in
      let n : ℕ = get_or ns k 0 in
      let s : CutSo k ws vs = lists-cut-so k (omega arith) in
      let d : Changed vs (cut_list k n vs) (2 + k) n = cut-changed vs s.in_order k h n in
      record {
        in_order = cut-header vs s.in_order k h n (omega (arith, l k h, s.rest k (omega arith) h));
        same_length = d.same_length ∙ s.same_length;
        rest = λ j g u. d.others (2 + j) (omega arith) (λ e. omega (arith, e)) ∙ s.rest j (omega arith) u;
      }
