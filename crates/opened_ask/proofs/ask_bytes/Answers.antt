-- `opened_ask::ask_bytes` meets its contract: 6 where the bytes don't open to the numbers, by the first bytes, the sizes or one of the numbers, else the
-- packed voxel's answer. By the law that a question on bytes that open to their numbers is the packed voxel's. Assumes nothing.
use Rattle.std.proofs.Common.{◌≡◌, refl, sym, ◌∙◌, ap, Bool, true, false, not, cond, ◌&&◌, List, [], ◌∷◌, ℕ, eqb, arith, Err}
use Rattle.std.proofs.lemmas.Result.{err_from_is_err_and}
use borrow.Author.Tests.{eq-eqb, not-true, not-false}
use lib.Dec.{eqb→eq}
use Rattle.paper.specs.Numbers.{same_list}
use Rattle.paper.specs.Packed.{packed_version, packed_head, head_ok, starts_of}
use Rattle.paper.specs.Outline.{file_depth}
use Rattle.paper.specs.Order.{when}
use Rattle.paper.specs.Answers.{outcome, found}
use Rattle.paper.specs.Calls.{ask_outcome}
use Rattle.paper.specs.Runs.{Bytes}
use Rattle.paper.specs.declared.Refusal.TheVariants.{BrokenRules}
use Rattle.laws.proofs.Tests.{T_true, true-T, and_left}
use Rattle.laws.proofs.OpenClaim.{opens-ask}
use Rattle.file_head.specs.Heads.{head_number}
use Rattle.file_head.proofs.HeadTests.{Headed, headed, head-stops, accepted}
use Rattle.packed_lists.proofs.Header.{starts-empty}
use Rattle.packed_lists.proofs.FirstTests.{tested}
use Rattle.points.specs.Points.{at}
use Rattle.opened_head.proofs.Openings.{opens}
use Rattle.opened_head.specs.declared.Header.{Header}
use Rattle.opened_ask.specs.Compared.{opens_by}
use Rattle.opened_ask.proofs.Askings.{number-none, number-some, not-open, opens_by_lem, by-numbers, ask-refused}
use Rattle.opened_ask.proofs.ask_bytes.Goals as goal
use Rattle.opened_ask.proofs.ask_bytes.Goals.{then-bytes-eq-EMPTY_MARK+else-empty_differs, else-bytes-eq-EMPTY_MARK+in_ok-read_lists+else-differ}

-- ---- the ways to refusal 6
-- what opens has a head
pub returns-then-bytes-lt-PACKED_HEAD : goal.returns-then-bytes-lt-PACKED_HEAD
returns-then-bytes-lt-PACKED_HEAD c =
    let a = c.args in
    let file = a.bytes.now in
    let is-bytes : Bytes file = λ i. omega (arith, c.type_inv.bytes i) in
    ask-refused file a.depth a.starts (at a.v) (not-open file a.depth a.starts (λ z. omega (arith, c.if-bytes-lt-PACKED_HEAD.true, (opens file z is-bytes).tested.long)))

pub returns-then-is_err : goal.returns-then-is_err
returns-then-is_err c =
    let a = c.args in
    let file = a.bytes.now in
    let bad : head_number packed_version packed_head file ≡ 0 → ⊥ = λ z. number-some _ (sym c.is_err.ensures.value ∙ c.if-is_err.true) (c.test_head.ensures ∙ z) in
    ask-refused file a.depth a.starts (at a.v) (not-open file a.depth a.starts (λ z. bad (sym (head-stops packed_version packed_head file (when (not (head_ok file)) 6 ∷ []) bad) ∙ z)))

pub empty_differs-requires-clause-tested : goal.empty_differs-requires-clause-tested
empty_differs-requires-clause-tested c =
    let a = c.args in
    let file = a.bytes.now in
    let known : Headed packed_version packed_head file = headed packed_version packed_head file [] (sym c.test_head.ensures ∙ number-none _ (sym c.is_err.ensures.value ∙ c.if-is_err.false)) in
    tested file (λ i. omega (arith, c.type_inv.bytes i)) known

pub returns-then-empty_differs : goal.returns-then-empty_differs
returns-then-empty_differs c =
    let a = c.args in
    let file = a.bytes.now in
    let known : Headed packed_version packed_head file = headed packed_version packed_head file [] (sym c.test_head.ensures ∙ number-none _ (sym c.is_err.ensures.value ∙ c.if-is_err.false)) in
    let refused : opens_by file a.depth a.starts ≡ false → outcome (found (Err BrokenRules)) [] ≡ ask_outcome file a.depth a.starts (at a.v) = λ e. ask-refused file a.depth a.starts (at a.v) (opens_by_lem file a.depth a.starts known ∙ e) in
    refused (not-true _ (sym c.empty_differs.ensures ∙ c.if-empty_differs.true))

pub read_lists-requires-clause-tested : goal.read_lists-requires-clause-tested
read_lists-requires-clause-tested c =
    let a = c.args in
    let file = a.bytes.now in
    let known : Headed packed_version packed_head file = headed packed_version packed_head file [] (sym c.test_head.ensures ∙ number-none _ (sym c.is_err.ensures.value ∙ c.if-is_err.false)) in
    tested file (λ i. omega (arith, c.type_inv.bytes i)) known

pub returns-in_err-read_lists : goal.returns-in_err-read_lists
returns-in_err-read_lists c =
    let a = c.args in
    let file = a.bytes.now in
    let known : Headed packed_version packed_head file = headed packed_version packed_head file [] (sym c.test_head.ensures ∙ number-none _ (sym c.is_err.ensures.value ∙ c.if-is_err.false)) in
    let refused : opens_by file a.depth a.starts ≡ false → outcome (found (Err BrokenRules)) [] ≡ ask_outcome file a.depth a.starts (at a.v) = λ e. ask-refused file a.depth a.starts (at a.v) (opens_by_lem file a.depth a.starts known ∙ e) in
    let p = err_from_is_err_and c.from_residual.result c.from_residual.ensures.1 in
    rw (p.1, p.2) (refused (ap (λ (b : Bool). b && same_list (file_depth file ∷ starts_of file) (a.depth ∷ a.starts)) (sym c.in_err-read_lists.ensures.good)))

-- numbers differ from others, whether their first was compared with the others' first or with itself
still-differ : (own depth compared : ℕ) (l m : List ℕ) → (own ≡ depth → own ≡ compared) → same_list (own ∷ l) (compared ∷ m) ≡ false → same_list (own ∷ l) (depth ∷ m) ≡ false
unfolding same_list
still-differ own depth compared l m h e = go (eqb own depth) refl
  where
    go : (b : Bool) → eqb own depth ≡ b → cond b (same_list l m) false ≡ false
    go true q = sym (ap (λ (b : Bool). cond b (same_list l m) false) (eq-eqb own compared (h (eqb→eq own depth (true-T q))))) ∙ e
    go false q = refl

pub returns-then-differ : goal.returns-then-differ
returns-then-differ c =
    let a = c.args in
    let file = a.bytes.now in
    let known : Headed packed_version packed_head file = headed packed_version packed_head file [] (sym c.test_head.ensures ∙ number-none _ (sym c.is_err.ensures.value ∙ c.if-is_err.false)) in
    let refused : opens_by file a.depth a.starts ≡ false → outcome (found (Err BrokenRules)) [] ≡ ask_outcome file a.depth a.starts (at a.v) = λ e. ask-refused file a.depth a.starts (at a.v) (opens_by_lem file a.depth a.starts known ∙ e) in
    refused
    (by-numbers file a.depth a.starts (sym c.in_ok-read_lists.ensures.good) c.depth.ensures c.in_ok-read_lists.ensures.starts
    ∙ still-differ c.depth.result a.depth _ _ _ (λ e. cc) (not-true _ (sym c.differ.ensures ∙ c.if-differ.true)))

pub voxel_in-requires : goal.voxel_in-requires
voxel_in-requires c =
    let a = c.args in
    let file = a.bytes.now in
    let known : Headed packed_version packed_head file = headed packed_version packed_head file [] (sym c.test_head.ensures ∙ number-none _ (sym c.is_err.ensures.value ∙ c.if-is_err.false)) in
    let good : (head_ok file ≡ true) × (c.if-bytes-eq-EMPTY_MARK.own.starts ≡ starts_of file) =
    elim c.if-bytes-eq-EMPTY_MARK.branch [
      | then-bytes-eq-EMPTY_MARK+else-empty_differs w ↦ (T_true (and_left (head_ok file) (same_list (file_depth file ∷ starts_of file) (a.depth ∷ a.starts)) (true-T (not-false (opens_by file a.depth a.starts) (sym w.empty_differs.ensures ∙ w.if-empty_differs.false)))), ap (λ (o : Header). o.starts) w.own-is ∙ starts-empty file w.if-bytes-eq-EMPTY_MARK.true)
      | else-bytes-eq-EMPTY_MARK+in_ok-read_lists+else-differ w ↦ (sym w.in_ok-read_lists.ensures.good, ap (λ (o : Header). o.starts) w.own-is ∙ w.in_ok-read_lists.ensures.starts)
    ] in
    record {
      version = known.version_ok_lem;
      size = known.length_ok_lem;
      opens = opens file (accepted packed_version packed_head file (not (head_ok file)) known (ap not good.0)) (λ i. omega (arith, c.type_inv.bytes i));
      is = good.1;
    }

pub returns : goal.returns
returns c =
    let a = c.args in
    let file = a.bytes.now in
    let known : Headed packed_version packed_head file = headed packed_version packed_head file [] (sym c.test_head.ensures ∙ number-none _ (sym c.is_err.ensures.value ∙ c.if-is_err.false)) in
    let met : opens_by file a.depth a.starts ≡ true =
    elim c.if-bytes-eq-EMPTY_MARK.branch [
      | then-bytes-eq-EMPTY_MARK+else-empty_differs w ↦ not-false _ (sym w.empty_differs.ensures ∙ w.if-empty_differs.false)
      | else-bytes-eq-EMPTY_MARK+in_ok-read_lists+else-differ w ↦
          by-numbers file a.depth a.starts (sym w.in_ok-read_lists.ensures.good) w.depth.ensures w.in_ok-read_lists.ensures.starts ∙ not-false _ (sym w.differ.ensures ∙ w.if-differ.false)
    ] in
    c.voxel_in.ensures ∙ sym (opens-ask file a.starts a.depth (at a.v) (opens_by_lem file a.depth a.starts known ∙ met))
