-- `pack::call::pack_root` meets its contract: the lists are ordered, then placed and measured, and what is found so is the packed file; a pointer of it is too
-- long for the headset, the output is too short for it, or it is written. Assumes nothing.
use Rattle.std.proofs.Common.{◌≡◌, sym, ap, ◌∙◌, Bool, true, false, not, ◌&&◌, List, ℕ, ◌+◌, ◌≤◌, T, arith, length, drop}
use Rattle.laws.proofs.Tests.{true-T}
use Rattle.paper.specs.Store.{capacity_of, kept_of, store_ok}
use Rattle.paper.specs.Packed.{all_short}
use Rattle.paper.specs.Pack.{packed_file}
use Rattle.paper.specs.Calls.{pack_scratch}
use Rattle.pack_scratch.specs.Parts.{Lent, Only}
use Rattle.pack_order.specs.OrderParts.{SceneRoot, Ordered}
use Rattle.pack_places.specs.Placing.{placed, placed_lists, all_near}
use Rattle.pack_places.proofs.Runs.{Places}
use Rattle.pack_bytes.specs.Writing.{file_length, fitted}
use Rattle.pack.specs.Ready.{Ready, profiled}
use Rattle.pack.specs.Profiles.{for_headset}
use Rattle.pack.proofs.Scenes.{capacity-most}
use Rattle.pack.proofs.Packings.{all-kept, placed-only, ready, near-is}
use Rattle.pack.proofs.Ways.{fitted_short, fitted-whole, profiled-long, profiled-fit}
use Rattle.pack.proofs.call.pack_root.Goals as goal

-- ---- what the steps give: scratch at first, s once the lists are ordered, t once they are placed

module _ (ws : List ℕ) (ok : T (store_ok ws)) (top root : ℕ) (h : SceneRoot ws top root) (scratch counts s : List ℕ) (long : pack_scratch (capacity_of ws) ≤ length scratch)
    (o : Ordered (kept_of ws) top root (capacity_of ws) counts s × (length s ≡ length scratch) × (drop (pack_scratch (capacity_of ws)) s ≡ drop (pack_scratch (capacity_of ws)) scratch)) where
  lent : Lent (capacity_of ws) s
  lent = record { most = capacity-most ws ok top root h.listed h.some h.sound; long = omega (arith, o.1, long) }

  module _ (sizes t : List ℕ) (p : placed sizes t ≡ placed_lists (kept_of ws) (capacity_of ws) counts (top + 1) s) where
    behind : (length t ≡ length scratch) × (drop (pack_scratch (capacity_of ws)) t ≡ drop (pack_scratch (capacity_of ws)) scratch)
    behind =
        let only : Only (capacity_of ws) Places s t = placed-only ws ok top root h.listed h.some h.sound counts s o.0 lent sizes t p in
        (only.long ∙ o.1, only.rest ∙ o.2)

    module _ (total : ℕ) (e : total ≡ file_length sizes top) where
      prepared : Ready ws top root counts sizes total t
      prepared = ready ws ok top root h.listed h.some h.sound counts s o.0 lent sizes t p total e

      near : all_near (capacity_of ws) counts top t ≡ all_short (packed_file (kept_of ws) (top + 2) root)
      near = near-is ws ok top root h.listed h.some h.sound counts sizes total t prepared

-- ---- the goals

pub place_lists-sizes-requires-clause-room : goal.place_lists-sizes-requires-clause-room
place_lists-sizes-requires-clause-room c =
    let a = c.args in
    let o = c.order_lists-counts in
    record { lent = lent a.whole.store.words.now (true-T c.args.whole.whole) a.top a.root c.requires.scene_root a.scratch.now o.result o.new.scratch c.requires.scratch_room o.ensures; list = c.requires.scene_root.listed }

pub place_lists-sizes-requires-clause-all_kept : goal.place_lists-sizes-requires-clause-all_kept
place_lists-sizes-requires-clause-all_kept c =
    let a = c.args in
    let r = c.requires.scene_root in
    let o = c.order_lists-counts in
    all-kept a.whole.store.words.now (true-T c.args.whole.whole) a.top a.root r.listed r.some r.sound o.result o.new.scratch o.ensures.0
    (lent a.whole.store.words.now (true-T c.args.whole.whole) a.top a.root r a.scratch.now o.result o.new.scratch c.requires.scratch_room o.ensures)

-- ---- long pointers

pub all_near-requires-clause-room : goal.all_near-requires-clause-room
all_near-requires-clause-room c =
    let a = c.args in
    let o = c.order_lists-counts in
    let p = c.place_lists-sizes in
    let f = c.file_length-total in
    let r = prepared a.whole.store.words.now (true-T c.args.whole.whole) a.top a.root c.requires.scene_root a.scratch.now o.result o.new.scratch c.requires.scratch_room o.ensures p.result p.new.scratch p.ensures f.result f.ensures in
    r.room

pub all_near-requires-clause-all_kept : goal.all_near-requires-clause-all_kept
all_near-requires-clause-all_kept c =
    let a = c.args in
    let o = c.order_lists-counts in
    let p = c.place_lists-sizes in
    let f = c.file_length-total in
    let r = prepared a.whole.store.words.now (true-T c.args.whole.whole) a.top a.root c.requires.scene_root a.scratch.now o.result o.new.scratch c.requires.scratch_room o.ensures p.result p.new.scratch p.ensures f.result f.ensures in
    r.kept

pub returns-then-is_headset-all_near-clause-told : goal.returns-then-is_headset-all_near-clause-told
returns-then-is_headset-all_near-clause-told c =
    let a = c.args in
    let o = c.order_lists-counts in
    let p = c.place_lists-sizes in
    let f = c.file_length-total in
    let n = near a.whole.store.words.now (true-T c.args.whole.whole) a.top a.root c.requires.scene_root a.scratch.now o.result o.new.scratch c.requires.scratch_room o.ensures p.result p.new.scratch p.ensures f.result f.ensures in
    let long : (for_headset a.profile && not (all_short (packed_file (kept_of a.whole.store.words.now) (a.top + 2) a.root))) ≡ true =
    ap (λ (b : Bool). for_headset a.profile && not b) (sym (c.all_near.ensures ∙ n)) ∙ ap (λ (b : Bool). b && not c.all_near.result) (sym c.is_headset.ensures) ∙ c.if-is_headset-all_near.true in
    profiled-long (for_headset a.profile) (packed_file (kept_of a.whole.store.words.now) (a.top + 2) a.root) a.out.now long

pub returns-then-is_headset-all_near-clause-rest_unchanged : goal.returns-then-is_headset-all_near-clause-rest_unchanged
returns-then-is_headset-all_near-clause-rest_unchanged c =
    let a = c.args in
    let o = c.order_lists-counts in
    let p = c.place_lists-sizes in
    behind a.whole.store.words.now (true-T c.args.whole.whole) a.top a.root c.requires.scene_root a.scratch.now o.result o.new.scratch c.requires.scratch_room o.ensures p.result p.new.scratch p.ensures

-- ---- the output too short, or written

-- no pointer is too long for the profile
fit : (headset : Bool) (bs out : List ℕ) (near is : Bool) → near ≡ all_short bs → is ≡ headset → is && not near ≡ false → profiled headset bs out ≡ fitted bs out
fit headset bs out near is e f h = profiled-fit headset bs out (ap (λ (x : Bool). headset && not x) (sym e) ∙ ap (λ (x : Bool). x && not near) (sym f) ∙ h)

pub returns-then-out-total-clause-told : goal.returns-then-out-total-clause-told
returns-then-out-total-clause-told c =
    let a = c.args in
    let o = c.order_lists-counts in
    let p = c.place_lists-sizes in
    let f = c.file_length-total in
    let file : List ℕ = packed_file (kept_of a.whole.store.words.now) (a.top + 2) a.root in
    let r = prepared a.whole.store.words.now (true-T c.args.whole.whole) a.top a.root c.requires.scene_root a.scratch.now o.result o.new.scratch c.requires.scratch_room o.ensures p.result p.new.scratch p.ensures f.result f.ensures in
    let n = near a.whole.store.words.now (true-T c.args.whole.whole) a.top a.root c.requires.scene_root a.scratch.now o.result o.new.scratch c.requires.scratch_room o.ensures p.result p.new.scratch p.ensures f.result f.ensures in
    fitted_short file a.out.now (omega (arith, r.measured, c.if-out-total.true))
    ∙ sym (fit (for_headset a.profile) file a.out.now c.all_near.result c.is_headset.result (c.all_near.ensures ∙ n) c.is_headset.ensures c.if-is_headset-all_near.false)

pub returns-then-out-total-clause-rest_unchanged : goal.returns-then-out-total-clause-rest_unchanged
returns-then-out-total-clause-rest_unchanged c =
    let a = c.args in
    let o = c.order_lists-counts in
    let p = c.place_lists-sizes in
    behind a.whole.store.words.now (true-T c.args.whole.whole) a.top a.root c.requires.scene_root a.scratch.now o.result o.new.scratch c.requires.scratch_room o.ensures p.result p.new.scratch p.ensures

pub write_prepared-requires-clause-ready : goal.write_prepared-requires-clause-ready
write_prepared-requires-clause-ready c =
    let a = c.args in
    let o = c.order_lists-counts in
    let p = c.place_lists-sizes in
    let f = c.file_length-total in
    prepared a.whole.store.words.now (true-T c.args.whole.whole) a.top a.root c.requires.scene_root a.scratch.now o.result o.new.scratch c.requires.scratch_room o.ensures p.result p.new.scratch p.ensures f.result f.ensures

pub overflow_cast-result : goal.overflow_cast-result
overflow_cast-result c =
    let a = c.args in
    let o = c.order_lists-counts in
    let p = c.place_lists-sizes in
    let f = c.file_length-total in
    let r = prepared a.whole.store.words.now (true-T c.args.whole.whole) a.top a.root c.requires.scene_root a.scratch.now o.result o.new.scratch c.requires.scratch_room o.ensures p.result p.new.scratch p.ensures f.result f.ensures in
    omega (arith, r.small)

pub returns-clause-told : goal.returns-clause-told
returns-clause-told c =
    let a = c.args in
    let o = c.order_lists-counts in
    let p = c.place_lists-sizes in
    let f = c.file_length-total in
    let file : List ℕ = packed_file (kept_of a.whole.store.words.now) (a.top + 2) a.root in
    let r = prepared a.whole.store.words.now (true-T c.args.whole.whole) a.top a.root c.requires.scene_root a.scratch.now o.result o.new.scratch c.requires.scratch_room o.ensures p.result p.new.scratch p.ensures f.result f.ensures in
    let n = near a.whole.store.words.now (true-T c.args.whole.whole) a.top a.root c.requires.scene_root a.scratch.now o.result o.new.scratch c.requires.scratch_room o.ensures p.result p.new.scratch p.ensures f.result f.ensures in
    fitted-whole file a.out.now f.result c.write_prepared.new.out r.measured c.write_prepared.ensures (omega (arith, r.measured, c.if-out-total.false))
    ∙ sym (fit (for_headset a.profile) file a.out.now c.all_near.result c.is_headset.result (c.all_near.ensures ∙ n) c.is_headset.ensures c.if-is_headset-all_near.false)

pub returns-clause-rest_unchanged : goal.returns-clause-rest_unchanged
returns-clause-rest_unchanged c =
    let a = c.args in
    let o = c.order_lists-counts in
    let p = c.place_lists-sizes in
    behind a.whole.store.words.now (true-T c.args.whole.whole) a.top a.root c.requires.scene_root a.scratch.now o.result o.new.scratch c.requires.scratch_room o.ensures p.result p.new.scratch p.ensures
