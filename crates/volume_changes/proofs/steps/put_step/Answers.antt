use Rattle.std.proofs.Common.{◌≡◌, ◌≢◌, ◌<◌, ◌≤◌, ℕ, false, Bool, List, [], ◌∷◌, length, cond, refl, sym, ◌∙◌, ap, subst, arith}
use Rattle.std.specs.Prelude.{slice_set}
use Rattle.tsd_model.specs.declared.geometry.Geometry.{Geometry}
use Rattle.image_device.specs.Image.{put_at}
use Rattle.image_layout.specs.Areas.{bitmap_start, slots_start}
use Rattle.image_layout.specs.Image.{Image}
use Rattle.image_layout.specs.declared.offset.Patch.{Patch}
use Rattle.intent_journal.specs.Batch.{with_patch}
use Rattle.block_alloc.specs.LiveMap.{LiveMap}
use Rattle.block_alloc.specs.Stored.{IsStoredAt, IsStored, sector_of}
use Rattle.image_world.specs.Tables.{Tables}
use Rattle.volume_laws.specs.Steps.{MayTake, PairsAreTaken, with_slots_and_counts, MayPut, with_all, live_after}
use Rattle.image_world.specs.Turns.{Turns}
use Rattle.volume_laws.proofs.BlockLaws.{put_ok, length-with_patch}
use Rattle.volume_laws.proofs.Freed.{freed_turn, allowed_inside}
use Rattle.pointer_table.specs.Table.{Table as Pointers}
use Rattle.reclaim.specs.declared.out_step.OutStep.{OutStep}
use Rattle.ref_counts.specs.Table.{Table as Counts}
use Rattle.volume_laws.proofs.Taken.{one_turn}
use Rattle.volume_changes.proofs.steps.put_step.Goals as goal

pub returns-then-step-clause-put : goal.returns-then-step-clause-put
returns-then-step-clause-put c = λ t may.
    let s = c.args.step.now in
    let p = c.put_pairs.new.pointers in
    let k = c.put_pairs.new.counts in
    let l = c.args.live.now in
    let m = c.set_free.new.self in
    let r : Patch = c.patch-bits.result in
    let mid = with_slots_and_counts t p k in
    let bits : m.live ≡ slice_set t.live s.block false = ap (λ (x : LiveMap). x.live) c.set_free.ensures ∙ ap (λ (xs : List Bool). slice_set xs s.block false) may.live in
    let size : m.geometry ≡ t.geometry = ap (λ (x : LiveMap). x.geometry) c.set_free.ensures ∙ may.live_size in
    let taken : PairsAreTaken t s.block s.targets mid c.put_pairs.new.batch = subst (λ (bs : List ℕ). PairsAreTaken t s.block bs mid c.put_pairs.new.batch) c.as_slice.ensures.value
    (c.put_pairs.ensures.taken t (subst (λ (bs : List ℕ). MayTake t c.args.pointers.now c.args.counts.now s.block bs) (sym c.as_slice.ensures.value) (record { parts = may.parts; sound = may.sound; held = record { held = may.next.step.taken.held; once = may.next.step.taken.once } }))) in
    let put : c.put.new.self ≡ with_patch r c.put_pairs.new.batch = put_ok c.put.result _ _ (length c.put_pairs.new.batch) c.put.ensures.ok c.put.ensures.full
    (let f = taken.few in let few = may.next.few in omega (arith, f, few)) in
    let stored : (x : Image) → ((b : ℕ) → b < t.geometry.blocks → sector_of t.geometry b ≢ r.sector → IsStoredAt (slice_set t.live s.block false) t.geometry x b) → IsStored (slice_set t.live s.block false) t.geometry (put_at r.sector r.bytes x) =
    subst (λ (q : LiveMap). (x : Image) → ((b : ℕ) → b < q.geometry.blocks → sector_of q.geometry b ≢ r.sector → IsStoredAt q.live q.geometry x b) → IsStored q.live q.geometry (put_at r.sector r.bytes x))
    (λ i. record { geometry = size i; live = bits i; unhidden = m.unhidden }) c.patch-bits.ensures.stored in
    let turn : Turns mid (record mid { live = slice_set t.live s.block false }) (r ∷ []) =
    freed_turn t mid s may.next refl refl taken.pairs c.if-step.true taken.turns.sound r (c.patch-bits.ensures.sector ∙ ap (λ g. sector_of g s.block) size)
    (subst (λ g. (bitmap_start g ≤ r.sector) × (r.sector < slots_start g)) size c.patch-bits.ensures.inside) stored in
    record {
      stepped = record { same = refl; pairs = taken.pairs; live = bits ∙ sym (ap (live_after t.live s.block) c.if-step.true) };
      turns = one_turn t mid (with_all t p k m) c.put_pairs.new.batch taken.turns r c.put.new.self c.put.ensures.was put (subst (λ (xs : List Bool). Turns mid (record mid { live = xs }) (r ∷ [])) (sym bits) turn);
      few = let one : ◌≡◌ {A = ℕ} (cond s.freed 1 0) 1 = ap (λ f. cond f 1 0) c.if-step.true in omega (arith, one, taken.few, ap (λ (ps : List Patch). length ps) put, length-with_patch r c.put_pairs.new.batch);
    }

pub returns-else-step-clause-put : goal.returns-else-step-clause-put
returns-else-step-clause-put c = λ t may.
    let s = c.args.step.now in
    let mid = with_slots_and_counts t c.put_pairs.new.pointers c.put_pairs.new.counts in
    let taken : PairsAreTaken t s.block s.targets mid c.put_pairs.new.batch = subst (λ (bs : List ℕ). PairsAreTaken t s.block bs mid c.put_pairs.new.batch) c.as_slice.ensures.value
    (c.put_pairs.ensures.taken t (subst (λ (bs : List ℕ). MayTake t c.args.pointers.now c.args.counts.now s.block bs) (sym c.as_slice.ensures.value) (record { parts = may.parts; sound = may.sound; held = record { held = may.next.step.taken.held; once = may.next.step.taken.once } }))) in
    record {
      stepped = record { same = refl; pairs = taken.pairs; live = may.live ∙ sym (ap (live_after t.live s.block) c.if-step.false) };
      turns = subst (λ (xs : List Bool). Turns t (record mid { live = xs }) c.put_pairs.new.batch) (sym may.live) taken.turns;
      few = omega (arith, taken.few);
    }

-- the block is one of the disk
inside_now : (t : Tables) (p : Pointers) (k : Counts) (l : LiveMap) (s : OutStep) → MayPut t p k l s → s.block < l.geometry.blocks
inside_now t p k l s may = subst (λ (g : Geometry). s.block < g.blocks) (sym may.live_size) (allowed_inside t s may.next)

pub set_free-requires : goal.set_free-requires
set_free-requires c = inside_now c.requires.tables.0 c.args.pointers.now c.args.counts.now c.args.live.now c.args.step.now c.requires.tables.1

pub patch-bits-requires : goal.patch-bits-requires
patch-bits-requires c =
    subst (λ (g : Geometry). c.args.step.now.block < g.blocks) (sym (ap (λ (x : LiveMap). x.geometry) c.set_free.ensures))
    (inside_now c.requires.tables.0 c.args.pointers.now c.args.counts.now c.args.live.now c.args.step.now c.requires.tables.1)
