use Rattle.std.proofs.Common.{◌≡◌, ◌<◌, ◌≤◌, ◌*◌, ℕ, true, List, length, take, refl, sym, ◌∙◌, ap, subst, arith}
use Rattle.std.proofs.lemmas.Bool.{both_ways}
use Rattle.std.proofs.lemmas.List.{length-take}
use Rattle.std.specs.Prelude.{get_or}
use Rattle.tsd_model.specs.Pairs.{holds}
use Rattle.image_layout.specs.declared.offset.Patch.{Patch}
use Rattle.intent_journal.specs.Batch.{with_patch}
use Rattle.pointer_table.specs.Table.{Table as Pointers}
use Rattle.ref_counts.specs.Table.{Table as Counts}
use Rattle.ref_counts.specs.Changes.{KeepsStored as KeepsCounts}
use Rattle.image_world.specs.Tables.{Tables, pairs_of}
use Rattle.volume_laws.specs.Steps.{MayTake, PairsAreTaken, with_slots_and_counts}
use Rattle.volume_laws.proofs.BlockLaws.{put_ok, length-with_patch}
use Rattle.volume_laws.proofs.Dropped.{count_some}
use Rattle.volume_laws.proofs.Taken.{taken_none, taken_more, next_pair}
use Rattle.volume_laws.proofs.Outcomes.{ok_here, if_here, ok_if}
use Rattle.volume_changes.proofs.steps.put_pairs.Goals as goal

pub loop-target-init : goal.loop-target-init
loop-target-init c = record {
  slots = refl;
  counts = refl;
  taken = λ t may. taken_none t c.args.pointers.now c.args.counts.now c.args.source c.args.targets.now c.args.batch.now c.requires.none may;
}

-- the next pair is held in the tables so far
held_now : (t : Tables) (p0 p : Pointers) (c0 c : Counts) (a : ℕ) (bs : List ℕ) (i : ℕ) (ps : List Patch) → MayTake t p0 c0 a bs → i < length bs → PairsAreTaken t a (take i bs) (with_slots_and_counts t p c) ps → holds (pairs_of (with_slots_and_counts t p c)) a (get_or bs i 0) ≡ true
held_now t p0 p c0 c a bs i ps may within taken = ap (λ es. holds es a (get_or bs i 0)) taken.pairs ∙ next_pair t a (get_or bs i 0) bs i may.held within refl

pub unwrap-slot-requires : goal.unwrap-slot-requires
unwrap-slot-requires c =
    let t = c.requires.tables.0 in
    let may = c.requires.tables.1 in
    ok_if c.remove.result (λ err. both_ways _ (c.remove.ensures.absent.0 err)
    (held_now t c.args.pointers.now c.loop-target.pointers c.args.counts.now c.loop-target.counts c.args.source c.args.targets.now c.loop-target.target-index c.loop-target.batch may c.loop-target-test.true (c.loop-target.invariant.taken t may)))

pub lower-requires-clause-some : goal.lower-requires-clause-some
lower-requires-clause-some c =
    let t = c.requires.tables.0 in
    let may = c.requires.tables.1 in
    let taken = c.loop-target.invariant.taken t may in
    count_some (with_slots_and_counts t c.loop-target.pointers c.loop-target.counts) c.args.source (get_or c.args.targets.now c.loop-target.target-index 0) taken.turns.sound
    (held_now t c.args.pointers.now c.loop-target.pointers c.args.counts.now c.loop-target.counts c.args.source c.args.targets.now c.loop-target.target-index c.loop-target.batch may c.loop-target-test.true taken)

pub loop-target-preserved : goal.loop-target-preserved
loop-target-preserved c =
    let inv = c.loop-target.invariant in
    let ok = c.unwrap-slot.ensures in
    let r = c.remove.result in
    let p : Patch = c.unwrap-slot.result in
    let q : Patch = c.patch-count.result in
    let i = c.loop-target.target-index in
    let bs = c.args.targets.now in
    let change = if_here r _ p ok c.remove.ensures.change in
    let within = c.loop-target-test.true in
    let room : length c.loop-target.batch ≤ 2 * i = let f = (inv.taken c.requires.tables.0 c.requires.tables.1).few in omega (arith, f, length-take i bs) in
    let few : i < 16 = let m = c.requires.few in omega (arith, m, within) in
    let first : c.put.new.self ≡ with_patch p c.loop-target.batch = put_ok c.put.result _ _ (length c.loop-target.batch) c.put.ensures.ok c.put.ensures.full (omega (arith, room, few)) in
    let second : c.put-in-loop-target.new.self ≡ with_patch q c.put.new.self = put_ok c.put-in-loop-target.result _ _ (length c.put.new.self) c.put-in-loop-target.ensures.ok c.put-in-loop-target.ensures.full
    (omega (arith, room, few, ap (λ (ps : List Patch). length ps) first, length-with_patch p c.loop-target.batch)) in
    record {
      slots = ap (λ (t : Pointers). t.geometry) change.now ∙ inv.slots;
      counts = ap (λ (t : Counts). t.geometry) c.lower.ensures.lowered ∙ inv.counts;
      taken = λ t may. taken_more t c.loop-target.pointers c.remove.new.self c.loop-target.counts c.lower.new.self c.args.source (get_or bs i 0) bs i p q c.loop-target.batch c.put.new.self c.put-in-loop-target.new.self
          may.held within refl (inv.taken t may) c.put.ensures.was c.put-in-loop-target.ensures.was first second (inv.slots ∙ may.parts.slots_size) (inv.counts ∙ may.parts.counts_size)
          (ok_here r _ p ok c.remove.ensures.pairs) c.remove.ensures.table (ap (λ (t : Pointers). t.geometry) change.now) (if_here r _ p ok c.remove.ensures.sector) (if_here r _ p ok c.remove.ensures.stored)
          c.lower.ensures.lowered c.patch-count.ensures.inside (subst (λ (w : Patch). KeepsCounts c.loop-target.counts c.lower.new.self w) (sym c.patch-count.ensures.value) c.lower.ensures.stored);
    }
