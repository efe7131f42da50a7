use Rattle.std.proofs.Common.{◌≡◌, true, length, sym, ◌∙◌, ap, subst, arith}
use Rattle.std.proofs.lemmas.List.{length-set}
use Rattle.tsd_model.specs.declared.geometry.Geometry.{Geometry}
use Rattle.image_layout.specs.declared.offset.Patch.{Patch}
use Rattle.pointer_table.specs.Table.{Table as Pointers}
use Rattle.ref_counts.specs.Changes.{KeepsStored as KeepsCounts}
use Rattle.block_alloc.specs.LiveMap.{LiveMap}
use Rattle.image_device.specs.Image.{Image, put_at}
use Rattle.intent_journal.specs.Home.{overlaid}
use Rattle.volume_laws.specs.Growing.{parts_of}
use Rattle.volume_laws.proofs.Grown.{free_count, free_absent, one_grown, one_pair_more}
use Rattle.volume_laws.proofs.AheadKept.{shown_more}
use Rattle.volume_laws.proofs.Outcomes.{ok_here, if_here}
use Rattle.volume_changes.proofs.growing.put_one.Goals as goal

pub raise-requires-clause-room : goal.raise-requires-clause-room
raise-requires-clause-room c =
    let count = free_count c.args.live.now.geometry (parts_of c.args.pointers.now c.args.counts.now c.args.live.now) c.args.block c.requires.fit c.requires.inside c.requires.free in
    let size = ap (λ (k : Geometry). k.blocks) c.requires.fit.counts in
    omega (arith, count, size, c.requires.inside)

pub returns-clause-pairs : goal.returns-clause-pairs
returns-clause-pairs c =
    one_pair_more c.args.source c.args.block c.args.pointers.now c.add.new.self (free_absent c.args.live.now.geometry (parts_of c.args.pointers.now c.args.counts.now c.args.live.now) c.args.source c.args.block c.requires.fit c.requires.free)
    (ok_here c.add.result _ c.unwrap-slot.result c.unwrap-slot.ensures c.add.ensures.pairs)

pub returns-clause-grown : goal.returns-clause-grown
returns-clause-grown c =
    let ok = c.unwrap-slot.ensures in
    let p = c.unwrap-slot.result in
    let q = c.patch.result in
    let r = c.patch-2.result in
    let change = if_here c.add.result _ p ok c.add.ensures.change in
    let b0 = c.args.batch.now in
    let b1 = c.put_patch.new.batch in
    let b2 = c.put_patch-2.new.batch in
    let b3 = c.put_patch-3.new.batch in
    one_grown c.args.live.now.geometry c.args.source c.args.block c.args.pointers.now c.add.new.self c.args.counts.now c.raise.new.self c.args.live.now c.set_live.new.self p q r b0 b3
    c.requires.fit c.requires.source c.requires.inside c.requires.free
    (ok_here c.add.result _ p ok c.add.ensures.pairs) c.add.ensures.table (ap (λ (t : Pointers). t.geometry) change.now) (if_here c.add.result _ p ok c.add.ensures.sector).area (if_here c.add.result _ p ok c.add.ensures.stored)
    c.raise.ensures.raised c.patch.ensures.inside (subst (λ (w : Patch). KeepsCounts c.args.counts.now c.raise.new.self w) (sym c.patch.ensures.value) c.raise.ensures.stored)
    c.set_live.ensures c.patch-2.ensures.sector c.patch-2.ensures.inside c.patch-2.ensures.stored
    (omega (arith, c.put_patch.ensures.few, c.put_patch-2.ensures.few, c.put_patch-3.ensures.few))
    (λ x n.
    let one : overlaid b1 x ≡ put_at p.sector p.bytes (overlaid b0 x) = λ i m. c.put_patch.ensures.laid x m i in
    let two : overlaid b2 x ≡ put_at q.sector q.bytes (overlaid b1 x) = λ i m. c.put_patch-2.ensures.laid x m i in
    c.put_patch-3.ensures.laid x n ∙ (ap (λ (y : Image). put_at r.sector r.bytes y n) two ∙ ap (λ (y : Image). put_at r.sector r.bytes (put_at q.sector q.bytes y) n) one))

pub returns-clause-shown : goal.returns-clause-shown
returns-clause-shown c =
    let l = c.args.live.now in
    let b = c.args.block in
    let set = c.set_live.ensures in
    let table = c.patch-2.ensures.table in
    let size = ap (λ (m : LiveMap). m.geometry.blocks) set in
    let live : length l.live ≡ l.geometry.blocks = sym (length-set l.live b true) ∙ (sym (ap (λ (m : LiveMap). length m.live) set) ∙ (table.each_block ∙ size)) in
    let unhidden : length l.unhidden ≡ l.geometry.blocks = sym (length-set l.unhidden b true) ∙ (sym (ap (λ (m : LiveMap). length m.unhidden) set) ∙ (table.each_unhidden ∙ size)) in
    shown_more l c.set_live.new.self b live unhidden c.requires.inside set
