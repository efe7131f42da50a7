use Rattle.std.proofs.Common.{length, ap}
use Rattle.intent_journal.proofs.Common.{confined_wider, confined_write, confined_sync, is_in_record}
use Rattle.intent_journal.proofs.Bodies.{in_descriptor, in_bodies}
use Rattle.intent_journal.proofs.commit.write_record.Goals as goal

pub returns-clause-confined : goal.returns-clause-confined
returns-clause-confined g c told =
    let view = g.D.Device.view in
    let some = is_in_record c.args.index c.args.start (length c.args.batch.now) in
    let one = confined_wider _ some (view c.args.dev.now) (view c.write_bodies.new.dev) (in_bodies c.args.index c.args.start _ _ (ap length c.patches.ensures.value)) (c.write_bodies.ensures.confined told) in
    let two = confined_write some c.descriptor_sector.result _ (view c.write_bodies.new.dev) (view c.write.new.self) (in_descriptor c.args.index c.args.start (length c.args.batch.now) _ c.descriptor_sector.ensures.value) one (c.write.ensures.touches told) in
    confined_sync some _ (view c.write.new.self) (view c.sync.new.self) two (c.sync.ensures.settles told)
