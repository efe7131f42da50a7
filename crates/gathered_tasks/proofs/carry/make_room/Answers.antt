use Rattle.gathered_tasks.proofs.Common.{gathered}
use Rattle.gathered_tasks.proofs.CarryLaws.{holds_still}
use Rattle.gathered_tasks.proofs.carry.make_room.Goals as goal

pub returns-then-has_room-clause-holds : goal.returns-then-has_room-clause-holds
returns-then-has_room-clause-holds g c =
    holds_still g.D.Device.told c.args.core.now c.args.room.now.ring (gathered c.args.room.now) (g.D.Device.view c.args.dev.now) (λ t. g.met.D.Device.sound c.args.dev.now t) c.requires.ready c.requires.at
