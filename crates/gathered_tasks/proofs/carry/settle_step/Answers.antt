use Rattle.gathered_tasks.proofs.Common.{gathered}
use Rattle.gathered_tasks.proofs.CarryLaws.{holds_failed, holds_of, holds_still, holds_then}
use Rattle.gathered_tasks.proofs.carry.settle_step.Goals as goal

pub returns-then-not-is_owed-clause-holds : goal.returns-then-not-is_owed-clause-holds
returns-then-not-is_owed-clause-holds g c =
    holds_still g.D.Device.told c.args.core.now c.args.room.now.ring (gathered c.args.room.now) (g.D.Device.view c.args.dev.now) (λ t. g.met.D.Device.sound c.args.dev.now t) c.requires.ready c.requires.at

pub returns-in_err-in_memory-clause-holds : goal.returns-in_err-in_memory-clause-holds
returns-in_err-in_memory-clause-holds g c =
    holds_failed _ c.from_residual-in_err-in_memory.result c.from_residual-in_err-in_memory.ensures.1
    (holds_then c.in_ok-make_room.ensures.holds (λ t. g.met.D.Device.sound c.make_room.new.dev t) (record { goes_on = c.in_err-in_memory.ensures.goes_on; state = λ t. tt; told_state = tt }))

pub returns-clause-holds : goal.returns-clause-holds
returns-clause-holds g c =
    let e = c.in_ok-in_memory.ensures in
    holds_then c.in_ok-make_room.ensures.holds (λ t. g.met.D.Device.sound c.make_room.new.dev t) (holds_of tt e.goes_on e.given e.told)
