use Rattle.gathered_tasks.proofs.TaskLaws.{behind_more, either_then, world_either}
use Rattle.gathered_tasks.proofs.task.SteppingTask.run.Goals as goal

pub returns-in_err-empty_ring-clause-any_moment : goal.returns-in_err-empty_ring-clause-any_moment
returns-in_err-empty_ring-clause-any_moment g c told =
    either_then (g.D.Device.view c.args.dev.now) (g.D.Device.view c.settle_one.new.dev) (g.D.Device.view c.empty_ring.new.dev) _ (g.met.D.Device.sound c.settle_one.new.dev told)
    (world_either (g.D.Device.view c.args.dev.now) (g.D.Device.view c.settle_one.new.dev) (c.settle_one.ensures.any_moment told)) (c.empty_ring.ensures.any_moment told)

pub returns-in_err-empty_ring-clause-behind : goal.returns-in_err-empty_ring-clause-behind
returns-in_err-empty_ring-clause-behind g c told =
    behind_more c.args.core.now c.settle_one.new.self (g.D.Device.view c.args.dev.now) (g.D.Device.view c.settle_one.new.dev) (g.D.Device.view c.empty_ring.new.dev) (g.met.D.Device.sound c.settle_one.new.dev told) c.settle_one.ensures.size (c.settle_one.ensures.behind told) (c.empty_ring.ensures.behind told)

pub returns-clause-any_moment : goal.returns-clause-any_moment
returns-clause-any_moment g c told =
    either_then (g.D.Device.view c.args.dev.now) (g.D.Device.view c.settle_one.new.dev) (g.D.Device.view c.empty_ring.new.dev) _ (g.met.D.Device.sound c.settle_one.new.dev told)
    (world_either (g.D.Device.view c.args.dev.now) (g.D.Device.view c.settle_one.new.dev) (c.settle_one.ensures.any_moment told)) (c.empty_ring.ensures.any_moment told)

pub returns-clause-behind : goal.returns-clause-behind
returns-clause-behind g c told =
    behind_more c.args.core.now c.settle_one.new.self (g.D.Device.view c.args.dev.now) (g.D.Device.view c.settle_one.new.dev) (g.D.Device.view c.empty_ring.new.dev) (g.met.D.Device.sound c.settle_one.new.dev told) c.settle_one.ensures.size (c.settle_one.ensures.behind told) (c.empty_ring.ensures.behind told)
