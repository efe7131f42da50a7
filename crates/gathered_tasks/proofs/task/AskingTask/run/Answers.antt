use Rattle.gathered_tasks.proofs.BoundLaws.{task_most}
use Rattle.gathered_tasks.proofs.TaskLaws.{behind_more, either_then}
use Rattle.gathered_tasks.proofs.task.AskingTask.run.Goals as goal

pub returns-in_err-empty_ring-clause-any_moment : goal.returns-in_err-empty_ring-clause-any_moment
returns-in_err-empty_ring-clause-any_moment g c told =
    either_then (g.D.Device.view c.args.dev.now) (g.D.Device.view c.apply.new.dev) (g.D.Device.view c.empty_ring.new.dev) _ (g.met.D.Device.sound c.apply.new.dev told) (c.apply.ensures.any_moment told) (c.empty_ring.ensures.any_moment told)

pub returns-in_err-empty_ring-clause-behind : goal.returns-in_err-empty_ring-clause-behind
returns-in_err-empty_ring-clause-behind g c told =
    behind_more c.args.core.now c.apply.new.core (g.D.Device.view c.args.dev.now) (g.D.Device.view c.apply.new.dev) (g.D.Device.view c.empty_ring.new.dev) (g.met.D.Device.sound c.apply.new.dev told) c.apply.ensures.size (c.apply.ensures.behind told) (c.empty_ring.ensures.behind told)

pub returns-in_err-empty_ring-clause-most : goal.returns-in_err-empty_ring-clause-most
returns-in_err-empty_ring-clause-most g c most bound =
    task_most c.args.core.now.volume c.apply.new.core.volume c.args.self.now.request.now (g.D.Device.view c.args.dev.now) (g.D.Device.view c.apply.new.dev) _ most c.requires.empty bound c.in_ok-reply.ensures.once c.in_ok-reply.ensures.new_most
    (λ waits. (c.in_ok-reply.ensures.once waits).ring) c.in_ok-reply.ensures.new_paid (g.D.Device.view c.empty_ring.new.dev) c.empty_ring.ensures.most

pub returns-clause-any_moment : goal.returns-clause-any_moment
returns-clause-any_moment g c told =
    either_then (g.D.Device.view c.args.dev.now) (g.D.Device.view c.apply.new.dev) (g.D.Device.view c.empty_ring.new.dev) _ (g.met.D.Device.sound c.apply.new.dev told) (c.apply.ensures.any_moment told) (c.empty_ring.ensures.any_moment told)

pub returns-clause-behind : goal.returns-clause-behind
returns-clause-behind g c told =
    behind_more c.args.core.now c.apply.new.core (g.D.Device.view c.args.dev.now) (g.D.Device.view c.apply.new.dev) (g.D.Device.view c.empty_ring.new.dev) (g.met.D.Device.sound c.apply.new.dev told) c.apply.ensures.size (c.apply.ensures.behind told) (c.empty_ring.ensures.behind told)

pub returns-clause-most : goal.returns-clause-most
returns-clause-most g c most bound =
    task_most c.args.core.now.volume c.apply.new.core.volume c.args.self.now.request.now (g.D.Device.view c.args.dev.now) (g.D.Device.view c.apply.new.dev) _ most c.requires.empty bound c.in_ok-reply.ensures.once c.in_ok-reply.ensures.new_most
    (λ waits. (c.in_ok-reply.ensures.once waits).ring) c.in_ok-reply.ensures.new_paid (g.D.Device.view c.empty_ring.new.dev) c.empty_ring.ensures.most
