use Rattle.std.proofs.Common.{IfSome, Some, sym, subst}
use Rattle.fs_trees.specs.declared.ask.ShellAsk.TheVariants as ask
use Rattle.shell_server.proofs.Common.{ShellState, TellsNext, shell_state, shell_step, AreBehind}
use Rattle.shell_server.proofs.AheadLaws.{looked_ahead, looked_for, read_first, taken_first}
use Rattle.shell_server.proofs.look.next_on.Goals as goal

pub returns-in-Some-clause-looked : goal.returns-in-Some-clause-looked
returns-in-Some-clause-looked g c =
    let f = g.F.Files.view c.args.files.now in
    let v = g.D.Device.view c.args.dev.now in
    let q = ask.Ls c.args.path.now in
    let after = c.args.after.now in
    looked_ahead g.D.Device.told g.K.Started.start q f c.args.core.now v (TellsNext after) (Some c.in-Some.next) c.requires.ready c.requires.at (λ told. g.met.D.Device.sound c.args.dev.now told)
    (λ told. (taken_first after c.args.ahead.now.items c.pop_at.new.self.items c.in-Some.next (shell_step (shell_state f v.reads) q).answer c.in-Some.ensures.value c.in-Some.ensures.items (c.requires.ahead told)).0)

pub returns-in-Ok-clause-looked : goal.returns-in-Ok-clause-looked
returns-in-Ok-clause-looked g c =
    let f = g.F.Files.view c.args.files.now in
    let v = g.D.Device.view c.args.dev.now in
    let q = ask.Ls c.args.path.now in
    let after = c.args.after.now in
    let read = c.names_on.new.into.items in
    let pop = c.pop_at-in-Ok in
    looked_for g.D.Device.told g.K.Started.start q (TellsNext after) c.in-Ok.field-0 pop.result c.in-Ok.ensures
    (λ told. (read_first after read pop.new.self.items pop.result (shell_step (shell_state f v.reads) q).answer pop.ensures.value pop.ensures.items (c.in-Ok.ensures.read told)).0)

pub returns-in-Ok-clause-ahead : goal.returns-in-Ok-clause-ahead
returns-in-Ok-clause-ahead g c = λ told.
    let f = g.F.Files.view c.args.files.now in
    let v = g.D.Device.view c.args.dev.now in
    let q = ask.Ls c.args.path.now in
    let read = c.names_on.new.into.items in
    let pop = c.pop_at-in-Ok in
    subst (λ (s : ShellState). IfSome pop.result (λ name. AreBehind name pop.new.self.items (shell_step s q).answer)) (sym (c.in-Ok.ensures.state told).0)
    (read_first c.args.after.now read pop.new.self.items pop.result (shell_step (shell_state f v.reads) q).answer pop.ensures.value pop.ensures.items (c.in-Ok.ensures.read told)).1
