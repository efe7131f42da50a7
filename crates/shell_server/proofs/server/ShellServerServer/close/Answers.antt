use Rattle.std.proofs.Common.{ap}
use Rattle.shell_server.proofs.Common.{behind, behind_of_core}
use Rattle.shell_server.proofs.server.ShellServerServer.close.Goals as goal

pub returns-clause-aside : goal.returns-clause-aside
returns-clause-aside g c =
    let kept = behind_of_core g.D.Device.told c.args.self.now.core.now c.close.new.self (g.D.Device.view c.args.dev.now) (g.D.Device.view c.close.new.dev) (λ told. g.met.D.Device.sound c.close.new.dev told) c.close.ensures.size c.close.ensures.behind in
    ap behind kept.size

pub returns-clause-aside_kept : goal.returns-clause-aside_kept
returns-clause-aside_kept g c =
    let kept = behind_of_core g.D.Device.told c.args.self.now.core.now c.close.new.self (g.D.Device.view c.args.dev.now) (g.D.Device.view c.close.new.dev) (λ told. g.met.D.Device.sound c.close.new.dev told) c.close.ensures.size c.close.ensures.behind in
    kept.any_moment
