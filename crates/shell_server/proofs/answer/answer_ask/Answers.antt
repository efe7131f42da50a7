use Rattle.std.proofs.Common.{cond, sym, ◌∙◌, ap}
use Rattle.fs_trees.specs.declared.ask.ShellAsk.TheVariants as ask
use Rattle.shell_server.proofs.Common.{heard}
use Rattle.shell_server.proofs.SendLaws.{served_bad}
use Rattle.shell_server.proofs.answer.answer_ask.Goals as goal

pub returns-then-not-is_heard-clause-served : goal.returns-then-not-is_heard-clause-served
returns-then-not-is_heard-clause-served g c =
    served_bad g.P.Device.told g.K.Started.start c.args.request.now (g.F.Files.view c.args.files.now) c.args.core.now (g.P.Device.view c.args.port.now) (g.P.Device.view c.send_bad.new.port) c.requires.ready (λ t. g.met.P.Device.sound c.args.port.now t) c.requires.at
    (ap (λ b. cond b c.args.request.now ask.Bad) (sym c.is_heard.ensures ∙ c.if-not-is_heard.true)) c.send_bad.result c.send_bad.ensures.stops c.send_bad.ensures.puts

pub returns-in-Bad-clause-served : goal.returns-in-Bad-clause-served
returns-in-Bad-clause-served g c =
    let f = g.F.Files.view c.args.files.now in
    served_bad g.P.Device.told g.K.Started.start c.args.request.now f c.args.core.now (g.P.Device.view c.args.port.now) (g.P.Device.view c.send_bad-in-Bad.new.port) c.requires.ready (λ t. g.met.P.Device.sound c.args.port.now t) c.requires.at
    (ap (heard f.kind) c.in-Bad.is) c.send_bad-in-Bad.result c.send_bad-in-Bad.ensures.stops c.send_bad-in-Bad.ensures.puts
