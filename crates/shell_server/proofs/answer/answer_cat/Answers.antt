use Rattle.std.proofs.Common.{sym, ap, subst}
use Rattle.fs_trees.specs.declared.ask.ShellAsk.TheVariants as ask
use Rattle.shell_text.specs.declared.file_ask.FileAsk.TheVariants as file
use Rattle.shell_server.proofs.Common.{ShellState, TellsSize, shell_step}
use Rattle.shell_server.proofs.AfterLaws.{served_after, served_refusal}
use Rattle.shell_server.proofs.answer.answer_cat.Goals as goal

pub returns-in-Ok : goal.returns-in-Ok
returns-in-Ok g c = served_after c.in-Ok.ensures c.send_file.ensures

pub returns-in-Err : goal.returns-in-Err
returns-in-Err g c =
    let sent = c.send_change.ensures in
    served_refusal _ c.in-Err.ensures (λ is. (sent.failed is, ap g.P.Device.view (sent.silent is))) sent.line sent.stops sent.puts

pub send_file-requires-clause-told : goal.send_file-requires-clause-told
send_file-requires-clause-told g c = λ told.
    let look = c.in-Ok.ensures in
    subst (λ (s : ShellState). TellsSize c.in-Ok.size (shell_step s (ask.Cat c.args.path.now)).answer) (sym (look.state told).0) (look.read told)
