use Rattle.std.proofs.Common.{◌≢◌, ap, rules}
use Rattle.fs_trees.specs.declared.ask.ShellAsk.TheVariants as ask
use Rattle.fs_trees.specs.declared.refusal.FsRefusal.TheVariants as no
use Rattle.shell_text.specs.declared.file_ask.FileAsk.TheVariants as file
use Rattle.shell_server.proofs.Common.{shell_state, shell_step, file_of, dir_here, entry_seen}
use Rattle.shell_server.proofs.LookingLaws.{dir_seen, refusal_seen, refused_served, seen_served, size_seen}
use Rattle.shell_server.proofs.looking.answer_size.Goals as goal

pub returns-in-Ok : goal.returns-in-Ok
returns-in-Ok g c =
    let path = c.args.path.now in
    let s = shell_state (g.F.Files.view c.args.files.now) (g.P.Device.view c.args.port.now).reads in
    let look = c.in-Ok.ensures in
    let sent = c.send_size.ensures in
    seen_served (file.Size path) tt look (file_of c.in-Ok.size) (λ e. cc) (λ t. size_seen file_of dir_here c.in-Ok.size (shell_step s (ask.Cat path)).answer (look.read t)) sent.line sent.stops sent.puts

pub returns-in-Err-IsDir : goal.returns-in-Err-IsDir
returns-in-Err-IsDir g c =
    let path = c.args.path.now in
    let s = shell_state (g.F.Files.view c.args.files.now) (g.P.Device.view c.args.port.now).reads in
    let look = rw c.in-Err-IsDir.field-0-is at c.in-Err-IsDir.ensures in
    let sent = c.send_dir.ensures in
    seen_served (file.Size path) tt look dir_here (λ e. cc) (λ t. dir_seen file_of dir_here (shell_step s (ask.Cat path)).answer (look.refused t (λ e. cc))) sent.line sent.stops sent.puts

pub returns-in-Err : goal.returns-in-Err
returns-in-Err g c =
    let path = c.args.path.now in
    let s = shell_state (g.F.Files.view c.args.files.now) (g.P.Device.view c.args.port.now).reads in
    let other : c.in-Err.why ≢ no.IsDir = search rules in
    let sent = c.send_change.ensures in
    refused_served (file.Size path) tt c.in-Err.ensures (λ t is. refusal_seen file_of dir_here c.in-Err.why (shell_step s (ask.Cat path)).answer other is) (λ is. (sent.failed is, ap g.P.Device.view (sent.silent is))) sent.line sent.stops sent.puts
