use Rattle.std.proofs.Common.{take, sym, ◌∙◌, ap}
use Rattle.fs_trees.specs.declared.ask.ShellAsk.TheVariants as ask
use Rattle.shell_text.specs.declared.file_ask.FileAsk.TheVariants as file
use Rattle.shell_server.proofs.Common.{shell_state, shell_step, part_of, part_seen}
use Rattle.shell_server.proofs.LookingLaws.{bytes_seen, refused_served, seen_served}
use Rattle.shell_server.proofs.looking.answer_read.Goals as goal

pub returns-in-Ok : goal.returns-in-Ok
returns-in-Ok g c =
    let path = c.args.path.now in
    let s = shell_state (g.F.Files.view c.args.files.now) (g.P.Device.view c.args.port.now).reads in
    let look = c.in-Ok.ensures.looked in
    let sent = c.send_part.ensures in
    seen_served (file.Read path c.args.start c.args.count) tt look (part_of c.first_of.result.now) (λ e. cc)
    (λ t. bytes_seen c.args.start c.args.count c.part_on.new.into (shell_step s (ask.Cat path)).answer (look.read t) ∙ ap part_of (sym (c.first_of.ensures ∙ ap (take c.args.count) c.as_slice.ensures.value))) sent.line sent.stops sent.puts

pub returns-in-Err : goal.returns-in-Err
returns-in-Err g c =
    let sent = c.send_change.ensures in
    refused_served (file.Read c.args.path.now c.args.start c.args.count) tt c.in-Err.ensures.looked (λ t is. ap (part_seen c.args.start c.args.count) is) (λ is. (sent.failed is, ap g.P.Device.view (sent.silent is))) sent.line sent.stops sent.puts
