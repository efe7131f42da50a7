use Rattle.std.proofs.Common.{◌≢◌, [], ◌∷◌, ◌++◌, refl, ◌∙◌, ap, rules}
use Rattle.fs_trees.specs.declared.ask.ShellAsk.TheVariants as ask
use Rattle.fs_trees.specs.declared.refusal.FsRefusal.TheVariants as no
use Rattle.shell_text.specs.declared.file_ask.FileAsk.TheVariants as file
use Rattle.shell_server.proofs.Common.{shell_state, shell_step, next_file, next_dir, entry_seen}
use Rattle.shell_server.proofs.LookingLaws.{cat_unheard, child_seen, dir_seen, no_child, refusal_seen, refused_served, seen_served, size_seen, unheard_served}
use Rattle.shell_server.proofs.looking.answer_child.Goals as goal

pub returns-in-Err : goal.returns-in-Err
returns-in-Err g c =
    let n = c.args.name.now in
    let path = c.args.path.now in
    let s = shell_state (g.F.Files.view c.args.files.now) (g.P.Device.view c.args.port.now).reads in
    unheard_served (file.Next path c.args.after.now) tt (λ t. child_seen s path c.args.after.now n c.requires.after (c.requires.told t) (path ++ n ∷ []) refl ∙ ap (entry_seen (next_file n) (next_dir n)) (cat_unheard s (path ++ n ∷ []) (no_child path n (λ h. (let ok = c.in-Err.ensures.variant.1 h in absurd (cc))))))
    c.requires.ready (λ t. g.met.P.Device.sound c.args.port.now t) c.requires.at c.send_bad.ensures.stops c.send_bad.ensures.puts

pub returns-in-Ok-size_on : goal.returns-in-Ok-size_on
returns-in-Ok-size_on g c =
    let n = c.args.name.now in
    let s = shell_state (g.F.Files.view c.args.files.now) (g.P.Device.view c.args.port.now).reads in
    let look = c.in-Ok-size_on.ensures in
    let sent = c.send_next_file.ensures in
    seen_served (file.Next c.args.path.now c.args.after.now) tt look (next_file n c.in-Ok-size_on.size) (λ e. cc)
    (λ t. child_seen s c.args.path.now c.args.after.now n c.requires.after (c.requires.told t) c.in-Ok.child c.in-Ok.ensures.ok ∙ size_seen (next_file n) (next_dir n) c.in-Ok-size_on.size (shell_step s (ask.Cat c.in-Ok.child)).answer (look.read t)) sent.line sent.stops sent.puts

pub returns-in-Err-IsDir : goal.returns-in-Err-IsDir
returns-in-Err-IsDir g c =
    let n = c.args.name.now in
    let s = shell_state (g.F.Files.view c.args.files.now) (g.P.Device.view c.args.port.now).reads in
    let look = rw c.in-Err-IsDir.field-0-is at c.in-Err-IsDir.ensures in
    let sent = c.send_next_dir.ensures in
    seen_served (file.Next c.args.path.now c.args.after.now) tt look (next_dir n) (λ e. cc)
    (λ t. child_seen s c.args.path.now c.args.after.now n c.requires.after (c.requires.told t) c.in-Ok.child c.in-Ok.ensures.ok ∙ dir_seen (next_file n) (next_dir n) (shell_step s (ask.Cat c.in-Ok.child)).answer (look.refused t (λ e. cc))) sent.line sent.stops sent.puts

pub returns-in-Err-size_on : goal.returns-in-Err-size_on
returns-in-Err-size_on g c =
    let n = c.args.name.now in
    let s = shell_state (g.F.Files.view c.args.files.now) (g.P.Device.view c.args.port.now).reads in
    let other : c.in-Err-size_on.why ≢ no.IsDir = search rules in
    let sent = c.send_change.ensures in
    refused_served (file.Next c.args.path.now c.args.after.now) tt c.in-Err-size_on.ensures
    (λ t is. child_seen s c.args.path.now c.args.after.now n c.requires.after (c.requires.told t) c.in-Ok.child c.in-Ok.ensures.ok ∙ refusal_seen (next_file n) (next_dir n) c.in-Err-size_on.why (shell_step s (ask.Cat c.in-Ok.child)).answer other is)
    (λ is. (sent.failed is, ap g.P.Device.view (sent.silent is))) sent.line sent.stops sent.puts
