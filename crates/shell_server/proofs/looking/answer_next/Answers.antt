use Rattle.std.proofs.Common.{◌≡◌, Some, None, sym, ◌∙◌, ap, subst}
use Rattle.fs_trees.specs.declared.ask.ShellAsk.TheVariants as ask
use Rattle.shell_text.specs.declared.file_ask.FileAsk.TheVariants as file
use Rattle.shell_server.proofs.Common.{TellsNext, ShellState, shell_state, shell_step, not_heard, none_left, look_of}
use Rattle.shell_server.proofs.AfterLaws.{served_after}
use Rattle.shell_server.proofs.LookingLaws.{after_unheard, next_refused, next_told, refused_served, seen_served, unheard_served}
use Rattle.shell_server.proofs.looking.answer_next.Goals as goal

pub returns-then-not-is_after : goal.returns-then-not-is_after
returns-then-not-is_after g c =
    let path = c.args.path.now in
    let after = c.args.after.now in
    let s = shell_state (g.F.Files.view c.args.files.now) (g.P.Device.view c.args.port.now).reads in
    let unheard : look_of s (file.Next path after) ≡ not_heard = after_unheard s path after (sym c.is_after.ensures ∙ c.if-not-is_after.true) in
    unheard_served (file.Next path after) tt (λ t. unheard) c.requires.ready (λ t. g.met.P.Device.sound c.args.port.now t) c.requires.at c.send_bad.ensures.stops c.send_bad.ensures.puts

pub answer_child-requires-clause-told : goal.answer_child-requires-clause-told
answer_child-requires-clause-told g c = λ t.
    let look = c.in-Ok-Some.ensures.looked in
    let told_now = subst (λ next. TellsNext c.args.after.now next (shell_step (shell_state (g.F.Files.view c.args.files.now) (g.P.Device.view c.args.port.now).reads) (ask.Ls c.args.path.now)).answer) c.in-Ok-Some.field-0-is (look.read t) in
    subst (λ (u : ShellState). TellsNext c.args.after.now (Some c.in-Ok-Some.name) (shell_step u (ask.Ls c.args.path.now)).answer) (sym (look.state t).0) told_now

pub returns-in-Ok-Some : goal.returns-in-Ok-Some
returns-in-Ok-Some g c = served_after c.in-Ok-Some.ensures.looked c.answer_child.ensures

pub returns-in-Ok-None : goal.returns-in-Ok-None
returns-in-Ok-None g c =
    let path = c.args.path.now in
    let after = c.args.after.now in
    let s = shell_state (g.F.Files.view c.args.files.now) (g.P.Device.view c.args.port.now).reads in
    let look = c.in-Ok-None.ensures.looked in
    let sent = c.send_no_name.ensures in
    seen_served (file.Next path after) tt look none_left (λ e. cc)
    (λ t. next_told s path after (sym c.is_after.ensures ∙ c.if-not-is_after.false) None (subst (λ next. TellsNext after next (shell_step s (ask.Ls path)).answer) c.in-Ok-None.field-0-is (look.read t))) sent.line sent.stops sent.puts

pub returns-in-Err : goal.returns-in-Err
returns-in-Err g c =
    let path = c.args.path.now in
    let after = c.args.after.now in
    let s = shell_state (g.F.Files.view c.args.files.now) (g.P.Device.view c.args.port.now).reads in
    let sent = c.send_change.ensures in
    refused_served (file.Next path after) tt c.in-Err.ensures.looked (λ t is. next_refused s path after (sym c.is_after.ensures ∙ c.if-not-is_after.false) c.in-Err.why is) (λ is. (sent.failed is, ap g.P.Device.view (sent.silent is))) sent.line sent.stops sent.puts
