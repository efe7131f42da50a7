use Rattle.std.proofs.Common.{◌^◌, inr, sym, subst}
use Rattle.fs_trees.specs.declared.ask.ShellKind.{ShellKind}
use Rattle.image_world.specs.Stands.{world_of}
use Rattle.serving.specs.Prompt.{IsOfPort, mark}
use Rattle.serving.specs.Ran.{moments, taking}
use Rattle.shell_server.specs.Frames.{file_spelling}
use Rattle.shell_server.specs.Shell.{unmounted}
use Rattle.image_shell.specs.Served.{IsPromptShell, ShellRan}
use Rattle.tsd_serve.proofs.files.file_frames.Goals as goal

pub returns-in-Ok-clause-did : goal.returns-in-Ok-clause-did
returns-in-Ok-clause-did g c =
    let shell = c.args.shell.now in
    let e = c.serve_inode_image.ensures in
    let source = taking g.S.Source.told g.S.Source.taken g.S.Source.left_bytes g.S.Source.ended c.args.source.now c.serve_inode_image.new.source in
    let port = moments g.P.Device.told g.P.Device.view c.args.port.now c.serve_inode_image.new.port in
    inr (record {
      judged = e.read;
      ran = subst (λ (k : ShellKind). ShellRan c.serve_inode_image.result k (file_spelling k) shell.root shell.cap (2 ^ 40) source port) (sym c.in-Inode.is) e.ran;
      opened = e.opened;
      spared = record { foreign = e.untouched; damaged = e.spared; behind = e.behind };
    })

pub returns-in-Ok-clause-prompt : goal.returns-in-Ok-clause-prompt
returns-in-Ok-clause-prompt g c told served =
    let view = g.P.Device.view in
    let old = view c.args.port.now in
    let shell = c.args.shell.now in
    let source = taking g.S.Source.told g.S.Source.taken g.S.Source.left_bytes g.S.Source.ended c.args.source.now c.serve_inode_image.new.source in
    subst (λ (k : ShellKind). IsPromptShell c.serve_inode_image.result (unmounted k shell.root shell.cap) (IsOfPort view) (file_spelling k) (2 ^ 40) (world_of old.reads) source (mark old) (mark (view c.serve_inode_image.new.port))) (sym c.in-Inode.is)
    (c.serve_inode_image.ensures.prompt told served)

pub returns-in-Ok-new-clause-did : goal.returns-in-Ok-new-clause-did
returns-in-Ok-new-clause-did g c =
    let shell = c.args.shell.now in
    let e = c.serve_chain_image.ensures in
    let source = taking g.S.Source.told g.S.Source.taken g.S.Source.left_bytes g.S.Source.ended c.args.source.now c.serve_chain_image.new.source in
    let port = moments g.P.Device.told g.P.Device.view c.args.port.now c.serve_chain_image.new.port in
    inr (record {
      judged = e.read;
      ran = subst (λ (k : ShellKind). ShellRan c.serve_chain_image.result k (file_spelling k) shell.root shell.cap (2 ^ 40) source port) (sym c.in-Chain.is) e.ran;
      opened = e.opened;
      spared = record { foreign = e.untouched; damaged = e.spared; behind = e.behind };
    })

pub returns-in-Ok-new-clause-prompt : goal.returns-in-Ok-new-clause-prompt
returns-in-Ok-new-clause-prompt g c told served =
    let view = g.P.Device.view in
    let old = view c.args.port.now in
    let shell = c.args.shell.now in
    let source = taking g.S.Source.told g.S.Source.taken g.S.Source.left_bytes g.S.Source.ended c.args.source.now c.serve_chain_image.new.source in
    subst (λ (k : ShellKind). IsPromptShell c.serve_chain_image.result (unmounted k shell.root shell.cap) (IsOfPort view) (file_spelling k) (2 ^ 40) (world_of old.reads) source (mark old) (mark (view c.serve_chain_image.new.port))) (sym c.in-Chain.is)
    (c.serve_chain_image.ensures.prompt told served)
