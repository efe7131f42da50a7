use Rattle.std.proofs.Common.{◌^◌, sym, subst}
use Rattle.fs_trees.specs.declared.ask.ShellKind.{ShellKind}
use Rattle.image_world.specs.Stands.{world_of}
use Rattle.serving.specs.Prompt.{IsOfPort, mark}
use Rattle.serving.specs.Ran.{taking}
use Rattle.shell_server.specs.Lines.{shell_spelling}
use Rattle.shell_server.specs.Shell.{unmounted}
use Rattle.image_shell.specs.Served.{IsPromptShell}
use Rattle.tsd_serve.proofs.top.shell_lines.Goals as goal

pub returns-in-Inode-clause-prompt : goal.returns-in-Inode-clause-prompt
returns-in-Inode-clause-prompt g c told served =
    let view = g.P.Device.view in
    let old = view c.args.port.now in
    let shell = c.args.shell.now in
    let source = taking g.S.Source.told g.S.Source.taken g.S.Source.left_bytes g.S.Source.ended c.args.source.now c.serve_inode_image.new.source in
    subst (λ (k : ShellKind). IsPromptShell c.serve_inode_image.result (unmounted k shell.root shell.cap) (IsOfPort view) (shell_spelling k) (2 ^ 40) (world_of old.reads) source (mark old) (mark (view c.serve_inode_image.new.port))) (sym c.in-Inode.is)
    (c.serve_inode_image.ensures.prompt told served)

pub returns-in-Chain-clause-prompt : goal.returns-in-Chain-clause-prompt
returns-in-Chain-clause-prompt g c told served =
    let view = g.P.Device.view in
    let old = view c.args.port.now in
    let shell = c.args.shell.now in
    let source = taking g.S.Source.told g.S.Source.taken g.S.Source.left_bytes g.S.Source.ended c.args.source.now c.serve_chain_image.new.source in
    subst (λ (k : ShellKind). IsPromptShell c.serve_chain_image.result (unmounted k shell.root shell.cap) (IsOfPort view) (shell_spelling k) (2 ^ 40) (world_of old.reads) source (mark old) (mark (view c.serve_chain_image.new.port))) (sym c.in-Chain.is)
    (c.serve_chain_image.ensures.prompt told served)
