use Rattle.inode_fs.proofs.Common.{named_at}
use Rattle.fs_trees.specs.declared.ask.ShellKind.TheVariants as kind
use Rattle.inode_fs.proofs.mounting.mount.Given as goal

-- what the tree names is kept
abbrev pub ghost-tidy : goal.ghost-tidy
ghost-tidy g a = named_at kind.Inode (g.K.Blocks.view a.disk.now).world a.client.now.root
