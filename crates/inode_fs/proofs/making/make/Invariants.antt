use Rattle.fs_trees.specs.declared.ask.ShellKind.TheVariants as kind
use Rattle.inode_fs.proofs.making.make.Given as goal

abbrev pub ghost-make_empty : goal.ghost-make_empty
ghost-make_empty g a = kind.Inode
