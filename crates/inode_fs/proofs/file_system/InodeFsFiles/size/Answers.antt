use Rattle.fs_trees.specs.declared.refusal.FsRefusal.TheVariants as no
use Rattle.inode_fs.proofs.Common.{looks_at, unasked_looks, other_fault}
use Rattle.inode_fs.proofs.file_system.InodeFsFiles.size.Goals as goal

pub returns-then-self-clause-looks : goal.returns-then-self-clause-looks
returns-then-self-clause-looks g c = looks_at g.K.Blocks.told (g.K.Blocks.view c.args.disk.now) (g.K.Blocks.view c.size.new.disk) c.size.result c.size.ensures.looks

pub returns-else-self-clause-looks : goal.returns-else-self-clause-looks
returns-else-self-clause-looks g c = unasked_looks g.K.Blocks.told (g.K.Blocks.view c.args.disk.now) no.NotThisFs other_fault c.requires.ready.unspent (λ t. g.met.K.Blocks.sound c.args.disk.now t c.requires.ready.unspent) c.requires.valid
