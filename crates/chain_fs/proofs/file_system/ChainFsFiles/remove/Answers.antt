use Rattle.fs_trees.specs.declared.ask.ShellAsk.TheVariants as ask
use Rattle.fs_trees.specs.declared.refusal.FsRefusal.TheVariants as no
use Rattle.chain_fs.proofs.Common.{unasked_changes, mounted_changes, mounted_by, chain_view, other_fault}
use Rattle.chain_fs.proofs.file_system.ChainFsFiles.remove.Goals as goal

pub returns-then-self-clause-changes : goal.returns-then-self-clause-changes
returns-then-self-clause-changes g c = mounted_changes (mounted_by c.args.self.now.client) c.args.self.now.mounted (g.K.Blocks.view c.args.disk.now) (g.K.Blocks.view c.remove.new.disk) g.K.Blocks.told c.remove.result (ask.Rm c.args.path.now) c.if-self.true c.remove.ensures.changes

pub returns-else-self-clause-changes : goal.returns-else-self-clause-changes
returns-else-self-clause-changes g c = unasked_changes g.K.Blocks.told (g.K.Blocks.view c.args.disk.now) no.NotThisFs other_fault c.requires.ready.unspent (λ t. g.met.K.Blocks.sound c.args.disk.now t c.requires.ready.unspent) c.requires.valid (chain_view c.args.self.now) (ask.Rm c.args.path.now)
