use Rattle.std.proofs.Common.{Ok, Err}
use Rattle.inode_fs.proofs.Common.{mounted_by, finds_as, mount_as}
use Rattle.inode_fs.proofs.file_system.InodeFsFiles.mount.Goals as goal

pub returns-in-Ok-clause-finds : goal.returns-in-Ok-clause-finds
returns-in-Ok-clause-finds g c = λ t. finds_as (mounted_by c.args.self.now.client) c.args.self.now.mounted (g.K.Blocks.view c.args.disk.now) (g.K.Blocks.view c.mount.new.disk) g.K.Blocks.told (Ok tt) (c.in-Ok.ensures.finds t)

pub returns-in-Ok-clause-runs : goal.returns-in-Ok-clause-runs
returns-in-Ok-clause-runs g c = mount_as (mounted_by c.args.self.now.client) c.args.self.now.mounted (g.K.Blocks.view c.args.disk.now) (g.K.Blocks.view c.mount.new.disk) g.K.Blocks.told _ c.in-Ok.ensures.runs

pub returns-in-Err-clause-finds : goal.returns-in-Err-clause-finds
returns-in-Err-clause-finds g c = λ t. finds_as (mounted_by c.args.self.now.client) c.args.self.now.mounted (g.K.Blocks.view c.args.disk.now) (g.K.Blocks.view c.mount.new.disk) g.K.Blocks.told (Err c.in-Err.refusal) (c.in-Err.ensures.finds t)

pub returns-in-Err-clause-runs : goal.returns-in-Err-clause-runs
returns-in-Err-clause-runs g c = mount_as (mounted_by c.args.self.now.client) c.args.self.now.mounted (g.K.Blocks.view c.args.disk.now) (g.K.Blocks.view c.mount.new.disk) g.K.Blocks.told _ c.in-Err.ensures.runs
