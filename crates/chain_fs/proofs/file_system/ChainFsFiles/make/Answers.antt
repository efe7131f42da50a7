use Rattle.chain_fs.proofs.Common.{mounted_by, made_as, make_as}
use Rattle.chain_fs.proofs.file_system.ChainFsFiles.make.Goals as goal

pub returns-in-Ok-clause-made : goal.returns-in-Ok-clause-made
returns-in-Ok-clause-made g c = λ t. made_as (mounted_by c.args.self.now.client) c.args.self.now.mounted (g.K.Blocks.view c.args.disk.now) (g.K.Blocks.view c.make.new.disk) (c.in-Ok.ensures.made t)

pub returns-in-Ok-clause-runs : goal.returns-in-Ok-clause-runs
returns-in-Ok-clause-runs g c = make_as (mounted_by c.args.self.now.client) c.args.self.now.mounted (g.K.Blocks.view c.args.disk.now) (g.K.Blocks.view c.make.new.disk) g.K.Blocks.told _ c.in-Ok.ensures.runs

pub returns-in-Err-clause-runs : goal.returns-in-Err-clause-runs
returns-in-Err-clause-runs g c = make_as (mounted_by c.args.self.now.client) c.args.self.now.mounted (g.K.Blocks.view c.args.disk.now) (g.K.Blocks.view c.make.new.disk) g.K.Blocks.told _ c.in-Err.ensures.runs
