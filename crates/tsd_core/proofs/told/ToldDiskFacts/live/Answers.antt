use Rattle.std.proofs.Common.{◌<◌, subst}
use Rattle.tsd_core.proofs.Common.{Geometry, told_size}
use Rattle.tsd_core.proofs.told.ToldDiskFacts.live.Goals as goal

pub is_live-requires-clause-inside : goal.is_live-requires-clause-inside
is_live-requires-clause-inside c = subst (λ (g : Geometry). c.args.block < g.blocks) (told_size c.args.self.now.volume.now.tables).0 c.requires
