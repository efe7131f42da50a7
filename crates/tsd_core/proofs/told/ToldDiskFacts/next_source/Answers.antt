use Rattle.std.proofs.Common.{◌<◌, subst}
use Rattle.tsd_core.proofs.Common.{Geometry, told_size}
use Rattle.tsd_core.proofs.told.ToldDiskFacts.next_source.Goals as goal

pub next_source-requires-clause-inside : goal.next_source-requires-clause-inside
next_source-requires-clause-inside c = subst (λ (g : Geometry). c.args.target < g.blocks) (told_size c.args.self.now.volume.now.tables).0 c.requires
