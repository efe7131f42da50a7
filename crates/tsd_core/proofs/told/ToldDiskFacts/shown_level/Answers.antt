use Rattle.std.proofs.Common.{◌<◌, subst}
use Rattle.tsd_core.proofs.Common.{Geometry, told_size}
use Rattle.tsd_core.proofs.told.ToldDiskFacts.shown_level.Goals as goal

pub level_shown-requires : goal.level_shown-requires
level_shown-requires c = record { primary = subst (λ (g : Geometry). c.args.block < g.primaries) (told_size c.args.self.now.volume.now.tables).0 c.requires }
