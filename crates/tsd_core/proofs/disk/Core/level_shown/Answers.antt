use Rattle.std.proofs.Common.{◌<◌, subst, sym}
use Rattle.tsd_core.proofs.Common.{Geometry, told_size, Core, told_world}
use Rattle.tsd_core.proofs.disk.Core.level_shown.Goals as goal

pub level_shown-requires : goal.level_shown-requires
level_shown-requires c = record { primary = subst (λ (g : Geometry). c.args.block < g.primaries) (told_size c.self.inside.volume.tables).0 (subst (λ (x : Core). c.args.block < (told_world x).geometry.primaries) (sym c.self.view_is) c.requires) }
