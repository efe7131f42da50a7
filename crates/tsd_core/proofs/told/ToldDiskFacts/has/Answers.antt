use Rattle.std.proofs.Common.{◌<◌, subst}
use Rattle.tsd_core.proofs.Common.{Geometry, told_size}
use Rattle.tsd_core.proofs.told.ToldDiskFacts.has.Goals as goal

pub has-requires-clause-ends : goal.has-requires-clause-ends
has-requires-clause-ends c =
    let size = (told_size c.args.self.now.volume.now.tables).0 in
    (subst (λ (g : Geometry). c.args.source < g.blocks) size c.requires.ends.0, subst (λ (g : Geometry). c.args.target < g.blocks) size c.requires.ends.1)
