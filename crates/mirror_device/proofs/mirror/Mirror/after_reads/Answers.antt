use Rattle.std.proofs.Common.{sym, subst, arith}
use Rattle.mirror_device.specs.Copying.{Copying}
use Rattle.mirror_device.proofs.Beginning.{begins}
use Rattle.mirror_device.proofs.CopySteps.{copy_begun, copy_sync_first}
use Rattle.mirror_device.proofs.mirror.Mirror.after_reads.Goals as goal

pub returns-then-second-clause-left : goal.returns-then-second-clause-left
returns-then-second-clause-left g c told x f shown =
    let view = g.P.Sides.view in
    let v0 = view c.args.sides in
    begins g.K.Began.start v0 (view c.begin.result.sides.sides) c.requires.counts (c.requires.idle told)
    (subst (λ s. Copying v0 (view s)) (sym c.begin.ensures.sides)
    (copy_sync_first v0 v0 (view c.sync.new.self) (copy_begun v0) (omega arith) (omega (arith, c.sync.ensures.uses.other_syncs)) (c.sync.ensures.settles told)))
    c.begin.result.serving (λ h. absurd (cc)) x f shown
