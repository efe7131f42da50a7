use Rattle.std.proofs.Common.{rules, subst}
use Rattle.std.specs.Prelude.{Some}
use Rattle.image_device.specs.Counts.{CountsFaultOf}
use Rattle.image_probe.specs.Tested.{IsTested}
use Rattle.recovery.specs.declared.fault.OpenFault.TheVariants as opening
use Rattle.tsd_serve.proofs.Tests.{cause_by, failed_by, stopped_by}
use Rattle.tsd_serve.proofs.first.test_sides.Goals as goal

pub returns-in-Err-clause-stopped : goal.returns-in-Err-clause-stopped
returns-in-Err-clause-stopped g c =
    let view = g.P.Sides.view in
    let u = view c.args.sides in
    let v = view c.test_first-tested.result.1 in
    let why = c.in-Err.why in
    let faults =
    subst (λ r. CountsFaultOf opening.Device r u.first.faults v.first.faults) c.in-Err.is c.test_first-tested.ensures.faults in
    let cause = cause_by why u.first.faults v.first.faults faults in
    stopped_by g.P.Sides.told view _ _ _ u _ _ (g.met.P.Sides.sound c.args.sides)
    (failed_by g.P.Sides.told (Some c.args.words.now) why u v ((c.opens_image.ensures).0 (search rules))
    (λ told. subst (λ r. IsTested u.first.reads r) c.in-Err.is (c.test_first-tested.ensures.tested told))
    c.test_first-tested.ensures.only_reads c.test_first-tested.ensures.counts cause.0 cause.1)
    c.tell.ensures
