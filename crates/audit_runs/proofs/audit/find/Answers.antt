use Rattle.std.proofs.Common.{◌∙◌, sym, ap, subst, List, ℕ}
use Rattle.tsd_model.specs.declared.geometry.Geometry.{Geometry}
use Rattle.tsd_core.proofs.AtLaws.{like_at}
use Rattle.volume_laws.specs.Volume.{told_by, world_on}
use Rattle.image_audit.specs.Depths.{AreReached}
use Rattle.audit_runs.proofs.AnswerLaws.{audit_on}
use Rattle.audit_runs.proofs.audit.find.Goals as goal

pub returns-in-Ok-new-clause-found : goal.returns-in-Ok-new-clause-found
returns-in-Ok-new-clause-found g c told =
    let old = g.D.Device.view c.args.dev.now in
    let mid = g.D.Device.view c.open_volume.new.dev in
    let v = told_by c.in-Ok.volume in
    audit_on old.reads v (world_on mid) c.in-Ok-new.reached (c.in-Ok.ensures.read told) (like_at c.in-Ok.volume mid (c.in-Ok.ensures.at told)) (c.in-Ok.ensures.done told)
    (c.in-Ok-new.ensures.blocks ∙ sym (ap (λ (n : Geometry). n.blocks) c.geometry-size.ensures.told))
    (subst (λ (roots : List ℕ). AreReached v roots c.in-Ok-new.reached) c.primary_roots.ensures.list c.in-Ok-new.ensures.reached)
