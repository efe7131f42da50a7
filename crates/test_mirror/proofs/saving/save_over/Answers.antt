use Rattle.std.proofs.Common.{◌∙◌, sym, subst}
use Rattle.mirror_device.specs.Mirror.{mirror_view}
use Rattle.mirror_device.proofs.Runs.{run_leaves}
use Rattle.test_mirror.specs.Saving.{IsSaved}
use Rattle.test_mirror.proofs.Promise.{saved_first, saved_mirror}
use Rattle.test_mirror.proofs.saving.save_over.Goals as goal

pub returns-clause-saved : goal.returns-clause-saved
returns-clause-saved g c told =
    let view = g.P.Sides.view in
    let v0 = view c.args.sides in
    let s = g.K.Began.start in
    let m = c.in_ok-mirror.mirror in
    let old = mirror_view (view m.sides.sides) s m.serving m.faults m.writes in
    let d = c.save.new.port in
    let e = c.in_ok-mirror.ensures in (
      d.serving,
      λ i left. run_leaves v0.clock (view d.sides.sides) old s d.serving d.faults d.writes (IsSaved c.args.sector c.args.from.now v0.first.reads v0.first.loose v0.sent) (IsSaved c.args.sector c.args.from.now old.reads old.loose old.sent) e.clock
          (λ x f l. saved_first c.args.sector c.args.from.now v0 x f (e.left told x f l)) (c.save.ensures told)
          (saved_mirror c.args.sector c.args.from.now v0 old (e.reads told) (e.firm told) (e.sent told)) i (subst (λ r. (view r).left v0.clock i) c.into_sides.ensures.sides left),
    )
