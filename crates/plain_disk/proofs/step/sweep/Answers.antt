use Rattle.std.proofs.Common.{◌≡◌, ◌∙◌, ap, subst}
use Rattle.std.specs.Prelude.{IfOk}
use Rattle.tsd_model.specs.World.{World, has_number}
use Rattle.tsd_model.specs.Reach.{restricted}
use Rattle.tsd_model.specs.Step.{gives, reclaimed}
use Rattle.plain_disk.proofs.step.sweep.Goals as goal

pub returns : goal.returns
returns c =
    let w = c.args.world.now in
    let v = c.args.sessions in
    let left_is = c.in_ok-left.ensures ∙ ap (λ reached. restricted w (has_number reached)) (c.as_slice.ensures.value ∙ c.in_ok-reached.ensures) in
    let P : World → Type 0 = λ left. IfOk c.reclaim.result (λ r. gives r.0 r.1 r.2 ≡ reclaimed w v left) in
    subst P left_is c.reclaim.ensures
