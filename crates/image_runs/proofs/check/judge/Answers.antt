use Rattle.std.proofs.Common.{◌∙◌, ap}
use Rattle.image_runs.proofs.Common.{World, like_at, told_by, world_on}
use Rattle.image_runs.specs.Check.{told_of}
use Rattle.image_runs.proofs.Saying.{told_like}
use Rattle.image_runs.proofs.check.judge.Goals as goal

pub returns-in-Ok-clause-found : goal.returns-in-Ok-clause-found
returns-in-Ok-clause-found g c told =
    let mid = g.D.Device.view c.open_volume.new.dev in (
      c.in-Ok.ensures.read told,
      c.world_text.ensures
          ∙ told_like c.args.telling (told_by c.in-Ok.volume) (world_on mid) (like_at c.in-Ok.volume mid (c.in-Ok.ensures.at told))
          ∙ ap (λ (w : World). told_of c.args.telling w) (c.in-Ok.ensures.done told),
    )
