use Rattle.std.proofs.Common.{[], ◌∷◌, ◌++◌}
use Rattle.image_device.specs.declared.event.Event.TheVariants.{Sync}
use Rattle.gathering.proofs.past.Past.with_sync.Given as goal

abbrev pub ghost-of : goal.ghost-of
ghost-of a = λ past. past.events ++ Sync ∷ []
