use Rattle.image_layout.proofs.ThingLaws.{things_inside, things_apart}
use Rattle.image_layout.proofs.things.things_stand_apart.Goals as goal

pub returns : goal.returns
returns c = record { inside = things_inside; apart = things_apart }
