use Rattle.image_layout.proofs.ReadingLaws.{one_reading}
use Rattle.image_layout.proofs.header.readings_are_one.Goals as goal

pub returns : goal.returns
returns c = one_reading
