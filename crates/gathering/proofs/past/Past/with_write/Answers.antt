use Rattle.std.proofs.Common.{refl}
use Rattle.gathering.proofs.PastEvents.{boxed}
use Rattle.gathering.proofs.past.Past.with_write.Goals as goal

pub returns : goal.returns
returns c = (boxed c.args.from.now, refl, c.of.ensures)
