use Rattle.gathering.proofs.PastEvents.{then_write}
use Rattle.gathering.proofs.past.Past.with_write.Given as goal

abbrev pub ghost-of : goal.ghost-of
ghost-of a = λ did. then_write did.0.now.events did.1 did.2.now
