use Rattle.std.proofs.Common.{[]}
use Rattle.gathering.proofs.past.Past.none.Given as goal

abbrev pub ghost-of : goal.ghost-of
ghost-of a = λ _. []
