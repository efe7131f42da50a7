use Rattle.std.proofs.Common.{length, ◌∙◌, ap}
use Rattle.reclaim.proofs.Common.{is_gone}
use Rattle.reclaim.proofs.PlaceLaws.{none_marked}
use Rattle.reclaim.proofs.tally.Tally.reset.Goals as goal

pub returns-clause-gone : goal.returns-clause-gone
returns-clause-gone c = λ b. ap (λ xs. is_gone xs b) c.clear.ensures ∙ none_marked (length c.loop-block.self.gone) b
