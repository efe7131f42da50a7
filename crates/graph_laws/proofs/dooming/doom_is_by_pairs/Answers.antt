use Rattle.graph_laws.proofs.DoomedLaws.{doomed_takes_in, doomed_in_each, stays_by_pairs, rings_stay}
use Rattle.graph_laws.proofs.dooming.doom_is_by_pairs.Goals as goal

pub returns-clause-least : goal.returns-clause-least
returns-clause-least c = λ w long. (doomed_takes_in w long, doomed_in_each w)

pub returns-clause-stays : goal.returns-clause-stays
returns-clause-stays c = stays_by_pairs

pub returns-clause-rings : goal.returns-clause-rings
returns-clause-rings c = rings_stay
