use Rattle.tsd_core.proofs.PairCosts.{made_goes, made_most, costs_by_pairs}
use Rattle.tsd_core.proofs.laws.a_request_costs_by_the_pairs_that_it_removes.Goals as goal

pub returns-clause-made : goal.returns-clause-made
returns-clause-made c = made_goes

pub returns-clause-makes : goal.returns-clause-makes
returns-clause-makes c = made_most

pub returns-clause-costs : goal.returns-clause-costs
returns-clause-costs c = costs_by_pairs
