use Rattle.chain_reading.proofs.DecidedLaws.{in_any_order, names_are_found}
use Rattle.chain_reading.proofs.deciding.files_stand_in_any_order.Goals as goal

pub returns-clause-order : goal.returns-clause-order
returns-clause-order c = in_any_order

pub returns-clause-names : goal.returns-clause-names
returns-clause-names c = names_are_found
