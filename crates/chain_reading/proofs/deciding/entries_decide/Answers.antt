use Rattle.chain_reading.proofs.DecidedLaws.{entry_is_set, entry_is_added, entry_is_removed}
use Rattle.chain_reading.proofs.deciding.entries_decide.Goals as goal

pub returns-clause-set : goal.returns-clause-set
returns-clause-set c = entry_is_set

pub returns-clause-added : goal.returns-clause-added
returns-clause-added c = entry_is_added

pub returns-clause-removed : goal.returns-clause-removed
returns-clause-removed c = entry_is_removed
