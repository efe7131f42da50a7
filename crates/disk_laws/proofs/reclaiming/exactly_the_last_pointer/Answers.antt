use Rattle.disk_laws.proofs.ReclaimLaws.{last_pointer, reclaim_order, sweeps_the_rest}
use Rattle.disk_laws.proofs.reclaiming.exactly_the_last_pointer.Goals as goal

pub returns-clause-last_pointer : goal.returns-clause-last_pointer
returns-clause-last_pointer c = last_pointer

pub returns-clause-order : goal.returns-clause-order
returns-clause-order c = reclaim_order

pub returns-clause-swept : goal.returns-clause-swept
returns-clause-swept c = sweeps_the_rest
