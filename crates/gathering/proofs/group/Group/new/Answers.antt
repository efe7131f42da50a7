use Rattle.gathering.proofs.Events.{journal_none, net_none, waits_none}
use Rattle.gathering.proofs.group.Group.new.Goals as goal

pub invariant_of-result-clause-newest : goal.invariant_of-result-clause-newest
invariant_of-result-clause-newest c = journal_none _ c.of.ensures _ c.cleared-batch.ensures.journal

pub invariant_of-result-clause-net : goal.invariant_of-result-clause-net
invariant_of-result-clause-net c = net_none _ c.of.ensures _ c.cleared-batch.ensures.batch

pub invariant_of-result-clause-waits : goal.invariant_of-result-clause-waits
invariant_of-result-clause-waits c = waits_none _ c.of.ensures _ c.cleared-batch.ensures.waiting
