use Rattle.reach_laws.proofs.OutOfReachLaws.{out_of_reach_is_shut_off, out_of_reach_is_hidden}
use Rattle.reach_laws.proofs.region.only_what_is_reached.Goals as goal

pub returns-clause-shut_off : goal.returns-clause-shut_off
returns-clause-shut_off c = out_of_reach_is_shut_off

pub returns-clause-hidden : goal.returns-clause-hidden
returns-clause-hidden c = out_of_reach_is_hidden
