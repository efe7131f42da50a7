use Rattle.disk_laws.proofs.ReclaimLaws.{reached_is_live, reached_stays, bytes_stay}
use Rattle.disk_laws.proofs.reached.what_is_reached_stays.Goals as goal

pub returns-clause-live : goal.returns-clause-live
returns-clause-live c = reached_is_live

pub returns-clause-stays : goal.returns-clause-stays
returns-clause-stays c = reached_stays

pub returns-clause-bytes : goal.returns-clause-bytes
returns-clause-bytes c = bytes_stay
