use Rattle.reach_laws.proofs.RegionLaws.{region_stays_shut_off, region_is_hidden, region_is_untouched}
use Rattle.reach_laws.proofs.region.regions_stay_apart.Goals as goal

pub returns-clause-shut_off : goal.returns-clause-shut_off
returns-clause-shut_off c = region_stays_shut_off

pub returns-clause-hidden : goal.returns-clause-hidden
returns-clause-hidden c = region_is_hidden

pub returns-clause-untouched : goal.returns-clause-untouched
returns-clause-untouched c = region_is_untouched
