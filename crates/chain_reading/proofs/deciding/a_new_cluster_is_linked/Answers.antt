use Rattle.chain_reading.proofs.DecidedLaws.{the_directory_grows}
use Rattle.chain_reading.proofs.deciding.a_new_cluster_is_linked.Goals as goal

pub returns : goal.returns
returns c = the_directory_grows
