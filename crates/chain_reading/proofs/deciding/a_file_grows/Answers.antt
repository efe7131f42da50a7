use Rattle.chain_reading.proofs.DecidedLaws.{the_file_grows}
use Rattle.chain_reading.proofs.deciding.a_file_grows.Goals as goal

pub returns : goal.returns
returns c = the_file_grows
