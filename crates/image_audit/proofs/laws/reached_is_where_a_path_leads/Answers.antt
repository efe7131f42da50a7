use Rattle.image_audit.proofs.PathLaws.{reached_by_paths}
use Rattle.image_audit.proofs.laws.reached_is_where_a_path_leads.Goals as goal

pub returns : goal.returns
returns c = reached_by_paths
