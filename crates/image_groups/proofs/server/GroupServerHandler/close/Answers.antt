use Rattle.std.proofs.Common.{ap}
use Rattle.image_runs.proofs.Common.{behind}
use Rattle.image_groups.proofs.server.GroupServerHandler.close.Goals as goal

pub returns-clause-aside : goal.returns-clause-aside
returns-clause-aside g c = ap behind c.close.ensures.size.geometry
