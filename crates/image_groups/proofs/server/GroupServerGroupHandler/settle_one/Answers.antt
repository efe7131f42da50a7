use Rattle.std.proofs.Common.{ap}
use Rattle.image_runs.proofs.Common.{behind}
use Rattle.image_groups.proofs.server.GroupServerGroupHandler.settle_one.Goals as goal

pub returns-in-Ok-clause-aside : goal.returns-in-Ok-clause-aside
returns-in-Ok-clause-aside g c = ap behind c.settle_one-done.ensures.size.geometry

pub returns-in-Err-clause-aside : goal.returns-in-Err-clause-aside
returns-in-Err-clause-aside g c = ap behind c.settle_one-done.ensures.size.geometry
