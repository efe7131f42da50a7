use Rattle.std.proofs.Common.{◌<◌, subst}
use Rattle.std.specs.Prelude.{◌↔◌, IsTrue}
use Rattle.tsd_core.proofs.Common.{Core, owed}
use Rattle.tsd_core.proofs.disk.Core.is_owed.Goals as goal

pub returns : goal.returns
returns c = subst (λ (x : Core). IsTrue c.is_owed.result ↔ (0 < owed x.volume.tables)) c.self.view_is c.is_owed.ensures
