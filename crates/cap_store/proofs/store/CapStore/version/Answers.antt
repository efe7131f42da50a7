use Rattle.std.proofs.Common.{subst}
use Rattle.cap_store.specs.Store.{IsTable}
use Rattle.cap_store.proofs.RecordLaws.{all_of_version}
use Rattle.cap_store.proofs.store.CapStore.version.Goals as goal

pub returns-clause-of_version : goal.returns-clause-of_version
returns-clause-of_version c = all_of_version c.args.self.now.version c.args.self.now.records (subst IsTable c.self.view_is c.self.invariant).kept
