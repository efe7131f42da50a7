use Rattle.std.proofs.Common.{◌≡◌, ◌++◌, take, drop}
use Rattle.std.specs.Prelude.{map}
use Rattle.tsd_model.specs.Records.{upgraded_record}
use Rattle.cap_store.proofs.records.upgrade_each.Given as goal

-- the records so far are upgraded, and the others as they were
abbrev pub invariant-loop-held : goal.invariant-loop-held
invariant-loop-held l = l.records ≡ map upgraded_record (take l.held-index l.fn.records) ++ drop l.held-index l.fn.records
