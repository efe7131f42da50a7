use Rattle.std.proofs.Common.{◌≡◌, ◌++◌, ◌-◌, length}
use Rattle.intent_journal.proofs.Common.{Rests, Uses, patches_of, open_from, open_records, are_valid_from, has_valid_records}
use Rattle.intent_journal.proofs.replay.read_records.Given as goal

abbrev pub invariant-loop-index : goal.invariant-loop-index
invariant-loop-index g l =
    let view = g.D.Device.view in
    record {
      found : g.D.Device.told → patches_of (open_records (view l.fn.dev).reads) ≡ l.patches ++ patches_of (open_from (view l.fn.dev).reads l.index (length l.patches) (8 - l.index));
      valid : g.D.Device.told → has_valid_records (view l.fn.dev).reads ≡ are_valid_from (view l.fn.dev).reads l.index (length l.patches) (8 - l.index);
      rests : g.D.Device.told → Rests (view l.fn.dev) (view l.dev);
      uses : Uses 0 (view l.fn.dev) (view l.dev);
      faultless : (view l.dev).faults ≡ (view l.fn.dev).faults;
    }
