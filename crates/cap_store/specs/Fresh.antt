-- The records of a fresh disk, which has version 1.
use Rattle.std.specs.Prelude.{List, map}
use Rattle.tsd_model.specs.declared.caps.CapPair.{CapPair}
use Rattle.tsd_model.specs.declared.records.Record.{Record}
use Rattle.tsd_model.specs.Records.{kept}

-- of each primary block the two capabilities themselves
abbrev pub fresh_records : List CapPair → List Record
fresh_records caps = map (kept 1) caps
