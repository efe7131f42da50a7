use Rattle.std.proofs.Common.{◌≡◌, ◌++◌, take, drop}
use Rattle.chain_reading.specs.Nexts.{with_name}
use Rattle.chain_reading.proofs.listing.put_name.Given as goal

-- nothing is put in yet, and the names before this position stand below the new one
abbrev pub invariant-loop-position : goal.invariant-loop-position
invariant-loop-position l = (l.into.items ≡ l.fn.into.items) × (with_name l.name l.into.items ≡ take l.position l.into.items ++ with_name l.name (drop l.position l.into.items))
