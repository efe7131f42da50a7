use Rattle.std.proofs.Common.{◌≡◌, ◌++◌, true, List, take}
use Rattle.std.specs.List.{list_all}
use Rattle.fs_trees.specs.Fields.{entry_names}
use Rattle.fs_trees.specs.Names.{Name, is_name}
use Rattle.chain_layout.specs.Held.{entries_in}
use Rattle.chain_reading.specs.Nexts.{least_names}
use Rattle.chain_reading.proofs.listing.put_names.Given as goal

-- the names before this position were put in
abbrev pub invariant-loop-position : goal.invariant-loop-position
invariant-loop-position l = list_all is_name (entry_names (entries_in l.cluster)) ≡ true → (ns : List Name) → l.fn.into.items ≡ least_names 64 l.after ns
    → l.into.items ≡ least_names 64 l.after (ns ++ take l.position (entry_names (entries_in l.cluster)))
