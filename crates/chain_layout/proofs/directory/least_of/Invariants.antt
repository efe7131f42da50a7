use Rattle.std.proofs.Common.{◌≡◌, ◌*◌, ◌-◌}
use Rattle.std.specs.Prelude.{drop}
use Rattle.fs_trees.specs.Fields.{entries, entry_names}
use Rattle.chain_layout.specs.Listed.{lesser, least_above}
use Rattle.chain_layout.proofs.directory.least_of.Given as goal

-- of the names before this one it is the least above
abbrev pub invariant-loop-position : goal.invariant-loop-position
invariant-loop-position l = least_above l.after (entry_names (entries l.count l.list)) ≡ lesser l.least (least_above l.after (entry_names (entries (l.count - l.position) (drop (32 * l.position) l.list))))
