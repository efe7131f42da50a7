use Rattle.std.proofs.Common.{◌≡◌, ◌*◌, ◌-◌}
use Rattle.std.specs.Prelude.{drop}
use Rattle.std.specs.List.{position_from}
use Rattle.fs_trees.specs.Fields.{entries}
use Rattle.chain_layout.specs.Listed.{has_name}
use Rattle.chain_layout.proofs.directory.position_of.Given as goal

-- no entry before this one has the name
abbrev pub invariant-loop-position : goal.invariant-loop-position
invariant-loop-position l = position_from (has_name l.name) 0 (entries l.count l.list) ≡ position_from (has_name l.name) l.position (entries (l.count - l.position) (drop (32 * l.position) l.list))
