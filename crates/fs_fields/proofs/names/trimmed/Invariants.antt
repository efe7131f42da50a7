use Rattle.std.proofs.Common.{◌≡◌, ◌≤◌, length, take}
use Rattle.fs_trees.specs.Fields.{unpadded}
use Rattle.fs_fields.proofs.names.trimmed.Given as goal

abbrev pub invariant-loop-len : goal.invariant-loop-len
invariant-loop-len l = record { within : l.len ≤ length l.field; same : unpadded (take l.len l.field) ≡ unpadded l.field }

abbrev pub decreases-loop-len : goal.decreases-loop-len
decreases-loop-len l = l.len
