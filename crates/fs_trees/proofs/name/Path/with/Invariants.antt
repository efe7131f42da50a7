use Rattle.std.proofs.Common.{◌≡◌, take}
use Rattle.fs_trees.proofs.name.Path.with.Given as goal

abbrev pub invariant-loop-step : goal.invariant-loop-step
invariant-loop-step l = l.names.items ≡ take l.step-index l.self
