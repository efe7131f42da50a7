use Rattle.std.proofs.Common.{◌≡◌, take}
use Rattle.std.specs.Prelude.{map, option_map, slice_set, replicate}
use Rattle.tsd_model.specs.declared.requests.Level.TheVariants as level
use Rattle.plain_disk.proofs.sessions.Sessions.without_origin.Given as goal

abbrev pub invariant-loop-holding : goal.invariant-loop-holding
invariant-loop-holding l = l.held.items ≡ map (option_map (λ held. slice_set held l.origin (replicate l.blocks level.Bare))) (take l.holding-index l.holding-items)
