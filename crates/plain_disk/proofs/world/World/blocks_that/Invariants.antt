use Rattle.std.proofs.Common.{◌≡◌}
use Rattle.std.specs.Prelude.{map, cond, not, None}
use Rattle.std.specs.List.{range_with_len}
use Rattle.tsd_model.specs.World.{contents, has_number}
use Rattle.plain_disk.proofs.world.World.blocks_that.Given as goal

abbrev pub invariant-loop-block : goal.invariant-loop-block
invariant-loop-block l = l.blocks.items ≡ map (λ b. cond (cond l.keep_listed (has_number l.listed b) (not (has_number l.listed b))) (contents l.self b) None) (range_with_len 0 l.block)
