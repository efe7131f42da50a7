use Rattle.std.proofs.Common.{◌≡◌}
use Rattle.image_audit.proofs.Common.{range_with_len}
use Rattle.image_audit.proofs.reached.primary_roots.Given as goal

abbrev pub invariant-loop-block : goal.invariant-loop-block
invariant-loop-block l = l.roots ≡ range_with_len 0 l.block
