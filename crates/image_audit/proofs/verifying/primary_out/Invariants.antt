use Rattle.std.proofs.Common.{ℕ, ◌<◌}
use Rattle.image_audit.proofs.Common.{IsTrue, is_listed}
use Rattle.image_audit.proofs.verifying.primary_out.Given as goal

abbrev pub invariant-loop-block : goal.invariant-loop-block
invariant-loop-block l = (c : ℕ) → c < l.block → IsTrue (is_listed l.entries c)
