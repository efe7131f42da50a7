use Rattle.std.proofs.Common.{ℕ, ◌<◌}
use Rattle.image_audit.proofs.Common.{IsTrue, told_by, IsClosedAt, is_listed}
use Rattle.image_audit.proofs.verifying.first_out.Given as goal

-- of the blocks so far, each that is listed leads to listed ones
abbrev pub invariant-loop-source : goal.invariant-loop-source
invariant-loop-source l = (a : ℕ) → a < l.source → IsTrue (is_listed l.entries a) → IsClosedAt (told_by l.volume) l.entries a
