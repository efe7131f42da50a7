use Rattle.std.proofs.Common.{ℕ, ◌<◌}
use Rattle.image_audit.proofs.Common.{IfSome, told_by, IsGoodEntry, entry_at}
use Rattle.image_audit.proofs.verifying.first_bad.Given as goal

abbrev pub invariant-loop-block : goal.invariant-loop-block
invariant-loop-block l = (c : ℕ) → c < l.block → IfSome (entry_at l.entries c) (IsGoodEntry (told_by l.volume) l.entries c)
